-- `page` meets its contract: the part of memory goes between the number and zeros.
use Rattle.std.proofs.Common.{◌≡◌, ℕ, suc, ◌+◌, ◌-◌, ◌*◌, min, List, ◌++◌, length, take, drop, replicate, refl, sym, ap, ◌∙◌, add-one, arith}
use mathlib.Core.Path.{ap₂}
use mathlib.Core.List.{append_assoc}
use lib.ListN.{length-take, length-drop}
use borrow.Rule.Slice.PartMut.{put_mid}
use Rattle.machine.specs.declared.State.{State}
use Rattle.image_blocks.specs.Image.{padded, content, word_bytes}
use Rattle.image_blocks.specs.Blocks.{put_word, unchecked}
use Rattle.image_blocks.proofs.Parts.{page_content}
use Rattle.image_blocks.proofs.page.Goals as goal

-- what is left of a block of zeros after its number and the n bytes of its content are put in
pasted :
    (s : State) (m : List ℕ) (i n : ℕ) (b c : List ℕ) → length m ≡ 16384 → min (508 * (i + 1)) 16384 - 508 * i ≡ n
    → length (take n (drop (508 * i) m)) ≡ n
    → drop n (drop 2 (put_word (replicate 512 0) 0 (suc i))) ≡ drop n (replicate 508 0) ++ word_bytes 0
    → b ≡ put_word (replicate 512 0) 0 (i + 1)
    → c ≡ take n (drop (508 * i) m)
    → put_mid 2 n b c ≡ unchecked s m (suc i)
unfolding unchecked content put_word
pasted s m i n b c h t k z e f =
    let part = take n (drop (508 * i) m) in
    let rest : part ++ drop n (replicate 508 0) ≡ padded 508 (take 508 (drop (508 * i) m)) = rw (t, k) at (page_content m i h) in
    ap₂ (put_mid 2 n) (e ∙ ap (put_word (replicate 512 0) 0) (add-one i)) f
    ∙ ap (λ (l : List ℕ). word_bytes (suc i) ++ (part ++ l)) z
    ∙ ap (λ (l : List ℕ). word_bytes (suc i) ++ l) (sym (append_assoc part (drop n (replicate 508 0)) (word_bytes 0)))
    ∙ ap (λ (l : List ℕ). word_bytes (suc i) ++ (l ++ word_bytes 0)) rest

pub returns-then-i-lt-LAST : goal.returns-then-i-lt-LAST
unfolding put_word
returns-then-i-lt-LAST c s =
    let a = c.args in
    let long : length (take 508 (drop (508 * a.i) a.lent.now)) ≡ 508 = rw (length-take 508 (drop (508 * a.i) a.lent.now), length-drop (508 * a.i) a.lent.now) (omega arith) in
    pasted s a.lent.now a.i 508 _ _ (omega arith) (omega arith) long refl c.put_word.ensures (c.copy_from_slice.ensures.after ∙ ap (λ (n : ℕ). take n (drop (508 * a.i) a.lent.now)) (let e : 508 * a.i + 508 - 508 * a.i ≡ 508 = omega arith in e))

pub returns-else-i-lt-LAST : goal.returns-else-i-lt-LAST
unfolding put_word
returns-else-i-lt-LAST c s =
    let a = c.args in
    let last : a.i ≡ 32 = omega arith in
    let long : length (take 128 (drop (508 * a.i) a.lent.now)) ≡ 128 = rw (length-take 128 (drop (508 * a.i) a.lent.now), length-drop (508 * a.i) a.lent.now) (omega arith) in
    pasted s a.lent.now a.i 128 _ _ (omega arith) (omega arith) long refl c.put_word.ensures
    (c.copy_from_slice-else-i-lt-LAST.ensures.after ∙ ap (λ (n : ℕ). take 128 (drop n a.lent.now)) (let e : 16256 ≡ 508 * a.i = omega arith in e))
