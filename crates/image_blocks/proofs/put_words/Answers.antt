-- `put_words` meets its contract: the words before `n` are put in.
use Rattle.std.proofs.Common.{◌≡◌, ℕ, suc, ◌+◌, ◌*◌, ◌<◌, List, [], ◌∷◌, ◌++◌, length, get_or, take, refl, ◌∙◌, length-take-le, take_all, arith}
use Rattle.std.proofs.Math.Seq.{take-suc}
use Rattle.image_blocks.specs.Blocks.{put_word, put_words}
use Rattle.image_blocks.proofs.put_words.Goals as goal

last : (b : List ℕ) (i : ℕ) (xs : List ℕ) (x : ℕ) → put_words b i (xs ++ x ∷ []) ≡ put_word (put_words b i xs) (2 * (i + length xs) + 2) x
unfolding put_words
last b i [] x = rw (let e : i + 0 ≡ i = omega arith in e)
last b i (y ∷ xs) x =
    rw (let e : i + suc (length xs) ≡ i + 1 + length xs = omega arith in e) (last (put_word b (2 * i + 2) y) (i + 1) xs x)

next : (b xs : List ℕ) (n : ℕ) → n < length xs → put_words b 0 (take (n + 1) xs) ≡ put_word (put_words b 0 (take n xs)) (2 * n + 2) (get_or xs n 0)
next b xs n h =
    rw (let e : n + 1 ≡ suc n = omega arith in e, take-suc xs n 0 h)
    (last b 0 (take n xs) (get_or xs n 0) ∙ rw (length-take-le n xs (omega arith), let e : 0 + n ≡ n = omega arith in e))

pub loop-n-init : goal.loop-n-init
unfolding put_words
loop-n-init c = refl

pub loop-n-preserved : goal.loop-n-preserved
loop-n-preserved c = rw (c.put_word.ensures, next c.args.block.now c.args.words.now c.loop-n.n (omega arith), ← c.loop-n.invariant)

pub returns : goal.returns
returns c = c.loop-n.invariant ∙ rw (take_all c.loop-n.n c.args.words.now (omega arith))
