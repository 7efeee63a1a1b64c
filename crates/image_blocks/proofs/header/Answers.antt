-- `header` meets its contract: fifteen fields put into 512 zeros, which computes to the definition's bytes;
-- a word's bytes are those of its number modulo 65536.
use Rattle.std.proofs.Common.{◌≡◌, ℕ, ◌/◌, ◌%◌, List, replicate, refl, arith}
use Rattle.machine.specs.declared.State.{State}
use Rattle.image_blocks.specs.Image.{block_size, format, edition, content, padded, words_bytes, fields}
use Rattle.image_blocks.specs.Blocks.{put_word, put_words, header_words, unchecked}
use Rattle.image_blocks.proofs.header.Goals as goal

-- the fields put in one after the other are the definition's bytes
filled : (s : State) (m : List ℕ) →
    put_word (put_word (put_word (put_word (put_word (put_word (put_word (put_word (put_word (put_word (put_word (put_word (put_word (put_word (put_word (replicate block_size 0) 2 format) 4 edition) 6 s.wp) 8 s.pc) 10 s.st) 12 s.flags) 14 s.psi.mask) 16 s.psi.direction) 18 s.psi.latch) 20 s.psi.load) 22 s.psi.decrementer) 24 s.psi.reading) 26 s.psi.phase) 28 s.psi.pending) 30 s.rom ≡ unchecked s m 0
unfolding put_word unchecked content padded words_bytes fields
filled s m = refl

put_reduced : (b : List ℕ) (at x : ℕ) → put_word b at (x % 65536) ≡ put_word b at x
unfolding put_word
put_reduced b at x =
    rw (let e : x % 65536 / 256 % 256 ≡ x / 256 % 256 = omega arith in e, let e : x % 65536 % 256 ≡ x % 256 = omega arith in e)

pub returns : goal.returns
unfolding put_words header_words
returns c m = rw (c.put_words.ensures, c.header_words.ensures, put_reduced) (filled c.args.state m)
