-- Each instruction in the assembler's notation, as data: a mnemonic and its operands in the order in which they are written.
use Rattle.std.specs.Prelude.{ℕ, ◌+◌, ◌%◌, ◌==◌, nat_eq, if◌then◌else◌}
use Rattle.isa.specs.declared.Operand.{Operand}
use Rattle.isa.specs.declared.Instruction.{Instruction}
use Rattle.isa.specs.declared.Instruction.TheVariants as isa
use Rattle.isa.specs.Isa.{operand_words, target}
use Rattle.notation.specs.declared.Mnemonic.{Mnemonic}
use Rattle.notation.specs.declared.Mnemonic.TheVariants as mnemonic
use Rattle.notation.specs.declared.Written.{Written}
use Rattle.notation.specs.declared.Written.TheVariants.{General, Register, Count, XopNumber, CruDisplacement, Target, Word}
use Rattle.notation.specs.declared.Operands.TheVariants.{None, One, Two}
use Rattle.notation.specs.declared.Notation.{Notation}
use Rattle.notation.specs.declared.Words.{Words}

-- a mnemonic with no operand, with one and with two
abbrev pub alone : Mnemonic → Notation
alone m = record { mnemonic = m; operands = None }

abbrev pub with_one : Mnemonic → Written → Notation
with_one m x = record { mnemonic = m; operands = One x }

abbrev pub with_two : Mnemonic → Written → Written → Notation
with_two m x y = record { mnemonic = m; operands = Two x y }

-- a general operand; `next` is the word that stands where its further word would be
unfoldable pub general : Operand → ℕ → Written
general o next = General o (if nat_eq (operand_words o) 1 then next else 0)

-- the word that stands where a destination's further word would be: after the source's, if that has one
unfoldable pub behind : Operand → Words → ℕ
behind source ws = if operand_words source == 1 then ws.third else ws.second

-- An instruction at an address, with the three words from there on, form by form, its operands in the assembler's order. A jump names
-- its target, a CRU displacement is a byte, the further words are the operands' or the immediate one; a word that is no instruction
-- is data.
unfoldable pub notation_of : ℕ → Words → Instruction → Notation
notation_of a ws (isa.Dual op s d w) = with_two (mnemonic.Dual op w) (general s ws.second) (general d (behind s ws))
notation_of a ws (isa.Register op s r) = with_two (mnemonic.Register op) (general s ws.second) (Register r)
notation_of a ws (isa.Xop s n) = with_two mnemonic.Xop (general s ws.second) (XopNumber n)
notation_of a ws (isa.Transfer op o n) = with_two (mnemonic.Transfer op) (general o ws.second) (Count n)
notation_of a ws (isa.Bit op d) = with_one (mnemonic.Bit op) (CruDisplacement (d % 256))
notation_of a ws (isa.Jump op d) = with_one (mnemonic.Jump op) (Target (target ((a + 2) % 65536) d))
notation_of a ws (isa.Shift op r n) = with_two (mnemonic.Shift op) (Register r) (Count n)
notation_of a ws (isa.Single op o) = with_one (mnemonic.Single op) (general o ws.second)
notation_of a ws (isa.Blwp o) = with_one mnemonic.Blwp (general o ws.second)
notation_of a ws (isa.X o) = with_one mnemonic.X (general o ws.second)
notation_of a ws (isa.Immediate op r) = with_two (mnemonic.Immediate op) (Register r) (Word ws.second)
notation_of a ws (isa.Stwp r) = with_one mnemonic.Stwp (Register r)
notation_of a ws (isa.Stst r) = with_one mnemonic.Stst (Register r)
notation_of a ws isa.Lwpi = with_one mnemonic.Lwpi (Word ws.second)
notation_of a ws isa.Limi = with_one mnemonic.Limi (Word ws.second)
notation_of a ws (isa.Control op) = alone (mnemonic.Control op)
notation_of a ws isa.Unassigned = with_one mnemonic.Data (Word ws.first)
