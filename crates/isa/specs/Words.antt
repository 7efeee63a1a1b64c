-- What holds of every word: the ranges of an instruction's fields, the number of its further words, which words are unassigned and which are X.
use Rattle.std.specs.Prelude.{◌≡◌, ℕ, ◌<◌, ◌≤◌, Bool, true, false, ◌&&◌, ◌||◌, ◌==◌, nat_le}
use Rattle.isa.specs.declared.Operand.{Operand}
use Rattle.isa.specs.declared.Instruction.{Instruction}
use Rattle.isa.specs.declared.Instruction.TheVariants.{Dual, Register, Xop, Transfer, Bit, Jump, Shift, Single, Blwp, X, Immediate, Stwp, Stst, Lwpi, Limi, Control, Unassigned}
use Rattle.isa.specs.Isa.{opcode, source, decoded, further_words}

-- a mode and a register
abbrev pub General : Operand → Type 0
General o = (o.mode < 4) × (o.register < 16)

-- Modes are below 4, registers, numbers and counts below 16, displacements below 256.
abbrev pub Fields : Instruction → Type 0
Fields (Dual o s d w) = General s × General d
Fields (Register o s r) = General s × (r < 16)
Fields (Xop s n) = General s × (n < 16)
Fields (Transfer o s n) = General s × (n < 16)
Fields (Bit o d) = d < 256
Fields (Jump o d) = d < 256
Fields (Shift o r n) = (r < 16) × (n < 16)
Fields (Single o s) = General s
Fields (Blwp s) = General s
Fields (X s) = General s
Fields (Immediate o r) = r < 16
Fields (Stwp r) = r < 16
Fields (Stst r) = r < 16
Fields Lwpi = Unit {0}
Fields Limi = Unit {0}
Fields (Control o) = Unit {0}
Fields Unassigned = Unit {0}

abbrev pub FieldsInRange : Type 0
FieldsInRange = (w : ℕ) → Fields (decoded w)

-- no instruction is longer than three words
abbrev pub TwoFurtherWords : Type 0
TwoFurtherWords = (i : Instruction) → further_words i ≤ 2

unfoldable pub is_unassigned : Instruction → Bool
is_unassigned (Dual o s d w) = false
is_unassigned (Register o s r) = false
is_unassigned (Xop s n) = false
is_unassigned (Transfer o s n) = false
is_unassigned (Bit o d) = false
is_unassigned (Jump o d) = false
is_unassigned (Shift o r n) = false
is_unassigned (Single o s) = false
is_unassigned (Blwp s) = false
is_unassigned (X s) = false
is_unassigned (Immediate o r) = false
is_unassigned (Stwp r) = false
is_unassigned (Stst r) = false
is_unassigned Lwpi = false
is_unassigned Limi = false
is_unassigned (Control o) = false
is_unassigned Unassigned = true

-- whether a word is one of those from a to b
unfoldable pub within : ℕ → ℕ → ℕ → Bool
within a b w = nat_le a w && nat_le w b

-- the four ranges that no instruction has
unfoldable pub in_gaps : ℕ → Bool
in_gaps w = within 0x0000 0x01FF w || within 0x0320 0x033F w || within 0x0780 0x07FF w || within 0x0C00 0x0FFF w

abbrev pub UnassignedExactly : Type 0
UnassignedExactly = (w : ℕ) → is_unassigned (decoded w) ≡ in_gaps w

unfoldable pub is_x : Instruction → Bool
is_x (Dual o s d w) = false
is_x (Register o s r) = false
is_x (Xop s n) = false
is_x (Transfer o s n) = false
is_x (Bit o d) = false
is_x (Jump o d) = false
is_x (Shift o r n) = false
is_x (Single o s) = false
is_x (Blwp s) = false
is_x (X s) = true
is_x (Immediate o r) = false
is_x (Stwp r) = false
is_x (Stst r) = false
is_x Lwpi = false
is_x Limi = false
is_x (Control o) = false
is_x Unassigned = false

-- X has the code 0480, and its operand in the low six bits
abbrev pub XExactly : Type 0
XExactly = (w : ℕ) → is_x (decoded w) ≡ (opcode 0x40 w == 0x0480)

abbrev pub XOperand : Type 0
XOperand = (w : ℕ) → is_x (decoded w) ≡ true → decoded w ≡ X (source w)
