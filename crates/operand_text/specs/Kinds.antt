-- An operand of each kind as text, and the operands of a line.
use Rattle.std.specs.Prelude.{ℕ, ◌-◌, List, [], ◌++◌, eqb, ltb, if◌then◌else◌}
use Rattle.isa.specs.declared.Operand.{Operand}
use Rattle.text.specs.Texts.{ascii, hex, decimal}
use Rattle.notation.specs.declared.Written.{Written}
use Rattle.notation.specs.declared.Written.TheVariants.{General, Register, Count, XopNumber, CruDisplacement, Target, Word}
use Rattle.notation.specs.declared.Operands.{Operands}
use Rattle.notation.specs.declared.Operands.TheVariants.{None, One, Two}

-- R0 to R15
unfoldable pub register : ℕ → List ℕ
register r = ascii "R" ++ decimal r

-- a word or an address: `>` and four digits
unfoldable pub word : ℕ → List ℕ
word w = ascii ">" ++ hex w

-- an index register in brackets; register 0 is none
unfoldable pub index : ℕ → List ℕ
index r = if eqb r 0 then [] else (ascii "(" ++ register r ++ ascii ")")

-- a general operand by its mode (document 002, 5.5.1): Rn, *Rn, @>word or @>word(Rn), *Rn+
unfoldable pub general : Operand → ℕ → List ℕ
general o w =
    if eqb o.mode 0 then register o.register
    else if eqb o.mode 1 then (ascii "*" ++ register o.register)
    else if eqb o.mode 2 then (ascii "@" ++ word w ++ index o.register)
    else (ascii "*" ++ register o.register ++ ascii "+")

-- a signed byte in decimal: from 80h on it is 100h less; no sign where it is not negative
unfoldable pub displacement : ℕ → List ℕ
displacement d = if ltb d 0x80 then decimal d else (ascii "-" ++ decimal (0x100 - d))

-- an operand of each kind: small numbers in decimal, a count just as it is coded; words, and where a jump goes, in hexadecimal
unfoldable pub written : Written → List ℕ
written (General o w) = general o w
written (Register r) = register r
written (Count n) = decimal n
written (XopNumber n) = decimal n
written (CruDisplacement d) = displacement d
written (Target a) = word a
written (Word w) = word w

-- what follows the mnemonic: a space before the first operand, a comma before the second
unfoldable pub operands : Operands → List ℕ
operands None = []
operands (One x) = ascii " " ++ written x
operands (Two x y) = ascii " " ++ written x ++ ascii "," ++ written y
