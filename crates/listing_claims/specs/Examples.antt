-- Lines written out, and whether the definitions give them: each form, each kind of operand, and the edges; and the longest line.
use Rattle.std.specs.Prelude.{ℕ, suc, ◌≡◌, Bool, true, false, ◌&&◌, List, [], ◌∷◌, T, eqb, length}
use Prim.Native.String.{String}
use Rattle.machine.specs.Cases.{word, poked, zeros, same_bytes}
use Rattle.machine.specs.Rules as Rules
use Rattle.text.specs.Texts as Texts
use Rattle.notation.specs.declared.Words.{Words}
use Rattle.notation.specs.Forms as Forms
use Rattle.mnemonics.specs.Spelling as Spelling
use Rattle.operand_text.specs.Kinds as Kinds
use Rattle.isa.specs.Isa as Isa
use Rattle.listing.specs.Listing as Listing

-- three words from an address on, how many of them the instruction takes, and its line
pub record Row : Type 0 where
  pub address : ℕ
  pub words : Words
  pub count : ℕ
  pub line : String

abbrev pub three : ℕ → ℕ → ℕ → Words
three w f g = record { first = w; second = f; third = g }

abbrev pub row : ℕ → ℕ → ℕ → ℕ → ℕ → String → Row
row a w f g n t = record { address = a; words = three w f g; count = n; line = t }

unfoldable pub holds : Row → Bool
holds r =
    same_bytes (Listing.line_of r.address r.words) (Texts.ascii r.line)
    && eqb (suc (Isa.further_words (Isa.decoded r.words.first))) r.count

-- computed from the definitions, which the lines below open
unfoldable pub texts : Unit {0}
unfolding Texts.ascii Texts.glyph Texts.hex Texts.decimal_in Texts.decimal
texts = tt

unfoldable pub names : Unit {0}
unfolding Spelling.dual_name Spelling.register_name Spelling.transfer_name Spelling.bit_name Spelling.jump_name Spelling.shift_name
names = tt

unfoldable pub more_names : Unit {0}
unfolding Spelling.single_name Spelling.immediate_name Spelling.control_name Spelling.name
more_names = tt

unfoldable pub kinds : Unit {0}
unfolding Kinds.register Kinds.word Kinds.index Kinds.general Kinds.displacement Kinds.written Kinds.operands
kinds = tt

unfoldable pub lines : Unit {0}
unfolding Listing.spaced Listing.used Listing.statement Listing.line Listing.words_at Listing.line_of Listing.line_at Forms.general Forms.behind Forms.notation_of
lines = tt

unfoldable pub isa : Unit {0}
unfolding Rules.bits Rules.memory Rules.operations Rules.more_operations Rules.words Isa.operand_words Isa.further_words
isa = tt

unfoldable pub every : List Row → Bool
unfolding texts names more_names kinds lines isa same_bytes holds
every [] = true
every (r ∷ rs) = elim (holds r) [ true ↦ every rs | false ↦ false ]

-- general operands: document 02's line; the longest line; a further word of the destination alone; each mode
abbrev pub general_rows : List Row
general_rows =
    row 0x0100 0xC820 0x0200 0x0302 3 "0100 C820 0200 0302 MOV @>0200,@>0302"
    ∷ row 0x0100 0xDBEA 0x0200 0x0302 3 "0100 DBEA 0200 0302 MOVB @>0200(R10),@>0302(R15)"
    ∷ row 0x0100 0xC801 0x0200 0x0302 2 "0100 C801 0200 MOV R1,@>0200"
    ∷ row 0x0100 0x4C72 0x0200 0x0302 1 "0100 4C72 SZC *R2+,*R1+"
    ∷ row 0x0100 0xB0DF 0x0200 0x0302 1 "0100 B0DF AB *R15,R3"
    ∷ row 0x0100 0x046E 0x0200 0x0302 2 "0100 046E 0200 B @>0200(R14)"
    ∷ row 0x0100 0x045B 0x0200 0x0302 1 "0100 045B B *R11"
    ∷ row 0x0100 0x0420 0xFFFC 0x0302 2 "0100 0420 FFFC BLWP @>FFFC"
    ∷ row 0x0100 0x0485 0x0200 0x0302 1 "0100 0485 X R5"
    ∷ row 0x0100 0x04A0 0x0200 0x0302 2 "0100 04A0 0200 X @>0200"
    ∷ []

-- registers, counts as coded, XOP numbers
abbrev pub number_rows : List Row
number_rows =
    row 0x0100 0x20B8 0x0200 0x0302 1 "0100 20B8 COC *R8+,R2"
    ∷ row 0x0100 0x3E60 0x0200 0x0302 2 "0100 3E60 0200 DIV @>0200,R9"
    ∷ row 0x0100 0x2D27 0x0200 0x0302 2 "0100 2D27 0200 XOP @>0200(R7),4"
    ∷ row 0x0100 0x300C 0x0200 0x0302 1 "0100 300C LDCR R12,0"
    ∷ row 0x0100 0x37D1 0x0200 0x0302 1 "0100 37D1 STCR *R1,15"
    ∷ row 0x0100 0x0800 0x0200 0x0302 1 "0100 0800 SRA R0,0"
    ∷ row 0x0100 0x0BFF 0x0200 0x0302 1 "0100 0BFF SRC R15,15"
    ∷ row 0x0100 0x02AA 0x0200 0x0302 1 "0100 02AA STWP R10"
    ∷ row 0x0100 0x02CE 0x0200 0x0302 1 "0100 02CE STST R14"
    ∷ []

-- signed displacements; targets ahead, back, and over either end of the addresses
abbrev pub displacement_rows : List Row
displacement_rows =
    row 0x0100 0x1D7F 0x0200 0x0302 1 "0100 1D7F SBO 127"
    ∷ row 0x0100 0x1E80 0x0200 0x0302 1 "0100 1E80 SBZ -128"
    ∷ row 0x0100 0x1FFF 0x0200 0x0302 1 "0100 1FFF TB -1"
    ∷ row 0x0100 0x1F00 0x0200 0x0302 1 "0100 1F00 TB 0"
    ∷ row 0x0100 0x1000 0x0200 0x0302 1 "0100 1000 JMP >0102"
    ∷ row 0x0100 0x16FF 0x0200 0x0302 1 "0100 16FF JNE >0100"
    ∷ row 0x0000 0x1A80 0x0200 0x0302 1 "0000 1A80 JL >FF02"
    ∷ row 0xFFFE 0x1C7F 0x0200 0x0302 1 "FFFE 1C7F JOP >00FE"
    ∷ []

-- immediate words, forms with no operand, words that are no instruction; bits that do not matter
abbrev pub word_rows : List Row
word_rows =
    row 0x0100 0x0201 0x7FFF 0x0302 2 "0100 0201 7FFF LI R1,>7FFF"
    ∷ row 0x0100 0x029F 0xABCD 0x0302 2 "0100 029F ABCD CI R15,>ABCD"
    ∷ row 0x0100 0x02E0 0x0300 0x0302 2 "0100 02E0 0300 LWPI >0300"
    ∷ row 0x0100 0x0300 0x0002 0x0302 2 "0100 0300 0002 LIMI >0002"
    ∷ row 0x0100 0x0380 0x0200 0x0302 1 "0100 0380 RTWP"
    ∷ row 0x0100 0x035F 0x0200 0x0302 1 "0100 035F IDLE"
    ∷ row 0x0100 0x01FF 0x0200 0x0302 1 "0100 01FF DATA >01FF"
    ∷ row 0x0100 0x0C00 0x0200 0x0302 1 "0100 0C00 DATA >0C00"
    ∷ []

abbrev pub ExamplesHold : Type 0
ExamplesHold = T (every general_rows && (every number_rows && (every displacement_rows && every word_rows)))

-- a memory whose last word and first two are an instruction: the words go round at its end, the addresses at 65536
abbrev pub round_the_end : List ℕ
round_the_end = poked (word 0x3FFE 0xC820 ∷ word 0x0000 0x0200 ∷ word 0x0002 0x0302 ∷ []) zeros

-- from an odd address it is the line of the even one below; all 16 bits are shown
unfoldable pub round_holds : Bool
unfolding texts names more_names kinds lines isa same_bytes poked
round_holds =
    same_bytes (Listing.line_at round_the_end 0x3FFF) (Texts.ascii "3FFE C820 0200 0302 MOV @>0200,@>0302")
    && same_bytes (Listing.line_at round_the_end 0xFFFE) (Texts.ascii "FFFE C820 0200 0302 MOV @>0200,@>0302")

abbrev pub RoundTheEnd : Type 0
RoundTheEnd = T round_holds

-- The second of the general rows is the longest that there is: a mnemonic of four letters, two indexed operands, registers of two digits.
abbrev pub LongestLine : Type 0
LongestLine = length (Listing.line_of 0x0100 (three 0xDBEA 0x0200 0x0302)) ≡ Listing.least_buffer
