-- Registers in memory, and the addresses of general operands. Addresses wrap at 65536.
use Rattle.std.specs.Prelude.{ℕ, ◌+◌, ◌*◌, ◌%◌, ◌==◌, nat_eq, if◌then◌else◌}
use Rattle.memory.specs.declared.Width.{Width}
use Rattle.memory.specs.declared.Width.TheVariants.{Word}
use Rattle.memory.specs.Memory.{bytes}
use Rattle.isa.specs.declared.Operand.{Operand}
use Rattle.machine.specs.Micro.{Micro, done, ◌>>=◌, ◌>>◌, registers, fetched, load, store}

-- Rn is the word at WP + 2n.
abbrev pub register_at : ℕ → ℕ → ℕ
register_at wp n = (wp + 2 * n) % 65536

-- a register's value
unfoldable pub register : ℕ → Micro ℕ
register n = registers >>= λ r. load Word (register_at r.wp n)

-- a value put in a register
unfoldable pub set_register : ℕ → ℕ → Micro (Unit {0})
set_register n x = registers >>= λ r. store Word (register_at r.wp n) x

-- @address and @address(Rn): a further word, plus the register where that is not R0
unfoldable pub indexed : ℕ → Micro ℕ
indexed n = do
  base ← fetched
  index ← (if nat_eq n 0 then done 0 else register n)
  done ((base + index) % 65536)

-- *Rn+: the address in a register; then the increment is stored, 1 for byte operands, else 2.
unfoldable pub stepped : Width → ℕ → Micro ℕ
stepped w n = do
  a ← register n
  set_register n ((a + bytes w) % 65536)
  done a

-- The address of a general operand, by its mode: 0 the register itself (Rn), 1 the address in it (*Rn), 2 indexed, 3 stepped.
unfoldable pub operand : Width → Operand → Micro ℕ
operand w o =
    if o.mode == 0 then (registers >>= λ r. done (register_at r.wp o.register))
    else if o.mode == 1 then register o.register
    else if o.mode == 2 then indexed o.register
    else stepped w o.register
