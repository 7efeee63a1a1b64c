-- CRU bits: their numbers, and what reading and writing the PSI's bits does.
use Rattle.std.specs.Prelude.{ℕ, ◌+◌, ◌-◌, ◌/◌, ◌%◌, Bool, true, not, eqb, ltb, if◌then◌else◌}
use Rattle.bits.specs.Bits.{bit, put, signed_byte}
use Rattle.psi.specs.declared.Psi.{Psi}
use Rattle.psi.specs.declared.CruBase.{CruBase}
use Rattle.psi.specs.declared.CruBit.{CruBit}
use Rattle.psi.specs.Psi.{bits, control, refreshed, with_mask, with_ports, with_pending, with_load}
use Rattle.psi.specs.Pins.{port_level, request_level, request}

-- The bit number wraps here.
abbrev pub bit_numbers : ℕ
bit_numbers = 2048

-- the bit that a number in R12 points at: R12 counts in halves of a bit
unfoldable pub first_bit : CruBase → CruBit
first_bit b = record { 0 = b.0 / 2 % bit_numbers }

-- the bit that lies d bits further
unfoldable pub beyond : CruBit → ℕ → CruBit
beyond b d = record { 0 = (b.0 + d) % bit_numbers }

-- the bit that lies a signed displacement of 8 bits away, for SBO, SBZ and TB
unfoldable pub displaced : CruBit → ℕ → CruBit
displaced b d = beyond b (signed_byte bit_numbers d)

-- Bits 1 to 15 with control 1: at 15 whether any enabled request is active; below it, the read register's bits.
unfoldable pub timed_value : Psi → ℕ → ℕ → Bool
timed_value s v n = if eqb n 15 then not (eqb (request s v) 0) else bit (n - 1) s.reading

-- what bit n reads, by the table's rows
unfoldable pub sensed_value : Psi → ℕ → ℕ → Bool
sensed_value s v n =
    if eqb n 0 then control s
    else if ltb n 16 then (if control s then timed_value s v n else request_level s v n)
    else if ltb n bits then port_level s v (n - 16)
    else true

-- Document 02, Q-4: the PSI's select input S0 is wired to one line of the address bus, that of weight 32. A CRU bit's number is half its
-- address, so there the line has weight 16. As numbers of bits:
abbrev pub memory_select : ℕ
memory_select = 5

abbrev pub cru_select : ℕ
cru_select = 4

-- While S0 is 1 the PSI is not in clock mode: the read register takes the decrementer's value. Control stays as it is.
unfoldable pub selected : Bool → Psi → Psi
selected s0 p = if s0 then refreshed p else p

-- the PSI after an access to memory at a byte address, as that is before it is taken modulo the memory's size; its lowest bit does not
-- matter, so neither does the width
unfoldable pub addressed : ℕ → Psi → Psi
addressed a = selected (bit memory_select a)

-- what reading a CRU bit gives: its value, and the PSI after the access
pub record Sensed : Type 0 where
  pub value : Bool
  pub psi : Psi

-- Any access to a bit whose number has weight 16, inside the PSI (16 to 31) or outside it, refreshes the read register.
unfoldable pub sensed : Psi → ℕ → CruBit → Sensed
sensed s v b =
    record {
      value = sensed_value s v b.0;
      psi = selected (bit cru_select b.0) s;
    }

-- Bit 0 is the control bit. Control becoming 0 refreshes the read register.
unfoldable pub controlled : Psi → Bool → Psi
controlled s x = if x then with_mask (put 0 x s.mask) s else refreshed (with_mask (put 0 x s.mask) s)

-- Bits 1 to 15 with control 0: mask n. The mask of request 3 also clears pending.
unfoldable pub masked : Psi → ℕ → Bool → Psi
masked s n x = if eqb n 3 then with_pending 0 (with_mask (put n x s.mask) s) else with_mask (put n x s.mask) s

-- Bits 1 to 15 with control 1: at 15 a 0 makes all ports inputs and all latches 0, and a 1 does nothing; below it, a load bit.
unfoldable pub timed : Psi → ℕ → Bool → Psi
timed s n x = if eqb n 15 then (if x then s else with_ports 0 0 s) else with_load (put (n - 1) x s.load) s

-- Bits 16 to 31: the latch of port k takes the value and the port becomes an output.
unfoldable pub latched : Psi → ℕ → Bool → Psi
latched s k x = with_ports (put k true s.direction) (put k x s.latch) s

-- what is written to bit n, by the table's rows; outside the PSI nothing
unfoldable pub written : Psi → ℕ → Bool → Psi
written s n x =
    if eqb n 0 then controlled s x
    else if ltb n 16 then (if control s then timed s n x else masked s n x)
    else if ltb n bits then latched s (n - 16) x
    else s

-- A write is an access too: with weight 16 in the number it refreshes the read register.
unfoldable pub driven : Psi → CruBit → Bool → Psi
driven s b x = selected (bit cru_select b.0) (written s b.0 x)
