-- What the clock and the accesses keep: well-formedness, and that every field is a word of 16 bits.
use Rattle.std.specs.Prelude.{ℕ, ◌^◌, ◌<◌, ◌≡◌, Bool, true}
use Rattle.psi.specs.declared.Psi.{Psi}
use Rattle.psi.specs.declared.CruBit.{CruBit}
use Rattle.psi.specs.Psi.{blank}
use Rattle.psi.specs.Clock.{advanced}
use Rattle.psi.specs.Cru.{addressed, sensed, driven}
use Rattle.psi.specs.Formed.{well_formed}

-- the fields are words of 16 bits
pub record Fits16 (p : Psi) : Type 0 where
  pub mask : p.mask < 2 ^ 16
  pub direction : p.direction < 2 ^ 16
  pub latch : p.latch < 2 ^ 16
  pub load : p.load < 2 ^ 16
  pub decrementer : p.decrementer < 2 ^ 16
  pub reading : p.reading < 2 ^ 16
  pub phase : p.phase < 2 ^ 16
  pub pending : p.pending < 2 ^ 16

-- a property of the PSI that the blank state has and that any cycles, any access to memory and any read or write of a CRU bit keep
pub record Kept (P : Psi → Type 0) : Type 0 where
  pub start : P blank
  pub cycles : (n : ℕ) {p : Psi} → P p → P (advanced n p)
  pub address : (a : ℕ) {p : Psi} → P p → P (addressed a p)
  pub read : (v : ℕ) (b : CruBit) {p : Psi} → P p → P (sensed p v b).psi
  pub write : (b : CruBit) (x : Bool) {p : Psi} → P p → P (driven p b x)

abbrev pub KeptFormed : Type 0
KeptFormed = Kept (λ p. well_formed p ≡ true)

abbrev pub KeptFits : Type 0
KeptFits = Kept Fits16
