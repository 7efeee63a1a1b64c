-- A quick test for no request, all 15 at once, as the code makes it. Nothing of this enters the definition of a request: that there is
-- none where the test succeeds is a theorem. Request n stands at the weight 2^(n-1), as its pin does in a record.
use Rattle.std.specs.Prelude.{ℕ, ◌-◌, ◌*◌, ◌/◌, ◌%◌, ◌^◌, ◌≡◌, Bool, true, eqb, ltb, if◌then◌else◌}
use Rattle.std.specs.Int.Bits.{bit_and}
use Rattle.psi.specs.declared.Psi.{Psi}
use Rattle.psi.specs.Pins.{request}

-- the requests whose masks are set
abbrev pub enabled : Psi → ℕ
enabled s = s.mask / 2

-- INT1 to INT6 share their pins with no port
abbrev pub unshared : ℕ
unshared = 6

-- The pins that are surely high: those that the record shows high, but of the shared ones only where P7 to P15 are inputs.
unfoldable pub high : Psi → ℕ → ℕ
high s v = if ltb s.direction 0x80 then v else (v % 2 ^ unshared)

-- request 3 where the clock is pending
abbrev pub clock_request : Psi → ℕ
clock_request s = s.pending * 4

-- the requests that are surely inactive
unfoldable pub inactive : Psi → ℕ → ℕ
inactive s v = high s v - bit_and (high s v) (clock_request s)

-- whether all requests that are enabled are surely inactive
unfoldable pub quiet : Psi → ℕ → Bool
quiet s v = eqb (bit_and (enabled s) (inactive s v)) (enabled s)

-- then there is no request
abbrev pub QuietMeaning : Type 0
QuietMeaning = (s : Psi) (v : ℕ) → quiet s v ≡ true → request s v ≡ 0
