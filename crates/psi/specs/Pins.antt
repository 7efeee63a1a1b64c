-- Pin records, levels at the pins, requests and their code.
use Rattle.std.specs.Prelude.{ℕ, zero, suc, ◌+◌, ◌-◌, ◌/◌, ◌%◌, ◌^◌, Bool, not, ◌&&◌, eqb, ltb, if◌then◌else◌}
use Rattle.bits.specs.Bits.{bit}
use Rattle.psi.specs.declared.Psi.{Psi}
use Rattle.psi.specs.declared.Record.{Record}

-- A record: 22 levels, then 10 bits of cycles.
unfoldable pub parted : ℕ → Record
parted r = record { levels = r % 2 ^ 22; cycles = r / 2 ^ 22 }

-- the weight, in a record, of port p's pin: P0 to P6 have their own, P7 to P15 are INT15 to INT7
unfoldable pub port_weight : ℕ → ℕ
port_weight p = if ltb p 7 then 15 + p else (21 - p)

-- the level at port p's pin: an output drives its latch, an input shows the record
unfoldable pub port_level : Psi → ℕ → ℕ → Bool
port_level s v p = if bit p s.direction then bit p s.latch else bit (port_weight p) v

-- the level of pin INTn, for n from 1 to 15; from 7 on it is the pin of port 22 - n
unfoldable pub request_level : Psi → ℕ → ℕ → Bool
request_level s v n = if ltb n 7 then bit (n - 1) v else port_level s v (22 - n)

-- Requests are active low. A clock with a load takes over request 3: its pending flag stands for the pin.
unfoldable pub active : Psi → ℕ → ℕ → Bool
active s v n =
    if (eqb n 3 && not (eqb s.load 0))
    then eqb s.pending 1
    else not (request_level s v n)

-- request n's mask bit is set and the request is active
unfoldable pub requested : Psi → ℕ → ℕ → Bool
requested s v n = bit n s.mask && active s v n

-- the lowest of the k requests from n on that is enabled and active, or 0
unfoldable pub lowest : Psi → ℕ → ℕ → ℕ → ℕ
lowest s v zero n = 0
lowest s v (suc k) n = if requested s v n then n else lowest s v k (n + 1)

-- the lowest request from 1 to 15 that is enabled and active, or 0
unfoldable pub request : Psi → ℕ → ℕ
request s v = lowest s v 15 1

-- what the CPU sees of it on its three lines; all ones where there is no request
unfoldable pub code : Psi → ℕ → ℕ
code s v = if eqb (request s v) 0 then 7 else (request s v % 8)
