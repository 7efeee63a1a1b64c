-- The PSI's part of a well-formed state.
use Rattle.std.specs.Prelude.{Bool, ◌&&◌, ◌||◌, eqb, leb, ltb}
use Rattle.bits.specs.Logic.{without}
use Rattle.psi.specs.declared.Psi.{Psi}
use Rattle.psi.specs.Psi.{tick_cycles, clock_largest, control}

-- The three clock numbers are at most 16383, the phase at most 63, pending at most 1; latches only on outputs; the read
-- register is the decrementer where control is 0.
unfoldable pub well_formed : Psi → Bool
well_formed p =
    leb p.load clock_largest
    && (leb p.decrementer clock_largest
    && (leb p.reading clock_largest
    && (ltb p.phase tick_cycles
    && (leb p.pending 1
    && (eqb (without p.latch p.direction) 0
    && (control p || eqb p.reading p.decrementer))))))
