-- A vector may be taken modulo 65536: its first word lies at the same place of memory, the PSI sees the same line of its address, and
-- its second word's address wraps there.
use Rattle.std.proofs.Common.{◌≡◌, ℕ, ◌/◌, ◌%◌, ◌^◌, sym, arith}
use native.Mathlib.Nat.{mod-add-mod}
use Rattle.memory.specs.declared.Width.{Width}
use Rattle.memory.specs.declared.Width.TheVariants.{Word}
use Rattle.memory.proofs.Laws.{loaded_same}
use Rattle.bits.specs.Bits.{bit}
use Rattle.psi.specs.declared.Psi.{Psi}
use Rattle.psi.specs.Cru.{memory_select, addressed}
use Rattle.machine.specs.State.{Machine}
use Rattle.machine.specs.Micro.{load}
use Rattle.machine.specs.Perform.{perform}
use Rattle.machine.specs.Groups.{switch}
use Rattle.machine.proofs.Bind.{perform_bind}

addressed_wraps : (a : ℕ) (p : Psi) → addressed (a % 65536) p ≡ addressed a p
unfolding addressed bit
addressed_wraps a p = rw (let e : a % 65536 / 2 ^ memory_select % 2 ≡ a / 2 ^ memory_select % 2 = omega arith in e)

load_wraps : (v : ℕ) (w : Width) (a : ℕ) (m : Machine) → perform v (load w (a % 65536)) m ≡ perform v (load w a) m
unfolding perform load
load_wraps v w a m = rw (loaded_same w m.memory (a % 65536) a (omega arith), addressed_wraps a m.state.psi)

pub switch_wraps : (v a : ℕ) (m : Machine) → perform v (switch (a % 65536)) m ≡ perform v (switch a) m
unfolding switch
switch_wraps v a m = rw (mod-add-mod a 65536 2, perform_bind v (load Word (a % 65536)), load_wraps v Word a m) (sym (perform_bind v (load Word a) _ m))
