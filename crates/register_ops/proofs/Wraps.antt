-- A register's number may be taken modulo 65536: its address is.
use Rattle.std.proofs.Common.{◌≡◌, ℕ, ◌%◌, arith}
use Rattle.machine.specs.Operands.{register_at, register, set_register}

address_wraps : (wp n : ℕ) → register_at wp (n % 65536) ≡ register_at wp n
address_wraps wp n = omega arith

pub register_wraps : (n : ℕ) → register (n % 65536) ≡ register n
unfolding register
register_wraps n = simp address_wraps

pub set_register_wraps : (n x : ℕ) → set_register (n % 65536) x ≡ set_register n x
unfolding set_register
set_register_wraps n x = simp address_wraps
