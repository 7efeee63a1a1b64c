-- Two reads, the new WP, three stores, the new PC and the flags: the calls in the definition's order.
use Rattle.machine.proofs.Bind.{perform_bind, perform_registers}
use Rattle.machine.specs.Groups.{switch}
use Rattle.switch_ops.proofs.switch.Goals as goal

pub returns : goal.returns
unfolding switch
returns c v =
    rw (
      perform_bind,
      c.load-wp.ensures v,
      perform_bind,
      c.load-pc.ensures v,
      perform_bind,
      perform_registers,
      perform_bind,
      c.set_wp.ensures v _,
      perform_bind,
      c.set_register.ensures v,
      perform_bind,
      c.set_register-2.ensures v,
      perform_bind,
      c.set_register-3.ensures v,
      perform_bind,
      c.set_pc.ensures v _,
      ← c.put.ensures,
      c.set_flags.ensures v _,
    )
