-- The rules that a case computes with, by the module that they stand in. To unfold one of these names is to unfold all that its line
-- names; `all` is every rule that a run computes with.
use Rattle.std.specs.Int.Count as Count
use Rattle.bits.specs.Bits as Bits
use Rattle.bits.specs.Logic as Logic
use Rattle.memory.specs.Memory as Memory
use Rattle.psi.specs.Clock as Clock
use Rattle.psi.specs.Pins as Pins
use Rattle.psi.specs.Cru as Cru
use Rattle.psi.specs.Formed as Formed
use Rattle.isa.specs.Isa as Isa
use Rattle.alu.specs.Status as Status
use Rattle.alu.specs.Sums as Sums
use Rattle.alu.specs.Shifts as Shifts
use Rattle.alu.specs.Products as Products
use Rattle.machine.specs.State as State
use Rattle.machine.specs.Micro as Micro
use Rattle.machine.specs.Perform as Perform
use Rattle.machine.specs.Operands as Operands
use Rattle.machine.specs.Groups as Groups
use Rattle.machine.specs.Execute as Execute
use Rattle.machine.specs.Step as Step
use Rattle.machine.specs.Answer as Answer
use Rattle.machine.specs.Run as Run

unfoldable pub bits : Unit {0}
unfolding Count.ones Count.ones_in Bits.bit Bits.put Bits.signed_byte
bits = tt

unfoldable pub logic : Unit {0}
unfolding Logic.joined Logic.both Logic.either Logic.exclusive Logic.without Logic.inverted Logic.swapped
logic = tt

unfoldable pub memory : Unit {0}
unfolding Memory.place Memory.number Memory.spread Memory.loaded Memory.stored
memory = tt

unfoldable pub clock : Unit {0}
unfolding Clock.counted Clock.pended Clock.followed Clock.tick Clock.ticks Clock.advanced
clock = tt

unfoldable pub pins : Unit {0}
unfolding Pins.parted Pins.port_weight Pins.port_level Pins.request_level Pins.active Pins.requested Pins.lowest Pins.request Pins.code
pins = tt

unfoldable pub cru_bits : Unit {0}
unfolding Cru.first_bit Cru.beyond Cru.displaced
cru_bits = tt

unfoldable pub cru_table : Unit {0}
unfolding Cru.timed_value Cru.sensed_value Cru.selected Cru.addressed Cru.sensed Cru.controlled Cru.masked Cru.timed Cru.latched Cru.written Cru.driven
cru_table = tt

unfoldable pub operations : Unit {0}
unfolding Isa.dual_operation Isa.dual_width Isa.register_operation Isa.jump_operation Isa.bit_operation Isa.shift_operation
operations = tt

unfoldable pub more_operations : Unit {0}
unfolding Isa.single_operation Isa.immediate_operation Isa.control_operation
more_operations = tt

unfoldable pub words : Unit {0}
unfolding Isa.source Isa.destination Isa.dual Isa.with_register Isa.with_displacement Isa.shift Isa.single Isa.immediate Isa.decoded Isa.target
words = tt

unfoldable pub status : Unit {0}
unfolding Status.signed Status.compared Status.is_odd Status.parity Status.judged Status.carried Status.jumps
status = tt

unfoldable pub sums : Unit {0}
unfolding Sums.outside Sums.sum_overflows Sums.difference_overflows Sums.sum Sums.difference Sums.negated Sums.absolute
sums = tt

unfoldable pub shifts : Unit {0}
unfolding Shifts.amount Shifts.shift_value Shifts.shift_carry Shifts.sign_changes Shifts.shift_overflow Shifts.shifted
shifts = tt

unfoldable pub products : Unit {0}
unfolding Products.product Products.divided
products = tt

unfoldable pub microprograms : Unit {0}
unfolding Micro.registers Micro.set Micro.fetched Micro.load Micro.store Micro.sensed Micro.driven Perform.dropped Perform.received Perform.perform
microprograms = tt

unfoldable pub operands : Unit {0}
unfolding Operands.register Operands.set_register Operands.indexed Operands.stepped Operands.operand
operands = tt

unfoldable pub dual_forms : Unit {0}
unfolding Groups.set_status Groups.conclude Groups.conclude_judged Groups.dual_effect Groups.dual
dual_forms = tt

unfoldable pub register_forms : Unit {0}
unfolding Groups.set_equal Groups.set_pair Groups.divide Groups.register_effect Groups.with_register Groups.shift_count Groups.shift
register_forms = tt

unfoldable pub cru_forms : Unit {0}
unfolding Groups.cru_base Groups.drive_bits Groups.sense_bits Groups.transfer_width Groups.load_cru Groups.store_cru Groups.transfer
cru_forms = tt

unfoldable pub displacement_forms : Unit {0}
unfolding Groups.bit_effect Groups.access_bit Groups.jump
displacement_forms = tt

unfoldable pub single_forms : Unit {0}
unfolding Groups.store_absolute Groups.single_effect Groups.single
single_forms = tt

unfoldable pub immediate_forms : Unit {0}
unfolding Groups.immediate_effect Groups.immediate_register Groups.immediate Groups.load_mask Groups.load_workspace
immediate_forms = tt

unfoldable pub control_forms : Unit {0}
unfolding Groups.store_status Groups.store_workspace Groups.switch Groups.switch_by_operand Groups.switch_by_number Groups.return Groups.command
control_forms = tt

unfoldable pub instructions : Unit {0}
unfolding dual_forms register_forms cru_forms displacement_forms single_forms immediate_forms control_forms Execute.instruction Execute.again Execute.execute
instructions = tt

unfoldable pub steps : Unit {0}
unfolding Step.signal Step.admitted Step.enter Step.proceed Step.boundary Step.stepping Step.step
steps = tt

unfoldable pub runs : Unit {0}
unfolding Formed.well_formed State.well_formed Answer.told_word Answer.told Answer.as_told Answer.answer Answer.missed Answer.latest Answer.number Answer.value Run.runs Run.run_refusal Run.run
runs = tt

unfoldable pub psi : Unit {0}
unfolding clock pins cru_bits cru_table
psi = tt

unfoldable pub alu : Unit {0}
unfolding status sums shifts products
alu = tt

unfoldable pub all : Unit {0}
unfolding bits logic memory psi operations more_operations words alu microprograms operands instructions steps runs
all = tt
