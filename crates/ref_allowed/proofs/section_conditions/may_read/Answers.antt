use Rattle.std.proofs.Common.{ap, refl}
use Rattle.ref_state.specs.State.{read}
use Rattle.ref_allowed.proofs.section_conditions.may_read.Goals as goal

pub returns-in-Placed : goal.returns-in-Placed
returns-in-Placed c = ((λ _. (c.in-Placed.field-0.serial, ap read c.in-Placed.is)), λ _. refl)
