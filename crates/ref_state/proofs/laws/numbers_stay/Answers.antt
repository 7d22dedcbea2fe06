use Rattle.ref_state.proofs.OwnersKept.{part_of_its_seat, numbers_stay}
use Rattle.ref_state.proofs.laws.numbers_stay.Goals as goal

pub returns : goal.returns
returns c = record { parts = part_of_its_seat; all = numbers_stay }
