use Rattle.json_round_trip.proofs.Whole.{reloads}
use Rattle.json_round_trip.proofs.laws.saved_configuration_loads_again.Goals as goal

pub returns : goal.returns
returns c = λ t lines stands typed disks. reloads lines t stands typed disks
