use Rattle.json_round_trip.proofs.Whole.{reloads}
use Rattle.json_round_trip.proofs.laws.saved_tree_loads_again.Goals as goal

pub returns : goal.returns
returns c = λ disks. reloads c.args._lines.now c.args._t.now c.certify.ensures
    c.certify_types.ensures disks
