use Rattle.json_round_trip.proofs.Accepted.{lines_are_disks, accepted}
use Rattle.json_round_trip.proofs.reload.reload_tree.Goals as goal

pub new-requires : goal.new-requires
new-requires c = lines_are_disks c.args.lines.now c.args.t.now c.certify.ensures c.requires

pub make_edits-requires-clause-accepted : goal.make_edits-requires-clause-accepted
make_edits-requires-clause-accepted c = accepted c.args.lines.now c.args.t.now c.in_ok-empty.empty
    c.in_ok-edits.edits c.as_slice.result.now (c.saved_tree_loads_again.ensures c.requires)
    c.in_ok-empty.ensures c.in_ok-edits.ensures.edits c.as_slice.ensures
