use Rattle.std.proofs.Common.{arith, ◌<◌, length}
use Rattle.tree_target.specs.Loads.{load_from}
use Rattle.tree_target.proofs.Starts.{loads_next}
use Rattle.json_round_trip.proofs.Accepted.{never_refused, refused_as}
use Rattle.json_round_trip.proofs.reload.make_edits.Goals as goal

pub loop-i-preserved : goal.loop-i-preserved
loop-i-preserved c =
    let lt : c.loop-i.i < length c.args.edits.now = omega arith in
    loads_next c.args.edits.now c.loop-i.i c.index-edits-i.result c.loop-i.made
    c.apply.new.t c.in-Ok.field-0 (load_from 1 c.args.tree c.args.edits.now) lt
    c.index-edits-i.is c.loop-i.invariant c.in-Ok.ensures.gives

pub unreachable-requires : goal.unreachable-requires
unreachable-requires c =
    let lt : c.loop-i.i < length c.args.edits.now = omega arith in
    never_refused c.args.edits.now c.loop-i.i c.index-edits-i.result c.loop-i.made
    c.requires.accepted.tree c.in-Err-Errno.field-0-0 (load_from 1 c.args.tree c.args.edits.now) lt
    c.index-edits-i.is c.loop-i.invariant (refused_as _ _ _ _ c.in-Err-Errno.field-0
    c.in-Err-Errno.field-0-0 c.in-Err-Errno.field-0-is c.in-Err-Errno.ensures.gives)
    c.requires.accepted.loads
