use Rattle.std.proofs.Common.{refl, append_assoc, arith}
use Rattle.std.proofs.lemmas.List.FromFn.{map-range_with_len_more}
use Rattle.disk_extents.specs.Extents.{extent}
use Rattle.disk_extents.proofs.extents.append_extents.Goals as goal

pub loop-number-preserved : goal.loop-number-preserved
loop-number-preserved c =
    let more = map-range_with_len_more (extent c.args.disk.now) 0 c.loop-number.number c.loop-number.number (omega arith) in
    rw (c.in_ok-push.ensures.items, c.loop-number.invariant, c.in_ok-extent.ensures, append_assoc, more) refl
