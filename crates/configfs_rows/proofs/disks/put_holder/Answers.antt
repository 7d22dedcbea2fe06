use Rattle.std.proofs.Common.{◌≡◌, ◌<◌, ◌≤◌, true, length, get_or, ◌∙◌, ap, arith}
use Rattle.std.specs.Str.{bytes_eq}
use Rattle.std.proofs.lemmas.List.{get_or_default}
use Rattle.configfs_rows.specs.Holders.{hold}
use Rattle.configfs_rows.proofs.Holding.{hold_hit, hold_end}
use Rattle.configfs_rows.proofs.disks.put_holder.Goals as goal

pub returns-then-eq : goal.returns-then-eq
returns-then-eq c =
    let lt : c.loop-i.i < length c.loop-i.rows = omega arith in
    let same : get_or c.loop-i.rows c.loop-i.i c.index-rows-i.result
    ≡ get_or c.loop-i.rows c.loop-i.i c.index-rows-i-then-eq.result =
    get_or_default _ _ _ _ lt in
    let hit : bytes_eq (get_or c.loop-i.rows c.loop-i.i c.index-rows-i-then-eq.result).path
    c.args.path.now ≡ true = rw (← same, ← c.as_bytes.ensures, ← c.eq.ensures) c.if-eq.true in
    hold_hit c.args.path.now c.args.h c.loop-i.rows c.loop-i.i c.index-rows-i-then-eq.result lt hit
    c.loop-i.invariant.so_far
    ∙ ap (hold c.args.path.now c.args.h) c.loop-i.invariant.same

pub returns : goal.returns
returns c =
    let le : length c.loop-i.rows ≤ c.loop-i.i = omega arith in
    hold_end c.args.path.now c.args.h c.loop-i.rows c.loop-i.i le c.loop-i.invariant.so_far
    ∙ ap (hold c.args.path.now c.args.h) c.loop-i.invariant.same
