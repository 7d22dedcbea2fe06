use Rattle.std.proofs.Common.{is_some, sym, ap, ◌∙◌, arith}
use Rattle.std.specs.FinMap as map
use Rattle.configfs_rows.proofs.Scans.{first_hit, next_missed, all_missed, some_found}
use Rattle.configfs_rows.proofs.linked_rows.some_row_links.Goals as goal

pub returns-then-contains : goal.returns-then-contains
returns-then-contains g c =
    let p = λ (x : g.row.X.Denot). map.contains_key (g.X.LinkedRow.linked x) c.args.name.now in
    ap is_some (first_hit p c.args.rows.now c.loop-row.row-index c.loop-row-item.result
    c.loop-row-test.true c.loop-row-item.is c.loop-row.invariant
    (rw (← c.links.ensures) (sym c.contains.ensures ∙ c.if-contains.true))) ∙ some_found p _

pub loop-row-preserved : goal.loop-row-preserved
loop-row-preserved g c =
    next_missed (λ x. map.contains_key (g.X.LinkedRow.linked x) c.args.name.now) c.args.rows.now
    c.loop-row.row-index c.loop-row-item.result c.loop-row-test.true c.loop-row-item.is
    c.loop-row.invariant (rw (← c.links.ensures) (sym c.contains.ensures ∙ c.if-contains.false))

pub returns : goal.returns
returns g c =
    let p = λ (x : g.row.X.Denot). map.contains_key (g.X.LinkedRow.linked x) c.args.name.now in
    ap is_some (all_missed p c.args.rows.now c.loop-row.row-index
    (omega (arith, c.loop-row-test.false)) c.loop-row.invariant) ∙ some_found p _
