use Rattle.std.proofs.Common.{◌≡◌, false, ◌==◌, sym, ◌∙◌, eq-eqb, rules, arith}
use Rattle.configfs_rows.proofs.Scans.{first_hit, next_missed, all_missed}
use Rattle.configfs_rows.proofs.linked_rows.row_at.Goals as goal

pub returns-then-place-at : goal.returns-then-place-at
returns-then-place-at g c = first_hit (λ x. g.X.LinkedRow.place x == c.args.at) c.args.rows.now
    c.loop-row.row-index c.loop-row-item.result c.loop-row-test.true c.loop-row-item.is
    c.loop-row.invariant (eq-eqb _ _ (sym c.place.ensures ∙ c.if-place-at.true))

pub loop-row-preserved : goal.loop-row-preserved
loop-row-preserved g c =
    let miss : (g.X.LinkedRow.place c.loop-row-item.result.1 == c.args.at) ≡ false =
    search rules in
    next_missed (λ x. g.X.LinkedRow.place x == c.args.at) c.args.rows.now c.loop-row.row-index
    c.loop-row-item.result c.loop-row-test.true c.loop-row-item.is c.loop-row.invariant miss

pub returns : goal.returns
returns g c = all_missed (λ x. g.X.LinkedRow.place x == c.args.at) c.args.rows.now
    c.loop-row.row-index (omega (arith, c.loop-row-test.false)) c.loop-row.invariant
