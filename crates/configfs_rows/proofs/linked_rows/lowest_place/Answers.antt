use Rattle.std.proofs.Common.{◌≡◌, ◌==◌, ◌<◌, not, true, false, sym, ap, ◌∙◌, arith}
use Rattle.std.specs.List.{list_any}
use Rattle.std.specs.Map.{values_of}
use Rattle.configfs_rows.proofs.LowFree.{low_taken, low_free, low_end}
use Rattle.configfs_rows.proofs.Scans.{lent_passes}
use Rattle.configfs_rows.proofs.linked_rows.lowest_place.Goals as goal

pub returns-then-is_none : goal.returns-then-is_none
returns-then-is_none g c =
    let lt : c.loop-at.at < c.args.most = omega arith in
    let free : list_any (λ x. g.X.LinkedRow.place x == c.loop-at.at) (values_of c.args.rows.now)
    ≡ false = sym (lent_passes (λ x. g.X.LinkedRow.place x == c.loop-at.at) _ c.row_at.result
    c.row_at.ensures) ∙ c.is_none.ensures ∙ ap not c.if-is_none.true in
    sym (c.loop-at.invariant ∙ low_free c.args.most c.loop-at.at (λ at. list_any
    (λ x. g.X.LinkedRow.place x == at) (values_of c.args.rows.now)) lt free)

pub loop-at-preserved : goal.loop-at-preserved
loop-at-preserved g c =
    let lt : c.loop-at.at < c.args.most = omega arith in
    let taken : list_any (λ x. g.X.LinkedRow.place x == c.loop-at.at) (values_of c.args.rows.now)
    ≡ true = sym (lent_passes (λ x. g.X.LinkedRow.place x == c.loop-at.at) _ c.row_at.result
    c.row_at.ensures) ∙ c.is_none.ensures ∙ ap not c.if-is_none.false in
    c.loop-at.invariant ∙ low_taken c.args.most c.loop-at.at (λ at. list_any
    (λ x. g.X.LinkedRow.place x == at) (values_of c.args.rows.now)) lt taken

pub returns : goal.returns
returns g c =
    let is : c.args.most ≡ c.loop-at.at = omega arith in
    sym (c.loop-at.invariant ∙ low_end c.args.most c.loop-at.at
    (λ at. list_any (λ x. g.X.LinkedRow.place x == at) (values_of c.args.rows.now)) is)
