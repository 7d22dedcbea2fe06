use Rattle.std.proofs.Common.{ℕ, take_all, subst, ◌∙◌, arith}
use Rattle.std.proofs.lemmas.List.Elements.{All-more}
use Rattle.std.specs.List.{All}
use Rattle.configfs_rows.specs.declared.namespaces.NamespaceRow.{NamespaceRow}
use Rattle.json_round_trip.specs.Reloads.{HasIdentifiers}
use Rattle.json_round_trip.proofs.typed.certify_namespaces.Goals as goal

pub returns : goal.returns
returns c =
    subst (All (λ (e : ℕ × NamespaceRow). HasIdentifiers e.1))
    (take_all c.loop-row.row-index c.entries-row-items.result.now (omega (arith, c.loop-row-test.false))
    ∙ c.entries-row-items.ensures) c.loop-row.invariant

pub loop-row-preserved : goal.loop-row-preserved
loop-row-preserved c = All-more (λ (e : ℕ × NamespaceRow). HasIdentifiers e.1) c.entries-row-items.result.now
    c.loop-row.row-index c.loop-row-item.result c.loop-row-test.true c.loop-row.invariant
    (subst (λ (e : ℕ × NamespaceRow). HasIdentifiers e.1) c.loop-row-item.is c.certify_namespace.ensures)
