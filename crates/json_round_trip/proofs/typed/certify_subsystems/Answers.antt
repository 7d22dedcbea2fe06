use Rattle.std.proofs.Common.{List, ℕ, take_all, subst, ◌∙◌, arith}
use Rattle.std.proofs.lemmas.List.Elements.{All-map, All-more}
use Rattle.std.specs.List.{All}
use Rattle.std.specs.FinMap as maps
use Rattle.configfs_rows.specs.declared.subsystems.SubsystemRow.{SubsystemRow}
use Rattle.json_round_trip.specs.Reloads.{HasAllIdentifiers}
use Rattle.json_round_trip.proofs.typed.certify_subsystems.Goals as goal

pub returns : goal.returns
returns c =
    All-map HasAllIdentifiers (λ (e : List ℕ × SubsystemRow). e.1) (maps.entries c.args.rows.now) (
    subst (All (λ (e : List ℕ × SubsystemRow). HasAllIdentifiers e.1))
    (take_all c.loop-row.row-index c.entries-row-items.result.now (omega (arith, c.loop-row-test.false))
    ∙ c.entries-row-items.ensures) c.loop-row.invariant)

pub loop-row-preserved : goal.loop-row-preserved
loop-row-preserved c = All-more (λ (e : List ℕ × SubsystemRow). HasAllIdentifiers e.1) c.entries-row-items.result.now
    c.loop-row.row-index c.loop-row-item.result c.loop-row-test.true c.loop-row.invariant
    (subst (λ (e : List ℕ × SubsystemRow). HasAllIdentifiers e.1) c.loop-row-item.is c.certify_subsystem.ensures)
