use Rattle.std.proofs.Common.{◌<◌, ℕ, take_all, subst, ◌∙◌, arith}
use Rattle.std.proofs.lemmas.List.Elements.{All-map, All-more}
use Rattle.std.specs.List.{All}
use Rattle.std.specs.FinMap as maps
use Rattle.configfs_rows.specs.declared.ports.PortRow.{PortRow}
use Rattle.json_round_trip.proofs.typed.certify_ports.Goals as goal

pub returns : goal.returns
returns c =
    All-map (λ (p : PortRow). p.id < 65536) (λ (e : ℕ × PortRow). e.1) (maps.entries c.args.rows.now) (
    subst (All (λ (e : ℕ × PortRow). e.1.id < 65536))
    (take_all c.loop-row.row-index c.entries-row-items.result.now (omega (arith, c.loop-row-test.false))
    ∙ c.entries-row-items.ensures) c.loop-row.invariant)

pub loop-row-preserved : goal.loop-row-preserved
loop-row-preserved c = All-more (λ (e : ℕ × PortRow). e.1.id < 65536) c.entries-row-items.result.now
    c.loop-row.row-index c.loop-row-item.result c.loop-row-test.true c.loop-row.invariant
    (subst (λ (e : ℕ × PortRow). e.1.id < 65536) c.loop-row-item.is c.certify_port.ensures)
