use Rattle.std.proofs.Common.{◌<◌, ℕ, take}
use Rattle.std.specs.List.{All}
use Rattle.configfs_rows.specs.declared.ports.PortRow.{PortRow}
use Rattle.json_round_trip.proofs.typed.certify_ports.Given as goal

abbrev pub invariant-loop-row : goal.invariant-loop-row
invariant-loop-row l = All (λ (e : ℕ × PortRow). e.1.id < 65536) (take l.row-index l.row-items)
