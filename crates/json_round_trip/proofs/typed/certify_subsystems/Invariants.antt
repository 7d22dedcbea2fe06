use Rattle.std.proofs.Common.{List, ℕ, take}
use Rattle.std.specs.List.{All}
use Rattle.configfs_rows.specs.declared.subsystems.SubsystemRow.{SubsystemRow}
use Rattle.json_round_trip.specs.Reloads.{HasAllIdentifiers}
use Rattle.json_round_trip.proofs.typed.certify_subsystems.Given as goal

abbrev pub invariant-loop-row : goal.invariant-loop-row
invariant-loop-row l = All (λ (e : List ℕ × SubsystemRow). HasAllIdentifiers e.1) (take l.row-index l.row-items)
