use Rattle.std.proofs.Common.{ℕ, take}
use Rattle.std.specs.List.{All}
use Rattle.configfs_rows.specs.declared.namespaces.NamespaceRow.{NamespaceRow}
use Rattle.json_round_trip.specs.Reloads.{HasIdentifiers}
use Rattle.json_round_trip.proofs.typed.certify_namespaces.Given as goal

abbrev pub invariant-loop-row : goal.invariant-loop-row
invariant-loop-row l = All (λ (e : ℕ × NamespaceRow). HasIdentifiers e.1) (take l.row-index l.row-items)
