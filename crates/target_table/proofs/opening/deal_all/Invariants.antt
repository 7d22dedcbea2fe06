use Rattle.std.proofs.Common.{◌≡◌, ◌+◌, ◌-◌, ◌<◌, ◌≤◌, ℕ, [], length, drop}
use mathlib.Core.Option.{some}
use lib.ListN.{get_elem?}
use Rattle.table_rule.specs.Shown.{first, opened_seat}
use Rattle.target_table.proofs.opening.deal_all.Given as goal

abbrev pub invariant-loop-number : goal.invariant-loop-number
invariant-loop-number g l = record {
  own : l.editor.base.table_id ≡ l.table.table.shared.table_id;
  told : l.editor.base.me ≡ (
    record
        (first g.M.Means.means l.table.table.shared.key) {
          dealt = l.number;
          undealt = drop l.number l.table.table.shared.key.quotas;
        },
    [],
  );
  above : 0 < l.number;
  below : l.number ≤ length l.quotas;
  count : length l.others.items + 1 ≡ l.number;
  seats : (j : ℕ) (s : _) → get_elem? l.others.items j ≡ some s
      → (s.base.table_id ≡ l.table.table.shared.table_id)
      × (s.base.me ≡ (opened_seat l.table.table.shared.key (j + 1), []));
}

abbrev pub decreases-loop-number : goal.decreases-loop-number
decreases-loop-number g l = length l.quotas - l.number
