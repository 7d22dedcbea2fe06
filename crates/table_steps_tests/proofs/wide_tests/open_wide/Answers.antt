use Rattle.std.proofs.Common.{arith, length, ap, sym, ◌∙◌}
use mathlib.Core.Option.{some}
use lib.ListN.{get_elem?}
use Rattle.ref_state.proofs.Lists.{at_or}
use Rattle.table_seats.proofs.Eight.{all_blank}
use Rattle.table_steps_tests.proofs.WideTarget.{one_more}
use Rattle.table_steps_tests.proofs.wide_tests.open_wide.Goals as goal

pub open-requires-clause-extents : goal.open-requires-clause-extents
open-requires-clause-extents c n x e = all_blank 8 n x (ap (λ l. get_elem? l n) (sym c.in_ok-slots.ensures) ∙ e) ∙ one_more n

pub returns-clause-seat : goal.returns-clause-seat
returns-clause-seat c = let r = c.in_ok-table.ensures in let count = r.count in let all = ap length c.in_ok-quotas.ensures in
    r.others 0 c.remove-seat.result (at_or c.in_ok-table.others.items 0 c.remove-seat.result (omega arith) ∙ ap some (sym c.remove-seat.ensures.value))
