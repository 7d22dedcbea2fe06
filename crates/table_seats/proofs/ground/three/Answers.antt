use Rattle.std.proofs.Common.{arith, ◌<◌, length, ap, sym, ◌∙◌, subst}
use mathlib.Core.Option.{some}
use lib.ListN.{get_elem?}
use Rattle.ref_state.proofs.Lists.{at_or}
use Rattle.table_seats.proofs.Removing.{second, some_left}
use Rattle.table_seats.proofs.ground.three.Goals as goal

pub returns-clause-one : goal.returns-clause-one
returns-clause-one c = let r = c.in_ok-table.ensures in let count = r.count in let all = ap length c.in_ok-quotas.ensures in
    r.others 0 c.remove-one.result (at_or c.in_ok-table.others.items 0 c.remove-one.result (omega arith) ∙ ap some (sym c.remove-one.ensures.value))

pub returns-clause-two : goal.returns-clause-two
returns-clause-two c = let r = c.in_ok-table.ensures in let count = r.count in let all = ap length c.in_ok-quotas.ensures in let left = c.remove-one.ensures.items in
    let more : 0 < length c.remove-one.new.self.items = subst (λ l. 0 < length l) (sym left) (some_left c.in_ok-table.others.items (omega arith)) in
    r.others 1 c.remove-two.result (sym (second c.in_ok-table.others.items) ∙ (ap (λ l. get_elem? l 0) (sym left)
    ∙ (at_or c.remove-one.new.self.items 0 c.remove-two.result more ∙ ap some (sym c.remove-two.ensures.value))))
