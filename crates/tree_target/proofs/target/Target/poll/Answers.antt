use Rattle.std.proofs.Common.{◌≡◌, true, Some, sym, ap, ◌∙◌}
use Rattle.tree_target.specs.Kept.{Kept, bound_in, is_admin_in}
use Rattle.tree_target.specs.contracts.target.Target.{the_view}
use Rattle.tree_target.proofs.Administering.{none_does, polls_does, admin_qid}
use Rattle.tree_target.proofs.target.Target.poll.Goals as goal

pub returns-then-not-is_admin-clause-does : goal.returns-then-not-is_admin-clause-does
returns-then-not-is_admin-clause-does c = none_does c.args.self.now c.args.queue
    (sym c.is_admin.ensures ∙ c.if-not-is_admin.true)

pub returns-clause-does : goal.returns-clause-does
returns-clause-does c =
    let k = the_view c.self.inside in
    let admin : is_admin_in k c.args.queue ≡ true =
    ap (λ (x : Kept). is_admin_in x c.args.queue) c.self.view_is
    ∙ (sym c.is_admin.ensures ∙ c.if-not-is_admin.false) in
    let found : bound_in k.bindings c.args.queue ≡ Some c.in-Some.bound =
    ap (λ (x : Kept). bound_in x.bindings c.args.queue) c.self.view_is ∙ sym c.in-Some.ensures in
    let polls = rw c.deref.ensures.value at c.poll_events-event.ensures in
    rw (c.event_reply.ensures, ← c.self.view_is)
    (polls_does k c.args.queue c.in-Some.bound c.poll_events-event.result
    c.poll_events-event.new.states c.subsystem_positions.ensures c.port_positions.ensures found
    (admin_qid k c.args.queue c.in-Some.bound admin found) polls)
