use Rattle.std.proofs.Common.{◌≡◌, ℕ, true, Some, sym, ap, subst, ◌∙◌}
use Rattle.mem_bdev.specs.Texts.{HasRoom}
use Rattle.tree_target.specs.Kept.{Kept, bound_in, is_admin_in}
use Rattle.tree_target.specs.contracts.target.Target.{the_view}
use Rattle.tree_target.proofs.Administering.{room_is, admin_submits, admin_qid}
use Rattle.tree_target.proofs.target.Target.submit_admin.Goals as goal

pub serve-reply-requires-clause-room : goal.serve-reply-requires-clause-room
serve-reply-requires-clause-room c =
    subst (λ (n : ℕ). HasRoom c.args.to.now n) (room_is c.args.e.now) c.requires.room

pub returns-clause-does : goal.returns-clause-does
returns-clause-does c =
    let k = the_view c.self.inside in
    let admin = subst (λ (x : Kept). is_admin_in x c.args.queue ≡ true) (sym c.self.view_is)
    c.requires.admin in
    let found : bound_in k.bindings c.args.queue ≡ Some c.in-Some.bound =
    ap (λ (x : Kept). bound_in x.bindings c.args.queue) c.self.view_is ∙ sym c.in-Some.ensures in
    let serves = rw c.deref.ensures.value at c.serve-reply.ensures in
    rw (c.replied.ensures, ← c.self.view_is)
    (admin_submits k c.args.queue c.args.number c.args.e.now c.in-Some.bound c.serve-reply.result
    c.args.to.now c.serve-reply.new.to c.serve-reply.new.states c.subsystem_positions.ensures
    c.port_positions.ensures found (admin_qid k c.args.queue c.in-Some.bound admin found) serves)
