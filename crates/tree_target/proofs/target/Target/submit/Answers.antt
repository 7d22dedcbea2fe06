use Rattle.std.proofs.Common.{◌≡◌, false, ap, sym, subst, ◌∙◌, arith}
use Rattle.io_commands.specs.declared.jobs.Admit.TheVariants.{Run}
use Rattle.configfs_tree.specs.Links.{SubsystemPositions, PortPositions}
use Rattle.tree_target.specs.Kept.{Kept, HasQueue, IsIdle, AdmitsOn, admission_by, is_admin_in}
use Rattle.tree_target.specs.contracts.target.Target.{the_view}
use Rattle.tree_target.proofs.Admitting.{held_does, held_kept, held_room, holds_after, held_leaves}
use Rattle.tree_target.proofs.target.Target.submit.Goals as goal

pub unreachable-requires : goal.unreachable-requires
unreachable-requires c =
    let k = the_view c.self.inside in
    let queue = subst (λ (x : Kept). HasQueue x c.args.queue) (sym c.self.view_is) c.requires.queue
    in
    let idle = subst (λ (x : Kept). IsIdle x c.args.queue) (sym c.self.view_is) c.requires.idle in
    let room = held_room k _ c.args.queue c.args.number c.args.e.now.cid c.in-Run.job
    c.self.invariant queue idle in
    let full = c.in_default.ensures.full in
    omega (arith, room, full, c.self.inside.held.ok)

pub invariant_of-self : goal.invariant_of-self
invariant_of-self c =
    let k = the_view c.self.inside in
    let queue = subst (λ (x : Kept). HasQueue x c.args.queue) (sym c.self.view_is) c.requires.queue
    in
    let idle = subst (λ (x : Kept). IsIdle x c.args.queue) (sym c.self.view_is) c.requires.idle in
    let fits = subst (λ (x : Kept). AdmitsOn x.blocks c.args.e.now c.in-Run.job)
    (sym c.self.view_is) c.in-Run.ensures.fits in
    rw c.in-Ok.ensures.items (held_kept k _ _ c.args.queue c.args.number c.args.e.now.cid
    c.args.e.now c.in-Run.job c.self.invariant c.in-Ok.ensures.capacity queue idle fits)

pub returns-in-Refused-clause-does : goal.returns-in-Refused-clause-does
returns-in-Refused-clause-does c = c.refuse.ensures.does

pub returns-in-Ok-clause-does : goal.returns-in-Ok-clause-does
returns-in-Ok-clause-does c =
    let k = the_view c.self.inside in
    let is : admission_by k c.args.queue c.args.e.now ≡ Run c.in-Run.job =
    ap (λ (x : Kept). admission_by x c.args.queue c.args.e.now) c.self.view_is
    ∙ sym c.in-Run.ensures.value in
    rw (c.in-Ok.ensures.items, ← c.self.view_is)
    (held_does k c.args.queue c.args.number c.args.e.now c.in-Run.job
    c.subsystem_positions.ensures c.port_positions.ensures
    (subst (λ (x : Kept). is_admin_in x c.args.queue ≡ false) (sym c.self.view_is)
    c.requires.not_admin) is)

pub returns-in-Ok-clause-held : goal.returns-in-Ok-clause-held
returns-in-Ok-clause-held c = λ _.
    let k = the_view c.self.inside in
    let idle = subst (λ (x : Kept). IsIdle x c.args.queue) (sym c.self.view_is) c.requires.idle in
    let fits = subst (λ (x : Kept). AdmitsOn x.blocks c.args.e.now c.in-Run.job)
    (sym c.self.view_is) c.in-Run.ensures.fits in
    rw c.in-Ok.ensures.items
    (holds_after k c.args.queue c.args.number c.args.e.now.cid c.args.e.now c.in-Run.job idle fits)

pub returns-in-Ok-clause-others : goal.returns-in-Ok-clause-others
returns-in-Ok-clause-others c =
    rw (c.in-Ok.ensures.items, ← c.self.view_is)
    (held_leaves (the_view c.self.inside) c.args.queue c.args.number c.args.e.now.cid c.in-Run.job)
