use Rattle.std.proofs.Common.{◌≡◌, false, length, refl, ap, sym, subst, ◌∙◌, rules}
use Rattle.std.specs.Vec.{with_items}
use Rattle.std.proofs.lemmas.List.{with_items_is}
use Rattle.io_commands.specs.declared.jobs.Admit.TheVariants.{Run}
use Rattle.tree_target.specs.Steps.{worked}
use Rattle.tree_target.specs.Kept.{Kept, HasQueue, IsIdle, AdmitsOn, admission_by, is_admin_in}
use Rattle.tree_target.specs.contracts.target.Target.{the_view}
use Rattle.tree_target.proofs.AtOnce.{runs, ran_is_kept, ran_leaves}
use Rattle.tree_target.proofs.target.Target.run_at_once.Goals as goal

pub work-requires-clause-fits : goal.work-requires-clause-fits
work-requires-clause-fits c =
    let a = subst (λ (x : Kept). AdmitsOn x.blocks c.args.e.now c.args.job.now)
    (sym c.self.view_is) c.requires.fits in
    rw c.deref_mut.ensures.value a.fits

pub work-requires-clause-data : goal.work-requires-clause-data
work-requires-clause-data c =
    let a = subst (λ (x : Kept). AdmitsOn x.blocks c.args.e.now c.args.job.now)
    (sym c.self.view_is) c.requires.fits in
    rw (c.deref_mut.ensures.value, c.requires.payload) a.taken

pub work-requires-clause-room : goal.work-requires-clause-room
work-requires-clause-room c =
    let a = subst (λ (x : Kept). AdmitsOn x.blocks c.args.e.now c.args.job.now)
    (sym c.self.view_is) c.requires.fits in
    rw (c.deref_mut.ensures.value, a.given) c.requires.room

pub invariant_of-self : goal.invariant_of-self
invariant_of-self c =
    let k = the_view c.self.inside in
    let len : length c.work.new.disks ≡ c.self.inside.disks.len = search rules in
    let blocks : (with_items c.self.inside.disks c.work.new.disks).items
    ≡ worked c.args.job.now c.args.payload.now c.self.inside.disks.items =
    with_items_is c.self.inside.disks c.work.new.disks len
    ∙ (c.work.ensures.disks
    ∙ ap (worked c.args.job.now c.args.payload.now) c.deref_mut.ensures.value) in
    ran_is_kept k c.args.queue c.args.number c.args.e.now c.args.job.now c.args.payload.now
    (subst (λ (x : Kept). IsIdle x c.args.queue) (sym c.self.view_is) c.requires.idle) _
    c.self.invariant
    (subst (λ (x : Kept). HasQueue x c.args.queue) (sym c.self.view_is) c.requires.queue)
    (subst (λ (x : Kept). AdmitsOn x.blocks c.args.e.now c.args.job.now) (sym c.self.view_is)
    c.requires.fits) c.requires.payload _ _ refl blocks

pub returns-clause-runs : goal.returns-clause-runs
returns-clause-runs c =
    let k = the_view c.self.inside in
    let len : length c.work.new.disks ≡ c.self.inside.disks.len = search rules in
    rw (
      ← c.self.view_is,
      with_items_is c.self.inside.disks c.work.new.disks len,
      c.work.ensures.disks,
      c.deref_mut.ensures.value,
    )
    (runs k c.args.queue c.args.number c.args.e.now c.args.job.now c.args.payload.now
    (subst (λ (x : Kept). IsIdle x c.args.queue) (sym c.self.view_is) c.requires.idle)
    c.subsystem_positions.ensures c.port_positions.ensures
    (subst (λ (x : Kept). is_admin_in x c.args.queue ≡ false) (sym c.self.view_is)
    c.requires.not_admin)
    (subst (λ (x : Kept). admission_by x c.args.queue c.args.e.now ≡ Run c.args.job.now)
    (sym c.self.view_is) c.requires.admitted))

pub returns-clause-others : goal.returns-clause-others
returns-clause-others c =
    let k = the_view c.self.inside in
    let len : length c.work.new.disks ≡ c.self.inside.disks.len = search rules in
    rw (
      ← c.self.view_is,
      with_items_is c.self.inside.disks c.work.new.disks len,
      c.work.ensures.disks,
      c.deref_mut.ensures.value,
    )
    (ran_leaves k c.args.queue c.args.number c.args.e.now c.args.job.now c.args.payload.now
    (subst (λ (x : Kept). IsIdle x c.args.queue) (sym c.self.view_is) c.requires.idle) _
    c.self.invariant
    (subst (λ (x : Kept). HasQueue x c.args.queue) (sym c.self.view_is) c.requires.queue)
    (subst (λ (x : Kept). AdmitsOn x.blocks c.args.e.now c.args.job.now) (sym c.self.view_is)
    c.requires.fits) c.requires.payload)
