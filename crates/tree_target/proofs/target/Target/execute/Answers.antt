use Rattle.std.proofs.Common.{◌≡◌, length, ap, sym, subst, ◌∙◌, rules}
use Rattle.std.specs.Vec.{with_items}
use Rattle.std.proofs.lemmas.List.{with_items_is}
use Rattle.tree_target.specs.Steps.{worked}
use Rattle.tree_target.specs.Kept.{Kept, HasHeldData}
use Rattle.tree_target.specs.contracts.target.Target.{the_view}
use Rattle.tree_target.proofs.Executing.{held_fits, executes, kept_as, idle_after, executed_leaves}
use Rattle.tree_target.proofs.target.Target.execute.Goals as goal

pub work-requires-clause-fits : goal.work-requires-clause-fits
work-requires-clause-fits c = rw c.deref_mut.ensures.value
    (held_fits (the_view c.self.inside) _ c.args.queue c.args.number c.in-Some.command
    c.self.invariant (sym c.in-Some.ensures.command))

pub invariant_of-self : goal.invariant_of-self
invariant_of-self c =
    let len : length c.work.new.disks ≡ c.self.inside.disks.len = search rules in
    let blocks : (with_items c.self.inside.disks c.work.new.disks).items
    ≡ worked c.in-Some.command.job c.args.payload.now c.self.inside.disks.items =
    with_items_is c.self.inside.disks c.work.new.disks len
    ∙ (c.work.ensures.disks
    ∙ ap (worked c.in-Some.command.job c.args.payload.now) c.deref_mut.ensures.value) in
    let asked : HasHeldData (the_view c.self.inside) c.args.queue c.args.number
    (length c.args.payload.now) = subst (λ (x : Kept). HasHeldData x c.args.queue c.args.number
    (length c.args.payload.now)) (sym c.self.view_is) c.requires.data in
    kept_as (the_view c.self.inside) _ _ c.args.queue c.args.number c.args.payload.now
    c.in-Some.command _ _ c.in-Some.ensures.capacity blocks c.in-Some.ensures.rest
    c.self.invariant (sym c.in-Some.ensures.command) asked

pub returns-clause-does : goal.returns-clause-does
returns-clause-does c =
    let len : length c.work.new.disks ≡ c.self.inside.disks.len = search rules in
    rw (
      c.complete.ensures,
      c.qid-qid.ensures,
      ← c.self.view_is,
      c.in-Some.ensures.rest,
      with_items_is c.self.inside.disks c.work.new.disks len,
      c.work.ensures.disks,
      c.deref_mut.ensures.value,
    )
    (executes (the_view c.self.inside) c.args.queue c.args.number c.args.payload.now
    c.in-Some.command (sym c.in-Some.ensures.command))

pub returns-clause-idle : goal.returns-clause-idle
returns-clause-idle c = rw c.in-Some.ensures.rest
    (idle_after (the_view c.self.inside) _ c.args.queue c.args.number c.args.payload.now
    c.in-Some.command c.self.invariant (sym c.in-Some.ensures.command))

pub returns-clause-others : goal.returns-clause-others
returns-clause-others c =
    let len : length c.work.new.disks ≡ c.self.inside.disks.len = search rules in
    let asked : HasHeldData (the_view c.self.inside) c.args.queue c.args.number
    (length c.args.payload.now) = subst (λ (x : Kept). HasHeldData x c.args.queue c.args.number
    (length c.args.payload.now)) (sym c.self.view_is) c.requires.data in
    rw (
      ← c.self.view_is,
      c.in-Some.ensures.rest,
      with_items_is c.self.inside.disks c.work.new.disks len,
      c.work.ensures.disks,
      c.deref_mut.ensures.value,
    )
    (executed_leaves (the_view c.self.inside) _ c.args.queue c.args.number c.args.payload.now
    c.in-Some.command c.self.invariant (sym c.in-Some.ensures.command) asked)
