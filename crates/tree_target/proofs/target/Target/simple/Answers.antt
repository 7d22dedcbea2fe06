use Rattle.std.proofs.Common.{◌≤◌, arith}
use Rattle.std.specs.Vec.{vec_capacity}
use Rattle.plan_files.specs.declared.plan.TheConstants.{MAX_QUEUES}
use Rattle.tree_target.proofs.Simples.{simple_stands, simple_kept}
use Rattle.tree_target.proofs.target.Target.simple.Goals as goal

pub invariant_of-result : goal.invariant_of-result
invariant_of-result c =
    let room : MAX_QUEUES ≤ vec_capacity c.in_ok-held.held =
    omega (arith, c.in_ok-held.ensures.capacity) in
    rw (
      c.in_ok-tree.ensures,
      c.in_ok-controllers.ensures,
      c.in_ok-push.ensures.items,
      c.new-disks.ensures.items,
      c.in_ok-new.ensures,
      c.in_ok-push-2.ensures.items,
      c.new-bindings.ensures.items,
      c.in_ok-held.ensures.items,
      c.add.ensures,
      c.in_ok-states.ensures,
      c.in_ok-stamps.ensures,
    )
    (simple_kept c.args.disk.now (vec_capacity c.in_ok-held.held) room)

pub returns-clause-stands : goal.returns-clause-stands
returns-clause-stands c = rw (
  c.in_ok-tree.ensures,
  c.in_ok-controllers.ensures,
  c.in_ok-push.ensures.items,
  c.new-disks.ensures.items,
  c.in_ok-new.ensures,
  c.in_ok-push-2.ensures.items,
  c.new-bindings.ensures.items,
  c.in_ok-held.ensures.items,
  c.add.ensures,
  c.in_ok-states.ensures,
  c.in_ok-stamps.ensures,
)
    (simple_stands c.args.disk.now)
