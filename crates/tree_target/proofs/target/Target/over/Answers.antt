use Rattle.std.proofs.Common.{◌≡◌, List, length, ap, sym, subst, ◌∙◌, arith}
use Rattle.std.proofs.lemmas.List.{length-map}
use Rattle.std.proofs.lemmas.Bool.{leb-true}
use Rattle.mem_bdev.specs.Blocks.{Blocks}
use Rattle.sqe_cqe.specs.declared.controllers.Binding.{Binding}
use Rattle.sqe_cqe.specs.declared.controllers.ControllerRow.{ControllerRow}
use Rattle.async_events.specs.declared.events.Events.{Events}
use Rattle.configfs_rows.specs.declared.limits.TheConstants.{MAX_DISKS}
use Rattle.tree_target.specs.declared.calls.Command.{Command}
use Rattle.tree_target.specs.Joined.{AreJoined}
use Rattle.tree_target.specs.Kept.{HoldsWell}
use Rattle.tree_target.specs.Loads.{blank_of, code_unconnected}
use Rattle.tree_target.proofs.HeldList.{both_true}
use Rattle.tree_target.proofs.Starts.{start_stands, fresh_joined}
use Rattle.tree_target.proofs.target.Target.over.Goals as goal

pub invariant_of-result : goal.invariant_of-result
invariant_of-result c =
    let n : length c.in_ok-disks.disks.items ≡ length c.args.lines.now =
    ap (λ (x : List Blocks). length x) c.in_ok-disks.ensures
    ∙ length-map c.args.lines.now blank_of in
    let m : length c.in_ok-bindings.bindings.items ≡ length c.args.ports.now =
    ap (λ (x : List Binding). length x) c.in_ok-bindings.ensures
    ∙ length-map c.args.ports.now code_unconnected in
    let few = leb-true (length c.args.lines.now) MAX_DISKS (both_true _ _ c.requires.disks).0 in
    let queues = c.requires.few_queues in
    record {
      holds = subst (λ (x : List Command). HoldsWell c.in_ok-disks.disks.items
          (length c.in_ok-bindings.bindings.items) x) (sym c.in_ok-held.ensures.items)
          (record { fit = tt; numbered = tt; single = tt });
      few_disks = omega (arith, n, few);
      few_queues = omega (arith, m, queues);
      room = omega (arith, c.in_ok-held.ensures.capacity);
      joined = subst (λ (x : List ControllerRow). AreJoined c.args.tree x
          c.in_ok-bindings.bindings.items) (sym c.in_ok-controllers.ensures)
          (fresh_joined c.args.tree c.in_ok-bindings.bindings.items c.requires.fresh);
      states = ap (λ (x : List Events). length x) c.in_ok-states.ensures
          ∙ sym (ap (λ (x : List ControllerRow). length x) c.in_ok-controllers.ensures);
    }

pub returns-clause-stands : goal.returns-clause-stands
returns-clause-stands c = rw (
  c.in_ok-controllers.ensures,
  c.in_ok-disks.ensures,
  c.in_ok-bindings.ensures,
  c.in_ok-held.ensures.items,
  c.in_ok-states.ensures,
  c.in_ok-stamps.ensures,
)
    (start_stands c.args.tree c.args.lines.now c.args.ports.now)
