use Rattle.std.proofs.Common.{◌≡◌, ◌∙◌, ℕ, ◌+◌, ◌*◌, subst, arith}
use Rattle.run_serving.specs.Lines.{AreFew}
use Rattle.run_serving.specs.Editor.{HasMade}
use Rattle.run_serving.proofs.Scripting.{edits_more}
use Rattle.run_serving.proofs.editing.serve_script.Goals as goal

pub loop-edit-preserved : goal.loop-edit-preserved
loop-edit-preserved c =
    let before = c.loop-edit.invariant in
    let after = c.in_ok-next.ensures in
    let n = c.loop-edit.edit-index in
    let two : 2 * n + 2 ≡ 2 * (n + 1) = omega arith in
    record {
      idle = after.idle;
      queues = after.queues ∙ before.queues;
      places = omega (arith, after.places, before.places);
      few = subst (λ (m : ℕ). AreFew c.edit_one.new.edited m) two (after.few (2 * n) before.few);
      makes = edits_more c.args.script.now n c.edit-item.result c.edit-item.result (HasMade 0) _ _ _ _ _ _
          _ _ _ c.loop-edit-test.true c.edit-item.is before.makes after.serves;
    }
