use Rattle.std.proofs.Common.{◌≡◌, ◌≤◌, ℕ, ◌+◌, ◌*◌, length}
use Rattle.tree_target.specs.Kept.{IsIdle}
use Rattle.run_serving.specs.Lines.{AreFew}
use Rattle.run_serving.specs.Editor.{HasMade, MakesEdits}
use Rattle.run_serving.proofs.editing.serve_script.Given as goal

abbrev pub invariant-loop-edit : goal.invariant-loop-edit
invariant-loop-edit l = record {
  idle : (q : ℕ) → IsIdle l.target q;
  queues : length l.target.bindings ≡ length l.initial.target.bindings;
  places : l.next ≤ l.fn.place + 2 * l.edit-index;
  few : AreFew l.edited (2 * l.edit-index);
  makes : MakesEdits l.script (HasMade 0) l.initial.target l.initial.edited l.fn.place
      (HasMade l.edit-index) l.target l.edited l.next;
}
