use Rattle.std.proofs.Common.{◌≡◌, ◌≤◌, ℕ, ◌+◌, ◌*◌, false, length}
use Rattle.tree_target.specs.Kept.{IsIdle}
use Rattle.run_serving.specs.Goes.{Makes, HasFront, HasTaken}
use Rattle.run_serving.specs.Readiness.{IsReadyAt, capsules_of}
use Rattle.run_serving.proofs.files.serve_rest.Given as goal

abbrev pub invariant-loop-number : goal.invariant-loop-number
invariant-loop-number l = record {
  idle : (q : ℕ) → IsIdle l.target q;
  queues : length l.target.bindings ≡ length l.initial.target.bindings;
  few : l.next ≤ l.fn.place + 2 * l.number;
  ready : IsReadyAt l.file l.number l.output;
  makes : Makes false l.queue (capsules_of l.file) HasFront l.initial.target l.initial.output
      l.fn.place (HasTaken l.number) l.target l.output l.next;
}
