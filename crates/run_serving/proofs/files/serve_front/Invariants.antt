use Rattle.std.proofs.Common.{◌≡◌, ℕ, ◌+◌, false, length}
use Rattle.tree_target.specs.Kept.{IsIdle}
use Rattle.run_serving.specs.Goes.{Makes, HasTaken}
use Rattle.run_serving.specs.Readiness.{IsReadyAt, capsules_of}
use Rattle.run_serving.proofs.files.serve_front.Given as goal

abbrev pub invariant-loop-number : goal.invariant-loop-number
invariant-loop-number l = record {
  idle : (q : ℕ) → IsIdle l.target q;
  queues : length l.target.bindings ≡ length l.initial.target.bindings;
  ready : IsReadyAt l.file l.number l.output;
  makes : Makes false l.queue (capsules_of l.file) (HasTaken 0) l.initial.target l.initial.output
      l.place (HasTaken l.number) l.target l.output (l.place + l.number);
}
