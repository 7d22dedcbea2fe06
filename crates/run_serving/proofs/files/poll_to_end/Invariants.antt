use Rattle.std.proofs.Common.{◌≡◌, ◌≤◌, ℕ, ◌+◌, ◌*◌, ◌-◌, true, length}
use Rattle.tree_target.specs.Kept.{IsIdle, is_admin_in}
use Rattle.run_serving.specs.Goes.{Makes, HasAll, IsPolling}
use Rattle.run_serving.specs.Readiness.{capsules_of}
use Rattle.run_serving.proofs.files.poll_to_end.Given as goal

abbrev pub invariant-loop-polls : goal.invariant-loop-polls
invariant-loop-polls l = record {
  idle : (q : ℕ) → IsIdle l.target q;
  queues : length l.target.bindings ≡ length l.initial.target.bindings;
  admin : is_admin_in l.target l.queue ≡ true;
  few : l.output.calls ≤ 2 * length l.file.capsules.items + l.polls;
  room : length l.output.records.bytes + 32 * (5 - l.polls) ≤ l.output.records.room;
  makes : Makes true l.queue (capsules_of l.file) HasAll l.initial.target l.initial.output
      l.place (IsPolling (5 - l.polls)) l.target l.output (l.place + l.polls);
}
