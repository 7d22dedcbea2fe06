use Rattle.std.proofs.Common.{arith}
use Rattle.run_serving.proofs.Spaces.{head_room}
use Rattle.run_serving.proofs.calls.serve_one.Goals as goal

pub control_one-requires-clause-room : goal.control_one-requires-clause-room
control_one-requires-clause-room c = omega (arith, c.requires.room, head_room c.args.entry.now)

pub returns-then-entry-eq-FABRICS-clause-len : goal.returns-then-entry-eq-FABRICS-clause-len
returns-then-entry-eq-FABRICS-clause-len c = omega (
  arith,
  c.control_one.ensures.len,
  head_room c.args.entry.now,
)
