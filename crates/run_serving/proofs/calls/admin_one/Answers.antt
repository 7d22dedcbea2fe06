use Rattle.std.proofs.Common.{arith}
use Rattle.run_serving.proofs.Calling.{admin_serves}
use Rattle.run_serving.proofs.Spaces.{admin_room}
use Rattle.run_serving.proofs.calls.admin_one.Goals as goal

pub submit_admin_one-requires-clause-room : goal.submit_admin_one-requires-clause-room
submit_admin_one-requires-clause-room c = omega (
  arith,
  c.requires.room,
  admin_room c.args.entry.now,
)

pub poll_one-requires-clause-room : goal.poll_one-requires-clause-room
poll_one-requires-clause-room c = omega (
  arith,
  c.requires.room,
  c.submit_admin_one.ensures.len,
  c.submit_admin_one.ensures.room,
  admin_room c.args.entry.now,
)

pub returns-clause-len : goal.returns-clause-len
returns-clause-len c = omega (
  arith,
  c.submit_admin_one.ensures.len,
  c.poll_one.ensures.len,
  admin_room c.args.entry.now,
)

pub returns-clause-serves : goal.returns-clause-serves
returns-clause-serves c = λ payload.
    admin_serves _ _ _ _ _ _ _ _ _ _ _ _ payload c.submit_admin_one.ensures.serves
    c.poll_one.ensures.serves
