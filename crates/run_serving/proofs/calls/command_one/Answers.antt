use Rattle.std.proofs.Common.{refl, arith}
use Rattle.run_serving.proofs.Calling.{makes_submit, submit_serves}
use Rattle.run_serving.proofs.Nexts.{not_held, no_fabrics}
use Rattle.run_serving.proofs.Spaces.{head_room, both_room}
use Rattle.run_serving.proofs.calls.command_one.Goals as goal

pub add-requires-clause-room : goal.add-requires-clause-room
add-requires-clause-room c = omega (arith, c.requires.room, head_room c.args.entry.now)

pub returns-in-Refused-clause-len : goal.returns-in-Refused-clause-len
returns-in-Refused-clause-len c = omega (
  arith,
  c.add.ensures.len,
  head_room c.args.entry.now,
)

pub returns-in-Refused-clause-serves : goal.returns-in-Refused-clause-serves
returns-in-Refused-clause-serves c =
    submit_serves _ _ _ _ _ _ _ _ c.refuse-reply.result _ _ refl c.requires.not_admin
    (not_held _ c.refuse-reply.ensures.answered)
    (makes_submit _ _ _ _ _ _ _ _ _ _ c.refuse-reply.ensures.does c.add.ensures.adds
    (no_fabrics _ c.requires.opcode))

pub run_one-requires-clause-room : goal.run_one-requires-clause-room
run_one-requires-clause-room c =
    let fits = c.in-Run.ensures.fits in
    omega (arith, c.requires.room, both_room c.args.entry.now _ refl fits.short)

pub returns-in-Run-clause-len : goal.returns-in-Run-clause-len
returns-in-Run-clause-len c =
    let fits = c.in-Run.ensures.fits in
    omega (arith, c.run_one.ensures.len, both_room c.args.entry.now _ refl fits.short)
