use Rattle.std.proofs.Common.{◌∙◌}
use Rattle.run_serving.proofs.Calling.{makes_control}
use Rattle.run_serving.proofs.Spaces.{taken_len}
use Rattle.run_serving.proofs.calls.control_one.Goals as goal

pub control-reply-requires-clause-payload : goal.control-reply-requires-clause-payload
control-reply-requires-clause-payload c = λ way. c.requires.payload
    ∙ taken_len c.args.entry.now way

pub returns-clause-serves : goal.returns-clause-serves
returns-clause-serves c = makes_control _ _ _ _ _ _ _ _ _ _ c.control-reply.ensures.does
    c.add.ensures.adds c.requires.opcode
