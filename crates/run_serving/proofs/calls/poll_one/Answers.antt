use Rattle.run_serving.proofs.Calling.{makes_poll, makes_final}
use Rattle.run_serving.proofs.calls.poll_one.Goals as goal

pub returns-clause-serves : goal.returns-clause-serves
returns-clause-serves c = makes_poll _ _ _ _ _ _ _ _ c.poll-reply.ensures.does c.add.ensures.adds
    c.requires.admin

pub returns-clause-last : goal.returns-clause-last
returns-clause-last c = makes_final _ _ _ _ _ _ _ _ c.poll-reply.ensures.does c.add.ensures.adds
    c.requires.admin c.poll-reply.ensures.replies
