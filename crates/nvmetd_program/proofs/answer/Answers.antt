use Rattle.nvmetd_program.proofs.answer.Goals as goal

pub returns-in-Err-clause-said : goal.returns-in-Err-clause-said
returns-in-Err-clause-said g c = rw c.in-Err.is (record { answer = c.put.result; content = c.put.ensures.content; cause = c.put.ensures.cause })
