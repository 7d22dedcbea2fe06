use Rattle.run_outcomes.proofs.Puts.{takes_front, takes_both}
use Rattle.run_check.proofs.report.put_pair.Goals as goal

pub returns-in-Ok-clause-content : goal.returns-in-Ok-clause-content
returns-in-Ok-clause-content g c = takes_both _ _ _ c.args.first.now c.args.second.now _
    c.in-Ok.ensures.content c.put-in-Ok.ensures.content

pub returns-in-Err-clause-content : goal.returns-in-Err-clause-content
returns-in-Err-clause-content g c = takes_front _ _ c.args.first.now c.args.second.now _
    c.in-Err.ensures.content
