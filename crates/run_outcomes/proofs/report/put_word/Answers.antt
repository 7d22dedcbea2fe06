use Rattle.std.specs.Prelude.{◌++◌}
use Rattle.run_outcomes.proofs.Puts.{takes_front, takes_both}
use Rattle.run_outcomes.proofs.report.put_word.Goals as goal

pub returns-in-Ok-clause-content : goal.returns-in-Ok-clause-content
returns-in-Ok-clause-content g c = takes_both _ _ _ (c.args.before.now ++ c.args.file.now)
    c.args.after.now _ c.in-Ok.ensures.content c.put.ensures.content

pub returns-in-Err-clause-content : goal.returns-in-Err-clause-content
returns-in-Err-clause-content g c = takes_front _ _ (c.args.before.now ++ c.args.file.now)
    c.args.after.now _ c.in-Err.ensures.content
