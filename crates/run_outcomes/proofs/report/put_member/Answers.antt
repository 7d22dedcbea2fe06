use Rattle.std.specs.Prelude.{◌++◌, codes}
use Rattle.run_outcomes.proofs.Puts.{takes_front, takes_both}
use Rattle.run_outcomes.proofs.report.put_member.Goals as goal

pub returns-in-Ok-clause-content : goal.returns-in-Ok-clause-content
returns-in-Ok-clause-content g c = takes_both _ _ _ (codes "malformed " ++ c.args.file.now)
    ((codes " member " ++ c.args.pointer.now) ++ codes "\n") _ c.in-Ok.ensures.content
    c.put_word.ensures.content

pub returns-in-Err-clause-content : goal.returns-in-Err-clause-content
returns-in-Err-clause-content g c = takes_front _ _ (codes "malformed " ++ c.args.file.now)
    ((codes " member " ++ c.args.pointer.now) ++ codes "\n") _ c.in-Err.ensures.content
