use Rattle.plan_files.specs.Words.{word_of}
use Rattle.std.specs.Prelude.{◌++◌, ◌∷◌, [], codes}
use Rattle.std.specs.Fmt.{decimal}
use Rattle.run_outcomes.proofs.Puts.{takes_front, takes_both}
use Rattle.run_outcomes.proofs.report.put_limit.Goals as goal

pub returns-in-Ok-clause-content : goal.returns-in-Ok-clause-content
returns-in-Ok-clause-content g c = takes_both _ _ _ (codes "limit " ++ c.args.file.now)
    ((codes " " ++ word_of c.args.what) ++ (codes " " ++ (decimal c.args.count ++ 10 ∷ []))) _
    c.in-Ok.ensures.content (rw (
      c.as_bytes.ensures.value,
      c.word.ensures,
    ) at c.put_place.ensures.content)

pub returns-in-Err-clause-content : goal.returns-in-Err-clause-content
returns-in-Err-clause-content g c = takes_front _ _ (codes "limit " ++ c.args.file.now)
    ((codes " " ++ word_of c.args.what) ++ (codes " " ++ (decimal c.args.count ++ 10 ∷ []))) _
    c.in-Err.ensures.content
