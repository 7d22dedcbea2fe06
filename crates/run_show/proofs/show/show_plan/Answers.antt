use Rattle.run_outcomes.specs.Outsides.{told_by, files_view}
use Rattle.run_show.proofs.Settling.{none_but_fault, exact_fault, complete_fault}
use Rattle.run_show.proofs.show.show_plan.Goals as goal

pub returns-in-Ok-clause-exact : goal.returns-in-Ok-clause-exact
returns-in-Ok-clause-exact g c = λ f tells quiet.
    let files = g.F.Files in
    let old = c.args.files.now in
    let new = c.show_whole.new.files in
    let before = files_view (told_by (files.tells old) (files.told old)) (files.faults old)
    (files.last old) in
    let after = files_view (told_by (files.tells new) (files.told new)) (files.faults new)
    (files.last new) in
    none_but_fault before after _ _ f c.in-Ok.ensures.shown.was_read tells quiet

pub returns-in-Err-clause-exact : goal.returns-in-Err-clause-exact
returns-in-Err-clause-exact g c = λ f tells quiet.
    exact_fault _ _ _ _ f c.in-Err.ensures.refused tells quiet

pub returns-in-Err-clause-complete : goal.returns-in-Err-clause-complete
returns-in-Err-clause-complete g c = λ s tells quiet calm.
    complete_fault _ _ _ _ s c.in-Err.ensures.refused tells quiet calm
