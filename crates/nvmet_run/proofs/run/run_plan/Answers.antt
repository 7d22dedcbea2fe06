use Rattle.std.proofs.Common.{inr}
use Rattle.run_outcomes.specs.Outsides.{told_by, files_view}
use Rattle.nvmet_run.proofs.Settling.{read_settles, exact_fault, complete_fault}
use Rattle.nvmet_run.proofs.run.run_plan.Goals as goal

pub returns-in-Ok-clause-exact : goal.returns-in-Ok-clause-exact
returns-in-Ok-clause-exact g c = λ f tells quiet.
    let files = g.F.Files in
    let old = c.args.files.now in
    let new = c.run_whole.new.files in
    let before = files_view (told_by (files.tells old) (files.told old)) (files.faults old)
    (files.last old) in
    let after = files_view (told_by (files.tells new) (files.told new)) (files.faults new)
    (files.last new) in
    absurd (read_settles before after _ _ f c.told_files_settle.ensures
    c.in-Ok.ensures.ran.made.read tells quiet)

pub returns-in-Err-clause-exact : goal.returns-in-Err-clause-exact
returns-in-Err-clause-exact g c = λ f tells quiet. rw c.of.ensures
    (exact_fault _ _ _ _ f c.told_files_settle.ensures c.in-Err.ensures.refused tells quiet)

pub returns-in-Err-clause-complete : goal.returns-in-Err-clause-complete
returns-in-Err-clause-complete g c = λ s tells quiet calm. rw c.of.ensures
    (inr (complete_fault _ _ _ _ s c.told_files_settle.ensures c.in-Err.ensures.refused tells quiet
    calm))
