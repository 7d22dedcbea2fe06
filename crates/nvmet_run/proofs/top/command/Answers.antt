use Rattle.std.proofs.Common.{◌≡◌, ℕ, List, Some, sym, ap, subst, ◌∙◌}
use Rattle.command_words.specs.declared.words.Words.{Words}
use Rattle.command_words.specs.declared.words.Words.TheVariants as words
use Rattle.run_outcomes.specs.Outsides.{told_by}
use Rattle.nvmet_run.specs.Answers.{TellsNone}
use Rattle.nvmet_run.proofs.Serving.{word_is}
use Rattle.nvmet_run.proofs.top.command.Goals as goal

pub returns-in-Some-clause-complete : goal.returns-in-Some-clause-complete
returns-in-Some-clause-complete g c = λ w said tells quiet calm.
    let old = c.args.files.now in
    let told = told_by (g.F.Files.tells old) (g.F.Files.told old) in
    let same : w ≡ words.Run c.in-Ok-Run.plan =
    word_is w c.in-Ok-Run.field-0 (sym said ∙ c.in-Ok-Run.ensures.reads) ∙ c.in-Ok-Run.field-0-is in
    let here : TellsNone told (words.Run c.in-Some.plan.now) =
    subst (λ (x : Words). TellsNone told x) (same
    ∙ ap (λ (p : List ℕ). words.Run p) (sym c.in-Some.ensures.text)) tells in
    c.run_plan.ensures.complete here.0 here.1 quiet calm
