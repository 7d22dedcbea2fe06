use Rattle.std.proofs.Common.{ℕ, List, sym, ap, subst, ◌∙◌}
use Rattle.command_words.specs.declared.words.Words.{Words}
use Rattle.command_words.specs.declared.words.Words.TheVariants as words
use Rattle.run_outcomes.specs.Outsides.{told_by}
use Rattle.nvmet_run.specs.Answers.{TellsNone}
use Rattle.nvmet_run.proofs.commands.plain.Goals as goal

pub returns-in-Some-clause-complete : goal.returns-in-Some-clause-complete
returns-in-Some-clause-complete g c = λ said tells quiet calm.
    let old = c.args.files.now in
    let told = told_by (g.F.Files.tells old) (g.F.Files.told old) in
    let here : TellsNone told (words.Check c.in-Some.plan.now) =
    subst (λ (w : Words). TellsNone told w) (c.in-Check.is
    ∙ ap (λ (p : List ℕ). words.Check p) (sym c.in-Some.ensures.text)) tells in
    c.check_named.ensures.complete here.0 here.1 here.2 quiet calm

pub returns-in-Some-plan_text-clause-complete : goal.returns-in-Some-plan_text-clause-complete
returns-in-Some-plan_text-clause-complete g c = λ said tells quiet calm.
    let old = c.args.files.now in
    let told = told_by (g.F.Files.tells old) (g.F.Files.told old) in
    let here : TellsNone told (words.Show c.in-Some-plan_text.plan.now) =
    subst (λ (w : Words). TellsNone told w) (c.in-Show.is
    ∙ ap (λ (p : List ℕ). words.Show p) (sym c.in-Some-plan_text.ensures.text)) tells in
    c.show_named.ensures.complete here.0 here.1 quiet calm
