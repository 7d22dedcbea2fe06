use Rattle.std.proofs.Common.{◌≡◌, ℕ, true, List, sym, subst, ◌∙◌}
use Rattle.command_words.specs.Commands.{are_said}
use Rattle.command_words.specs.declared.words.Words.TheVariants as words
use Rattle.gen_files.specs.Seeds.{is_base}
use Rattle.nvmet_run.proofs.Serving.{said_is_base}
use Rattle.nvmet_run.proofs.commands.seed_of.Goals as goal

pub returns-clause-said : goal.returns-clause-said
returns-clause-said c =
    let said : are_said (words.Gen c.args.n c.args.name.now) ≡ true =
    sym c.may_generate.ensures ∙ c.if-not-may_generate.false in
    let base : is_base c.args.n c.in_ok-copy.copy ≡ true =
    subst (λ (name : List ℕ). is_base c.args.n name ≡ true) (sym (c.in_ok-copy.ensures ∙ c.as_bytes.ensures))
    (said_is_base c.args.n c.args.name.now said) in
    c.new.ensures.exact.1 base ∙ sym said
