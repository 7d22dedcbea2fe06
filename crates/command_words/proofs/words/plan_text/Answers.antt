use Rattle.std.proofs.Common.{sym, ◌∙◌}
use Rattle.command_words.proofs.Texts.{plan_name_is_text}
use Rattle.command_words.proofs.words.plan_text.Goals as goal

pub unreachable-requires : goal.unreachable-requires
unreachable-requires c =
    let named = rw c.as_bytes.ensures at c.is_plan_name.ensures in
    let wrong = c.in-None.ensures.text (plan_name_is_text _ (sym named
    ∙ c.if-not-is_plan_name.false)) in
    absurd cc
