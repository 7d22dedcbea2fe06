use Rattle.std.proofs.Common.{sym, ◌∙◌}
use Rattle.plan_files.proofs.Wording.{no_numeral, parsed}
use Rattle.command_words.proofs.numerals.number.Goals as goal

pub returns-then-not-is_numeral : goal.returns-then-not-is_numeral
returns-then-not-is_numeral c =
    let told = rw c.as_bytes.ensures.value at c.is_numeral.ensures in
    sym (no_numeral c.args.word.now (sym told ∙ c.if-not-is_numeral.true))

pub returns : goal.returns
returns c =
    let told = rw c.as_bytes.ensures.value at c.is_numeral.ensures in
    c.ok.ensures.value
    ∙ parsed c.args.word.now c.parse.result (sym told ∙ c.if-not-is_numeral.false)
    c.parse.ensures.value.0
