use Rattle.std.proofs.Common.{sym, ◌∙◌}
use Rattle.plan_files.proofs.Wording.{no_numeral, numeral_is_text, parsed}
use Rattle.plan_files.proofs.line_items.number.Goals as goal

pub returns-then-not-is_numeral : goal.returns-then-not-is_numeral
returns-then-not-is_numeral c = sym (no_numeral c.args.word.now (sym c.is_numeral.ensures
    ∙ c.if-not-is_numeral.true))

pub returns-in-Ok : goal.returns-in-Ok
returns-in-Ok c =
    let same = c.in-Ok.ensures.cases.0 in
    let e = sym c.is_numeral.ensures ∙ c.if-not-is_numeral.false in
    c.ok.ensures.value
    ∙ parsed c.args.word.now c.parse.result e (rw same at c.parse.ensures.value.0)

pub returns-in-Err : goal.returns-in-Err
returns-in-Err c =
    let e = sym c.is_numeral.ensures ∙ c.if-not-is_numeral.false in
    absurd (c.in-Err.ensures.cases.0 (numeral_is_text c.args.word.now e))
