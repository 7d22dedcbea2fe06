use Rattle.std.proofs.Common.{sym, ◌∙◌, arith}
use Rattle.response_files.proofs.Numbers.{no_text, unparsed, parsed, otherwise_spelled}
use Rattle.response_files.proofs.journal_lines.number.Goals as goal

pub returns-in_default : goal.returns-in_default
returns-in_default c = no_text c.args.word.now c.in_default.ensures.cases.0

pub returns-in_default-parse : goal.returns-in_default-parse
returns-in_default-parse c =
    let same = c.in-Ok.ensures.cases.0 in
    unparsed c.args.word.now c.in_default-parse.field-0
    (rw same at c.in_default-parse.ensures.value.0)

pub returns-then-spells : goal.returns-then-spells
returns-then-spells c = parsed c.args.word.now c.in-Ok-parse.number (omega arith)
    (sym c.spells.ensures ∙ c.if-spells.true)

pub returns : goal.returns
returns c =
    let same = c.in-Ok.ensures.cases.0 in
    otherwise_spelled c.args.word.now c.in-Ok-parse.number c.parse.result c.in-Ok-parse.is
    (rw same at c.parse.ensures.value.0) (sym c.spells.ensures ∙ c.if-spells.false)
