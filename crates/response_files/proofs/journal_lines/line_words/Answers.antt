use Rattle.response_files.proofs.Wording.{too_many}
use Rattle.response_files.proofs.journal_lines.line_words.Goals as goal

pub returns-in-Some-rest-3 : goal.returns-in-Some-rest-3
returns-in-Some-rest-3 c =
    let first = rw c.in-Some.is at c.cut_at.ensures.parts in
    let second = rw c.in-Some-rest.is at c.cut_at-2.ensures.parts in
    let third = rw c.in-Some-rest-2.is at c.cut_at-3.ensures.parts in
    let fourth = rw c.in-Some-rest-3.is at c.cut_at-4.ensures.parts in
    too_many c.args.line.now c.in-Some.rest.now c.in-Some-rest.rest.now c.in-Some-rest-2.rest.now
    c.in-Some-rest-3.field-0.now
    c.cut_at.result.0.now c.cut_at-2.result.0.now c.cut_at-3.result.0.now c.cut_at-4.result.0.now
    first second third fourth
