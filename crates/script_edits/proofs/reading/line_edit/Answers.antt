use Rattle.std.proofs.Common.{None, refl}
use Rattle.script_edits.proofs.Unbroken.{says_none, is_alone, some_line, first_says, said_so}
use Rattle.script_edits.proofs.reading.line_edit.Goals as goal

pub returns-in-Err-BadLine : goal.returns-in-Err-BadLine
returns-in-Err-BadLine c =
    let h = rw c.in-Err-BadLine.field-0-is at c.in-Err-BadLine.ensures.exact in
    record {
      exact = rw (says_none c.args.line.now _ c.requires.unbroken c.requires.looked_at h) refl;
      fitting = tt;
    }

pub returns-in-Err-TooLong : goal.returns-in-Err-TooLong
returns-in-Err-TooLong c =
    let h = rw c.in-Err-TooLong.field-0-is at c.in-Err-TooLong.ensures.exact in
    record {
      exact = rw (says_none c.args.line.now _ c.requires.unbroken c.requires.looked_at h) refl;
      fitting = tt;
    }

pub returns-in_default-clause-exact : goal.returns-in_default-clause-exact
returns-in_default-clause-exact c =
    let a = is_alone c.args.line.now c.in-Ok.lines.items c.requires.unbroken c.requires.looked_at
    c.in-Ok.ensures.exact in
    absurd (some_line c.args.line.now c.in-Ok.lines.items None a refl
    (rw (c.in_default.is, c.deref.ensures.value) at c.first.ensures.value))

pub returns-in-Ok-Some-clause-exact : goal.returns-in-Ok-Some-clause-exact
returns-in-Ok-Some-clause-exact c =
    let a = is_alone c.args.line.now c.in-Ok.lines.items c.requires.unbroken c.requires.looked_at
    c.in-Ok.ensures.exact in
    let says = first_says c.args.line.now c.in-Ok.lines.items c.in-Some.words.now a
    (rw c.deref.ensures.value at c.in-Some.ensures.value) in
    said_so c.args.number c.args.line.now c.in-Some.words.now.words _ says
    (rw c.in-Ok-Some.field-0-is at c.in-Ok-Some.ensures.exact)

pub returns-in-Ok-None-clause-exact : goal.returns-in-Ok-None-clause-exact
returns-in-Ok-None-clause-exact c =
    let a = is_alone c.args.line.now c.in-Ok.lines.items c.requires.unbroken c.requires.looked_at
    c.in-Ok.ensures.exact in
    let says = first_says c.args.line.now c.in-Ok.lines.items c.in-Some.words.now a
    (rw c.deref.ensures.value at c.in-Some.ensures.value) in
    said_so c.args.number c.args.line.now c.in-Some.words.now.words _ says
    (rw c.in-Ok-None.field-0-is at c.in-Ok-None.ensures.exact)
