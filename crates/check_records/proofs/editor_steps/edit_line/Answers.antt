use Rattle.std.proofs.Common.{sym, ◌∙◌, true≢false}
use Rattle.check_records.specs.Editors.{disabled_at}
use Rattle.check_records.proofs.Editing.{edit_there, none_of, next_is, edit_departs, edit_goes, edit_progress}
use Rattle.check_records.proofs.editor_steps.edit_line.Goals as goal

pub returns-clause-steps : goal.returns-clause-steps
returns-clause-steps c = λ t st.
    let script = c.args.script.now in
    let at = c.args.at.now in
    let there = edit_there script at.made c.in-Some.s.now c.in-Some.ensures.lookup.3.0 (c.in-Some.ensures.lookup.3.1 _) in
    let none = none_of c.open_drain.result (sym c.is_some.ensures ∙ c.if-is_some.false) in
    edit_departs _ t script at.made c.args.line c.in-Some.s.now c.args.answer.now c.in_ok-reply.reply _ c.edit.new.self
    (next_is t script at.made c.in-Some.s.now c.open_drain.result (disabled_at script at) (c.open_drain.ensures.next t _ st) none there)
    there c.if-s-line.false (c.in_ok-reply.ensures.does t st)
    (λ same. true≢false (sym (c.is_same_reply.ensures.1 (c.reply_told.ensures ∙ same)) ∙ c.if-is_same_reply.false))

pub returns-then-is_same_reply-clause-steps : goal.returns-then-is_same_reply-clause-steps
returns-then-is_same_reply-clause-steps c = λ t st.
    let script = c.args.script.now in
    let at = c.args.at.now in
    let there = edit_there script at.made c.in-Some.s.now c.in-Some.ensures.lookup.3.0 (c.in-Some.ensures.lookup.3.1 _) in
    let none = none_of c.open_drain.result (sym c.is_some.ensures ∙ c.if-is_some.false) in
    edit_goes _ t script at.made c.args.line c.in-Some.s.now c.args.answer.now c.in_ok-reply.reply c.edit.new.self
    (next_is t script at.made c.in-Some.s.now c.open_drain.result (disabled_at script at) (c.open_drain.ensures.next t _ st) none there)
    there c.if-s-line.false (c.in_ok-reply.ensures.does t st)
    (sym c.reply_told.ensures ∙ c.is_same_reply.ensures.0 c.if-is_same_reply.true)

pub returns-then-is_same_reply-clause-progress : goal.returns-then-is_same_reply-clause-progress
returns-then-is_same_reply-clause-progress c = λ is.
    let script = c.args.script.now in
    let at = c.args.at.now in
    edit_progress script at c.args.line c.in-Some.s.now c.args.answer.now
    (edit_there script at.made c.in-Some.s.now c.in-Some.ensures.lookup.3.0 (c.in-Some.ensures.lookup.3.1 _))
    c.if-s-line.false
