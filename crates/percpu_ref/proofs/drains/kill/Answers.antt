use Rattle.std.proofs.Common.{Option, ◌%◌, ◌∙◌, List, length, sym, refl, ap, subst, arith}
use Rattle.std.proofs.lemmas.List.{length-set}
use Rattle.atomic_table.specs.Table.{Me}
use Rattle.ref_state.specs.declared.state.Mark.{Mark}
use Rattle.ref_state.specs.State.{total, word_of, word_end}
use Rattle.table_rule.specs.declared.rule.Told.{Told}
use Rattle.table_rule.specs.Plays.{killed}
use Rattle.rcu_sections.specs.Grace.{round, Noted, marks_after, base_word, after_looks}
use Rattle.rcu_sections.proofs.Looking.{length_after, noted_after, bases_after, drains_length}
use Rattle.percpu_ref.specs.Lives.{IsKilled}
use Rattle.percpu_ref.proofs.Killing.{life_bases, kill_tells}
use Rattle.percpu_ref.proofs.drains.kill.Goals as goal

pub invariant_of-editor-clause-seats_are : goal.invariant_of-editor-clause-seats_are
invariant_of-editor-clause-seats_are g c = c.args.editor.now.seats_are ∙ sym (ap (λ (z : Me (Option g.row.S.Denot) Told). z.0.seats) c.look_round-words.ensures.told ∙ ap (λ (z : Me (Option g.row.S.Denot) Told). z.0.seats) c.kill.ensures.view)

pub invariant_of-editor-clause-drains_are : goal.invariant_of-editor-clause-drains_are
invariant_of-editor-clause-drains_are g c = let v = c.args.editor.now.seat.base.me.0 in
    ap (λ (z : Me (Option g.row.S.Denot) Told). length z.0.notes.drains) c.look_round-words.ensures.told
    ∙ (drains_length (round c.args.editor.now.seats c.look_round-words.result) c.kill.new.seat.base.me.0.notes.drains
    ∙ (ap (λ (z : Me (Option g.row.S.Denot) Told). length z.0.notes.drains) c.kill.ensures.view
    ∙ (length-set v.notes.drains c.args.disk (killed v.seats c.args.disk v.notes) ∙ c.args.editor.now.drains_are)))

pub invariant_of-editor-clause-long : goal.invariant_of-editor-clause-long
invariant_of-editor-clause-long g c = ap (λ (z : Me (Option g.row.S.Denot) Told). length z.0.notes.marks) c.look_round-words.ensures.told
    ∙ (length_after (round c.args.editor.now.seats c.look_round-words.result) c.kill.new.seat.base.me.0.notes.marks
    ∙ (ap (λ (z : Me (Option g.row.S.Denot) Told). length z.0.notes.marks) c.kill.ensures.view ∙ c.args.editor.now.long))

pub invariant_of-editor-clause-noted : goal.invariant_of-editor-clause-noted
invariant_of-editor-clause-noted g c = let e = c.args.editor.now in
    subst (λ (ms : List Mark). Noted e.seats e.words ms)
    (sym (ap (λ (z : Me (Option g.row.S.Denot) Told). z.0.notes.marks) c.look_round-words.ensures.told
    ∙ ap (λ (z : Me (Option g.row.S.Denot) Told). marks_after (round e.seats c.look_round-words.result) z.0.notes.marks) c.kill.ensures.view))
    (noted_after e.seats (round e.seats c.look_round-words.result) e.words e.seat.base.me.0.notes.marks e.noted)

pub invariant_of-editor-clause-bases_are : goal.invariant_of-editor-clause-bases_are
invariant_of-editor-clause-bases_are g c = λ d near. let e = c.args.editor.now in let v = e.seat.base.me.0 in
    e.bases_are d near ∙ sym (ap (λ (z : Me (Option g.row.S.Denot) Told). base_word z.0.notes d) c.look_round-words.ensures.told
    ∙ (ap (λ cs. total word_of cs % word_end) (bases_after (round e.seats c.look_round-words.result) c.kill.new.seat.base.me.0.notes d)
    ∙ (ap (λ (z : Me (Option g.row.S.Denot) Told). base_word z.0.notes d) c.kill.ensures.view
    ∙ ap (λ cs. total word_of cs % word_end) (life_bases v.notes c.args.disk d (killed v.seats c.args.disk v.notes) refl))))

pub returns-clause-killed : goal.returns-clause-killed
returns-clause-killed g c = let e = c.args.editor.now in let v = e.seat.base.me.0 in let ws = c.look_round-words.result in
    let all = ap (λ (z : Me (Option g.row.S.Denot) Told). z.0) c.look_round-words.ensures.told
    ∙ ap (λ (z : Me (Option g.row.S.Denot) Told). after_looks (round e.seats ws) z.0) c.kill.ensures.view in
    subst (λ (w : Told). IsKilled c.args.disk ws w) (sym all)
    (kill_tells e.seats c.args.disk ws v e.seats_are (let n = e.drains_are in let near = c.requires.near.1 in omega arith))
