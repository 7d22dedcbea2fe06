use Rattle.std.proofs.Common.{Option, ◌%◌, ◌++◌, List, ◌∙◌, length, sym, ap, subst}
use Rattle.std.proofs.lemmas.List.{length-replicate}
use Rattle.atomic_table.specs.Table.{Me}
use Rattle.ref_state.specs.declared.state.Mark.{Mark}
use Rattle.ref_state.specs.declared.state.Mark.TheVariants.{Unseen}
use Rattle.ref_state.specs.State.{mark, total, word_of, word_end}
use Rattle.table_rule.specs.declared.rule.Told.{Told}
use Rattle.table_rule.specs.Meant.{target}
use Rattle.table_rule.proofs.Histories.{target_snoc}
use Rattle.rcu_sections.specs.Grace.{round, Noted, base_word}
use Rattle.rcu_sections.proofs.Looking.{length_after, round_noted, unseen_fresh, bases_after, drains_length}
use Rattle.rcu_sections.proofs.sides.publish.Goals as goal

pub invariant_of-editor-clause-seats_are : goal.invariant_of-editor-clause-seats_are
invariant_of-editor-clause-seats_are g c = c.args.editor.now.seats_are ∙ (sym (ap (λ (z : Told). z.seats) c.publish-drew.ensures.published.told)
    ∙ sym (ap (λ (z : Me (Option g.row.S.Denot) Told). z.0.seats) c.look_round-editor.ensures.told))

pub invariant_of-editor-clause-long : goal.invariant_of-editor-clause-long
invariant_of-editor-clause-long g c = let p = c.publish-drew.ensures.published in let seats = c.args.editor.now.seats in let ws = c.look_round-editor.result in
    ap (λ (z : Me (Option g.row.S.Denot) Told). length z.0.notes.marks) c.look_round-editor.ensures.told
    ∙ (length_after (round seats ws) c.publish-drew.new.seat.base.me.0.notes.marks
    ∙ (ap (λ (z : Told). length z.notes.marks) p.told ∙ (length-replicate c.args.editor.now.seat.base.me.0.seats Unseen ∙ sym c.args.editor.now.seats_are)))

pub invariant_of-editor-clause-noted : goal.invariant_of-editor-clause-noted
invariant_of-editor-clause-noted g c = let p = c.publish-drew.ensures.published in let seats = c.args.editor.now.seats in let ws = c.look_round-editor.result in
    let fresh = ap (λ (z : Told). z.notes.marks) p.told in
    subst (λ (ms : List Mark). Noted seats ws ms) (sym (ap (λ (z : Me (Option g.row.S.Denot) Told). z.0.notes.marks) c.look_round-editor.ensures.told))
    (round_noted seats ws c.publish-drew.new.seat.base.me.0.notes.marks (ap length fresh ∙ (length-replicate c.args.editor.now.seat.base.me.0.seats Unseen ∙ sym c.args.editor.now.seats_are))
    (λ j near. ap (λ ms. mark ms j) fresh ∙ unseen_fresh c.args.editor.now.seat.base.me.0.seats j))

pub invariant_of-editor-clause-bases_are : goal.invariant_of-editor-clause-bases_are
invariant_of-editor-clause-bases_are g c = λ d near. let p = c.publish-drew.ensures.published in let seats = c.args.editor.now.seats in let ws = c.look_round-editor.result in
    c.args.editor.now.bases_are d near ∙ sym (ap (λ (z : Me (Option g.row.S.Denot) Told). base_word z.0.notes d) c.look_round-editor.ensures.told
    ∙ (ap (λ cs. total word_of cs % word_end) (bases_after (round seats ws) c.publish-drew.new.seat.base.me.0.notes d) ∙ ap (λ (z : Told). base_word z.notes d) p.told))

pub returns-clause-shows : goal.returns-clause-shows
returns-clause-shows g c = λ long. let p = c.publish-drew.ensures.published in let old = c.args.editor.now.seat.base.me.0 in let m = g.M.Means.means in
    ap (λ (z : Me (Option g.row.S.Denot) Told). m.words (target m z.0.known)) c.look_round-editor.ensures.told
    ∙ (ap (λ (z : Told). m.words (target m z.known)) p.told
    ∙ (ap m.words (target_snoc m (old.known ++ p.between) c.args.call) ∙ c.requires.words (target m (old.known ++ p.between)) p.steady long))

pub invariant_of-editor-clause-drains_are : goal.invariant_of-editor-clause-drains_are
invariant_of-editor-clause-drains_are g c = ap (λ (z : Me (Option g.row.S.Denot) Told). length z.0.notes.drains) c.look_round-editor.ensures.told
    ∙ (drains_length (round c.args.editor.now.seats c.look_round-editor.result) c.publish-drew.new.seat.base.me.0.notes.drains
    ∙ (ap (λ (z : Told). length z.notes.drains) c.publish-drew.ensures.published.told ∙ c.args.editor.now.drains_are))
