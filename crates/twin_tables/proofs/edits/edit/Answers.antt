use Rattle.std.proofs.Common.{Option, ◌≡◌, ◌-◌, ◌∷◌, ◌∙◌, ℕ, sym, ap, subst, arith}
use Rattle.atomic_table.specs.Table.{Me}
use Rattle.table_rule.specs.declared.rule.Told.{Told}
use Rattle.twin_tables.proofs.Keepers as keepers
use Rattle.ref_state.specs.declared.state.Phase.TheVariants.{Live}
use Rattle.ref_state.specs.State.{drain}
use Rattle.rcu_sections.specs.Grace.{round}
use Rattle.rcu_sections.proofs.Looking.{phase_after}
use Rattle.ref_state.specs.declared.kinds.Tag.{Tag}
use Rattle.twin_tables.specs.Keeping.{Edits}
use Rattle.twin_tables.proofs.edits.edit.Goals as goal

pub returns-in-Err-clause-live : goal.returns-in-Err-clause-live
returns-in-Err-clause-live g c = let t = c.spare.ensures.told in let v = c.args.editor.now.seat.base.me.0 in
    (keepers.in_after Live 0 t.0 v c.spare.new.editor.seat.base.me.0 (ap (λ (z : Me (Option ℕ) Told). z.0) t.1) c.requires.live.0, keepers.in_after Live 1 t.0 v c.spare.new.editor.seat.base.me.0 (ap (λ (z : Me (Option ℕ) Told). z.0) t.1) c.requires.live.1)

pub returns-in-Err-clause-reading : goal.returns-in-Err-clause-reading
returns-in-Err-clause-reading g c = let t = c.spare.ensures.told in let e = c.requires.edits in let x = c.spare.new.editor.seat in let y = c.args.editor.now.seat in
    ((e.0, keepers.edits_after e.0 t.0 y.base.me.0 x.base.me.0 (ap (λ (z : Me (Option ℕ) Told). z.0) t.1) e.1), x.left_is ∙ (ap (λ (z : Me (Option ℕ) Told). z.0.view.left) t.1 ∙ sym y.left_is))

pub publish-requires-clause-live : goal.publish-requires-clause-live
publish-requires-clause-live g c = let t = c.spare.ensures.told in let v = c.args.editor.now.seat.base.me.0 in let plan = c.requires.plan.1 in
    let there : (d : ℕ) → (drain c.set_row-2.new.editor.seat.base.me.0.notes d).phase ≡ (drain v.notes d).phase = λ d. ap (λ (z : Me (Option ℕ) Told). (drain z.0.notes d).phase) c.set_row-2.ensures.view
    ∙ (ap (λ (z : Me (Option ℕ) Told). (drain z.0.notes d).phase) c.set_row.ensures.view ∙ (ap (λ (z : Me (Option ℕ) Told). (drain z.0.notes d).phase) t.1 ∙ phase_after t.0 v.notes d)) in
    λ d near shown. there d ∙ keepers.either d v (omega arith) c.requires.live.0 c.requires.live.1

pub publish-requires-clause-words : goal.publish-requires-clause-words
publish-requires-clause-words g c = λ t steady long. let p = c.spare.new.editor.seat.base.me.0.notes.pending in
    let set_both : c.set_row-2.new.editor.seat.base.me.0.notes.pending ≡ (1, c.args.number) ∷ ((0, c.args.number) ∷ p) = ap (λ (z : Me (Option ℕ) Told). z.0.notes.pending) c.set_row-2.ensures.view
    ∙ ap (λ (z : Me (Option ℕ) Told). (1, c.args.number) ∷ z.0.notes.pending) c.set_row.ensures.view in
    sym (keepers.spare_words c.args.number c.set_row-2.new.editor.seat.base.me.0.notes p set_both (long ∙ c.requires.plan.0))

pub returns-clause-live : goal.returns-clause-live
returns-clause-live g c = let t = c.spare.ensures.told in let v = c.args.editor.now.seat.base.me.0 in let p = c.publish.ensures.published in
    let there : (d : ℕ) → (drain c.publish.new.editor.seat.base.me.0.notes d).phase ≡ (drain v.notes d).phase = λ d. ap (λ (z : Told). (drain z.notes d).phase) p.2 ∙ (phase_after (round c.set_row-2.new.editor.seats c.publish.new.editor.words) p.0.notes d
    ∙ (ap (λ (z : Told). (drain z.notes d).phase) p.1.told ∙ (ap (λ (z : Me (Option ℕ) Told). (drain z.0.notes d).phase) c.set_row-2.ensures.view
    ∙ (ap (λ (z : Me (Option ℕ) Told). (drain z.0.notes d).phase) c.set_row.ensures.view ∙ (ap (λ (z : Me (Option ℕ) Told). (drain z.0.notes d).phase) t.1 ∙ phase_after t.0 v.notes d))))) in
    (there 0 ∙ c.requires.live.0, there 1 ∙ c.requires.live.1)

pub returns-clause-edited : goal.returns-clause-edited
returns-clause-edited g c = let t = c.spare.ensures.told in let e = c.requires.edits in let v = c.args.editor.now.seat in let a = c.spare.new.editor.seat in let w = c.set_row-2.new.editor.seat in let p = c.publish.ensures.published in let n = c.args.number in
    let tag : Tag = record { kind = 6; caller = 0; number = n } in
    let begun = keepers.edits_after e.0 t.0 v.base.me.0 a.base.me.0 (ap (λ (z : Me (Option ℕ) Told). z.0) t.1) e.1 in
    let set_up : Edits e.0 w.base.me.0 = subst (λ (z : Me (Option ℕ) Told). Edits e.0 z.0) (sym (c.set_row-2.ensures.view ∙ ap (λ (z : Me (Option ℕ) Told). (record z.0 { notes = record z.0.notes { pending = (1, n) ∷ z.0.notes.pending } }, z.1)) c.set_row.ensures.view))
    record { claim = begun.claim; confs = begun.confs; before = begun.before; shown = begun.shown } in
    let set_both : w.base.me.0.notes.pending ≡ (1, n) ∷ ((0, n) ∷ a.base.me.0.notes.pending) = ap (λ (z : Me (Option ℕ) Told). z.0.notes.pending) c.set_row-2.ensures.view
    ∙ ap (λ (z : Me (Option ℕ) Told). (1, n) ∷ z.0.notes.pending) c.set_row.ensures.view in
    let done = keepers.edited n c.publish.result.0 c.publish.result.1 tag w.base.me.0 p.0 e.0 a.base.me.0.notes.pending set_up set_both p.1 in
    let before : w.base.me.0.view.left ≡ v.base.me.0.view.left = ap (λ (z : Me (Option ℕ) Told). z.0.view.left) c.set_row-2.ensures.view
    ∙ (ap (λ (z : Me (Option ℕ) Told). z.0.view.left) c.set_row.ensures.view ∙ ap (λ (z : Me (Option ℕ) Told). z.0.view.left) t.1) in
    let after : c.publish.new.editor.seat.base.me.0.view.left ≡ w.base.me.0.view.left - 1 = ap (λ (z : Told). z.view.left) p.2 ∙ ap (λ (z : Told). z.view.left) p.1.told in
    let now = c.publish.new.editor.seat.left_is in let then = v.left_is in let some = c.requires.left in (
      keepers.edits_after n (round c.set_row-2.new.editor.seats c.publish.new.editor.words) p.0 c.publish.new.editor.seat.base.me.0 p.2 done,
      omega arith,
    )

pub returns-clause-edits : goal.returns-clause-edits
returns-clause-edits g c = let t = c.spare.ensures.told in let e = c.requires.edits in let v = c.args.editor.now.seat in let a = c.spare.new.editor.seat in let w = c.set_row-2.new.editor.seat in let p = c.publish.ensures.published in let n = c.args.number in
    let tag : Tag = record { kind = 6; caller = 0; number = n } in
    let begun = keepers.edits_after e.0 t.0 v.base.me.0 a.base.me.0 (ap (λ (z : Me (Option ℕ) Told). z.0) t.1) e.1 in
    let set_up : Edits e.0 w.base.me.0 = subst (λ (z : Me (Option ℕ) Told). Edits e.0 z.0) (sym (c.set_row-2.ensures.view ∙ ap (λ (z : Me (Option ℕ) Told). (record z.0 { notes = record z.0.notes { pending = (1, n) ∷ z.0.notes.pending } }, z.1)) c.set_row.ensures.view))
    record { claim = begun.claim; confs = begun.confs; before = begun.before; shown = begun.shown } in
    let set_both : w.base.me.0.notes.pending ≡ (1, n) ∷ ((0, n) ∷ a.base.me.0.notes.pending) = ap (λ (z : Me (Option ℕ) Told). z.0.notes.pending) c.set_row-2.ensures.view
    ∙ ap (λ (z : Me (Option ℕ) Told). (1, n) ∷ z.0.notes.pending) c.set_row.ensures.view in
    let done = keepers.edited n c.publish.result.0 c.publish.result.1 tag w.base.me.0 p.0 e.0 a.base.me.0.notes.pending set_up set_both p.1 in
    (n, keepers.edits_after n (round c.set_row-2.new.editor.seats c.publish.new.editor.words) p.0 c.publish.new.editor.seat.base.me.0 p.2 done)
