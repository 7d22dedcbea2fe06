use Rattle.std.proofs.Common.{◌≡◌, ◌-◌, ℕ, List, [], ◌∷◌, length, set, arith, ap, sym, ◌∙◌, subst}
use Rattle.ref_state.specs.declared.state.Phase.TheVariants as phase
use Rattle.ref_state.specs.State.{drain, conf, overlaid}
use Rattle.table_rule.specs.Plays.{spare_of}
use Rattle.table_seats.specs.Publishing.{Publishes}
use Rattle.table_seats.proofs.Showing as publishing
use Rattle.table_seats.proofs.Submitting.{Mine}
use Rattle.table_seats.proofs.publishing.show_by.Goals as goal

pub publish-requires-clause-live : goal.publish-requires-clause-live
publish-requires-clause-live g c = let e = c.requires.edits in let one = c.requires.plan.1 in
    λ d near shown. let z : d ≡ 0 = omega arith in subst (λ k. (drain c.store_row.new.seat.base.me.0.notes k).phase ≡ phase.Live) (sym z)
    (ap (λ (w : Mine). (drain w.0.notes 0).phase) c.store_row.ensures.view ∙ e.live)

pub publish-requires-clause-words : goal.publish-requires-clause-words
publish-requires-clause-words g c = let e = c.requires.edits in let v = c.store_row.ensures.view in let old = c.args.editor.now.base.me.0.notes in
    let l : List ℕ = overlaid (conf old (length old.published - 1)) old.pending in
    let spare : spare_of c.store_row.new.seat.base.me.0.notes ≡ set l 0 c.args.number = ap (λ (z : Mine). spare_of z.0.notes) v in
    λ t steady long. ap (λ s. s ∷ []) (publishing.shows t c.args.number c.requires.number (ap (λ (q : ℕ × ℕ). q.1) steady.desk ∙ (ap (λ (z : Mine). (Rattle.table_rule.specs.Meant.target Rattle.table_seats.specs.EndingMeans.ending_means z.0.known).draining) v ∙ e.calm)))
    ∙ (publishing.set_first l c.args.number (ap length (sym spare) ∙ (long ∙ c.requires.plan.0)) ∙ sym spare)

pub returns-clause-edits : goal.returns-clause-edits
returns-clause-edits g c = let e = c.requires.edits in
    let stored : Publishes c.store_row.new.seat.base.me.0 = subst (λ (z : Mine). Publishes z.0) (sym c.store_row.ensures.view) record { number = e.number; seats = e.seats; claim = e.claim; calm = e.calm; live = e.live; marks = e.marks } in
    publishing.publishes c.args.number c.store_row.new.seat.base.me.0 c.publish.new.seat.base.me.0 c.publish.result.0 c.publish.result.1 c.requires.number stored c.publish.ensures.published
