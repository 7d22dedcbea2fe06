use Rattle.std.proofs.Common.{Option, ◌≡◌, ◌∙◌, ℕ, sym, ap, subst}
use Rattle.atomic_table.specs.Table.{Me}
use Rattle.ref_state.specs.declared.kinds.Tag.{Tag}
use Rattle.ref_state.specs.Steps.{after_leave}
use Rattle.table_rule.specs.declared.rule.Told.{Told}
use Rattle.target_table.specs.declared.table.Seat.{Seat}
use Rattle.patched_tables.specs.Keeping.{Rests}
use Rattle.patched_tables.proofs.Keepers as keepers
use Rattle.compared_sections.proofs.comparing.compare.Goals as goal

pub returns-clause-rests : goal.returns-clause-rests
returns-clause-rests g c =
    let tag : Tag = record { kind = 0; caller = c.args.seat.now.number; number = c.args.number } in let v = c.args.seat.now.base.me.0 in
    let back = c.seat-1.given.1 (sym (c.found_in-found.ensures.same ∙ (c.place-at.ensures.same ∙ c.enter-section.ensures.same))) in
    let left = ap (λ (z : Me (Option ℕ) Told). z.0) (c.leave.ensures.view ∙ ap (λ (z : Me (Option ℕ) Told). (record z.0 { view = after_leave z.0.view }, z.1)) c.found_in-found.ensures.view) in
    let rests = keepers.rests_after g.I.Patches.opened g.I.Patches.patches c.args.seat.now.number c.place-at.result.0 c.place-at.result.1 tag v c.enter-section.result.seat.now.base.me.0 c.place-at.new.section.seat.now.base.me.0 (ap (λ (z : Me (Option ℕ) Told). z.0) c.enter-section.ensures.view) c.place-at.ensures.drew c.requires.rests c.leave.new.section.0.base.me.0 left in
    let numbers : c.leave.new.section.0.number ≡ c.args.seat.now.number = c.leave.new.section.0.number_is ∙ (ap (λ (z : Told). z.view.number) left ∙ (ap (λ (z : Told). z.view.number) c.place-at.ensures.drew.told
    ∙ (ap (λ (z : Me (Option ℕ) Told). z.0.view.number) c.enter-section.ensures.view ∙ sym c.args.seat.now.number_is))) in
    subst (λ (z : Seat ℕ). Rests z.number z.base.me.0) (sym back) (subst (λ k. Rests k c.leave.new.section.0.base.me.0) (sym numbers) rests)
