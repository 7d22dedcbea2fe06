use Rattle.std.proofs.Common.{Option, ◌≡◌, ◌≢◌, ◌∙◌, ℕ, sym, refl, ap, subst, arith}
use Rattle.atomic_table.specs.Table.{Me}
use Rattle.table_rule.specs.declared.rule.Told.{Told}
use Rattle.twin_tables.proofs.Keepers as keepers
use Rattle.ref_state.specs.declared.kinds.Tag.{Tag}
use Rattle.target_table.specs.declared.table.Seat.{Seat}
use Rattle.ref_state.specs.Steps.{after_leave}
use Rattle.table_rule.specs.Plays.{drawn}
use Rattle.table_rule.specs.Plays.{MayGet}
use Rattle.percpu_ref.specs.Holds.{Gets}
use Rattle.twin_tables.specs.Twins.{twin_means}
use Rattle.twin_tables.specs.Keeping.{Rests}
use Rattle.twin_tables.proofs.readers.take_hold.Goals as goal

pub returns-then-shown-eq0-clause-rests : goal.returns-then-shown-eq0-clause-rests
returns-then-shown-eq0-clause-rests g c =
    let tag : Tag = record { kind = 0; caller = c.args.seat.now.number; number = c.args.number } in let v = c.args.seat.now.base.me.0 in
    let back = c.seat-1.given.1 (sym (c.row-shown.ensures.same ∙ (c.place-at.ensures.same ∙ c.enter-section.ensures.same))) in
    let left = ap (λ (z : Me (Option ℕ) Told). z.0) (c.leave.ensures.view ∙ ap (λ (z : Me (Option ℕ) Told). (record z.0 { view = after_leave z.0.view }, z.1)) c.row-shown.ensures.view) in
    let rests = keepers.plain_rests c.args.seat.now.number c.place-at.result.0 c.place-at.result.1 tag v c.enter-section.result.seat.now.base.me.0 c.place-at.new.section.seat.now.base.me.0 (ap (λ (z : Me (Option ℕ) Told). z.0) c.enter-section.ensures.view) c.place-at.ensures.drew c.requires.rests c.leave.new.section.0.base.me.0 left in
    let numbers : c.leave.new.section.0.number ≡ c.args.seat.now.number = c.leave.new.section.0.number_is ∙ (ap (λ (z : Told). z.view.number) left ∙ (ap (λ (z : Told). z.view.number) c.place-at.ensures.drew.told
    ∙ (ap (λ (z : Me (Option ℕ) Told). z.0.view.number) c.enter-section.ensures.view ∙ sym c.args.seat.now.number_is))) in subst (λ (z : Seat ℕ). Rests z.number z.base.me.0) (sym back) (subst (λ k. Rests k c.leave.new.section.0.base.me.0) (sym numbers) rests)

pub get-hold-requires-clause-shown : goal.get-hold-requires-clause-shown
get-hold-requires-clause-shown g c = let tag : Tag = record { kind = 0; caller = c.args.seat.now.number; number = c.args.number } in
    let at = ap (λ (z : Told). z.view.section) c.place-at.ensures.drew.told in let e = drawn c.place-at.result.0 c.place-at.result.1 tag in
    subst (λ (z : Me (Option ℕ) Told). MayGet twin_means z.0 c.args.disk) (sym c.row-shown.ensures.view) record {
      entry = e;
      placed = at;
      shown = subst (λ (n : ℕ). n ≢ 0) (c.row-shown.ensures.row e at) c.if-shown-eq0.false;
      none = refl;
      held = λ bare. absurd (cc);
    }

pub returns-clause-rests : goal.returns-clause-rests
returns-clause-rests g c =
    let tag : Tag = record { kind = 0; caller = c.args.seat.now.number; number = c.args.number } in let v = c.args.seat.now.base.me.0 in
    let back = c.seat-2-1.given.1 (sym (c.get-hold.ensures.same ∙ (c.row-shown.ensures.same ∙ (c.place-at.ensures.same ∙ c.enter-section.ensures.same)))) in
    let got = subst (λ (z : Me (Option ℕ) Told). Gets c.args.disk z.0 c.get-hold.new.section.seat.now.base.me.0 c.row-shown.new.steps c.get-hold.new.steps) c.row-shown.ensures.view c.get-hold.ensures.gets in
    let left = ap (λ (z : Me (Option ℕ) Told). z.0) c.leave-2.ensures.view ∙ ap (λ (z : Told). record z { view = after_leave z.view }) got.told in
    let rests = keepers.got_rests c.args.seat.now.number c.place-at.result.0 c.place-at.result.1 tag v c.enter-section.result.seat.now.base.me.0 c.place-at.new.section.seat.now.base.me.0 (ap (λ (z : Me (Option ℕ) Told). z.0) c.enter-section.ensures.view) c.place-at.ensures.drew c.requires.rests c.args.disk _ _ c.get-hold.new.section.seat.now.base.me.0 c.leave-2.new.section.0.base.me.0 got (ap (λ (z : Me (Option ℕ) Told). z.0) c.leave-2.ensures.view) in
    let numbers : c.leave-2.new.section.0.number ≡ c.args.seat.now.number = c.leave-2.new.section.0.number_is ∙ (ap (λ (z : Told). z.view.number) left ∙ (ap (λ (z : Told). z.view.number) c.place-at.ensures.drew.told
    ∙ (ap (λ (z : Me (Option ℕ) Told). z.0.view.number) c.enter-section.ensures.view ∙ sym c.args.seat.now.number_is))) in subst (λ (z : Seat ℕ). Rests z.number z.base.me.0) (sym back) (subst (λ k. Rests k c.leave-2.new.section.0.base.me.0) (sym numbers) rests)

pub returns-clause-steps : goal.returns-clause-steps
returns-clause-steps g c = let e = keepers.hold_steps c.args.disk c.row-shown.new.section.seat.now.base.me.0 c.get-hold.new.section.seat.now.base.me.0 c.args.steps.now c.enter-section.new.steps c.place-at.new.steps c.row-shown.new.steps c.get-hold.new.steps c.leave-2.new.steps
    c.enter-section.ensures.ticks c.place-at.ensures.ticks c.row-shown.ensures.ticks c.get-hold.ensures.gets c.leave-2.ensures.ticks in omega (arith, e)
