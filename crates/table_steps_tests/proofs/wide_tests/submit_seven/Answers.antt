use Rattle.std.proofs.Common.{Bool, Option, ◌≡◌, ℕ, true, Some, None, cond, is_some, refl, ap, sym, ◌∙◌, eq-eqb, arith}
use Rattle.ref_state.specs.declared.kinds.Tag.{Tag}
use Rattle.ref_state.specs.declared.state.Entry.{Entry}
use Rattle.ref_state.specs.Steps.{section_got}
use Rattle.table_rule.specs.declared.rule.Told.{Told}
use Rattle.table_rule.specs.Plays.{drawn}
use Rattle.table_seats.proofs.Submitting.{Mine, placed_is}
use Rattle.table_steps_tests.proofs.wide_tests.submit_seven.Goals as goal

pub get_hold-requires-clause-shown : goal.get_hold-requires-clause-shown
get_hold-requires-clause-shown g c = let tag : Tag = record { kind = 1; caller = 1; number = 7 } in
    let d = c.draw_place-place.ensures.drew in record {
      entry = drawn c.draw_place-place.result.0 c.draw_place-place.result.1 tag;
      placed = ap (λ (z : Told). z.view.section) d.told;
      shown = λ z. absurd (omega arith);
      none = refl;
      held = λ bare. refl;
    }

pub leave_section-requires-clause-finished : goal.leave_section-requires-clause-finished
leave_section-requires-clause-finished g c = λ e placed one. let tag : Tag = record { kind = 1; caller = 1; number = 7 } in
    let d = c.draw_place-place.ensures.drew in let h = c.get_hold.ensures.view.1 in
    let mine : Entry = drawn c.draw_place-place.result.0 c.draw_place-place.result.1 tag in let got : Entry = record mine { got = true } in
    let is = placed_is got e (sym (ap (λ (z : Mine). z.0.view.section) h ∙ ap section_got (ap (λ (z : Told). z.view.section) d.told)) ∙ placed) in
    let held : Bool → Option ℕ = λ b. cond b (Some 0) None in
    ap (λ b. is_some (held b)) (eq-eqb e.call.kind 1 one) ∙ ap (λ (z : Entry). z.got) is
