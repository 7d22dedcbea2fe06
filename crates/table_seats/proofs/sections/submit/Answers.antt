use Rattle.std.proofs.Common.{◌≡◌, ◌<◌, ℕ, List, ◌++◌, true, is_some, map, take, refl, ap, sym, ◌∙◌, subst}
use Rattle.ref_state.specs.declared.kinds.Tag.{Tag}
use Rattle.ref_state.specs.declared.state.Entry.{Entry}
use Rattle.ref_state.specs.State.{total}
use Rattle.ref_state.specs.Steps.{section_got}
use Rattle.table_rule.specs.declared.rule.Told.{Told}
use Rattle.table_rule.specs.declared.rule.Claim.{Claim}
use Rattle.table_rule.specs.Meant.{target}
use Rattle.table_rule.specs.Shown.{claims_of, extended}
use Rattle.table_rule.specs.Plays.{drawn}
use Rattle.table_rule.proofs.Claiming.{extended_total}
use Rattle.small_target.specs.Small.{small_held}
use Rattle.table_seats.specs.EndingMeans.{ending_means}
use Rattle.table_seats.proofs.Submitting as submitting
use Rattle.table_seats.proofs.Submitting.{Mine, placed_is}
use Rattle.table_seats.proofs.sections.submit.Goals as goal

pub leave_section-requires-clause-finished : goal.leave_section-requires-clause-finished
leave_section-requires-clause-finished g c = λ e placed one.
    let tag : Tag = record { kind = 1; caller = c.args.seat.now.number; number = c.args.number } in
    let d = c.draw_place-place.ensures.drew in let l = c.load_row-row.ensures.view in
    let v = c.draw_place-place.new.seat.base.me.0 in
    let mine : Entry = drawn c.draw_place-place.result.0 c.draw_place-place.result.1 tag in
    let at = c.load_row-row.ensures.row mine (ap (λ (z : Told). z.view.section) d.told) in
    let refused = submitting.is_refused v.known (c.enter_section.new.seat.base.me.0.known ++ d.between) tag c.draw_place-place.result.0 c.load_row-row.result d.place_is (ap (λ (z : Told). z.known) d.told) refl at c.if-row-eq0.true in
    let is = placed_is mine e (sym (ap (λ (z : Mine). z.0.view.section) l ∙ ap (λ (z : Told). z.view.section) d.told) ∙ placed) in
    subst (λ (z : Entry). is_some (small_held (target ending_means (take z.place c.load_row-row.new.seat.base.me.0.known)) z.call) ≡ z.got) is
    (ap (λ (z : Mine). is_some (small_held (target ending_means (take mine.place z.0.known)) tag)) l ∙ ap is_some refused)

pub get_hold-requires-clause-shown : goal.get_hold-requires-clause-shown
get_hold-requires-clause-shown g c =
    let tag : Tag = record { kind = 1; caller = c.args.seat.now.number; number = c.args.number } in
    let d = c.draw_place-place.ensures.drew in let l = c.load_row-row.ensures.view in
    let mine : Entry = drawn c.draw_place-place.result.0 c.draw_place-place.result.1 tag in
    let at = c.load_row-row.ensures.row mine (ap (λ (z : Told). z.view.section) d.told) in
    subst (λ (z : Mine). Rattle.table_rule.specs.Plays.MayGet ending_means z.0 0) (sym l)
    (submitting.may_get c.draw_place-place.new.seat.base.me.0 tag c.draw_place-place.result.0 c.draw_place-place.result.1 c.load_row-row.result (c.enter_section.new.seat.base.me.0.known ++ d.between) (ap (λ (z : Told). z.view.section) d.told) d.place_is (ap (λ (z : Told). z.known) d.told) refl at c.if-row-eq0.false)

pub leave_section-requires-2-clause-finished : goal.leave_section-requires-2-clause-finished
leave_section-requires-2-clause-finished g c = λ e placed one.
    let tag : Tag = record { kind = 1; caller = c.args.seat.now.number; number = c.args.number } in
    let d = c.draw_place-place.ensures.drew in let l = c.load_row-row.ensures.view in let h = c.get_hold.ensures.view.1 in
    let v = c.draw_place-place.new.seat.base.me.0 in
    let mine : Entry = drawn c.draw_place-place.result.0 c.draw_place-place.result.1 tag in let got : Entry = record mine { got = true } in
    let at = c.load_row-row.ensures.row mine (ap (λ (z : Told). z.view.section) d.told) in
    let held = submitting.is_held v.known (c.enter_section.new.seat.base.me.0.known ++ d.between) tag c.draw_place-place.result.0 c.load_row-row.result d.place_is (ap (λ (z : Told). z.known) d.told) refl at c.if-row-eq0.false in
    let is = placed_is got e (sym (ap (λ (z : Mine). z.0.view.section) h ∙ ap section_got (ap (λ (z : Mine). z.0.view.section) l ∙ ap (λ (z : Told). z.view.section) d.told)) ∙ placed) in
    subst (λ (z : Entry). is_some (small_held (target ending_means (take z.place c.get_hold.new.seat.base.me.0.known)) z.call) ≡ z.got) is
    (ap (λ (z : Mine). is_some (small_held (target ending_means (take mine.place z.0.known)) tag)) h
    ∙ (ap (λ (z : Mine). is_some (small_held (target ending_means (take mine.place z.0.known)) tag)) l ∙ ap is_some held))

pub returns-then-row-eq0-clause-rests : goal.returns-then-row-eq0-clause-rests
returns-then-row-eq0-clause-rests g c =
    let tag : Tag = record { kind = 1; caller = c.args.seat.now.number; number = c.args.number } in let a = c.args.seat.now.base.me in
    let d = c.draw_place-place.ensures.drew in
    let all = submitting.plain_left tag c.draw_place-place.result.0 c.draw_place-place.result.1 a c.enter_section.new.seat.base.me c.draw_place-place.new.seat.base.me c.enter_section.ensures.view d c.draw_place-place.ensures.own.1 c.load_row-row.new.seat.base.me c.leave_section.new.seat.base.me c.load_row-row.ensures.view c.leave_section.ensures.view in
    let number : c.leave_section.new.seat.number ≡ c.args.seat.now.number = c.leave_section.new.seat.number_is ∙ (ap (λ (z : Mine). z.0.view.number) all ∙ sym c.args.seat.now.number_is) in
    let claims : c.leave_section.new.seat.base.me.0.claims ≡ map (extended tag) a.0.claims = ap (λ (z : Mine). z.0.claims) all in record {
      out = ap (λ (z : Mine). z.0.view.section) all;
      free = ap (λ (z : Mine). z.0.view.loaded) all ∙ c.requires.rests.free;
      claim = subst (λ (z : ℕ × List Claim). 0 < total (claims_of z.0) z.1) (λ i. (sym number i, sym claims i))
          (subst (λ (n : ℕ). 0 < n) (sym (extended_total c.args.seat.now.number tag a.0.claims)) c.requires.rests.claim);
    }

pub returns-clause-rests : goal.returns-clause-rests
returns-clause-rests g c =
    let tag : Tag = record { kind = 1; caller = c.args.seat.now.number; number = c.args.number } in let a = c.args.seat.now.base.me in
    let d = c.draw_place-place.ensures.drew in
    let all = submitting.got_left tag c.draw_place-place.result.0 c.draw_place-place.result.1 a c.enter_section.new.seat.base.me c.draw_place-place.new.seat.base.me c.enter_section.ensures.view d c.draw_place-place.ensures.own.1 c.load_row-row.new.seat.base.me c.get_hold.new.seat.base.me c.leave_section-2.new.seat.base.me c.get_hold.ensures.view.0 c.load_row-row.ensures.view c.get_hold.ensures.view.1 c.leave_section-2.ensures.view in
    let number : c.leave_section-2.new.seat.number ≡ c.args.seat.now.number = c.leave_section-2.new.seat.number_is ∙ (ap (λ (z : Mine). z.0.view.number) all ∙ sym c.args.seat.now.number_is) in
    let claims : c.leave_section-2.new.seat.base.me.0.claims ≡ map (extended tag) a.0.claims = ap (λ (z : Mine). z.0.claims) all in record {
      out = ap (λ (z : Mine). z.0.view.section) all;
      free = ap (λ (z : Mine). z.0.view.loaded) all;
      claim = subst (λ (z : ℕ × List Claim). 0 < total (claims_of z.0) z.1) (λ i. (sym number i, sym claims i))
          (subst (λ (n : ℕ). 0 < n) (sym (extended_total c.args.seat.now.number tag a.0.claims)) c.requires.rests.claim);
    }
