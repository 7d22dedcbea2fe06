use Rattle.std.proofs.Common.{◌≡◌, ◌≢◌, ◌<◌, ◌+◌, ◌-◌, ◌==◌, ℕ, Bool, true, false, List, [], ◌∷◌, ◌++◌, map, length, length-append, inl, inr, refl, ap, sym, ◌∙◌, subst, arith, eq-eqb}
use Rattle.ref_state.specs.declared.kinds.Tag.{Tag}
use Rattle.ref_state.specs.declared.kinds.Take.TheVariants as take_of
use Rattle.table_rule.specs.declared.rule.Claim.{Claim}
use Rattle.table_rule.specs.Shown.{extended, goes_with}
use Rattle.table_rule.specs.Plays.{drawn}
use Rattle.table_seats.proofs.Handing.{but_none, only_none}
use Rattle.table_seats.proofs.Submitting as submitting
use Rattle.table_seats.proofs.Submitting.{Mine}
use Rattle.table_travels_tests.specs.Travels.{callers, places}
use Rattle.table_travels_tests.proofs.Travelling as travelling
use Rattle.table_travels_tests.proofs.moves.call_for.Goals as goal

pub draw_place-place-requires-clause-caller : goal.draw_place-place-requires-clause-caller
draw_place-place-requires-clause-caller g c = travelling.has_second 0 c.args.caller [] c.enter_section.new.seat.base.me.0.claims (ap (λ (z : Mine). callers z.0.claims) c.enter_section.ensures.view ∙ c.requires.caller)

pub returns-clause-idle : goal.returns-clause-idle
returns-clause-idle g c =
    let tag : Tag = record { kind = 4; caller = c.args.caller; number = 0 } in let a = c.args.editor.now.base.me in let d = c.draw_place-place.ensures.drew in
    let all = submitting.plain_left tag c.draw_place-place.result.0 c.draw_place-place.result.1 a c.enter_section.new.seat.base.me c.draw_place-place.new.seat.base.me c.enter_section.ensures.view d c.draw_place-place.ensures.own.1 c.draw_place-place.new.seat.base.me c.leave_section.new.seat.base.me refl c.leave_section.ensures.view in record {
      out = ap (λ (z : Mine). z.0.view.section) all;
      free = ap (λ (z : Mine). z.0.view.loaded) all ∙ c.requires.idle.free;
      turns = ap (λ (z : Mine). z.0.view.turns) all ∙ c.requires.idle.turns;
      extents = ap (λ (z : Mine). z.1) all ∙ c.requires.idle.extents;
    }

pub returns-clause-caller : goal.returns-clause-caller
returns-clause-caller g c =
    let tag : Tag = record { kind = 4; caller = c.args.caller; number = 0 } in let a = c.args.editor.now.base.me in let d = c.draw_place-place.ensures.drew in
    let all = submitting.plain_left tag c.draw_place-place.result.0 c.draw_place-place.result.1 a c.enter_section.new.seat.base.me c.draw_place-place.new.seat.base.me c.enter_section.ensures.view d c.draw_place-place.ensures.own.1 c.draw_place-place.new.seat.base.me c.leave_section.new.seat.base.me refl c.leave_section.ensures.view in
    ap (λ (z : Mine). callers z.0.claims) all ∙ (travelling.callers_extended tag a.0.claims ∙ c.requires.caller)

pub returns-clause-places : goal.returns-clause-places
returns-clause-places g c =
    let tag : Tag = record { kind = 4; caller = c.args.caller; number = 0 } in let a = c.args.editor.now.base.me in let d = c.draw_place-place.ensures.drew in
    let all = submitting.plain_left tag c.draw_place-place.result.0 c.draw_place-place.result.1 a c.enter_section.new.seat.base.me c.draw_place-place.new.seat.base.me c.enter_section.ensures.view d c.draw_place-place.ensures.own.1 c.draw_place-place.new.seat.base.me c.leave_section.new.seat.base.me refl c.leave_section.ensures.view in
    let e = ap (λ (z : Mine). places z.0) all in let l = c.args.editor.now.left_is in let h = c.requires.left in omega arith

pub returns-clause-newest : goal.returns-clause-newest
returns-clause-newest g c =
    let tag : Tag = record { kind = 4; caller = c.args.caller; number = 0 } in let a = c.args.editor.now.base.me in let d = c.draw_place-place.ensures.drew in
    let all = submitting.plain_left tag c.draw_place-place.result.0 c.draw_place-place.result.1 a c.enter_section.new.seat.base.me c.draw_place-place.new.seat.base.me c.enter_section.ensures.view d c.draw_place-place.ensures.own.1 c.draw_place-place.new.seat.base.me c.leave_section.new.seat.base.me refl c.leave_section.ensures.view in record {
      entry = drawn c.draw_place-place.result.0 c.draw_place-place.result.1 tag;
      others = a.0.view.entries;
      entries = ap (λ (z : Mine). z.0.view.entries) all;
      at = refl;
      kind = refl;
      of = refl;
    }
