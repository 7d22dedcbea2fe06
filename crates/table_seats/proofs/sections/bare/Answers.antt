use Rattle.std.proofs.Common.{◌≡◌, ◌<◌, ℕ, List, map, ap, sym, ◌∙◌, subst}
use Rattle.ref_state.specs.declared.kinds.Tag.{Tag}
use Rattle.ref_state.specs.State.{total}
use Rattle.table_rule.specs.declared.rule.Claim.{Claim}
use Rattle.table_rule.specs.Shown.{claims_of, extended}
use Rattle.table_rule.proofs.Claiming.{extended_total}
use Rattle.table_seats.proofs.Submitting as submitting
use Rattle.table_seats.proofs.Submitting.{Mine}
use Rattle.table_seats.proofs.sections.bare.Goals as goal

pub returns-clause-rests : goal.returns-clause-rests
returns-clause-rests g c =
    let tag : Tag = record { kind = 0; caller = c.args.seat.now.number; number = c.args.number } in let a = c.args.seat.now.base.me in
    let d = c.draw_place-place.ensures.drew in
    let all = submitting.plain_left tag c.draw_place-place.result.0 c.draw_place-place.result.1 a c.enter_section.new.seat.base.me c.draw_place-place.new.seat.base.me c.enter_section.ensures.view d c.draw_place-place.ensures.own.1 c.load_row-row.new.seat.base.me c.leave_section.new.seat.base.me c.load_row-row.ensures.view c.leave_section.ensures.view in
    let number : c.leave_section.new.seat.number ≡ c.args.seat.now.number = c.leave_section.new.seat.number_is ∙ (ap (λ (z : Mine). z.0.view.number) all ∙ sym c.args.seat.now.number_is) in
    let claims : c.leave_section.new.seat.base.me.0.claims ≡ map (extended tag) a.0.claims = ap (λ (z : Mine). z.0.claims) all in record {
      out = ap (λ (z : Mine). z.0.view.section) all;
      free = ap (λ (z : Mine). z.0.view.loaded) all ∙ c.requires.rests.free;
      claim = subst (λ (z : ℕ × List Claim). 0 < total (claims_of z.0) z.1) (λ i. (sym number i, sym claims i))
          (subst (λ (n : ℕ). 0 < n) (sym (extended_total c.args.seat.now.number tag a.0.claims)) c.requires.rests.claim);
    }
