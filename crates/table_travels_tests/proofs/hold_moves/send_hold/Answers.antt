use Rattle.std.proofs.Common.{◌≡◌, ◌<◌, ◌+◌, ◌++◌, ℕ, List, [], arith, refl, ap, sym, ◌∙◌, subst}
use Rattle.ref_state.specs.declared.kinds.Take.TheVariants as take_of
use Rattle.ref_state.specs.State.{total}
use Rattle.table_rule.specs.declared.rule.Claim.{Claim}
use Rattle.table_rule.specs.Shown.{claims_of, goes_with}
use Rattle.table_seats.proofs.Handing.{but_none, only_none, nil_right}
use Rattle.table_seats.proofs.Submitting.{Mine}
use Rattle.table_travels_tests.proofs.hold_moves.send_hold.Goals as goal

pub returns-clause-rests : goal.returns-clause-rests
returns-clause-rests g c = let e = c.split.ensures.view in let v = c.args.seat.now.base.me.0 in
    let claims : c.split.new.seat.base.me.0.claims ≡ v.claims = ap (λ (z : Mine). z.0.claims) e ∙ but_none (goes_with (take_of.Hold 0) v.view) (λ q. refl) v.claims in
    let number : c.split.new.seat.number ≡ c.args.seat.now.number = c.split.new.seat.number_is ∙ (ap (λ (z : Mine). z.0.view.number) e ∙ sym c.args.seat.now.number_is) in record {
      out = ap (λ (z : Mine). z.0.view.section) e ∙ c.requires.rests.out;
      free = ap (λ (z : Mine). z.0.view.loaded) e ∙ c.requires.rests.free;
      claim = subst (λ (z : ℕ × List Claim). 0 < total (claims_of z.0) z.1) (λ i. (sym number i, sym claims i)) c.requires.rests.claim;
    }

pub returns-clause-claims : goal.returns-clause-claims
returns-clause-claims g c = let v = c.args.seat.now.base.me.0 in (
  ap (λ (z : Mine). z.0.claims) c.split.ensures.view ∙ but_none (goes_with (take_of.Hold 0) v.view) (λ q. refl) v.claims,
  ap (λ (z : Mine). z.0.claims) c.split.ensures.new ∙ only_none (goes_with (take_of.Hold 0) v.view) (λ q. refl) v.claims,
)
