use Rattle.std.proofs.Common.{◌≡◌, ◌<◌, ◌++◌, ℕ, List, arith, refl, ap, sym, ◌∙◌, subst}
use Rattle.ref_state.specs.declared.kinds.Take.TheVariants as take_of
use Rattle.ref_state.specs.State.{total}
use Rattle.table_rule.specs.declared.rule.Claim.{Claim}
use Rattle.table_rule.specs.Shown.{claims_of, goes_with}
use Rattle.table_seats.proofs.Handing.{but_none, only_none, nil_right}
use Rattle.table_seats.proofs.Submitting.{Mine}
use Rattle.table_seats.proofs.parts.hand_hold.Goals as goal

pub join-requires-clause-few : goal.join-requires-clause-few
join-requires-clause-few g c = let left : c.split-part.result.left ≡ 0 = c.split-part.result.left_is ∙ ap (λ (z : Mine). z.0.view.left) c.split-part.ensures.new in let small = c.bound_left.ensures in omega arith

pub returns-clause-from : goal.returns-clause-from
returns-clause-from g c = let e = c.split-part.ensures.view in let v = c.args.from.now.base.me.0 in
    let claims : c.split-part.new.seat.base.me.0.claims ≡ v.claims = ap (λ (z : Mine). z.0.claims) e ∙ but_none (goes_with (take_of.Hold 0) v.view) (λ q. refl) v.claims in
    let number : c.split-part.new.seat.number ≡ c.args.from.now.number = c.split-part.new.seat.number_is ∙ (ap (λ (z : Mine). z.0.view.number) e ∙ sym c.args.from.now.number_is) in record {
      out = ap (λ (z : Mine). z.0.view.section) e ∙ c.requires.from.out;
      free = ap (λ (z : Mine). z.0.view.loaded) e ∙ c.requires.from.free;
      claim = subst (λ (z : ℕ × List Claim). 0 < total (claims_of z.0) z.1) (λ i. (sym number i, sym claims i)) c.requires.from.claim;
    }

pub returns-clause-to : goal.returns-clause-to
returns-clause-to g c = let j = c.join.ensures.view in let v = c.args.from.now.base.me.0 in let w = c.args.to.now.base.me.0 in
    let claims : c.join.new.seat.base.me.0.claims ≡ w.claims = ap (λ (z : Mine). z.0.claims) j
    ∙ (ap (λ cs. w.claims ++ cs) (ap (λ (z : Mine). z.0.claims) c.split-part.ensures.new ∙ only_none (goes_with (take_of.Hold 0) v.view) (λ q. refl) v.claims) ∙ nil_right w.claims) in
    let number : c.join.new.seat.number ≡ c.args.to.now.number = c.join.new.seat.number_is ∙ (ap (λ (z : Mine). z.0.view.number) j ∙ sym c.args.to.now.number_is) in record {
      out = ap (λ (z : Mine). z.0.view.section) j ∙ c.requires.to.out;
      free = ap (λ (z : Mine). z.0.view.loaded) j ∙ c.requires.to.free;
      claim = subst (λ (z : ℕ × List Claim). 0 < total (claims_of z.0) z.1) (λ i. (sym number i, sym claims i)) c.requires.to.claim;
    }

pub returns-clause-claims : goal.returns-clause-claims
returns-clause-claims g c = let v = c.args.from.now.base.me.0 in let w = c.args.to.now.base.me.0 in (
  ap (λ (z : Mine). z.0.claims) c.split-part.ensures.view ∙ but_none (goes_with (take_of.Hold 0) v.view) (λ q. refl) v.claims,
  ap (λ (z : Mine). z.0.claims) c.join.ensures.view
      ∙ (ap (λ cs. w.claims ++ cs) (ap (λ (z : Mine). z.0.claims) c.split-part.ensures.new ∙ only_none (goes_with (take_of.Hold 0) v.view) (λ q. refl) v.claims) ∙ nil_right w.claims),
)
