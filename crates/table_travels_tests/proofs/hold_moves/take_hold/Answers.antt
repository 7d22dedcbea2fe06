use Rattle.std.proofs.Common.{◌≡◌, ◌<◌, ◌+◌, ◌++◌, ℕ, List, [], arith, refl, ap, sym, ◌∙◌, subst}
use Rattle.ref_state.specs.declared.kinds.Take.TheVariants as take_of
use Rattle.ref_state.specs.State.{total}
use Rattle.table_rule.specs.declared.rule.Claim.{Claim}
use Rattle.table_rule.specs.Shown.{claims_of, goes_with}
use Rattle.table_seats.proofs.Handing.{but_none, only_none, nil_right}
use Rattle.table_seats.proofs.Submitting.{Mine}
use Rattle.table_travels_tests.proofs.hold_moves.take_hold.Goals as goal

pub returns-clause-rests : goal.returns-clause-rests
returns-clause-rests g c = let j = c.join.ensures.view in let w = c.args.seat.now.base.me.0 in
    let claims : c.join.new.seat.base.me.0.claims ≡ w.claims = ap (λ (z : Mine). z.0.claims) j ∙ (ap (λ cs. w.claims ++ cs) c.requires.sent.1 ∙ nil_right w.claims) in
    let number : c.join.new.seat.number ≡ c.args.seat.now.number = c.join.new.seat.number_is ∙ (ap (λ (z : Mine). z.0.view.number) j ∙ sym c.args.seat.now.number_is) in record {
      out = ap (λ (z : Mine). z.0.view.section) j ∙ c.requires.rests.out;
      free = ap (λ (z : Mine). z.0.view.loaded) j ∙ c.requires.rests.free;
      claim = subst (λ (z : ℕ × List Claim). 0 < total (claims_of z.0) z.1) (λ i. (sym number i, sym claims i)) c.requires.rests.claim;
    }

pub returns-clause-holds : goal.returns-clause-holds
returns-clause-holds g c = let w = c.args.seat.now.base.me.0 in let p = c.args.part.base.me.0.view.holds in
    ap (λ (z : Mine). z.0.view.holds) c.join.ensures.view ∙ (ap (λ hs. p ++ hs) c.requires.none ∙ nil_right p)
