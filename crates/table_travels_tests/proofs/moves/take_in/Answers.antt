use Rattle.std.proofs.Common.{◌≡◌, ◌≢◌, ◌<◌, ◌+◌, ◌-◌, ◌==◌, ℕ, Bool, true, false, List, [], ◌∷◌, ◌++◌, map, length, length-append, inl, inr, refl, ap, sym, ◌∙◌, subst, arith, eq-eqb}
use Rattle.ref_state.specs.declared.kinds.Tag.{Tag}
use Rattle.ref_state.specs.declared.kinds.Take.TheVariants as take_of
use Rattle.table_rule.specs.declared.rule.Claim.{Claim}
use Rattle.table_rule.specs.Shown.{extended, goes_with}
use Rattle.table_rule.specs.Plays.{drawn}
use Rattle.table_seats.proofs.Handing.{but_none, only_none}
use Rattle.table_seats.proofs.Submitting as submitting
use Rattle.table_seats.proofs.Submitting.{Mine}
use Rattle.table_travels_tests.specs.Travels.{callers, places}
use Rattle.table_travels_tests.proofs.Travelling as travelling
use Rattle.table_travels_tests.proofs.moves.take_in.Goals as goal

pub returns-clause-idle : goal.returns-clause-idle
returns-clause-idle g c = let e = c.join.ensures.view in record {
  out = ap (λ (z : Mine). z.0.view.section) e ∙ c.requires.idle.out;
  free = ap (λ (z : Mine). z.0.view.loaded) e ∙ c.requires.idle.free;
  turns = ap (λ (z : Mine). z.0.view.turns) e ∙ c.requires.idle.turns;
  extents = ap (λ (z : Mine). z.1) e ∙ c.requires.idle.extents;
}

pub returns-clause-caller : goal.returns-clause-caller
returns-clause-caller g c = ap (λ (z : Mine). callers z.0.claims) c.join.ensures.view ∙ travelling.callers_append c.args.seat.now.base.me.0.claims c.args.part.base.me.0.claims

pub returns-clause-places : goal.returns-clause-places
returns-clause-places g c = let e = ap (λ (z : Mine). places z.0) c.join.ensures.view in
    let l = length-append c.args.part.base.me.0.view.entries c.args.seat.now.base.me.0.view.entries in omega arith

pub returns-clause-left : goal.returns-clause-left
returns-clause-left g c = let e = ap (λ (z : Mine). z.0.view.left) c.join.ensures.view in let n = c.join.new.seat.left_is in let o = c.args.seat.now.left_is in let p = c.args.part.left_is in omega arith
