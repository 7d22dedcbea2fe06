use Rattle.std.proofs.Common.{◌≡◌, ◌≢◌, ◌<◌, ◌+◌, ◌-◌, ◌==◌, ℕ, Bool, true, false, List, [], ◌∷◌, ◌++◌, map, length, length-append, inl, inr, refl, ap, sym, ◌∙◌, subst, arith, eq-eqb}
use Rattle.ref_state.specs.declared.kinds.Tag.{Tag}
use Rattle.ref_state.specs.declared.kinds.Take.TheVariants as take_of
use Rattle.table_rule.specs.declared.rule.Claim.{Claim}
use Rattle.table_rule.specs.Shown.{extended, goes_with}
use Rattle.table_rule.specs.Plays.{drawn}
use Rattle.table_seats.proofs.Handing.{but_none, only_none}
use Rattle.table_seats.proofs.Submitting as submitting
use Rattle.table_seats.proofs.Submitting.{Mine}
use Rattle.table_travels_tests.specs.Travels.{callers, places}
use Rattle.table_travels_tests.proofs.Travelling as travelling
use Rattle.table_travels_tests.proofs.moves.lend.Goals as goal

pub returns-clause-idle : goal.returns-clause-idle
returns-clause-idle g c = let e = c.split.ensures.view in record {
  out = ap (λ (z : Mine). z.0.view.section) e ∙ c.requires.idle.out;
  free = ap (λ (z : Mine). z.0.view.loaded) e ∙ c.requires.idle.free;
  turns = ap (λ (z : Mine). z.0.view.turns) e ∙ c.requires.idle.turns;
  extents = ap (λ (z : Mine). z.1) e ∙ c.requires.idle.extents;
}

pub returns-clause-caller : goal.returns-clause-caller
returns-clause-caller g c = let v = c.args.seat.now.base.me.0 in let n = c.args.seat.now.number in
    let goer : goes_with take_of.Place v.view n ≡ true = eq-eqb n v.view.number c.args.seat.now.number_is in
    let number : c.split.new.seat.number ≡ n = c.split.new.seat.number_is ∙ (ap (λ (z : Mine). z.0.view.number) c.split.ensures.view ∙ sym c.args.seat.now.number_is) in (
      ap (λ (z : Mine). callers z.0.claims) c.split.ensures.view ∙ travelling.one_goes (goes_with take_of.Place v.view) n v.claims goer c.requires.caller,
      ap (λ (z : Mine). callers z.0.claims) c.split.ensures.new ∙ (travelling.one_sent (goes_with take_of.Place v.view) n v.claims goer c.requires.caller ∙ ap (λ (k : ℕ). k ∷ []) (sym number)),
    )

pub returns-clause-places : goal.returns-clause-places
returns-clause-places g c = let a = ap (λ (z : Mine). places z.0) c.split.ensures.view in let b = ap (λ (z : Mine). places z.0) c.split.ensures.new in let l = c.args.seat.now.left_is in let h = c.requires.left in omega arith

pub returns-clause-left : goal.returns-clause-left
returns-clause-left g c = let a = ap (λ (z : Mine). z.0.view.left) c.split.ensures.view in let n = c.split.new.seat.left_is in let l = c.args.seat.now.left_is in let h = c.requires.left in
    (omega arith, c.split.result.left_is ∙ ap (λ (z : Mine). z.0.view.left) c.split.ensures.new)
