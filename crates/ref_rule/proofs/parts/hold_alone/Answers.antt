use Rattle.std.proofs.Common.{◌≡◌, ◌∙◌, List, ◌∷◌, IfOk, Some, sym, ap, subst}
use Rattle.ref_state.specs.declared.state.Hold.{Hold}
use Rattle.ref_state.specs.Steps.{is_on, is_least, listed}
use Rattle.ref_allowed.proofs.Positions.{first_is, none_is}
use Rattle.ref_rule.proofs.parts.hold_alone.Goals as goal

pub returns-in-Some : goal.returns-in-Some
returns-in-Some c = let x : Hold = c.at.result.now in let P : List Hold
    → Type 0 = λ l. IfOk c.with_front.result (λ r. r ≡ l) in
    subst P ((λ k. x ∷ c.new-none.ensures k)
    ∙ sym (ap listed (first_is (is_least (is_on c.args.disk) c.args.holds.now) c.args.holds.now
    c.in-Some.i x (sym c.hold_index.ensures ∙ c.in-Some.is)
    ∙ ap (λ y. Some y) (sym (c.at.ensures x))))) c.with_front.ensures

pub returns-in-None : goal.returns-in-None
returns-in-None c = c.new-none.ensures
    ∙ sym (ap listed (none_is (is_least (is_on c.args.disk) c.args.holds.now) c.args.holds.now
    (sym c.hold_index.ensures ∙ c.in-None.is)).0)
