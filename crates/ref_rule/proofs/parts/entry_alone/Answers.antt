use Rattle.std.proofs.Common.{◌≡◌, ◌∙◌, List, ◌∷◌, IfOk, Some, sym, ap, subst}
use Rattle.ref_state.specs.declared.state.Entry.{Entry}
use Rattle.ref_state.specs.Steps.{is_at, listed}
use Rattle.ref_allowed.proofs.Positions.{first_is, none_is}
use Rattle.ref_rule.proofs.parts.entry_alone.Goals as goal

pub returns-in-Some : goal.returns-in-Some
returns-in-Some c = let x : Entry = c.at.result.now in let P : List Entry
    → Type 0 = λ l. IfOk c.with_front.result (λ r. r ≡ l) in
    subst P ((λ k. x ∷ c.new-none.ensures k)
    ∙ sym (ap listed (first_is (is_at c.args.place) c.args.entries.now c.in-Some.i x
    (sym c.entry_index.ensures ∙ c.in-Some.is)
    ∙ ap (λ y. Some y) (sym (c.at.ensures x))))) c.with_front.ensures

pub returns-in-None : goal.returns-in-None
returns-in-None c = c.new-none.ensures
    ∙ sym (ap listed (none_is (is_at c.args.place) c.args.entries.now (sym c.entry_index.ensures
    ∙ c.in-None.is)).0)
