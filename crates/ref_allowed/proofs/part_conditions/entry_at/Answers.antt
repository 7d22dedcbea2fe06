use Rattle.std.proofs.Common.{◌∙◌, Some, sym, ap}
use Rattle.ref_state.specs.declared.state.Entry.{Entry}
use Rattle.ref_state.specs.Steps.{is_at}
use Rattle.ref_allowed.proofs.Positions.{first_is, none_is}
use Rattle.ref_allowed.proofs.part_conditions.entry_at.Goals as goal

pub returns-in-Some : goal.returns-in-Some
returns-in-Some c = let x : Entry = c.at.result.now in
    sym (first_is (is_at c.args.place) c.args.entries.now c.in-Some.i x (sym c.entry_index.ensures
    ∙ c.in-Some.is) ∙ ap (λ y. Some y) (sym (c.at.ensures x)))

pub returns-in-None : goal.returns-in-None
returns-in-None c = sym (none_is (is_at c.args.place) c.args.entries.now (sym c.entry_index.ensures
    ∙ c.in-None.is)).0
