use Rattle.std.proofs.Common.{◌∙◌, sym}
use Rattle.ref_state.specs.Steps.{is_at}
use Rattle.ref_allowed.proofs.Positions.{removed_is, none_is}
use Rattle.ref_rule.proofs.parts.drop_entry.Goals as goal

pub returns-in-Some : goal.returns-in-Some
returns-in-Some c = c.remove.ensures.rest
    ∙ removed_is (is_at c.args.place) c.args.entries.now c.in-Some.i (sym c.entry_index.ensures
    ∙ c.in-Some.is)

pub returns-in_default : goal.returns-in_default
returns-in_default c = sym (none_is (is_at c.args.place) c.args.entries.now
    (sym c.entry_index.ensures ∙ c.in_default.is)).1
