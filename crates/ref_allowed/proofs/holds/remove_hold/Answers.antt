use Rattle.std.proofs.Common.{◌∙◌, sym}
use Rattle.ref_allowed.specs.HoldTests.{passes}
use Rattle.ref_state.specs.Steps.{is_least}
use Rattle.ref_allowed.proofs.Positions.{removed_is, none_is}
use Rattle.ref_allowed.proofs.holds.remove_hold.Goals as goal

pub returns-in-Some : goal.returns-in-Some
returns-in-Some c = let hs = c.args.holds.now in c.remove.ensures.rest
    ∙ removed_is (is_least (passes c.args.test.now) hs) hs c.in-Some.i (sym c.hold_index.ensures
    ∙ c.in-Some.is)

pub returns-in_default : goal.returns-in_default
returns-in_default c = let hs = c.args.holds.now in
    sym (none_is (is_least (passes c.args.test.now) hs) hs (sym c.hold_index.ensures
    ∙ c.in_default.is)).1
