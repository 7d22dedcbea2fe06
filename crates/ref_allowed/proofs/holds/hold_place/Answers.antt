use Rattle.std.proofs.Common.{◌∙◌, sym, ap}
use Rattle.ref_allowed.specs.HoldTests.{passes}
use Rattle.ref_state.specs.Steps.{is_least, place_of}
use Rattle.ref_allowed.proofs.Positions.{first_is, none_is}
use Rattle.ref_allowed.proofs.holds.hold_place.Goals as goal

pub returns-in-Some : goal.returns-in-Some
returns-in-Some c = let hs = c.args.holds.now in ap (λ h. h.place) (c.at.ensures c.at.result.now)
    ∙ sym (ap place_of (first_is (is_least (passes c.args.test.now) hs) hs c.in-Some.i
    c.at.result.now (sym c.hold_index.ensures ∙ c.in-Some.is)))

pub returns-in-None : goal.returns-in-None
returns-in-None c = let hs = c.args.holds.now in
    sym (ap place_of (none_is (is_least (passes c.args.test.now) hs) hs (sym c.hold_index.ensures
    ∙ c.in-None.is)).0)
