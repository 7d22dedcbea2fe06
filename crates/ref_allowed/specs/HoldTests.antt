-- What a step asks of the hold that it takes.
use Rattle.std.specs.Prelude.{Bool}
use Rattle.ref_allowed.specs.declared.holds.HoldTest.{HoldTest}
use Rattle.ref_allowed.specs.declared.holds.HoldTest.TheVariants.{On, MayPut, Held}
use Rattle.ref_state.specs.declared.state.Hold.{Hold}
use Rattle.ref_state.specs.Steps.{is_on, may_put, is_held}

abbrev pub passes : HoldTest → Hold → Bool
passes (On d) h = is_on d h
passes (MayPut d) h = may_put d h
passes (Held t d) h = is_held t d h
