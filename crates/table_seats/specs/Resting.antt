-- A seat between two calls.
use Rattle.std.specs.Prelude.{◌≡◌, ◌<◌, ℕ, Option}
use Rattle.atomic_table.specs.Table.{Me}
use Rattle.ref_state.specs.State.{total}
use Rattle.ref_state.specs.declared.state.Section.TheVariants.{Out}
use Rattle.ref_state.specs.declared.state.LoadedMode.TheVariants.{NotLoaded}
use Rattle.table_rule.specs.declared.rule.Told.{Told}
use Rattle.table_rule.specs.Shown.{claims_of}

-- its section is closed, no mode is loaded, and it may draw its own calls
pub record Rests (number : ℕ) (a : Me (Option ℕ) Told) : Type 0 where
  pub out : a.0.view.section ≡ Out
  pub free : a.0.view.loaded ≡ NotLoaded
  pub claim : 0 < total (claims_of number) a.0.claims
