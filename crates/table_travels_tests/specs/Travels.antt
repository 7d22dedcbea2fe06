-- A seat between two calls, and what it may draw and keeps.
use Rattle.std.specs.Prelude.{◌≡◌, ℕ, ◌+◌, List, [], ◌∷◌, Option, length, false}
use Rattle.atomic_table.specs.Table.{Me}
use Rattle.ref_state.specs.declared.state.Entry.{Entry}
use Rattle.ref_state.specs.declared.state.Hold.{Hold}
use Rattle.ref_state.specs.declared.state.Section.TheVariants.{Out}
use Rattle.ref_state.specs.declared.state.LoadedMode.TheVariants.{NotLoaded}
use Rattle.table_rule.specs.declared.rule.Claim.{Claim}
use Rattle.table_rule.specs.declared.rule.Told.{Told}

-- the callers whose calls it may draw
abbrev pub callers : List Claim → List ℕ
callers [] = []
callers (c ∷ cs) = c.caller ∷ callers cs

-- the places of the quotas that it has used or has left
abbrev pub places : Told → ℕ
places v = length v.view.entries + v.view.left

-- its section is closed, no mode is loaded, and it has no turn
pub record IsIdle (a : Me (Option ℕ) Told) : Type 0 where
  pub out : a.0.view.section ≡ Out
  pub free : a.0.view.loaded ≡ NotLoaded
  pub turns : a.0.view.turns ≡ []
  pub extents : a.1 ≡ []

-- the newest entry is of a control command of this caller at this place
pub record IsNewest (place caller : ℕ) (v : Told) : Type 0 where
  pub entry : Entry
  pub others : List Entry
  pub entries : v.view.entries ≡ entry ∷ others
  pub at : entry.place ≡ place
  pub kind : entry.call.kind ≡ 4
  pub of : entry.call.caller ≡ caller

-- a part that carries this hold of a submit on disk 0, whose Execute isn't placed
pub record IsSent (hold : Hold) (v : Told) : Type 0 where
  pub holds : v.view.holds ≡ hold ∷ []
  pub claims : v.claims ≡ []
  pub disk : hold.disk ≡ 0
  pub kind : hold.call.kind ≡ 1
  pub waits : hold.executed ≡ false
