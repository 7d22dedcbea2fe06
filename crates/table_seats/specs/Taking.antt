-- What a seat keeps once an extent is out of its slot.
use Rattle.std.specs.Prelude.{◌≡◌, ℕ, List, [], ◌∷◌, Option, None, true, false}
use Rattle.atomic_table.specs.Table.{Me}
use Rattle.ref_state.specs.declared.kinds.Tag.{Tag}
use Rattle.ref_state.specs.declared.state.Hold.{Hold}
use Rattle.ref_state.specs.declared.state.Turn.{Turn}
use Rattle.table_rule.specs.declared.rule.Told.{Told}

abbrev pub turn_of : ℕ → Turn
turn_of n = record { slot = n; out = false }

pub record TookOut (n : ℕ) (a b : Me (Option ℕ) Told) : Type 0 where
  pub known : List Tag
  pub found : List (ℕ × ℕ)
  pub told : b.0 ≡ record a.0 {
    view = record a.0.view { turns = turn_of n ∷ a.0.view.turns };
    known = known;
    found = found;
  }
  pub holds : b.1 ≡ (n, None) ∷ a.1

-- the hold's command is executed, and its extents are at home again
pub record ExecutedIn (h : Hold) (a b : Me (Option ℕ) Told) : Type 0 where
  pub free : (b.0.view.turns ≡ []) × (b.1 ≡ [])
  pub held : b.0.view.holds ≡ record h { executed = true } ∷ []
  pub claims : b.0.claims ≡ a.0.claims
