-- An Execute over any number of extents, as its seat is told of it.
use Rattle.std.specs.Prelude.{◌≡◌, ◌≢◌, ℕ, ◌+◌, ◌-◌, ◌<◌, ◌≤◌, List, [], ◌∷◌, ◌++◌, length, slice_index, true, false, Option, Some, None}
use Rattle.atomic_table.specs.Table.{Me}
use Rattle.ref_state.specs.declared.kinds.Tag.{Tag}
use Rattle.ref_state.specs.declared.state.Hold.{Hold}
use Rattle.ref_state.specs.declared.state.Turn.{Turn}
use Rattle.ref_state.specs.Steps.{first, change, is_slot, is_least, is_held, Some_where}
use Rattle.ref_state.specs.Soundness.{Every}
use Rattle.table_rule.specs.declared.rule.Told.{Told}
use Rattle.table_rule.specs.Meant.{Meaning, target, Legal, is_named}
use Rattle.table_rule.specs.Words.{at, TurnOf}
use Rattle.table_rule.specs.Plays.{executed, StillStands, IsInHand}

abbrev pub turn_of : ℕ → Turn
turn_of n = record { slot = n; out = false }

-- the extents of the first i of these slots are in hand, and the turns of the others aren't
pub record Reached {S : Type 0} (slots : List ℕ) (i : ℕ) (a : Me (Option S) Told) : Type 0 where
  pub held : (j : ℕ) → j < i → Some_where (is_slot (slice_index slots j)) a.0.view.turns
      × IsInHand (slice_index slots j) a.1
  pub free : (j : ℕ) → i ≤ j → j < length slots
      → first (is_slot (slice_index slots j)) a.0.view.turns ≡ None

-- the word that the last look found is that of this slot's turn
pub record LastTried {S : Type 0} (slot : ℕ) (a : Me (Option S) Told) : Type 0 where
  pub word : ℕ
  pub before : List (ℕ × ℕ)
  pub found_is : a.0.found ≡ (at (TurnOf slot), word) ∷ before

module _ {T X Y R S : Type 0} (m : Meaning T X Y R S) where
  -- the extent of a slot was moved out: it stands for the target's blocks there, and the seat knows
  -- the whole history so far
  pub record TookOut (n : ℕ) (value : S) (a b : Me (Option S) Told) : Type 0 where
    pub more : List Tag
    pub told : b ≡ (
      record a.0 {
        view = record a.0.view { turns = turn_of n ∷ a.0.view.turns };
        known = a.0.known ++ more;
        found = (at (TurnOf n), 0) ∷ a.0.found;
      },
      (n, None) ∷ a.1,
    )
    pub stands_for : m.stands value n (target m b.0.known)
    pub others : Every (StillStands m a.0.known b.0.known) a.0.view.turns

  -- the turn of one of these slots was found taken, by the word that the last look found. The seat
  -- has no other turn than before, and drew no place
  pub record Stopped (slots : List ℕ) (a b : Me (Option S) Told) : Type 0 where
    pub slot : ℕ
    pub word : ℕ
    pub one_of : (j : ℕ) × (j < length slots) × (slice_index slots j ≡ slot)
    pub taken : word ≢ 0
    pub more : List Tag
    pub looked : List (ℕ × ℕ)
    pub still : Every (StillStands m a.0.known b.0.known) a.0.view.turns
    pub told : b ≡ (
      record a.0 {
        known = a.0.known ++ more;
        found = (at (TurnOf slot), word) ∷ (looked ++ a.0.found);
      },
      a.1,
    )

  -- the Execute is placed and its hold marked, and the seat has no other turn than before
  pub record Ran (tag : Tag) (h : Hold) (a b : Me (Option S) Told) (place serial : ℕ) : Type 0 where
    pub between : List Tag
    pub looked : List (ℕ × ℕ)
    pub place_is : length (a.0.known ++ between) ≡ place
    pub legal : Legal m b.0.known
    -- the command that it takes is that of the hold
    pub takes : first (λ (y : Tag × ℕ). is_named tag y.0)
        (m.commands (target m (a.0.known ++ between))) ≡ Some (h.call, h.disk)
    pub still : Every (StillStands m a.0.known (a.0.known ++ between)) a.0.view.turns
    pub told : b ≡ (
      record a.0 {
        view = record a.0.view {
          left = a.0.view.left - 1;
          seen = place + 1;
          entries = executed place serial tag h.place ∷ a.0.view.entries;
          holds = change (is_least (is_held tag h.disk) a.0.view.holds)
              (λ x. record x { executed = true }) a.0.view.holds;
        };
        known = (a.0.known ++ between) ++ tag ∷ [];
        found = looked ++ a.0.found;
      },
      a.1,
    )
