-- What one step tells the call that takes it, and what it leaves to the others.
use Rattle.std.specs.Prelude.{◌≡◌, ◌≢◌, ◌⊎◌, ℕ, ◌+◌, ◌≤◌, Bool, false, true, max}
use Rattle.ref_state.specs.declared.kinds.Kind.{Kind}
use Rattle.ref_state.specs.declared.kinds.Kind.TheVariants.{DrawPlace, Publish, LookSection, AddShared, Join, PlaceDone, PlaceExecute}
use Rattle.ref_state.specs.declared.kinds.Answer.{Answer}
use Rattle.ref_state.specs.declared.kinds.Answer.TheVariants as answer
use Rattle.ref_state.specs.declared.state.Mark.{Mark}
use Rattle.ref_state.specs.declared.state.Mark.TheVariants.{Noted, Passed}
use Rattle.ref_state.specs.declared.state.Count.{Count}
use Rattle.ref_state.specs.declared.state.Phase.TheVariants as phase
use Rattle.ref_state.specs.declared.state.View.{View}
use Rattle.ref_state.specs.declared.state.State.{State as Core}
use Rattle.ref_state.specs.State.{At, total, kept, entries, any_entry, has_place, once_below, is_odd, mark, word_of, drain, view}
use Rattle.ref_state.specs.Steps.{IsAllowed, next_core, answer_of, count_after, word_after}
use Rattle.ref_state.specs.Soundness.{IsSound}
use Rattle.ref_state.specs.Runs.{IsOver}

-- ## What a put tells

-- a put on the shared count that finds 1 there put the last hold of a folded life. The caller knows
-- the word that it found alone
abbrev pub PutThatFindsOne : Type 0
PutThatFindsOne = (c : Core) (j d : ℕ) → IsSound c → IsAllowed c j (AddShared d false)
    → answer_of c j (AddShared d false) ≡ answer.Word 1
    → IsOver (next_core c j (AddShared d false)) d

-- a fetch-add on the word of a counter leaves the word of that counter, once more raised or lowered
abbrev pub WordsFollowCounts : Type 0
WordsFollowCounts = (up : Bool) (x : Count) → word_after up (word_of x) ≡ word_of (count_after up x)

-- ## What a look tells

-- the mark says that the seat has passed, or it is the odd word w that was just found
abbrev pub IsPassedOrNoted : ℕ → Mark → Type 0
IsPassedOrNoted w m = (m ≡ Passed) ⊎ ((m ≡ Noted w) × (is_odd w ≡ true))

-- after a look at a section word the seat has passed or its word is noted, for the last publish and
-- for each disk that is killed
abbrev pub LookTells : Type 0
LookTells = (c : Core) (j o w : ℕ) → IsSound c → IsAllowed c j (LookSection o)
    → answer_of c j (LookSection o) ≡ answer.Word w
    → IsPassedOrNoted w (mark (next_core c j (LookSection o)).editor.marks o)
    × ((d : ℕ) → (drain c.editor d).phase ≡ phase.Killed
    → IsPassedOrNoted w (mark (drain (next_core c j (LookSection o)).editor d).marks o))

-- ## What a place tells

-- the kinds that take a place on the clock
abbrev pub takes_place : Kind → Bool
takes_place (DrawPlace t) = true
takes_place (Publish t) = true
takes_place (PlaceDone d t) = true
takes_place (PlaceExecute s t) = true
takes_place _ = false

-- the place that such a step answers
abbrev pub place_in : Answer → ℕ
place_in (answer.Pair place serial) = place
place_in (answer.Word place) = place
place_in _ = 0

-- the place is none that the seat has seen before, and it has seen it afterwards
pub record IsNewPlace (c : Core) (j : ℕ) (k : Kind) : Type 0 where
  pub told : place_in (answer_of c j k) ≡ c.given
  pub unseen : (view c.views j).seen ≤ c.given
  pub seen : (view (next_core c j k).views j).seen ≡ c.given + 1

abbrev pub PlacesAreNew : Type 0
PlacesAreNew = (c : Core) (j : ℕ) (k : Kind) → IsSound c → IsAllowed c j k → takes_place k ≡ true
    → IsNewPlace c j k

-- who joins another has seen what either had
abbrev pub JoinKeepsTheLarger : Type 0
JoinKeepsTheLarger = (c : Core) (j p : ℕ) → IsAllowed c j (Join p)
    → (view (next_core c j (Join p)).views j).seen ≡ max (view c.views j).seen (view c.views p).seen

-- ## What a step leaves alone

-- a step of the seat j leaves every other seat and part as it was, but for one that it joins
abbrev pub OthersStay : Type 0
OthersStay = (c : Core) (j : ℕ) (k : Kind) (i : ℕ) (v : View) → i ≢ j
    → ((p : ℕ) → k ≡ Join p → i ≢ p) → At c.views i v → At (next_core c j k).views i v

-- ## Who has every entry

-- the entries of all seats and parts and the places that are left to them are the quotas
abbrev pub EntriesAndPlacesLeft : Type 0
EntriesAndPlacesLeft = (c : Core) → IsSound c → entries any_entry c.views
    + total (λ v. v.left) c.views ≡ c.quotas

-- so where a seat keeps as many entries and places left as there are in the quotas, it keeps the
-- entry of each place that was given
abbrev pub GatheredHasAll : Type 0
GatheredHasAll = (c : Core) (j : ℕ) (v : View) → IsSound c → At c.views j v
    → total any_entry (kept v) + v.left ≡ c.quotas
    → (total any_entry (kept v) ≡ c.given) × ((k : ℕ) → total (has_place k) (kept v)
    ≡ once_below k c.given)
