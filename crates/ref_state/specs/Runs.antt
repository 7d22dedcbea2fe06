-- Runs of the core, and what holds of every one of them.
use Rattle.std.specs.Prelude.{◌≡◌, ◌≢◌, ◌⊎◌, ℕ, ◌+◌, ◌<◌, ◌≤◌, false, true, List, [], ◌∷◌, length, slice_index, slice_index_or}
use Rattle.ref_state.specs.declared.kinds.Tag.{Tag}
use Rattle.ref_state.specs.declared.kinds.Kind.{Kind}
use Rattle.ref_state.specs.declared.kinds.Kind.TheVariants.{LoadRow, AddOwn, AddShared, PlaceDone, LiveMode}
use Rattle.ref_state.specs.declared.kinds.Answer.TheVariants as answer
use Rattle.ref_state.specs.declared.state.Count.{Count}
use Rattle.ref_state.specs.declared.state.View.{View}
use Rattle.ref_state.specs.declared.state.Phase.TheVariants as phase
use Rattle.ref_state.specs.declared.state.State.{State as Core}
use Rattle.ref_state.specs.State.{At, bias, word_end, word_of, no_count, holds_on, Reads, AllPassed, side, conf, Shows, disk, drain, view}
use Rattle.ref_state.specs.Steps.{IsAllowed, next_core, answer_of, Step}
use Rattle.ref_state.specs.Soundness.{IsSound, PlacesAndSerials, SidesAgree, GracePeriod, SplitCountsBalance, FoldedCountExact, ModeSnapshots, ShownIsLive, TurnsOwned, OneHoldPerSubmit, opened_core, sum_of}

-- the seats take these steps, one after another, from c to d
abbrev pub Run : Core → List (ℕ × Kind) → Core → Type 0
Run c [] d = d ≡ c
Run c (s ∷ steps) d = (m : Core) × Step c s.0 s.1 m × Run m steps d

-- ## Each allowed step keeps each part

abbrev pub KeptByEachStep : (Core → Type 0) → Type 0
KeptByEachStep P = (c d : Core) (j : ℕ) (k : Kind) → IsSound c → Step c j k d → P d

abbrev pub PlacesKept : Type 0
PlacesKept = KeptByEachStep (λ c. PlacesAndSerials c.given c.serial c.quotas c.editor.published
    c.views)

abbrev pub SidesKept : Type 0
SidesKept = KeptByEachStep (λ c. SidesAgree c.seats c.rows c.serial c.sides c.editor c.views)

abbrev pub SectionsKept : Type 0
SectionsKept = KeptByEachStep (λ c. GracePeriod c.seats c.serial c.editor.marks c.views)

abbrev pub SplitCountsKept : Type 0
SplitCountsKept = KeptByEachStep (λ c. SplitCountsBalance c.seats c.disks c.editor.drains c.views)

abbrev pub FoldedCountsKept : Type 0
FoldedCountsKept = KeptByEachStep (λ c. FoldedCountExact c.disks c.editor.drains c.views)

abbrev pub ModesKept : Type 0
ModesKept = KeptByEachStep (λ c. ModeSnapshots c.seats c.disks c.editor c.views)

abbrev pub ShownKept : Type 0
ShownKept = KeptByEachStep (λ c. ShownIsLive c.serial c.editor c.views)

abbrev pub TurnsKept : Type 0
TurnsKept = KeptByEachStep (λ c. TurnsOwned c.seats c.turns c.views)

abbrev pub HoldsKept : Type 0
HoldsKept = KeptByEachStep (λ c. OneHoldPerSubmit c.views)

abbrev pub SoundKept : Type 0
SoundKept = KeptByEachStep IsSound

-- ## Whole runs

-- for every list of quotas, one for each seat, and every list of allowed steps from an opened core,
-- the core is sound. Each beginning of a run is a run, so this says that it is sound after every
-- step
abbrev pub AlwaysSound : Type 0
AlwaysSound = (quotas : List ℕ) (disks slots : ℕ) (words : List ℕ) (steps : List (ℕ
    × Kind)) (c : Core) → sum_of quotas < 4294967296
    → Run (opened_core quotas disks slots words) steps c → IsSound c

-- ## Sides and sections

-- no allowed step, of whatever seat, writes the side that an open section reads
abbrev pub ReadSideStays : Type 0
ReadSideStays = (c : Core) (j : ℕ) (k : Kind) → IsSound c → IsAllowed c j k
    → (i : ℕ) (v : View) (s : ℕ) → At c.views i v → Reads v s → side (next_core c j k) s ≡ side c s

-- every word that a section loads is the configuration's at the serial of its place
abbrev pub RowsOfSerial : Type 0
RowsOfSerial = (c : Core) (j : ℕ) (w : ℕ) (s : ℕ) → IsSound c → IsAllowed c j (LoadRow w)
    → Reads (view c.views j) s → answer_of c j (LoadRow w)
    ≡ answer.Word (slice_index (conf c.editor s) w)

-- where all have passed since the last publish, an open section reads the last serial alone
abbrev pub LastSerialAlone : Type 0
LastSerialAlone = (c : Core) (j : ℕ) (v : View) (s : ℕ) → IsSound c
    → AllPassed c.seats c.editor.marks → At c.views j v → Reads v s → s ≡ c.serial

-- and the words of a serial, once published, stay
abbrev pub ConfsStay : Type 0
ConfsStay = (c : Core) (j : ℕ) (k : Kind) (s : ℕ) → IsSound c → IsAllowed c j k → s < c.serial + 1
    → conf (next_core c j k).editor s ≡ conf c.editor s

-- ## References

-- the word w, read as a two's complement number, is the counter: below 2^63 it is ups less downs,
-- from there on that number plus 2^64
abbrev pub IsTwosComplement : ℕ → Count → Type 0
IsTwosComplement w x = (w < bias → x.ups ≡ x.downs + w) × (bias ≤ w → x.ups + word_end ≡ x.downs
    + w)

-- the word that a seat keeps is its own counter, and so is that of where the counter stood at the
-- last fold
abbrev pub WordsAreCounters : Type 0
WordsAreCounters = (c : Core) (d j : ℕ) → IsSound c → d < length c.disks
    → IsTwosComplement (word_of (slice_index_or (disk c d).own j no_count))
    (slice_index_or (disk c d).own j no_count)
    × IsTwosComplement (word_of (slice_index_or (drain c.editor d).bases j no_count))
    (slice_index_or (drain c.editor d).bases j no_count)

-- the reference of a disk that an open section's serial shows is live or killed
abbrev pub ShownCounts : Type 0
ShownCounts = (c : Core) (j : ℕ) (v : View) (s d : ℕ) → IsSound c → At c.views j v → Reads v s
    → Shows c.editor s d → ((drain c.editor d).phase ≡ phase.Live)
    ⊎ ((drain c.editor d).phase ≡ phase.Killed)

-- so a get, on the own counter or on the shared count, never meets a folded, drained or armed one
abbrev pub GetsMeetNoFold : Type 0
GetsMeetNoFold = (c : Core) (j : ℕ) (d : ℕ) → IsSound c → IsAllowed c j (AddOwn d true)
    ⊎ IsAllowed c j (AddShared d true) → ((drain c.editor d).phase ≡ phase.Live)
    ⊎ ((drain c.editor d).phase ≡ phase.Killed)

-- after the fold the shared count is the number of holds
abbrev pub FoldedIsHolds : Type 0
FoldedIsHolds = (c : Core) (d : ℕ) → IsSound c → (drain c.editor d).phase ≡ phase.Folded
    → (disk c d).shared ≡ holds_on d c.views

-- a life of the reference is over: it is folded, drained or armed, and no hold stands
abbrev pub IsOver : Core → ℕ → Type 0
IsOver c d = ((((drain c.editor d).phase ≡ phase.Folded) ⊎ ((drain c.editor d).phase
    ≡ phase.Drained)) ⊎ ((drain c.editor d).phase ≡ phase.Armed)) × (holds_on d c.views ≡ 0)

-- a step that is no get and no put on the disk
pub record NoAddOn (d : ℕ) (k : Kind) : Type 0 where
  pub own_up : k ≢ AddOwn d true
  pub own_down : k ≢ AddOwn d false
  pub shared_up : k ≢ AddShared d true
  pub shared_down : k ≢ AddShared d false

module _ {A : Type 0} where
  abbrev pub EachStep : (A → Type 0) → List A → Type 0
  EachStep P [] = Unit {0}
  EachStep P (s ∷ steps) = P s × EachStep P steps

-- the put that finds the folded count at 0 ends the life: it was the last hold
abbrev pub LastPutEnds : Type 0
LastPutEnds = (c : Core) (j : ℕ) (d : ℕ) → IsSound c → IsAllowed c j (AddShared d false)
    → (drain c.editor d).phase ≡ phase.Folded → (disk (next_core c j (AddShared d false)) d).shared
    ≡ 0 → IsOver (next_core c j (AddShared d false)) d

-- where a Done is placed the life is over: no hold of it stands
abbrev pub DoneIsOver : Type 0
DoneIsOver = (c : Core) (j : ℕ) (d : ℕ) (t : Tag) → IsSound c → IsAllowed c j (PlaceDone d t)
    → IsOver (next_core c j (PlaceDone d t)) d

-- from there on, along every run in which the mode isn't made live again, no step is a get or a put
-- on the disk, and no hold stands. So a put finds the folded count at 0 at most once in a life, and
-- after a Done none is taken in that life
abbrev pub OverStays : Type 0
OverStays = (steps : List (ℕ × Kind)) (c e : Core) (d : ℕ) → IsSound c → IsOver c d → Run c steps e
    → EachStep (λ s. s.1 ≢ LiveMode d) steps → IsOver e d × EachStep (λ s. NoAddOn d s.1) steps
