-- The invariant of the core: what holds after every allowed step, whatever the interleaving. It has
-- nine parts, each a definition of its own over the parts of the core of which it speaks. A fact
-- that stands only so that the others can be kept is marked "for the induction".
use Rattle.std.specs.Prelude.{◌≡◌, ◌≢◌, ◌⊎◌, ◌↔◌, ℕ, ◌+◌, ◌-◌, ◌%◌, ◌<◌, ◌≤◌, Bool, true, false, not, ◌==◌, nat_le, List, [], ◌∷◌, length, slice_index, slice_index_or, replicate, Some, None}
use mathlib.Core.Option.{some}
use lib.ListN.{get_elem?}
use Rattle.ref_state.specs.declared.limits.TheConstants.{LIVE}
use Rattle.ref_state.specs.declared.kinds.Tag.{Tag}
use Rattle.ref_state.specs.declared.state.Entry.{Entry}
use Rattle.ref_state.specs.declared.state.Section.TheVariants.{Out}
use Rattle.ref_state.specs.declared.state.LoadedMode.{LoadedMode}
use Rattle.ref_state.specs.declared.state.LoadedMode.TheVariants.{NotLoaded, Live, Killed}
use Rattle.ref_state.specs.declared.state.Role.TheVariants.{Seat}
use Rattle.ref_state.specs.declared.state.View.{View}
use Rattle.ref_state.specs.declared.state.Mark.{Mark}
use Rattle.ref_state.specs.declared.state.Mark.TheVariants.{Passed}
use Rattle.ref_state.specs.declared.state.Count.{Count}
use Rattle.ref_state.specs.declared.state.Phase.{Phase}
use Rattle.ref_state.specs.declared.state.Phase.TheVariants as phase
use Rattle.ref_state.specs.declared.state.Drain.{Drain}
use Rattle.ref_state.specs.declared.state.Published.{Published}
use Rattle.ref_state.specs.declared.state.Editor.{Editor}
use Rattle.ref_state.specs.declared.state.Disk.{Disk}
use Rattle.ref_state.specs.declared.state.State.{State as Core}
use Rattle.ref_state.specs.State.{At, bias, total, kept, entries, holds, one_if, has_place, has_got, got_at, got_by, submit_got, bare_got, execute_of, published_entry, is_publish, any_hold, any_entry, waiting_hold, done_hold, bare_hold, once_below, holds_on, is_odd, is_open, Reads, conf, Shows, overlaid, mark, AllPassed, IsAwaited, IsLiveOrAwaited, no_disk, no_drain, drain, ups, downs, no_count, of_slot}
use Rattle.ref_state.specs.Steps.{MayLoad}

-- each seat and part j, which keeps v, has P
abbrev pub Each : List View → (ℕ → View → Type 0) → Type 0
Each views P = (j : ℕ) (v : View) → At views j v → P j v

module _ {A : Type 0} where
  abbrev pub Every : (A → Type 0) → List A → Type 0
  Every P [] = Unit {0}
  Every P (x ∷ xs) = P x × Every P xs

-- ## 1. Places and serials

-- how many serials are published up to the place k
abbrev pub serial_at : List Published → ℕ → ℕ
serial_at ps k = total (λ p. one_if (nat_le p.place k)) ps

-- an entry has one of the n places given, and the serial of that place
pub record EntryOk (n : ℕ) (ps : List Published) (e : Entry) : Type 0 where
  pub below : e.place < n
  pub serial : e.serial ≡ serial_at ps e.place
  -- it published its serial where the editor's list of serials says so, and only there
  pub published : is_publish e.by ≡ true → get_elem? ps (e.serial - 1)
      ≡ some record { place = e.place; call = e.call }
  pub plain : is_publish e.by ≡ false → (p : Published) → get_elem? ps (e.serial - 1) ≡ some p
      → p.place ≢ e.place

-- a seat or part has seen the places of all the entries and holds that it keeps
abbrev pub KeepsSeen : View → Type 0
KeepsSeen v = Every (λ e. e.place < v.seen) (kept v) × Every (λ h. h.place < v.seen) v.holds

-- The entries of all seats and parts have the places 0 to n - 1, each once: the clock hands out
-- each place to one step. That an open section's place is that of one unfinished entry is true by
-- form, since the section has that entry
pub record PlacesAndSerials (given serial quotas : ℕ) (ps : List Published) (views : List View) :
    Type 0 where
  pub once : (k : ℕ) → entries (has_place k) views ≡ once_below k given
  -- for the induction: there are no others
  pub all : entries any_entry views ≡ given
  pub each : Each views (λ j v. Every (EntryOk given ps) (kept v))
  -- the high half of the clock counts the published entries, and the editor's seat keeps the place
  -- and call of each
  pub published : (length ps ≡ serial) × (entries published_entry views ≡ serial)
  pub rising : (i : ℕ) (p : Published) → get_elem? ps i ≡ some p → (p.place < given)
      × (serial_at ps p.place ≡ i + 1)
  -- places given and places left are the quotas, so the low half of the clock never runs over into
  -- the high one
  pub left : given + total (λ v. v.left) views ≡ quotas
  pub small : quotas < 4294967296
  pub seen : Each views (λ j v. v.seen ≤ given)
  -- the next place that a seat draws is above all that it keeps
  pub known : Each views (λ _ v. KeepsSeen v)

-- ## 2. The two sides

-- The side of the last serial holds its configuration's words. The other side holds those of the
-- serial before, with what was set since the last publish, and nothing is set before every seat has
-- passed: so an open section finds the words of its serial on its side
pub record SidesAgree (n rows serial : ℕ) (sides : List (List ℕ)) (k : Editor) (views : List View) :
    Type 0 where
  pub two : length sides ≡ 2
  -- for the induction: there is one list of words for each serial, as long as a side
  pub confs : length k.confs ≡ serial + 1
  pub wide : (s : ℕ) → s < serial + 1 → length (conf k s) ≡ rows
  pub last : slice_index_or sides (serial % 2) [] ≡ conf k serial
  pub spare : slice_index_or sides ((serial + 1) % 2) [] ≡ overlaid (conf k (serial - 1)) k.pending
  pub still : k.pending ≢ [] → AllPassed n k.marks
  -- a section reads the last serial, or the one before
  pub reads : Each views (λ j v. (s : ℕ) → Reads v s → (s ≡ serial) ⊎ (s + 1 ≡ serial))

-- ## 3. The grace period of the sides

-- A seat's section word is odd exactly where its section is open. While a section reads the serial
-- before, the grace period waits for it
pub record GracePeriod (seats serial : ℕ) (marks : List Mark) (views : List View) : Type 0 where
  -- for the induction: the seats come first, and who is no seat has no section
  pub many : seats ≤ length views
  pub marked : length marks ≡ seats
  pub seats_first : Each views (λ j v. (v.role ≡ Seat → j < seats)
      × (v.role ≢ Seat → v.section ≡ Out))
  pub odd : Each views (λ j v. is_odd v.word ≡ is_open v.section)
  pub old : Each views (λ j v. (s : ℕ) → Reads v s → s + 1 ≡ serial
      → IsAwaited (mark marks j) v.word)

-- ## 4. Split counts

-- a counter was raised at most g times and lowered at most p times. So as a whole number it lies
-- from minus p to g
abbrev pub IsWithin : ℕ → ℕ → Count → Type 0
IsWithin p g x = (x.ups ≤ g) × (x.downs ≤ p)

-- the phases in which the own counters count beside the shared count
abbrev pub counts_own : Phase → Bool
counts_own phase.Live = true
counts_own phase.Killed = true
counts_own phase.Armed = true
counts_own _ = false

abbrev pub is_biased : Phase → Bool
is_biased phase.Live = true
is_biased phase.Armed = true
is_biased _ = false

-- one disk's reference among n seats, where g entries got a hold, p of these holds were put, and
-- `on` holds stand on this disk
pub record SplitCount (n g p on : ℕ) (k : Disk) (b : Drain) : Type 0 where
  pub long : (length k.own ≡ n) × (length b.bases ≡ n)
  -- (shared - bias) + (sum of the own counters) - (sum of their bases) is the number of holds. A
  -- get on one seat and its put on another meet in this sum alone, as with the kernel's per-CPU
  -- counters
  pub balance : counts_own b.phase ≡ true → k.shared + (total ups k.own + total downs b.bases)
      ≡ bias + (total downs k.own + (total ups b.bases + on))
  pub armed : b.phase ≡ phase.Armed → on ≡ 0
  pub biased : is_biased b.phase ≡ true → k.shared ≡ bias
  -- before the fold the count stays near the bias, and so far from 0
  pub killed : b.phase ≡ phase.Killed → (k.shared ≤ bias + g) × (bias ≤ k.shared + p)
  pub lies : Every (IsWithin p g) k.own × Every (IsWithin p g) b.bases

-- how many holds were put: the entries that got one, less the holds that stand
abbrev pub puts_of : List View → ℕ
puts_of views = entries has_got views - holds any_hold views

pub record SplitCountsBalance (n : ℕ) (disks : List Disk) (drains : List Drain) (views : List View)
    : Type 0 where
  pub standing : holds any_hold views ≤ entries has_got views
  -- each hold that stands is that of one entry whose section got it, at its place and with its
  -- call, and no two are of the same
  pub of_one : (k : ℕ) (p : Tag → Bool) → holds (got_by k p) views ≤ entries (got_at k p) views
  pub as_many : length drains ≡ length disks
  pub counts : (d : ℕ) → d < length disks
      → SplitCount n (entries has_got views) (puts_of views) (holds_on d views)
      (slice_index_or disks d no_disk) (slice_index_or drains d no_drain)

-- ## 5. The count after the fold

-- After the fold the shared count is the number of holds, and 0 once it was found to be 0. The own
-- counters stand at their bases
pub record FoldedCount (on : ℕ) (k : Disk) (b : Drain) : Type 0 where
  pub folded : b.phase ≡ phase.Folded → (k.shared ≡ on) × (k.own ≡ b.bases)
  pub drained : b.phase ≡ phase.Drained → (k.shared ≡ 0) × (on ≡ 0) × (k.own ≡ b.bases)

abbrev pub FoldedCountExact : List Disk → List Drain → List View → Type 0
FoldedCountExact disks drains views = (d : ℕ) → d < length disks
    → FoldedCount (holds_on d views) (slice_index_or disks d no_disk)
    (slice_index_or drains d no_drain)

-- ## 6. Loaded modes

-- what a seat has loaded fits the phase. Its section is open, and shows the disk or its seat keeps
-- a hold on it. Live on a killed disk is that of a section for which the grace period since the
-- kill still waits; killed may outlast the fold, since it means the shared count
abbrev pub LoadedModeFits : Editor → ℕ → View → LoadedMode → Type 0
LoadedModeFits k j v NotLoaded = Unit {0}
LoadedModeFits k j v (Live d) = (is_open v.section ≡ true) × MayLoad k v d
    × IsLiveOrAwaited (drain k d) j v.word
LoadedModeFits k j v (Killed d) = (is_open v.section ≡ true) × MayLoad k v d
    × (((drain k d).phase ≡ phase.Killed) ⊎ ((drain k d).phase ≡ phase.Folded))

-- The mode is live exactly in the phase live, and a loaded one is still good for one step on a
-- counter
pub record ModeSnapshots (n : ℕ) (disks : List Disk) (k : Editor) (views : List View) : Type 0 where
  pub mode : (d : ℕ) → ((slice_index_or disks d no_disk).mode ≡ LIVE) ↔
      ((drain k d).phase ≡ phase.Live)
  pub loaded : Each views (λ j v. LoadedModeFits k j v v.loaded)
  -- a counter that was looked at since the kill stands as it was looked at, since every seat had
  -- passed before
  pub looked : (d : ℕ) → (drain k d).phase ≡ phase.Killed → (o : ℕ) (x : Count)
      → slice_index_or (drain k d).looked o None ≡ Some x
      → AllPassed n (drain k d).marks × (slice_index_or (slice_index_or disks d no_disk).own o
      no_count ≡ x)
  -- for the induction
  pub wide : (d : ℕ) → (drain k d).phase ≡ phase.Killed → (length (drain k d).looked ≡ n)
      × (length (drain k d).marks ≡ n)

-- ## 7. What is shown is live

-- A disk that the last serial shows is live. One that an open section's serial shows is live, or
-- killed with that section awaited: a get there needs no test that can fail, unlike
-- percpu_ref_tryget_live
pub record ShownIsLive (serial : ℕ) (k : Editor) (views : List View) : Type 0 where
  pub last : (d : ℕ) → Shows k serial d → (drain k d).phase ≡ phase.Live
  pub sections : (d : ℕ) → Each views (λ j v. (s : ℕ) → Reads v s → Shows k s d
      → IsLiveOrAwaited (drain k d) j v.word)

-- ## 8. Turns

-- Seat j has the number j, also once it was joined, and a part has that of a seat. A turn is 0
-- exactly where no seat has it, else the number of its holder plus 1. So two seats never reach one
-- extent
pub record TurnsOwned (seats : ℕ) (turns : List ℕ) (views : List View) : Type 0 where
  pub numbered : Each views (λ j v. (j < seats → v.number ≡ j) × (v.number < seats))
  pub holders : (s : ℕ) → s < length turns → total (λ v. total (of_slot s) v.turns) views
      ≡ one_if (not (slice_index turns s == 0))
  pub owner : Each views (λ j v. Every (λ t. get_elem? turns t.slot ≡ some (j + 1)) v.turns)

-- ## 9. One hold for each submit

-- For each place k of a submit whose section got a hold: its Execute is placed, or one hold waits
-- for it, and not both. A hold that is marked as having its Execute placed has it. A bare call's
-- hold is its own. Said of every test p of a caller and a number, this is said of the submit with
-- its name: its hold and its Execute have the same. That a submit that isn't finished has its
-- section open is true by form
pub record OneHoldPerSubmit (views : List View) : Type 0 where
  pub submits : (k : ℕ) (p : ℕ → ℕ → Bool) → holds (waiting_hold k p) views
      + entries (execute_of k p) views ≡ entries (submit_got k p) views
  pub executed : (k : ℕ) (p : ℕ → ℕ → Bool)
      → holds (done_hold k p) views ≤ entries (execute_of k p) views
  pub bare : (k : ℕ) (p : ℕ → ℕ → Bool) → holds (bare_hold k p) views ≤ entries (bare_got k p) views

-- ## The whole

pub record IsSound (c : Core) : Type 0 where
  pub places : PlacesAndSerials c.given c.serial c.quotas c.editor.published c.views
  pub sides : SidesAgree c.seats c.rows c.serial c.sides c.editor c.views
  pub sections : GracePeriod c.seats c.serial c.editor.marks c.views
  pub split_counts : SplitCountsBalance c.seats c.disks c.editor.drains c.views
  pub folded_counts : FoldedCountExact c.disks c.editor.drains c.views
  pub modes : ModeSnapshots c.seats c.disks c.editor c.views
  pub shown : ShownIsLive c.serial c.editor c.views
  pub turns : TurnsOwned c.seats c.turns c.views
  pub holds : OneHoldPerSubmit c.views

-- ## The opened core

-- a seat that has made no step
abbrev pub seat_view : ℕ → ℕ → View
seat_view number quota = record {
  role = Seat;
  number = number;
  word = 0;
  section = Out;
  loaded = NotLoaded;
  holds = [];
  turns = [];
  left = quota;
  seen = 0;
  entries = [];
}

-- seats with these quotas, numbered from n on
abbrev pub seats_from : ℕ → List ℕ → List View
seats_from n [] = []
seats_from n (q ∷ qs) = seat_view n q ∷ seats_from (n + 1) qs

abbrev pub sum_of : List ℕ → ℕ
sum_of qs = total (λ q. q) qs

abbrev pub live_disk : ℕ → Disk
live_disk seats = record { mode = LIVE; shared = bias; own = replicate seats no_count }

abbrev pub live_drain : ℕ → Drain
live_drain seats = record {
  phase = phase.Live;
  done_placed = false;
  bases = replicate seats no_count;
  looked = [];
  marks = replicate seats Passed;
}

-- one seat for each quota, all of whose places are left; the clock at 0; both sides with these
-- words; each disk live, each slot's turn free, no hold, no entry, and every seat marked as passed
abbrev pub opened_core : List ℕ → ℕ → ℕ → List ℕ → Core
opened_core quotas disks slots words = record {
  given = 0;
  serial = 0;
  sides = words ∷ words ∷ [];
  disks = replicate disks (live_disk (length quotas));
  turns = replicate slots 0;
  views = seats_from 0 quotas;
  editor = record {
    confs = words ∷ [];
    published = [];
    pending = [];
    marks = replicate (length quotas) Passed;
    drains = replicate disks (live_drain (length quotas));
  };
  seats = length quotas;
  rows = length words;
  quotas = sum_of quotas;
}
