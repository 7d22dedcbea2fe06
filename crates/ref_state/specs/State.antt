-- What is read of a core. Its data are those of src/state.rt: contracts see a `Core` as its
-- `State`, and it is called `Core` here. Sums over all seats and parts are `total`s, so "as many",
-- "each once" and "none" are equations between numbers.
use Rattle.std.specs.Prelude.{◌≡◌, ◌≢◌, ◌⊎◌, ℕ, ◌+◌, ◌-◌, ◌%◌, ◌<◌, Bool, true, false, not, ◌&&◌, ◌==◌, nat_le, if◌then◌else◌, List, [], ◌∷◌, ◌++◌, slice_index, slice_index_or, slice_set, Option, Some, None}
use mathlib.Core.Option.{some}
use lib.ListN.{get_elem?}
use Rattle.ref_state.specs.declared.limits.TheConstants.{BIAS, LIVE}
use Rattle.ref_state.specs.declared.kinds.TheConstants.{BARE}
use Rattle.ref_state.specs.declared.kinds.Tag.{Tag}
use Rattle.ref_state.specs.declared.state.By.{By}
use Rattle.ref_state.specs.declared.state.By.TheVariants.{Publish, Execute}
use Rattle.ref_state.specs.declared.state.Entry.{Entry}
use Rattle.ref_state.specs.declared.state.Hold.{Hold}
use Rattle.ref_state.specs.declared.state.Section.{Section}
use Rattle.ref_state.specs.declared.state.Section.TheVariants.{Out, In, Placed}
use Rattle.ref_state.specs.declared.state.Turn.{Turn}
use Rattle.ref_state.specs.declared.state.LoadedMode.TheVariants.{NotLoaded}
use Rattle.ref_state.specs.declared.state.Role.TheVariants.{Spent}
use Rattle.ref_state.specs.declared.state.View.{View}
use Rattle.ref_state.specs.declared.state.Mark.{Mark}
use Rattle.ref_state.specs.declared.state.Mark.TheVariants.{Unseen, Noted, Passed}
use Rattle.ref_state.specs.declared.state.Count.{Count}
use Rattle.ref_state.specs.declared.state.Phase.{Phase}
use Rattle.ref_state.specs.declared.state.Phase.TheVariants as phase
use Rattle.ref_state.specs.declared.state.Drain.{Drain}
use Rattle.ref_state.specs.declared.state.Editor.{Editor}
use Rattle.ref_state.specs.declared.state.Disk.{Disk}
use Rattle.ref_state.specs.declared.state.State.{State as Core}

-- the seat or part j has the view v
abbrev pub At : List View → ℕ → View → Type 0
At views j v = get_elem? views j ≡ some v

-- the bias of a shared count. While it is in, no put can find the count at 0
abbrev pub bias : ℕ
bias = BIAS

-- the words are modulo this, 2^64
abbrev pub word_end : ℕ
word_end = 18446744073709551616

-- ## Sums over all seats and parts

module _ {A : Type 0} where
  -- the sum of f over a list, item by item from the first. It is std's `sum_by`, in the form that
  -- computes at a first item
  abbrev pub total : (A → ℕ) → List A → ℕ
  total f [] = 0
  total f (x ∷ xs) = f x + total f xs

-- the unfinished entry of an open section that has its place
abbrev pub own_entry : Section → List Entry
own_entry Out = []
own_entry In = []
own_entry (Placed e) = e ∷ []

-- the entries that a seat keeps: that of its open section, which isn't finished, and the finished
-- ones
abbrev pub kept : View → List Entry
kept v = own_entry v.section ++ v.entries

-- the sum of f over the entries that all seats and parts keep
abbrev pub entries : (Entry → ℕ) → List View → ℕ
entries f views = total (λ v. total f (kept v)) views

-- the sum of f over the holds that all seats and parts keep
abbrev pub holds : (Hold → ℕ) → List View → ℕ
holds f views = total (λ v. total f v.holds) views

abbrev pub one_if : Bool → ℕ
one_if true = 1
one_if false = 0

-- a bare call changes nothing and has no Execute
abbrev pub is_bare : Tag → Bool
is_bare t = t.kind == BARE

abbrev pub is_publish : By → Bool
is_publish Publish = true
is_publish _ = false

-- it is the Execute of the submit at this place
abbrev pub executes : By → ℕ → Bool
executes (Execute of) k = of == k
executes _ k = false

-- ### What is counted of entries: 1 for each that is meant, 0 for the others

abbrev pub any_entry : Entry → ℕ
any_entry e = 1

-- at this place
abbrev pub has_place : ℕ → Entry → ℕ
has_place k e = one_if (e.place == k)

-- its section got a hold
abbrev pub has_got : Entry → ℕ
has_got e = one_if e.got

-- at this place, with a call that p takes, and its section got a hold
abbrev pub got_at : ℕ → (Tag → Bool) → Entry → ℕ
got_at k p e = one_if (((e.place == k) && p e.call) && e.got)

-- p takes the caller and the number of the call
abbrev pub is_named : (ℕ → ℕ → Bool) → Tag → Bool
is_named p t = p t.caller t.number

-- a submit at this place, with a name that p takes, whose section got a hold
abbrev pub submit_got : ℕ → (ℕ → ℕ → Bool) → Entry → ℕ
submit_got k p e = one_if (((e.place == k) && is_named p e.call) && (e.got && not (is_bare e.call)))

-- a bare call at this place, with a name that p takes, whose section got a hold
abbrev pub bare_got : ℕ → (ℕ → ℕ → Bool) → Entry → ℕ
bare_got k p e = one_if (((e.place == k) && is_named p e.call) && (e.got && is_bare e.call))

-- an Execute of the submit at this place, with a name that p takes
abbrev pub execute_of : ℕ → (ℕ → ℕ → Bool) → Entry → ℕ
execute_of k p e = one_if (executes e.by k && is_named p e.call)

abbrev pub published_entry : Entry → ℕ
published_entry e = one_if (is_publish e.by)

-- ### What is counted of holds

abbrev pub any_hold : Hold → ℕ
any_hold h = 1

abbrev pub on_disk : ℕ → Hold → ℕ
on_disk d h = one_if (h.disk == d)

-- got by the section at this place, with a call that p takes
abbrev pub got_by : ℕ → (Tag → Bool) → Hold → ℕ
got_by k p h = one_if ((h.place == k) && p h.call)

-- got by the submit at this place, with a name that p takes, its Execute not placed
abbrev pub waiting_hold : ℕ → (ℕ → ℕ → Bool) → Hold → ℕ
waiting_hold k p h = one_if (((h.place == k) && is_named p h.call)
    && (not (is_bare h.call) && not h.executed))

-- got by the submit at this place, with a name that p takes, its Execute placed
abbrev pub done_hold : ℕ → (ℕ → ℕ → Bool) → Hold → ℕ
done_hold k p h = one_if (((h.place == k) && is_named p h.call)
    && (not (is_bare h.call) && h.executed))

-- got by the bare call at this place, with a name that p takes
abbrev pub bare_hold : ℕ → (ℕ → ℕ → Bool) → Hold → ℕ
bare_hold k p h = one_if (((h.place == k) && is_named p h.call) && is_bare h.call)

-- how many holds on a disk stand: what its reference has to count
abbrev pub holds_on : ℕ → List View → ℕ
holds_on d views = holds (on_disk d) views

-- 1 for a number below n
abbrev pub once_below : ℕ → ℕ → ℕ
once_below k n = one_if (nat_le (k + 1) n)

-- turns of this slot
abbrev pub of_slot : ℕ → Turn → ℕ
of_slot s t = one_if (t.slot == s)

-- ## Read sections

abbrev pub is_odd : ℕ → Bool
is_odd w = w % 2 == 1

abbrev pub is_open : Section → Bool
is_open Out = false
is_open _ = true

-- the serial that a section reads, once it has its place
abbrev pub read : Section → Option ℕ
read Out = None
read In = None
read (Placed e) = Some e.serial

-- the section of v has a place, and reads the serial s
abbrev pub Reads : View → ℕ → Type 0
Reads v s = read v.section ≡ Some s

-- ## Two sides of words

-- the side that a serial is on: even serials on one, odd ones on the other
abbrev pub side : Core → ℕ → List ℕ
side c s = slice_index_or c.sides (s % 2) []

-- the words of the configuration at a serial
abbrev pub conf : Editor → ℕ → List ℕ
conf k s = slice_index_or k.confs s []

-- the serial shows the disk: its configuration has an enabled namespace on it
abbrev pub Shows : Editor → ℕ → ℕ → Type 0
Shows k s d = slice_index (conf k s) d ≢ 0

-- a list of words with these set, the newest first
abbrev pub overlaid : List ℕ → List (ℕ × ℕ) → List ℕ
overlaid ws [] = ws
overlaid ws (x ∷ xs) = slice_set (overlaid ws xs) x.0 x.1

-- ## Grace periods

-- what a grace period has seen of the seat j
abbrev pub mark : List Mark → ℕ → Mark
mark ms j = slice_index_or ms j Unseen

-- the grace period is over: each of n seats has been outside a section since it began
abbrev pub AllPassed : ℕ → List Mark → Type 0
AllPassed n ms = (j : ℕ) → j < n → mark ms j ≡ Passed

-- the grace period still waits for a seat whose section word is w: it isn't marked as passed, and
-- where its word was noted, w is the noted one. This is said of each section that began before the
-- grace period
abbrev pub IsAwaited : Mark → ℕ → Type 0
IsAwaited Unseen w = Unit {0}
IsAwaited (Noted x) w = w ≡ x
IsAwaited Passed w = ⊥

-- the mark after a look that found w. An even word, or another than the noted one, tells that the
-- seat left the section that the grace period waits for; an odd word at the first look may be of
-- that section, and is noted
abbrev pub looked : Mark → ℕ → Mark
looked Unseen w = if is_odd w then Noted w else Passed
looked (Noted x) w = if is_odd w then (if w == x then Noted x else Passed) else Passed
looked Passed w = Passed

-- ## Split references

-- what is read at a disk that isn't there
abbrev pub no_disk : Disk
no_disk = record { mode = LIVE; shared = 0; own = [] }

abbrev pub no_drain : Drain
no_drain = record { phase = phase.Live; done_placed = false; bases = []; looked = []; marks = [] }

abbrev pub disk : Core → ℕ → Disk
disk c d = slice_index_or c.disks d no_disk

abbrev pub drain : Editor → ℕ → Drain
drain k d = slice_index_or k.drains d no_drain

abbrev pub ups : Count → ℕ
ups c = c.ups

abbrev pub downs : Count → ℕ
downs c = c.downs

abbrev pub no_count : Count
no_count = record { ups = 0; downs = 0 }

-- the word of a counter: the whole number modulo 2^64, so that one that was lowered below 0 is
-- above 2^63
abbrev pub word_of : Count → ℕ
word_of c = (c.ups + (word_end - c.downs % word_end)) % word_end

-- the disk is live, or it is killed and its grace period still waits for the seat j, whose section
-- word is w
abbrev pub IsLiveOrAwaited : Drain → ℕ → ℕ → Type 0
IsLiveOrAwaited b j w = (b.phase ≡ phase.Live) ⊎ ((b.phase ≡ phase.Killed)
    × IsAwaited (mark b.marks j) w)

abbrev pub is_killed : Phase → Bool
is_killed phase.Killed = true
is_killed _ = false

-- ## Seats and parts

-- what is read of one that isn't there
abbrev pub no_view : View
no_view = record {
  role = Spent;
  number = 0;
  word = 0;
  section = Out;
  loaded = NotLoaded;
  holds = [];
  turns = [];
  left = 0;
  seen = 0;
  entries = [];
}

abbrev pub view : List View → ℕ → View
view views j = slice_index_or views j no_view
