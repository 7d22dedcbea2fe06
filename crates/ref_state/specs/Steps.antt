-- The kinds of atomic step: where each is allowed, what it makes of the core, and what it answers.
-- Each is one step on one word or slot, or on none; beside that word it changes what the stepping
-- seat keeps, and nothing of another seat. `split` and `join` have two.
use Rattle.std.specs.Prelude.{◌≡◌, ◌≢◌, ◌⊎◌, ℕ, zero, suc, ◌+◌, ◌-◌, ◌/◌, ◌%◌, ◌<◌, Bool, true, false, not, nat_le, ◌&&◌, ◌==◌, if◌then◌else◌, List, [], ◌∷◌, ◌++◌, map, length, max, replicate, slice_index, slice_index_or, slice_set, Option, Some, None}
use Rattle.ref_state.specs.declared.limits.TheConstants.{EXTENTS, LIVE, KILLED}
use Rattle.ref_state.specs.declared.kinds.TheConstants.{CONTROL, THROUGH}
use Rattle.ref_state.specs.declared.kinds.Tag.{Tag}
use Rattle.ref_state.specs.declared.kinds.Take.{Take}
use Rattle.ref_state.specs.declared.kinds.Take.TheVariants as take
use Rattle.ref_state.specs.declared.kinds.Kind.{Kind}
use Rattle.ref_state.specs.declared.kinds.Kind.TheVariants.{EnterSection, DrawPlace, LoadRow, LeaveSection, StoreRow, Publish, LookSection, LoadMode, AddOwn, AddShared, Split, Join, Kill, LookCounter, Fold, LookZero, PlaceDone, LiveShared, LiveMode, TakeTurn, SlotOut, PlaceExecute, SlotIn, GiveTurn}
use Rattle.ref_state.specs.declared.kinds.Answer.{Answer}
use Rattle.ref_state.specs.declared.kinds.Answer.TheVariants as answer
use Rattle.ref_state.specs.declared.state.By.{By}
use Rattle.ref_state.specs.declared.state.By.TheVariants as by
use Rattle.ref_state.specs.declared.state.Entry.{Entry}
use Rattle.ref_state.specs.declared.state.Hold.{Hold}
use Rattle.ref_state.specs.declared.state.Section.{Section}
use Rattle.ref_state.specs.declared.state.Section.TheVariants.{Out, In, Placed}
use Rattle.ref_state.specs.declared.state.Turn.{Turn}
use Rattle.ref_state.specs.declared.state.LoadedMode.{LoadedMode}
use Rattle.ref_state.specs.declared.state.LoadedMode.TheVariants.{NotLoaded, Live, Killed}
use Rattle.ref_state.specs.declared.state.Role.TheVariants.{Seat, Part, Spent}
use Rattle.ref_state.specs.declared.state.View.{View}
use Rattle.ref_state.specs.declared.state.Mark.{Mark}
use Rattle.ref_state.specs.declared.state.Mark.TheVariants.{Unseen}
use Rattle.ref_state.specs.declared.state.Count.{Count}
use Rattle.ref_state.specs.declared.state.Phase.TheVariants as phase
use Rattle.ref_state.specs.declared.state.Drain.{Drain}
use Rattle.ref_state.specs.declared.state.Editor.{Editor}
use Rattle.ref_state.specs.declared.state.Disk.{Disk}
use Rattle.ref_state.specs.declared.state.State.{State as Core}
use Rattle.ref_state.specs.State.{bias, word_end, total, own_entry, is_bare, is_open, Reads, side, Shows, mark, AllPassed, looked, disk, drain, no_count, word_of, is_killed, no_view, view}

-- ## The first that passes a test, and the hold with the least place

module _ {A : Type 0} where
  abbrev pub first : (A → Bool) → List A → Option A
  first p [] = None
  first p (x ∷ xs) = if p x then Some x else first p xs

  -- the list without the first that passes
  abbrev pub without : (A → Bool) → List A → List A
  without p [] = []
  without p (x ∷ xs) = if p x then xs else x ∷ without p xs

  -- the list with the first that passes changed
  abbrev pub change : (A → Bool) → (A → A) → List A → List A
  change p f [] = []
  change p f (x ∷ xs) = if p x then f x ∷ xs else x ∷ change p f xs

  -- one passes
  abbrev pub Some_where : (A → Bool) → List A → Type 0
  Some_where p xs = (x : A) × (first p xs ≡ Some x)

  abbrev pub listed : Option A → List A
  listed None = []
  listed (Some x) = x ∷ []

abbrev pub lesser : ℕ → Option ℕ → ℕ
lesser k None = k
lesser k (Some m) = if nat_le k m then k else m

-- the least place of the holds that pass the test, if one does
abbrev pub least_place : (Hold → Bool) → List Hold → Option ℕ
least_place p [] = None
least_place p (h ∷ hs) = if p h then Some (lesser h.place (least_place p hs)) else least_place p hs

abbrev pub place_or : Option ℕ → ℕ
place_or None = 0
place_or (Some k) = k

-- where several holds would do, a step takes the one with the least place
abbrev pub is_least : (Hold → Bool) → List Hold → Hold → Bool
is_least p hs h = p h && (h.place == place_or (least_place p hs))

abbrev pub least : (Hold → Bool) → List Hold → Option Hold
least p hs = first (is_least p hs) hs

abbrev pub without_least : (Hold → Bool) → List Hold → List Hold
without_least p hs = without (is_least p hs) hs

-- ## What a seat keeps after a step

-- an entry at the next place, with the serial that stands
abbrev pub new_entry : Core → Tag → By → Entry
new_entry c t b = record { place = c.given; serial = c.serial; call = t; by = b; got = false }

-- a place is drawn: one fewer is left of the quota, and all places so far are seen
abbrev pub after_draw : Core → View → View
after_draw c v = record v { left = v.left - 1; seen = c.given + 1 }

-- the word is made odd before anything is read: an editor that finds it even knows that this
-- section isn't open
abbrev pub after_enter : View → View
after_enter v = record v { word = (v.word + 1) % word_end; section = In }

-- place and serial come from one step on the clock, inside the section. So no edit is placed
-- between the two, and the side of that serial can't be handed out before this section is left
abbrev pub after_place : Core → Tag → View → View
after_place c t v = record (after_draw c v) { section = Placed (new_entry c t by.Draw) }

-- the word is made even after all is read. Where the section has its place, its entry is finished
abbrev pub after_leave : View → View
after_leave v = record v {
  word = (v.word + 1) % word_end;
  section = Out;
  entries = own_entry v.section ++ v.entries;
}

-- an entry that is finished at its own step
abbrev pub after_finish : Core → Entry → View → View
after_finish c e v = record (after_draw c v) { entries = e ∷ v.entries }

abbrev pub section_got : Section → Section
section_got Out = Out
section_got In = In
section_got (Placed e) = Placed (record e { got = true })

-- the section has its place and has got no hold yet
abbrev pub has_none : Section → Bool
has_none Out = false
has_none In = false
has_none (Placed e) = not e.got

abbrev pub hold_of : ℕ → Section → List Hold
hold_of d Out = []
hold_of d In = []
hold_of d (Placed e) = record { disk = d; place = e.place; call = e.call; executed = false } ∷ []

-- a hold may be put where a bare call took it, or once the Execute of its command is placed
abbrev pub may_put : ℕ → Hold → Bool
may_put d h = (h.disk == d) && (if is_bare h.call then true else h.executed)

-- the loaded mode is spent by one step on a counter: the next get or put loads it again
abbrev pub after_get : ℕ → View → View
after_get d v = record v {
  loaded = NotLoaded;
  section = section_got v.section;
  holds = hold_of d v.section ++ v.holds;
}

abbrev pub after_put : ℕ → View → View
after_put d v = record v { loaded = NotLoaded; holds = without_least (may_put d) v.holds }

abbrev pub after_add : ℕ → Bool → View → View
after_add d up v = if up then after_get d v else after_put d v

abbrev pub is_slot : ℕ → Turn → Bool
is_slot s t = t.slot == s

-- the extent of the slot is at home, its turn in hand
abbrev pub is_home_slot : ℕ → Turn → Bool
is_home_slot s t = (t.slot == s) && not t.out

abbrev pub is_out_slot : ℕ → Turn → Bool
is_out_slot s t = (t.slot == s) && t.out

-- the hold of the command that this Execute carries out, its Execute not placed
abbrev pub is_held : Tag → ℕ → Hold → Bool
is_held t d h = (h.disk == d) && ((h.call.caller == t.caller)
    && ((h.call.number == t.number) && (not (is_bare h.call) && not h.executed)))

abbrev pub place_of : Option Hold → ℕ
place_of None = 0
place_of (Some h) = h.place

-- the hold stays, marked as having its Execute placed: it is put afterwards, and no second Execute
-- can use it
abbrev pub after_execute : Core → Tag → ℕ → View → View
after_execute c t d v =
    record (after_finish c (new_entry c t (by.Execute (place_of (least (is_held t d) v.holds)))) v)
    { holds = change (is_least (is_held t d) v.holds) (λ h. record h { executed = true }) v.holds }

-- ## Parts of a seat

abbrev pub is_on : ℕ → Hold → Bool
is_on d h = h.disk == d

abbrev pub is_at : ℕ → Entry → Bool
is_at p e = e.place == p

-- a part has seen what its seat has
abbrev pub new_part : View → View
new_part v = record {
  role = Part;
  number = v.number;
  word = 0;
  section = Out;
  loaded = NotLoaded;
  holds = [];
  turns = [];
  left = 0;
  seen = v.seen;
  entries = [];
}

abbrev pub after_split : Take → View → View
after_split take.Nothing v = v
after_split (take.Hold d) v = record v { holds = without_least (is_on d) v.holds }
after_split take.Place v = record v { left = v.left - 1 }
after_split (take.Entry p) v = record v { entries = without (is_at p) v.entries }

abbrev pub split_part : Take → View → View
split_part take.Nothing v = new_part v
split_part (take.Hold d) v = record (new_part v) { holds = listed (least (is_on d) v.holds) }
split_part take.Place v = record (new_part v) { left = 1 }
split_part (take.Entry p) v = record (new_part v) { entries = listed (first (is_at p) v.entries) }

-- what the part takes is kept
abbrev pub MayTake : Take → View → Type 0
MayTake take.Nothing v = Unit {0}
MayTake (take.Hold d) v = Some_where (is_on d) v.holds
MayTake take.Place v = 0 < v.left
MayTake (take.Entry p) v = (e : Entry) × (first (is_at p) v.entries ≡ Some e)
    × ((e.call.kind ≡ CONTROL) ⊎ (e.call.kind ≡ THROUGH))

-- v with all that u kept
abbrev pub after_join : View → View → View
after_join v u = record v {
  holds = u.holds ++ v.holds;
  left = v.left + u.left;
  seen = max v.seen u.seen;
  entries = u.entries ++ v.entries;
}

-- one that was joined keeps nothing. A seat's section word stays, since the editor may still look
-- at it
abbrev pub spent_view : View → View
spent_view u = record no_view { number = u.number; word = u.word }

-- ## The core after a step

abbrev pub with_view : Core → ℕ → View → Core
with_view c j w = record c { views = slice_set c.views j w }

abbrev pub with_disk : Core → ℕ → Disk → Core
with_disk c d k = record c { disks = slice_set c.disks d k }

abbrev pub with_drain : Core → ℕ → Drain → Core
with_drain c d b = record c { editor = record c.editor { drains = slice_set c.editor.drains d b } }

-- a grace period begins: nobody noted or passed
abbrev pub fresh_marks : Core → List Mark
fresh_marks c = replicate c.seats Unseen

abbrev pub at_mark : ℕ → ℕ → List Mark → List Mark
at_mark j w ms = slice_set ms j (looked (mark ms j) w)

abbrev pub at_drain : ℕ → ℕ → Drain → Drain
at_drain j w b = if is_killed b.phase then record b { marks = at_mark j w b.marks } else b

-- one look at a section word serves every grace period that is under way: that of the last publish,
-- and that of each killed disk
abbrev pub looked_at : ℕ → ℕ → Editor → Editor
looked_at j w k = record k { marks = at_mark j w k.marks; drains = map (at_drain j w) k.drains }

abbrev pub count_after : Bool → Count → Count
count_after true c = record c { ups = c.ups + 1 }
count_after false c = record c { downs = c.downs + 1 }

-- a fetch-add of 1, or of 2^64 - 1
abbrev pub word_after : Bool → ℕ → ℕ
word_after true w = (w + 1) % word_end
word_after false w = (w + 18446744073709551615) % word_end

abbrev pub loaded_mode : ℕ → ℕ → LoadedMode
loaded_mode d zero = Live d
loaded_mode d (suc m) = Killed d

abbrev pub count_or : Option Count → Count
count_or None = no_count
count_or (Some c) = c

-- the counters aren't set back to 0 at the fold, since another seat's counter can't be written:
-- where they stand is the base of the next life
abbrev pub base_after : ℕ → Drain → Drain
base_after n b = record b { phase = phase.Folded; bases = map count_or b.looked }

-- the core after the seat j, which keeps v, took a step of this kind
abbrev pub after_step : Core → ℕ → View → Kind → Core
after_step c j v EnterSection = with_view c j (after_enter v)
after_step c j v (DrawPlace t) = record (with_view c j (after_place c t v)) { given = c.given + 1 }
after_step c j v (LoadRow w) = c
after_step c j v LeaveSection = with_view c j (after_leave v)
after_step c j v (StoreRow w x) =
    record c {
      sides = slice_set c.sides ((c.serial + 1) % 2) (slice_set (side c (c.serial + 1)) w x);
      editor = record c.editor { pending = (w, x) ∷ c.editor.pending };
    }
-- one step gives the place, turns the sides over and begins the grace period: a section that draws
-- its place later reads the new side
after_step c j v (Publish t) =
    let e : Entry = record (new_entry c t by.Publish) { serial = c.serial + 1 } in
    record (with_view c j (after_finish c e v)) {
      given = c.given + 1;
      serial = c.serial + 1;
      editor = record c.editor {
        confs = c.editor.confs ++ side c (c.serial + 1) ∷ [];
        published = c.editor.published ++ record { place = c.given; call = t } ∷ [];
        pending = [];
        marks = fresh_marks c;
      };
    }
after_step c j v (LookSection o) = record c { editor = looked_at o (view c.views o).word c.editor }
after_step c j v (LoadMode d) = with_view c j (record v { loaded = loaded_mode d (disk c d).mode })
after_step c j v (AddOwn d up) =
    let now : Count = count_after up (slice_index_or (disk c d).own j no_count) in
    let k : Disk = record (disk c d) { own = slice_set (disk c d).own j now } in
    with_view (with_disk c d k) j (after_add d up v)
after_step c j v (AddShared d up) =
    let k : Disk = record (disk c d) { shared = word_after up (disk c d).shared } in
    with_view (with_disk c d k) j (after_add d up v)
after_step c j v (Split t) =
    record c { views = slice_set c.views j (after_split t v) ++ split_part t v ∷ [] }
after_step c j v (Join p) =
    let u : View = view c.views p in
    record c { views = slice_set (slice_set c.views j (after_join v u)) p (spent_view u) }
-- the mode is killed first, and the grace period begins with it: who enters later loads killed, and
-- only older sections have live in hand
after_step c j v (Kill d) =
    let k : Disk = record (disk c d) { mode = KILLED } in
    with_drain (with_disk c d k) d
    (record (drain c.editor d) {
      phase = phase.Killed;
      marks = fresh_marks c;
      looked = replicate c.seats None;
    })
after_step c j v (LookCounter d o) =
    let found : Count = slice_index_or (disk c d).own o no_count in let b : Drain = drain c.editor d in
    with_drain c d (record b { looked = slice_set b.looked o (Some found) })
-- the sum and the bias go in by one addition, as in percpu_ref_switch_to_atomic_rcu: the count is
-- never seen with the bias off and the sum out
after_step c j v (Fold d delta) =
    let k : Disk = record (disk c d) { shared = ((disk c d).shared + delta) % word_end } in
    with_drain (with_disk c d k) d (base_after c.seats (drain c.editor d))
after_step c j v (LookZero d) =
    if (disk c d).shared == 0
    then with_drain c d (record (drain c.editor d) { phase = phase.Drained; done_placed = false })
    else c
after_step c j v (PlaceDone d t) =
    let w : View = after_finish c (new_entry c t by.Done) v in
    with_drain (record (with_view c j w) { given = c.given + 1 }) d
    (record (drain c.editor d) { done_placed = true })
-- the bias goes back before the mode: a reader that finds the mode live must not leave a count that
-- looks like 0
after_step c j v (LiveShared d) =
    let k : Disk = record (disk c d) { shared = bias } in
    with_drain (with_disk c d k) d (record (drain c.editor d) { phase = phase.Armed })
after_step c j v (LiveMode d) =
    let k : Disk = record (disk c d) { mode = LIVE } in
    with_drain (with_disk c d k) d (record (drain c.editor d) { phase = phase.Live })
-- one try of a compare-exchange: a turn that isn't 0 changes nothing
after_step c j v (TakeTurn s) =
    let w : View = record v { turns = record { slot = s; out = false } ∷ v.turns } in
    if slice_index c.turns s == 0
    then with_view (record c { turns = slice_set c.turns s (j + 1) }) j w
    else c
after_step c j v (SlotOut s) =
    with_view c j (record v { turns = change (is_slot s) (λ t. record t { out = true }) v.turns })
after_step c j v (PlaceExecute s t) =
    record (with_view c j (after_execute c t (s / EXTENTS) v)) { given = c.given + 1 }
after_step c j v (SlotIn s) =
    with_view c j (record v { turns = change (is_slot s) (λ t. record t { out = false }) v.turns })
after_step c j v (GiveTurn s) =
    let w : View = record v { turns = without (is_slot s) v.turns } in
    with_view (record c { turns = slice_set c.turns s 0 }) j w

-- ## Where a step is allowed

-- the section of v shows the disk, or v keeps a hold on it: then its reference can't be drained or
-- armed
abbrev pub MayLoad : Editor → View → ℕ → Type 0
MayLoad k v d = ((s : ℕ) × Reads v s × Shows k s d) ⊎ Some_where (is_on d) v.holds

-- up: the section has its place, shows the disk and has got no hold yet. Down: a hold on the disk
-- is kept that may be put
abbrev pub MayAdd : Editor → View → ℕ → Bool → Type 0
MayAdd k v d true = ((s : ℕ) × Reads v s × Shows k s d) × (has_none v.section ≡ true)
MayAdd k v d false = Some_where (may_put d) v.holds

-- the seat j, which keeps v, may take a step of this kind. Seat 0 is the editor's; a disk has
-- `EXTENTS` slots, one after another
abbrev pub MayStep : Core → ℕ → View → Kind → Type 0
MayStep c j v EnterSection = v.section ≡ Out
MayStep c j v (DrawPlace t) = (v.section ≡ In) × (0 < v.left)
MayStep c j v (LoadRow w) = (w < c.rows) × ((s : ℕ) × Reads v s)
MayStep c j v LeaveSection = (is_open v.section ≡ true) × (v.loaded ≡ NotLoaded)
MayStep c j v (StoreRow w x) = (j ≡ 0) × (w < c.rows) × AllPassed c.seats c.editor.marks
MayStep c j v (Publish t) = (j ≡ 0) × (0 < v.left) × AllPassed c.seats c.editor.marks
    × ((d : ℕ) → d < length c.disks → slice_index (side c (c.serial + 1)) d ≢ 0
    → (drain c.editor d).phase ≡ phase.Live)
MayStep c j v (LookSection o) = (j ≡ 0) × (o < c.seats)
MayStep c j v (LoadMode d) = (d < length c.disks) × (is_open v.section ≡ true)
    × MayLoad c.editor v d
MayStep c j v (AddOwn d up) = (v.loaded ≡ Live d) × MayAdd c.editor v d up × (d < length c.disks)
MayStep c j v (AddShared d up) = (v.loaded ≡ Killed d) × MayAdd c.editor v d up
    × (d < length c.disks)
MayStep c j v (Split t) = (v.loaded ≡ NotLoaded) × MayTake t v
MayStep c j v (Join p) = (p ≢ j) × (p ≢ 0) × (p < length c.views) × ((view c.views p).role ≢ Spent)
    × ((view c.views p).section ≡ Out) × ((view c.views p).loaded ≡ NotLoaded)
    × ((view c.views p).turns ≡ [])
MayStep c j v (Kill d) = (j ≡ 0) × (d < length c.disks) × ((drain c.editor d).phase ≡ phase.Live)
    × ¬ Shows c.editor c.serial d
-- a counter is looked at only after the grace period, when no section can still count on its own
-- counter
MayStep c j v (LookCounter d o) = (j ≡ 0) × (d < length c.disks) × (o < c.seats)
    × ((drain c.editor d).phase ≡ phase.Killed) × AllPassed c.seats (drain c.editor d).marks
MayStep c j v (Fold d delta) =
    (j ≡ 0) × (d < length c.disks) × ((drain c.editor d).phase ≡ phase.Killed)
    × ((o : ℕ) → o < c.seats → (x : Count) × (slice_index_or (drain c.editor d).looked o None
    ≡ Some x))
    × ((delta + (total word_of (drain c.editor d).bases + bias)) % word_end
    ≡ total word_of (map count_or (drain c.editor d).looked) % word_end)
MayStep c j v (LookZero d) = (j ≡ 0) × (d < length c.disks)
    × ((drain c.editor d).phase ≡ phase.Folded)
MayStep c j v (PlaceDone d t) = (j ≡ 0) × (d < length c.disks) × (0 < v.left)
    × ((drain c.editor d).phase ≡ phase.Drained) × ((drain c.editor d).done_placed ≡ false)
MayStep c j v (LiveShared d) = (j ≡ 0) × (d < length c.disks)
    × ((drain c.editor d).phase ≡ phase.Drained) × ((drain c.editor d).done_placed ≡ true)
    × ¬ Shows c.editor c.serial d
MayStep c j v (LiveMode d) = (j ≡ 0) × (d < length c.disks)
    × ((drain c.editor d).phase ≡ phase.Armed)
MayStep c j v (TakeTurn s) = (s < length c.turns) × (first (is_slot s) v.turns ≡ None)
MayStep c j v (SlotOut s) = Some_where (is_home_slot s) v.turns
MayStep c j v (PlaceExecute s t) = (0 < v.left) × (s < length c.turns)
    × Some_where (is_held t (s / EXTENTS)) v.holds
MayStep c j v (SlotIn s) = Some_where (is_out_slot s) v.turns
MayStep c j v (GiveTurn s) = Some_where (is_home_slot s) v.turns

-- j is a seat, no part and not spent, and may take a step of the kind k
pub record IsAllowed (c : Core) (j : ℕ) (k : Kind) : Type 0 where
  pub there : j < length c.views
  pub seat : (view c.views j).role ≡ Seat
  pub may : MayStep c j (view c.views j) k

-- ## The step

-- the core after a step of the seat j
abbrev pub next_core : Core → ℕ → Kind → Core
next_core c j k = after_step c j (view c.views j) k

abbrev pub serial_of : Section → ℕ
serial_of Out = 0
serial_of In = 0
serial_of (Placed e) = e.serial

-- what the step finds: the old word of a fetch-add, the loaded word, or whether the turn was 0
abbrev pub answer_of : Core → ℕ → Kind → Answer
answer_of c j EnterSection = answer.Nothing
answer_of c j (DrawPlace t) = answer.Pair c.given c.serial
answer_of c j (LoadRow w) = answer.Word (slice_index (side c (serial_of (view c.views j).section))
    w)
answer_of c j LeaveSection = answer.Nothing
answer_of c j (StoreRow w x) = answer.Nothing
answer_of c j (Publish t) = answer.Pair c.given (c.serial + 1)
answer_of c j (LookSection o) = answer.Word (view c.views o).word
answer_of c j (LoadMode d) = answer.Word (disk c d).mode
answer_of c j (AddOwn d up) = answer.Nothing
answer_of c j (AddShared d up) = answer.Word (disk c d).shared
answer_of c j (Split t) = answer.Nothing
answer_of c j (Join p) = answer.Nothing
answer_of c j (Kill d) = answer.Nothing
answer_of c j (LookCounter d o) = answer.Word (word_of (slice_index_or (disk c d).own o no_count))
answer_of c j (Fold d delta) = answer.Word (disk c d).shared
answer_of c j (LookZero d) = answer.Word (disk c d).shared
answer_of c j (PlaceDone d t) = answer.Word c.given
answer_of c j (LiveShared d) = answer.Nothing
answer_of c j (LiveMode d) = answer.Nothing
answer_of c j (TakeTurn s) = if slice_index c.turns s == 0 then answer.Yes else answer.No
answer_of c j (SlotOut s) = answer.Nothing
answer_of c j (PlaceExecute s t) = answer.Word c.given
answer_of c j (SlotIn s) = answer.Nothing
answer_of c j (GiveTurn s) = answer.Nothing

-- the one step relation: j may take the step, and it leads from c to d
pub record Step (c : Core) (j : ℕ) (k : Kind) (d : Core) : Type 0 where
  pub allowed : IsAllowed c j k
  pub after : d ≡ next_core c j k
