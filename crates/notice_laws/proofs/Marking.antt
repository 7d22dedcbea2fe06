-- Stamps are a fold of marks, and so are notices.
use Rattle.std.proofs.Common.{◌≡◌, ◌≤◌, ◌<◌, ◌+◌, ◌*◌, ◌-◌, ◌^◌, ◌==◌, ◌&&◌, ◌||◌, min, max, nat_le, nat_lt, ℕ, zero, suc, Bool, true, false, cond, List, [], ◌∷◌, length, replicate, Option, Some, None, slice_index, slice_set, refl, sym, ap, subst, ◌∙◌, arith}
use Rattle.std.proofs.lemmas.Bool.{both_ways, eqb-true}
use Rattle.std.proofs.lemmas.List.{get_or-set_same, get_or-set_other, length-set, length-replicate}
use Rattle.sqe_cqe.specs.declared.rows.TheConstants.{MAX_NSID}
use Rattle.configfs_rows.specs.declared.limits.TheConstants.{MAX_SUBSYSTEMS, MAX_PORTS}
use Rattle.configfs_tree.specs.declared.edits.Change.{Change}
use Rattle.async_events.specs.Notices.{Published, Passes, is_nsid}
use Rattle.async_events.specs.Stamps.{Stamps as SeenStamps, stamped as seen_stamped, stamps_after as seen_after, shown}
use Rattle.async_events.specs.Laws.{IsQuiet, AreQuiet, KeepsList, AllKeepList}
use Rattle.async_events.proofs.Folds.{shows_fold, stamps_list}
use Rattle.change_stamps.specs.Stamps.{Stamps, place_of, space_stamp, ana_stamp, next_serial, stamped_at, space_place, stamped, stamps_after, untouched, no_stamps}
use Rattle.notice_laws.specs.Marks.{nsid_for, is_at, marks_of, seen_by, after_changes, AreSound, SpaceInRange, PlaceInRange, IsInRange, AreInRange}
use Rattle.notice_laws.specs.Laws.{RaiseIsAMark, StampsAreMarks, StartIsSound, StampsStaySound, NoticesAreTheFold, ListIsTheFold}

-- ---- tests on numbers
differ : (a b : ℕ) → (a == b) ≡ false → a ≡ b → ⊥
differ a b off e = both_ways (a == b) off (same a b e) where
  same : (a b : ℕ) → a ≡ b → (a == b) ≡ true
  same a b e = grind (arith, e)

apart : (a b : ℕ) → a < b → (a == b) ≡ false
apart a b h = grind (arith, h)

above : (a b : ℕ) → b < a → nat_le a b ≡ false
above a b h = grind (arith, h)

no_more : (a b : ℕ) → nat_le a b ≡ false → b < a
no_more a b h = grind (arith, h)

at_most : (a b : ℕ) → nat_le a b ≡ true → a ≤ b
at_most a b h = grind (arith, h)

-- ---- one stamp that is written, and another that is read
same_place : (at m sub n : ℕ) → m ≤ MAX_NSID → n ≤ MAX_NSID → place_of sub n ≡ place_of at m
    → (sub ≡ at) × (n ≡ m)
same_place at m sub n low high e = (omega (arith, low, high, e), omega (arith, low, high, e))

space_on : (xs : List ℕ) (at m sub n v : ℕ) (a b : Bool) → (at == sub) ≡ a → (m == n) ≡ b
    → m ≤ MAX_NSID → n ≤ MAX_NSID → place_of at m < length xs
    → slice_index (slice_set xs (place_of at m) v) (place_of sub n)
    ≡ cond (a && b) v (slice_index xs (place_of sub n))
space_on xs at m sub n v true true ea eb low high within =
    let same_at = eqb-true at sub ea in
    let same_n = eqb-true m n eb in
    ap (λ (i : ℕ). slice_index (slice_set xs (place_of at m) v) i)
    (omega (arith, same_at, same_n))
    ∙ get_or-set_same xs (place_of at m) v 0 within
space_on xs at m sub n v true false ea eb low high within =
    get_or-set_other xs (place_of at m) (place_of sub n) v 0
    (λ e. differ m n eb (sym (same_place at m sub n low high e).1))
space_on xs at m sub n v false b ea eb low high within =
    get_or-set_other xs (place_of at m) (place_of sub n) v 0
    (λ e. differ at sub ea (sym (same_place at m sub n low high e).0))

named_on : (at m sub n : ℕ) (a : Bool) → (at == sub) ≡ a
    → is_nsid (cond a (Some m) None) n ≡ (a && (m == n))
named_on at m sub n true e = refl
named_on at m sub n false e = refl

one_on : (xs : List ℕ) (n at v : ℕ) (b : Bool) → (n == at) ≡ b → n < length xs
    → slice_index (slice_set xs n v) at ≡ cond b v (slice_index xs at)
one_on xs n at v true e within =
    ap (λ (i : ℕ). slice_index (slice_set xs n v) i) (sym (eqb-true n at e))
    ∙ get_or-set_same xs n v 0 within
one_on xs n at v false e within = get_or-set_other xs n at v 0 (λ is. differ n at e (sym is))

one_written : (xs : List ℕ) (o : Option ℕ) (at v most : ℕ) → length xs ≡ most
    → PlaceInRange o most
    → slice_index (stamped_at v o xs) at ≡ cond (is_at o at) v (slice_index xs at)
one_written xs None at v most len p = refl
one_written xs (Some n) at v most len p =
    one_on xs n at v (n == at) refl (subst (λ (k : ℕ). n < k) (sym len) p)

later : (a b : Bool) (x y v : ℕ) → x ≤ v → y ≤ v
    → max (cond a v x) (cond b v y) ≡ cond (a || b) v (max x y)
later true true x y v hx hy = omega arith
later true false x y v hx hy = omega (arith, hy)
later false true x y v hx hy = omega (arith, hx)
later false false x y v hx hy = refl

-- ---- a change stamps what its mark stamps
module _ (s : Stamps) (sound : AreSound s) (v : ℕ) where
  within_on : (xs : List ℕ) (at m : ℕ) → length xs ≡ MAX_SUBSYSTEMS * (MAX_NSID + 1)
      → at < MAX_SUBSYSTEMS → m ≤ MAX_NSID → place_of at m < length xs
  within_on xs at m len low high = omega (arith, len, low, high)

  space_read : (o : Option (ℕ × ℕ)) (sub n : ℕ) (h : Bool) → nat_le n MAX_NSID ≡ h
      → SpaceInRange o
      → cond h (slice_index (stamped_at v (space_place o) s.spaces) (place_of sub n)) 0
      ≡ cond (is_nsid (nsid_for o sub) n) v (cond h (slice_index s.spaces (place_of sub n)) 0)
  space_read None sub n h e r = refl
  space_read (Some x) sub n true e r =
      space_on s.spaces x.0 x.1 sub n v (x.0 == sub) (x.1 == n) refl refl r.2
      (at_most n MAX_NSID e) (within_on s.spaces x.0 x.1 sound.spaces_len r.0 r.2)
      ∙ ap (λ (b : Bool). cond b v (slice_index s.spaces (place_of sub n)))
      (sym (named_on x.0 x.1 sub n (x.0 == sub) refl))
  space_read (Some x) sub n false e r =
      let high = no_more n MAX_NSID e in
      let low = r.2 in
      let off : (x.1 == n) ≡ false = apart x.1 n (omega (arith, low, high)) in
      sym (ap (λ (b : Bool). cond b v 0) (named_on x.0 x.1 sub n (x.0 == sub) refl
      ∙ none_of (x.0 == sub) (x.1 == n) off)) where
        none_of : (a b : Bool) → b ≡ false → (a && b) ≡ false
        none_of true b e = e
        none_of false b e = refl

next_is : (s : Stamps) → s.serial < 2 ^ 32 - 1 → next_serial s ≡ suc s.serial
next_is s h = omega (arith, h)

published_marks : (s : Stamps) (c : Change) (sub port : ℕ) → AreSound s → IsInRange c
    → s.serial < 2 ^ 32 - 1
    → seen_by sub port (stamped c s) ≡ seen_stamped (seen_by sub port s)
    (Published (nsid_for c.namespace sub) (is_at c.ana_subsystem sub || is_at c.ana_port port))
unfolding space_stamp ana_stamp stamped
published_marks s c sub port sound r room =
    let next = next_is s room in
    let v : ℕ = next_serial s in
    let x = sound.subs sub in
    let y = sound.ports port in
    let ana : max (slice_index (stamped_at v c.ana_subsystem s.subs) sub)
    (slice_index (stamped_at v c.ana_port s.ports) port)
    ≡ cond (is_at c.ana_subsystem sub || is_at c.ana_port port) (suc s.serial)
    (max (slice_index s.subs sub) (slice_index s.ports port)) =
    rw (
      one_written s.subs c.ana_subsystem sub v MAX_SUBSYSTEMS sound.subs_len r.sub,
      one_written s.ports c.ana_port port v MAX_PORTS sound.ports_len r.port,
    )
    (later (is_at c.ana_subsystem sub) (is_at c.ana_port port) (slice_index s.subs sub)
    (slice_index s.ports port) v (omega (arith, x, next)) (omega (arith, y, next))
    ∙ ap (λ (n : ℕ). cond (is_at c.ana_subsystem sub || is_at c.ana_port port) n
    (max (slice_index s.subs sub) (slice_index s.ports port))) next) in
    λ i. record {
      serial = next i;
      ns = λ n. (space_read s sound v c.namespace sub n (nat_le n MAX_NSID) refl r.space
          ∙ ap (λ (m : ℕ). cond (is_nsid (nsid_for c.namespace sub) n) m
          (cond (nat_le n MAX_NSID) (slice_index s.spaces (place_of sub n)) 0)) next) i;
      ana = ana i;
    }

marks_on : (s : Stamps) (c : Change) (sub port : ℕ) (b : Bool) → AreSound s → IsInRange c
    → s.serial < 2 ^ 32 - 1
    → seen_by sub port (cond b (stamped c s) s) ≡ seen_stamped (seen_by sub port s)
    (cond b (Published (nsid_for c.namespace sub)
    (is_at c.ana_subsystem sub || is_at c.ana_port port)) Passes)
marks_on s c sub port true sound r room = published_marks s c sub port sound r room
marks_on s c sub port false sound r room = refl

pub stamps_are_marks : StampsAreMarks
stamps_are_marks s c sub port sound r room = marks_on s c sub port c.published sound r room

pub raise_is_a_mark : RaiseIsAMark
unfolding space_stamp ana_stamp
raise_is_a_mark s sub port room = λ i. record {
  serial = next_is s room i;
  ns = λ n. cond (nat_le n MAX_NSID) (slice_index s.spaces (place_of sub n)) 0;
  ana = max (slice_index s.subs sub) (slice_index s.ports port);
}

-- ---- stamps stay sound
zeros_at : (n at : ℕ) → slice_index (untouched n) at ≡ 0
unfolding untouched
zeros_at n at = zeros n at where
  zeros : (n at : ℕ) → slice_index (replicate n 0) at ≡ 0
  zeros zero at = refl
  zeros (suc n) zero = refl
  zeros (suc n) (suc at) = zeros n at

zeros_len : (n : ℕ) → length (untouched n) ≡ n
unfolding untouched
zeros_len n = length-replicate {A = ℕ} n 0

none_over : (n : ℕ) → n ≡ 0 → n ≤ 0
none_over n e = omega (arith, e)

pub start_is_sound : StartIsSound
unfolding no_stamps
start_is_sound = record {
  spaces_len = zeros_len (MAX_SUBSYSTEMS * (MAX_NSID + 1));
  subs_len = zeros_len MAX_SUBSYSTEMS;
  ports_len = zeros_len MAX_PORTS;
  spaces = λ i. none_over _ (zeros_at (MAX_SUBSYSTEMS * (MAX_NSID + 1)) i);
  subs = λ i. none_over _ (zeros_at MAX_SUBSYSTEMS i);
  ports = λ i. none_over _ (zeros_at MAX_PORTS i);
}

set_below : (xs : List ℕ) (i v most : ℕ) → ((j : ℕ) → slice_index xs j ≤ most) → v ≤ most
    → (at : ℕ) → slice_index (slice_set xs i v) at ≤ most
set_below [] i v most h le at = h at
set_below (x ∷ xs) zero v most h le zero = le
set_below (x ∷ xs) zero v most h le (suc at) = h (suc at)
set_below (x ∷ xs) (suc i) v most h le zero = h zero
set_below (x ∷ xs) (suc i) v most h le (suc at) =
    set_below xs i v most (λ j. h (suc j)) le at

written_below : (xs : List ℕ) (o : Option ℕ) (v most : ℕ) → ((j : ℕ) → slice_index xs j ≤ most)
    → v ≤ most → (at : ℕ) → slice_index (stamped_at v o xs) at ≤ most
written_below xs None v most h le at = h at
written_below xs (Some n) v most h le at = set_below xs n v most h le at

written_len : (xs : List ℕ) (o : Option ℕ) (v : ℕ) → length (stamped_at v o xs) ≡ length xs
written_len xs None v = refl
written_len xs (Some n) v = length-set xs n v

raise_below : (a n m : ℕ) → a ≤ n → m ≡ suc n → a ≤ m
raise_below a n m h e = omega (arith, h, e)

sound_published : (s : Stamps) (c : Change) → AreSound s → s.serial < 2 ^ 32 - 1
    → AreSound (stamped c s)
unfolding stamped
sound_published s c sound room =
    let next = next_is s room in
    let v : ℕ = next_serial s in
    record {
      spaces_len = written_len s.spaces (space_place c.namespace) v ∙ sound.spaces_len;
      subs_len = written_len s.subs c.ana_subsystem v ∙ sound.subs_len;
      ports_len = written_len s.ports c.ana_port v ∙ sound.ports_len;
      spaces = written_below s.spaces (space_place c.namespace) v v
          (λ j. raise_below (slice_index s.spaces j) s.serial v (sound.spaces j) next) (omega arith);
      subs = written_below s.subs c.ana_subsystem v v
          (λ j. raise_below (slice_index s.subs j) s.serial v (sound.subs j) next) (omega arith);
      ports = written_below s.ports c.ana_port v v
          (λ j. raise_below (slice_index s.ports j) s.serial v (sound.ports j) next) (omega arith);
    }

sound_on : (s : Stamps) (c : Change) (b : Bool) → AreSound s → s.serial < 2 ^ 32 - 1
    → AreSound (cond b (stamped c s) s)
sound_on s c true sound room = sound_published s c sound room
sound_on s c false sound room = sound

pub stamps_stay_sound : StampsStaySound
stamps_stay_sound s c sound room = sound_on s c c.published sound room

-- ---- many changes
raised_on : (s : Stamps) (c : Change) (b : Bool) → (cond b (stamped c s) s).serial ≤ s.serial + 1
unfolding stamped
raised_on s c true = least (s.serial + 1) (2 ^ 32 - 1) where
  least : (a b : ℕ) → min a b ≤ a
  least a b = omega arith
raised_on s c false = omega arith

room_first : (n len : ℕ) → n + suc len < 2 ^ 32 → n < 2 ^ 32 - 1
room_first n len h = omega (arith, h)

room_rest : (n m len : ℕ) → n + suc len < 2 ^ 32 → m ≤ n + 1 → m + len < 2 ^ 32
room_rest n m len h le = omega (arith, h, le)

pub seen_fold : (s : Stamps) (changes : List Change) (sub port : ℕ) → AreSound s
    → AreInRange changes → s.serial + length changes < 2 ^ 32
    → seen_by sub port (after_changes s changes)
    ≡ seen_after (seen_by sub port s) (marks_of sub port changes)
seen_fold s [] sub port sound r room = refl
seen_fold s (c ∷ changes) sub port sound r room =
    let first = room_first s.serial (length changes) room in
    seen_fold (stamps_after c s) changes sub port (stamps_stay_sound s c sound first) r.1
    (room_rest s.serial (stamps_after c s).serial (length changes) room
    (raised_on s c c.published))
    ∙ ap (λ (x : SeenStamps). seen_after x (marks_of sub port changes))
    (stamps_are_marks s c sub port sound r.0 first)

quiet_on : (o : Option (ℕ × ℕ)) (sub : ℕ) (ana : Bool) → SpaceInRange o
    → IsQuiet MAX_NSID (Published (nsid_for o sub) ana)
quiet_on None sub ana r = tt
quiet_on (Some x) sub ana r = of_place (x.0 == sub) where
  of_place : (b : Bool) → IsQuiet MAX_NSID (Published (cond b (Some x.1) None) ana)
  of_place true = (r.1, r.2)
  of_place false = tt

quiet_mark : (c : Change) (sub port : ℕ) (b : Bool) → IsInRange c
    → IsQuiet MAX_NSID (cond b (Published (nsid_for c.namespace sub)
    (is_at c.ana_subsystem sub || is_at c.ana_port port)) Passes)
quiet_mark c sub port true r =
    quiet_on c.namespace sub (is_at c.ana_subsystem sub || is_at c.ana_port port) r.space
quiet_mark c sub port false r = tt

quiet_all : (changes : List Change) (sub port : ℕ) → AreInRange changes
    → AreQuiet MAX_NSID (marks_of sub port changes)
quiet_all [] sub port r = tt
quiet_all (c ∷ changes) sub port r =
    (quiet_mark c sub port c.published r.0, quiet_all changes sub port r.1)

keeps_mark : (c : Change) (sub port : ℕ) (b : Bool)
    → KeepsList (cond b (Published (nsid_for c.namespace sub)
    (is_at c.ana_subsystem sub || is_at c.ana_port port)) Passes)
keeps_mark c sub port true = tt
keeps_mark c sub port false = tt

keep_all : (changes : List Change) (sub port : ℕ) → AllKeepList (marks_of sub port changes)
keep_all [] sub port = tt
keep_all (c ∷ changes) sub port =
    (keeps_mark c sub port c.published, keep_all changes sub port)

pub notices_are_the_fold : NoticesAreTheFold
notices_are_the_fold s changes sub port k sound r room seen =
    ap (λ (x : SeenStamps). shown MAX_NSID x k) (seen_fold s changes sub port sound r room)
    ∙ shows_fold MAX_NSID (seen_by sub port s) k (marks_of sub port changes) seen
    (quiet_all changes sub port r)

pub list_is_the_fold : ListIsTheFold
list_is_the_fold s changes sub port n cleared sound r room low =
    ap (λ (x : SeenStamps). nat_lt cleared (x.ns n)) (seen_fold s changes sub port sound r room)
    ∙ stamps_list n cleared (seen_by sub port s) (marks_of sub port changes) low
    (keep_all changes sub port)
