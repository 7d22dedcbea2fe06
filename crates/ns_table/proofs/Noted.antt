-- Noting a change in the stamps that a target keeps gives the stamps that it is published with.
use Rattle.std.proofs.Common.{◌≡◌, ◌≤◌, ◌<◌, ◌+◌, ◌*◌, ◌-◌, ◌^◌, min, ◌==◌, ◌&&◌, nat_le, ℕ, zero, suc, Bool, true, false, cond, if◌then◌else◌, List, length, replicate, Option, Some, None, slice_index, slice_set, refl, sym, ap, subst, ◌∙◌, arith}
use Rattle.std.proofs.lemmas.Bool.{both_ways, eqb-true}
use Rattle.std.proofs.lemmas.List.{get_or-set_same, get_or-set_other, length-set, length-replicate}
use Rattle.sqe_cqe.specs.declared.rows.TheConstants.{MAX_NSID}
use Rattle.configfs_rows.specs.declared.limits.TheConstants.{MAX_SUBSYSTEMS, MAX_PORTS}
use Rattle.configfs_tree.specs.declared.edits.Change.{Change}
use Rattle.change_stamps.specs.Stamps.{Stamps as Kept, place_of, space_stamp, next_serial, stamped_at, space_place, stamped, untouched, no_stamps as nothing_kept}
use Rattle.configfs_tree.specs.declared.configuration.Configuration.{Configuration}
use Rattle.mem_bdev.specs.Blocks.{Blocks}
use Rattle.sqe_cqe.specs.declared.controllers.ControllerRow.{ControllerRow}
use Rattle.ns_table.specs.Words.{Stamps}
use Rattle.ns_table.specs.Kept.{stamps_by, shape_of, HavePlaces}
use Rattle.ns_table.specs.Changed.{is_pair, is_at, shape_before, stamps_after}
use Rattle.ns_table.specs.Patches.{words_at, told_places, FitsPair, IsBelow, FitsChange}
use Rattle.ns_table.specs.Looked.{AreSerials}
use Rattle.ns_table.specs.Noted.{NothingIsStamped, PlacesFromTheStart, NotedIsPublished, PlacesStay, SerialsFromTheStart, SerialsStay}

-- ---- tests on numbers
differ : (a b : ℕ) → (a == b) ≡ false → a ≡ b → ⊥
differ a b off e = both_ways (a == b) off (same a b e) where
  same : (a b : ℕ) → a ≡ b → (a == b) ≡ true
  same a b e = grind (arith, e)

apart : (a b : ℕ) → a < b → (a == b) ≡ false
apart a b h = grind (arith, h)

no-more : (a b : ℕ) → nat_le a b ≡ false → b < a
no-more a b h = grind (arith, h)

at-most : (a b : ℕ) → nat_le a b ≡ true → a ≤ b
at-most a b h = grind (arith, h)

-- ---- one stamp that is written, and another that is read
same-place : (at m sub n : ℕ) → m ≤ MAX_NSID → n ≤ MAX_NSID → place_of sub n ≡ place_of at m → (sub ≡ at) × (n ≡ m)
same-place at m sub n low high e = (omega (arith, low, high, e), omega (arith, low, high, e))

space-on : (xs : List ℕ) (at m sub n v : ℕ) (a b : Bool) → (at == sub) ≡ a → (m == n) ≡ b → m ≤ MAX_NSID → n ≤ MAX_NSID → place_of at m < length xs
    → slice_index (slice_set xs (place_of at m) v) (place_of sub n) ≡ cond (a && b) v (slice_index xs (place_of sub n))
space-on xs at m sub n v true true ea eb low high within =
    let same_at = eqb-true at sub ea in
    let same_n = eqb-true m n eb in
    ap (λ (i : ℕ). slice_index (slice_set xs (place_of at m) v) i) (omega (arith, same_at, same_n)) ∙ get_or-set_same xs (place_of at m) v 0 within
space-on xs at m sub n v true false ea eb low high within =
    get_or-set_other xs (place_of at m) (place_of sub n) v 0 (λ e. differ m n eb (sym (same-place at m sub n low high e).1))
space-on xs at m sub n v false b ea eb low high within =
    get_or-set_other xs (place_of at m) (place_of sub n) v 0 (λ e. differ at sub ea (sym (same-place at m sub n low high e).0))

one-on : (xs : List ℕ) (n at v : ℕ) (b : Bool) → (n == at) ≡ b → n < length xs → slice_index (slice_set xs n v) at ≡ cond b v (slice_index xs at)
one-on xs n at v true e within =
    ap (λ (i : ℕ). slice_index (slice_set xs n v) i) (sym (eqb-true n at e)) ∙ get_or-set_same xs n v 0 within
one-on xs n at v false e within = get_or-set_other xs n at v 0 (λ is. differ n at e (sym is))

one-written : (xs : List ℕ) (o : Option ℕ) (at v most : ℕ) → length xs ≡ most → IsBelow most o
    → slice_index (stamped_at v o xs) at ≡ cond (is_at at o) v (slice_index xs at)
one-written xs None at v most len p = refl
one-written xs (Some n) at v most len p = one-on xs n at v (n == at) refl (subst (λ (k : ℕ). n < k) (sym len) p)

-- ---- a namespace's stamp
within-on : (xs : List ℕ) (at m : ℕ) → length xs ≡ MAX_SUBSYSTEMS * (MAX_NSID + 1) → at < MAX_SUBSYSTEMS → m ≤ MAX_NSID → place_of at m < length xs
within-on xs at m len low high = omega (arith, len, low, high)

none-of : (a b : Bool) → b ≡ false → (a && b) ≡ false
none-of true b e = e
none-of false b e = refl

space-read : (xs : List ℕ) (v : ℕ) (o : Option (ℕ × ℕ)) (sub n : ℕ) (h : Bool) → length xs ≡ MAX_SUBSYSTEMS * (MAX_NSID + 1) → nat_le n MAX_NSID ≡ h → FitsPair o
    → cond h (slice_index (stamped_at v (space_place o) xs) (place_of sub n)) 0 ≡ cond (is_pair sub n o) v (cond h (slice_index xs (place_of sub n)) 0)
space-read xs v None sub n h len e r = refl
space-read xs v (Some x) sub n true len e r =
    space-on xs x.0 x.1 sub n v (x.0 == sub) (x.1 == n) refl refl r.2 (at-most n MAX_NSID e) (within-on xs x.0 x.1 len r.0 r.2)
space-read xs v (Some x) sub n false len e r =
    let high = no-more n MAX_NSID e in
    let low = r.2 in
    let off : (x.1 == n) ≡ false = apart x.1 n (omega (arith, low, high)) in
    sym (ap (λ (b : Bool). cond b v 0) (none-of (x.0 == sub) (x.1 == n) off))

space-after : (s : Kept) (c : Change) (sub n : ℕ) → HavePlaces s → FitsChange c
    → space_stamp (stamped c s) sub n ≡ (if is_pair sub n c.namespace then next_serial s else space_stamp s sub n)
unfolding space_stamp stamped
space-after s c sub n places fits = space-read s.spaces (next_serial s) c.namespace sub n (nat_le n MAX_NSID) places.spaces refl fits.namespace

sub-after : (s : Kept) (c : Change) (sub : ℕ) → HavePlaces s → FitsChange c
    → slice_index (stamped c s).subs sub ≡ (if is_at sub c.ana_subsystem then next_serial s else slice_index s.subs sub)
unfolding stamped
sub-after s c sub places fits = one-written s.subs c.ana_subsystem sub (next_serial s) 16 places.subs fits.ana_subsystem

port-after : (s : Kept) (c : Change) (port : ℕ) → HavePlaces s → FitsChange c
    → slice_index (stamped c s).ports port ≡ (if is_at port c.ana_port then next_serial s else slice_index s.ports port)
unfolding stamped
port-after s c port places fits = one-written s.ports c.ana_port port (next_serial s) 8 places.ports fits.ana_port

pub noted_is_published : NotedIsPublished
noted_is_published s c places fits =
    λ i. record {
      space = λ sub n. space-after s c sub n places fits i;
      subsystem = λ sub. sub-after s c sub places fits i;
      port = λ port. port-after s c port places fits i;
    }

-- the words of a patch, where the change was noted in the stamps that are kept
pub patched-as-noted : (t : Configuration) (cs : List ControllerRow) (bs : List Blocks) (c : Change) (old now : Kept) (p : List (ℕ × ℕ)) → HavePlaces old → FitsChange c
    → now ≡ stamped c old → p ≡ words_at (shape_before t cs bs (stamps_after now.serial c (stamps_by old))) (told_places t c)
    → p ≡ words_at (shape_of t cs bs now) (told_places t c)
unfolding stamped
patched-as-noted t cs bs c old now p places fits is words =
    let words_with : Stamps → List (ℕ × ℕ) = λ s. words_at (shape_before t cs bs s) (told_places t c) in
    words
    ∙ (ap (λ (s : Kept). words_with (stamps_after s.serial c (stamps_by old))) is
    ∙ (sym (ap words_with (noted_is_published old c places fits))
    ∙ sym (ap (λ (s : Kept). words_with (stamps_by s)) is)))

-- ---- places
written-len : (xs : List ℕ) (o : Option ℕ) (v : ℕ) → length (stamped_at v o xs) ≡ length xs
written-len xs None v = refl
written-len xs (Some n) v = length-set xs n v

not-zero : (sub : ℕ) (o : Option (ℕ × ℕ)) → FitsPair o → is_pair sub 0 o ≡ false
not-zero sub None fits = refl
not-zero sub (Some x) fits = none-of (x.0 == sub) (x.1 == 0) (over x.1 fits.1) where
  over : (k : ℕ) → 1 ≤ k → (k == 0) ≡ false
  over k h = grind (arith, h)

never-after : (s : Kept) (c : Change) (sub : ℕ) → HavePlaces s → FitsChange c → space_stamp (stamped c s) sub 0 ≡ 0
never-after s c sub places fits =
    space-after s c sub 0 places fits
    ∙ (ap (λ (b : Bool). if b then next_serial s else space_stamp s sub 0) (not-zero sub c.namespace fits.namespace) ∙ places.never sub)

spaces-len : (s : Kept) (c : Change) → length (stamped c s).spaces ≡ length s.spaces
unfolding stamped
spaces-len s c = written-len s.spaces (space_place c.namespace) (next_serial s)

subs-len : (s : Kept) (c : Change) → length (stamped c s).subs ≡ length s.subs
unfolding stamped
subs-len s c = written-len s.subs c.ana_subsystem (next_serial s)

ports-len : (s : Kept) (c : Change) → length (stamped c s).ports ≡ length s.ports
unfolding stamped
ports-len s c = written-len s.ports c.ana_port (next_serial s)

pub places_stay : PlacesStay
places_stay s c places fits = record {
  spaces = spaces-len s c ∙ places.spaces;
  subs = subs-len s c ∙ places.subs;
  ports = ports-len s c ∙ places.ports;
  never = λ sub. never-after s c sub places fits;
}

-- ---- the start
zeros : (n k : ℕ) → slice_index (replicate n 0) k ≡ 0
zeros zero k = refl
zeros (suc n) zero = refl
zeros (suc n) (suc k) = zeros n k

none-yet : (n k : ℕ) → slice_index (untouched n) k ≡ 0
unfolding untouched
none-yet n k = zeros n k

all-yet : (n : ℕ) → length (untouched n) ≡ n
unfolding untouched
all-yet n = length-replicate n 0

either : (h : Bool) (n k : ℕ) → cond h (slice_index (untouched n) k) 0 ≡ 0
either true n k = none-yet n k
either false n k = refl

space-start : (sub n : ℕ) → space_stamp nothing_kept sub n ≡ 0
unfolding space_stamp nothing_kept
space-start sub n = either (nat_le n MAX_NSID) (MAX_SUBSYSTEMS * (MAX_NSID + 1)) (place_of sub n)

sub-start : (sub : ℕ) → slice_index nothing_kept.subs sub ≡ 0
unfolding nothing_kept
sub-start sub = none-yet MAX_SUBSYSTEMS sub

port-start : (port : ℕ) → slice_index nothing_kept.ports port ≡ 0
unfolding nothing_kept
port-start port = none-yet MAX_PORTS port

pub nothing_is_stamped : NothingIsStamped
nothing_is_stamped =
    λ i. record {
      space = λ sub n. space-start sub n i;
      subsystem = λ sub. sub-start sub i;
      port = λ port. port-start port i;
    }

pub places_from_the_start : PlacesFromTheStart
unfolding nothing_kept
places_from_the_start = record {
  spaces = all-yet (MAX_SUBSYSTEMS * (MAX_NSID + 1));
  subs = all-yet MAX_SUBSYSTEMS;
  ports = all-yet MAX_PORTS;
  never = λ sub. space-start sub 0;
}

-- ---- serials
next-small : (n : ℕ) → min (n + 1) (2 ^ 32 - 1) < 2 ^ 32
next-small n = omega arith

one-small : (b : Bool) (v old : ℕ) → v < 2 ^ 32 → old < 2 ^ 32 → (if b then v else old) < 2 ^ 32
one-small true v old new before = new
one-small false v old new before = before

serials-after : (s : Kept) (c : Change) → AreSerials (stamps_by s) → AreSerials (stamps_after (next_serial s) c (stamps_by s))
serials-after s c small =
    let next = next-small s.serial in
    record {
      space = λ sub n. one-small (is_pair sub n c.namespace) (next_serial s) (space_stamp s sub n) next (small.space sub n);
      subsystem = λ sub. one-small (is_at sub c.ana_subsystem) (next_serial s) (slice_index s.subs sub) next (small.subsystem sub);
      port = λ port. one-small (is_at port c.ana_port) (next_serial s) (slice_index s.ports port) next (small.port port);
    }

pub serials_stay : SerialsStay
serials_stay s c places fits small = subst AreSerials (sym (noted_is_published s c places fits)) (serials-after s c small)

zero-small : (k : ℕ) → k ≡ 0 → k < 2 ^ 32
zero-small k is = omega (arith, is)

pub serials_from_the_start : SerialsFromTheStart
serials_from_the_start = record {
  space = λ sub n. zero-small (space_stamp nothing_kept sub n) (space-start sub n);
  subsystem = λ sub. zero-small (slice_index nothing_kept.subs sub) (sub-start sub);
  port = λ port. zero-small (slice_index nothing_kept.ports port) (port-start port);
}
