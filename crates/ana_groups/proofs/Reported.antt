-- The members of groups, and the bytes of groups one after another.
use Rattle.std.proofs.Common.{◌≡◌, ℕ, zero, suc, ◌+◌, ◌*◌, Bool, false, List, [], ◌++◌, length, get_or, replicate, sym, ap, refl, arith, length-append}
use Rattle.std.proofs.lemmas.List.Concat.{flat_map-append}
use Rattle.look_pages.specs.Pages.{those, words}
use Rattle.look_pages.proofs.Walks.{length-words}
use Rattle.sqe_cqe.specs.Answers.{View}
use Rattle.ana_groups.specs.AnaPage.{members, descriptor, group_bytes, groups_bytes, is_reported, reported, header_bytes}
use Rattle.ana_groups.specs.declared.members.TheConstants.{GROUPS}

pub groups_none : (v : View) (rgo : Bool) → groups_bytes v rgo [] ≡ []
unfolding groups_bytes
groups_none v rgo = refl

pub groups_append : (v : View) (rgo : Bool) (xs ys : List ℕ) → groups_bytes v rgo (xs ++ ys) ≡ groups_bytes v rgo xs ++ groups_bytes v rgo ys
unfolding groups_bytes
groups_append v rgo xs ys = flat_map-append (λ (group : ℕ). group_bytes v rgo group) xs ys

-- the walk is at its end
pub reported-at : (v : View) (n : ℕ) → n ≡ GROUPS → reported v ≡ those (is_reported v) n
unfolding reported
reported-at v n e = sym (ap (λ (k : ℕ). those (is_reported v) k) e)

pub length-header : (count groups : ℕ) → length (header_bytes count groups) ≡ 16
unfolding header_bytes
length-header count groups = refl

pub length-descriptor : (v : View) (group count nsids : ℕ) → length (descriptor group nsids count (v.ana group)) ≡ 32
unfolding descriptor
length-descriptor v group count nsids = refl

-- a group whose NSIDs are shown
pub length-group : (v : View) (rgo : Bool) (group : ℕ) → rgo ≡ false
    → length (group_bytes v rgo group) ≡ 32 + 4 * length (members v group)
unfolding group_bytes
length-group v rgo group shown = rw shown
    omega (
      arith,
      length-descriptor v group (v.group_count group) (length (members v group)),
      length-words (members v group),
      length-append (descriptor group (length (members v group)) (v.group_count group) (v.ana group)) (words (members v group)),
    )

-- each number of a list of zeros
pub get_or-zeros : (n k : ℕ) → get_or (replicate {A = ℕ} n 0) k 0 ≡ 0
get_or-zeros zero k = refl
get_or-zeros (suc n) zero = refl
get_or-zeros (suc n) (suc k) = get_or-zeros n k
