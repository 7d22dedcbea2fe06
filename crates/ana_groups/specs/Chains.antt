-- The enabled namespaces of ANA groups as chains of NSIDs.
use Rattle.std.specs.Prelude.{◌≡◌, ℕ, zero, suc, ◌+◌, ◌≤◌, Bool, List, [], ◌∷◌, ◌++◌, length, slice_index}
use Rattle.sqe_cqe.specs.Answers.{View}
use Rattle.sqe_cqe.specs.declared.rows.TheConstants.{MAX_NSID}
use Rattle.look_pages.specs.declared.list.Choice.TheVariants.{InGroup}
use Rattle.look_pages.specs.Chosen.{is_chosen}
use Rattle.look_pages.specs.Pages.{if_one}
use Rattle.ana_groups.specs.AnaPage.{members}
use Rattle.ana_groups.specs.declared.members.Members.{Members}

-- those of low + 1 to low + count with p, rising
abbrev pub those_above : (ℕ → Bool) → ℕ → ℕ → List ℕ
those_above p low zero = []
those_above p low (suc count) = if_one p (low + 1) ++ those_above p (low + 1) count

-- from `at` on each NSID of the list leads to the next one, and the last to 0
abbrev pub IsChain : List ℕ → ℕ → List ℕ → Type 0
IsChain next at [] = at ≡ 0
IsChain next at (n ∷ list) = (at ≡ n) × IsChain next (slice_index next n) list

-- no number is above the highest NSID
pub record IsWithin (m : Members) : Type 0 where
  pub first : (g : ℕ) → slice_index m.first g ≤ MAX_NSID
  pub next : (n : ℕ) → slice_index m.next n ≤ MAX_NSID

-- a list of NSIDs is a group's chain, and has its count
pub record Holds (m : Members) (group : ℕ) (list : List ℕ) : Type 0 where
  pub chain : IsChain m.next (slice_index m.first group) list
  pub count : slice_index m.counts group ≡ length list

-- the chains are those of the NSIDs from low + 1 to low + count
pub record AreAbove (v : View) (low count : ℕ) (m : Members) : Type 0 where
  pub within : IsWithin m
  pub groups : (g : ℕ) → g ≤ 128 → Holds m g (those_above (is_chosen (InGroup g) v) low count)

-- the chains are those of all enabled namespaces
pub record AreMembers (v : View) (m : Members) : Type 0 where
  pub within : IsWithin m
  pub groups : (g : ℕ) → g ≤ 128 → Holds m g (members v g)
