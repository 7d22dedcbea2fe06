-- The log page of ANA groups.
use Rattle.std.specs.Prelude.{ℕ, nat_lt, ◌||◌, Bool, if◌then◌else◌, List, [], ◌∷◌, ◌++◌, length}
use Rattle.std.specs.List.{flat_map}
use Rattle.sqe_cqe.specs.Fields.{spelled}
use Rattle.sqe_cqe.specs.Answers.{View}
use Rattle.sqe_cqe.specs.declared.rows.Ana.{Ana}
use Rattle.sqe_cqe.specs.declared.rows.Ana.TheVariants.{Optimized, NonOptimized, Inaccessible, PersistentLoss, Changing}
use Rattle.look_pages.specs.declared.list.Choice.TheVariants.{InGroup}
use Rattle.look_pages.specs.Pages.{those, words}
use Rattle.look_pages.specs.Chosen.{chosen_nsids}
use Rattle.ana_groups.specs.declared.members.TheConstants.{GROUPS}

abbrev pub state_code : Ana → ℕ
state_code Optimized = 1
state_code NonOptimized = 2
state_code Inaccessible = 3
state_code PersistentLoss = 4
state_code Changing = 15

-- the enabled NSIDs of a group, rising
abbrev pub members : View → ℕ → List ℕ
members v group = chosen_nsids (InGroup group) v

-- made at the port, or the group of an enabled namespace
abbrev pub is_reported : View → ℕ → Bool
is_reported v group = v.group_made group || nat_lt 0 (length (members v group))

-- the groups in the page, rising
unfoldable pub reported : View → List ℕ
reported v = those (is_reported v) GROUPS

-- change count in eight bytes, number of groups in two, and six that are reserved
unfoldable pub header_bytes : ℕ → ℕ → List ℕ
header_bytes count groups = spelled 8 count ++ spelled 2 groups ++ (0 ∷ 0 ∷ 0 ∷ 0 ∷ 0 ∷ 0 ∷ [])

-- group and number of NSIDs in four bytes each, change count in eight, state, and 15 that are reserved
unfoldable pub descriptor : ℕ → ℕ → ℕ → Ana → List ℕ
descriptor group nsids count state =
    spelled 4 group ++ spelled 4 nsids ++ spelled 8 count
    ++ (state_code state ∷ 0 ∷ 0 ∷ 0 ∷ 0 ∷ 0 ∷ 0 ∷ 0 ∷ 0 ∷ 0 ∷ 0 ∷ 0 ∷ 0 ∷ 0 ∷ 0 ∷ 0 ∷ [])

-- a group with its NSIDs, or without them
unfoldable pub group_bytes : View → Bool → ℕ → List ℕ
group_bytes v rgo group =
    descriptor group (if rgo then 0 else length (members v group)) (v.group_count group) (v.ana group)
    ++ (if rgo then [] else words (members v group))

-- groups one after another
unfoldable pub groups_bytes : View → Bool → List ℕ → List ℕ
groups_bytes v rgo groups = flat_map (λ group. group_bytes v rgo group) groups

-- the page: of the groups that are made at the port or have an enabled namespace of the subsystem
unfoldable pub ana_bytes : View → Bool → List ℕ
ana_bytes v rgo = header_bytes v.ana_count (length (reported v)) ++ groups_bytes v rgo (reported v)
