-- What a configuration answers, and what its words answer.
use Rattle.std.specs.Prelude.{◌≡◌, ◌≤◌, ◌<◌, ℕ, ◌+◌, ◌*◌, ◌%◌, ◌^◌, ◌==◌, ◌&&◌, not, nat_lt, nat_le, max, Bool, false, if◌then◌else◌, List, ◌++◌, length, slice_index, slice_get, Some}
use Rattle.std.specs.Int.{to_le_bytes, w64}
use Rattle.std.specs.FinMap as maps
use Rattle.mem_bdev.specs.Blocks.{Blocks}
use Rattle.mem_bdev.specs.declared.limits.TheConstants.{MAX_DISK_BYTES}
use Rattle.sqe_cqe.specs.Answers.{Answers}
use Rattle.sqe_cqe.specs.One.{plain_offers}
use Rattle.sqe_cqe.specs.declared.controllers.ControllerRow.{ControllerRow}
use Rattle.sqe_cqe.specs.declared.rows.Ana.{Ana}
use Rattle.sqe_cqe.specs.declared.rows.Ana.TheVariants.{Optimized, NonOptimized, Inaccessible, PersistentLoss, Changing}
use Rattle.sqe_cqe.specs.declared.rows.NsRow.{NsRow}
use Rattle.sqe_cqe.specs.declared.rows.Seen.{Seen}
use Rattle.sqe_cqe.specs.declared.rows.Seen.TheVariants.{NotConfigured, Off, On}
use Rattle.configfs_rows.specs.declared.namespaces.NamespaceRow.{NamespaceRow}
use Rattle.configfs_rows.specs.declared.subsystems.SubsystemRow.{SubsystemRow}
use Rattle.configfs_tree.specs.Standing.{IsStanding}
use Rattle.configfs_tree.specs.declared.configuration.Configuration.{Configuration}
use Rattle.change_stamps.specs.Stamps.{Stamps as Kept, no_stamps as nothing_kept}
use Rattle.tree_target.specs.Looked.{tree_answers}
use Rattle.ns_table.specs.Positions.{at, Ready, Changes, SubsystemStamp, PortStamp, State, space_at}
use Rattle.ns_table.specs.Words.{Stamps, Shape, words_of}
use Rattle.ns_table.specs.Kept.{shape_of, HavePlaces}

-- what there are words for
abbrev pub is_nsid : ℕ → ℕ → Bool
is_nsid sub nsid = nat_lt sub 16 && (nat_lt 0 nsid && nat_lt nsid 2049)

abbrev pub is_group : ℕ → ℕ → Bool
is_group port group = nat_lt port 8 && (nat_lt 0 group && nat_lt group 129)

abbrev pub is_controller : ℕ → Bool
is_controller ctrl = nat_lt 0 ctrl && nat_lt ctrl 32

-- a configuration's answers with these stamps, whoever keeps them, at a serial
abbrev pub shape_answers : Shape → ℕ → Answers
shape_answers x serial = record (tree_answers x.tree x.controllers x.blocks nothing_kept) {
  ns_stamp = λ s n. if is_nsid s n then x.stamps.space s n else 0;
  ana_stamp = λ s p. max (if nat_lt s 16 then x.stamps.subsystem s else 0)
      (if nat_lt p 8 then x.stamps.port p else 0);
  serial = serial;
}

-- ---- what words answer
-- the row of an enabled namespace, from the words at its NSID
abbrev pub row_in : List ℕ → ℕ → NsRow
row_in ws from = record {
  disk = slice_index ws (from + 1);
  shift = slice_index ws (from + 2);
  blocks = slice_index ws (from + 3);
  group = slice_index ws (from + 4);
  uuid = to_le_bytes w64 (slice_index ws (from + 5)) ++ to_le_bytes w64 (slice_index ws (from + 6));
  nguid = to_le_bytes w64 (slice_index ws (from + 7))
      ++ to_le_bytes w64 (slice_index ws (from + 8));
}

-- the words can be those of a row: a disk's number, a block size, a disk's size and a group
abbrev pub may_be_row : NsRow → Bool
may_be_row r = nat_lt r.disk 256 && (nat_lt r.shift 13 && (nat_le r.blocks MAX_DISK_BYTES
    && (nat_le (r.blocks * 2 ^ r.shift) MAX_DISK_BYTES && nat_le r.group 128)))

abbrev pub row_or_off : NsRow → Seen
row_or_off r = if may_be_row r then On r else Off

abbrev pub seen_in : List ℕ → ℕ → Seen
seen_in ws from =
    if slice_index ws (from + 0) == 2 then row_or_off (row_in ws from)
    else (if slice_index ws (from + 0) == 1 then Off else NotConfigured)

abbrev pub state_in : ℕ → Ana
state_in word =
    if word == 1 then Optimized
    else (if word == 2 then NonOptimized
    else (if word == 4 then PersistentLoss
    else (if word == 15 then Changing
    else Inaccessible)))

-- a stamp is a serial, which 32 bits hold
abbrev pub stamp_in : ℕ → ℕ
stamp_in word = word % 2 ^ 32

abbrev pub words_answers : List ℕ → ℕ → Answers
words_answers ws serial = record {
  ready = λ c. if is_controller c then not (slice_index ws (at (Ready c)) == 0) else false;
  ns = λ s n. if is_nsid s n then seen_in ws (space_at s n) else NotConfigured;
  ana = λ p g. if is_group p g then state_in (slice_index ws (at (State p g))) else Inaccessible;
  group_made = λ p g. if is_group p g then not (slice_index ws (at (State p g)) == 0) else false;
  ns_stamp = λ s n. if is_nsid s n then stamp_in (slice_index ws (space_at s n + 10)) else 0;
  ana_stamp = λ s p. max
      (if nat_lt s 16 then stamp_in (slice_index ws (at (SubsystemStamp s))) else 0)
      (if nat_lt p 8 then stamp_in (slice_index ws (at (PortStamp p))) else 0);
  ana_count = slice_index ws (at Changes);
  serial = serial;
  bars = λ c s n o. 0;
  offers = plain_offers;
  marks = λ s n. 0;
  group_count = λ p s g. slice_index ws (at Changes);
}

-- ---- the two are one
-- 16 bytes
pub record IsIdentifier (bytes : List ℕ) : Type 0 where
  pub len : length bytes ≡ 16
  pub small : (i : ℕ) → slice_index bytes i < 256

pub record HasIdentifiers (n : NamespaceRow) : Type 0 where
  pub uuid : IsIdentifier n.uuid
  pub nguid : IsIdentifier n.nguid

-- a disk has blocks of at most 4,096 bytes, at most `MAX_DISK_BYTES` together
pub record IsDisk (d : Blocks) : Type 0 where
  pub block : d.shift ≤ 12
  pub small : length d.blocks * 2 ^ d.shift ≤ MAX_DISK_BYTES

-- stamps are serials
pub record AreSerials (stamps : Stamps) : Type 0 where
  pub space : (sub nsid : ℕ) → stamps.space sub nsid < 2 ^ 32
  pub subsystem : (sub : ℕ) → stamps.subsystem sub < 2 ^ 32
  pub port : (port : ℕ) → stamps.port port < 2 ^ 32

-- a configuration that a table can show
pub record FitsTable (x : Shape) : Type 0 where
  pub standing : IsStanding x.tree
  pub identifiers : (sub : List ℕ) (s : SubsystemRow) (nsid : ℕ) (n : NamespaceRow)
      → maps.get x.tree.settings.subsystems sub ≡ Some s → maps.get s.namespaces nsid ≡ Some n
      → HasIdentifiers n
  pub stamps : AreSerials x.stamps
  pub few_controllers : length x.controllers ≤ 31
  pub few_disks : length x.blocks ≤ 64
  pub disks : (i : ℕ) (d : Blocks) → slice_get x.blocks i ≡ Some d → IsDisk d

-- the look of a configuration's words is the look of the configuration
abbrev pub LookOfWordsIsTheShapes : Type 0
LookOfWordsIsTheShapes = (x : Shape) (serial : ℕ) → FitsTable x
    → words_answers (words_of x) serial ≡ shape_answers x serial

-- .. which is the look of the tree with the stamps that its target keeps, at their serial
abbrev pub LookOfWordsIsTheTrees : Type 0
LookOfWordsIsTheTrees = (t : Configuration) (controllers : List ControllerRow)
    (blocks : List Blocks) (stamps : Kept) → FitsTable (shape_of t controllers blocks stamps)
    → HavePlaces stamps
    → words_answers (words_of (shape_of t controllers blocks stamps)) stamps.serial
    ≡ tree_answers t controllers blocks stamps
