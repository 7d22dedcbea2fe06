-- What a configuration answers to the code of commands, by positions.
use Rattle.std.specs.Prelude.{◌≡◌, ℕ, Bool, ◌≤◌, ◌*◌, ◌^◌}
use Rattle.std.proofs.Props.{props}
use Rattle.mem_bdev.specs.declared.limits.TheConstants.{MAX_DISK_BYTES}
use Rattle.sqe_cqe.specs.declared.rows.Seen.{Seen}
use Rattle.sqe_cqe.specs.declared.rows.Seen.TheVariants.{NotConfigured, Off, On}
use Rattle.sqe_cqe.specs.declared.rows.NsRow.{NsRow}
use Rattle.sqe_cqe.specs.declared.rows.Ana.{Ana}
use Rattle.sqe_cqe.specs.declared.rows.Offers.{Offers}
use Rattle.sqe_cqe.specs.declared.controllers.Bound.{Bound}

pub record Answers : Type 0 where
  -- whether a controller is ready
  pub ready : ℕ → Bool
  -- what stands at an NSID of a subsystem
  pub ns : ℕ → ℕ → Seen
  -- the state of a group at a port
  pub ana : ℕ → ℕ → Ana
  pub group_made : ℕ → ℕ → Bool
  -- the serial of the last namespace change of an NSID of a subsystem, or 0
  pub ns_stamp : ℕ → ℕ → ℕ
  -- the serial of the last ANA change of a subsystem or a port, or 0
  pub ana_stamp : ℕ → ℕ → ℕ
  pub ana_count : ℕ
  -- how many changes were published
  pub serial : ℕ
  -- the status that bars a controller from an opcode at an NSID, or 0
  pub bars : ℕ → ℕ → ℕ → ℕ → ℕ
  pub offers : Offers
  pub marks : ℕ → ℕ → ℕ
  pub group_count : ℕ → ℕ → ℕ → ℕ

-- a disk of at most `MAX_DISK_BYTES` in blocks of at most 4,096 bytes, and a group up to 128
pub record IsRow (row : NsRow) : Type 0 where
  pub block : row.shift ≤ 12
  pub disk : row.blocks * 2 ^ row.shift ≤ MAX_DISK_BYTES
  pub group : row.group ≤ 128

abbrev pub HasShape : Seen → Type 0
HasShape NotConfigured = Unit {0}
HasShape Off = Unit {0}
HasShape (On row) = IsRow row

-- it is a fact, at most one way true
pub shape-once : (s : Seen) → IsProp (HasShape s)
shape-once NotConfigured = hlevel props
shape-once Off = hlevel props
shape-once (On row) = hlevel props

-- the part of it that one connected queue sees, with no position left
pub record View : Type 0 where
  pub ready : Bool
  pub ns : ℕ → Seen
  pub ana : ℕ → Ana
  pub group_made : ℕ → Bool
  pub ns_stamp : ℕ → ℕ
  pub ana_stamp : ℕ
  pub ana_count : ℕ
  pub serial : ℕ
  -- by NSID and opcode
  pub bars : ℕ → ℕ → ℕ
  pub offers : Offers
  pub marks : ℕ → ℕ
  pub group_count : ℕ → ℕ

abbrev pub view_of : Answers → Bound → View
view_of a b = record {
  ready = a.ready b.ctrl;
  ns = a.ns b.sub;
  ana = a.ana b.port;
  group_made = a.group_made b.port;
  ns_stamp = a.ns_stamp b.sub;
  ana_stamp = a.ana_stamp b.sub b.port;
  ana_count = a.ana_count;
  serial = a.serial;
  bars = a.bars b.ctrl b.sub;
  offers = a.offers;
  marks = a.marks b.sub;
  group_count = a.group_count b.port b.sub;
}

-- two views that answer alike
pub record SameView (v w : View) : Type 0 where
  pub ready : v.ready ≡ w.ready
  pub ns : (n : ℕ) → v.ns n ≡ w.ns n
  pub ana : (g : ℕ) → v.ana g ≡ w.ana g
  pub group_made : (g : ℕ) → v.group_made g ≡ w.group_made g
  pub ns_stamp : (n : ℕ) → v.ns_stamp n ≡ w.ns_stamp n
  pub ana_stamp : v.ana_stamp ≡ w.ana_stamp
  pub ana_count : v.ana_count ≡ w.ana_count
  pub serial : v.serial ≡ w.serial
  pub bars : (n o : ℕ) → v.bars n o ≡ w.bars n o
  pub offers : v.offers ≡ w.offers
  pub marks : (n : ℕ) → v.marks n ≡ w.marks n
  pub group_count : (g : ℕ) → v.group_count g ≡ w.group_count g

-- are one view
pub same_view : (v w : View) → SameView v w → v ≡ w
same_view v w s = λ i. record {
  ready = s.ready i;
  ns = λ n. s.ns n i;
  ana = λ g. s.ana g i;
  group_made = λ g. s.group_made g i;
  ns_stamp = λ n. s.ns_stamp n i;
  ana_stamp = s.ana_stamp i;
  ana_count = s.ana_count i;
  serial = s.serial i;
  bars = λ n o. s.bars n o i;
  offers = s.offers i;
  marks = λ n. s.marks n i;
  group_count = λ g. s.group_count g i;
}
