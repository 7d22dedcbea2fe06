-- Soundness as the proofs of the steps take it: the number of puts is a number of its own, and what
-- is said of one disk's counts is one record.
use Rattle.std.proofs.Common.{◌≡◌, ℕ, ◌+◌, ◌<◌, ◌≤◌, Bool, true, List, length, get_or, subst, arith}
use Rattle.ref_state.specs.declared.kinds.Tag.{Tag}
use Rattle.ref_state.specs.declared.state.View.{View}
use Rattle.ref_state.specs.declared.state.Phase.TheVariants as phase
use Rattle.ref_state.specs.declared.state.Drain.{Drain}
use Rattle.ref_state.specs.declared.state.Disk.{Disk}
use Rattle.ref_state.specs.declared.state.State.{State as Core}
use Rattle.ref_state.specs.State.{bias, total, entries, holds, has_got, got_at, got_by, submit_got, bare_got, execute_of, any_hold, waiting_hold, done_hold, bare_hold, holds_on, no_disk, no_drain, ups, downs}
use Rattle.ref_state.specs.Soundness.{Every, IsWithin, counts_own, is_biased, SplitCount, puts_of, PlacesAndSerials, SidesAgree, GracePeriod, ModeSnapshots, ShownIsLive, TurnsOwned, IsSound}

-- the counts of one disk, in every phase
pub record Counts (n g p on : ℕ) (k : Disk) (b : Drain) : Type 0 where
  pub long : (length k.own ≡ n) × (length b.bases ≡ n)
  pub balance : counts_own b.phase ≡ true → k.shared + (total ups k.own + total downs b.bases)
      ≡ bias + (total downs k.own + (total ups b.bases + on))
  pub armed : b.phase ≡ phase.Armed → on ≡ 0
  pub biased : is_biased b.phase ≡ true → k.shared ≡ bias
  pub killed : b.phase ≡ phase.Killed → (k.shared ≤ bias + g) × (bias ≤ k.shared + p)
  pub lies : Every (IsWithin p g) k.own × Every (IsWithin p g) b.bases
  pub folded : b.phase ≡ phase.Folded → (k.shared ≡ on) × (k.own ≡ b.bases)
  pub drained : b.phase ≡ phase.Drained → (k.shared ≡ 0) × (on ≡ 0) × (k.own ≡ b.bases)

pub record References (n : ℕ) (disks : List Disk) (drains : List Drain) (views : List View) (p : ℕ)
    : Type 0 where
  pub puts : holds any_hold views + p ≡ entries has_got views
  pub as_many : length drains ≡ length disks
  pub counts : (d : ℕ) → d < length disks
      → Counts n (entries has_got views) p (holds_on d views) (get_or disks d no_disk)
      (get_or drains d no_drain)

-- each hold belongs to its entry, and each submit has one hold or one Execute
pub record HoldsOwned (views : List View) : Type 0 where
  pub of_one : (k : ℕ) (p : Tag → Bool) → holds (got_by k p) views ≤ entries (got_at k p) views
  pub submits : (k : ℕ) (p : ℕ → ℕ → Bool) → holds (waiting_hold k p) views
      + entries (execute_of k p) views ≡ entries (submit_got k p) views
  pub executed : (k : ℕ) (p : ℕ → ℕ → Bool)
      → holds (done_hold k p) views ≤ entries (execute_of k p) views
  pub bare : (k : ℕ) (p : ℕ → ℕ → Bool) → holds (bare_hold k p) views ≤ entries (bare_got k p) views

pub record Whole (c : Core) : Type 0 where
  pub puts : ℕ
  pub places : PlacesAndSerials c.given c.serial c.quotas c.editor.published c.views
  pub sides : SidesAgree c.seats c.rows c.serial c.sides c.editor c.views
  pub sections : GracePeriod c.seats c.serial c.editor.marks c.views
  pub references : References c.seats c.disks c.editor.drains c.views puts
  pub modes : ModeSnapshots c.seats c.disks c.editor c.views
  pub shown : ShownIsLive c.serial c.editor c.views
  pub turns : TurnsOwned c.seats c.turns c.views
  pub executes : HoldsOwned c.views

pub parts_of : (c : Core) → Whole c → IsSound c
parts_of c s = let was = s.references.puts in let same : s.puts ≡ puts_of c.views = omega arith in
    record {
      places = s.places;
      sides = s.sides;
      sections = s.sections;
      split_counts = record {
        standing = omega arith;
        of_one = s.executes.of_one;
        as_many = s.references.as_many;
        counts = λ d near. let x = s.references.counts d near in
            subst (λ (p : ℕ). SplitCount c.seats (entries has_got c.views) p (holds_on d c.views)
            (get_or c.disks d no_disk) (get_or c.editor.drains d no_drain)) same
            record {
              long = x.long;
              balance = x.balance;
              armed = x.armed;
              biased = x.biased;
              killed = x.killed;
              lies = x.lies;
            };
      };
      folded_counts = λ d near. let x = s.references.counts d near in
          record { folded = x.folded; drained = x.drained };
      modes = s.modes;
      shown = s.shown;
      turns = s.turns;
      holds = record {
        submits = s.executes.submits;
        executed = s.executes.executed;
        bare = s.executes.bare;
      };
    }

pub whole_of : (c : Core) → IsSound c → Whole c
whole_of c s = record {
  puts = puts_of c.views;
  places = s.places;
  sides = s.sides;
  sections = s.sections;
  references = let le = s.split_counts.standing in record {
    puts = omega arith;
    as_many = s.split_counts.as_many;
    counts = λ d near. let x = s.split_counts.counts d near in let y = s.folded_counts d near in
        record {
          long = x.long;
          balance = x.balance;
          armed = x.armed;
          biased = x.biased;
          killed = x.killed;
          lies = x.lies;
          folded = y.folded;
          drained = y.drained;
        };
  };
  modes = s.modes;
  shown = s.shown;
  turns = s.turns;
  executes = record {
    of_one = s.split_counts.of_one;
    submits = s.holds.submits;
    executed = s.holds.executed;
    bare = s.holds.bare;
  };
}
