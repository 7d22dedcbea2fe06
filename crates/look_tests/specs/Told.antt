-- What a configuration of plain arrays answers.
use Rattle.std.specs.Prelude.{ℕ, zero, suc, ◌==◌, ◌&&◌, not, nat_lt, false, if◌then◌else◌, List, slice_index}
use Rattle.sqe_cqe.specs.declared.rows.Seen.{Seen}
use Rattle.sqe_cqe.specs.declared.rows.Seen.TheVariants.{NotConfigured, Off, On}
use Rattle.sqe_cqe.specs.declared.rows.Ana.{Ana}
use Rattle.sqe_cqe.specs.declared.rows.Ana.TheVariants.{Optimized, NonOptimized, Inaccessible, PersistentLoss, Changing}
use Rattle.sqe_cqe.specs.declared.rows.TheConstants.{MAX_NSID}
use Rattle.sqe_cqe.specs.Answers.{Answers}
use Rattle.look_tests.specs.declared.world.World.{World}

-- the number at n - 1, or 0
abbrev pub number_at : List ℕ → ℕ → ℕ
number_at list zero = 0
number_at list (suc n) = slice_index list n

abbrev pub seen_of : World → ℕ → Seen
seen_of w slot =
    if slot == 0 then NotConfigured
    else if nat_lt 128 slot then Off
    else On (record { disk = 0; shift = 9; blocks = 16; group = slot; uuid = w.uuid; nguid = w.nguid })

abbrev pub state_of : ℕ → Ana
state_of code =
    if code == 1 then Optimized
    else if code == 2 then NonOptimized
    else if code == 4 then PersistentLoss
    else if code == 15 then Changing
    else Inaccessible

-- no target offers more than the highest NSID
abbrev pub offered_of : ℕ → ℕ
offered_of nsids = if nat_lt MAX_NSID nsids then MAX_NSID else nsids

-- what isn't of the world's subsystem or port shows nothing
abbrev pub world_answers : World → Answers
world_answers w = record {
  ready = λ c. w.ready;
  ns = λ s n. if s == w.sub then seen_of w (number_at w.slots.now n) else NotConfigured;
  ana = λ p g. if p == w.port then state_of (number_at w.states.now g) else Inaccessible;
  group_made = λ p g. if p == w.port then not (number_at w.states.now g == 0) else false;
  ns_stamp = λ s n. if s == w.sub then number_at w.stamps.now n else 0;
  ana_stamp = λ s p. if (s == w.sub) && (p == w.port) then w.ana_stamp else 0;
  ana_count = w.ana_count;
  serial = w.serial;
  bars = λ c s n o. 0;
  offers = record { nsids = offered_of w.nsids; oncs = 8; nwpc = 0; rescap = 0 };
  marks = λ s n. 0;
  group_count = λ p s g. if (s == w.sub) && (p == w.port) then w.ana_count else 0;
}
