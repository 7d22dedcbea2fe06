-- What the editor's seat of a table with three seats keeps through one drain of the disk.
use Rattle.std.specs.Prelude.{◌≡◌, ◌<◌, ℕ, [], ◌∷◌, replicate, Some, None, true, false}
use Rattle.ref_state.specs.declared.kinds.Tag.{Tag}
use Rattle.ref_state.specs.declared.state.Count.{Count}
use Rattle.ref_state.specs.declared.state.Drain.{Drain}
use Rattle.ref_state.specs.declared.state.Editor.{Editor}
use Rattle.ref_state.specs.declared.state.Mark.TheVariants.{Passed}
use Rattle.ref_state.specs.declared.state.Phase.{Phase}
use Rattle.ref_state.specs.declared.state.Phase.TheVariants as phase
use Rattle.ref_state.specs.State.{total, no_count}
use Rattle.ref_state.specs.Soundness.{live_drain}
use Rattle.table_rule.specs.declared.rule.Told.{Told}
use Rattle.table_rule.specs.Meant.{target}
use Rattle.table_rule.specs.Shown.{claims_of}
use Rattle.table_rule.specs.Plays.{published_notes}
use Rattle.table_seats.specs.EndingMeans.{ending_means}

-- the editor's edit of this number
abbrev pub edit_of : ℕ → Tag
edit_of n = record { kind = 6; caller = 0; number = n }

abbrev pub started : Editor
started = record {
  confs = (1 ∷ []) ∷ [];
  published = [];
  pending = [];
  marks = replicate 3 Passed;
  drains = live_drain 3 ∷ [];
}

-- the disk is hidden by the call at this place
abbrev pub hidden : ℕ → Editor
hidden place = published_notes 3 place (edit_of 0) (record started { pending = (0, 0) ∷ [] })

-- every seat has passed, and the disk's life stands so
abbrev pub passed : ℕ → Drain → Editor
passed place life = record (hidden place) { marks = replicate 3 Passed; drains = life ∷ [] }

abbrev pub killed_life : Drain
killed_life = record {
  phase = phase.Killed;
  done_placed = false;
  bases = replicate 3 no_count;
  looked = replicate 3 None;
  marks = replicate 3 Passed;
}

-- the counters were found to be these
abbrev pub counted_life : Phase → Count → Count → Count → Drain
counted_life p x y z = record {
  phase = p;
  done_placed = false;
  bases = x ∷ (y ∷ (z ∷ []));
  looked = Some x ∷ (Some y ∷ (Some z ∷ []));
  marks = replicate 3 Passed;
}

-- the editor's seat keeps these notes, and knows that the target shows this and has such a drain
pub record Edits (notes : Editor) (shown draining : ℕ) (v : Told) : Type 0 where
  pub notes_are : v.notes ≡ notes
  pub seats : v.seats ≡ 3
  pub number : v.view.number ≡ 0
  pub claim : 0 < total (claims_of 0) v.claims
  pub desk : ending_means.desk (target ending_means v.known) ≡ (shown, draining)

-- the drain has ended, and the disk is live again
abbrev pub next_life : Count → Count → Count → Drain
next_life x y z = record (counted_life phase.Live x y z) { done_placed = true }
