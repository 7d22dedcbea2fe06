-- The admission of an I/O command over the words of a configuration, and a meaning of calls by which
-- a submit is Held exactly where its command is admitted.
use Rattle.std.specs.Prelude.{◌≡◌, ℕ, ◌<◌, Bool, true, false, List, Option, Some, None}
use Rattle.ref_state.specs.declared.kinds.Tag.{Tag}
use Rattle.table_rule.specs.Meant.{Meaning}
use Rattle.sqe_cqe.specs.declared.controllers.Bound.{Bound}
use Rattle.sqe_cqe.specs.declared.sqe.Sqe.{Sqe}
use Rattle.sqe_cqe.specs.Answers.{view_of}
use Rattle.io_commands.specs.declared.jobs.Admit.{Admit}
use Rattle.io_commands.specs.declared.jobs.Admit.TheVariants.{Refused, Run}
use Rattle.io_commands.specs.Admission.{io_admission}
use Rattle.io_commands.specs.Jobs.{disk_of}
use Rattle.ns_table.specs.Looked.{words_answers}

-- the admission of a command over these words at this serial
abbrev pub admission_in : List ℕ → ℕ → Bound → Sqe → Admit
admission_in ws serial b e = io_admission (view_of (words_answers ws serial) b) e

-- the disk on which an admitted command is held
abbrev pub disk_held : Admit → Option ℕ
disk_held (Refused status) = None
disk_held (Run job) = Some (disk_of job)

abbrev pub is_held : Admit → Bool
is_held (Refused status) = false
is_held (Run job) = true

module _ {T X Y R S : Type 0} (m : Meaning T X Y R S) where
  -- at this target a submit is Held exactly where the command is admitted over the target's words,
  -- whatever their serial, and on the same disk, which is in the table
  pub record Admits (disks : ℕ) (tag : Tag) (b : Bound) (e : Sqe) (t : T) : Type 0 where
    pub held : (serial : ℕ) → m.held t tag ≡ disk_held (admission_in (m.words t) serial b e)
    pub near : (d : ℕ) → m.held t tag ≡ Some d → (d < disks) × (d < 64)
