-- The numbers of a run's files.
use Rattle.std.specs.Prelude.{ℕ, ◌+◌, ◌*◌}
use Rattle.run_outcomes.specs.declared.numbers.FileNo.{FileNo}
use Rattle.run_outcomes.specs.declared.numbers.TheConstants.{PLAN}
use Rattle.run_outcomes.specs.declared.faults.Fault.{Fault}
use Rattle.run_outcomes.specs.declared.faults.Fault.TheVariants as fault

abbrev pub capsules_no : ℕ → FileNo
capsules_no queue = record { 0 = 2 + 2 * queue }

abbrev pub responses_no : ℕ → FileNo
responses_no queue = record { 0 = 3 + 2 * queue }

-- the file of a fault; want of memory and an edit that was refused name none, and are put down to
-- the plan
abbrev pub file_of : Fault → FileNo
file_of (fault.Malformed file at) = file
file_of (fault.ReadFault file) = file
file_of (fault.WriteFault file) = file
file_of fault.Memory = PLAN
file_of (fault.Limit file what count) = file
file_of (fault.ConfigRefused edit errno) = PLAN
