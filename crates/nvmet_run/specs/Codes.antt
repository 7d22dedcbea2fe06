-- Exit statuses, and the status of a fault.
use Rattle.std.specs.Prelude.{ℕ}
use Rattle.run_outcomes.specs.declared.faults.Fault.{Fault}
use Rattle.run_outcomes.specs.declared.faults.Fault.TheVariants as fault
use Rattle.nvmet_run.specs.declared.status.Status.{Status}
use Rattle.nvmet_run.specs.declared.status.Status.TheVariants as status

abbrev pub code_of : Status → ℕ
code_of status.Fine = 0
code_of status.Usage = 1
code_of (status.Malformed file at) = 2
code_of (status.ReadFault file) = 3
code_of (status.WriteFault file) = 4
code_of status.Memory = 5
code_of (status.Limit file what count) = 6
code_of (status.ConfigRefused edit errno) = 7
code_of (status.NotLegal place field) = 8

abbrev pub status_of : Fault → Status
status_of (fault.Malformed file at) = status.Malformed file at
status_of (fault.ReadFault file) = status.ReadFault file
status_of (fault.WriteFault file) = status.WriteFault file
status_of fault.Memory = status.Memory
status_of (fault.Limit file what count) = status.Limit file what count
status_of (fault.ConfigRefused edit errno) = status.ConfigRefused edit errno
