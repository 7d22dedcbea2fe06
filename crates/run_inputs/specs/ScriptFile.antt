-- What the bytes of a script give.
use Rattle.std.specs.Prelude.{ℕ, List, Result, Ok, Err}
use Rattle.script_lines.specs.declared.lines.LineError.{LineError}
use Rattle.script_lines.specs.declared.lines.LineError.TheVariants as lines
use Rattle.plan_files.specs.Binding.{◌>>=◌}
use Rattle.run_transcript.specs.declared.scripts.ScriptEdit.{ScriptEdit}
use Rattle.script_edits.specs.Script.{script_in}
use Rattle.run_inputs.specs.declared.contents.TheConstants.{MAX_SCRIPT_BYTES}
use Rattle.run_outcomes.specs.declared.faults.At.TheVariants as at
use Rattle.run_outcomes.specs.declared.numbers.TheConstants.{SCRIPT}
use Rattle.run_outcomes.specs.declared.faults.Fault.{Fault}
use Rattle.run_outcomes.specs.declared.faults.Fault.TheVariants as fault
use Rattle.run_inputs.specs.Contents.{content_of}
use Rattle.run_inputs.specs.Known.{Known}

abbrev pub line_error : LineError → Fault
line_error (lines.BadLine line) = fault.Malformed SCRIPT (at.Line line)
line_error (lines.TooLong what count) = fault.Limit SCRIPT what count
line_error lines.Memory = fault.Memory

abbrev pub or_fault : Result (List ScriptEdit) LineError → Result (List ScriptEdit) Fault
or_fault (Ok edits) = Ok edits
or_fault (Err e) = Err (line_error e)

-- the edits in a file of at most 4 MiB
unfoldable pub script_of_file : List ℕ → Result (List ScriptEdit) Fault
script_of_file bytes = content_of MAX_SCRIPT_BYTES SCRIPT bytes >>= λ b. or_fault (script_in b)

abbrev pub with_script : Known → Result (List ScriptEdit) Fault → Result Known Fault
with_script s (Ok edits) = Ok (record s { script = edits })
with_script s (Err f) = Err f
