-- What the bytes of a file give, where so much was known before.
use Rattle.std.specs.Prelude.{◌≡◌, ℕ, List, Result}
use Rattle.run_outcomes.specs.declared.numbers.FileNo.{FileNo}
use Rattle.run_outcomes.specs.declared.faults.Fault.{Fault}
use Rattle.run_inputs.specs.InputFiles.{Kind, TheConfiguration, TheScript, TheCapsules, InputFile}
use Rattle.run_inputs.specs.Known.{Known}
use Rattle.run_inputs.specs.PlanFile.{plan_of_file, begun_by}
use Rattle.run_inputs.specs.ConfigurationFile.{ConfigurationStarts}
use Rattle.run_inputs.specs.ScriptFile.{script_of_file, with_script}
use Rattle.run_inputs.specs.QueueFile.{queue_of_file, with_file}

abbrev pub PlanBegins : List ℕ → Result Known Fault → Type 0
PlanBegins bytes r = r ≡ begun_by (plan_of_file bytes)

abbrev pub ScriptGives : Known → List ℕ → Result Known Fault → Type 0
ScriptGives s bytes r = r ≡ with_script s (script_of_file bytes)

abbrev pub CapsulesGive : FileNo → Known → List ℕ → Result Known Fault → Type 0
CapsulesGive file s bytes r = r ≡ with_file s (queue_of_file file s.input s.output bytes)

abbrev pub KindGives : Kind → FileNo → Known → List ℕ → Result Known Fault → Type 0
KindGives TheConfiguration file s bytes r = ConfigurationStarts s bytes r
KindGives TheScript file s bytes r = ScriptGives s bytes r
KindGives TheCapsules file s bytes r = CapsulesGive file s bytes r

abbrev pub FileGives : InputFile → Known → List ℕ → Result Known Fault → Type 0
FileGives file s bytes r = KindGives file.kind file.number s bytes r
