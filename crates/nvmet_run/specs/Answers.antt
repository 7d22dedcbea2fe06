-- What the answers of each command say.
use Rattle.std.specs.Prelude.{ℕ, List, Ok, Err}
use Rattle.command_words.specs.declared.words.Words.{Words}
use Rattle.command_words.specs.declared.words.Words.TheVariants as words
use Rattle.gen_files.specs.Seeds.{Base}
use Rattle.run_check.specs.Checked.{IsLegalFile, HasFirstFault}
use Rattle.run_check.specs.Finished.{Finished, number_of}
use Rattle.run_check.specs.RecordReading.{BothTell}
use Rattle.run_check.specs.Refusals as check
use Rattle.run_check.specs.ToldRun.{run_of}
use Rattle.run_gen.specs.Generated.{Generated}
use Rattle.run_gen.specs.Refusals as gen
use Rattle.run_inputs.specs.Known.{Known}
use Rattle.run_inputs.specs.Reading.{FilesTell}
use Rattle.run_outcomes.specs.declared.faults.Fault.{Fault}
use Rattle.run_outcomes.specs.Outsides.{Told, Outside}
use Rattle.run_show.specs.Refusals.{ShowRefusal}
use Rattle.run_show.specs.Shown.{Shown}
use Rattle.run_show.specs.Starts.{StartTells}
use Rattle.run_verdicts.specs.declared.verdict.Field.{Field}
use Rattle.run_verdicts.specs.Faults.{IsRight, IsFault}
use Rattle.nvmet_run.specs.Headline.{Ran}
use Rattle.nvmet_run.specs.Refusals.{Refusal}

-- what `gen N NAME` makes a plan from
abbrev pub base_of : ℕ → List ℕ → Base
base_of n name = record { rounds = n; name = name }

-- what a command that ended well has done
abbrev pub EndsWell : Outside → Outside → Words → Type 0
EndsWell before after (words.Run plan) =
    Ran before.files.told after.files.told before.sink.taken after.sink.taken plan
EndsWell before after (words.Check plan) =
    IsLegalFile before.files.told after.files.told before.sink.taken after.sink.taken plan
EndsWell before after (words.Show plan) =
    Shown before.files.told after.files.told before.sink.taken after.sink.taken plan
EndsWell before after (words.Gen n name) =
    Generated before.files.told after.files.told before.sink.taken after.sink.taken (base_of n name)

-- why it ended by this fault, and what it left
abbrev pub EndsBy : Outside → Outside → Words → Fault → Type 0
EndsBy before after (words.Run plan) f = Refusal before after plan f
EndsBy before after (words.Check plan) f = check.Refusal before after plan f
EndsBy before after (words.Show plan) f = ShowRefusal before after plan f
EndsBy before after (words.Gen n name) f = gen.Refusal before after (base_of n name) f

-- why it says that a finished run isn't legal, at this place and in this field; a check alone says so
abbrev pub EndsNotLegal : Outside → Outside → Words → ℕ → Field → Type 0
EndsNotLegal before after (words.Run plan) place field = ⊥
EndsNotLegal before after (words.Check plan) place field =
    HasFirstFault before after plan place field
EndsNotLegal before after (words.Show plan) place field = ⊥
EndsNotLegal before after (words.Gen n name) place field = ⊥

-- told files have this first fault in the order in which the command reads them; generating reads
-- none
abbrev pub TellsFault : Told → Words → Fault → Type 0
TellsFault told (words.Run plan) f = FilesTell told plan (Err f)
TellsFault told (words.Check plan) f = BothTell told plan (Err f)
TellsFault told (words.Show plan) f = StartTells told plan (Err f)
TellsFault told (words.Gen n name) f = ⊥

-- told files have no fault, and what they tell of a finished run has this first one
abbrev pub TellsNotLegal : Told → Words → ℕ → Field → Type 0
TellsNotLegal told (words.Run plan) place field = ⊥
TellsNotLegal told (words.Check plan) place field = (s : Finished) × BothTell told plan (Ok s)
    × IsFault (number_of s) (run_of s) place field
TellsNotLegal told (words.Show plan) place field = ⊥
TellsNotLegal told (words.Gen n name) place field = ⊥

-- told files have no fault, and what they tell of a finished run is right. Of generating nothing is
-- said here: that its files are those of a run isn't proved
abbrev pub TellsNone : Told → Words → Type 0
TellsNone told (words.Run plan) = (s : Known) × FilesTell told plan (Ok s)
TellsNone told (words.Check plan) = (s : Finished) × BothTell told plan (Ok s)
    × IsRight (number_of s) (run_of s)
TellsNone told (words.Show plan) = (s : Known) × StartTells told plan (Ok s)
TellsNone told (words.Gen n name) = ⊥
