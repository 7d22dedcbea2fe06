-- How a check ends.
use Rattle.std.specs.Prelude.{◌≡◌, ◌⊎◌, ℕ, List, Result, Ok, Err}
use Rattle.run_outcomes.specs.declared.faults.Fault.TheVariants as fault
use Rattle.run_outcomes.specs.declared.numbers.TheConstants.{SINK}
use Rattle.run_outcomes.specs.Outsides.{Outside, SinkView, Took, Said, FailedPut}
use Rattle.run_verdicts.specs.declared.verdict.Verdict.{Verdict}
use Rattle.run_verdicts.specs.declared.verdict.Verdict.TheVariants as verdict
use Rattle.run_check.specs.declared.check.CheckFault.{CheckFault}
use Rattle.run_check.specs.declared.check.CheckFault.TheVariants as ends
use Rattle.run_check.specs.Checked.{IsLegalFile, HasFirstFault}
use Rattle.run_check.specs.Refusals.{Refusal}
use Rattle.run_check.specs.Texts.{legal_line, not_legal_line}

-- the answer is this one, or want of memory
abbrev pub Answers : CheckFault → Result (Unit {0}) CheckFault → Type 0
Answers e (Ok u) = ⊥
Answers e (Err d) = (d ≡ e) ⊎ (d ≡ ends.Stopped fault.Memory)

-- what stands after a check of the plan of this name that ended so
abbrev pub Ends : Outside → Outside → List ℕ → Result (Unit {0}) CheckFault → Type 0
Ends before after name (Ok u) = IsLegalFile before.files.told after.files.told before.sink.taken
    after.sink.taken name
Ends before after name (Err (ends.Stopped f)) = Refusal before after name f
Ends before after name (Err (ends.NotLegal place field)) =
    HasFirstFault before after name place field

-- a verdict's line was put
abbrev pub PutsVerdict : Verdict → SinkView → SinkView → Result (Unit {0}) CheckFault → Type 0
PutsVerdict (verdict.Legal places) before after (Ok u) =
    Took before.taken after.taken (legal_line places)
PutsVerdict (verdict.Legal places) before after (Err (ends.Stopped f)) =
    (f ≡ fault.WriteFault SINK) × FailedPut before after (legal_line places)
PutsVerdict (verdict.Legal places) before after (Err (ends.NotLegal p f)) = ⊥
PutsVerdict (verdict.NotLegal place field) before after (Ok u) = ⊥
PutsVerdict (verdict.NotLegal place field) before after (Err (ends.Stopped f)) = ⊥
PutsVerdict (verdict.NotLegal place field) before after (Err (ends.NotLegal p f)) = (p ≡ place)
    × (f ≡ field) × Said before after (not_legal_line place field)
