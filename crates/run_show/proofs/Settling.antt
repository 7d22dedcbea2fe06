-- What a told plan and configuration give settles what is read of them.
use Rattle.std.proofs.Common.{◌≡◌, ◌⊎◌, ℕ, List, Some, None, Result, Ok, Err, refl, inl, inr}
use Rattle.run_outside.specs.Outside.{Rose}
use Rattle.run_outcomes.specs.declared.numbers.TheConstants.{PLAN}
use Rattle.run_outcomes.specs.declared.faults.Fault.{Fault}
use Rattle.run_outcomes.specs.declared.faults.Fault.TheVariants as fault
use Rattle.run_outcomes.specs.Outsides.{FilesView, Outside}
use Rattle.run_inputs.specs.Gives.{PlanBegins}
use Rattle.run_inputs.specs.InputFiles.{configuration_files}
use Rattle.run_inputs.specs.Known.{Known, begun}
use Rattle.run_inputs.specs.Reading.{WasRead, Reading, Tells}
use Rattle.run_inputs.specs.Walk.{Then, Walk}
use Rattle.run_inputs.proofs.Walking.{reads_walk}
use Rattle.run_inputs.proofs.Settling.{IsSettled, one_settles, then_settles, walk_settles, plan_same}
use Rattle.run_show.specs.Starts.{ReadsStart, StartWasRead, StartTells}
use Rattle.run_show.specs.Refusals.{StopsStart, ShowRefusal}

-- the plan, and then its configuration
start_settles : (before after : FilesView) (name : List ℕ) (q r : Result Known Fault)
    → ReadsStart before after name q → StartTells before.told name r
    → (Rose before.faults after.faults → ⊥) → IsSettled q r
start_settles before after name q r h k quiet =
    then_settles (λ s. Walk (Reading before after) (configuration_files s.plan.config) s)
    (λ s. Walk (Tells before.told) (configuration_files s.plan.config) s) h.0 k.0 q r
    (λ s a b. walk_settles before after (configuration_files s.plan.config) s q r quiet a b)
    (one_settles before after PLAN name PlanBegins h.0 k.0 plan_same quiet h.1 k.1) h.2 k.2

-- ---- answers

-- what was read is no fault
reads_start : (before after : FilesView) (name : List ℕ) (s : Known)
    → StartWasRead before.told name s → ReadsStart before after name (Ok s)
reads_start before after name s w = by w.0 w.1 w.2 where
  by : (u : Result Known Fault) → WasRead before.told PLAN name PlanBegins u
      → Then u (λ v. Walk (WasRead before.told) (configuration_files v.plan.config) v) (Ok s)
      → ReadsStart before after name (Ok s)
  by (Ok v) says rest = (
    Ok v,
    says,
    reads_walk before after (configuration_files v.plan.config) v s
        rest,
  )
  by (Err f) says rest = absurd cc

stops_start : (before after : FilesView) (name : List ℕ) (plan : _) (f : Fault)
    → StopsStart before after name plan f → ReadsStart before after name (Err f)
stops_start before after name None f r = (Err f, r, refl)
stops_start before after name (Some plan) f r = (Ok (begun plan), r.0, r.1)

-- a start that was read has no first fault
pub none_but_fault : (before after : FilesView) (name : List ℕ) (s : Known) (f : Fault)
    → StartWasRead before.told name s → StartTells before.told name (Err f)
    → (Rose before.faults after.faults → ⊥) → ⊥
none_but_fault before after name s f h k quiet =
    elim (start_settles before after name (Ok s) (Err f) (reads_start before after name s h) k quiet) [
      | inl same ↦ absurd cc
      | inr memory ↦ absurd cc
    ]

stop_settles : (before after : FilesView) (name : List ℕ) (plan : _) (e f : Fault)
    → StopsStart before after name plan e → StartTells before.told name (Err f)
    → (Rose before.faults after.faults → ⊥) → (e ≡ f) ⊎ (e ≡ fault.Memory)
stop_settles before after name plan e f h k quiet =
    elim (start_settles before after name (Err e) (Err f) (stops_start before after name plan e h) k
    quiet) [
      | inl same ↦ inl cc
      | inr memory ↦ inr cc
    ]

stop_of_none : (before after : FilesView) (name : List ℕ) (plan : _) (e : Fault) (s : Known)
    → StopsStart before after name plan e → StartTells before.told name (Ok s)
    → (Rose before.faults after.faults → ⊥) → e ≡ fault.Memory
stop_of_none before after name plan e s h k quiet =
    elim (start_settles before after name (Err e) (Ok s) (stops_start before after name plan e h) k
    quiet) [
      | inl same ↦ absurd cc
      | inr memory ↦ cc
    ]

-- where told files have a first fault
pub exact_fault : (before after : Outside) (name : List ℕ) (e f : Fault)
    → ShowRefusal before after name e → StartTells before.files.told name (Err f)
    → (Rose before.files.faults after.files.faults → ⊥) → (e ≡ f) ⊎ (e ≡ fault.Memory)
exact_fault before after name (fault.Malformed n place) f r tells quiet =
    stop_settles before.files after.files name r.plan (fault.Malformed n place) f r.cause tells quiet
exact_fault before after name (fault.Limit n what count) f r tells quiet =
    stop_settles before.files after.files name r.plan (fault.Limit n what count) f r.cause tells quiet
exact_fault before after name (fault.ReadFault n) f r tells quiet =
    stop_settles before.files after.files name r.plan (fault.ReadFault n) f r.cause tells quiet
exact_fault before after name (fault.ConfigRefused n errno) f r tells quiet =
    stop_settles before.files after.files name r.plan (fault.ConfigRefused n errno) f r.cause tells
    quiet
exact_fault before after name (fault.WriteFault n) f r tells quiet = absurd (none_but_fault
    before.files after.files name r.1.known f r.1.was_read tells quiet)
exact_fault before after name fault.Memory f r tells quiet = inr refl

-- where told files have none
pub complete_fault : (before after : Outside) (name : List ℕ) (e : Fault) (s : Known)
    → ShowRefusal before after name e → StartTells before.files.told name (Ok s)
    → (Rose before.files.faults after.files.faults → ⊥)
    → (Rose before.sink.faults after.sink.faults → ⊥) → e ≡ fault.Memory
complete_fault before after name (fault.Malformed n place) s r tells quiet calm =
    stop_of_none before.files after.files name r.plan (fault.Malformed n place) s r.cause tells quiet
complete_fault before after name (fault.Limit n what count) s r tells quiet calm =
    stop_of_none before.files after.files name r.plan (fault.Limit n what count) s r.cause tells quiet
complete_fault before after name (fault.ReadFault n) s r tells quiet calm =
    stop_of_none before.files after.files name r.plan (fault.ReadFault n) s r.cause tells quiet
complete_fault before after name (fault.ConfigRefused n errno) s r tells quiet calm =
    stop_of_none before.files after.files name r.plan (fault.ConfigRefused n errno) s r.cause tells
    quiet
complete_fault before after name (fault.WriteFault n) s r tells quiet calm =
    absurd (calm r.1.failed.cause.failed)
complete_fault before after name fault.Memory s r tells quiet calm = refl
