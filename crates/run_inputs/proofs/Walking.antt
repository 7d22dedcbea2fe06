-- Files read one after another: fronts, and what comes after them.
use Rattle.std.proofs.Common.{◌≡◌, ℕ, List, [], ◌∷◌, ◌++◌, map, Result, Ok, Err, refl, sym, subst, inl, inr}
use Rattle.plan_files.specs.declared.items.Plan.{Plan}
use Rattle.run_transcript.specs.declared.scripts.ScriptEdit.{ScriptEdit}
use Rattle.run_transcript.specs.declared.capsule_files.CapsuleFile.{CapsuleFile}
use Rattle.tree_target.specs.Kept.{Kept}
use Rattle.tree_target.specs.Model.{Target}
use Rattle.run_outcomes.specs.declared.numbers.FileNo.{FileNo}
use Rattle.run_outcomes.specs.declared.numbers.TheConstants.{PLAN}
use Rattle.run_outcomes.specs.declared.faults.Fault.{Fault}
use Rattle.run_outcomes.specs.declared.faults.Fault.TheVariants as fault
use Rattle.run_outcomes.specs.Outsides.{FilesView}
use Rattle.run_inputs.specs.Gives.{PlanBegins, FileGives}
use Rattle.run_inputs.specs.InputFiles.{InputFile, configuration_files, script_files, capsule_files, input_files}
use Rattle.run_inputs.specs.Known.{Known, begun}
use Rattle.run_inputs.specs.Reading.{WasRead, AllWasRead, Reading, ReadsAll, RestWasRead}
use Rattle.run_inputs.specs.Ready.{Holds, capsules_of_file}
use Rattle.run_inputs.specs.Stages.{ReadOn, StoppedIn, StartsIn, QueuesRead, with_files}
use Rattle.run_inputs.specs.Views.{IsEarlier}
use Rattle.run_inputs.specs.Walk.{Saying, Then, Walk}
use Rattle.run_inputs.proofs.OneFile.{earlier_again, earlier_itself}

-- a step, and the files behind those that were read
then_step : (Says : Saying) (x : InputFile) (xs ys : List InputFile) (s t : Known)
    (r : Result Known Fault)
    → ((v : Known) → Walk Says xs v (Ok t) → Walk Says (xs ++ ys) v r)
    → (u : Result Known Fault) → Says x.number x.name (FileGives x s) u
    → Then u (Walk Says xs) (Ok t) → Walk Says (x ∷ (xs ++ ys)) s r
then_step Says x xs ys s t r more (Ok v) says rest = (Ok v, says, more v rest)
then_step Says x xs ys s t r more (Err f) says rest = absurd cc

pub walk_then : (Says : Saying) (xs ys : List InputFile) (s t : Known) (r : Result Known Fault)
    → Walk Says xs s (Ok t) → Walk Says ys t r → Walk Says (xs ++ ys) s r
walk_then Says [] ys s t r h k =
    let e : t ≡ s = cc in
    subst (λ (x : Known). Walk Says ys x r) e k
walk_then Says (x ∷ xs) ys s t r h k = then_step Says x xs ys s t r
    (λ v rest. walk_then Says xs ys v t r rest k) h.0 h.1 h.2

-- nothing is read behind a fault
stop_step : (Says : Saying) (x : InputFile) (xs ys : List InputFile) (s : Known) (f : Fault)
    → ((v : Known) → Walk Says xs v (Err f) → Walk Says (xs ++ ys) v (Err f))
    → (u : Result Known Fault) → Says x.number x.name (FileGives x s) u
    → Then u (Walk Says xs) (Err f) → Walk Says (x ∷ (xs ++ ys)) s (Err f)
stop_step Says x xs ys s f more (Ok v) says rest = (Ok v, says, more v rest)
stop_step Says x xs ys s f more (Err e) says rest = (Err e, says, rest)

pub walk_stops : (Says : Saying) (xs ys : List InputFile) (s : Known) (f : Fault)
    → Walk Says xs s (Err f) → Walk Says (xs ++ ys) s (Err f)
walk_stops Says [] ys s f h = absurd cc
walk_stops Says (x ∷ xs) ys s f h = stop_step Says x xs ys s f
    (λ v rest. walk_stops Says xs ys v f rest) h.0 h.1 h.2

-- ---- what was read

was_step : (before after : FilesView) (x : InputFile) (xs : List InputFile) (s t : Known)
    → ((v : Known) → Walk (Reading before after) xs v (Ok t)
    → Walk (WasRead before.told) xs v (Ok t))
    → (u : Result Known Fault) → Reading before after x.number x.name (FileGives x s) u
    → Then u (Walk (Reading before after) xs) (Ok t) → Walk (WasRead before.told) (x ∷ xs) s (Ok t)
was_step before after x xs s t more (Ok v) says rest = (Ok v, says, more v rest)
was_step before after x xs s t more (Err f) says rest = absurd cc

-- where reading did not end by a fault, all was read
pub walk_was : (before after : FilesView) (files : List InputFile) (s t : Known)
    → Walk (Reading before after) files s (Ok t) → Walk (WasRead before.told) files s (Ok t)
walk_was before after [] s t h = h
walk_was before after (x ∷ xs) s t h = was_step before after x xs s t
    (λ v rest. walk_was before after xs v t rest) h.0 h.1 h.2

-- ---- stages
pub read_both : (now mid : FilesView) (xs ys : List InputFile) (s t u : Known) → IsEarlier now mid
    → ReadOn now xs s t → ReadOn mid ys t u → ReadOn now (xs ++ ys) s u
read_both now mid xs ys s t u later first second before after e =
    walk_then (Reading before after) xs ys s t (Ok u) (first before after e)
    (second before after (earlier_again before now mid e later))

pub stop_first : (now after : FilesView) (xs ys : List InputFile) (s : Known) (f : Fault)
    → StoppedIn now after xs s f → StoppedIn now after (xs ++ ys) s f
stop_first now after xs ys s f h = elim h [
  | inl memory ↦ inl memory
  | inr stops ↦ inr (λ before e. walk_stops (Reading before after) xs ys s f (stops before e))
]

pub stop_second : (now mid after : FilesView) (xs ys : List InputFile) (s t : Known) (f : Fault)
    → IsEarlier now mid → ReadOn now xs s t → StoppedIn mid after ys t f
    → StoppedIn now after (xs ++ ys) s f
stop_second now mid after xs ys s t f later first h = elim h [
  | inl memory ↦ inl memory
  | inr stops ↦
      inr (λ before e. walk_then (Reading before after) xs ys s t (Err f) (first before after e)
      (stops before (earlier_again before now mid e later)))
]

-- ---- the files of a plan

-- what is known after the configuration, and after the script
abbrev with_start : Plan → Target → ℕ → Known
with_start plan start count = record (begun plan) { start = start; passed_over = count }

abbrev with_edits : Plan → Target → ℕ → List ScriptEdit → Known
with_edits plan start count edits = record (with_start plan start count) { script = edits }

abbrev ReadsScript : FilesView → Plan → List ScriptEdit → Type 0
ReadsScript now plan edits = (s : Known)
    → ReadOn now (script_files plan.script) (record s { script = [] }) (record s { script = edits })

abbrev StopsScript : FilesView → FilesView → Plan → Fault → Type 0
StopsScript now after plan f = (s : Known) → StoppedIn now after (script_files plan.script) s f

abbrev StopsQueues : FilesView → FilesView → Plan → Fault → Type 0
StopsQueues now after plan f = (s : Known)
    → StoppedIn now after (capsule_files 1 plan.queues) (with_files s [] 0 0) f

pub plan_start_stops : (now after : FilesView) (plan : Plan) (f : Fault)
    → StoppedIn now after (configuration_files plan.config) (begun plan) f
    → StoppedIn now after (input_files plan) (begun plan) f
plan_start_stops now after plan f h = stop_first now after (configuration_files plan.config)
    (script_files plan.script ++ capsule_files 1 plan.queues) (begun plan) f h

pub plan_script_stops : (now mid after : FilesView) (plan : Plan) (target : Kept) (count : ℕ)
    (f : Fault) → IsEarlier now mid
    → StartsIn now (configuration_files plan.config) (begun plan) target count
    → StopsScript mid after plan f → StoppedIn now after (input_files plan) (begun plan) f
plan_script_stops now mid after plan target count f later start h =
    stop_second now mid after (configuration_files plan.config)
    (script_files plan.script ++ capsule_files 1 plan.queues) (begun plan)
    (with_start plan start.start count) f later start.read
    (stop_first mid after (script_files plan.script) (capsule_files 1 plan.queues)
    (with_start plan start.start count) f (h (with_start plan start.start count)))

pub plan_queues_stop : (now mid last after : FilesView) (plan : Plan) (target : Kept) (count : ℕ)
    (edits : List ScriptEdit) (f : Fault) → IsEarlier now mid → IsEarlier mid last
    → StartsIn now (configuration_files plan.config) (begun plan) target count
    → ReadsScript mid plan edits → StopsQueues last after plan f
    → StoppedIn now after (input_files plan) (begun plan) f
plan_queues_stop now mid last after plan target count edits f later then start script h =
    stop_second now mid after (configuration_files plan.config)
    (script_files plan.script ++ capsule_files 1 plan.queues) (begun plan)
    (with_start plan start.start count) f later start.read
    (stop_second mid last after (script_files plan.script) (capsule_files 1 plan.queues)
    (with_start plan start.start count) (with_edits plan start.start count edits) f then
    (script (with_start plan start.start count)) (h (with_edits plan start.start count edits)))

pub rest_was : (now : FilesView) (plan : Plan) (known : Known)
    → ReadOn now (input_files plan) (begun plan) known → RestWasRead now.told plan known
rest_was now plan known h = walk_was now now (input_files plan) (begun plan) known
    (h now now (earlier_itself now))

-- all of them were read
pub record AllRead (now : FilesView) (plan : Plan) (target : Kept) (count : ℕ)
    (edits : List ScriptEdit) (files : List CapsuleFile) : Type 0 where
  pub known : Known
  pub plan_is : known.plan ≡ plan
  pub holds : Holds target count edits files known
  pub read : ReadOn now (input_files plan) (begun plan) known

pub plan_reads_all : (now mid last : FilesView) (plan : Plan) (target : Kept) (count : ℕ)
    (edits : List ScriptEdit) (files : List CapsuleFile) → IsEarlier now mid → IsEarlier mid last
    → StartsIn now (configuration_files plan.config) (begun plan) target count
    → ReadsScript mid plan edits → QueuesRead last plan.queues (map capsules_of_file files)
    → AllRead now plan target count edits files
plan_reads_all now mid last plan target count edits files later then start script queues =
    let known : Known = with_files (with_edits plan start.start count edits)
    (map capsules_of_file files) queues.input queues.output in
    record {
      known = known;
      plan_is = refl;
      holds = record {
        stands = start.stands;
        passed_over_is = refl;
        script_is = refl;
        files_are = refl;
      };
      read = read_both now mid (configuration_files plan.config)
          (script_files plan.script ++ capsule_files 1 plan.queues) (begun plan)
          (with_start plan start.start count) known later start.read
          (read_both mid last (script_files plan.script) (capsule_files 1 plan.queues)
          (with_start plan start.start count) (with_edits plan start.start count edits) known then
          (script (with_start plan start.start count))
          (queues.read (with_edits plan start.start count edits)));
    }

-- ---- a walk in which all was read
-- is one that ends well
pub reads_walk : (before after : FilesView) (files : List InputFile) (s t : Known)
    → Walk (WasRead before.told) files s (Ok t) → Walk (Reading before after) files s (Ok t)
reads_walk before after [] s t w = w
reads_walk before after (file ∷ files) s t w =
    by w.0 w.1 w.2 (λ v rest. reads_walk before after files v t rest) where
      by : (u : Result Known Fault) → WasRead before.told file.number file.name (FileGives file s) u
          → Then u (Walk (WasRead before.told) files) (Ok t)
          → ((v : Known) → Walk (WasRead before.told) files v (Ok t)
          → Walk (Reading before after) files v (Ok t))
          → Walk (Reading before after) (file ∷ files) s (Ok t)
      by (Ok v) says rest more = (Ok v, says, more v rest)
      by (Err f) says rest more = absurd cc

pub reads_all : (before after : FilesView) (name : List ℕ) (s : Known)
    → AllWasRead before.told name s → ReadsAll before after name (Ok s)
reads_all before after name s w = by w.0 w.1 w.2 where
  by : (u : Result Known Fault) → WasRead before.told PLAN name PlanBegins u
      → Then u (λ v. Walk (WasRead before.told) (input_files v.plan) v) (Ok s)
      → ReadsAll before after name (Ok s)
  by (Ok v) says rest = (Ok v, says, reads_walk before after (input_files v.plan) v s rest)
  by (Err f) says rest = absurd cc

-- a write is no reason why reading ends
pub walk_no_write : (before after : FilesView) (files : List InputFile) (s : Known) (n : FileNo)
    → Walk (Reading before after) files s (Err (fault.WriteFault n)) → ⊥
walk_no_write before after [] s n w = absurd cc
walk_no_write before after (file ∷ files) s n w =
    by w.0 w.1 w.2 (λ v rest. walk_no_write before after files v n rest) where
      by : (u : Result Known Fault) → Reading before after file.number file.name (FileGives file s) u
          → Then u (Walk (Reading before after) files) (Err (fault.WriteFault n))
          → ((v : Known) → Walk (Reading before after) files v (Err (fault.WriteFault n)) → ⊥) → ⊥
      by (Ok v) says rest more = more v rest
      by (Err f) says rest more = subst (λ (x : Result Known Fault). Reading before after file.number
          file.name (FileGives file s) x) (sym rest) says
