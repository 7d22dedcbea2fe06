-- The files of a run, by their numbers.
use Rattle.std.specs.Prelude.{ℕ, ◌+◌, ◌==◌, if◌then◌else◌, List, [], ◌∷◌, ◌++◌, Option, Some, None}
use Rattle.plan_files.specs.declared.items.Plan.{Plan}
use Rattle.plan_files.specs.declared.items.QueueLine.{QueueLine}
use Rattle.run_outcomes.specs.declared.numbers.FileNo.{FileNo}
use Rattle.run_outcomes.specs.declared.numbers.TheConstants.{CONFIG, SCRIPT, JOURNAL}
use Rattle.run_outcomes.specs.Numbers.{capsules_no, responses_no}

-- what is read of a file that a plan names
pub data Kind : Type 0 where
  TheConfiguration : Kind
  TheScript : Kind
  TheCapsules : Kind

pub record InputFile : Type 0 where
  pub number : FileNo
  pub name : List ℕ
  pub kind : Kind

abbrev pub configuration_files : Option (List ℕ) → List InputFile
configuration_files None = []
configuration_files (Some name) =
    (record { number = CONFIG; name = name; kind = TheConfiguration }) ∷ []

abbrev pub script_files : Option (List ℕ) → List InputFile
script_files None = []
script_files (Some name) = (record { number = SCRIPT; name = name; kind = TheScript }) ∷ []

abbrev pub capsule_file : ℕ → QueueLine → InputFile
capsule_file q line = record {
  number = capsules_no q;
  name = line.capsules;
  kind = TheCapsules;
}

-- of the queues q, q + 1, ..
abbrev pub capsule_files : ℕ → List QueueLine → List InputFile
capsule_files q [] = []
capsule_files q (line ∷ lines) = capsule_file q line ∷ capsule_files (q + 1) lines

-- the files that are read after the plan, in this order
abbrev pub input_files : Plan → List InputFile
input_files plan = configuration_files plan.config ++ (script_files plan.script
    ++ capsule_files 1 plan.queues)

-- ---- names
abbrev pub name_or : Option (List ℕ) → List ℕ → List ℕ
name_or None name = name
name_or (Some n) name = n

abbrev pub queue_name : ℕ → List QueueLine → ℕ → List ℕ → List ℕ
queue_name q [] n name = name
queue_name q (line ∷ lines) n name =
    if n == (capsules_no q).0 then line.capsules else (if n == (responses_no q).0 then
    line.responses else queue_name (q + 1) lines n name)

-- the name of a file of the plan of this name, by its number
unfoldable pub name_of : List ℕ → Plan → FileNo → List ℕ
name_of name plan n =
    if n.0 == CONFIG.0 then name_or plan.config name else
    (if n.0 == SCRIPT.0 then name_or plan.script name else
    (if n.0 == JOURNAL.0 then name_or plan.journal name else queue_name 1 plan.queues n.0 name))
