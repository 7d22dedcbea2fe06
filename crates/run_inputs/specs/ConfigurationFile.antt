-- What the bytes of a configuration give.
use Rattle.std.specs.Prelude.{◌≡◌, ◌⊎◌, ℕ, List, Result, Ok, Err}
use Rattle.serde_json.specs.Data.{Data}
use Rattle.nvmetcli_json.specs.declared.error.JsonError.{JsonError}
use Rattle.nvmetcli_json.specs.declared.error.JsonError.TheVariants as errors
use Rattle.nvmetcli_json.specs.Loading.{IsJson, edits_in}
use Rattle.nvmetcli_json.specs.Loaded.{IsNoJson}
use Rattle.nvmetcli_json.specs.Counting.{passed_over, at_most}
use Rattle.link_rules.specs.declared.edits.Edit.{Edit}
use Rattle.tree_target.specs.Loads.{Loaded, RefusedEdit, LoadedTree, loaded, loaded_target}
use Rattle.run_inputs.specs.declared.contents.TheConstants.{MAX_CONFIGURATION_BYTES}
use Rattle.run_outcomes.specs.declared.faults.At.TheVariants as at
use Rattle.run_outcomes.specs.declared.numbers.TheConstants.{CONFIG}
use Rattle.run_outcomes.specs.declared.faults.Fault.{Fault}
use Rattle.run_outcomes.specs.declared.faults.Fault.TheVariants as fault
use Rattle.run_inputs.specs.Contents.{content_of}
use Rattle.run_inputs.specs.Known.{Known, ports_of}

abbrev pub json_error : JsonError → Fault
json_error errors.NotJson = fault.Malformed CONFIG at.Json
json_error (errors.Shape pointer) = fault.Malformed CONFIG (at.Shape pointer)
json_error errors.Memory = fault.Memory

-- the target after loading, or the first refused edit, by its number from 1
abbrev pub started : Known → ℕ → Loaded → Result Known Fault
started s count (RefusedEdit n errno) = Err (fault.ConfigRefused n errno)
started s count (LoadedTree tree) = Ok (record s {
  start = loaded_target tree s.plan.disks (ports_of s.plan.queues);
  passed_over = count;
})

abbrev pub started_by : Known → ℕ → Result (List Edit) JsonError → Result Known Fault
started_by s count (Ok edits) = started s count (loaded s.plan.disks edits)
started_by s count (Err e) = Err (json_error e)

-- what a JSON value gives: its first misshapen member, or what loading its edits gives
unfoldable pub value_started : Known → Data → Result Known Fault
value_started s d = started_by s (at_most (passed_over d)) (edits_in d)

-- what a text gives: it is no JSON, or has a value
abbrev pub TextStarts : Known → List ℕ → Result Known Fault → Type 0
TextStarts s bytes r =
    (IsNoJson bytes × (r ≡ Err (fault.Malformed CONFIG at.Json)))
    ⊎ ((d : Data) × IsJson bytes d × (r ≡ value_started s d))

abbrev pub ContentStarts : Known → Result (List ℕ) Fault → Result Known Fault → Type 0
ContentStarts s (Ok bytes) r = TextStarts s bytes r
ContentStarts s (Err f) r = r ≡ Err f

-- what a file of at most 4 MiB gives
abbrev pub ConfigurationStarts : Known → List ℕ → Result Known Fault → Type 0
ConfigurationStarts s bytes r =
    ContentStarts s (content_of MAX_CONFIGURATION_BYTES CONFIG bytes) r
