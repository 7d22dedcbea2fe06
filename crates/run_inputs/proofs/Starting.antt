-- What the bytes of a configuration give, and the start of a simple plan.
use Rattle.std.proofs.Common.{◌≡◌, ◌≤◌, ℕ, List, length, Option, Some, None, Result, Ok, Err, refl, inl, inr}
use Rattle.std.specs.Prelude.{IfOk, IfErr}
use Rattle.nvmetcli_json.specs.declared.error.JsonError.{JsonError}
use Rattle.nvmetcli_json.specs.declared.error.JsonError.TheVariants as errors
use Rattle.nvmetcli_json.specs.declared.loading.Loaded as config
use Rattle.nvmetcli_json.specs.Loaded.{LoadGives, IsLoaded}
use Rattle.plan_files.specs.declared.items.Plan.{Plan}
use Rattle.tree_target.specs.Kept.{Kept}
use Rattle.tree_target.specs.Loads.{LoadsWell, loaded, loaded_target}
use Rattle.tree_target.specs.Stands.{StandsFor}
use Rattle.run_outcomes.specs.declared.numbers.TheConstants.{CONFIG}
use Rattle.run_outcomes.specs.declared.faults.Fault.{Fault}
use Rattle.run_outcomes.specs.declared.faults.Fault.TheVariants as fault
use Rattle.run_outcomes.specs.Outsides.{FilesView, HoldsOf}
use Rattle.run_inputs.specs.declared.configuration_file.Start.{Start}
use Rattle.run_inputs.specs.ConfigurationFile.{json_error, value_started, TextStarts, ConfigurationStarts}
use Rattle.run_inputs.specs.InputFiles.{InputFile, TheConfiguration, configuration_files}
use Rattle.run_inputs.specs.Known.{Known, begun, ports_of}
use Rattle.run_inputs.specs.Stages.{ContentRefused, EditsRefused, GivesFault, StartsText, StartsIn, StoppedIn}
use Rattle.run_inputs.proofs.OneFile.{holds_then, within, over, IsLimited, content_stops, bytes_stop}
use Rattle.run_inputs.proofs.Parsing.{stop_here}

-- ---- texts

-- a text that is no JSON, or has a misshapen member
pub json_stops : (s : Known) (bytes : List ℕ) (e : JsonError) → LoadGives bytes (Err e)
    → GivesFault (TextStarts s bytes) (json_error e)
unfolding value_started
json_stops s bytes errors.NotJson h = inl (h, refl)
json_stops s bytes (errors.Shape at) h = inr (h.value, h.json, rw h.fault refl)
json_stops s bytes errors.Memory h = tt

-- an edit that is refused
pub edits_stop : (s : Known) (plan : Plan) (bytes : List ℕ) (l : config.Loaded) (f : Fault)
    → IsLoaded bytes l → s.plan ≡ plan → EditsRefused (loaded plan.disks l.edits) f
    → GivesFault (TextStarts s bytes) f
unfolding value_started
edits_stop s plan bytes l (fault.Malformed n place) is e h = absurd h
edits_stop s plan bytes l (fault.Limit n what count) is e h = absurd h
edits_stop s plan bytes l (fault.ConfigRefused n errno) is e h =
    inr (is.value, is.json, rw (is.edits, e, h) refl)
edits_stop s plan bytes l (fault.ReadFault n) is e h = absurd h
edits_stop s plan bytes l (fault.WriteFault n) is e h = absurd h
edits_stop s plan bytes l fault.Memory is e h = tt

-- a target that was loaded
pub text_starts : (s : Known) (plan : Plan) (bytes : List ℕ) (l : config.Loaded) (k : Kept)
    → IsLoaded bytes l → s.plan ≡ plan
    → LoadsWell (loaded plan.disks l.edits) plan.disks (ports_of plan.queues) k
    → StartsText s bytes k l.passed_over
unfolding value_started
text_starts s plan bytes l k is e h = record {
  start = loaded_target h.tree plan.disks (ports_of plan.queues);
  stands = h.stands;
  is = inr (is.value, is.json, rw (is.edits, e, h.loaded, is.passed_over) refl);
}

-- ---- files

config_limited : (s : Known) → IsLimited 4194304 CONFIG (ConfigurationStarts s)
config_limited s bytes lt = rw (over 4194304 CONFIG bytes lt) refl

content_starts : (s : Known) (bytes : List ℕ) (r : Result Known Fault) → length bytes ≤ 4194304
    → TextStarts s bytes r → ConfigurationStarts s bytes r
content_starts s bytes r le h = rw (within 4194304 CONFIG bytes le) h

content_fails : (s : Known) (bytes : List ℕ) (f : Fault) → length bytes ≤ 4194304
    → GivesFault (TextStarts s bytes) f → GivesFault (ConfigurationStarts s bytes) f
content_fails s bytes (fault.Malformed n place) le h =
    content_starts s bytes (Err (fault.Malformed n place)) le h
content_fails s bytes (fault.Limit n what count) le h =
    content_starts s bytes (Err (fault.Limit n what count)) le h
content_fails s bytes (fault.ConfigRefused n errno) le h =
    content_starts s bytes (Err (fault.ConfigRefused n errno)) le h
content_fails s bytes (fault.ReadFault n) le h = h
content_fails s bytes (fault.WriteFault n) le h = h
content_fails s bytes fault.Memory le h = h

abbrev config_here : List ℕ → InputFile
config_here name = record { number = CONFIG; name = name; kind = TheConfiguration }

pub config_reads : (plan : Plan) (now : FilesView) (name bytes : List ℕ) (r : Result Start Fault)
    → HoldsOf now.told name bytes → length bytes ≤ 4194304
    → IfOk r (λ t. (s : Known) → s.plan ≡ plan → StartsText s bytes t.target t.passed_over)
    → IfOk r (λ t. StartsIn now (configuration_files (Some name)) (begun plan) t.target
    t.passed_over)
config_reads plan now name bytes (Ok t) held le h =
    let st = h (begun plan) refl in
    let u : Known = record (begun plan) { start = st.start; passed_over = t.passed_over } in
    record {
      start = st.start;
      stands = st.stands;
      read = λ before after e. (
        Ok u,
        record {
          bytes = bytes;
          held = holds_then before now name bytes e held;
          is = content_starts (begun plan) bytes (Ok u) le st.is;
        },
        refl,
      );
    }
config_reads plan now name bytes (Err f) held le h = tt

pub config_stops : (plan : Plan) (now after : FilesView) (name bytes : List ℕ)
    (r : Result Start Fault) → HoldsOf now.told name bytes → length bytes ≤ 4194304
    → IfErr r (λ f. (s : Known) → s.plan ≡ plan → GivesFault (TextStarts s bytes) f)
    → IfErr r (λ f. StoppedIn now after (configuration_files (Some name)) (begun plan) f)
config_stops plan now after name bytes (Ok t) held le h = tt
config_stops plan now after name bytes (Err f) held le h =
    stop_here now after (config_here name) (begun plan) f
    (bytes_stop now after CONFIG name bytes (ConfigurationStarts (begun plan)) f held
    (content_fails (begun plan) bytes f le (h (begun plan) refl)))

pub no_config : (plan : Plan) (now after : FilesView) (name : List ℕ) (f : Fault)
    → ContentRefused 4194304 CONFIG name now after f
    → StoppedIn now after (configuration_files (Some name)) (begun plan) f
no_config plan now after name f h = stop_here now after (config_here name) (begun plan) f
    (content_stops 4194304 now after CONFIG name (ConfigurationStarts (begun plan)) f
    (config_limited (begun plan)) h)

-- ---- the start of a simple plan

pub simple_starts : (plan : Plan) (now : FilesView) (name : Option (List ℕ))
    (r : Result Start Fault) → name ≡ None
    → IfOk r (λ t. StandsFor t.target (begun plan).start) → IfOk r (λ t. t.passed_over ≡ 0)
    → IfOk r (λ t. StartsIn now (configuration_files name) (begun plan) t.target t.passed_over)
simple_starts plan now name (Ok t) e stands none = rw e (record {
  start = (begun plan).start;
  stands = stands;
  read = λ before after earlier. rw none refl;
})
simple_starts plan now name (Err f) e stands none = tt

pub simple_stops : (plan : Plan) (now after : FilesView) (name : Option (List ℕ))
    (r : Result Start Fault) → IfErr r (λ f. f ≡ fault.Memory)
    → IfErr r (λ f. StoppedIn now after (configuration_files name) (begun plan) f)
simple_stops plan now after name (Ok t) h = tt
simple_stops plan now after name (Err f) h = inl h
