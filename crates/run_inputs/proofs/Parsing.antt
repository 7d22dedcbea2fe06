-- What the bytes of each kind of file give.
use Rattle.std.proofs.Common.{◌≡◌, ◌≤◌, ℕ, ◌+◌, List, [], ◌∷◌, length, map, sum, Some, Result, Ok, Err, refl, sym, ap, inr, ◌∙◌}
use Rattle.std.specs.Prelude.{IfOk, IfErr}
use Rattle.std.specs.List.{sum_by}
use Rattle.std.proofs.lemmas.List.Sums.{sum-map}
use Rattle.std.proofs.lemmas.Simd.{map-map}
use Rattle.plan_files.specs.declared.limits.What.TheVariants.{AllInput, AllOutput}
use Rattle.plan_files.specs.declared.items.Plan.{Plan}
use Rattle.plan_files.specs.declared.plan.PlanError.{PlanError}
use Rattle.plan_files.specs.declared.plan.PlanError.TheVariants as plans
use Rattle.plan_files.specs.PlanReading as plan
use Rattle.plan_files.specs.PlanReading.{plan_in}
use Rattle.plan_files.specs.declared.capsules.CapsuleError.{CapsuleError}
use Rattle.plan_files.specs.declared.capsules.CapsuleError.TheVariants as queues
use Rattle.plan_files.specs.declared.capsules.Capsule as code
use Rattle.plan_files.specs.Capsules.{Capsule, capsules_in, capsule_in}
use Rattle.plan_files.specs.CapsuleReading as queue
use Rattle.plan_files.specs.CapsuleReading.{capsules_of}
use Rattle.plan_files.specs.Rooms.{room_of, capsule_room}
use Rattle.script_lines.specs.Reading as lines
use Rattle.script_lines.specs.declared.lines.LineError.{LineError}
use Rattle.script_lines.specs.declared.lines.LineError.TheVariants as line_errors
use Rattle.script_edits.specs.Script.{script_in}
use Rattle.run_transcript.specs.declared.scripts.ScriptEdit.{ScriptEdit}
use Rattle.run_outcomes.specs.declared.numbers.FileNo.{FileNo}
use Rattle.run_outcomes.specs.declared.numbers.TheConstants.{PLAN, SCRIPT}
use Rattle.run_outcomes.specs.declared.faults.Fault.{Fault}
use Rattle.run_outcomes.specs.Outsides.{Told, FilesView, HoldsOf}
use Rattle.run_inputs.specs.Contents.{total_of}
use Rattle.run_inputs.specs.Gives.{PlanBegins, ScriptGives, CapsulesGive, FileGives}
use Rattle.run_inputs.specs.InputFiles.{InputFile, TheScript, script_files}
use Rattle.run_inputs.specs.Known.{Known, begun}
use Rattle.run_inputs.specs.PlanFile as plan_file
use Rattle.run_inputs.specs.PlanFile.{plan_error, plan_of_file, begun_by}
use Rattle.run_inputs.specs.ScriptFile as script_file
use Rattle.run_inputs.specs.ScriptFile.{line_error, script_of_file, with_script}
use Rattle.run_inputs.specs.QueueFile as queue_file
use Rattle.run_inputs.specs.QueueFile.{Counted, capsule_error, counted, counted_in, queue_of_file, room_of_all, with_file}
use Rattle.run_inputs.specs.Reading.{ReadsSo, Reading}
use Rattle.run_inputs.specs.Stages.{ContentRefused, Refuses, Gives, ReadOn, StoppedIn, ReadsQueue}
use Rattle.run_inputs.proofs.OneFile.{holds_then, reading_then, within, over, IsLimited, content_stops, bytes_stop, fault_given, first_refuses, refuses_so}

-- ---- the plan

plan_is : (bytes : List ℕ) → length bytes ≤ 65536
    → plan_of_file bytes ≡ plan_file.or_fault (plan_in bytes)
unfolding plan_of_file
plan_is bytes le = rw (within 65536 PLAN bytes le) refl

pub plan_given : (bytes : List ℕ) (p : Plan) → length bytes ≤ 65536 → plan_in bytes ≡ Ok p
    → plan_of_file bytes ≡ Ok p
plan_given bytes p le h = plan_is bytes le ∙ rw h refl

plan_fails : (bytes : List ℕ) (e : PlanError) → plan.Fails e (plan_in bytes)
    → Refuses (plan_error e) (plan_file.or_fault (plan_in bytes))
plan_fails bytes (plans.BadLine line) h = rw h refl
plan_fails bytes (plans.TooLong what count) h = rw h refl
plan_fails bytes plans.Memory h = tt

pub plan_refused : (bytes : List ℕ) (e : PlanError) → length bytes ≤ 65536
    → plan.Fails e (plan_in bytes) → Refuses (plan_error e) (plan_of_file bytes)
plan_refused bytes e le h = refuses_so (plan_error e) (plan_of_file bytes)
    (plan_file.or_fault (plan_in bytes)) (plan_is bytes le) (plan_fails bytes e h)

pub plan_limited : IsLimited 65536 PLAN PlanBegins
unfolding plan_of_file
plan_limited bytes lt = rw (over 65536 PLAN bytes lt) refl

-- what a plan's bytes gave, of the file
pub plan_reads : (told : Told) (name bytes : List ℕ) (r : Result Plan Fault)
    → HoldsOf told name bytes → Gives (λ p. p) r (plan_of_file bytes)
    → IfOk r (λ p. ReadsSo told name PlanBegins (Ok (begun p)))
plan_reads told name bytes (Ok p) held h = record {
  bytes = bytes;
  held = held;
  is = rw h refl;
}
plan_reads told name bytes (Err f) held h = tt

pub plan_stops : (now after : FilesView) (name bytes : List ℕ) (r : Result Plan Fault)
    → HoldsOf now.told name bytes → Gives (λ p. p) r (plan_of_file bytes)
    → IfErr r (λ f. Reading now after PLAN name PlanBegins (Err f))
plan_stops now after name bytes (Ok p) held h = tt
plan_stops now after name bytes (Err f) held h =
    bytes_stop now after PLAN name bytes PlanBegins f held
    (fault_given begun_by (λ f. refl) (plan_of_file bytes) f h)

-- ---- one file of several

-- reading ends at this file
pub stop_here : (now after : FilesView) (file : InputFile) (s : Known) (f : Fault)
    → Reading now after file.number file.name (FileGives file s) (Err f)
    → StoppedIn now after (file ∷ []) s f
stop_here now after file s f h = inr (λ before e. (
  Err f,
  reading_then before now after file.number file.name (FileGives file s) (Err f) e h,
  refl,
))

-- ---- the script

abbrev script_here : List ℕ → InputFile
script_here name = record { number = SCRIPT; name = name; kind = TheScript }

script_is : (bytes : List ℕ) → length bytes ≤ 4194304
    → script_of_file bytes ≡ script_file.or_fault (script_in bytes)
unfolding script_of_file
script_is bytes le = rw (within 4194304 SCRIPT bytes le) refl

pub script_given : (bytes : List ℕ) (edits : List ScriptEdit) → length bytes ≤ 4194304
    → script_in bytes ≡ Ok edits → script_of_file bytes ≡ Ok edits
script_given bytes edits le h = script_is bytes le ∙ rw h refl

script_fails : (bytes : List ℕ) (e : LineError) → lines.Fails e (script_in bytes)
    → Refuses (line_error e) (script_file.or_fault (script_in bytes))
script_fails bytes (line_errors.BadLine line) h = rw h refl
script_fails bytes (line_errors.TooLong what count) h = rw h refl
script_fails bytes line_errors.Memory h = tt

pub script_refused : (bytes : List ℕ) (e : LineError) → length bytes ≤ 4194304
    → lines.Fails e (script_in bytes) → Refuses (line_error e) (script_of_file bytes)
script_refused bytes e le h = refuses_so (line_error e) (script_of_file bytes)
    (script_file.or_fault (script_in bytes)) (script_is bytes le) (script_fails bytes e h)

script_limited : (s : Known) → IsLimited 4194304 SCRIPT (ScriptGives s)
unfolding script_of_file
script_limited s bytes lt = rw (over 4194304 SCRIPT bytes lt) refl

pub script_reads : {X : Type 0} (view : X → List ScriptEdit) (now : FilesView)
    (name bytes : List ℕ) (r : Result X Fault)
    → HoldsOf now.told name bytes → Gives view r (script_of_file bytes)
    → IfOk r (λ v. (s : Known) → ReadOn now (script_files (Some name)) (record s { script = [] })
    (record s { script = view v }))
script_reads view now name bytes (Ok v) held h = λ s before after e. (
  Ok (record s { script = view v }),
  record { bytes = bytes; held = holds_then before now name bytes e held; is = rw h refl },
  refl,
)
script_reads view now name bytes (Err f) held h = tt

pub script_stops : {X : Type 0} (view : X → List ScriptEdit) (now after : FilesView)
    (name bytes : List ℕ) (r : Result X Fault)
    → HoldsOf now.told name bytes → Gives view r (script_of_file bytes)
    → IfErr r (λ f. (s : Known) → StoppedIn now after (script_files (Some name)) s f)
script_stops view now after name bytes (Ok v) held h = tt
script_stops view now after name bytes (Err f) held h = λ s.
    stop_here now after (script_here name) s f
    (bytes_stop now after SCRIPT name bytes (ScriptGives s) f held
    (fault_given (with_script s) (λ f. refl) (script_of_file bytes) f h))

pub no_script : (now after : FilesView) (name : List ℕ) (f : Fault)
    → ContentRefused 4194304 SCRIPT name now after f
    → (s : Known) → StoppedIn now after (script_files (Some name)) s f
no_script now after name f h s = stop_here now after (script_here name) s f
    (content_stops 4194304 now after SCRIPT name (ScriptGives s) f (script_limited s) h)

-- ---- capsule files

sums : (bytes : List ℕ) (cs : List code.Capsule)
    → room_of_all (capsules_in bytes cs) ≡ room_of (λ c. c.sqe) cs
sums bytes cs =
    let f : Capsule → ℕ = λ c. capsule_room c.entry in
    let e : sum_by f (map (capsule_in bytes) cs) ≡ sum_by (λ c. f (capsule_in bytes c)) cs =
    sym (sum-map f (map (capsule_in bytes) cs)) ∙ ap sum (map-map f (capsule_in bytes) cs)
    ∙ sum-map (λ c. f (capsule_in bytes c)) cs in
    ap (λ n. 160 + n) e

pub capsules_fail : (file : FileNo) (bytes : List ℕ) (e : CapsuleError)
    → queue.Fails e (capsules_of bytes)
    → Refuses (capsule_error file e) (queue_file.or_fault file (capsules_of bytes))
capsules_fail file bytes (queues.Cut offset) h = rw h refl
capsules_fail file bytes (queues.TooLong what count) h = rw h refl
capsules_fail file bytes queues.Memory h = tt

-- the three steps of a file within its limit
pub input_refused : (file : FileNo) (before room len : ℕ) (bytes : List ℕ) (f : Fault)
    → len ≡ length bytes → Refuses f (total_of 536870912 file AllInput (before + len))
    → Refuses f (counted_in file before room bytes)
unfolding counted_in
input_refused file before room len bytes f l h = rw (← l) (first_refuses _ _ f h)

pub capsules_refused : (file : FileNo) (before room len input : ℕ) (bytes : List ℕ) (f : Fault)
    → len ≡ length bytes → total_of 536870912 file AllInput (before + len) ≡ Ok input
    → Refuses f (queue_file.or_fault file (capsules_of bytes))
    → Refuses f (counted_in file before room bytes)
unfolding counted_in
capsules_refused file before room len input bytes f l i h = rw (← l, i) (first_refuses _ _ f h)

pub output_refused : (file : FileNo) (before room len input : ℕ) (bytes : List ℕ)
    (cs : List code.Capsule) (more : ℕ) (f : Fault)
    → len ≡ length bytes → total_of 536870912 file AllInput (before + len) ≡ Ok input
    → queue_file.or_fault file (capsules_of bytes) ≡ Ok (capsules_in bytes cs)
    → more ≡ room_of (λ c. c.sqe) cs
    → Refuses f (total_of 536870912 file AllOutput (room + more))
    → Refuses f (counted_in file before room bytes)
unfolding counted_in
output_refused file before room len input bytes cs more f l i r m h =
    rw (← l, i, r, sums bytes cs, ← m) (first_refuses _ _ f h)

pub all_counted : (file : FileNo) (before room len input output : ℕ) (bytes : List ℕ)
    (cs : List code.Capsule) (more : ℕ)
    → len ≡ length bytes → total_of 536870912 file AllInput (before + len) ≡ Ok input
    → queue_file.or_fault file (capsules_of bytes) ≡ Ok (capsules_in bytes cs)
    → more ≡ room_of (λ c. c.sqe) cs
    → total_of 536870912 file AllOutput (room + more) ≡ Ok output
    → counted_in file before room bytes ≡ Ok (counted (capsules_in bytes cs) input output)
unfolding counted_in
all_counted file before room len input output bytes cs more l i r m o =
    rw (← l, i, r, sums bytes cs, ← m, o) refl

queue_is : (file : FileNo) (before room : ℕ) (bytes : List ℕ) → length bytes ≤ 67108864
    → queue_of_file file before room bytes ≡ counted_in file before room bytes
unfolding queue_of_file
queue_is file before room bytes le = rw (within 67108864 file bytes le) refl

queue_limited : (file : FileNo) (s : Known) → IsLimited 67108864 file (CapsulesGive file s)
unfolding queue_of_file
queue_limited file s bytes lt = rw (over 67108864 file bytes lt) refl

pub queue_reads : {X : Type 0} (view : X → Counted) (told : Told) (file : FileNo)
    (name bytes : List ℕ) (before room : ℕ) (r : Result X Fault)
    → HoldsOf told name bytes → length bytes ≤ 67108864
    → Gives view r (counted_in file before room bytes)
    → IfOk r (λ c. ReadsQueue told file name before room (view c))
queue_reads view told file name bytes before room (Ok c) held le h = λ s i o. record {
  bytes = bytes;
  held = held;
  is = rw (i, o, queue_is file before room bytes le, h) refl;
}
queue_reads view told file name bytes before room (Err f) held le h = tt

pub queue_stops : {X : Type 0} (view : X → Counted) (now after : FilesView) (file : FileNo)
    (name bytes : List ℕ) (before room : ℕ) (r : Result X Fault)
    → HoldsOf now.told name bytes → length bytes ≤ 67108864
    → Gives view r (counted_in file before room bytes)
    → IfErr r (λ f. (s : Known) → s.input ≡ before → s.output ≡ room
    → Reading now after file name (CapsulesGive file s) (Err f))
queue_stops view now after file name bytes before room (Ok c) held le h = tt
queue_stops view now after file name bytes before room (Err f) held le h = λ s i o.
    bytes_stop now after file name bytes (CapsulesGive file s) f held
    (fault_given (with_file s) (λ f. refl) (queue_of_file file s.input s.output bytes) f
    (refuses_so f (queue_of_file file s.input s.output bytes) (counted_in file before room bytes)
    (rw (i, o) (queue_is file before room bytes le)) h))

pub no_queue : (now after : FilesView) (file : FileNo) (name : List ℕ) (before room : ℕ) (f : Fault)
    → ContentRefused 67108864 file name now after f
    → (s : Known) → s.input ≡ before → s.output ≡ room
    → Reading now after file name (CapsulesGive file s) (Err f)
no_queue now after file name before room f h s i o =
    content_stops 67108864 now after file name (CapsulesGive file s) f (queue_limited file s) h
