-- How a check ends, put together.
use Rattle.std.proofs.Common.{◌≡◌, ℕ, List, [], ◌∷◌, Option, Some, None, Result, Ok, Err, refl, sym, ap, subst, inl, inr}
use Rattle.std.specs.Prelude.{◌⊎◌, IfErr, OnOk}
use Rattle.run_outside.specs.Outside.{Rose}
use Rattle.plan_files.specs.declared.items.Plan.{Plan}
use Rattle.run_outcomes.specs.declared.numbers.FileNo.{FileNo}
use Rattle.run_outcomes.specs.declared.numbers.TheConstants.{PLAN}
use Rattle.run_outcomes.specs.declared.faults.Fault.{Fault}
use Rattle.run_outcomes.specs.declared.faults.Fault.TheVariants as fault
use Rattle.run_outcomes.specs.Numbers.{file_of}
use Rattle.run_outcomes.specs.Outsides.{Told, FilesView, SinkView, Outside, Took, Said, FailedPut}
use Rattle.run_outcomes.specs.Texts.{line_of}
use Rattle.run_inputs.specs.Gives.{PlanBegins}
use Rattle.run_inputs.specs.InputFiles.{input_files, name_of}
use Rattle.run_inputs.specs.Known.{Known, begun}
use Rattle.run_inputs.specs.Reading as inputs
use Rattle.run_inputs.specs.Stages as stages
use Rattle.run_inputs.specs.Ready.{ToldFilesSettle}
use Rattle.run_inputs.specs.Views.{IsEarlier}
use Rattle.run_inputs.proofs.OneFile.{earlier_again, kept_by}
use Rattle.run_inputs.proofs.Walking.{reads_all, walk_no_write}
use Rattle.run_verdicts.specs.declared.verdict.Field.{Field}
use Rattle.run_verdicts.specs.declared.verdict.Verdict.{Verdict}
use Rattle.run_verdicts.specs.declared.verdict.Verdict.TheVariants as verdict
use Rattle.run_verdicts.specs.Faults.{IsRight, IsFault}
use Rattle.run_verdicts.specs.Laws.{OneFault, RightHasNoFault, RightIsTranscript}
use Rattle.plan_files.specs.Capsules.{Capsule}
use Rattle.run_check.specs.declared.records.Records.{Records}
use Rattle.run_check.specs.declared.check.CheckFault.{CheckFault}
use Rattle.run_check.specs.declared.check.CheckFault.TheVariants as ends
use Rattle.run_check.specs.Checked.{IsLegalFile, HasFirstFault}
use Rattle.run_check.specs.Ends.{Answers, Ends, PutsVerdict}
use Rattle.run_check.specs.Finished.{Finished, number_of, unread}
use Rattle.run_check.specs.ToldRun.{finished_of, run_of}
use Rattle.run_check.specs.RecordFiles.{RecordFile, record_files, gives}
use Rattle.run_check.specs.RecordReading.{Then, Walk, Reading, ReadOn, StoppedIn, WasAllRead, ReadsBoth, BothTell}
use Rattle.run_check.specs.Refusals.{Stops, StopsBehind, StopsBy, Unread, Unsaid, Refusal, name_in}
use Rattle.run_check.specs.Texts.{legal_line}
use Rattle.run_check.specs.Verdicts.{IsJudged, WasJudged}
use Rattle.run_check.proofs.Settling.{both_settle}
use Rattle.run_check.proofs.Walking.{walk_was, was_walk}

-- ---- a write is no reason why reading ends
records_no_write : (before after : FilesView) (files : List RecordFile) (s : Finished) (n : FileNo)
    → Walk (Reading before after) files s (Err (fault.WriteFault n)) → ⊥
records_no_write before after [] s n w = absurd cc
records_no_write before after (file ∷ files) s n w =
    by w.0 w.1 w.2 (λ v rest. records_no_write before after files v n rest) where
      by : (u : Result Finished Fault) → Reading before after file.number file.name (gives file s) u
          → Then u (Walk (Reading before after) files) (Err (fault.WriteFault n))
          → ((v : Finished) → Walk (Reading before after) files v (Err (fault.WriteFault n)) → ⊥) → ⊥
      by (Ok v) says rest more = more v rest
      by (Err f) says rest more = subst (λ (x : Result Finished Fault). Reading before after
          file.number file.name (gives file s) x) (sym rest) says

behind_no_write : (before after : FilesView) (plan : Plan) (n : FileNo)
    → StopsBehind before after plan (fault.WriteFault n) → ⊥
behind_no_write before after plan n h = elim h [
  | inl w ↦ walk_no_write before after (input_files plan) (begun plan) n w
  | inr w ↦ records_no_write before after (record_files w.0.plan w.0.files) (unread w.0) n w.2
]

-- ---- what stopped, as an earlier view tells it
pub stopped_since : (now mid after : FilesView) (files : List RecordFile) (s : Finished) (f : Fault)
    → IsEarlier now mid → StoppedIn mid after files s f → StoppedIn now after files s f
stopped_since now mid after files s f e h = elim h [
  | inl memory ↦ inl memory
  | inr stops ↦ inr (λ before b. stops before (earlier_again before now mid b e))
]

-- memory ran out, or reading ended behind the plan
behind : (before now after : FilesView) (plan : Plan) (f : Fault) → IsEarlier before now
    → Stops now after plan f → (f ≡ fault.Memory) ⊎ StopsBehind before after plan f
behind before now after plan f e h = elim h [
  | inl files ↦ elim files [
    | inl memory ↦ inl memory
    | inr stops ↦ inr (inl (stops before e))
  ]
  | inr records ↦ elim records.2 [
    | inl memory ↦ inl memory
    | inr stops ↦ inr (inr (records.0, records.1 before after e, stops before e))
  ]
]

-- ---- after the line of the fault
no_memory : (before after : Outside) (name named : List ℕ) (f : Fault) → f ≡ fault.Memory
    → IsEarlier before.files after.files → Said before.sink after.sink (line_of named f)
    → Refusal before after name f
unfolding line_of
no_memory before after name named f is e said =
    subst (λ (x : Fault). Refusal before after name x) (sym is) (record {
      kept = kept_by before.files after.files e;
      said = subst (λ (x : Fault). Said before.sink after.sink (line_of named x)) is said;
    })

unread_by : (before after : Outside) (name : List ℕ) (plan : Option Plan) (f : Fault)
    → StopsBy before.files after.files name plan f → IsEarlier before.files after.files
    → Said before.sink after.sink (line_of (name_in name plan f) f) → Unread before after name f
unread_by before after name plan f r e said = record {
  plan = plan;
  cause = r;
  kept = kept_by before.files after.files e;
  said = said;
}

-- the plan was not read
pub plan_unread : (before after : Outside) (name : List ℕ) (f : Fault)
    → inputs.Reading before.files after.files PLAN name PlanBegins (Err f)
    → IsEarlier before.files after.files → Said before.sink after.sink (line_of name f)
    → Refusal before after name f
plan_unread before after name (fault.Malformed n place) r e said =
    unread_by before after name None (fault.Malformed n place) r e said
plan_unread before after name (fault.Limit n what count) r e said =
    unread_by before after name None (fault.Limit n what count) r e said
plan_unread before after name (fault.ReadFault n) r e said =
    unread_by before after name None (fault.ReadFault n) r e said
plan_unread before after name (fault.ConfigRefused edit errno) r e said =
    unread_by before after name None (fault.ConfigRefused edit errno) r e said
plan_unread before after name (fault.WriteFault n) r e said = absurd r
plan_unread before after name fault.Memory r e said =
    no_memory before after name name fault.Memory refl e said

-- a file behind it was not read
files_unread : (before after : Outside) (name : List ℕ) (plan : Plan) (f : Fault)
    → inputs.ReadsSo before.files.told name PlanBegins (Ok (begun plan))
    → StopsBehind before.files after.files plan f
    → IsEarlier before.files after.files
    → Said before.sink after.sink (line_of (name_of name plan (file_of f)) f)
    → Refusal before after name f
files_unread before after name plan (fault.Malformed n place) p r e said =
    unread_by before after name (Some plan) (fault.Malformed n place) (p, r) e said
files_unread before after name plan (fault.Limit n what count) p r e said =
    unread_by before after name (Some plan) (fault.Limit n what count) (p, r) e said
files_unread before after name plan (fault.ReadFault n) p r e said =
    unread_by before after name (Some plan) (fault.ReadFault n) (p, r) e said
files_unread before after name plan (fault.ConfigRefused edit errno) p r e said =
    unread_by before after name (Some plan) (fault.ConfigRefused edit errno) (p, r) e said
files_unread before after name plan (fault.WriteFault n) p r e said =
    absurd (behind_no_write before.files after.files plan n r)
files_unread before after name plan fault.Memory p r e said =
    no_memory before after name (name_of name plan (file_of fault.Memory)) fault.Memory refl e said

pub stops_unread : (before after : Outside) (now : FilesView) (name : List ℕ) (plan : Plan)
    (f : Fault) → IsEarlier before.files now → IsEarlier now after.files
    → inputs.ReadsSo before.files.told name PlanBegins (Ok (begun plan))
    → Stops now after.files plan f
    → Said before.sink after.sink (line_of (name_of name plan (file_of f)) f)
    → Ends before after name (Err (ends.Stopped f))
stops_unread before after now name plan f e later p h said =
    let all = earlier_again before.files now after.files e later in
    elim (behind before.files now after.files plan f e h) [
      | inl memory ↦
          no_memory before after name (name_of name plan (file_of f)) f memory all said
      | inr stops ↦ files_unread before after name plan f p stops all said
    ]

-- ---- a verdict
-- its line was put
pub verdict_ends : (before after : Outside) (name : List ℕ) (v : Verdict)
    (r : Result (Unit {0}) CheckFault) → RightIsTranscript → IsEarlier before.files after.files
    → WasJudged before.files.told name v → PutsVerdict v before.sink after.sink r
    → Ends before after name r
verdict_ends before after name (verdict.Legal n) (Ok u) law e h puts =
    let right : IsRight (number_of h.finished) (run_of h.finished) = h.judged.judges.1 in
    record {
      finished = h.finished;
      was_read = h.was_read;
      right = right;
      transcript = law (number_of h.finished) (run_of h.finished) h.judged.laid right;
      kept = kept_by before.files after.files e;
      put = subst (λ (m : ℕ). Took before.sink.taken after.sink.taken (legal_line m))
          h.judged.judges.0 puts;
    }
verdict_ends before after name (verdict.Legal n) (Err (ends.Stopped f)) law e h puts =
    subst (λ (x : Fault). Refusal before after name x) (sym puts.0) (
      refl,
      record {
        finished = h.finished;
        was_read = h.was_read;
        right = h.judged.judges.1;
        kept = kept_by before.files after.files e;
        failed = subst (λ (m : ℕ). FailedPut before.sink after.sink (legal_line m))
            h.judged.judges.0 puts.1;
      },
    )
verdict_ends before after name (verdict.Legal n) (Err (ends.NotLegal p f)) law e h puts = absurd puts
verdict_ends before after name (verdict.NotLegal place f) (Ok u) law e h puts = absurd puts
verdict_ends before after name (verdict.NotLegal place f) (Err (ends.Stopped g)) law e h puts =
    absurd puts
verdict_ends before after name (verdict.NotLegal place f) (Err (ends.NotLegal p g)) law e h puts =
    subst (λ (q : ℕ). HasFirstFault before after name q g) (sym puts.0)
    (subst (λ (x : Field). HasFirstFault before after name place x) (sym puts.1) (record {
      finished = h.finished;
      was_read = h.was_read;
      fault = h.judged.judges;
      kept = kept_by before.files after.files e;
      said = puts.2;
    }))

-- ---- a plan that was read
pub was_judged : (now mid : FilesView) (plan : Plan) (name : List ℕ) (known : Known)
    (files : List (List Capsule)) (r : Records) (v : Verdict)
    → known.plan ≡ plan → known.files ≡ files → IsEarlier now mid
    → inputs.RestWasRead now.told plan known
    → inputs.ReadsSo now.told name PlanBegins (Ok (begun plan))
    → ReadOn mid (record_files plan files) (unread known) (finished_of known r)
    → IsJudged (finished_of known r) v → WasJudged now.told name v
was_judged now mid plan name known files r v same_plan same_files later rest plan_read read judged =
    let all : ReadOn mid (record_files known.plan known.files) (unread known) (finished_of known r) =
    subst (λ (p : Plan). ReadOn mid (record_files p known.files) (unread known) (finished_of known r))
    (sym same_plan)
    (subst (λ (fs : List (List Capsule)).
    ReadOn mid (record_files plan fs) (unread known) (finished_of known r)) (sym same_files) read) in
    record {
      finished = finished_of known r;
      was_read = record {
        known = known;
        inputs = (Ok (begun plan), plan_read, rest);
        records = walk_was now now (record_files known.plan known.files) (unread known)
            (finished_of known r) (all now now later);
      };
      judged = judged;
    }

pub stops_records : (now mid after : FilesView) (plan : Plan) (known : Known)
    (files : List (List Capsule)) (f : Fault)
    → known.plan ≡ plan → known.files ≡ files → IsEarlier now mid
    → stages.ReadOn now (input_files plan) (begun plan) known
    → StoppedIn mid after (record_files plan files) (unread known) f → Stops now after plan f
stops_records now mid after plan known files f same_plan same_files later read stops =
    let here : StoppedIn mid after (record_files known.plan known.files) (unread known) f =
    subst (λ (p : Plan). StoppedIn mid after (record_files p known.files) (unread known) f)
    (sym same_plan)
    (subst (λ (fs : List (List Capsule)).
    StoppedIn mid after (record_files plan fs) (unread known) f) (sym same_files) stops) in
    inr (
      known,
      read,
      stopped_since now mid after (record_files known.plan known.files) (unread known) f later here,
    )

-- ---- the check of a plan that was read
pub verdict_read : (before after : Outside) (now : FilesView) (sink : SinkView) (name : List ℕ)
    (plan : Plan) (v : Verdict) (r : Result (Unit {0}) CheckFault)
    → IsEarlier now after.files
    → ((n : List ℕ) → inputs.ReadsSo now.told n PlanBegins (Ok (begun plan))
    → WasJudged now.told n v)
    → PutsVerdict v sink after.sink r
    → RightIsTranscript → IsEarlier before.files now → before.sink ≡ sink
    → inputs.ReadsSo before.files.told name PlanBegins (Ok (begun plan))
    → Ends before after name r
verdict_read before after now sink name plan v r later judged puts law e same p =
    let here : inputs.ReadsSo now.told name PlanBegins (Ok (begun plan)) =
    subst (λ (t : Told). inputs.ReadsSo t name PlanBegins (Ok (begun plan))) e.told p in
    let was : WasJudged before.files.told name v =
    subst (λ (t : Told). WasJudged t name v) (sym e.told) (judged name here) in
    verdict_ends before after name v r law (earlier_again before.files now after.files e later) was
    (subst (λ (k : SinkView). PutsVerdict v k after.sink r) (sym same) puts)

pub fault_read : (before after : Outside) (now : FilesView) (sink : SinkView) (name : List ℕ)
    (plan : Plan) (f : Fault) → IsEarlier now after.files → Stops now after.files plan f
    → Said sink after.sink (line_of (name_of name plan (file_of f)) f)
    → IsEarlier before.files now → before.sink ≡ sink
    → inputs.ReadsSo before.files.told name PlanBegins (Ok (begun plan))
    → Ends before after name (Err (ends.Stopped f))
fault_read before after now sink name plan f later stops said e same p =
    stops_unread before after now name plan f e later p stops
    (subst (λ (k : SinkView). Said k after.sink (line_of (name_of name plan (file_of f)) f))
    (sym same) said)

-- ---- what told files settle
both_read : (before after : FilesView) (name : List ℕ) (f : Finished)
    → WasAllRead before.told name f → ReadsBoth before after name (Ok f)
both_read before after name f h = (
  Ok h.known,
  reads_all before after name h.known h.inputs,
  was_walk before after (record_files h.known.plan h.known.files) (unread h.known) f h.records,
)

both_stopped : (before after : FilesView) (name : List ℕ) (plan : Option Plan) (f : Fault)
    → StopsBy before after name plan f → ReadsBoth before after name (Err f)
both_stopped before after name None f r = (Err f, (Err f, r, refl), refl)
both_stopped before after name (Some plan) f r = elim r.1 [
  | inl files ↦ (Err f, (Ok (begun plan), r.0, files), refl)
  | inr records ↦ (Ok records.0, (Ok (begun plan), r.0, records.1), records.2)
]

-- the answer where all was read
read_is : (before after : FilesView) (name : List ℕ) (f : Finished) (r : Result Finished Fault)
    → ToldFilesSettle → WasAllRead before.told name f → BothTell before.told name r
    → (Rose before.faults after.faults → ⊥) → ◌≡◌ {A = Result Finished Fault} (Ok f) r
read_is before after name f r law h tells quiet =
    elim (both_settle before after name (Ok f) r law (both_read before after name f h) tells quiet) [
      | inl same ↦ same
      | inr memory ↦ absurd cc
    ]

stop_is : (before after : Outside) (name : List ℕ) (f : Fault) (r : Result Finished Fault)
    → ToldFilesSettle → Unread before after name f → BothTell before.files.told name r
    → (Rose before.files.faults after.files.faults → ⊥)
    → (◌≡◌ {A = Result Finished Fault} (Err f) r) ⊎ (f ≡ fault.Memory)
stop_is before after name f r law h tells quiet =
    elim (both_settle before.files after.files name (Err f) r law
    (both_stopped before.files after.files name h.plan f h.cause) tells quiet) [
      | inl same ↦ inl same
      | inr memory ↦ inr cc
    ]

same_finished : (a b : Finished) → ◌≡◌ {A = Result Finished Fault} (Ok a) (Ok b) → a ≡ b
same_finished a b h = cc

same_fault : (a b : Fault) → ◌≡◌ {A = Result Finished Fault} (Err a) (Err b) → a ≡ b
same_fault a b h = cc

ok_err : (a : Finished) (b : Fault) → ◌≡◌ {A = Result Finished Fault} (Ok a) (Err b) → ⊥
ok_err a b h = absurd cc

err_ok : (a : Fault) (b : Finished) → ◌≡◌ {A = Result Finished Fault} (Err a) (Ok b) → ⊥
err_ok a b h = absurd cc

-- why it stopped: a file that was not read; the sink, where the run was right; or memory
abbrev Why : Outside → Outside → List ℕ → Fault → Type 0
Why before after name f = Unread before after name f
    ⊎ (Unsaid before after name ⊎ (f ≡ fault.Memory))

why : (before after : Outside) (name : List ℕ) (f : Fault) → Refusal before after name f
    → Why before after name f
why before after name (fault.Malformed n place) h = inl h
why before after name (fault.Limit n what count) h = inl h
why before after name (fault.ReadFault n) h = inl h
why before after name (fault.ConfigRefused edit errno) h = inl h
why before after name (fault.WriteFault n) h = inr (inl h.1)
why before after name fault.Memory h = inr (inr refl)

stopped_as : (f g : Fault) → f ≡ g → ◌≡◌ {A = CheckFault} (ends.Stopped f) (ends.Stopped g)
stopped_as f g e = ap (λ (x : Fault). ends.Stopped x) e

-- ---- where told files have a first fault
exact_why : (before after : Outside) (name : List ℕ) (f e : Fault) → ToldFilesSettle
    → Why before after name f → BothTell before.files.told name (Err e)
    → (Rose before.files.faults after.files.faults → ⊥)
    → Answers (ends.Stopped e) (Err (ends.Stopped f))
exact_why before after name f e law h tells quiet = elim h [
  | inl file ↦ elim (stop_is before after name f (Err e) law file tells quiet) [
    | inl same ↦ inl (stopped_as f e (same_fault f e same))
    | inr memory ↦ inr (stopped_as f fault.Memory memory)
  ]
  | inr rest ↦ elim rest [
    | inl sink ↦ absurd (ok_err sink.finished e
        (read_is before.files after.files name sink.finished (Err e) law sink.was_read tells quiet))
    | inr memory ↦ inr (stopped_as f fault.Memory memory)
  ]
]

pub exact_ends : (before after : Outside) (name : List ℕ) (r : Result (Unit {0}) CheckFault)
    (e : Fault) → ToldFilesSettle → Ends before after name r
    → BothTell before.files.told name (Err e)
    → (Rose before.files.faults after.files.faults → ⊥) → Answers (ends.Stopped e) r
exact_ends before after name (Ok u) e law h tells quiet =
    absurd (ok_err h.finished e
    (read_is before.files after.files name h.finished (Err e) law h.was_read tells quiet))
exact_ends before after name (Err (ends.NotLegal place field)) e law h tells quiet =
    absurd (ok_err h.finished e
    (read_is before.files after.files name h.finished (Err e) law h.was_read tells quiet))
exact_ends before after name (Err (ends.Stopped f)) e law h tells quiet =
    exact_why before after name f e law (why before after name f h) tells quiet

-- ---- where they have none, and the run that they tell has a first fault
abbrev HasFault : Finished → ℕ → Field → Type 0
HasFault s place field = IsFault (number_of s) (run_of s) place field

abbrev Right : Finished → Type 0
Right s = IsRight (number_of s) (run_of s)

named_why : (before after : Outside) (name : List ℕ) (f : Fault) (s : Finished) (place : ℕ)
    (field : Field) → ToldFilesSettle → RightHasNoFault
    → Why before after name f → BothTell before.files.told name (Ok s) → HasFault s place field
    → (Rose before.files.faults after.files.faults → ⊥)
    → Answers (ends.NotLegal place field) (Err (ends.Stopped f))
named_why before after name f s place field law none h tells bad quiet = elim h [
  | inl file ↦ elim (stop_is before after name f (Ok s) law file tells quiet) [
    | inl same ↦ absurd (err_ok f s same)
    | inr memory ↦ inr (stopped_as f fault.Memory memory)
  ]
  | inr rest ↦ elim rest [
    | inl sink ↦
        let is = same_finished sink.finished s (read_is before.files after.files name sink.finished
        (Ok s) law sink.was_read tells quiet) in
        absurd (none (number_of s) (run_of s) place field (subst Right is sink.right) bad)
    | inr memory ↦ inr (stopped_as f fault.Memory memory)
  ]
]

same_not_legal : (p q : ℕ) (f g : Field) → p ≡ q → f ≡ g
    → ◌≡◌ {A = CheckFault} (ends.NotLegal p f) (ends.NotLegal q g)
same_not_legal p q f g e d = cc

pub named_ends : (before after : Outside) (name : List ℕ) (r : Result (Unit {0}) CheckFault)
    (s : Finished) (place : ℕ) (field : Field) → ToldFilesSettle → RightHasNoFault → OneFault
    → Ends before after name r → BothTell before.files.told name (Ok s) → HasFault s place field
    → (Rose before.files.faults after.files.faults → ⊥)
    → Answers (ends.NotLegal place field) r
named_ends before after name (Ok u) s place field law none one h tells bad quiet =
    let is = same_finished h.finished s
    (read_is before.files after.files name h.finished (Ok s) law h.was_read tells quiet) in
    absurd (none (number_of s) (run_of s) place field (subst Right is h.right) bad)
named_ends before after name (Err (ends.NotLegal p f)) s place field law none one h tells bad quiet =
    let is = same_finished h.finished s
    (read_is before.files after.files name h.finished (Ok s) law h.was_read tells quiet) in
    let here : HasFault s p f = subst (λ (x : Finished). HasFault x p f) is h.fault in
    let same = one (number_of s) (run_of s) p place f field here bad in
    inl (same_not_legal p place f field same.0 same.1)
named_ends before after name (Err (ends.Stopped f)) s place field law none one h tells bad quiet =
    named_why before after name f s place field law none (why before after name f h) tells bad quiet

-- ---- where the run that they tell is right
complete_why : (before after : Outside) (name : List ℕ) (f : Fault) (s : Finished)
    → ToldFilesSettle → Why before after name f → BothTell before.files.told name (Ok s)
    → (Rose before.files.faults after.files.faults → ⊥)
    → (Rose before.sink.faults after.sink.faults → ⊥)
    → ◌≡◌ {A = CheckFault} (ends.Stopped f) (ends.Stopped fault.Memory)
complete_why before after name f s law h tells quiet calm = elim h [
  | inl file ↦ elim (stop_is before after name f (Ok s) law file tells quiet) [
    | inl same ↦ absurd (err_ok f s same)
    | inr memory ↦ stopped_as f fault.Memory memory
  ]
  | inr rest ↦ elim rest [
    | inl sink ↦ absurd (calm sink.failed.cause.failed)
    | inr memory ↦ stopped_as f fault.Memory memory
  ]
]

pub complete_ends : (before after : Outside) (name : List ℕ) (r : Result (Unit {0}) CheckFault)
    (s : Finished) → ToldFilesSettle → RightHasNoFault → Ends before after name r
    → BothTell before.files.told name (Ok s) → Right s
    → (Rose before.files.faults after.files.faults → ⊥)
    → (Rose before.sink.faults after.sink.faults → ⊥)
    → IfErr r (λ e. e ≡ ends.Stopped fault.Memory)
complete_ends before after name (Ok u) s law none h tells right quiet calm = tt
complete_ends before after name (Err (ends.NotLegal p f)) s law none h tells right quiet calm =
    let is = same_finished h.finished s
    (read_is before.files after.files name h.finished (Ok s) law h.was_read tells quiet) in
    let here : HasFault s p f = subst (λ (x : Finished). HasFault x p f) is h.fault in
    absurd (none (number_of s) (run_of s) p f right here)
complete_ends before after name (Err (ends.Stopped f)) s law none h tells right quiet calm =
    complete_why before after name f s law (why before after name f h) tells quiet calm

-- ---- each answer by its name
pub legal_is : (before after : Outside) (name : List ℕ) (r : Result (Unit {0}) CheckFault)
    → Ends before after name r
    → OnOk r (IsLegalFile before.files.told after.files.told before.sink.taken after.sink.taken name)
legal_is before after name (Ok u) h = h
legal_is before after name (Err e) h = tt

pub fault_is : (before after : Outside) (name : List ℕ) (r : Result (Unit {0}) CheckFault)
    (e : CheckFault) → Ends before after name r → r ≡ Err e → Ends before after name (Err e)
fault_is before after name r e h is = subst (Ends before after name) is h
