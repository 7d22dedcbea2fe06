-- How the showing of a plan ends, put together.
use Rattle.std.proofs.Common.{◌≡◌, ℕ, zero, suc, List, [], ◌∷◌, ◌++◌, take, Option, Some, None, Result, Ok, Err, refl, sym, subst, ◌∙◌, inl, inr, arith}
use Rattle.std.proofs.lemmas.List.{append-nil}
use Rattle.nvmetcli_json.specs.Saving.{saved}
use Rattle.plan_files.specs.declared.items.Plan.{Plan}
use Rattle.run_outside.specs.declared.outside.SinkFault.{SinkFault}
use Rattle.run_outside.specs.Outside.{SinkTakes}
use Rattle.tree_target.specs.Kept.{Kept as Code}
use Rattle.run_outcomes.specs.declared.numbers.TheConstants.{PLAN, SINK}
use Rattle.run_outcomes.specs.declared.faults.Fault.{Fault}
use Rattle.run_outcomes.specs.declared.faults.Fault.TheVariants as fault
use Rattle.run_outcomes.specs.Numbers.{file_of}
use Rattle.run_outcomes.specs.Outsides.{Told, FilesView, SinkView, Outside, Took, Said, FailedPut}
use Rattle.run_outcomes.specs.Texts.{line_of}
use Rattle.run_inputs.specs.Gives.{PlanBegins}
use Rattle.run_inputs.specs.InputFiles.{configuration_files, name_of}
use Rattle.run_inputs.specs.Known.{Known, begun}
use Rattle.run_inputs.specs.Reading.{ReadsSo, Reading, ReadsFiles}
use Rattle.run_inputs.specs.Stages.{StartsIn}
use Rattle.run_inputs.specs.Views.{IsEarlier}
use Rattle.run_inputs.proofs.OneFile.{earlier_again, earlier_itself, kept_by}
use Rattle.run_inputs.proofs.Walking.{walk_was, walk_no_write}
use Rattle.run_show.specs.Shown.{Shown}
use Rattle.run_show.specs.Refusals.{ShowRefusal}
use Rattle.run_show.specs.Stages.{ShowsText, ShowEnds}

-- ---- the text
-- the text of a start that was read
pub shows_text : (now : FilesView) (plan : Plan) (target : Code) (count : ℕ) (text : List ℕ)
    (name : List ℕ) → StartsIn now (configuration_files plan.config) (begun plan) target count
    → text ≡ saved target.tree ++ 10 ∷ [] → ReadsSo now.told name PlanBegins (Ok (begun plan))
    → ShowsText now.told name text
shows_text now plan target count text name start is plan_read =
    let known : Known = record (begun plan) { start = start.start; passed_over = count } in record {
      known = known;
      was_read = (
        Ok (begun plan),
        plan_read,
        walk_was now now (configuration_files plan.config) (begun plan) known
            (start.read now now (earlier_itself now)),
      );
      is = is ∙ rw start.stands.tree refl;
    }

-- ---- what a plan that was read shows
pub text_shown : (before after : FilesView) (taken taken' : Option (List ℕ)) (name text : List ℕ)
    → IsEarlier before after → ShowsText before.told name text → Took taken taken' text
    → Shown before.told after.told taken taken' name
text_shown before after taken taken' name text e m put = record {
  known = m.known;
  was_read = m.was_read;
  kept = kept_by before after e;
  put = subst (λ (x : List ℕ). Took taken taken' x) m.is put;
}

-- ---- a plan that was not read
pub plan_unread : (before after : Outside) (name : List ℕ) (f : Fault)
    → Reading before.files after.files PLAN name PlanBegins (Err f)
    → IsEarlier before.files after.files → Said before.sink after.sink (line_of name f)
    → ShowRefusal before after name f
unfolding line_of
plan_unread before after name (fault.Malformed n place) r e said = record {
  plan = None;
  cause = r;
  kept = kept_by before.files after.files e;
  said = said;
}
plan_unread before after name (fault.Limit n what count) r e said = record {
  plan = None;
  cause = r;
  kept = kept_by before.files after.files e;
  said = said;
}
plan_unread before after name (fault.ReadFault n) r e said = record {
  plan = None;
  cause = r;
  kept = kept_by before.files after.files e;
  said = said;
}
plan_unread before after name (fault.ConfigRefused edit errno) r e said = record {
  plan = None;
  cause = r;
  kept = kept_by before.files after.files e;
  said = said;
}
plan_unread before after name (fault.WriteFault n) r e said = absurd r
plan_unread before after name fault.Memory r e said = record {
  kept = kept_by before.files after.files e;
  said = said;
}

-- ---- a configuration that was not read
files_unread : (before after : Outside) (name : List ℕ) (plan : Plan) (f : Fault)
    → ReadsSo before.files.told name PlanBegins (Ok (begun plan))
    → ReadsFiles before.files after.files (configuration_files plan.config) (begun plan) (Err f)
    → IsEarlier before.files after.files
    → Said before.sink after.sink (line_of (name_of name plan (file_of f)) f)
    → ShowRefusal before after name f
unfolding line_of
files_unread before after name plan (fault.Malformed n place) p r e said = record {
  plan = Some plan;
  cause = (p, r);
  kept = kept_by before.files after.files e;
  said = said;
}
files_unread before after name plan (fault.Limit n what count) p r e said = record {
  plan = Some plan;
  cause = (p, r);
  kept = kept_by before.files after.files e;
  said = said;
}
files_unread before after name plan (fault.ReadFault n) p r e said = record {
  plan = Some plan;
  cause = (p, r);
  kept = kept_by before.files after.files e;
  said = said;
}
files_unread before after name plan (fault.ConfigRefused edit errno) p r e said = record {
  plan = Some plan;
  cause = (p, r);
  kept = kept_by before.files after.files e;
  said = said;
}
files_unread before after name plan (fault.WriteFault n) p r e said = absurd (walk_no_write
    before.files after.files (configuration_files plan.config) (begun plan) n r)
files_unread before after name plan fault.Memory p r e said = record {
  kept = kept_by before.files after.files e;
  said = said;
}

-- ---- want of memory
no_memory : (before after : Outside) (name named : List ℕ) (f : Fault) → f ≡ fault.Memory
    → IsEarlier before.files after.files → Said before.sink after.sink (line_of named f)
    → ShowRefusal before after name f
unfolding line_of
no_memory before after name named f is e said =
    subst (λ (x : Fault). ShowRefusal before after name x) (sym is) (record {
      kept = kept_by before.files after.files e;
      said = subst (λ (x : Fault). Said before.sink after.sink (line_of named x)) is said;
    })

-- ---- a sink that did not take the text
take_none : (n : ℕ) (xs : List ℕ) → xs ++ take n [] ≡ xs
take_none zero xs = append-nil xs
take_none (suc n) xs = append-nil xs

takes_nothing : (old mid new : Option (List ℕ)) (text : List ℕ) (e : SinkFault)
    (r : Result (Unit {0}) SinkFault) → SinkTakes old mid text (Err e) → SinkTakes mid new [] r
    → SinkTakes old new text (Err e)
takes_nothing None mid new text e r s t = tt
takes_nothing (Some old) None new text e r s t = absurd s
takes_nothing (Some old) (Some mid) None text e r s t = absurd t
takes_nothing (Some old) (Some mid) (Some new) text e (Ok u) s t = (s.0, t ∙ append-nil mid ∙ s.1)
takes_nothing (Some old) (Some mid) (Some new) text e (Err f) s t = (
  s.0,
  t.1 ∙ take_none t.0 mid
      ∙ s.1,
)

failed_still : (before mid after : SinkView) (text : List ℕ) → FailedPut before mid text
    → Said mid after [] → FailedPut before after text
failed_still before mid after text f said = record {
  error = f.error;
  content = takes_nothing before.taken mid.taken after.taken text f.error said.answer f.content
      said.content;
  cause = record {
    later = omega (arith, f.cause.later, said.cause.later);
    failed = omega (arith, f.cause.failed, said.cause.later);
  };
}

not_taken : (before mid after : Outside) (name named text : List ℕ) (f : Fault)
    → f ≡ fault.WriteFault SINK → IsEarlier before.files after.files
    → ShowsText before.files.told name text → FailedPut before.sink mid.sink text
    → Said mid.sink after.sink (line_of named f) → ShowRefusal before after name f
unfolding line_of
not_taken before mid after name named text f is e m failed said =
    let nothing : Said mid.sink after.sink [] =
    subst (λ (x : Fault). Said mid.sink after.sink (line_of named x)) is said in
    subst (λ (x : Fault). ShowRefusal before after name x) (sym is) (
      refl,
      record {
        known = m.known;
        was_read = m.was_read;
        kept = kept_by before.files after.files e;
        failed = subst (λ (x : List ℕ). FailedPut before.sink after.sink x) m.is
            (failed_still before.sink mid.sink after.sink text failed nothing);
      },
    )

-- ---- after the line of the fault
ended : (before mid after : Outside) (name : List ℕ) (plan : Plan) (f : Fault)
    → ReadsSo before.files.told name PlanBegins (Ok (begun plan)) → ShowEnds before mid name plan f
    → IsEarlier before.files mid.files → after.files ≡ mid.files
    → Said mid.sink after.sink (line_of (name_of name plan (file_of f)) f)
    → ShowRefusal before after name f
ended before mid after name plan f p ends later same said =
    let e : IsEarlier before.files after.files =
    subst (λ (v : FilesView). IsEarlier before.files v) (sym same) later in elim ends [
      | inl read ↦
          let here : Said before.sink after.sink (line_of (name_of name plan (file_of f)) f) =
          subst (λ (v : SinkView). Said v after.sink (line_of (name_of name plan (file_of f)) f))
          read.1 said in elim read.0 [
            | inl memory ↦ no_memory before after name (name_of name plan (file_of f)) f memory e
                here
            | inr stopped ↦ files_unread before after name plan f p
                (subst (λ (v : FilesView). ReadsFiles before.files v (configuration_files plan.config)
                (begun plan) (Err f)) (sym same) (stopped before.files (earlier_itself before.files)))
                e here
          ]
      | inr put ↦ not_taken before mid after name (name_of name plan (file_of f)) put.1 f put.0 e
          put.2 put.3 said
    ]

-- what was read before a plan that was read is shown
ends_since : (before mid after : Outside) (name : List ℕ) (plan : Plan) (f : Fault)
    → IsEarlier before.files mid.files → mid.sink ≡ before.sink → ShowEnds mid after name plan f
    → ShowEnds before after name plan f
ends_since before mid after name plan f e sink ends = elim ends [
  | inl read ↦ inl (
    elim read.0 [
      | inl memory ↦ inl memory
      | inr stopped ↦ inr (λ v earlier. stopped v (earlier_again v before.files mid.files earlier e))
    ],
    read.1 ∙ sink,
  )
  | inr put ↦ inr (
    put.0,
    put.1,
    subst (λ (t : Told). ShowsText t name put.1) (sym e.told) put.2,
    subst (λ (v : SinkView). FailedPut v after.sink put.1) sink put.3,
  )
]

-- a plan that was read before it is shown
pub shown_since : (before mid after : Told) (taken taken' : Option (List ℕ)) (name : List ℕ)
    (plan : Plan) → before ≡ mid → ReadsSo before name PlanBegins (Ok (begun plan))
    → (ReadsSo mid name PlanBegins (Ok (begun plan)) → Shown mid after taken taken' name)
    → Shown before after taken taken' name
shown_since before mid after taken taken' name plan same p shows =
    subst (λ (t : Told). Shown t after taken taken' name) (sym same)
    (shows (subst (λ (t : Told). ReadsSo t name PlanBegins (Ok (begun plan))) same p))

-- the same where it did not end well
pub ended_since : (before mid late after : Outside) (name : List ℕ) (plan : Plan) (f : Fault)
    → IsEarlier before.files mid.files → IsEarlier mid.files late.files → mid.sink ≡ before.sink
    → ReadsSo before.files.told name PlanBegins (Ok (begun plan))
    → (ReadsSo mid.files.told name PlanBegins (Ok (begun plan)) → ShowEnds mid late name plan f)
    → after.files ≡ late.files
    → Said late.sink after.sink (line_of (name_of name plan (file_of f)) f)
    → ShowRefusal before after name f
ended_since before mid late after name plan f e later sink p ends same said =
    ended before late after name plan f p (ends_since before mid late name plan f e sink
    (ends (subst (λ (t : Told). ReadsSo t name PlanBegins (Ok (begun plan))) e.told p)))
    (earlier_again before.files mid.files late.files e later) same said
