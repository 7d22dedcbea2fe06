-- How a run ends, put together.
use Rattle.std.proofs.Common.{◌≡◌, ℕ, zero, suc, ◌+◌, List, [], ◌∷◌, ◌++◌, take, Option, Some, None, Result, Ok, Err, refl, sym, ap, subst, ◌∙◌, inl, inr, arith}
use Rattle.std.proofs.lemmas.List.{append-nil}
use Rattle.plan_files.specs.declared.items.Plan.{Plan}
use Rattle.run_outside.specs.declared.outside.SinkFault.{SinkFault}
use Rattle.run_outside.specs.Outside.{SinkTakes}
use Rattle.run_outcomes.specs.declared.numbers.TheConstants.{PLAN, SINK}
use Rattle.run_outcomes.specs.declared.faults.Fault.{Fault}
use Rattle.run_outcomes.specs.declared.faults.Fault.TheVariants as fault
use Rattle.run_outcomes.specs.Numbers.{file_of}
use Rattle.run_outcomes.specs.Names.{to_write}
use Rattle.run_outcomes.specs.Outsides.{Told, FilesView, SinkView, Outside, Took, Said, FailedPut}
use Rattle.run_outcomes.specs.Texts.{line_of}
use Rattle.run_outcomes.specs.Written.{ToWrite, AreWritten, KeptBut, AllWritten, StopsAt, WriteFails}
use Rattle.run_transcript.specs.Runs.{Run}
use Rattle.run_inputs.specs.Gives.{PlanBegins}
use Rattle.run_inputs.specs.InputFiles.{input_files, name_of}
use Rattle.run_inputs.specs.Known.{begun}
use Rattle.run_inputs.specs.Reading.{ReadsSo, Reading, ReadsFiles}
use Rattle.run_inputs.specs.Views.{IsEarlier}
use Rattle.run_inputs.proofs.OneFile.{earlier_again, earlier_itself, kept_by}
use Rattle.run_inputs.proofs.Walking.{walk_no_write}
use Rattle.nvmet_run.specs.Headline.{Ran, files_of_run}
use Rattle.nvmet_run.specs.Made.{MakesPlan, WriteEnds, RunEnds}
use Rattle.run_prints.specs.Prints.{IsPrinted}
use Rattle.nvmet_run.specs.Refusals.{Refusal, Unwritten}

-- ---- what is written
files_are : (run : Run) (plan : Plan) (records : List (List ℕ)) (written text : List ℕ)
    → run.plan ≡ plan → IsPrinted run records written text
    → to_write plan records written ≡ files_of_run run
files_are run plan records written text plan_is p = rw (sym plan_is, p.records_are, p.journal_is)
    refl

pub ran : (before mid after : Told) (taken taken' : Option (List ℕ)) (name : List ℕ) (plan : Plan)
    (records : List (List ℕ)) (written text : List ℕ) → before ≡ mid
    → MakesPlan before name plan records written text
    → AllWritten (to_write plan records written) mid after → Took taken taken' text
    → Ran before after taken taken' name
ran before mid after taken taken' name plan records written text same m all put =
    let files : to_write plan records written ≡ files_of_run m.run =
    files_are m.run plan records written text m.plan_is m.printed in
    let here : AllWritten (files_of_run m.run) before after =
    subst (λ (xs : List ToWrite). AllWritten xs before after) files
    (subst (λ (t : Told). AllWritten (to_write plan records written) t after) (sym same) all) in
    record {
      run = m.run;
      made = m.made;
      out = record { written = here.written; kept = here.kept };
      put = subst (λ (x : List ℕ). Took taken taken' x) m.printed.summary_is put;
    }

-- ---- what stopped
fails_since : (w : ToWrite) (before mid after : FilesView) (f : Fault) → IsEarlier before mid
    → WriteFails w mid after f → WriteFails w before after f
fails_since w before mid after (fault.WriteFault n) e x = (
  x.0,
  record { last = x.1.last; rose = omega (arith, e.faults, x.1.rose) },
)
fails_since w before mid after fault.Memory e x = x ∙ ap (λ (t : Told). t.holds w.name) (sym e.told)
fails_since w before mid after (fault.Malformed n place) e x = absurd x
fails_since w before mid after (fault.Limit n what count) e x = absurd x
fails_since w before mid after (fault.ReadFault n) e x = absurd x
fails_since w before mid after (fault.ConfigRefused edit errno) e x = absurd x

stops_since : (files : List ToWrite) (before mid after : FilesView) (f : Fault)
    → IsEarlier before mid → StopsAt files mid after f → StopsAt files before after f
stops_since files before mid after f e s = record {
  done = s.done;
  here = s.here;
  rest = s.rest;
  split = s.split;
  written = subst (λ (t : Told). AreWritten t after.told s.done) (sym e.told) s.written;
  kept = subst (λ (t : Told). KeptBut t after.told (s.done ++ s.here ∷ [])) (sym e.told) s.kept;
  fails = fails_since s.here before mid after f e s.fails;
}

-- a run was made, and not written or put
pub made_ends : (before mid after : Outside) (name : List ℕ) (plan : Plan)
    (records : List (List ℕ)) (written text : List ℕ) (f : Fault)
    → IsEarlier before.files mid.files → mid.sink ≡ before.sink
    → MakesPlan before.files.told name plan records written text
    → WriteEnds (to_write plan records written) mid after text f → RunEnds before after name plan f
made_ends before mid after name plan records written text f e sink m ends = inr (
  records,
  written,
  text,
  m,
  elim ends [
    | inl stops ↦ inl (
      stops_since (to_write plan records written) before.files mid.files after.files f e stops.0,
      stops.1 ∙ sink,
    )
    | inr put ↦ inr (
      put.0,
      subst (λ (t : Told). AllWritten (to_write plan records written) t after.files.told)
          (sym e.told) put.1,
      subst (λ (v : SinkView). FailedPut v after.sink text) sink put.2,
    )
  ],
)

-- ---- after the line of the fault
-- the plan was not read
pub plan_unread : (before after : Outside) (name : List ℕ) (f : Fault)
    → Reading before.files after.files PLAN name PlanBegins (Err f)
    → IsEarlier before.files after.files → Said before.sink after.sink (line_of name f)
    → Refusal before after name f
unfolding line_of
plan_unread before after name (fault.Malformed n place) r e said = record {
  plan = None;
  cause = r;
  kept = kept_by before.files after.files e;
  said = said;
}
plan_unread before after name (fault.Limit n what count) r e said = record {
  plan = None;
  cause = r;
  kept = kept_by before.files after.files e;
  said = said;
}
plan_unread before after name (fault.ReadFault n) r e said = record {
  plan = None;
  cause = r;
  kept = kept_by before.files after.files e;
  said = said;
}
plan_unread before after name (fault.ConfigRefused edit errno) r e said = record {
  plan = None;
  cause = r;
  kept = kept_by before.files after.files e;
  said = said;
}
plan_unread before after name (fault.WriteFault n) r e said = absurd r
plan_unread before after name fault.Memory r e said = inl (record {
  kept = kept_by before.files after.files e;
  said = said;
})

-- a file that the plan names was not read
files_unread : (before after : Outside) (name : List ℕ) (plan : Plan) (f : Fault)
    → ReadsSo before.files.told name PlanBegins (Ok (begun plan))
    → ReadsFiles before.files after.files (input_files plan) (begun plan) (Err f)
    → IsEarlier before.files after.files
    → Said before.sink after.sink (line_of (name_of name plan (file_of f)) f)
    → Refusal before after name f
unfolding line_of
files_unread before after name plan (fault.Malformed n place) p r e said = record {
  plan = Some plan;
  cause = (p, r);
  kept = kept_by before.files after.files e;
  said = said;
}
files_unread before after name plan (fault.Limit n what count) p r e said = record {
  plan = Some plan;
  cause = (p, r);
  kept = kept_by before.files after.files e;
  said = said;
}
files_unread before after name plan (fault.ReadFault n) p r e said = record {
  plan = Some plan;
  cause = (p, r);
  kept = kept_by before.files after.files e;
  said = said;
}
files_unread before after name plan (fault.ConfigRefused edit errno) p r e said = record {
  plan = Some plan;
  cause = (p, r);
  kept = kept_by before.files after.files e;
  said = said;
}
files_unread before after name plan (fault.WriteFault n) p r e said = absurd (walk_no_write
    before.files after.files (input_files plan) (begun plan) n r)
files_unread before after name plan fault.Memory p r e said = inl (record {
  kept = kept_by before.files after.files e;
  said = said;
})

-- there was no memory to serve
no_memory : (before after : Outside) (name named : List ℕ) (f : Fault) → f ≡ fault.Memory
    → IsEarlier before.files after.files → Said before.sink after.sink (line_of named f)
    → Refusal before after name f
unfolding line_of
no_memory before after name named f is e said =
    subst (λ (x : Fault). Refusal before after name x) (sym is) (inl (record {
      kept = kept_by before.files after.files e;
      said = subst (λ (x : Fault). Said before.sink after.sink (line_of named x)) is said;
    }))

-- a file was not written
unwritten : (before after : Outside) (name : List ℕ) (plan : Plan) (records : List (List ℕ))
    (written text : List ℕ) (f : Fault) → MakesPlan before.files.told name plan records written text
    → StopsAt (to_write plan records written) before.files after.files f
    → Said before.sink after.sink (line_of (name_of name plan (file_of f)) f)
    → Unwritten before after name f
unwritten before after name plan records written text f m stops said = record {
  run = m.run;
  made = m.made;
  stops = subst (λ (xs : List ToWrite). StopsAt xs before.files after.files f)
      (files_are m.run plan records written text m.plan_is m.printed) stops;
  said = subst (λ (p : Plan). Said before.sink after.sink (line_of (name_of name p (file_of f)) f))
      (sym m.plan_is) said;
}

unwritten_refusal : (before after : Outside) (name : List ℕ) (f : Fault) (files : List ToWrite)
    → StopsAt files before.files after.files f → Unwritten before after name f
    → Refusal before after name f
unwritten_refusal before after name (fault.WriteFault n) files s u = inr u
unwritten_refusal before after name fault.Memory files s u = inr u
unwritten_refusal before after name (fault.Malformed n place) files s u = absurd s.fails
unwritten_refusal before after name (fault.Limit n what count) files s u = absurd s.fails
unwritten_refusal before after name (fault.ReadFault n) files s u = absurd s.fails
unwritten_refusal before after name (fault.ConfigRefused edit errno) files s u = absurd s.fails

-- nothing is put after a fault of the sink
take_none : (n : ℕ) (xs : List ℕ) → xs ++ take n [] ≡ xs
take_none zero xs = append-nil xs
take_none (suc n) xs = append-nil xs

takes_nothing : (old mid new : Option (List ℕ)) (text : List ℕ) (e : SinkFault)
    (r : Result (Unit {0}) SinkFault) → SinkTakes old mid text (Err e) → SinkTakes mid new [] r
    → SinkTakes old new text (Err e)
takes_nothing None mid new text e r s t = tt
takes_nothing (Some old) None new text e r s t = absurd s
takes_nothing (Some old) (Some mid) None text e r s t = absurd t
takes_nothing (Some old) (Some mid) (Some new) text e (Ok u) s t = (s.0, t ∙ append-nil mid ∙ s.1)
takes_nothing (Some old) (Some mid) (Some new) text e (Err f) s t = (
  s.0,
  t.1 ∙ take_none t.0 mid
      ∙ s.1,
)

failed_still : (before mid after : SinkView) (text : List ℕ) → FailedPut before mid text
    → Said mid after [] → FailedPut before after text
failed_still before mid after text f said = record {
  error = f.error;
  content = takes_nothing before.taken mid.taken after.taken text f.error said.answer f.content
      said.content;
  cause = record {
    later = omega (arith, f.cause.later, said.cause.later);
    failed = omega (arith, f.cause.failed, said.cause.later);
  };
}

-- the sink did not take the summary
unsaid : (before mid after : Outside) (name named : List ℕ) (plan : Plan)
    (records : List (List ℕ)) (written text : List ℕ) (f : Fault) → f ≡ fault.WriteFault SINK
    → MakesPlan before.files.told name plan records written text
    → AllWritten (to_write plan records written) before.files.told mid.files.told
    → FailedPut before.sink mid.sink text → after.files ≡ mid.files
    → Said mid.sink after.sink (line_of named f) → Refusal before after name f
unfolding line_of
unsaid before mid after name named plan records written text f is m all failed same said =
    let nothing : Said mid.sink after.sink [] =
    subst (λ (x : Fault). Said mid.sink after.sink (line_of named x)) is said in
    let files = files_are m.run plan records written text m.plan_is m.printed in
    let here : AllWritten (files_of_run m.run) before.files.told after.files.told =
    subst (λ (v : FilesView). AllWritten (files_of_run m.run) before.files.told v.told) (sym same)
    (subst (λ (xs : List ToWrite). AllWritten xs before.files.told mid.files.told) files all) in
    subst (λ (x : Fault). Refusal before after name x) (sym is) (inl (
      refl,
      record {
        run = m.run;
        made = m.made;
        out = record { written = here.written; kept = here.kept };
        failed = subst (λ (x : List ℕ). FailedPut before.sink after.sink x) m.printed.summary_is
            (failed_still before.sink mid.sink after.sink text failed nothing);
      },
    ))

-- what a run of a plan that was read has left, once the line of its fault is put
pub ended : (before mid after : Outside) (name : List ℕ) (plan : Plan) (f : Fault)
    → ReadsSo before.files.told name PlanBegins (Ok (begun plan)) → RunEnds before mid name plan f
    → after.files ≡ mid.files
    → Said mid.sink after.sink (line_of (name_of name plan (file_of f)) f)
    → Refusal before after name f
ended before mid after name plan f p ends same said = elim ends [
  | inl read ↦
      let e : IsEarlier before.files after.files = subst (λ (v : FilesView). IsEarlier before.files v)
      (sym same) read.1 in
      let here : Said before.sink after.sink (line_of (name_of name plan (file_of f)) f) =
      subst (λ (v : SinkView). Said v after.sink (line_of (name_of name plan (file_of f)) f)) read.2
      said in
      elim read.0 [
        | inl memory ↦ no_memory before after name (name_of name plan (file_of f)) f memory e here
        | inr stopped ↦ files_unread before after name plan f p
            (subst (λ (v : FilesView). ReadsFiles before.files v (input_files plan) (begun plan) (Err f))
            (sym same) (stopped before.files (earlier_itself before.files))) e here
      ]
  | inr made ↦ elim made.4 [
    | inl stops ↦
        let here : Said before.sink after.sink (line_of (name_of name plan (file_of f)) f) =
        subst (λ (v : SinkView). Said v after.sink (line_of (name_of name plan (file_of f)) f))
        stops.1 said in
        let stop : StopsAt (to_write plan made.0 made.1) before.files after.files f =
        subst (λ (v : FilesView). StopsAt (to_write plan made.0 made.1) before.files v f) (sym same)
        stops.0 in
        unwritten_refusal before after name f (to_write plan made.0 made.1) stop
        (unwritten before after name plan made.0 made.1 made.2 f made.3 stop here)
    | inr put ↦ unsaid before mid after name (name_of name plan (file_of f)) plan made.0 made.1
        made.2 f put.0 made.3 put.1 put.2 same said
  ]
]

-- what was read before a run of the plan that was read
pub ends_since : (before mid after : Outside) (name : List ℕ) (plan : Plan) (f : Fault)
    → IsEarlier before.files mid.files → mid.sink ≡ before.sink → RunEnds mid after name plan f
    → RunEnds before after name plan f
ends_since before mid after name plan f e sink ends = elim ends [
  | inl read ↦ inl (
    elim read.0 [
      | inl memory ↦ inl memory
      | inr stopped ↦ inr (λ v earlier. stopped v (earlier_again v before.files mid.files earlier e))
    ],
    earlier_again before.files mid.files after.files e read.1,
    read.2 ∙ sink,
  )
  | inr made ↦ made_ends before mid after name plan made.0 made.1 made.2 f e sink
      (subst (λ (t : Told). MakesPlan t name plan made.0 made.1 made.2) (sym e.told) made.3) made.4
]

-- a run of a plan that was read before
pub ran_since : (before mid after : Told) (taken taken' : Option (List ℕ)) (name : List ℕ)
    (plan : Plan) → before ≡ mid → ReadsSo before name PlanBegins (Ok (begun plan))
    → (ReadsSo mid name PlanBegins (Ok (begun plan)) → Ran mid after taken taken' name)
    → Ran before after taken taken' name
ran_since before mid after taken taken' name plan same p runs =
    subst (λ (t : Told). Ran t after taken taken' name) (sym same)
    (runs (subst (λ (t : Told). ReadsSo t name PlanBegins (Ok (begun plan))) same p))

-- the same where it did not end well
pub ended_since : (before mid late after : Outside) (name : List ℕ) (plan : Plan) (f : Fault)
    → IsEarlier before.files mid.files → mid.sink ≡ before.sink
    → ReadsSo before.files.told name PlanBegins (Ok (begun plan))
    → (ReadsSo mid.files.told name PlanBegins (Ok (begun plan)) → RunEnds mid late name plan f)
    → after.files ≡ late.files
    → Said late.sink after.sink (line_of (name_of name plan (file_of f)) f)
    → Refusal before after name f
ended_since before mid late after name plan f e sink p ends same said =
    ended before late after name plan f p (ends_since before mid late name plan f e sink
    (ends (subst (λ (t : Told). ReadsSo t name PlanBegins (Ok (begun plan))) e.told p))) same said
