-- How generating a plan ends, put together.
use Rattle.std.proofs.Common.{◌≡◌, ℕ, zero, suc, List, [], ◌++◌, map, take, Option, Some, None, Result, Ok, Err, refl, sym, ap, subst, ◌∙◌, inl, inr, arith}
use Rattle.std.specs.Prelude.{◌⊎◌}
use Rattle.std.proofs.lemmas.List.{append-nil}
use Rattle.run_outside.specs.declared.outside.SinkFault.{SinkFault}
use Rattle.run_outside.specs.Outside.{SinkTakes}
use Rattle.run_outcomes.specs.declared.numbers.FileNo.{FileNo}
use Rattle.run_outcomes.specs.declared.numbers.TheConstants.{PLAN, SINK}
use Rattle.run_outcomes.specs.declared.faults.Fault.{Fault}
use Rattle.run_outcomes.specs.declared.faults.Fault.TheVariants as fault
use Rattle.run_outcomes.specs.Numbers.{file_of}
use Rattle.run_outcomes.specs.Outsides.{Told, FilesView, SinkView, Outside, Kept, Took, Said, FailedPut}
use Rattle.run_outcomes.specs.Texts.{line_of}
use Rattle.run_outcomes.specs.Written.{ToWrite, AllWritten, StopsAt}
use Rattle.run_inputs.specs.Reading.{ReadsAll, Reading}
use Rattle.run_inputs.specs.Gives.{PlanBegins}
use Rattle.run_inputs.specs.InputFiles.{input_files}
use Rattle.run_inputs.specs.Known.{Known}
use Rattle.run_inputs.specs.Walk.{Then, Walk}
use Rattle.run_inputs.proofs.Walking.{walk_no_write}
use Rattle.gen_files.specs.Seeds.{Base}
use Rattle.gen_files.specs.Contents.{content_of, contents, plan_name}
use Rattle.gen_files.specs.declared.made.MadeFile.{MadeFile}
use Rattle.run_gen.specs.Generated.{Generated}
use Rattle.run_gen.specs.Refusals.{Refusal, Unreadable, NoMemory, Unmade, SummedInMemory, WriteEnds, Ends, name_in}
use Rattle.run_gen.specs.Summed.{IsSummed}
use Rattle.run_gen.specs.Written.{generated, in_hand, name_or, HoldsJust}
use Rattle.run_gen.proofs.Files.{in_hand_is}
use Rattle.run_gen.proofs.Making.{summed_there}

summed_now : (before after : Told) (b : Base) (text : List ℕ) → SummedInMemory b text
    → after.tells ≡ before.tells → AllWritten (generated b) before after
    → IsSummed after (plan_name b.name) text
summed_now before after b text m same all =
    summed_there (generated b) m.told before after (plan_name b.name) text m.just same all.written
    m.summed

pub summed_in : (b : Base) (files : List MadeFile) (told : Told) (name text : List ℕ)
    → map content_of files ≡ contents b → HoldsJust (in_hand files) told
    → name ≡ plan_name b.name → IsSummed told name text → SummedInMemory b text
summed_in b files told name text e just named m = record {
  told = told;
  just = subst (λ (ws : List ToWrite). HoldsJust ws told) (in_hand_is b files e) just;
  summed = subst (λ (n : List ℕ). IsSummed told n text) named m;
}

pub unmade_in : (b : Base) (files : List MadeFile) (before after : FilesView) (name : List ℕ)
    (f : Fault) → map content_of files ≡ contents b → HoldsJust (in_hand files) before.told
    → name ≡ plan_name b.name → ((f ≡ fault.Memory) ⊎ ReadsAll before after name (Err f))
    → Unmade b f
unmade_in b files before after name f e just named ends = elim ends [
  | inl memory ↦ inl memory
  | inr reads ↦ inr (record {
    before = before;
    after = after;
    just = subst (λ (ws : List ToWrite). HoldsJust ws before.told) (in_hand_is b files e) just;
    cause = subst (λ (n : List ℕ). ReadsAll before after n (Err f)) named reads;
  })
]

-- the files in hand were not written, or the summary not put
pub ends_by : (b : Base) (files : List MadeFile) (before after : Outside) (text : List ℕ) (f : Fault)
    → map content_of files ≡ contents b → SummedInMemory b text
    → after.files.told.tells ≡ before.files.told.tells
    → WriteEnds (in_hand files) before after text f → Ends before after b f
ends_by b files before after text f e m same ends = inr (
  text,
  m,
  same,
  subst (λ (ws : List ToWrite). WriteEnds ws before after text f) (in_hand_is b files e) ends,
)

pub generates : (before after : Told) (taken taken' : Option (List ℕ)) (b : Base) (text : List ℕ)
    → SummedInMemory b text → after.tells ≡ before.tells → AllWritten (generated b) before after
    → Took taken taken' text → Generated before after taken taken' b
generates before after taken taken' b text m same all put =
    let here = summed_now before after b text m same all in
    record {
      written = all;
      run = here.run;
      made = here.made;
      put = subst (λ (x : List ℕ). Took taken taken' x) here.is put;
    }

pub generates_by : (b : Base) (files : List MadeFile) (before after : Told)
    (taken taken' : Option (List ℕ)) (text : List ℕ) → map content_of files ≡ contents b
    → SummedInMemory b text → after.tells ≡ before.tells
    → AllWritten (in_hand files) before after → Took taken taken' text
    → Generated before after taken taken' b
generates_by b files before after taken taken' text e m same all put =
    generates before after taken taken' b text m same
    (subst (λ (ws : List ToWrite). AllWritten ws before after) (in_hand_is b files e) all) put

-- ---- after the line of the fault

-- reading ends by no fault of a write
reads_no_write : (before after : FilesView) (name : List ℕ) (n : FileNo)
    → ReadsAll before after name (Err (fault.WriteFault n)) → ⊥
reads_no_write before after name n w = by w.0 w.1 w.2 where
  by : (u : Result Known Fault)
      → Reading before after PLAN name PlanBegins u
      → Then u (λ v. Walk (Reading before after) (input_files v.plan) v)
      (Err (fault.WriteFault n)) → ⊥
  by (Ok v) says rest = walk_no_write before after (input_files v.plan) v n rest
  by (Err f) says rest = subst (λ (x : Result Known Fault). Reading before after PLAN name PlanBegins x) (sym rest) says

kept_by : (before after : Outside) → after.files ≡ before.files
    → Kept before.files.told after.files.told
kept_by before after e name = ap (λ (v : FilesView). v.told.holds name) e

-- there was no memory to make it
pub no_memory : (before after : Outside) (named : List ℕ) → after.files ≡ before.files
    → Said before.sink after.sink (line_of named fault.Memory) → NoMemory before after
unfolding line_of
no_memory before after named e said = record { kept = kept_by before after e; said = said }

unmade : (before after : Outside) (b : Base) (f : Fault) → Unreadable b f
    → after.files ≡ before.files → Said before.sink after.sink (line_of (name_in b f) f)
    → Refusal before after b f
unmade before after b (fault.Malformed n place) u e said = record {
  cause = u;
  kept = kept_by before after e;
  said = said;
}
unmade before after b (fault.Limit n what count) u e said = record {
  cause = u;
  kept = kept_by before after e;
  said = said;
}
unmade before after b (fault.ReadFault n) u e said = record {
  cause = u;
  kept = kept_by before after e;
  said = said;
}
unmade before after b (fault.ConfigRefused edit errno) u e said = record {
  cause = u;
  kept = kept_by before after e;
  said = said;
}
unmade before after b (fault.WriteFault n) u e said =
    absurd (reads_no_write u.before u.after (plan_name b.name) n u.cause)
unmade before after b fault.Memory u e said =
    inl (no_memory before after (name_in b fault.Memory) e said)

unwritten : (before after : Outside) (b : Base) (f : Fault)
    → StopsAt (generated b) before.files after.files f
    → Said before.sink after.sink (line_of (name_in b f) f) → Refusal before after b f
unwritten before after b (fault.WriteFault n) s said = inr (record { stops = s; said = said })
unwritten before after b fault.Memory s said = inr (record { stops = s; said = said })
unwritten before after b (fault.Malformed n place) s said = absurd s.fails
unwritten before after b (fault.Limit n what count) s said = absurd s.fails
unwritten before after b (fault.ReadFault n) s said = absurd s.fails
unwritten before after b (fault.ConfigRefused edit errno) s said = absurd s.fails

-- nothing is put after a fault of the sink
take_none : (n : ℕ) (xs : List ℕ) → xs ++ take n [] ≡ xs
take_none zero xs = append-nil xs
take_none (suc n) xs = append-nil xs

takes_nothing : (old mid new : Option (List ℕ)) (text : List ℕ) (e : SinkFault)
    (r : Result (Unit {0}) SinkFault) → SinkTakes old mid text (Err e) → SinkTakes mid new [] r
    → SinkTakes old new text (Err e)
takes_nothing None mid new text e r s t = tt
takes_nothing (Some old) None new text e r s t = absurd s
takes_nothing (Some old) (Some mid) None text e r s t = absurd t
takes_nothing (Some old) (Some mid) (Some new) text e (Ok u) s t = (s.0, t ∙ append-nil mid ∙ s.1)
takes_nothing (Some old) (Some mid) (Some new) text e (Err f) s t = (
  s.0,
  t.1 ∙ take_none t.0 mid ∙ s.1,
)

failed_still : (before mid after : SinkView) (text : List ℕ) → FailedPut before mid text
    → Said mid after [] → FailedPut before after text
failed_still before mid after text f said = record {
  error = f.error;
  content = takes_nothing before.taken mid.taken after.taken text f.error said.answer f.content
      said.content;
  cause = record {
    later = omega (arith, f.cause.later, said.cause.later);
    failed = omega (arith, f.cause.failed, said.cause.later);
  };
}

unsaid : (before mid after : Outside) (b : Base) (named : List ℕ) (text : List ℕ) (f : Fault)
    → f ≡ fault.WriteFault SINK → SummedInMemory b text
    → mid.files.told.tells ≡ before.files.told.tells
    → AllWritten (generated b) before.files.told mid.files.told
    → FailedPut before.sink mid.sink text → after.files ≡ mid.files
    → Said mid.sink after.sink (line_of named f) → Refusal before after b f
unfolding line_of
unsaid before mid after b named text f is m same all failed files said =
    let nothing : Said mid.sink after.sink [] =
    subst (λ (x : Fault). Said mid.sink after.sink (line_of named x)) is said in
    let tells : after.files.told.tells ≡ before.files.told.tells =
    subst (λ (v : FilesView). v.told.tells ≡ before.files.told.tells) (sym files) same in
    let here : AllWritten (generated b) before.files.told after.files.told =
    subst (λ (v : FilesView). AllWritten (generated b) before.files.told v.told) (sym files) all in
    subst (λ (x : Fault). Refusal before after b x) (sym is) (inl (
      refl,
      record {
        written = here;
        text = text;
        summed = summed_now before.files.told after.files.told b text m tells here;
        failed = failed_still before.sink mid.sink after.sink text failed nothing;
      },
    ))

-- what is left, once the line of the fault is put
pub ended : (before mid after : Outside) (b : Base) (f : Fault) → Ends before mid b f
    → after.files ≡ mid.files → Said mid.sink after.sink (line_of (name_in b f) f)
    → Refusal before after b f
ended before mid after b f ends files said = elim ends [
  | inl nothing ↦
      let same : after.files ≡ before.files = files
      ∙ ap (λ (o : Outside). o.files) nothing.1 in
      let here : Said before.sink after.sink (line_of (name_in b f) f) =
      subst (λ (o : Outside). Said o.sink after.sink (line_of (name_in b f) f)) nothing.1 said in
      elim nothing.0 [
        | inl memory ↦ subst (λ (x : Fault). Refusal before after b x) (sym memory)
            (inl (no_memory before after (name_in b f) same
            (subst (λ (x : Fault). Said before.sink after.sink (line_of (name_in b f) x)) memory
            here)))
        | inr unread ↦ unmade before after b f unread same here
      ]
  | inr made ↦ elim made.3 [
    | inl stops ↦ unwritten before after b f
        (subst (λ (v : FilesView). StopsAt (generated b) before.files v f) (sym files) stops.0)
        (subst (λ (v : SinkView). Said v after.sink (line_of (name_in b f) f)) stops.1 said)
    | inr put ↦ unsaid before mid after b (name_in b f) made.0 f put.0 made.1 made.2 put.1 put.2
        files said
  ]
]

-- what is left where there was no memory to make the files
pub no_files : (before after : Outside) (b : Base) (named : List ℕ) → after.files ≡ before.files
    → Said before.sink after.sink (line_of named fault.Memory)
    → Refusal before after b fault.Memory
no_files before after b named e said = inl (no_memory before after named e said)

-- the same as `ended`, by the files in hand
pub ended_by : (b : Base) (files : List MadeFile) (before mid after : Outside) (f : Fault)
    → map content_of files ≡ contents b → Ends before mid b f → after.files ≡ mid.files
    → Said mid.sink after.sink (line_of (name_or (in_hand files) (file_of f).0 b.name) f)
    → Refusal before after b f
ended_by b files before mid after f e ends same said = ended before mid after b f ends same
    (subst (λ (ws : List ToWrite). Said mid.sink after.sink
    (line_of (name_or ws (file_of f).0 b.name) f)) (in_hand_is b files e) said)
