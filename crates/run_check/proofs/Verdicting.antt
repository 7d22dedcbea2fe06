-- The verdict is on the run that the records tell.
use Rattle.std.proofs.Common.{◌≡◌, ◌≤◌, ℕ, ◌+◌, List, [], ◌∷◌, ◌++◌, length, refl, sym, ap, subst, ◌∙◌, arith}
use Rattle.std.specs.Prelude.{◌↔◌}
use Rattle.std.proofs.lemmas.List.{length-map}
use Rattle.plan_files.specs.Capsules.{Capsule}
use Rattle.response_files.specs.Responses.{Response}
use Rattle.tree_target.specs.Kept.{Kept}
use Rattle.tree_target.specs.Stands.{StandsFor}
use Rattle.run_inputs.specs.Known.{Known}
use Rattle.run_transcript.specs.declared.scripts.ScriptEdit.{ScriptEdit}
use Rattle.run_transcript.specs.Runs.{Run}
use Rattle.run_verdicts.specs.declared.verdict.Field.TheVariants as field
use Rattle.run_verdicts.specs.declared.verdict.Verdict.{Verdict}
use Rattle.run_verdicts.specs.declared.verdict.Verdict.TheVariants as verdict
use Rattle.run_verdicts.specs.Places.{ArePlaces, IsBadPlace, IsLowest}
use Rattle.run_verdicts.specs.Nexts.{places_of, told}
use Rattle.run_verdicts.specs.Faults.{Judges}
use Rattle.run_verdicts.specs.Laws.{IsLaidOut}
use Rattle.check_records.specs.Seats.{IsBound, all_responses, responses_of}
use Rattle.check_records.specs.Told.{IsTold, queues_told}
use Rattle.run_check.specs.declared.records.Records.{Records}
use Rattle.run_check.specs.Finished.{lines_of, number_of}
use Rattle.run_check.specs.ToldRun.{finished_of, run_of}
use Rattle.run_check.specs.Pieces.{AreLinesBelow, AreBodiesBelow, line_places, response_places}
use Rattle.run_check.specs.Verdicts.{IsJudged}
use Rattle.run_check.proofs.Placing.{told_places}
use Rattle.run_check.proofs.Bounding.{bound_is}

-- each file has its queue
queues_are : (queue : ℕ) (files : List (List Capsule)) (rs : List (List Response))
    → length files ≡ length rs → length (queues_told queue files rs) ≡ length files
queues_are queue [] [] e = refl
queues_are queue [] (r ∷ rs) e = absurd (omega (arith, e))
queues_are queue (file ∷ files) [] e = absurd (omega (arith, e))
queues_are queue (file ∷ files) (r ∷ rs) e =
    let more = queues_are (queue + 1) files rs (omega (arith, e)) in
    omega (arith, more)

pub laid_out : (s : Known) (r : Records) → length s.files ≡ length r.responses.items
    → IsLaidOut (number_of (finished_of s r)) (run_of (finished_of s r))
laid_out s r e = record {
  history_is = refl;
  queues = queues_are 1 s.files (all_responses r.responses.items)
      (e ∙ sym (length-map r.responses.items responses_of));
}

-- the lowest bad place is the run's first fault
pub bad_place : (s : Known) (r : Records) (n place : ℕ) → length s.files ≡ length r.responses.items
    → n ≡ number_of (finished_of s r)
    → IsLowest (IsBadPlace n (line_places (lines_of r.journal)
    ++ response_places r.responses.items)) place
    → IsJudged (finished_of s r) (verdict.NotLegal place field.Place)
bad_place s r n place e is low = record {
  laid = laid_out s r e;
  judges = subst (λ (m : ℕ). IsLowest (IsBadPlace m (places_of (told (run_of (finished_of s r))))) place)
      is (subst (λ (xs : List ℕ). IsLowest (IsBadPlace n xs) place)
      (sym (told_places s.script s.files r.responses.items (lines_of r.journal) e)) low);
}

-- what judging makes of each run that the records tell
abbrev pub JudgesAll : ℕ → ℕ → Kept → List ScriptEdit → List (List Capsule) → Records → Verdict
    → Type 0
JudgesAll n bound target script files r v = (run : Run)
    → IsTold n run script files (all_responses r.responses.items) (lines_of r.journal)
    → IsBound run bound → ArePlaces n (places_of (told run)) → StandsFor target run.start
    → Judges n run v

by_number : (s : Known) (r : Records) (n bound : ℕ) (target : Kept) (v : Verdict)
    → length s.files ≡ length r.responses.items → n ≡ number_of (finished_of s r)
    → ArePlaces n (line_places (lines_of r.journal) ++ response_places r.responses.items)
    → ((p : ℕ) → (bound ≤ p) ↔ (AreLinesBelow p (lines_of r.journal)
    × AreBodiesBelow p 1 s.files (all_responses r.responses.items)))
    → JudgesAll n bound target s.script s.files r v → StandsFor target s.start
    → IsJudged (finished_of s r) v
by_number s r n bound target v e is places bounds judges stands =
    let f = finished_of s r in
    let run = run_of f in
    let all = all_responses r.responses.items in
    let here : JudgesAll (number_of f) bound target s.script s.files r v =
    subst (λ (m : ℕ). JudgesAll m bound target s.script s.files r v) is judges in
    let is_told : IsTold (number_of f) run s.script s.files all (lines_of r.journal) = record {
      script_is = refl;
      files_are = refl;
      editor_is = refl;
      queues_are = refl;
      history_is = refl;
    } in
    let placed : ArePlaces (number_of f) (places_of (told run)) =
    subst (λ (m : ℕ). ArePlaces m (places_of (told run))) is
    (subst (ArePlaces n)
    (sym (told_places s.script s.files r.responses.items (lines_of r.journal) e)) places) in
    record {
      laid = laid_out s r e;
      judges = here run is_told (bound_is s.script (lines_of r.journal) s.files all bound bounds)
          placed stands;
    }

pub judged : (s : Known) (r : Records) (n bound : ℕ) (target : Kept) (script : List ScriptEdit)
    (files : List (List Capsule)) (v : Verdict)
    → s.script ≡ script → s.files ≡ files → length files ≡ length r.responses.items
    → n ≡ number_of (finished_of s r)
    → ArePlaces n (line_places (lines_of r.journal) ++ response_places r.responses.items)
    → ((p : ℕ) → (bound ≤ p) ↔ (AreLinesBelow p (lines_of r.journal)
    × AreBodiesBelow p 1 files (all_responses r.responses.items)))
    → JudgesAll n bound target script files r v → StandsFor target s.start
    → IsJudged (finished_of s r) v
judged s r n bound target script files v same_script same_files e is places bounds judges stands =
    by_number s r n bound target v (ap length same_files ∙ e) is places
    (subst (λ (fs : List (List Capsule)). (p : ℕ) → (bound ≤ p) ↔ (AreLinesBelow p (lines_of r.journal)
    × AreBodiesBelow p 1 fs (all_responses r.responses.items))) (sym same_files) bounds)
    (subst (λ (fs : List (List Capsule)). JudgesAll n bound target s.script fs r v) (sym same_files)
    (subst (λ (es : List ScriptEdit). JudgesAll n bound target es files r v) (sym same_script) judges))
    stands
