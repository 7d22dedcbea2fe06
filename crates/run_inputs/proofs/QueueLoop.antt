-- The capsule files one after another, as a loop reads them.
use Rattle.std.proofs.Common.{◌≡◌, ◌<◌, ℕ, suc, ◌+◌, List, [], ◌∷◌, ◌++◌, length, drop, get_or, drop-cons, add-one, Result, Ok, Err, refl, sym, ap, subst, inr, ◌∙◌}
use Rattle.plan_files.specs.declared.items.QueueLine.{QueueLine}
use Rattle.plan_files.specs.Capsules.{Capsule}
use Rattle.run_outcomes.specs.Numbers.{capsules_no}
use Rattle.run_outcomes.specs.declared.numbers.FileNo.{FileNo}
use Rattle.run_outcomes.specs.declared.faults.Fault.{Fault}
use Rattle.run_outcomes.specs.Outsides.{FilesView}
use Rattle.run_inputs.specs.Gives.{CapsulesGive}
use Rattle.run_inputs.specs.InputFiles.{capsule_files}
use Rattle.run_inputs.specs.Known.{Known}
use Rattle.run_inputs.specs.QueueFile.{Counted}
use Rattle.run_inputs.specs.Reading.{Reading, ReadsFiles}
use Rattle.run_inputs.specs.Stages.{ReadsQueue, QueuesRead, StoppedIn, with_files}
use Rattle.run_inputs.specs.Views.{IsEarlier}
use Rattle.run_inputs.proofs.OneFile.{reading_then, earlier_again}

-- What came of the files that are left, after i files gave so much, came of all.
abbrev pub SoFar : FilesView → List QueueLine → ℕ → List QueueLine → List (List Capsule) → ℕ → ℕ
    → Type 0
SoFar start lines i left files input output =
    (s : Known) (before after : FilesView) (r : Result Known Fault) → IsEarlier before start
    → ReadsFiles before after (capsule_files (i + 1) left) (with_files s files input output) r
    → ReadsFiles before after (capsule_files 1 lines) (with_files s [] 0 0) r

pub none_so_far : (start : FilesView) (lines : List QueueLine) → SoFar start lines 0 lines [] 0 0
none_so_far start lines s before after r e h = h

-- one file more
pub one_more : (start now : FilesView) (lines left rest : List QueueLine) (line : QueueLine)
    (i : ℕ) (files : List (List Capsule)) (input output : ℕ) (c : Counted)
    → IsEarlier start now → left ≡ line ∷ rest → SoFar start lines i left files input output
    → ReadsQueue now.told (capsules_no (i + 1)) line.capsules input output c
    → SoFar start lines (i + 1) rest (files ++ c.capsules ∷ []) c.input c.output
one_more start now lines left rest line i files input output c later is so_far reads s before after
    r e h =
    let mid : Known = with_files s files input output in
    let u : Known = with_files s (files ++ c.capsules ∷ []) c.input c.output in
    let says = reading_then before now after (capsules_no (i + 1)) line.capsules
    (CapsulesGive (capsules_no (i + 1)) mid) (Ok u) (earlier_again before start now e later)
    (reads mid refl refl) in
    so_far s before after r e (subst
    (λ (ls : List QueueLine). ReadsFiles before after (capsule_files (i + 1) ls) mid r) (sym is)
    (Ok u, says, h))

-- why the next file, of this number and name, ended it
abbrev Stops : FilesView → FilesView → FileNo → List ℕ → ℕ → ℕ → Fault → Type 0
Stops now after number name input output f = (s : Known) → s.input ≡ input → s.output ≡ output
    → Reading now after number name (CapsulesGive number s) (Err f)

-- the file that ends it
pub stops_here : (start now after : FilesView) (lines left rest : List QueueLine)
    (line : QueueLine) (i : ℕ) (files : List (List Capsule)) (input output : ℕ) (f : Fault)
    (number : FileNo) → number ≡ capsules_no (i + 1)
    → IsEarlier start now → left ≡ line ∷ rest → SoFar start lines i left files input output
    → Stops now after number line.capsules input output f
    → (s : Known) → StoppedIn start after (capsule_files 1 lines) (with_files s [] 0 0) f
stops_here start now after lines left rest line i files input output f number n later is so_far
    stops s =
    let mid : Known = with_files s files input output in
    let here = subst (λ (x : FileNo). Stops now after x line.capsules input output f) n stops in
    inr (λ before e. so_far s before after (Err f) e (subst
    (λ (ls : List QueueLine). ReadsFiles before after (capsule_files (i + 1) ls) mid (Err f))
    (sym is) (
      Err f,
      reading_then before now after (capsules_no (i + 1)) line.capsules
          (CapsulesGive (capsules_no (i + 1)) mid) (Err f)
          (earlier_again before start now e later) (here mid refl refl),
      refl,
    )))

-- no file is left
pub all_so_far : (start : FilesView) (lines left : List QueueLine) (i : ℕ)
    (files : List (List Capsule)) (input output : ℕ)
    → left ≡ [] → SoFar start lines i left files input output → QueuesRead start lines files
all_so_far start lines left i files input output is so_far = record {
  input = input;
  output = output;
  read = λ s before after e. so_far s before after (Ok (with_files s files input output)) e
      (rw is refl);
}

-- the line of the next file
pub next_line : (lines : List QueueLine) (i : ℕ) (line : QueueLine) → i < length lines
    → line ≡ get_or lines i line → drop i lines ≡ line ∷ drop (i + 1) lines
next_line lines i line lt is =
    rw add-one (drop-cons lines i line lt
    ∙ ap (λ (q : QueueLine). q ∷ drop (suc i) lines) (sym is))
