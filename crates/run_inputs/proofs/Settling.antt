-- What told files give settles what is read of them.
use Rattle.std.proofs.Common.{◌≡◌, ◌⊎◌, ℕ, List, [], ◌∷◌, Some, Result, Ok, Err, refl, sym, subst, inl, inr, ◌∙◌}
use Rattle.serde_json.specs.Data.{Data}
use Rattle.nvmetcli_json.specs.Loading.{IsJson}
use Rattle.run_outside.specs.Outside.{Rose}
use Rattle.run_outcomes.specs.declared.numbers.FileNo.{FileNo}
use Rattle.run_outcomes.specs.declared.numbers.TheConstants.{PLAN, CONFIG}
use Rattle.run_outcomes.specs.declared.faults.Fault.{Fault}
use Rattle.run_outcomes.specs.declared.faults.Fault.TheVariants as fault
use Rattle.run_outcomes.specs.Outsides.{Told, HoldsOf, FilesView}
use Rattle.run_inputs.specs.ConfigurationFile.{TextStarts, ContentStarts, value_started}
use Rattle.run_inputs.specs.Contents.{content_of}
use Rattle.run_inputs.specs.Gives.{PlanBegins, KindGives, FileGives}
use Rattle.run_inputs.specs.InputFiles.{Kind, TheConfiguration, TheScript, TheCapsules, InputFile, input_files}
use Rattle.run_inputs.specs.Known.{Known}
use Rattle.run_inputs.specs.Reading.{ReadsSo, Reading, ReadsAll, Tells, FilesTell}
use Rattle.run_inputs.specs.Walk.{Then, Walk}

-- ---- bytes give one thing

json_same : (bytes : List ℕ) (d e : Data) → IsJson bytes d → IsJson bytes e → d ≡ e
json_same bytes d e h k =
    let both : Some d ≡ Some e = sym h.value ∙ k.value in
    cc

text_same : (s : Known) (bytes : List ℕ) (q r : Result Known Fault) → TextStarts s bytes q
    → TextStarts s bytes r → q ≡ r
text_same s bytes q r h k = elim h [
  | inl none ↦ elim k [ inl also ↦ none.1 ∙ sym also.1 | inr some ↦ absurd (none.0 some.0 some.1) ]
  | inr some ↦ elim k [
    | inl none ↦ absurd (none.0 some.0 some.1)
    | inr other ↦
        let e : some.0 ≡ other.0 = json_same bytes some.0 other.0 some.1 other.1 in
        some.2 ∙ subst (λ (d : Data). value_started s some.0 ≡ value_started s d) e refl
        ∙ sym other.2
  ]
]

content_same : (s : Known) (content : Result (List ℕ) Fault) (q r : Result Known Fault)
    → ContentStarts s content q → ContentStarts s content r → q ≡ r
content_same s (Ok bytes) q r h k = text_same s bytes q r h k
content_same s (Err f) q r h k = h ∙ sym k

kind_same : (kind : Kind) (file : FileNo) (s : Known) (bytes : List ℕ) (q r : Result Known Fault)
    → KindGives kind file s bytes q → KindGives kind file s bytes r → q ≡ r
kind_same TheConfiguration file s bytes q r h k =
    content_same s (content_of 4194304 CONFIG bytes) q r h k
kind_same TheScript file s bytes q r h k = h ∙ sym k
kind_same TheCapsules file s bytes q r h k = h ∙ sym k

-- ---- one file

abbrev pub IsSettled : Result Known Fault → Result Known Fault → Type 0
IsSettled r told = (r ≡ told) ⊎ (r ≡ Err fault.Memory)

-- bytes give one thing
abbrev pub IsSingle : (List ℕ → Result Known Fault → Type 0) → Type 0
IsSingle gives = (bytes : List ℕ) (q r : Result Known Fault) → gives bytes q → gives bytes r → q ≡ r

same_bytes : (told : Told) (name a b : List ℕ) → told.holds name ≡ Some a → HoldsOf told name b
    → a ≡ b
same_bytes told name a b e h = rw e at h.where_told

read_settles : (told : Told) (file : FileNo) (name : List ℕ)
    (gives : List ℕ → Result Known Fault → Type 0) (q r : Result Known Fault)
    → IsSingle gives → ReadsSo told name gives q → Tells told file name gives r → q ≡ r
read_settles told file name gives q r single h t =
    let is : t.0 ≡ h.bytes = same_bytes told name t.0 h.bytes t.1 h.held in
    single h.bytes q r h.is (subst (λ (b : List ℕ). gives b r) is t.2)

pub one_settles : (before after : FilesView) (file : FileNo) (name : List ℕ)
    (gives : List ℕ → Result Known Fault → Type 0) (q r : Result Known Fault)
    → IsSingle gives → (Rose before.faults after.faults → ⊥)
    → Reading before after file name gives q → Tells before.told file name gives r
    → IsSettled q r
one_settles before after file name gives (Ok s) r single quiet h t =
    inl (read_settles before.told file name gives (Ok s) r single h t)
one_settles before after file name gives (Err (fault.Malformed n place)) r single quiet h t =
    inl (read_settles before.told file name gives (Err (fault.Malformed n place)) r single h t)
one_settles before after file name gives (Err (fault.Limit n what count)) r single quiet h t =
    inl (read_settles before.told file name gives (Err (fault.Limit n what count)) r single h t)
one_settles before after file name gives (Err (fault.ConfigRefused n errno)) r single quiet h t =
    inl (read_settles before.told file name gives (Err (fault.ConfigRefused n errno)) r single h t)
one_settles before after file name gives (Err (fault.ReadFault n)) r single quiet h t =
    absurd (quiet h.1.rose)
one_settles before after file name gives (Err (fault.WriteFault n)) r single quiet h t = absurd h
one_settles before after file name gives (Err fault.Memory) r single quiet h t = inr refl

-- ---- all files

-- after a file that is settled, where the rest settles too
pub then_settles : (first second : Known → Result Known Fault → Type 0) (u v q r : Result Known Fault)
    → ((s : Known) → first s q → second s r → IsSettled q r)
    → IsSettled u v → Then u first q → Then v second r → IsSettled q r
then_settles first second u v q r rest is h k = elim is [
  | inl same ↦ by_first u (subst (λ (x : Result Known Fault). Then x second r) (sym same) k) h
  | inr memory ↦ inr (subst (λ (x : Result Known Fault). Then x first q) memory h)
] where
  by_first : (u : Result Known Fault) → Then u second r → Then u first q → IsSettled q r
  by_first (Ok s) k h = rest s h k
  by_first (Err f) k h = inl (h ∙ sym k)

pub walk_settles : (before after : FilesView) (files : List InputFile) (s : Known)
    (q r : Result Known Fault) → (Rose before.faults after.faults → ⊥)
    → Walk (Reading before after) files s q → Walk (Tells before.told) files s r → IsSettled q r
walk_settles before after [] s q r quiet h k = inl (h ∙ sym k)
walk_settles before after (file ∷ files) s q r quiet h k =
    then_settles (Walk (Reading before after) files) (Walk (Tells before.told) files) h.0 k.0 q r
    (λ t a b. walk_settles before after files t q r quiet a b)
    (one_settles before after file.number file.name (FileGives file s) h.0 k.0
    (kind_same file.kind file.number s) quiet h.1 k.1) h.2 k.2

pub plan_same : IsSingle PlanBegins
plan_same bytes q r h k = h ∙ sym k

pub all_settle : (before after : FilesView) (name : List ℕ) (q r : Result Known Fault)
    → ReadsAll before after name q → FilesTell before.told name r
    → (Rose before.faults after.faults → ⊥) → IsSettled q r
all_settle before after name q r h k quiet =
    then_settles (λ s. Walk (Reading before after) (input_files s.plan) s)
    (λ s. Walk (Tells before.told) (input_files s.plan) s) h.0 k.0 q r
    (λ s a b. walk_settles before after (input_files s.plan) s q r quiet a b)
    (one_settles before after PLAN name PlanBegins h.0 k.0 plan_same quiet h.1 k.1) h.2 k.2

-- ---- answers

-- a fault that was answered
pub fault_settled : (before after : FilesView) (name : List ℕ) (e f : Fault)
    → ReadsAll before after name (Err e) → FilesTell before.told name (Err f)
    → (Rose before.faults after.faults → ⊥) → (e ≡ f) ⊎ (e ≡ fault.Memory)
fault_settled before after name e f h k quiet =
    elim (all_settle before after name (Err e) (Err f) h k quiet) [
      | inl same ↦ inl cc
      | inr memory ↦ inr cc
    ]

pub fault_of_none : (before after : FilesView) (name : List ℕ) (e : Fault) (s : Known)
    → ReadsAll before after name (Err e) → FilesTell before.told name (Ok s)
    → (Rose before.faults after.faults → ⊥) → e ≡ fault.Memory
fault_of_none before after name e s h k quiet =
    elim (all_settle before after name (Err e) (Ok s) h k quiet) [
      | inl same ↦ absurd cc
      | inr memory ↦ cc
    ]

pub none_but_fault : (before after : FilesView) (name : List ℕ) (s : Known) (f : Fault)
    → ReadsAll before after name (Ok s) → FilesTell before.told name (Err f)
    → (Rose before.faults after.faults → ⊥) → ⊥
none_but_fault before after name s f h k quiet =
    elim (all_settle before after name (Ok s) (Err f) h k quiet) [
      | inl same ↦ absurd cc
      | inr memory ↦ absurd cc
    ]
