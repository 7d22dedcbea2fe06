-- What told files give settles what is read of them.
use Rattle.std.proofs.Common.{◌≡◌, ◌⊎◌, ℕ, List, [], ◌∷◌, Some, Result, Ok, Err, refl, sym, ap, subst, inl, inr, ◌∙◌}
use Rattle.run_outside.specs.Outside.{Rose}
use Rattle.run_outcomes.specs.declared.numbers.FileNo.{FileNo}
use Rattle.run_outcomes.specs.declared.faults.Fault.{Fault}
use Rattle.run_outcomes.specs.declared.faults.Fault.TheVariants as fault
use Rattle.run_outcomes.specs.Outsides.{Told, HoldsOf, FilesView}
use Rattle.run_inputs.specs.Known.{Known}
use Rattle.run_inputs.specs.Ready.{ToldFilesSettle}
use Rattle.run_check.specs.Finished.{Finished, unread}
use Rattle.run_check.specs.RecordFiles.{RecordFile, record_files, gives}
use Rattle.run_check.specs.RecordReading.{Then, Walk, ReadsSo, Reading, Tells, Behind, ReadsBoth, BothTell}

-- ---- one file
abbrev pub IsSettled : Result Finished Fault → Result Finished Fault → Type 0
IsSettled r told = (r ≡ told) ⊎ (r ≡ Err fault.Memory)

same_bytes : (told : Told) (name a b : List ℕ) → told.holds name ≡ Some a → HoldsOf told name b
    → a ≡ b
same_bytes told name a b e h = rw e at h.where_told

read_settles : (told : Told) (file : FileNo) (name : List ℕ)
    (given : List ℕ → Result Finished Fault) (q r : Result Finished Fault)
    → ReadsSo told name given q → Tells told file name given r → q ≡ r
read_settles told file name given q r h t =
    let is : t.0 ≡ h.bytes = same_bytes told name t.0 h.bytes t.1 h.held in
    h.is ∙ ap given (sym is) ∙ sym t.2

one_settles : (before after : FilesView) (file : FileNo) (name : List ℕ)
    (given : List ℕ → Result Finished Fault) (q r : Result Finished Fault)
    → (Rose before.faults after.faults → ⊥)
    → Reading before after file name given q → Tells before.told file name given r
    → IsSettled q r
one_settles before after file name given (Ok s) r quiet h t =
    inl (read_settles before.told file name given (Ok s) r h t)
one_settles before after file name given (Err (fault.Malformed n place)) r quiet h t =
    inl (read_settles before.told file name given (Err (fault.Malformed n place)) r h t)
one_settles before after file name given (Err (fault.Limit n what count)) r quiet h t =
    inl (read_settles before.told file name given (Err (fault.Limit n what count)) r h t)
one_settles before after file name given (Err (fault.ConfigRefused n errno)) r quiet h t =
    inl (read_settles before.told file name given (Err (fault.ConfigRefused n errno)) r h t)
one_settles before after file name given (Err (fault.ReadFault n)) r quiet h t =
    absurd (quiet h.1.rose)
one_settles before after file name given (Err (fault.WriteFault n)) r quiet h t = absurd h
one_settles before after file name given (Err fault.Memory) r quiet h t = inr refl

-- ---- all files
-- after a file that is settled, where the rest settles too
then_settles : (first second : Finished → Result Finished Fault → Type 0)
    (u v q r : Result Finished Fault)
    → ((s : Finished) → first s q → second s r → IsSettled q r)
    → IsSettled u v → Then u first q → Then v second r → IsSettled q r
then_settles first second u v q r rest is h k = elim is [
  | inl same ↦ by_first u (subst (λ (x : Result Finished Fault). Then x second r) (sym same) k) h
  | inr memory ↦ inr (subst (λ (x : Result Finished Fault). Then x first q) memory h)
] where
  by_first : (u : Result Finished Fault) → Then u second r → Then u first q → IsSettled q r
  by_first (Ok s) k h = rest s h k
  by_first (Err f) k h = inl (h ∙ sym k)

walk_settles : (before after : FilesView) (files : List RecordFile) (s : Finished)
    (q r : Result Finished Fault) → (Rose before.faults after.faults → ⊥)
    → Walk (Reading before after) files s q → Walk (Tells before.told) files s r → IsSettled q r
walk_settles before after [] s q r quiet h k = inl (h ∙ sym k)
walk_settles before after (file ∷ files) s q r quiet h k =
    then_settles (Walk (Reading before after) files) (Walk (Tells before.told) files) h.0 k.0 q r
    (λ t a b. walk_settles before after files t q r quiet a b)
    (one_settles before after file.number file.name (gives file s) h.0 k.0 quiet h.1 k.1) h.2 k.2

-- ---- what a run reads, and then its records
behind_settles : (before after : FilesView) (u v : Result Known Fault)
    (q r : Result Finished Fault) → (Rose before.faults after.faults → ⊥)
    → ((u ≡ v) ⊎ (u ≡ Err fault.Memory))
    → Behind (Reading before after) u q → Behind (Tells before.told) v r → IsSettled q r
behind_settles before after u v q r quiet is h k = elim is [
  | inl same ↦ by_first u
      (subst (λ (x : Result Known Fault). Behind (Tells before.told) x r) (sym same) k) h
  | inr memory ↦
      inr (subst (λ (x : Result Known Fault). Behind (Reading before after) x q) memory h)
] where
  by_first : (u : Result Known Fault) → Behind (Tells before.told) u r
      → Behind (Reading before after) u q → IsSettled q r
  by_first (Ok s) k h =
      walk_settles before after (record_files s.plan s.files) (unread s) q r quiet h k
  by_first (Err f) k h = inl (h ∙ sym k)

pub both_settle : (before after : FilesView) (name : List ℕ) (q r : Result Finished Fault)
    → ToldFilesSettle → ReadsBoth before after name q → BothTell before.told name r
    → (Rose before.faults after.faults → ⊥) → IsSettled q r
both_settle before after name q r law h k quiet =
    behind_settles before after h.0 k.0 q r quiet (law before after name h.0 k.0 h.1 k.1 quiet) h.2
    k.2
