-- The files that a run writes, one after another.
use Rattle.std.specs.Prelude.{◌≡◌, ◌≢◌, ◌⊎◌, ℕ, true, List, [], ◌∷◌, ◌++◌, map, Result, Ok, Err}
use Rattle.std.specs.List.{AllByRecursion}
use Rattle.run_outcomes.specs.declared.numbers.FileNo.{FileNo}
use Rattle.run_outcomes.specs.declared.faults.Fault.{Fault}
use Rattle.run_outcomes.specs.declared.faults.Fault.TheVariants as fault
use Rattle.run_outcomes.specs.Outsides.{Told, HoldsNow, FilesView, FailedCall, Kept}

-- a file by its number and name, with what it is to hold
pub record ToWrite : Type 0 where
  pub file : FileNo
  pub name : List ℕ
  pub bytes : List ℕ

-- each of these files holds exactly its bytes
abbrev pub AreWritten : Told → Told → List ToWrite → Type 0
AreWritten before after files = AllByRecursion (λ w. HoldsNow before after w.name w.bytes) files

-- names that are none of these hold what they held
abbrev pub KeptBut : Told → Told → List ToWrite → Type 0
KeptBut before after files =
    (name : List ℕ) → AllByRecursion (λ w. name ≢ w.name) files
    → after.holds name ≡ before.holds name

-- no two of these have one name
abbrev pub AreApart : List ToWrite → Type 0
AreApart [] = Unit {0}
AreApart (w ∷ files) = AllByRecursion (λ v. w.name ≢ v.name) files × AreApart files

-- The write of this file failed, and it was the last call on the files; or there was no memory for
-- it, and it holds what it held.
abbrev pub WriteFails : ToWrite → FilesView → FilesView → Fault → Type 0
WriteFails w before after (fault.WriteFault n) = (n ≡ w.file)
    × FailedCall true w.name before after
WriteFails w before after fault.Memory = after.told.holds w.name ≡ before.told.holds w.name
WriteFails w before after (fault.Malformed n place) = ⊥
WriteFails w before after (fault.Limit n what count) = ⊥
WriteFails w before after (fault.ReadFault n) = ⊥
WriteFails w before after (fault.ConfigRefused edit errno) = ⊥

-- The files before one are written, that one was not, and no other name was touched.
pub record StopsAt (files : List ToWrite) (before after : FilesView) (f : Fault) : Type 0 where
  pub done : List ToWrite
  pub here : ToWrite
  pub rest : List ToWrite
  pub split : files ≡ done ++ here ∷ rest
  pub written : AreWritten before.told after.told done
  pub kept : KeptBut before.told after.told (done ++ here ∷ [])
  pub fails : WriteFails here before after f

-- all are written and nothing else is touched
pub record AllWritten (files : List ToWrite) (before after : Told) : Type 0 where
  pub written : AreWritten before after files
  pub kept : KeptBut before after files

-- what the writes of these files answer, one after another
abbrev pub Writes : List ToWrite → FilesView → FilesView → Result (Unit {0}) Fault → Type 0
Writes files before after (Ok u) = AllWritten files before.told after.told
Writes files before after (Err f) = StopsAt files before after f
