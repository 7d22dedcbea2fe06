-- Why a plan was not generated, and what that left.
use Rattle.std.specs.Prelude.{◌≡◌, ◌⊎◌, ℕ, List, [], ◌∷◌, ◌++◌, codes, Err}
use Rattle.gen_files.specs.Seeds.{Base}
use Rattle.gen_files.specs.Contents.{plan_name}
use Rattle.run_inputs.specs.Reading.{ReadsAll}
use Rattle.run_outcomes.specs.declared.faults.Fault.{Fault}
use Rattle.run_outcomes.specs.declared.faults.Fault.TheVariants as fault
use Rattle.run_outcomes.specs.declared.numbers.TheConstants.{SINK}
use Rattle.run_outcomes.specs.Numbers.{file_of}
use Rattle.run_outcomes.specs.Outsides.{Told, Outside, FilesView, Kept, Said, FailedPut}
use Rattle.run_outcomes.specs.Texts.{line_of}
use Rattle.run_outcomes.specs.Written.{ToWrite, StopsAt, AllWritten}
use Rattle.run_gen.specs.Summed.{IsSummed}
use Rattle.run_gen.specs.Written.{generated, HoldsJust, name_or}

-- the name of a generated file, by the file of a fault; the name that they begin with, where none has
-- its number
abbrev pub name_in : Base → Fault → List ℕ
name_in b f = name_or (generated b) (file_of f).0 b.name

-- files in memory that hold just the seven were read, and that ended by this fault
pub record Unreadable (b : Base) (f : Fault) : Type 0 where
  pub before : FilesView
  pub after : FilesView
  pub just : HoldsJust (generated b) before.told
  pub cause : ReadsAll before after (plan_name b.name) (Err f)

-- The seven files are not those of a run: reading them ends by this fault. Nothing was written, and
-- the sink took the line that says so.
pub record Unread (before after : Outside) (b : Base) (f : Fault) : Type 0 where
  pub cause : Unreadable b f
  pub kept : Kept before.files.told after.files.told
  pub said : Said before.sink after.sink (line_of (name_in b f) f)

-- A file was not written, or there was no memory for it. The files before it hold their bytes, and no
-- later one was touched.
pub record Unwritten (before after : Outside) (b : Base) (f : Fault) : Type 0 where
  pub stops : StopsAt (generated b) before.files after.files f
  pub said : Said before.sink after.sink (line_of (name_in b f) f)

-- The sink did not take the summary. All else is as where a plan was generated.
pub record Unsaid (before after : Outside) (b : Base) : Type 0 where
  pub written : AllWritten (generated b) before.files.told after.files.told
  pub text : List ℕ
  pub summed : IsSummed after.files.told (plan_name b.name) text
  pub failed : FailedPut before.sink after.sink text

-- Memory ran out, before anything was written.
pub record NoMemory (before after : Outside) : Type 0 where
  pub kept : Kept before.files.told after.files.told
  pub said : Said before.sink after.sink (codes "out of memory" ++ 10 ∷ [])

-- what stands where a plan was not generated
abbrev pub Refusal : Outside → Outside → Base → Fault → Type 0
Refusal before after b (fault.Malformed file place) =
    Unread before after b (fault.Malformed file place)
Refusal before after b (fault.Limit file what count) =
    Unread before after b (fault.Limit file what count)
Refusal before after b (fault.ReadFault file) = Unread before after b (fault.ReadFault file)
Refusal before after b (fault.ConfigRefused edit errno) =
    Unread before after b (fault.ConfigRefused edit errno)
Refusal before after b (fault.WriteFault file) =
    ((file ≡ SINK) × Unsaid before after b)
    ⊎ Unwritten before after b (fault.WriteFault file)
Refusal before after b fault.Memory = NoMemory before after ⊎ Unwritten before after b fault.Memory

-- ---- before the line of the fault is put

-- the files of this plan were not read, or there was no memory to serve them
abbrev pub Unmade : Base → Fault → Type 0
Unmade b f = (f ≡ fault.Memory) ⊎ Unreadable b f

-- the text is the summary of files in memory that hold just the seven
pub record SummedInMemory (b : Base) (text : List ℕ) : Type 0 where
  pub told : Told
  pub just : HoldsJust (generated b) told
  pub summed : IsSummed told (plan_name b.name) text

-- a file was not written, and the sink was not asked; or the sink did not take the text
abbrev pub WriteEnds : List ToWrite → Outside → Outside → List ℕ → Fault → Type 0
WriteEnds files before after text f =
    (StopsAt files before.files after.files f × (after.sink ≡ before.sink))
    ⊎ ((f ≡ fault.WriteFault SINK) × AllWritten files before.files.told after.files.told
    × FailedPut before.sink after.sink text)

-- no summary was made; or one was made, and the files were not written or the summary not put
abbrev pub Ends : Outside → Outside → Base → Fault → Type 0
Ends before after b f =
    (Unmade b f × (after ≡ before))
    ⊎ ((text : List ℕ) × SummedInMemory b text
    × (after.files.told.tells ≡ before.files.told.tells)
    × WriteEnds (generated b) before after text f)
