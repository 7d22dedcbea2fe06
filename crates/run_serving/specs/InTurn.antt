-- All that one caller does, in turn.
use Rattle.std.specs.Prelude.{ℕ, true, false, List, length}
use Rattle.tree_target.specs.Kept.{Kept}
use Rattle.run_transcript.specs.declared.capsule_files.CapsuleFile.{CapsuleFile}
use Rattle.run_transcript.specs.declared.scripts.ScriptEdit.{ScriptEdit}
use Rattle.run_serving.specs.declared.editing.Edited.{Edited}
use Rattle.run_serving.specs.declared.output.Output.{Output}
use Rattle.run_serving.specs.Editor.{HasMade, MakesEdits}
use Rattle.run_serving.specs.Goes.{AnySize, HasAll, HasEnded, HasFront, HasNothing, IsFrontLong, MakesRound}
use Rattle.run_serving.specs.Readiness.{files_of}

-- first the fronts, then the script, then the rest of each file, then the final polls, each from
-- the place at which the one before stopped
pub record ServesInTurn (script : List ScriptEdit) (files : List CapsuleFile) (k0 : Kept)
    (os0 : List Output) (e0 : Edited) (k4 : Kept) (os3 : List Output) (e1 : Edited) (places : ℕ)
    : Type 0 where
  pub k1 : Kept
  pub k2 : Kept
  pub k3 : Kept
  pub os1 : List Output
  pub os2 : List Output
  pub n1 : ℕ
  pub n2 : ℕ
  pub n3 : ℕ
  pub fronts : MakesRound IsFrontLong false 1 (files_of files) HasNothing k0 os0 0 HasFront k1 os1 n1
  pub edits : MakesEdits script (HasMade 0) k1 e0 n1 (HasMade (length script)) k2 e1 n2
  pub rests : MakesRound AnySize false 1 (files_of files) HasFront k2 os1 n2 HasAll k3 os2 n3
  pub finals : MakesRound AnySize true 1 (files_of files) HasAll k3 os2 n3 HasEnded k4 os3 places
