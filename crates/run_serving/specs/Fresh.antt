-- Outputs at the beginning of a run.
use Rattle.std.specs.Prelude.{List, [], map}
use Rattle.run_transcript.specs.declared.capsule_files.CapsuleFile.{CapsuleFile}
use Rattle.run_transcript.specs.Runs.{Placed}
use Rattle.run_serving.specs.declared.output.Output.{Output}
use Rattle.run_serving.specs.Goes.{PrintEach}
use Rattle.run_serving.specs.Readiness.{AreReady, nothing_of}

-- for each file an empty list
abbrev pub empties : List CapsuleFile → List (List Placed)
empties fs = map (λ f. []) fs

-- each output prints no call, and has the room that its file needs
pub record AreFresh (fs : List CapsuleFile) (os : List Output) : Type 0 where
  pub ready : AreReady nothing_of fs os
  pub prints : PrintEach os (empties fs)
