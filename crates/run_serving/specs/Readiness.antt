-- What serving a file asks of it and of its output.
use Rattle.std.specs.Prelude.{◌≡◌, ◌≤◌, ℕ, zero, suc, ◌+◌, ◌*◌, List, [], ◌∷◌, All, length, drop, map}
use Rattle.std.specs.List.{sum_by, AllByRecursion}
use Rattle.plan_files.specs.declared.capsules.TheConstants.{MAX_CAPSULES}
use Rattle.plan_files.specs.declared.capsules.Capsule as code
use Rattle.plan_files.specs.Capsules.{Capsule, IsWholeIn, capsules_in}
use Rattle.plan_files.specs.Rooms.{capsule_room, room_of}
use Rattle.run_transcript.specs.declared.capsule_files.CapsuleFile.{CapsuleFile}
use Rattle.run_transcript.specs.Served.{front_len}
use Rattle.run_serving.specs.declared.output.Output.{Output}

-- the capsules that a file holds
abbrev pub capsules_of : CapsuleFile → List Capsule
capsules_of f = capsules_in f.bytes.items f.capsules.items

-- the data of its capsules lie in its bytes, there are not too many, and its room is that of its
-- capsules
pub record IsServable (f : CapsuleFile) : Type 0 where
  pub whole : All (IsWholeIn f.bytes.items) f.capsules.items
  pub few : length f.capsules.items ≤ MAX_CAPSULES
  pub room : f.room ≡ room_of (λ c. c.sqe) f.capsules.items

-- an output after so many capsules of a file: two records each at the most, and there is room for
-- those of the others and of the final polls
pub record IsReadyAt (f : CapsuleFile) (n : ℕ) (o : Output) : Type 0 where
  pub few : o.calls ≤ 2 * n
  pub room : length o.records.bytes
      + (160 + sum_by (λ c. capsule_room c.sqe) (drop n f.capsules.items)) ≤ o.records.room

abbrev pub nothing_of : CapsuleFile → ℕ
nothing_of f = 0

abbrev pub front_of : CapsuleFile → ℕ
front_of f = front_len (capsules_of f)

abbrev pub all_capsules : CapsuleFile → ℕ
all_capsules f = length f.capsules.items

-- each output stands after so many capsules of its file
abbrev pub AreReady : (CapsuleFile → ℕ) → List CapsuleFile → List Output → Type 0
AreReady n [] [] = Unit {0}
AreReady n [] (o ∷ os) = ⊥
AreReady n (f ∷ fs) [] = ⊥
AreReady n (f ∷ fs) (o ∷ os) = IsReadyAt f (n f) o × AreReady n fs os

abbrev pub AreServable : List CapsuleFile → Type 0
AreServable fs = AllByRecursion IsServable fs

abbrev pub files_of : List CapsuleFile → List (List Capsule)
files_of fs = map capsules_of fs

-- the opcode of a capsule
abbrev pub opcode_at : List code.Capsule → ℕ → ℕ
opcode_at [] n = 0
opcode_at (c ∷ cs) zero = c.sqe.opcode
opcode_at (c ∷ cs) (suc n) = opcode_at cs n
