-- What the bytes of a capsule file give.
use Rattle.std.specs.Prelude.{ℕ, ◌+◌, List, [], ◌∷◌, ◌++◌, length, Result, Ok, Err}
use Rattle.plan_files.specs.declared.capsules.CapsuleError.{CapsuleError}
use Rattle.plan_files.specs.declared.capsules.CapsuleError.TheVariants as queues
use Rattle.plan_files.specs.declared.limits.What.TheVariants.{AllInput, AllOutput}
use Rattle.plan_files.specs.Binding.{◌>>=◌}
use Rattle.plan_files.specs.Capsules.{Capsule}
use Rattle.plan_files.specs.CapsuleReading.{capsules_of}
use Rattle.plan_files.specs.Rooms.{room_of}
use Rattle.run_inputs.specs.declared.contents.TheConstants.{MAX_QUEUE_BYTES}
use Rattle.run_inputs.specs.declared.queue_files.TheConstants.{MAX_ALL_INPUT, MAX_ALL_OUTPUT}
use Rattle.run_outcomes.specs.declared.faults.At.TheVariants as at
use Rattle.run_outcomes.specs.declared.numbers.FileNo.{FileNo}
use Rattle.run_outcomes.specs.declared.faults.Fault.{Fault}
use Rattle.run_outcomes.specs.declared.faults.Fault.TheVariants as fault
use Rattle.run_inputs.specs.Contents.{content_of, total_of}
use Rattle.run_inputs.specs.Known.{Known}

-- the capsules of a file, with the bytes of all capsule files up to it and the room of all
-- responses to them
pub record Counted : Type 0 where
  pub capsules : List Capsule
  pub input : ℕ
  pub output : ℕ

abbrev pub capsule_error : FileNo → CapsuleError → Fault
capsule_error file (queues.Cut offset) = fault.Malformed file (at.Offset offset)
capsule_error file (queues.TooLong what count) = fault.Limit file what count
capsule_error file queues.Memory = fault.Memory

abbrev pub or_fault : FileNo → Result (List Capsule) CapsuleError → Result (List Capsule) Fault
or_fault file (Ok cs) = Ok cs
or_fault file (Err e) = Err (capsule_error file e)

-- the room of the responses to these capsules
abbrev pub room_of_all : List Capsule → ℕ
room_of_all cs = room_of (λ c. c.entry) cs

abbrev pub counted : List Capsule → ℕ → ℕ → Counted
counted cs input output = record { capsules = cs; input = input; output = output }

-- Of a file within its own limit, where the files before it have so many bytes and need so much
-- room: first the bytes of all, then its capsules, then the room of all.
unfoldable pub counted_in : FileNo → ℕ → ℕ → List ℕ → Result Counted Fault
counted_in file before room bytes =
    total_of MAX_ALL_INPUT file AllInput (before + length bytes) >>= λ input.
    or_fault file (capsules_of bytes) >>= λ cs.
    total_of MAX_ALL_OUTPUT file AllOutput (room + room_of_all cs) >>= λ output.
    Ok (counted cs input output)

-- of a file of at most 64 MiB
unfoldable pub queue_of_file : FileNo → ℕ → ℕ → List ℕ → Result Counted Fault
queue_of_file file before room bytes =
    content_of MAX_QUEUE_BYTES file bytes >>= λ b. counted_in file before room b

abbrev pub with_file : Known → Result Counted Fault → Result Known Fault
with_file s (Ok c) = Ok (record s {
  files = s.files ++ c.capsules ∷ [];
  input = c.input;
  output = c.output;
})
with_file s (Err f) = Err f
