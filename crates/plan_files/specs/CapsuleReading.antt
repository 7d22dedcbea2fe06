-- Reading capsules from the first byte of a file on: the capsules, or the first cut or passed limit.
use Rattle.std.specs.Prelude.{ℕ, zero, suc, ◌+◌, Bool, true, false, List, [], ◌∷◌, length, drop, nat_lt, if◌then◌else◌, Result, Ok, Err}
use Rattle.sqe_cqe.specs.Sqe.{payload_len}
use Rattle.text_lines.specs.Answers as answers
use Rattle.plan_files.specs.Binding.{◌>>=◌}
use Rattle.plan_files.specs.Capsules.{Capsule, capsule_of, head_of}
use Rattle.plan_files.specs.Rooms.{capsule_room}
use Rattle.mem_bdev.specs.declared.limits.TheConstants.{MAX_TRANSFER}
use Rattle.plan_files.specs.declared.capsules.TheConstants.{MAX_CAPSULES, MAX_OUTPUT}
use Rattle.plan_files.specs.declared.capsules.CapsuleError.{CapsuleError}
use Rattle.plan_files.specs.declared.capsules.CapsuleError.TheVariants as errors
use Rattle.plan_files.specs.declared.limits.What.TheVariants.{Capsules, Data, Output}

-- whether an error is want of memory
abbrev pub is_memory : CapsuleError → Bool
is_memory errors.Memory = true
is_memory (errors.Cut offset) = false
is_memory (errors.TooLong what count) = false

-- an error is what reading gives, unless memory ran out
abbrev pub Fails : {Y : Type 0} → CapsuleError → Result Y CapsuleError → Type 0
Fails e read = answers.Fails is_memory e read

-- what a call answered, seen by `view`, is what reading gives, unless memory ran out
abbrev pub Gives : {X Y : Type 0} → (X → Y) → Result X CapsuleError → Result Y CapsuleError → Type 0
Gives view result read = answers.Gives Fails view result read

-- The next capsule: the first of what is left from the offset `at` on, after capsules that need this room. In one capsule
-- a cut entry comes first, then data that are too long, then cut data, then too much room.
unfoldable pub next_capsule : ℕ → ℕ → List ℕ → Result Capsule CapsuleError
next_capsule at room bytes =
    if nat_lt (length bytes) 64 then Err (errors.Cut at) else
    (if nat_lt MAX_TRANSFER (payload_len (head_of bytes)) then Err
    (errors.TooLong Data (payload_len (head_of bytes))) else
    (if nat_lt (length bytes) (64 + payload_len (head_of bytes)) then Err (errors.Cut at) else
    (if nat_lt MAX_OUTPUT (room + capsule_room (head_of bytes)) then Err
    (errors.TooLong Output (room + capsule_room (head_of bytes))) else
    Ok (capsule_of bytes))))

-- how many bytes a capsule takes in its file
abbrev pub width : Capsule → ℕ
width c = 64 + payload_len c.entry

-- the capsules from the offset `at` on, where so many more are allowed
unfoldable pub capsules_from : ℕ → ℕ → ℕ → List ℕ → Result (List Capsule) CapsuleError
capsules_from left at room [] = Ok []
capsules_from zero at room (b ∷ bytes) = Err (errors.TooLong Capsules (MAX_CAPSULES + 1))
capsules_from (suc left) at room (b ∷ bytes) =
    next_capsule at room (b ∷ bytes) >>= λ c.
    capsules_from left (at + width c) (room + capsule_room c.entry) (drop (width c) (b ∷ bytes)) >>=
    λ cs. Ok (c ∷ cs)

-- the capsules of a file, or its first fault
abbrev pub capsules_of : List ℕ → Result (List Capsule) CapsuleError
capsules_of bytes = capsules_from MAX_CAPSULES 0 160 bytes
