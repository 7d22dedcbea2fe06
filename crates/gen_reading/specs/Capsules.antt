-- The capsules of the queue files of a generated plan: entries, each with its data.
use Rattle.std.specs.Prelude.{ℕ, ◌+◌, ◌-◌, ◌*◌, List, [], ◌∷◌, ◌++◌, map}
use Rattle.std.specs.List.{range_with_len}
use Rattle.sqe_cqe.specs.declared.sqe.Sqe.{Sqe}
use Rattle.plan_files.specs.Capsules.{Capsule}
use Rattle.gen_files.specs.Entries.{connect_entry, connect_data, enable_entry, event_entry, log_entry}
use Rattle.gen_files.specs.Commands.{command_entry, command_data, draws}

abbrev pub with_payload : Sqe → List ℕ → Capsule
with_payload e payload = record { entry = e; payload = payload }

-- capsules without data whose entries differ in their command identifiers alone, the first of them
-- with this one
abbrev pub plain_capsules : (ℕ → Sqe) → ℕ → ℕ → List Capsule
plain_capsules entry first count = map (λ n. with_payload (entry (first + n)) [])
    (range_with_len 0 count)

-- Connect, the controller is enabled, four event requests, sixteen reads of the changed namespace list
abbrev pub admin_capsules : List Capsule
admin_capsules =
    with_payload (connect_entry 0 31) (connect_data 65535)
    ∷ with_payload (enable_entry 1) []
    ∷ (plain_capsules event_entry 2 4 ++ plain_capsules log_entry 6 16)

-- command k of the I/O queue with this identifier
abbrev pub command_of : ℕ → ℕ → ℕ → Capsule
command_of rounds qid k = with_payload
    (command_entry k (draws rounds ((qid - 1) * (4 * rounds) + k + 1))) (command_data k)

-- Connect to controller 1, and four commands a round
abbrev pub io_capsules : ℕ → ℕ → List Capsule
io_capsules rounds qid = with_payload (connect_entry qid 127) (connect_data 1)
    ∷ map (command_of rounds qid) (range_with_len 0 (4 * rounds))
