-- How many bytes of responses, and how many records, the capsules of a file can need.
use Rattle.std.specs.Prelude.{ℕ, ◌+◌, List, nat_le, if◌then◌else◌}
use Rattle.std.specs.List.{sum_by}
use Rattle.mem_bdev.specs.declared.limits.TheConstants.{MAX_TRANSFER}
use Rattle.sqe_cqe.specs.declared.sqe.Sqe.{Sqe}
use Rattle.sqe_cqe.specs.declared.way.Direction.{Direction}
use Rattle.sqe_cqe.specs.declared.way.Direction.TheVariants.{Nothing, ToController, ToHost, Both}
use Rattle.sqe_cqe.specs.Sqe.{direction_of}

-- the data that a response can carry: of a command to the host, as long as one transfer can be
abbrev pub data_room : Direction → ℕ → ℕ
data_room ToHost len = if nat_le len MAX_TRANSFER then len else 0
data_room ToController len = 0
data_room Nothing len = 0
data_room Both len = 0

-- three records of 32 bytes, and the data
unfoldable pub capsule_room : Sqe → ℕ
capsule_room e = 96 + data_room (direction_of e) e.sgl_len

-- five more records of 32 bytes, and the room of each capsule, by its entry
abbrev pub room_of : {X : Type 0} → (X → Sqe) → List X → ℕ
room_of entry capsules = 160 + sum_by (λ c. capsule_room (entry c)) capsules
