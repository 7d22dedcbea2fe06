-- The first fault of a capsule file: where whole capsules within the limits end, and why the next one can't be read.
use Rattle.std.specs.Prelude.{◌≡◌, ◌≤◌, ◌<◌, ◌⊎◌, ℕ, ◌+◌, ◌-◌, List, ◌++◌, length}
use Rattle.sqe_cqe.specs.Sqe.{payload_len}
use Rattle.plan_files.specs.Capsules.{Capsule, AreCapsules, AreWithin, head_of}
use Rattle.plan_files.specs.Rooms.{capsule_room, room_of}
use Rattle.mem_bdev.specs.declared.limits.TheConstants.{MAX_TRANSFER}
use Rattle.plan_files.specs.declared.capsules.TheConstants.{MAX_CAPSULES, MAX_OUTPUT}
use Rattle.plan_files.specs.declared.capsules.CapsuleError.{CapsuleError}
use Rattle.plan_files.specs.declared.capsules.CapsuleError.TheVariants as errors
use Rattle.plan_files.specs.declared.limits.What.TheVariants.{Capsules, Data, Output}

-- a capsule begins here and isn't whole: bytes of its entry are missing, or of its data, which aren't too long
abbrev pub IsCut : List ℕ → Type 0
IsCut bytes =
    (0 < length bytes)
    × ((length bytes < 64)
    ⊎ ((payload_len (head_of bytes) ≤ MAX_TRANSFER)
    × (length bytes < 64 + payload_len (head_of bytes))))

-- one more capsule begins here, and none may
pub record PassesCapsules (more : ℕ) (bytes : List ℕ) (count : ℕ) : Type 0 where
  pub none : more ≡ 0
  pub some : 0 < length bytes
  pub is : count ≡ MAX_CAPSULES + 1

-- an entry stands here whose data are too long
pub record PassesData (more : ℕ) (bytes : List ℕ) (count : ℕ) : Type 0 where
  pub may : 0 < more
  pub entry : 64 ≤ length bytes
  pub is : count ≡ payload_len (head_of bytes)
  pub long : MAX_TRANSFER < count

-- a whole capsule stands here for whose responses there is no room, after capsules that need this room
pub record PassesOutput (more room : ℕ) (bytes : List ℕ) (count : ℕ) : Type 0 where
  pub may : 0 < more
  pub short : payload_len (head_of bytes) ≤ MAX_TRANSFER
  pub whole : 64 + payload_len (head_of bytes) ≤ length bytes
  pub is : count ≡ room + capsule_room (head_of bytes)
  pub over : MAX_OUTPUT < count

-- Why the capsule that begins at this offset can't be read, where so many may still come and those before it need this
-- room.
abbrev pub NextFault : ℕ → ℕ → ℕ → List ℕ → CapsuleError → Type 0
NextFault more room offset bytes errors.Memory = ⊥
NextFault more room offset bytes (errors.Cut at) = (at ≡ offset) × (0 < more) × IsCut bytes
NextFault more room offset bytes (errors.TooLong what count) =
    ((what ≡ Capsules) × PassesCapsules more bytes count)
    ⊎ (((what ≡ Data) × PassesData more bytes count)
    ⊎ ((what ≡ Output) × PassesOutput more room bytes count))

-- Whole capsules within the limits fill the first bytes of the file, and the next one can't be read for this reason.
pub record FirstFault (bytes : List ℕ) (e : CapsuleError) : Type 0 where
  pub done : List ℕ
  pub left : List ℕ
  pub is : bytes ≡ done ++ left
  pub cs : List Capsule
  pub are : AreCapsules done cs
  pub within : AreWithin cs
  pub next : NextFault (MAX_CAPSULES - length cs) (room_of (λ c. c.entry) cs) (length done) left e
