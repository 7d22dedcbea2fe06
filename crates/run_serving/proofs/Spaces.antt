-- The room that the records of capsules need.
use Rattle.std.proofs.Common.{◌≡◌, ◌≤◌, ℕ, ◌+◌, refl, arith}
use Rattle.mem_bdev.specs.declared.limits.TheConstants.{MAX_TRANSFER}
use Rattle.sqe_cqe.specs.declared.sqe.Sqe.{Sqe}
use Rattle.sqe_cqe.specs.declared.way.Direction.{Direction}
use Rattle.sqe_cqe.specs.declared.way.Direction.TheVariants.{Nothing, ToController, ToHost, Both}
use Rattle.sqe_cqe.specs.Sqe.{payload_len, host_len, host_by, direction_of}
use Rattle.plan_files.specs.Rooms.{capsule_room, data_room}

-- data to the controller are as long as the SGL says
pub taken_len : (e : Sqe) → direction_of e ≡ ToController → payload_len e ≡ e.sgl_len
unfolding payload_len
taken_len e way = rw way refl

-- one record without data
pub head_room : (e : Sqe) → 32 ≤ capsule_room e
unfolding capsule_room
head_room e = omega arith

-- two records, and the data that the response has room for
pub admin_room : (e : Sqe) → 64 + data_room (direction_of e) e.sgl_len ≤ capsule_room e
unfolding capsule_room
admin_room e = omega arith

-- what the entry names for the host, where a transfer has room for it
named_room : (way : Direction) (len : ℕ) → host_by way len ≤ MAX_TRANSFER
    → host_by way len ≤ data_room way len
named_room Nothing len small = omega arith
named_room ToController len small = omega arith
named_room ToHost len small = grind arith
named_room Both len small = omega arith

-- the records of a submit and of its execute, with so many bytes
pub both_room : (e : Sqe) (n : ℕ) → n ≡ host_len e → n ≤ MAX_TRANSFER
    → 32 + (32 + n) ≤ capsule_room e
unfolding capsule_room host_len
both_room e n is small =
    let here : host_by (direction_of e) e.sgl_len ≤ MAX_TRANSFER = omega (arith, is, small) in
    omega (arith, is, named_room (direction_of e) e.sgl_len here)
