-- The queue files of a generated plan. Each entry has its position in its file as command identifier.
use Rattle.std.specs.Prelude.{ℕ, zero, suc, ◌+◌, ◌-◌, ◌*◌, ◌/◌, ◌%◌, ◌^◌, ◌==◌, if◌then◌else◌, List, [], ◌++◌, map}
use Rattle.std.specs.List.{flat_map, range_with_len}
use Rattle.sqe_cqe.specs.declared.codes.TheConstants.{READ, WRITE, WRITE_ZEROES}
use Rattle.sqe_cqe.specs.declared.sqe.Sqe.{Sqe}
use Rattle.gen_files.specs.Entries.{plain_entry, connect_bytes, enable_entry, event_entry, log_entry, capsule_bytes}

-- ---- drawn numbers
-- a linear congruential generator of 31 bits
abbrev pub next_draw : ℕ → ℕ
next_draw x = (x * 1103515245 + 12345) % 2 ^ 31

-- after so many steps from a seed
abbrev pub draws : ℕ → ℕ → ℕ
draws seed zero = seed
draws seed (suc n) = next_draw (draws seed n)

-- ---- one command
-- of four commands two read, the third writes, the fourth zeroes
abbrev pub opcode_of : ℕ → ℕ
opcode_of k = if k % 4 == 2 then WRITE else (if k % 4 == 3 then WRITE_ZEROES else READ)

-- four commands at namespace 1, then four at namespace 2
abbrev pub nsid_of : ℕ → ℕ
nsid_of k = 1 + k / 4 % 2

-- the disks of the two namespaces: the block size in bytes, and the number of blocks
abbrev pub block_of : ℕ → ℕ
block_of k = if nsid_of k == 1 then 512 else 4096

abbrev pub blocks_of : ℕ → ℕ
blocks_of k = if nsid_of k == 1 then 2048 else 256

-- a Write Zeroes moves no data
abbrev pub moved_by : ℕ → ℕ
moved_by k = if k % 4 == 3 then 0 else block_of k

-- command k of a file, counted from 0, of one block at the place that a drawn number gives; Connect
-- stands before it
unfoldable pub command_entry : ℕ → ℕ → Sqe
command_entry k drawn = record (plain_entry (opcode_of k) (k + 1)) {
  nsid = nsid_of k;
  sgl_len = moved_by k;
  cdw10 = drawn / 256 % blocks_of k;
}

-- byte j of the data is k + j, modulo 256
abbrev pub pattern : ℕ → ℕ → List ℕ
pattern k size = map (λ j. (k + j) % 256) (range_with_len 0 size)

unfoldable pub command_data : ℕ → List ℕ
command_data k = if k % 4 == 2 then pattern k (block_of k) else []

abbrev pub command_bytes : ℕ → ℕ → List ℕ
command_bytes k drawn = capsule_bytes (command_entry k drawn) (command_data k)

-- ---- the files
-- so many commands of the I/O queue with this identifier. The numbers are drawn through the files of
-- the I/O queues, one after another, each of four commands a round.
abbrev pub commands : ℕ → ℕ → ℕ → List ℕ
commands rounds qid count =
    flat_map (λ k. command_bytes k (draws rounds ((qid - 1) * (4 * rounds) + k + 1)))
    (range_with_len 0 count)

-- the file of an I/O queue: Connect to controller 1, and four commands a round
unfoldable pub io_queue_bytes : ℕ → ℕ → List ℕ
io_queue_bytes rounds qid = connect_bytes qid 127 1 ++ commands rounds qid (4 * rounds)

-- entries that differ in their command identifiers alone, the first of them with this one
abbrev pub entries_from : (ℕ → Sqe) → ℕ → ℕ → List ℕ
entries_from entry first count = flat_map (λ n. capsule_bytes (entry (first + n)) [])
    (range_with_len 0 count)

-- the file of the admin queue: Connect, which makes the controller; it is enabled; four event
-- requests; sixteen reads of the changed namespace list
unfoldable pub admin_queue_bytes : List ℕ
admin_queue_bytes = connect_bytes 0 31 65535 ++ capsule_bytes (enable_entry 1) []
    ++ entries_from event_entry 2 4 ++ entries_from log_entry 6 16
