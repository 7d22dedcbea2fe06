-- What is read of generated queue files.
use Rattle.std.proofs.Common.{◌≡◌, ◌≤◌, ◌<◌, ◌*◌, ℕ, ◌+◌, List, [], ◌++◌, length, map, Ok, refl, sym, subst, ◌∙◌, append_assoc, arith}
use Rattle.std.proofs.lemmas.List.Concat.{flat_map-append}
use Rattle.std.proofs.lemmas.List.Folds.{flat_map-map}
use Rattle.std.proofs.lemmas.List.FromFn.{length-map-range_with_len}
use Rattle.std.proofs.lemmas.List.Sums.{sum_by-cons}
use Rattle.std.specs.List.{AllByRecursion, flat_map, range_with_len, sum_by}
use Rattle.sqe_cqe.specs.Sqe.{payload_len, direction_of}
use Rattle.sqe_cqe.specs.declared.sqe.Sqe.{Sqe}
use Rattle.plan_files.specs.Capsules.{Capsule, AreCapsules}
use Rattle.plan_files.specs.CapsuleReading.{capsules_of}
use Rattle.plan_files.specs.Rooms.{capsule_room}
use Rattle.plan_files.proofs.Fitting.{are_read}
use Rattle.gen_files.specs.Entries.{connect_bytes, connect_data, connect_names, connect_entry, enable_entry, event_entry, log_entry, zeros}
use Rattle.gen_files.specs.Commands.{admin_queue_bytes, io_queue_bytes, entries_from}
use Rattle.gen_reading.specs.Capsules.{with_payload, plain_capsules, admin_capsules, command_of, io_capsules}
use Rattle.gen_reading.proofs.Whole.{IsSound, bytes_of, are_capsules}
use Rattle.gen_reading.proofs.Within.{IsFine, made_fits, command_fine, command_low, all_range, all_both, all_give, rooms, commands_room, spare_small}

-- ---- the bytes are those of the capsules

plain_bytes : (entry : ℕ → Sqe) (first count : ℕ)
    → entries_from entry first count ≡ flat_map bytes_of (plain_capsules entry first count)
plain_bytes entry first count = sym (flat_map-map bytes_of
    (λ (n : ℕ). with_payload (entry (first + n)) []) (range_with_len 0 count))

connect_capsule : (qid sqsize cntlid : ℕ)
    → connect_bytes qid sqsize cntlid ≡ bytes_of (with_payload (connect_entry qid sqsize)
    (connect_data cntlid))
unfolding connect_bytes
connect_capsule qid sqsize cntlid = refl

admin_bytes : admin_queue_bytes ≡ flat_map bytes_of admin_capsules
unfolding admin_queue_bytes
admin_bytes = rw (
  connect_capsule 0 31 65535,
  plain_bytes event_entry 2 4,
  plain_bytes log_entry 6 16,
  flat_map-append bytes_of (plain_capsules event_entry 2 4) (plain_capsules log_entry 6 16),
) (append_assoc (connect ++ enable) events logs ∙ append_assoc connect enable (events ++ logs)) where
  connect : List ℕ
  connect = bytes_of (with_payload (connect_entry 0 31) (connect_data 65535))

  enable : List ℕ
  enable = bytes_of (with_payload (enable_entry 1) [])

  events : List ℕ
  events = flat_map bytes_of (plain_capsules event_entry 2 4)

  logs : List ℕ
  logs = flat_map bytes_of (plain_capsules log_entry 6 16)

io_bytes : (rounds qid : ℕ) → io_queue_bytes rounds qid
    ≡ flat_map bytes_of (io_capsules rounds qid)
unfolding io_queue_bytes
io_bytes rounds qid = rw (
  connect_capsule qid 127 1,
  flat_map-map bytes_of (command_of rounds qid) (range_with_len 0 (4 * rounds)),
) refl

-- ---- each capsule is sound and short

length_connect : (cntlid : ℕ) → length (connect_data cntlid) ≡ 1024
unfolding connect_data connect_names zeros
length_connect cntlid = refl

connect_fine : (qid sqsize cntlid : ℕ) → qid ≤ 3 → sqsize ≤ 127
    → IsFine 4192 (with_payload (connect_entry qid sqsize) (connect_data cntlid))
unfolding payload_len capsule_room direction_of
connect_fine qid sqsize cntlid q s = record {
  sound = record {
    fit = made_fits 127 0 1 1024 (qid * 65536) sqsize 0 (omega arith) (omega arith) (omega arith)
        (omega arith) (omega (arith, q)) (omega (arith, s)) (omega arith);
    four = refl;
    len = length_connect cntlid;
  };
  short = omega arith;
  roomy = omega arith;
}

enable_fine : IsFine 4192 (with_payload (enable_entry 1) [])
unfolding payload_len capsule_room direction_of
enable_fine = record {
  sound = record {
    fit = made_fits 127 1 0 0 0 20 4587521 (omega arith) (omega arith) (omega arith)
        (omega arith) (omega arith) (omega arith) (omega arith);
    four = refl;
    len = refl;
  };
  short = omega arith;
  roomy = omega arith;
}

event_fine : (cid : ℕ) → cid < 65536 → IsFine 4192 (with_payload (event_entry cid) [])
unfolding payload_len capsule_room direction_of
event_fine cid lt = record {
  sound = record {
    fit = made_fits 12 cid 0 0 0 0 0 (omega arith) lt (omega arith) (omega arith) (omega arith)
        (omega arith) (omega arith);
    four = refl;
    len = refl;
  };
  short = omega arith;
  roomy = omega arith;
}

log_fine : (cid : ℕ) → cid < 65536 → IsFine 4192 (with_payload (log_entry cid) [])
unfolding payload_len capsule_room direction_of
log_fine cid lt = record {
  sound = record {
    fit = made_fits 2 cid 0 4096 67043332 0 0 (omega arith) lt (omega arith) (omega arith)
        (omega arith) (omega arith) (omega arith);
    four = refl;
    len = refl;
  };
  short = omega arith;
  roomy = omega arith;
}

admin_fine : AllByRecursion (IsFine 4192) admin_capsules
admin_fine = (
  connect_fine 0 31 65535 (omega arith) (omega arith),
  (
    enable_fine,
    all_both (IsFine 4192) (plain_capsules event_entry 2 4) (plain_capsules log_entry 6 16)
        (all_range (IsFine 4192) (λ (n : ℕ). with_payload (event_entry (2 + n)) []) 0 4
        (λ k lt. event_fine (2 + k) (omega (arith, lt))))
        (all_range (IsFine 4192) (λ (n : ℕ). with_payload (log_entry (6 + n)) []) 0 16
        (λ k lt. log_fine (6 + k) (omega (arith, lt)))),
  ),
)

commands_fine : (rounds qid : ℕ) → rounds ≤ 4096
    → AllByRecursion (IsFine 4192) (map (command_of rounds qid) (range_with_len 0 (4 * rounds)))
commands_fine rounds qid few = all_range (IsFine 4192) (command_of rounds qid) 0 (4 * rounds)
    (λ k lt. command_fine k _ (omega (arith, lt, few)))

-- ---- the limits on a file

sound_of : (c : Capsule) → IsFine 4192 c → IsSound c
sound_of c f = f.sound

short_of : (c : Capsule) → IsFine 4192 c → payload_len c.entry ≤ 131072
short_of c f = f.short

roomy_of : (c : Capsule) → IsFine 4192 c → capsule_room c.entry ≤ 4192
roomy_of c f = f.roomy

-- fine capsules are read, where they are few and so is their room
fine_read : (bytes : List ℕ) (cs : List Capsule) → bytes ≡ flat_map bytes_of cs
    → AllByRecursion (IsFine 4192) cs → length cs ≤ 65536
    → 160 + sum_by (λ (c : Capsule). capsule_room c.entry) cs ≤ 67108864
    → capsules_of bytes ≡ Ok cs
fine_read bytes cs e fine few roomy = are_read bytes cs
    (subst (λ (l : List ℕ). AreCapsules l cs) (sym e)
    (are_capsules cs (all_give (IsFine 4192) IsSound cs sound_of fine)))
    (record {
      count = few;
      payload = all_give (IsFine 4192) (λ (c : Capsule). payload_len c.entry ≤ 131072) cs short_of
          fine;
      output = roomy;
    })

pub admin_read : capsules_of admin_queue_bytes ≡ Ok admin_capsules
admin_read =
    let room = rooms admin_capsules 4192
    (all_give (IsFine 4192) (λ (c : Capsule). capsule_room c.entry ≤ 4192) admin_capsules roomy_of
    admin_fine) in
    let few : length admin_capsules ≡ 22 = refl in
    fine_read admin_queue_bytes admin_capsules admin_bytes admin_fine (omega (arith, few))
    (omega (arith, room, few))

pub io_read : (rounds qid : ℕ) → rounds ≤ 4096 → qid ≤ 3
    → capsules_of (io_queue_bytes rounds qid) ≡ Ok (io_capsules rounds qid)
io_read rounds qid few small =
    let commands = map (command_of rounds qid) (range_with_len 0 (4 * rounds)) in
    let first = with_payload (connect_entry qid 127) (connect_data 1) in
    let connect = connect_fine qid 127 1 small (omega arith) in
    let count : length commands ≡ 4 * rounds =
    length-map-range_with_len (command_of rounds qid) 0 (4 * rounds) in
    let room = commands_room (command_of rounds qid) 0 (4 * rounds)
    (λ k lt. (command_fine k _ (omega (arith, lt, few))).roomy) (λ k le. command_low k _ le) in
    let sums = sum_by-cons (λ (c : Capsule). capsule_room c.entry) first commands in
    fine_read (io_queue_bytes rounds qid) (io_capsules rounds qid) (io_bytes rounds qid)
    (connect, commands_fine rounds qid few) (omega (arith, count, few))
    (omega (arith, sums, room, connect.roomy, spare_small 0, few))
