-- Capsules read one after the other, as a loop does.
use Rattle.std.proofs.Common.{◌≡◌, ℕ, suc, ◌-◌, ◌+◌, ◌<◌, List, [], ◌∷◌, ◌++◌, length, drop, Result, Ok, Err, refl, sym, ap, ◌∙◌, append_assoc, arith}
use Rattle.std.proofs.lemmas.List.{append-nil}
use Rattle.plan_files.specs.Capsules.{Capsule, StandBetween}
use Rattle.plan_files.specs.declared.capsules.Capsule as code
use Rattle.std.proofs.lemmas.List.Sums.{sum_by-append}
use Rattle.plan_files.specs.Rooms.{capsule_room, room_of}
use Rattle.plan_files.specs.Binding.{◌>>=◌}
use Rattle.plan_files.specs.CapsuleReading.{Fails, next_capsule, capsules_from, width}
use Rattle.plan_files.specs.declared.capsules.CapsuleError.{CapsuleError}
use Rattle.plan_files.specs.declared.capsules.CapsuleError.TheVariants as errors
use Rattle.plan_files.specs.declared.limits.What.TheVariants.{Capsules}

-- what was read before, and what is still read
abbrev pub after_those : List Capsule → Result (List Capsule) CapsuleError
    → Result (List Capsule) CapsuleError
after_those done read = read >>= λ cs. Ok (done ++ cs)

regroup : (done : List Capsule) (c : Capsule) (read : Result (List Capsule) CapsuleError)
    → after_those done (read >>= λ cs. Ok (c ∷ cs)) ≡ after_those (done ++ c ∷ []) read
regroup done c (Ok cs) = ap (λ (all : List Capsule). Ok all) (simp append_assoc)
regroup done c (Err e) = refl

pub goes_on : (done : List Capsule) (limit n at room : ℕ) (bytes : List ℕ) (c : Capsule)
    (total : Result (List Capsule) CapsuleError) → n < limit → 0 < length bytes
    → next_capsule at room bytes ≡ Ok c
    → after_those done (capsules_from (limit - n) at room bytes) ≡ total
    → after_those (done ++ c ∷ []) (capsules_from (limit - (n + 1)) (at + width c)
    (room + capsule_room c.entry) (drop (width c) bytes)) ≡ total
unfolding capsules_from
goes_on done limit n at room [] c total few some h so_far = absurd (omega arith)
goes_on done limit n at room (b ∷ bytes) c total few some h so_far =
    let k : limit - n ≡ suc (limit - (n + 1)) = omega arith in
    let one : after_those done (capsules_from (limit - n) at room (b ∷ bytes))
    ≡ after_those (done ++ c ∷ []) (capsules_from (limit - (n + 1)) (at + width c)
    (room + capsule_room c.entry) (drop (width c) (b ∷ bytes))) =
    rw (k, h) (regroup done c (capsules_from (limit - (n + 1)) (at + width c)
    (room + capsule_room c.entry) (drop (width c) (b ∷ bytes)))) in
    sym one ∙ so_far

pub ends : (e : CapsuleError) (done : List Capsule) (limit n at room : ℕ) (bytes : List ℕ)
    (total : Result (List Capsule) CapsuleError) → n < limit → 0 < length bytes
    → Fails e (next_capsule at room bytes)
    → after_those done (capsules_from (limit - n) at room bytes) ≡ total → Fails e total
unfolding capsules_from
ends e done limit n at room [] total few some h so_far = absurd (omega arith)
ends errors.Memory done limit n at room (b ∷ bytes) total few some h so_far = tt
ends (errors.Cut o) done limit n at room (b ∷ bytes) total few some h so_far =
    let k : limit - n ≡ suc (limit - (n + 1)) = omega arith in
    let one : after_those done (capsules_from (limit - n) at room (b ∷ bytes))
    ≡ Err (errors.Cut o) = rw (k, h) refl in
    sym so_far ∙ one
ends (errors.TooLong w m) done limit n at room (b ∷ bytes) total few some h so_far =
    let k : limit - n ≡ suc (limit - (n + 1)) = omega arith in
    let one : after_those done (capsules_from (limit - n) at room (b ∷ bytes))
    ≡ Err (errors.TooLong w m) = rw (k, h) refl in
    sym so_far ∙ one

pub is_full : (done : List Capsule) (left at room : ℕ) (bytes : List ℕ)
    (total : Result (List Capsule) CapsuleError) → left ≡ 0 → 0 < length bytes
    → after_those done (capsules_from left at room bytes) ≡ total
    → total ≡ Err (errors.TooLong Capsules 65537)
unfolding capsules_from
is_full done left at room [] total none some so_far = absurd (omega arith)
is_full done left at room (b ∷ bytes) total none some so_far =
    let one : after_those done (capsules_from left at room (b ∷ bytes))
    ≡ Err (errors.TooLong Capsules 65537) = rw none refl in
    sym so_far ∙ one

-- one more capsule, right after the others
pub stand_more : (from to : ℕ) (cs : List code.Capsule) (c : code.Capsule) → StandBetween from to cs
    → c.data_at ≡ to + 64
    → StandBetween from (c.data_at + c.data_len) (cs ++ c ∷ [])
stand_more from to [] c between at = (omega (arith, between, at), refl)
stand_more from to (d ∷ cs) c between at =
    (between.0, stand_more (d.data_at + d.data_len) to cs c between.1 at)

-- the room of one capsule more
pub room_more : (cs : List code.Capsule) (c : code.Capsule)
    → room_of (λ (x : code.Capsule). x.sqe) (cs ++ c ∷ [])
    ≡ room_of (λ (x : code.Capsule). x.sqe) cs + capsule_room c.sqe
room_more cs c =
    omega (arith, sum_by-append (λ (x : code.Capsule). capsule_room x.sqe) cs (c ∷ []))

pub is_done : (done : List Capsule) (left at room : ℕ) (bytes : List ℕ)
    (total : Result (List Capsule) CapsuleError) → bytes ≡ []
    → after_those done (capsules_from left at room bytes) ≡ total → total ≡ Ok done
unfolding capsules_from
is_done done left at room bytes total none so_far =
    let one : after_those done (capsules_from left at room bytes) ≡ Ok done =
    rw none (ap (λ (cs : List Capsule). Ok cs) (append-nil done)) in
    sym so_far ∙ one
