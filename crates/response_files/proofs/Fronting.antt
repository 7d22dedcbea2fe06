-- Records read one after the other, as a loop does.
use Rattle.std.proofs.Common.{◌≡◌, ℕ, suc, ◌-◌, ◌+◌, ◌<◌, List, [], ◌∷◌, ◌++◌, length, drop, Result, Ok, Err, refl, sym, ap, ◌∙◌, append_assoc, arith}
use Rattle.std.proofs.lemmas.List.{append-nil}
use Rattle.response_files.specs.Responses.{Response, StandBetween}
use Rattle.response_files.specs.declared.responses.Record as code
use Rattle.response_files.specs.ResponseReading.{◌>>=◌, Fails, next_response, responses_from, width}
use Rattle.response_files.specs.declared.responses.RecordError.{RecordError}
use Rattle.response_files.specs.declared.responses.RecordError.TheVariants as errors

-- what was read before, and what is still read
abbrev pub after_those : List Response → Result (List Response) RecordError
    → Result (List Response) RecordError
after_those done read = read >>= λ rs. Ok (done ++ rs)

regroup : (done : List Response) (r : Response) (read : Result (List Response) RecordError)
    → after_those done (read >>= λ rs. Ok (r ∷ rs)) ≡ after_those (done ++ r ∷ []) read
regroup done r (Ok rs) = ap (λ (all : List Response). Ok all) (simp append_assoc)
regroup done r (Err e) = refl

pub goes_on : (done : List Response) (limit n at : ℕ) (bytes : List ℕ) (r : Response)
    (total : Result (List Response) RecordError) → n < limit → 0 < length bytes
    → next_response at bytes ≡ Ok r
    → after_those done (responses_from (limit - n) at bytes) ≡ total
    → after_those (done ++ r ∷ []) (responses_from (limit - (n + 1)) (at + width r)
    (drop (width r) bytes)) ≡ total
unfolding responses_from
goes_on done limit n at [] r total few some h so_far = absurd (omega arith)
goes_on done limit n at (b ∷ bytes) r total few some h so_far =
    let k : limit - n ≡ suc (limit - (n + 1)) = omega arith in
    let one : after_those done (responses_from (limit - n) at (b ∷ bytes))
    ≡ after_those (done ++ r ∷ []) (responses_from (limit - (n + 1)) (at + width r)
    (drop (width r) (b ∷ bytes))) =
    rw (k, h) (regroup done r (responses_from (limit - (n + 1)) (at + width r)
    (drop (width r) (b ∷ bytes)))) in
    sym one ∙ so_far

pub ends : (e : RecordError) (done : List Response) (limit n at : ℕ) (bytes : List ℕ)
    (total : Result (List Response) RecordError) → n < limit → 0 < length bytes
    → Fails e (next_response at bytes)
    → after_those done (responses_from (limit - n) at bytes) ≡ total → Fails e total
unfolding responses_from
ends e done limit n at [] total few some h so_far = absurd (omega arith)
ends errors.Memory done limit n at (b ∷ bytes) total few some h so_far = tt
ends (errors.Malformed o) done limit n at (b ∷ bytes) total few some h so_far =
    let k : limit - n ≡ suc (limit - (n + 1)) = omega arith in
    let one : after_those done (responses_from (limit - n) at (b ∷ bytes))
    ≡ Err (errors.Malformed o) = rw (k, h) refl in
    sym so_far ∙ one

pub is_done : (done : List Response) (left at : ℕ) (bytes : List ℕ)
    (total : Result (List Response) RecordError) → bytes ≡ []
    → after_those done (responses_from left at bytes) ≡ total → total ≡ Ok done
unfolding responses_from
is_done done left at bytes total none so_far =
    let one : after_those done (responses_from left at bytes) ≡ Ok done =
    rw none (ap (λ (rs : List Response). Ok rs) (append-nil done)) in
    sym so_far ∙ one

-- one more record, right after the others
pub stand_more : (from to : ℕ) (rs : List code.Record) (r : code.Record) → StandBetween from to rs
    → r.data_at ≡ to + 32
    → StandBetween from (r.data_at + r.head.len) (rs ++ r ∷ [])
stand_more from to [] r between at = (omega (arith, between, at), refl)
stand_more from to (d ∷ rs) r between at =
    (between.0, stand_more (d.data_at + d.head.len) to rs r between.1 at)
