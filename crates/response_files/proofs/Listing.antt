-- The records of a file, and its first malformed one.
use Rattle.std.proofs.Common.{◌≡◌, ◌≢◌, ◌≤◌, ◌<◌, ℕ, zero, suc, ◌+◌, List, [], ◌∷◌, ◌++◌, length, drop, Result, Ok, Err, refl, sym, ap, subst, ◌∙◌, append_assoc, arith, length-append, length-drop}
use Rattle.std.specs.Prelude.{IfOk, IfErr}
use Rattle.std.proofs.lemmas.List.{drop_at}
use Rattle.std.specs.List.{AllByRecursion, flat_map}
use Rattle.response_files.specs.Responses.{Response, response_bytes, IsResponse, AreResponses, IsMalformed, IsMalformedAt}
use Rattle.response_files.specs.ResponseReading.{◌>>=◌, Gives, next_response, responses_from, responses_of, width}
use Rattle.response_files.specs.declared.responses.RecordError.{RecordError}
use Rattle.response_files.specs.declared.responses.RecordError.TheVariants as errors
use Rattle.response_files.proofs.Fields.{AreSmall, small_drop}
use Rattle.response_files.proofs.Printing.{Printed, printed_read, read_was, fault_was, length_response, malformed_next}

abbrev and_then : ℕ → ℕ → List ℕ → Response → Result (List Response) RecordError
and_then left at bytes r = responses_from left (at + width r) (drop (width r) bytes) >>=
    λ rs. Ok (r ∷ rs)

-- one record, or the fault
step_ok : (left at : ℕ) (bytes : List ℕ) (r : Response) → 0 < length bytes
    → next_response at bytes ≡ Ok r → responses_from (suc left) at bytes ≡ and_then left at bytes r
unfolding responses_from
step_ok left at [] r some h = absurd (omega arith)
step_ok left at (b ∷ bytes) r some h = rw h refl

step_err : (left at : ℕ) (bytes : List ℕ) (e : RecordError) → 0 < length bytes
    → next_response at bytes ≡ Err e → responses_from (suc left) at bytes ≡ Err e
unfolding responses_from
step_err left at [] e some h = absurd (omega arith)
step_err left at (b ∷ bytes) e some h = rw h refl

step_end : (left at : ℕ) (bytes : List ℕ) → bytes ≡ [] → responses_from left at bytes ≡ Ok []
unfolding responses_from
step_end left at bytes h = rw h refl

-- ---- what reading a file tells
Tells : ℕ → List ℕ → Result (List Response) RecordError → Type 0
Tells at bytes (Ok rs) = AreResponses bytes rs
Tells at bytes (Err errors.Memory) = ⊥
Tells at bytes (Err (errors.Malformed o)) = (k : ℕ) × (o ≡ at + k) × IsMalformedAt bytes k

more_records : (bytes : List ℕ) (r : Response) (rs : List Response) → Printed bytes r
    → AreResponses (drop (width r) bytes) rs → AreResponses bytes (r ∷ rs)
more_records bytes r rs p are = record {
  spelled = p.cut ∙ ap (λ (l : List ℕ). response_bytes r ++ l) are.spelled;
  all = (p.is, are.all);
}

more_malformed : (bytes : List ℕ) (r : Response) (k : ℕ) → Printed bytes r
    → IsMalformedAt (drop (width r) bytes) k → IsMalformedAt bytes (width r + k)
more_malformed bytes r k p m = record {
  front = r ∷ m.front;
  rest = m.rest;
  cut = p.cut ∙ ap (λ (l : List ℕ). response_bytes r ++ l) m.cut
      ∙ sym (append_assoc (response_bytes r) (flat_map response_bytes m.front) m.rest);
  all = (p.is, m.all);
  offset_is = omega (
    arith,
    length-append (response_bytes r) (flat_map response_bytes m.front),
    length_response r p.is,
    m.offset_is,
  );
  some = m.some;
  malformed = m.malformed;
}

tells_more : (left at : ℕ) (bytes : List ℕ) (r : Response)
    (read : Result (List Response) RecordError) → Printed bytes r
    → Tells (at + width r) (drop (width r) bytes) read
    → Tells at bytes (read >>= λ rs. Ok (r ∷ rs))
unfolding Tells
tells_more left at bytes r (Ok rs) p t = more_records bytes r rs p t
tells_more left at bytes r (Err errors.Memory) p t = t
tells_more left at bytes r (Err (errors.Malformed o)) p t =
    (width r + t.0, omega (arith, t.1), more_malformed bytes r t.0 p t.2)

tells_fault : (at : ℕ) (bytes : List ℕ) (e : RecordError) → 0 < length bytes
    → next_response at bytes ≡ Err e → Tells at bytes (Err e)
unfolding Tells
tells_fault at bytes errors.Memory some h = absurd (memory_not (fault_was at bytes errors.Memory
    h).0) where
      memory_not : errors.Memory ≡ errors.Malformed at → ⊥
      memory_not e = cc
tells_fault at bytes (errors.Malformed o) some h =
    let was = fault_was at bytes (errors.Malformed o) h in
    let same : errors.Malformed o ≡ errors.Malformed at = was.0 in
    let offset : o ≡ at = cc in (
      0,
      omega (arith, offset),
      record {
        front = [];
        rest = bytes;
        cut = refl;
        all = tt;
        offset_is = refl;
        some = some;
        malformed = was.1;
      },
    )

tells : (left at : ℕ) (bytes : List ℕ) → AreSmall bytes → length bytes ≤ left
    → Tells at bytes (responses_from left at bytes)
unfolding Tells
tells zero at [] small le = subst (Tells at []) (sym (step_end zero at [] refl))
    (record { spelled = refl; all = tt })
tells (suc left) at [] small le = subst (Tells at []) (sym (step_end (suc left) at [] refl))
    (record { spelled = refl; all = tt })
tells zero at (b ∷ bytes) small le = absurd (omega arith)
tells (suc left) at (b ∷ bytes) small le =
    by_next (next_response at (b ∷ bytes)) refl (λ r p. tells left (at + width r)
    (drop (width r) (b ∷ bytes)) (small_drop (width r) (b ∷ bytes) small)
    (omega (arith, le, length-drop (width r) (b ∷ bytes), p.fits))) where
      by_next : (x : Result Response RecordError) → next_response at (b ∷ bytes) ≡ x
          → ((r : Response) → Printed (b ∷ bytes) r → Tells (at + width r)
          (drop (width r) (b ∷ bytes)) (responses_from left (at + width r)
          (drop (width r) (b ∷ bytes))))
          → Tells at (b ∷ bytes) (responses_from (suc left) at (b ∷ bytes))
      by_next (Ok r) h rest =
          let p = read_was at (b ∷ bytes) r small h in
          subst (Tells at (b ∷ bytes)) (sym (step_ok left at (b ∷ bytes) r (omega arith) h))
          (tells_more left at (b ∷ bytes) r _ p (rest r p))
      by_next (Err e) h rest =
          subst (Tells at (b ∷ bytes)) (sym (step_err left at (b ∷ bytes) e (omega arith) h))
          (tells_fault at (b ∷ bytes) e (omega arith) h)

-- ---- what is printed is read
long_record : (r : Response) (more : List ℕ) → IsResponse r
    → 0 < length (response_bytes r ++ more)
long_record r more is = omega (arith, length-append (response_bytes r) more, length_response r is)

print_read : (rs : List Response) (left at : ℕ) → AllByRecursion IsResponse rs
    → length (flat_map response_bytes rs) ≤ left
    → responses_from left at (flat_map response_bytes rs) ≡ Ok rs
print_read [] left at all le = step_end left at [] refl
print_read (r ∷ rs) zero at all le =
    absurd (omega (arith, le, long_record r (flat_map response_bytes rs) all.0))
print_read (r ∷ rs) (suc left) at all le =
    let more : List ℕ = flat_map response_bytes rs in
    let cut : drop (width r) (response_bytes r ++ more) ≡ more =
    drop_at (response_bytes r) more (width r) (length_response r all.0) in
    let rest : responses_from left (at + width r) (drop (width r) (response_bytes r ++ more))
    ≡ Ok rs = rw cut (print_read rs left (at + width r) all.1
    (omega (arith, le, length-append (response_bytes r) more, length_response r all.0))) in
    step_ok left at (response_bytes r ++ more) r (long_record r more all.0)
    (printed_read at r more all.0)
    ∙ ap (λ (x : Result (List Response) RecordError). x >>= λ rs. Ok (r ∷ rs)) rest

malformed_read : (front : List Response) (rest : List ℕ) (left at : ℕ)
    → AllByRecursion IsResponse front → 0 < length rest → IsMalformed rest
    → length (flat_map response_bytes front ++ rest) ≤ left
    → responses_from left at (flat_map response_bytes front ++ rest)
    ≡ Err (errors.Malformed (at + length (flat_map response_bytes front)))
malformed_read [] rest zero at all some m le = absurd (omega (arith, some, le))
malformed_read [] rest (suc left) at all some m le =
    let z : at ≡ at + 0 = omega arith in
    step_err left at rest (errors.Malformed at) some (malformed_next at rest m)
    ∙ ap (λ (n : ℕ). Err (errors.Malformed n)) z
malformed_read (r ∷ front) rest zero at all some m le = absurd (omega (
  arith,
  le,
  length-append (response_bytes r ++ flat_map response_bytes front) rest,
  length-append (response_bytes r) (flat_map response_bytes front),
  length_response r all.0,
))
malformed_read (r ∷ front) rest (suc left) at all some m le =
    let more : List ℕ = flat_map response_bytes front ++ rest in
    let whole : (response_bytes r ++ flat_map response_bytes front) ++ rest
    ≡ response_bytes r ++ more =
    append_assoc (response_bytes r) (flat_map response_bytes front) rest in
    let cut : drop (width r) (response_bytes r ++ more) ≡ more =
    drop_at (response_bytes r) more (width r) (length_response r all.0) in
    let sums : length (response_bytes r ++ more) ≡ width r + length more =
    omega (arith, length-append (response_bytes r) more, length_response r all.0) in
    let short : length more ≤ left =
    omega (arith, le, ap (λ (l : List ℕ). length l) whole, sums) in
    let next : responses_from left (at + width r) (drop (width r) (response_bytes r ++ more))
    ≡ Err (errors.Malformed (at + width r + length (flat_map response_bytes front))) =
    rw cut (malformed_read front rest left (at + width r) all.1 some m short) in
    let sum : at + width r + length (flat_map response_bytes front)
    ≡ at + length (response_bytes r ++ flat_map response_bytes front) = omega (
      arith,
      length-append (response_bytes r) (flat_map response_bytes front),
      length_response r all.0,
    ) in
    ap (responses_from (suc left) at) whole
    ∙ step_ok left at (response_bytes r ++ more) r (long_record r more all.0)
    (printed_read at r more all.0)
    ∙ ap (λ (x : Result (List Response) RecordError). x >>= λ rs. Ok (r ∷ rs)) next
    ∙ ap (λ (n : ℕ). Err (errors.Malformed n)) sum

-- ---- the laws of what a call gave
pub is_spelled : {X : Type 0} (view : X → List Response) (bytes : List ℕ)
    (result : Result X RecordError) → AreSmall bytes → Gives view result (responses_of bytes)
    → IfOk result (λ x. AreResponses bytes (view x))
unfolding Tells
is_spelled view bytes (Ok x) small h =
    subst (Tells 0 bytes) h (tells (length bytes) 0 bytes small (omega arith))
is_spelled view bytes (Err e) small h = tt

pub is_first : {X : Type 0} (view : X → List Response) (bytes : List ℕ)
    (result : Result X RecordError) → AreSmall bytes → Gives view result (responses_of bytes)
    → IfErr result (λ e. e ≢ errors.Memory
    → (offset : ℕ) × (e ≡ errors.Malformed offset) × IsMalformedAt bytes offset)
unfolding Tells
is_first view bytes (Ok x) small h = tt
is_first view bytes (Err errors.Memory) small h = λ other. absurd (other refl)
is_first view bytes (Err (errors.Malformed o)) small h =
    let t : (k : ℕ) × (o ≡ 0 + k) × IsMalformedAt bytes k =
    subst (Tells 0 bytes) h (tells (length bytes) 0 bytes small (omega arith)) in
    let same : t.0 ≡ o = omega (arith, t.1) in
    λ other. (o, refl, subst (IsMalformedAt bytes) same t.2)

pub are_read : (bytes : List ℕ) (rs : List Response) → AreResponses bytes rs
    → responses_of bytes ≡ Ok rs
are_read bytes rs are =
    rw are.spelled (print_read rs (length (flat_map response_bytes rs)) 0 are.all (omega arith))

pub is_refused : (bytes : List ℕ) (offset : ℕ) → IsMalformedAt bytes offset
    → responses_of bytes ≡ Err (errors.Malformed offset)
is_refused bytes offset m =
    let done : List ℕ = flat_map response_bytes m.front in
    let z : 0 + length done ≡ offset = omega (arith, m.offset_is) in
    ap responses_of m.cut
    ∙ malformed_read m.front m.rest (length (done ++ m.rest)) 0 m.all m.some m.malformed
    (omega arith)
    ∙ ap (λ (n : ℕ). Err (errors.Malformed n)) z
