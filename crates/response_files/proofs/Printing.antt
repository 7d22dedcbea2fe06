-- A record that was printed is read again, and what is read was printed so.
use Rattle.std.proofs.Common.{◌≡◌, ◌≤◌, ◌<◌, ◌⊎◌, ◌^◌, ℕ, ◌+◌, Bool, true, false, cond, ltb, List, [], ◌++◌, length, take, drop, Option, Some, None, Result, Ok, Err, refl, sym, ap, ap₂, subst, ◌∙◌, append_assoc, arith, le-ltb, lt-ltb, ltb-false, ltb-true, length-append, length-drop, length-take-le, take-append-drop, inl, inr}
use Rattle.std.proofs.lemmas.List.{drop_at, drop-drop, take_at}
use Rattle.std.proofs.lemmas.Bool.{cases_lt}
use Rattle.byteorder.specs.Numbers.{little_from-lt}
use Rattle.sqe_cqe.specs.Fields.{field, spelled_fields, StandIn, IsGapless}
use Rattle.sqe_cqe.specs.Cqe.{cqe_of, cqe_bytes}
use Rattle.sqe_cqe.proofs.Again.{spelled_fields-again, cqe-again}
use Rattle.run_records.specs.Records.{answer_code, kind_code, call_fields, call_bytes, record_bytes}
use Rattle.run_records.specs.declared.records.Kind.{Kind}
use Rattle.run_records.specs.declared.records.Kind.TheVariants.{Submit, Execute, Poll, Control}
use Rattle.run_records.specs.declared.records.Answer.{Answer}
use Rattle.run_records.specs.declared.records.Answer.TheVariants.{Held, Answered, Waiting, NoEvent}
use Rattle.run_records.specs.declared.records.Head.{Head}
use Rattle.response_files.specs.Responses.{Response, response_bytes, IsCompletion, IsHead, IsResponse, IsMalformed}
use Rattle.response_files.specs.ResponseReading.{head_in, with_data, next_response, width}
use Rattle.response_files.specs.declared.responses.RecordError.{RecordError}
use Rattle.response_files.specs.declared.responses.RecordError.TheVariants as errors
use Rattle.response_files.proofs.Fields.{AreFitting, fields_read, length_fields, cqe_read, length_cqe, AreSmall, are_bytes, small_drop, small_take, all_small}
use Rattle.response_files.proofs.Heads.{Stands, head_stands, stands_read, Faulty, faulty_unread, unread_faulty}

gapless : (h : Head) → IsGapless 0 16 (call_fields h)
gapless h = (refl, (refl, (refl, (refl, (refl, (refl, refl))))))

abbrev tail_of : Head → List ℕ → List ℕ
tail_of h more = cqe_bytes h.cqe ++ more

bytes_are : (h : Head) (payload more : List ℕ) → record_bytes h payload ++ more
    ≡ spelled_fields (call_fields h) ++ tail_of h (payload ++ more)
unfolding call_bytes
bytes_are h payload more = simp append_assoc refl

length_call : (h : Head) → length (spelled_fields (call_fields h)) ≡ 16
length_call h = omega (arith, length_fields 0 16 (call_fields h) (gapless h))

kind_small : (k : Kind) → kind_code k < 256
kind_small Submit = omega arith
kind_small Execute = omega arith
kind_small Poll = omega arith
kind_small Control = omega arith

answer_small : (a : Answer) → answer_code a < 256
answer_small Held = omega arith
answer_small Answered = omega arith
answer_small Waiting = omega arith
answer_small NoEvent = omega arith

pub length_response : (r : Response) → IsResponse r → length (response_bytes r) ≡ width r
unfolding call_bytes
length_response r is = omega (
  arith,
  length-append (spelled_fields (call_fields r.head) ++ cqe_bytes r.head.cqe) r.payload,
  length-append (spelled_fields (call_fields r.head)) (cqe_bytes r.head.cqe),
  length_cqe r.head.cqe,
  length_call r.head,
  is.len,
)

-- ---- what is printed is read

-- a head that was printed stands at the front of the bytes
head_was_printed : (h : Head) (more : List ℕ) → IsHead h
    → Stands (spelled_fields (call_fields h) ++ tail_of h more) h
head_was_printed h more is =
    let tail : List ℕ = tail_of h more in
    let b : List ℕ = spelled_fields (call_fields h) ++ tail in
    let fit : AreFitting (call_fields h) = (
      is.place,
      (
        kind_small h.kind,
        (
          answer_small h.answer,
          (
            omega arith,
            (
              is.number,
              (
                is.len,
                tt,
              ),
            ),
          ),
        ),
      ),
    ) in
    let s : StandIn b (call_fields h) = fields_read [] 0 16 (call_fields h) tail refl (gapless h)
    fit in
    let after : drop 16 b ≡ tail = drop_at (spelled_fields (call_fields h)) tail 16 (length_call h)
    in
    let cut : take 16 tail ≡ cqe_bytes h.cqe = take_at (cqe_bytes h.cqe) more 16 (length_cqe h.cqe)
    in
    let cqe : cqe_of (take 16 (drop 16 b)) ≡ h.cqe = rw (after, cut) (cqe_read h.cqe is.cqe) in
    record {
      place = s.0;
      kind = s.1.0;
      answer = s.1.1.0;
      zeros = sym s.1.1.1.0;
      number = s.1.1.1.1.0;
      len = s.1.1.1.1.1.0;
      cqe = sym cqe;
      may = is.may;
      blank = is.blank;
    }

response_is : (h : Head) (p q : List ℕ) → p ≡ q → ◌≡◌ {A = Response} (record {
  head = h;
  payload = p;
}) (record { head = h; payload = q })
response_is h p q e = ap (λ (x : List ℕ). record { head = h; payload = x }) e

pub next_is : (at : ℕ) (bytes : List ℕ) (h : Head) → 32 + h.len ≤ length bytes
    → head_in bytes ≡ Some h
    → next_response at bytes ≡ Ok (record { head = h; payload = take h.len (drop 32 bytes) })
unfolding next_response with_data
next_is at bytes h fits e =
    let long : ltb (length bytes) 32 ≡ false = le-ltb _ _ (omega (arith, fits)) in
    let whole : ltb (length bytes) (32 + h.len) ≡ false = le-ltb _ _ fits in
    rw (long, e, whole) refl

pub printed_read : (at : ℕ) (r : Response) (more : List ℕ) → IsResponse r
    → next_response at (response_bytes r ++ more) ≡ Ok r
printed_read at r more is =
    let h = r.head in
    let tail : List ℕ = tail_of h (r.payload ++ more) in
    let b : List ℕ = spelled_fields (call_fields h) ++ tail in
    let s : Stands b h = head_was_printed h (r.payload ++ more) is.head in
    let two : drop 16 (drop 16 b) ≡ drop 32 b = drop-drop 16 16 b in
    let after : drop 16 b ≡ tail = drop_at (spelled_fields (call_fields h)) tail 16 (length_call h)
    in
    let behind : drop 32 b ≡ r.payload ++ more = sym two ∙ ap (λ (l : List ℕ). drop 16 l) after
    ∙ drop_at (cqe_bytes h.cqe) (r.payload ++ more) 16 (length_cqe h.cqe) in
    let payload : take h.len (drop 32 b) ≡ r.payload = rw behind
    (take_at r.payload more h.len (sym is.len)) in
    let long : length b ≡ 32 + h.len + length more = omega (
      arith,
      length-append (spelled_fields (call_fields h)) tail,
      length-append (cqe_bytes h.cqe) (r.payload ++ more),
      length-append r.payload more,
      length_cqe h.cqe,
      length_call h,
      is.len,
    ) in
    ap (next_response at) (bytes_are h r.payload more) ∙ next_is at b h (omega (arith, long)) (stands_read b h s)
    ∙ ap (λ (x : Response). Ok x) (response_is h (take h.len (drop 32 b)) r.payload payload)

-- ---- what is read was printed so

three : (a b : ℕ) (xs : List ℕ) → take a xs ++ (take b (drop a xs) ++ drop (a + b) xs) ≡ xs
three a b xs =
    rw (← drop-drop) (ap (λ (l : List ℕ). take a xs ++ l) (take-append-drop b (drop a xs))
    ∙ take-append-drop a xs)

-- the bytes begin with the print of a record
pub record Printed (bytes : List ℕ) (r : Response) : Type 0 where
  pub is : IsResponse r
  pub cut : bytes ≡ response_bytes r ++ drop (width r) bytes
  pub fits : width r ≤ length bytes

under : (bytes : List ℕ) → AreSmall bytes → (n at : ℕ) → field at n bytes < 256 ^ n
under bytes small n at = little_from-lt 0 n (drop at bytes) (small_drop at bytes small).each

completion_is : (bytes : List ℕ) → AreSmall bytes → IsCompletion (cqe_of bytes)
unfolding cqe_of
completion_is bytes small = record {
  result = under bytes small 8 0;
  sq_head = under bytes small 2 8;
  sq_id = under bytes small 2 10;
  cid = under bytes small 2 12;
  status = under bytes small 2 14;
}

head_is : (bytes : List ℕ) (h : Head) → AreSmall bytes → Stands bytes h → IsHead h
head_is bytes h small s = record {
  may = s.may;
  blank = s.blank;
  place = rw s.place (under bytes small 4 0);
  number = rw s.number (under bytes small 4 8);
  len = rw s.len (under bytes small 4 12);
  cqe = rw s.cqe (completion_is (take 16 (drop 16 bytes)) (small_take 16 (drop 16 bytes)
      (small_drop 16 bytes small)));
}

stand_in : (bytes : List ℕ) (h : Head) → Stands bytes h → StandIn bytes (call_fields h)
stand_in bytes h s = (s.place, (s.kind, (s.answer, (sym s.zeros, (s.number, (s.len, tt))))))

pub was_printed : (bytes : List ℕ) (h : Head) → AreSmall bytes → 32 + h.len ≤ length bytes
    → Stands bytes h → Printed bytes (record { head = h; payload = take h.len (drop 32 bytes) })
was_printed bytes h small fits s =
    let r : Response = record { head = h; payload = take h.len (drop 32 bytes) } in
    let len : length (take h.len (drop 32 bytes)) ≡ h.len = length-take-le h.len (drop 32 bytes)
    (omega (arith, length-drop 32 bytes, fits)) in
    let call : spelled_fields (call_fields h) ≡ take 16 bytes = spelled_fields-again 0 16
    (call_fields h) bytes (gapless h) (stand_in bytes h s) (are_bytes bytes small)
    (omega (arith, fits)) in
    let middle : List ℕ = take 16 (drop 16 bytes) in
    let sixteen : length middle ≡ 16 = length-take-le 16 (drop 16 bytes)
    (omega (arith, length-drop 16 bytes, fits)) in
    let small_middle : AreSmall middle = small_take 16 (drop 16 bytes) (small_drop 16 bytes small)
    in
    let cqe : cqe_bytes h.cqe ≡ middle = ap cqe_bytes s.cqe ∙ cqe-again middle sixteen
    (all_small middle small_middle) in
    let tail : take h.len (drop 32 bytes) ++ drop (32 + h.len) bytes ≡ drop 32 bytes =
    rw (← drop-drop) (take-append-drop h.len (drop 32 bytes)) in
    let joined : spelled_fields (call_fields h) ++ tail_of h (r.payload ++ drop (width r) bytes)
    ≡ take 16 bytes ++ (middle ++ drop 32 bytes) = ap₂ (λ (x y : List ℕ). x ++ y) call
    (ap₂ (λ (x y : List ℕ). x ++ y) cqe tail) in
    let whole : response_bytes r ++ drop (width r) bytes ≡ bytes = bytes_are h r.payload
    (drop (width r) bytes) ∙ joined ∙ three 16 16 bytes in
    record {
      is = record { head = head_is bytes h small s; len = sym len };
      cut = sym whole;
      fits = fits;
    }

read_with : (at : ℕ) (bytes : List ℕ) (r : Response) (o : Option Head) → AreSmall bytes
    → head_in bytes ≡ o → with_data at bytes o ≡ Ok r → Printed bytes r
unfolding with_data
read_with at bytes r None small eo e = absurd cc
read_with at bytes r (Some h) small eo e = by_test (ltb (length bytes) (32 + h.len)) refl e where
  by_test : (t : Bool) → ltb (length bytes) (32 + h.len) ≡ t
      → ◌≡◌ {A = Result Response RecordError} (cond t (Err (errors.Malformed at)) (Ok (record {
        head = h;
        payload = take h.len (drop 32 bytes);
      }))) (Ok r) → Printed bytes r
  by_test true et e = absurd cc
  by_test false et e =
      let same : record { head = h; payload = take h.len (drop 32 bytes) } ≡ r = cc in
      subst (λ (x : Response). Printed bytes x) same (was_printed bytes h small
      (ltb-false _ _ et) (head_stands bytes h eo))

pub read_was : (at : ℕ) (bytes : List ℕ) (r : Response) → AreSmall bytes
    → next_response at bytes ≡ Ok r → Printed bytes r
unfolding next_response
read_was at bytes r small e = by_test (ltb (length bytes) 32) e where
  by_test : (t : Bool) → cond t (Err (errors.Malformed at)) (with_data at bytes (head_in bytes))
      ≡ Ok r → Printed bytes r
  by_test true e = absurd cc
  by_test false e = read_with at bytes r (head_in bytes) small refl e

-- ---- the one fault of the next record

fault_with : (at : ℕ) (bytes : List ℕ) (e : RecordError) (o : Option Head) → head_in bytes ≡ o
    → with_data at bytes o ≡ Err e → (e ≡ errors.Malformed at) × IsMalformed bytes
unfolding with_data
fault_with at bytes e None eo h = (cc, record { why = inr (inr (unread_faulty bytes eo)) })
fault_with at bytes e (Some head) eo h =
    by_test (ltb (length bytes) (32 + head.len)) refl h where
      by_test : (t : Bool) → ltb (length bytes) (32 + head.len) ≡ t
          → ◌≡◌ {A = Result Response RecordError} (cond t (Err (errors.Malformed at)) (Ok (record {
            head = head;
            payload = take head.len (drop 32 bytes);
          }))) (Err e) → (e ≡ errors.Malformed at) × IsMalformed bytes
      by_test true et h =
          let lt : length bytes < 32 + head.len = ltb-true _ _ et in
          let len : head.len ≡ field 12 4 bytes = (head_stands bytes head eo).len in
          (cc, record { why = inr (inl (omega (arith, lt, len))) })
      by_test false et h = absurd cc

pub fault_was : (at : ℕ) (bytes : List ℕ) (e : RecordError) → next_response at bytes ≡ Err e
    → (e ≡ errors.Malformed at) × IsMalformed bytes
unfolding next_response
fault_was at bytes e h = by_test (ltb (length bytes) 32) refl h where
  by_test : (t : Bool) → ltb (length bytes) 32 ≡ t
      → cond t (Err (errors.Malformed at)) (with_data at bytes (head_in bytes)) ≡ Err e
      → (e ≡ errors.Malformed at) × IsMalformed bytes
  by_test true et h = (cc, record { why = inl (ltb-true _ _ et) })
  by_test false et h = fault_with at bytes e (head_in bytes) refl h

-- no record is read where bytes are malformed
malformed_unread : (bytes : List ℕ) (h : Head) → IsMalformed bytes → 32 + h.len ≤ length bytes
    → Stands bytes h → ⊥
malformed_unread bytes h m fits s = by_why m.why where
  by_why : (length bytes < 32) ⊎ ((length bytes < 32 + field 12 4 bytes) ⊎ Faulty bytes) → ⊥
  by_why (inl short) = absurd (omega (arith, fits, short))
  by_why (inr (inl cut)) = absurd (omega (arith, fits, cut, s.len))
  by_why (inr (inr f)) = faulty_unread bytes h f s

malformed_with : (at : ℕ) (bytes : List ℕ) (o : Option Head) → head_in bytes ≡ o
    → IsMalformed bytes → with_data at bytes o ≡ Err (errors.Malformed at)
unfolding with_data
malformed_with at bytes None eo m = refl
malformed_with at bytes (Some h) eo m =
    elim (cases_lt (length bytes) (32 + h.len)) [
      | inl lt ↦ rw (lt-ltb (length bytes) (32 + h.len) lt) refl
      | inr le ↦ absurd (malformed_unread bytes h m le (head_stands bytes h eo))
    ]

pub malformed_next : (at : ℕ) (bytes : List ℕ) → IsMalformed bytes
    → next_response at bytes ≡ Err (errors.Malformed at)
unfolding next_response
malformed_next at bytes m =
    elim (cases_lt (length bytes) 32) [
      | inl lt ↦ rw (lt-ltb (length bytes) 32 lt) refl
      | inr le ↦ rw (le-ltb (length bytes) 32 le)
          (malformed_with at bytes (head_in bytes) refl m)
    ]
