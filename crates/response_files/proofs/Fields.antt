-- Fields that were printed one after another stand where they were printed.
use Rattle.std.proofs.Common.{◌≡◌, ◌<◌, ◌^◌, ℕ, zero, suc, ◌+◌, List, [], ◌∷◌, ◌++◌, length, take, drop, get_or, All, refl, sym, ap, subst, ◌∙◌, append_assoc, arith, length-append, get_or-drop}
use Rattle.std.proofs.lemmas.List.{append-nil, drop_at}
use Rattle.std.specs.List.{AllByRecursion}
use Rattle.byteorder.specs.Numbers.{little_number-reads_back, length-bytes_low_first}
use Rattle.sqe_cqe.specs.Fields.{Field, field, spelled, spelled_fields, StandIn, IsGapless}
use Rattle.sqe_cqe.specs.Cqe.{cqe_of, cqe_bytes, cqe_fields}
use Rattle.sqe_cqe.specs.declared.cqe.Cqe.{Cqe}
use Rattle.sqe_cqe.proofs.Again.{AreBytes}
use Rattle.response_files.specs.Responses.{IsCompletion}

-- each value fits its bytes
abbrev pub AreFitting : List Field → Type 0
AreFitting fields = AllByRecursion (λ f. f.value < 256 ^ f.size) fields

pub fields_read : (pre : List ℕ) (at end : ℕ) (fields : List Field) (rest : List ℕ)
    → length pre ≡ at → IsGapless at end fields → AreFitting fields
    → StandIn (pre ++ (spelled_fields fields ++ rest)) fields
fields_read pre at end [] rest len g fit = tt
fields_read pre at end (f ∷ fields) rest len g fit =
    let more : List ℕ = spelled_fields fields ++ rest in
    let whole : spelled_fields (f ∷ fields) ++ rest ≡ spelled f.size f.value ++ more =
    append_assoc (spelled f.size f.value) (spelled_fields fields) rest in
    let here : drop f.offset (pre ++ (spelled_fields (f ∷ fields) ++ rest))
    ≡ spelled f.size f.value ++ more =
    drop_at pre (spelled_fields (f ∷ fields) ++ rest) f.offset (len ∙ sym g.0) ∙ whole in
    let value : f.value ≡ field f.offset f.size (pre ++ (spelled_fields (f ∷ fields) ++ rest)) =
    sym (rw here (little_number-reads_back f.size f.value more fit.0)) in
    let len' : length (pre ++ spelled f.size f.value) ≡ at + f.size = omega (
      arith,
      length-append pre (spelled f.size f.value),
      length-bytes_low_first 0 f.size f.value,
      len,
    ) in
    let regroup : (pre ++ spelled f.size f.value) ++ more
    ≡ pre ++ (spelled_fields (f ∷ fields) ++ rest) =
    append_assoc pre (spelled f.size f.value) more ∙ ap (λ (l : List ℕ). pre ++ l) (sym whole) in (
      value,
      subst (λ (l : List ℕ). StandIn l fields) regroup
          (fields_read (pre ++ spelled f.size f.value) (at + f.size) end fields rest len' g.1
          fit.1),
    )

pub length_fields : (at end : ℕ) (fields : List Field) → IsGapless at end fields
    → at + length (spelled_fields fields) ≡ end
length_fields at end [] g = omega (arith, g)
length_fields at end (f ∷ fields) g = omega (
  arith,
  length-append (spelled f.size f.value) (spelled_fields fields),
  length-bytes_low_first 0 f.size f.value,
  length_fields (at + f.size) end fields g.1,
)

-- ---- completions
cqe_fit : (c : Cqe) → IsCompletion c → AreFitting (cqe_fields c)
cqe_fit c is = (is.result, (is.sq_head, (is.sq_id, (is.cid, (is.status, tt)))))

same_cqe : (a b : Cqe) → a.result ≡ b.result → a.sq_head ≡ b.sq_head → a.sq_id ≡ b.sq_id
    → a.cid ≡ b.cid → a.status ≡ b.status → a ≡ b
same_cqe a b r h q c s =
    subst (λ x. a ≡ record {
      result = b.result;
      sq_head = b.sq_head;
      sq_id = b.sq_id;
      cid = b.cid;
      status = x;
    }) s (subst (λ x. a ≡ record {
      result = b.result;
      sq_head = b.sq_head;
      sq_id = b.sq_id;
      cid = x;
      status = a.status;
    }) c (subst (λ x. a ≡ record {
      result = b.result;
      sq_head = b.sq_head;
      sq_id = x;
      cid = a.cid;
      status = a.status;
    }) q (subst (λ x. a ≡ record {
      result = b.result;
      sq_head = x;
      sq_id = a.sq_id;
      cid = a.cid;
      status = a.status;
    }) h (subst (λ x. a ≡ record {
      result = x;
      sq_head = a.sq_head;
      sq_id = a.sq_id;
      cid = a.cid;
      status = a.status;
    }) r refl))))

-- a completion that was printed is read again
pub cqe_read : (c : Cqe) → IsCompletion c → cqe_of (cqe_bytes c) ≡ c
unfolding cqe_of cqe_bytes
cqe_read c is =
    let stand = fields_read [] 0 16 (cqe_fields c) [] refl
    (refl, (refl, (refl, (refl, (refl, refl))))) (cqe_fit c is) in
    let nil : [] ++ (spelled_fields (cqe_fields c) ++ []) ≡ spelled_fields (cqe_fields c) =
    append-nil (spelled_fields (cqe_fields c)) in
    let s : StandIn (spelled_fields (cqe_fields c)) (cqe_fields c) =
    subst (λ (l : List ℕ). StandIn l (cqe_fields c)) nil stand in
    same_cqe _ c (sym s.0) (sym s.1.0) (sym s.1.1.0) (sym s.1.1.1.0) (sym s.1.1.1.1.0)

pub length_cqe : (c : Cqe) → length (cqe_bytes c) ≡ 16
unfolding cqe_bytes
length_cqe c =
    omega (arith, length_fields 0 16 (cqe_fields c) (refl, (refl, (refl, (refl, (refl, refl))))))

-- ---- bytes
pub record AreSmall (xs : List ℕ) : Type 0 where
  pub each : (k : ℕ) → get_or xs k 0 < 256

small_rest : (x : ℕ) (xs : List ℕ) → AreSmall (x ∷ xs) → AreSmall xs
small_rest x xs small = record { each = λ k. small.each (suc k) }

pub are_bytes : (xs : List ℕ) → AreSmall xs → AreBytes xs
are_bytes [] small = tt
are_bytes (x ∷ xs) small = (small.each 0, are_bytes xs (small_rest x xs small))

pub small_drop : (n : ℕ) (xs : List ℕ) → AreSmall xs → AreSmall (drop n xs)
small_drop n xs small = record { each = λ k. rw get_or-drop (small.each (n + k)) }

pub all_small : (xs : List ℕ) → AreSmall xs → All (λ b. b < 256) xs
all_small [] small k d lt = absurd (omega arith)
all_small (x ∷ xs) small zero d lt = small.each 0
all_small (x ∷ xs) small (suc k) d lt = all_small xs (small_rest x xs small) k d (omega arith)

take_each : (n : ℕ) (xs : List ℕ) → AreSmall xs → (k : ℕ) → get_or (take n xs) k 0 < 256
take_each zero xs small k = omega arith
take_each (suc n) [] small k = omega arith
take_each (suc n) (x ∷ xs) small zero = small.each 0
take_each (suc n) (x ∷ xs) small (suc k) = take_each n xs (small_rest x xs small) k

pub small_take : (n : ℕ) (xs : List ℕ) → AreSmall xs → AreSmall (take n xs)
small_take n xs small = record { each = take_each n xs small }
