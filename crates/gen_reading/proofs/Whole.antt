-- Capsules that were written one after another are read again.
use Rattle.std.proofs.Common.{◌≡◌, ◌≤◌, ℕ, ◌+◌, List, [], ◌∷◌, ◌++◌, length, drop, refl, sym, ap, subst, ◌∙◌, append_assoc, arith, length-append}
use Rattle.std.proofs.lemmas.List.{append-nil, drop_at, take_at}
use Rattle.std.specs.Prelude.{slice_index}
use Rattle.std.specs.List.{AllByRecursion, flat_map}
use Rattle.sqe_cqe.specs.Fields.{spelled_fields, StandIn, IsGapless}
use Rattle.sqe_cqe.specs.Sqe.{sqe_of, sqe_bytes, sqe_fields, payload_len}
use Rattle.sqe_cqe.specs.declared.sqe.Sqe.{Sqe}
use Rattle.plan_files.specs.Capsules.{Capsule, AreCapsules, capsule_of, head_of}
use Rattle.gen_files.specs.Entries.{capsule_bytes}
use Rattle.response_files.proofs.Fields.{AreFitting, fields_read, length_fields}

gapless : (e : Sqe) → IsGapless 0 64 (sqe_fields e)
gapless e = (refl, (refl, (refl, (refl, (refl, (refl, (refl, (refl, (refl, (refl, (refl, (refl, (refl, (refl, (refl, (refl, (refl, (refl, (refl, refl)))))))))))))))))))

-- the other bytes of the SGL descriptor are four
abbrev pub AreFour : List ℕ → Type 0
AreFour xs = slice_index xs 0 ∷ slice_index xs 1 ∷ slice_index xs 2 ∷ slice_index xs 3 ∷ [] ≡ xs

length_sqe : (e : Sqe) → length (sqe_bytes e) ≡ 64
unfolding sqe_bytes
length_sqe e = omega (arith, length_fields 0 64 (sqe_fields e) (gapless e))

stands : (e : Sqe) → AreFitting (sqe_fields e) → StandIn (sqe_bytes e) (sqe_fields e)
unfolding sqe_bytes
stands e fit = subst (λ (l : List ℕ). StandIn l (sqe_fields e))
    (append-nil (spelled_fields (sqe_fields e)))
    (fields_read [] 0 64 (sqe_fields e) [] refl (gapless e) fit)

was_read : (bytes : List ℕ) (e : Sqe) → StandIn bytes (sqe_fields e) → AreFour e.sgl_rest
    → sqe_of bytes ≡ e
unfolding sqe_of
was_read bytes e s four = rw (
  ← s.0,
  ← s.1.0,
  ← s.1.1.0,
  ← s.1.1.1.0,
  ← s.1.1.1.1.0,
  ← s.1.1.1.1.1.0,
  ← s.1.1.1.1.1.1.0,
  ← s.1.1.1.1.1.1.1.0,
  ← s.1.1.1.1.1.1.1.1.0,
  ← s.1.1.1.1.1.1.1.1.1.0,
  ← s.1.1.1.1.1.1.1.1.1.1.0,
  ← s.1.1.1.1.1.1.1.1.1.1.1.0,
  ← s.1.1.1.1.1.1.1.1.1.1.1.1.0,
  ← s.1.1.1.1.1.1.1.1.1.1.1.1.1.0,
  ← s.1.1.1.1.1.1.1.1.1.1.1.1.1.1.0,
  ← s.1.1.1.1.1.1.1.1.1.1.1.1.1.1.1.0,
  ← s.1.1.1.1.1.1.1.1.1.1.1.1.1.1.1.1.0,
  ← s.1.1.1.1.1.1.1.1.1.1.1.1.1.1.1.1.1.0,
  ← s.1.1.1.1.1.1.1.1.1.1.1.1.1.1.1.1.1.1.0,
  four,
) refl

-- an entry that was written is read again
entry_read : (e : Sqe) (more : List ℕ) → AreFitting (sqe_fields e) → AreFour e.sgl_rest
    → head_of (sqe_bytes e ++ more) ≡ e
unfolding head_of
entry_read e more fit four = ap sqe_of (take_at (sqe_bytes e) more 64 (length_sqe e))
    ∙ was_read (sqe_bytes e) e (stands e fit) four

-- the numbers of an entry fit their bytes, and its data are as long as it says
pub record IsSound (c : Capsule) : Type 0 where
  pub fit : AreFitting (sqe_fields c.entry)
  pub four : AreFour c.entry.sgl_rest
  pub len : length c.payload ≡ payload_len c.entry

abbrev pub bytes_of : Capsule → List ℕ
bytes_of c = capsule_bytes c.entry c.payload

-- a capsule at the front of these bytes, and more
record IsFirst (bytes more : List ℕ) (c : Capsule) : Type 0 where
  pub whole : 64 + payload_len (head_of bytes) ≤ length bytes
  pub is : c ≡ capsule_of bytes
  pub left : drop (64 + payload_len (head_of bytes)) bytes ≡ more

first_read : (bytes more : List ℕ) (c : Capsule) → bytes ≡ bytes_of c ++ more → IsSound c
    → IsFirst bytes more c
first_read bytes more c e s =
    let parts : bytes ≡ sqe_bytes c.entry ++ (c.payload ++ more) =
    e ∙ append_assoc (sqe_bytes c.entry) c.payload more in
    let head : head_of bytes ≡ c.entry = ap head_of parts
    ∙ entry_read c.entry (c.payload ++ more) s.fit s.four in
    let behind : drop 64 bytes ≡ c.payload ++ more = ap (drop 64) parts
    ∙ drop_at (sqe_bytes c.entry) (c.payload ++ more) 64 (length_sqe c.entry) in
    let wide : length (bytes_of c) ≡ 64 + payload_len c.entry = omega (
      arith,
      length-append (sqe_bytes c.entry) c.payload,
      length_sqe c.entry,
      s.len,
    ) in
    record {
      whole = rw head (omega (arith, ap length e, length-append (bytes_of c) more, wide));
      is = rw (head, behind, take_at c.payload more (payload_len c.entry) s.len) refl;
      left = rw head (ap (drop (64 + payload_len c.entry)) e
          ∙ drop_at (bytes_of c) more (64 + payload_len c.entry) wide);
    }

pub are_capsules : (cs : List Capsule) → AllByRecursion IsSound cs
    → AreCapsules (flat_map bytes_of cs) cs
are_capsules [] s = refl
are_capsules (c ∷ cs) s =
    let first = first_read (flat_map bytes_of (c ∷ cs)) (flat_map bytes_of cs) c refl s.0 in (
      first.whole,
      first.is,
      subst (λ (l : List ℕ). AreCapsules l cs) (sym first.left) (are_capsules cs s.1),
    )
