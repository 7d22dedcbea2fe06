-- Lists that are made index by index.
use Rattle.std.proofs.Common.{◌≡◌, ℕ, zero, suc, ◌+◌, ◌*◌, ◌-◌, ◌%◌, List, [], ◌∷◌, ◌++◌, sym, ap, ◌∙◌, arith}
use Rattle.std.specs.List.{flat_map, range_with_len}
use Rattle.std.proofs.lemmas.List.{append-nil, append_assoc}
use Rattle.std.proofs.lemmas.List.FromFn.{map-range_with_len_more}
use Rattle.sqe_cqe.specs.declared.sqe.Sqe.{Sqe}
use Rattle.gen_files.specs.Entries.{capsule_bytes}
use Rattle.gen_files.specs.Commands.{entries_from, pattern, commands, command_bytes, draws, next_draw}

-- the pieces of one index more
pub more_pieces : (f : ℕ → List ℕ) (a n j : ℕ) → a + n ≡ j
    → flat_map f (range_with_len a (suc n)) ≡ flat_map f (range_with_len a n) ++ f j
more_pieces f a zero j e = append-nil (f a) ∙ ap f at where
  at : a ≡ j
  at = omega (arith, e)
more_pieces f a (suc n) j e = ap (λ x. f a ++ x) (more_pieces f (a + 1) n j at)
    ∙ sym (append_assoc (f a) (flat_map f (range_with_len (a + 1) n)) (f j)) where
      at : a + 1 + n ≡ j
      at = omega (arith, e)

next_is : (n : ℕ) → suc n ≡ n + 1
next_is n = omega arith

-- one draw more
pub draws_more : (seed n : ℕ) → next_draw (draws seed n) ≡ draws seed (n + 1)
draws_more seed n = ap (draws seed) (next_is n)

pub draws_next : (seed from k : ℕ) → draws seed (from + k + 1) ≡ draws seed (from + (k + 1))
draws_next seed from k = ap (draws seed) at where
  at : from + k + 1 ≡ from + (k + 1)
  at = omega arith

-- after other bytes
pub more_after : (f : ℕ → List ℕ) (n : ℕ) (old now next : List ℕ)
    → now ≡ old ++ flat_map f (range_with_len 0 n) → next ≡ now ++ f n
    → next ≡ old ++ flat_map f (range_with_len 0 (n + 1))
more_after f n old now next is step = step ∙ ap (λ x. x ++ f n) is
    ∙ append_assoc old (flat_map f (range_with_len 0 n)) (f n)
    ∙ ap (λ x. old ++ x) (sym (more_pieces f 0 n n at))
    ∙ ap (λ m. old ++ flat_map f (range_with_len 0 m)) (next_is n) where
      at : 0 + n ≡ n
      at = omega arith

pub more_entries : (entry : ℕ → Sqe) (first n : ℕ) (old now next : List ℕ)
    → now ≡ old ++ entries_from entry first n → next ≡ now ++ capsule_bytes (entry (first + n)) []
    → next ≡ old ++ entries_from entry first (n + 1)
more_entries entry first n old now next is step =
    more_after (λ i. capsule_bytes (entry (first + i)) []) n old now next is step

pub more_commands : (rounds qid k drawn : ℕ) (old now next : List ℕ)
    → now ≡ old ++ commands rounds qid k → next ≡ now ++ command_bytes k drawn
    → drawn ≡ draws rounds ((qid - 1) * (4 * rounds) + k + 1)
    → next ≡ old ++ commands rounds qid (k + 1)
more_commands rounds qid k drawn old now next is step d =
    more_after (λ i. command_bytes i (draws rounds ((qid - 1) * (4 * rounds) + i + 1))) k old now next
    is (step ∙ ap (λ x. now ++ command_bytes k x) d)

pub more_pattern : (k j : ℕ) (now next : List ℕ) → now ≡ pattern k j
    → next ≡ now ++ (k + j) % 256 ∷ [] → next ≡ pattern k (j + 1)
more_pattern k j now next is step = step ∙ ap (λ x. x ++ (k + j) % 256 ∷ []) is
    ∙ sym (map-range_with_len_more (λ i. (k + i) % 256) 0 j j at) where
      at : 0 + j ≡ j
      at = omega arith
