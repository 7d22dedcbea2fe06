-- Chains of NSIDs: what a new lowest one leaves, and how a chain is gone along.
use Rattle.std.proofs.Common.{◌≡◌, ◌≢◌, ℕ, zero, suc, ◌+◌, ◌≤◌, ◌<◌, cond, Bool, true, false, List, [], ◌∷◌, ◌++◌, length, take, drop, set, get_or, refl, sym, ap, ◌∙◌, subst, arith, append_assoc, get_or-set_same, get_or-set_other, add-zero, add-one}
use Rattle.std.proofs.lemmas.List.{append-nil, drop_more}
use Rattle.std.proofs.Math.Seq.{take-length}
use Rattle.sqe_cqe.specs.Fields.{spelled}
use Rattle.look_pages.specs.Pages.{those, if_one, words}
use Rattle.look_pages.proofs.Walks.{those-next}
use Rattle.ana_groups.specs.Chains.{those_above, IsChain}

-- the numbers to n are those to `low` and those above it
pub those_cut : (p : ℕ → Bool) (low count : ℕ) → those p (low + count) ≡ those p low ++ those_above p low count
those_cut p low zero = rw add-zero (sym (append-nil (those p low)))
those_cut p low (suc count) =
    let e : low + suc count ≡ low + 1 + count = omega arith in
    let rest = those_above p (low + 1) count in
    rw e (those_cut p (low + 1) count
    ∙ ap (λ (xs : List ℕ). xs ++ rest) (those-next p low)
    ∙ append_assoc (those p low) (if_one p (low + 1)) rest)

pub those_all : (p : ℕ → Bool) (n : ℕ) → those_above p 0 n ≡ those p n
those_all p n =
    let none : 0 + n ≡ n = omega arith in
    let all : those p (0 + n) ≡ those_above p 0 n = those_cut p 0 n in
    sym all ∙ ap (those p) none

length-those_above-one : (b : Bool) (n : ℕ) (rest : List ℕ) → length (cond b (n ∷ []) [] ++ rest) ≤ length rest + 1
length-those_above-one true n rest = omega arith
length-those_above-one false n rest = omega arith

pub length-those_above : (p : ℕ → Bool) (low count : ℕ) → length (those_above p low count) ≤ count
length-those_above p low zero = omega arith
length-those_above p low (suc count) =
    omega (arith, length-those_above p (low + 1) count, length-those_above-one (p (low + 1)) (low + 1) (those_above p (low + 1) count))

-- one more, in the chain or not
pub above_yes : (p : ℕ → Bool) (low count : ℕ) → p (low + 1) ≡ true
    → those_above p low (count + 1) ≡ (low + 1) ∷ those_above p (low + 1) count
above_yes p low count e = rw (add-one count, e) refl

pub above_no : (p : ℕ → Bool) (low count : ℕ) → p (low + 1) ≡ false
    → those_above p low (count + 1) ≡ those_above p (low + 1) count
above_no p low count e = rw (add-one count, e) refl

-- a chain of higher NSIDs doesn't see where a lower one leads to
pub chain_kept : (p : ℕ → Bool) (low count : ℕ) (next : List ℕ) (at m x : ℕ) → m ≤ low
    → IsChain next at (those_above p low count) → IsChain (set next m x) at (those_above p low count)
chain_kept p low zero next at m x below chain = chain
chain_kept p low (suc count) next at m x below chain =
    by_case (p (low + 1)) (λ a rest. chain_kept p (low + 1) count next a m x (omega arith) rest) chain
  where
    by_case : (b : Bool)
        → ((a : ℕ) → IsChain next a (those_above p (low + 1) count) → IsChain (set next m x) a (those_above p (low + 1) count))
        → IsChain next at (cond b ((low + 1) ∷ []) [] ++ those_above p (low + 1) count)
        → IsChain (set next m x) at (cond b ((low + 1) ∷ []) [] ++ those_above p (low + 1) count)
    by_case true kept chain =
        let apart : low + 1 ≢ m = omega arith in
        let same : get_or (set next m x) (low + 1) 0 ≡ get_or next (low + 1) 0 = get_or-set_other next m (low + 1) x 0 apart in
        (chain.0, rw same (kept (get_or next (low + 1) 0) chain.1))
    by_case false kept chain = kept at chain

-- an NSID in front of the chain of those above it
pub chain_front : (p : ℕ → Bool) (low count : ℕ) (next : List ℕ) (at : ℕ) → low + 1 < length next
    → IsChain next at (those_above p (low + 1) count)
    → IsChain (set next (low + 1) at) (low + 1) ((low + 1) ∷ those_above p (low + 1) count)
chain_front p low count next at within chain =
    let same : get_or (set next (low + 1) at) (low + 1) 0 ≡ at = get_or-set_same next (low + 1) at 0 within in
    (refl, rw same (chain_kept p (low + 1) count next at (low + 1) at (omega arith) chain))

-- the next NSID of a chain
pub chain_step : (next : List ℕ) (at i : ℕ) (list : List ℕ) → i < length list → IsChain next at (drop i list)
    → (at ≡ get_or list i 0) × IsChain next (get_or next at 0) (drop (i + 1) list)
chain_step next at i list low chain =
    let whole : IsChain next at (get_or list i 0 ∷ drop (i + 1) list) = subst (IsChain next at) (drop_more list i 0 low) chain in
    (whole.0, rw whole.0 whole.1)

pub words_one : (n : ℕ) → words (n ∷ []) ≡ spelled 4 n
unfolding words
words_one n = refl

pub take-all-of : (list : List ℕ) (n : ℕ) → n ≡ length list → take n list ≡ list
take-all-of list n e = rw e (take-length list)
