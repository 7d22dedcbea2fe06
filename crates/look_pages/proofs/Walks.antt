-- Lists of NSIDs, and the bytes that hold them.
use Rattle.std.proofs.Common.{◌⊎◌, inl, inr, ◌≡◌, ℕ, zero, suc, ◌+◌, ◌-◌, ◌*◌, ◌≤◌, ◌<◌, nat_lt, Bool, true, false, cond, List, [], ◌∷◌, ◌++◌, length, take, drop, replicate, refl, sym, ◌∙◌, ap, subst, arith, append_assoc, length-append, add-zero, add-one}
use Rattle.std.proofs.lemmas.List.{drop-replicate, length-replicate, append-nil}
use Rattle.std.proofs.Math.Seq.{take-append_seam, drop-append-add}
use Rattle.std.proofs.lemmas.List.Concat.{flat_map-append}
use Rattle.std.proofs.lemmas.Bool.{lt-ltb, le-ltb}
use Rattle.std.specs.List.{flat_map}
use Rattle.sqe_cqe.specs.Fields.{spelled}
use Rattle.look_pages.specs.declared.walk.TheConstants.{MOST_LISTED, PAGE}
use Rattle.look_pages.specs.Pages.{those, if_one, words, zeros, filled, list_bytes}

-- one more, listed or not
pub those-more : (p : ℕ → Bool) (n : ℕ) (b : Bool) → p (suc n) ≡ b → those p (suc n) ≡ those p n ++ cond b (suc n ∷ []) []
those-more p n b e = ap (λ x. those p n ++ cond x (suc n ∷ []) []) e

one-le : (b : Bool) (n : ℕ) → length (cond b (n ∷ []) []) ≤ 1
one-le true n = omega arith
one-le false n = omega arith

pub length-those : (p : ℕ → Bool) (n : ℕ) → length (those p n) ≤ n
length-those p zero = omega arith
length-those p (suc n) = omega (arith, length-those p n, one-le (p (suc n)) (suc n), length-append (those p n) (cond (p (suc n)) (suc n ∷ []) []))

pub words_append : (xs ys : List ℕ) → words (xs ++ ys) ≡ words xs ++ words ys
unfolding words
words_append xs ys = flat_map-append (λ (k : ℕ). spelled 4 k) xs ys

pub length-words : (list : List ℕ) → length (words list) ≡ 4 * length list
unfolding words
length-words [] = refl
length-words (n ∷ list) = omega (arith, length-words list)

pub length-zeros : (n : ℕ) → length (zeros n) ≡ n
unfolding zeros
length-zeros n = length-replicate n 0

-- the list is short, or long
pub short_list : (list : List ℕ) → length list ≤ MOST_LISTED → list_bytes list ≡ filled PAGE (words list)
unfolding list_bytes
short_list list h = rw (le-ltb MOST_LISTED (length list) h) refl

pub long_list : (list : List ℕ) → MOST_LISTED < length list → list_bytes list ≡ filled PAGE (spelled 4 0xffffffff)
unfolding list_bytes
long_list list h = rw (lt-ltb MOST_LISTED (length list) h) refl

pub words-none : words [] ≡ []
unfolding words
words-none = refl

pub length_words : (list : List ℕ) → length (words list) ≡ 4 * length list
length_words list = length-words list

-- the same where the code counts from 0
pub those-yes : (p : ℕ → Bool) (n : ℕ) → p (n + 1) ≡ true → those p (n + 1) ≡ those p n ++ (n + 1) ∷ []
those-yes p n e = rw add-one (let h : p (suc n) ≡ true = rw (← add-one n) e in those-more p n true h)

pub those-no : (p : ℕ → Bool) (n : ℕ) → p (n + 1) ≡ false → those p (n + 1) ≡ those p n
those-no p n e = rw add-one (let h : p (suc n) ≡ false = rw (← add-one n) e in those-more p n false h ∙ append-nil (those p n))

pub length-those_yes : (p : ℕ → Bool) (n : ℕ) → p (n + 1) ≡ true → length (those p (n + 1)) ≡ length (those p n) + 1
length-those_yes p n e = rw (those-yes p n e) (length-append (those p n) ((n + 1) ∷ []))

pub length-those_no : (p : ℕ → Bool) (n : ℕ) → p (n + 1) ≡ false → length (those p (n + 1)) ≡ length (those p n)
length-those_no p n e = ap length (those-no p n e)

-- one step of a walk that counts from 0
pub those-next : (p : ℕ → Bool) (n : ℕ) → those p (n + 1) ≡ those p n ++ if_one p (n + 1)
those-next p n = rw add-one refl

pub length-those_next : (p : ℕ → Bool) (n : ℕ) → length (those p (n + 1)) ≡ length (those p n) + length (if_one p (n + 1))
length-those_next p n = rw (those-next p n) (length-append (those p n) (if_one p (n + 1)))
