-- Lists of NSIDs in the library's words, and the size of their page.
use Rattle.std.proofs.Common.{◌≡◌, ◌⊎◌, inl, inr, ℕ, zero, suc, ◌+◌, ◌-◌, ◌*◌, ◌≤◌, ◌<◌, cond, Bool, List, [], ◌∷◌, ◌++◌, length, map, refl, sym, ◌∙◌, ap, subst, arith, length-append, add-one}
use Rattle.std.proofs.lemmas.List.FromFn.{filter_of_map_range_with_len_more}
use Rattle.std.specs.List.{filter, range_with_len}
use Rattle.sqe_cqe.specs.Fields.{spelled}
use Rattle.look_pages.specs.declared.walk.TheConstants.{MOST_LISTED, PAGE}
use Rattle.look_pages.specs.Pages.{those, words, zeros, filled, window, list_bytes}
use Rattle.look_pages.specs.Lists.{AreThoseOfRange, PageHasItsSize}
use Rattle.look_pages.proofs.Walks.{length-words, length-zeros, short_list, long_list}
use Rattle.look_pages.proofs.Parts.{window-all}

map-same : (xs : List ℕ) → map (λ x. x) xs ≡ xs
map-same [] = refl
map-same (x ∷ xs) = ap (λ (ys : List ℕ). x ∷ ys) (map-same xs)

filter-more : (p : ℕ → Bool) (n : ℕ) → filter p (range_with_len 1 (n + 1)) ≡ filter p (range_with_len 1 n) ++ cond (p (n + 1)) ((n + 1) ∷ []) []
filter-more p n =
    let h : 1 + n ≡ n + 1 = omega arith in
    let more : filter p (map (λ x. x) (range_with_len 1 (n + 1))) ≡ filter p (map (λ x. x) (range_with_len 1 n)) ++ cond (p (n + 1)) ((n + 1) ∷ []) [] =
    filter_of_map_range_with_len_more p (λ x. x) 1 n (n + 1) h in
    ap (filter p) (sym (map-same (range_with_len 1 (n + 1)))) ∙ more ∙ ap (λ xs. filter p xs ++ cond (p (n + 1)) ((n + 1) ∷ []) []) (map-same (range_with_len 1 n))

pub are_those_of_range : AreThoseOfRange
are_those_of_range p zero = refl
are_those_of_range p (suc n) =
    let more : filter p (range_with_len 1 (suc n)) ≡ filter p (range_with_len 1 n) ++ cond (p (suc n)) (suc n ∷ []) [] =
    subst (λ (m : ℕ). filter p (range_with_len 1 m) ≡ filter p (range_with_len 1 n) ++ cond (p m) (m ∷ []) []) (add-one n) (filter-more p n) in
    ap (λ xs. xs ++ cond (p (suc n)) (suc n ∷ []) []) (are_those_of_range p n) ∙ sym more

pub length-filled : (size : ℕ) (bytes : List ℕ) → length bytes ≤ size → length (filled size bytes) ≡ size
unfolding filled
length-filled size bytes fits = omega (arith, fits, length-append bytes (zeros (size - length bytes)), length-zeros (size - length bytes))

short_or_long : (n : ℕ) → (n ≤ MOST_LISTED) ⊎ (MOST_LISTED < n)
short_or_long n = grind arith

pub page_has_its_size : PageHasItsSize
page_has_its_size list = elim (short_or_long (length list)) [
  | inl short ↦ ap length (short_list list short) ∙ length-filled PAGE (words list) (omega (arith, short, length-words list))
  | inr long ↦ ap length (long_list list long) ∙ length-filled PAGE (spelled 4 0xffffffff) (omega arith)
]
