-- A list of NSIDs that is cut at the end of its page.
use Rattle.std.proofs.Common.{◌≡◌, ◌⊎◌, inl, inr, ℕ, ◌+◌, ◌-◌, ◌*◌, ◌≤◌, ◌<◌, List, [], ◌∷◌, ◌++◌, length, take, drop, get_or, map, refl, sym, ◌∙◌, ap, arith, length-append, length-drop}
use Rattle.std.proofs.lemmas.List.{get_or_append_left, get_or_past, length-take, take-append-drop, ext_get_or}
use Rattle.std.proofs.lemmas.List.FromFn.{get_or-map-range_with_len, length-map-range_with_len}
use Rattle.std.specs.List.{range_with_len}
use Rattle.look_pages.specs.declared.walk.TheConstants.{MOST_LISTED, PAGE}
use Rattle.look_pages.specs.Pages.{words, filled, window}
use Rattle.look_pages.proofs.Walks.{length-words, words_append}
use Rattle.look_pages.proofs.Parts.{window-all, get_or-filled}
use Rattle.look_pages.proofs.Ranges.{length-filled}

-- two pages with the same bytes up to the end of the part
window-same : (n : ℕ) (a b : List ℕ) → ((i : ℕ) → i < n → get_or a i 0 ≡ get_or b i 0) → window 0 n a ≡ window 0 n b
unfolding window
window-same n a b same =
    ext_get_or 0 (map (λ i. get_or a i 0) (range_with_len 0 n)) (map (λ i. get_or b i 0) (range_with_len 0 n))
    (length-map-range_with_len (λ (i : ℕ). get_or a i 0) 0 n ∙ sym (length-map-range_with_len (λ (i : ℕ). get_or b i 0) 0 n))
    (λ i low.
    let small : i < n = omega (arith, low, length-map-range_with_len (λ (j : ℕ). get_or a j 0) 0 n) in
    get_or-map-range_with_len (λ (j : ℕ). get_or a j 0) 0 n i i 0 small (omega arith)
    ∙ same i small
    ∙ sym (get_or-map-range_with_len (λ (j : ℕ). get_or b j 0) 0 n i i 0 small (omega arith)))

inside : (i k : ℕ) → (i < k) ⊎ (k ≤ i)
inside i k = grind arith

-- a byte of the first so many words, or past the end of all
first-byte : (list : List ℕ) (i : ℕ) → i < PAGE → get_or (words (take MOST_LISTED list) ++ words (drop MOST_LISTED list)) i 0 ≡ get_or (words (take MOST_LISTED list)) i 0
first-byte list i low = elim (inside i (length (words (take MOST_LISTED list)))) [
  | inl before ↦ get_or_append_left (words (take MOST_LISTED list)) (words (drop MOST_LISTED list)) 0 i before
  | inr after ↦
      let long : length (words (take MOST_LISTED list) ++ words (drop MOST_LISTED list)) ≤ i =
      omega (arith, after, low, length-append (words (take MOST_LISTED list)) (words (drop MOST_LISTED list)), length-words (take MOST_LISTED list), length-words (drop MOST_LISTED list), length-take MOST_LISTED list, length-drop MOST_LISTED list) in
      get_or_past (words (take MOST_LISTED list) ++ words (drop MOST_LISTED list)) i 0 long
      ∙ sym (get_or_past (words (take MOST_LISTED list)) i 0 after)
]

words-cut : (list : List ℕ) → words list ≡ words (take MOST_LISTED list) ++ words (drop MOST_LISTED list)
words-cut list = ap words (sym (take-append-drop MOST_LISTED list)) ∙ words_append (take MOST_LISTED list) (drop MOST_LISTED list)

first-fits : (list : List ℕ) → length (words (take MOST_LISTED list)) ≤ PAGE
first-fits list = omega (arith, length-words (take MOST_LISTED list), length-take MOST_LISTED list)

-- what fits of a list is its first 1,024 NSIDs
pub cut_list : (list : List ℕ) → window 0 PAGE (words list) ≡ filled PAGE (words (take MOST_LISTED list))
cut_list list =
    let first = words (take MOST_LISTED list) in
    ap (λ bytes. window 0 PAGE bytes) (words-cut list)
    ∙ window-same PAGE (first ++ words (drop MOST_LISTED list)) (filled PAGE first)
    (λ i low. first-byte list i low ∙ sym (get_or-filled PAGE first i))
    ∙ window-all (filled PAGE first) PAGE (length-filled PAGE first (first-fits list))
