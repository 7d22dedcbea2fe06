-- Entries that are alike but for one part of their rows: they have the same keys in the same order,
-- and what is shown of them without that part is the same.
use Rattle.std.proofs.Common.{◌≡◌, Bool, ◌&&◌, T, List, [], ◌∷◌, ◌++◌, map as each, length, refl, sym, ap, subst, ◌∙◌, true, false, cond, Option, Some}
use Rattle.std.proofs.lemmas.List.{map-append, length-map}
use Rattle.std.specs.Option.{option_map}
use Rattle.std.specs.Ordering.{is_lt, eq_by_cmp}
use Rattle.std.specs.declared.cmp.Ordering.{Ordering}
use Rattle.std.specs.FinMap as map
use Rattle.std.specs.FinMap.{FinMap, find, is_sorted}
use Rattle.std.specs.FinMap.Entries.{below_all}

module _ {K X : Type 0} (R : K → K → Ordering) (plain : X → X) where
  abbrev pub plain_entry : K × X → K × X
  plain_entry e = (e.0, plain e.1)

  abbrev pub Alike : List (K × X) → List (K × X) → Type 0
  Alike es fs = each plain_entry es ≡ each plain_entry fs

  keys_plain : (es : List (K × X)) → each (λ (e : K × X). e.0) (each plain_entry es)
      ≡ each (λ (e : K × X). e.0) es
  keys_plain [] = refl
  keys_plain (e ∷ es) = ap (λ ks. e.0 ∷ ks) (keys_plain es)

  pub keys_alike : (es fs : List (K × X)) → Alike es fs → each (λ (e : K × X). e.0) es
      ≡ each (λ (e : K × X). e.0) fs
  keys_alike es fs is = sym (keys_plain es) ∙ (ap (λ (gs : List (K × X)). each (λ (e : K × X).
      e.0) gs) is ∙ keys_plain fs)

  below_plain : (k : K) (es : List (K × X)) → below_all R k (each plain_entry es) ≡ below_all R k es
  below_plain k [] = refl
  below_plain k (e ∷ es) = ap (λ b. is_lt (R k e.0) && b) (below_plain k es)

  sorted_plain : (es : List (K × X)) → is_sorted R (each plain_entry es) ≡ is_sorted R es
  sorted_plain [] = refl
  sorted_plain (e ∷ es) = ap (λ b. b && is_sorted R (each plain_entry es)) (below_plain e.0 es)
      ∙ ap (λ b. below_all R e.0 es && b) (sorted_plain es)

  pub sorted_alike : (es fs : List (K × X)) → Alike es fs → T (is_sorted R es) → T (is_sorted R fs)
  sorted_alike es fs is h = subst T (sym (sorted_plain es) ∙ (ap (is_sorted R) is
      ∙ sorted_plain fs)) h

  pub length_alike : (es fs : List (K × X)) → Alike es fs → length es ≡ length fs
  length_alike es fs is = sym (length-map es plain_entry) ∙ (ap length is
      ∙ length-map fs plain_entry)

  pub append_alike : (es fs gs hs : List (K × X)) → Alike es fs → Alike gs hs
      → Alike (es ++ gs) (fs ++ hs)
  append_alike es fs gs hs a b = map-append plain_entry es gs ∙ (ap (λ xs. xs
      ++ each plain_entry gs) a ∙ (ap (λ xs. each plain_entry fs ++ xs) b
      ∙ sym (map-append plain_entry fs hs)))

  found_plain : (q : K) (es : List (K × X)) → find R q (each plain_entry es)
      ≡ option_map plain (find R q es)
  found_plain q [] = refl
  found_plain q (e ∷ es) = at (eq_by_cmp R q e.0) _ _ (found_plain q es) where
    at : (b : Bool) (found : Option X) (rest : Option X) → rest ≡ option_map plain found
        → cond b (Some (plain e.1)) rest ≡ option_map plain (cond b (Some e.1) found)
    at true found rest is = refl
    at false found rest is = is

  pub get_alike : (m n : FinMap R X) → Alike (map.entries m) (map.entries n) → (q : K)
      → option_map plain (map.get m q) ≡ option_map plain (map.get n q)
  get_alike m n is q = ap (option_map plain) (map.get-entries m q)
      ∙ (sym (found_plain q (map.entries m)) ∙ (ap (find R q) is
      ∙ (found_plain q (map.entries n) ∙ ap (option_map plain) (sym (map.get-entries n q)))))

  module _ {Y : Type 0} (shown : X → Y) (same : (x : X) → shown (plain x) ≡ shown x) where
    shown_plain : (es : List (K × X)) → each shown (each (λ (e : K × X). e.1) (each plain_entry es))
        ≡ each shown (each (λ (e : K × X). e.1) es)
    shown_plain [] = refl
    shown_plain (e ∷ es) = ap (λ y. y ∷ each shown (each (λ (e : K × X). e.1)
        (each plain_entry es))) (same e.1) ∙ ap (λ ys. shown e.1 ∷ ys) (shown_plain es)

    pub shown_alike : (es fs : List (K × X)) → Alike es fs
        → each shown (each (λ (e : K × X). e.1) es) ≡ each shown (each (λ (e : K × X). e.1) fs)
    shown_alike es fs is = sym (shown_plain es) ∙ (ap (λ (gs : List (K × X)). each shown (each
        (λ (e : K × X). e.1) gs)) is ∙ shown_plain fs)
