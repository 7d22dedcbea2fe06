-- Scans of entries and of what an iterator of a map lends: the first that passes a test, whether
-- anything does, and the item with a number.
use Rattle.std.proofs.Common.{◌≡◌, Bool, true, false, ◌||◌, T, List, [], ◌∷◌, cond, ℕ, zero, suc, ◌+◌, ◌<◌, ◌≤◌, length, take, get_or, Option, Some, None, is_some, option_copied, option_map, refl, sym, ap, subst, ◌∙◌, arith}
use Rattle.std.specs.List.{list_any, find, slice_get}
use Rattle.std.specs.Map.{values_of}
use Rattle.std.specs.Iterator.{SkipsThenYields}
use Rattle.std.specs.Map.Iter.{TakesFirst, deref}
use Rattle.std.proofs.lemmas.Iterator.Consumers.{nth_from_yields_List, YieldsList-from_shown}
use denote.Ref.{Bor}

-- ---- entries that are read one after another, for the first whose value passes
module _ {K X : Type 0} (p : X → Bool) where
  pub first_hit : (es : List (K × X)) (n : ℕ) (d : K × X) → n < length es → d ≡ get_or es n d
      → find p (values_of (take n es)) ≡ None → p d.1 ≡ true → Some d.1 ≡ find p (values_of es)
  first_hit [] n d lt is none hit = absurd (omega (arith, lt))
  first_hit (e ∷ es) zero d lt is none hit =
      ap (λ (x : K × X). Some x.1) is
      ∙ sym (ap (λ b. cond b (Some e.1) (find p (values_of es)))
      (sym (ap (λ (x : K × X). p x.1) is) ∙ hit))
  first_hit (e ∷ es) (suc n) d lt is none hit =
      elim (p e.1) as (λ b. cond b (Some e.1) (find p (values_of (take n es))) ≡ None
      → Some d.1 ≡ cond b (Some e.1) (find p (values_of es))) [
        | true ↦ λ h. absurd (subst (λ o. T (is_some o)) h tt)
        | false ↦ λ h. first_hit es n d (omega (arith, lt)) is h hit
      ] none

  missed_on : (es : List (K × X)) (n : ℕ) (d : K × X) → n < length es → d ≡ get_or es n d
      → find p (values_of (take n es)) ≡ None → p d.1 ≡ false
      → find p (values_of (take (suc n) es)) ≡ None
  missed_on [] n d lt is none miss = refl
  missed_on (e ∷ es) zero d lt is none miss =
      ap (λ b. cond b (Some e.1) None) (sym (ap (λ (x : K × X). p x.1) is) ∙ miss)
  missed_on (e ∷ es) (suc n) d lt is none miss =
      elim (p e.1) as (λ b. cond b (Some e.1) (find p (values_of (take n es))) ≡ None
      → cond b (Some e.1) (find p (values_of (take (suc n) es))) ≡ None) [
        | true ↦ λ h. absurd (subst (λ o. T (is_some o)) h tt)
        | false ↦ λ h. missed_on es n d (omega (arith, lt)) is h miss
      ] none

  pub next_missed : (es : List (K × X)) (n : ℕ) (d : K × X) → n < length es → d ≡ get_or es n d
      → find p (values_of (take n es)) ≡ None → p d.1 ≡ false
      → find p (values_of (take (n + 1) es)) ≡ None
  next_missed es n d lt is none miss =
      let next : suc n ≡ n + 1 = omega arith in
      subst (λ m. find p (values_of (take m es)) ≡ None) next (missed_on es n d lt is none miss)

  pub all_missed : (es : List (K × X)) (n : ℕ) → length es ≤ n
      → find p (values_of (take n es)) ≡ None → None ≡ find p (values_of es)
  all_missed [] n le none = refl
  all_missed (e ∷ es) zero le none = absurd (omega (arith, le))
  all_missed (e ∷ es) (suc n) le none =
      elim (p e.1) as (λ b. cond b (Some e.1) (find p (values_of (take n es))) ≡ None
      → None ≡ cond b (Some e.1) (find p (values_of es))) [
        | true ↦ λ h. absurd (subst (λ o. T (is_some o)) h tt)
        | false ↦ λ h. all_missed es n (omega (arith, le)) h
      ] none

-- a test has one answer
pub clash : (b : Bool) → b ≡ true → b ≡ false → ⊥
clash b holds fails = cc

-- something is found exactly where something passes
found_on : {X : Type 0} (p : X → Bool) (x : X) (xs : List X) (b : Bool)
    → is_some (find p xs) ≡ list_any p xs → is_some (cond b (Some x) (find p xs))
    ≡ (b || list_any p xs)
found_on p x xs true e = refl
found_on p x xs false e = e

pub some_found : {X : Type 0} (p : X → Bool) (xs : List X) → is_some (find p xs) ≡ list_any p xs
some_found p [] = refl
some_found p (x ∷ xs) = found_on p x xs (p x) (some_found p xs)

pub none_passes : {X : Type 0} (p : X → Bool) (xs : List X) → find p xs ≡ None
    → list_any p xs ≡ false
none_passes p xs e = sym (some_found p xs) ∙ ap is_some e

copied_some : {X : Type 0} (r : Option (Bor X)) → is_some (option_copied r) ≡ is_some r
copied_some None = refl
copied_some (Some x) = refl

-- a scan that lends what it finds tells whether anything passes
pub lent_passes : {X : Type 0} (p : X → Bool) (xs : List X) (r : Option (Bor X))
    → option_copied r ≡ find p xs → is_some r ≡ list_any p xs
lent_passes p xs r e = sym (copied_some r) ∙ ap is_some e ∙ some_found p xs

-- ---- the item with a number
copied_map : {X : Type 0} (r : Option (Bor X)) → option_copied r ≡ option_map deref r
copied_map None = refl
copied_map (Some x) = refl

pub nth_shown : {X : Type 0} (all u : List X) (r : Option (Bor X)) (n : ℕ)
    → SkipsThenYields (TakesFirst deref) all n r u → option_copied r ≡ slice_get all n
nth_shown all u r n ran = copied_map r ∙ nth_from_yields_List r u n ran
    (YieldsList-from_shown (TakesFirst deref) deref (λ s. s) (λ s t h. ap (λ xs. length xs) h.0)
    (λ s x t h. h) all)
