-- The words of a list that rows don't have.
use Rattle.std.proofs.Common.{◌≡◌, ◌⊎◌, ◌<◌, ℕ, zero, suc, ◌==◌, Bool, true, false, if◌then◌else◌, List, [], ◌∷◌, length, slice_index, Some, None, refl, sym, ap, ◌∙◌, inl, inr, arith}
use Rattle.std.proofs.lemmas.Bool.{both_ways}
use Rattle.std.specs.List.{slice_get, slice_index_or}
use Rattle.edit_words.specs.Differing.{differing}

none-some : {X : Type 0} (x : X) → None ≡ Some x → ⊥
none-some x e = cc

some-same : {X : Type 0} (x y : X) → Some x ≡ Some y → x ≡ y
some-same x y e = cc

zero-suc : (n : ℕ) → zero ≡ suc n → ⊥
zero-suc n e = cc

suc-same : (m n : ℕ) → suc m ≡ suc n → m ≡ n
suc-same m n e = cc

-- an element with its place
pub got : {X : Type 0} (xs : List X) (k : ℕ) (x : X) → k < length xs → slice_index_or xs k x ≡ x
    → slice_get xs k ≡ Some x
got [] k x lt e = absurd (omega (arith, lt))
got (y ∷ ys) zero x lt e = ap (λ z. Some z) e
got (y ∷ ys) (suc k) x lt e = got ys k x (omega (arith, lt)) e

pub record IsAt {X : Type 0} (xs : List X) (x : X) : Type 0 where
  pub k : ℕ
  pub is : slice_get xs k ≡ Some x

-- ---- what is kept
abbrev has : List ℕ → ℕ × ℕ → Bool
has ws x = slice_index ws x.0 == x.1

kept-on : (ws : List ℕ) (y : ℕ × ℕ) (ys : List (ℕ × ℕ)) (b : Bool) (x : ℕ × ℕ) → has ws y ≡ b
    → has ws x ≡ false → (y ≡ x) ⊎ IsAt (differing ws ys) x
    → IsAt (if b then differing ws ys else y ∷ differing ws ys) x
kept-on ws y ys true x e off (inl is) = absurd (both_ways (has ws x) off (ap (has ws) (sym is) ∙ e))
kept-on ws y ys true x e off (inr at) = at
kept-on ws y ys false x e off (inl is) = record { k = 0; is = ap (λ z. Some z) is }
kept-on ws y ys false x e off (inr at) = record { k = suc at.k; is = at.is }

pub kept : (ws : List ℕ) (xs : List (ℕ × ℕ)) (k : ℕ) (x : ℕ × ℕ) → slice_get xs k ≡ Some x
    → has ws x ≡ false → IsAt (differing ws xs) x
kept ws [] k x e off = absurd (none-some x e)
kept ws (y ∷ ys) zero x e off = kept-on ws y ys (has ws y) x refl off (inl (some-same y x e))
kept ws (y ∷ ys) (suc k) x e off = kept-on ws y ys (has ws y) x refl off (inr (kept ws ys k x e off))

pub record Came (ws : List ℕ) (xs : List (ℕ × ℕ)) (x : ℕ × ℕ) : Type 0 where
  pub k : ℕ
  pub is : slice_get xs k ≡ Some x
  pub off : has ws x ≡ false

later : (ws : List ℕ) (y : ℕ × ℕ) (ys : List (ℕ × ℕ)) (x : ℕ × ℕ) → Came ws ys x → Came ws (y ∷ ys) x
later ws y ys x c = record { k = suc c.k; is = c.is; off = c.off }

came-on : (ws : List ℕ) (y : ℕ × ℕ) (ys : List (ℕ × ℕ)) (b : Bool) (i : ℕ) (x : ℕ × ℕ) → has ws y ≡ b
    → slice_get (if b then differing ws ys else y ∷ differing ws ys) i ≡ Some x
    → ((j : ℕ) → slice_get (differing ws ys) j ≡ Some x → Came ws ys x) → Came ws (y ∷ ys) x
came-on ws y ys true i x h e rest = later ws y ys x (rest i e)
came-on ws y ys false zero x h e rest =
    record { k = 0; is = e; off = ap (has ws) (sym (some-same y x e)) ∙ h }
came-on ws y ys false (suc i) x h e rest = later ws y ys x (rest i e)

pub came : (ws : List ℕ) (xs : List (ℕ × ℕ)) (i : ℕ) (x : ℕ × ℕ) → slice_get (differing ws xs) i ≡ Some x
    → Came ws xs x
came ws [] i x e = absurd (none-some x e)
came ws (y ∷ ys) i x e = came-on ws y ys (has ws y) i x refl e (λ j f. came ws ys j x f)

-- ---- each position once
abbrev pub IsOnce : List (ℕ × ℕ) → Type 0
IsOnce xs = (i j : ℕ) (x y : ℕ × ℕ) → slice_get xs i ≡ Some x → slice_get xs j ≡ Some y → x.0 ≡ y.0
    → i ≡ j

once-rest : (y : ℕ × ℕ) (ys : List (ℕ × ℕ)) → IsOnce (y ∷ ys) → IsOnce ys
once-rest y ys h i j a b e f same = suc-same i j (h (suc i) (suc j) a b e f same)

once-on : (ws : List ℕ) (y : ℕ × ℕ) (ys : List (ℕ × ℕ)) (b : Bool) → IsOnce (y ∷ ys)
    → IsOnce (differing ws ys) → IsOnce (if b then differing ws ys else y ∷ differing ws ys)
once-on ws y ys true h rest i j a b e f same = rest i j a b e f same
once-on ws y ys false h rest zero zero a b e f same = refl
once-on ws y ys false h rest zero (suc j) a b e f same =
    let w = came ws ys j b f in
    absurd (zero-suc w.k (h 0 (suc w.k) a b e w.is same))
once-on ws y ys false h rest (suc i) zero a b e f same =
    let w = came ws ys i a e in
    absurd (zero-suc w.k (h 0 (suc w.k) b a f w.is (sym same)))
once-on ws y ys false h rest (suc i) (suc j) a b e f same =
    ap (λ (n : ℕ). suc n) (rest i j a b e f same)

pub once : (ws : List ℕ) (xs : List (ℕ × ℕ)) → IsOnce xs → IsOnce (differing ws xs)
once ws [] h i j a b e f same = absurd (none-some a e)
once ws (y ∷ ys) h i j a b e f same =
    once-on ws y ys (has ws y) h (once ws ys (once-rest y ys h)) i j a b e f same
