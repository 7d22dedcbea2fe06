-- Words put in place.
use Rattle.std.proofs.Common.{◌≡◌, ◌⊎◌, ◌<◌, ℕ, zero, suc, List, [], ◌∷◌, length, get_or, set, slice_index, Some, None, refl, sym, ap, ◌∙◌, inl, inr, arith, get_or-set_other, get_or-set_same}
use mathlib.Core.Logic.{⊎_elim, dite}
use native.Mathlib.Decide.{ℕ_discrete}
use Rattle.std.proofs.lemmas.List.{length-set, same_lists, get_or_default}
use Rattle.std.specs.List.{slice_get}
use Rattle.ref_state.specs.State.{overlaid}
use Rattle.ns_table.specs.declared.layout.TheConstants.{WORDS}
use Rattle.edit_words.specs.Exact.{IsAmong, AreTurned}
use Rattle.edit_words.specs.Patching.{TurnedWordsPatch}

none-some : {X : Type 0} (x : X) → None ≡ Some x → ⊥
none-some x e = cc

some-same : {X : Type 0} (x y : X) → Some x ≡ Some y → x ≡ y
some-same x y e = cc

pub overlaid-length : (ws : List ℕ) (ps : List (ℕ × ℕ)) → length (overlaid ws ps) ≡ length ws
overlaid-length ws [] = refl
overlaid-length ws (p ∷ ps) = length-set (overlaid ws ps) p.0 p.1 ∙ overlaid-length ws ps

-- each of the words has its position below n, and the value that stands there after
abbrev Are : List ℕ → ℕ → List (ℕ × ℕ) → Type 0
Are after n ps = (k at v : ℕ) → slice_get ps k ≡ Some (at, v) → (at < n) × (v ≡ slice_index after at)

abbrev Covered : List ℕ → List ℕ → List (ℕ × ℕ) → ℕ → Type 0
Covered before after ps i = (slice_index after i ≡ slice_index before i) ⊎ IsAmong ps i (slice_index after i)

-- where another word comes first, it is covered by the others
behind : (before after : List ℕ) (p : ℕ × ℕ) (ps : List (ℕ × ℕ)) (i : ℕ) → (i ≡ p.0 → ⊥)
    → Covered before after (p ∷ ps) i → Covered before after ps i
behind before after p ps i ne (inl same) = inl same
behind before after p ps i ne (inr among) = by_place among.place among.is
  where
    by_place : (k : ℕ) → slice_get (p ∷ ps) k ≡ Some (i, slice_index after i) → Covered before after ps i
    by_place zero e = absurd (ne (sym (ap (λ (x : ℕ × ℕ). x.0) (some-same p (i, slice_index after i) e))))
    by_place (suc k) e = inr (record { place = k; is = e })

stands : (before after : List ℕ) (ps : List (ℕ × ℕ)) → Are after (length before) ps → (i : ℕ)
    → Covered before after ps i → slice_index (overlaid before ps) i ≡ slice_index after i
stands before after [] are i (inl same) = sym same
stands before after [] are i (inr among) = absurd (none-some (i, slice_index after i) among.is)
stands before after (p ∷ ps) are i covered =
    let first = are 0 p.0 p.1 refl in
    let rest = overlaid before ps in
    dite (ℕ_discrete i p.0)
    (λ (is : i ≡ p.0). ap (slice_index (set rest p.0 p.1)) is
    ∙ (get_or-set_same rest p.0 p.1 0 (omega (arith, first.0, overlaid-length before ps))
    ∙ (first.1 ∙ ap (slice_index after) (sym is))))
    (λ ne. get_or-set_other rest p.0 i p.1 0 ne
    ∙ stands before after ps (λ k at v e. are (suc k) at v e) i (behind before after p ps i ne covered))

pub turned_patch : TurnedWordsPatch
turned_patch before after words long same turned =
    let covers = overlaid-length before words in
    same_lists (overlaid before words) after (omega (arith, covers, long, same))
    (λ k d near.
    let low : k < WORDS = omega (arith, covers, long, near) in
    let end : k < length after = omega (arith, low, same) in
    get_or_default (overlaid before words) k d 0 near
    ∙ (stands before after words (λ j at v e.
    let t = turned.exact j at v e in (omega (arith, t.below, long), t.new)) k (turned.whole k low)
    ∙ get_or_default after k 0 d end))
