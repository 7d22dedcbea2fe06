-- Texts of attributes: a value is ASCII, and a decimal number of more than three digits is above
-- 128.
use Rattle.std.proofs.Common.{◌≡◌, ℕ, zero, suc, ◌+◌, ◌-◌, ◌*◌, ◌<◌, ◌≤◌, ◌&&◌, not, Bool, true, false, cond, List, [], ◌∷◌, length, Option, Some, None, nat_lt, nat_le, refl, sym, ap, subst, arith, ◌==◌}
use Rattle.std.proofs.lemmas.Grind.{common_steps}
use Rattle.std.specs.List.{list_all}
use Rattle.std.specs.Str.{IsAscii}
use Rattle.std.proofs.lemmas.Bool.{ltb-true, leb-true, lt-leb}
use Rattle.configfs_rows.specs.Values.{is_text, is_text_byte, is_digit, starts_well, is_decimal, decimal_value, group_named}
use Rattle.configfs_rows.specs.declared.limits.TheConstants.{MAX_ANA_GROUPS}

pub left_true : (a b : Bool) → (a && b) ≡ true → a ≡ true
left_true true b e = refl
left_true false b e = e

pub right_true : (a b : Bool) → (a && b) ≡ true → b ≡ true
right_true true b e = e
right_true false b e = cc

pub not_true : (b : Bool) → not b ≡ true → b ≡ false
not_true true e = sym e
not_true false e = refl

-- what none of no value is
pub none_of_no : {X : Type 0} (o : Option X) → (((u : X) × (o ≡ Some u)) → ⊥) → o ≡ None
none_of_no None h = refl
none_of_no (Some x) h = absurd (h (x, refl))

pub text_is_ascii : (bytes : List ℕ) → is_text bytes ≡ true → IsAscii bytes
text_is_ascii [] h i = lit_below where
  lit_below : 0 < 128
  lit_below = omega arith
text_is_ascii (b ∷ bytes) h zero =
    ltb-small (ltb-true b 127 (right_true (nat_lt 31 b) (nat_lt b 127)
    (left_true (is_text_byte b) (is_text bytes) h))) where
      ltb-small : b < 127 → b < 128
      ltb-small lt = omega arith
text_is_ascii (b ∷ bytes) h (suc i) = text_is_ascii bytes (right_true (is_text_byte b)
    (is_text bytes) h) i

value_le : (n : ℕ) (bytes : List ℕ) → n ≤ decimal_value n bytes
value_le n [] = omega arith
value_le n (b ∷ bytes) =
    let more : n * 10 + (b - 48) ≤ decimal_value (n * 10 + (b - 48)) bytes =
    value_le (n * 10 + (b - 48)) bytes in
    omega arith

not_both : {X : Type 0} (p q r : Bool) (x : X) → (p ≡ true → r ≡ false)
    → None ≡ cond (p && q && r) (Some x) None
not_both true true r x h = ap (λ b. cond b (Some x) None) (sym (h refl))
not_both true false r x h = refl
not_both false q r x h = refl

pub first_digit : (a b : ℕ) (bytes : List ℕ) → is_decimal (a ∷ b ∷ bytes) ≡ true → 49 ≤ a
first_digit a b bytes h =
    let value = a ∷ b ∷ bytes in
    let digits : list_all is_digit value ≡ true =
    right_true (nat_lt 0 (length value)) (list_all is_digit value)
    (left_true (nat_lt 0 (length value) && list_all is_digit value) (starts_well value) h) in
    let digit : 47 < a = ltb-true 47 a (left_true (nat_lt 47 a) (nat_lt a 58)
    (left_true (is_digit a) (list_all is_digit (b ∷ bytes)) digits)) in
    let other : (a == 48) ≡ false = not_true (a == 48) (right_true (nat_lt 0 (length value)
    && list_all is_digit value) (starts_well value) h) in
    grind (arith, common_steps)

pub long_names_none : (value : List ℕ) → 3 < length value → None ≡ group_named value
unfolding group_named
long_names_none [] lt = absurd (omega arith)
long_names_none (a ∷ []) lt = absurd (omega arith)
long_names_none (a ∷ b ∷ []) lt = absurd (omega arith)
long_names_none (a ∷ b ∷ c ∷ []) lt = absurd (omega arith)
long_names_none (a ∷ b ∷ c ∷ d ∷ rest) lt =
    let value = a ∷ b ∷ c ∷ d ∷ rest in
    not_both (is_decimal value) (nat_lt 0 (decimal_value 0 value))
    (nat_le (decimal_value 0 value) MAX_ANA_GROUPS) (decimal_value 0 value)
    (λ (h : is_decimal value ≡ true).
    let first : 49 ≤ a = first_digit a b (c ∷ d ∷ rest) h in
    let more : (((0 * 10 + (a - 48)) * 10 + (b - 48)) * 10 + (c - 48)) * 10
    + (d - 48) ≤ decimal_value 0 value = value_le ((((0 * 10 + (a - 48)) * 10 + (b - 48)) * 10
    + (c - 48)) * 10 + (d - 48)) rest in
    let above : MAX_ANA_GROUPS < decimal_value 0 value = omega arith in
    lt-leb (decimal_value 0 value) MAX_ANA_GROUPS above)

named_low : (d : Bool) (n most g : ℕ) → cond (d && nat_lt 0 n && nat_le n most) (Some n) None
    ≡ Some g → (0 < g) × (g ≤ most)
named_low true n most g e = named_in (nat_lt 0 n) (nat_le n most) refl refl e where
  named_in : (a b : Bool) → nat_lt 0 n ≡ a → nat_le n most ≡ b
      → cond (a && b) (Some n) None ≡ Some g → (0 < g) × (g ≤ most)
  named_in true true low high e =
      let same : n ≡ g = cc in (
        subst (λ (m : ℕ). 0 < m) same (ltb-true 0 n low),
        subst (λ (m : ℕ). m ≤ most) same (leb-true n most high),
      )
  named_in true false low high e = cc
  named_in false b low high e = cc
named_low false n most g e = cc

-- a group that a text names is from 1 to 128
pub group_in_range : (value : List ℕ) (g : ℕ) → group_named value ≡ Some g → (0 < g)
    × (g ≤ MAX_ANA_GROUPS)
unfolding group_named
group_in_range value g e = named_low (is_decimal value) (decimal_value 0 value) MAX_ANA_GROUPS g e
