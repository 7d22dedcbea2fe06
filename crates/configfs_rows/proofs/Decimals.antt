-- A text names a group exactly where it is the decimal text of a number from 1 to 128.
use Rattle.std.proofs.Common.{◌≡◌, ◌⊎◌, ℕ, zero, suc, ◌+◌, ◌-◌, ◌*◌, ◌/◌, ◌%◌, ◌^◌, ◌<◌, ◌≤◌, ◌==◌, ◌&&◌, Bool, true, false, cond, List, [], ◌∷◌, ◌++◌, length, Option, Some, None, nat_lt, nat_le, refl, sym, ap, subst, ◌∙◌, arith}
use mathlib.Core.Logic.{⊎_elim}
use Rattle.std.specs.List.{list_all}
use Rattle.std.specs.Fmt.{decimal}
use Rattle.std.proofs.lemmas.Bool.{both_ways, ltb-true, ltb-false, eqb-true}
use Rattle.std.proofs.lemmas.Fmt.{decimal_digit, decimal_step}
use Rattle.configfs_rows.specs.Values.{is_digit, starts_well, is_decimal, decimal_value, group_named, GroupNamesAgain}
use Rattle.configfs_rows.specs.declared.limits.TheConstants.{MAX_ANA_GROUPS}
use Rattle.configfs_rows.proofs.Texts.{left_true, right_true, group_in_range, first_digit, long_names_none}

-- ---- the texts of small numbers
abbrev small_text : ℕ → List ℕ
small_text n = cond (nat_lt n 10) ((48 + n) ∷ []) (cond (nat_lt n 100) ((48 + n / 10) ∷ (48
    + n % 10) ∷ []) ((48 + n / 10 / 10) ∷ (48 + n / 10 % 10) ∷ (48 + n % 10) ∷ []))

two_digits : (n : ℕ) → 10 ≤ n → n < 100 → decimal n ≡ (48 + n / 10) ∷ (48 + n % 10) ∷ []
two_digits n low high =
    let small : n < 2 ^ 64 = omega arith in
    let first : n / 10 < 10 = omega arith in
    decimal_step n low small ∙ ap (λ ds. ds ++ ((48 + n % 10) ∷ [])) (decimal_digit (n / 10) first)

three_digits : (n : ℕ) → 100 ≤ n → n < 1000 → decimal n ≡ (48 + n / 10 / 10) ∷ (48
    + n / 10 % 10) ∷ (48 + n % 10) ∷ []
three_digits n low high =
    let ten : 10 ≤ n = omega arith in
    let small : n < 2 ^ 64 = omega arith in
    let front_low : 10 ≤ n / 10 = omega arith in
    let front_high : n / 10 < 100 = omega arith in
    decimal_step n ten small ∙ ap (λ ds. ds
    ++ ((48 + n % 10) ∷ [])) (two_digits (n / 10) front_low front_high)

small_decimal : (n : ℕ) → n < 1000 → decimal n ≡ small_text n
small_decimal n high = one (nat_lt n 10) refl where
  lt-of : (a b : ℕ) → nat_lt a b ≡ true → a < b
  lt-of a b e = ltb-true a b e

  le-of : (a b : ℕ) → nat_lt a b ≡ false → b ≤ a
  le-of a b e = ltb-false a b e

  two : (b : Bool) → nat_lt n 100 ≡ b → 10 ≤ n → decimal n ≡ cond b ((48 + n / 10) ∷ (48
      + n % 10) ∷ []) ((48 + n / 10 / 10) ∷ (48 + n / 10 % 10) ∷ (48 + n % 10) ∷ [])
  two true e low = two_digits n low (lt-of n 100 e)
  two false e low = three_digits n (le-of n 100 e) high

  one : (b : Bool) → nat_lt n 10 ≡ b → decimal n ≡ cond b ((48
      + n) ∷ []) (cond (nat_lt n 100) ((48 + n / 10) ∷ (48 + n % 10) ∷ []) ((48 + n / 10 / 10) ∷ (48
      + n / 10 % 10) ∷ (48 + n % 10) ∷ []))
  one true e = decimal_digit n (lt-of n 10 e)
  one false e = two (nat_lt n 100) refl (le-of n 10 e)

-- ---- each of the 128 texts names its group
unfoldable is_some_of : Option ℕ → ℕ → Bool
is_some_of None n = false
is_some_of (Some m) n = m == n

unfoldable good_to : ℕ → Bool
good_to zero = true
good_to (suc n) = good_to n && is_some_of (group_named (small_text (suc n))) (suc n)

all_good : good_to MAX_ANA_GROUPS ≡ true
unfolding group_named is_some_of good_to
all_good = refl

some_of : (o : Option ℕ) (n : ℕ) → is_some_of o n ≡ true → o ≡ Some n
unfolding is_some_of
some_of None n e = absurd (both_ways false refl e)
some_of (Some m) n e = ap (λ k. Some k) (eqb-true m n e)

good_at : (k n : ℕ) → good_to k ≡ true → 1 ≤ n → n ≤ k → group_named (small_text n) ≡ Some n
unfolding good_to
good_at zero n h low high = absurd (omega arith)
good_at (suc k) n h low high = ⊎_elim
    (λ (e : suc k ≡ n). subst (λ (m : ℕ). group_named (small_text m) ≡ Some m) e
    (some_of (group_named (small_text (suc k))) (suc k) (right_true (good_to k)
    (is_some_of (group_named (small_text (suc k))) (suc k)) h)))
    (λ (le : n ≤ k). good_at k n (left_true (good_to k) (is_some_of
    (group_named (small_text (suc k))) (suc k)) h) low le)
    (last_or_less n k high) where
      last_or_less : (a b : ℕ) → a ≤ suc b → (suc b ≡ a) ⊎ (a ≤ b)
      last_or_less a b le = grind arith

-- ---- a text that names a group is its decimal text
named_if : (d : Bool) (n most g : ℕ) → cond (d && nat_lt 0 n && nat_le n most) (Some n) None
    ≡ Some g → (d ≡ true) × (n ≡ g)
named_if true n most g e = named_in (nat_lt 0 n && nat_le n most) e where
  named_in : (b : Bool) → cond b (Some n) None ≡ Some g → (true ≡ true) × (n ≡ g)
  named_in true e = let is : n ≡ g = cc in (refl, is)
  named_in false e = cc
named_if false n most g e = cc

digit_low : (b : ℕ) → is_digit b ≡ true → 48 ≤ b
digit_low b e = let low : 47 < b = ltb-true 47 b (left_true (nat_lt 47 b) (nat_lt b 58) e) in
    omega arith

digit_high : (b : ℕ) → is_digit b ≡ true → b < 58
digit_high b e = ltb-true b 58 (right_true (nat_lt 47 b) (nat_lt b 58) e)

all_digits : (value : List ℕ) → is_decimal value ≡ true → list_all is_digit value ≡ true
all_digits value h = right_true (nat_lt 0 (length value)) (list_all is_digit value)
    (left_true (nat_lt 0 (length value) && list_all is_digit value) (starts_well value) h)

one_named : (a g : ℕ) → is_decimal (a ∷ []) ≡ true → decimal_value 0 (a ∷ []) ≡ g
    → a ∷ [] ≡ decimal g
one_named a g h v =
    let low : 48 ≤ a = digit_low a (left_true (is_digit a) true (all_digits (a ∷ []) h)) in
    let high : a < 58 = digit_high a (left_true (is_digit a) true (all_digits (a ∷ []) h)) in
    let value : 0 * 10 + (a - 48) ≡ g = v in
    let small : g < 10 = omega arith in
    let first : a ≡ 48 + g = omega arith in
    ap (λ x. x ∷ []) first ∙ sym (decimal_digit g small)

two_named : (a b g : ℕ) → is_decimal (a ∷ b ∷ []) ≡ true → decimal_value 0 (a ∷ b ∷ []) ≡ g
    → a ∷ b ∷ [] ≡ decimal g
two_named a b g h v =
    let digits = all_digits (a ∷ b ∷ []) h in
    let first : 49 ≤ a = first_digit a b [] h in
    let high : a < 58 = digit_high a (left_true (is_digit a) (list_all is_digit (b ∷ [])) digits) in
    let is_b : is_digit b ≡ true = left_true (is_digit b) true
    (right_true (is_digit a) (list_all is_digit (b ∷ [])) digits) in
    let low_b : 48 ≤ b = digit_low b is_b in
    let high_b : b < 58 = digit_high b is_b in
    let value : (0 * 10 + (a - 48)) * 10 + (b - 48) ≡ g = v in
    let low : 10 ≤ g = omega arith in
    let small : g < 100 = omega arith in
    let a_is : a ≡ 48 + g / 10 = omega arith in
    let b_is : b ≡ 48 + g % 10 = omega arith in
    ap (λ x. x ∷ b ∷ []) a_is ∙ (ap (λ x. (48 + g / 10) ∷ x ∷ []) b_is
    ∙ sym (two_digits g low small))

three_named : (a b c g : ℕ) → is_decimal (a ∷ b ∷ c ∷ []) ≡ true
    → decimal_value 0 (a ∷ b ∷ c ∷ []) ≡ g → a ∷ b ∷ c ∷ [] ≡ decimal g
three_named a b c g h v =
    let digits = all_digits (a ∷ b ∷ c ∷ []) h in
    let first : 49 ≤ a = first_digit a b (c ∷ []) h in
    let high : a < 58 = digit_high a (left_true (is_digit a) (list_all is_digit (b ∷ c ∷ []))
    digits) in
    let rest : list_all is_digit (b ∷ c ∷ []) ≡ true =
    right_true (is_digit a) (list_all is_digit (b ∷ c ∷ [])) digits in
    let is_b : is_digit b ≡ true = left_true (is_digit b) (list_all is_digit (c ∷ [])) rest in
    let low_b : 48 ≤ b = digit_low b is_b in
    let high_b : b < 58 = digit_high b is_b in
    let is_c : is_digit c ≡ true = left_true (is_digit c) true
    (right_true (is_digit b) (list_all is_digit (c ∷ [])) rest) in
    let low_c : 48 ≤ c = digit_low c is_c in
    let high_c : c < 58 = digit_high c is_c in
    let value : ((0 * 10 + (a - 48)) * 10 + (b - 48)) * 10 + (c - 48) ≡ g = v in
    let low : 100 ≤ g = omega arith in
    let small : g < 1000 = omega arith in
    let a_is : a ≡ 48 + g / 10 / 10 = omega arith in
    let b_is : b ≡ 48 + g / 10 % 10 = omega arith in
    let c_is : c ≡ 48 + g % 10 = omega arith in
    ap (λ x. x ∷ b ∷ c ∷ []) a_is ∙ (ap (λ x. (48 + g / 10 / 10) ∷ x ∷ c ∷ []) b_is
    ∙ (ap (λ x. (48 + g / 10 / 10) ∷ (48 + g / 10 % 10) ∷ x ∷ []) c_is
    ∙ sym (three_digits g low small)))

none_is : {X : Type 0} (o : Option X) (x : X) → None ≡ o → o ≡ Some x → ⊥
none_is o x e f = cc

named_text : (value : List ℕ) (g : ℕ) → group_named value ≡ Some g → value ≡ decimal g
unfolding group_named
named_text [] g e = cc
named_text (a ∷ []) g e = let w = named_if (is_decimal (a ∷ [])) (decimal_value 0 (a ∷ []))
    MAX_ANA_GROUPS g e in one_named a g w.0 w.1
named_text (a ∷ b ∷ []) g e = let w = named_if (is_decimal (a ∷ b ∷ []))
    (decimal_value 0 (a ∷ b ∷ [])) MAX_ANA_GROUPS g e in two_named a b g w.0 w.1
named_text (a ∷ b ∷ c ∷ []) g e = let w =
    named_if (is_decimal (a ∷ b ∷ c ∷ [])) (decimal_value 0 (a ∷ b ∷ c ∷ [])) MAX_ANA_GROUPS g e in
    three_named a b c g w.0 w.1
named_text (a ∷ b ∷ c ∷ d ∷ rest) g e =
    let long : 3 < length (a ∷ b ∷ c ∷ d ∷ rest) = omega arith in
    absurd (none_is (group_named (a ∷ b ∷ c ∷ d ∷ rest)) g (long_names_none (a ∷ b ∷ c ∷ d ∷ rest)
    long) e)

text_named : (value : List ℕ) (g : ℕ) → 1 ≤ g → g ≤ MAX_ANA_GROUPS → value ≡ decimal g
    → group_named value ≡ Some g
text_named value g low high e =
    let small : g < 1000 = omega arith in
    ap group_named (e ∙ small_decimal g small) ∙ good_at MAX_ANA_GROUPS g all_good low high

pub group_names_again : (value : List ℕ) (g : ℕ) → GroupNamesAgain value g
group_names_again value g = (
  λ e. let r = group_in_range value g e in let low : 0 < g = r.0 in
      let low' : 1 ≤ g = omega arith in (low', r.1, named_text value g e),
  λ w. text_named value g w.0 w.1 w.2,
)
