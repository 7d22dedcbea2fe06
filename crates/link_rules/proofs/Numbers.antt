-- Numbers read from words, and the words that spell them.
use Rattle.std.proofs.Common.{◌≡◌, ◌<◌, ◌≤◌, ◌+◌, ◌^◌, ℕ, zero, suc, Bool, true, false, cond, not, ◌&&◌, ◌||◌, eqb, ltb, leb, List, [], ◌∷◌, length, get_or, Option, Some, None, Result, Ok, Err, refl, sym, ap, ◌∙◌, arith, rules, subst, inl, inr}
use Rattle.std.specs.Prelude.{IsUtf8, nat_le}
use Rattle.std.specs.Result.{result_ok}
use Rattle.std.specs.List.{list_all}
use Rattle.std.specs.Option.{option_and_then}
use Rattle.std.specs.Fmt.{decimal}
use Rattle.std.specs.Str.Parse.{digits_value, ParsesUnsigned}
use Rattle.std.proofs.lemmas.Bool.{eqb-true, ltb-true, lt-ltb, le-ltb, le-leb, cases_lt}
use Rattle.std.proofs.lemmas.Option.{cond_some}
use Rattle.std.proofs.lemmas.Str.Parse.{IsNumeralModel, IsDigitsTest, numerals_by_value, parse_digits}
use Rattle.std.proofs.lemmas.Str.{IsUtf8-from_ascii}
use Rattle.std.proofs.lemmas.Fmt.{IsAscii-from_digits, decimal-digits_value, decimal_nonempty, decimal_digit, first_decimal, digits_decimal, digits_value-decimal}
use Rattle.plan_files.specs.Spelling.{is_numeral, number_of}
use Rattle.link_rules.specs.Reading.{number_below}
use Rattle.link_rules.proofs.Maps.{none_some}

abbrev pub Digits : List ℕ → Type 0
Digits ds = list_all (λ b. nat_le 48 b && nat_le b 57) ds ≡ true

tests : IsDigitsTest Digits
tests = search rules

own : IsNumeralModel Digits (digits_value 10)
own = numerals_by_value Digits tests

pub and-parts : (a b : Bool) → (a && b) ≡ true → (a ≡ true) × (b ≡ true)
and-parts true true e = (refl, refl)
and-parts true false e = absurd cc
and-parts false b e = absurd cc

le-from : (n : ℕ) → leb 1 n ≡ true → 1 ≤ n
le-from zero e = absurd cc
le-from (suc n) e = omega arith

or-false : (b : Bool) → (b || false) ≡ true → b ≡ true
or-false true e = refl
or-false false e = absurd cc

plain-from : (n x : ℕ) → (eqb n 1 || not (eqb x 48)) ≡ true → x ≡ 48 → n ≡ 1
plain-from n x e h =
    let k : eqb x 48 ≡ true = grind arith in
    let f : (eqb n 1 || not true) ≡ true = subst (λ (t : Bool). (eqb n 1 || not t) ≡ true) k e in
    eqb-true n 1 (or-false (eqb n 1) f)

-- the parts of a numeral
record IsPlain (word : List ℕ) : Type 0 where
  some : 1 ≤ length word
  plain : get_or word 0 0 ≡ 48 → length word ≡ 1
  digits : Digits word

numeral-parts : (word : List ℕ) → is_numeral word ≡ true → IsPlain word
unfolding is_numeral
numeral-parts word e =
    let p = and-parts (leb 1 (length word) && (eqb (length word) 1 || not (eqb
    (get_or word 0 0) 48))) (list_all (λ b. nat_le 48 b && nat_le b 57) word) e in
    let q = and-parts (leb 1 (length word)) (eqb (length word) 1 || not (eqb
    (get_or word 0 0) 48)) p.0 in
    record {
      some = le-from (length word) q.0;
      plain = plain-from (length word)
          (get_or word 0 0) q.1;
      digits = p.1;
    }

-- ---- what the code reads
pub no_numeral : (word : List ℕ) → is_numeral word ≡ false → number_of word ≡ None
unfolding number_of
no_numeral word e = rw e refl

pub numeral_is_text : (word : List ℕ) → is_numeral word ≡ true → IsUtf8 word
numeral_is_text word e = IsUtf8-from_ascii word (IsAscii-from_digits word (own.to word
    (numeral-parts word e).digits))

pub parsed : {E : Type 0} (word : List ℕ) (r : Result ℕ E) → is_numeral word ≡ true
    → ParsesUnsigned 64 10 word r → result_ok r ≡ number_of word
unfolding number_of
parsed {E} word (Ok n) e h =
    let p = parse_digits own {E = E} 64 word (Ok n) h (numeral-parts word e).digits in
    let small : ltb (digits_value 10 word) (2 ^ 64) ≡ true = lt-ltb (digits_value 10 word)
    (2 ^ 64) p.0.1 in
    rw (e, small) (ap (λ (x : ℕ). Some x) p.1)
parsed {E} word (Err d) e h =
    let p = parse_digits own {E = E} 64 word (Err d) h (numeral-parts word e).digits in
    elim (cases_lt (digits_value 10 word) (2 ^ 64)) [
      | inl lt ↦ absurd (p ((numeral-parts word e).some, lt))
      | inr le ↦ let large : ltb (digits_value 10 word) (2 ^ 64) ≡ false = le-ltb
          (digits_value 10 word) (2 ^ 64) le in rw (e, large) refl
    ]

-- ---- what a number is spelled as
number_was : (word : List ℕ) (n : ℕ) → number_of word ≡ Some n → word ≡ decimal n
unfolding number_of
number_was word n e =
    let c = cond_some (is_numeral word && ltb (digits_value 10 word) (2 ^ 64))
    (digits_value 10 word) n e in
    let p = and-parts (is_numeral word) (ltb (digits_value 10 word) (2 ^ 64)) c.0 in
    let plain = numeral-parts word p.0 in
    let small : digits_value 10 word < 2 ^ 64 = ltb-true _ _ p.1 in
    let back : decimal (digits_value 10 word) ≡ word = decimal-digits_value own word plain.digits
    plain.some plain.plain small in
    sym back ∙ ap decimal c.1

or-true : (b : Bool) → (b || true) ≡ true
or-true true = refl
or-true false = refl

plain_again : (n : ℕ) → n < 2 ^ 64 → (eqb (length (decimal n)) 1 || not (eqb (get_or
    (decimal n) 0 0) 48)) ≡ true
plain_again n h =
    elim (cases_lt n 10) [
      | inl few ↦ rw (decimal_digit n few) refl
      | inr more ↦
          let first : 48 < get_or (decimal n) 0 0 = first_decimal n (omega arith) h in
          let other : eqb (get_or (decimal n) 0 0) 48 ≡ false = grind arith in
          rw other (or-true (eqb (length (decimal n)) 1))
    ]

number_again : (n : ℕ) → n < 2 ^ 64 → number_of (decimal n) ≡ Some n
unfolding number_of is_numeral
number_again n h =
    let some : leb 1 (length (decimal n)) ≡ true = le-leb 1 (length (decimal n))
    (decimal_nonempty n h) in
    let value : digits_value 10 (decimal n) ≡ n = digits_value-decimal own n h in
    rw (some, plain_again n h, digits_decimal own n h, value, lt-ltb n (2 ^ 64) h) refl

pub digits_of : (n : ℕ) → n < 2 ^ 64 → list_all (λ b. nat_le 48 b && nat_le b 57) (decimal n) ≡ true
digits_of n h = digits_decimal own n h

abbrev below_of : ℕ → Option ℕ → Option ℕ
below_of limit o = option_and_then (λ n. cond (ltb n limit) (Some n) None) o

below_was : (limit n : ℕ) (o : Option ℕ) → below_of limit o ≡ Some n
    → (o ≡ Some n) × (ltb n limit ≡ true)
below_was limit n None e = absurd (none_some n e)
below_was limit n (Some k) e = let c = cond_some (ltb k limit) k n e in
    (ap (λ (x : ℕ). Some x) c.1, rw (← c.1) c.0)

-- a word is the number's decimal text, and the number is below the limit
pub below_spelled : (limit n : ℕ) (word : List ℕ) → number_below limit word ≡ Some n
    → (word ≡ decimal n) × (ltb n limit ≡ true)
unfolding number_below
below_spelled limit n word e = let b = below_was limit n (number_of word) e in
    (number_was word n b.0, b.1)

pub below_again : (limit n : ℕ) → limit ≤ 2 ^ 64 → ltb n limit ≡ true
    → number_below limit (decimal n) ≡ Some n
unfolding number_below
below_again limit n small e =
    let lt : n < limit = ltb-true _ _ e in
    rw (number_again n (omega (arith, lt, small)), e) refl
