-- Words cut from a line, and numbers read from words.
use Rattle.std.proofs.Common.{◌≡◌, ◌≤◌, ◌^◌, ℕ, zero, suc, Bool, true, false, cond, not, ◌&&◌, ◌||◌, eqb, ltb, leb, List, [], ◌∷◌, length, get_or, Some, None, Result, Ok, Err, refl, ap, arith, rules, subst, inl, inr}
use Rattle.std.specs.Prelude.{IsUtf8, nat_le}
use Rattle.std.specs.Result.{result_ok}
use Rattle.std.specs.List.{list_all, onto_first}
use Rattle.std.specs.Str.Parse.{digits_value, ParsesUnsigned}
use Rattle.std.proofs.lemmas.Bool.{eqb-true, lt-ltb, le-ltb, cases_lt}
use Rattle.std.proofs.lemmas.Str.Parse.{IsNumeralModel, IsDigitsTest, numerals_by_value, parse_digits}
use Rattle.std.proofs.lemmas.Str.{IsUtf8-from_ascii}
use Rattle.std.proofs.lemmas.Fmt.{IsAscii-from_digits}
use Rattle.text_lines.specs.Lines.{words_of}
use Rattle.plan_files.specs.Spelling.{is_numeral, number_of, said_by}

-- a line has a word
some_word : (bytes : List ℕ) → (w : List ℕ) × (ws : List (List ℕ)) × (words_of bytes ≡ w ∷ ws)
some_word [] = ([], [], refl)
some_word (b ∷ bytes) =
    elim (eqb b 32) as (λ t. (w : List ℕ) × (ws : List (List ℕ))
    × (cond t ([] ∷ words_of bytes) (onto_first b (words_of bytes)) ≡ w ∷ ws)) [
      | true ↦ ([], words_of bytes, refl)
      | false ↦ let s = some_word bytes in (b ∷ s.0, s.1, rw s.2 refl)
    ]

-- five words or more say nothing
pub too_many : (line r s t u a b c d : List ℕ) → words_of line ≡ a ∷ words_of r
    → words_of r ≡ b ∷ words_of s → words_of s ≡ c ∷ words_of t → words_of t ≡ d ∷ words_of u
    → said_by (words_of line) ≡ None
too_many line r s t u a b c d first second third fourth = let last = some_word u in
    rw (first, second, third, fourth, last.2) refl

-- ---- numbers

abbrev pub Digits : List ℕ → Type 0
Digits ds = list_all (λ b. nat_le 48 b && nat_le b 57) ds ≡ true

tests : IsDigitsTest Digits
tests = search rules

pub own : IsNumeralModel Digits (digits_value 10)
own = numerals_by_value Digits tests

pub and-parts : (a b : Bool) → (a && b) ≡ true → (a ≡ true) × (b ≡ true)
and-parts true true e = (refl, refl)
and-parts true false e = absurd cc
and-parts false b e = absurd cc

le-from : (n : ℕ) → leb 1 n ≡ true → 1 ≤ n
le-from zero e = absurd cc
le-from (suc n) e = omega arith

or-false : (b : Bool) → (b || false) ≡ true → b ≡ true
or-false true e = refl
or-false false e = absurd cc

plain-from : (n x : ℕ) → (eqb n 1 || not (eqb x 48)) ≡ true → x ≡ 48 → n ≡ 1
plain-from n x e h =
    let k : eqb x 48 ≡ true = grind arith in
    let f : (eqb n 1 || not true) ≡ true = subst (λ (t : Bool). (eqb n 1 || not t) ≡ true) k e in
    eqb-true n 1 (or-false (eqb n 1) f)

-- a numeral: its parts
pub record IsPlain (word : List ℕ) : Type 0 where
  pub some : 1 ≤ length word
  pub plain : get_or word 0 0 ≡ 48 → length word ≡ 1
  pub digits : Digits word

pub numeral-parts : (word : List ℕ) → is_numeral word ≡ true → IsPlain word
unfolding is_numeral
numeral-parts word e =
    let p = and-parts (leb 1 (length word)
    && (eqb (length word) 1 || not (eqb (get_or word 0 0) 48))) (list_all (λ b. nat_le 48 b
    && nat_le b 57) word) e in
    let q = and-parts (leb 1 (length word)) (eqb (length word) 1 || not (eqb (get_or word 0 0) 48))
    p.0 in
    record {
      some = le-from (length word) q.0;
      plain = plain-from (length word) (get_or word 0 0)
          q.1;
      digits = p.1;
    }

pub no_numeral : (word : List ℕ) → is_numeral word ≡ false → number_of word ≡ None
unfolding number_of
no_numeral word e = rw e refl

pub numeral_is_text : (word : List ℕ) → is_numeral word ≡ true → IsUtf8 word
numeral_is_text word e =
    IsUtf8-from_ascii word (IsAscii-from_digits word (own.to word (numeral-parts word e).digits))

pub parsed : {E : Type 0} (word : List ℕ) (r : Result ℕ E) → is_numeral word ≡ true
    → ParsesUnsigned 64 10 word r → result_ok r ≡ number_of word
unfolding number_of
parsed {E} word (Ok n) e h =
    let p = parse_digits own {E = E} 64 word (Ok n) h (numeral-parts word e).digits in
    let small : ltb (digits_value 10 word) (2 ^ 64) ≡ true = lt-ltb (digits_value 10 word) (2 ^ 64)
    p.0.1 in
    rw (e, small) (ap (λ (x : ℕ). Some x) p.1)
parsed {E} word (Err d) e h =
    let p = parse_digits own {E = E} 64 word (Err d) h (numeral-parts word e).digits in
    elim (cases_lt (digits_value 10 word) (2 ^ 64)) [
      | inl lt ↦ absurd (p ((numeral-parts word e).some, lt))
      | inr le ↦ let large : ltb (digits_value 10 word) (2 ^ 64) ≡ false =
          le-ltb (digits_value 10 word) (2 ^ 64) le in rw (e, large) refl
    ]
