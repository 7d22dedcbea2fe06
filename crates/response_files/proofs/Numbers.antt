-- A number is read from a word exactly where the word is its decimal text.
use Rattle.std.proofs.Common.{◌≡◌, ◌<◌, ◌^◌, ℕ, true, false, ◌&&◌, ltb, List, Option, Some, None, Result, Ok, Err, refl, sym, ap, ◌∙◌, subst, arith}
use Rattle.std.specs.Prelude.{IsUtf8}
use Rattle.std.specs.Fmt.{decimal}
use Rattle.std.specs.Str.{bytes_eq}
use Rattle.std.specs.Str.Parse.{digits_value, ParsesUnsigned}
use Rattle.std.proofs.lemmas.Bool.{and_parts, ltb-true, lt-ltb}
use Rattle.std.proofs.lemmas.Option.{cond_some}
use Rattle.std.proofs.lemmas.Slice.Eq.{bytes_eq-Decides}
use Rattle.std.proofs.lemmas.Str.{IsUtf8-from_ascii}
use Rattle.std.proofs.lemmas.Fmt.{IsAscii-decimal, decimal_is_IsNumeral, parse-decimal}
use Rattle.response_files.specs.JournalReading.{number_in}

pub number_was : (word : List ℕ) (n : ℕ) → number_in word ≡ Some n
    → (word ≡ decimal n) × (n < 2 ^ 32)
unfolding number_in
number_was word n e =
    let v : ℕ = digits_value 10 word in
    let c = cond_some (bytes_eq word (decimal v) && ltb v (2 ^ 32)) v n e in
    let p = and_parts (bytes_eq word (decimal v)) (ltb v (2 ^ 32)) c.0 in
    let same : word ≡ decimal v = (bytes_eq-Decides word (decimal v)).0 p.0 in
    let small : v < 2 ^ 32 = ltb-true v (2 ^ 32) p.1 in
    (same ∙ ap decimal c.1, subst (λ (k : ℕ). k < 2 ^ 32) c.1 small)

pub number_again : (n : ℕ) → n < 2 ^ 32 → number_in (decimal n) ≡ Some n
unfolding number_in
number_again n h =
    let value : digits_value 10 (decimal n) ≡ n = (decimal_is_IsNumeral n (omega arith)).1 in
    let same : bytes_eq (decimal n) (decimal n) ≡ true =
    (bytes_eq-Decides (decimal n) (decimal n)).1 refl in
    rw (value, same, lt-ltb n (2 ^ 32) h) refl

-- a word that is no number's text
none_if : (word : List ℕ) → ((n : ℕ) → number_in word ≡ Some n → ⊥) → None ≡ number_in word
none_if word never = by_value (number_in word) refl where
  by_value : (o : Option ℕ) → number_in word ≡ o → None ≡ number_in word
  by_value None e = sym e
  by_value (Some n) e = absurd (never n e)

pub no_text : (word : List ℕ) → (IsUtf8 word → ⊥) → None ≡ number_in word
no_text word never = none_if word (λ n e.
    let was = number_was word n e in
    let lt : n < 2 ^ 32 = was.1 in
    never (subst IsUtf8 (sym was.0) (IsUtf8-from_ascii (decimal n)
    (IsAscii-decimal n (omega arith)))))

parse_was : {E : Type 0} (word : List ℕ) (r : Result ℕ E) (n : ℕ) → ParsesUnsigned 32 10 word r
    → number_in word ≡ Some n → r ≡ Ok n
parse_was {E} word r n h e =
    let was = number_was word n e in
    let lt : n < 2 ^ 32 = was.1 in
    parse-decimal {E = E} 32 n word r lt (omega arith) was.0 h

pub unparsed : {E : Type 0} (word : List ℕ) (d : E) → ParsesUnsigned 32 10 word (Err d)
    → None ≡ number_in word
unparsed {E} word d h = none_if word (λ n e.
    let was = parse_was {E = E} word (Err d) n h e in absurd cc)

pub parsed : (word : List ℕ) (m : ℕ) → m < 2 ^ 32
    → bytes_eq word (decimal m) ≡ true → Some m ≡ number_in word
parsed word m lt e =
    let same : word ≡ decimal m = (bytes_eq-Decides word (decimal m)).0 e in
    sym (ap number_in same ∙ number_again m lt)

pub otherwise_spelled : {E : Type 0} (word : List ℕ) (m : ℕ) (r : Result ℕ E) → r ≡ Ok m
    → ParsesUnsigned 32 10 word r → bytes_eq word (decimal m) ≡ false
    → None ≡ number_in word
otherwise_spelled {E} word m r is h other = none_if word (λ n e.
    let was = number_was word n e in
    let found : r ≡ Ok n = parse_was word r n h e in
    let both : ◌≡◌ {A = Result ℕ E} (Ok m) (Ok n) = sym is ∙ found in
    let same : m ≡ n = cc in
    let yes : bytes_eq word (decimal m) ≡ true = (bytes_eq-Decides word (decimal m)).1
    (was.0 ∙ ap decimal (sym same)) in
    let no : true ≡ false = sym yes ∙ other in
    absurd cc)
