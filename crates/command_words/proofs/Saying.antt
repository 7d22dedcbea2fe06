-- Words that say a command spell it, and words that spell one say it.
use Rattle.std.proofs.Common.{◌≡◌, ◌⊎◌, ◌<◌, ◌≤◌, ◌^◌, ℕ, Bool, true, false, cond, not, ◌&&◌, ◌||◌, eqb, leb, List, [], ◌∷◌, length, get_or, map, Option, Some, None, refl, ap, subst, ◌∙◌, arith, inl, inr}
use Rattle.std.specs.Prelude.{codes, string_bytes, String}
use Rattle.std.specs.Str.{bytes_eq}
use Rattle.std.specs.Str.Parse.{digits_value}
use Rattle.std.specs.Fmt.{decimal}
use Rattle.std.specs.declared.alloc.Global.{Global}
use Rattle.std.proofs.lemmas.Bool.{lt-ltb, leb-true, le-leb, cases_lt}
use Rattle.std.proofs.lemmas.Slice.Eq.{bytes_eq-Decides}
use Rattle.std.proofs.lemmas.Fmt.{decimal_nonempty, decimal_digit, first_decimal, digits_decimal, digits_value-decimal}
use Rattle.plan_files.specs.Spelling.{is_numeral, number_of}
use Rattle.plan_files.proofs.Saying.{number_was}
use Rattle.plan_files.proofs.Wording.{own, and-parts}
use Rattle.command_words.specs.Commands.{are_said, gen_in, gen_of, gen_said, gen_words, is_gen_name, is_gen_number, is_plan_name, plan_said, plan_words, said_by, verb_of, with_plan}
use Rattle.command_words.specs.Spelling.{spelled, IsSpelled}
use Rattle.command_words.specs.declared.words.Verb.{Verb}
use Rattle.command_words.specs.declared.words.Verb.TheVariants as verbs
use Rattle.command_words.specs.declared.words.Words.{Words}
use Rattle.command_words.specs.declared.words.Words.TheVariants as words

-- which way a test went
chosen : {A : Type 0} (b : Bool) (x y z : A) → cond b x y ≡ z → ((b ≡ true) × (x ≡ z))
    ⊎ ((b ≡ false) × (y ≡ z))
chosen true x y z e = inl (refl, e)
chosen false x y z e = inr (refl, e)

same_bytes : (xs ys : List ℕ) → bytes_eq xs ys ≡ true → xs ≡ ys
same_bytes xs ys e = (bytes_eq-Decides xs ys).0 e

bytes_same : (xs ys : List ℕ) → xs ≡ ys → bytes_eq xs ys ≡ true
bytes_same xs ys e = (bytes_eq-Decides xs ys).1 e

-- ---- commands with a plan
abbrev word_of : Verb → List ℕ
word_of verbs.Run = codes "run"
word_of verbs.Check = codes "check"
word_of verbs.Show = codes "show"

verb_is : (word : List ℕ) (u v : Verb) → word ≡ word_of u → Some u ≡ Some v → word ≡ word_of v
verb_is word u v e same =
    let is : u ≡ v = cc in
    subst (λ (x : Verb). word ≡ word_of x) is e

verb_was : (word : List ℕ) (v : Verb) → verb_of word ≡ Some v → word ≡ word_of v
unfolding verb_of
verb_was word v e = elim (chosen (bytes_eq word (codes "run")) _ _ _ e) [
  | inl run ↦ verb_is word verbs.Run v (same_bytes word (codes "run") run.0) run.1
  | inr other ↦ elim (chosen (bytes_eq word (codes "check")) _ _ _ other.1) [
    | inl check ↦ verb_is word verbs.Check v (same_bytes word (codes "check") check.0) check.1
    | inr third ↦ elim (chosen (bytes_eq word (codes "show")) _ _ _ third.1) [
      | inl show ↦ verb_is word verbs.Show v (same_bytes word (codes "show") show.0) show.1
      | inr none ↦ absurd cc
    ]
  ]
]

verb_again : (v : Verb) → verb_of (word_of v) ≡ Some v
unfolding verb_of
verb_again verbs.Run = refl
verb_again verbs.Check = refl
verb_again verbs.Show = refl

-- what a command with a plan said
record WasPlan (verb : Option Verb) (plan : List ℕ) (w : Words) : Type 0 where
  command : Verb
  is : verb ≡ Some command
  named : is_plan_name plan ≡ true
  said : with_plan command plan ≡ w

plan_was : (verb : Option Verb) (plan : List ℕ) (w : Words) → plan_said verb plan ≡ Some w
    → WasPlan verb plan w
plan_was None plan w e = absurd cc
plan_was (Some v) plan w e = elim (chosen (is_plan_name plan) _ _ _ e) [
  | inl kept ↦
      let same : Some (with_plan v plan) ≡ Some w = kept.1 in
      record { command = v; is = refl; named = kept.0; said = cc }
  | inr gone ↦ let none : None ≡ Some w = gone.1 in absurd cc
]

with_plan_spelled : (v : Verb) (plan : List ℕ) → word_of v ∷ plan ∷ [] ≡ spelled (with_plan v plan)
with_plan_spelled verbs.Run plan = refl
with_plan_spelled verbs.Check plan = refl
with_plan_spelled verbs.Show plan = refl

with_plan_said : (v : Verb) (plan : List ℕ) → are_said (with_plan v plan) ≡ is_plan_name plan
with_plan_said verbs.Run plan = refl
with_plan_said verbs.Check plan = refl
with_plan_said verbs.Show plan = refl

two_were : (verb plan : String Global) (w : Words)
    → plan_words (string_bytes verb) (string_bytes plan) ≡ Some w
    → IsSpelled (verb ∷ plan ∷ []) w
two_were verb plan w e =
    let was = plan_was (verb_of (string_bytes verb)) (string_bytes plan) w e in
    let v = was.command in
    let p = string_bytes plan in
    let word : string_bytes verb ≡ word_of v = verb_was (string_bytes verb) v was.is in
    record {
      spelled = ap (λ (x : List ℕ). x ∷ p ∷ []) word ∙ with_plan_spelled v p ∙ ap spelled was.said;
      values = subst (λ (x : Words). are_said x ≡ true) was.said (with_plan_said v p ∙ was.named);
    }

two_again : (v : Verb) (plan : List ℕ) → is_plan_name plan ≡ true
    → plan_words (word_of v) plan ≡ Some (with_plan v plan)
two_again v plan named = rw (verb_again v, named) refl

-- ---- the generator
record WasGen (word name : List ℕ) (w : Words) : Type 0 where
  n : ℕ
  number : word ≡ decimal n
  fits : is_gen_number n ≡ true
  named : is_gen_name name ≡ true
  said : words.Gen n name ≡ w

gen_number_was : (word : List ℕ) (o : Option ℕ) (n : ℕ) → number_of word ≡ o → gen_in o ≡ Some n
    → (word ≡ decimal n) × (is_gen_number n ≡ true)
gen_number_was word None n is e = absurd cc
gen_number_was word (Some m) n is e = elim (chosen (is_gen_number m) _ _ _ e) [
  | inl kept ↦
      let some : Some m ≡ Some n = kept.1 in
      let same : m ≡ n = cc in (
        subst (λ (x : ℕ). word ≡ decimal x) same (number_was word m is).0,
        subst (λ (x : ℕ). is_gen_number x ≡ true) same kept.0,
      )
  | inr gone ↦ let none : None ≡ Some n = gone.1 in absurd cc
]

gen_said_was : (word : List ℕ) (o : Option ℕ) (name : List ℕ) (w : Words) → gen_of word ≡ o
    → gen_said o name ≡ Some w → WasGen word name w
gen_said_was word None name w is e = absurd cc
gen_said_was word (Some n) name w is e = elim (chosen (is_gen_name name) _ _ _ e) [
  | inl kept ↦
      let some : Some (words.Gen n name) ≡ Some w = kept.1 in
      let number = gen_number_was word (number_of word) n refl is in
      record { n = n; number = number.0; fits = number.1; named = kept.0; said = cc }
  | inr gone ↦ let none : None ≡ Some w = gone.1 in absurd cc
]

and_both : (a b : Bool) → a ≡ true → b ≡ true → (a && b) ≡ true
and_both true b e f = f
and_both false b e f = absurd cc

gen_spelled : (verb word name : List ℕ) (n : ℕ) (w : Words) → verb ≡ codes "gen"
    → word ≡ decimal n → words.Gen n name ≡ w → verb ∷ word ∷ name ∷ [] ≡ spelled w
gen_spelled verb word name n w a b said = rw (a, b) (ap spelled said)

three_were : (verb n name : String Global) (w : Words)
    → gen_words (string_bytes verb) (string_bytes n) (string_bytes name) ≡ Some w
    → IsSpelled (verb ∷ n ∷ name ∷ []) w
three_were verb n name w e =
    elim (chosen (bytes_eq (string_bytes verb) (codes "gen")) _ _ _ e) [
      | inl gen ↦
          let was = gen_said_was (string_bytes n) (gen_of (string_bytes n)) (string_bytes name) w refl
          gen.1 in
          let word : string_bytes verb ≡ codes "gen" = same_bytes (string_bytes verb) (codes "gen")
          gen.0 in
          record {
            spelled = gen_spelled (string_bytes verb) (string_bytes n) (string_bytes name) was.n w
                word was.number was.said;
            values = subst (λ (x : Words). are_said x ≡ true) was.said
                (and_both (is_gen_number was.n) (is_gen_name (string_bytes name)) was.fits
                was.named);
          }
      | inr gone ↦ let none : None ≡ Some w = gone.1 in absurd cc
    ]

or-true : (b : Bool) → (b || true) ≡ true
or-true true = refl
or-true false = refl

plain_again : (n : ℕ) → n < 2 ^ 64 → (eqb (length (decimal n)) 1
    || not (eqb (get_or (decimal n) 0 0) 48)) ≡ true
plain_again n h =
    elim (cases_lt n 10) [
      | inl few ↦ rw (decimal_digit n few) refl
      | inr more ↦
          let first : 48 < get_or (decimal n) 0 0 = first_decimal n (omega arith) h in
          let other : eqb (get_or (decimal n) 0 0) 48 ≡ false = grind arith in
          rw other (or-true (eqb (length (decimal n)) 1))
    ]

number_again : (n : ℕ) → n < 2 ^ 64 → number_of (decimal n) ≡ Some n
unfolding number_of is_numeral
number_again n h =
    let some : leb 1 (length (decimal n)) ≡ true =
    le-leb 1 (length (decimal n)) (decimal_nonempty n h) in
    let value : digits_value 10 (decimal n) ≡ n = digits_value-decimal own n h in
    rw (some, plain_again n h, digits_decimal own n h, value, lt-ltb n (2 ^ 64) h) refl

gen_again : (n : ℕ) → is_gen_number n ≡ true → gen_of (decimal n) ≡ Some n
gen_again n fits =
    let p = and-parts (leb 1 n) (leb n 4096) fits in
    let small : n ≤ 4096 = leb-true n 4096 p.1 in
    rw (number_again n (omega arith), fits) refl

three_again : (n : ℕ) (name : List ℕ) → is_gen_number n ≡ true → is_gen_name name ≡ true
    → gen_words (codes "gen") (decimal n) name ≡ Some (words.Gen n name)
three_again n name fits named = rw (gen_again n fits, named) refl

-- ---- the whole line
pub said_was : (line : List (String Global)) (w : Words) → said_by line ≡ Some w → IsSpelled line w
said_was [] w e = absurd cc
said_was (verb ∷ []) w e = absurd cc
said_was (verb ∷ plan ∷ []) w e = two_were verb plan w e
said_was (verb ∷ n ∷ name ∷ []) w e = three_were verb n name w e
said_was (verb ∷ n ∷ name ∷ word ∷ rest) w e = absurd cc

-- a line of two words, and one of three
pair_again : (verb plan : List ℕ) (w : Words) → verb ∷ plan ∷ [] ≡ spelled w → are_said w ≡ true
    → plan_words verb plan ≡ Some w
pair_again verb plan (words.Run p) e said =
    let a : verb ≡ codes "run" = cc in
    let b : plan ≡ p = cc in
    rw (a, b) (two_again verbs.Run p said)
pair_again verb plan (words.Check p) e said =
    let a : verb ≡ codes "check" = cc in
    let b : plan ≡ p = cc in
    rw (a, b) (two_again verbs.Check p said)
pair_again verb plan (words.Show p) e said =
    let a : verb ≡ codes "show" = cc in
    let b : plan ≡ p = cc in
    rw (a, b) (two_again verbs.Show p said)
pair_again verb plan (words.Gen n name) e said = absurd cc

triple_again : (verb n name : List ℕ) (w : Words) → verb ∷ n ∷ name ∷ [] ≡ spelled w
    → are_said w ≡ true → gen_words verb n name ≡ Some w
triple_again verb n name (words.Run p) e said = absurd cc
triple_again verb n name (words.Check p) e said = absurd cc
triple_again verb n name (words.Show p) e said = absurd cc
triple_again verb n name (words.Gen m p) e said =
    let a : verb ≡ codes "gen" = cc in
    let b : n ≡ decimal m = cc in
    let d : name ≡ p = cc in
    let parts = and-parts (is_gen_number m) (is_gen_name p) said in
    rw (a, b, d) (three_again m p parts.0 parts.1)

none_spelled : (w : Words) → [] ≡ spelled w → ⊥
none_spelled (words.Run p) e = cc
none_spelled (words.Check p) e = cc
none_spelled (words.Show p) e = cc
none_spelled (words.Gen m p) e = cc

one_spelled : (word : List ℕ) (w : Words) → word ∷ [] ≡ spelled w → ⊥
one_spelled word (words.Run p) e = cc
one_spelled word (words.Check p) e = cc
one_spelled word (words.Show p) e = cc
one_spelled word (words.Gen m p) e = cc

more_spelled : (a b c d : List ℕ) (rest : List (List ℕ)) (w : Words)
    → a ∷ b ∷ c ∷ d ∷ rest ≡ spelled w → ⊥
more_spelled a b c d rest (words.Run p) e = cc
more_spelled a b c d rest (words.Check p) e = cc
more_spelled a b c d rest (words.Show p) e = cc
more_spelled a b c d rest (words.Gen m p) e = cc

pub said_again : (line : List (String Global)) (w : Words) → IsSpelled line w → said_by line ≡ Some w
said_again [] w s = absurd (none_spelled w s.spelled)
said_again (verb ∷ []) w s = absurd (one_spelled (string_bytes verb) w s.spelled)
said_again (verb ∷ plan ∷ []) w s = pair_again (string_bytes verb) (string_bytes plan) w s.spelled
    s.values
said_again (verb ∷ n ∷ name ∷ []) w s = triple_again (string_bytes verb) (string_bytes n)
    (string_bytes name) w s.spelled s.values
said_again (verb ∷ n ∷ name ∷ word ∷ rest) w s = absurd (more_spelled (string_bytes verb)
    (string_bytes n) (string_bytes name) (string_bytes word) (map string_bytes rest) w s.spelled)
