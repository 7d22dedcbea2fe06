-- What the answers of tests say.
use Rattle.std.proofs.Common.{◌≡◌, ℕ, ◌&&◌, ◌||◌, ◌<◌, ◌≤◌, ◌==◌, zero, suc, not, Bool, true, false, Option, Some, None, is_some, nat_lt, refl, sym, arith}
use Rattle.std.proofs.lemmas.Bool.{both_ways, lt-ltb, ltb-true, ltb-false, not-false}

pub left_false : (a b : Bool) → (a || b) ≡ false → a ≡ false
left_false true b e = e
left_false false b e = refl

pub right_false : (a b : Bool) → (a || b) ≡ false → b ≡ false
right_false true b e = absurd (both_ways true e refl)
right_false false b e = e

pub both : (a b : Bool) → a ≡ true → b ≡ true → (a && b) ≡ true
both true b e f = f
both false b e f = e

pub not_no : (b : Bool) → not b ≡ false → b ≡ true
not_no true e = refl
not_no false e = sym e

pub none_of_test : {X : Type 0} (o : Option X) → is_some o ≡ false → o ≡ None
none_of_test None e = refl
none_of_test (Some x) e = absurd (both_ways true e refl)

pub room_of : (a b : ℕ) → not (nat_lt a b) ≡ false → a < b
room_of a b e = ltb-true a b (not-false (nat_lt a b) e)

pub none_below : (n : ℕ) → nat_lt 0 n ≡ false → n ≡ 0
none_below n e = let low : n ≤ 0 = ltb-false 0 n e in omega arith

-- a number that is neither 0 nor above a limit
pub low_of : (n most : ℕ) → ((n == 0) || nat_lt most n) ≡ false → 1 ≤ n
low_of zero most e = absurd (both_ways true e refl)
low_of (suc n) most e = omega arith

pub high_of : (n most : ℕ) → ((n == 0) || nat_lt most n) ≡ false → n ≤ most
high_of n most e = ltb-false most n (right_false (n == 0) (nat_lt most n) e)

pub filled_of : (n : ℕ) → (n == 0) ≡ false → nat_lt 0 n ≡ true
filled_of zero e = absurd (both_ways true e refl)
filled_of (suc n) e = let lt : 0 < suc n = omega arith in lt-ltb 0 (suc n) lt
