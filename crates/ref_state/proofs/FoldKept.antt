-- After the fold the shared count is the number of holds: the one argument modulo 2^64.
use Rattle.std.proofs.Common.{◌≡◌, ℕ, zero, suc, ◌+◌, ◌-◌, ◌*◌, ◌/◌, ◌%◌, ◌<◌, true, false, List, [], ◌∷◌, map, length, get_or, sym, refl, ap, ◌∙◌, subst, arith, Option, Some, None}
use Rattle.ref_state.specs.declared.state.Count.{Count}
use Rattle.ref_state.specs.declared.state.Phase.TheVariants as phase
use Rattle.ref_state.specs.declared.state.Drain.{Drain}
use Rattle.ref_state.specs.declared.state.Disk.{Disk}
use Rattle.ref_state.specs.State.{bias, word_end, total, ups, downs, word_of, no_count}
use Rattle.ref_state.specs.Steps.{count_or, base_after}
use Rattle.ref_state.specs.Soundness.{Every, IsWithin}
use Rattle.ref_state.proofs.Whole.{Counts}

-- x and y differ by a multiple of 2^64
abbrev Same : ℕ → ℕ → Type 0
Same x y = (i : ℕ) × (j : ℕ) × (x + word_end * i ≡ y + word_end * j)

same_mod : (x y : ℕ) → x % word_end ≡ y % word_end → Same x y
same_mod x y e = (y / word_end, x / word_end, omega arith)

mod_same : (x y : ℕ) → Same x y → y < word_end → x % word_end ≡ y
mod_same x y s h = let i : ℕ = s.0 in let j : ℕ = s.1 in let e : x + word_end * i ≡ y
    + word_end * j = s.2 in omega arith

-- a counter's word and its downs are its ups
word_is : (c : Count) → Same (word_of c + c.downs) c.ups
word_is c = let u : ℕ = c.ups in let d : ℕ = c.downs in let r : ℕ = u + (word_end - d % word_end) in
    (r / word_end, 1 + d / word_end, omega arith)

words_are : (cs : List Count) → Same (total word_of cs + total downs cs) (total ups cs)
words_are [] = (0, 0, refl)
words_are (c ∷ cs) = let s = word_is c in let t = words_are cs in let i : ℕ = s.0 in
    let j : ℕ = s.1 in let k : ℕ = t.0 in let l : ℕ = t.1 in
    let e : (word_of c + c.downs) + word_end * i ≡ c.ups + word_end * j = s.2 in
    let f : (total word_of cs + total downs cs) + word_end * k ≡ total ups cs + word_end * l =
    t.2 in (
      i + k,
      j + l,
      sums (word_of c) c.downs c.ups (total word_of cs) (total downs cs) (total ups cs)
          i j k l e f,
    )
  where
    sums : (a b c x y z i j k l : ℕ) → (a + b) + word_end * i ≡ c + word_end * j
        → (x + y) + word_end * k ≡ z + word_end * l → ((a + x) + (b + y)) + word_end * (i + k)
        ≡ (c + z) + word_end * (j + l)
    sums a b c x y z i j k l e f = omega arith

-- the sum of the counters less that of the bases less the bias, added to the shared count, leaves
-- the holds
folds : (shared delta on SO SB U D UB DB : ℕ) → shared + (U + DB) ≡ bias + (D + (UB + on))
    → Same (SO + D) U → Same (SB + DB) UB → Same (delta + (SB + bias)) SO → Same (shared + delta) on
folds shared delta on SO SB U D UB DB b o s d =
    let i : ℕ = o.0 in let j : ℕ = o.1 in let k : ℕ = s.0 in let l : ℕ = s.1 in let m : ℕ = d.0 in
    let n : ℕ = d.1 in
    (m + (i + l), n + (j + k), sums shared delta on SO SB U D UB DB i j k l m n b o.2 s.2 d.2)
  where
    sums : (shared delta on SO SB U D UB DB i j k l m n : ℕ)
        → shared + (U + DB) ≡ bias + (D + (UB + on)) → (SO + D) + word_end * i ≡ U + word_end * j
        → (SB + DB) + word_end * k ≡ UB + word_end * l
        → (delta + (SB + bias)) + word_end * m ≡ SO + word_end * n
        → (shared + delta) + word_end * (m + (i + l)) ≡ on + word_end * (n + (j + k))
    sums shared delta on SO SB U D UB DB i j k l m n b o s d = omega arith

-- all counters were looked at and stand as looked at
pub all_looked : (n : ℕ) (ls : List (Option Count)) (own : List Count) → length ls ≡ n
    → length own ≡ n → ((o : ℕ) → o < n → (x : Count) × (get_or ls o None ≡ Some x))
    → ((o : ℕ) (x : Count) → get_or ls o None ≡ Some x → get_or own o no_count ≡ x)
    → map count_or ls ≡ own
all_looked zero [] [] a b h s = refl
all_looked zero (l ∷ ls) own a b h s = absurd (omega arith)
all_looked zero [] (x ∷ xs) a b h s = absurd (omega arith)
all_looked (suc n) [] own a b h s = absurd (omega arith)
all_looked (suc n) (l ∷ ls) [] a b h s = absurd (omega arith)
all_looked (suc n) (l ∷ ls) (x ∷ xs) a b h s = let t = h 0 (omega arith) in
    λ k. (ap count_or t.1 ∙ sym (s 0 t.0 t.1)) k ∷ all_looked n ls xs (omega arith) (omega arith)
    (λ o near. h (suc o) (omega arith)) (λ o y e. s (suc o) y e) k

pub counts_fold : (n g p on delta : ℕ) (k : Disk) (b : Drain) → b.phase ≡ phase.Killed
    → on < word_end → map count_or b.looked ≡ k.own
    → (delta + (total word_of b.bases + bias)) % word_end
    ≡ total word_of (map count_or b.looked) % word_end
    → Counts n g p on k b → Counts n g p on (record k {
      shared =
          (k.shared + delta) % word_end;
    }) (base_after n b)
counts_fold n g p on delta k b killed small same is c = record {
  long = (c.long.0, ap length same ∙ c.long.0);
  balance = λ e. absurd (let h : false ≡ true = e in grind arith);
  armed = λ e. absurd (let h : phase.Folded ≡ phase.Armed = e in grind arith);
  biased = λ e. absurd (let h : false ≡ true = e in grind arith);
  killed = λ e. absurd (let h : phase.Folded ≡ phase.Killed = e in grind arith);
  lies = (c.lies.0, subst (Every (IsWithin p g)) (sym same) c.lies.0);
  folded = λ _. (
    mod_same (k.shared + delta) on (folds k.shared delta on (total word_of k.own)
        (total word_of b.bases) (total ups k.own) (total downs k.own) (total ups b.bases)
        (total downs b.bases)
        (c.balance (ap Rattle.ref_state.specs.Soundness.counts_own killed)) (words_are k.own)
        (words_are b.bases) (same_mod _ _ (is ∙ ap (λ l. total word_of l % word_end) same)))
        small,
    sym same,
  );
  drained = λ e. absurd (let h : phase.Folded ≡ phase.Drained = e in grind arith);
}
