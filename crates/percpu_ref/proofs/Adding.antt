-- For the loop over the own counters.
use Rattle.std.proofs.Common.{◌≡◌, ◌≢◌, ℕ, zero, suc, ◌+◌, ◌%◌, ◌<◌, ◌≤◌, List, [], ◌∷◌, map, length, take, get_or, set, sym, refl, ap, ◌∙◌, subst, arith, Option, Some, None, length-set, get_or-set_same, get_or-set_other}
use mathlib.Core.Logic.{dite}
use native.Mathlib.Decide.{ℕ_discrete, dec_le}
use Rattle.atomic_table.specs.Table.{Me}
use Rattle.ref_state.specs.declared.state.Count.{Count}
use Rattle.ref_state.specs.declared.state.Drain.{Drain}
use Rattle.ref_state.specs.declared.state.Phase.TheVariants as phase
use Rattle.ref_state.specs.declared.state.Editor.{Editor}
use Rattle.ref_state.specs.State.{total, drain, no_drain, word_of, word_end, bias}
use Rattle.ref_state.specs.Steps.{count_or}
use Rattle.table_rule.specs.declared.rule.Told.{Told}
use Rattle.table_rule.specs.Plays.{with_life, counted, folded, Folds}
use Rattle.rcu_sections.specs.Grace.{base_word}
use Rattle.percpu_ref.specs.Lives.{FoldsNow, folded_life}
use Rattle.percpu_ref.specs.Counters.{Counting}
use Rattle.table_rule.proofs.Histories.{take_all}

set_own : {A : Type 0} (l : List A) (i : ℕ) (x : A) → l ≡ set l i (get_or l i x)
set_own [] i x = refl
set_own (y ∷ ys) zero x = refl
set_own (y ∷ ys) (suc i) x = ap (λ l. y ∷ l) (set_own ys i x)

set_set : {A : Type 0} (l : List A) (i : ℕ) (a b : A) → set (set l i a) i b ≡ set l i b
set_set [] i a b = refl
set_set (y ∷ ys) zero a b = refl
set_set (y ∷ ys) (suc i) a b = ap (λ l. y ∷ l) (set_set ys i a b)

or_over : {A : Type 0} (l : List A) (i : ℕ) (x : A) → length l ≤ i → get_or l i x ≡ x
or_over [] i x h = refl
or_over (y ∷ ys) zero x h = absurd (omega arith)
or_over (y ∷ ys) (suc i) x h = or_over ys i x (omega arith)

-- a disk that was killed is there
pub killed_there : (k : Editor) (d : ℕ) → (drain k d).phase ≡ phase.Killed → d < length k.drains
killed_there k d is = dite (dec_le (length k.drains) d)
    (λ out. absurd (let e : phase.Live ≡ phase.Killed = sym (ap (λ (b : Drain). b.phase) (or_over k.drains d no_drain out)) ∙ is in grind arith))
    (λ inside. omega arith)

sum_more : (l : List (Option Count)) (k : ℕ) (a : Option Count) → k < length l → total word_of (map count_or (take (suc k) (set l k a))) ≡ total word_of (map count_or (take k l)) + word_of (count_or a)
sum_more [] k a h = absurd (omega arith)
sum_more (y ∷ ys) zero a h = omega arith
sum_more (y ∷ ys) (suc k) a h = let r = sum_more ys k a (omega arith) in omega arith

pub counting_none : {S : Type 0} (d : ℕ) (a : Me S Told) → Counting d 0 0 a a
counting_none d a = record {
  looked = (drain a.0.notes d).looked;
  found = a.0.found;
  told = λ i. (record a.0 { notes = record a.0.notes { drains = set_own a.0.notes.drains d no_drain i } }, a.1);
  long = refl;
  each = λ o h. absurd (omega arith);
  sum_is = refl;
}

pub drain_now : (k : Editor) (d : ℕ) (b : Drain) → d < length k.drains → drain (with_life d b k) d ≡ b
drain_now k d b h = get_or-set_same k.drains d b no_drain h

pub counting_next : {S : Type 0} (d k sum n : ℕ) (x : Count) (f : List (ℕ × ℕ)) (a b c : Me S Told) → d < length a.0.notes.drains → k < length (drain a.0.notes d).looked → n ≡ word_of x → Counting d k sum a b
    → c ≡ (record b.0 { notes = with_life d (counted d k x b.0.notes) b.0.notes; found = f }, b.1) → Counting d (k + 1) ((sum + n) % word_end) a c
counting_next {S} d k sum n x f a b c there near is y e =
    let B : Drain = record (drain a.0.notes d) { looked = y.looked } in let D : Editor = with_life d B a.0.notes in let ls : List (Option Count) = set y.looked k (Some x) in let long = y.long in
    let one : suc k ≡ k + 1 = omega arith in
    let G : Me S Told → Me S Told = λ z. (record z.0 { notes = with_life d (counted d k x z.0.notes) z.0.notes; found = f }, z.1) in
    let drains : set (set a.0.notes.drains d B) d (counted d k x D) ≡ set a.0.notes.drains d (record (drain a.0.notes d) { looked = ls }) = set_set a.0.notes.drains d B (counted d k x D) ∙ ap (λ (z : Drain). set a.0.notes.drains d (record z { looked = set z.looked k (Some x) })) (drain_now a.0.notes d B there) in record {
      looked = ls;
      found = f;
      told = e ∙ (ap G y.told ∙ λ i. (record a.0 { notes = record a.0.notes { drains = drains i }; found = f }, a.1));
      long = length-set y.looked k (Some x) ∙ y.long;
      each = λ o h. dite (ℕ_discrete o k) (λ z. subst (λ (j : ℕ). (w : Count) × (get_or ls j None ≡ Some w)) (sym z) (x, get_or-set_same y.looked k (Some x) None (omega arith)))
          (λ ne. let r = y.each o (omega arith) in (r.0, get_or-set_other y.looked k o (Some x) None ne ∙ r.1));
      sum_is = subst (λ (j : ℕ). total word_of (map count_or (take j ls)) % word_end ≡ (sum + n) % word_end) one (let s = sum_more y.looked k (Some x) (omega arith) in let t = y.sum_is in omega arith);
    }

-- what a fold asks
pub folds_now : {S : Type 0} (d n sum base delta : ℕ) (a b : Me S Told) → d < length a.0.notes.drains → n ≡ length (drain a.0.notes d).looked → base ≡ total word_of (drain a.0.notes d).bases % word_end → sum ≡ (delta + (base + bias)) % word_end → Counting d n sum a b
    → Folds b.0.notes n d delta
folds_now {S} d n sum base delta a b there all is same y =
    let B : Drain = record (drain a.0.notes d) { looked = y.looked } in let here : drain b.0.notes d ≡ B = ap (λ (z : Me S Told). drain z.0.notes d) y.told ∙ drain_now a.0.notes d B there in
    let whole : take n y.looked ≡ y.looked = take_all y.looked n (y.long ∙ sym all) in let s : total word_of (map count_or y.looked) % word_end ≡ sum = ap (λ l. total word_of (map count_or l) % word_end) (sym whole) ∙ y.sum_is in (
      (λ o h. subst (λ (z : Drain). (x : Count) × (get_or z.looked o None ≡ Some x)) (sym here) (y.each o h)),
      subst (λ (z : Drain). (delta + (total word_of z.bases + bias)) % word_end ≡ total word_of (map count_or z.looked) % word_end) (sym here) (let t : total word_of B.bases % word_end ≡ base = sym is in omega arith),
    )

-- ## After the fold

abbrev pub folds_to : {S : Type 0} → ℕ → ℕ → List (ℕ × ℕ) → Me S Told → Me S Told
folds_to {S} d n f z = (record z.0 { notes = with_life d (folded n d z.0.notes) z.0.notes; found = f }, z.1)

module _ {S : Type 0} (d n m sum : ℕ) (f : List (ℕ × ℕ)) (a b c : Me S Told) (there : d < length a.0.notes.drains) (y : Counting d n sum a b) (e : c ≡ folds_to d m f b) where
  over : c ≡ (record a.0 { notes = with_life d (folded_life y.looked (drain a.0.notes d)) a.0.notes; found = f }, a.1)
  over = let B : Drain = record (drain a.0.notes d) { looked = y.looked } in
      let drains : set (set a.0.notes.drains d B) d (folded m d (with_life d B a.0.notes)) ≡ set a.0.notes.drains d (folded_life y.looked (drain a.0.notes d)) =
      set_set a.0.notes.drains d B (folded m d (with_life d B a.0.notes)) ∙ ap (λ (z : Drain). set a.0.notes.drains d (record z { phase = phase.Folded; bases = map count_or z.looked })) (drain_now a.0.notes d B there) in
      e ∙ (ap (folds_to d m f) y.told ∙ λ i. (record a.0 { notes = record a.0.notes { drains = drains i }; found = f }, a.1))

  pub folds_at : n ≡ a.0.seats → FoldsNow d a.0 c.0
  folds_at same = record {
    counters = y.looked;
    found = f;
    each = λ o near. y.each o (omega arith);
    told = ap (λ (z : Me S Told). z.0) over;
  }

  pub seats_by : c.0.seats ≡ a.0.seats
  seats_by = ap (λ (z : Me S Told). z.0.seats) over

  pub marks_by : c.0.notes.marks ≡ a.0.notes.marks
  marks_by = ap (λ (z : Me S Told). z.0.notes.marks) over

  pub drains_by : length c.0.notes.drains ≡ length a.0.notes.drains
  drains_by = ap (λ (z : Me S Told). length z.0.notes.drains) over ∙ length-set a.0.notes.drains d (folded_life y.looked (drain a.0.notes d))

  -- the disk's counters stand at their sum, the others' where they stood
  pub base_here : n ≡ length (drain a.0.notes d).looked → base_word c.0.notes d ≡ sum
  base_here all = ap (λ (z : Me S Told). base_word z.0.notes d) over ∙ (ap (λ (z : Drain). total word_of z.bases % word_end) (drain_now a.0.notes d (folded_life y.looked (drain a.0.notes d)) there)
      ∙ (ap (λ l. total word_of (map count_or l) % word_end) (sym (take_all y.looked n (y.long ∙ sym all))) ∙ y.sum_is))

  pub base_there : (q : ℕ) → q ≢ d → base_word c.0.notes q ≡ base_word a.0.notes q
  base_there q ne = ap (λ (z : Me S Told). base_word z.0.notes q) over
      ∙ ap (λ (z : Drain). total word_of z.bases % word_end) (get_or-set_other a.0.notes.drains d q (folded_life y.looked (drain a.0.notes d)) no_drain ne)

-- one more base is set
pub bases_set : (bases : List ℕ) (d sum : ℕ) (k j : Editor) → d < length bases → sum ≡ base_word j d → ((q : ℕ) → q ≢ d → base_word j q ≡ base_word k q)
    → ((q : ℕ) → q < 64 → get_or bases q 0 ≡ base_word k q) → (q : ℕ) → q < 64 → get_or (set bases d sum) q 0 ≡ base_word j q
bases_set bases d sum k j near here others before q small = dite (ℕ_discrete q d)
    (λ e. ap (λ x. get_or (set bases d sum) x 0) e ∙ (get_or-set_same bases d sum 0 near ∙ (here ∙ ap (base_word j) (sym e))))
    (λ ne. get_or-set_other bases d q sum 0 ne ∙ (before q small ∙ sym (others q ne)))
