-- What a step's code needs of a sound core in which the step is allowed: that what it names is
-- there, and that nothing runs over.
use Rattle.std.proofs.Common.{◌≡◌, ◌≢◌, ℕ, zero, suc, ◌+◌, ◌<◌, ◌≤◌, Bool, true, false, List, [], ◌∷◌, length, get_or, set, ◌∙◌, arith}
use Rattle.ref_state.specs.declared.state.View.{View}
use Rattle.ref_state.specs.declared.state.Count.{Count}
use Rattle.ref_state.specs.declared.state.State.{State as Core}
use Rattle.ref_state.specs.declared.kinds.Take.TheVariants as take
use Rattle.ref_state.specs.declared.kinds.Take.{Take}
use Rattle.ref_state.specs.State.{total, kept, entries, has_got, any_entry, published_entry, is_publish, one_if, disk, drain, view, no_view, no_count, word_of}
use Rattle.ref_state.specs.Steps.{MayTake}
use Rattle.ref_state.specs.Soundness.{IsSound, IsWithin, puts_of, Every}
use Rattle.ref_state.specs.Runs.{IsTwosComplement, WordsAreCounters}
use Rattle.ref_state.proofs.Lists.{at_or, total_one, total_set, total_le, set_else}
use Rattle.ref_state.proofs.ReferenceSteps.{few_got}

at_most : (b : Bool) → one_if b ≤ 1
at_most true = omega arith
at_most false = omega arith

each_within : (p g : ℕ) (l : List Count) (i : ℕ) → Every (IsWithin p g) l
    → IsWithin p g (get_or l i no_count)
each_within p g [] i e = (omega arith, omega arith)
each_within p g (x ∷ xs) zero e = e.0
each_within p g (x ∷ xs) (suc i) e = each_within p g xs i e.1

small_word : (x : Count) → x.ups < 4294967296 → x.downs < 4294967296
    → IsTwosComplement (word_of x) x
small_word x a b = let u : ℕ = x.ups in let d : ℕ = x.downs in
    ((λ near. omega arith), (λ far. omega arith))

module _ (c : Core) (s : IsSound c) where
  -- a place is left, so the clock's low half doesn't run over
  pub room : (j : ℕ) → j < length c.views → 0 < (view c.views j).left → c.given + 1 < 4294967296
  room j there left = let a = total_one (λ (u : View). u.left) c.views j (view c.views j)
      (at_or c.views j no_view there) in let b = s.places.left in let d = s.places.small in
      omega arith

  -- no more are published than placed
  pub serials : c.serial ≤ c.given
  serials = let a = total_le (λ (u : View). total published_entry (kept u))
      (λ (u : View). total any_entry (kept u)) (λ u. total_le published_entry any_entry
      (λ e. at_most (is_publish e.by)) (kept u)) c.views in
      let b = s.places.all in let d = s.places.published.1 in omega arith

  -- the places left of two seats are no more than all
  pub left_of_two : (j p : ℕ) → j < length c.views → p < length c.views → p ≢ j
      → (view c.views j).left + (view c.views p).left < 4294967296
  left_of_two j p there inside other = let w : View = record (view c.views j) { left = 0 } in
      let a = total_set (λ (u : View). u.left) c.views j (view c.views j) w
      (at_or c.views j no_view there) in
      let b = total_one (λ (u : View). u.left) (set c.views j w) p (view c.views p)
      (set_else c.views j p w other ∙ at_or c.views p no_view inside) in
      let d = s.places.left in let e = s.places.small in omega arith

  pub drains : (d : ℕ) → d < length c.disks → d < length c.editor.drains
  drains d near = let a = s.split_counts.as_many in omega arith

  few : entries has_got c.views < 4294967296
  few = few_got c.given c.serial c.quotas c.editor.published c.views s.places

  -- a counter was raised and lowered fewer than 2^32 times
  pub within : (d o : ℕ) → d < length c.disks
      → IsWithin (puts_of c.views) (entries has_got c.views) (get_or (disk c d).own o no_count)
  within d o near = each_within (puts_of c.views) (entries has_got c.views) (disk c d).own o
      (s.split_counts.counts d near).lies.0

  pub base_within : (d o : ℕ) → d < length c.disks
      → IsWithin (puts_of c.views) (entries has_got c.views)
      (get_or (drain c.editor d).bases o no_count)
  base_within d o near = each_within (puts_of c.views) (entries has_got c.views)
      (drain c.editor d).bases o (s.split_counts.counts d near).lies.1

  fits : (x : Count) → IsWithin (puts_of c.views) (entries has_got c.views) x
      → IsTwosComplement (word_of x) x
  fits x w = let a = w.0 in let b = w.1 in let e = few in small_word x (omega arith) (omega arith)

  pub ups_fit : (d o : ℕ) → d < length c.disks → (get_or (disk c d).own o no_count).ups
      + 1 < 18446744073709551616
  ups_fit d o near = let a = (within d o near).0 in let b = few in omega arith

  pub downs_fit : (d o : ℕ) → d < length c.disks → (get_or (disk c d).own o no_count).downs
      + 1 < 18446744073709551616
  downs_fit d o near = let a = (within d o near).1 in let b = few in
      let e = s.split_counts.standing in omega arith

  pub split_left : (j : ℕ) (t : Take) → MayTake t (view c.views j) → t ≡ take.Place
      → 0 < (view c.views j).left
  split_left j take.Place m e = m
  split_left j take.Nothing m e = absurd (let h : take.Nothing ≡ take.Place = e in grind arith)
  split_left j (take.Hold d) m e = absurd (let h : take.Hold d ≡ take.Place = e in grind arith)
  split_left j (take.Entry p) m e = absurd (let h : take.Entry p ≡ take.Place = e in grind arith)

pub words_are_counters : WordsAreCounters
words_are_counters c d j s near = (
  fits c s (get_or (disk c d).own j no_count)
      (within c s d j near),
  fits c s (get_or (drain c.editor d).bases j no_count)
      (base_within c s d j near),
)
