-- One hold for each submit: what a step owes to keep it.
use Rattle.std.proofs.Common.{◌≡◌, ℕ, ◌+◌, ◌≤◌, ◌==◌, ◌&&◌, not, Bool, true, false, refl, set, ap, List, arith}
use Rattle.ref_state.proofs.PlacesKept.{Adds}
use Rattle.ref_state.specs.declared.kinds.Tag.{Tag}
use Rattle.ref_state.specs.declared.state.View.{View}
use Rattle.ref_state.specs.declared.state.Entry.{Entry}
use Rattle.ref_state.specs.declared.state.Hold.{Hold}
use Rattle.ref_state.specs.State.{At, one_if, is_bare, total, kept, is_named, got_at, got_by, submit_got, bare_got, execute_of, waiting_hold, done_hold, bare_hold}
use Rattle.ref_state.proofs.Whole.{HoldsOwned}
use Rattle.ref_state.proofs.Lists.{total_set}

module _ (views : List View) (j : ℕ) (v w : View) (sits : At views j v) (x : HoldsOwned views) where
  abbrev E : (Entry → ℕ) → View → ℕ
  E f u = total f (kept u)

  abbrev H : (Hold → ℕ) → View → ℕ
  H f u = total f u.holds

  -- what one seat's change owes: the same sums of what it keeps
  pub executes_move : ((k : ℕ) (p : ℕ → ℕ → Bool) → (H (waiting_hold k p) w + E (execute_of k p) w)
      + E (submit_got k p) v ≡ (H (waiting_hold k p) v + E (execute_of k p) v)
      + E (submit_got k p) w)
      → ((k : ℕ) (p : ℕ → ℕ → Bool) → H (done_hold k p) w
      + E (execute_of k p) v ≤ H (done_hold k p) v + E (execute_of k p) w)
      → ((k : ℕ) (p : ℕ → ℕ → Bool) → H (bare_hold k p) w + E (bare_got k p) v ≤ H (bare_hold k p) v
      + E (bare_got k p) w)
      → ((k : ℕ) (p : Tag → Bool) → H (got_by k p) w + E (got_at k p) v ≤ H (got_by k p) v
      + E (got_at k p) w)
      → HoldsOwned (set views j w)
  executes_move a b c d = record {
    of_one = λ k p. let o = x.of_one k p in let q = d k p in
        let r = total_set (H (got_by k p)) views j v w sits in
        let s = total_set (E (got_at k p)) views j v w sits in omega arith;
    submits = λ k p. let o = x.submits k p in let q = a k p in
        let r = total_set (H (waiting_hold k p)) views j v w sits in
        let s = total_set (E (execute_of k p)) views j v w sits in
        let t = total_set (E (submit_got k p)) views j v w sits in omega arith;
    executed = λ k p. let o = x.executed k p in let q = b k p in
        let r = total_set (H (done_hold k p)) views j v w sits in
        let s = total_set (E (execute_of k p)) views j v w sits in omega arith;
    bare = λ k p. let o = x.bare k p in let q = c k p in let r =
        total_set (H (bare_hold k p)) views j v w sits in let s =
        total_set (E (bare_got k p)) views j v w sits in omega arith;
  }

  pub executes_stay : kept w ≡ kept v → w.holds ≡ v.holds → HoldsOwned (set views j w)
  executes_stay e h = executes_move
      (λ k p. let a = ap (total (waiting_hold k p)) h in let b = ap (total (execute_of k p)) e in
      let c = ap (total (submit_got k p)) e in omega arith)
      (λ k p. let a = ap (total (done_hold k p)) h in let b = ap (total (execute_of k p)) e in
      omega arith)
      (λ k p. let a = ap (total (bare_hold k p)) h in let b = ap (total (bare_got k p)) e in
      omega arith)
      (λ k p. let a = ap (total (got_by k p)) h in let b = ap (total (got_at k p)) e in omega arith)

  -- an entry is added that got no hold and is no Execute
  pub executes_plain : (e : Entry) → Adds e v w → e.got ≡ false
      → ((k : ℕ) (p : ℕ → ℕ → Bool) → execute_of k p e ≡ 0) → w.holds ≡ v.holds
      → HoldsOwned (set views j w)
  executes_plain e adds none plain h = executes_move
      (λ k p. let a = ap (total (waiting_hold k p)) h in let b = adds.0 (execute_of k p) in
      let c = adds.0 (submit_got k p) in let z = plain k p in
      let y = none_got ((e.place == k) && is_named p e.call) e.got (not (is_bare e.call)) none
      in omega arith)
      (λ k p. let a = ap (total (done_hold k p)) h in let b = adds.0 (execute_of k p) in
      let z = plain k p in omega arith)
      (λ k p. let a = ap (total (bare_hold k p)) h in let b = adds.0 (bare_got k p) in
      let y = none_got ((e.place == k) && is_named p e.call) e.got (is_bare e.call) none in
      omega arith)
      (λ k p. let a = ap (total (got_by k p)) h in let b = adds.0 (got_at k p) in omega arith)
    where
      none_got : (p g b : Bool) → g ≡ false → one_if (p && (g && b)) ≡ 0
      none_got true true b e = absurd (let h : true ≡ false = e in grind arith)
      none_got true false b e = refl
      none_got false g b e = refl
