-- For edits that show the disk by another number.
use Rattle.std.proofs.Common.{◌≡◌, ◌≢◌, ℕ, zero, suc, ◌%◌, ◌<◌, ◌==◌, Bool, true, false, cond, if◌then◌else◌, List, [], ◌∷◌, ◌++◌, length, map, get_or, set, replicate, sym, refl, ap, ◌∙◌, subst, arith, ne_eqb, eq-eqb}
use Rattle.std.proofs.lemmas.List.{length-set}
use Rattle.ref_state.specs.declared.state.Mark.{Mark}
use Rattle.ref_state.specs.declared.state.Mark.TheVariants.{Passed, Unseen, Noted}
use Rattle.ref_state.specs.declared.state.Drain.{Drain}
use Rattle.ref_state.specs.declared.state.Editor.{Editor}
use Rattle.ref_state.specs.State.{AllPassed, drain, no_drain, mark, looked, is_killed, total}
use Rattle.ref_state.specs.Steps.{looked_at, at_drain, at_mark}
use Rattle.table_rule.specs.declared.rule.Told.{Told}
use Rattle.table_rule.specs.Meant.{target}
use Rattle.table_rule.specs.Shown.{claims_of}
use Rattle.table_rule.specs.Plays.{Published}
use Rattle.table_rule.proofs.Claiming.{extended_total}
use Rattle.table_rule.proofs.Histories.{target_snoc}
use Rattle.small_target.specs.declared.Small.{Small}
use Rattle.small_target.specs.Small.{edited}
use Rattle.table_seats.specs.EndingMeans.{ending_means}
use Rattle.table_seats.specs.Lives.{edit_of}
use Rattle.table_seats.specs.Publishing.{Publishes}

even_look : (m : Mark) (w : ℕ) → w % 2 ≡ 0 → looked m w ≡ Passed
even_look Unseen w e = ap (λ b. if b then Noted w else Passed) (ne_eqb (w % 2) 1 (omega arith))
even_look (Noted x) w e = ap (λ b. if b then (if w == x then Noted x else Passed) else Passed) (ne_eqb (w % 2) 1 (omega arith))
even_look Passed w e = refl

same_phase : (j w : ℕ) (b : Drain) → (at_drain j w b).phase ≡ b.phase
same_phase j w b = by_phase (is_killed b.phase)
  where
    by_phase : (k : Bool) → (if k then record b { marks = at_mark j w b.marks } else b).phase ≡ b.phase
    by_phase true = refl
    by_phase false = refl

first_phase : (j w : ℕ) (ds : List Drain) → (get_or (map (at_drain j w) ds) 0 no_drain).phase ≡ (get_or ds 0 no_drain).phase
first_phase j w [] = refl
first_phase j w (b ∷ bs) = same_phase j w b

-- after a look
pub looks : (j x : ℕ) (v w : Told) (f : List (ℕ × ℕ)) → Publishes v → w ≡ record v { notes = looked_at j x v.notes; found = f } → Publishes w
looks j x v w f p is = record {
  number = ap (λ (z : Told). z.view.number) is ∙ p.number;
  seats = ap (λ (z : Told). z.seats) is ∙ p.seats;
  claim = subst (λ cs. 0 < total (claims_of 0) cs) (sym (ap (λ (z : Told). z.claims) is)) p.claim;
  calm = ap (λ (z : Told). (target ending_means z.known).draining) is ∙ p.calm;
  live = ap (λ (z : Told). (drain z.notes 0).phase) is ∙ (first_phase j x v.notes.drains ∙ p.live);
  marks = ap (λ (z : Told). length z.notes.marks) is ∙ (length-set v.notes.marks j (looked (mark v.notes.marks j) x) ∙ p.marks);
}

three_even : (ms : List Mark) (x y z : ℕ) → length ms ≡ 3 → x % 2 ≡ 0 → y % 2 ≡ 0 → z % 2 ≡ 0 → at_mark 2 z (at_mark 1 y (at_mark 0 x ms)) ≡ replicate 3 Passed
three_even [] x y z long ex ey ez = absurd (omega arith)
three_even (a ∷ []) x y z long ex ey ez = absurd (omega arith)
three_even (a ∷ (b ∷ [])) x y z long ex ey ez = absurd (omega arith)
three_even (a ∷ (b ∷ (d ∷ []))) x y z long ex ey ez = λ i. even_look a x ex i ∷ (even_look b y ey i ∷ (even_look d z ez i ∷ []))
three_even (a ∷ (b ∷ (d ∷ (e ∷ ms)))) x y z long ex ey ez = absurd (omega arith)

three_passed : (j : ℕ) → j < 3 → mark (replicate 3 Passed) j ≡ Passed
three_passed zero h = refl
three_passed (suc zero) h = refl
three_passed (suc (suc zero)) h = refl
three_passed (suc (suc (suc j))) h = absurd (omega arith)

pub all_even : (k : Editor) (v : Told) (n x y z : ℕ) → v.notes.marks ≡ at_mark 2 z (at_mark 1 y (at_mark 0 x k.marks)) → length k.marks ≡ 3 → n ≡ 3 → x % 2 ≡ 0 → y % 2 ≡ 0 → z % 2 ≡ 0 → AllPassed n v.notes.marks
all_even k v n x y z is long three ex ey ez = λ j near. ap (λ ms. mark ms j) (is ∙ three_even k.marks x y z long ex ey ez) ∙ three_passed j (omega arith)

-- after a publish
pub shows : (t : Small) (n : ℕ) → n ≢ 0 → t.draining ≡ 0 → (edited t n).shown ≡ n
shows t zero ne none = absurd (ne refl)
shows t (suc n) ne none = ap (λ b. cond b (suc n) t.shown) (eq-eqb t.draining 0 none)

pub set_first : (l : List ℕ) (x : ℕ) → length (set l 0 x) ≡ 1 → x ∷ [] ≡ set l 0 x
set_first [] x e = absurd (omega arith)
set_first (y ∷ []) x e = refl
set_first (y ∷ (z ∷ zs)) x e = absurd (omega arith)

still_calm : (t : Small) (n : ℕ) → n ≢ 0 → (edited t n).draining ≡ t.draining
still_calm t zero ne = absurd (ne refl)
still_calm t (suc n) ne = refl

pub publishes : (n : ℕ) (v w : Told) (place serial : ℕ) → n ≢ 0 → Publishes v → Published ending_means (edit_of n) v w place serial → Publishes w
publishes n v w place serial ne p x = record {
  number = ap (λ (z : Told). z.view.number) x.told ∙ p.number;
  seats = ap (λ (z : Told). z.seats) x.told ∙ p.seats;
  claim = subst (λ cs. 0 < total (claims_of 0) cs) (sym (ap (λ (z : Told). z.claims) x.told)) (subst (λ (k : ℕ). 0 < k) (sym (extended_total 0 (edit_of n) v.claims)) p.claim);
  calm = ap (λ (z : Told). (target ending_means z.known).draining) x.told
      ∙ (ap (λ (t : Small). t.draining) (target_snoc ending_means (v.known ++ x.between) (edit_of n))
      ∙ (still_calm (target ending_means (v.known ++ x.between)) n ne ∙ (ap (λ (q : ℕ × ℕ). q.1) x.steady.desk ∙ p.calm)));
  live = ap (λ (z : Told). (drain z.notes 0).phase) x.told ∙ p.live;
  marks = ap (λ (z : Told). length z.notes.marks) x.told ∙ ap (λ k. length (replicate k Unseen)) p.seats;
}
