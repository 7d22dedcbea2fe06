-- What the editor keeps through a drain.
use Rattle.std.proofs.Common.{◌≡◌, ℕ, zero, suc, ◌+◌, ◌%◌, ◌<◌, ◌==◌, cond, List, [], ◌∷◌, ◌++◌, Option, Some, None, get_or, replicate, sym, refl, ap, ◌∙◌, subst, arith}
use Rattle.ref_state.specs.declared.state.Count.{Count}
use Rattle.ref_state.specs.declared.state.Editor.{Editor}
use Rattle.ref_state.specs.declared.state.Mark.TheVariants.{Passed}
use Rattle.ref_state.specs.declared.state.Phase.TheVariants as phase
use Rattle.ref_state.specs.State.{AllPassed, drain, mark, total, word_of, bias, word_end}
use Rattle.table_rule.specs.declared.rule.Told.{Told}
use Rattle.table_rule.specs.Meant.{target}
use Rattle.table_rule.specs.Shown.{claims_of}
use Rattle.table_rule.specs.Plays.{with_life, Published, published_notes, Folds, Ended, ended}
use Rattle.table_rule.proofs.Claiming.{extended_total}
use Rattle.table_rule.proofs.Histories.{target_snoc}
use Rattle.small_target.specs.declared.Small.{Small}
use Rattle.table_seats.specs.EndingMeans.{ending_means}
use Rattle.table_seats.specs.Lives.{Edits, edit_of, started, hidden, passed, killed_life}

pub edits_move : (n k : Editor) (s d : ℕ) (v w : Told) → Edits n s d v → w.notes ≡ k → w.seats ≡ v.seats → w.view.number ≡ v.view.number → w.claims ≡ v.claims → w.known ≡ v.known → Edits k s d w
edits_move n k s d v w e notes seats number claims known = record {
  notes_are = notes;
  seats = seats ∙ e.seats;
  number = number ∙ e.number;
  claim = subst (λ cs. 0 < total (claims_of 0) cs) (sym claims) e.claim;
  desk = ap (λ l. ending_means.desk (target ending_means l)) known ∙ e.desk;
}

three_passed : (j : ℕ) → j < 3 → mark (replicate 3 Passed) j ≡ Passed
three_passed zero h = refl
three_passed (suc zero) h = refl
three_passed (suc (suc zero)) h = refl
three_passed (suc (suc (suc j))) h = absurd (omega arith)

-- every seat has passed
pub all_passed : (n : Editor) (s d : ℕ) (v : Told) → Edits n s d v → n.marks ≡ replicate 3 Passed → AllPassed v.seats v.notes.marks
all_passed n s d v e is = λ j near. ap (λ ms. mark ms j) (ap (λ (k : Editor). k.marks) e.notes_are ∙ is) ∙ three_passed j (subst (λ k. j < k) e.seats near)

-- ## Hiding the disk

pub hides : (v w : Told) (place serial : ℕ) → Edits (record started { pending = (0, 0) ∷ [] }) 1 0 v → Published ending_means (edit_of 0) v w place serial → w.view.number ≡ v.view.number → Edits (hidden place) 0 1 w
hides v w place serial e p number = record {
  notes_are = ap (λ (z : Told). z.notes) p.told ∙ λ i. published_notes (e.seats i) place (edit_of 0) (e.notes_are i);
  seats = ap (λ (z : Told). z.seats) p.told ∙ e.seats;
  number = number ∙ e.number;
  claim = subst (λ cs. 0 < total (claims_of 0) cs) (sym (ap (λ (z : Told). z.claims) p.told)) (subst (λ (n : ℕ). 0 < n) (sym (extended_total 0 (edit_of 0) v.claims)) e.claim);
  desk = ap (λ (z : Told). ending_means.desk (target ending_means z.known)) p.told
      ∙ (ap (λ (t : Small). ending_means.desk t) (target_snoc ending_means (v.known ++ p.between) (edit_of 0))
      ∙ ap (λ (q : ℕ × ℕ). (0, cond (q.0 == 0) q.1 1)) (p.steady.desk ∙ e.desk));
}

only_disk : (v : Told) (n : Editor) (s d : ℕ) → Edits n s d v → (drain n 0).phase ≡ phase.Live → (k : ℕ) → k < 1 → (drain v.notes k).phase ≡ phase.Live
only_disk v n s d e live k near = let z : k ≡ 0 = omega arith in subst (λ j. (drain v.notes j).phase ≡ phase.Live) (sym z) (ap (λ (m : Editor). (drain m 0).phase) e.notes_are ∙ live)

pub live_disk : (v : Told) (n : Editor) (s d : ℕ) → Edits n s d v → (drain n 0).phase ≡ phase.Live → (disks : ℕ) → disks ≡ 1 → (k : ℕ) → k < disks → (drain v.notes k).phase ≡ phase.Live
live_disk v n s d e live disks one k near = only_disk v n s d e live k (omega arith)

-- ## The counters

-- the three counters, as far as they were looked at
abbrev pub looked_life : List (Option Count) → Editor → Editor
looked_life l n = record n { drains = record killed_life { looked = l } ∷ [] }

all_looked : (x y z : Count) (o : ℕ) → o < 3 → (w : Count) × (get_or (Some x ∷ (Some y ∷ (Some z ∷ []))) o None ≡ Some w)
all_looked x y z zero h = (x, refl)
all_looked x y z (suc zero) h = (y, refl)
all_looked x y z (suc (suc zero)) h = (z, refl)
all_looked x y z (suc (suc (suc o))) h = absurd (omega arith)

pub folds_three : (n : Editor) (s d p : ℕ) (v : Told) (x y z : Count) (delta : ℕ) → Edits n s d v → n ≡ looked_life (Some x ∷ (Some y ∷ (Some z ∷ []))) (passed p killed_life)
    → (delta + bias) % word_end ≡ (word_of x + (word_of y + word_of z)) % word_end → Folds v.notes v.seats 0 delta
folds_three n s d p v x y z delta e is sum = subst (λ (q : Editor × ℕ). Folds q.0 q.1 0 delta) (λ i. (sym (e.notes_are ∙ is) i, sym e.seats i)) (all_looked x y z, sum_is)
  where
    sum_is : (delta + (0 + bias)) % word_end ≡ (word_of x + (word_of y + (word_of z + 0))) % word_end
    sum_is = ap (λ k. k % word_end) (omega arith) ∙ (sum ∙ ap (λ k. k % word_end) (omega arith))

pub delta_is : (x y z : ℕ) → ((((x + y) % 18446744073709551616 + z) % 18446744073709551616 + 9223372036854775808) % 18446744073709551616 + bias) % word_end ≡ (x + (y + z)) % word_end
delta_is x y z = omega arith

-- ## The start, and the end of the drain

pub ends : (n k : Editor) (v w : Told) (place serial : ℕ) → Edits n 0 1 v → Ended ending_means (record { kind = 7; caller = 0; number = 0 }) 0 v w place serial → with_life 0 (ended 0 n) n ≡ k → w.view.number ≡ v.view.number → w.seats ≡ v.seats → Edits k 0 0 w
ends n k v w place serial e x is number seats = record {
  notes_are = ap (λ (z : Told). z.notes) x.told ∙ ((λ i. with_life 0 (ended 0 (e.notes_are i)) (e.notes_are i)) ∙ is);
  seats = seats ∙ e.seats;
  number = number ∙ e.number;
  claim = subst (λ cs. 0 < total (claims_of 0) cs) (sym (ap (λ (z : Told). z.claims) x.told)) (subst (λ (j : ℕ). 0 < j) (sym (extended_total 0 (record { kind = 7; caller = 0; number = 0 }) v.claims)) e.claim);
  desk = ap (λ (z : Told). ending_means.desk (target ending_means z.known)) x.told
      ∙ (ap (λ (t : Small). ending_means.desk t) (target_snoc ending_means (v.known ++ x.between) (record { kind = 7; caller = 0; number = 0 }))
      ∙ ap (λ (q : ℕ × ℕ). (q.0, 0)) (x.steady.desk ∙ e.desk));
}
