-- What looks at section words tell.
use Rattle.std.proofs.Common.{◌≡◌, ◌≢◌, ⊎_elim, ℕ, zero, suc, ◌+◌, ◌%◌, ◌<◌, ◌≤◌, ◌==◌, ◌++◌, Bool, true, false, if◌then◌else◌, List, [], ◌∷◌, length, get_or, set, map, replicate, sym, refl, ap, ◌∙◌, arith, ne_eqb, get_or-set_other, get_or-set_same, add-one, zero-add, add_assoc, slice_index}
use Rattle.std.proofs.lemmas.List.{length-set}
use lib.ListN.{length-map}
use mathlib.Core.Logic.{dite}
use native.Mathlib.Decide.{ℕ_discrete}
use Rattle.ref_state.specs.declared.state.Drain.{Drain}
use Rattle.ref_state.specs.declared.state.Editor.{Editor}
use Rattle.ref_state.specs.declared.state.Mark.{Mark}
use Rattle.ref_state.specs.declared.state.Mark.TheVariants as mark_of
use Rattle.ref_state.specs.State.{AllPassed, mark, looked, is_odd, is_killed, drain, no_drain, total, word_of, word_end, no_count}
use Rattle.ref_state.specs.Soundness.{live_drain}
use Rattle.atomic_table.specs.Table.{Me}
use Rattle.table_rule.specs.Words.{at, SectionOf}
use Rattle.table_rule.specs.Counted.{Counted}
use Rattle.ref_state.specs.Steps.{at_mark, at_drain, looked_at}
use Rattle.ref_state.proofs.Lists.{or_set}
use Rattle.ref_state.proofs.ShownKept.{drain_looked, phase_looked, marks_passed}
use Rattle.table_rule.specs.declared.rule.Told.{Told}
use Rattle.rcu_sections.specs.Grace.{Look, found_after, marks_after, drains_after, notes_after, after_looks, round, Noted, SpareStays}

-- ## One mark

-- what a grace period notes is never that it hasn't looked
noted_not_unseen : (x : ℕ) → mark_of.Unseen ≡ looked mark_of.Unseen x → ⊥
noted_not_unseen x = by_case (is_odd x)
  where
    by_case : (b : Bool) → mark_of.Unseen ≡ (if b then mark_of.Noted x else mark_of.Passed) → ⊥
    by_case true e = cc
    by_case false e = cc

unseen_not_passed : mark_of.Unseen ≢ mark_of.Passed
unseen_not_passed e = cc

noted_not_passed : (m : ℕ) → mark_of.Noted m ≢ mark_of.Passed
noted_not_passed m e = cc

same_noted : (m x : ℕ) → mark_of.Noted m ≡ looked mark_of.Unseen x → m ≡ x
same_noted m x = by_case (is_odd x)
  where
    by_case : (b : Bool) → mark_of.Noted m ≡ (if b then mark_of.Noted x else mark_of.Passed) → m ≡ x
    by_case true e = cc
    by_case false e = absurd (noted_not_passed m e)

-- a look that finds another word than the noted one tells that the seat has passed
pub other_passed : (x w : ℕ) (y : Mark) → (y ≢ mark_of.Passed → y ≡ looked mark_of.Unseen x) → w ≢ x → looked y w ≡ mark_of.Passed
other_passed x w mark_of.Unseen h ne = absurd (noted_not_unseen x (h unseen_not_passed))
other_passed x w (mark_of.Noted m) h ne = by_case (is_odd w)
  where
    by_case : (b : Bool) → (if b then (if w == m then mark_of.Noted m else mark_of.Passed) else mark_of.Passed) ≡ mark_of.Passed
    by_case true = ap (λ b. if b then mark_of.Noted m else mark_of.Passed) (ne_eqb w m (λ e. ne (e ∙ same_noted m x (h (noted_not_passed m)))))
    by_case false = refl
other_passed x w mark_of.Passed h ne = refl

-- a look leaves what was noted, but where the seat has passed
look_keeps : (x w : ℕ) (y : Mark) → (y ≢ mark_of.Passed → y ≡ looked mark_of.Unseen x) → looked y w ≢ mark_of.Passed → looked y w ≡ looked mark_of.Unseen x
look_keeps x w mark_of.Unseen h ne = absurd (noted_not_unseen x (h unseen_not_passed))
look_keeps x w (mark_of.Noted m) h passed = by_case (is_odd w) (w == m) passed
  where
    by_case : (b c : Bool) → (if b then (if c then mark_of.Noted m else mark_of.Passed) else mark_of.Passed) ≢ mark_of.Passed
        → (if b then (if c then mark_of.Noted m else mark_of.Passed) else mark_of.Passed) ≡ looked mark_of.Unseen x
    by_case true true ne = h (noted_not_passed m)
    by_case true false ne = absurd (ne refl)
    by_case false c ne = absurd (ne refl)
look_keeps x w mark_of.Passed h ne = absurd (ne refl)

-- ## Many looks

pub noted_look : (n o w : ℕ) (ws : List ℕ) (ms : List Mark) → Noted n ws ms → Noted n ws (at_mark o w ms)
noted_look n o w ws ms h j near = ⊎_elim
    (λ (t : mark (at_mark o w ms) j ≡ mark ms j). λ ne. t ∙ h j near (λ e. ne (t ∙ e)))
    (λ (t : (j ≡ o) × (mark (at_mark o w ms) j ≡ looked (mark ms o) w)). λ ne.
    let here : looked (mark ms o) w ≡ looked (mark ms j) w = ap (λ k. looked (mark ms k) w) (sym t.0) in
    (t.1 ∙ here) ∙ look_keeps (get_or ws j 0) w (mark ms j) (h j near) (λ e. ne ((t.1 ∙ here) ∙ e)))
    (or_set ms o j (looked (mark ms o) w) mark_of.Unseen)

pub noted_after : (n : ℕ) (ls : List Look) (ws : List ℕ) (ms : List Mark) → Noted n ws ms → Noted n ws (marks_after ls ms)
noted_after n [] ws ms h = h
noted_after n (l ∷ ls) ws ms h = noted_look n l.0 l.1 ws (marks_after ls ms) (noted_after n ls ws ms h)

pub passed_after : (n : ℕ) (ls : List Look) (ms : List Mark) → AllPassed n ms → AllPassed n (marks_after ls ms)
passed_after n [] ms h = h
passed_after n (l ∷ ls) ms h = marks_passed n l.0 l.1 (marks_after ls ms) (passed_after n ls ms h)

-- one that has passed stays so
pub one_passed : (j o w : ℕ) (ms : List Mark) → mark ms j ≡ mark_of.Passed → mark (at_mark o w ms) j ≡ mark_of.Passed
one_passed j o w ms h = ⊎_elim (λ (t : mark (at_mark o w ms) j ≡ mark ms j). t ∙ h)
    (λ (t : (j ≡ o) × (mark (at_mark o w ms) j ≡ looked (mark ms o) w)). t.1 ∙ ap (λ m. looked m w) (ap (mark ms) (sym t.0) ∙ h))
    (or_set ms o j (looked (mark ms o) w) mark_of.Unseen)

pub one_passed_after : (j : ℕ) (ls : List Look) (ms : List Mark) → mark ms j ≡ mark_of.Passed → mark (marks_after ls ms) j ≡ mark_of.Passed
one_passed_after j [] ms h = h
one_passed_after j (l ∷ ls) ms h = one_passed j l.0 l.1 (marks_after ls ms) (one_passed_after j ls ms h)

pub length_after : (ls : List Look) (ms : List Mark) → length (marks_after ls ms) ≡ length ms
length_after [] ms = refl
length_after (l ∷ ls) ms = length-set (marks_after ls ms) l.0 (looked (mark (marks_after ls ms) l.0) l.1) ∙ length_after ls ms

-- looks change no more of a disk's life than its marks
bases_looked : (o w : ℕ) (b : Drain) → (at_drain o w b).bases ≡ b.bases
bases_looked o w b = by_case (is_killed b.phase)
  where
    by_case : (k : Bool) → (if k then record b { marks = at_mark o w b.marks } else b).bases ≡ b.bases
    by_case true = refl
    by_case false = refl

pub bases_after : (ls : List Look) (k : Editor) (d : ℕ) → (drain (notes_after ls k) d).bases ≡ (drain k d).bases
bases_after [] k d = refl
bases_after (l ∷ ls) k d = ap (λ (b : Drain). b.bases) (drain_looked l.0 l.1 (drains_after ls k.drains) d)
    ∙ (bases_looked l.0 l.1 (get_or (drains_after ls k.drains) d no_drain) ∙ bases_after ls k d)

pub phase_after : (ls : List Look) (k : Editor) (d : ℕ) → (drain (notes_after ls k) d).phase ≡ (drain k d).phase
phase_after [] k d = refl
phase_after (l ∷ ls) k d = ap (λ (b : Drain). b.phase) (drain_looked l.0 l.1 (drains_after ls k.drains) d)
    ∙ (phase_looked l.0 l.1 (get_or (drains_after ls k.drains) d no_drain) ∙ phase_after ls k d)

pub spares : SpareStays
spares serial ls v s = record { serial_is = s.serial_is; over = passed_after v.seats ls v.notes.marks s.over }

-- ## One round of looks

pub round_set : (m n x : ℕ) (ws : List ℕ) → m ≤ n → round m (set ws n x) ≡ round m ws
round_set zero n x ws h = refl
round_set (suc m) n x ws h = λ i. (m, get_or-set_other ws n m x 0 (omega arith) i) ∷ round_set m n x ws (omega arith) i

-- seats above those that were looked at are as they were
round_above : (n j : ℕ) (ws : List ℕ) (ms : List Mark) → n ≤ j → mark (marks_after (round n ws) ms) j ≡ mark ms j
round_above zero j ws ms h = refl
round_above (suc n) j ws ms h = get_or-set_other (marks_after (round n ws) ms) n j (looked (mark (marks_after (round n ws) ms) n) (get_or ws n 0)) mark_of.Unseen (omega arith)
    ∙ round_above n j ws ms (omega arith)

-- after a round from fresh marks each word is noted
pub round_notes : (n : ℕ) (ws : List ℕ) (ms : List Mark) → n ≤ length ms → ((j : ℕ) → j < n → mark ms j ≡ mark_of.Unseen)
    → (j : ℕ) → j < n → mark (marks_after (round n ws) ms) j ≡ looked mark_of.Unseen (get_or ws j 0)
round_notes zero ws ms long fresh j near = absurd (omega arith)
round_notes (suc n) ws ms long fresh j near = let before = marks_after (round n ws) ms in
    let there : n < length (marks_after (round n ws) ms) = let e = length_after (round n ws) ms in omega arith in
    dite (ℕ_discrete j n)
    (λ e. ap (mark (at_mark n (get_or ws n 0) before)) e ∙ (get_or-set_same before n (looked (mark before n) (get_or ws n 0)) mark_of.Unseen there
    ∙ (ap (λ m. looked m (get_or ws n 0)) (round_above n n ws ms (omega arith) ∙ fresh n (omega arith)) ∙ ap (λ k. looked mark_of.Unseen (get_or ws k 0)) (sym e))))
    (λ ne. get_or-set_other before n j (looked (mark before n) (get_or ws n 0)) mark_of.Unseen ne ∙ round_notes n ws ms (omega arith) (λ k h. fresh k (omega arith)) j (omega arith))

pub unseen_fresh : (n j : ℕ) → mark (replicate n mark_of.Unseen) j ≡ mark_of.Unseen
unseen_fresh zero j = refl
unseen_fresh (suc n) zero = refl
unseen_fresh (suc n) (suc j) = unseen_fresh n j

pub round_noted : (n : ℕ) (ws : List ℕ) (ms : List Mark) → length ms ≡ n → ((j : ℕ) → j < n → mark ms j ≡ mark_of.Unseen) → Noted n ws (marks_after (round n ws) ms)
round_noted n ws ms long fresh j near ne = round_notes n ws ms (omega arith) fresh j near

-- one more look of a round
pub round_next : {S : Type 0} (n x : ℕ) (ws : List ℕ) (a b c : Me S Told) → n < length ws
    → b ≡ (after_looks (round n ws) a.0, a.1)
    → c ≡ (record b.0 { notes = looked_at n x b.0.notes; found = (at (SectionOf n), x) ∷ b.0.found }, b.1)
    → c ≡ (after_looks (round (n + 1) (set ws n x)) a.0, a.1)
round_next {S} n x ws a b c near before look =
    let word : get_or (set ws n x) n 0 ≡ x = get_or-set_same ws n x 0 near in
    let same : round (suc n) (set ws n x) ≡ (n, x) ∷ round n ws = λ i. (n, word i) ∷ round_set n n x ws (omega arith) i in
    let more : round (n + 1) (set ws n x) ≡ (n, x) ∷ round n ws = ap (λ k. round k (set ws n x)) (add-one n) ∙ same in
    look ∙ (ap (λ (z : Me S Told). (record z.0 { notes = looked_at n x z.0.notes; found = (at (SectionOf n), x) ∷ z.0.found }, z.1)) before
    ∙ ap (λ ls. (after_looks ls a.0, a.1)) (sym more))

-- ## The opened editor

total_none : (n : ℕ) → total word_of (replicate n no_count) ≡ 0
total_none zero = refl
total_none (suc n) = zero-add (total word_of (replicate n no_count)) ∙ total_none n

opened_bases : (n disks d : ℕ) → total word_of (get_or (replicate disks (live_drain n)) d no_drain).bases ≡ 0
opened_bases n zero d = refl
opened_bases n (suc disks) zero = total_none n
opened_bases n (suc disks) (suc d) = opened_bases n disks d

pub bases_none : (n disks d : ℕ) → total word_of (get_or (replicate disks (live_drain n)) d no_drain).bases % word_end ≡ 0
bases_none n disks d = ap (λ k. k % word_end) (opened_bases n disks d)

-- words that are all 0
pub zeros : (n j : ℕ) → slice_index (replicate n 0) j ≡ 0
zeros zero j = refl
zeros (suc n) zero = refl
zeros (suc n) (suc j) = zeros n j

pub all_passed : (n j : ℕ) → j < n → mark (replicate n mark_of.Passed) j ≡ mark_of.Passed
all_passed zero j near = absurd (omega arith)
all_passed (suc n) zero near = refl
all_passed (suc n) (suc j) near = all_passed n j (omega arith)

-- looks and then more looks
pub marks_more : (new old : List Look) (ms : List Mark) → marks_after new (marks_after old ms) ≡ marks_after (new ++ old) ms
marks_more [] old ms = refl
marks_more (l ∷ new) old ms = ap (at_mark l.0 l.1) (marks_more new old ms)

drains_more : (new old : List Look) (ds : List Drain) → drains_after new (drains_after old ds) ≡ drains_after (new ++ old) ds
drains_more [] old ds = refl
drains_more (l ∷ new) old ds = ap (map (at_drain l.0 l.1)) (drains_more new old ds)

found_more : (new old : List Look) (fs : List (ℕ × ℕ)) → found_after new (found_after old fs) ≡ found_after (new ++ old) fs
found_more [] old fs = refl
found_more (l ∷ new) old fs = ap (λ xs. (at (SectionOf l.0), l.1) ∷ xs) (found_more new old fs)

pub looks_more : (new old : List Look) (v : Told) → after_looks new (after_looks old v) ≡ after_looks (new ++ old) v
looks_more new old v = λ i. record v {
  notes = record v.notes { marks = marks_more new old v.notes.marks i; drains = drains_more new old v.notes.drains i };
  found = found_more new old v.found i;
}

pub told_more : {S : Type 0} (new old : List Look) (a b c : Me S Told) → b ≡ (after_looks old a.0, a.1) → c ≡ (after_looks new b.0, b.1) → c ≡ (after_looks (new ++ old) a.0, a.1)
told_more {S} new old a b c before now = now ∙ (ap (λ (z : Me S Told). (after_looks new z.0, z.1)) before ∙ λ i. (looks_more new old a.0 i, a.1))

-- steps of the kind Row, and then more
pub rows_more : (n m : ℕ) (a b c : Counted) → b ≡ record a { row = a.row + n } → c ≡ record b { row = b.row + m } → c ≡ record a { row = a.row + (n + m) }
rows_more n m a b c before now = now ∙ (ap (λ (z : Counted). record z { row = z.row + m }) before ∙ λ i. record a { row = add_assoc a.row n m i })

pub drains_length : (ls : List Look) (ds : List Drain) → length (drains_after ls ds) ≡ length ds
drains_length [] ds = refl
drains_length (l ∷ ls) ds = length-map (drains_after ls ds) (at_drain l.0 l.1) ∙ drains_length ls ds
