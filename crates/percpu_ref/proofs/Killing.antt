-- A killed life under looks.
use Rattle.std.proofs.Common.{◌≡◌, ◌≢◌, ⊎_elim, None, ℕ, ◌<◌, if◌then◌else◌, List, [], ◌∷◌, length, replicate, get_or, set, sym, refl, ap, ◌∙◌, subst, arith, get_or-set_same, get_or-set_other}
use Rattle.std.proofs.lemmas.List.{length-replicate}
use Rattle.ref_state.specs.declared.state.Drain.{Drain}
use Rattle.ref_state.specs.declared.state.Editor.{Editor}
use Rattle.ref_state.specs.declared.state.Mark.TheVariants.{Unseen, Passed}
use Rattle.ref_state.specs.declared.state.Phase.TheVariants as phase
use Rattle.ref_state.specs.State.{drain, no_drain, is_killed, mark, looked}
use Rattle.ref_state.specs.Steps.{at_mark}
use Rattle.ref_state.proofs.ShownKept.{drain_looked}
use Rattle.ref_state.proofs.Lists.{or_set}
use Rattle.table_rule.specs.declared.rule.Told.{Told}
use Rattle.table_rule.specs.Plays.{with_life, killed}
use Rattle.rcu_sections.specs.Grace.{Look, after_looks, notes_after, drains_after, marks_after, round, Noted}
use Rattle.rcu_sections.proofs.Looking.{noted_after, length_after, phase_after, round_noted, unseen_fresh, other_passed, one_passed_after}
use Rattle.percpu_ref.specs.Lives.{IsKilled, KilledStays, OthersStay}

-- looks change the marks of a killed disk alone
pub life_after : (ls : List Look) (k : Editor) (d : ℕ) → (drain k d).phase ≡ phase.Killed
    → drain (notes_after ls k) d ≡ record (drain k d) { marks = marks_after ls (drain k d).marks }
life_after [] k d is = refl
life_after (l ∷ ls) k d is = let b = drain (notes_after ls k) d in
    drain_looked l.0 l.1 (drains_after ls k.drains) d
    ∙ (ap (λ z. if z then record b { marks = at_mark l.0 l.1 b.marks } else b) (ap is_killed (phase_after ls k d ∙ is))
    ∙ ap (λ (z : Drain). record z { marks = at_mark l.0 l.1 z.marks }) (life_after ls k d is))

pub stays_killed : KilledStays
stays_killed d ws ls v h = let e = life_after ls v.notes d h.phase_is in record {
  phase_is = phase_after ls v.notes d ∙ h.phase_is;
  noted = subst (λ (b : Drain). Noted v.seats ws b.marks) (sym e) (noted_after v.seats ls ws (drain v.notes d).marks h.noted);
  wide = ap (λ (b : Drain). length b.marks) e ∙ (length_after ls (drain v.notes d).marks ∙ h.wide);
  long = ap (λ (b : Drain). length b.looked) e ∙ h.long;
}

-- ## A life that is changed

pub life_bases : (k : Editor) (d e : ℕ) (b : Drain) → b.bases ≡ (drain k d).bases → (drain (with_life d b k) e).bases ≡ (drain k e).bases
life_bases k d e b same = ⊎_elim (λ (t : get_or (set k.drains d b) e no_drain ≡ get_or k.drains e no_drain). ap (λ (z : Drain). z.bases) t)
    (λ (t : (e ≡ d) × (get_or (set k.drains d b) e no_drain ≡ b)). ap (λ (z : Drain). z.bases) t.1 ∙ (same ∙ ap (λ j. (drain k j).bases) (sym t.0)))
    (or_set k.drains d e b no_drain)

pub kill_tells : (n d : ℕ) (ws : List ℕ) (v : Told) → n ≡ v.seats → d < length v.notes.drains
    → IsKilled d ws (after_looks (round n ws) (record v { notes = with_life d (killed v.seats d v.notes) v.notes }))
kill_tells n d ws v same near =
    let k : Editor = with_life d (killed v.seats d v.notes) v.notes in
    let now : drain k d ≡ killed v.seats d v.notes = get_or-set_same v.notes.drains d (killed v.seats d v.notes) no_drain near in
    let killed_now : (drain k d).phase ≡ phase.Killed = ap (λ (b : Drain). b.phase) now in
    let after : drain (notes_after (round n ws) k) d ≡ record (killed v.seats d v.notes) { marks = marks_after (round n ws) (replicate v.seats Unseen) } =
    life_after (round n ws) k d killed_now ∙ ap (λ (b : Drain). record b { marks = marks_after (round n ws) b.marks }) now in
    let long : length (replicate v.seats Unseen) ≡ v.seats = length-replicate v.seats Unseen in record {
      phase_is = ap (λ (b : Drain). b.phase) after;
      noted = subst (λ (b : Drain). Noted v.seats ws b.marks) (sym after)
          (subst (λ m. Noted v.seats ws (marks_after (round m ws) (replicate v.seats Unseen))) (sym same)
          (round_noted v.seats ws (replicate v.seats Unseen) long (λ j h. unseen_fresh v.seats j)));
      wide = ap (λ (b : Drain). length b.marks) after ∙ (length_after (round n ws) (replicate v.seats Unseen) ∙ long);
      long = ap (λ (b : Drain). length b.looked) after ∙ length-replicate v.seats None;
    }

-- ## One look

pub look_passes : (d o w : ℕ) (ws : List ℕ) (v : Told) → IsKilled d ws v → o < v.seats → w ≢ get_or ws o 0
    → mark (drain (notes_after ((o, w) ∷ []) v.notes) d).marks o ≡ Passed
look_passes d o w ws v h near ne = let ms = (drain v.notes d).marks in let wide = h.wide in
    ap (λ (b : Drain). mark b.marks o) (life_after ((o, w) ∷ []) v.notes d h.phase_is)
    ∙ (get_or-set_same ms o (looked (mark ms o) w) Unseen (omega arith) ∙ other_passed (get_or ws o 0) w (mark ms o) (h.noted o near) ne)

-- a seat that has passed stays so
pub passed_stays : (d j : ℕ) (ls : List Look) (v : Told) → (drain v.notes d).phase ≡ phase.Killed → mark (drain v.notes d).marks j ≡ Passed
    → mark (drain (notes_after ls v.notes) d).marks j ≡ Passed
passed_stays d j ls v is h = ap (λ (b : Drain). mark b.marks j) (life_after ls v.notes d is) ∙ one_passed_after j ls (drain v.notes d).marks h

pub others_killed : OthersStay
others_killed d o ws b v ne h = let e : drain (with_life o b v.notes) d ≡ drain v.notes d = get_or-set_other v.notes.drains o d b no_drain (λ t. ne (sym t)) in record {
  phase_is = ap (λ (z : Drain). z.phase) e ∙ h.phase_is;
  noted = subst (λ (z : Drain). Noted v.seats ws z.marks) (sym e) h.noted;
  wide = ap (λ (z : Drain). length z.marks) e ∙ h.wide;
  long = ap (λ (z : Drain). length z.looked) e ∙ h.long;
}
