-- The grace period of the sides: what a step owes to keep it, and that a look leaves an awaited
-- seat awaited.
use Rattle.std.proofs.Common.{◌≡◌, ◌≢◌, ℕ, ◌+◌, ◌%◌, ◌<◌, not, true, List, set, sym, refl, ap, ◌∙◌, subst, ⊎_elim, arith, Some, None, eq-eqb, length-set}
use Rattle.std.proofs.lemmas.Bool.Decides.{nat_tests}
use Rattle.ref_state.specs.declared.state.Section.{Section}
use Rattle.ref_state.specs.declared.state.Section.TheVariants.{Out, In, Placed}
use Rattle.ref_state.specs.declared.state.Role.TheVariants.{Seat}
use Rattle.ref_state.specs.declared.state.View.{View}
use Rattle.ref_state.specs.declared.state.Mark.{Mark}
use Rattle.ref_state.specs.declared.state.Mark.TheVariants.{Unseen, Noted, Passed}
use Rattle.ref_state.specs.State.{At, word_end, is_odd, is_open, read, Reads, mark, IsAwaited, looked, view, no_view}
use Rattle.ref_state.specs.Steps.{at_mark}
use Rattle.ref_state.specs.Soundness.{GracePeriod}
use Rattle.ref_state.proofs.Lists.{each_set, or_set, or_at}

-- the word after an entry or an exit
pub turned : (w : ℕ) → is_odd ((w + 1) % word_end) ≡ not (is_odd w)
turned w = grind (arith, nat_tests)

pub waits_looked : (m : Mark) (w : ℕ) → is_odd w ≡ true → IsAwaited m w → IsAwaited (looked m w) w
waits_looked Unseen w odd h = rw odd refl
waits_looked (Noted x) w odd h = rw (odd, eq-eqb w x h) h
waits_looked Passed w odd h = h

-- after a look at o that found w, a seat that must wait still must
pub waits_at : (ms : List Mark) (o w j word : ℕ) → (j ≡ o → w ≡ word) → is_odd word ≡ true
    → IsAwaited (mark ms j) word → IsAwaited (mark (at_mark o w ms) j) word
waits_at ms o w j word same odd h = ⊎_elim
    (λ (e : mark (at_mark o w ms) j ≡ mark ms j). subst (λ m. IsAwaited m word) (sym e) h)
    (λ (t : (j ≡ o) × (mark (at_mark o w ms) j
    ≡ looked (mark ms o) w)). subst (λ m. IsAwaited m word) (sym (t.1
    ∙ λ k. looked (mark ms (sym t.0 k)) (same t.0 k))) (waits_looked (mark ms j) word odd h))
    (or_set ms o j (looked (mark ms o) w) Unseen)

module _ (n s : ℕ) (ms : List Mark) (views : List View) (j : ℕ) (v w : View) (sits : At views j v)
    (x : GracePeriod n s ms views) where
  -- a seat's step
  pub sections_move : v.role ≡ Seat → w.role ≡ Seat → is_odd w.word ≡ is_open w.section
      → ((r : ℕ) → Reads w r → r + 1 ≡ s → IsAwaited (mark ms j) w.word)
      → GracePeriod n s ms (set views j w)
  sections_move was is odd old = record {
    many = (let l = length-set views j w in let m = x.many in omega arith);
    marked = x.marked;
    seats_first = each_set (λ i u. (u.role ≡ Seat → i < n) × (u.role ≢ Seat → u.section
        ≡ Out)) views j w x.seats_first (
          (λ _. (x.seats_first j v sits).0 was),
          λ other. absurd (other is),
        );
    odd = each_set (λ _ u. is_odd u.word ≡ is_open u.section) views j w x.odd odd;
    old = each_set (λ i u. (r : ℕ) → Reads u r → r + 1 ≡ s
        → IsAwaited (mark ms i) u.word) views j w x.old old;
  }

  pub sections_stay : v.role ≡ Seat → w.role ≡ Seat → w.word ≡ v.word
      → is_open w.section ≡ is_open v.section → read w.section ≡ read v.section
      → GracePeriod n s ms (set views j w)
  sections_stay was is word opens reads = sections_move was is (ap is_odd word
      ∙ (x.odd j v sits ∙ sym opens)) (λ r e o. subst (λ z. IsAwaited (mark ms j) z) (sym word)
      (x.old j v sits r (sym reads ∙ e) o))

-- a section that reads is open
pub reads_open : (z : Section) (r : ℕ) → read z ≡ Some r → is_open z ≡ true
reads_open Out r e = absurd (let h : None ≡ Some r = e in grind arith)
reads_open In r e = refl
reads_open (Placed z) r e = refl

pub sections_look : (n s : ℕ) (ms : List Mark) (views : List View) (o : ℕ)
    → GracePeriod n s ms views → GracePeriod n s (at_mark o (view views o).word ms) views
sections_look n s ms views o x = record {
  many = x.many;
  marked = length-set ms o (looked (mark ms o) (view views o).word) ∙ x.marked;
  seats_first = x.seats_first;
  odd = x.odd;
  old = λ j u at r e last. waits_at ms o (view views o).word j u.word
      (λ same. ap (λ (z : View). z.word) (ap (λ i. view views i) (sym same)
      ∙ or_at views j u no_view at)) (x.odd j u at
      ∙ reads_open u.section r e) (x.old j u at r e last);
}
