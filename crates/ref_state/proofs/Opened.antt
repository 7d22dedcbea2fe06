-- An opened core is sound.
use Rattle.std.proofs.Common.{◌≡◌, ◌⊎◌, ℕ, zero, suc, ◌+◌, ◌<◌, ◌==◌, not, List, [], ◌∷◌, length, get_or, replicate, sym, refl, ap, ◌∙◌, subst, inl, inr, ⊎_elim, arith, Some, None}
use mathlib.Core.Option.{some-injective, some-ne-none}
use lib.ListN.{length-replicate}
use Rattle.ref_state.specs.declared.state.View.{View}
use Rattle.ref_state.specs.declared.state.Mark.TheVariants.{Passed}
use Rattle.ref_state.specs.declared.state.Phase.TheVariants as phase
use Rattle.ref_state.specs.declared.state.Drain.{Drain}
use Rattle.ref_state.specs.declared.state.Disk.{Disk}
use Rattle.ref_state.specs.State.{At, total, ups, downs, no_count, no_disk, no_drain, of_slot, one_if, kept, has_place, any_entry, published_entry, has_got, any_hold, on_disk, got_by, waiting_hold, done_hold, bare_hold, execute_of, submit_got}
use Rattle.ref_state.specs.Soundness.{Each, Every, IsWithin, seat_view, seats_from, sum_of, live_disk, live_drain, opened_core}
use Rattle.ref_state.proofs.Whole.{Counts, Whole}
use Rattle.ref_state.proofs.Lists.{one_if_not}

-- what holds of each seat of its number holds of each view
each_seat : (P : ℕ → View → Type 0) (n : ℕ) (qs : List ℕ) → ((j q : ℕ) → j < length qs
    → P (n + j) (seat_view (n + j) q)) → (j : ℕ) (v : View) → At (seats_from n qs) j v → P (n + j) v
each_seat P n [] h j v e = absurd (some-ne-none v (sym e))
each_seat P n (q ∷ qs) h zero v e = subst (P (n + 0)) (ap (λ (i : ℕ). seat_view i q) (let z : n + 0
    ≡ n = omega arith in z) ∙ some-injective (seat_view n q) v e) (h 0 q (omega arith))
each_seat P n (q ∷ qs) h (suc j) v e = let same : (n + 1) + j ≡ n + suc j = omega arith in
    subst (λ i. P i v) same (each_seat P (n + 1) qs (λ i p near.
    let eq : n + suc i ≡ (n + 1) + i = omega arith in
    subst (λ k. P k (seat_view k p)) eq (h (suc i) p (omega arith))) j v e)

pub all_seats : (P : ℕ → View → Type 0) (qs : List ℕ) → ((j q : ℕ) → j < length qs
    → P j (seat_view j q)) → Each (seats_from 0 qs) P
all_seats P qs h j v e = let z : 0 + j ≡ j = omega arith in
    subst (λ i. P i v) z (each_seat P 0 qs (λ i q near. let y : i ≡ 0 + i = omega arith in
    subst (λ k. P k (seat_view k q)) y (h i q near)) j v e)

-- what no seat has at the start
nothing_yet : (f : View → ℕ) → ((n q : ℕ) → f (seat_view n q) ≡ 0) → (n : ℕ) (qs : List ℕ)
    → total f (seats_from n qs) ≡ 0
nothing_yet f h n [] = refl
nothing_yet f h n (q ∷ qs) = let a = h n q in omega (arith, nothing_yet f h (n + 1) qs)

lefts : (n : ℕ) (qs : List ℕ) → total (λ (v : View). v.left) (seats_from n qs) ≡ sum_of qs
lefts n [] = refl
lefts n (q ∷ qs) = omega (arith, lefts (n + 1) qs)

-- a list of one thing, read at any place
module _ {A : Type 0} where
  or_replicate : (n i : ℕ) (a x : A) → (get_or (replicate n a) i x ≡ a)
      ⊎ (get_or (replicate n a) i x ≡ x)
  or_replicate zero i a x = inr refl
  or_replicate (suc n) zero a x = inl refl
  or_replicate (suc n) (suc i) a x = or_replicate n i a x

  or_near : (n i : ℕ) (a x : A) → i < n → get_or (replicate n a) i x ≡ a
  or_near zero i a x h = absurd (omega arith)
  or_near (suc n) zero a x h = refl
  or_near (suc n) (suc i) a x h = or_near n i a x (omega arith)

  total_none : (f : A → ℕ) (n : ℕ) (a : A) → f a ≡ 0 → total f (replicate n a) ≡ 0
  total_none f zero a e = refl
  total_none f (suc n) a e = omega (arith, total_none f n a e)

  every_one : (P : A → Type 0) (n : ℕ) (a : A) → P a → Every P (replicate n a)
  every_one P zero a h = tt
  every_one P (suc n) a h = (h, every_one P n a h)

counts_open : (n : ℕ) → Counts n 0 0 0 (live_disk n) (live_drain n)
counts_open n = record {
  long = (length-replicate n no_count, length-replicate n no_count);
  balance = λ _. let a = total_none ups n no_count refl in let b =
      total_none downs n no_count refl in omega arith;
  armed = λ _. refl;
  biased = λ _. refl;
  killed = λ e. absurd (let h : phase.Live ≡ phase.Killed = e in grind arith);
  lies = (
    every_one (IsWithin 0 0) n no_count (omega arith, omega arith),
    every_one (IsWithin 0 0) n no_count (omega arith, omega arith),
  );
  folded = λ e. absurd (let h : phase.Live ≡ phase.Folded = e in grind arith);
  drained = λ e. absurd (let h : phase.Live ≡ phase.Drained = e in grind arith);
}

count_seats : (n : ℕ) (qs : List ℕ) → length (seats_from n qs) ≡ length qs
count_seats n [] = refl
count_seats n (q ∷ qs) = ap suc (count_seats (n + 1) qs)

pub opens : (quotas : List ℕ) (disks slots : ℕ) (words : List ℕ) → sum_of quotas < 4294967296
    → Whole (opened_core quotas disks slots words)
opens quotas disks slots words small = record {
  puts = 0;
  places = record {
    once = λ k. nothing_yet (λ v. total (has_place k) (kept v)) (λ n q. refl) 0 quotas
        ∙ sym (one_if_not (k + 1) 0 (omega arith));
    all = nothing_yet (λ v. total any_entry (kept v)) (λ n q. refl) 0 quotas;
    each = all_seats _ quotas (λ j q near. tt);
    published = (refl, nothing_yet (λ v. total published_entry (kept v)) (λ n q. refl) 0 quotas);
    rising = λ i p e. absurd (some-ne-none p (sym e));
    left = omega (arith, lefts 0 quotas);
    small = small;
    seen = all_seats _ quotas (λ j q near. omega arith);
    known = all_seats _ quotas (λ j q near. (tt, tt));
  };
  sides = record {
    two = refl;
    confs = refl;
    wide = λ s near. wide s near;
    last = refl;
    spare = refl;
    still = λ e. absurd (e refl);
    reads = all_seats _ quotas (λ j q near s e. absurd (let h : None ≡ Some s = e in grind arith));
  };
  sections = record {
    many = (let l = count_seats 0 quotas in omega arith);
    marked = length-replicate (length quotas) Passed;
    seats_first = all_seats _ quotas (λ j q near. ((λ _. near), λ e. refl));
    odd = all_seats _ quotas (λ j q near. refl);
    old = all_seats _ quotas (λ j q near s e. absurd (let h : None ≡ Some s = e in grind arith));
  };
  references = record {
    puts = let a = nothing_yet (λ v. total any_hold v.holds) (λ n q. refl) 0 quotas in
        let b = nothing_yet (λ v. total has_got (kept v)) (λ n q. refl) 0 quotas in omega arith;
    as_many = length-replicate disks (live_drain (length quotas))
        ∙ sym (length-replicate disks (live_disk (length quotas)));
    counts = λ d near. let near' : d < disks =
        subst (λ (z : ℕ). d < z) (length-replicate disks (live_disk (length quotas))) near in
        subst (λ (z : ℕ × ℕ × Disk × Drain). Counts (length quotas) z.0 0 z.1 z.2 z.3)
        (λ i. (
          sym (nothing_yet (λ v. total has_got (kept v)) (λ n q. refl) 0 quotas) i,
          sym (nothing_yet (λ v. total (on_disk d) v.holds) (λ n q. refl) 0 quotas) i,
          sym (or_near disks d (live_disk (length quotas)) no_disk near') i,
          sym (or_near disks d (live_drain (length quotas)) no_drain near') i,
        ))
        (counts_open (length quotas));
  };
  modes = record {
    mode = λ d. ((λ _. phase_open d), λ _. mode_open d);
    loaded = all_seats _ quotas (λ j q near. tt);
    looked = λ d e. absurd (let h : phase.Live ≡ phase.Killed = sym (phase_open d) ∙ e in
        grind arith);
    wide = λ d e. absurd (let h : phase.Live ≡ phase.Killed = sym (phase_open d) ∙ e in
        grind arith);
  };
  shown = record {
    last = λ d _. phase_open d;
    sections = λ d. all_seats _ quotas (λ j q near s e. absurd (let h : None ≡ Some s = e in
        grind arith));
  };
  turns = record {
    numbered = all_seats _ quotas (λ j q near. ((λ _. refl), near));
    holders = λ s near. nothing_yet (λ v. total (of_slot s) v.turns) (λ n q. refl) 0 quotas
        ∙ sym (ap (λ t. one_if (not (t == 0))) (⊎_elim (λ (t : get_or (replicate slots 0) s 0
        ≡ 0). t) (λ (t : get_or (replicate slots 0) s 0 ≡ 0). t) (or_replicate slots s 0 0)));
    owner = all_seats _ quotas (λ j q near. tt);
  };
  executes = record {
    of_one = λ k p. let a = nothing_yet (λ v. total (got_by k p) v.holds) (λ n q. refl) 0 quotas in
        omega arith;
    submits = λ k p. let a = nothing_yet (λ v. total (waiting_hold k p) v.holds) (λ n q. refl) 0
        quotas in let b = nothing_yet (λ v. total (execute_of k p) (kept v)) (λ n q. refl) 0 quotas
        in let d = nothing_yet (λ v. total (submit_got k p) (kept v)) (λ n q. refl) 0 quotas in
        omega arith;
    executed = λ k p. let a = nothing_yet (λ v. total (done_hold k p) v.holds) (λ n q. refl) 0
        quotas in omega arith;
    bare = λ k p. let a = nothing_yet (λ v. total (bare_hold k p) v.holds) (λ n q. refl) 0 quotas in
        omega arith;
  };
}
  where
    phase_open : (d : ℕ) → (get_or (replicate disks (live_drain (length quotas))) d no_drain).phase
        ≡ phase.Live
    phase_open d = ⊎_elim (λ (t : get_or (replicate disks (live_drain (length quotas))) d no_drain
        ≡ live_drain (length quotas)). ap (λ (b : Drain). b.phase) t)
        (λ (t : get_or (replicate disks (live_drain (length quotas))) d no_drain
        ≡ no_drain). ap (λ (b : Drain). b.phase) t) (or_replicate disks d
        (live_drain (length quotas)) no_drain)

    mode_open : (d : ℕ) → (get_or (replicate disks (live_disk (length quotas))) d no_disk).mode ≡ 0
    mode_open d = ⊎_elim (λ (t : get_or (replicate disks (live_disk (length quotas))) d no_disk
        ≡ live_disk (length quotas)). ap (λ (b : Disk). b.mode) t)
        (λ (t : get_or (replicate disks (live_disk (length quotas))) d no_disk
        ≡ no_disk). ap (λ (b : Disk). b.mode) t) (or_replicate disks d
        (live_disk (length quotas)) no_disk)

    wide : (s : ℕ) → s < 1 → length (get_or (words ∷ []) s []) ≡ length words
    wide zero h = refl
    wide (suc s) h = absurd (omega arith)
