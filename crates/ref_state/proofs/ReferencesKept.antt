-- Split and folded counts: what a step owes to keep them.
use Rattle.std.proofs.Common.{◌≡◌, ◌≢◌, ◌⊎◌, ℕ, zero, suc, ◌+◌, ◌-◌, ◌*◌, ◌%◌, ◌<◌, ◌≤◌, ◌==◌, not, Bool, true, false, List, [], ◌∷◌, ◌++◌, map, length, get_or, set, sym, refl, ap, ◌∙◌, subst, inl, inr, ⊎_elim, arith, Option, Some, None, length-set}
use lib.ListN.{get_elem?}
use Rattle.ref_state.specs.declared.state.View.{View}
use Rattle.ref_state.specs.declared.state.Count.{Count}
use Rattle.ref_state.specs.declared.state.Phase.{Phase}
use Rattle.ref_state.specs.declared.state.Phase.TheVariants as phase
use Rattle.ref_state.specs.declared.state.Drain.{Drain}
use Rattle.ref_state.specs.declared.state.Disk.{Disk}
use Rattle.ref_state.specs.State.{At, total, kept, entries, holds, has_got, any_hold, on_disk, holds_on, ups, downs, no_count, no_disk, no_drain, is_killed}
use Rattle.ref_state.specs.Steps.{count_after, at_mark, at_drain}
use Rattle.ref_state.proofs.ShownKept.{drain_looked}
use Rattle.ref_state.specs.Soundness.{IsWithin}
use Rattle.ref_state.proofs.Whole.{Counts, References}
use Rattle.ref_state.proofs.Lists.{total_set, total_same, every_map, every_set, every_at, at_or}

lies_more : (p g p' g' : ℕ) → p ≤ p' → g ≤ g' → (x : Count) → IsWithin p g x → IsWithin p' g' x
lies_more p g p' g' a b x h = let l = h.0 in let m = h.1 in (omega arith, omega arith)

-- more entries got a hold, or were put, on another disk
pub counts_more : (n g p g' p' on : ℕ) (k : Disk) (b : Drain) → g ≤ g' → p ≤ p'
    → Counts n g p on k b → Counts n g' p' on k b
counts_more n g p g' p' on k b more later c = record {
  long = c.long;
  balance = c.balance;
  armed = c.armed;
  biased = c.biased;
  killed = λ e. let h = c.killed e in let l = h.0 in let m = h.1 in (omega arith, omega arith);
  lies = (
    every_map (lies_more p g p' g' later more) k.own c.lies.0,
    every_map (lies_more p g p' g' later more) b.bases c.lies.1,
  );
  folded = c.folded;
  drained = c.drained;
}

abbrev Used : Phase → Type 0
Used f = (f ≡ phase.Live) ⊎ (f ≡ phase.Killed)

no_armed : (f : Phase) → Used f → f ≡ phase.Armed → ⊥
no_armed f u e = grind arith

no_folded : (f : Phase) → Used f → f ≡ phase.Folded → ⊥
no_folded f u e = grind arith

no_drained : (f : Phase) → Used f → f ≡ phase.Drained → ⊥
no_drained f u e = grind arith

-- a counter goes up: one more entry got a hold
pub counts_up : (n g p on j : ℕ) (k : Disk) (b : Drain) → j < n → Used b.phase → Counts n g p on k b
    → Counts n (g + 1) p (on + 1) (record k {
      own =
          set k.own j (count_after true (get_or k.own j no_count));
    }) b
counts_up n g p on j k b near used c = let old = get_or k.own j no_count in let len = c.long.0 in
    let at = at_or k.own j no_count (omega arith) in let ok =
    every_at (IsWithin p g) k.own j old c.lies.0 at in record {
      long = (length-set k.own j _ ∙ c.long.0, c.long.1);
      balance = λ e. let h = c.balance e in let u =
          total_set ups k.own j old (count_after true old) at in
          let d = total_set downs k.own j old (count_after true old) at in omega arith;
      armed = λ e. absurd (no_armed b.phase used e);
      biased = c.biased;
      killed = λ e. let h = c.killed e in let l = h.0 in let m = h.1 in (omega arith, omega arith);
      lies = (
        every_set (IsWithin p (g + 1)) k.own j (count_after true old) (every_map (lies_more p g p (g
            + 1) (omega arith) (omega arith)) k.own c.lies.0) (let l = ok.0 in let m = ok.1 in
            (omega arith, omega arith)),
        every_map (lies_more p g p (g + 1) (omega arith) (omega arith)) b.bases c.lies.1,
      );
      folded = λ e. absurd (no_folded b.phase used e);
      drained = λ e. absurd (no_drained b.phase used e);
    }

-- a counter goes down: a hold was put
pub counts_down : (n g p on j : ℕ) (k : Disk) (b : Drain) → j < n → Used b.phase
    → Counts n g p (on + 1) k b
    → Counts n g (p + 1) on (record k {
      own =
          set k.own j (count_after false (get_or k.own j no_count));
    }) b
counts_down n g p on j k b near used c = let old = get_or k.own j no_count in let len = c.long.0 in
    let at = at_or k.own j no_count (omega arith) in let ok =
    every_at (IsWithin p g) k.own j old c.lies.0 at in record {
      long = (length-set k.own j _ ∙ c.long.0, c.long.1);
      balance = λ e. let h = c.balance e in let u =
          total_set ups k.own j old (count_after false old) at in
          let d = total_set downs k.own j old (count_after false old) at in omega arith;
      armed = λ e. absurd (no_armed b.phase used e);
      biased = c.biased;
      killed = λ e. let h = c.killed e in let l = h.0 in let m = h.1 in (omega arith, omega arith);
      lies = (
        every_set (IsWithin (p + 1) g) k.own j (count_after false old) (every_map (lies_more p g (p
            + 1) g (omega arith) (omega arith)) k.own c.lies.0) (let l = ok.0 in let m = ok.1 in
            (omega arith, omega arith)),
        every_map (lies_more p g (p + 1) g (omega arith) (omega arith)) b.bases c.lies.1,
      );
      folded = λ e. absurd (no_folded b.phase used e);
      drained = λ e. absurd (no_drained b.phase used e);
    }

module _ (n : ℕ) (disks : List Disk) (drains : List Drain) (views : List View) (p j : ℕ)
    (v w : View) (sits : At views j v) (x : References n disks drains views p) where
  abbrev G : View → ℕ
  G u = total has_got (kept u)

  abbrev H : (Rattle.ref_state.specs.declared.state.Hold.Hold → ℕ) → View → ℕ
  H f u = total f u.holds

  -- the seat keeps the same holds, and as many of its sections got one
  pub references_stay : G w ≡ G v → w.holds ≡ v.holds → References n disks drains (set views j w) p
  references_stay got same = let g : entries has_got (set views j w) ≡ entries has_got views =
      total_same G views j v w sits got in record {
        puts = let h : holds any_hold (set views j w) ≡ holds any_hold views =
            total_same (H any_hold) views j v w sits (ap (total any_hold) same) in let q = x.puts in
            omega arith;
        as_many = x.as_many;
        counts = λ d near. subst (λ (z : ℕ × ℕ). Counts n z.0 p z.1 (get_or disks d no_disk)
            (get_or drains d no_drain)) (λ i. (
              sym g i,
              sym (total_same (H (on_disk d)) views j v w sits (ap (total (on_disk d)) same)) i,
            ))
            (x.counts d near);
      }

  -- the words of the disk e change. The holds of the other disks stay, and no fewer entries got a
  -- hold or were put
  pub references_move : (e q : ℕ) (k : Disk) → H any_hold w + (q + G v) ≡ H any_hold v + (p + G w)
      → G v ≤ G w → p ≤ q → ((d : ℕ) → d ≢ e → H (on_disk d) w ≡ H (on_disk d) v)
      → (e < length disks → Counts n (entries has_got views) p (holds_on e views)
      (get_or disks e no_disk) (get_or drains e no_drain)
      → Counts n (entries has_got (set views j w)) q (holds_on e (set views j w)) k
      (get_or drains e no_drain))
      → References n (set disks e k) drains (set views j w) q
  references_move e q k puts more later others mine = let g = total_set G views j v w sits in
      let h = total_set (H any_hold) views j v w sits in let was = x.puts in record {
        puts = omega arith;
        as_many = x.as_many ∙ sym (length-set disks e k);
        counts = λ d near. let inside : d < length disks =
            subst (λ (z : ℕ). d < z) (length-set disks e k) near in Rattle.std.proofs.Common.⊎_elim
            (λ (t : (d ≡ e)). let P : ℕ → Type 0 =
            λ z. Counts n (entries has_got (set views j w)) q (holds_on z (set views j w))
            (get_or (set disks e k) z no_disk) (get_or drains z no_drain) in
            subst P (sym t) (subst (λ (z : Disk). Counts n (entries has_got (set views j w)) q
            (holds_on e (set views j w)) z (get_or drains e no_drain))
            (sym (set_mine disks e k (subst (λ (z : ℕ). z < length disks) t inside)))
            (mine (subst (λ (z : ℕ). z < length disks) t inside)
            (x.counts e (subst (λ (z : ℕ). z < length disks) t inside)))))
            (λ (other : d ≢ e). subst (λ (z : ℕ × Disk). Counts n (entries has_got (set views j w)) q
            z.0 z.1 (get_or drains d no_drain))
            (λ i. (
              sym (total_same (H (on_disk d)) views j v w sits (others d other)) i,
              sym (set_other disks e d k other) i,
            ))
            (counts_more n (entries has_got views) p (entries has_got (set views j w)) q
            (holds_on d views) (get_or disks d no_disk) (get_or drains d no_drain) (omega arith)
            later (x.counts d inside)))
            (same_or_not d e);
      }
    where
      same_or_not : (a b : ℕ) → (a ≡ b) ⊎ (a ≢ b)
      same_or_not a b = mathlib.Core.Logic.dite (native.Mathlib.Decide.ℕ_discrete a b) (λ t. inl t)
          (λ f. inr f)

      set_mine : (l : List Disk) (i : ℕ) (a : Disk) → i < length l
          → get_or (set l i a) i no_disk ≡ a
      set_mine l i a h = Rattle.std.proofs.Common.get_or-set_same l i a no_disk h

      set_other : (l : List Disk) (i d : ℕ) (a : Disk) → d ≢ i
          → get_or (set l i a) d no_disk ≡ get_or l d no_disk
      set_other l i d a h = Rattle.std.proofs.Common.get_or-set_other l i d a no_disk h

-- a look changes no counter
counts_looked : (n g p on o w : ℕ) (k : Disk) (b : Drain) → Counts n g p on k b
    → Counts n g p on k (at_drain o w b)
counts_looked n g p on o w k b c = by_case (is_killed b.phase)
  where
    by_case : (z : Bool) → Counts n g p on k (Rattle.std.proofs.Common.cond z (record b {
      marks =
          at_mark o w b.marks;
    }) b)
    by_case true = record {
      long = c.long;
      balance = c.balance;
      armed = c.armed;
      biased = c.biased;
      killed = c.killed;
      lies = c.lies;
      folded = c.folded;
      drained = c.drained;
    }
    by_case false = c

pub references_look : (n : ℕ) (disks : List Disk) (drains : List Drain) (views : List View)
    (p o w : ℕ) → References n disks drains views p
    → References n disks (map (at_drain o w) drains) views p
references_look n disks drains views p o w x = record {
  puts = x.puts;
  as_many = lib.ListN.length-map drains (at_drain o w) ∙ x.as_many;
  counts = λ d near. subst (λ (b : Drain). Counts n (entries has_got views) p (holds_on d views)
      (get_or disks d no_disk) b) (sym (drain_looked o w drains d))
      (counts_looked n (entries has_got views) p (holds_on d views) o w (get_or disks d no_disk)
      (get_or drains d no_drain) (x.counts d near));
}

-- the seat's holds count the same
pub references_same : (n : ℕ) (disks : List Disk) (drains : List Drain) (views : List View)
    (p j : ℕ) (v w : View) → At views j v → References n disks drains views p
    → total has_got (kept w) ≡ total has_got (kept v)
    → total any_hold w.holds ≡ total any_hold v.holds → ((d : ℕ) → total (on_disk d) w.holds
    ≡ total (on_disk d) v.holds) → References n disks drains (set views j w) p
references_same n disks drains views p j v w sits x got all on =
    let g : entries has_got (set views j w) ≡ entries has_got views =
    total_same (λ (u : View). total has_got (kept u)) views j v w sits got in
    let h : holds any_hold (set views j w) ≡ holds any_hold views =
    total_same (λ (u : View). total any_hold u.holds) views j v w sits all in record {
      puts = let q = x.puts in omega arith;
      as_many = x.as_many;
      counts = λ d near. subst (λ (z : ℕ × ℕ). Counts n z.0 p z.1 (get_or disks d no_disk)
          (get_or drains d no_drain)) (λ i. (
            sym g i,
            sym (total_same (λ (u : View). total (on_disk d) u.holds) views j v w sits (on d)) i,
          ))
          (x.counts d near);
    }
