-- The kinds of the editor on a disk keep soundness.
use Rattle.std.proofs.Common.{◌≡◌, ◌↔◌, ℕ, zero, suc, ◌+◌, ◌%◌, ◌<◌, ◌==◌, cond, Bool, true, false, List, length, get_or, set, replicate, sym, refl, ap, ◌∙◌, subst, inl, inr, ⊎_elim, arith, Option, Some, None, length-set}
use Rattle.std.proofs.lemmas.Bool.{eqb-true}
use lib.ListN.{length-replicate}
use Rattle.ref_state.specs.declared.kinds.Kind.TheVariants.{Kill, LookCounter, Fold, LookZero, LiveShared, LiveMode}
use Rattle.ref_state.specs.declared.state.Section.TheVariants.{Out}
use Rattle.ref_state.specs.declared.state.Role.{Role}
use Rattle.ref_state.specs.declared.state.Role.TheVariants.{Seat, Part, Spent}
use Rattle.ref_state.specs.declared.state.View.{View}
use Rattle.ref_state.specs.declared.state.Count.{Count}
use Rattle.ref_state.specs.declared.state.Mark.{Mark}
use Rattle.ref_state.specs.declared.state.Mark.TheVariants.{Unseen}
use Rattle.ref_state.specs.declared.state.Phase.{Phase}
use Rattle.ref_state.specs.declared.state.Phase.TheVariants as phase
use Rattle.ref_state.specs.declared.state.Drain.{Drain}
use Rattle.ref_state.specs.declared.state.Disk.{Disk}
use Rattle.ref_state.specs.declared.state.State.{State as Core}
use Rattle.ref_state.specs.State.{At, bias, word_end, total, entries, has_got, holds_on, is_open, Reads, Shows, mark, AllPassed, IsAwaited, IsLiveOrAwaited, looked, no_disk, disk, drain, ups, downs, no_count}
use Rattle.ref_state.specs.Steps.{after_step, MayStep, with_disk, with_drain, fresh_marks, base_after, MayLoad}
use Rattle.ref_state.specs.Soundness.{SidesAgree, counts_own, is_biased}
use Rattle.ref_state.proofs.Whole.{Counts, Whole}
use Rattle.ref_state.proofs.Lists.{set_again, or_set, at_or, some_is}
use Rattle.ref_state.proofs.SidesKept.{sides_editor}
use Rattle.ref_state.proofs.SideSteps.{fresh_waits, reads_near}
use Rattle.ref_state.proofs.ReferenceSteps.{Dead, some_hold, few_got, holds_few}
use Rattle.ref_state.proofs.FoldKept.{counts_fold, all_looked}
use Rattle.ref_state.proofs.AtDisk.{references_at, modes_at, shown_at}

-- counters that stand while the phase goes on
counts_kill : (n g p on : ℕ) (k : Disk) (b : Drain) (ls : List (Option Count)) (ms : List Mark)
    → b.phase ≡ phase.Live → Counts n g p on k b
    → Counts n g p on (record k { mode = 1 }) (record b {
      phase = phase.Killed;
      marks = ms;
      looked = ls;
    })
counts_kill n g p on k b ls ms live c = record {
  long = c.long;
  balance = λ _. c.balance (ap counts_own live);
  armed = λ e. absurd (let h : phase.Killed ≡ phase.Armed = e in grind arith);
  biased = λ e. absurd (let h : false ≡ true = e in grind arith);
  killed = λ _. let h = c.biased (ap is_biased live) in (omega arith, omega arith);
  lies = c.lies;
  folded = λ e. absurd (let h : phase.Killed ≡ phase.Folded = e in grind arith);
  drained = λ e. absurd (let h : phase.Killed ≡ phase.Drained = e in grind arith);
}

-- what is read of a drain stays
counts_drain : (n g p on : ℕ) (k : Disk) (b e : Drain) → e.phase ≡ b.phase → e.bases ≡ b.bases
    → Counts n g p on k b → Counts n g p on k e
counts_drain n g p on k b e f q c = let P : Phase → List Count
    → Type 0 = λ f q. Counts n g p on k (record e { phase = f; bases = q }) in
    subst (λ z. P z e.bases) (sym f) (subst (λ q. P b.phase q) (sym q) record {
      long = c.long;
      balance = c.balance;
      armed = c.armed;
      biased = c.biased;
      killed = c.killed;
      lies = c.lies;
      folded = c.folded;
      drained = c.drained;
    })

counts_zero : (n g p on : ℕ) (k : Disk) (b : Drain) (done : Bool) → b.phase ≡ phase.Folded
    → k.shared ≡ 0 → Counts n g p on k b → Counts n g p on k (record b {
      phase = phase.Drained;
      done_placed = done;
    })
counts_zero n g p on k b done folded empty c = record {
  long = c.long;
  balance = λ e. absurd (let h : false ≡ true = e in grind arith);
  armed = λ e. absurd (let h : phase.Drained ≡ phase.Armed = e in grind arith);
  biased = λ e. absurd (let h : false ≡ true = e in grind arith);
  killed = λ e. absurd (let h : phase.Drained ≡ phase.Killed = e in grind arith);
  lies = c.lies;
  folded = λ e. absurd (let h : phase.Drained ≡ phase.Folded = e in grind arith);
  drained = λ _. let h = c.folded folded in (empty, sym h.0 ∙ empty, h.1);
}

counts_arm : (n g p on : ℕ) (k : Disk) (b : Drain) → b.phase ≡ phase.Drained → Counts n g p on k b
    → Counts n g p on (record k { shared = bias }) (record b { phase = phase.Armed })
counts_arm n g p on k b drained c = let h = c.drained drained in record {
  long = c.long;
  balance = λ _. let u = ap (total ups) h.2 in let d = ap (total downs) h.2 in let z = h.1 in
      omega arith;
  armed = λ _. h.1;
  biased = λ _. refl;
  killed = λ e. absurd (let h : phase.Armed ≡ phase.Killed = e in grind arith);
  lies = c.lies;
  folded = λ e. absurd (let h : phase.Armed ≡ phase.Folded = e in grind arith);
  drained = λ e. absurd (let h : phase.Armed ≡ phase.Drained = e in grind arith);
}

counts_live : (n g p on : ℕ) (k : Disk) (b : Drain) → b.phase ≡ phase.Armed → Counts n g p on k b
    → Counts n g p on (record k { mode = 0 }) (record b { phase = phase.Live })
counts_live n g p on k b armed c = record {
  long = c.long;
  balance = λ _. c.balance (ap counts_own armed);
  armed = λ e. absurd (let h : phase.Live ≡ phase.Armed = e in grind arith);
  biased = λ _. c.biased (ap is_biased armed);
  killed = λ e. absurd (let h : phase.Live ≡ phase.Killed = e in grind arith);
  lies = c.lies;
  folded = λ e. absurd (let h : phase.Live ≡ phase.Folded = e in grind arith);
  drained = λ e. absurd (let h : phase.Live ≡ phase.Drained = e in grind arith);
}

-- phases that exclude one another
live_or : (b : Drain) (j w : ℕ) (f : Phase) → b.phase ≡ f → (f ≡ phase.Live → ⊥)
    → (f ≡ phase.Killed → ⊥) → IsLiveOrAwaited b j w → ⊥
live_or b j w f e no_live no_killed g = ⊎_elim (λ (t : b.phase ≡ phase.Live). no_live (sym e
    ∙ t)) (λ (t : (b.phase ≡ phase.Killed) × IsAwaited (mark b.marks j) w). no_killed (sym e
    ∙ t.0)) g

dead_or : (g f : Phase) → g ≡ f → (f ≡ phase.Killed → ⊥) → (f ≡ phase.Folded → ⊥) → Dead g → ⊥
dead_or g f e no_killed no_folded d = ⊎_elim (λ (t : g ≡ phase.Killed). no_killed (sym e
    ∙ t)) (λ (t : g ≡ phase.Folded). no_folded (sym e ∙ t)) d

none_there : (n o : ℕ) (x : Count) → get_or {A = Option Count} (replicate n None) o None ≡ Some x
    → ⊥
none_there zero o x e = let h : None ≡ Some x = e in grind arith
none_there (suc n) zero x e = let h : None ≡ Some x = e in grind arith
none_there (suc n) (suc o) x e = none_there n o x e

module _ (c : Core) (j : ℕ) (v : View) (sits : At c.views j v) (seat : v.role
    ≡ Seat) (s : Whole c) where
  same_sides : (ds : List Drain) → SidesAgree c.seats c.rows c.serial c.sides
      (record c.editor { drains = ds }) c.views
  same_sides ds = sides_editor c.seats c.rows c.serial c.sides c.editor c.views s.sides
      (record c.editor { drains = ds }) refl refl (λ a. a)

  -- the disk's own words as they are
  kept_disks : (d : ℕ) → d < length c.disks → set c.disks d (disk c d) ≡ c.disks
  kept_disks d near = set_again c.disks d (disk c d) (at_or c.disks d no_disk near)

  -- a core whose disk and drain at d are others
  abbrev Other : ℕ → Disk → Drain → Core
  Other d x b = with_drain (with_disk c d x) d b

  -- what a change at one disk owes
  at_disk : (d : ℕ) (x : Disk) (b : Drain) → d < length c.disks
      → (Counts c.seats (entries has_got c.views) s.puts (holds_on d c.views) (disk c d)
      (drain c.editor d) → Counts c.seats (entries has_got c.views) s.puts (holds_on d c.views)
      x b)
      → ((x.mode ≡ 0) ↔ (b.phase ≡ phase.Live))
      → ((i : ℕ) (u : View) → At c.views i u → is_open u.section ≡ true → MayLoad c.editor u d
      → IsLiveOrAwaited (drain c.editor d) i u.word → IsLiveOrAwaited b i u.word)
      → ((i : ℕ) (u : View) → At c.views i u → MayLoad c.editor u d → Dead (drain c.editor d).phase
      → Dead b.phase)
      → (b.phase ≡ phase.Killed → (o : ℕ) (y : Count) → get_or b.looked o None ≡ Some y
      → AllPassed c.seats b.marks × (get_or x.own o no_count ≡ y))
      → (b.phase ≡ phase.Killed → (length b.looked ≡ c.seats) × (length b.marks ≡ c.seats))
      → (Shows c.editor c.serial d → b.phase ≡ phase.Live)
      → ((i : ℕ) (u : View) (r : ℕ) → At c.views i u → Reads u r → Shows c.editor r d
      → IsLiveOrAwaited (drain c.editor d) i u.word → IsLiveOrAwaited b i u.word)
      → Whole (Other d x b)
  at_disk d x b near counts mode live dead looked wide last sections = record {
    puts = s.puts;
    places = s.places;
    sides = same_sides (set c.editor.drains d b);
    sections = s.sections;
    references = references_at c.seats c.serial c.disks c.editor c.views d x b near
        s.references.as_many s.puts counts s.references;
    modes = modes_at c.seats c.serial c.disks c.editor c.views d x b near s.references.as_many mode
        live dead looked wide s.modes;
    shown = shown_at c.seats c.serial c.disks c.editor c.views d x b near s.references.as_many last
        sections s.shown;
    turns = s.turns;
    executes = s.executes;
  }

  -- the same where the disk's words stay
  at_drain_alone : (d : ℕ) (b : Drain) → d < length c.disks → Whole (Other d (disk c d) b)
      → Whole (with_drain c d b)
  at_drain_alone d b near h = subst (λ (ds : List Disk). Whole (record (with_drain c d b) {
    disks =
        ds;
  })) (kept_disks d near) h

  -- ## kill

  pub kills : (d : ℕ) → MayStep c j v (Kill d) → Whole (after_step c j v (Kill d))
  kills d ok = let b : Drain = record (drain c.editor d) {
    phase = phase.Killed;
    marks = fresh_marks c;
    looked = replicate c.seats None;
  } in
      at_disk d (record (disk c d) { mode = 1 }) b ok.1 (counts_kill c.seats
      (entries has_got c.views) s.puts (holds_on d c.views) (disk c d) (drain c.editor d)
      (replicate c.seats None) (fresh_marks c) ok.2) (
        (λ e. absurd (omega arith)),
        λ e. absurd (let h : phase.Killed ≡ phase.Live = e in
            grind arith),
      )
      (λ i u at o m g. inr (refl, fresh_waits c.seats i u.word))
      (λ i u at m dead. absurd (dead_or (drain c.editor d).phase phase.Live ok.2 (λ e. grind arith)
      (λ e. grind arith) dead))
      (λ _ o y e. absurd (none_there c.seats o y e)) (λ _. (
        length-replicate c.seats None,
        length-replicate c.seats Unseen,
      ))
      (λ shows. absurd (ok.3 shows))
      (λ i u r at reads shows g. inr (refl, fresh_waits c.seats i u.word))

  -- ## look_counter

  pub counters : (d o : ℕ) → MayStep c j v (LookCounter d o)
      → Whole (after_step c j v (LookCounter d o))
  counters d o ok = let own : Count = get_or (disk c d).own o no_count in
      let b : Drain = record (drain c.editor d) {
        looked =
            set (drain c.editor d).looked o (Some own);
      } in
      at_drain_alone d b ok.1
      (at_disk d (disk c d) b ok.1 (counts_drain c.seats (entries has_got c.views) s.puts
      (holds_on d c.views) (disk c d) (drain c.editor d) b refl refl) (s.modes.mode d)
      (λ i u at o m g. g) (λ i u at m dead. dead)
      (λ killed i y e. ⊎_elim (λ (t : get_or b.looked i None
      ≡ get_or (drain c.editor d).looked i None). s.modes.looked d killed i y (sym t ∙ e))
      (λ (t : (i ≡ o) × (get_or b.looked i None ≡ Some own)). (
        ok.4,
        ap (λ q. get_or (disk c d).own q no_count) t.0 ∙ some_is (sym t.1 ∙ e),
      ))
      (or_set (drain c.editor d).looked o i (Some own) None))
      (λ killed. (
        length-set (drain c.editor d).looked o (Some own)
            ∙ (s.modes.wide d killed).0,
        (s.modes.wide d killed).1,
      )) (s.shown.last d)
      (λ i u r at reads shows g. g))

  -- ## fold

  -- nobody who waits for the disk is left
  no_wait : (d delta : ℕ) → MayStep c j v (Fold d delta) → (i : ℕ) (u : View) → At c.views i u
      → i < c.seats → IsLiveOrAwaited (drain c.editor d) i u.word → ⊥
  no_wait d delta ok i u at near g = ⊎_elim (λ (t : (drain c.editor d).phase ≡ phase.Live).
      let h : phase.Live ≡ phase.Killed = sym t ∙ ok.2 in grind arith)
      (λ (t : ((drain c.editor d).phase ≡ phase.Killed)
      × IsAwaited (mark (drain c.editor d).marks i) u.word). let l = ok.3 i near in
      subst (λ m. IsAwaited m u.word) ((s.modes.looked d ok.2 i l.0 l.1).0 i near) t.1) g

  -- only a seat has its section open
  open_near : (i : ℕ) (u : View) → At c.views i u → is_open u.section ≡ true → i < c.seats
  open_near i u at o = by_role u.role refl
    where
      closed : u.section ≡ Out → ⊥
      closed out = let h : false ≡ true = sym (ap is_open out) ∙ o in grind arith

      by_role : (z : Role) → u.role ≡ z → i < c.seats
      by_role Seat is = (s.sections.seats_first i u at).0 is
      by_role Part is = absurd (closed ((s.sections.seats_first i u at).1 (λ h.
          let g : Part ≡ Seat = sym is ∙ h in grind arith)))
      by_role Spent is = absurd (closed ((s.sections.seats_first i u at).1 (λ h.
          let g : Spent ≡ Seat = sym is ∙ h in grind arith)))

  pub folds : (d delta : ℕ) → MayStep c j v (Fold d delta) → Whole (after_step c j v (Fold d delta))
  folds d delta ok = let k : Disk = record (disk c d) {
    shared =
        ((disk c d).shared + delta) % word_end;
  } in let b : Drain =
      base_after c.seats (drain c.editor d) in
      at_disk d k b ok.1
      (λ was. counts_fold c.seats (entries has_got c.views) s.puts (holds_on d c.views) delta
      (disk c d) (drain c.editor d) ok.2
      (let a = few_got c.given c.serial c.quotas c.editor.published c.views s.places in
      let q = holds_few d c.views in let r = s.references.puts in omega arith)
      (all_looked c.seats (drain c.editor d).looked (disk c d).own (s.modes.wide d ok.2).0
      was.long.0 ok.3 (λ o y e. (s.modes.looked d ok.2 o y e).1)) ok.4 was) (
        (λ e. absurd (let l = (s.modes.mode d).0 e in let h : phase.Killed ≡ phase.Live = sym ok.2
            ∙ l in grind arith)),
        λ e. absurd (let h : phase.Folded ≡ phase.Live = e in grind arith),
      )
      (λ i u at o m g. absurd (no_wait d delta ok i u at (open_near i u at o) g))
      (λ i u at m dead. inr refl)
      (λ e. absurd (let h : phase.Folded ≡ phase.Killed = e in
      grind arith)) (λ e. absurd (let h : phase.Folded ≡ phase.Killed = e in grind arith))
      (λ shows. absurd (let l = s.shown.last d shows in let h : phase.Killed ≡ phase.Live = sym ok.2
      ∙ l in grind arith))
      (λ i u r at reads shows g. absurd (no_wait d delta ok i u at
      (reads_near c.seats c.serial c.editor.marks c.views s.sections i u r at reads) g))

  -- ## look_zero

  -- who may load the mode of a folded disk keeps a hold on it
  folded_hold : (d : ℕ) → (drain c.editor d).phase ≡ phase.Folded → (i : ℕ) (u : View)
      → At c.views i u → MayLoad c.editor u d → 0 < holds_on d c.views
  folded_hold d folded i u at may = ⊎_elim
      (λ (m : (r : ℕ) × Reads u r × Shows c.editor r d). absurd
      (live_or (drain c.editor d) i u.word phase.Folded folded (λ e. grind arith)
      (λ e. grind arith) (s.shown.sections d i u at m.0 m.1 m.2)))
      (λ m. some_hold d c.views i u at m) may

  drains_at : (d : ℕ) → MayStep c j v (LookZero d) → (disk c d).shared ≡ 0
      → Whole (with_drain c d (record (drain c.editor d) {
        phase = phase.Drained;
        done_placed = false;
      }))
  drains_at d ok none_left = let b : Drain = record (drain c.editor d) {
    phase = phase.Drained;
    done_placed = false;
  } in
      at_drain_alone d b ok.1 (at_disk d (disk c d) b ok.1 (counts_zero c.seats
      (entries has_got c.views) s.puts (holds_on d c.views) (disk c d) (drain c.editor d) false
      ok.2 none_left) (
        (λ e. absurd (let l = (s.modes.mode d).0 e in let h : phase.Folded ≡ phase.Live = sym ok.2
            ∙ l in grind arith)),
        λ e. absurd (let h : phase.Drained ≡ phase.Live = e in grind arith),
      )
      (λ i u at o m g. absurd (live_or (drain c.editor d) i u.word phase.Folded ok.2
      (λ e. grind arith) (λ e. grind arith) g))
      (λ i u at m dead. absurd (let h = folded_hold d ok.2 i u at m in
      let f = ((s.references.counts d ok.1).folded ok.2).0 in omega arith))
      (λ e. absurd (let h : phase.Drained ≡ phase.Killed = e in
      grind arith)) (λ e. absurd (let h : phase.Drained ≡ phase.Killed = e in grind arith))
      (λ shows. absurd (let l = s.shown.last d shows in let h : phase.Folded ≡ phase.Live = sym ok.2
      ∙ l in grind arith))
      (λ i u r at reads shows g. absurd (live_or (drain c.editor d) i u.word phase.Folded ok.2
      (λ e. grind arith) (λ e. grind arith) g)))

  pub zeros : (d : ℕ) → MayStep c j v (LookZero d) → Whole (after_step c j v (LookZero d))
  zeros d ok = by_case ((disk c d).shared == 0) refl
    where
      by_case : (z : Bool) → ((disk c d).shared == 0) ≡ z
          → Whole (cond z (with_drain c d (record (drain c.editor d) {
            phase = phase.Drained;
            done_placed = false;
          })) c)
      by_case true e = drains_at d ok (eqb-true (disk c d).shared 0 e)
      by_case false e = s

  -- ## live_shared and live_mode

  no_dead : (d : ℕ) (f : Phase) → (drain c.editor d).phase ≡ f → (f ≡ phase.Killed → ⊥)
      → (f ≡ phase.Folded → ⊥) → {X : Type 0} → Dead (drain c.editor d).phase → X
  no_dead d f e a b x = absurd (dead_or (drain c.editor d).phase f e a b x)

  pub arms : (d : ℕ) → MayStep c j v (LiveShared d) → Whole (after_step c j v (LiveShared d))
  arms d ok = let b : Drain = record (drain c.editor d) { phase = phase.Armed } in
      at_disk d (record (disk c d) {
        shared =
            bias;
      }) b ok.1 (counts_arm c.seats (entries has_got c.views) s.puts (holds_on d c.views)
      (disk c d) (drain c.editor d) ok.2) (
        (λ e. absurd (let l = (s.modes.mode d).0 e in let h : phase.Drained ≡ phase.Live = sym ok.2
            ∙ l in grind arith)),
        λ e. absurd (let h : phase.Armed ≡ phase.Live = e in grind arith),
      )
      (λ i u at o m g. absurd (live_or (drain c.editor d) i u.word phase.Drained ok.2
      (λ e. grind arith) (λ e. grind arith) g))
      (λ i u at m dead. absurd (dead_or (drain c.editor d).phase phase.Drained ok.2
      (λ e. grind arith) (λ e. grind arith) dead))
      (λ e. absurd (let h : phase.Armed ≡ phase.Killed = e in
      grind arith)) (λ e. absurd (let h : phase.Armed ≡ phase.Killed = e in grind arith))
      (λ shows. absurd (ok.4 shows))
      (λ i u r at reads shows g. absurd (live_or (drain c.editor d) i u.word phase.Drained ok.2
      (λ e. grind arith) (λ e. grind arith) g))

  pub revives : (d : ℕ) → MayStep c j v (LiveMode d) → Whole (after_step c j v (LiveMode d))
  revives d ok = let b : Drain = record (drain c.editor d) { phase = phase.Live } in
      at_disk d (record (disk c d) { mode = 0 }) b ok.1 (counts_live c.seats
      (entries has_got c.views) s.puts (holds_on d c.views) (disk c d) (drain c.editor d) ok.2)
      ((λ _. refl), λ _. refl)
      (λ i u at o m g. inl refl)
      (λ i u at m dead. absurd (dead_or (drain c.editor d).phase phase.Armed ok.2 (λ e. grind arith)
      (λ e. grind arith) dead))
      (λ e. absurd (let h : phase.Live ≡ phase.Killed = e in
      grind arith)) (λ e. absurd (let h : phase.Live ≡ phase.Killed = e in grind arith))
      (λ shows. refl)
      (λ i u r at reads shows g. inl refl)

  -- ## place_done: the disk's Done is placed

  pub marks_done : (d : ℕ) → d < length c.disks
      → Whole (with_drain c d (record (drain c.editor d) { done_placed = true }))
  marks_done d near = let b : Drain = record (drain c.editor d) { done_placed = true } in
      at_drain_alone d b near
      (at_disk d (disk c d) b near (counts_drain c.seats (entries has_got c.views) s.puts
      (holds_on d c.views) (disk c d) (drain c.editor d) b refl refl) (s.modes.mode d)
      (λ i u at o m g. g) (λ i u at m dead. dead)
      (λ killed i y e. s.modes.looked d killed i y e) (λ killed. s.modes.wide d killed)
      (s.shown.last d) (λ i u r at reads shows g. g))
