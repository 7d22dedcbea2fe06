-- load_mode and add_shared keep soundness.
use Rattle.std.proofs.Common.{◌≡◌, ◌⊎◌, ◌↔◌, ℕ, zero, suc, ◌+◌, ◌<◌, ◌≤◌, ◌==◌, Bool, true, false, List, length, get_or, set, sym, refl, ap, ◌∙◌, subst, inl, inr, ⊎_elim, arith}
use Rattle.ref_state.specs.declared.kinds.Kind.TheVariants.{LoadMode, AddShared}
use Rattle.ref_state.specs.declared.state.Entry.{Entry}
use Rattle.ref_state.specs.declared.state.Hold.{Hold}
use Rattle.ref_state.specs.declared.state.Role.TheVariants.{Seat}
use Rattle.ref_state.specs.declared.state.LoadedMode.TheVariants.{NotLoaded, Killed}
use Rattle.ref_state.specs.declared.state.View.{View}
use Rattle.ref_state.specs.declared.state.Count.{Count}
use Rattle.ref_state.specs.declared.state.Phase.{Phase}
use Rattle.ref_state.specs.declared.state.Phase.TheVariants as phase
use Rattle.ref_state.specs.declared.state.Drain.{Drain}
use Rattle.ref_state.specs.declared.state.Published.{Published}
use Rattle.ref_state.specs.declared.state.Editor.{Editor}
use Rattle.ref_state.specs.declared.state.Disk.{Disk}
use Rattle.ref_state.specs.declared.state.State.{State as Core}
use Rattle.ref_state.specs.State.{At, total, kept, entries, holds, one_if, any_entry, has_got, any_hold, on_disk, holds_on, Reads, Shows, mark, IsAwaited, no_disk, disk, drain, no_count}
use Rattle.ref_state.specs.Steps.{after_step, MayStep, after_get, after_put, may_put, is_on, word_after, loaded_mode, Some_where, MayLoad}
use Rattle.ref_state.specs.Soundness.{Every, PlacesAndSerials, IsWithin, counts_own, is_biased, LoadedModeFits, ModeSnapshots}
use Rattle.ref_state.proofs.Whole.{Counts, Whole}
use Rattle.ref_state.proofs.Least.{least_there}
use Rattle.ref_state.proofs.Lists.{total_one, total_le, every_map, or_set, first_passes, without_total}
use Rattle.ref_state.proofs.PlacesKept.{places_stay}
use Rattle.ref_state.proofs.ExecutesKept.{executes_stay}
use Rattle.ref_state.proofs.SectionsKept.{sections_stay}
use Rattle.ref_state.proofs.ReferencesKept.{references_stay}
use Rattle.ref_state.proofs.ShownKept.{shown_stay, modes_move, modes_blank}
use Rattle.ref_state.proofs.SidesKept.{sides_move, turns_stay}
use Rattle.ref_state.proofs.SectionSteps.{put_disk, here_on}
use Rattle.ref_state.proofs.SectionSteps as kept_by

-- few entries got a hold
pub few_got : (n s q : ℕ) (ps : List Published) (views : List View)
    → PlacesAndSerials n s q ps views → entries has_got views < 4294967296
few_got n s q ps views p = let a = total_le (λ (u : View). total has_got (kept u))
    (λ (u : View). total any_entry (kept u)) (λ u. total_le has_got any_entry one (kept u)) views in
    let b = p.all in let c = p.left in let d = p.small in omega arith
  where
    at_most : (b : Bool) → one_if b ≤ 1
    at_most true = omega arith
    at_most false = omega arith

    one : (e : Entry) → has_got e ≤ 1
    one e = at_most e.got

-- no more holds stand on a disk than in all
pub holds_few : (d : ℕ) (views : List View) → holds_on d views ≤ holds any_hold views
holds_few d views = total_le (λ (u : View). total (on_disk d) u.holds)
    (λ (u : View). total any_hold u.holds) (λ u. total_le (on_disk d) any_hold one u.holds) views
  where
    at_most : (b : Bool) → one_if b ≤ 1
    at_most true = omega arith
    at_most false = omega arith

    one : (h : Hold) → on_disk d h ≤ 1
    one h = at_most (h.disk == d)

abbrev pub Dead : Phase → Type 0
Dead f = (f ≡ phase.Killed) ⊎ (f ≡ phase.Folded)

no_armed : (f : Phase) → Dead f → f ≡ phase.Armed → ⊥
no_armed f u e = grind arith

no_biased : (f : Phase) → Dead f → is_biased f ≡ true → ⊥
no_biased f u e = ⊎_elim (λ (t : f ≡ phase.Killed). let h : false ≡ true = sym (ap is_biased t)
    ∙ e in grind arith) (λ (t : f ≡ phase.Folded). let h : false ≡ true = sym (ap is_biased t)
    ∙ e in grind arith) u

no_drained : (f : Phase) → Dead f → f ≡ phase.Drained → ⊥
no_drained f u e = grind arith

folded_counts : (f : Phase) → f ≡ phase.Folded → counts_own f ≡ true → ⊥
folded_counts f e h = let g : false ≡ true = sym (ap counts_own e) ∙ h in grind arith

more_lies : (p g p' g' : ℕ) → p ≤ p' → g ≤ g' → (x : Count) → IsWithin p g x → IsWithin p' g' x
more_lies p g p' g' a b x h = let l = h.0 in let m = h.1 in (omega arith, omega arith)

lists_lie : (p g p' g' : ℕ) (k : Disk) (b : Drain) → p ≤ p' → g ≤ g' → Every (IsWithin p g) k.own
    × Every (IsWithin p g) b.bases → Every (IsWithin p' g') k.own × Every (IsWithin p' g') b.bases
lists_lie p g p' g' k b x y h = (
  every_map (more_lies p g p' g' x y) k.own h.0,
  every_map (more_lies p g p' g' x y) b.bases h.1,
)

-- the shared count goes up
shared_up : (n g p on : ℕ) (k : Disk) (b : Drain) → Dead b.phase → g < 4294967296 → on ≤ g
    → Counts n g p on k b → Counts n (g + 1) p (on + 1) (record k {
      shared =
          word_after true k.shared;
    }) b
shared_up n g p on k b dead few less c = record {
  long = c.long;
  balance = λ e. ⊎_elim (λ (t : b.phase ≡ phase.Killed). let h = c.killed t in let u = h.0 in
      let l = h.1 in let bal = c.balance e in omega arith) (λ (t : b.phase
      ≡ phase.Folded). absurd (folded_counts b.phase t e)) dead;
  armed = λ e. absurd (no_armed b.phase dead e);
  biased = λ e. absurd (no_biased b.phase dead e);
  killed = λ e. let h = c.killed e in let u = h.0 in let l = h.1 in (omega arith, omega arith);
  lies = lists_lie p g p (g + 1) k b (omega arith) (omega arith) c.lies;
  folded = λ e. let h = c.folded e in let u = h.0 in (omega arith, h.1);
  drained = λ e. absurd (no_drained b.phase dead e);
}

-- the shared count goes down
shared_down : (n g p on : ℕ) (k : Disk) (b : Drain) → Dead b.phase → g < 4294967296 → on + 1 ≤ g
    → p ≤ g → Counts n g p (on + 1) k b → Counts n g (p + 1) on (record k {
      shared =
          word_after false k.shared;
    }) b
shared_down n g p on k b dead few less puts c = record {
  long = c.long;
  balance = λ e. ⊎_elim (λ (t : b.phase ≡ phase.Killed). let h = c.killed t in let u = h.0 in
      let l = h.1 in let bal = c.balance e in omega arith) (λ (t : b.phase
      ≡ phase.Folded). absurd (folded_counts b.phase t e)) dead;
  armed = λ e. absurd (no_armed b.phase dead e);
  biased = λ e. absurd (no_biased b.phase dead e);
  killed = λ e. let h = c.killed e in let u = h.0 in let l = h.1 in (omega arith, omega arith);
  lies = lists_lie p g (p + 1) g k b (omega arith) (omega arith) c.lies;
  folded = λ e. let h = c.folded e in let u = h.0 in (omega arith, h.1);
  drained = λ e. absurd (no_drained b.phase dead e);
}

-- the disk d has other words, its mode and own counters as they were
pub modes_disk : (n : ℕ) (disks : List Disk) (k : Editor) (views : List View) (d : ℕ) (x : Disk)
    → x.mode ≡ (get_or disks d no_disk).mode → x.own ≡ (get_or disks d no_disk).own
    → ModeSnapshots n disks k views → ModeSnapshots n (set disks d x) k views
modes_disk n disks k views d x mode own m = record {
  mode = λ e. subst (λ (z : ℕ). (z ≡ 0) ↔ ((drain k e).phase
      ≡ phase.Live)) (sym (same e).0) (m.mode e);
  loaded = m.loaded;
  looked = λ e killed o y at. let h = m.looked e killed o y at in
      (h.0, ap (λ (l : List Count). get_or l o no_count) (same e).1 ∙ h.1);
  wide = m.wide;
}
  where
    same : (e : ℕ) → ((get_or (set disks d x) e no_disk).mode ≡ (get_or disks e no_disk).mode)
        × ((get_or (set disks d x) e no_disk).own ≡ (get_or disks e no_disk).own)
    same e = ⊎_elim (λ (t : get_or (set disks d x) e no_disk
        ≡ get_or disks e no_disk). (ap (λ (z : Disk). z.mode) t, ap (λ (z : Disk). z.own) t))
        (λ (t : (e ≡ d) × (get_or (set disks d x) e no_disk ≡ x)). (
          ap (λ (z : Disk). z.mode) t.1 ∙ (mode
              ∙ ap (λ (i : ℕ). (get_or disks i no_disk).mode) (sym t.0)),
          ap (λ (z : Disk). z.own) t.1
              ∙ (own ∙ ap (λ (i : ℕ). (get_or disks i no_disk).own) (sym t.0)),
        ))
        (or_set disks d e x no_disk)

-- a seat that keeps a hold on a disk is one of its holders
pub some_hold : (d : ℕ) (views : List View) (j : ℕ) (v : View) → At views j v
    → Some_where (is_on d) v.holds → 0 < holds_on d views
some_hold d views j v at m = let a = total_one (λ (u : View). total (on_disk d) u.holds) views j v
    at in let b = without_total (is_on d) (on_disk d) v.holds m.0 m.1 in
    let z : on_disk d m.0 ≡ 1 = ap one_if (first_passes (is_on d) v.holds m.0 m.1) in omega arith

module _ (c : Core) (j : ℕ) (v : View) (sits : At c.views j v) (seat : v.role
    ≡ Seat) (s : Whole c) where
  -- ## load_mode

  -- what may load the mode of a disk knows that it is live, killed or folded
  pub may_phase : (d : ℕ) → d < length c.disks → MayLoad c.editor v d
      → ((drain c.editor d).phase ≡ phase.Live) ⊎ Dead (drain c.editor d).phase
  may_phase d near may = ⊎_elim
      (λ (m : (r : ℕ) × Reads v r × Shows c.editor r d). ⊎_elim (λ (t : (drain c.editor d).phase
      ≡ phase.Live). inl t) (λ (t : ((drain c.editor d).phase ≡ phase.Killed)
      × IsAwaited (mark (drain c.editor d).marks j) v.word). inr (inl t.0))
      (s.shown.sections d j v sits m.0 m.1 m.2))
      (λ m. by_phase (drain c.editor d).phase refl (some_hold d c.views j v sits m))
      may
    where
      by_phase : (f : Phase) → (drain c.editor d).phase ≡ f → 0 < holds_on d c.views
          → ((drain c.editor d).phase ≡ phase.Live) ⊎ Dead (drain c.editor d).phase
      by_phase phase.Live e h = inl e
      by_phase phase.Killed e h = inr (inl e)
      by_phase phase.Folded e h = inr (inr e)
      by_phase phase.Drained e h = let z = ((s.references.counts d near).drained e).1 in
          absurd (omega arith)
      by_phase phase.Armed e h = let z = (s.references.counts d near).armed e in
          absurd (omega arith)

  -- a live disk is fit for every seat that may load its mode
  loads_fit : (d : ℕ) → MayStep c j v (LoadMode d) → (m : ℕ) → (disk c d).mode ≡ m
      → LoadedModeFits c.editor j (record v {
        loaded =
            loaded_mode d (disk c d).mode;
      }) (loaded_mode d m)
  loads_fit d ok zero e = (ok.1, ok.2, inl ((s.modes.mode d).0 e))
  loads_fit d ok (suc m) e = (
    ok.1,
    ok.2,
    ⊎_elim (λ (t : (drain c.editor d).phase ≡ phase.Live).
        let z = (s.modes.mode d).1 t in absurd (omega arith)) (λ t. t) (may_phase d ok.0 ok.2),
  )

  pub loads : (d : ℕ) → MayStep c j v (LoadMode d) → Whole (after_step c j v (LoadMode d))
  loads d ok = let w : View = record v { loaded = loaded_mode d (disk c d).mode } in record {
    puts = s.puts;
    places = places_stay c.given c.serial c.quotas c.editor.published c.views j v w sits s.places
        refl refl refl (s.places.known j v sits).1;
    sides = sides_move c.seats c.rows c.serial c.sides c.editor c.views s.sides j v w sits
        (λ r e. inr e);
    sections = sections_stay c.seats c.serial c.editor.marks c.views j v w sits s.sections seat seat
        refl refl refl;
    references = references_stay c.seats c.disks c.editor.drains c.views s.puts j v w sits
        s.references refl refl;
    modes = modes_move c.seats c.serial c.disks c.editor c.views j v w sits s.modes
        (loads_fit d ok (disk c d).mode refl);
    shown = shown_stay c.seats c.serial c.disks c.editor c.views j v w sits s.shown refl refl;
    turns = turns_stay c.seats c.turns c.views j v w sits refl refl s.turns;
    executes = executes_stay c.views j v w sits s.executes refl refl;
  }

  -- ## add_shared

  few : entries has_got c.views < 4294967296
  few = few_got c.given c.serial c.quotas c.editor.published c.views s.places

  dead : (d : ℕ) → v.loaded ≡ Killed d → Dead (drain c.editor d).phase
  dead d is = let f : LoadedModeFits c.editor j v (Killed d) =
      subst (LoadedModeFits c.editor j v) is (s.modes.loaded j v sits) in f.2

  shared_modes : (d x : ℕ) (w : View) → w.loaded ≡ NotLoaded
      → ModeSnapshots c.seats (set c.disks d (record (disk c d) {
        shared =
            x;
      })) c.editor (set c.views j w)
  shared_modes d x w blank = modes_disk c.seats c.disks c.editor (set c.views j w) d
      (record (disk c d) { shared = x }) refl refl (modes_blank c.seats c.serial c.disks c.editor
      c.views j v w sits s.modes blank)

  pub ups_shared : (d : ℕ) → MayStep c j v (AddShared d true)
      → Whole (after_step c j v (AddShared d true))
  ups_shared d ok = let a = holds_few d c.views in let b = s.references.puts in
      kept_by.ups c j v sits seat s d (record (disk c d) {
        shared =
            word_after true (disk c d).shared;
      }) ok.1.1
      (shared_up c.seats (entries has_got c.views) s.puts (holds_on d c.views) (disk c d)
      (drain c.editor d) (dead d ok.0) few (omega arith))
      (shared_modes d (word_after true (disk c d).shared) (after_get d v) refl)

  pub downs_shared : (d : ℕ) → MayStep c j v (AddShared d false)
      → Whole (after_step c j v (AddShared d false))
  downs_shared d ok = let a = holds_few d c.views in let b = s.references.puts in
      kept_by.downs c j v sits seat s d (record (disk c d) {
        shared =
            word_after false (disk c d).shared;
      }) (least_there (may_put d) v.holds ok.1)
      (λ on is. shared_down c.seats (entries has_got c.views) s.puts on (disk c d)
      (drain c.editor d) (dead d ok.0) few (omega arith) (omega arith))
      (shared_modes d (word_after false (disk c d).shared) (after_put d v) refl)
