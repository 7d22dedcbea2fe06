-- Loaded modes and shown disks are kept where one seat's view changes, and where a section is
-- looked at.
use Rattle.std.proofs.Common.{◌≡◌, ◌≢◌, ◌⊎◌, ℕ, zero, suc, ◌+◌, ◌<◌, Bool, true, false, List, [], ◌∷◌, map, length, get_or, set, sym, refl, ap, ◌∙◌, subst, inl, inr, ⊎_elim, arith, Option, Some, None}
use Rattle.ref_state.specs.declared.state.LoadedMode.{LoadedMode}
use Rattle.ref_state.specs.declared.state.LoadedMode.TheVariants.{NotLoaded, Live, Killed}
use Rattle.ref_state.specs.declared.state.View.{View}
use Rattle.ref_state.specs.declared.state.Mark.{Mark}
use Rattle.ref_state.specs.declared.state.Mark.TheVariants.{Unseen}
use Rattle.ref_state.specs.declared.state.Phase.{Phase}
use Rattle.ref_state.specs.declared.state.Phase.TheVariants as phase
use Rattle.ref_state.specs.declared.state.Drain.{Drain}
use Rattle.ref_state.specs.declared.state.Editor.{Editor}
use Rattle.ref_state.specs.declared.state.Disk.{Disk}
use Rattle.ref_state.specs.declared.state.Count.{Count}
use Rattle.ref_state.specs.State.{At, is_odd, is_open, read, Reads, Shows, mark, IsAwaited, AllPassed, IsLiveOrAwaited, drain, no_drain, is_killed, looked, view, no_view}
use Rattle.ref_state.specs.Steps.{MayLoad, at_mark, at_drain, looked_at}
use Rattle.ref_state.specs.Soundness.{Each, LoadedModeFits, ModeSnapshots, ShownIsLive}
use Rattle.ref_state.proofs.Lists.{each_set, or_set, or_at}
use Rattle.ref_state.proofs.SectionsKept.{waits_at, reads_open}

module _ (n s : ℕ) (disks : List Disk) (k : Editor) (views : List View) (j : ℕ) (v w : View)
    (sits : At views j v) where
  pub shown_move : ShownIsLive s k views → ((d r : ℕ) → Reads w r → Shows k r d
      → IsLiveOrAwaited (drain k d) j w.word) → ShownIsLive s k (set views j w)
  shown_move x mine = record {
    last = x.last;
    sections = λ d. each_set (λ i u. (r : ℕ) → Reads u r
        → Shows k r d → IsLiveOrAwaited (drain k d) i u.word) views j w (x.sections d) (mine d);
  }

  -- the section reads what it read
  pub shown_stay : ShownIsLive s k views → w.word ≡ v.word → read w.section ≡ read v.section
      → ShownIsLive s k (set views j w)
  shown_stay x word reads = shown_move x (λ d r e shows. subst (IsLiveOrAwaited (drain k d) j)
      (sym word) (x.sections d j v sits r (sym reads ∙ e) shows))

  -- the section reads nothing
  pub shown_blank : ShownIsLive s k views → read w.section ≡ None → ShownIsLive s k (set views j w)
  shown_blank x reads = shown_move x (λ d r e shows. absurd (let h : None ≡ Some r = sym reads
      ∙ e in grind arith))

  pub modes_move : ModeSnapshots n disks k views → LoadedModeFits k j w w.loaded
      → ModeSnapshots n disks k (set views j w)
  modes_move x mine = record {
    mode = x.mode;
    loaded = each_set (λ i u. LoadedModeFits k i u u.loaded) views j w x.loaded mine;
    looked = x.looked;
    wide = x.wide;
  }

  pub modes_blank : ModeSnapshots n disks k views → w.loaded ≡ NotLoaded
      → ModeSnapshots n disks k (set views j w)
  modes_blank x blank = modes_move x (subst (LoadedModeFits k j w) (sym blank) tt)

-- no mode is loaded in a closed section
pub loaded_closed : (k : Editor) (j : ℕ) (v : View) (h : LoadedMode) → LoadedModeFits k j v h
    → is_open v.section ≡ false → h ≡ NotLoaded
loaded_closed k j v NotLoaded f c = refl
loaded_closed k j v (Live d) f c = absurd (let a = f.0 in grind arith)
loaded_closed k j v (Killed d) f c = absurd (let a = f.0 in grind arith)

-- what is said of a loaded mode stays where a view keeps its word, its holds and what it reads
pub loaded_stays : (k : Editor) (j : ℕ) (v w : View) (h : LoadedMode) → w.word ≡ v.word
    → is_open w.section ≡ is_open v.section → ((d : ℕ) → MayLoad k v d → MayLoad k w d)
    → LoadedModeFits k j v h → LoadedModeFits k j w h
loaded_stays k j v w NotLoaded word opens may f = tt
loaded_stays k j v w (Live d) word opens may f = (
  opens ∙ f.0,
  may d f.1,
  subst (IsLiveOrAwaited (drain k d) j) (sym word) f.2,
)
loaded_stays k j v w (Killed d) word opens may f = (opens ∙ f.0, may d f.1, f.2)

-- ## A look at a section word

-- each drain is as it was, or killed and with that look
pub drain_looked : (o w : ℕ) (bs : List Drain) (d : ℕ) → get_or (map (at_drain o w) bs) d no_drain
    ≡ at_drain o w (get_or bs d no_drain)
drain_looked o w [] d = refl
drain_looked o w (b ∷ bs) zero = refl
drain_looked o w (b ∷ bs) (suc d) = drain_looked o w bs d

pub phase_looked : (o w : ℕ) (b : Drain) → (at_drain o w b).phase ≡ b.phase
phase_looked o w b = elim (is_killed b.phase) as (λ z. (Rattle.std.proofs.Common.cond z
    (record b { marks = at_mark o w b.marks }) b).phase ≡ b.phase) [ true ↦ refl | false ↦ refl ]

-- a seat that a disk guards is guarded after a look
pub guards_looked : (b : Drain) (o w j word : ℕ) → (j ≡ o → w ≡ word) → is_odd word ≡ true
    → IsLiveOrAwaited b j word → IsLiveOrAwaited (at_drain o w b) j word
guards_looked b o w j word same odd g = ⊎_elim
    (λ (e : b.phase ≡ phase.Live). inl (phase_looked o w b ∙ e))
    (λ (t : (b.phase ≡ phase.Killed) × IsAwaited (mark b.marks j) word).
    let kept : at_drain o w b ≡ record b { marks = at_mark o w b.marks } =
    rw (ap is_killed t.0) refl in
    inr (
      phase_looked o w b ∙ t.0,
      subst (λ (z : Drain). IsAwaited (mark z.marks j) word) (sym kept)
          (waits_at b.marks o w j word same odd t.1),
    ))
    g

pub marks_passed : (n o w : ℕ) (ms : List Mark) → AllPassed n ms → AllPassed n (at_mark o w ms)
marks_passed n o w ms all j near = ⊎_elim (λ (e : mark (at_mark o w ms) j ≡ mark ms j). e
    ∙ all j near)
    (λ (t : (j ≡ o) × (mark (at_mark o w ms) j ≡ looked (mark ms o) w)). t.1
    ∙ ap (λ m. looked m w) (ap (λ i. mark ms i) (sym t.0) ∙ all j near))
    (or_set ms o j (looked (mark ms o) w) Unseen)

pub all_passed_looked : (n o w : ℕ) (b : Drain) → AllPassed n b.marks
    → AllPassed n (at_drain o w b).marks
all_passed_looked n o w b all = passed (is_killed b.phase)
  where
    passed : (z : Bool) → AllPassed n (Rattle.std.proofs.Common.cond z (record b {
      marks =
          at_mark o w b.marks;
    }) b).marks
    passed true = marks_passed n o w b.marks all
    passed false = all

module _ (n s : ℕ) (disks : List Disk) (k : Editor) (views : List View) (o : ℕ) where
  abbrev w : ℕ
  w = (view views o).word

  word_of_seat : (j : ℕ) (u : View) → At views j u → j ≡ o → w ≡ u.word
  word_of_seat j u at same = ap (λ (z : View). z.word) (ap (λ i. view views i) (sym same)
      ∙ or_at views j u no_view at)

  guarded : (d j : ℕ) (u : View) → At views j u → is_odd u.word ≡ true
      → IsLiveOrAwaited (drain k d) j u.word → IsLiveOrAwaited (drain (looked_at o w k) d) j u.word
  guarded d j u at odd g = subst (λ (b : Drain). IsLiveOrAwaited b j u.word)
      (sym (drain_looked o w k.drains d)) (guards_looked (drain k d) o w j u.word
      (word_of_seat j u at) odd g)

  phase_kept : (d : ℕ) → (drain (looked_at o w k) d).phase ≡ (drain k d).phase
  phase_kept d = ap (λ (b : Drain). b.phase) (drain_looked o w k.drains d)
      ∙ phase_looked o w (drain k d)

  pub shown_look : Each views (λ _ u. is_odd u.word ≡ is_open u.section) → ShownIsLive s k views
      → ShownIsLive s (looked_at o w k) views
  shown_look odd x = record {
    last = λ d shows. phase_kept d ∙ x.last d shows;
    sections = λ d j u at r e shows. guarded d j u at (odd j u at
        ∙ reads_open u.section r e) (x.sections d j u at r e shows);
  }

  fits : (j : ℕ) (u : View) (h : LoadedMode) → At views j u → is_odd u.word ≡ is_open u.section
      → LoadedModeFits k j u h → LoadedModeFits (looked_at o w k) j u h
  fits j u NotLoaded at odd f = tt
  fits j u (Live d) at odd f = (f.0, f.1, guarded d j u at (odd ∙ f.0) f.2)
  fits j u (Killed d) at odd f = (
    f.0,
    f.1,
    subst (λ (p : Phase). (p ≡ phase.Killed)
        ⊎ (p ≡ phase.Folded)) (sym (phase_kept d)) f.2,
  )

  looked_kept : (d : ℕ) → (drain (looked_at o w k) d).looked ≡ (drain k d).looked
  looked_kept d = ap (λ (b : Drain). b.looked) (drain_looked o w k.drains d)
      ∙ same (is_killed (drain k d).phase)
    where
      same : (z : Bool) → (Rattle.std.proofs.Common.cond z (record (drain k d) {
        marks =
            at_mark o w (drain k d).marks;
      }) (drain k d)).looked ≡ (drain k d).looked
      same true = refl
      same false = refl

  marks_kept : (d : ℕ) → length (drain (looked_at o w k) d).marks ≡ length (drain k d).marks
  marks_kept d = ap (λ (b : Drain). length b.marks) (drain_looked o w k.drains d)
      ∙ as_long (is_killed (drain k d).phase)
    where
      as_long : (z : Bool) → length (Rattle.std.proofs.Common.cond z (record (drain k d) {
        marks =
            at_mark o w (drain k d).marks;
      }) (drain k d)).marks ≡ length (drain k d).marks
      as_long true = Rattle.std.proofs.Common.length-set (drain k d).marks o
          (looked (mark (drain k d).marks o) w)
      as_long false = refl

  pub modes_look : Each views (λ _ u. is_odd u.word ≡ is_open u.section)
      → ModeSnapshots n disks k views → ModeSnapshots n disks (looked_at o w k) views
  modes_look odd x = record {
    mode = λ d. ((λ e. phase_kept d ∙ (x.mode d).0 e), λ e. (x.mode d).1 (sym (phase_kept d) ∙ e));
    loaded = λ j u at. fits j u u.loaded at (odd j u at) (x.loaded j u at);
    looked = λ d killed i c e. let h = x.looked d (sym (phase_kept d)
        ∙ killed) i c (sym (ap (λ (l : List (Option Count)). get_or l i None) (looked_kept d))
        ∙ e) in (
          subst (λ (b : Drain). AllPassed n b.marks) (sym (drain_looked o w k.drains d))
              (all_passed_looked n o w (drain k d) h.0),
          h.1,
        );
    wide = λ d killed. let h = x.wide d (sym (phase_kept d) ∙ killed) in
        (ap length (looked_kept d) ∙ h.0, marks_kept d ∙ h.1);
  }
