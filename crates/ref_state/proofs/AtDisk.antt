-- The kinds of the editor on a disk's reference keep soundness.
use Rattle.std.proofs.Common.{◌≡◌, ◌≢◌, ◌↔◌, ℕ, ◌<◌, true, List, length, get_or, set, sym, ap, ◌∙◌, subst, arith, Some, None, length-set, get_or-set_same, get_or-set_other}
use Rattle.ref_state.specs.declared.state.LoadedMode.{LoadedMode}
use Rattle.ref_state.specs.declared.state.LoadedMode.TheVariants.{NotLoaded, Live, Killed}
use Rattle.ref_state.specs.declared.state.View.{View}
use Rattle.ref_state.specs.declared.state.Count.{Count}
use Rattle.ref_state.specs.declared.state.Phase.TheVariants as phase
use Rattle.ref_state.specs.declared.state.Drain.{Drain}
use Rattle.ref_state.specs.declared.state.Editor.{Editor}
use Rattle.ref_state.specs.declared.state.Disk.{Disk}
use Rattle.ref_state.specs.State.{At, entries, has_got, holds_on, is_open, Reads, Shows, AllPassed, IsLiveOrAwaited, looked, no_disk, no_drain, drain, no_count}
use Rattle.ref_state.specs.Steps.{MayLoad}
use Rattle.ref_state.specs.Soundness.{LoadedModeFits, ModeSnapshots, ShownIsLive}
use Rattle.ref_state.proofs.Whole.{Counts, References}
use mathlib.Core.Logic.{dite}
use native.Mathlib.Decide.{ℕ_discrete}
use Rattle.ref_state.proofs.ReferenceSteps.{Dead}

-- ## What changes at the disk d alone

module _ {A : Type 0} (P : ℕ → A → Type 0) (l : List A) (d : ℕ) (a z : A) where
  -- each has what it had, and that at d what it has now
  at_one : d < length l → P d a → ((e : ℕ) → e ≢ d → P e (get_or l e z)) → (e : ℕ)
      → P e (get_or (set l d a) e z)
  at_one near mine others e = dite (ℕ_discrete e d)
      (λ t. subst (λ i. P i (get_or (set l d a) i z)) (sym t)
      (subst (P d) (sym (get_or-set_same l d a z near)) mine))
      (λ f. subst (P e) (sym (get_or-set_other l d e a z f)) (others e f))

module _ (n s : ℕ) (disks : List Disk) (k : Editor) (views : List View) (d : ℕ) (x : Disk)
    (b : Drain) (near : d < length disks) (as_many : length k.drains ≡ length disks) where
  abbrev k' : Editor
  k' = record k { drains = set k.drains d b }

  near' : d < length k.drains
  near' = omega arith

  pub references_at : (p : ℕ) → (Counts n (entries has_got views) p (holds_on d views)
      (get_or disks d no_disk) (drain k d) → Counts n (entries has_got views) p (holds_on d views) x
      b)
      → References n disks k.drains views p → References n (set disks d x) (set k.drains d b) views
      p
  references_at p mine r = record {
    puts = r.puts;
    as_many = length-set k.drains d b ∙ (as_many ∙ sym (length-set disks d x));
    counts = λ e inside. let inside' : e < length disks =
        subst (λ (z : ℕ). e < z) (length-set disks d x) inside in dite (ℕ_discrete e d)
        (λ t. subst (λ i. Counts n (entries has_got views) p (holds_on i views)
        (get_or (set disks d x) i no_disk) (get_or (set k.drains d b) i no_drain)) (sym t)
        (subst (λ (z : Disk × Drain). Counts n (entries has_got views) p (holds_on d views) z.0 z.1)
        (λ i. (
          sym (get_or-set_same disks d x no_disk near) i,
          sym (get_or-set_same k.drains d b no_drain near') i,
        )) (mine (r.counts d near))))
        (λ f. subst (λ (z : Disk × Drain). Counts n (entries has_got views) p (holds_on e views) z.0
        z.1) (λ i. (
          sym (get_or-set_other disks d e x no_disk f) i,
          sym (get_or-set_other k.drains d e b no_drain f) i,
        )) (r.counts e inside'));
  }

  -- the drain of the disk i, which the loaded modes of it fit
  guards_at : (j w i : ℕ) → (i ≡ d → IsLiveOrAwaited (drain k i) j w → IsLiveOrAwaited b j w)
      → IsLiveOrAwaited (drain k i) j w → IsLiveOrAwaited (drain k' i) j w
  guards_at j w i mine g = dite (ℕ_discrete i d)
      (λ t. subst (λ (z : Drain). IsLiveOrAwaited z j w) (sym (ap (λ e. drain k' e) t
      ∙ get_or-set_same k.drains d b no_drain near')) (mine t g))
      (λ f. subst (λ (z : Drain). IsLiveOrAwaited z j w) (sym
      (get_or-set_other k.drains d i b no_drain f)) g)

  dead_at : (i : ℕ) → (i ≡ d → Dead (drain k i).phase → Dead b.phase) → Dead (drain k i).phase
      → Dead (drain k' i).phase
  dead_at i mine g = dite (ℕ_discrete i d)
      (λ t. subst (λ (z : Drain). Dead z.phase) (sym (ap (λ e. drain k' e) t
      ∙ get_or-set_same k.drains d b no_drain near')) (mine t g))
      (λ f. subst (λ (z : Drain). Dead z.phase) (sym (get_or-set_other k.drains d i b no_drain f))
      g)

  loaded_at : (j : ℕ) (v : View) (h : LoadedMode) → (is_open v.section ≡ true → MayLoad k v d
      → IsLiveOrAwaited (drain k d) j v.word → IsLiveOrAwaited b j v.word)
      → (MayLoad k v d → Dead (drain k d).phase → Dead b.phase)
      → LoadedModeFits k j v h → LoadedModeFits k' j v h
  loaded_at j v NotLoaded live dead f = tt
  loaded_at j v (Live i) live dead f = (
    f.0,
    f.1,
    guards_at j v.word i (λ t g. live f.0 (subst (MayLoad k v) t f.1)
        (subst (λ e. IsLiveOrAwaited (drain k e) j v.word) t g)) f.2,
  )
  loaded_at j v (Killed i) live dead f = (
    f.0,
    f.1,
    dead_at i (λ t g. dead (subst (MayLoad k v) t f.1)
        (subst (λ e. Dead (drain k e).phase) t g)) f.2,
  )

  pub modes_at : ((x.mode ≡ 0) ↔ (b.phase ≡ phase.Live))
      → ((j : ℕ) (v : View) → At views j v → is_open v.section ≡ true → MayLoad k v d
      → IsLiveOrAwaited (drain k d) j v.word → IsLiveOrAwaited b j v.word)
      → ((j : ℕ) (v : View) → At views j v → MayLoad k v d → Dead (drain k d).phase → Dead b.phase)
      → (b.phase ≡ phase.Killed → (o : ℕ) (y : Count) → get_or b.looked o None ≡ Some y
      → AllPassed n b.marks × (get_or x.own o no_count ≡ y))
      → (b.phase ≡ phase.Killed → (length b.looked ≡ n) × (length b.marks ≡ n))
      → ModeSnapshots n disks k views → ModeSnapshots n (set disks d x) k' views
  modes_at mode live dead looked wide m = record {
    mode = λ e. dite (ℕ_discrete e d)
        (λ t. subst (λ i. ((get_or (set disks d x) i no_disk).mode ≡ 0) ↔
        ((drain k' i).phase ≡ phase.Live)) (sym t)
        (subst (λ (z : Disk × Drain). (z.0.mode ≡ 0) ↔ (z.1.phase
        ≡ phase.Live)) (λ i. (
          sym (get_or-set_same disks d x no_disk near) i,
          sym (get_or-set_same k.drains d b no_drain near') i,
        )) mode))
        (λ f. subst (λ (z : Disk × Drain). (z.0.mode ≡ 0) ↔ (z.1.phase
        ≡ phase.Live)) (λ i. (
          sym (get_or-set_other disks d e x no_disk f) i,
          sym (get_or-set_other k.drains d e b no_drain f) i,
        )) (m.mode e));
    loaded = λ j v at. loaded_at j v v.loaded (live j v at) (dead j v at) (m.loaded j v at);
    looked = λ e. dite (ℕ_discrete e d)
        (λ t. subst (λ i. Looked i (get_or (set disks d x) i no_disk) (drain k' i)) (sym t)
        (subst (λ (z : Disk × Drain). Looked d z.0 z.1) (λ i. (
          sym (get_or-set_same disks d x no_disk near) i,
          sym (get_or-set_same k.drains d b no_drain near') i,
        )) looked))
        (λ f. subst (λ (z : Disk × Drain). Looked e z.0 z.1)
        (λ i. (
          sym (get_or-set_other disks d e x no_disk f) i,
          sym (get_or-set_other k.drains d e b no_drain f) i,
        )) (m.looked e));
    wide = at_one (λ _ y. y.phase ≡ phase.Killed → (length y.looked ≡ n)
        × (length y.marks ≡ n)) k.drains d b no_drain near' wide (λ e _. m.wide e);
  }
    where
      Looked : ℕ → Disk → Drain → Type 0
      Looked i y z = z.phase ≡ phase.Killed → (o : ℕ) (q : Count) → get_or z.looked o None ≡ Some q
          → AllPassed n z.marks × (get_or y.own o no_count ≡ q)

  pub shown_at : (Shows k s d → b.phase ≡ phase.Live) → ((j : ℕ) (v : View) (r : ℕ) → At views j v
      → Reads v r → Shows k r d → IsLiveOrAwaited (drain k d) j v.word → IsLiveOrAwaited b j v.word)
      → ShownIsLive s k views → ShownIsLive s k' views
  shown_at last sections h = record {
    last = at_one (λ e y. Shows k s e → y.phase
        ≡ phase.Live) k.drains d b no_drain near' last (λ e _. h.last e);
    sections = λ e j v at r reads shows. guards_at j v.word e
        (λ t g. sections j v r at reads (subst (Shows k r) t shows)
        (subst (λ i. IsLiveOrAwaited (drain k i) j v.word) t g))
        (h.sections e j v at r reads shows);
  }
