-- store_row and publish keep soundness.
use Rattle.std.proofs.Common.{◌≡◌, ◌≢◌, ◌⊎◌, ℕ, zero, suc, ◌+◌, ◌-◌, ◌%◌, ◌<◌, ◌≤◌, List, [], ◌∷◌, ◌++◌, length, get_or, set, replicate, sym, refl, ap, ◌∙◌, subst, inl, inr, ⊎_elim, arith, Some, None, length-set, length-append, get_or-set_same, get_or-set_other}
use lib.ListN.{length-replicate}
use Rattle.ref_state.specs.declared.kinds.Tag.{Tag}
use Rattle.ref_state.specs.declared.kinds.Kind.TheVariants.{StoreRow, Publish}
use Rattle.ref_state.specs.declared.state.By.TheVariants as by
use Rattle.ref_state.specs.declared.state.Entry.{Entry}
use Rattle.ref_state.specs.declared.state.Section.TheVariants.{Out}
use Rattle.ref_state.specs.declared.state.Role.{Role}
use Rattle.ref_state.specs.declared.state.Role.TheVariants.{Seat, Part, Spent}
use Rattle.ref_state.specs.declared.state.LoadedMode.{LoadedMode}
use Rattle.ref_state.specs.declared.state.LoadedMode.TheVariants.{NotLoaded, Live, Killed}
use Rattle.ref_state.specs.declared.state.View.{View}
use Rattle.ref_state.specs.declared.state.Mark.{Mark}
use Rattle.ref_state.specs.declared.state.Mark.TheVariants.{Unseen}
use Rattle.ref_state.specs.declared.state.Phase.TheVariants as phase
use Rattle.ref_state.specs.declared.state.Drain.{Drain}
use Rattle.ref_state.specs.declared.state.Editor.{Editor}
use Rattle.ref_state.specs.declared.state.State.{State as Core}
use Rattle.ref_state.specs.State.{At, total, kept, has_got, is_odd, is_open, read, Reads, Shows, conf, side, mark, IsAwaited, IsLiveOrAwaited, AllPassed, overlaid, drain, no_drain}
use Rattle.ref_state.specs.Steps.{after_step, MayStep, new_entry, after_finish, MayLoad, Some_where, is_on}
use Rattle.ref_state.specs.Soundness.{SidesAgree, GracePeriod, LoadedModeFits}
use Rattle.ref_state.proofs.Whole.{Whole}
use Rattle.ref_state.proofs.Lists.{each_set}
use Rattle.ref_state.proofs.PlacesKept.{adds_finished, places_publish}
use Rattle.ref_state.proofs.ExecutesKept.{executes_plain}
use Rattle.ref_state.proofs.ReferencesKept.{references_stay}
use Rattle.ref_state.proofs.SidesKept.{turns_stay}

-- a fresh mark doesn't hold a seat back
pub fresh_waits : (n j w : ℕ) → IsAwaited (mark (replicate n Unseen) j) w
fresh_waits zero j w = tt
fresh_waits (suc n) zero w = tt
fresh_waits (suc n) (suc j) w = fresh_waits n j w

-- only a seat reads
pub reads_near : (n s : ℕ) (ms : List Mark) (views : List View) → GracePeriod n s ms views
    → (j : ℕ) (v : View) (r : ℕ) → At views j v → Reads v r → j < n
reads_near n s ms views x j v r at e = by_role v.role refl
  where
    by_role : (z : Role) → v.role ≡ z → j < n
    by_role Seat is = (x.seats_first j v at).0 is
    by_role Part is = absurd (let out = (x.seats_first j v at).1 (λ h. let g : Part ≡ Seat = sym is
        ∙ h in grind arith) in let h : None ≡ Some r = sym (ap read out) ∙ e in grind arith)
    by_role Spent is = absurd (let out = (x.seats_first j v at).1 (λ h.
        let g : Spent ≡ Seat = sym is ∙ h in grind arith) in
        let h : None ≡ Some r = sym (ap read out) ∙ e in grind arith)

-- where all have passed, a section reads the last serial alone
pub recent : (n rows s : ℕ) (sides : List (List ℕ)) (k : Editor) (views : List View)
    → SidesAgree n rows s sides k views → GracePeriod n s k.marks views → AllPassed n k.marks
    → (j : ℕ) (v : View) (r : ℕ) → At views j v → Reads v r → r ≡ s
recent n rows s sides k views x y all j v r at e = ⊎_elim (λ (t : r ≡ s). t)
    (λ (t : r + 1 ≡ s). absurd (subst (λ m. IsAwaited m v.word)
    (all j (reads_near n s k.marks views y j v r at e)) (y.old j v at r e t)))
    (x.reads j v at r e)

pub or_before : {A : Type 0} (l : List A) (x : A) (i : ℕ) (d : A) → i < length l
    → get_or (l ++ x ∷ []) i d ≡ get_or l i d
or_before [] x i d h = absurd (omega arith)
or_before (y ∷ ys) x zero d h = refl
or_before (y ∷ ys) x (suc i) d h = or_before ys x i d (omega arith)

pub or_last : {A : Type 0} (l : List A) (x : A) (i : ℕ) (d : A) → length l ≡ i
    → get_or (l ++ x ∷ []) i d ≡ x
or_last [] x zero d h = refl
or_last [] x (suc i) d h = absurd (omega arith)
or_last (y ∷ ys) x zero d h = absurd (omega arith)
or_last (y ∷ ys) x (suc i) d h = or_last ys x i d (omega arith)

or_past : {A : Type 0} (l : List A) (i : ℕ) (d : A) → length l ≤ i → get_or l i d ≡ d
or_past [] i d h = refl
or_past (y ∷ ys) zero d h = absurd (omega arith)
or_past (y ∷ ys) (suc i) d h = or_past ys i d (omega arith)

pub length_overlaid : (ws : List ℕ) (xs : List (ℕ × ℕ)) → length (overlaid ws xs) ≡ length ws
length_overlaid ws [] = refl
length_overlaid ws (x ∷ xs) = length-set (overlaid ws xs) x.0 x.1 ∙ length_overlaid ws xs

module _ (c : Core) (j : ℕ) (v : View) (sits : At c.views j v) (seat : v.role
    ≡ Seat) (s : Whole c) where
  -- ## store_row

  pub stores : (w x : ℕ) → MayStep c j v (StoreRow w x) → Whole (after_step c j v (StoreRow w x))
  stores w x ok = record {
    puts = s.puts;
    places = s.places;
    sides = let two = s.sides.two in let other : c.serial % 2 ≢ (c.serial + 1) % 2 =
        (λ e. omega arith) in let ws : List ℕ = set (side c (c.serial + 1)) w x in record {
          two = length-set c.sides ((c.serial + 1) % 2) ws ∙ s.sides.two;
          confs = s.sides.confs;
          wide = s.sides.wide;
          last = get_or-set_other c.sides ((c.serial + 1) % 2) (c.serial % 2) ws [] other
              ∙ s.sides.last;
          spare = get_or-set_same c.sides ((c.serial + 1) % 2) ws [] (omega arith)
              ∙ ap (λ l. set l w x) s.sides.spare;
          still = λ _. ok.2;
          reads = s.sides.reads;
        };
    sections = s.sections;
    references = s.references;
    modes = record {
      mode = s.modes.mode;
      loaded =
          λ i u at. loaded_same i u u.loaded (s.modes.loaded i u at);
      looked = s.modes.looked;
      wide = s.modes.wide;
    };
    shown = record { last = s.shown.last; sections = s.shown.sections };
    turns = s.turns;
    executes = s.executes;
  }
    where
      loaded_same : (i : ℕ) (u : View) (h : LoadedMode) → LoadedModeFits c.editor i u h
          → LoadedModeFits (record c.editor { pending = (w, x) ∷ c.editor.pending }) i u h
      loaded_same i u NotLoaded f = tt
      loaded_same i u (Live d) f = f
      loaded_same i u (Killed d) f = f

  -- ## publish

  pub publishes : (t : Tag) → MayStep c j v (Publish t) → Whole (after_step c j v (Publish t))
  publishes t ok = let e : Entry = record (new_entry c t by.Publish) { serial = c.serial + 1 } in
      let w : View = after_finish c e v in let many = s.sides.confs in record {
        puts = s.puts;
        places = places_publish c.given c.serial c.quotas c.editor.published c.views j v w sits s.places
            t ok.1 (adds_finished c e v) refl refl (s.places.known j v sits).1;
        sides = record {
          two = s.sides.two;
          confs = let l = length-append c.editor.confs (side c (c.serial + 1) ∷ []) in omega arith;
          wide = wide;
          last = sym (or_last c.editor.confs (side c (c.serial + 1)) (c.serial + 1) [] many);
          spare = ap (λ (i : ℕ). get_or c.sides i []) turn ∙ (s.sides.last
              ∙ sym (ap (λ (i : ℕ). get_or (c.editor.confs ++ side c (c.serial + 1) ∷ []) i []) same
              ∙ or_before c.editor.confs (side c (c.serial + 1)) c.serial [] (omega arith)));
          still = λ h. absurd (h refl);
          reads = each_set (λ _ u. (r : ℕ) → Reads u r → (r ≡ c.serial + 1)
              ⊎ (r + 1 ≡ c.serial + 1)) c.views j w (λ i u at r e. inr (let h = now i u r at e in
              omega arith)) (λ r e. inr (let h = now j v r sits e in omega arith));
        };
        sections = record {
          many = (let l = length-set c.views j w in let m = s.sections.many in omega arith);
          marked = length-replicate c.seats Unseen;
          seats_first = each_set (λ i u. (u.role ≡ Seat → i < c.seats)
              × (u.role ≢ Seat → u.section ≡ Out)) c.views j w s.sections.seats_first
              (s.sections.seats_first j v sits);
          odd = each_set (λ _ u. is_odd u.word ≡ is_open u.section) c.views j w s.sections.odd
              (s.sections.odd j v sits);
          old = λ i u at r e last. fresh_waits c.seats i u.word;
        };
        references = references_stay c.seats c.disks c.editor.drains c.views s.puts j v w sits
            s.references (none_got ok) refl;
        modes = record {
          mode = s.modes.mode;
          loaded = each_set (λ i u. LoadedModeFits (after_step c j v (Publish t)).editor i u u.loaded)
              c.views j w (λ i u at. loaded_same i u u at refl refl refl refl u.loaded
              (s.modes.loaded i u at)) (loaded_same j v w sits refl refl refl refl v.loaded
              (s.modes.loaded j v sits));
          looked = s.modes.looked;
          wide = s.modes.wide;
        };
        shown = record {
          last = λ d shows. last d (subst (λ (l : List ℕ). get_or l d 0 ≢ 0)
              (or_last c.editor.confs (side c (c.serial + 1)) (c.serial + 1) [] many) shows);
          sections = λ d. each_set (λ i u. (r : ℕ) → Reads u r
              → Shows (after_step c j v (Publish t)).editor r d
              → IsLiveOrAwaited (drain c.editor d) i u.word) c.views j w
              (λ i u at r e shows. s.shown.sections d i u at r e (was i u r d at e shows))
              (λ r e shows. s.shown.sections d j v sits r e (was j v r d sits e shows));
        };
        turns = turns_stay c.seats c.turns c.views j v w sits refl refl s.turns;
        executes = executes_plain c.views j v w sits s.executes e (adds_finished c e v) refl
            (λ k p. refl) refl;
      }
    where
      now : (i : ℕ) (u : View) (r : ℕ) → At c.views i u → Reads u r → r ≡ c.serial
      now i u r at e = recent c.seats c.rows c.serial c.sides c.editor c.views s.sides s.sections
          ok.2 i u r at e

      turn : (c.serial + 1 + 1) % 2 ≡ c.serial % 2
      turn = omega arith

      same : c.serial + 1 - 1 ≡ c.serial
      same = omega arith

      wide : (r : ℕ) → r < c.serial + 1 + 1 → length (conf (after_step c j v (Publish t)).editor r)
          ≡ c.rows
      wide r near = elim (Rattle.std.proofs.lemmas.Bool.Decides.leb_tells (c.serial + 1) r) [
        | inl t ↦ ap length (or_last c.editor.confs (side c (c.serial + 1)) r [] (let a =
            s.sides.confs in let b = t.1 in omega arith)) ∙ (ap length s.sides.spare
            ∙ (length_overlaid (conf c.editor (c.serial - 1)) c.editor.pending
            ∙ s.sides.wide (c.serial - 1) (omega arith)))
        | inr t ↦ ap length (or_before c.editor.confs (side c (c.serial + 1)) r [] (let a =
            s.sides.confs in let b = t.1 in omega arith)) ∙ s.sides.wide r (let b = t.1 in
            omega arith)
      ]

      none_got : MayStep c j v (Publish t) → total has_got (kept
          (after_finish c (record (new_entry c t by.Publish) { serial = c.serial + 1 }) v))
          ≡ total has_got (kept v)
      none_got ok = let a = (adds_finished c (record (new_entry c t by.Publish) {
        serial = c.serial
            + 1;
      }) v).0 has_got in omega arith

      was : (i : ℕ) (u : View) (r d : ℕ) → At c.views i u → Reads u r
          → Shows (after_step c j v (Publish t)).editor r d → Shows c.editor r d
      was i u r d at e shows = let h = now i u r at e in let many = s.sides.confs in
          subst (λ (l : List ℕ). get_or l d 0 ≢ 0) (or_before c.editor.confs (side c (c.serial
          + 1)) r [] (omega arith)) shows

      shows_more : (i : ℕ) (u : View) (r d : ℕ) → At c.views i u → Reads u r → Shows c.editor r d
          → Shows (after_step c j v (Publish t)).editor r d
      shows_more i u r d at e shows = let h = now i u r at e in let many = s.sides.confs in
          subst (λ (l : List ℕ). get_or l d 0 ≢ 0) (sym (or_before c.editor.confs (side c (c.serial
          + 1)) r [] (omega arith))) shows

      may_more : (i : ℕ) (u w : View) → At c.views i u → read w.section ≡ read u.section
          → w.holds ≡ u.holds → (d : ℕ) → MayLoad c.editor u d
          → MayLoad (after_step c j v (Publish t)).editor w d
      may_more i u w at reads holds d may = ⊎_elim
          (λ (m : (r : ℕ) × Reads u r × Shows c.editor r d). inl (
            m.0,
            reads
                ∙ m.1,
            shows_more i u m.0 d at m.1 m.2,
          ))
          (λ m. inr (subst (Some_where (is_on d)) (sym holds) m)) may

      loaded_same : (i : ℕ) (u w : View) → At c.views i u → w.word ≡ u.word
          → is_open w.section ≡ is_open u.section → read w.section ≡ read u.section
          → w.holds ≡ u.holds → (h : LoadedMode) → LoadedModeFits c.editor i u h
          → LoadedModeFits (after_step c j v (Publish t)).editor i w h
      loaded_same i u w at word opens reads holds NotLoaded f = tt
      loaded_same i u w at word opens reads holds (Live d) f = (
        opens ∙ f.0,
        may_more i u w at reads holds d f.1,
        subst (IsLiveOrAwaited (drain c.editor d) i) (sym word) f.2,
      )
      loaded_same i u w at word opens reads holds (Killed d) f =
          (opens ∙ f.0, may_more i u w at reads holds d f.1, f.2)

      last : (d : ℕ) → get_or (side c (c.serial + 1)) d 0 ≢ 0
          → (drain c.editor d).phase ≡ phase.Live
      last d shows = elim (Rattle.std.proofs.lemmas.Bool.Decides.leb_tells (length c.disks) d) [
        | inl t ↦ ap (λ (b : Drain). b.phase) (or_past c.editor.drains d no_drain (let a =
            s.references.as_many in let b = t.1 in omega arith))
        | inr t ↦ ok.3 d t.1 shows
      ]
