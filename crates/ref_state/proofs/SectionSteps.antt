-- Each step keeps soundness, clause by clause.
use Rattle.std.proofs.Common.{◌≡◌, ◌≢◌, ◌⊎◌, ◌↔◌, ℕ, zero, suc, ◌+◌, ◌-◌, ◌%◌, ◌<◌, ◌≤◌, ◌==◌, ◌&&◌, not, Bool, true, false, List, [], ◌∷◌, ◌++◌, map, length, get_or, set, sym, refl, ap, ◌∙◌, subst, inl, inr, ⊎_elim, arith, Option, Some, None, eq-eqb, ne_eqb}
use Rattle.std.proofs.lemmas.Bool.{not-true, eqb-true}
use Rattle.ref_state.specs.declared.kinds.Tag.{Tag}
use Rattle.ref_state.specs.declared.kinds.Kind.TheVariants.{EnterSection, DrawPlace, LeaveSection, LookSection, AddOwn}
use Rattle.ref_state.specs.declared.state.By.TheVariants as by
use Rattle.ref_state.specs.declared.state.Entry.{Entry}
use Rattle.ref_state.specs.declared.state.Hold.{Hold}
use Rattle.ref_state.specs.declared.state.Section.{Section}
use Rattle.ref_state.specs.declared.state.Section.TheVariants.{Out, In, Placed}
use Rattle.ref_state.specs.declared.state.Role.TheVariants.{Seat}
use Rattle.ref_state.specs.declared.state.LoadedMode.TheVariants.{NotLoaded, Live}
use Rattle.ref_state.specs.declared.state.View.{View}
use Rattle.ref_state.specs.declared.state.Phase.TheVariants as phase
use Rattle.ref_state.specs.declared.state.State.{State as Core}
use Rattle.ref_state.specs.declared.state.Disk.{Disk}
use Rattle.ref_state.specs.declared.state.Count.{Count}
use Rattle.ref_state.specs.State.{At, total, own_entry, kept, entries, has_place, any_entry, published_entry, has_got, any_hold, on_disk, holds_on, is_named, got_at, got_by, submit_got, bare_got, execute_of, waiting_hold, done_hold, bare_hold, is_bare, one_if, is_open, read, Reads, Shows, view, drain, disk, mark, IsAwaited, IsLiveOrAwaited, AllPassed, no_disk, no_count}
use Rattle.ref_state.specs.Steps.{is_least, after_step, MayStep, after_enter, after_place, after_leave, new_entry, after_get, after_put, section_got, has_none, hold_of, may_put, with_view, with_disk, Some_where, MayLoad, looked_at, count_after}
use Rattle.ref_state.specs.Soundness.{Every, EntryOk, LoadedModeFits, ModeSnapshots}
use Rattle.ref_state.proofs.Whole.{Whole, Counts}
use Rattle.ref_state.proofs.Least.{least_there, least_passes}
use Rattle.ref_state.proofs.Lists.{every_without, total_set, total_same, or_set, without_total}
use Rattle.ref_state.proofs.PlacesKept.{adds_open, places_move, places_stay, places_draw}
use Rattle.ref_state.proofs.ExecutesKept.{executes_move, executes_stay}
use Rattle.ref_state.proofs.SectionsKept.{turned, sections_move, sections_stay, sections_look}
use Rattle.ref_state.proofs.ReferencesKept.{references_stay, references_move, references_look, counts_up, counts_down}
use Rattle.ref_state.proofs.ShownKept.{shown_move, shown_stay, shown_blank, modes_move, modes_blank, loaded_closed, loaded_stays, shown_look, modes_look, marks_passed}
use Rattle.ref_state.proofs.SidesKept.{sides_move, sides_editor, turns_stay}

-- ## A section that gets a hold

-- what doesn't look at `got` adds up to the same
pub got_total : (f : Entry → ℕ) → ((e : Entry) → f (record e { got = true }) ≡ f e)
    → (z : Section) (es : List Entry) → total f (own_entry (section_got z) ++ es)
    ≡ total f (own_entry z ++ es)
got_total f h Out es = refl
got_total f h In es = refl
got_total f h (Placed e) es = ap (λ (x : ℕ). x + total f es) (h e)

got_reads : (z : Section) → read (section_got z) ≡ read z
got_reads Out = refl
got_reads In = refl
got_reads (Placed e) = refl

got_open : (z : Section) → is_open (section_got z) ≡ is_open z
got_open Out = refl
got_open In = refl
got_open (Placed e) = refl

pub got_ok : (P : Entry → Type 0) → ((e : Entry) → P e → P (record e { got = true }))
    → (z : Section) (es : List Entry) → Every P (own_entry z ++ es)
    → Every P (own_entry (section_got z) ++ es)
got_ok P h Out es a = a
got_ok P h In es a = a
got_ok P h (Placed e) es a = (h e a.0, a.1)

-- the section had no hold, and has one now
got_more : (z : Section) (es : List Entry) → has_none z ≡ true
    → total has_got (own_entry (section_got z) ++ es) ≡ 1 + total has_got (own_entry z ++ es)
got_more Out es e = absurd (let h : false ≡ true = e in grind arith)
got_more In es e = absurd (let h : false ≡ true = e in grind arith)
got_more (Placed x) es e = omega (arith, ap one_if (not-true x.got e))

pub hold_more : (f : Hold → ℕ) (m d : ℕ) (z : Section) (hs : List Hold) → has_none z ≡ true
    → ((h : Hold) → h.disk ≡ d → f h ≡ m) → total f (hold_of d z ++ hs) ≡ m + total f hs
hold_more f m d Out hs e h = absurd (let h : false ≡ true = e in grind arith)
hold_more f m d In hs e h = absurd (let h : false ≡ true = e in grind arith)
hold_more f m d (Placed x) hs e h = ap (λ (y : ℕ). y + total f hs) (h _ refl)

-- tests of a hold and of its entry: its place, whether a hold was got, whether the call is bare
waits_new : (p g b : Bool) → not g ≡ true → one_if (p && (not b && true))
    + one_if (p && (g && not b)) ≡ one_if (p && (true && not b))
waits_new p true b e = absurd (let h : false ≡ true = e in grind arith)
waits_new true false true e = refl
waits_new true false false e = refl
waits_new false false b e = refl

none_done : (p b : Bool) → one_if (p && (not b && false)) ≡ 0
none_done true true = refl
none_done true false = refl
none_done false b = refl

bare_new : (p g b : Bool) → not g ≡ true → one_if (p && b) + one_if (p && (g && b))
    ≡ one_if (p && (true && b))
bare_new p true b e = absurd (let h : false ≡ true = e in grind arith)
bare_new true false b e = grind arith
bare_new false false b e = refl

-- a hold that may be put doesn't wait
put_waits : (p q b d : Bool) → (q && Rattle.std.proofs.Common.cond b true d) ≡ true
    → one_if (p && (not b && not d)) ≡ 0
put_waits false q b d e = refl
put_waits true q true d e = refl
put_waits true q false true e = refl
put_waits true true false false e = absurd (let h : false ≡ true = e in grind arith)
put_waits true false false false e = absurd (let h : false ≡ true = e in grind arith)

new_waiting : (k : ℕ) (p : ℕ → ℕ → Bool) (d : ℕ) (z : Section) (es : List Entry) (hs : List Hold)
    → has_none z ≡ true
    → total (waiting_hold k p) (hold_of d z ++ hs) + total (submit_got k p) (own_entry z ++ es)
    ≡ total (waiting_hold k p) hs + total (submit_got k p) (own_entry (section_got z) ++ es)
new_waiting k p d Out es hs e = absurd (let h : false ≡ true = e in grind arith)
new_waiting k p d In es hs e = absurd (let h : false ≡ true = e in grind arith)
new_waiting k p d (Placed x) es hs e = let h = waits_new ((x.place == k)
    && is_named p x.call) x.got (is_bare x.call) e in omega arith

new_done : (k : ℕ) (p : ℕ → ℕ → Bool) (d : ℕ) (z : Section) (hs : List Hold)
    → total (done_hold k p) (hold_of d z ++ hs) ≡ total (done_hold k p) hs
new_done k p d Out hs = refl
new_done k p d In hs = refl
new_done k p d (Placed x) hs = let h = none_done ((x.place == k)
    && is_named p x.call) (is_bare x.call) in omega arith

new_bare : (k : ℕ) (p : ℕ → ℕ → Bool) (d : ℕ) (z : Section) (es : List Entry) (hs : List Hold)
    → has_none z ≡ true
    → total (bare_hold k p) (hold_of d z ++ hs) + total (bare_got k p) (own_entry z ++ es)
    ≡ total (bare_hold k p) hs + total (bare_got k p) (own_entry (section_got z) ++ es)
new_bare k p d Out es hs e = absurd (let h : false ≡ true = e in grind arith)
new_bare k p d In es hs e = absurd (let h : false ≡ true = e in grind arith)
new_bare k p d (Placed x) es hs e = let h = bare_new ((x.place == k)
    && is_named p x.call) x.got (is_bare x.call) e in omega arith

one_new : (q g : Bool) → not g ≡ true → one_if q + one_if (q && g) ≡ one_if (q && true)
one_new q true e = absurd (let h : false ≡ true = e in grind arith)
one_new true false e = refl
one_new false false e = refl

new_of_one : (k : ℕ) (p : Tag → Bool) (d : ℕ) (z : Section) (es : List Entry) (hs : List Hold)
    → has_none z ≡ true
    → total (got_by k p) (hold_of d z ++ hs) + total (got_at k p) (own_entry z ++ es)
    ≡ total (got_by k p) hs + total (got_at k p) (own_entry (section_got z) ++ es)
new_of_one k p d Out es hs e = absurd (let h : false ≡ true = e in grind arith)
new_of_one k p d In es hs e = absurd (let h : false ≡ true = e in grind arith)
new_of_one k p d (Placed x) es hs e = let h = one_new ((x.place == k) && p x.call) x.got e in
    omega arith

-- the hold that a section gets has the section's place
got_seen : (P : ℕ → Type 0) (d : ℕ) (z : Section) (es : List Entry) (hs : List Hold)
    → Every (λ e. P e.place) (own_entry z ++ es) → Every (λ h. P h.place) hs
    → Every (λ h. P h.place) (hold_of d z ++ hs)
got_seen P d Out es hs a b = b
got_seen P d In es hs a b = b
got_seen P d (Placed x) es hs a b = (a.0, b)

-- the disk of a hold that may be put
pub put_disk : (d : ℕ) (h : Hold) → may_put d h ≡ true → h.disk ≡ d
put_disk d h e = eqb-true h.disk d (both_true (h.disk == d) _ e)
  where
    both_true : (a b : Bool) → (a && b) ≡ true → a ≡ true
    both_true true b e = refl
    both_true false b e = absurd (let h : false ≡ true = e in grind arith)

pub here_on : (d : ℕ) (h : Hold) → h.disk ≡ d → on_disk d h ≡ 1
here_on d h e = ap one_if (eq-eqb h.disk d e)

pub else_on : (d e : ℕ) → e ≢ d → (h : Hold) → h.disk ≡ d → on_disk e h ≡ 0
else_on d e other h is = ap one_if (ne_eqb h.disk e (λ t. other (sym t ∙ is)))

module _ (c : Core) (j : ℕ) (v : View) (sits : At c.views j v) (seat : v.role
    ≡ Seat) (s : Whole c) where
  -- ## enter_section

  pub enters : MayStep c j v EnterSection → Whole (after_step c j v EnterSection)
  enters ok = record {
    puts = s.puts;
    places = places_stay c.given c.serial c.quotas c.editor.published c.views j v (after_enter v)
        sits s.places (ap (λ z. own_entry z ++ v.entries) (sym ok)) refl refl
        (s.places.known j v sits).1;
    sides = sides_move c.seats c.rows c.serial c.sides c.editor c.views s.sides j v (after_enter v)
        sits (λ r e. absurd (let h : None ≡ Some r = e in grind arith));
    sections = sections_move c.seats c.serial c.editor.marks c.views j v (after_enter v) sits
        s.sections seat seat
        (turned v.word ∙ ap not (s.sections.odd j v sits
        ∙ ap is_open ok)) (λ r e. absurd (let h : None ≡ Some r = e in grind arith));
    references = references_stay c.seats c.disks c.editor.drains c.views s.puts j v (after_enter v)
        sits s.references (ap (λ z. total has_got (own_entry z ++ v.entries)) (sym ok)) refl;
    modes = modes_blank c.seats c.serial c.disks c.editor c.views j v (after_enter v) sits s.modes
        (loaded_closed c.editor j v v.loaded (s.modes.loaded j v sits) (ap is_open ok));
    shown = shown_blank c.seats c.serial c.disks c.editor c.views j v (after_enter v) sits s.shown
        refl;
    turns = turns_stay c.seats c.turns c.views j v (after_enter v) sits refl refl s.turns;
    executes = executes_stay c.views j v (after_enter v) sits s.executes (ap (λ z. own_entry z
        ++ v.entries) (sym ok)) refl;
  }

  -- ## draw_place

  pub draws : (t : Tag) → MayStep c j v (DrawPlace t) → Whole (after_step c j v (DrawPlace t))
  draws t ok = record {
    puts = s.puts;
    places = places_draw c.given c.serial c.quotas c.editor.published c.views j v
        (after_place c t v) sits s.places (new_entry c t by.Draw) refl refl refl
        (adds_open (new_entry c t by.Draw) v (after_place c t v)
        (ap (λ z. new_entry c t by.Draw ∷ (own_entry z
        ++ v.entries)) (sym ok.0))) ok.1 refl refl (s.places.known j v sits).1;
    sides = sides_move c.seats c.rows c.serial c.sides c.editor c.views s.sides j v
        (after_place c t v) sits (λ r e. inl (sym (some_is e)));
    sections = sections_move c.seats c.serial c.editor.marks c.views j v (after_place c t v) sits
        s.sections seat seat (s.sections.odd j v sits
        ∙ ap is_open ok.0) (λ r e last. absurd (let h = some_is e in omega arith));
    references = references_stay c.seats c.disks c.editor.drains c.views s.puts j v
        (after_place c t v) sits s.references (let a = ap (λ z. total has_got (own_entry z
        ++ v.entries)) ok.0 in omega arith) refl;
    modes = modes_move c.seats c.serial c.disks c.editor c.views j v (after_place c t v) sits
        s.modes
        (loaded_stays c.editor j v (after_place c t v) v.loaded refl (sym (ap is_open ok.0))
        (λ d. in_place d) (s.modes.loaded j v sits));
    shown = shown_move c.seats c.serial c.disks c.editor c.views j v (after_place c t v) sits
        s.shown (λ d r e shows. inl (s.shown.last d (subst (λ (z : ℕ). Shows c.editor z d)
        (sym (some_is e)) shows)));
    turns = turns_stay c.seats c.turns c.views j v (after_place c t v) sits refl refl s.turns;
    executes = executes_move c.views j v (after_place c t v) sits s.executes
        (λ k p. let a = ap (λ z. total (execute_of k p) (own_entry z ++ v.entries)) ok.0 in
        let b = ap (λ z. total (submit_got k p) (own_entry z ++ v.entries)) ok.0 in
        let z = none_got k p in omega arith)
        (λ k p. let a = ap (λ z. total (execute_of k p) (own_entry z ++ v.entries)) ok.0 in
        omega arith)
        (λ k p. let a = ap (λ z. total (bare_got k p) (own_entry z ++ v.entries)) ok.0 in
        let z = no_bare_got k p in omega arith)
        (λ k p. let a = ap (λ z. total (got_at k p) (own_entry z ++ v.entries)) ok.0 in
        omega arith);
  }
    where
      some_is : {a b : ℕ} → Some a ≡ Some b → a ≡ b
      some_is e = grind arith

      in_place : (d : ℕ) → MayLoad c.editor v d → MayLoad c.editor (after_place c t v) d
      in_place d may = ⊎_elim (λ (m : (r : ℕ) × Reads v r
          × Shows c.editor r d). absurd (let h : None ≡ Some m.0 = sym (ap read ok.0) ∙ m.1 in
          grind arith)) (λ m. inr m) may

      none_got : (k : ℕ) (p : ℕ → ℕ → Bool) → submit_got k p (new_entry c t by.Draw) ≡ 0
      none_got k p = none_of ((c.given == k) && is_named p t)
        where
          none_of : (z : Bool) → one_if (z && (false && not (is_bare t))) ≡ 0
          none_of true = refl
          none_of false = refl

      no_bare_got : (k : ℕ) (p : ℕ → ℕ → Bool) → bare_got k p (new_entry c t by.Draw) ≡ 0
      no_bare_got k p = none_of ((c.given == k) && is_named p t)
        where
          none_of : (z : Bool) → one_if (z && (false && is_bare t)) ≡ 0
          none_of true = refl
          none_of false = refl

  -- ## leave_section

  pub leaves : MayStep c j v LeaveSection → Whole (after_step c j v LeaveSection)
  leaves ok = record {
    puts = s.puts;
    places = places_stay c.given c.serial c.quotas c.editor.published c.views j v (after_leave v)
        sits s.places refl refl refl (s.places.known j v sits).1;
    sides = sides_move c.seats c.rows c.serial c.sides c.editor c.views s.sides j v (after_leave v)
        sits (λ r e. absurd (let h : None ≡ Some r = e in grind arith));
    sections = sections_move c.seats c.serial c.editor.marks c.views j v (after_leave v) sits
        s.sections seat seat (turned v.word ∙ ap not (s.sections.odd j v sits
        ∙ ok.0)) (λ r e. absurd (let h : None ≡ Some r = e in grind arith));
    references = references_stay c.seats c.disks c.editor.drains c.views s.puts j v (after_leave v)
        sits s.references refl refl;
    modes = modes_blank c.seats c.serial c.disks c.editor c.views j v (after_leave v) sits s.modes
        ok.1;
    shown = shown_blank c.seats c.serial c.disks c.editor c.views j v (after_leave v) sits s.shown
        refl;
    turns = turns_stay c.seats c.turns c.views j v (after_leave v) sits refl refl s.turns;
    executes = executes_stay c.views j v (after_leave v) sits s.executes refl refl;
  }

  -- ## look_section

  pub looks : (o : ℕ) → MayStep c j v (LookSection o) → Whole (after_step c j v (LookSection o))
  looks o ok = record {
    puts = s.puts;
    places = s.places;
    sides = sides_editor c.seats c.rows c.serial c.sides c.editor c.views s.sides
        (looked_at o (view c.views o).word c.editor) refl refl
        (marks_passed c.seats o (view c.views o).word c.editor.marks);
    sections = sections_look c.seats c.serial c.editor.marks c.views o s.sections;
    references = references_look c.seats c.disks c.editor.drains c.views s.puts o
        (view c.views o).word s.references;
    modes = modes_look c.seats c.serial c.disks c.editor c.views o s.sections.odd s.modes;
    shown = shown_look c.seats c.serial c.disks c.editor c.views o s.sections.odd s.shown;
    turns = s.turns;
    executes = s.executes;
  }

  -- ## add_own

  pub j_near : j < c.seats
  j_near = (s.sections.seats_first j v sits).0 seat

  -- the disk of a loaded live mode is live or killed
  live_used : (d : ℕ) → v.loaded ≡ Live d → ((drain c.editor d).phase ≡ phase.Live)
      ⊎ ((drain c.editor d).phase ≡ phase.Killed)
  live_used d is = let f : LoadedModeFits c.editor j v (Live d) =
      subst (LoadedModeFits c.editor j v) is (s.modes.loaded j v sits) in
      ⊎_elim (λ (t : (drain c.editor d).phase
      ≡ phase.Live). inl t) (λ (t : ((drain c.editor d).phase ≡ phase.Killed)
      × IsAwaited (mark (drain c.editor d).marks j) v.word). inr t.0) f.2

  abbrev own_after : ℕ → Bool → Disk
  own_after d up = record (disk c d) {
    own =
        set (disk c d).own j (count_after up (get_or (disk c d).own j no_count));
  }

  -- the counters that were looked at stand: no seat that has loaded live on a disk is passed
  looked_own : (d e : ℕ) (up : Bool) → v.loaded ≡ Live d → (drain c.editor e).phase ≡ phase.Killed
      → (o : ℕ) (x : Count) → get_or (drain c.editor e).looked o None ≡ Some x
      → AllPassed c.seats (drain c.editor e).marks
      × (get_or (get_or (set c.disks d (own_after d up)) e no_disk).own o no_count ≡ x)
  looked_own d e up is killed o x at = let h = s.modes.looked e killed o x at in (
    h.0,
    ⊎_elim
        (λ (t : get_or (set c.disks d (own_after d up)) e no_disk
        ≡ get_or c.disks e no_disk). ap (λ (k : Disk). get_or k.own o no_count) t ∙ h.1)
        (λ (t : (e ≡ d) × (get_or (set c.disks d (own_after d up)) e no_disk
        ≡ own_after d up)). absurd (not_passed e t.0 killed h.0))
        (or_set c.disks d e (own_after d up) no_disk),
  )
    where
      not_passed : (e : ℕ) → e ≡ d → (drain c.editor e).phase ≡ phase.Killed
          → AllPassed c.seats (drain c.editor e).marks → ⊥
      not_passed e same killed all = let f : LoadedModeFits c.editor j v (Live d) =
          subst (LoadedModeFits c.editor j v) is (s.modes.loaded j v sits) in
          let g : IsLiveOrAwaited (drain c.editor e) j v.word =
          subst (λ z. IsLiveOrAwaited (drain c.editor z) j v.word) (sym same) f.2 in
          ⊎_elim (λ (t : (drain c.editor e).phase ≡ phase.Live). let u = sym t ∙ killed in
          let z : phase.Live ≡ phase.Killed = u in grind arith)
          (λ (t : ((drain c.editor e).phase ≡ phase.Killed)
          × IsAwaited (mark (drain c.editor e).marks j) v.word). subst (λ m. IsAwaited m v.word)
          (all j j_near) t.1) g

  own_modes : (d : ℕ) (up : Bool) (w : View) → v.loaded ≡ Live d → w.loaded ≡ NotLoaded
      → ModeSnapshots c.seats (set c.disks d (own_after d up)) c.editor (set c.views j w)
  own_modes d up w is blank = let m = modes_blank c.seats c.serial c.disks c.editor c.views j v w
      sits s.modes blank in record {
        mode = λ e. ⊎_elim (λ (t : get_or (set c.disks d (own_after d up)) e no_disk
            ≡ get_or c.disks e no_disk). let P : Disk → Type 0 = λ k. (k.mode ≡ 0) ↔
            ((drain c.editor e).phase ≡ phase.Live) in subst P (sym t) (m.mode e))
            (λ (t : (e ≡ d) × (get_or (set c.disks d (own_after d up)) e no_disk ≡ own_after d up)).
            let P : Disk → Type 0 = λ k. (k.mode ≡ 0) ↔ ((drain c.editor e).phase ≡ phase.Live) in
            subst P (sym t.1) (subst (λ z. ((disk c z).mode ≡ 0) ↔
            ((drain c.editor e).phase ≡ phase.Live)) t.0 (m.mode e)))
            (or_set c.disks d e (own_after d up) no_disk);
        loaded = m.loaded;
        looked = λ e killed o x at. looked_own d e up is killed o x at;
        wide = m.wide;
      }

  up_got : (d : ℕ) → has_none v.section ≡ true → entries has_got (set c.views j (after_get d v))
      ≡ entries has_got c.views + 1
  up_got d none = let t = total_set (λ u. total has_got (kept u)) c.views j v (after_get d v) sits
      in let g = got_more v.section v.entries none in omega arith

  up_on : (d : ℕ) → has_none v.section ≡ true → holds_on d (set c.views j (after_get d v))
      ≡ holds_on d c.views + 1
  up_on d none = let t = total_set (λ u. total (on_disk d) u.holds) c.views j v (after_get d v) sits
      in let g = hold_more (on_disk d) 1 d v.section v.holds none (here_on d) in omega arith

  -- a hold is got, and the words of its disk become those of k
  pub ups : (d : ℕ) (k : Disk) → has_none v.section ≡ true
      → (Counts c.seats (entries has_got c.views) s.puts (holds_on d c.views) (disk c d)
      (drain c.editor d) → Counts c.seats (entries has_got c.views
      + 1) s.puts (holds_on d c.views + 1) k (drain c.editor d))
      → ModeSnapshots c.seats (set c.disks d k) c.editor (set c.views j (after_get d v))
      → Whole (with_view (with_disk c d k) j (after_get d v))
  ups d k none counts modes = let w : View = after_get d v in record {
    puts = s.puts;
    places = places_move c.given c.serial c.quotas c.editor.published c.views j v w sits s.places
        (λ k. got_total (has_place k) (λ e. refl) v.section v.entries)
        (got_total any_entry (λ e. refl) v.section v.entries)
        (got_total published_entry (λ e. refl) v.section v.entries)
        (got_ok (EntryOk c.given c.editor.published) (λ e k. record {
          below = k.below;
          serial = k.serial;
          published = k.published;
          plain =
              k.plain;
        }) v.section v.entries (s.places.each j v sits))
        refl refl (got_ok (λ e. e.place < v.seen) (λ e h. h) v.section v.entries
        (s.places.known j v sits).0)
        (got_seen (λ (x : ℕ). x < v.seen) d v.section v.entries v.holds (s.places.known j v sits).0
        (s.places.known j v sits).1);
    sides = sides_move c.seats c.rows c.serial c.sides c.editor c.views s.sides j v w sits
        (λ r e. inr (sym (got_reads v.section) ∙ e));
    sections = sections_stay c.seats c.serial c.editor.marks c.views j v w sits s.sections seat seat
        refl (got_open v.section) (got_reads v.section);
    references = references_move c.seats c.disks c.editor.drains c.views s.puts j v w sits
        s.references d s.puts k
        (let g = got_more v.section v.entries none in let h =
        hold_more any_hold 1 d v.section v.holds none (λ _ _. refl) in omega arith)
        (let g = got_more v.section v.entries none in omega arith) (omega arith)
        (λ e other. let h = hold_more (on_disk e) 0 d v.section v.holds none (else_on d e other) in
        omega arith)
        (λ near was. subst (λ (z : ℕ × ℕ). Counts c.seats z.0 s.puts z.1 k (drain c.editor d))
        (λ i. (sym (up_got d none) i, sym (up_on d none) i))
        (counts was));
    modes = modes;
    shown = shown_stay c.seats c.serial c.disks c.editor c.views j v w sits s.shown refl
        (got_reads v.section);
    turns = turns_stay c.seats c.turns c.views j v w sits refl refl s.turns;
    executes = executes_move c.views j v w sits s.executes
        (λ k p. let a = new_waiting k p d v.section v.entries v.holds none in
        let b = got_total (execute_of k p) (λ e. refl) v.section v.entries in omega arith)
        (λ k p. let a = new_done k p d v.section v.holds in let b =
        got_total (execute_of k p) (λ e. refl) v.section v.entries in omega arith)
        (λ k p. let a = new_bare k p d v.section v.entries v.holds none in omega arith)
        (λ k p. let a = new_of_one k p d v.section v.entries v.holds none in omega arith);
  }

  pub ups_own : (d : ℕ) → MayStep c j v (AddOwn d true) → Whole (after_step c j v (AddOwn d true))
  ups_own d ok = ups d (own_after d true) ok.1.1 (counts_up c.seats (entries has_got c.views) s.puts
      (holds_on d c.views) j (disk c d) (drain c.editor d) j_near (live_used d ok.0))
      (own_modes d true (after_get d v) ok.0 refl)

  down_on : (d : ℕ) → Some_where (is_least (may_put d) v.holds) v.holds
      → holds_on d (set c.views j (after_put d v)) + 1 ≡ holds_on d c.views
  down_on d m = let t = total_set (λ u. total (on_disk d) u.holds) c.views j v (after_put d v) sits
      in let h = without_total (is_least (may_put d) v.holds) (on_disk d) v.holds m.0 m.1 in
      let z = here_on d m.0 (put_disk d m.0 (least_passes (may_put d) v.holds m.0 m.1)) in
      omega arith

  -- a hold is put, and the words of its disk become those of k
  pub downs : (d : ℕ) (k : Disk) → Some_where (is_least (may_put d) v.holds) v.holds
      → ((on : ℕ) → on + 1 ≡ holds_on d c.views
      → Counts c.seats (entries has_got c.views) s.puts (on + 1) (disk c d) (drain c.editor d)
      → Counts c.seats (entries has_got c.views) (s.puts + 1) on k (drain c.editor d))
      → ModeSnapshots c.seats (set c.disks d k) c.editor (set c.views j (after_put d v))
      → Whole (with_view (with_disk c d k) j (after_put d v))
  downs d k m counts modes = let w : View = after_put d v in record {
    puts = s.puts + 1;
    places = places_stay c.given c.serial c.quotas c.editor.published c.views j v w sits s.places
        refl refl refl (every_without (λ h. h.place < v.seen) (is_least (may_put d) v.holds) v.holds
        (s.places.known j v sits).1).0;
    sides = sides_move c.seats c.rows c.serial c.sides c.editor c.views s.sides j v w sits
        (λ r e. inr e);
    sections = sections_stay c.seats c.serial c.editor.marks c.views j v w sits s.sections seat seat
        refl refl refl;
    references = references_move c.seats c.disks c.editor.drains c.views s.puts j v w sits
        s.references d (s.puts + 1) k
        (let h = without_total (is_least (may_put d) v.holds) any_hold v.holds m.0 m.1 in
        omega arith) (omega arith) (omega arith)
        (λ e other. let h = without_total (is_least (may_put d) v.holds) (on_disk e) v.holds m.0 m.1
        in let z = else_on d e other m.0 (put_disk d m.0
        (least_passes (may_put d) v.holds m.0 m.1)) in omega arith)
        (λ near was. let G = total_same (λ u. total has_got (kept u)) c.views j v w sits refl in
        let on = down_on d m in
        subst (λ (z : ℕ). Counts c.seats z (s.puts
        + 1) (holds_on d (set c.views j w)) k (drain c.editor d)) (sym G)
        (counts (holds_on d (set c.views j w)) on
        (subst (λ (z : ℕ). Counts c.seats (entries has_got c.views) s.puts z (disk c d)
        (drain c.editor d)) (sym on) was)));
    modes = modes;
    shown = shown_stay c.seats c.serial c.disks c.editor c.views j v w sits s.shown refl refl;
    turns = turns_stay c.seats c.turns c.views j v w sits refl refl s.turns;
    executes = executes_move c.views j v w sits s.executes
        (λ k p. let h = without_total (is_least (may_put d) v.holds) (waiting_hold k p) v.holds m.0
        m.1 in
        let z = put_waits ((m.0.place == k) && is_named p m.0.call) (m.0.disk == d)
        (is_bare m.0.call) m.0.executed (least_passes (may_put d) v.holds m.0 m.1) in
        omega arith)
        (λ k p. let h = without_total (is_least (may_put d) v.holds) (done_hold k p) v.holds m.0 m.1
        in omega arith)
        (λ k p. let h = without_total (is_least (may_put d) v.holds) (bare_hold k p) v.holds m.0 m.1
        in omega arith)
        (λ k p. let h = without_total (is_least (may_put d) v.holds) (got_by k p) v.holds m.0 m.1 in
        omega arith);
  }

  pub downs_own : (d : ℕ) → MayStep c j v (AddOwn d false)
      → Whole (after_step c j v (AddOwn d false))
  downs_own d ok = downs d (own_after d false) (least_there (may_put d) v.holds ok.1)
      (λ on _. counts_down c.seats (entries has_got c.views) s.puts on j (disk c d)
      (drain c.editor d) j_near (live_used d ok.0)) (own_modes d false (after_put d v) ok.0 refl)
