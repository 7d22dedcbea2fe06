-- TurnsOwned, and the entries that are finished at their own step.
use Rattle.std.proofs.Common.{◌≡◌, ◌≢◌, ℕ, zero, suc, ◌+◌, ◌/◌, ◌<◌, ◌≤◌, ◌==◌, ◌&&◌, not, cond, Bool, true, false, List, [], ◌∷◌, ◌++◌, length, get_or, set, sym, refl, ap, ◌∙◌, subst, inl, inr, ⊎_elim, arith, Some, None, length-set, get_or-set_same, get_or-set_other, eq-eqb, ne_eqb}
use Rattle.std.proofs.lemmas.Bool.{eqb-true}
use mathlib.Core.Option.{some, some-injective, some-ne-none}
use lib.ListN.{get_elem?}
use Rattle.ref_state.specs.declared.kinds.Tag.{Tag}
use Rattle.ref_state.specs.declared.kinds.Kind.TheVariants.{PlaceDone, TakeTurn, SlotOut, PlaceExecute, SlotIn, GiveTurn}
use Rattle.ref_state.specs.declared.state.By.TheVariants as by
use Rattle.ref_state.specs.declared.state.Entry.{Entry}
use Rattle.ref_state.specs.declared.state.Hold.{Hold}
use Rattle.ref_state.specs.declared.state.Turn.{Turn}
use Rattle.ref_state.specs.declared.state.Role.TheVariants.{Seat}
use Rattle.ref_state.specs.declared.state.View.{View}
use Rattle.ref_state.specs.declared.state.State.{State as Core}
use Rattle.ref_state.specs.State.{At, total, own_entry, kept, one_if, is_bare, is_publish, has_got, is_named, got_at, got_by, submit_got, bare_got, execute_of, any_hold, on_disk, waiting_hold, done_hold, bare_hold, of_slot, is_open, read, Reads, Shows}
use Rattle.ref_state.specs.Steps.{is_least, least, after_step, MayStep, new_entry, after_finish, is_on, is_slot, is_home_slot, is_held, place_of, after_execute, with_view, first, without, change, Some_where, listed}
use Rattle.ref_state.specs.Soundness.{Every, LoadedModeFits, TurnsOwned}
use Rattle.ref_state.proofs.Whole.{Whole}
use Rattle.ref_state.proofs.Least.{least_there, least_passes}
use Rattle.ref_state.proofs.Lists.{total_set, total_same, total_one, every_map, every_at, each_move, each_set, or_at, first_passes, without_total}
use Rattle.ref_state.proofs.PlacesKept.{adds_finished, places_stay, places_draw}
use Rattle.ref_state.proofs.ExecutesKept.{executes_move, executes_stay, executes_plain}
use Rattle.ref_state.proofs.SectionsKept.{sections_stay}
use Rattle.ref_state.proofs.ReferencesKept.{references_stay}
use Rattle.ref_state.proofs.ShownKept.{shown_stay, modes_move, loaded_stays}
use Rattle.ref_state.proofs.SidesKept.{sides_move, turns_stay}
use Rattle.ref_state.proofs.Lists.{set_else, every_without, change_total, change_same, change_every, change_some, none_total}
use Rattle.ref_state.proofs.ReferencesKept.{references_same}
use Rattle.ref_state.proofs.DrainSteps as passc

slot_is : (s : ℕ) (t : Turn) → is_slot s t ≡ true → t.slot ≡ s
slot_is s t e = eqb-true t.slot s e

of_slot_here : (s : ℕ) (t : Turn) → t.slot ≡ s → of_slot s t ≡ 1
of_slot_here s t e = ap one_if (eq-eqb t.slot s e)

not_slot : (s : ℕ) (t : Turn) → of_slot s t ≡ 0 → t.slot ≢ s
not_slot s t e h = let a = of_slot_here s t h in omega arith

-- a held hold waits, and is of its disk
held_is : (t : Tag) (d : ℕ) (h : Hold) → is_held t d h ≡ true
    → (h.disk ≡ d) × (not (is_bare h.call) ≡ true) × (not h.executed ≡ true)
    × ((h.call.caller ≡ t.caller) × (h.call.number ≡ t.number))
held_is t d h e = by_case (h.disk == d) (h.call.caller == t.caller) (h.call.number == t.number)
    (not (is_bare h.call)) (not h.executed) e (eqb-true h.disk d) (eqb-true h.call.caller t.caller)
    (eqb-true h.call.number t.number)
  where
    by_case : (a b c x y : Bool) → (a && (b && (c && (x && y)))) ≡ true → (a ≡ true → h.disk ≡ d)
        → (b ≡ true → h.call.caller ≡ t.caller) → (c ≡ true → h.call.number ≡ t.number)
        → (h.disk ≡ d) × (x ≡ true) × (y ≡ true) × ((h.call.caller ≡ t.caller)
        × (h.call.number ≡ t.number))
    by_case true true true true true e f g i = (f refl, refl, refl, (g refl, i refl))
    by_case false b c x y e f g i = absurd (let h : false ≡ true = e in grind arith)
    by_case true false c x y e f g i = absurd (let h : false ≡ true = e in grind arith)
    by_case true true false x y e f g i = absurd (let h : false ≡ true = e in grind arith)
    by_case true true true false y e f g i = absurd (let h : false ≡ true = e in grind arith)
    by_case true true true true false e f g i = absurd (let h : false ≡ true = e in grind arith)

abbrev now_done : Hold → Hold
now_done h = record h { executed = true }

waits_then : (p nb nd : Bool) → nb ≡ true → nd ≡ true → one_if (p && (nb && nd)) ≡ one_if p
waits_then true nb nd a b = ap (λ (z : Bool × Bool). one_if (z.0 && z.1)) (λ i. (a i, b i))
waits_then false nb nd a b = refl

done_then : (p nb : Bool) → nb ≡ true → one_if (p && (nb && true)) ≡ one_if p
done_then true nb a = ap (λ z. one_if (z && true)) a
done_then false nb a = refl

not_done : (p nb d : Bool) → not d ≡ true → one_if (p && (nb && d)) ≡ 0
not_done true true true e = absurd (let h : false ≡ true = e in grind arith)
not_done true true false e = refl
not_done true false d e = refl
not_done false nb d e = refl

none_waits : (p nb : Bool) → one_if (p && (nb && false)) ≡ 0
none_waits true true = refl
none_waits true false = refl
none_waits false nb = refl

module _ (c : Core) (j : ℕ) (v : View) (sits : At c.views j v) (seat : v.role
    ≡ Seat) (s : Whole c) where
  -- ## place_done

  -- an entry that publishes nothing, executes nothing and got no hold
  finishes : (e : Entry) → e.place ≡ c.given → e.serial ≡ c.serial → is_publish e.by ≡ false
      → e.got ≡ false → ((k : ℕ) (p : ℕ → ℕ → Bool) → execute_of k p e ≡ 0) → 0 < v.left
      → Whole (record (with_view c j (after_finish c e v)) { given = c.given + 1 })
  finishes e here serial plain none no_execute some_left = let w : View = after_finish c e v in
      record {
        puts = s.puts;
        places = places_draw c.given c.serial c.quotas c.editor.published c.views j v w sits s.places e
            here serial plain (adds_finished c e v) some_left refl refl (s.places.known j v sits).1;
        sides = sides_move c.seats c.rows c.serial c.sides c.editor c.views s.sides j v w sits
            (λ r e. inr e);
        sections = sections_stay c.seats c.serial c.editor.marks c.views j v w sits s.sections seat seat
            refl refl refl;
        references = references_stay c.seats c.disks c.editor.drains c.views s.puts j v w sits
            s.references (let a = (adds_finished c e v).0 has_got in let b = ap one_if none in
            omega arith) refl;
        modes = modes_move c.seats c.serial c.disks c.editor c.views j v w sits s.modes
            (loaded_stays c.editor j v w v.loaded refl refl (λ d m. m) (s.modes.loaded j v sits));
        shown = shown_stay c.seats c.serial c.disks c.editor c.views j v w sits s.shown refl refl;
        turns = turns_stay c.seats c.turns c.views j v w sits refl refl s.turns;
        executes = executes_plain c.views j v w sits s.executes e (adds_finished c e v) none no_execute
            refl;
      }

  pub dones : (d : ℕ) (t : Tag) → MayStep c j v (PlaceDone d t)
      → Whole (after_step c j v (PlaceDone d t))
  dones d t ok = let e : Entry = new_entry c t by.Done in let w : View = after_finish c e v in
      let c1 : Core = record (with_view c j w) { given = c.given + 1 } in
      let s1 : Whole c1 = finishes e refl refl refl refl (λ k p. refl) ok.2 in
      passc.marks_done c1 j w (sits_now w) seat s1 d ok.1
    where
      sits_now : (w : View) → At (set c.views j w) j w
      sits_now w = here c.views j v w sits
        where
          here : (l : List View) (i : ℕ) (a b : View) → get_elem? l i ≡ some a
              → get_elem? (set l i b) i ≡ some b
          here [] i a b e = absurd (some-ne-none a (sym e))
          here (x ∷ xs) zero a b e = refl
          here (x ∷ xs) (suc i) a b e = here xs i a b e

  -- ## take_turn, give_turn, slot_out and slot_in

  -- what a seat's turns change
  turns_alone : (w : View) (ts : List ℕ) → w.role ≡ v.role → w.word ≡ v.word → w.section ≡ v.section
      → w.loaded ≡ v.loaded → w.holds ≡ v.holds → w.left ≡ v.left → w.seen ≡ v.seen
      → w.entries ≡ v.entries
      → TurnsOwned c.seats ts (set c.views j w) → Whole (record (with_view c j w) { turns = ts })
  turns_alone w ts role word section mode hs left seen es turns =
      let same : kept w ≡ kept v = λ i. own_entry (section i) ++ es i in record {
        puts = s.puts;
        places = places_stay c.given c.serial c.quotas c.editor.published c.views j v w sits s.places
            same left seen (subst (Every (λ h. h.place < v.seen)) (sym hs) (s.places.known j v sits).1);
        sides = sides_move c.seats c.rows c.serial c.sides c.editor c.views s.sides j v w sits
            (λ r e. inr (sym (ap read section) ∙ e));
        sections = sections_stay c.seats c.serial c.editor.marks c.views j v w sits s.sections seat
            (role ∙ seat) word (ap is_open section) (ap read section);
        references = references_stay c.seats c.disks c.editor.drains c.views s.puts j v w sits
            s.references (ap (total has_got) same) hs;
        modes = modes_move c.seats c.serial c.disks c.editor c.views j v w sits s.modes
            (subst (LoadedModeFits c.editor j w) (sym mode) (loaded_stays c.editor j v w v.loaded word
            (ap is_open section)
            (λ d m. ⊎_elim (λ (a : (r : ℕ) × Reads v r × Shows c.editor r d). inl (
              a.0,
              ap read section
                  ∙ a.1,
              a.2,
            )) (λ a. inr (subst (Some_where (is_on d)) (sym hs) a)) m)
            (s.modes.loaded j v sits)));
        shown = shown_stay c.seats c.serial c.disks c.editor c.views j v w sits s.shown word
            (ap read section);
        turns = turns;
        executes = executes_stay c.views j v w sits s.executes same hs;
      }

  -- the extent of a turn goes out or comes home
  moves : (n : ℕ) (b : Bool) → Whole (with_view c j (record v {
    turns =
        change (is_slot n) (λ t. record t { out = b }) v.turns;
  }))
  moves n b = let w : View = record v {
    turns = change (is_slot n) (λ t. record t {
      out =
          b;
    }) v.turns;
  } in turns_alone w c.turns refl refl refl refl refl refl refl refl record {
    numbered = each_set (λ i u. (i < c.seats → u.number ≡ i)
        × (u.number < c.seats)) c.views j w s.turns.numbered (s.turns.numbered j v sits);
    holders = λ k near. total_same (λ (u : View). total (of_slot k) u.turns) c.views j v w sits
        (change_same (is_slot n) (λ t. record t { out = b }) (of_slot k) (λ t. refl) v.turns)
        ∙ s.turns.holders k near;
    owner = each_set (λ i u. Every (λ t. get_elem? c.turns t.slot
        ≡ some (i + 1)) u.turns) c.views j w s.turns.owner
        (change_every (is_slot n) (λ t. record t { out = b }) (λ t. get_elem? c.turns t.slot
        ≡ some (j + 1)) (λ t e. e) v.turns (s.turns.owner j v sits));
  }

  pub goes_out : (n : ℕ) → MayStep c j v (SlotOut n) → Whole (after_step c j v (SlotOut n))
  goes_out n ok = moves n true

  pub comes_in : (n : ℕ) → MayStep c j v (SlotIn n) → Whole (after_step c j v (SlotIn n))
  comes_in n ok = moves n false

  -- a turn that is 0 is taken
  pub takes : (n : ℕ) → MayStep c j v (TakeTurn n) → Whole (after_step c j v (TakeTurn n))
  takes n ok = by_case (get_or c.turns n 0 == 0) refl
    where
      taken : get_or c.turns n 0 ≡ 0 → Whole (with_view (record c {
        turns =
            set c.turns n (j + 1);
      }) j (record v {
        turns = record {
          slot = n;
          out =
              false;
        } ∷ v.turns;
      }))
      taken free = let w : View = record v { turns = record { slot = n; out = false } ∷ v.turns } in
          let ts : List ℕ = set c.turns n (j + 1) in
          turns_alone w ts refl refl refl refl refl refl refl refl record {
            numbered = each_set (λ i u. (i < c.seats → u.number ≡ i)
                × (u.number < c.seats)) c.views j w s.turns.numbered (s.turns.numbered j v sits);
            holders = λ k near. let near' : k < length c.turns =
                subst (λ (z : ℕ). k < z) (length-set c.turns n (j + 1)) near in
                let z = total_set (λ (u : View). total (of_slot k) u.turns) c.views j v w sits in
                let h = s.turns.holders k near' in
                mathlib.Core.Logic.dite (native.Mathlib.Decide.ℕ_discrete n k)
                (λ t. let a : one_if (n == k) ≡ 1 = ap one_if (eq-eqb n k t) in
                let f : one_if (not (get_or c.turns k 0 == 0)) ≡ 0 =
                ap (λ i. one_if (not (get_or c.turns i 0 == 0))) (sym t)
                ∙ ap (λ b. one_if (not (b == 0))) free in
                let g : one_if (not (get_or ts k 0 == 0)) ≡ 1 =
                ap (λ (b : ℕ). one_if (not (b == 0))) (ap (λ i. get_or ts i 0) (sym t)
                ∙ get_or-set_same c.turns n (j + 1) 0 ok.0) ∙ ap (λ b. one_if (not b)) (ne_eqb (j
                + 1) 0 (λ e. omega arith)) in omega arith)
                (λ other. let a : one_if (n == k) ≡ 0 = ap one_if (ne_eqb n k other) in
                let g : get_or ts k 0 ≡ get_or c.turns k 0 =
                get_or-set_other c.turns n k (j + 1) 0 (λ e. other (sym e)) in
                let f : one_if (not (get_or ts k 0 == 0)) ≡ one_if (not (get_or c.turns k 0 == 0)) =
                ap (λ b. one_if (not (b == 0))) g in omega arith);
            owner = each_set (λ i u. Every (λ t. get_elem? ts t.slot
                ≡ some (i + 1)) u.turns) c.views j w (λ i u at. every_map (λ t e. kept_turn t i e)
                u.turns (s.turns.owner i u at)) (
                  at_set_here c.turns n (j + 1) ok.0,
                  every_map (λ t e. kept_turn t j e) v.turns
                      (s.turns.owner j v sits),
                );
          }
        where
          at_set_here : (l : List ℕ) (i a : ℕ) → i < length l → get_elem? (set l i a) i ≡ some a
          at_set_here [] i a h = absurd (omega arith)
          at_set_here (x ∷ xs) zero a h = refl
          at_set_here (x ∷ xs) (suc i) a h = at_set_here xs i a (omega arith)

          kept_turn : (t : Turn) (i : ℕ) → get_elem? c.turns t.slot ≡ some (i + 1)
              → get_elem? (set c.turns n (j + 1)) t.slot ≡ some (i + 1)
          kept_turn t i e = set_else c.turns n t.slot (j + 1) (λ same.
              let a : get_or c.turns n 0 ≡ i + 1 = ap (λ k. get_or c.turns k 0) (sym same)
              ∙ or_at c.turns t.slot (i + 1) 0 e in omega arith) ∙ e

      by_case : (z : Bool) → (get_or c.turns n 0 == 0) ≡ z
          → Whole (cond z (with_view (record c {
            turns = set c.turns n (j
                + 1);
          }) j (record v { turns = record { slot = n; out = false } ∷ v.turns })) c)
      by_case true e = taken (eqb-true (get_or c.turns n 0) 0 e)
      by_case false e = s

  -- a turn is given back
  pub gives : (n : ℕ) → MayStep c j v (GiveTurn n) → Whole (after_step c j v (GiveTurn n))
  gives n ok = let w : View = record v { turns = without (is_slot n) v.turns } in
      let ts : List ℕ = set c.turns n 0 in let mine = a_turn v.turns ok in
      let named = every_at (λ t. get_elem? c.turns t.slot ≡ some (j + 1)) v.turns in
      let has : get_elem? c.turns n ≡ some (j + 1) = subst (λ i. get_elem? c.turns i
      ≡ some (j + 1)) (slot_is n mine.0 (first_passes (is_slot n) v.turns mine.0 mine.1))
      (owned v.turns mine.0 mine.1 (s.turns.owner j v sits)) in
      let near : n < length c.turns = within c.turns n (j + 1) has in
      let none_left : total (of_slot n) w.turns ≡ 0 = (let a =
      without_total (is_slot n) (of_slot n) v.turns mine.0 mine.1 in
      let b = of_slot_here n mine.0 (slot_is n mine.0 (first_passes (is_slot n) v.turns mine.0
      mine.1)) in
      let h = s.turns.holders n near in let k =
      total_one (λ (u : View). total (of_slot n) u.turns) c.views j v sits in
      let m = at_most (not (get_or c.turns n 0 == 0)) in omega arith) in
      turns_alone w ts refl refl refl refl refl refl refl refl record {
        numbered = each_set (λ i u. (i < c.seats → u.number ≡ i)
            × (u.number < c.seats)) c.views j w s.turns.numbered (s.turns.numbered j v sits);
        holders = λ k inside. let inside' : k < length c.turns =
            subst (λ (z : ℕ). k < z) (length-set c.turns n 0) inside in
            let z = total_set (λ (u : View). total (of_slot k) u.turns) c.views j v w sits in
            let h = s.turns.holders k inside' in
            let a = without_total (is_slot n) (of_slot k) v.turns mine.0 mine.1 in
            mathlib.Core.Logic.dite (native.Mathlib.Decide.ℕ_discrete n k)
            (λ t. let b : of_slot k mine.0 ≡ 1 = of_slot_here k mine.0
            (slot_is n mine.0 (first_passes (is_slot n) v.turns mine.0 mine.1) ∙ t) in
            let m = at_most (not (get_or c.turns k 0 == 0)) in
            let y = total_one (λ (u : View). total (of_slot k) u.turns) c.views j v sits in
            let g : one_if (not (get_or ts k 0 == 0)) ≡ 0 =
            ap (λ (x : ℕ). one_if (not (x == 0))) (ap (λ i. get_or ts i 0) (sym t)
            ∙ get_or-set_same c.turns n 0 0 near) in omega arith)
            (λ other. let b : of_slot k mine.0 ≡ 0 =
            ap one_if (ne_eqb mine.0.slot k (λ e. other (sym
            (slot_is n mine.0 (first_passes (is_slot n) v.turns mine.0 mine.1)) ∙ e))) in
            let f : one_if (not (get_or ts k 0 == 0)) ≡ one_if (not (get_or c.turns k 0 == 0)) =
            ap (λ x. one_if (not (x == 0))) (get_or-set_other c.turns n k 0 0
            (λ e. other (sym e))) in omega arith);
        owner = each_move (λ i u. Every (λ t. get_elem? ts t.slot
            ≡ some (i + 1)) u.turns) c.views j w
            (λ i u other at. every_map (λ t e. set_else c.turns n t.slot 0
            (λ same. other (holder_is i has (subst (λ x. get_elem? c.turns x
            ≡ some (i + 1)) same e))) ∙ e) u.turns (s.turns.owner i u at))
            (both (λ t. get_elem? c.turns t.slot ≡ some (j + 1)) (λ t. of_slot n t
            ≡ 0) (λ t. get_elem? ts t.slot ≡ some (j
            + 1)) (λ t e z. set_else c.turns n t.slot 0 (not_slot n t z) ∙ e) w.turns
            (every_without (λ t. get_elem? c.turns t.slot ≡ some (j
            + 1)) (is_slot n) v.turns (s.turns.owner j v sits)).0
            (none_total (of_slot n) w.turns none_left));
      }
    where
      at_most : (b : Bool) → one_if b ≤ 1
      at_most true = omega arith
      at_most false = omega arith

      both : (P Q R : Turn → Type 0) → ((t : Turn) → P t → Q t → R t) → (ts : List Turn)
          → Every P ts → Every Q ts → Every R ts
      both P Q R h [] a b = tt
      both P Q R h (t ∷ ts) a b = (h t a.0 b.0, both P Q R h ts a.1 b.1)

      within : (l : List ℕ) (i a : ℕ) → get_elem? l i ≡ some a → i < length l
      within [] i a e = absurd (some-ne-none a (sym e))
      within (x ∷ xs) zero a e = omega arith
      within (x ∷ xs) (suc i) a e = let h = within xs i a e in omega arith

      owned : (ts : List Turn) (t : Turn) → first (is_slot n) ts ≡ Some t
          → Every (λ t. get_elem? c.turns t.slot ≡ some (j + 1)) ts
          → get_elem? c.turns t.slot ≡ some (j + 1)
      owned ts t e a = let b = (every_without (λ t. get_elem? c.turns t.slot
          ≡ some (j + 1)) (is_slot n) ts a).1 in (subst (λ o. Every (λ t. get_elem? c.turns t.slot
          ≡ some (j + 1)) (listed o)) e b).0

      a_turn : (ts : List Turn) → Some_where (is_home_slot n) ts → Some_where (is_slot n) ts
      a_turn [] m = absurd (let h : None ≡ Some m.0 = m.1 in grind arith)
      a_turn (t ∷ ts) m = by_case (t.slot == n) t.out m.1 (λ e. a_turn ts (m.0, e))
        where
          by_case : (a b : Bool) → cond (a && not b) (Some t) (first (is_home_slot n) ts) ≡ Some m.0
              → (first (is_home_slot n) ts ≡ Some m.0 → Some_where (is_slot n) ts) → (y : Turn)
              × (cond a (Some t) (first (is_slot n) ts) ≡ Some y)
          by_case true b e rec = (t, refl)
          by_case false b e rec = rec e

      holder_is : (i : ℕ) → get_elem? c.turns n ≡ some (j + 1) → get_elem? c.turns n ≡ some (i + 1)
          → i ≡ j
      holder_is i a b = let h : i + 1 ≡ j + 1 = some-injective (i + 1) (j + 1) (sym b ∙ a) in
          omega arith

  -- ## place_execute

  pub performs : (n : ℕ) (t : Tag) → MayStep c j v (PlaceExecute n t)
      → Whole (after_step c j v (PlaceExecute n t))
  performs n t ok = let d : ℕ = n / 8 in let m = least_there (is_held t d) v.holds ok.2 in
      let h : Hold = m.0 in let w : View = after_execute c t d v in
      let e : Entry = new_entry c t (by.Execute (place_of (least (is_held t d) v.holds))) in
      let is = held_is t d h (least_passes (is_held t d) v.holds h m.1) in
      let at : place_of (least (is_held t d) v.holds) ≡ h.place = ap place_of m.1 in
      let named : (k : ℕ) (p : ℕ → ℕ → Bool) → one_if ((place_of (least (is_held t d) v.holds) == k)
      && is_named p t) ≡ one_if ((h.place == k) && is_named p h.call)
      = λ k p. ap (λ (z : ℕ × ℕ × ℕ). one_if ((z.0 == k) && p z.1 z.2)) (λ i. (
        at i,
        sym is.3.0 i,
        sym is.3.1 i,
      )) in record {
        puts = s.puts;
        places = places_draw c.given c.serial c.quotas c.editor.published c.views j v w sits
            s.places e refl refl refl (adds_finished c e v) ok.0 refl refl
            (change_every (is_least (is_held t d) v.holds) now_done (λ h. h.place < v.seen)
            (λ h x. x) v.holds (s.places.known j v sits).1);
        sides = sides_move c.seats c.rows c.serial c.sides c.editor c.views s.sides j v w sits
            (λ r e. inr e);
        sections = sections_stay c.seats c.serial c.editor.marks c.views j v w sits s.sections seat
            seat refl refl refl;
        references = references_same c.seats c.disks c.editor.drains c.views s.puts j v w sits
            s.references (let a = (adds_finished c e v).0 has_got in
            omega arith) (change_same (is_least (is_held t d) v.holds) now_done any_hold (λ x. refl)
            v.holds) (λ i. change_same (is_least (is_held t d) v.holds) now_done (on_disk i)
            (λ x. refl) v.holds);
        modes = modes_move c.seats c.serial c.disks c.editor c.views j v w sits s.modes
            (loaded_stays c.editor j v w v.loaded refl refl
            (λ i may. ⊎_elim (λ (a : (r : ℕ) × Reads v r
            × Shows c.editor r i). inl a) (λ a. inr (change_some
            (is_least (is_held t d) v.holds) now_done (is_on i) (λ x. refl) v.holds a)) may)
            (s.modes.loaded j v sits));
        shown = shown_stay c.seats c.serial c.disks c.editor c.views j v w sits s.shown refl refl;
        turns = turns_stay c.seats c.turns c.views j v w sits refl refl s.turns;
        executes = executes_move c.views j v w sits s.executes
            (λ k p. let a = change_total (is_least (is_held t d) v.holds) now_done
            (waiting_hold k p) v.holds h m.1 in let b =
            (adds_finished c e v).0 (execute_of k p) in let z =
            (adds_finished c e v).0 (submit_got k p) in
            let x = waits_then ((h.place == k) && is_named p h.call) (not (is_bare h.call))
            (not h.executed) is.1 is.2 in let y = none_waits ((h.place == k)
            && is_named p h.call) (not (is_bare h.call)) in let g = named k p in
            let q = no_got ((c.given == k) && is_named p t) in omega arith)
            (λ k p. let a = change_total (is_least (is_held t d) v.holds) now_done (done_hold k p)
            v.holds h m.1 in let b = (adds_finished c e v).0 (execute_of k p) in
            let x = done_then ((h.place == k) && is_named p h.call) (not (is_bare h.call)) is.1 in
            let y = not_done ((h.place == k) && is_named p h.call) (not (is_bare h.call))
            h.executed is.2 in let g = named k p in omega arith)
            (λ k p. let a = change_same (is_least (is_held t d) v.holds) now_done (bare_hold k p)
            (λ x. refl) v.holds in let z = (adds_finished c e v).0 (bare_got k p) in
            let q = no_bare ((c.given == k) && is_named p t) in omega arith)
            (λ k p. let a = change_same (is_least (is_held t d) v.holds) now_done (got_by k p)
            (λ x. refl) v.holds in let z = (adds_finished c e v).0 (got_at k p) in omega arith);
      }
    where
      no_got : (p : Bool) → one_if (p && (false && not (is_bare t))) ≡ 0
      no_got true = refl
      no_got false = refl

      no_bare : (p : Bool) → one_if (p && (false && is_bare t)) ≡ 0
      no_bare true = refl
      no_bare false = refl
