-- A script that is served is read line by line.
use Rattle.std.proofs.Common.{◌≡◌, ◌≤◌, ◌<◌, ℕ, zero, suc, ◌+◌, Bool, true, false, if◌then◌else◌, List, [], ◌∷◌, ◌++◌, length, drop, Option, Some, None, slice_get, refl, sym, ap, ap₂, subst, ◌∙◌, arith, append_assoc}
use Rattle.configfs_tree.specs.Phases.{phase_at}
use Rattle.tree_target.specs.declared.edits.Space.{Space}
use Rattle.tree_target.specs.Edits.{disables}
use Rattle.tree_target.specs.Model.{Call, AnEdit, DrainEnd}
use Rattle.tree_target.specs.Steps.{is_draining_phase}
use Rattle.run_transcript.specs.declared.scripts.ScriptEdit.{ScriptEdit}
use Rattle.run_transcript.specs.Runs.{Placed, Run, target_at}
use Rattle.run_transcript.specs.Turns.{Editing, Disabled, nothing_edited, disabled_on, editing_after, editing_after_call, edit_on}
use Rattle.run_transcript.specs.Served.{ServesScript}
use Rattle.run_verdicts.proofs.Laying.{not-some}
use Rattle.served_runs.specs.Reading.{calls, ServesLine, ReadsScript}
use Rattle.served_runs.proofs.Between.{is_edit, phase_leaves}
use Rattle.served_runs.proofs.Callers.{some-is}
use Rattle.served_runs.proofs.Steady.{Own, here, steady-behind}

some-not : {A : Type 0} (a : A) → ◌≡◌ {A = Option A} (Some a) None → ⊥
some-not a h = not-some a (sym h)

abbrev at : ℕ → Option Disabled → Editing
at n d = record { made = n; disabled = d }

edit-then : (p : Editing) (x : Placed) (call : Call) → x.entry.call ≡ call → editing_after p x.entry ≡ editing_after_call p call
edit-then p x call is = ap (λ (c : Call). editing_after_call p c) is

serves-at : (run : Run) (p q : Editing) (list : List Placed) → p ≡ q → ServesScript run p list → ServesScript run q list
serves-at run p q list is s = subst (λ (r : Editing). ServesScript run r list) is s

got : (script : List ScriptEdit) (n : ℕ) (e : ScriptEdit) → slice_get script n ≡ Some e → drop n script ≡ e ∷ drop (n + 1) script
got [] n e h = absurd (not-some e h)
got (d ∷ script) zero e h = let is : d ≡ e = some-is d e h in ap (λ (x : ScriptEdit). x ∷ script) is
got (d ∷ script) (suc n) e h = let up : suc n + 1 ≡ suc (n + 1) = omega arith in rw up (got script n e h)

got-none : (script : List ScriptEdit) (n : ℕ) → slice_get script n ≡ None → drop n script ≡ []
got-none [] zero h = refl
got-none [] (suc n) h = refl
got-none (d ∷ script) zero h = absurd (some-not d h)
got-none (d ∷ script) (suc n) h = got-none script n h

-- ---- the end of a drain behind an edit
record Ended (run : Run) (n line : ℕ) (ends : List Call) (rest : List Placed) : Type 0 where
  pub end : List Placed
  pub later : List Placed
  pub whole : rest ≡ end ++ later
  pub made : calls end ≡ ends
  pub serves : ServesScript run (at n None) later
  pub shorter : length later ≤ length rest

-- a namespace that doesn't drain is as none
plain : (run : Run) (n : ℕ) (d : Disabled) (rest : List Placed)
    → is_draining_phase (phase_at (here run rest).tree d.space.sub d.space.nsid) ≡ false
    → ServesScript run (at n (Some d)) rest → ServesScript run (at n None) rest
plain run n d [] off s = sym (rw off refl) ∙ s
plain run n d (y ∷ rest) off s =
    let owed : edit_on (slice_get run.script n) ≡ Some y.entry.call = sym (rw off refl) ∙ s.0 in
    (owed, serves-at run _ _ rest (same (slice_get run.script n) owed) s.1) where
      same : (o : Option ScriptEdit) → edit_on o ≡ Some y.entry.call → editing_after (at n (Some d)) y.entry ≡ editing_after (at n None) y.entry
      same None owed = absurd (not-some _ owed)
      same (Some e) owed =
          let made : y.entry.call ≡ AnEdit e.line e.edit = sym (some-is _ _ owed) in
          edit-then (at n (Some d)) y _ made ∙ sym (edit-then (at n None) y _ made)

ended-by : (run : Run) (n : ℕ) (d : Disabled) (b : Bool) (rest : List Placed)
    → is_draining_phase (phase_at (here run rest).tree d.space.sub d.space.nsid) ≡ b
    → ServesScript run (at n (Some d)) rest → Ended run n d.line (if b then DrainEnd d.line d.space.sub d.space.nsid ∷ [] else []) rest
ended-by run n d false rest is s = record {
  end = [];
  later = rest;
  whole = refl;
  made = refl;
  serves = plain run n d rest is s;
  shorter = omega arith;
}
ended-by run n d true [] is s =
    let owed : Some (DrainEnd d.line d.space.sub d.space.nsid) ≡ None = sym (rw is refl) ∙ s in absurd (some-not _ owed)
ended-by run n d true (y ∷ later) is s =
    let owed : Some (DrainEnd d.line d.space.sub d.space.nsid) ≡ Some y.entry.call = sym (rw is refl) ∙ s.0 in
    let made : y.entry.call ≡ DrainEnd d.line d.space.sub d.space.nsid = sym (some-is _ _ owed) in
    record {
      end = y ∷ [];
      later = later;
      whole = refl;
      made = ap (λ (c : Call). c ∷ []) made;
      serves = serves-at run _ _ later (edit-then (at n (Some d)) y _ made) s.1;
      shorter = omega arith;
    }

-- ---- a line
record Took (run : Run) (n : ℕ) (e : ScriptEdit) (list : List Placed) : Type 0 where
  pub mine : List Placed
  pub later : List Placed
  pub whole : list ≡ mine ++ later
  pub served : ServesLine run e mine
  pub serves : ServesScript run (at (n + 1) None) later
  pub shorter : length later < length list

took-line : (run : Run) (n : ℕ) (e : ScriptEdit) (whole front : List Placed) (x : Placed) (rest : List Placed) → Own run is_edit whole
    → whole ≡ front ++ x ∷ rest → x.entry.call ≡ AnEdit e.line e.edit → (o : Option Space) → disables e.edit ≡ o
    → ServesScript run (at (n + 1) (disabled_on e.line o)) rest → Took run n e (x ∷ rest)
took-line run n e whole front x rest own is made None none s = record {
  mine = x ∷ [];
  later = rest;
  whole = refl;
  served = rw none (ap (λ (c : Call). c ∷ []) made);
  serves = s;
  shorter = omega arith;
}
took-line run n e whole front x rest own is made (Some space) some s =
    let b : Bool = is_draining_phase (phase_at (target_at run (x.place + 1)).tree space.sub space.nsid) in
    let d : Disabled = record { line = e.line; space = space } in
    let stays : is_draining_phase (phase_at (here run rest).tree space.sub space.nsid) ≡ b =
    ap is_draining_phase (steady-behind run is_edit (λ t. phase_at t.tree space.sub space.nsid) whole front x rest (phase_leaves space.sub space.nsid) own is) in
    let r = ended-by run (n + 1) d b rest stays s in
    record {
      mine = x ∷ r.end;
      later = r.later;
      whole = ap (λ (l : List Placed). x ∷ l) r.whole;
      served = rw some (ap₂ (λ (c : Call) (l : List Call). c ∷ l) made r.made);
      serves = r.serves;
      shorter = omega (arith, r.shorter);
    }

took : (run : Run) (n : ℕ) (e : ScriptEdit) (whole front list : List Placed) → Own run is_edit whole → whole ≡ front ++ list
    → slice_get run.script n ≡ Some e → ServesScript run (at n None) list → Took run n e list
took run n e whole front [] own is is_next s =
    let owed : Some (AnEdit e.line e.edit) ≡ None = ap edit_on (sym is_next) ∙ s in absurd (some-not _ owed)
took run n e whole front (x ∷ rest) own is is_next s =
    let owed : Some (AnEdit e.line e.edit) ≡ Some x.entry.call = ap edit_on (sym is_next) ∙ s.0 in
    let made : x.entry.call ≡ AnEdit e.line e.edit = sym (some-is _ _ owed) in
    took-line run n e whole front x rest own is made (disables e.edit) refl (serves-at run _ _ rest (edit-then (at n None) x _ made) s.1)

reads : (m : ℕ) (run : Run) (n : ℕ) (whole front list : List Placed) → length list ≤ m → Own run is_edit whole → whole ≡ front ++ list
    → ServesScript run (at n None) list → (o : Option ScriptEdit) → slice_get run.script n ≡ o → ReadsScript run (drop n run.script) list
reads m run n whole front [] le own is s None none = rw (got-none run.script n none) refl
reads m run n whole front (x ∷ rest) le own is s None none =
    let owed : None ≡ Some x.entry.call = ap edit_on (sym none) ∙ s.0 in absurd (not-some _ owed)
reads zero run n whole front list le own is s (Some e) is_next =
    let t = took run n e whole front list own is is_next s in absurd (omega (arith, le, t.shorter))
reads (suc m) run n whole front list le own is s (Some e) is_next =
    let t = took run n e whole front list own is is_next s in
    let on : ReadsScript run (drop (n + 1) run.script) t.later =
    reads m run (n + 1) whole (front ++ t.mine) t.later (omega (arith, le, t.shorter)) own
    (is ∙ ap (λ (l : List Placed). front ++ l) t.whole ∙ sym (append_assoc front t.mine t.later)) t.serves (slice_get run.script (n + 1)) refl in
    rw (got run.script n e is_next) (record { first = t.mine; second = t.later; whole = t.whole; is_first = t.served; is_second = on })

pub read-script : (run : Run) → Own run is_edit run.editor → ServesScript run nothing_edited run.editor → ReadsScript run run.script run.editor
read-script run own s = reads (length run.editor) run 0 run.editor [] run.editor (omega arith) own refl s (slice_get run.script 0) refl
