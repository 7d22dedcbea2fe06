-- The whole run.
use Rattle.std.proofs.Common.{◌≡◌, ◌≢◌, ◌<◌, ◌≤◌, ℕ, ◌+◌, Bool, true, false, if◌then◌else◌, List, [], ◌∷◌, ◌++◌, length, slice_get, Option, Some, None, refl, sym, ap, subst, ◌∙◌, append_assoc, arith}
use Rattle.std.proofs.lemmas.List.{append-nil, length-append}
use Rattle.std.proofs.lemmas.List.Concat.{flat_map-cons}
use Rattle.std.specs.List.{AllByRecursion, flat_map, sum_by}
use Rattle.std.proofs.lemmas.List.Sums.{sum_by-append}
use Rattle.std.specs.List.Sorted.{IsPermutation}
use Rattle.std.proofs.lemmas.List.Sorted.{IsPermutation-append_right, IsPermutation-trans}
use Rattle.plan_files.specs.declared.items.Plan.{Plan}
use Rattle.plan_files.specs.Capsules.{Capsule}
use Rattle.configfs_rows.specs.declared.namespaces.Phase.{Phase}
use Rattle.configfs_tree.specs.Phases.{phase_at}
use Rattle.configfs_tree.specs.declared.configuration.Configuration.{Configuration}
use Rattle.sqe_cqe.specs.declared.sqe.Sqe.{Sqe}
use Rattle.fabrics_connect.specs.declared.answer.Answer.{Answer}
use Rattle.fabrics_connect.specs.declared.answer.Answer.TheVariants.{Refused, Makes, Joins, Reads, Sets}
use Rattle.fabrics_connect.specs.After.{tree_after}
use Rattle.tree_target.specs.Controls.{after_control, answer_on}
use Rattle.tree_target.specs.Kept.{Kept}
use Rattle.tree_target.specs.Model.{Binding, Call, Submit, Execute, Poll, Control, AnEdit, DrainEnd, Entry, Target, binding_at, caller_of}
use Rattle.tree_target.specs.Steps.{changed, target_after, is_draining_phase}
use Rattle.tree_target.specs.Fixed.{Desk, QueuesLeaveDesk, desk, is_editors}
use Rattle.tree_target.specs.Held.{BindingsAreOwn}
use Rattle.tree_target.specs.Legal.{IsLegal, after}
use Rattle.tree_target.specs.Stands.{StandsFor}
use Rattle.run_transcript.specs.declared.capsule_files.CapsuleFile.{CapsuleFile}
use Rattle.run_transcript.specs.declared.scripts.ScriptEdit.{ScriptEdit}
use Rattle.run_transcript.specs.InTurn.{IsInTurn}
use Rattle.run_transcript.specs.Runs.{Placed, Run, IsLegalRun, IsOrdered, placed_from, calls_of, target_after_all}
use Rattle.run_transcript.specs.Served.{AreFrom, IsServed, ServesScript, bodies, finals}
use Rattle.run_transcript.specs.Turns.{Disabled, Editing, Progress, after_entry, edit_after, edit_on, editing_after, next_edit, nothing_edited}
use Rattle.run_serving.specs.declared.output.Output.{Output}
use Rattle.run_serving.specs.Prints.{Prints}
use Rattle.run_serving.specs.Goes.{AnySize, AreNext, EachStands, HasEnded, HasFront, HasNothing, IsFrontLong, PrintEach, Round, all_of, joined}
use Rattle.run_serving.specs.Editor.{AreEdits, HasMade, editing_after_all}
use Rattle.run_serving.specs.Readiness.{files_of}
use Rattle.run_serving.specs.Fresh.{AreFresh, empties}
use Rattle.run_serving.specs.InTurn.{ServesInTurn}
use Rattle.run_serving.specs.Lines.{Journals}
use Rattle.run_serving.specs.declared.editing.Edited.{Edited}
use Rattle.run_serving.specs.declared.whole.Served.{Served}
use Rattle.run_transcript.specs.Sums.{submit_count, execute_count, refusal_count, event_count, waiting_count, payload_count}
use Rattle.run_serving.specs.Ran.{HoldRecords, Ran}
use Rattle.run_serving.proofs.Placing.{after-append, IsLegal-append, placed_from-append}
use Rattle.run_serving.proofs.Pieces.{above_all, all_append, are_from, below_all, bring_front, cut_on, is_rising, longer, one_on, placed_before, rises_on, target_here, Rises}
use Rattle.run_serving.proofs.Assembling.{Assembled, assemble, nils}
use Rattle.run_serving.proofs.Turning.{own_call, each_along, front_stable}

-- ---- rounds are legal
pub round_legal : (Size : List Capsule → ℕ → Type 0) (final : Bool) (queue : ℕ)
    (files : List (List Capsule)) (lists : List (List Placed)) (t : Target)
    (groups : List (List Entry)) → Round Size final queue files lists t groups
    → IsLegal t (all_of groups)
round_legal Size final queue [] [] t [] r = tt
round_legal Size final queue [] [] t (g ∷ groups) r = absurd r
round_legal Size final queue [] (l ∷ lists) t groups r = absurd r
round_legal Size final queue (f ∷ files) [] t groups r = absurd r
round_legal Size final queue (f ∷ files) (l ∷ lists) t [] r = absurd r
round_legal Size final queue (f ∷ files) (l ∷ lists) t (g ∷ groups) r =
    IsLegal-append t g (all_of groups) r.0
    (round_legal Size final (queue + 1) files lists (after t (calls_of g)) groups r.3)

-- ---- calls of queues leave phases
abbrev PhasesStay : Target → Target → Type 0
PhasesStay t u = (sub : List ℕ) (nsid : ℕ) → phase_at u.tree sub nsid ≡ phase_at t.tree sub nsid

-- a fabrics command attaches controllers at the most
tree_phases : (t : Configuration) (a : Answer) (sub : List ℕ) (nsid : ℕ)
    → phase_at (tree_after t a) sub nsid ≡ phase_at t sub nsid
unfolding tree_after
tree_phases t (Refused fault) sub nsid = refl
tree_phases t (Makes bound host) sub nsid = refl
tree_phases t (Joins bound) sub nsid = refl
tree_phases t (Reads value) sub nsid = refl
tree_phases t (Sets value) sub nsid = refl

control_phases : (t : Target) (queue : ℕ) (e : Sqe) (payload : List ℕ) (b : Option Binding)
    → PhasesStay t (after_control t queue e payload b)
control_phases t queue e payload None sub nsid = refl
control_phases t queue e payload (Some b) sub nsid = tree_phases t.tree (answer_on t e payload b) sub
    nsid

control_leaves : (t : Target) (queue n : ℕ) (e : Sqe) (payload : List ℕ)
    → PhasesStay t (target_after t (Control queue n e payload))
unfolding changed
control_leaves t queue n e payload = control_phases t queue e payload (binding_at t queue)

module _ (leaves : QueuesLeaveDesk) where
  leaves_phases : (t : Target) (call : Call) → is_editors call ≡ false
      → PhasesStay t (target_after t call)
  leaves_phases t call own sub nsid =
      ap (λ (d : Desk). phase_at d.tree sub nsid) (leaves t call own)

  one_leaves : (t : Target) (call : Call) → caller_of call ≢ 0 → PhasesStay t (target_after t call)
  one_leaves t (Submit queue n e) ne = leaves_phases t (Submit queue n e) refl
  one_leaves t (Execute queue n payload) ne = leaves_phases t (Execute queue n payload) refl
  one_leaves t (Poll queue) ne = leaves_phases t (Poll queue) refl
  one_leaves t (Control queue n e payload) ne = control_leaves t queue n e payload
  one_leaves t (AnEdit line e) ne = absurd (ne refl)
  one_leaves t (DrainEnd line sub nsid) ne = absurd (ne refl)

  group_leaves : (final : Bool) (queue : ℕ) (file : List Capsule) (p : Progress) (t : Target)
      (group : List Entry) → 1 ≤ queue → AreNext final queue file p t group
      → PhasesStay t (after t (calls_of group))
  group_leaves final queue file p t [] low a sub nsid = refl
  group_leaves final queue file p t (e ∷ group) low a sub nsid =
      let is : caller_of e.call ≡ queue = own_call t queue file p e.call a.0 in
      group_leaves final queue file (after_entry p e) (target_after t e.call) group low a.2 sub nsid
      ∙ one_leaves t e.call (λ (x : caller_of e.call ≡ 0). absurd (omega (arith, x, is, low))) sub
      nsid

  round_leaves : (Size : List Capsule → ℕ → Type 0) (final : Bool) (queue : ℕ)
      (files : List (List Capsule)) (lists : List (List Placed)) (t : Target)
      (groups : List (List Entry)) → 1 ≤ queue → Round Size final queue files lists t groups
      → PhasesStay t (after t (calls_of (all_of groups)))
  round_leaves Size final queue [] [] t [] low r sub nsid = refl
  round_leaves Size final queue [] [] t (g ∷ groups) low r sub nsid = absurd r
  round_leaves Size final queue [] (l ∷ lists) t groups low r sub nsid = absurd r
  round_leaves Size final queue (f ∷ files) [] t groups low r sub nsid = absurd r
  round_leaves Size final queue (f ∷ files) (l ∷ lists) t [] low r sub nsid = absurd r
  round_leaves Size final queue (f ∷ files) (l ∷ lists) t (g ∷ groups) low r sub nsid =
      ap (λ (x : Target). phase_at x.tree sub nsid) (after-append t g (all_of groups))
      ∙ round_leaves Size final (queue + 1) files lists (after t (calls_of g)) groups
      (omega (arith, low)) r.3 sub nsid
      ∙ group_leaves final queue f _ t g low r.1 sub nsid

-- so no drain is open that wasn't
made_along : (n : ℕ) (t u : Target) (p : Editing) → PhasesStay t u → HasMade n t p → HasMade n u p
made_along n t u p same made = record {
  made_is = made.made_is;
  no_drain = λ next. along p.disabled next ∙ made.no_drain next;
} where
  along : (d : Option Disabled) (next : Option Call) → edit_after u d next ≡ edit_after t d next
  along None next = refl
  along (Some d) next = ap (λ (x : Option Phase). if is_draining_phase x then Some
      (DrainEnd d.line d.space.sub d.space.nsid) else next) (same d.space.sub d.space.nsid)

-- ---- the editor
abbrev IsEditors : Option Call → Type 0
IsEditors None = Unit {0}
IsEditors (Some call) = caller_of call ≡ 0

own_on : (o : Option ScriptEdit) → IsEditors (edit_on o)
own_on None = tt
own_on (Some s) = refl

own_if : (b : Bool) (d : Disabled) (next : Option Call) → IsEditors next
    → IsEditors (if b then Some (DrainEnd d.line d.space.sub d.space.nsid) else next)
own_if true d next own = refl
own_if false d next own = own

own_after : (t : Target) (d : Option Disabled) (next : Option Call) → IsEditors next
    → IsEditors (edit_after t d next)
own_after t None next own = own
own_after t (Some d) next own = own_if (is_draining_phase (phase_at t.tree d.space.sub
    d.space.nsid)) d next own

own_edit : (t : Target) (script : List ScriptEdit) (p : Editing) (call : Call)
    → next_edit t script p ≡ Some call → caller_of call ≡ 0
own_edit t script p call e = subst (λ (o : Option Call). IsEditors o) e
    (own_after t p.disabled (edit_on (slice_get script p.made)) (own_on (slice_get script p.made)))

pub edits_keep : (own : BindingsAreOwn) (script : List ScriptEdit) (p : Editing) (t : Target)
    (group : List Entry) (q : ℕ) → 1 ≤ q → AreEdits script p t group
    → binding_at (after t (calls_of group)) q ≡ binding_at t q
edits_keep own script p t [] q low a = refl
edits_keep own script p t (e ∷ group) q low a =
    let is : caller_of e.call ≡ 0 = own_edit t script p e.call a.0 in
    edits_keep own script (editing_after p e) (target_after t e.call) group q low a.1
    ∙ own t e.call q (λ (x : caller_of e.call ≡ q). absurd (omega (arith, x, is, low)))

serves_script : (run : Run) (p : Editing) (h group rest : List Entry) (n : ℕ)
    → run.history ≡ h ++ (group ++ rest) → n ≡ length h
    → AreEdits run.script p (after run.start (calls_of h)) group
    → next_edit (target_after_all run) run.script (editing_after_all p group) ≡ None
    → ServesScript run p (placed_from n group)
serves_script run p h [] rest n is len a end = end
serves_script run p h (e ∷ group) rest n is len a end = (
  ap (λ (t : Target). next_edit t run.script p) (target_here run h ((e ∷ group) ++ rest) n is len)
      ∙ a.0,
  serves_script run (editing_after p e) (h ++ e ∷ []) group rest (n + 1)
      (cut_on h e group rest run.history is) (longer h n e len)
      (subst (λ (t : Target). AreEdits run.script (editing_after p e) t group)
      (sym (one_on run.start h e)) a.1) end,
)

beyond : (script : List ScriptEdit) → slice_get script (length script) ≡ None
beyond [] = refl
beyond (s ∷ script) = beyond script

no_edit : (t : Target) (script : List ScriptEdit) (p : Editing) → HasMade (length script) t p
    → next_edit t script p ≡ None
no_edit t script p made =
    made.no_drain (edit_on (slice_get script p.made))
    ∙ ap (λ m. edit_on (slice_get script m)) made.made_is
    ∙ ap (λ (o : Option ScriptEdit). edit_on o) (beyond script)

-- ---- the whole
module _ (leaves : QueuesLeaveDesk) (plan : Plan) (passed_over : ℕ) (start : Target)
    (script : List ScriptEdit) (files : List (List Capsule)) (F : List (List Entry))
    (E : List Entry) (R P : List (List Entry)) (n1 n2 n3 : ℕ)
    (roundF : Round IsFrontLong false 1 files (nils files) start F)
    (legalE : IsLegal (after start (calls_of (all_of F))) E)
    (edits : AreEdits script nothing_edited (after start (calls_of (all_of F))) E)
    (roundR : Round AnySize false 1 files (joined 0 (nils files) F)
    (after (after start (calls_of (all_of F))) (calls_of E)) R)
    (roundP : Round AnySize true 1 files (joined n2 (joined 0 (nils files) F) R)
    (after (after (after start (calls_of (all_of F))) (calls_of E)) (calls_of (all_of R))) P)
    (ended : EachStands HasEnded (after (after (after (after start (calls_of (all_of F)))
    (calls_of E)) (calls_of (all_of R))) (calls_of (all_of P))) 1 files
    (joined n3 (joined n2 (joined 0 (nils files) F) R) P))
    (made : HasMade (length script) (after (after start (calls_of (all_of F))) (calls_of E))
    (editing_after_all nothing_edited E))
    (len1 : n1 ≡ 0 + length (all_of F)) (len2 : n2 ≡ n1 + length E)
    (len3 : n3 ≡ n2 + length (all_of R)) where
  abbrev pub the_run : Run
  the_run = record {
    plan = plan;
    start = start;
    passed_over = passed_over;
    script = script;
    files = files;
    editor = placed_from n1 E;
    queues = joined n3 (joined n2 (joined 0 (nils files) F) R) P;
    history = all_of F ++ (E ++ (all_of R ++ all_of P));
  }

  same2 : after start (calls_of (all_of F ++ E))
      ≡ after (after start (calls_of (all_of F))) (calls_of E)
  same2 = after-append start (all_of F) E

  same3 : after start (calls_of ((all_of F ++ E) ++ all_of R))
      ≡ after (after (after start (calls_of (all_of F))) (calls_of E)) (calls_of (all_of R))
  same3 = after-append start (all_of F ++ E) (all_of R)
      ∙ ap (λ (t : Target). after t (calls_of (all_of R))) same2

  history_is : all_of F ++ (E ++ (all_of R ++ all_of P))
      ≡ ((all_of F ++ E) ++ all_of R) ++ all_of P
  history_is = sym (append_assoc (all_of F ++ E) (all_of R) (all_of P)
      ∙ append_assoc (all_of F) E (all_of R ++ all_of P))

  same4 : target_after_all the_run
      ≡ after (after (after (after start (calls_of (all_of F))) (calls_of E))
      (calls_of (all_of R))) (calls_of (all_of P))
  same4 = ap (λ (h : List Entry). after start (calls_of h)) history_is
      ∙ after-append start ((all_of F ++ E) ++ all_of R) (all_of P)
      ∙ ap (λ (t : Target). after t (calls_of (all_of P))) same3

  pub places_len : n3 + length (all_of P) ≡ length (all_of F ++ (E ++ (all_of R ++ all_of P)))
  places_len = omega (
    arith,
    len1,
    len2,
    len3,
    length-append (all_of F) (E ++ (all_of R ++ all_of P)),
    length-append E (all_of R ++ all_of P),
    length-append (all_of R) (all_of P),
  )

  pub assembled : Assembled the_run 1 files (joined n3 (joined n2 (joined 0 (nils files) F) R) P)
      (placed_from 0 (all_of F)) (placed_from n2 (all_of R)) (placed_from n3 (all_of P)) n3
  assembled =
      assemble the_run 1 files 0 n2 n3 n3 [] (all_of F ++ E) ((all_of F ++ E) ++ all_of R)
      (E ++ (all_of R ++ all_of P)) (all_of P) [] F R P refl
      (omega (arith, len1, len2, length-append (all_of F) E))
      (omega (
        arith,
        len1,
        len2,
        len3,
        length-append (all_of F) E,
        length-append (all_of F ++ E) (all_of R),
      ))
      refl (sym (append_assoc (all_of F) E (all_of R ++ all_of P)))
      (history_is ∙ ap (λ (x : List Entry). ((all_of F ++ E) ++ all_of R) ++ x)
      (sym (append-nil (all_of P))))
      roundF
      (subst (λ (t : Target). Round AnySize false 1 files (joined 0 (nils files) F) t R) (sym same2)
      roundR)
      (subst (λ (t : Target). Round AnySize true 1 files (joined n2 (joined 0 (nils files) F) R) t P)
      (sym same3) roundP)
      (subst (λ (t : Target). EachStands HasEnded t 1 files
      (joined n3 (joined n2 (joined 0 (nils files) F) R) P)) (sym same4) ended)
      (omega (arith, len1, len2)) (omega (arith, len3)) (omega (arith, len3))

  pub legal : IsLegalRun the_run
  legal =
      IsLegal-append start (all_of F) (E ++ (all_of R ++ all_of P))
      (round_legal IsFrontLong false 1 files (nils files) start F roundF)
      (IsLegal-append (after start (calls_of (all_of F))) E (all_of R ++ all_of P) legalE
      (IsLegal-append (after (after start (calls_of (all_of F))) (calls_of E)) (all_of R) (all_of P)
      (round_legal AnySize false 1 files (joined 0 (nils files) F) _ R roundR)
      (round_legal AnySize true 1 files (joined n2 (joined 0 (nils files) F) R) _ P roundP)))

  -- the history's places, piece by piece
  places : placed_from 0 (all_of F ++ (E ++ (all_of R ++ all_of P)))
      ≡ placed_from 0 (all_of F) ++ (placed_from n1 E ++ (placed_from n2 (all_of R)
      ++ placed_from n3 (all_of P)))
  places =
      placed_from-append 0 (all_of F) (E ++ (all_of R ++ all_of P))
      ∙ ap (λ (x : List Placed). placed_from 0 (all_of F) ++ x)
      (ap (λ m. placed_from m (E ++ (all_of R ++ all_of P))) (sym len1)
      ∙ placed_from-append n1 E (all_of R ++ all_of P)
      ∙ ap (λ (x : List Placed). placed_from n1 E ++ x)
      (ap (λ m. placed_from m (all_of R ++ all_of P)) (sym len2)
      ∙ placed_from-append n2 (all_of R) (all_of P)
      ∙ ap (λ m. placed_from n2 (all_of R) ++ placed_from m (all_of P)) (sym len3)))

  pub turn : IsInTurn the_run
  turn =
      rw (assembled.fronts_are, assembled.rests_are, assembled.finals_are) (sym places)

  pub ordered : IsOrdered the_run
  ordered = record {
    rising = (
      is_rising n1 (placed_from n1 E)
          (subst (λ (x : List Placed). Rises n1 x) (append-nil (placed_from n1 E))
          (rises_on n1 E [] tt)),
      assembled.rising,
    );
    merged =
        subst (λ (x : List Placed). IsPermutation x (placed_from 0
        (all_of F ++ (E ++ (all_of R ++ all_of P)))))
        (sym (flat_map-cons (λ (list : List Placed). list) (placed_from n1 E)
        (joined n3 (joined n2 (joined 0 (nils files) F) R) P)))
        (subst (λ (x : List Placed). IsPermutation (placed_from n1 E
        ++ flat_map (λ (list : List Placed). list)
        (joined n3 (joined n2 (joined 0 (nils files) F) R) P)) x) (sym places)
        (IsPermutation-trans
        (placed_from n1 E ++ flat_map (λ (list : List Placed). list)
        (joined n3 (joined n2 (joined 0 (nils files) F) R) P))
        (placed_from n1 E ++ (placed_from 0 (all_of F) ++ (placed_from n2 (all_of R)
        ++ placed_from n3 (all_of P))))
        (placed_from 0 (all_of F) ++ (placed_from n1 E ++ (placed_from n2 (all_of R)
        ++ placed_from n3 (all_of P))))
        (IsPermutation-append_right (placed_from n1 E) (flat_map (λ (list : List Placed). list)
        (joined n3 (joined n2 (joined 0 (nils files) F) R) P))
        (placed_from 0 (all_of F) ++ (placed_from n2 (all_of R) ++ placed_from n3 (all_of P)))
        assembled.merged)
        (bring_front (placed_from n1 E) (placed_from 0 (all_of F)) (placed_from n2 (all_of R)
        ++ placed_from n3 (all_of P)))));
  }

  made_at_last : HasMade (length script) (target_after_all the_run)
      (editing_after_all nothing_edited E)
  made_at_last =
      subst (λ (t : Target). HasMade (length script) t (editing_after_all nothing_edited E))
      (sym same4)
      (made_along (length script)
      (after (after (after start (calls_of (all_of F))) (calls_of E)) (calls_of (all_of R)))
      (after (after (after (after start (calls_of (all_of F))) (calls_of E)) (calls_of (all_of R)))
      (calls_of (all_of P))) (editing_after_all nothing_edited E)
      (round_leaves leaves AnySize true 1 files (joined n2 (joined 0 (nils files) F) R) _ P
      (omega arith) roundP)
      (made_along (length script) (after (after start (calls_of (all_of F))) (calls_of E))
      (after (after (after start (calls_of (all_of F))) (calls_of E)) (calls_of (all_of R)))
      (editing_after_all nothing_edited E)
      (round_leaves leaves AnySize false 1 files (joined 0 (nils files) F) _ R (omega arith) roundR)
      made))

  pub served : IsServed the_run
  served = record {
    queues = assembled.serves;
    script = serves_script the_run nothing_edited (all_of F) E (all_of R ++ all_of P) n1 refl
        (omega (arith, len1)) edits (no_edit (target_after_all the_run) script (editing_after_all nothing_edited E)
        made_at_last);
    first = subst (λ (x : List Placed). AreFrom 0 x) (sym assembled.fronts_are)
        (are_from 0 (all_of F));
    last = placed_before n3
        (placed_from n1 E ++ bodies files (joined n3 (joined n2 (joined 0 (nils files) F) R) P))
        (finals files (joined n3 (joined n2 (joined 0 (nils files) F) R) P))
        (all_append (λ (x : Placed). x.place < n3) (placed_from n1 E)
        (bodies files (joined n3 (joined n2 (joined 0 (nils files) F) R) P))
        (below_all n1 n3 E (omega (arith, len2, len3))) assembled.early)
        (subst (λ (x : List Placed). AllByRecursion (λ (y : Placed). n3 ≤ y.place) x)
        (sym assembled.finals_are) (above_all n3 n3 (all_of P) (omega arith)));
  }

-- ---- prints
pub hold_records : (os : List Output) (lists : List (List Placed)) → PrintEach os lists
    → HoldRecords os lists
hold_records [] [] a = tt
hold_records [] (l ∷ lists) a = absurd a
hold_records (o ∷ os) [] a = absurd a
hold_records (o ∷ os) (l ∷ lists) a = (a.0.records, hold_records os lists a.1)

sum-cons : {X : Type 0} (f : X → ℕ) (x : X) (xs : List X) → sum_by f (x ∷ xs) ≡ f x + sum_by f xs
sum-cons f x xs = sum_by-append f (x ∷ []) xs ∙ omega arith

-- a number of the outputs is that of what all queues did
pub sum_is : (f : Output → ℕ) (g : Placed → ℕ)
    → ((o : Output) (list : List Placed) → Prints o list → f o ≡ sum_by g list)
    → (os : List Output) (lists : List (List Placed)) → PrintEach os lists
    → sum_by f os ≡ sum_by g (flat_map (λ (list : List Placed). list) lists)
sum_is f g each [] [] a = refl
sum_is f g each [] (l ∷ lists) a = absurd a
sum_is f g each (o ∷ os) [] a = absurd a
sum_is f g each (o ∷ os) (l ∷ lists) a =
    let one : f o ≡ sum_by g l = each o l a.0 in
    let others : sum_by f os ≡ sum_by g (flat_map (λ (list : List Placed). list) lists) =
    sum_is f g each os lists a.1 in
    let more : sum_by g (flat_map (λ (list : List Placed). list) (l ∷ lists))
    ≡ sum_by g l + sum_by g (flat_map (λ (list : List Placed). list) lists) =
    ap (sum_by g) (flat_map-cons (λ (list : List Placed). list) l lists)
    ∙ sum_by-append g l (flat_map (λ (list : List Placed). list) lists) in
    omega (arith, sum-cons f o os, one, others, more)

-- ---- the start
pub nils_are : (fs : List CapsuleFile) → empties fs ≡ nils (files_of fs)
nils_are [] = refl
nils_are (f ∷ fs) = ap (λ (x : List (List Placed)). [] ∷ x) (nils_are fs)

pub nothing_yet : (t : Target) (queue : ℕ) (files : List (List Capsule))
    → EachStands HasNothing t queue files (nils files)
nothing_yet t queue [] = tt
nothing_yet t queue (f ∷ files) = (refl, nothing_yet t (queue + 1) files)

pub nothing_made : (t : Target) → HasMade 0 t nothing_edited
nothing_made t = record { made_is = refl; no_drain = λ next. refl }

-- ---- all of it
module _ (own : BindingsAreOwn) (leaves : QueuesLeaveDesk) (plan : Plan) (passed_over : ℕ)
    (start : Target) (script : List ScriptEdit) (fs : List CapsuleFile) (k0 k4 : Kept)
    (os0 os3 : List Output) (e0 e1 : Edited) (places : ℕ) (o : Served) (st : StandsFor k0 start)
    (fresh : AreFresh fs os0) (none : Journals e0 [])
    (s : ServesInTurn script fs k0 os0 e0 k4 os3 e1 places) (outputs_are : o.outputs.items ≡ os3)
    (journal_is : o.journal.items ≡ e1.lines.items) (places_are : o.places ≡ places)
    (accepted_is : o.accepted ≡ e1.accepted) (refused_is : o.refused ≡ e1.refused)
    (drains_are : o.drains ≡ e1.drains) where
  number : (f : Output → ℕ) (g : Placed → ℕ) (lists : List (List Placed))
      → ((x : Output) (list : List Placed) → Prints x list → f x ≡ sum_by g list)
      → PrintEach os3 lists
      → sum_by f o.outputs.items ≡ sum_by g (flat_map (λ (list : List Placed). list) lists)
  number f g lists each prints = ap (λ (x : List Output). sum_by f x) outputs_are
      ∙ sum_is f g each os3 lists prints

  pub ran : Ran plan passed_over start script fs o
  ran =
      let files : List (List Capsule) = files_of fs in
      let x1 = s.fronts start (nils files) st
      (subst (λ (x : List (List Placed)). PrintEach os0 x) (nils_are fs) fresh.prints)
      (nothing_yet start 1 files) in
      let t1 : Target = after start (calls_of (all_of x1.groups)) in
      let lists1 : List (List Placed) = joined 0 (nils files) x1.groups in
      let x2 = s.edits t1 nothing_edited [] x1.stands none (nothing_made t1) in
      let t2 : Target = after t1 (calls_of x2.group) in
      let x3 = s.rests t2 lists1 x2.stands x1.prints
      (each_along HasFront front_stable t1 t2 1 files lists1
      (λ q le. edits_keep own script nothing_edited t1 x2.group q le x2.turns) x1.post) in
      let t3 : Target = after t2 (calls_of (all_of x3.groups)) in
      let lists2 : List (List Placed) = joined s.n2 lists1 x3.groups in
      let x4 = s.finals t3 lists2 x3.stands x3.prints x3.post in
      let lists3 : List (List Placed) = joined s.n3 lists2 x4.groups in
      record {
        run = record {
          plan = plan;
          start = start;
          passed_over = passed_over;
          script = script;
          files = files;
          editor = placed_from s.n1 x2.group;
          queues = lists3;
          history = all_of x1.groups ++ (x2.group ++ (all_of x3.groups ++ all_of x4.groups));
        };
        plan_is = refl;
        passed_over_is = refl;
        start_is = refl;
        script_is = refl;
        files_are = refl;
        ordered = ordered leaves plan passed_over start script files x1.groups x2.group x3.groups
            x4.groups s.n1 s.n2 s.n3 x1.round x2.legal x2.turns x3.round x4.round x4.post x2.post
            x1.count x2.count x3.count;
        served = served leaves plan passed_over start script files x1.groups x2.group x3.groups
            x4.groups s.n1 s.n2 s.n3 x1.round x2.legal x2.turns x3.round x4.round x4.post x2.post
            x1.count x2.count x3.count;
        legal = legal leaves plan passed_over start script files x1.groups x2.group x3.groups
            x4.groups s.n1 s.n2 s.n3 x1.round x2.legal x2.turns x3.round x4.round x4.post x2.post
            x1.count x2.count x3.count;
        in_turn = turn leaves plan passed_over start script files x1.groups x2.group x3.groups
            x4.groups s.n1 s.n2 s.n3 x1.round x2.legal x2.turns x3.round x4.round x4.post x2.post
            x1.count x2.count x3.count;
        printed = record {
          records = subst (λ (x : List Output). HoldRecords x lists3) (sym outputs_are)
              (hold_records os3 lists3 x4.prints);
          journal = journal_is ∙ x2.prints.lines;
          places = places_are ∙ x4.count
              ∙ places_len leaves plan passed_over start script files x1.groups x2.group x3.groups
              x4.groups s.n1 s.n2 s.n3 x1.round x2.legal x2.turns x3.round x4.round x4.post x2.post
              x1.count x2.count x3.count;
          accepted = accepted_is ∙ x2.prints.accepted;
          refused = refused_is ∙ x2.prints.refused;
          drains = drains_are ∙ x2.prints.drains;
          submitted = number (λ x. x.submitted) (λ p. submit_count p.entry.call) lists3
              (λ x l p. p.submitted) x4.prints;
          executed = number (λ x. x.executed) (λ p. execute_count p.entry.call) lists3
              (λ x l p. p.executed) x4.prints;
          commands_refused = number (λ x. x.refused) (λ p. refusal_count p.entry.call p.entry.reply)
              lists3 (λ x l p. p.refused) x4.prints;
          events = number (λ x. x.events) (λ p. event_count p.entry.call p.entry.reply) lists3
              (λ x l p. p.events) x4.prints;
          waiting = number (λ x. x.waiting) (λ p. waiting_count p.entry.reply) lists3
              (λ x l p. p.waiting) x4.prints;
          taken = number (λ x. x.taken) (λ p. payload_count p.entry.call) lists3
              (λ x l p. p.taken) x4.prints;
          given = number (λ x. x.given) (λ p. length p.entry.bytes) lists3
              (λ x l p. p.given) x4.prints;
        };
      }
