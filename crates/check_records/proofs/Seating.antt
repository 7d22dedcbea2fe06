-- The callers of a run that records tell, and one place more of it.
use Rattle.std.proofs.Common.{◌≡◌, ◌≢◌, ◌<◌, ◌⊎◌, ℕ, zero, suc, ◌+◌, List, [], ◌∷◌, length, take, Option, Some, None, slice_get, refl, sym, ap, ap₂, subst, ◌∙◌, arith, inl, inr}
use Rattle.plan_files.specs.Capsules.{Capsule}
use Rattle.response_files.specs.Responses.{Response}
use Rattle.journal_text.specs.declared.lines.JournalLine.{JournalLine}
use Rattle.tree_target.specs.Model.{Call}
use Rattle.tree_target.specs.Kept.{Kept, LeavesOthers, IsIdle}
use Rattle.tree_target.specs.Stands.{StandsFor}
use Rattle.run_transcript.specs.declared.scripts.ScriptEdit.{ScriptEdit}
use Rattle.run_transcript.specs.Runs.{Placed, Run, callers, target_at}
use Rattle.run_transcript.specs.Turns.{Progress, nothing_done, after_entry, progress_from, progress_of, next_call, Editing, editing_after}
use Rattle.run_transcript.specs.Served.{is_final}
use Rattle.run_verdicts.specs.declared.verdict.Field.{Field}
use Rattle.run_verdicts.specs.declared.verdict.Field.TheVariants as field
use Rattle.run_verdicts.specs.Nexts.{next_of_file, front_of, front_in, earlier, fronts_before, is_final_of, is_final_in, editing_from}
use Rattle.run_verdicts.proofs.Laying.{not-some}
use Rattle.check_records.specs.Told.{IsTold, record_told, entry_told, queue_told, queue_told_from, queues_told, line_told, editor_told_from}
use Rattle.check_records.specs.declared.cursor.Stage.{Stage}
use Rattle.check_records.specs.declared.cursor.Stage.TheVariants as stages
use Rattle.check_records.specs.Cursors.{progress_at, HoldsOwed}
use Rattle.check_records.specs.Steps.{Steps}
use Rattle.check_records.specs.declared.seats.Seat.{Seat}
use Rattle.check_records.specs.Seats.{Laid, Goes, MayStand, StepsAs, IsSeated, IsBound}
use Rattle.check_records.proofs.Replaying.{Here, Says, next_here, order-not, fault, fault-order, laid-more, stands-more, GoesOn}

-- ---- what stands at an index
pub told_at : (queue : ℕ) (file : List Capsule) (p : Progress) (rs : List Response) (k : ℕ) (r : Response) → slice_get rs k ≡ Some r
    → slice_get (queue_told_from queue file p rs) k
    ≡ Some (record_told queue file (progress_from p (take k (queue_told_from queue file p rs))).taken r)
told_at queue file p [] k r at = absurd (not-some r at)
told_at queue file p (x ∷ rs) zero r at = let is : x ≡ r = cc in ap (λ (y : Response). Some (record_told queue file p.taken y)) is
told_at queue file p (x ∷ rs) (suc k) r at = told_at queue file (after_entry p (entry_told queue file p.taken x)) rs k r at

pub line_at : (script : List ScriptEdit) (p : Editing) (journal : List JournalLine) (k : ℕ) (l : JournalLine) → slice_get journal k ≡ Some l
    → slice_get (editor_told_from script p journal) k ≡ Some (line_told script (editing_from p (take k (editor_told_from script p journal))) l)
line_at script p [] k l at = absurd (not-some l at)
line_at script p (x ∷ journal) zero l at = let is : x ≡ l = cc in ap (λ (y : JournalLine). Some (line_told script p y)) is
line_at script p (x ∷ journal) (suc k) l at = line_at script (editing_after p (line_told script p x).entry) journal k l at

-- the queues' lists
abbrev pub list_by : ℕ → Option (List Capsule) → Option (List Response) → Option (List Placed)
list_by queue None rs = None
list_by queue (Some file) None = None
list_by queue (Some file) (Some rs) = Some (queue_told queue file rs)

none-first : (queue : ℕ) (o : Option (List Capsule)) → list_by queue o None ≡ None
none-first queue None = refl
none-first queue (Some file) = refl

list-is : (queue : ℕ) (files : List (List Capsule)) (responses : List (List Response)) (q : ℕ)
    → slice_get (queues_told queue files responses) q ≡ list_by (queue + q) (slice_get files q) (slice_get responses q)
list-is queue [] responses q = refl
list-is queue (f ∷ files) [] q = sym (none-first (queue + q) (slice_get (f ∷ files) q))
list-is queue (f ∷ files) (rs ∷ responses) zero = let z : queue + 0 ≡ queue = omega arith in rw z refl
list-is queue (f ∷ files) (rs ∷ responses) (suc q) =
    let up : queue + suc q ≡ queue + 1 + q = omega arith in
    list-is (queue + 1) files responses q ∙ ap (λ (k : ℕ). list_by k (slice_get files q) (slice_get responses q)) (sym up)

pub queue_list : (n : ℕ) (run : Run) (script : List ScriptEdit) (files : List (List Capsule)) (responses : List (List Response)) (journal : List JournalLine)
    → IsTold n run script files responses journal → (q : ℕ)
    → slice_get (callers run) (suc q) ≡ list_by (suc q) (slice_get files q) (slice_get responses q)
queue_list n run script files responses journal told q =
    let up : 1 + q ≡ suc q = omega arith in
    ap (λ (l : List (List Placed)). slice_get l q) told.queues_are ∙ list-is 1 files responses q
    ∙ ap (λ (k : ℕ). list_by k (slice_get files q) (slice_get responses q)) up

-- ---- ready queues stay ready
idle-stays : (c : ℕ) (old new : Kept) (queue : ℕ) → LeavesOthers c old new → queue ≢ c → IsIdle old queue → IsIdle new queue
idle-stays c old new queue leaves other idle = leaves.idle queue other idle

holds-stays : (c : ℕ) (old new : Kept) (queue : ℕ) (s : Stage) (n : ℕ) (cap : Capsule) → LeavesOthers c old new → queue ≢ c
    → HoldsOwed s old queue n cap → HoldsOwed s new queue n cap
holds-stays c old new queue stages.Ready n cap leaves other h = leaves.idle queue other h
holds-stays c old new queue stages.Through n cap leaves other h = leaves.idle queue other h
holds-stays c old new queue stages.Ended n cap leaves other h = leaves.idle queue other h
holds-stays c old new queue stages.Holding n cap leaves other h = (h.0, leaves.holding queue n (length cap.payload) h.0 other h.1)

pub seated-stays : (c : ℕ) (old new : Kept) (q : ℕ) (files : List (List Capsule)) (file : List Capsule) (rs : List Response) (s : Seat)
    → LeavesOthers c old new → suc q ≢ c → IsSeated old q files file rs s → IsSeated new q files file rs s
seated-stays c old new q files file rs s leaves other seated = record {
  ready = record { in_file = seated.ready.in_file; holds = holds-stays c old new (suc q) s.cursor.stage _ _ leaves other seated.ready.holds };
  progress = seated.progress;
  front = seated.front;
  earlier = seated.earlier;
}

-- ---- one record of a queue at its place
abbrev queue-list : ℕ → List Capsule → List Response → List Placed
queue-list q file rs = queue_told (suc q) file rs

length-part : (list : List Placed) (k : ℕ) (e : Placed) → slice_get list k ≡ Some e → length (take k list) ≡ k
length-part [] k e at = absurd (not-some e at)
length-part (x ∷ list) zero e at = refl
length-part (x ∷ list) (suc k) e at = ap (λ n. suc n) (length-part list k e at)

module _ (n i : ℕ) (run : Run) (script : List ScriptEdit) (files : List (List Capsule)) (responses : List (List Response)) (journal : List JournalLine)
    (idx : ℕ → ℕ) (told : IsTold n run script files responses journal) (laid : Laid n i run idx) (lt : i < n) where
  module _ (old : Kept) (q : ℕ) (file : List Capsule) (rs : List Response) (r : Response) (s : Seat) (bound : ℕ)
      (hf : slice_get files q ≡ Some file) (hr : slice_get responses q ≡ Some rs) (at : slice_get rs s.next ≡ Some r) (place : r.head.place ≡ i)
      (is_idx : idx (suc q) ≡ s.next) (seated : IsSeated old q files file rs s) (bounds : IsBound run bound) where
    list : List Placed
    list = queue-list q file rs

    e : Placed
    e = record_told (suc q) file s.cursor.taken r

    same-taken : progress_of (take s.next (queue-list q file rs)) ≡ progress_at s.cursor
    same-taken = sym seated.progress

    here : Here run idx i (suc q) (queue-list q file rs) (record_told (suc q) file s.cursor.taken r)
    here = record {
      is_list = queue_list n run script files responses journal told q ∙ ap₂ (λ (f : Option (List Capsule)) (x : Option (List Response)). list_by (suc q) f x) hf hr;
      at = ap (slice_get (queue-list q file rs)) is_idx ∙ told_at (suc q) file nothing_done rs s.next r at
          ∙ ap (λ (p : Progress). Some (record_told (suc q) file p.taken r)) same-taken;
      place = place;
    }

    part : take (idx (suc q)) (queue-list q file rs) ≡ take s.next (queue-list q file rs)
    part = ap (λ (k : ℕ). take k (queue-list q file rs)) is_idx

    many : length (take (idx (suc q)) (queue-list q file rs)) ≡ s.next
    many = length-part (queue-list q file rs) (idx (suc q)) (record_told (suc q) file s.cursor.taken r) here.at ∙ is_idx

    file-is : slice_get run.files q ≡ Some file
    file-is = ap (λ (l : List (List Capsule)). slice_get l q) told.files_are ∙ hf

    next-is : next_here run idx i (suc q) (queue-list q file rs) ≡ next_call (target_at run i) (suc q) file (progress_at s.cursor)
    next-is = ap (λ (o : Option (List Capsule)). next_of_file (target_at run i) (suc q) o (take (idx (suc q)) (queue-list q file rs))) file-is
        ∙ ap (λ (l : List Placed). next_call (target_at run i) (suc q) file (progress_of l)) part
        ∙ ap (λ (p : Progress). next_call (target_at run i) (suc q) file p) same-taken

    front-is : front_of run (suc q) ≡ s.front
    front-is = ap front_in file-is ∙ sym seated.front

    earlier-is : earlier run (suc q) ≡ s.earlier
    earlier-is = ap (fronts_before q) told.files_are ∙ sym seated.earlier

    final-is : is_final_of run (suc q) (take (idx (suc q)) (queue-list q file rs)) ≡ is_final (length file) (progress_at s.cursor)
    final-is = ap (λ (o : Option (List Capsule)). is_final_in o (take (idx (suc q)) (queue-list q file rs))) file-is
        ∙ ap (λ (l : List Placed). is_final (length file) (progress_of l)) part
        ∙ ap (λ (p : Progress). is_final (length file) p) same-taken

    pub says-may : Says run idx i (suc q) (queue-list q file rs) → MayStand s (length file) i bound
    says-may says = record {
      turn = λ low. omega (arith, many, earlier-is, says.turn (omega (arith, many, front-is, low)));
      last = λ final. (bounds i).1 (says.last (final-is ∙ final));
    }

    pub may-says : MayStand s (length file) i bound → Says run idx i (suc q) (queue-list q file rs)
    may-says may = record {
      turn = λ low. omega (arith, many, earlier-is, may.turn (omega (arith, many, front-is, low)));
      last = λ final. (bounds i).0 (may.last (sym final-is ∙ final));
    }

    steps-in : (result : Option Field) (new : Kept) → StandsFor old (target_at run i) → StepsAs (suc q) file (Some r) s.cursor old result new
        → Steps (next_here run idx i (suc q) (queue-list q file rs)) (target_at run i) (record_told (suc q) file s.cursor.taken r).entry result new
    steps-in result new st steps = subst (λ (o : Option Call). Steps o (target_at run i) (record_told (suc q) file s.cursor.taken r).entry result new) (sym next-is) (steps (target_at run i) st)

    pub place-goes : (result : Option Field) (new : Kept) (idx' : ℕ → ℕ) → StandsFor old (target_at run i)
        → ((MayStand s (length file) i bound → ⊥) × (result ≡ Some field.Order)) ⊎ (MayStand s (length file) i bound × StepsAs (suc q) file (Some r) s.cursor old result new)
        → (result ≡ None → GoesOn idx idx' (suc q)) → Goes n i run result new idx'
    place-goes result new idx' st (inl out) on =
        subst (λ (o : Option Field). Goes n i run o new idx') (sym out.1)
        (fault-order n i run idx laid lt (order-not n i run idx laid (suc q) (queue-list q file rs) (record_told (suc q) file s.cursor.taken r) here (λ owed says. out.0 (says-may says))))
    place-goes None new idx' st (inr steps) on =
        let g = steps-in None new st steps.1 in (
          laid-more n i run idx idx' laid (suc q) (queue-list q file rs) (record_told (suc q) file s.cursor.taken r) here (may-says steps.0) new g (on refl),
          stands-more n i run idx laid lt (suc q) (queue-list q file rs) (record_told (suc q) file s.cursor.taken r) here new g,
        )
    place-goes (Some f) new idx' st (inr steps) on =
        fault n i run idx laid lt (suc q) (queue-list q file rs) (record_told (suc q) file s.cursor.taken r) here (may-says steps.0) f new (steps-in (Some f) new st steps.1)
