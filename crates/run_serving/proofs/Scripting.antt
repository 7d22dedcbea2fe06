-- What the editor's calls make, put together.
use Rattle.std.proofs.Common.{◌≡◌, ◌<◌, ℕ, zero, suc, ◌+◌, get_or, ◌&&◌, Bool, true, false, if◌then◌else◌, List, [], ◌∷◌, ◌++◌, length, find, Option, Some, None, slice_get, refl, sym, ap, subst, ◌∙◌, append_assoc, arith, eqb}
use Rattle.std.proofs.lemmas.List.{append-nil, length-append}
use Rattle.std.specs.List.{sum_by}
use Rattle.std.proofs.lemmas.List.Sums.{sum_by-append}
use Rattle.std.proofs.lemmas.Grind.{flat_map-append}
use Rattle.journal_text.specs.declared.lines.JournalLine.{JournalLine}
use Rattle.configfs_tree.specs.declared.configuration.Configuration.{Configuration}
use Rattle.configfs_tree.specs.Phases.{phase_at}
use Rattle.tree_target.specs.declared.calls.Reply.{Reply}
use Rattle.tree_target.specs.declared.calls.Reply.TheVariants as replies
use Rattle.tree_target.specs.declared.calls.Command.{Command}
use Rattle.tree_target.specs.declared.edits.Space.{Space}
use Rattle.tree_target.specs.Kept.{Kept, IsIdle, is_of}
use Rattle.configfs_tree.specs.Outcome.{Outcome, Refuses, Accepts}
use Rattle.tree_target.specs.Edits.{Edit, disables, outcome}
use Rattle.tree_target.specs.Model.{Call, AnEdit, DrainEnd, Entry, Target}
use Rattle.tree_target.specs.Steps.{edited, entry_of, reply_of, target_after, is_draining_phase, none_on, disk_at, may_end}
use Rattle.tree_target.specs.Legal.{after}
use Rattle.tree_target.specs.Stands.{StandsFor, Does, Simulates}
use Rattle.run_transcript.specs.declared.scripts.ScriptEdit.{ScriptEdit}
use Rattle.run_transcript.specs.Runs.{Placed, placed_from, calls_of}
use Rattle.run_transcript.specs.Printing.{journal_line, journal_lines, line_of_call}
use Rattle.run_transcript.specs.Sums.{accepted_count, errno_count, drain_count}
use Rattle.run_transcript.specs.Turns.{Editing, editing_after, editing_after_call, edit_after, edit_on, next_edit, disabled_on}
use Rattle.run_serving.specs.declared.editing.Edited.{Edited}
use Rattle.run_serving.specs.Lines.{Journals, AddsLines}
use Rattle.run_serving.specs.Editor.{AreEdits, HasEdited, HasMade, MakesEdits, ServesEdit, editing_after_all}
use Rattle.run_serving.proofs.Placing.{after-append, IsLegal-append, placed_from-append}

-- ---- one more line
flat-one : (x : Placed) → journal_lines (x ∷ []) ≡ journal_line x
flat-one x = append-nil (journal_line x)

sum-more : (f : Placed → ℕ) (n k : ℕ) (list : List Placed) (p : Placed) → n ≡ sum_by f list
    → k ≡ f p → n + k ≡ sum_by f (list ++ p ∷ [])
sum-more f n k list p a b = omega (arith, sum_by-append f list (p ∷ []), a, b)

pub journals_more : (old new : Edited) (more : List JournalLine) (accepted refused drains : ℕ)
    (list : List Placed) (p : Placed) → AddsLines old new more accepted refused drains
    → more ≡ journal_line p → accepted ≡ accepted_count p.entry.reply
    → refused ≡ errno_count p.entry.reply → drains ≡ drain_count p.entry.reply
    → Journals old list → Journals new (list ++ p ∷ [])
journals_more old new more accepted refused drains list p adds m a r d j = record {
  lines = adds.lines
      ∙ (rw (j.lines, m) (ap (λ (x : List JournalLine). journal_lines list ++ x) (sym (flat-one p))))
      ∙ sym (flat_map-append journal_line list (p ∷ []));
  accepted = adds.accepts ∙ sum-more (λ x. accepted_count x.entry.reply) old.accepted accepted list
      p j.accepted a;
  refused = adds.refuses ∙ sum-more (λ x. errno_count x.entry.reply) old.refused refused list p
      j.refused r;
  drains = adds.ends ∙ sum-more (λ x. drain_count x.entry.reply) old.drains drains list p j.drains
      d;
}

-- ---- calls one after another
editing-append : (p : Editing) (xs ys : List Entry) → editing_after_all p (xs ++ ys)
    ≡ editing_after_all (editing_after_all p xs) ys
editing-append p [] ys = refl
editing-append p (x ∷ xs) ys = editing-append (editing_after p x) xs ys

AreEdits-append : (script : List ScriptEdit) (p : Editing) (t : Target) (xs ys : List Entry)
    → AreEdits script p t xs
    → AreEdits script (editing_after_all p xs) (after t (calls_of xs)) ys
    → AreEdits script p t (xs ++ ys)
AreEdits-append script p t [] ys a b = b
AreEdits-append script p t (x ∷ xs) ys a b = (
  a.0,
  AreEdits-append script (editing_after p x) (target_after t x.call) xs ys a.1 b,
)

pub edits_one : (script : List ScriptEdit) (Pre Post : Target → Editing → Type 0) (k k' : Kept)
    (o o' : Edited) (place : ℕ) (call : Call) (reply : Reply) (more : List JournalLine)
    (accepted refused drains : ℕ)
    → Simulates k call reply [] k' → AddsLines o o' more accepted refused drains
    → more ≡ line_of_call place call reply
    → ((t : Target) → reply_of t call ≡ reply → (accepted ≡ accepted_count reply)
    × (refused ≡ errno_count reply) × (drains ≡ drain_count reply))
    → ((t : Target) (p : Editing) → StandsFor k t → Pre t p → next_edit t script p ≡ Some call)
    → ((t : Target) (p : Editing) → StandsFor k t → Pre t p → Does t call reply [] k'
    → Post (target_after t call) (editing_after_call p call))
    → MakesEdits script Pre k o place Post k' o' (place + 1)
edits_one script Pre Post k k' o o' place call reply more accepted refused drains does adds m counts
    calls ends t p list st journals pre =
    let done = does t st in
    let e : Entry = record { call = call; reply = reply; bytes = [] } in
    let placed : Placed = record { place = place; entry = e } in
    let is : e ≡ entry_of t call = rw (done.reply_is, done.bytes_are) refl in
    let n = counts t done.reply_is in
    record {
      group = e ∷ [];
      legal = (done.lawful, is, tt);
      turns = (calls t p st pre, tt);
      stands = done.stands;
      prints = journals_more o o' more accepted refused drains list placed adds m n.0
          n.1 n.2 journals;
      count = refl;
      post = ends t p st pre done;
    }

pub edits_none : (script : List ScriptEdit) (n : ℕ) (k : Kept) (o : Edited) (place : ℕ)
    → MakesEdits script (HasMade n) k o place (HasMade n) k o place
edits_none script n k o place t p list st journals pre = record {
  group = [];
  legal = tt;
  turns = tt;
  stands = st;
  prints = subst (λ (r : List Placed). Journals o r) (sym (append-nil list)) journals;
  count = omega arith;
  post = pre;
}

pub edits_both : (script : List ScriptEdit) (Pre Mid Post : Target → Editing → Type 0)
    (k k1 k2 : Kept) (o o1 o2 : Edited) (n n1 n2 : ℕ) → MakesEdits script Pre k o n Mid k1 o1 n1
    → MakesEdits script Mid k1 o1 n1 Post k2 o2 n2 → MakesEdits script Pre k o n Post k2 o2 n2
edits_both script Pre Mid Post k k1 k2 o o1 o2 n n1 n2 a b t p list st journals pre =
    let x = a t p list st journals pre in
    let u : Target = after t (calls_of x.group) in
    let q : Editing = editing_after_all p x.group in
    let longer : List Placed = list ++ placed_from n x.group in
    let y = b u q longer x.stands x.prints x.post in
    let places : longer ++ placed_from n1 y.group ≡ list ++ placed_from n (x.group ++ y.group) =
    append_assoc list (placed_from n x.group) (placed_from n1 y.group)
    ∙ ap (λ (r : List Placed). list ++ r) (ap (λ (m : ℕ). placed_from n x.group ++ placed_from m
    y.group) x.count ∙ sym (placed_from-append n x.group y.group)) in
    let same : after t (calls_of (x.group ++ y.group)) ≡ after u (calls_of y.group) =
    after-append t x.group y.group in
    record {
      group = x.group ++ y.group;
      legal = IsLegal-append t x.group y.group x.legal y.legal;
      turns = AreEdits-append script p t x.group y.group x.turns y.turns;
      stands = subst (λ (r : Target). StandsFor k2 r) (sym same) y.stands;
      prints = subst (λ (r : List Placed). Journals o2 r) places y.prints;
      count = omega (arith, y.count, x.count, length-append x.group y.group);
      post = subst (λ (r : Target). Post r (editing_after_all p (x.group ++ y.group))) (sym same)
          (subst (λ (r : Editing). Post (after u (calls_of y.group)) r)
          (sym (editing-append p x.group y.group)) y.post);
    }

pub edits_by : (script : List ScriptEdit) (Pre Post Other : Target → Editing → Type 0)
    (k k1 : Kept) (o o1 : Edited) (n n1 : ℕ)
    → ((u : Target) (p : Editing) → StandsFor k1 u → Post u p → Other u p)
    → MakesEdits script Pre k o n Post k1 o1 n1 → MakesEdits script Pre k o n Other k1 o1 n1
edits_by script Pre Post Other k k1 o o1 n n1 f a t p list st journals pre =
    let x = a t p list st journals pre in
    record {
      group = x.group;
      legal = x.legal;
      turns = x.turns;
      stands = x.stands;
      prints = x.prints;
      count = x.count;
      post = f (after t (calls_of x.group)) (editing_after_all p x.group) x.stands x.post;
    }

-- ---- nothing is held
same_number : (n : ℕ) → eqb n n ≡ true
same_number n = grind arith

found_first : (h : Command) (held : List Command) → find (is_of h.queue) (h ∷ held) ≡ Some h
found_first h held = rw (same_number h.queue) refl

none_held : (held : List Command) → ((q : ℕ) → find (is_of q) held ≡ None) → held ≡ []
none_held [] idle = refl
none_held (h ∷ held) idle = let a = idle h.queue in let b = found_first h held in absurd (cc (a, b))

free : (disk : Option ℕ) → none_on [] disk ≡ true
free None = refl
free (Some d) = refl

and_true : (b : Bool) → (b && true) ≡ b
and_true true = refl
and_true false = refl

-- so a drain may end exactly where it is open
pub may_end_is : (k : Kept) (sub : List ℕ) (nsid : ℕ) → ((q : ℕ) → IsIdle k q)
    → may_end k.tree k.held sub nsid ≡ is_draining_phase (phase_at k.tree sub nsid)
may_end_is k sub nsid idle =
    ap (λ (h : List Command). is_draining_phase (phase_at k.tree sub nsid)
    && none_on h (disk_at k.tree sub nsid)) (none_held k.held idle)
    ∙ ap (λ (b : Bool). is_draining_phase (phase_at k.tree sub nsid) && b)
    (free (disk_at k.tree sub nsid))
    ∙ and_true (is_draining_phase (phase_at k.tree sub nsid))

-- ---- an edit
-- it is no end of a drain
no_end_by : (x : Outcome) → 0 ≡ drain_count (edited x)
no_end_by (Refuses errno) = refl
no_end_by (Accepts u change) = refl

no_end : (t : Target) (line : ℕ) (e : Edit) (reply : Reply) → reply_of t (AnEdit line e) ≡ reply
    → 0 ≡ drain_count reply
unfolding reply_of
no_end t line e reply is = no_end_by (outcome t.tree e) ∙ ap (λ (r : Reply). drain_count r) is

next_made : (t : Target) (script : List ScriptEdit) (n : ℕ) (s : ScriptEdit) (p : Editing)
    → HasMade n t p → slice_get script n ≡ Some s
    → next_edit t script p ≡ Some (AnEdit s.line s.edit)
next_made t script n s p made at =
    made.no_drain (edit_on (slice_get script p.made))
    ∙ ap (λ m. edit_on (slice_get script m)) made.made_is
    ∙ ap (λ (o : Option ScriptEdit). edit_on o) at

pub makes_edit : (s : ScriptEdit) (k k' : Kept) (o o' : Edited) (place : ℕ) (reply : Reply)
    (more : List JournalLine) (accepted refused : ℕ)
    → Simulates k (AnEdit s.line s.edit) reply [] k'
    → AddsLines o o' more accepted refused 0
    → more ≡ line_of_call place (AnEdit s.line s.edit) reply → accepted ≡ accepted_count reply
    → refused ≡ errno_count reply
    → (script : List ScriptEdit) (n : ℕ) → slice_get script n ≡ Some s
    → MakesEdits script (HasMade n) k o place (HasEdited s n) k' o' (place + 1)
makes_edit s k k' o o' place reply more accepted refused does adds m a r script n at =
    edits_one script (HasMade n) (HasEdited s n) k k' o o' place (AnEdit s.line s.edit) reply more
    accepted refused 0 does adds m (λ t e. (a, r, no_end t s.line s.edit reply e))
    (λ t p st made. next_made t script n s p made at)
    (λ t p st made done. ap (λ x. let q : Editing = record {
      made = x + 1;
      disabled = disabled_on s.line (disables s.edit);
    } in q) made.made_is)

-- it begins no drain
pub no_space : (s : ScriptEdit) (n : ℕ) (u : Target) (p : Editing) → disables s.edit ≡ None
    → HasEdited s n u p → HasMade (n + 1) u p
no_space s n u p none is =
    subst (λ (q : Editing). HasMade (n + 1) u q) (sym is)
    (record {
      made_is = refl;
      no_drain = λ next. ap (λ (o : Option Space). edit_after u (disabled_on s.line o) next) none;
    })

closed : (b : Bool) (line : ℕ) (space : Space) (next : Option Call) → b ≡ false
    → (if b then Some (DrainEnd line space.sub space.nsid) else next) ≡ next
closed b line space next e = rw e refl

-- or none that is open now
pub no_drain : (s : ScriptEdit) (n : ℕ) (u : Target) (p : Editing) (space : Space)
    → disables s.edit ≡ Some space → is_draining_phase (phase_at u.tree space.sub space.nsid) ≡ false
    → HasEdited s n u p → HasMade (n + 1) u p
no_drain s n u p space is_space phase is =
    subst (λ (q : Editing). HasMade (n + 1) u q) (sym is)
    (record {
      made_is = refl;
      no_drain = λ next. ap (λ (o : Option Space). edit_after u (disabled_on s.line o) next) is_space
          ∙ closed (is_draining_phase (phase_at u.tree space.sub space.nsid)) s.line space next phase;
    })

-- ---- the end of its drain
open_next : (b : Bool) (line : ℕ) (space : Space) (next : Option Call) → b ≡ true
    → (if b then Some (DrainEnd line space.sub space.nsid) else next)
    ≡ Some (DrainEnd line space.sub space.nsid)
open_next b line space next e = rw e refl

drain_next : (t : Target) (script : List ScriptEdit) (s : ScriptEdit) (n : ℕ) (p : Editing)
    (space : Space) → disables s.edit ≡ Some space
    → is_draining_phase (phase_at t.tree space.sub space.nsid) ≡ true → HasEdited s n t p
    → next_edit t script p ≡ Some (DrainEnd s.line space.sub space.nsid)
drain_next t script s n p space is_space phase is =
    ap (λ (q : Editing). next_edit t script q) is
    ∙ ap (λ (o : Option Space). edit_after t (disabled_on s.line o) (edit_on (slice_get script
    (n + 1)))) is_space
    ∙ open_next (is_draining_phase (phase_at t.tree space.sub space.nsid)) s.line space
    (edit_on (slice_get script (n + 1))) phase

is_end : (t : Target) (line : ℕ) (sub : List ℕ) (nsid : ℕ) (reply : Reply)
    → reply_of t (DrainEnd line sub nsid) ≡ reply → replies.Ended ≡ reply
unfolding reply_of
is_end t line sub nsid reply is = is

counts_end : (reply : Reply) → replies.Ended ≡ reply → (0 ≡ accepted_count reply)
    × (0 ≡ errno_count reply) × (1 ≡ drain_count reply)
counts_end reply is = (
  ap (λ (r : Reply). accepted_count r) is,
  ap (λ (r : Reply). errno_count r) is,
  ap (λ (r : Reply). drain_count r) is,
)

pub makes_end : (s : ScriptEdit) (space : Space) (k k' : Kept) (o o' : Edited) (place : ℕ)
    (reply : Reply) (more : List JournalLine)
    → Simulates k (DrainEnd s.line space.sub space.nsid) reply [] k'
    → AddsLines o o' more 0 0 1
    → more ≡ line_of_call place (DrainEnd s.line space.sub space.nsid) reply
    → disables s.edit ≡ Some space
    → is_draining_phase (phase_at k.tree space.sub space.nsid) ≡ true
    → (script : List ScriptEdit) (n : ℕ)
    → MakesEdits script (HasEdited s n) k o place (HasMade (n + 1)) k' o' (place + 1)
makes_end s space k k' o o' place reply more does adds m is_space phase script n =
    edits_one script (HasEdited s n) (HasMade (n + 1)) k k' o o' place
    (DrainEnd s.line space.sub space.nsid) reply more 0 0 1 does adds m
    (λ t e. counts_end reply (is_end t s.line space.sub space.nsid reply e))
    (λ t p st is. drain_next t script s n p space is_space
    (ap (λ (x : Configuration). is_draining_phase (phase_at x space.sub space.nsid)) st.tree ∙ phase)
    is)
    (λ t p st is done. record {
      made_is = ap (λ (q : Editing). q.made) is;
      no_drain = λ next. refl;
    })

-- ---- the three ways
pub serves_plain : (s : ScriptEdit) (k k' : Kept) (o o' : Edited) (place place' : ℕ)
    → disables s.edit ≡ None
    → ((script : List ScriptEdit) (n : ℕ) → slice_get script n ≡ Some s
    → MakesEdits script (HasMade n) k o place (HasEdited s n) k' o' place')
    → ServesEdit s k o place k' o' place'
serves_plain s k k' o o' place place' none a script n at =
    edits_by script (HasMade n) (HasEdited s n) (HasMade (n + 1)) k k' o o' place place'
    (λ u p st is. no_space s n u p none is) (a script n at)

pub serves_closed : (s : ScriptEdit) (space : Space) (k k' : Kept) (o o' : Edited)
    (place place' : ℕ) → disables s.edit ≡ Some space
    → is_draining_phase (phase_at k'.tree space.sub space.nsid) ≡ false
    → ((script : List ScriptEdit) (n : ℕ) → slice_get script n ≡ Some s
    → MakesEdits script (HasMade n) k o place (HasEdited s n) k' o' place')
    → ServesEdit s k o place k' o' place'
serves_closed s space k k' o o' place place' is_space phase a script n at =
    edits_by script (HasMade n) (HasEdited s n) (HasMade (n + 1)) k k' o o' place place'
    (λ u p st is. no_drain s n u p space is_space
    (ap (λ (x : Configuration). is_draining_phase (phase_at x space.sub space.nsid)) st.tree ∙ phase)
    is) (a script n at)

pub serves_ended : (s : ScriptEdit) (k k1 k2 : Kept) (o o1 o2 : Edited) (n0 n1 n2 : ℕ)
    → ((script : List ScriptEdit) (n : ℕ) → slice_get script n ≡ Some s
    → MakesEdits script (HasMade n) k o n0 (HasEdited s n) k1 o1 n1)
    → ((script : List ScriptEdit) (n : ℕ)
    → MakesEdits script (HasEdited s n) k1 o1 n1 (HasMade (n + 1)) k2 o2 n2)
    → ServesEdit s k o n0 k2 o2 n2
serves_ended s k k1 k2 o o1 o2 n0 n1 n2 a b script n at =
    edits_both script (HasMade n) (HasEdited s n) (HasMade (n + 1)) k k1 k2 o o1 o2 n0 n1 n2
    (a script n at) (b script n)

-- ---- queues stay idle where what is held stays
pub idle_along : (k k' : Kept) → k'.held ≡ k.held → ((q : ℕ) → IsIdle k q)
    → (q : ℕ) → IsIdle k' q
idle_along k k' same idle q = ap (λ (h : List Command). find (is_of q) h) same ∙ idle q

-- ---- one more edit of the script
some_at : (script : List ScriptEdit) (n : ℕ) (d : ScriptEdit) → n < length script
    → slice_get script n ≡ Some (get_or script n d)
some_at [] n d lt = absurd (omega arith)
some_at (s ∷ script) zero d lt = refl
some_at (s ∷ script) (suc n) d lt = some_at script n d (omega arith)

pub edits_more : (script : List ScriptEdit) (n : ℕ) (s d : ScriptEdit)
    (Pre : Target → Editing → Type 0) (k k1 k2 : Kept) (o o1 o2 : Edited) (n0 n1 n2 : ℕ)
    → n < length script → s ≡ get_or script n d
    → MakesEdits script Pre k o n0 (HasMade n) k1 o1 n1 → ServesEdit s k1 o1 n1 k2 o2 n2
    → MakesEdits script Pre k o n0 (HasMade (n + 1)) k2 o2 n2
edits_more script n s d Pre k k1 k2 o o1 o2 n0 n1 n2 lt is a b =
    edits_both script Pre (HasMade n) (HasMade (n + 1)) k k1 k2 o o1 o2 n0 n1 n2 a
    (b script n (some_at script n d lt ∙ ap (λ (x : ScriptEdit). Some x) (sym is)))
