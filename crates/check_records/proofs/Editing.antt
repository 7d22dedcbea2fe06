-- One line of the journal, made again.
use Rattle.std.proofs.Common.{◌≡◌, ◌<◌, ◌+◌, ℕ, true, false, List, [], length, get_or, Option, Some, None, slice_get, is_some, refl, sym, ap, subst, ◌∙◌, eqb, eq-eqb}
use Rattle.std.proofs.lemmas.Option.{slice_get-get_or}
use Rattle.run_records.specs.declared.records.Answer.TheVariants as answers
use Rattle.journal_text.specs.declared.lines.Answer.{Answer as EditAnswer}
use Rattle.journal_text.specs.declared.lines.Answer.TheVariants as edits
use Rattle.configfs_tree.specs.declared.configuration.Configuration.{Configuration}
use Rattle.configfs_tree.specs.Outcome.{Outcome, Refuses, Accepts}
use Rattle.configfs_tree.specs.Phases.{phase_at}
use Rattle.tree_target.specs.declared.edits.Space.{Space}
use Rattle.tree_target.specs.declared.calls.Reply.{Reply}
use Rattle.tree_target.specs.declared.calls.Reply.TheVariants as replies
use Rattle.tree_target.specs.Edits.{Edit, disables, outcome}
use Rattle.tree_target.specs.Kept.{Kept}
use Rattle.tree_target.specs.Model.{Call, AnEdit, DrainEnd, Entry, Target}
use Rattle.tree_target.specs.Steps.{is_draining_phase, reply_of, bytes_of, edited, entry_of}
use Rattle.tree_target.specs.Stands.{StandsFor, Does}
use Rattle.run_transcript.specs.declared.scripts.ScriptEdit.{ScriptEdit}
use Rattle.run_transcript.specs.Printing.{answer_of, completion_of, no_completion}
use Rattle.run_transcript.specs.Turns.{Disabled, Editing, disabled_on, edit_after, edit_on, editing_after}
use Rattle.run_verdicts.specs.declared.verdict.Field.TheVariants as field
use Rattle.check_records.specs.Told.{answer_told, edit_told, done_told}
use Rattle.check_records.specs.declared.editor_steps.Drain.{Drain}
use Rattle.check_records.specs.declared.editor_steps.EditCursor.{EditCursor}
use Rattle.check_records.specs.Editors.{disabled_by, disabled_in, editing_at, end_or}
use Rattle.check_records.specs.Steps.{Goes, Departs}

pub edit_there : (script : List ScriptEdit) (i : ℕ) (s : ScriptEdit) → i < length script → s ≡ get_or script i s → slice_get script i ≡ Some s
edit_there script i s lt is = slice_get-get_or script i s lt ∙ ap (λ (x : ScriptEdit). Some x) (sym is)

pub none_of : {A : Type 0} (o : Option A) → is_some o ≡ false → o ≡ None
none_of None h = refl
none_of (Some a) h = absurd cc

-- ---- open drains
pub nothing_open : (t : Target) (script : List ScriptEdit) (o : Option ℕ) (next : Option Call) → disabled_in script o ≡ None
    → edit_after t (disabled_in script o) next ≡ next
nothing_open t script o next is = ap (λ (d : Option Disabled). edit_after t d next) is

pub disables_none : (script : List ScriptEdit) (i : ℕ) (s : ScriptEdit) → slice_get script i ≡ Some s → disables s.edit ≡ None → disabled_by (slice_get script i) ≡ None
disables_none script i s at is =
    ap disabled_by at ∙ ap (λ (o : Option Space). disabled_on s.line o) is

pub disables_some : (script : List ScriptEdit) (i : ℕ) (s : ScriptEdit) (x : Space) → slice_get script i ≡ Some s → disables s.edit ≡ Some x
    → disabled_by (slice_get script i) ≡ Some (record { line = s.line; space = x })
disables_some script i s x at is =
    ap disabled_by at ∙ ap (λ (o : Option Space). disabled_on s.line o) is

pub drained : (t : Target) (k : Kept) (d : Disabled) (next : Option Call) → StandsFor k t
    → is_draining_phase (phase_at k.tree d.space.sub d.space.nsid) ≡ true
    → edit_after t (Some d) next ≡ Some (DrainEnd d.line d.space.sub d.space.nsid)
drained t k d next st is =
    let here : is_draining_phase (phase_at t.tree d.space.sub d.space.nsid) ≡ true =
    ap (λ (c : Configuration). is_draining_phase (phase_at c d.space.sub d.space.nsid)) st.tree ∙ is in
    rw here refl

pub not_drained : (t : Target) (k : Kept) (d : Disabled) (next : Option Call) → StandsFor k t
    → is_draining_phase (phase_at k.tree d.space.sub d.space.nsid) ≡ false → edit_after t (Some d) next ≡ next
not_drained t k d next st is =
    let here : is_draining_phase (phase_at t.tree d.space.sub d.space.nsid) ≡ false =
    ap (λ (c : Configuration). is_draining_phase (phase_at c d.space.sub d.space.nsid)) st.tree ∙ is in
    rw here refl

-- ---- edits
edited-answer : (o : Outcome) → answer_of (edited o) ≡ answers.NoEvent
edited-answer (Refuses errno) = refl
edited-answer (Accepts u change) = refl

edited-completion : (o : Outcome) → completion_of (edited o) ≡ no_completion
edited-completion (Refuses errno) = refl
edited-completion (Accepts u change) = refl

told-answer : (a : EditAnswer) → answer_of (answer_told a) ≡ answers.NoEvent
told-answer edits.Accepted = refl
told-answer (edits.Refused errno) = refl

told-completion : (a : EditAnswer) → completion_of (answer_told a) ≡ no_completion
told-completion edits.Accepted = refl
told-completion (edits.Refused errno) = refl

reply-answer : (t : Target) (line : ℕ) (e : Edit) → answer_of (reply_of t (AnEdit line e)) ≡ answers.NoEvent
unfolding reply_of
reply-answer t line e = edited-answer (outcome t.tree e)

reply-completion : (t : Target) (line : ℕ) (e : Edit) → completion_of (reply_of t (AnEdit line e)) ≡ no_completion
unfolding reply_of
reply-completion t line e = edited-completion (outcome t.tree e)

edit-bytes : (t : Target) (line : ℕ) (e : Edit) → bytes_of t (AnEdit line e) ≡ []
unfolding bytes_of
edit-bytes t line e = refl

told-edit : (s : ScriptEdit) (line : ℕ) → s.line ≡ line → edit_told (Some s) line ≡ AnEdit s.line s.edit
told-edit s line is = let t : eqb s.line line ≡ true = eq-eqb s.line line is in rw t refl

abbrev entry_edit : Call → EditAnswer → Entry
entry_edit call answer = record { call = call; reply = answer_told answer; bytes = [] }

pub next_is : (t : Target) (script : List ScriptEdit) (made : ℕ) (s : ScriptEdit) (o : Option Drain) (disabled : Option Disabled)
    → edit_after t disabled (edit_on (slice_get script made)) ≡ end_or o (edit_on (slice_get script made)) → o ≡ None → slice_get script made ≡ Some s
    → edit_after t disabled (edit_on (slice_get script made)) ≡ Some (AnEdit s.line s.edit)
next_is t script made s o disabled next none at =
    next ∙ ap (λ (x : Option Drain). end_or x (edit_on (slice_get script made))) none ∙ ap edit_on at

same-entry : (t : Target) (call : Call) (reply : Reply) (bytes : List ℕ) → reply ≡ reply_of t call → bytes ≡ bytes_of t call
    → ◌≡◌ {A = Entry} (record { call = call; reply = reply; bytes = bytes }) (entry_of t call)
same-entry t call reply bytes r b =
    ap (λ (x : Reply). let e : Entry = record { call = call; reply = x; bytes = bytes } in e) r
    ∙ ap (λ (x : List ℕ). let e : Entry = record { call = call; reply = reply_of t call; bytes = x } in e) b

pub edit_departs : (next : Option Call) (t : Target) (script : List ScriptEdit) (made line : ℕ) (s : ScriptEdit) (answer : EditAnswer) (reply : Reply) (bytes : List ℕ) (new : Kept)
    → next ≡ Some (AnEdit s.line s.edit) → slice_get script made ≡ Some s → s.line ≡ line → Does t (AnEdit s.line s.edit) reply bytes new
    → (answer_told answer ≡ reply → ⊥) → Departs next t (entry_edit (edit_told (slice_get script made) line) answer) field.Errno
edit_departs next t script made line s answer reply bytes new is at same does other =
    let call : edit_told (slice_get script made) line ≡ AnEdit s.line s.edit = ap (λ (o : Option ScriptEdit). edit_told o line) at ∙ told-edit s line same in
    subst (λ (x : Call). Departs next t (entry_edit x answer) field.Errno) (sym call) (record {
      owed = is;
      lawful = refl;
      differs = (
        told-answer answer ∙ sym (reply-answer t s.line s.edit),
        told-completion answer ∙ sym (reply-completion t s.line s.edit),
        sym (edit-bytes t s.line s.edit),
        λ h. other (h ∙ does.reply_is),
      );
    })

pub edit_goes : (next : Option Call) (t : Target) (script : List ScriptEdit) (made line : ℕ) (s : ScriptEdit) (answer : EditAnswer) (reply : Reply) (new : Kept)
    → next ≡ Some (AnEdit s.line s.edit) → slice_get script made ≡ Some s → s.line ≡ line → Does t (AnEdit s.line s.edit) reply [] new
    → answer_told answer ≡ reply → Goes next t (entry_edit (edit_told (slice_get script made) line) answer) new
edit_goes next t script made line s answer reply new is at same does told =
    let call : edit_told (slice_get script made) line ≡ AnEdit s.line s.edit = ap (λ (o : Option ScriptEdit). edit_told o line) at ∙ told-edit s line same in
    subst (λ (x : Call). Goes next t (entry_edit x answer) new) (sym call) (record {
      owed = is;
      lawful = does.lawful;
      is = same-entry t (AnEdit s.line s.edit) (answer_told answer) [] (told ∙ sym does.reply_is) (sym does.bytes_are);
      stands = does.stands;
    })

-- the cursor stands behind the edit
pub edit_progress : (script : List ScriptEdit) (at : EditCursor) (line : ℕ) (s : ScriptEdit) (answer : EditAnswer) → slice_get script at.made ≡ Some s → s.line ≡ line
    → editing_at script (record { made = at.made + 1; «open» = Some at.made })
    ≡ editing_after (editing_at script at) (entry_edit (edit_told (slice_get script at.made) line) answer)
edit_progress script at line s answer there same =
    let call : edit_told (slice_get script at.made) line ≡ AnEdit s.line s.edit = ap (λ (o : Option ScriptEdit). edit_told o line) there ∙ told-edit s line same in
    ap (λ (d : Option Disabled). let e : Editing = record { made = at.made + 1; disabled = d } in e) (ap disabled_by there)
    ∙ sym (ap (λ (x : Call). editing_after (editing_at script at) (entry_edit x answer)) call)

-- ---- ends of drains
drain-reply : (t : Target) (line nsid : ℕ) (sub : List ℕ) → replies.Ended ≡ reply_of t (DrainEnd line sub nsid)
unfolding reply_of
drain-reply t line nsid sub = refl

drain-bytes : (t : Target) (line nsid : ℕ) (sub : List ℕ) → [] ≡ bytes_of t (DrainEnd line sub nsid)
unfolding bytes_of
drain-bytes t line nsid sub = refl

pub told_done : (o : Option Disabled) (d : Disabled) (line : ℕ) → o ≡ Some d → d.line ≡ line → done_told o line ≡ DrainEnd d.line d.space.sub d.space.nsid
told_done o d line is same =
    let t : eqb d.line line ≡ true = eq-eqb d.line line same in
    ap (λ (x : Option Disabled). done_told x line) is ∙ (rw t refl)

abbrev entry_done : Call → Entry
entry_done call = record { call = call; reply = replies.Ended; bytes = [] }

pub done_goes : (next : Option Call) (t : Target) (o : Option Disabled) (d : Disabled) (line : ℕ) (reply : Reply) (bytes : List ℕ) (new : Kept)
    → next ≡ Some (DrainEnd d.line d.space.sub d.space.nsid) → o ≡ Some d → d.line ≡ line → Does t (DrainEnd line d.space.sub d.space.nsid) reply bytes new
    → Goes next t (entry_done (done_told o line)) new
done_goes next t o d line reply bytes new is there same does =
    let call : done_told o line ≡ DrainEnd d.line d.space.sub d.space.nsid = told_done o d line there same in
    let done : Does t (DrainEnd d.line d.space.sub d.space.nsid) reply bytes new = subst (λ (n : ℕ). Does t (DrainEnd n d.space.sub d.space.nsid) reply bytes new) (sym same) does in
    subst (λ (x : Call). Goes next t (entry_done x) new) (sym call) (record {
      owed = is;
      lawful = done.lawful;
      is = same-entry t (DrainEnd d.line d.space.sub d.space.nsid) replies.Ended [] (drain-reply t d.line d.space.nsid d.space.sub) (drain-bytes t d.line d.space.nsid d.space.sub);
      stands = done.stands;
    })
