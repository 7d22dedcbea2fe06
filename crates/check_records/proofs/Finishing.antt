-- The end of a run that was made again.
use Rattle.std.proofs.Common.{◌≡◌, ◌<◌, ℕ, zero, suc, ◌+◌, Bool, true, false, List, [], ◌∷◌, length, take, drop, get_or, Option, Some, None, slice_get, option_map, is_some, refl, sym, ap, ap₂, subst, ◌∙◌, arith, inr, true≢false, ltb, ltb-true, ltb-false}
use Rattle.std.proofs.lemmas.Option.{slice_get-map, slice_get-get_or, slice_get_within}
use Rattle.plan_files.specs.Capsules.{Capsule}
use Rattle.response_files.specs.Responses.{Response}
use Rattle.journal_text.specs.declared.lines.JournalLine.{JournalLine}
use Rattle.tree_target.specs.Kept.{Kept}
use Rattle.tree_target.specs.Model.{Call, Entry, Target}
use Rattle.tree_target.specs.Stands.{StandsFor}
use Rattle.run_transcript.specs.declared.capsule_files.CapsuleFile.{CapsuleFile}
use Rattle.run_transcript.specs.declared.scripts.ScriptEdit.{ScriptEdit}
use Rattle.run_transcript.specs.Runs.{Placed, Run, callers, target_at, target_after_all}
use Rattle.run_transcript.specs.Turns.{Editing, Progress, next_call, next_edit, progress_of}
use Rattle.run_verdicts.specs.declared.verdict.Field.TheVariants as field
use Rattle.run_verdicts.specs.Places.{ArePlaces}
use Rattle.run_verdicts.specs.Nexts.{told, places_of, next_of, next_of_file, editing_of}
use Rattle.run_verdicts.specs.Faults.{AreDone, IsRight, IsFault}
use Rattle.run_verdicts.proofs.Laying.{not-some}
use Rattle.run_verdicts.proofs.History.{length-history}
use Rattle.check_records.specs.Told.{IsTold, queue_told}
use Rattle.check_records.specs.Cursors.{capsules_of, progress_at, step_call, IsInside}
use Rattle.check_records.specs.declared.cursor.Step.{Step}
use Rattle.check_records.specs.Editors.{editing_at}
use Rattle.check_records.specs.declared.seats.Responses.{Responses}
use Rattle.check_records.specs.declared.seats.Seat.{Seat}
use Rattle.check_records.specs.declared.seats.Desk.{Desk}
use Rattle.check_records.specs.Seats.{Laid, IsCut, AreHigh, AreSeated, IsAtDesk, AreEnded, AreInside, AreFresh, EndedAt, HasOneLeft, index_of, seat_next, files_of, all_responses, responses_of}
use Rattle.check_records.proofs.Replaying.{all-taken, target-end}
use Rattle.check_records.proofs.Seating.{queue_list, list_by}

same-list : (a b : List Placed) → Some a ≡ Some b → a ≡ b
same-list a b h = cc

-- ---- the start
high-all : (list : List Placed) → AreHigh 0 list
high-all [] = tt
high-all (e ∷ list) = (omega arith, high-all list)

pub fresh-laid : (n : ℕ) (run : Run) (script : List ScriptEdit) (files : List (List Capsule)) (responses : List (List Response)) (journal : List JournalLine) (seats : List Seat)
    → IsTold n run script files responses journal → ArePlaces n (places_of (told run)) → AreFresh seats → Laid n 0 run (index_of 0 seats)
fresh-laid n run script files responses journal seats is_told places fresh = record {
  places = places;
  history_is = is_told.history_is;
  cut = λ c list is_list. subst (λ (k : ℕ). IsCut 0 (take k list) (drop k list)) (sym (index-none c)) (record { low = tt; high = high-all list });
  agree = record { places = places; below = λ k lt. absurd (omega (arith, lt)) };
} where
  by-option : (o : Option Seat) (q : ℕ) → slice_get seats q ≡ o → seat_next o ≡ 0
  by-option None q is = refl
  by-option (Some s) q is =
      let lt : q < length seats = slice_get_within seats q s is in
      let here : slice_get seats q ≡ Some (get_or seats q s) = slice_get-get_or seats q s lt in
      let same : get_or seats q s ≡ s = same-seat _ _ (sym here ∙ is) in
      sym (ap (λ (x : Seat). x.next) same) ∙ fresh q s lt where
        same-seat : (a b : Seat) → Some a ≡ Some b → a ≡ b
        same-seat a b h = cc

  index-none : (c : ℕ) → index_of 0 seats c ≡ 0
  index-none zero = refl
  index-none (suc q) = by-option (slice_get seats q) q refl

pub inside : (k : Kept) (files : List CapsuleFile) (responses : List Responses) (seats : List Seat) → length responses ≡ length files
    → AreSeated k (files_of files) (all_responses responses) seats → AreInside files seats
inside k files responses seats same seated q f s hf hs =
    let lt : q < length responses = omega (arith, slice_get_within files q f hf, same) in
    by-responses (slice_get responses q) refl lt where
      by-responses : (o : Option Responses) → slice_get responses q ≡ o → q < length responses → IsInside (capsules_of f) s.cursor
      by-responses None is lt = absurd (not-none q responses lt is) where
        not-none : (q : ℕ) (xs : List Responses) → q < length xs → slice_get xs q ≡ None → ⊥
        not-none q [] lt h = omega (arith, lt)
        not-none zero (x ∷ xs) lt h = absurd cc
        not-none (suc q) (x ∷ xs) lt h = not-none q xs (omega (arith, lt)) h
      by-responses (Some r) is lt =
          (seated q (capsules_of f) (responses_of r) s
          (slice_get-map capsules_of files q ∙ ap (λ (o : Option CapsuleFile). option_map capsules_of o) hf)
          (slice_get-map responses_of responses q ∙ ap (λ (o : Option Responses). option_map responses_of o) is) hs).ready.in_file

-- ---- seats and files at an index
pub file_at : (files : List CapsuleFile) (q : ℕ) (f : CapsuleFile) → q < length files → f ≡ get_or files q f → slice_get files q ≡ Some f
file_at files q f lt is = slice_get-get_or files q f lt ∙ ap (λ (x : CapsuleFile). Some x) (sym is)

same-file : (a b : CapsuleFile) → Some a ≡ Some b → a ≡ b
same-file a b h = cc

same-seat : (a b : Seat) → Some a ≡ Some b → a ≡ b
same-seat a b h = cc

is-left : (o : Option Step) (f : Step → Call) → is_some o ≡ true → option_map f o ≡ None → ⊥
is-left None f some h = true≢false (sym some)
is-left (Some s) f some h = not-some (f s) (sym h)

is-ended : (o : Option Step) (f : Step → Call) → is_some o ≡ false → option_map f o ≡ None
is-ended None f none = refl
is-ended (Some s) f none = absurd (true≢false none)

abbrev pub NextAt : Kept → ℕ → CapsuleFile → Seat → Option Step → Type 0
NextAt k queue f s o = (t : Target) → StandsFor k t → next_call t queue (capsules_of f) (progress_at s.cursor) ≡ option_map (step_call queue (capsules_of f) s.cursor.taken) o

pub one-left : (k : Kept) (files : List CapsuleFile) (seats : List Seat) (q : ℕ) (f : CapsuleFile) (s : Seat) (o : Option Step) → slice_get files q ≡ Some f → slice_get seats q ≡ Some s
    → NextAt k (q + 1) f s o → is_some o ≡ true → HasOneLeft k files seats
one-left k files seats q f s o hf hs next some =
    let up : q + 1 ≡ suc q = omega arith in
    let here : NextAt k (suc q) f s o = subst (λ (m : ℕ). NextAt k m f s o) up next in
    record { queue = q; file = f; seat = s; file_at = hf; seat_at = hs; left = λ t st none. is-left o _ some (sym (here t st) ∙ none) }

pub ended-more : (k : Kept) (files : List CapsuleFile) (seats : List Seat) (q : ℕ) (f : CapsuleFile) (s : Seat) (o : Option Step) → slice_get files q ≡ Some f → slice_get seats q ≡ Some s
    → NextAt k (q + 1) f s o → is_some o ≡ false
    → ((j : ℕ) (g : CapsuleFile) (x : Seat) → j < q → slice_get files j ≡ Some g → slice_get seats j ≡ Some x → EndedAt k j g x)
    → (j : ℕ) (g : CapsuleFile) (x : Seat) → j < q + 1 → slice_get files j ≡ Some g → slice_get seats j ≡ Some x → EndedAt k j g x
ended-more k files seats q f s o hf hs next none so_far j g x lt jf js = by-test (ltb j q) refl where
  by-test : (b : Bool) → ltb j q ≡ b → EndedAt k j g x
  by-test true t = so_far j g x (ltb-true j q t) jf js
  by-test false t =
      let same : q ≡ j = omega (arith, ltb-false j q t, lt) in
      let up : q + 1 ≡ suc q = omega arith in
      let file : f ≡ g = same-file f g (sym hf ∙ ap (slice_get files) same ∙ jf) in
      let seat : s ≡ x = same-seat s x (sym hs ∙ ap (slice_get seats) same ∙ js) in
      let here : NextAt k (suc q) f s o = subst (λ (m : ℕ). NextAt k m f s o) up next in
      let ended : EndedAt k q f s = λ t st. here t st ∙ is-ended o _ none in
      subst (λ (m : ℕ). EndedAt k m g x) same (subst (λ (y : Seat). EndedAt k q g y) seat (subst (λ (y : CapsuleFile). EndedAt k q y s) file ended))

-- ---- the end
module _ (n : ℕ) (run : Run) (script : List ScriptEdit) (files : List CapsuleFile) (responses : List Responses) (journal : List JournalLine) (d : Desk) (seats : List Seat) (k : Kept)
    (is_told : IsTold n run script (files_of files) (all_responses responses) journal) (laid : Laid n n run (index_of d.next seats)) (st : StandsFor k (target_at run n))
    (desk : IsAtDesk script journal d) (seated : AreSeated k (files_of files) (all_responses responses) seats) (len : length seats ≡ length files) (same : length responses ≡ length files) where
  many : length run.history ≡ n
  many = ap (λ (h : List Entry). length h) laid.history_is ∙ length-history n (callers run) laid.places n (omega arith)

  at-end : target_after_all run ≡ target_at run n
  at-end = target-end n run many

  editor-end : next_edit (target_after_all run) run.script (editing_of run.editor) ≡ next_edit (target_at run n) script (editing_at script d.cursor)
  editor-end =
      ap (λ (t : Target). next_edit t run.script (editing_of run.editor)) at-end
      ∙ ap (λ (s : List ScriptEdit). next_edit (target_at run n) s (editing_of run.editor)) is_told.script_is
      ∙ ap (λ (l : List Placed). next_edit (target_at run n) script (editing_of l)) (sym (all-taken n run (index_of d.next seats) laid 0 run.editor refl))
      ∙ ap (λ (l : List Placed). next_edit (target_at run n) script (editing_of (take d.next l))) is_told.editor_is
      ∙ ap (λ (p : Editing). next_edit (target_at run n) script p) (sym desk.editing)

  file-there : (q : ℕ) (f : CapsuleFile) → slice_get files q ≡ Some f → slice_get (files_of files) q ≡ Some (capsules_of f)
  file-there q f h = slice_get-map capsules_of files q ∙ ap (λ (o : Option CapsuleFile). option_map capsules_of o) h

  responses-there : (q : ℕ) (r : Responses) → slice_get responses q ≡ Some r → slice_get (all_responses responses) q ≡ Some (responses_of r)
  responses-there q r h = slice_get-map responses_of responses q ∙ ap (λ (o : Option Responses). option_map responses_of o) h

  list-there : (q : ℕ) (f : CapsuleFile) (r : Responses) → slice_get files q ≡ Some f → slice_get responses q ≡ Some r
      → slice_get (callers run) (suc q) ≡ Some (queue_told (suc q) (capsules_of f) (responses_of r))
  list-there q f r hf hr = queue_list n run script (files_of files) (all_responses responses) journal is_told q
      ∙ ap₂ (λ (a : Option (List Capsule)) (b : Option (List Response)). list_by (suc q) a b) (file-there q f hf) (responses-there q r hr)

  queue-end : (q : ℕ) (f : CapsuleFile) (r : Responses) (s : Seat) → slice_get files q ≡ Some f → slice_get responses q ≡ Some r → slice_get seats q ≡ Some s
      → next_of run (target_after_all run) (suc q) (queue_told (suc q) (capsules_of f) (responses_of r)) ≡ next_call (target_at run n) (suc q) (capsules_of f) (progress_at s.cursor)
  queue-end q f r s hf hr hs =
      let list : List Placed = queue_told (suc q) (capsules_of f) (responses_of r) in
      let taken : take s.next list ≡ list = ap (λ (m : ℕ). take m list) (sym (ap seat_next hs)) ∙ all-taken n run (index_of d.next seats) laid (suc q) list (list-there q f r hf hr) in
      let file : slice_get run.files q ≡ Some (capsules_of f) = ap (λ (l : List (List Capsule)). slice_get l q) is_told.files_are ∙ file-there q f hf in
      ap (λ (t : Target). next_of run t (suc q) list) at-end
      ∙ ap (λ (o : Option (List Capsule)). next_of_file (target_at run n) (suc q) o list) file
      ∙ ap (λ (l : List Placed). next_call (target_at run n) (suc q) (capsules_of f) (progress_of l)) (sym taken)
      ∙ ap (λ (p : Progress). next_call (target_at run n) (suc q) (capsules_of f) p) (sym (seated q _ _ s (file-there q f hf) (responses-there q r hr) hs).progress)

  there-is : {A : Type 0} (xs : List A) (q : ℕ) → q < length xs → (x : A) × (slice_get xs q ≡ Some x)
  there-is [] q lt = absurd (omega (arith, lt))
  there-is (x ∷ xs) zero lt = (x, refl)
  there-is (x ∷ xs) (suc q) lt = there-is xs q (omega (arith, lt))

  pub are-done : next_edit (target_at run n) script (editing_at script d.cursor) ≡ None → AreEnded k files seats → AreDone run
  are-done editor ended zero list h =
      let own : run.editor ≡ list = same-list _ _ h in
      subst (λ (l : List Placed). next_edit (target_after_all run) run.script (editing_of l) ≡ None) own (editor-end ∙ editor)
  are-done editor ended (suc q) list h = by-options (slice_get files q) (slice_get responses q) refl refl where
    lists : list_by (suc q) (slice_get (files_of files) q) (slice_get (all_responses responses) q) ≡ Some list
    lists = sym (queue_list n run script (files_of files) (all_responses responses) journal is_told q) ∙ h

    by-options : (f : Option CapsuleFile) (r : Option Responses) → slice_get files q ≡ f → slice_get responses q ≡ r → next_of run (target_after_all run) (suc q) list ≡ None
    by-options None r fi ri =
        let fat : slice_get (files_of files) q ≡ None = slice_get-map capsules_of files q ∙ ap (λ (o : Option CapsuleFile). option_map capsules_of o) fi in
        absurd (not-some list (sym (ap (λ (o : Option (List Capsule)). list_by (suc q) o (slice_get (all_responses responses) q)) fat) ∙ lists))
    by-options (Some f) None fi ri =
        let rat : slice_get (all_responses responses) q ≡ None = slice_get-map responses_of responses q ∙ ap (λ (o : Option Responses). option_map responses_of o) ri in
        absurd (not-some list (sym (ap₂ (λ (a : Option (List Capsule)) (b : Option (List Response)). list_by (suc q) a b) (file-there q f fi) rat) ∙ lists))
    by-options (Some f) (Some r) fi ri =
        let own : queue_told (suc q) (capsules_of f) (responses_of r) ≡ list = same-list _ _ (sym (list-there q f r fi ri) ∙ h) in
        let s = there-is seats q (omega (arith, slice_get_within files q f fi, len)) in
        subst (λ (l : List Placed). next_of run (target_after_all run) (suc q) l ≡ None) own
        (queue-end q f r s.0 fi ri s.1 ∙ ended q f s.0 fi s.1 (target_at run n) st)

  pub editor-left : (next_edit (target_at run n) script (editing_at script d.cursor) ≡ None → ⊥) → AreDone run → ⊥
  editor-left left done = left (sym editor-end ∙ done 0 run.editor refl)

  pub queue-left : HasOneLeft k files seats → AreDone run → ⊥
  queue-left h done =
      let r = there-is responses h.queue (omega (arith, slice_get_within files h.queue h.file h.file_at, same)) in
      h.left (target_at run n) st (sym (queue-end h.queue h.file r.0 h.seat h.file_at r.1 h.seat_at) ∙ done (suc h.queue) _ (list-there h.queue h.file r.0 h.file_at r.1))

  pub judged-right : AreDone run → IsRight n run
  judged-right done = record { agrees = laid.agree; done = done }

  pub judged-early : (AreDone run → ⊥) → IsFault n run n field.Order
  judged-early left = (laid.agree, inr (refl, left))
