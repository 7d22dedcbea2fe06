-- Whose next entry has a place.
use Rattle.std.proofs.Common.{◌≡◌, ◌≢◌, ◌<◌, ◌⊎◌, ℕ, zero, suc, ◌+◌, Bool, true, false, List, [], ◌∷◌, ◌++◌, length, take, map, get_or, Option, Some, None, slice_get, slice_set, option_map, refl, sym, ap, ap₂, subst, ◌∙◌, arith, true≢false, eqb, eq-eqb, eqb-true}
use Rattle.std.proofs.lemmas.Option.{slice_get-map, slice_get-get_or, slice_get_within}
use Rattle.plan_files.specs.Capsules.{Capsule}
use Rattle.response_files.specs.Responses.{Response, response_in}
use Rattle.response_files.specs.declared.responses.Record.{Record}
use Rattle.journal_text.specs.declared.lines.JournalLine.{JournalLine}
use Rattle.journal_text.specs.declared.lines.JournalLine.TheVariants as lines
use Rattle.tree_target.specs.Kept.{Kept, LeavesOthers}
use Rattle.tree_target.specs.Stands.{StandsFor}
use Rattle.run_transcript.specs.declared.capsule_files.CapsuleFile.{CapsuleFile}
use Rattle.run_transcript.specs.declared.scripts.ScriptEdit.{ScriptEdit}
use Rattle.run_transcript.specs.Runs.{Placed, Run, target_at}
use Rattle.run_transcript.specs.Turns.{Progress, nothing_done, after_entry, progress_of, Editing, nothing_edited, editing_after, next_edit}
use Rattle.run_verdicts.specs.declared.verdict.Field.{Field}
use Rattle.run_verdicts.specs.declared.verdict.Field.TheVariants as field
use Rattle.run_verdicts.specs.Nexts.{editing_of}
use Rattle.run_verdicts.proofs.Laying.{not-some}
use Rattle.run_verdicts.proofs.Serving.{progress-push, editing-push}
use Rattle.check_records.specs.Told.{IsTold, record_told, entry_told, queue_told, queue_told_from, line_told, editor_told, editor_told_from}
use Rattle.check_records.specs.Cursors.{capsules_of, progress_at, IsReady}
use Rattle.check_records.specs.Editors.{editing_at}
use Rattle.check_records.specs.declared.cursor.Cursor.{Cursor}
use Rattle.check_records.specs.declared.cursor.Stage.TheVariants as stages
use Rattle.tree_target.specs.Model.{Call}
use Rattle.check_records.specs.Steps.{Steps}
use Rattle.check_records.specs.declared.seats.Responses.{Responses}
use Rattle.check_records.specs.declared.seats.Seat.{Seat}
use Rattle.check_records.specs.declared.seats.Desk.{Desk}
use Rattle.check_records.specs.Seats.{Laid, Goes, AreSeated, MayStand, StepsAs, IsSeated, IsBehind, IsAtDesk, DeskSteps, index_of, seat_next, place_in, place_of_line, files_of, all_responses, responses_of, seat_place, place_by, desk_place}
use Rattle.check_records.proofs.Replaying.{Here, Says, next_here, fault, laid-more, stands-more, GoesOn}
use Rattle.check_records.proofs.Seating.{told_at, line_at, queue_list, list_by, seated-stays}

abbrev pub none_seat : Seat
none_seat = record { next = 0; cursor = record { taken = 0; stage = stages.Ready }; front = 0; earlier = 0 }

pub record Found (files : List CapsuleFile) (responses : List Responses) (seats : List Seat) (q i : ℕ) (f : CapsuleFile) (r : Responses) (s : Seat) : Type 0 where
  pub file_at : slice_get (files_of files) q ≡ Some (capsules_of f)
  pub rs_at : slice_get (all_responses responses) q ≡ Some (responses_of r)
  pub seat_at : slice_get seats q ≡ Some s
  pub rec : Response
  pub rec_at : slice_get (responses_of r) s.next ≡ Some rec
  pub place : rec.head.place ≡ i
  pub inside : s.next < length r.records.items

record NextRecord (records : List Record) (k i : ℕ) : Type 0 where
  pub rec : Record
  pub at : slice_get records k ≡ Some rec
  pub place : rec.head.place ≡ i

same-number : (a b : ℕ) → Some a ≡ Some b → a ≡ b
same-number a b h = cc

next-record : (records : List Record) (k i : ℕ) → place_in records k ≡ Some i → NextRecord records k i
next-record records k i h = by-option (slice_get records k) refl where
  by-option : (o : Option Record) → slice_get records k ≡ o → NextRecord records k i
  by-option None is = absurd (not-some i (sym (ap (λ (x : Option Record). option_map (λ r. r.head.place) x) is) ∙ h))
  by-option (Some r) is = record { rec = r; at = is; place = same-number _ _ (sym (ap (λ (x : Option Record). option_map (λ r. r.head.place) x) is) ∙ h) }

pub found : (files : List CapsuleFile) (responses : List Responses) (seats : List Seat) (q i : ℕ) (f : CapsuleFile) (r : Responses) (d : Seat)
    → q < length seats → length responses ≡ length files → length seats ≡ length files → f ≡ get_or files q f → r ≡ get_or responses q r
    → seat_place seats responses q ≡ Some i → Found files responses seats q i f r (get_or seats q d)
found files responses seats q i f r d lt same len fis ris h =
    let seat : slice_get seats q ≡ Some (get_or seats q d) = slice_get-get_or seats q d lt in
    let rat : slice_get responses q ≡ Some r = slice_get-get_or responses q r (omega (arith, lt, same, len)) ∙ ap (λ (x : Responses). Some x) (sym ris) in
    let fat : slice_get files q ≡ Some f = slice_get-get_or files q f (omega (arith, lt, len)) ∙ ap (λ (x : CapsuleFile). Some x) (sym fis) in
    let placed : place_in r.records.items (get_or seats q d).next ≡ Some i = sym (ap₂ (λ (a : Option Seat) (b : Option Responses). place_by a b) seat rat) ∙ h in
    let next = next-record r.records.items (get_or seats q d).next i placed in
    record {
      file_at = slice_get-map capsules_of files q ∙ ap (λ (o : Option CapsuleFile). option_map capsules_of o) fat;
      rs_at = slice_get-map responses_of responses q ∙ ap (λ (o : Option Responses). option_map responses_of o) rat;
      seat_at = seat;
      rec = response_in r.bytes.items next.rec;
      rec_at = slice_get-map (response_in r.bytes.items) r.records.items (get_or seats q d).next ∙ ap (λ (o : Option Record). option_map (response_in r.bytes.items) o) next.at;
      place = next.place;
      inside = slice_get_within r.records.items (get_or seats q d).next next.rec next.at;
    }

-- ---- seats that were set
pub set-same : (seats : List Seat) (q : ℕ) (x : Seat) → q < length seats → slice_get (slice_set seats q x) q ≡ Some x
set-same [] q x lt = absurd (omega (arith, lt))
set-same (s ∷ seats) zero x lt = refl
set-same (s ∷ seats) (suc q) x lt = set-same seats q x (omega (arith, lt))

pub set-other : (seats : List Seat) (q k : ℕ) (x : Seat) → k ≢ q → slice_get (slice_set seats q x) k ≡ slice_get seats k
set-other [] q k x other = refl
set-other (s ∷ seats) zero zero x other = absurd (other refl)
set-other (s ∷ seats) zero (suc k) x other = refl
set-other (s ∷ seats) (suc q) zero x other = refl
set-other (s ∷ seats) (suc q) (suc k) x other = set-other seats q k x (λ is. other (ap (λ n. suc n) is))

pub goes-on : (made : ℕ) (seats : List Seat) (q : ℕ) (s x : Seat) → q < length seats → slice_get seats q ≡ Some s → x.next ≡ s.next + 1
    → GoesOn (index_of made seats) (index_of made (slice_set seats q x)) (suc q)
goes-on made seats q s x lt at next = record {
  mine = ap seat_next (set-same seats q x lt) ∙ next ∙ omega arith ∙ ap (λ n. suc n) (sym (ap seat_next at));
  others = λ c other. by-caller c other;
} where
  by-caller : (c : ℕ) → c ≢ suc q → index_of made (slice_set seats q x) c ≡ index_of made seats c
  by-caller zero other = refl
  by-caller (suc k) other = ap seat_next (set-other seats q k x (λ is. other (ap (λ n. suc n) is)))

pub desk-goes-on : (made made' : ℕ) (seats : List Seat) → made' ≡ made + 1 → GoesOn (index_of made seats) (index_of made' seats) 0
desk-goes-on made made' seats is = record { mine = omega (arith, is); others = λ c other. by-caller c other } where
  by-caller : (c : ℕ) → c ≢ 0 → index_of made' seats c ≡ index_of made seats c
  by-caller zero other = absurd (other refl)
  by-caller (suc k) other = refl

-- ---- a list one longer
take-push : (list : List Placed) (k : ℕ) (e : Placed) → slice_get list k ≡ Some e → take (k + 1) list ≡ take k list ++ e ∷ []
take-push [] k e at = absurd (not-some e at)
take-push (x ∷ list) zero e at = let is : x ≡ e = cc in ap (λ (y : Placed). y ∷ []) is
take-push (x ∷ list) (suc k) e at =
    let up : suc k + 1 ≡ suc (k + 1) = omega arith in rw up (ap (λ (l : List Placed). x ∷ l) (take-push list k e at))

-- the seat behind its record
pub seated-more : (old new : Kept) (q : ℕ) (files : List (List Capsule)) (file : List Capsule) (rs : List Response) (r : Response) (s x : Seat)
    → IsSeated old q files file rs s → slice_get rs s.next ≡ Some r → IsReady (suc q) file new x.cursor → x.next ≡ s.next + 1
    → progress_at x.cursor ≡ after_entry (progress_at s.cursor) (entry_told (suc q) file s.cursor.taken r) → x.front ≡ s.front → x.earlier ≡ s.earlier
    → IsSeated new q files file rs x
seated-more old new q files file rs r s x seated at ready next progress front earlier =
    let list : List Placed = queue_told (suc q) file rs in
    let e : Placed = record_told (suc q) file s.cursor.taken r in
    let there : slice_get list s.next ≡ Some e = told_at (suc q) file nothing_done rs s.next r at ∙ ap (λ (p : Progress). Some (record_told (suc q) file p.taken r)) (sym seated.progress) in
    record {
      ready = ready;
      progress = progress ∙ ap (λ (p : Progress). after_entry p e.entry) seated.progress ∙ sym (progress-push nothing_done (take s.next list) e)
          ∙ ap progress_of (sym (take-push list s.next e there)) ∙ ap (λ (k : ℕ). progress_of (take k list)) (sym next);
      front = front ∙ seated.front;
      earlier = earlier ∙ seated.earlier;
    }

pub desk-more : (script : List ScriptEdit) (journal : List JournalLine) (l : JournalLine) (d x : Desk) → IsAtDesk script journal d → slice_get journal d.next ≡ Some l
    → x.next ≡ d.next + 1 → editing_at script x.cursor ≡ editing_after (editing_at script d.cursor) (line_told script (editing_at script d.cursor) l).entry → IsAtDesk script journal x
desk-more script journal l d x desk at next editing =
    let list : List Placed = editor_told script journal in
    let e : Placed = line_told script (editing_at script d.cursor) l in
    let there : slice_get list d.next ≡ Some e = line_at script nothing_edited journal d.next l at ∙ ap (λ (p : Editing). Some (line_told script p l)) (sym desk.editing) in
    record {
      editing = editing ∙ ap (λ (p : Editing). editing_after p e.entry) desk.editing ∙ sym (editing-push nothing_edited (take d.next list) e)
          ∙ ap editing_of (sym (take-push list d.next e there)) ∙ ap (λ (k : ℕ). editing_of (take k list)) (sym next);
    }

-- ---- nobody's
queue-place : (queue : ℕ) (file : List Capsule) (p : Progress) (rs : List Response) (k : ℕ) (e : Placed) → slice_get (queue_told_from queue file p rs) k ≡ Some e
    → option_map (λ r. r.head.place) (slice_get rs k) ≡ Some e.place
queue-place queue file p [] k e at = absurd (not-some e at)
queue-place queue file p (r ∷ rs) zero e at = let is : record_told queue file p.taken r ≡ e = cc in ap (λ (x : Placed). Some x.place) is
queue-place queue file p (r ∷ rs) (suc k) e at = queue-place queue file (after_entry p (entry_told queue file p.taken r)) rs k e at

line-place : (script : List ScriptEdit) (p : Editing) (l : JournalLine) → place_of_line l ≡ (line_told script p l).place
line-place script p (lines.Edit place line answer) = refl
line-place script p (lines.Done place line) = refl

editor-place : (script : List ScriptEdit) (p : Editing) (journal : List JournalLine) (k : ℕ) (e : Placed) → slice_get (editor_told_from script p journal) k ≡ Some e
    → option_map place_of_line (slice_get journal k) ≡ Some e.place
editor-place script p [] k e at = absurd (not-some e at)
editor-place script p (l ∷ journal) zero e at =
    let is : line_told script p l ≡ e = cc in ap (λ (n : ℕ). Some n) (line-place script p l) ∙ ap (λ (x : Placed). Some x.place) is
editor-place script p (l ∷ journal) (suc k) e at = editor-place script (editing_after p (line_told script p l).entry) journal k e at

record-place : (bytes : List ℕ) (records : List Record) (k i : ℕ) → option_map (λ (r : Response). r.head.place) (slice_get (map (response_in bytes) records) k) ≡ Some i → place_in records k ≡ Some i
record-place bytes records k i h =
    both (slice_get records k) ∙ sym (ap (λ (o : Option Response). option_map (λ (r : Response). r.head.place) o) (slice_get-map (response_in bytes) records k)) ∙ h where
      both : (o : Option Record) → option_map (λ (r : Record). r.head.place) o ≡ option_map (λ (r : Response). r.head.place) (option_map (response_in bytes) o)
      both None = refl
      both (Some r) = refl

same-list : (a b : List Placed) → Some a ≡ Some b → a ≡ b
same-list a b h = cc

pub nobody-here : (n i : ℕ) (run : Run) (script : List ScriptEdit) (files : List CapsuleFile) (responses : List Responses) (journal : List JournalLine) (d : Desk) (seats : List Seat)
    → IsTold n run script (files_of files) (all_responses responses) journal → length seats ≡ length files
    → (desk_place journal d ≡ Some i → ⊥) → ((q : ℕ) → seat_place seats responses q ≡ Some i → ⊥)
    → (c : ℕ) (list : List Placed) (e : Placed) → Here run (index_of d.next seats) i c list e → ⊥
nobody-here n i run script files responses journal d seats told len no_line none zero list e here =
    let own : run.editor ≡ list = same-list _ _ here.is_list in
    let at : slice_get (editor_told script journal) d.next ≡ Some e = ap (λ (l : List Placed). slice_get l d.next) (sym told.editor_is ∙ own) ∙ here.at in
    no_line (editor-place script nothing_edited journal d.next e at ∙ ap (λ (k : ℕ). Some k) here.place)
nobody-here n i run script files responses journal d seats told len no_line none (suc q) list e here =
    by-options (slice_get files q) (slice_get responses q) (slice_get seats q) refl refl refl where
      lists : list_by (suc q) (slice_get (files_of files) q) (slice_get (all_responses responses) q) ≡ Some list
      lists = sym (queue_list n run script (files_of files) (all_responses responses) journal told q) ∙ here.is_list

      by-options : (f : Option CapsuleFile) (r : Option Responses) (s : Option Seat) → slice_get files q ≡ f → slice_get responses q ≡ r → slice_get seats q ≡ s → ⊥
      by-options None r s fi ri si =
          let fat : slice_get (files_of files) q ≡ None = slice_get-map capsules_of files q ∙ ap (λ (o : Option CapsuleFile). option_map capsules_of o) fi in
          not-some list (sym (ap (λ (o : Option (List Capsule)). list_by (suc q) o (slice_get (all_responses responses) q)) fat) ∙ lists)
      by-options (Some f) None s fi ri si =
          let fat : slice_get (files_of files) q ≡ Some (capsules_of f) = slice_get-map capsules_of files q ∙ ap (λ (o : Option CapsuleFile). option_map capsules_of o) fi in
          let rat : slice_get (all_responses responses) q ≡ None = slice_get-map responses_of responses q ∙ ap (λ (o : Option Responses). option_map responses_of o) ri in
          not-some list (sym (ap₂ (λ (a : Option (List Capsule)) (b : Option (List Response)). list_by (suc q) a b) fat rat) ∙ lists)
      by-options (Some f) (Some r) None fi ri si =
          let lt : q < length files = slice_get_within files q f fi in
          let x : Seat = get_or seats q none_seat in
          not-some x (sym si ∙ slice_get-get_or seats q none_seat (omega (arith, lt, len)))
      by-options (Some f) (Some r) (Some s) fi ri si =
          let fat : slice_get (files_of files) q ≡ Some (capsules_of f) = slice_get-map capsules_of files q ∙ ap (λ (o : Option CapsuleFile). option_map capsules_of o) fi in
          let rat : slice_get (all_responses responses) q ≡ Some (responses_of r) = slice_get-map responses_of responses q ∙ ap (λ (o : Option Responses). option_map responses_of o) ri in
          let own : queue_told (suc q) (capsules_of f) (responses_of r) ≡ list =
          same-list _ _ (sym (ap₂ (λ (a : Option (List Capsule)) (b : Option (List Response)). list_by (suc q) a b) fat rat) ∙ lists) in
          let at : slice_get (queue_told (suc q) (capsules_of f) (responses_of r)) s.next ≡ Some e =
          ap₂ (λ (l : List Placed) (k : ℕ). slice_get l k) own (sym (ap seat_next si)) ∙ here.at in
          let placed : place_in r.records.items s.next ≡ Some i =
          record-place r.bytes.items r.records.items s.next i (queue-place (suc q) (capsules_of f) nothing_done (responses_of r) s.next e at ∙ ap (λ (k : ℕ). Some k) here.place) in
          none q (ap₂ (λ (a : Option Seat) (b : Option Responses). place_by a b) si ri ∙ placed)

-- ---- the editor's line at its place
pub desk-goes : (n i : ℕ) (run : Run) (script : List ScriptEdit) (files : List (List Capsule)) (responses : List (List Response)) (journal : List JournalLine) (l : JournalLine)
    (d : Desk) (made' : ℕ) (seats : List Seat) (old new : Kept) (result : Option Field)
    → IsTold n run script files responses journal → Laid n i run (index_of d.next seats) → i < n → IsAtDesk script journal d → slice_get journal d.next ≡ Some l
    → place_of_line l ≡ i → StandsFor old (target_at run i) → DeskSteps script (Some l) d.cursor old result new → (result ≡ None → made' ≡ d.next + 1)
    → Goes n i run result new (index_of made' seats)
desk-goes n i run script files responses journal l d made' seats old new result told laid lt desk at place st steps next = by-result result refl where
  list : List Placed
  list = editor_told script journal

  e : Placed
  e = line_told script (editing_at script d.cursor) l

  same : editing_of (take d.next (editor_told script journal)) ≡ editing_at script d.cursor
  same = sym desk.editing

  here : Here run (index_of d.next seats) i 0 (editor_told script journal) (line_told script (editing_at script d.cursor) l)
  here = record {
    is_list = ap (λ (x : List Placed). Some x) told.editor_is;
    at = line_at script nothing_edited journal d.next l at ∙ ap (λ (p : Editing). Some (line_told script p l)) same;
    place = sym (line-place script (editing_at script d.cursor) l) ∙ place;
  }

  says : Says run (index_of d.next seats) i 0 (editor_told script journal)
  says = record { turn = λ low. absurd (omega (arith, low)); last = λ final. absurd cc }

  next-is : next_here run (index_of d.next seats) i 0 (editor_told script journal) ≡ next_edit (target_at run i) script (editing_at script d.cursor)
  next-is = ap (λ (s : List ScriptEdit). next_edit (target_at run i) s (editing_of (take d.next (editor_told script journal)))) told.script_is
      ∙ ap (λ (p : Editing). next_edit (target_at run i) script p) same

  by-result : (r : Option Field) → result ≡ r → Goes n i run result new (index_of made' seats)
  by-result None is =
      let done : Steps (next_here run (index_of d.next seats) i 0 (editor_told script journal)) (target_at run i) (line_told script (editing_at script d.cursor) l).entry None new =
      subst (λ (o : Option Field). Steps (next_here run (index_of d.next seats) i 0 (editor_told script journal)) (target_at run i) (line_told script (editing_at script d.cursor) l).entry o new) is
      (subst (λ (o : Option Call). Steps o (target_at run i) (line_told script (editing_at script d.cursor) l).entry result new) (sym next-is) (steps (target_at run i) st)) in
      subst (λ (o : Option Field). Goes n i run o new (index_of made' seats)) (sym is) (
        laid-more n i run (index_of d.next seats) (index_of made' seats) laid 0 (editor_told script journal) (line_told script (editing_at script d.cursor) l) here says new done (desk-goes-on d.next made' seats (next is)),
        stands-more n i run (index_of d.next seats) laid lt 0 (editor_told script journal) (line_told script (editing_at script d.cursor) l) here new done,
      )
  by-result (Some f) is =
      let done : Steps (next_here run (index_of d.next seats) i 0 (editor_told script journal)) (target_at run i) (line_told script (editing_at script d.cursor) l).entry (Some f) new =
      subst (λ (o : Option Field). Steps (next_here run (index_of d.next seats) i 0 (editor_told script journal)) (target_at run i) (line_told script (editing_at script d.cursor) l).entry o new) is
      (subst (λ (o : Option Call). Steps o (target_at run i) (line_told script (editing_at script d.cursor) l).entry result new) (sym next-is) (steps (target_at run i) st)) in
      subst (λ (o : Option Field). Goes n i run o new (index_of made' seats)) (sym is)
      (fault n i run (index_of d.next seats) laid lt 0 (editor_told script journal) (line_told script (editing_at script d.cursor) l) here says f new done)

-- ---- as the program has them
abbrev pub StepsOr : ℕ → List Capsule → Option Response → ℕ → ℕ → Seat → Kept → Option Field → Kept → Type 0
StepsOr queue file o place bound s old result new =
    ((MayStand s (length file) place bound → ⊥) × (result ≡ Some field.Order)) ⊎ (MayStand s (length file) place bound × StepsAs queue file o s.cursor old result new)

pub steps-as : (queue queue' : ℕ) (file : List Capsule) (o o' : Option Response) (place bound : ℕ) (s : Seat) (old : Kept) (result : Option Field) (new : Kept)
    → queue ≡ queue' → o ≡ o' → StepsOr queue file o place bound s old result new → StepsOr queue' file o' place bound s old result new
steps-as queue queue' file o o' place bound s old result new a b h =
    subst (λ (x : Option Response). StepsOr queue' file x place bound s old result new) b
    (subst (λ (k : ℕ). StepsOr k file o place bound s old result new) a h)

pub behind-as : (queue queue' : ℕ) (file : List Capsule) (o : Option Response) (r : Response) (old new : Cursor) → queue ≡ queue' → o ≡ Some r → IsBehind queue file o old new → IsBehind queue' file (Some r) old new
behind-as queue queue' file o r old new a b h =
    subst (λ (x : Option Response). IsBehind queue' file x old new) b (subst (λ (k : ℕ). IsBehind k file o old new) a h)

same-capsules : (a b : List Capsule) → Some a ≡ Some b → a ≡ b
same-capsules a b h = cc

same-responses : (a b : List Response) → Some a ≡ Some b → a ≡ b
same-responses a b h = cc

same-seat : (a b : Seat) → Some a ≡ Some b → a ≡ b
same-seat a b h = cc

pub all-seated : (old new : Kept) (files : List (List Capsule)) (responses : List (List Response)) (seats : List Seat) (q : ℕ) (file : List Capsule) (rs : List Response) (x : Seat)
    → AreSeated old files responses seats → LeavesOthers (suc q) old new → IsSeated new q files file rs x → slice_get files q ≡ Some file → slice_get responses q ≡ Some rs
    → q < length seats → AreSeated new files responses (slice_set seats q x)
all-seated old new files responses seats q file rs x seated leaves mine hf hr lt k f r s kf kr ks = by-queue (eqb k q) refl where
  by-queue : (b : Bool) → eqb k q ≡ b → IsSeated new k files f r s
  by-queue true t =
      let same : k ≡ q = eqb-true k q t in
      let file_is : file ≡ f = same-capsules file f (sym hf ∙ ap (slice_get files) (sym same) ∙ kf) in
      let rs_is : rs ≡ r = same-responses rs r (sym hr ∙ ap (slice_get responses) (sym same) ∙ kr) in
      let seat_is : x ≡ s = same-seat x s (sym (set-same seats q x lt) ∙ ap (slice_get (slice_set seats q x)) (sym same) ∙ ks) in
      subst (λ (m : ℕ). IsSeated new m files f r s) (sym same)
      (subst (λ (y : Seat). IsSeated new q files f r y) seat_is
      (subst (λ (y : List Response). IsSeated new q files f y x) rs_is
      (subst (λ (y : List Capsule). IsSeated new q files y rs x) file_is mine)))
  by-queue false t =
      let other : k ≢ q = λ is. true≢false (sym (eq-eqb k q is) ∙ t) in
      seated-stays (suc q) old new k files f r s leaves (λ is. other (same-suc k q is)) (seated k f r s kf kr (sym (set-other seats q k x other) ∙ ks)) where
        same-suc : (a b : ℕ) → suc a ≡ suc b → a ≡ b
        same-suc a b h = omega (arith, h)

pub all-stay : (old new : Kept) (files : List (List Capsule)) (responses : List (List Response)) (seats : List Seat) → AreSeated old files responses seats → LeavesOthers 0 old new
    → AreSeated new files responses seats
all-stay old new files responses seats seated leaves k f r s kf kr ks =
    seated-stays 0 old new k files f r s leaves (λ is. absurd (omega (arith, is))) (seated k f r s kf kr ks)

pub record NextLine (journal : List JournalLine) (d : Desk) (i : ℕ) : Type 0 where
  pub line : JournalLine
  pub at : slice_get journal d.next ≡ Some line
  pub place : place_of_line line ≡ i

pub next-line : (journal : List JournalLine) (d : Desk) (i : ℕ) → desk_place journal d ≡ Some i → NextLine journal d i
next-line journal d i h = by-option (slice_get journal d.next) refl where
  by-option : (o : Option JournalLine) → slice_get journal d.next ≡ o → NextLine journal d i
  by-option None is = absurd (not-some i (sym (ap (λ (x : Option JournalLine). option_map place_of_line x) is) ∙ h))
  by-option (Some l) is = record { line = l; at = is; place = same-number _ _ (sym (ap (λ (x : Option JournalLine). option_map place_of_line x) is) ∙ h) }
