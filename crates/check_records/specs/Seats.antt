-- Where the records of all callers stand that were made again, and one place more.
use Rattle.std.specs.Prelude.{◌≡◌, ◌≤◌, ◌<◌, ◌↔◌, ◌⊎◌, ℕ, zero, suc, ◌+◌, true, List, [], ◌∷◌, length, drop, Option, Some, None, option_map, slice_get, map, All, take}
use Rattle.plan_files.specs.Capsules.{Capsule}
use Rattle.response_files.specs.Responses.{Response, IsWholeIn, responses_in}
use Rattle.journal_text.specs.declared.lines.JournalLine.{JournalLine}
use Rattle.journal_text.specs.declared.lines.JournalLine.TheVariants as lines
use Rattle.response_files.specs.declared.responses.Record.{Record}
use Rattle.tree_target.specs.Kept.{Kept}
use Rattle.tree_target.specs.Stands.{StandsFor}
use Rattle.run_transcript.specs.declared.capsule_files.CapsuleFile.{CapsuleFile}
use Rattle.run_transcript.specs.declared.scripts.ScriptEdit.{ScriptEdit}
use Rattle.run_transcript.specs.Runs.{Run, Placed, callers, target_at}
use Rattle.run_transcript.specs.Turns.{progress_of, next_call, next_edit, after_entry, editing_after}
use Rattle.run_transcript.specs.Served.{front_len, is_final}
use Rattle.tree_target.specs.Model.{Target}
use Rattle.run_verdicts.specs.declared.verdict.Field.TheVariants as field
use Rattle.check_records.specs.declared.cursor.Cursor.{Cursor}
use Rattle.check_records.specs.declared.editor_steps.EditCursor.{EditCursor}
use Rattle.run_verdicts.specs.declared.verdict.Field.{Field}
use Rattle.run_verdicts.specs.Places.{ArePlaces}
use Rattle.run_verdicts.specs.Nexts.{told, places_of, in_places, fronts_before, editing_of, AreAllBelow}
use Rattle.run_verdicts.specs.Faults.{AgreesBelow, IsFault}
use Rattle.check_records.specs.declared.seats.Responses.{Responses}
use Rattle.check_records.specs.declared.seats.Seat.{Seat}
use Rattle.check_records.specs.declared.seats.Desk.{Desk}
use Rattle.check_records.specs.Told.{queue_told, editor_told, entry_told, line_told}
use Rattle.check_records.specs.Cursors.{capsules_of, progress_at, IsReady, IsInside}
use Rattle.check_records.specs.Editors.{editing_at}
use Rattle.check_records.specs.Steps.{IsBlankUnlessAnswered, Steps}

abbrev pub files_of : List CapsuleFile → List (List Capsule)
files_of files = map capsules_of files

abbrev pub responses_of : Responses → List Response
responses_of r = responses_in r.bytes.items r.records.items

abbrev pub all_responses : List Responses → List (List Response)
all_responses responses = map responses_of responses

-- the records were read from their bytes
pub record AreRead (r : Responses) : Type 0 where
  pub whole : All (IsWholeIn r.bytes.items) r.records.items
  pub blank : All (λ x. IsBlankUnlessAnswered x.head) r.records.items

-- ---- how far
abbrev pub seat_next : Option Seat → ℕ
seat_next None = 0
seat_next (Some s) = s.next

-- how many entries of a caller were made again, by its number
abbrev pub index_of : ℕ → List Seat → ℕ → ℕ
index_of made seats zero = made
index_of made seats (suc q) = seat_next (slice_get seats q)

-- entries with places below n, and from n on
abbrev pub AreLow : ℕ → List Placed → Type 0
AreLow n [] = Unit {0}
AreLow n (e ∷ list) = (e.place < n) × AreLow n list

abbrev pub AreHigh : ℕ → List Placed → Type 0
AreHigh n [] = Unit {0}
AreHigh n (e ∷ list) = (n ≤ e.place) × AreHigh n list

pub record IsCut (i : ℕ) (front rest : List Placed) : Type 0 where
  pub low : AreLow i front
  pub high : AreHigh i rest

-- So many entries of each caller were made again: those with the places below i, and all places
-- below i agree.
pub record Laid (n i : ℕ) (run : Run) (idx : ℕ → ℕ) : Type 0 where
  pub places : ArePlaces n (places_of (told run))
  pub history_is : run.history ≡ in_places n (told run)
  pub cut : (c : ℕ) (list : List Placed) → slice_get (callers run) c ≡ Some list
      → IsCut i (take (idx c) list) (drop (idx c) list)
  pub agree : AgreesBelow n run i

-- a place more was made again, or has a fault
abbrev pub Goes : ℕ → ℕ → Run → Option Field → Kept → (ℕ → ℕ) → Type 0
Goes n i run None k idx = Laid n (i + 1) run idx × StandsFor k (target_at run (i + 1))
Goes n i run (Some f) k idx = IsFault n run i f

-- ---- the queues
-- the seat of queue q + 1: the target is ready for its cursor, which stands behind the entries that
-- were made again
pub record IsSeated (k : Kept) (q : ℕ) (files : List (List Capsule)) (file : List Capsule)
    (rs : List Response) (s : Seat) : Type 0 where
  pub ready : IsReady (suc q) file k s.cursor
  pub progress : progress_at s.cursor ≡ progress_of (take s.next (queue_told (suc q) file rs))
  pub front : s.front ≡ front_len file
  pub earlier : s.earlier ≡ fronts_before q files

abbrev pub AreSeated : Kept → List (List Capsule) → List (List Response) → List Seat → Type 0
AreSeated k files responses seats = (q : ℕ) (file : List Capsule) (rs : List Response) (s : Seat)
    → slice_get files q ≡ Some file → slice_get responses q ≡ Some rs → slice_get seats q ≡ Some s
    → IsSeated k q files file rs s

-- a call of a front has its turn, and a final poll comes after all that is none
pub record MayStand (s : Seat) (capsules place bound : ℕ) : Type 0 where
  pub turn : s.next < s.front → place ≡ s.earlier + s.next
  pub last : is_final capsules (progress_at s.cursor) ≡ true → bound ≤ place

-- the record that is next, as it is told where its queue stands
abbrev pub StepsAs : ℕ → List Capsule → Option Response → Cursor → Kept → Option Field → Kept
    → Type 0
StepsAs queue file None at old result new = ⊥
StepsAs queue file (Some r) at old result new = (t : Target) → StandsFor old t
    → Steps (next_call t queue file (progress_at at)) t (entry_told queue file at.taken r) result
    new

-- its place isn't one that it may have, or it was made again
pub record SeatSteps (queue : ℕ) (file : List Capsule) (rs : List Response) (place bound : ℕ)
    (s : Seat) (old : Kept) (result : Option Field) (new : Kept) : Type 0 where
  pub steps : ((MayStand s (length file) place bound → ⊥) × (result ≡ Some field.Order))
      ⊎ (MayStand s (length file) place bound
      × StepsAs queue file (slice_get rs s.next) s.cursor old result new)

abbrev pub IsBehind : ℕ → List Capsule → Option Response → Cursor → Cursor → Type 0
IsBehind queue file None old new = ⊥
IsBehind queue file (Some r) old new =
    progress_at new ≡ after_entry (progress_at old) (entry_told queue file old.taken r)

-- the seat has gone on behind its record
pub record GoesBehind (queue : ℕ) (file : List Capsule) (rs : List Response) (old new : Seat)
    : Type 0 where
  pub next : new.next ≡ old.next + 1
  pub progress : IsBehind queue file (slice_get rs old.next) old.cursor new.cursor
  pub front : new.front ≡ old.front
  pub earlier : new.earlier ≡ old.earlier

-- ---- the editor
pub record IsAtDesk (script : List ScriptEdit) (journal : List JournalLine) (d : Desk) : Type 0
  where
    pub editing : editing_at script d.cursor ≡ editing_of (take d.next (editor_told script journal))

abbrev pub DeskSteps : List ScriptEdit → Option JournalLine → EditCursor → Kept → Option Field
    → Kept → Type 0
DeskSteps script None at old result new = ⊥
DeskSteps script (Some l) at old result new = (t : Target) → StandsFor old t
    → Steps (next_edit t script (editing_at script at)) t
    (line_told script (editing_at script at) l).entry result new

abbrev pub IsBehindLine : List ScriptEdit → Option JournalLine → EditCursor → EditCursor → Type 0
IsBehindLine script None old new = ⊥
IsBehindLine script (Some l) old new = editing_at script new
    ≡ editing_after (editing_at script old) (line_told script (editing_at script old) l).entry

-- all that isn't a final poll stands below the places from this one on
abbrev pub IsBound : Run → ℕ → Type 0
IsBound run bound = (p : ℕ) → (bound ≤ p) ↔ AreAllBelow run p

-- ---- whose next entry has a place
abbrev pub place_in : List Record → ℕ → Option ℕ
place_in records next = option_map (λ r. r.head.place) (slice_get records next)

abbrev pub place_by : Option Seat → Option Responses → Option ℕ
place_by None r = None
place_by (Some s) None = None
place_by (Some s) (Some r) = place_in r.records.items s.next

-- the place of the next record of queue q + 1
abbrev pub seat_place : List Seat → List Responses → ℕ → Option ℕ
seat_place seats responses q = place_by (slice_get seats q) (slice_get responses q)

abbrev pub place_of_line : JournalLine → ℕ
place_of_line (lines.Edit place line answer) = place
place_of_line (lines.Done place line) = place

-- the place of the journal's next line
abbrev pub desk_place : List JournalLine → Desk → Option ℕ
desk_place journal d = option_map place_of_line (slice_get journal d.next)

-- ---- the end
abbrev pub EndedAt : Kept → ℕ → CapsuleFile → Seat → Type 0
EndedAt k q f s = (t : Target) → StandsFor k t
    → next_call t (suc q) (capsules_of f) (progress_at s.cursor) ≡ None

-- no queue has a call left
abbrev pub AreEnded : Kept → List CapsuleFile → List Seat → Type 0
AreEnded k files seats = (q : ℕ) (f : CapsuleFile) (s : Seat) → slice_get files q ≡ Some f
    → slice_get seats q ≡ Some s → EndedAt k q f s

-- a queue has a call left
pub record HasOneLeft (k : Kept) (files : List CapsuleFile) (seats : List Seat) : Type 0 where
  pub queue : ℕ
  pub file : CapsuleFile
  pub seat : Seat
  pub file_at : slice_get files queue ≡ Some file
  pub seat_at : slice_get seats queue ≡ Some seat
  pub left : (t : Target) → StandsFor k t
      → next_call t (suc queue) (capsules_of file) (progress_at seat.cursor) ≡ None → ⊥

abbrev pub AreInside : List CapsuleFile → List Seat → Type 0
AreInside files seats = (q : ℕ) (f : CapsuleFile) (s : Seat) → slice_get files q ≡ Some f
    → slice_get seats q ≡ Some s → IsInside (capsules_of f) s.cursor

-- nothing was made again yet
abbrev pub AreFresh : List Seat → Type 0
AreFresh seats = All (λ s. s.next ≡ 0) seats
