-- Pieces of a check, for the calls above them.
use Rattle.std.specs.Prelude.{◌≡◌, ◌≤◌, ◌<◌, ◌↔◌, ℕ, Bool, true, false, List, map, Some, slice_get}
use Rattle.std.specs.List.{flat_map, AllByRecursion}
use Rattle.run_records.specs.declared.records.Kind.{Kind}
use Rattle.run_records.specs.declared.records.Kind.TheVariants as kinds
use Rattle.response_files.specs.Responses.{Response}
use Rattle.response_files.specs.declared.responses.Record.{Record}
use Rattle.journal_text.specs.declared.lines.JournalLine.{JournalLine}
use Rattle.plan_files.specs.Capsules.{Capsule}
use Rattle.run_transcript.specs.declared.capsule_files.CapsuleFile.{CapsuleFile}
use Rattle.run_transcript.specs.Served.{front_len, bodies, body_of}
use Rattle.run_verdicts.specs.Nexts.{fronts_before}
use Rattle.check_records.specs.declared.cursor.Stage.TheVariants as stages
use Rattle.check_records.specs.declared.seats.Responses.{Responses}
use Rattle.check_records.specs.declared.seats.Seat.{Seat}
use Rattle.check_records.specs.Cursors.{capsules_of}
use Rattle.check_records.specs.Seats.{files_of, place_of_line}
use Rattle.check_records.specs.Told.{queue_told, queues_told}

-- ---- places
abbrev pub record_places : List Record → List ℕ
record_places records = map (λ r. r.head.place) records

-- the places of all records
abbrev pub response_places : List Responses → List ℕ
response_places responses = flat_map (λ r. record_places r.records.items) responses

abbrev pub line_places : List JournalLine → List ℕ
line_places lines = map place_of_line lines

-- ---- from which place on all that is no final poll stands below
abbrev pub AreLinesBelow : ℕ → List JournalLine → Type 0
AreLinesBelow p lines = AllByRecursion (λ l. place_of_line l < p) lines

-- of a queue
abbrev pub IsBodyBelow : ℕ → ℕ → List Capsule → List Response → Type 0
IsBodyBelow p queue file rs = AllByRecursion (λ x. x.place < p)
    (body_of file (queue_told queue file rs))

-- of the queues from this number on
abbrev pub AreBodiesBelow : ℕ → ℕ → List (List Capsule) → List (List Response) → Type 0
AreBodiesBelow p queue files responses = AllByRecursion (λ x. x.place < p)
    (bodies files (queues_told queue files responses))

-- a record of a poll
abbrev pub is_poll_kind : Kind → Bool
is_poll_kind kinds.Submit = false
is_poll_kind kinds.Execute = false
is_poll_kind kinds.Poll = true
is_poll_kind kinds.Control = false

-- what a record adds to a bound: nothing where it is a final poll
abbrev pub Adds : Bool → ℕ → ℕ → ℕ → Type 0
Adds true place bound to = to ≡ bound
Adds false place bound to = (p : ℕ) → (to ≤ p) ↔ ((bound ≤ p) × (place < p))

-- ---- seats at the start
pub record IsFirstSeat (files : List CapsuleFile) (q : ℕ) (f : CapsuleFile) (s : Seat) : Type 0
  where
    pub next : s.next ≡ 0
    pub taken : s.cursor.taken ≡ 0
    pub stage : s.cursor.stage ≡ stages.Ready
    pub front : s.front ≡ front_len (capsules_of f)
    pub earlier : s.earlier ≡ fronts_before q (files_of files)

-- each queue has its seat, where nothing was made again yet
abbrev pub AreFirstSeats : List CapsuleFile → List Seat → Type 0
AreFirstSeats files seats = (q : ℕ) (f : CapsuleFile) (s : Seat) → slice_get files q ≡ Some f
    → slice_get seats q ≡ Some s → IsFirstSeat files q f s
