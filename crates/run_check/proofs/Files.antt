-- What came of reading one file of records, and of one after another.
use Rattle.std.proofs.Common.{◌≡◌, ◌≤◌, ◌<◌, ℕ, ◌+◌, List, [], ◌∷◌, ◌++◌, length, map, sum, Some, Result, Ok, Err, refl, sym, ap, subst, ◌∙◌, inr}
use Rattle.std.specs.Prelude.{IfOk, IfErr}
use Rattle.std.specs.List.{sum_by}
use Rattle.std.proofs.lemmas.List.Sums.{sum-map}
use Rattle.std.proofs.lemmas.Simd.{map-map}
use Rattle.plan_files.specs.declared.items.QueueLine.{QueueLine}
use Rattle.plan_files.specs.declared.limits.What.{What}
use Rattle.plan_files.specs.declared.limits.What.TheVariants.{Bytes}
use Rattle.plan_files.specs.Capsules.{Capsule, capsule_in}
use Rattle.plan_files.specs.Rooms.{room_of, capsule_room}
use Rattle.response_files.specs.Responses.{Response}
use Rattle.response_files.specs.ResponseReading as responses
use Rattle.response_files.specs.ResponseReading.{responses_of}
use Rattle.response_files.specs.declared.responses.RecordError.{RecordError}
use Rattle.response_files.specs.declared.responses.RecordError.TheVariants as records
use Rattle.response_files.specs.JournalReading as journal
use Rattle.response_files.specs.JournalReading.{journal_in}
use Rattle.response_files.specs.declared.journal.Journal.{Journal}
use Rattle.response_files.specs.declared.journal.JournalError.{JournalError}
use Rattle.response_files.specs.declared.journal.JournalError.TheVariants as journals
use Rattle.run_outcomes.specs.declared.numbers.FileNo.{FileNo}
use Rattle.run_outcomes.specs.declared.numbers.TheConstants.{JOURNAL}
use Rattle.run_outcomes.specs.declared.faults.Fault.{Fault}
use Rattle.run_outcomes.specs.declared.faults.Fault.TheVariants as fault
use Rattle.run_outcomes.specs.Numbers.{responses_no}
use Rattle.run_outcomes.specs.Outsides.{Told, HoldsOf, FilesView}
use Rattle.run_inputs.specs.QueueFile.{room_of_all}
use Rattle.run_inputs.specs.Stages.{ContentRefused, Refuses, Gives}
use Rattle.run_inputs.specs.Views.{IsEarlier}
use Rattle.run_inputs.proofs.OneFile.{earlier_again, holds_then, within, over}
use Rattle.run_transcript.specs.declared.capsule_files.CapsuleFile.{CapsuleFile}
use Rattle.run_inputs.specs.Ready.{capsules_of_file}
use Rattle.run_check.specs.Finished.{Finished}
use Rattle.run_check.specs.RecordFiles.{response_files, journal_files, with_responses, with_journal, responses_in_file, or_record_fault, record_error, journal_in_file, or_journal_fault, journal_error}
use Rattle.run_check.specs.RecordReading.{Reading, ReadsRecords, ReadOn, StoppedIn, GivesResponses, ReadsResponses}
use Rattle.run_check.proofs.Walking.{reading_then}

-- ---- contents
limit_is : (limit : ℕ) (file n : FileNo) (what : What) (count : ℕ)
    → n ≡ file → what ≡ Bytes → count ≡ limit + 1
    → fault.Limit n what count ≡ fault.Limit file Bytes (limit + 1)
limit_is limit file n what count e f g = cc

-- bytes that could not be had
pub content_stops : (limit : ℕ) (now after : FilesView) (file : FileNo) (name : List ℕ)
    (given : List ℕ → Result Finished Fault) (f : Fault)
    → ((bytes : List ℕ) → limit < length bytes
    → given bytes ≡ Err (fault.Limit file Bytes (limit + 1)))
    → ContentRefused limit file name now after f → Reading now after file name given (Err f)
content_stops limit now after file name given (fault.Malformed n place) l h = absurd h
content_stops limit now after file name given (fault.Limit n what count) l h = record {
  bytes = h.3.bytes;
  held = h.3.held;
  is = ap (λ (f : Fault). Err f) (limit_is limit file n what count h.0 h.1 h.2)
      ∙ sym (l h.3.bytes h.3.over);
}
content_stops limit now after file name given (fault.ConfigRefused n errno) l h = absurd h
content_stops limit now after file name given (fault.ReadFault n) l h = h
content_stops limit now after file name given (fault.WriteFault n) l h = absurd h
content_stops limit now after file name given fault.Memory l h = tt

-- bytes that were had give this fault
pub bytes_stop : (now after : FilesView) (file : FileNo) (name bytes : List ℕ)
    (given : List ℕ → Result Finished Fault) (f : Fault)
    → HoldsOf now.told name bytes → Refuses f (given bytes)
    → Reading now after file name given (Err f)
bytes_stop now after file name bytes given (fault.Malformed n place) held h =
    record { bytes = bytes; held = held; is = sym h }
bytes_stop now after file name bytes given (fault.Limit n what count) held h =
    record { bytes = bytes; held = held; is = sym h }
bytes_stop now after file name bytes given (fault.ConfigRefused n errno) held h =
    record { bytes = bytes; held = held; is = sym h }
bytes_stop now after file name bytes given (fault.ReadFault n) held h = absurd h
bytes_stop now after file name bytes given (fault.WriteFault n) held h = absurd h
bytes_stop now after file name bytes given fault.Memory held h = tt

-- a fault that a reading function gives, where the rest passes faults on
passes : {X : Type 0} (more : Result X Fault → Result Finished Fault)
    → ((f : Fault) → more (Err f) ≡ Err f) → (read : Result X Fault) (f : Fault)
    → Refuses f read → Refuses f (more read)
passes more pass read (fault.Malformed n place) h = ap more h ∙ pass (fault.Malformed n place)
passes more pass read (fault.Limit n what count) h = ap more h ∙ pass (fault.Limit n what count)
passes more pass read (fault.ConfigRefused n errno) h =
    ap more h ∙ pass (fault.ConfigRefused n errno)
passes more pass read (fault.ReadFault n) h = absurd h
passes more pass read (fault.WriteFault n) h = absurd h
passes more pass read fault.Memory h = tt

-- ---- response files
pub records_fail : (file : FileNo) (bytes : List ℕ) (e : RecordError)
    → responses.Fails e (responses_of bytes)
    → Refuses (record_error file e) (or_record_fault file (responses_of bytes))
records_fail file bytes (records.Malformed offset) h = rw h refl
records_fail file bytes records.Memory h = tt

responses_is : (file : FileNo) (room : ℕ) (bytes : List ℕ) → length bytes ≤ room
    → responses_in_file file room bytes ≡ or_record_fault file (responses_of bytes)
unfolding responses_in_file
responses_is file room bytes le = rw (within room file bytes le) refl

responses_limited : (file : FileNo) (room : ℕ) (s : Finished) (bytes : List ℕ)
    → room < length bytes
    → GivesResponses file room s bytes ≡ Err (fault.Limit file Bytes (room + 1))
unfolding responses_in_file
responses_limited file room s bytes lt = rw (over room file bytes lt) refl

pub responses_read : {X : Type 0} (view : X → List Response) (told : Told) (file : FileNo)
    (name bytes : List ℕ) (room : ℕ) (r : Result X Fault)
    → HoldsOf told name bytes → length bytes ≤ room
    → Gives view r (or_record_fault file (responses_of bytes))
    → IfOk r (λ x. ReadsResponses told file name room (view x))
responses_read view told file name bytes room (Ok x) held le h = record {
  bytes = bytes;
  held = held;
  is = responses_is file room bytes le ∙ h;
}
responses_read view told file name bytes room (Err f) held le h = tt

pub responses_stop : {X : Type 0} (view : X → List Response) (now after : FilesView)
    (file : FileNo) (name bytes : List ℕ) (room : ℕ) (r : Result X Fault)
    → HoldsOf now.told name bytes → length bytes ≤ room
    → Gives view r (or_record_fault file (responses_of bytes))
    → IfErr r (λ f. (s : Finished) → Reading now after file name (GivesResponses file room s) (Err f))
responses_stop view now after file name bytes room (Ok x) held le h = tt
responses_stop view now after file name bytes room (Err f) held le h = λ s.
    bytes_stop now after file name bytes (GivesResponses file room s) f held
    (passes (with_responses s) (λ e. refl) (responses_in_file file room bytes) f
    (subst (λ (x : Result (List Response) Fault). Refuses f x) (sym (responses_is file room bytes le))
    h))

pub no_responses : (now after : FilesView) (file : FileNo) (name : List ℕ) (room : ℕ) (f : Fault)
    → ContentRefused room file name now after f
    → (s : Finished) → Reading now after file name (GivesResponses file room s) (Err f)
no_responses now after file name room f h s =
    content_stops room now after file name (GivesResponses file room s) f
    (responses_limited file room s) h

-- ---- the journal
pub lines_fail : (bytes : List ℕ) (e : JournalError) → journal.Fails e (journal_in bytes)
    → Refuses (journal_error e) (or_journal_fault (journal_in bytes))
lines_fail bytes (journals.BadLine line) h = rw h refl
lines_fail bytes journals.Memory h = tt

journal_is : (bytes : List ℕ) → length bytes ≤ 4194304
    → journal_in_file bytes ≡ or_journal_fault (journal_in bytes)
unfolding journal_in_file
journal_is bytes le = rw (within 4194304 JOURNAL bytes le) refl

journal_limited : (s : Finished) (bytes : List ℕ) → 4194304 < length bytes
    → with_journal s (journal_in_file bytes) ≡ Err (fault.Limit JOURNAL Bytes (4194304 + 1))
unfolding journal_in_file
journal_limited s bytes lt = rw (over 4194304 JOURNAL bytes lt) refl

abbrev GivesJournal : Finished → List ℕ → Result Finished Fault
GivesJournal s bytes = with_journal s (journal_in_file bytes)

-- reading ends at the journal
journal_ends : (now after : FilesView) (name : List ℕ) (s : Finished) (f : Fault)
    → Reading now after JOURNAL name (GivesJournal s) (Err f)
    → StoppedIn now after (journal_files (Some name)) s f
journal_ends now after name s f h = inr (λ before e. (
  Err f,
  reading_then before now after JOURNAL name (GivesJournal s) (Err f) e h,
  refl,
))

pub journal_reads : {X : Type 0} (view : X → Journal) (now : FilesView) (name bytes : List ℕ)
    (r : Result X Fault) → HoldsOf now.told name bytes → length bytes ≤ 4194304
    → Gives view r (or_journal_fault (journal_in bytes))
    → IfOk r (λ x. (s : Finished) → ReadOn now (journal_files (Some name)) s
    (record s { journal = Some (view x) }))
journal_reads view now name bytes (Ok x) held le h = λ s before after e. (
  Ok (record s { journal = Some (view x) }),
  record {
    bytes = bytes;
    held = holds_then before now name bytes e held;
    is = sym (ap (with_journal s) (journal_is bytes le ∙ h));
  },
  refl,
)
journal_reads view now name bytes (Err f) held le h = tt

pub journal_stops : {X : Type 0} (view : X → Journal) (now after : FilesView)
    (name bytes : List ℕ) (r : Result X Fault)
    → HoldsOf now.told name bytes → length bytes ≤ 4194304
    → Gives view r (or_journal_fault (journal_in bytes))
    → IfErr r (λ f. (s : Finished) → StoppedIn now after (journal_files (Some name)) s f)
journal_stops view now after name bytes (Ok x) held le h = tt
journal_stops view now after name bytes (Err f) held le h = λ s.
    journal_ends now after name s f (bytes_stop now after JOURNAL name bytes (GivesJournal s) f held
    (passes (with_journal s) (λ e. refl) (journal_in_file bytes) f
    (subst (λ (x : Result Journal Fault). Refuses f x) (sym (journal_is bytes le)) h)))

pub no_journal : (now after : FilesView) (name : List ℕ) (f : Fault)
    → ContentRefused 4194304 JOURNAL name now after f
    → (s : Finished) → StoppedIn now after (journal_files (Some name)) s f
no_journal now after name f h s = journal_ends now after name s f
    (content_stops 4194304 now after JOURNAL name (GivesJournal s) f (journal_limited s) h)

-- ---- one response file after another
pub room_is : (f : CapsuleFile) (room : ℕ) → room ≡ room_of (λ c. c.sqe) f.capsules.items
    → room ≡ room_of_all (capsules_of_file f)
room_is f room is =
    let g : Capsule → ℕ = λ c. capsule_room c.entry in
    let bytes = f.bytes.items in
    let cs = f.capsules.items in
    let e : sum_by g (map (capsule_in bytes) cs) ≡ sum_by (λ c. g (capsule_in bytes c)) cs =
    sym (sum-map g (map (capsule_in bytes) cs)) ∙ ap sum (map-map g (capsule_in bytes) cs)
    ∙ sum-map (λ c. g (capsule_in bytes c)) cs in
    is ∙ sym (ap (λ n. 160 + n) e)

abbrev pub with_all : Finished → List (List Response) → Finished
with_all s rs = record s { responses = rs }

-- What came of the files that are left, after those of i queues gave these records, came of all.
abbrev pub SoFar : FilesView → List QueueLine → List (List Capsule) → ℕ → List QueueLine
    → List (List Capsule) → List (List Response) → Type 0
SoFar start lines files i lines_left files_left read =
    (s : Finished) (before after : FilesView) (r : Result Finished Fault) → IsEarlier before start
    → ReadsRecords before after (response_files (i + 1) lines_left files_left) (with_all s read) r
    → ReadsRecords before after (response_files 1 lines files) (with_all s []) r

pub none_so_far : (start : FilesView) (lines : List QueueLine) (files : List (List Capsule))
    → SoFar start lines files 0 lines files []
none_so_far start lines files s before after r e h = h

pub one_more : (start now : FilesView) (lines left rest : List QueueLine)
    (files fleft frest : List (List Capsule)) (line : QueueLine) (file : List Capsule)
    (i : ℕ) (read : List (List Response)) (number : FileNo) (room : ℕ) (rs : List Response)
    → IsEarlier start now → number ≡ responses_no (i + 1) → room ≡ room_of_all file
    → left ≡ line ∷ rest → fleft ≡ file ∷ frest
    → SoFar start lines files i left fleft read
    → ReadsResponses now.told number line.responses room rs
    → SoFar start lines files (i + 1) rest frest (read ++ rs ∷ [])
one_more start now lines left rest files fleft frest line file i read number room rs later n m is fis
    so_far reads s before after r e h =
    let mid : Finished = with_all s read in
    let u : Finished = with_all s (read ++ rs ∷ []) in
    let says : Reading before after (responses_no (i + 1)) line.responses
    (GivesResponses (responses_no (i + 1)) (room_of_all file) mid) (Ok u) = record {
      bytes = reads.bytes;
      held = holds_then before now line.responses reads.bytes (earlier_again before start now e later)
          reads.held;
      is = sym (ap (with_responses mid)
          (subst (λ (x : ℕ). responses_in_file (responses_no (i + 1)) x reads.bytes ≡ Ok rs) m
          (subst (λ (x : FileNo). responses_in_file x room reads.bytes ≡ Ok rs) n reads.is)));
    } in
    so_far s before after r e
    (subst (λ (ls : List QueueLine). ReadsRecords before after (response_files (i + 1) ls fleft) mid r)
    (sym is)
    (subst (λ (fs : List (List Capsule)).
    ReadsRecords before after (response_files (i + 1) (line ∷ rest) fs) mid r) (sym fis)
    (Ok u, says, h)))

-- why the next file, of this number and name, ended it
abbrev Stops : FilesView → FilesView → FileNo → List ℕ → ℕ → Fault → Type 0
Stops now after number name room f = (s : Finished)
    → Reading now after number name (GivesResponses number room s) (Err f)

-- the file that ends it
pub stops_here : (start now after : FilesView) (lines left rest : List QueueLine)
    (files fleft frest : List (List Capsule)) (line : QueueLine) (file : List Capsule)
    (i : ℕ) (read : List (List Response)) (number : FileNo) (room : ℕ) (f : Fault)
    → IsEarlier start now → number ≡ responses_no (i + 1) → room ≡ room_of_all file
    → left ≡ line ∷ rest → fleft ≡ file ∷ frest
    → SoFar start lines files i left fleft read
    → Stops now after number line.responses room f
    → (s : Finished) → StoppedIn start after (response_files 1 lines files) (with_all s []) f
stops_here start now after lines left rest files fleft frest line file i read number room f later n m
    is fis so_far stops s =
    let mid : Finished = with_all s read in
    let here : Stops now after (responses_no (i + 1)) line.responses (room_of_all file) f =
    subst (λ (x : ℕ). Stops now after (responses_no (i + 1)) line.responses x f) m
    (subst (λ (x : FileNo). Stops now after x line.responses room f) n stops) in
    inr (λ before e. so_far s before after (Err f) e
    (subst (λ (ls : List QueueLine).
    ReadsRecords before after (response_files (i + 1) ls fleft) mid (Err f)) (sym is)
    (subst (λ (fs : List (List Capsule)).
    ReadsRecords before after (response_files (i + 1) (line ∷ rest) fs) mid (Err f)) (sym fis) (
      Err f,
      reading_then before now after (responses_no (i + 1)) line.responses
          (GivesResponses (responses_no (i + 1)) (room_of_all file) mid) (Err f)
          (earlier_again before start now e later) (here mid),
      refl,
    ))))

-- no file is left
pub all_so_far : (start : FilesView) (lines left : List QueueLine)
    (files fleft : List (List Capsule)) (i : ℕ) (read : List (List Response))
    → left ≡ [] → SoFar start lines files i left fleft read
    → (s : Finished) → ReadOn start (response_files 1 lines files) (with_all s []) (with_all s read)
all_so_far start lines left files fleft i read is so_far s before after e =
    so_far s before after (Ok (with_all s read)) e (rw is refl)
