-- The places of the run that records tell.
use Rattle.std.proofs.Common.{◌≡◌, ◌<◌, ℕ, suc, ◌+◌, cond, eqb, List, [], ◌∷◌, ◌++◌, length, map, take, drop, get_or, drop-cons, add-one, append_assoc, Option, Some, None, refl, sym, ap, ap₂, ◌∙◌, arith}
use Rattle.std.specs.Prelude.{MatchOption, All}
use Rattle.std.specs.List.{flat_map, AllByRecursion}
use Rattle.std.specs.List.Sorted.{IsPermutation}
use Rattle.std.proofs.lemmas.Grind.{flat_map-append}
use Rattle.std.proofs.Math.Seq.{take-suc}
use Rattle.std.proofs.lemmas.List.{append-nil, length-append, length-map, map-append}
use Rattle.std.proofs.lemmas.List.Elements.{All-from_recursion}
use Rattle.std.proofs.lemmas.List.Sorted.{sum_by-IsPermutation, length_permutation}
use Rattle.plan_files.specs.Capsules.{Capsule}
use Rattle.response_files.specs.Responses.{response_in}
use Rattle.response_files.specs.declared.responses.Record.{Record}
use Rattle.response_files.specs.declared.journal.Journal.{Journal}
use Rattle.journal_text.specs.declared.lines.JournalLine.{JournalLine}
use Rattle.journal_text.specs.declared.lines.JournalLine.TheVariants as lines
use Rattle.run_transcript.specs.declared.scripts.ScriptEdit.{ScriptEdit}
use Rattle.run_transcript.specs.Runs.{Placed}
use Rattle.run_transcript.specs.Turns.{Progress, Editing, nothing_done, nothing_edited, after_entry, editing_after}
use Rattle.run_verdicts.specs.Places.{times, IsBadPlace, ArePlaces, IsLowest}
use Rattle.run_verdicts.specs.Nexts.{places_of}
use Rattle.check_records.specs.declared.seats.Responses.{Responses}
use Rattle.check_records.specs.Seats.{all_responses, place_of_line, responses_of}
use Rattle.check_records.specs.Told.{editor_told, editor_told_from, entry_told, line_told, queue_told, queue_told_from, queues_told}
use Rattle.run_check.specs.Finished.{lines_of}
use Rattle.run_check.specs.Pieces.{line_places, record_places, response_places}

-- ---- loops
-- the item at an index, and the rest
pub next_at : {X : Type 0} (xs : List X) (i : ℕ) (x : X) → i < length xs → x ≡ get_or xs i x
    → drop i xs ≡ x ∷ drop (i + 1) xs
next_at xs i x lt is =
    rw add-one (drop-cons xs i x lt ∙ ap (λ y. y ∷ drop (suc i) xs) (sym is))

-- the list of a loop with one item more
pub placed_next : (xs old : List ℕ) (records : List Record) (i : ℕ) (d : Record)
    → i < length records → xs ≡ old ++ record_places (take i records)
    → xs ++ (get_or records i d).head.place ∷ [] ≡ old ++ record_places (take (i + 1) records)
placed_next xs old records i d lt so_far =
    let r = get_or records i d in
    let next : take (i + 1) records ≡ take i records ++ r ∷ [] =
    rw add-one (take-suc records i d lt) in
    let more : record_places (take (i + 1) records)
    ≡ record_places (take i records) ++ r.head.place ∷ [] =
    ap record_places next
    ∙ map-append (λ (x : Record). x.head.place) (take i records) (r ∷ []) in
    ap (λ ys. ys ++ r.head.place ∷ []) so_far
    ∙ append_assoc old (record_places (take i records)) (r.head.place ∷ [])
    ∙ ap (λ ys. old ++ ys) (sym more)

pub next_get : {X : Type 0} (xs : List X) (i : ℕ) (d : X) → i < length xs
    → drop i xs ≡ get_or xs i d ∷ drop (i + 1) xs
next_get xs i d lt = rw add-one (drop-cons xs i d lt)

pub responses_more : (xs ys old : List ℕ) (rs : List Responses) (i : ℕ) (r : Responses)
    → i < length rs → r ≡ get_or rs i r → xs ≡ old ++ response_places (take i rs)
    → ys ≡ xs ++ record_places r.records.items
    → ys ≡ old ++ response_places (take (i + 1) rs)
responses_more xs ys old rs i r lt is so_far step =
    let next : take (i + 1) rs ≡ take i rs ++ r ∷ [] =
    rw add-one (take-suc rs i r lt ∙ ap (λ y. take i rs ++ y ∷ []) (sym is)) in
    let one : response_places (r ∷ []) ≡ record_places r.records.items =
    append-nil (record_places r.records.items) in
    let more : response_places (take (i + 1) rs)
    ≡ response_places (take i rs) ++ record_places r.records.items =
    ap response_places next
    ∙ flat_map-append (λ (x : Responses). record_places x.records.items) (take i rs) (r ∷ [])
    ∙ ap (λ zs. response_places (take i rs) ++ zs) one in
    step ∙ ap (λ zs. zs ++ record_places r.records.items) so_far
    ∙ append_assoc old (response_places (take i rs)) (record_places r.records.items)
    ∙ ap (λ zs. old ++ zs) (sym more)

-- ---- in another order
pub times_same : (xs ys : List ℕ) (p : ℕ) → IsPermutation xs ys → times p ys ≡ times p xs
times_same xs ys p e = sum_by-IsPermutation (λ q. cond (eqb q p) 1 0) xs ys e

pub places_same : (xs ys : List ℕ) (n : ℕ) (o : Option ℕ) → IsPermutation xs ys
    → MatchOption o (ArePlaces n ys) (λ p. IsLowest (IsBadPlace n ys) p)
    → MatchOption o (ArePlaces n xs) (λ p. IsLowest (IsBadPlace n xs) p)
places_same xs ys n None e h = λ p. sym (times_same xs ys p e) ∙ h p
places_same xs ys n (Some p) e h = record {
  here = λ is. h.here (times_same xs ys p e ∙ is);
  none_below = λ k lt bad. h.none_below k lt (λ is. bad (sym (times_same xs ys k e) ∙ is));
}

-- ---- the places that are told
pub line_place : (script : List ScriptEdit) (p : Editing) (l : JournalLine)
    → (line_told script p l).place ≡ place_of_line l
line_place script p (lines.Edit place line answer) = refl
line_place script p (lines.Done place line) = refl

editor_places : (script : List ScriptEdit) (p : Editing) (journal : List JournalLine)
    → places_of (editor_told_from script p journal) ≡ line_places journal
editor_places script p [] = refl
editor_places script p (l ∷ journal) = ap₂ (λ (x : ℕ) (xs : List ℕ). x ∷ xs) (line_place script p l)
    (editor_places script (editing_after p (line_told script p l).entry) journal)

queue_places : (queue : ℕ) (file : List Capsule) (p : Progress) (bytes : List ℕ)
    (records : List Record)
    → places_of (queue_told_from queue file p (map (response_in bytes) records))
    ≡ record_places records
queue_places queue file p bytes [] = refl
queue_places queue file p bytes (r ∷ records) = ap (λ (xs : List ℕ). r.head.place ∷ xs)
    (queue_places queue file
    (after_entry p (entry_told queue file p.taken (response_in bytes r))) bytes records)

queues_places : (queue : ℕ) (files : List (List Capsule)) (rs : List Responses)
    → length files ≡ length rs
    → places_of (flat_map (λ list. list) (queues_told queue files (all_responses rs)))
    ≡ response_places rs
queues_places queue [] [] e = refl
queues_places queue [] (r ∷ rs) e = absurd (omega (arith, e))
queues_places queue (file ∷ files) [] e = absurd (omega (arith, e))
queues_places queue (file ∷ files) (r ∷ rs) e =
    map-append (λ (x : Placed). x.place) (queue_told queue file (responses_of r))
    (flat_map (λ list. list) (queues_told (queue + 1) files (all_responses rs)))
    ∙ ap₂ (λ (xs ys : List ℕ). xs ++ ys)
    (queue_places queue file nothing_done r.bytes.items r.records.items)
    (queues_places (queue + 1) files rs (omega (arith, e)))

pub told_places : (script : List ScriptEdit) (files : List (List Capsule)) (rs : List Responses)
    (journal : List JournalLine) → length files ≡ length rs
    → places_of (flat_map (λ list. list)
    (editor_told script journal ∷ queues_told 1 files (all_responses rs)))
    ≡ line_places journal ++ response_places rs
told_places script files rs journal e =
    map-append (λ (x : Placed). x.place) (editor_told script journal)
    (flat_map (λ list. list) (queues_told 1 files (all_responses rs)))
    ∙ ap₂ (λ (xs ys : List ℕ). xs ++ ys) (editor_places script nothing_edited journal)
    (queues_places 1 files rs e)

-- ---- how many
pub count_records : (rs : List Responses)
    → length (flat_map (λ list. list) (all_responses rs)) ≡ length (response_places rs)
count_records [] = refl
count_records (r ∷ rs) = omega (
  arith,
  length-append (responses_of r) (flat_map (λ list. list) (all_responses rs)),
  length-append (record_places r.records.items) (response_places rs),
  length-map r.records.items (response_in r.bytes.items),
  length-map r.records.items (λ (x : Record). x.head.place),
  count_records rs,
)

-- without a journal there are as many places as records
pub count_is : (rs : List Responses) (journal : Option Journal) (places : List ℕ)
    → IsPermutation (line_places (lines_of journal) ++ response_places rs) places
    → journal ≡ None → length places ≡ length (flat_map (λ list. list) (all_responses rs))
count_is rs None places e is =
    length_permutation (response_places rs) places e ∙ sym (count_records rs)
count_is rs (Some j) places e is = absurd cc

each_few : (rs : List Responses) (n : ℕ) → length (response_places rs) < n
    → AllByRecursion (λ (r : Responses). length r.records.items < n) rs
each_few [] n lt = tt
each_few (r ∷ rs) n lt =
    let both = length-append (record_places r.records.items) (response_places rs) in
    let one = length-map r.records.items (λ (x : Record). x.head.place) in
    (omega (arith, lt, both, one), each_few rs n (omega (arith, lt, both)))

pub all_few : (rs : List Responses) (ls : List JournalLine) (places : List ℕ) (n : ℕ)
    → IsPermutation (line_places ls ++ response_places rs) places → length places < n
    → All (λ (r : Responses). length r.records.items < n) rs
all_few rs ls places n e lt =
    All-from_recursion (λ (r : Responses). length r.records.items < n) rs (each_few rs n (omega (
      arith,
      lt,
      length_permutation (line_places ls ++ response_places rs) places e,
      length-append (line_places ls) (response_places rs),
    )))
