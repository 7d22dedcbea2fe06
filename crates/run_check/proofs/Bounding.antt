-- From which place on all that is no final poll stands below.
use Rattle.std.proofs.Common.{◌≡◌, ◌≤◌, ◌<◌, ℕ, ◌+◌, ◌&&◌, Bool, true, false, List, [], ◌∷◌, ◌++◌, length, drop, get_or, refl, sym, ap, subst, ◌∙◌, arith}
use Rattle.std.specs.Prelude.{◌↔◌, ◌==◌}
use Rattle.std.specs.List.{AllByRecursion}
use Rattle.plan_files.specs.Capsules.{Capsule}
use Rattle.response_files.specs.Responses.{Response}
use Rattle.journal_text.specs.declared.lines.JournalLine.{JournalLine}
use Rattle.run_transcript.specs.declared.scripts.ScriptEdit.{ScriptEdit}
use Rattle.run_transcript.specs.Runs.{Placed}
use Rattle.run_transcript.specs.Turns.{Progress, Editing, nothing_done, nothing_edited, after_entry, editing_after}
use Rattle.run_transcript.specs.Served.{is_final, is_poll, is_final_poll, body_from, body_of, bodies}
use Rattle.check_records.specs.Seats.{place_of_line}
use Rattle.check_records.specs.Told.{call_told, poll_told, editor_told, editor_told_from, entry_told, line_told, queue_told, queue_told_from, queues_told}
use Rattle.run_records.specs.declared.records.Kind.{Kind}
use Rattle.run_records.specs.declared.records.Kind.TheVariants as kinds
use Rattle.tree_target.specs.declared.calls.Reply.{Reply}
use Rattle.check_records.specs.declared.cursor.Cursor.{Cursor}
use Rattle.check_records.specs.Cursors.{behind}
use Rattle.run_check.proofs.Placing.{line_place, next_get}
use Rattle.run_check.specs.Pieces.{Adds, is_poll_kind, AreLinesBelow, IsBodyBelow, AreBodiesBelow}

abbrev pub AllBelow : ℕ → List Placed → Type 0
AllBelow p list = AllByRecursion (λ x. x.place < p) list

-- ---- lists
pub both_below : (p : ℕ) (xs ys : List Placed) → AllBelow p xs → AllBelow p ys → AllBelow p (xs ++ ys)
both_below p [] ys a b = b
both_below p (x ∷ xs) ys a b = (a.0, both_below p xs ys a.1 b)

pub first_below : (p : ℕ) (xs ys : List Placed) → AllBelow p (xs ++ ys) → AllBelow p xs
first_below p [] ys a = tt
first_below p (x ∷ xs) ys a = (a.0, first_below p xs ys a.1)

pub second_below : (p : ℕ) (xs ys : List Placed) → AllBelow p (xs ++ ys) → AllBelow p ys
second_below p [] ys a = a
second_below p (x ∷ xs) ys a = second_below p xs ys a.1

-- ---- lines
-- so far all lines stand below p exactly where the bound does and those that are left stand below p
abbrev pub LinesSoFar : List JournalLine → ℕ → List JournalLine → Type 0
LinesSoFar all bound left = (p : ℕ) → AreLinesBelow p all ↔ ((bound ≤ p) × AreLinesBelow p left)

pub no_line : (all : List JournalLine) → LinesSoFar all 0 all
no_line all p = (λ a. (omega arith, a), λ h. h.1)

pub line_more : (all left rest : List JournalLine) (l : JournalLine) (bound to place : ℕ)
    → left ≡ l ∷ rest → place ≡ place_of_line l
    → ((p : ℕ) → (to ≤ p) ↔ ((bound ≤ p) × (place < p)))
    → LinesSoFar all bound left → LinesSoFar all to rest
line_more all left rest l bound to place is at step so_far p = (
  λ a.
      let h = (so_far p).0 a in
      let k : AreLinesBelow p (l ∷ rest) = subst (AreLinesBelow p) is h.1 in
      ((step p).1 (h.0, subst (λ (n : ℕ). n < p) (sym at) k.0), k.1),
  λ h.
      let k = (step p).0 h.0 in
      (so_far p).1 (k.0, subst (AreLinesBelow p) (sym is) (subst (λ (n : ℕ). n < p) at k.1, h.1)),
)

pub line_next : (all : List JournalLine) (i : ℕ) (d : JournalLine) (bound to place : ℕ)
    → i < length all → place ≡ place_of_line (get_or all i d)
    → ((p : ℕ) → (to ≤ p) ↔ ((bound ≤ p) × (place < p)))
    → LinesSoFar all bound (drop i all) → LinesSoFar all to (drop (i + 1) all)
line_next all i d bound to place lt at step so_far =
    line_more all (drop i all) (drop (i + 1) all) (get_or all i d) bound to place (next_get all i d lt)
    at step so_far

pub no_line_left : (all left : List JournalLine) (bound : ℕ) → left ≡ [] → LinesSoFar all bound left
    → (p : ℕ) → (bound ≤ p) ↔ AreLinesBelow p all
no_line_left all left bound is so_far p = (
  λ le. (so_far p).1 (le, subst (AreLinesBelow p) (sym is) tt),
  λ a. ((so_far p).0 a).0,
)

-- ---- the records of a queue
abbrev pub BodyLeft : ℕ → ℕ → ℕ → List Capsule → Progress → List Response → Type 0
BodyLeft p n queue file at rs = AllBelow p (body_from n at (queue_told_from queue file at rs))

abbrev pub BodySoFar : ℕ → List Capsule → List Response → ℕ → Progress → ℕ → List Response → Type 0
BodySoFar n file all from at bound left = (queue p : ℕ)
    → ((from ≤ p) × BodyLeft p n queue file nothing_done all)
    ↔ ((bound ≤ p) × BodyLeft p n queue file at left)

pub no_record : (n : ℕ) (file : List Capsule) (all : List Response) (from : ℕ)
    → BodySoFar n file all from nothing_done from all
no_record n file all from queue p = (λ a. a, λ a. a)

-- a record of a poll tells a poll, whatever its number
told_poll : (right : Bool) (queue : ℕ) → is_poll (poll_told right queue) ≡ true
told_poll true queue = refl
told_poll false queue = refl

kind_told : (queue : ℕ) (file : List Capsule) (taken : ℕ) (kind : Kind) (number : ℕ)
    → is_poll (call_told queue file taken kind number) ≡ is_poll_kind kind
kind_told queue file taken kinds.Submit number = refl
kind_told queue file taken kinds.Execute number = refl
kind_told queue file taken kinds.Poll number = told_poll (number == taken) queue
kind_told queue file taken kinds.Control number = refl

final_told : (n queue : ℕ) (file : List Capsule) (at : Progress) (r : Response) (last : Bool)
    → (is_poll_kind r.head.kind && is_final n at) ≡ last
    → is_final_poll n at (entry_told queue file at.taken r).call ≡ last
final_told n queue file at r last is =
    ap (λ (b : Bool). b && is_final n at) (kind_told queue file at.taken r.head.kind r.head.number)
    ∙ is

record_step : (p n queue : ℕ) (file : List Capsule) (at : Progress) (r : Response)
    (rest : List Response) (bound to : ℕ) (last : Bool)
    → is_final_poll n at (entry_told queue file at.taken r).call ≡ last
    → Adds last r.head.place bound to
    → ((bound ≤ p) × BodyLeft p n queue file at (r ∷ rest))
    ↔ ((to ≤ p)
    × BodyLeft p n queue file (after_entry at (entry_told queue file at.taken r)) rest)
record_step p n queue file at r rest bound to true is adds = rw (is, adds) (λ a. a, λ a. a)
record_step p n queue file at r rest bound to false is adds = rw is (
  λ a. ((adds p).1 (a.0, a.1.0), a.1.1),
  λ a.
      let k = (adds p).0 a.0 in
      (k.0, (k.1, a.1)),
)

pub record_more : (n : ℕ) (file : List Capsule) (all : List Response) (from : ℕ)
    (at next : Progress) (bound to : ℕ) (left rest : List Response) (r : Response) (last : Bool)
    → left ≡ r ∷ rest → (is_poll_kind r.head.kind && is_final n at) ≡ last
    → Adds last r.head.place bound to
    → ((queue : ℕ) → next ≡ after_entry at (entry_told queue file at.taken r))
    → BodySoFar n file all from at bound left → BodySoFar n file all from next to rest
record_more n file all from at next bound to left rest r last is final adds goes so_far queue p =
    let h = so_far queue p in
    let k = record_step p n queue file at r rest bound to last
    (final_told n queue file at r last final) adds in (
      λ a. subst (λ (q : Progress). (to ≤ p) × BodyLeft p n queue file q rest) (sym (goes queue))
          (k.0 (subst (λ (rs : List Response). (bound ≤ p) × BodyLeft p n queue file at rs) is (h.0 a))),
      λ a. h.1 (subst (λ (rs : List Response). (bound ≤ p) × BodyLeft p n queue file at rs) (sym is)
          (k.1 (subst (λ (q : Progress). (to ≤ p) × BodyLeft p n queue file q rest) (goes queue) a))),
    )

pub no_record_left : (n : ℕ) (file : List Capsule) (all : List Response) (from : ℕ) (at : Progress)
    (bound : ℕ) (left : List Response) → left ≡ [] → n ≡ length file
    → BodySoFar n file all from at bound left
    → (queue p : ℕ) → (bound ≤ p) ↔ ((from ≤ p) × IsBodyBelow p queue file all)
no_record_left n file all from at bound left is count so_far queue p =
    let h = so_far queue p in (
      λ le. subst (λ (m : ℕ). (from ≤ p)
          × AllBelow p (body_from m nothing_done (queue_told queue file all))) count
          (h.1 (le, subst (λ (rs : List Response). BodyLeft p n queue file at rs) (sym is) tt)),
      λ a. (h.0 (subst (λ (m : ℕ). (from ≤ p)
          × AllBelow p (body_from m nothing_done (queue_told queue file all))) (sym count) a)).0,
    )

-- ---- one queue after another
abbrev pub BodiesSoFar : List JournalLine → List (List Capsule) → List (List Response) → ℕ → ℕ
    → List (List Capsule) → List (List Response) → Type 0
BodiesSoFar ls files all i bound fleft left = (p : ℕ)
    → (AreLinesBelow p ls × AreBodiesBelow p 1 files all)
    ↔ ((bound ≤ p) × AreBodiesBelow p (i + 1) fleft left)

pub no_queue : (ls : List JournalLine) (files : List (List Capsule)) (all : List (List Response))
    (bound : ℕ) → ((p : ℕ) → (bound ≤ p) ↔ AreLinesBelow p ls)
    → BodiesSoFar ls files all 0 bound files all
no_queue ls files all bound h p = (λ a. ((h p).1 a.0, a.1), λ a. ((h p).0 a.0, a.1))

pub queue_more : (ls : List JournalLine) (files : List (List Capsule)) (all : List (List Response))
    (i bound to : ℕ) (fleft frest : List (List Capsule)) (left rest : List (List Response))
    (file : List Capsule) (rs : List Response)
    → fleft ≡ file ∷ frest → left ≡ rs ∷ rest
    → ((queue p : ℕ) → (to ≤ p) ↔ ((bound ≤ p) × IsBodyBelow p queue file rs))
    → BodiesSoFar ls files all i bound fleft left → BodiesSoFar ls files all (i + 1) to frest rest
queue_more ls files all i bound to fleft frest left rest file rs fis is step so_far p =
    let h = so_far p in
    let k = step (i + 1) p in
    let here : AreBodiesBelow p (i + 1) fleft left ≡ AreBodiesBelow p (i + 1) (file ∷ frest) (rs ∷ rest) =
    rw (fis, is) refl in
    let one = body_of file (queue_told (i + 1) file rs) in
    let others = bodies frest (queues_told (i + 1 + 1) frest rest) in (
      λ a.
          let x = h.0 a in
          let y : AllBelow p (one ++ others) = rw (fis, is) at x.1 in
          (k.1 (x.0, first_below p one others y), second_below p one others y),
      λ a.
          let x = k.0 a.0 in
          h.1 (x.0, rw (fis, is) (both_below p one others x.1 a.1)),
    )

pub no_queue_left : (ls : List JournalLine) (files : List (List Capsule))
    (all : List (List Response)) (i bound : ℕ) (fleft : List (List Capsule))
    (left : List (List Response)) → fleft ≡ [] → BodiesSoFar ls files all i bound fleft left
    → (p : ℕ) → (bound ≤ p) ↔ (AreLinesBelow p ls × AreBodiesBelow p 1 files all)
no_queue_left ls files all i bound fleft left is so_far p = (
  λ le. (so_far p).1 (le, rw is tt),
  λ a. ((so_far p).0 a).0,
)

-- ---- of the run that is told
pub editor_below : (p : ℕ) (script : List ScriptEdit) (e : Editing) (journal : List JournalLine)
    → AreLinesBelow p journal → AllBelow p (editor_told_from script e journal)
editor_below p script e [] a = tt
editor_below p script e (l ∷ journal) a = (
  subst (λ (n : ℕ). n < p) (sym (line_place script e l)) a.0,
  editor_below p script (editing_after e (line_told script e l).entry) journal a.1,
)

pub lines_below : (p : ℕ) (script : List ScriptEdit) (e : Editing) (journal : List JournalLine)
    → AllBelow p (editor_told_from script e journal) → AreLinesBelow p journal
lines_below p script e [] a = tt
lines_below p script e (l ∷ journal) a = (
  subst (λ (n : ℕ). n < p) (line_place script e l) a.0,
  lines_below p script (editing_after e (line_told script e l).entry) journal a.1,
)

-- the bound of lines and records is that of the run
pub bound_is : (script : List ScriptEdit) (journal : List JournalLine)
    (files : List (List Capsule)) (responses : List (List Response)) (bound : ℕ)
    → ((p : ℕ) → (bound ≤ p) ↔ (AreLinesBelow p journal × AreBodiesBelow p 1 files responses))
    → (p : ℕ) → (bound ≤ p)
    ↔ AllBelow p (editor_told script journal ++ bodies files (queues_told 1 files responses))
bound_is script journal files responses bound h p =
    let one = editor_told script journal in
    let others = bodies files (queues_told 1 files responses) in (
      λ le.
          let a = (h p).0 le in
          both_below p one others (editor_below p script nothing_edited journal a.0) a.1,
      λ a. (h p).1 (
        lines_below p script nothing_edited journal (first_below p one others a),
        second_below p one others a,
      ),
    )

pub adds_of : (last : Bool) (place bound to : ℕ) → (last ≡ true → to ≡ bound)
    → (last ≡ false → (p : ℕ) → (to ≤ p) ↔ ((bound ≤ p) × (place < p))) → Adds last place bound to
adds_of true place bound to stays goes = stays refl
adds_of false place bound to stays goes = goes refl

-- ---- cursors
-- at most one capsule more is taken
pub taken_behind : (at : Cursor) (kind : Kind) (reply : Reply)
    → (behind at kind reply).taken ≤ at.taken + 1
taken_behind at kinds.Submit reply = omega arith
taken_behind at kinds.Execute reply = omega arith
taken_behind at kinds.Poll reply = omega arith
taken_behind at kinds.Control reply = omega arith
