-- What callers do next, entry by entry: as one condition at each point of a list, and as the list
-- serves its file.
use Rattle.std.proofs.Common.{◌≡◌, ◌<◌, ℕ, zero, suc, ◌+◌, List, [], ◌∷◌, ◌++◌, length, get_or, Some, None, slice_get, refl, sym, ap, subst, ◌∙◌, append_assoc, arith}
use Rattle.std.proofs.lemmas.List.{append-nil}
use Rattle.std.specs.List.{AllByRecursion}
use Rattle.std.proofs.lemmas.List.Kept.{AllPairs-from_increasing}
use Rattle.plan_files.specs.Capsules.{Capsule}
use Rattle.run_transcript.specs.Runs.{Placed, Run, IsRising, target_at, target_after_all}
use Rattle.run_transcript.specs.Turns.{Progress, nothing_done, after_entry, progress_from, progress_of, next_call, Editing, nothing_edited, editing_after, next_edit}
use Rattle.run_transcript.specs.Served.{ServesFile, ServesQueues, ServesScript}
use Rattle.run_verdicts.specs.Nexts.{places_of, editing_from, editing_of}
use Rattle.run_verdicts.proofs.Laying.{AreLow, AreHigh, not-some}

pub append-one : (front : List Placed) (e : Placed) (rest : List Placed) → (front ++ e ∷ []) ++ rest ≡ front ++ e ∷ rest
append-one front e rest = append_assoc front (e ∷ []) rest

pub progress-push : (p : Progress) (front : List Placed) (e : Placed) → progress_from p (front ++ e ∷ []) ≡ after_entry (progress_from p front) e.entry
progress-push p [] e = refl
progress-push p (x ∷ front) e = progress-push (after_entry p x.entry) front e

pub editing-push : (p : Editing) (front : List Placed) (e : Placed) → editing_from p (front ++ e ∷ []) ≡ editing_after (editing_from p front) e.entry
editing-push p [] e = refl
editing-push p (x ∷ front) e = editing-push (editing_after p x.entry) front e

-- ---- files
abbrev pub FileNext : Run → ℕ → List Capsule → List Placed → Placed → Type 0
FileNext run queue file front e = next_call (target_at run e.place) queue file (progress_of front) ≡ Some e.entry.call

abbrev pub FileDone : Run → ℕ → List Capsule → List Placed → Type 0
FileDone run queue file list = next_call (target_after_all run) queue file (progress_of list) ≡ None

pub serves-file : (run : Run) (queue : ℕ) (file : List Capsule) (list : List Placed)
    → ((front : List Placed) (e : Placed) (rest : List Placed) → list ≡ front ++ e ∷ rest → FileNext run queue file front e)
    → FileDone run queue file list → (front rest : List Placed) → list ≡ front ++ rest → ServesFile run queue file (progress_of front) rest
serves-file run queue file list next done front [] is =
    subst (λ (l : List Placed). FileDone run queue file l) (is ∙ append-nil front) done
serves-file run queue file list next done front (e ∷ rest) is = (
  next front e rest is,
  subst (λ (p : Progress). ServesFile run queue file p rest) (progress-push nothing_done front e)
      (serves-file run queue file list next done (front ++ e ∷ []) rest (is ∙ sym (append-one front e rest))),
)

pub served-next : (run : Run) (queue : ℕ) (file : List Capsule) (p : Progress) (front : List Placed) (e : Placed) (rest : List Placed)
    → ServesFile run queue file p (front ++ e ∷ rest) → next_call (target_at run e.place) queue file (progress_from p front) ≡ Some e.entry.call
served-next run queue file p [] e rest s = s.0
served-next run queue file p (x ∷ front) e rest s = served-next run queue file (after_entry p x.entry) front e rest s.1

pub served-done : (run : Run) (queue : ℕ) (file : List Capsule) (p : Progress) (list : List Placed)
    → ServesFile run queue file p list → next_call (target_after_all run) queue file (progress_from p list) ≡ None
served-done run queue file p [] s = s
served-done run queue file p (x ∷ list) s = served-done run queue file (after_entry p x.entry) list s.1

pub serves-queues : (run : Run) (queue : ℕ) (files : List (List Capsule)) (lists : List (List Placed)) → length lists ≡ length files
    → ((q : ℕ) (file : List Capsule) (list : List Placed) → slice_get files q ≡ Some file → slice_get lists q ≡ Some list → ServesFile run (queue + q) file nothing_done list)
    → ServesQueues run queue files lists
serves-queues run queue [] [] same each = tt
serves-queues run queue [] (l ∷ lists) same each = absurd (omega (arith, same))
serves-queues run queue (f ∷ files) [] same each = absurd (omega (arith, same))
serves-queues run queue (f ∷ files) (l ∷ lists) same each =
    let z : queue + 0 ≡ queue = omega arith in (
      subst (λ (k : ℕ). ServesFile run k f nothing_done l) z (each 0 f l refl refl),
      serves-queues run (queue + 1) files lists (omega (arith, same)) (λ q file list hf hl.
          let up : queue + suc q ≡ queue + 1 + q = omega arith in
          subst (λ (k : ℕ). ServesFile run k file nothing_done list) up (each (suc q) file list hf hl)),
    )

-- a queue's file, and that its list serves it
pub record HasFile (run : Run) (queue q : ℕ) (files : List (List Capsule)) (list : List Placed) : Type 0 where
  pub file : List Capsule
  pub is_file : slice_get files q ≡ Some file
  pub serves : ServesFile run (queue + q) file nothing_done list

pub has-file : (run : Run) (queue q : ℕ) (files : List (List Capsule)) (lists : List (List Placed)) (list : List Placed)
    → ServesQueues run queue files lists → slice_get lists q ≡ Some list → HasFile run queue q files list
has-file run queue q [] [] list s h = absurd (not-some list h)
has-file run queue q [] (l ∷ lists) list s h = absurd s
has-file run queue q (f ∷ files) [] list s h = absurd s
has-file run queue zero (f ∷ files) (l ∷ lists) list s h =
    let is : l ≡ list = cc in
    let z : queue ≡ queue + 0 = omega arith in
    record { file = f; is_file = refl; serves = subst (λ (k : ℕ). ServesFile run k f nothing_done list) z (subst (λ (x : List Placed). ServesFile run queue f nothing_done x) is s.0) }
has-file run queue (suc q) (f ∷ files) (l ∷ lists) list s h =
    let more = has-file run (queue + 1) q files lists list s.1 h in
    let up : queue + 1 + q ≡ queue + suc q = omega arith in
    record { file = more.file; is_file = more.is_file; serves = subst (λ (k : ℕ). ServesFile run k more.file nothing_done list) up more.serves }

-- ---- the script
abbrev pub EditNext : Run → List Placed → Placed → Type 0
EditNext run front e = next_edit (target_at run e.place) run.script (editing_of front) ≡ Some e.entry.call

abbrev pub EditDone : Run → List Placed → Type 0
EditDone run list = next_edit (target_after_all run) run.script (editing_of list) ≡ None

pub serves-script : (run : Run) (list : List Placed)
    → ((front : List Placed) (e : Placed) (rest : List Placed) → list ≡ front ++ e ∷ rest → EditNext run front e)
    → EditDone run list → (front rest : List Placed) → list ≡ front ++ rest → ServesScript run (editing_of front) rest
serves-script run list next done front [] is =
    subst (λ (l : List Placed). EditDone run l) (is ∙ append-nil front) done
serves-script run list next done front (e ∷ rest) is = (
  next front e rest is,
  subst (λ (p : Editing). ServesScript run p rest) (editing-push nothing_edited front e)
      (serves-script run list next done (front ++ e ∷ []) rest (is ∙ sym (append-one front e rest))),
)

pub scripted-next : (run : Run) (p : Editing) (front : List Placed) (e : Placed) (rest : List Placed)
    → ServesScript run p (front ++ e ∷ rest) → next_edit (target_at run e.place) run.script (editing_from p front) ≡ Some e.entry.call
scripted-next run p [] e rest s = s.0
scripted-next run p (x ∷ front) e rest s = scripted-next run (editing_after p x.entry) front e rest s.1

pub scripted-done : (run : Run) (p : Editing) (list : List Placed)
    → ServesScript run p list → next_edit (target_after_all run) run.script (editing_from p list) ≡ None
scripted-done run p [] s = s
scripted-done run p (x ∷ list) s = scripted-done run (editing_after p x.entry) list s.1

-- ---- rising
abbrev RisesTo : Placed → List Placed → Type 0
RisesTo x [] = Unit {0}
RisesTo x (y ∷ list) = x.place < y.place

abbrev pub Rises : List Placed → Type 0
Rises [] = Unit {0}
Rises (x ∷ list) = RisesTo x list × Rises list

pub is-rising : (list : List Placed) → Rises list → IsRising list
is-rising [] r k lt = absurd (omega (arith, lt))
is-rising (x ∷ []) r k lt = absurd (omega (arith, lt))
is-rising (x ∷ y ∷ list) r zero lt = r.0
is-rising (x ∷ y ∷ list) r (suc k) lt =
    let up : suc k + 1 ≡ suc (k + 1) = omega arith in
    rw up (is-rising (y ∷ list) r.1 k (omega (arith, lt)))

pub all-lists : (P : List Placed → Type 0) (lists : List (List Placed)) → ((c : ℕ) (list : List Placed) → slice_get lists c ≡ Some list → P list) → AllByRecursion P lists
all-lists P [] each = tt
all-lists P (l ∷ lists) each = (each 0 l refl, all-lists P lists (λ c list h. each (suc c) list h))

pub one-list : (P : List Placed → Type 0) (lists : List (List Placed)) (c : ℕ) (list : List Placed) → AllByRecursion P lists → slice_get lists c ≡ Some list → P list
one-list P [] c list each h = absurd (not-some list h)
one-list P (l ∷ lists) zero list each h = let is : l ≡ list = cc in subst P is each.0
one-list P (l ∷ lists) (suc c) list each h = one-list P lists c list each.1 h

-- a list that rises has at each point what is lower before and what is higher after
abbrev ArePairs : List Placed → Type 0
ArePairs list = (i j : ℕ) → i < j → j < length list → get_or (places_of list) i 0 < get_or (places_of list) j 0

pairs : (list : List Placed) → IsRising list → ArePairs list
pairs list rising i j lt in_list = AllPairs-from_increasing (places_of list) rising i j 0 lt (rw length-places in_list) where
  many : (l : List Placed) → length (places_of l) ≡ length l
  many [] = refl
  many (x ∷ l) = ap (λ n. suc n) (many l)

  length-places : length (places_of list) ≡ length list
  length-places = many list

place-here : (front : List Placed) (e : Placed) (rest : List Placed) → get_or (places_of (front ++ e ∷ rest)) (length front) 0 ≡ e.place
place-here [] e rest = refl
place-here (x ∷ front) e rest = place-here front e rest

tail-pairs : (x : Placed) (list : List Placed) → ArePairs (x ∷ list) → ArePairs list
tail-pairs x list p i j lt in_list = p (suc i) (suc j) (omega (arith, lt)) (omega (arith, in_list))

length-in : (front : List Placed) (e : Placed) (rest : List Placed) → length front < length (front ++ e ∷ rest)
length-in [] e rest = omega arith
length-in (x ∷ front) e rest = omega (arith, length-in front e rest)

low-pairs : (front : List Placed) (e : Placed) (rest : List Placed) → ArePairs (front ++ e ∷ rest) → AreLow e.place front
low-pairs [] e rest p = tt
low-pairs (x ∷ front) e rest p =
    let up : x.place < get_or (places_of (front ++ e ∷ rest)) (length front) 0 = p 0 (suc (length front)) (omega arith) (omega (arith, length-in front e rest)) in
    (omega (arith, up, place-here front e rest), low-pairs front e rest (tail-pairs x (front ++ e ∷ rest) p))

high-after : (e : Placed) (rest : List Placed) → ArePairs (e ∷ rest) → AreHigh e.place rest
high-after e [] p = tt
high-after e (y ∷ rest) p =
    let up : e.place < y.place = p 0 1 (omega arith) (omega arith) in
    (omega (arith, up), high-after e rest (without e y rest p)) where
      without : (e y : Placed) (rest : List Placed) → ArePairs (e ∷ y ∷ rest) → ArePairs (e ∷ rest)
      without e y rest p i zero lt in_list = absurd (omega (arith, lt))
      without e y rest p zero (suc j) lt in_list = p 0 (suc (suc j)) (omega arith) (omega (arith, in_list))
      without e y rest p (suc i) (suc j) lt in_list = p (suc (suc i)) (suc (suc j)) (omega (arith, lt)) (omega (arith, in_list))

high-pairs : (front : List Placed) (e : Placed) (rest : List Placed) → ArePairs (front ++ e ∷ rest) → AreHigh e.place rest
high-pairs [] e rest p = high-after e rest p
high-pairs (x ∷ front) e rest p = high-pairs front e rest (tail-pairs x (front ++ e ∷ rest) p)

pub record IsCutAt (p : ℕ) (front rest : List Placed) : Type 0 where
  pub low : AreLow p front
  pub high : AreHigh p rest

pub cut-at : (list front : List Placed) (e : Placed) (rest : List Placed) → IsRising list → list ≡ front ++ e ∷ rest → IsCutAt e.place front (e ∷ rest)
cut-at list front e rest rising is =
    let p : ArePairs (front ++ e ∷ rest) = pairs (front ++ e ∷ rest) (subst IsRising is rising) in
    record { low = low-pairs front e rest p; high = (omega arith, high-pairs front e rest p) }
