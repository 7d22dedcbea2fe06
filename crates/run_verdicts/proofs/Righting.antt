-- A right run is ordered, served and legal.
use Rattle.std.proofs.Common.{◌≡◌, ◌≤◌, ◌<◌, ℕ, suc, ◌+◌, Bool, true, false, ltb, List, [], ◌∷◌, ◌++◌, length, Option, Some, slice_get, refl, sym, ap, subst, ◌∙◌, arith, ltb-true, ltb-false}
use Rattle.std.specs.List.Sorted.{IsPermutation}
use Rattle.plan_files.specs.Capsules.{Capsule}
use Rattle.tree_target.specs.Model.{Entry}
use Rattle.run_transcript.specs.Runs.{Placed, Run, callers, IsRising, IsOrdered, IsLegalRun, placed_from, target_at, target_after_all}
use Rattle.run_transcript.specs.Turns.{nothing_done, progress_of}
use Rattle.run_transcript.specs.Served.{IsServed, ServesFile, bodies, finals}
use Rattle.run_verdicts.specs.Places.{wanted}
use Rattle.run_verdicts.specs.Nexts.{below, in_places, next_of, next_of_file, front_of, front_in, earlier, is_final_of, is_final_in, AreAllBelow}
use Rattle.run_verdicts.specs.Faults.{IsRight}
use Rattle.run_verdicts.specs.Laws.{IsLaidOut, IsTranscript}
use Rattle.run_verdicts.proofs.Laying.{all, stand, stand-in, one-of, comes-only, wanted-no, wanted-most, AreLow, low-below, low-last}
use Rattle.run_verdicts.proofs.Serving.{append-one, Rises, is-rising, all-lists, serves-file, serves-queues, serves-script}
use Rattle.run_verdicts.proofs.Fronting.{AreFull, full-front, all-fronts, final-poll-is-final, each-finals, IsAllBelow, before-from}
use Rattle.run_verdicts.proofs.History.{IsAt, is-at, length-history, get-history, IsLegalEntry, legal-from, get-within, merged, all-below}

low-place : (n k s : ℕ) → 1 ≤ s → s ≡ wanted n k → k < n
low-place n k s some is = by-test (ltb k n) refl where
  by-test : (b : Bool) → ltb k n ≡ b → k < n
  by-test true t = ltb-true k n t
  by-test false f = absurd (omega (arith, some, is, wanted-no n k (ltb-false k n f)))

-- an entry at its point in the list of a caller
record Point (run : Run) (c : ℕ) (list front : List Placed) (e : Placed) : Type 0 where
  pub below_is : below e.place list ≡ front
  pub owed : next_of run (target_at run e.place) c front ≡ Some e.entry.call
  pub turn : length front < front_of run c → e.place ≡ earlier run c + length front
  pub last : is_final_of run c front ≡ true → AreAllBelow run e.place

abbrev Points : Run → ℕ → List Placed → Type 0
Points run c list = (front : List Placed) (e : Placed) (rest : List Placed) → list ≡ front ++ e ∷ rest → Point run c list front e

points : (n : ℕ) (run : Run) → IsRight n run → (c : ℕ) (list : List Placed) → slice_get (callers run) c ≡ Some list → Points run c list
points n run right c list is_list front e rest is =
    let k = e.place in
    let here : 1 ≤ stand k list = omega (arith, ap (stand k) is, stand-in k front e rest refl) in
    let places : stand k (all (callers run)) ≤ 1 = omega (arith, right.agrees.places k, wanted-most n k) in
    let lt : k < n = low-place n k (stand k (all (callers run))) (omega (arith, here, one-of (callers run) k c list is_list)) (right.agrees.places k) in
    let a = right.agrees.below k lt in
    let o = comes-only (callers run) k a.in_order.caller c a.in_order.list list front a.entry e rest places a.in_order.is_list is_list is refl a.in_order.comes in
    let owed : next_of run (target_at run k) a.in_order.caller front ≡ Some a.entry.entry.call =
    subst (λ (l : List Placed). next_of run (target_at run k) a.in_order.caller l ≡ Some a.entry.entry.call) o.fronts a.in_order.owed in
    let turn : length front < front_of run a.in_order.caller → k ≡ earlier run a.in_order.caller + length front =
    subst (λ (l : List Placed). length l < front_of run a.in_order.caller → k ≡ earlier run a.in_order.caller + length l) o.fronts a.in_order.turn in
    let last : is_final_of run a.in_order.caller front ≡ true → AreAllBelow run k =
    subst (λ (l : List Placed). is_final_of run a.in_order.caller l ≡ true → AreAllBelow run k) o.fronts a.in_order.last in
    record {
      below_is = ap (below k) (sym o.lists) ∙ o.fronts;
      owed = subst (λ (x : Placed). next_of run (target_at run k) c front ≡ Some x.entry.call) o.entries
          (subst (λ (q : ℕ). next_of run (target_at run k) q front ≡ Some a.entry.entry.call) o.callers owed);
      turn = subst (λ (q : ℕ). length front < front_of run q → k ≡ earlier run q + length front) o.callers turn;
      last = subst (λ (q : ℕ). is_final_of run q front ≡ true → AreAllBelow run k) o.callers last;
    }

-- ---- ordered
rises : (run : Run) (c : ℕ) (list : List Placed) → Points run c list → (front rest : List Placed) → list ≡ front ++ rest → Rises rest
rises run c list points front [] is = tt
rises run c list points front (x ∷ []) is = (tt, tt)
rises run c list points front (x ∷ y ∷ rest) is =
    let p = points (front ++ x ∷ []) y rest (is ∙ sym (append-one front x (y ∷ rest))) in
    let low : AreLow y.place (front ++ x ∷ []) = subst (λ (l : List Placed). AreLow y.place l) p.below_is (low-below y.place list) in
    (low-last y.place front x low, rises run c list points (front ++ x ∷ []) (y ∷ rest) (is ∙ sym (append-one front x (y ∷ rest))))

ordered : (n : ℕ) (run : Run) → IsLaidOut n run → IsRight n run → IsOrdered run
ordered n run laid right =
    let lists : List (List Placed) = callers run in
    let whole : below n (all lists) ≡ all lists = all-below n (all lists) (λ p le. right.agrees.places p ∙ wanted-no n p le) in
    record {
      rising = all-lists IsRising lists (λ c list h. is-rising list (rises run c list (points n run right c list h) [] list refl));
      merged = subst (λ (h : List Entry). IsPermutation (all lists) (placed_from 0 h)) (sym laid.history_is)
          (subst (λ (l : List Placed). IsPermutation l (placed_from 0 (in_places n (all lists)))) whole (merged n lists right.agrees.places n (omega arith)));
    }

-- ---- served
abbrev Serve : Run → ℕ → List Capsule → List Placed → Type 0
Serve run q file list = ServesFile run (suc q) file nothing_done list

serve : (n : ℕ) (run : Run) → IsRight n run → (q : ℕ) (file : List Capsule) (list : List Placed) → slice_get run.files q ≡ Some file → slice_get run.queues q ≡ Some list → Serve run q file list
serve n run right q file list hf hl =
    let all_points = points n run right (suc q) list hl in
    serves-file run (suc q) file list
    (λ front e rest is. ap (λ (o : Option (List Capsule)). next_of_file (target_at run e.place) (suc q) o front) (sym hf) ∙ (all_points front e rest is).owed)
    (ap (λ (o : Option (List Capsule)). next_of_file (target_after_all run) (suc q) o list) (sym hf) ∙ right.done (suc q) list hl)
    [] list refl

served : (n : ℕ) (run : Run) → IsLaidOut n run → IsRight n run → IsServed run
served n run laid right =
    let each : (q : ℕ) (file : List Capsule) (list : List Placed) → slice_get run.files q ≡ Some file → slice_get run.queues q ≡ Some list → Serve run q file list = serve n run right in
    let full : AreFull run.files run.queues = λ q file list hf hl. full-front run (suc q) file 0 file list refl (each q file list hf hl) in
    let early : List Placed = run.editor ++ bodies run.files run.queues in
    record {
      queues = serves-queues run 1 run.files run.queues laid.queues (λ q file list hf hl.
          let up : suc q ≡ 1 + q = omega arith in subst (λ (k : ℕ). ServesFile run k file nothing_done list) up (each q file list hf hl));
      script = serves-script run run.editor (λ front e rest is. (points n run right 0 run.editor refl front e rest is).owed) (right.done 0 run.editor refl) [] run.editor refl;
      first = all-fronts 0 run.files run.queues laid.queues full (λ q file list hf hl front e rest is lt.
          let p = points n run right (suc q) list hl front e rest is in
          let low : length front < front_of run (suc q) = subst (λ (o : Option (List Capsule)). length front < front_in o) (sym hf) lt in
          omega (arith, p.turn low));
      last = before-from early (finals run.files run.queues) (each-finals (IsAllBelow early) run.files run.queues laid.queues (λ q file list hf hl front e rest is final.
          (points n run right (suc q) list hl front e rest is).last (ap (λ (o : Option (List Capsule)). is_final_in o front) hf
          ∙ final-poll-is-final (length file) (progress_of front) e.entry.call final)));
    }

-- ---- legal
same-some : (a b : Entry) → Some a ≡ Some b → a ≡ b
same-some a b h = cc

legal : (n : ℕ) (run : Run) → IsLaidOut n run → IsRight n run → IsLegalRun run
legal n run laid right = legal-from run.start run.history (λ k e at.
    let lists : List (List Placed) = callers run in
    let many : length run.history ≡ n = ap (λ (h : List Entry). length h) laid.history_is ∙ length-history n lists right.agrees.places n (omega arith) in
    let lt : k < n = omega (arith, many, get-within run.history k e at) in
    let here : IsAt lists k = is-at n lists right.agrees.places k lt in
    let x : Placed = here.among.at.entry in
    let is : slice_get run.history k ≡ Some x.entry = ap (λ (h : List Entry). slice_get h k) laid.history_is ∙ get-history n lists right.agrees.places k here n lt (omega arith) in
    let same : x.entry ≡ e = same-some x.entry e (sym is ∙ at) in
    let a = right.agrees.below k lt in
    let places : stand k (all lists) ≤ 1 = omega (arith, right.agrees.places k, wanted-most n k) in
    let o = comes-only lists k a.in_order.caller here.among.caller a.in_order.list here.among.list here.among.at.front a.entry x here.among.at.rest places a.in_order.is_list here.among.is_list here.among.at.is here.among.at.place a.in_order.comes in
    let this : IsLegalEntry (target_at run k) a.entry.entry = record { lawful = a.lawful; is = a.is } in
    subst (λ (y : Entry). IsLegalEntry (target_at run k) y) same (subst (λ (y : Placed). IsLegalEntry (target_at run k) y.entry) o.entries this))

pub transcript : (n : ℕ) (run : Run) → IsLaidOut n run → IsRight n run → IsTranscript n run
transcript n run laid right = record {
  ordered = ordered n run laid right;
  served = served n run laid right;
  legal = legal n run laid right;
  places = ap (λ (h : List Entry). length h) laid.history_is ∙ length-history n (callers run) right.agrees.places n (omega arith);
}
