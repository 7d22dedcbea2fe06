-- A run that is ordered, served and legal is right.
use Rattle.std.proofs.Common.{◌≡◌, ◌<◌, ℕ, zero, suc, ◌+◌, true, List, ◌∷◌, ◌++◌, length, Option, Some, slice_get, refl, sym, ap, subst, ◌∙◌, arith}
use Rattle.plan_files.specs.Capsules.{Capsule}
use Rattle.tree_target.specs.Model.{Entry}
use Rattle.run_transcript.specs.Runs.{Placed, Run, callers, IsRising, target_at, target_after_all}
use Rattle.run_transcript.specs.Turns.{nothing_done, progress_of, nothing_edited}
use Rattle.run_transcript.specs.Served.{ServesFile, ServesScript, front_len, bodies, finals}
use Rattle.run_verdicts.specs.Places.{ArePlaces}
use Rattle.run_verdicts.specs.Nexts.{told, places_of, below, next_of, next_of_file, front_of, front_in, earlier, is_final_of, is_final_in, AreAllBelow}
use Rattle.run_verdicts.specs.Faults.{Agrees, IsRight, AreDone}
use Rattle.run_verdicts.specs.Laws.{IsLaidOut, IsTranscript}
use Rattle.run_verdicts.proofs.Laying.{AreLow, AreHigh, below-is}
use Rattle.run_verdicts.proofs.Serving.{one-list, cut-at, HasFile, has-file, served-next, served-done, scripted-next, scripted-done}
use Rattle.run_verdicts.proofs.Fronting.{AreFull, full-front, front-turn, next-is-final-poll, IsAllBelow, from-before, finals-each}
use Rattle.run_verdicts.proofs.History.{IsAt, is-at, get-history, IsLegalEntry, legal-at, are-places}

-- what a caller's list says of an entry at its point
record Says (run : Run) (c : ℕ) (front : List Placed) (e : Placed) : Type 0 where
  pub owed : next_of run (target_at run e.place) c front ≡ Some e.entry.call
  pub turn : length front < front_of run c → e.place ≡ earlier run c + length front
  pub last : is_final_of run c front ≡ true → AreAllBelow run e.place

abbrev FileAt : Run → ℕ → List Placed → Type 0
FileAt run q list = HasFile run 1 q run.files list

file-at : (n : ℕ) (run : Run) → IsTranscript n run → (q : ℕ) (list : List Placed) → slice_get run.queues q ≡ Some list → FileAt run q list
file-at n run x q list h = has-file run 1 q run.files run.queues list x.served.queues h

full : (n : ℕ) (run : Run) → IsTranscript n run → AreFull run.files run.queues
full n run x q file list hf hl =
    let f = file-at n run x q list hl in
    let same : f.file ≡ file = (let two : Some f.file ≡ Some file = sym f.is_file ∙ hf in cc) in
    full-front run (1 + q) file 0 file list refl (subst (λ (l : List Capsule). ServesFile run (1 + q) l nothing_done list) same f.serves)

says : (n : ℕ) (run : Run) → IsTranscript n run → (c : ℕ) (list : List Placed) → slice_get (callers run) c ≡ Some list
    → (front : List Placed) (e : Placed) (rest : List Placed) → list ≡ front ++ e ∷ rest → Says run c front e
says n run x zero list h front e rest is =
    let own : run.editor ≡ list = cc in
    let s : ServesScript run nothing_edited (front ++ e ∷ rest) = subst (λ (l : List Placed). ServesScript run nothing_edited l) (own ∙ is) x.served.script in
    record {
      owed = scripted-next run nothing_edited front e rest s;
      turn = λ lt. absurd (omega (arith, lt));
      last = λ final. absurd cc;
    }
says n run x (suc q) list h front e rest is =
    let f = file-at n run x q list h in
    let up : 1 + q ≡ suc q = omega arith in
    let s : ServesFile run (suc q) f.file nothing_done (front ++ e ∷ rest) =
    subst (λ (k : ℕ). ServesFile run k f.file nothing_done (front ++ e ∷ rest)) up
    (subst (λ (l : List Placed). ServesFile run (1 + q) f.file nothing_done l) is f.serves) in
    let early : List Placed = run.editor ++ bodies run.files run.queues in
    record {
      owed = ap (λ (o : Option (List Capsule)). next_of_file (target_at run e.place) (suc q) o front) f.is_file ∙ served-next run (suc q) f.file nothing_done front e rest s;
      turn = λ lt.
          let low : length front < front_len f.file = subst (λ (o : Option (List Capsule)). length front < front_in o) f.is_file lt in
          omega (arith, front-turn 0 q run.files run.queues f.file list x.served.first (full n run x) f.is_file h front e rest is low);
      last = λ final.
          finals-each (IsAllBelow early) q run.files run.queues f.file list (from-before early (finals run.files run.queues) x.served.last) f.is_file h front e rest is
          (next-is-final-poll (target_at run e.place) (suc q) f.file (progress_of front) e.entry.call
          (served-next run (suc q) f.file nothing_done front e rest s)
          (ap (λ (o : Option (List Capsule)). is_final_in o front) (sym f.is_file) ∙ final));
    }

done : (n : ℕ) (run : Run) → IsTranscript n run → AreDone run
done n run x zero list h =
    let own : run.editor ≡ list = cc in
    scripted-done run nothing_edited list (subst (λ (l : List Placed). ServesScript run nothing_edited l) own x.served.script)
done n run x (suc q) list h =
    let f = file-at n run x q list h in
    let up : 1 + q ≡ suc q = omega arith in
    ap (λ (o : Option (List Capsule)). next_of_file (target_after_all run) (suc q) o list) f.is_file
    ∙ served-done run (suc q) f.file nothing_done list (subst (λ (k : ℕ). ServesFile run k f.file nothing_done list) up f.serves)

agrees : (n : ℕ) (run : Run) → IsLaidOut n run → IsTranscript n run → ArePlaces n (places_of (told run)) → (k : ℕ) → k < n → Agrees run k
agrees n run laid x places k lt =
    let lists : List (List Placed) = callers run in
    let here : IsAt lists k = is-at n lists places k lt in
    let s = here.among in
    let e : Placed = s.at.entry in
    let rising : IsRising s.list = one-list IsRising lists s.caller s.list x.ordered.rising s.is_list in
    let cut = cut-at s.list s.at.front e s.at.rest rising s.at.is in
    let low : AreLow k s.at.front = subst (λ (p : ℕ). AreLow p s.at.front) s.at.place cut.low in
    let high : AreHigh k (e ∷ s.at.rest) = subst (λ (p : ℕ). AreHigh p (e ∷ s.at.rest)) s.at.place cut.high in
    let front : s.at.front ≡ below k s.list = sym (ap (below k) s.at.is ∙ below-is k s.at.front (e ∷ s.at.rest) low high) in
    let says_it : Says run s.caller s.at.front e = says n run x s.caller s.list s.is_list s.at.front e s.at.rest s.at.is in
    let owed : next_of run (target_at run k) s.caller s.at.front ≡ Some e.entry.call =
    subst (λ (p : ℕ). next_of run (target_at run p) s.caller s.at.front ≡ Some e.entry.call) s.at.place says_it.owed in
    let turn : length s.at.front < front_of run s.caller → k ≡ earlier run s.caller + length s.at.front =
    subst (λ (p : ℕ). length s.at.front < front_of run s.caller → p ≡ earlier run s.caller + length s.at.front) s.at.place says_it.turn in
    let last : is_final_of run s.caller s.at.front ≡ true → AreAllBelow run k =
    subst (λ (p : ℕ). is_final_of run s.caller s.at.front ≡ true → AreAllBelow run p) s.at.place says_it.last in
    let at : slice_get run.history k ≡ Some e.entry = ap (λ (h : List Entry). slice_get h k) laid.history_is ∙ get-history n lists places k here n lt (omega arith) in
    let legal : IsLegalEntry (target_at run k) e.entry = legal-at run.start run.history k e.entry x.legal at in
    record {
      entry = e;
      in_order = record {
        caller = s.caller;
        list = s.list;
        is_list = s.is_list;
        comes = record { rest = s.at.rest; follows = s.at.is ∙ ap (λ (l : List Placed). l ++ e ∷ s.at.rest) front; place = s.at.place };
        owed = subst (λ (l : List Placed). next_of run (target_at run k) s.caller l ≡ Some e.entry.call) front owed;
        turn = subst (λ (l : List Placed). length l < front_of run s.caller → k ≡ earlier run s.caller + length l) front turn;
        last = subst (λ (l : List Placed). is_final_of run s.caller l ≡ true → AreAllBelow run k) front last;
        lawful = λ other. legal.lawful;
      };
      lawful = legal.lawful;
      is = legal.is;
    }

pub right : (n : ℕ) (run : Run) → IsLaidOut n run → IsTranscript n run → IsRight n run
right n run laid x =
    let places : ArePlaces n (places_of (told run)) =
    subst (λ (m : ℕ). ArePlaces m (places_of (told run))) x.places (are-places (told run) run.history x.ordered.merged) in
    record {
      agrees = record { places = places; below = λ k lt. agrees n run laid x places k lt };
      done = done n run x;
    }
