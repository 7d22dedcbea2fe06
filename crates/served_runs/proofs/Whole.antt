-- A served run is read through.
use Rattle.std.proofs.Common.{◌≡◌, ℕ, suc, ◌+◌, List, [], ◌∷◌, Some, slice_get, refl, subst, arith}
use Rattle.plan_files.specs.Capsules.{Capsule}
use Rattle.run_transcript.specs.Runs.{Placed, Run, IsOrdered}
use Rattle.run_transcript.specs.Served.{ServesQueues, IsServed}
use Rattle.served_runs.specs.Reading.{ReadsFiles, IsReadThrough}
use Rattle.served_runs.proofs.Between.{connects, connects-own, is_edit, edits-own}
use Rattle.served_runs.proofs.Steady.{Own, own-list}
use Rattle.served_runs.proofs.Files.{read-file}
use Rattle.served_runs.proofs.Scripts.{read-script}

read-files : (run : Run) (queue : ℕ) (files : List (List Capsule)) (lists : List (List Placed)) → ServesQueues run queue files lists
    → ((q : ℕ) (list : List Placed) → slice_get lists q ≡ Some list → Own run (connects (queue + q)) list) → ReadsFiles run queue files lists
read-files run queue [] [] s own = tt
read-files run queue [] (list ∷ lists) s own = absurd s
read-files run queue (file ∷ files) [] s own = absurd s
read-files run queue (file ∷ files) (list ∷ lists) s own =
    let first : Own run (connects (queue + 0)) list = own 0 list refl in
    let zeroed : queue + 0 ≡ queue = omega arith in (
      read-file run queue file list (subst (λ (k : ℕ). Own run (connects k) list) zeroed first) s.0,
      read-files run (queue + 1) files lists s.1 (λ q l at.
          let up : queue + suc q ≡ queue + 1 + q = omega arith in
          subst (λ (k : ℕ). Own run (connects k) l) up (own (suc q) l at)),
    )

pub read_through : (run : Run) → IsOrdered run → IsServed run → IsReadThrough run
read_through run ordered served = record {
  files = read-files run 1 run.files run.queues served.queues (λ q list at.
      let up : suc q ≡ 1 + q = omega arith in
      subst (λ (k : ℕ). Own run (connects k) list) up (own-list run (connects (suc q)) (suc q) list ordered served (connects-own (suc q)) at));
  script = read-script run (own-list run is_edit 0 run.editor ordered served edits-own refl) served.script;
}
