-- Outputs at the beginning of a run.
use Rattle.std.proofs.Common.{◌≡◌, ◌<◌, ℕ, zero, suc, ◌+◌, List, [], ◌∷◌, ◌++◌, length, get_or, take, refl, sym, ap, subst, arith}
use Rattle.std.proofs.lemmas.List.{take_more, map-append}
use Rattle.mem_bdev.specs.Texts.{Text}
use Rattle.run_transcript.specs.declared.capsule_files.CapsuleFile.{CapsuleFile}
use Rattle.run_transcript.specs.Runs.{Placed}
use Rattle.run_serving.specs.declared.output.Output.{Output}
use Rattle.run_serving.specs.Prints.{Prints}
use Rattle.run_serving.specs.Goes.{PrintEach}
use Rattle.run_serving.specs.Readiness.{AreReady, AreServable, IsReadyAt, IsServable, nothing_of}
use Rattle.run_serving.specs.Fresh.{AreFresh, empties}

pub servable_at : (fs : List CapsuleFile) (i : ℕ) (d : CapsuleFile) → AreServable fs → i < length fs
    → IsServable (get_or fs i d)
servable_at [] i d a lt = absurd (omega arith)
servable_at (f ∷ fs) zero d a lt = a.0
servable_at (f ∷ fs) (suc i) d a lt = servable_at fs i d a.1 (omega arith)

ready_snoc : (fs : List CapsuleFile) (os : List Output) (f : CapsuleFile) (o : Output)
    → AreReady nothing_of fs os → IsReadyAt f 0 o → AreReady nothing_of (fs ++ f ∷ []) (os ++ o ∷ [])
ready_snoc [] [] f o a here = (here, tt)
ready_snoc [] (p ∷ os) f o a here = absurd a
ready_snoc (g ∷ fs) [] f o a here = absurd a
ready_snoc (g ∷ fs) (p ∷ os) f o a here = (a.0, ready_snoc fs os f o a.1 here)

prints_snoc : (os : List Output) (lists : List (List Placed)) (o : Output) (list : List Placed)
    → PrintEach os lists → Prints o list → PrintEach (os ++ o ∷ []) (lists ++ list ∷ [])
prints_snoc [] [] o list a here = (here, tt)
prints_snoc [] (l ∷ lists) o list a here = absurd a
prints_snoc (p ∷ os) [] o list a here = absurd a
prints_snoc (p ∷ os) (l ∷ lists) o list a here = (a.0, prints_snoc os lists o list a.1 here)

new_ready : (f : CapsuleFile) (o : Output) → IsServable f → o.calls ≡ 0
    → o.records ≡ record { bytes = []; room = f.room } → IsReadyAt f 0 o
new_ready f o servable calls records =
    let none : length o.records.bytes ≡ 0 = ap (λ (t : Text). length t.bytes) records in
    let room : o.records.room ≡ f.room = ap (λ (t : Text). t.room) records in
    record {
      few = omega (arith, calls);
      room = omega (arith, none, room, servable.room);
    }

pub fresh_more : (fs : List CapsuleFile) (i : ℕ) (f : CapsuleFile) (os : List Output) (o : Output)
    → i < length fs → f ≡ get_or fs i f → AreServable fs → AreFresh (take i fs) os → Prints o []
    → o.calls ≡ 0 → o.records ≡ record { bytes = []; room = f.room }
    → AreFresh (take (i + 1) fs) (os ++ o ∷ [])
fresh_more fs i f os o lt is servable fresh prints calls records =
    let here : IsServable f = subst (λ (x : CapsuleFile). IsServable x) (sym is)
    (servable_at fs i f servable lt) in
    subst (λ (x : List CapsuleFile). AreFresh x (os ++ o ∷ [])) (sym (take_more fs i f lt))
    (subst (λ (x : CapsuleFile). AreFresh (take i fs ++ x ∷ []) (os ++ o ∷ [])) is
    (record {
      ready = ready_snoc (take i fs) os f o fresh.ready (new_ready f o here calls records);
      prints = subst (λ (x : List (List Placed)). PrintEach (os ++ o ∷ []) x)
          (sym (map-append (λ (x : CapsuleFile). let l : List Placed = [] in l) (take i fs) (f ∷ [])))
          (prints_snoc os (empties (take i fs)) o [] fresh.prints prints);
    }))

pub ready_len : (n : CapsuleFile → ℕ) (fs : List CapsuleFile) (os : List Output)
    → AreReady n fs os → length os ≡ length fs
ready_len n [] [] a = refl
ready_len n [] (o ∷ os) a = absurd a
ready_len n (f ∷ fs) [] a = absurd a
ready_len n (f ∷ fs) (o ∷ os) a = ap (λ m. suc m) (ready_len n fs os a.1)
