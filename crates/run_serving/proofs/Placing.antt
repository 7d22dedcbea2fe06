-- Histories put together, and entries with their places.
use Rattle.std.proofs.Common.{◌≡◌, ℕ, suc, ◌+◌, Bool, List, [], ◌∷◌, ◌++◌, length, refl, ap, ◌∙◌, arith}
use Rattle.plan_files.specs.Capsules.{Capsule}
use Rattle.tree_target.specs.Model.{Entry, Target}
use Rattle.tree_target.specs.Steps.{target_after}
use Rattle.tree_target.specs.Legal.{IsLegal, after}
use Rattle.run_transcript.specs.Runs.{Placed, placed_from, calls_of}
use Rattle.run_transcript.specs.Turns.{Progress, after_entry, progress_from}
use Rattle.run_serving.specs.Goes.{AreNext, progress_after}

pub after-append : (t : Target) (xs ys : List Entry) → after t (calls_of (xs ++ ys))
    ≡ after (after t (calls_of xs)) (calls_of ys)
after-append t [] ys = refl
after-append t (x ∷ xs) ys = after-append (target_after t x.call) xs ys

pub IsLegal-append : (t : Target) (xs ys : List Entry) → IsLegal t xs
    → IsLegal (after t (calls_of xs)) ys → IsLegal t (xs ++ ys)
IsLegal-append t [] ys a b = b
IsLegal-append t (x ∷ xs) ys a b = (a.0, a.1, IsLegal-append (target_after t x.call) xs ys a.2 b)

pub placed_from-append : (n : ℕ) (xs ys : List Entry) → placed_from n (xs ++ ys) ≡ placed_from n xs
    ++ placed_from (n + length xs) ys
placed_from-append n [] ys = let e : n + 0 ≡ n = omega arith in rw e refl
placed_from-append n (x ∷ xs) ys =
    let e : n + 1 + length xs ≡ n + suc (length xs) = omega arith in
    ap (λ (r : List Placed). (record { place = n; entry = x }) ∷ r) (placed_from-append (n + 1) xs
    ys ∙ rw e refl)

pub length-placed_from : (n : ℕ) (h : List Entry) → length (placed_from n h) ≡ length h
length-placed_from n [] = refl
length-placed_from n (e ∷ h) = ap (λ m. suc m) (length-placed_from (n + 1) h)

pub progress-placed : (p : Progress) (list : List Placed) (n : ℕ) (group : List Entry)
    → progress_from p (list ++ placed_from n group) ≡ progress_after (progress_from p list) group
progress-placed p [] n [] = refl
progress-placed p [] n (e ∷ group) = progress-placed (after_entry p e) [] (n + 1) group
progress-placed p (x ∷ list) n group = progress-placed (after_entry p x.entry) list n group

pub progress-append : (p : Progress) (xs ys : List Entry) → progress_after p (xs ++ ys)
    ≡ progress_after (progress_after p xs) ys
progress-append p [] ys = refl
progress-append p (x ∷ xs) ys = progress-append (after_entry p x) xs ys

pub AreNext-append : (final : Bool) (queue : ℕ) (file : List Capsule) (p : Progress) (t : Target)
    (xs ys : List Entry) → AreNext final queue file p t xs
    → AreNext final queue file (progress_after p xs) (after t (calls_of xs)) ys
    → AreNext final queue file p t (xs ++ ys)
AreNext-append final queue file p t [] ys a b = b
AreNext-append final queue file p t (x ∷ xs) ys a b = (
  a.0,
  a.1,
  AreNext-append final queue file (after_entry p x) (target_after t x.call) xs ys a.2 b,
)
