-- Fronts and final polls.
use Rattle.std.proofs.Common.{◌≡◌, ◌≤◌, ◌<◌, ℕ, zero, suc, ◌+◌, ◌&&◌, Bool, true, false, eqb, List, [], ◌∷◌, ◌++◌, length, take, drop, Option, Some, None, slice_get, refl, sym, ap, subst, ◌∙◌, arith}
use Rattle.std.proofs.lemmas.Bool.{eqb-true}
use Rattle.std.specs.List.{AllByRecursion}
use Rattle.plan_files.specs.Capsules.{Capsule}
use Rattle.tree_target.specs.Model.{Call, Control, Poll, Target}
use Rattle.run_transcript.specs.Runs.{Placed, Run, target_at, target_after_all}
use Rattle.run_transcript.specs.Turns.{Stage, Ready, Holding, Through, Ended, Progress, nothing_done, after_entry, after_call, progress_from, progress_of, first_call, poll_where, next_capsule, next_by, is_admin_at, next_call}
use Rattle.run_transcript.specs.Served.{ServesFile, front_len, fronts, AreFrom, owes_nothing, is_final, is_poll, is_final_poll, finals_from, finals_of, finals, ArePlacedBefore}
use Rattle.run_verdicts.specs.Nexts.{fronts_before}
use Rattle.run_verdicts.proofs.Laying.{not-some}
use Rattle.run_verdicts.proofs.Serving.{progress-push, append-one}

-- ---- a served list has its whole front
record IsThere (file : List Capsule) (j : ℕ) (c : Capsule) (cs : List Capsule) : Type 0 where
  pub here : slice_get file j ≡ Some c
  pub more : drop (j + 1) file ≡ cs

there-is : (file : List Capsule) (j : ℕ) (c : Capsule) (cs : List Capsule) → drop j file ≡ c ∷ cs → IsThere file j c cs
there-is [] zero c cs h = absurd cc
there-is [] (suc j) c cs h = absurd cc
there-is (d ∷ file) zero c cs h = record { here = cc; more = cc }
there-is (d ∷ file) (suc j) c cs h =
    let rest = there-is file j c cs h in
    let up : suc j + 1 ≡ suc (j + 1) = omega arith in
    record { here = rest.here; more = rw up rest.more }

abbrev ready_at : ℕ → Progress
ready_at j = record { taken = j; stage = Ready }

next-ready : (t : Target) (queue : ℕ) (file : List Capsule) (j : ℕ) (c : Capsule) → slice_get file j ≡ Some c
    → next_call t queue file (ready_at j) ≡ Some (first_call queue j c)
next-ready t queue file j c here = rw here refl

first-control : (queue j : ℕ) (c : Capsule) → eqb c.entry.opcode 127 ≡ true → first_call queue j c ≡ Control queue j c.entry c.payload
first-control queue j c op = rw op refl

some-is : (a b : Call) → Some a ≡ Some b → a ≡ b
some-is a b h = cc

pub full-front : (run : Run) (queue : ℕ) (file : List Capsule) (j : ℕ) (cs : List Capsule) (list : List Placed)
    → drop j file ≡ cs → ServesFile run queue file (ready_at j) list → front_len cs ≤ length list
full-front run queue file j [] list left s = omega arith
full-front run queue file j (c ∷ cs) [] left s = by-opcode (eqb c.entry.opcode 127) refl where
  by-opcode : (b : Bool) → eqb c.entry.opcode 127 ≡ b → front_len (c ∷ cs) ≤ 0
  by-opcode true op = absurd (not-some _ (sym s ∙ next-ready (target_after_all run) queue file j c (there-is file j c cs left).here))
  by-opcode false op = rw op (omega arith)
full-front run queue file j (c ∷ cs) (x ∷ list) left s = by-opcode (eqb c.entry.opcode 127) refl (full-front run queue file (j + 1) cs list) where
  by-opcode : (b : Bool) → eqb c.entry.opcode 127 ≡ b
      → (drop (j + 1) file ≡ cs → ServesFile run queue file (ready_at (j + 1)) list → front_len cs ≤ length list)
      → front_len (c ∷ cs) ≤ length (x ∷ list)
  by-opcode false op more = rw op (omega arith)
  by-opcode true op more =
      let there = there-is file j c cs left in
      let call : x.entry.call ≡ Control queue j c.entry c.payload =
      some-is _ _ (sym s.0 ∙ next-ready (target_at run x.place) queue file j c there.here) ∙ first-control queue j c op in
      let rest : ServesFile run queue file (ready_at (j + 1)) list =
      subst (λ (k : Call). ServesFile run queue file (after_call (ready_at j) k x.entry.reply) list) call s.1 in
      let few : front_len cs ≤ length list = more there.more rest in
      rw op (omega (arith, few))

-- ---- places of fronts
pub from-append : (n : ℕ) (xs ys : List Placed) → AreFrom n xs → AreFrom (n + length xs) ys → AreFrom n (xs ++ ys)
from-append n [] ys a b = let z : n + 0 ≡ n = omega arith in rw z at b
from-append n (x ∷ xs) ys a b =
    let up : n + suc (length xs) ≡ n + 1 + length xs = omega arith in
    (a.0, from-append (n + 1) xs ys a.1 (rw up at b))

pub from-left : (n : ℕ) (xs ys : List Placed) → AreFrom n (xs ++ ys) → AreFrom n xs
from-left n [] ys a = tt
from-left n (x ∷ xs) ys a = (a.0, from-left (n + 1) xs ys a.1)

pub from-right : (n : ℕ) (xs ys : List Placed) → AreFrom n (xs ++ ys) → AreFrom (n + length xs) ys
from-right n [] ys a = let z : n + 0 ≡ n = omega arith in rw z a
from-right n (x ∷ xs) ys a =
    let up : n + suc (length xs) ≡ n + 1 + length xs = omega arith in
    rw up (from-right (n + 1) xs ys a.1)

-- the first m entries of a list have the places from n on
abbrev pub IsFrontFrom : ℕ → ℕ → List Placed → Type 0
IsFrontFrom n m list = (front : List Placed) (e : Placed) (rest : List Placed) → list ≡ front ++ e ∷ rest
    → length front < m → e.place ≡ n + length front

front-from : (n m : ℕ) (list : List Placed) → IsFrontFrom n m list → AreFrom n (take m list)
front-from n zero list each = tt
front-from n (suc m) [] each = tt
front-from n (suc m) (e ∷ list) each =
    let first : e.place ≡ n + 0 = each [] e list refl (omega arith) in (
      omega (arith, first),
      front-from (n + 1) m list (λ front x rest is lt.
          let h : x.place ≡ n + suc (length front) = each (e ∷ front) x rest (ap (λ (l : List Placed). e ∷ l) is) (omega (arith, lt)) in
          omega (arith, h)),
    )

from-front : (n m : ℕ) (front : List Placed) (e : Placed) (rest : List Placed) → AreFrom n (take m (front ++ e ∷ rest))
    → length front < m → e.place ≡ n + length front
from-front n zero front e rest a lt = absurd (omega (arith, lt))
from-front n (suc m) [] e rest a lt = omega (arith, a.0)
from-front n (suc m) (x ∷ front) e rest a lt = omega (arith, from-front (n + 1) m front e rest a.1 (omega (arith, lt)))

length-front : (m : ℕ) (list : List Placed) → m ≤ length list → length (take m list) ≡ m
length-front zero list le = refl
length-front (suc m) [] le = absurd (omega (arith, le))
length-front (suc m) (x ∷ list) le = ap (λ k. suc k) (length-front m list (omega (arith, le)))

abbrev pub AreFull : List (List Capsule) → List (List Placed) → Type 0
AreFull files lists = (q : ℕ) (file : List Capsule) (list : List Placed) → slice_get files q ≡ Some file
    → slice_get lists q ≡ Some list → front_len file ≤ length list

pub all-fronts : (n : ℕ) (files : List (List Capsule)) (lists : List (List Placed)) → length lists ≡ length files → AreFull files lists
    → ((q : ℕ) (file : List Capsule) (list : List Placed) → slice_get files q ≡ Some file → slice_get lists q ≡ Some list
    → IsFrontFrom (n + fronts_before q files) (front_len file) list)
    → AreFrom n (fronts files lists)
all-fronts n [] lists same full each = tt
all-fronts n (f ∷ files) [] same full each = tt
all-fronts n (f ∷ files) (l ∷ lists) same full each =
    let z : n + 0 ≡ n = omega arith in
    let here : AreFrom n (take (front_len f) l) = front-from n (front_len f) l (subst (λ (k : ℕ). IsFrontFrom k (front_len f) l) z (each 0 f l refl refl)) in
    let many : length (take (front_len f) l) ≡ front_len f = length-front (front_len f) l (full 0 f l refl refl) in
    let rest : AreFrom (n + front_len f) (fronts files lists) =
    all-fronts (n + front_len f) files lists (omega (arith, same)) (λ q file list hf hl. full (suc q) file list hf hl)
    (λ q file list hf hl.
    let up : n + (front_len f + fronts_before q files) ≡ n + front_len f + fronts_before q files = omega arith in
    subst (λ (k : ℕ). IsFrontFrom k (front_len file) list) up (each (suc q) file list hf hl)) in
    from-append n (take (front_len f) l) (fronts files lists) here (rw many rest)

pub front-turn : (n q : ℕ) (files : List (List Capsule)) (lists : List (List Placed)) (file : List Capsule) (list : List Placed)
    → AreFrom n (fronts files lists) → AreFull files lists → slice_get files q ≡ Some file → slice_get lists q ≡ Some list
    → (front : List Placed) (e : Placed) (rest : List Placed) → list ≡ front ++ e ∷ rest → length front < front_len file
    → e.place ≡ n + fronts_before q files + length front
front-turn n q [] lists file list a full hf hl front e rest is lt = absurd (not-some file hf)
front-turn n q (f ∷ files) [] file list a full hf hl front e rest is lt = absurd (not-some list hl)
front-turn n zero (f ∷ files) (l ∷ lists) file list a full hf hl front e rest is lt =
    let same : f ≡ file = cc in
    let whole : l ≡ front ++ e ∷ rest = (let k : l ≡ list = cc in k) ∙ is in
    let here : AreFrom n (take (front_len f) l) = from-left n (take (front_len f) l) (fronts files lists) a in
    let low : length front < front_len f = subst (λ (x : List Capsule). length front < front_len x) (sym same) lt in
    omega (arith, from-front n (front_len f) front e rest (subst (λ (x : List Placed). AreFrom n (take (front_len f) x)) whole here) low)
front-turn n (suc q) (f ∷ files) (l ∷ lists) file list a full hf hl front e rest is lt =
    let many : length (take (front_len f) l) ≡ front_len f = length-front (front_len f) l (full 0 f l refl refl) in
    let more : AreFrom (n + front_len f) (fronts files lists) = rw many at (from-right n (take (front_len f) l) (fronts files lists) a) in
    omega (arith, front-turn (n + front_len f) q files lists file list more (λ q2 file2 list2 hf2 hl2. full (suc q2) file2 list2 hf2 hl2) hf hl front e rest is lt)

-- ---- final polls
pub all-append : (P : Placed → Type 0) (xs ys : List Placed) → AllByRecursion P xs → AllByRecursion P ys → AllByRecursion P (xs ++ ys)
all-append P [] ys a b = b
all-append P (x ∷ xs) ys a b = (a.0, all-append P xs ys a.1 b)

pub all-left : (P : Placed → Type 0) (xs ys : List Placed) → AllByRecursion P (xs ++ ys) → AllByRecursion P xs
all-left P [] ys a = tt
all-left P (x ∷ xs) ys a = (a.0, all-left P xs ys a.1)

pub all-right : (P : Placed → Type 0) (xs ys : List Placed) → AllByRecursion P (xs ++ ys) → AllByRecursion P ys
all-right P [] ys a = a
all-right P (x ∷ xs) ys a = all-right P xs ys a.1

beyond : (file : List Capsule) → slice_get file (length file) ≡ None
beyond [] = refl
beyond (c ∷ file) = beyond file

polled-where : (admin : Bool) (queue : ℕ) (call : Call) → poll_where admin queue ≡ Some call
    → is_poll call ≡ true
polled-where true queue call h =
    let is : Poll queue ≡ call = cc in
    subst (λ (x : Call). is_poll x ≡ true) is refl
polled-where false queue call h = absurd cc

next-by-polls : (stage : Stage) (admin : Bool) (queue : ℕ) (file : List Capsule) (taken : ℕ) (call : Call)
    → next_by stage admin queue file taken ≡ Some call → (owes_nothing stage && eqb taken (length file)) ≡ true
    → is_poll call ≡ true
next-by-polls Ready admin queue file taken call next final =
    let all : taken ≡ length file = eqb-true taken (length file) final in
    let none : slice_get file taken ≡ None = ap (λ m. slice_get file m) all ∙ beyond file in
    polled-where admin queue call (sym (ap (λ (o : Option Capsule). next_capsule admin queue taken o) none) ∙ next)
next-by-polls Holding admin queue file taken call next final = absurd cc
next-by-polls Through admin queue file taken call next final = absurd cc
next-by-polls Ended admin queue file taken call next final = absurd cc

-- what is called with nothing left to serve is a final poll
pub next-is-final-poll : (t : Target) (queue : ℕ) (file : List Capsule) (p : Progress) (call : Call)
    → next_call t queue file p ≡ Some call → is_final (length file) p ≡ true
    → is_final_poll (length file) p call ≡ true
next-is-final-poll t queue file p call next final =
    rw (next-by-polls p.stage (is_admin_at t queue) queue file p.taken call next final, final) refl

both-true : (a b : Bool) → (a && b) ≡ true → b ≡ true
both-true true b h = h
both-true false b h = absurd cc

-- and a final poll is called with nothing left to serve
pub final-poll-is-final : (capsules : ℕ) (p : Progress) (call : Call) → is_final_poll capsules p call ≡ true
    → is_final capsules p ≡ true
final-poll-is-final capsules p call h = both-true (is_poll call) (is_final capsules p) h

-- each final poll of a list has P
abbrev pub AreFinals : (Placed → Type 0) → List Capsule → List Placed → Type 0
AreFinals P file list = (front : List Placed) (e : Placed) (rest : List Placed) → list ≡ front ++ e ∷ rest
    → is_final_poll (length file) (progress_of front) e.entry.call ≡ true → P e

pub finals-all : (P : Placed → Type 0) (file : List Capsule) (list : List Placed) → AreFinals P file list
    → (front rest : List Placed) → list ≡ front ++ rest → AllByRecursion P (finals_from (length file) (progress_of front) rest)
finals-all P file list each front [] is = tt
finals-all P file list each front (e ∷ rest) is =
    by-final (is_final_poll (length file) (progress_of front) e.entry.call) refl
    (subst (λ (p : Progress). AllByRecursion P (finals_from (length file) p rest)) (progress-push nothing_done front e)
    (finals-all P file list each (front ++ e ∷ []) rest (is ∙ sym (append-one front e rest)))) where
      by-final : (b : Bool) → is_final_poll (length file) (progress_of front) e.entry.call ≡ b
          → AllByRecursion P (finals_from (length file) (after_entry (progress_of front) e.entry) rest)
          → AllByRecursion P (finals_from (length file) (progress_of front) (e ∷ rest))
      by-final true f more = rw f (each front e rest is f, more)
      by-final false f more = rw f more

all-finals-from : (P : Placed → Type 0) (n : ℕ) (p : Progress) (front : List Placed) (e : Placed) (rest : List Placed)
    → AllByRecursion P (finals_from n p (front ++ e ∷ rest)) → is_final_poll n (progress_from p front) e.entry.call ≡ true → P e
all-finals-from P n p [] e rest a f =
    let here : AllByRecursion P (e ∷ finals_from n (after_entry p e.entry) rest) = rw f at a in here.0
all-finals-from P n p (x ∷ front) e rest a f = by-final (is_final_poll n p x.entry.call) refl (all-finals-from P n (after_entry p x.entry) front e rest) where
  by-final : (b : Bool) → is_final_poll n p x.entry.call ≡ b
      → (AllByRecursion P (finals_from n (after_entry p x.entry) (front ++ e ∷ rest)) → is_final_poll n (progress_from (after_entry p x.entry) front) e.entry.call ≡ true → P e)
      → P e
  by-final true t more =
      let here : AllByRecursion P (x ∷ finals_from n (after_entry p x.entry) (front ++ e ∷ rest)) = rw t at a in more here.1 f
  by-final false t more =
      let here : AllByRecursion P (finals_from n (after_entry p x.entry) (front ++ e ∷ rest)) = rw t at a in more here f

pub all-finals : (P : Placed → Type 0) (file : List Capsule) (list : List Placed) → AllByRecursion P (finals_of file list) → AreFinals P file list
all-finals P file list a front e rest is f =
    all-finals-from P (length file) nothing_done front e rest (subst (λ (l : List Placed). AllByRecursion P (finals_of file l)) is a) f

pub each-finals : (P : Placed → Type 0) (files : List (List Capsule)) (lists : List (List Placed)) → length lists ≡ length files
    → ((q : ℕ) (file : List Capsule) (list : List Placed) → slice_get files q ≡ Some file → slice_get lists q ≡ Some list → AreFinals P file list)
    → AllByRecursion P (finals files lists)
each-finals P [] lists same each = tt
each-finals P (f ∷ files) [] same each = tt
each-finals P (f ∷ files) (l ∷ lists) same each =
    all-append P (finals_of f l) (finals files lists) (finals-all P f l (each 0 f l refl refl) [] l refl)
    (each-finals P files lists (omega (arith, same)) (λ q file list hf hl. each (suc q) file list hf hl))

pub finals-each : (P : Placed → Type 0) (q : ℕ) (files : List (List Capsule)) (lists : List (List Placed)) (file : List Capsule) (list : List Placed)
    → AllByRecursion P (finals files lists) → slice_get files q ≡ Some file → slice_get lists q ≡ Some list → AreFinals P file list
finals-each P q [] lists file list a hf hl = absurd (not-some file hf)
finals-each P q (f ∷ files) [] file list a hf hl = absurd (not-some list hl)
finals-each P zero (f ∷ files) (l ∷ lists) file list a hf hl =
    let same : f ≡ file = cc in
    let list_is : l ≡ list = cc in
    subst (λ (x : List Placed). AreFinals P file x) list_is
    (subst (λ (x : List Capsule). AreFinals P x l) same (all-finals P f l (all-left P (finals_of f l) (finals files lists) a)))
finals-each P (suc q) (f ∷ files) (l ∷ lists) file list a hf hl =
    finals-each P q files lists file list (all-right P (finals_of f l) (finals files lists) a) hf hl

-- the first list is below each of the second
abbrev pub IsAllBelow : List Placed → Placed → Type 0
IsAllBelow early y = AllByRecursion (λ x. x.place < y.place) early

head-low : (x : Placed) (early late : List Placed) → AllByRecursion (IsAllBelow (x ∷ early)) late → AllByRecursion (λ y. x.place < y.place) late
head-low x early [] a = tt
head-low x early (y ∷ late) a = (a.0.0, head-low x early late a.1)

tail-low : (x : Placed) (early late : List Placed) → AllByRecursion (IsAllBelow (x ∷ early)) late → AllByRecursion (IsAllBelow early) late
tail-low x early [] a = tt
tail-low x early (y ∷ late) a = (a.0.1, tail-low x early late a.1)

pub before-from : (early late : List Placed) → AllByRecursion (IsAllBelow early) late → ArePlacedBefore early late
before-from [] late a = tt
before-from (x ∷ early) late a = (head-low x early late a, before-from early late (tail-low x early late a))

nothing-low : (late : List Placed) → AllByRecursion (IsAllBelow []) late
nothing-low [] = tt
nothing-low (y ∷ late) = (tt, nothing-low late)

more-low : (x : Placed) (early late : List Placed) → AllByRecursion (λ y. x.place < y.place) late → AllByRecursion (IsAllBelow early) late → AllByRecursion (IsAllBelow (x ∷ early)) late
more-low x early [] a b = tt
more-low x early (y ∷ late) a b = ((a.0, b.0), more-low x early late a.1 b.1)

pub from-before : (early late : List Placed) → ArePlacedBefore early late → AllByRecursion (IsAllBelow early) late
from-before [] late a = nothing-low late
from-before (x ∷ early) late a = more-low x early late a.0 (from-before early late a.1)
