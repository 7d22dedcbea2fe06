-- What is read of a plan was spelled so, and what is spelled so is read.
use Rattle.std.proofs.Common.{◌≡◌, ◌⊎◌, ◌≤◌, ◌^◌, ℕ, suc, ◌+◌, ◌-◌, min, Bool, true, false, cond, ◌&&◌, ltb, List, [], ◌∷◌, ◌++◌, length, Option, Some, None, Result, Ok, Err, refl, sym, ap, subst, inl, inr, arith}
use Rattle.std.specs.Prelude.{codes, IfOk}
use Rattle.std.specs.Str.{bytes_eq}
use Rattle.std.proofs.lemmas.Bool.{ltb-false, le-ltb}
use Rattle.std.proofs.lemmas.Slice.Eq.{bytes_eq-Decides}
use Rattle.plan_files.specs.declared.items.Item.{Item}
use Rattle.plan_files.specs.declared.items.Plan.{Plan}
use Rattle.plan_files.specs.declared.plan.PlanError.{PlanError}
use Rattle.plan_files.specs.declared.plan.PlanError.TheVariants as errors
use Rattle.text_lines.specs.Lines.{is_passed_over, lines_of}
use Rattle.plan_files.specs.Spelling.{item_in}
use Rattle.plan_files.specs.Plans.{IsPlan, Makes, Adds, IsAllowed, no_plan, with_item, is_new, agrees, within, item_bytes, total_of, is_complete}
use Rattle.plan_files.specs.Binding.{◌>>=◌}
use Rattle.plan_files.specs.PlanReading.{Gives, item_taken, said_taken, line_taken, next_line, plan_from, plan_by, plan_in}
use Rattle.plan_files.proofs.Wording.{and-parts}
use Rattle.plan_files.proofs.Saying.{item_was, item_read}

bind_ok : {A B : Type 0} (r : Result A PlanError) (f : A → Result B PlanError) (y : B)
    → (r >>= f) ≡ Ok y → (x : A) × (r ≡ Ok x) × (f x ≡ Ok y)
bind_ok (Ok x) f y e = (x, refl, e)
bind_ok (Err d) f y e = absurd cc

-- a test that led to a value, one way or the other
then_ok : {A : Type 0} (b : Bool) (r : Result A PlanError) (d : PlanError) (y : A)
    → cond b r (Err d) ≡ Ok y → (b ≡ true) × (r ≡ Ok y)
then_ok true r d y e = (refl, e)
then_ok false r d y e = absurd cc

else_ok : {A : Type 0} (b : Bool) (d : PlanError) (r : Result A PlanError) (y : A)
    → cond b (Err d) r ≡ Ok y → (b ≡ false) × (r ≡ Ok y)
else_ok true d r y e = absurd cc
else_ok false d r y e = (refl, e)

either_ok : {A : Type 0} (b : Bool) (r s : Result A PlanError) (y : A) → cond b r s ≡ Ok y
    → ((b ≡ true) × (r ≡ Ok y)) ⊎ ((b ≡ false) × (s ≡ Ok y))
either_ok true r s y e = inl (refl, e)
either_ok false r s y e = inr (refl, e)

-- a plan within the limits
pub record IsWithin (p : Plan) (bytes : ℕ) : Type 0 where
  pub disks : length p.disks ≤ 64
  pub bytes_few : bytes ≤ 16777216
  pub total : total_of p.disks ≤ 268435456
  pub queues : length p.queues ≤ 31

within_was : (p q : Plan) (bytes : ℕ) → within p bytes ≡ Ok q → IsWithin p bytes × (p ≡ q)
unfolding within
within_was p q bytes e =
    let disks = else_ok (ltb 64 (length p.disks)) _ _ q e in
    let few = else_ok (ltb 16777216 bytes) _ _ q disks.1 in
    let total = else_ok (ltb 268435456 (total_of p.disks)) _ _ q few.1 in
    let queues = else_ok (ltb 31 (length p.queues)) _ _ q total.1 in (
      record {
        disks = ltb-false _ _ disks.0;
        bytes_few = ltb-false _ _ few.0;
        total = ltb-false _ _ total.0;
        queues = ltb-false _ _ queues.0;
      },
      cc,
    )

is_within : (p : Plan) (bytes : ℕ) → IsWithin p bytes → within p bytes ≡ Ok p
unfolding within
is_within p bytes w = rw (
  le-ltb 64 (length p.disks) w.disks,
  le-ltb 16777216 bytes w.bytes_few,
  le-ltb 268435456 (total_of p.disks) w.total,
  le-ltb 31 (length p.queues) w.queues,
) refl

item_taken_was : (n : ℕ) (p q : Plan) (item : Item) → item_taken n p item ≡ Ok q → IsAllowed p item
    × (with_item p item ≡ q)
unfolding item_taken
item_taken_was n p q item e =
    let t = then_ok (is_new p item && agrees (with_item p item)) _ _ q e in
    let both = and-parts (is_new p item) (agrees (with_item p item)) t.0 in
    let w = within_was (with_item p item) q (item_bytes item) t.1 in (
      record {
        new = both.0;
        agrees = both.1;
        disks = w.0.disks;
        bytes = w.0.bytes_few;
        total = w.0.total;
        queues = w.0.queues;
      },
      w.1,
    )

pub item_is_taken : (n : ℕ) (p : Plan) (item : Item) → IsAllowed p item
    → item_taken n p item ≡ Ok (with_item p item)
unfolding item_taken
item_is_taken n p item a =
    let w : IsWithin (with_item p item) (item_bytes item) =
    record { disks = a.disks; bytes_few = a.bytes; total = a.total; queues = a.queues } in
    rw (a.new, a.agrees) (is_within (with_item p item) (item_bytes item) w)

pub said_taken_was : (n : ℕ) (p q : Plan) (said : Option Item) → said_taken n p said ≡ Ok q
    → (item : Item) × (said ≡ Some item) × IsAllowed p item × (with_item p item ≡ q)
said_taken_was n p q None e = absurd cc
said_taken_was n p q (Some item) e = let t = item_taken_was n p q item e in (item, refl, t.0, t.1)

pub are_added : (n : ℕ) (p plan : Plan) (lines : List (List ℕ)) → plan_from n p lines ≡ Ok plan
    → Adds lines p plan
unfolding plan_from line_taken
are_added n p plan [] e =
    let t = then_ok (is_complete p) (Ok p) (errors.BadLine n) plan e in
    let same : plan ≡ p = cc in
    (same, rw same t.0)
are_added n p plan (line ∷ lines) e =
    let b = bind_ok (cond (is_passed_over line) (Ok p) (said_taken n p (item_in line)))
    (λ q. plan_from (next_line n) q lines) plan e in
    let rest = are_added (next_line n) b.0 plan lines b.2 in
    let made : Makes (line ∷ lines) p plan =
    elim (either_ok (is_passed_over line) (Ok p) (said_taken n p (item_in line)) b.0 b.1) [
      | inl over ↦ let same : b.0 ≡ p = cc in
          inl (over.0, subst (λ (q : Plan). Makes lines q plan) same rest.0)
      | inr said ↦
          let t = said_taken_was n p b.0 (item_in line) said.1 in
          let was = item_was line t.0 t.1 in
          inr (
            said.0,
            t.0,
            was.0,
            was.1,
            t.2,
            subst (λ (q : Plan). Makes lines q plan) (sym t.3)
                rest.0,
          )
    ] in
    (made, rest.1)

-- the numbers of lines stand still here
abbrev pub last_number : ℕ
last_number = 2 ^ 32 - 1

-- lines that make a plan leave the rest to be read after them
pub goes_over : (n : ℕ) (p q : Plan) (before rest : List (List ℕ)) → n ≤ last_number
    → Makes before p q
    → plan_from n p (before ++ rest) ≡ plan_from (min (n + length before) last_number) q rest
unfolding plan_from line_taken
goes_over n p q [] rest le made =
    let here : min (n + 0) last_number ≡ n = omega (arith, le) in
    rw (made, here) refl
goes_over n p q (line ∷ before) rest le made =
    let next : next_line n ≤ last_number = omega arith in
    let number : min (next_line n + length before) last_number ≡ min (n + suc (length before))
    last_number = omega (arith, le) in
    elim made [
      | inl over ↦ rw (over.0, ← number) (goes_over (next_line n) p q before rest next over.1)
      | inr said ↦ rw (
        said.0,
        item_read line said.1 said.2 said.3,
        item_is_taken n p said.1 said.4,
        ← number,
      ) (goes_over (next_line n) (with_item p said.1) q before rest next said.5)
    ]

pub are_taken : (n : ℕ) (p plan : Plan) (lines : List (List ℕ)) → Adds lines p plan
    → plan_from n p lines ≡ Ok plan
unfolding plan_from line_taken
are_taken n p plan [] a =
    let full : is_complete p ≡ true = rw a.0 at a.1 in
    rw full (ap (λ (q : Plan). Ok q) (sym a.0))
are_taken n p plan (line ∷ lines) a =
    elim a.0 [
      | inl over ↦ rw over.0 (are_taken (next_line n) p plan lines (over.1, a.1))
      | inr said ↦ rw (said.0, item_read line said.1 said.2 said.3, item_is_taken n p said.1 said.4)
          (are_taken (next_line n) (with_item p said.1) plan lines (said.5, a.1))
    ]

-- lines whose first is the head of a plan
pub record AreLines (lines : List (List ℕ)) (plan : Plan) : Type 0 where
  pub after : List (List ℕ)
  pub head : lines ≡ codes "nvmet-plan 1" ∷ after
  pub rest : Adds after no_plan plan

plan_by_was : (lines : List (List ℕ)) (plan : Plan) → plan_by lines ≡ Ok plan → AreLines lines plan
plan_by_was [] plan e = absurd cc
plan_by_was (head ∷ lines) plan e =
    let t = then_ok (bytes_eq head (codes "nvmet-plan 1")) (plan_from 2 no_plan lines)
    (errors.BadLine 1) plan e in
    let same : head ≡ codes "nvmet-plan 1" = (bytes_eq-Decides head (codes "nvmet-plan 1")).0 t.0 in
    record { after = lines; head = rw same refl; rest = are_added 2 no_plan plan lines t.1 }

pub plan_was : (bytes : List ℕ) (plan : Plan) → plan_in bytes ≡ Ok plan → IsPlan bytes plan
unfolding plan_in
plan_was bytes plan e = let a = plan_by_was (lines_of bytes) plan e in
    record { lines = a.after; head = a.head; rest = a.rest }

pub plan_is_read : (bytes : List ℕ) (plan : Plan) → IsPlan bytes plan → plan_in bytes ≡ Ok plan
unfolding plan_in
plan_is_read bytes plan is = rw is.head (are_taken 2 no_plan plan is.lines is.rest)

pub found_spelled : (bytes : List ℕ) (r : Result Plan PlanError) → Gives r (plan_in bytes)
    → IfOk r (λ plan. IsPlan bytes plan)
found_spelled bytes (Ok plan) h = plan_was bytes plan h
found_spelled bytes (Err e) h = tt
