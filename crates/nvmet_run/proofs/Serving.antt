-- What want of memory for the words of a command leaves, and what the answers of commands are as
-- statuses.
use Rattle.std.proofs.Common.{◌≡◌, ◌⊎◌, ℕ, Bool, true, false, ◌&&◌, not, nat_le, nat_eq, length, List, Option, Some, None, Err, refl, sym, ap, subst, ◌∙◌, inl, inr}
use Rattle.std.specs.Prelude.{IsSome, IfSome, String, Result, codes, ◌∷◌, ◌++◌, []}
use Rattle.std.specs.List.{starts_with}
use Rattle.std.specs.declared.alloc.Global.{Global}
use Rattle.command_words.specs.Commands.{said_by, are_said, is_gen_name, is_gen_number, is_plan_name}
use Rattle.command_words.specs.declared.words.Words.{Words}
use Rattle.command_words.specs.declared.words.Words.TheVariants as words
use Rattle.gen_files.specs.Seeds.{Base, is_base, is_base_name}
use Rattle.plan_files.specs.Spelling.{is_name}
use Rattle.run_check.specs.declared.check.CheckFault.{CheckFault}
use Rattle.run_check.specs.declared.check.CheckFault.TheVariants as ends
use Rattle.run_outcomes.specs.declared.faults.Fault.{Fault}
use Rattle.run_outcomes.specs.declared.faults.Fault.TheVariants as fault
use Rattle.run_outcomes.specs.Outsides.{Outside, Kept, Said}
use Rattle.run_verdicts.specs.declared.verdict.Field.{Field}
use Rattle.nvmet_run.specs.Answers.{EndsBy}
use Rattle.nvmet_run.specs.Codes.{status_of}
use Rattle.nvmet_run.specs.declared.status.Status.{Status}
use Rattle.nvmet_run.specs.declared.status.Status.TheVariants as status

pub memory_is : (f : Fault) → status.Memory ≡ status_of f → f ≡ fault.Memory
memory_is (fault.Malformed n place) e = absurd cc
memory_is (fault.Limit n what count) e = absurd cc
memory_is (fault.ReadFault n) e = absurd cc
memory_is (fault.WriteFault n) e = absurd cc
memory_is (fault.ConfigRefused n errno) e = absurd cc
memory_is fault.Memory e = refl

lacks : (before after : Outside) (w : Words) → Kept before.files.told after.files.told
    → Said before.sink after.sink (codes "out of memory" ++ 10 ∷ [])
    → EndsBy before after w fault.Memory
lacks before after (words.Run plan) kept said = inl (record { kept = kept; said = said })
lacks before after (words.Check plan) kept said = record { kept = kept; said = said }
lacks before after (words.Show plan) kept said = record { kept = kept; said = said }
lacks before after (words.Gen n name) kept said = inl (record { kept = kept; said = said })

pub words_lack : (line : List (String Global)) (before after : Outside) (o : Option Words)
    → said_by line ≡ o → IsSome o → Kept before.files.told after.files.told
    → Said before.sink after.sink (codes "out of memory" ++ 10 ∷ [])
    → (w : Words) × (said_by line ≡ Some w) × EndsBy before after w fault.Memory
words_lack line before after None is some kept said = absurd cc
words_lack line before after (Some w) is some kept said = (w, is, lacks before after w kept said)

-- ---- the answers of a check as statuses
pub clash : (place : ℕ) (field : Field) (f : Fault) → ends.NotLegal place field ≡ ends.Stopped f → ⊥
clash place field f e = absurd cc

pub not_stopped : (x : CheckFault) (place : ℕ) (field : Field) (d f : Fault) → x ≡ ends.NotLegal place field
    → (x ≡ ends.Stopped d) ⊎ (x ≡ ends.Stopped f) → ⊥
not_stopped x place field d f is (inl e) = clash place field d (sym is ∙ e)
not_stopped x place field d f is (inr e) = clash place field f (sym is ∙ e)

pub fault_is : (d f : Fault) → ends.Stopped d ≡ ends.Stopped f → d ≡ f
fault_is d f e = cc

pub stopped_as : (r : Status) (x : CheckFault) (d f : Fault) → r ≡ status_of d → x ≡ ends.Stopped d
    → (x ≡ ends.Stopped f) ⊎ (x ≡ ends.Stopped fault.Memory) → (r ≡ status_of f) ⊎ (r ≡ status.Memory)
stopped_as r x d f is was (inl e) = inl (is ∙ ap status_of (fault_is d f (sym was ∙ e)))
stopped_as r x d f is was (inr e) = inr (is ∙ ap status_of (fault_is d fault.Memory (sym was ∙ e)))

abbrev err : CheckFault → Result (Unit {0}) CheckFault
err e = Err e

named_as : (p place : ℕ) (f field : Field) → status.NotLegal p f ≡ status.NotLegal place field
    → ends.NotLegal p f ≡ ends.NotLegal place field
named_as p place f field e = cc

pub judged_as : (x : CheckFault) (p place : ℕ) (f field : Field) → x ≡ ends.NotLegal p f
    → status.NotLegal p f ≡ status.NotLegal place field
    → ◌≡◌ {A = Result (Unit {0}) CheckFault} (Err x) (Err (ends.NotLegal place field))
judged_as x p place f field was e = ap err (was ∙ named_as p place f field e)

-- ---- a showing that ended by a fault
pub shown_as : (r : Status) (d f : Fault) → r ≡ status_of d → (d ≡ f) ⊎ (d ≡ fault.Memory)
    → (r ≡ status_of f) ⊎ (r ≡ status.Memory)
shown_as r d f is (inl e) = inl (is ∙ ap status_of e)
shown_as r d f is (inr e) = inr (is ∙ ap status_of e)

-- ---- what `gen` is made from
left_of : (a b : Bool) → a && b ≡ true → a ≡ true
left_of true b e = refl
left_of false b e = absurd cc

right_of : (a b : Bool) → a && b ≡ true → b ≡ true
right_of true b e = e
right_of false b e = absurd cc

both_of : (a b : Bool) → a ≡ true → b ≡ true → a && b ≡ true
both_of a b x y = rw (x, y) refl

-- words that `gen` may have are a seed
pub said_is_base : (n : ℕ) (name : List ℕ) → are_said (words.Gen n name) ≡ true → is_base n name ≡ true
unfolding is_base_name
said_is_base n name e =
    let number : is_gen_number n ≡ true = left_of (is_gen_number n) (is_gen_name name) e in
    let named : is_gen_name name ≡ true = right_of (is_gen_number n) (is_gen_name name) e in
    let plan : is_plan_name name ≡ true = left_of (is_plan_name name) (nat_le (length name) 200) named in
    let short : nat_le (length name) 200 ≡ true = right_of (is_plan_name name) (nat_le (length name) 200) named in
    let text : is_name name ≡ true = left_of (is_name name) (not (starts_with nat_eq name (codes "-"))) plan in
    let low : nat_le 1 n ≡ true = left_of (nat_le 1 n) (nat_le n 4096) number in
    let high : nat_le n 4096 ≡ true = right_of (nat_le 1 n) (nat_le n 4096) number in
    rw (low, high, text, short) refl

pub word_is : (w v : Words) → ◌≡◌ {A = Option Words} (Some w) (Some v) → w ≡ v
word_is w v e = cc

pub seed_as : (o : Option Base) (b s : Base) → o ≡ Some s → IfSome o (λ x. x ≡ b) → s ≡ b
seed_as o b s is h = subst (λ (p : Option Base). IfSome p (λ x. x ≡ b)) is h
