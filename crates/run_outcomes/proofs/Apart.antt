-- No two files that a plan has written have one name.
use Rattle.std.proofs.Common.{◌≡◌, ◌≢◌, ℕ, ◌+◌, Bool, true, false, List, [], ◌∷◌, ◌++◌, Option, Some, None, refl, sym, ap, subst, ◌∙◌, inl, inr}
use Rattle.std.specs.Prelude.{not, ◌&&◌, ◌||◌}
use Rattle.std.specs.List.{AllByRecursion, list_any}
use Rattle.std.specs.Str.{bytes_eq}
use Rattle.std.proofs.lemmas.Bool.Decides.{not_from_Decides}
use Rattle.std.proofs.lemmas.Slice.Eq.{bytes_eq-Decides}
use Rattle.plan_files.specs.declared.items.Item.{Item}
use Rattle.plan_files.specs.declared.items.Item.TheVariants.{Simple, Disk, Config, Script, Journal, Queue}
use Rattle.plan_files.specs.declared.items.Plan.{Plan}
use Rattle.plan_files.specs.declared.items.QueueLine.{QueueLine}
use Rattle.plan_files.specs.Plans.{has_name, is_free, is_new, with_item, Makes, no_plan}
use Rattle.run_outcomes.specs.Written.{ToWrite, AreApart}
use Rattle.run_outcomes.specs.Names.{journal_to_write, responses_to_write, PlansHaveApartNames}

-- ---- names that are apart
abbrev NotNamed : Option (List ℕ) → List ℕ → Type 0
NotNamed None name = Unit {0}
NotNamed (Some n) name = name ≢ n

abbrev Distinct : List QueueLine → Option (List ℕ) → Type 0
Distinct [] j = Unit {0}
Distinct (q ∷ qs) j = AllByRecursion (λ (r : QueueLine). q.responses ≢ r.responses) qs
    × NotNamed j q.responses × Distinct qs j

all_from : (name : List ℕ) (queue : ℕ) (qs : List QueueLine) (texts : List (List ℕ))
    (j : Option (List ℕ)) (text : List ℕ)
    → AllByRecursion (λ (r : QueueLine). name ≢ r.responses) qs → NotNamed j name
    → AllByRecursion (λ (v : ToWrite). name ≢ v.name)
    (responses_to_write queue qs texts (journal_to_write j text))
all_from name queue [] texts None text all n = tt
all_from name queue [] texts (Some x) text all n = (n, tt)
all_from name queue (q ∷ qs) [] None text all n = tt
all_from name queue (q ∷ qs) [] (Some x) text all n = (n, tt)
all_from name queue (q ∷ qs) (t ∷ texts) j text all n = (
  all.0,
  all_from name (queue + 1) qs texts j text all.1 n,
)

apart_journal : (j : Option (List ℕ)) (text : List ℕ) → AreApart (journal_to_write j text)
apart_journal None text = tt
apart_journal (Some x) text = (tt, tt)

apart_from : (queue : ℕ) (qs : List QueueLine) (texts : List (List ℕ)) (j : Option (List ℕ))
    (text : List ℕ) → Distinct qs j
    → AreApart (responses_to_write queue qs texts (journal_to_write j text))
apart_from queue [] texts j text d = apart_journal j text
apart_from queue (q ∷ qs) [] j text d = apart_journal j text
apart_from queue (q ∷ qs) (t ∷ texts) j text d = (
  all_from q.responses (queue + 1) qs texts j text d.0 d.1,
  apart_from (queue + 1) qs texts j text d.2,
)

-- ---- a line more
or_false : (a b : Bool) → (a || b) ≡ false → (a ≡ false) × (b ≡ false)
or_false false false e = (refl, refl)
or_false false true e = absurd cc
or_false true false e = absurd cc
or_false true true e = absurd cc

and_true : (a b : Bool) → (a && b) ≡ true → (a ≡ true) × (b ≡ true)
and_true true true e = (refl, refl)
and_true true false e = absurd cc
and_true false true e = absurd cc
and_true false false e = absurd cc

not_true : (a : Bool) → not a ≡ true → a ≡ false
not_true false e = refl
not_true true e = absurd cc

differ : (xs ys : List ℕ) → bytes_eq xs ys ≡ false → xs ≢ ys
differ xs ys e = not_from_Decides _ (bytes_eq-Decides xs ys) e

record Free (p : Plan) (name : List ℕ) : Type 0 where
  pub journal : has_name p.journal name ≡ false
  pub queues : list_any (λ (q : QueueLine). bytes_eq q.capsules name || bytes_eq q.responses name)
      p.queues ≡ false

free_of : (p : Plan) (name : List ℕ) → is_free p name ≡ true → Free p name
unfolding is_free
free_of p name e =
    let all = or_false _ _ (not_true _ e) in
    record { journal = (or_false _ _ all.0).1; queues = all.1 }

not_named : (j : Option (List ℕ)) (name : List ℕ) → has_name j name ≡ false → NotNamed j name
not_named None name e = tt
not_named (Some n) name e = λ same. differ n name e (sym same)

all_differ : (name : List ℕ) (qs : List QueueLine)
    → list_any (λ (q : QueueLine). bytes_eq q.capsules name || bytes_eq q.responses name) qs
    ≡ false
    → AllByRecursion (λ (r : QueueLine). r.responses ≢ name) qs
all_differ name [] e = tt
all_differ name (q ∷ qs) e =
    let both = or_false _ _ e in
    let own = or_false _ _ both.0 in
    (differ q.responses name own.1, all_differ name qs both.1)

snoc_all : (P : QueueLine → Type 0) (qs : List QueueLine) (q : QueueLine) → AllByRecursion P qs
    → P q → AllByRecursion P (qs ++ q ∷ [])
snoc_all P [] q all p = (p, tt)
snoc_all P (r ∷ qs) q all p = (all.0, snoc_all P qs q all.1 p)

snoc_distinct : (qs : List QueueLine) (j : Option (List ℕ)) (q : QueueLine) → Distinct qs j
    → AllByRecursion (λ (r : QueueLine). r.responses ≢ q.responses) qs → NotNamed j q.responses
    → Distinct (qs ++ q ∷ []) j
snoc_distinct [] j q d all n = (tt, n, tt)
snoc_distinct (r ∷ qs) j q d all n = (
  snoc_all (λ (s : QueueLine). r.responses ≢ s.responses) qs q d.0 all.0,
  d.1,
  snoc_distinct qs j q d.2 all.1 n,
)

with_journal : (qs : List QueueLine) (name : List ℕ) → Distinct qs None
    → AllByRecursion (λ (r : QueueLine). r.responses ≢ name) qs → Distinct qs (Some name)
with_journal [] name d all = tt
with_journal (q ∷ qs) name d all = (d.0, all.0, with_journal qs name d.2 all.1)

no_journal : (qs : List QueueLine) (j : Option (List ℕ)) → Distinct qs j → Distinct qs None
no_journal [] j d = tt
no_journal (q ∷ qs) j d = (d.0, tt, no_journal qs j d.2)

added : (p : Plan) (item : Item) → is_new p item ≡ true → Distinct p.queues p.journal
    → Distinct (with_item p item).queues (with_item p item).journal
unfolding is_new
added p Simple e d = d
added p (Disk x) e d = d
added p (Config name) e d = d
added p (Script name) e d = d
added p (Journal name) e d =
    let free = free_of p name (and_true _ _ e).1 in
    with_journal p.queues name (no_journal p.queues p.journal d) (all_differ name p.queues
    free.queues)
added p (Queue q) e d =
    let free = free_of p q.responses (and_true _ _ (and_true _ _ e).0).1 in
    snoc_distinct p.queues p.journal q d (all_differ q.responses p.queues free.queues)
    (not_named p.journal q.responses free.journal)

made : (lines : List (List ℕ)) (p q : Plan) → Makes lines p q → Distinct p.queues p.journal
    → Distinct q.queues q.journal
made [] p q m d = subst (λ (x : Plan). Distinct x.queues x.journal) (sym m) d
made (line ∷ lines) p q m d = elim m [
  | inl passed ↦ made lines p q passed.1 d
  | inr says ↦ made lines (with_item p says.1) q says.5 (added p says.1 says.4.new d)
]

pub plans_have_apart_names : PlansHaveApartNames
plans_have_apart_names bytes plan texts journal is = apart_from 1 plan.queues texts plan.journal
    journal (made is.lines no_plan plan is.rest.0 tt)
