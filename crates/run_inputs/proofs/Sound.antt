-- A plan that was read names its files by texts, and has a start.
use Rattle.std.proofs.Common.{◌≡◌, ◌≤◌, ◌<◌, ℕ, Bool, true, false, ◌&&◌, List, [], ◌∷◌, ◌++◌, length, Option, Some, None, refl, sym, subst, inl, inr, arith}
use Rattle.std.specs.Prelude.{nat_le, nat_lt, not, IfSome, is_some, IsUtf8}
use Rattle.std.specs.List.{list_all, AllByRecursion}
use Rattle.std.proofs.lemmas.Bool.{leb-true}
use Rattle.std.proofs.lemmas.Str.{IsUtf8-from_ascii}
use Rattle.std.proofs.lemmas.Str.Ascii.{IsAscii-from_all}
use Rattle.std.proofs.lemmas.List.Elements.{All-from_recursion}
use Rattle.plan_files.specs.declared.items.Item.{Item}
use Rattle.plan_files.specs.declared.items.Item.TheVariants.{Simple, Disk, Config, Script, Journal, Queue}
use Rattle.plan_files.specs.declared.items.Plan.{Plan}
use Rattle.plan_files.specs.declared.items.QueueLine.{QueueLine}
use Rattle.plan_files.specs.Spelling.{is_name, fits, fits_queue}
use Rattle.plan_files.specs.Plans.{IsPlan, Makes, no_plan, with_item, agrees, is_complete}
use Rattle.tree_target.specs.PlanDisks.{FitsTarget}
use Rattle.run_inputs.specs.Planned.{IsPlanned, HasStart}

and_left : (a b : Bool) → (a && b) ≡ true → a ≡ true
and_left true b e = refl
and_left false b e = absurd cc

and_right : (a b : Bool) → (a && b) ≡ true → b ≡ true
and_right true b e = e
and_right false b e = absurd cc

all_ascii : (bytes : List ℕ) → list_all (λ b. nat_le 33 b && nat_le b 126) bytes ≡ true
    → AllByRecursion (λ b. b < 128) bytes
all_ascii [] e = tt
all_ascii (b ∷ bytes) e =
    let here = and_left (nat_le 33 b && nat_le b 126) _ e in
    let small : b ≤ 126 = leb-true b 126 (and_right (nat_le 33 b) _ here) in
    (omega arith, all_ascii bytes (and_right (nat_le 33 b && nat_le b 126) _ e))

-- a name is text
named_text : (name : List ℕ) → is_name name ≡ true → IsUtf8 name
unfolding is_name
named_text name e =
    IsUtf8-from_ascii name (IsAscii-from_all name (All-from_recursion (λ b. b < 128) name
    (all_ascii name (and_right (nat_le 1 (length name) && nat_le (length name) 255) _ e))))

abbrev IsTextOrNone : Option (List ℕ) → Type 0
IsTextOrNone o = IfSome o (λ name. IsUtf8 name)

abbrev AreTexts : QueueLine → Type 0
AreTexts q = IsUtf8 q.capsules × IsUtf8 q.responses

-- what holds of a plan after each line
record IsSound (p : Plan) : Type 0 where
  config : IsTextOrNone p.config
  script : IsTextOrNone p.script
  journal : IsTextOrNone p.journal
  queues : AllByRecursion AreTexts p.queues
  agree : agrees p ≡ true

texts : (q : QueueLine) → fits_queue q ≡ true → AreTexts q
unfolding fits_queue
texts q e =
    let names = and_left (nat_lt q.port 65536 && is_name q.capsules) (is_name q.responses) e in (
      named_text q.capsules (and_right (nat_lt q.port 65536) (is_name q.capsules) names),
      named_text q.responses (and_right (nat_lt q.port 65536 && is_name q.capsules)
          (is_name q.responses) e),
    )

all-snoc : {X : Type 0} (P : X → Type 0) (xs : List X) (x : X) → AllByRecursion P xs → P x
    → AllByRecursion P (xs ++ x ∷ [])
all-snoc P [] x a p = (p, tt)
all-snoc P (y ∷ xs) x a p = (a.0, all-snoc P xs x a.1 p)

sound_item : (p : Plan) (item : Item) → IsSound p → fits item ≡ true
    → agrees (with_item p item) ≡ true → IsSound (with_item p item)
sound_item p Simple s e a = record {
  config = s.config;
  script = s.script;
  journal = s.journal;
  queues = s.queues;
  agree = a;
}
sound_item p (Disk d) s e a = record {
  config = s.config;
  script = s.script;
  journal = s.journal;
  queues = s.queues;
  agree = a;
}
sound_item p (Config name) s e a = record {
  config = named_text name e;
  script = s.script;
  journal = s.journal;
  queues = s.queues;
  agree = a;
}
sound_item p (Script name) s e a = record {
  config = s.config;
  script = named_text name e;
  journal = s.journal;
  queues = s.queues;
  agree = a;
}
sound_item p (Journal name) s e a = record {
  config = s.config;
  script = s.script;
  journal = named_text name e;
  queues = s.queues;
  agree = a;
}
sound_item p (Queue q) s e a = record {
  config = s.config;
  script = s.script;
  journal = s.journal;
  queues = all-snoc AreTexts p.queues q s.queues (texts q e);
  agree = a;
}

sound_after : (lines : List (List ℕ)) (p plan : Plan) → IsSound p → Makes lines p plan
    → IsSound plan
sound_after [] p plan s a = subst (λ (q : Plan). IsSound q) (sym a) s
sound_after (line ∷ lines) p plan s a =
    elim a [
      | inl over ↦ sound_after lines p plan s over.1
      | inr said ↦ sound_after lines (with_item p said.1) plan (sound_item p said.1 s said.3
          said.4.agrees) said.5
    ]

none_of : (o : Option (List ℕ)) (more : Bool) → (not (is_some o) && more) ≡ true → o ≡ None
none_of None more e = refl
none_of (Some name) more e = absurd cc

start_of : (simple : Bool) (plan : Plan) → plan.simple ≡ simple → agrees plan ≡ true
    → is_complete plan ≡ true → HasStart simple plan
unfolding agrees is_complete
start_of true plan simple a c =
    let rest = rw simple at a in
    none_of plan.config _ (and_left _ _ (and_left _ _ (and_left _ _ (and_left _ _ rest))))
start_of false plan simple a c = and_left (is_some plan.config) _ (rw simple at c)

agrees-none : agrees no_plan ≡ true
unfolding agrees
agrees-none = refl

pub planned : (bytes : List ℕ) (plan : Plan) → IsPlan bytes plan → FitsTarget plan → IsPlanned plan
planned bytes plan is fits =
    let none : IsSound no_plan = record {
      config = tt;
      script = tt;
      journal = tt;
      queues = tt;
      agree = agrees-none;
    } in
    let s = sound_after is.lines no_plan plan none is.rest.0 in
    record {
      bytes = bytes;
      spelled = is;
      fits = fits;
      names = record {
        config = s.config;
        script = s.script;
        journal = s.journal;
        queues = All-from_recursion AreTexts plan.queues s.queues;
      };
      start = start_of plan.simple plan refl s.agree is.rest.1;
    }
