-- The list of held commands after one is taken out, and after one more.
use Rattle.std.proofs.Common.{◌≡◌, ℕ, zero, suc, ◌<◌, ◌≤◌, ◌==◌, ◌&&◌, Bool, true, false, cond, List, [], ◌∷◌, ◌++◌, length, Option, Some, None, refl, sym, ap, subst, ◌∙◌, arith}
use Rattle.std.specs.List.{find, AllByRecursion}
use Rattle.std.specs.Option.{option_or}
use Rattle.std.proofs.lemmas.Bool.{both_ways}
use Rattle.std.proofs.lemmas.List.Folds.{find-append}
use Rattle.tree_target.specs.declared.calls.Command.{Command}
use Rattle.tree_target.specs.Model.{is_command}
use Rattle.tree_target.specs.Steps.{without}
use Rattle.tree_target.specs.Kept.{is_of, IsNumbered, IsApart, AreSingle}

pub some_is : (h k : Command) → Some h ≡ Some k → h ≡ k
some_is h k e = cc

pub no_command : (h : Command) → None ≡ Some h → ⊥
no_command h e = cc

some_none : (h : Command) → Some h ≡ None → ⊥
some_none h e = cc

pub eqb_is : (a b : ℕ) → (a == b) ≡ true → a ≡ b
eqb_is a b e = grind arith

pub same_number : (n : ℕ) → (n == n) ≡ true
same_number n = grind arith

flip : (a b : ℕ) → (a == b) ≡ (b == a)
flip a b = grind arith

apart_on : (a b : ℕ) (c : Bool) → (a == b) ≡ c → (a ≡ b → ⊥) → c ≡ false
apart_on a b true e ne = absurd (ne (eqb_is a b e))
apart_on a b false e ne = refl

pub eqb_apart : (a b : ℕ) → (a ≡ b → ⊥) → (a == b) ≡ false
eqb_apart a b ne = ap (λ c. c) (sym (apart_is (a == b) refl)) where
  apart_is : (c : Bool) → (a == b) ≡ c → false ≡ (a == b)
  apart_is c e = sym (e ∙ apart_on a b c e ne)

pub both_true : (a b : Bool) → (a && b) ≡ true → (a ≡ true) × (b ≡ true)
both_true true b e = (refl, e)
both_true false b e = absurd (both_ways false refl e)

-- ---- what another test finds
find_on : (p r : Command → Bool) (h : Command) (held : List Command) (b c : Bool) → r h ≡ c
    → (c ≡ true → b ≡ false) → find r (without p held) ≡ find r held
    → find r (cond b held (h ∷ without p held)) ≡ cond c (Some h) (find r held)
find_on p r h held true true e apart rest = absurd (both_ways true (apart refl) refl)
find_on p r h held true false e apart rest = refl
find_on p r h held false c e apart rest =
    ap (λ b. cond b (Some h) (find r (without p held))) e ∙ ap (cond c (Some h)) rest

-- a test that passes none of those that may be taken finds what it found
pub find_apart : (p r : Command → Bool) (held : List Command)
    → ((h : Command) → r h ≡ true → p h ≡ false) → find r (without p held) ≡ find r held
find_apart p r [] apart = refl
find_apart p r (h ∷ held) apart =
    find_on p r h held (p h) (r h) refl (apart h) (find_apart p r held apart)

other_queue : (queue q : ℕ) (number : ℕ) (h : Command) → (q ≡ queue → ⊥) → (h.queue == q) ≡ true
    → is_command queue number h ≡ false
other_queue queue q number h ne e =
    ap (λ b. b && (h.number == number))
    (eqb_apart h.queue queue (λ is. ne (sym (eqb_is h.queue q e) ∙ is)))

pub others_found : (queue number q n : ℕ) (held : List Command) → (q ≡ queue → ⊥)
    → find (is_command q n) (without (is_command queue number) held) ≡ find (is_command q n) held
others_found queue number q n held ne = find_apart (is_command queue number) (is_command q n) held
    (λ h e. other_queue queue q number h ne (both_true (h.queue == q) (h.number == n) e).0)

pub others_idle : (queue number q : ℕ) (held : List Command) → (q ≡ queue → ⊥)
    → find (is_of q) (without (is_command queue number) held) ≡ find (is_of q) held
others_idle queue number q held ne = find_apart (is_command queue number) (is_of q) held
    (λ h e. other_queue queue q number h ne e)

-- ---- a property of each
module _ (P : Command → Type 0) where
  all_on : (p : Command → Bool) (h : Command) (held : List Command) (b : Bool) → P h
      → AllByRecursion P held → AllByRecursion P (without p held)
      → AllByRecursion P (cond b held (h ∷ without p held))
  all_on p h held true one all rest = all
  all_on p h held false one all rest = (one, rest)

  pub all_without : (p : Command → Bool) (held : List Command) → AllByRecursion P held
      → AllByRecursion P (without p held)
  all_without p [] all = tt
  all_without p (h ∷ held) all = all_on p h held (p h) all.0 all.1 (all_without p held all.1)

  pub all_snoc : (held : List Command) (h : Command) → AllByRecursion P held → P h
      → AllByRecursion P (held ++ h ∷ [])
  all_snoc [] h all one = (one, tt)
  all_snoc (k ∷ held) h all one = (all.0, all_snoc held h all.1 one)

  found_on : (p : Command → Bool) (k h : Command) (held : List Command) (b : Bool) → P k
      → cond b (Some k) (find p held) ≡ Some h → (find p held ≡ Some h → P h) → P h
  found_on p k h held true one e rest = subst P (some_is k h e) one
  found_on p k h held false one e rest = rest e

  pub found_has : (p : Command → Bool) (held : List Command) (h : Command) → AllByRecursion P held
      → find p held ≡ Some h → P h
  found_has p [] h all e = absurd (no_command h e)
  found_has p (k ∷ held) h all e = found_on p k h held (p k) all.0 e (found_has p held h all.1)

pub all_along : (P Q : Command → Type 0) (held : List Command) → ((h : Command) → P h → Q h)
    → AllByRecursion P held → AllByRecursion Q held
all_along P Q [] f all = tt
all_along P Q (h ∷ held) f all = (f h all.0, all_along P Q held f all.1)

-- what is found passes
passes_on : (p : Command → Bool) (k h : Command) (held : List Command) (b : Bool) → p k ≡ b
    → cond b (Some k) (find p held) ≡ Some h → (find p held ≡ Some h → p h ≡ true) → p h ≡ true
passes_on p k h held true is e rest = ap p (sym (some_is k h e)) ∙ is
passes_on p k h held false is e rest = rest e

pub passes : (p : Command → Bool) (held : List Command) (h : Command) → find p held ≡ Some h
    → p h ≡ true
passes p [] h e = absurd (no_command h e)
passes p (k ∷ held) h e = passes_on p k h held (p k) refl e (passes p held h)

-- ---- one command a queue
apart_found : (x : ℕ) (p : Command → Bool) (held : List Command) (h : Command) → IsApart x held
    → find p held ≡ Some h → (h.queue == x) ≡ false
apart_found x p held h all e =
    found_has (λ (k : Command). (k.queue == x) ≡ false) p held h all e

-- a queue that is apart has no command
none_apart : (x : ℕ) (held : List Command) → IsApart x held → find (is_of x) held ≡ None
none_apart x [] all = refl
none_apart x (h ∷ held) all =
    ap (λ b. cond b (Some h) (find (is_of x) held)) all.0 ∙ none_apart x held all.1

single_on : (p : Command → Bool) (h : Command) (held : List Command) (b : Bool)
    → IsApart h.queue held → AreSingle held → AreSingle (without p held)
    → AreSingle (cond b held (h ∷ without p held))
single_on p h held true one all rest = all
single_on p h held false one all rest =
    (all_without (λ (k : Command). (k.queue == h.queue) ≡ false) p held one, rest)

pub single_without : (p : Command → Bool) (held : List Command) → AreSingle held
    → AreSingle (without p held)
single_without p [] all = tt
single_without p (h ∷ held) all =
    single_on p h held (p h) all.0 all.1 (single_without p held all.1)

record NoneOf (p : Command → Bool) (h : Command) (held : List Command) : Type 0 where
  here : p h ≡ false
  later : find p held ≡ None

none_on : (p : Command → Bool) (h : Command) (held : List Command) (b : Bool) → p h ≡ b
    → cond b (Some h) (find p held) ≡ None → NoneOf p h held
none_on p h held true e none = absurd (some_none h none)
none_on p h held false e none = record { here = e; later = none }

pub single_snoc : (held : List Command) (c : Command) → AreSingle held
    → find (is_of c.queue) held ≡ None → AreSingle (held ++ c ∷ [])
single_snoc [] c all none = (tt, tt)
single_snoc (h ∷ held) c all none =
    let w = none_on (is_of c.queue) h held (is_of c.queue h) refl none in (
      all_snoc (λ (k : Command). (k.queue == h.queue) ≡ false) held c all.0
          (flip c.queue h.queue ∙ w.here),
      single_snoc held c all.1 w.later,
    )

-- where the one command of a queue was taken, the queue has none
idle_on : (queue number : ℕ) (h c : Command) (held : List Command) (b : Bool)
    → is_command queue number h ≡ b → IsApart h.queue held
    → cond b (Some h) (find (is_command queue number) held) ≡ Some c
    → (find (is_command queue number) held ≡ Some c
    → find (is_of queue) (without (is_command queue number) held) ≡ None)
    → find (is_of queue) (cond b held (h ∷ without (is_command queue number) held)) ≡ None
idle_on queue number h c held true e one is rest =
    let q : h.queue ≡ queue = eqb_is h.queue queue
    (both_true (h.queue == queue) (h.number == number) e).0 in
    none_apart queue held (subst (λ (x : ℕ). IsApart x held) q one)
idle_on queue number h c held false e one is rest =
    let found = passes (is_command queue number) held c is in
    let q : c.queue ≡ queue = eqb_is c.queue queue
    (both_true (c.queue == queue) (c.number == number) found).0 in
    let miss : (h.queue == queue) ≡ false = ap (λ (x : ℕ). h.queue == x) (sym q)
    ∙ (flip h.queue c.queue ∙ apart_found h.queue (is_command queue number) held c one is) in
    ap (λ b. cond b (Some h) (find (is_of queue) (without (is_command queue number) held))) miss
    ∙ rest is

pub idle_taken : (queue number : ℕ) (held : List Command) (c : Command) → AreSingle held
    → find (is_command queue number) held ≡ Some c
    → find (is_of queue) (without (is_command queue number) held) ≡ None
idle_taken queue number [] c all e = absurd (no_command c e)
idle_taken queue number (h ∷ held) c all e = idle_on queue number h c held
    (is_command queue number h) refl all.0 e (idle_taken queue number held c all.1)

-- ---- after one more
pub last_found : (p : Command → Bool) (held : List Command) (h : Command) → find p held ≡ None
    → p h ≡ true → find p (held ++ h ∷ []) ≡ Some h
last_found p held h none is =
    find-append p held (h ∷ [])
    ∙ (ap (λ (o : Option Command). option_or o (find p (h ∷ []))) none
    ∙ ap (λ b. cond b (Some h) None) is)

-- the one that was put last is taken
pub last_taken : (p : Command → Bool) (held : List Command) (h : Command) → find p held ≡ None
    → p h ≡ true → without p (held ++ h ∷ []) ≡ held
last_taken p [] h none is = ap (λ b. cond b [] (h ∷ [])) is
last_taken p (k ∷ held) h none is =
    let w = none_on p k held (p k) refl none in
    ap (λ b. cond b (held ++ h ∷ []) (k ∷ without p (held ++ h ∷ []))) w.here
    ∙ ap (λ (xs : List Command). k ∷ xs) (last_taken p held h w.later is)

or_none : (o : Option Command) → option_or o None ≡ o
or_none None = refl
or_none (Some h) = refl

pub snoc_other : (p : Command → Bool) (held : List Command) (h : Command) → p h ≡ false
    → find p (held ++ h ∷ []) ≡ find p held
snoc_other p held h miss =
    find-append p held (h ∷ [])
    ∙ (ap (λ b. option_or (find p held) (cond b (Some h) None)) miss ∙ or_none (find p held))

pub own_command : (h : Command) → is_command h.queue h.number h ≡ true
own_command h = ap (λ b. b && (h.number == h.number)) (same_number h.queue) ∙ same_number h.number

-- a queue without a command doesn't hold this one
idle_miss : (queue number : ℕ) (h : Command) (b : Bool) → (h.queue == queue) ≡ b → b ≡ false
    → is_command queue number h ≡ false
idle_miss queue number h b e is = ap (λ c. c && (h.number == number)) (e ∙ is)

pub idle_command : (queue number : ℕ) (held : List Command) → find (is_of queue) held ≡ None
    → find (is_command queue number) held ≡ None
idle_command queue number [] none = refl
idle_command queue number (h ∷ held) none =
    let w = none_on (is_of queue) h held (is_of queue h) refl none in
    ap (λ b. cond b (Some h) (find (is_command queue number) held))
    (idle_miss queue number h (h.queue == queue) refl w.here)
    ∙ idle_command queue number held w.later

-- ---- no more commands than queues
taken_len : (p : Command → Bool) (h : Command) (held : List Command) (b : Bool)
    → length held ≤ suc (length (without p held))
    → length (h ∷ held) ≤ suc (length (cond b held (h ∷ without p held)))
taken_len p h held true le = omega arith
taken_len p h held false le = omega (arith, le)

len_without : (p : Command → Bool) (held : List Command)
    → length held ≤ suc (length (without p held))
len_without p [] = omega arith
len_without p (h ∷ held) = taken_len p h held (p h) (len_without p held)

apart_on_taken : (x : ℕ) (h : Command) (held : List Command) (b : Bool) → (h.queue == x) ≡ b
    → IsApart h.queue held → IsApart x (without (is_of x) held)
    → IsApart x (cond b held (h ∷ without (is_of x) held))
apart_on_taken x h held true e one rest =
    subst (λ (y : ℕ). IsApart y held) (eqb_is h.queue x e) one
apart_on_taken x h held false e one rest = (e, rest)

-- where a queue's one command was taken, no other is of that queue
apart_taken : (x : ℕ) (held : List Command) → AreSingle held → IsApart x (without (is_of x) held)
apart_taken x [] all = tt
apart_taken x (h ∷ held) all =
    apart_on_taken x h held (h.queue == x) refl all.0 (apart_taken x held all.1)

not_last : (n q : ℕ) → 1 ≤ q → q ≤ suc n → (q == suc n) ≡ false → q ≤ n
not_last n q low high miss = grind arith

fewer : (n : ℕ) (held : List Command) → AllByRecursion (IsNumbered (suc n)) held
    → IsApart (suc n) held → AllByRecursion (IsNumbered n) held
fewer n [] all apart = tt
fewer n (h ∷ held) all apart = (
  record { low = all.0.low; high = not_last n h.queue all.0.low all.0.high apart.0 },
  fewer n held all.1 apart.1,
)

no_queue : (q : ℕ) → 1 ≤ q → q ≤ 0 → ⊥
no_queue q low high = omega (arith, low, high)

pub few_held : (queues : ℕ) (held : List Command) → AllByRecursion (IsNumbered queues) held
    → AreSingle held → length held ≤ queues
few_held zero [] numbered single = omega arith
few_held zero (h ∷ held) numbered single =
    absurd (no_queue h.queue numbered.0.low numbered.0.high)
few_held (suc n) held numbered single =
    let rest = without (is_of (suc n)) held in
    let all = all_without (IsNumbered (suc n)) (is_of (suc n)) held numbered in
    let le = few_held n rest (fewer n rest all (apart_taken (suc n) held single))
    (single_without (is_of (suc n)) held single) in
    let one = len_without (is_of (suc n)) held in
    omega (arith, le, one)

snoc_len : (held : List Command) (c : Command) → length (held ++ c ∷ []) ≡ suc (length held)
snoc_len [] c = refl
snoc_len (h ∷ held) c = ap (λ n. suc n) (snoc_len held c)

-- of a queue that has none there is room for one more
pub room_for : (queues : ℕ) (held : List Command) (c : Command)
    → AllByRecursion (IsNumbered queues) held → AreSingle held → IsNumbered queues c
    → find (is_of c.queue) held ≡ None → length held < queues
room_for queues held c numbered single one none =
    let n = few_held queues (held ++ c ∷ []) (all_snoc (IsNumbered queues) held c numbered one)
    (single_snoc held c single none) in
    let len = snoc_len held c in
    omega (arith, n, len)
