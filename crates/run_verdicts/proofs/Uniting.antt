-- A right run has no fault, and two faults are the same.
use Rattle.std.proofs.Common.{◌≡◌, ◌<◌, ◌≤◌, ◌⊎◌, ℕ, Bool, true, false, IsTrue, ltb, refl, sym, ap, subst, ◌∙◌, inl, inr, arith, ltb-true, ltb-false, true≢false}
use Rattle.tree_target.specs.Model.{Entry}
use Rattle.run_transcript.specs.Runs.{Placed, Run, callers}
use Rattle.run_transcript.specs.Printing.{answer_of, completion_of}
use Rattle.run_verdicts.specs.declared.verdict.Field.{Field}
use Rattle.run_verdicts.specs.declared.verdict.Field.TheVariants as field
use Rattle.run_verdicts.specs.Places.{ArePlaces, IsLowest, IsBadPlace}
use Rattle.run_verdicts.specs.Nexts.{told, places_of, below}
use Rattle.run_verdicts.specs.Faults.{Agrees, AgreesBelow, InOrder, IsOtherwise, IsUnlawful, DiffersAt, Differs, IsRight, IsFault, AreDone, made_at, is_lawful_at}
use Rattle.run_verdicts.proofs.Laying.{all, stand, comes-only, wanted-most}

-- what is in order at a place is one entry
pub same-entry : (n : ℕ) (run : Run) (p : ℕ) (x e : Placed) → ArePlaces n (places_of (told run)) → InOrder run p x
    → InOrder run p e → x ≡ e
same-entry n run p x e places a b =
    let once : stand p (all (callers run)) ≤ 1 = omega (arith, places p, wanted-most n p) in
    (comes-only (callers run) p a.caller b.caller a.list b.list (below p b.list) x e b.comes.rest once a.is_list b.is_list b.comes.follows b.comes.place a.comes).entries

same-not : (x y : Entry) (f : Field) → x ≡ y → Differs x y f → ⊥
same-not x y field.Answer h d = d (ap (λ (e : Entry). answer_of e.reply) h)
same-not x y field.Completion h d = d.1 (ap (λ (e : Entry). completion_of e.reply) h)
same-not x y field.Bytes h d = d.2 (ap (λ (e : Entry). e.bytes) h)
same-not x y field.Errno h d = d.3 (ap (λ (e : Entry). e.reply) h)
same-not x y field.Place h d = d
same-not x y field.Order h d = d
same-not x y field.Drain h d = d

differs-same : (x y : Entry) (f g : Field) → Differs x y f → Differs x y g → f ≡ g
differs-same x y field.Place g d e = absurd d
differs-same x y field.Order g d e = absurd d
differs-same x y field.Drain g d e = absurd d
differs-same x y field.Answer field.Place d e = absurd e
differs-same x y field.Answer field.Order d e = absurd e
differs-same x y field.Answer field.Answer d e = refl
differs-same x y field.Answer field.Completion d e = absurd (d e.0)
differs-same x y field.Answer field.Bytes d e = absurd (d e.0)
differs-same x y field.Answer field.Errno d e = absurd (d e.0)
differs-same x y field.Answer field.Drain d e = absurd e
differs-same x y field.Completion field.Place d e = absurd e
differs-same x y field.Completion field.Order d e = absurd e
differs-same x y field.Completion field.Answer d e = absurd (e d.0)
differs-same x y field.Completion field.Completion d e = refl
differs-same x y field.Completion field.Bytes d e = absurd (d.1 e.1)
differs-same x y field.Completion field.Errno d e = absurd (d.1 e.1)
differs-same x y field.Completion field.Drain d e = absurd e
differs-same x y field.Bytes field.Place d e = absurd e
differs-same x y field.Bytes field.Order d e = absurd e
differs-same x y field.Bytes field.Answer d e = absurd (e d.0)
differs-same x y field.Bytes field.Completion d e = absurd (e.1 d.1)
differs-same x y field.Bytes field.Bytes d e = refl
differs-same x y field.Bytes field.Errno d e = absurd (d.2 e.2)
differs-same x y field.Bytes field.Drain d e = absurd e
differs-same x y field.Errno field.Place d e = absurd e
differs-same x y field.Errno field.Order d e = absurd e
differs-same x y field.Errno field.Answer d e = absurd (e d.0)
differs-same x y field.Errno field.Completion d e = absurd (e.1 d.1)
differs-same x y field.Errno field.Bytes d e = absurd (e.2 d.2)
differs-same x y field.Errno field.Errno d e = refl
differs-same x y field.Errno field.Drain d e = absurd e

-- how a place differs
data Difference (run : Run) (p : ℕ) (f : Field) : Type 0 where
  Out : f ≡ field.Order → ((e : Placed) → InOrder run p e → ⊥) → Difference run p f
  Otherwise : IsOtherwise run p f → Difference run p f
  Unlawful : f ≡ field.Drain → IsUnlawful run p → Difference run p f

difference : (run : Run) (p : ℕ) (f : Field) → DiffersAt run p f → Difference run p f
difference run p field.Place d = absurd d
difference run p field.Order d = Out refl d
difference run p field.Answer d = Otherwise d
difference run p field.Completion d = Otherwise d
difference run p field.Bytes d = Otherwise d
difference run p field.Errno d = Otherwise d
difference run p field.Drain d = Unlawful refl d

lawful-not : (run : Run) (p : ℕ) (x e : Placed) → x ≡ e → IsTrue (is_lawful_at run p x) → is_lawful_at run p e ≡ false → ⊥
lawful-not run p x e same lawful not_lawful =
    let here : IsTrue (is_lawful_at run p e) = subst (λ (y : Placed). IsTrue (is_lawful_at run p y)) same lawful in
    true≢false (sym here ∙ not_lawful)

otherwise-not : (n : ℕ) (run : Run) (p : ℕ) (f : Field) → ArePlaces n (places_of (told run)) → Agrees run p → IsOtherwise run p f → ⊥
otherwise-not n run p f places a o =
    let same = same-entry n run p a.entry o.entry places a.in_order o.in_order in
    let is : o.entry.entry ≡ made_at run p o.entry = subst (λ (x : Placed). x.entry ≡ made_at run p x) same a.is in
    same-not o.entry.entry (made_at run p o.entry) f is o.differs

unlawful-not : (n : ℕ) (run : Run) (p : ℕ) → ArePlaces n (places_of (told run)) → (x : Placed) → InOrder run p x
    → IsTrue (is_lawful_at run p x) → IsUnlawful run p → ⊥
unlawful-not n run p places x order lawful u =
    lawful-not run p x u.entry (same-entry n run p x u.entry places order u.in_order) lawful u.unlawful

-- what agrees doesn't differ
agrees-not : (n : ℕ) (run : Run) (p : ℕ) (f : Field) → ArePlaces n (places_of (told run)) → Agrees run p → DiffersAt run p f → ⊥
agrees-not n run p f places a d = by-difference (difference run p f d) where
  by-difference : Difference run p f → ⊥
  by-difference (Out is out) = out a.entry a.in_order
  by-difference (Otherwise o) = otherwise-not n run p f places a o
  by-difference (Unlawful is u) = unlawful-not n run p places a.entry a.in_order a.lawful u

same-field : (n : ℕ) (run : Run) (p : ℕ) (f g : Field) → ArePlaces n (places_of (told run)) → DiffersAt run p f → DiffersAt run p g → f ≡ g
same-field n run p f g places d e = by-both (difference run p f d) (difference run p g e) where
  by-both : Difference run p f → Difference run p g → f ≡ g
  by-both (Out is out) (Out is2 out2) = is ∙ sym is2
  by-both (Out is out) (Otherwise o) = absurd (out o.entry o.in_order)
  by-both (Out is out) (Unlawful is2 u) = absurd (out u.entry u.in_order)
  by-both (Otherwise o) (Out is2 out2) = absurd (out2 o.entry o.in_order)
  by-both (Otherwise o) (Otherwise o2) =
      let same = same-entry n run p o2.entry o.entry places o2.in_order o.in_order in
      differs-same o.entry.entry (made_at run p o.entry) f g o.differs
      (subst (λ (x : Placed). Differs x.entry (made_at run p x) g) same o2.differs)
  by-both (Otherwise o) (Unlawful is2 u) = absurd (unlawful-not n run p places o.entry o.in_order o.lawful u)
  by-both (Unlawful is u) (Out is2 out2) = absurd (out2 u.entry u.in_order)
  by-both (Unlawful is u) (Otherwise o2) = absurd (unlawful-not n run p places o2.entry o2.in_order o2.lawful u)
  by-both (Unlawful is u) (Unlawful is2 u2) = is ∙ sym is2

-- ---- the cause of a fault
data Cause (n : ℕ) (run : Run) (p : ℕ) (f : Field) : Type 0 where
  Misplaced : f ≡ field.Place → IsLowest (IsBadPlace n (places_of (told run))) p → Cause n run p f
  Differing : AgreesBelow n run p → p < n → DiffersAt run p f → Cause n run p f
  Early : AgreesBelow n run p → p ≡ n → f ≡ field.Order → (AreDone run → ⊥) → Cause n run p f

cause : (n : ℕ) (run : Run) (p : ℕ) (f : Field) → IsFault n run p f → Cause n run p f
cause n run p field.Place h = Misplaced refl h
cause n run p field.Order h = by-cause h.1 where
  by-cause : ((p < n) × DiffersAt run p field.Order) ⊎ ((p ≡ n) × (AreDone run → ⊥)) → Cause n run p field.Order
  by-cause (inl d) = Differing h.0 d.0 d.1
  by-cause (inr e) = Early h.0 e.0 refl e.1
cause n run p field.Answer h = Differing h.0 h.1 h.2
cause n run p field.Completion h = Differing h.0 h.1 h.2
cause n run p field.Bytes h = Differing h.0 h.1 h.2
cause n run p field.Errno h = Differing h.0 h.1 h.2
cause n run p field.Drain h = Differing h.0 h.1 h.2

pub no-fault : (n : ℕ) (run : Run) (p : ℕ) (f : Field) → IsRight n run → IsFault n run p f → ⊥
no-fault n run p f right fault = by-cause (cause n run p f fault) where
  by-cause : Cause n run p f → ⊥
  by-cause (Misplaced is low) = low.here (right.agrees.places p)
  by-cause (Differing below lt d) = agrees-not n run p f right.agrees.places (right.agrees.below p lt) d
  by-cause (Early below is o early) = early right.done

-- the one of two numbers that is not below the other
lowest-same : (P : ℕ → Type 0) (p q : ℕ) → IsLowest P p → IsLowest P q → p ≡ q
lowest-same P p q a b = by-tests (ltb p q) (ltb q p) refl refl where
  by-tests : (x y : Bool) → ltb p q ≡ x → ltb q p ≡ y → p ≡ q
  by-tests true y lt h = absurd (b.none_below p (ltb-true p q lt) a.here)
  by-tests false true g lt = absurd (a.none_below q (ltb-true q p lt) b.here)
  by-tests false false g h = omega (arith, ltb-false p q g, ltb-false q p h)

record Both (p q : ℕ) (f g : Field) : Type 0 where
  pub places : p ≡ q
  pub fields : f ≡ g

-- two faults behind right places
differing : (n : ℕ) (run : Run) (p q : ℕ) (f g : Field) → AgreesBelow n run p → p < n → DiffersAt run p f
    → AgreesBelow n run q → q < n → DiffersAt run q g → Both p q f g
differing n run p q f g a lp d b lq e = by-tests (ltb p q) (ltb q p) refl refl where
  by-tests : (x y : Bool) → ltb p q ≡ x → ltb q p ≡ y → Both p q f g
  by-tests true y lt h = absurd (agrees-not n run p f a.places (b.below p (ltb-true p q lt)) d)
  by-tests false true k lt = absurd (agrees-not n run q g a.places (a.below q (ltb-true q p lt)) e)
  by-tests false false k h =
      let same : p ≡ q = omega (arith, ltb-false p q k, ltb-false q p h) in
      record {
        places = same;
        fields = same-field n run q f g a.places (subst (λ (m : ℕ). DiffersAt run m f) same d) e;
      }

both : (n : ℕ) (run : Run) (p q : ℕ) (f g : Field) → Cause n run p f → Cause n run q g → Both p q f g
both n run p q f g (Misplaced is low) (Misplaced is2 low2) = record { places = lowest-same _ p q low low2; fields = is ∙ sym is2 }
both n run p q f g (Misplaced is low) (Differing below lt d) = absurd (low.here (below.places p))
both n run p q f g (Misplaced is low) (Early below e o early) = absurd (low.here (below.places p))
both n run p q f g (Differing below lt d) (Misplaced is2 low2) = absurd (low2.here (below.places q))
both n run p q f g (Differing below lt d) (Differing below2 lt2 d2) = differing n run p q f g below lt d below2 lt2 d2
both n run p q f g (Differing below lt d) (Early below2 e o early) =
    let low : p < q = omega (arith, lt, e) in absurd (agrees-not n run p f below.places (below2.below p low) d)
both n run p q f g (Early below e o early) (Misplaced is2 low2) = absurd (low2.here (below.places q))
both n run p q f g (Early below e o early) (Differing below2 lt2 d2) =
    let low : q < p = omega (arith, lt2, e) in absurd (agrees-not n run q g below.places (below.below q low) d2)
both n run p q f g (Early below e o early) (Early below2 e2 o2 early2) = record { places = e ∙ sym e2; fields = o ∙ sym o2 }

pub one-fault : (n : ℕ) (run : Run) (p q : ℕ) (f g : Field) → IsFault n run p f → IsFault n run q g → (p ≡ q) × (f ≡ g)
one-fault n run p q f g a b =
    let r = both n run p q f g (cause n run p f a) (cause n run q g b) in (r.places, r.fields)
