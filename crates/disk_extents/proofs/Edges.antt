-- Where the extents of a disk begin and end.
use Rattle.std.proofs.Common.{◌≡◌, ◌≤◌, ◌<◌, ◌⊎◌, ℕ, zero, suc, ◌+◌, ◌-◌, ◌*◌, ◌/◌, min, List, ◌++◌, length, take, drop, refl, sym, subst, ◌∙◌, inl, inr, arith, ◌↔◌, Bool, true, false, nat_lt, add-zero, if◌then◌else◌}
use Rattle.std.proofs.Math.Nat.{le-div_iff_mul-le, div-mul-le_self, mul-div_cancel}
use Rattle.std.proofs.lemmas.Bool.{cases_lt}
use Rattle.std.proofs.Math.Seq.{take-length}
use Rattle.std.proofs.lemmas.List.{drop-drop, take-take, drop-take, take-append-drop}
use Rattle.std.specs.List.{flat_map, range_with_len}
use Rattle.io_commands.specs.declared.jobs.Job.{Job}
use Rattle.io_commands.specs.Jobs.{end_of}
use Rattle.disk_extents.specs.Together.{TouchedAreThose, Touches, start_of}
use Rattle.disk_extents.specs.Extents.{eighth, edge, extent_number, EdgesAreByNumber, ExtentsAreTheDisk}

pub some-eighth : (n : ℕ) → 1 ≤ eighth n
some-eighth n = omega arith

pub edge-inner : (n e : ℕ) → e < 8 → edge n e ≡ min (e * eighth n) n
edge-inner n e lt = grind arith

pub edge-end : (n e : ℕ) → 8 ≤ e → edge n e ≡ n
edge-end n e le = grind arith

pub edge-small : (n e : ℕ) → edge n e ≤ n
edge-small n e = grind arith

-- the edges rise
pub edge-rises : (n e : ℕ) → edge n e ≤ edge n (e + 1)
edge-rises n e = grind arith

pub edge-first : (n : ℕ) → edge n 0 ≡ 0
edge-first n = let none : 0 * eighth n ≡ 0 = grind arith in rw none (omega arith)

-- a block's eighth is at least e exactly where it isn't below e eighths
pub reaches : (n i e : ℕ) → e ≤ i / eighth n → e * eighth n ≤ i
reaches n i e h = let iff = le-div_iff_mul-le {k = eighth n} {x = e} {y = i} (omega (arith, some-eighth n)) in iff.0 h

pub reached : (n i e : ℕ) → e * eighth n ≤ i → e ≤ i / eighth n
reached n i e h = let iff = le-div_iff_mul-le {k = eighth n} {x = e} {y = i} (omega (arith, some-eighth n)) in iff.1 h

-- the last extent ends where the disk does
ends : (n e : ℕ) → e < 8 → ((e ≡ 7) × (edge n (e + 1) ≡ n)) ⊎ ((e + 1 < 8) × (edge n (e + 1) ≡ min ((e + 1) * eighth n) n))
ends n e small =
    elim (cases_lt (e + 1) 8) [ inr is ↦ inl (omega arith, edge-end n (e + 1) is) | inl more ↦ inr (more, edge-inner n (e + 1) more) ]

above : (n i e : ℕ) → (((e + 1) * eighth n ≤ i) × (e + 1 ≤ i / eighth n)) ⊎ ((i < (e + 1) * eighth n) × (i / eighth n ≤ e))
above n i e =
    elim (cases_lt i ((e + 1) * eighth n)) [
      | inr h ↦ inl (h, reached n i (e + 1) h)
      | inl h ↦ inr (h, elim (cases_lt e (i / eighth n)) [ inl g ↦ absurd (omega (arith, reaches n i (e + 1) (omega arith))) | inr g ↦ g ])
    ]

below : (n i e : ℕ) → ((e * eighth n ≤ i) × (e ≤ i / eighth n)) ⊎ ((i < e * eighth n) × (i / eighth n < e))
below n i e =
    elim (cases_lt i (e * eighth n)) [
      | inr h ↦ inl (h, reached n i e h)
      | inl h ↦ inr (h, elim (cases_lt (i / eighth n) e) [ inr g ↦ absurd (omega (arith, reaches n i e g)) | inl g ↦ g ])
    ]

pub within : (n i e : ℕ) → i < n → e < 8 → extent_number n i ≡ e → (edge n e ≤ i) × (i < edge n (e + 1))
within n i e lt small is =
    let low : edge n e ≡ min (e * eighth n) n = edge-inner n e small in (
      elim (below n i e) [ inl at ↦ omega arith | inr at ↦ omega arith ],
      elim (ends n e small) [ inl last ↦ omega arith | inr more ↦ elim (above n i e) [ inl at ↦ omega arith | inr at ↦ omega arith ] ],
    )

pub numbered : (n i e : ℕ) → i < n → e < 8 → (edge n e ≤ i) × (i < edge n (e + 1)) → extent_number n i ≡ e
numbered n i e lt small at =
    let low : edge n e ≡ min (e * eighth n) n = edge-inner n e small in
    elim (below n i e) [
      | inl from ↦ elim (ends n e small) [ inl last ↦ omega arith | inr more ↦ elim (above n i e) [ inl till ↦ omega arith | inr till ↦ omega arith ] ]
      | inr from ↦ omega arith
    ]

-- a later block has no lower number
pub numbers-rise : (n i j : ℕ) → i ≤ j → extent_number n i ≤ extent_number n j
numbers-rise n i j le = omega (arith, reached n j (i / eighth n) (omega (arith, div-mul-le_self i (eighth n))))

pub edges_by_number : EdgesAreByNumber
edges_by_number n i e lt small = (within n i e lt small, numbered n i e lt small)

-- what the test says
pub by_test : (a b : ℕ) → ((nat_lt a b ≡ true) × (a < b)) ⊎ ((nat_lt a b ≡ false) × (b ≤ a))
by_test a b = elim (cases_lt a b) [ inl h ↦ inl (grind arith, h) | inr h ↦ inr (grind arith, h) ]

-- neighbouring pieces joined
pub joined : {X : Type 0} (a b : ℕ) (xs : List X) → take a xs ++ take b (drop a xs) ≡ take (a + b) xs
joined a b xs =
    let front : take a (take (a + b) xs) ≡ take a xs = take-take a (a + b) xs (omega arith) in
    let back : drop a (take (a + b) xs) ≡ take b (drop a xs) = drop-take a b xs in
    rw (← front, ← back) (take-append-drop a (take (a + b) xs))

-- pieces between places that rise, one after the other
pub telescope : {X : Type 0} (c : ℕ → ℕ) → ((e : ℕ) → c e ≤ c (e + 1)) → (xs : List X) (a k : ℕ)
    → (c a ≤ c (a + k)) × (flat_map (λ e. take (c (e + 1) - c e) (drop (c e) xs)) (range_with_len a k) ≡ take (c (a + k) - c a) (drop (c a) xs))
telescope c rises xs a zero =
    let none : c (a + 0) - c a ≡ 0 = rw add-zero (omega arith) in
    (rw add-zero (omega arith), rw none refl)
telescope c rises xs a (suc k) =
    let rest = telescope c rises xs (a + 1) k in
    let same : a + 1 + k ≡ a + suc k = omega arith in
    let up = rises a in
    let first : c (a + 1) ≤ c (a + suc k) = rw same at rest.0 in
    let tail = rw same at rest.1 in
    let there : c a + (c (a + 1) - c a) ≡ c (a + 1) = omega arith in
    let moved : drop (c (a + 1) - c a) (drop (c a) xs) ≡ drop (c (a + 1)) xs = drop-drop (c (a + 1) - c a) (c a) xs ∙ rw there refl in
    let sum : c (a + 1) - c a + (c (a + suc k) - c (a + 1)) ≡ c (a + suc k) - c a = omega arith in
    (omega arith, rw tail (rw (← moved) (joined (c (a + 1) - c a) (c (a + suc k) - c (a + 1)) (drop (c a) xs) ∙ rw sum refl)))

pub extents_together : ExtentsAreTheDisk
extents_together d =
    let n = length d.blocks in
    let all = telescope (edge n) (edge-rises n) d.blocks 0 8 in
    let none : length d.blocks - 0 ≡ length d.blocks = omega arith in
    all.1 ∙ rw (edge-first n, none) (take-length d.blocks)

touch : (n e : ℕ) (job : Job) → (start_of job < end_of job) → Touches n job e ↔ ((extent_number n (start_of job) ≤ e) × (e < extent_number n (end_of job - 1) + 1))
touch n e job some = (
  λ t. (omega (arith, numbers-rise n (start_of job) t.0 t.1), omega (arith, numbers-rise n t.0 (end_of job - 1) (omega arith))),
  λ r.
      let k = eighth n in
      let few : e ≤ 7 = omega arith in
      let late : e * k ≤ end_of job - 1 = reaches n (end_of job - 1) e (omega arith) in
      elim (cases_lt (e * k) (start_of job)) [
        | inl early ↦ (start_of job, omega arith, some, omega (arith, reached n (start_of job) e (omega arith)))
        | inr here ↦ (e * k, here, omega arith, let is : e * k / k ≡ e = mul-div_cancel e (omega (arith, some-eighth n)) in omega arith)
      ],
)

touch-none : (n e : ℕ) (job : Job) → (end_of job ≤ start_of job) → Touches n job e ↔ ((0 ≤ e) × (e < 0))
touch-none n e job none = (λ t. absurd (omega arith), λ r. absurd (omega arith))

pub touched_those : TouchedAreThose
touched_those n e job =
    let P : Bool → Type 0 = λ b. Touches n job e ↔ (((if b then extent_number n (start_of job) else 0) ≤ e) × (e < (if b then extent_number n (end_of job - 1) + 1 else 0))) in
    elim (by_test (start_of job) (end_of job)) [ inl t ↦ subst P (sym t.0) (touch n e job t.1) | inr t ↦ subst P (sym t.0) (touch-none n e job t.1) ]
