-- What there are words for, as tests and as facts.
use Rattle.std.proofs.Common.{◌≡◌, ◌≤◌, ◌<◌, ◌⊎◌, ℕ, ◌&&◌, Bool, true, false, if◌then◌else◌, nat_lt, nat_le, refl, sym, subst, inl, inr, arith}
use Rattle.std.proofs.lemmas.Bool.{cases_lt}
use Rattle.ns_table.specs.Positions.{IsNsid, IsGroup, IsController}
use Rattle.ns_table.specs.Looked.{is_nsid, is_group, is_controller}

pub lt-true : (a b : ℕ) → a < b → nat_lt a b ≡ true
lt-true a b h = grind arith

lt-false : (a b : ℕ) → b ≤ a → nat_lt a b ≡ false
lt-false a b h = grind arith

pub le-true : (a b : ℕ) → a ≤ b → nat_le a b ≡ true
le-true a b h = grind arith

pub five : (a b c d e : Bool) → a ≡ true → b ≡ true → c ≡ true → d ≡ true → e ≡ true → (a && (b && (c && (d && e)))) ≡ true
five a b c d e p q r s t = rw (p, q, r, s, t) refl

and-false : (b : Bool) → (b && false) ≡ false
and-false true = refl
and-false false = refl

three : (a b c : Bool) → a ≡ true → b ≡ true → c ≡ true → (a && (b && c)) ≡ true
three a b c p q r = rw (p, q, r) refl

no-first : (a b c : Bool) → a ≡ false → (a && (b && c)) ≡ false
no-first a b c p = rw p refl

no-second : (a b c : Bool) → b ≡ false → (a && (b && c)) ≡ false
no-second a b c p = rw p (and-false a)

no-third : (a b c : Bool) → c ≡ false → (a && (b && c)) ≡ false
no-third a b c p = rw (p, and-false b) (and-false a)

pub nsid-cases : (s n : ℕ) → ((is_nsid s n ≡ true) × IsNsid s n) ⊎ ((is_nsid s n ≡ false) × (IsNsid s n → ⊥))
nsid-cases s n =
    elim (cases_lt s 16) [
      | inr a ↦ inr (no-first (nat_lt s 16) (nat_lt 0 n) (nat_lt n 2049) (lt-false s 16 a), λ h. omega arith)
      | inl a ↦ elim (cases_lt 0 n) [
        | inr b ↦ inr (no-second (nat_lt s 16) (nat_lt 0 n) (nat_lt n 2049) (lt-false 0 n b), λ h. omega arith)
        | inl b ↦ elim (cases_lt n 2049) [
          | inr e ↦ inr (no-third (nat_lt s 16) (nat_lt 0 n) (nat_lt n 2049) (lt-false n 2049 e), λ h. omega arith)
          | inl e ↦ inl (three (nat_lt s 16) (nat_lt 0 n) (nat_lt n 2049) (lt-true s 16 a) (lt-true 0 n b) (lt-true n 2049 e), (a, omega arith, omega arith))
        ]
      ]
    ]

pub group-cases : (p g : ℕ) → ((is_group p g ≡ true) × IsGroup p g) ⊎ ((is_group p g ≡ false) × (IsGroup p g → ⊥))
group-cases p g =
    elim (cases_lt p 8) [
      | inr a ↦ inr (no-first (nat_lt p 8) (nat_lt 0 g) (nat_lt g 129) (lt-false p 8 a), λ h. omega arith)
      | inl a ↦ elim (cases_lt 0 g) [
        | inr b ↦ inr (no-second (nat_lt p 8) (nat_lt 0 g) (nat_lt g 129) (lt-false 0 g b), λ h. omega arith)
        | inl b ↦ elim (cases_lt g 129) [
          | inr e ↦ inr (no-third (nat_lt p 8) (nat_lt 0 g) (nat_lt g 129) (lt-false g 129 e), λ h. omega arith)
          | inl e ↦ inl (three (nat_lt p 8) (nat_lt 0 g) (nat_lt g 129) (lt-true p 8 a) (lt-true 0 g b) (lt-true g 129 e), (a, omega arith, omega arith))
        ]
      ]
    ]

pub controller-cases : (c : ℕ) → ((is_controller c ≡ true) × IsController c) ⊎ ((is_controller c ≡ false) × (IsController c → ⊥))
controller-cases c =
    elim (cases_lt 0 c) [
      | inr a ↦ inr (rw (lt-false 0 c a) refl, λ h. omega arith)
      | inl a ↦ elim (cases_lt c 32) [
        | inr b ↦ inr (rw (lt-false c 32 b) (and-false (nat_lt 0 c)), λ h. omega arith)
        | inl b ↦ inl (rw (lt-true 0 c a, lt-true c 32 b) refl, (omega arith, omega arith))
      ]
    ]

pub lt-cases : (a b : ℕ) → ((nat_lt a b ≡ true) × (a < b)) ⊎ ((nat_lt a b ≡ false) × (b ≤ a))
lt-cases a b = elim (cases_lt a b) [ inl h ↦ inl (lt-true a b h, h) | inr h ↦ inr (lt-false a b h, h) ]

-- the two branches of a test
pub if-true : {X : Type 0} (t : Bool) (a b c : X) → t ≡ true → a ≡ c → (if t then a else b) ≡ c
if-true {X = X} t a b c is same = subst (λ (u : Bool). (if u then a else b) ≡ c) (sym is) same

pub if-false : {X : Type 0} (t : Bool) (a b c : X) → t ≡ false → b ≡ c → (if t then a else b) ≡ c
if-false {X = X} t a b c is same = subst (λ (u : Bool). (if u then a else b) ≡ c) (sym is) same
