-- Positions of words, and what the word at a position tells.
use Rattle.std.proofs.Common.{◌≡◌, ◌≤◌, ◌<◌, ℕ, ◌+◌, ◌-◌, ◌*◌, ◌/◌, ◌%◌, refl, sym, ap, subst, ◌∙◌, inl, inr, arith}
use Rattle.std.proofs.lemmas.Bool.{cases_lt}
use Rattle.ns_table.specs.Positions.{Place, Shown, Ready, Changes, SubsystemStamp, PortStamp, State, Space, at, IsWithin, place_at, space_place, space_at, IsPlaced, PositionsAreBelow, PositionsAreDistinct, PositionsAreUsed}

pub below : PositionsAreBelow
below (Shown d) h = omega arith
below (Ready c) h = omega arith
below Changes h = omega arith
below (SubsystemStamp s) h = omega arith
below (PortStamp p) h = omega arith
below (State p g) h = omega arith
below (Space s n part) h = omega arith

shown-again : (d : ℕ) → d < 64 → place_at d ≡ Shown d
shown-again d h = grind arith

ready-again : (c : ℕ) → 1 ≤ c → c ≤ 31 → place_at (63 + c) ≡ Ready c
ready-again c low high = grind arith

sub-again : (s : ℕ) → s < 16 → place_at (96 + s) ≡ SubsystemStamp s
sub-again s h = grind arith

port-again : (p : ℕ) → p < 8 → place_at (112 + p) ≡ PortStamp p
port-again p h = grind arith

state-again : (p g : ℕ) → p < 8 → 1 ≤ g → g ≤ 128 → place_at (119 + (128 * p + g)) ≡ State p g
state-again p g h low high = grind arith

space-again : (s n part : ℕ) → s < 16 → 1 ≤ n → n ≤ 2048 → part < 11 → place_at (space_at s n + part) ≡ Space s n part
space-again s n part h low high small = grind arith

pub again : (p : Place) → IsWithin p → place_at (at p) ≡ p
again (Shown d) h = shown-again d h
again (Ready c) h = ready-again c h.0 h.1
again Changes h = refl
again (SubsystemStamp s) h = sub-again s h
again (PortStamp p) h = port-again p h
again (State p g) h = state-again p g h.0 h.1 h.2
again (Space s n part) h = space-again s n part h.0.0 h.0.1 h.0.2 h.1

pub distinct : PositionsAreDistinct
distinct p q hp hq same = sym (again p hp) ∙ ap place_at same ∙ again q hq

-- the place of a position, by the ranges
placed-as : (w : ℕ) (p : Place) → place_at w ≡ p → IsWithin p → at p ≡ w → IsPlaced w
placed-as w p is within there = record { within = subst IsWithin (sym is) within; there = ap at is ∙ there }

in-ready : (w : ℕ) → 64 ≤ w → w < 95 → place_at w ≡ Ready (w - 63)
in-ready w low high = grind arith

in-changes : (w : ℕ) → w ≡ 95 → place_at w ≡ Changes
in-changes w is = rw is refl

in-subsystems : (w : ℕ) → 96 ≤ w → w < 112 → place_at w ≡ SubsystemStamp (w - 96)
in-subsystems w low high = grind arith

in-ports : (w : ℕ) → 112 ≤ w → w < 120 → place_at w ≡ PortStamp (w - 112)
in-ports w low high = grind arith

in-states : (w : ℕ) → 120 ≤ w → w < 1144 → place_at w ≡ State ((w - 120) / 128) ((w - 120) % 128 + 1)
in-states w low high = grind arith

in-spaces : (w : ℕ) → 1144 ≤ w → place_at w ≡ space_place (w - 1144)
in-spaces w low = grind arith

state-there : (w : ℕ) → 120 ≤ w → w < 1144 → IsPlaced w
state-there w low high =
    let k = w - 120 in
    placed-as w (State (k / 128) (k % 128 + 1)) (in-states w low high) (omega arith, omega arith, omega arith) (omega arith)

space-there : (w : ℕ) → 1144 ≤ w → w < 361592 → IsPlaced w
space-there w low high =
    let k = w - 1144 in
    let j = k / 11 in
    placed-as w (space_place k) (in-spaces w low) ((omega arith, omega arith, omega arith), omega arith) (omega arith)

pub used : PositionsAreUsed
used w h =
    elim (cases_lt w 64) [
      | inl a ↦ placed-as w (Shown w) (shown-again w a) a refl
      | inr a ↦ elim (cases_lt w 95) [
        | inl b ↦ placed-as w (Ready (w - 63)) (in-ready w a b) (omega arith, omega arith) (omega arith)
        | inr b ↦ elim (cases_lt w 96) [
          | inl e ↦ let is : w ≡ 95 = omega arith in placed-as w Changes (in-changes w is) tt (sym is)
          | inr e ↦ elim (cases_lt w 112) [
            | inl f ↦ placed-as w (SubsystemStamp (w - 96)) (in-subsystems w e f) (omega arith) (omega arith)
            | inr f ↦ elim (cases_lt w 120) [
              | inl g ↦ placed-as w (PortStamp (w - 112)) (in-ports w f g) (omega arith) (omega arith)
              | inr g ↦ elim (cases_lt w 1144) [ inl j ↦ state-there w g j | inr j ↦ space-there w j h ]
            ]
          ]
        ]
      ]
    ]
