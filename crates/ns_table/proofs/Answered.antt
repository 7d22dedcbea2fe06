-- The look of a configuration's words is the look of the configuration.
use Rattle.std.proofs.Common.{◌≡◌, ◌≤◌, ◌<◌, ℕ, zero, suc, ◌+◌, ◌^◌, ◌==◌, not, max, Bool, true, false, if◌then◌else◌, nat_lt, List, length, get_or, Option, Some, None, is_some, refl, sym, ap, ◌∙◌, inl, inr, arith}
use Rattle.std.proofs.lemmas.Bool.{eqb-true}
use Rattle.std.proofs.lemmas.Option.{slice_get_past}
use Rattle.std.specs.FinMap as maps
use Rattle.sqe_cqe.specs.Ready.{ready_in, is_ready_at}
use Rattle.sqe_cqe.specs.declared.controllers.ControllerRow.{ControllerRow}
use Rattle.sqe_cqe.specs.declared.rows.Ana.{Ana}
use Rattle.sqe_cqe.specs.declared.rows.Ana.TheVariants.{Optimized, NonOptimized, Inaccessible, PersistentLoss, Changing}
use Rattle.sqe_cqe.specs.declared.rows.Seen.TheVariants.{NotConfigured}
use Rattle.configfs_rows.specs.declared.ports.PortRow.{PortRow}
use Rattle.configfs_tree.specs.Links.{subsystem_row, port_row}
use Rattle.configfs_tree.proofs.Positions.{port_positions}
use Rattle.tree_target.specs.Views.{seen_of, space_in, group_in, group_state}
use Rattle.ns_table.specs.Positions.{at, Ready, Changes, SubsystemStamp, PortStamp, State, Space, space_at, IsGroup, IsController}
use Rattle.ns_table.specs.Words.{Shape, bit, state_word, words_of}
use Rattle.ns_table.specs.Looked.{is_nsid, is_group, is_controller, state_in, stamp_in, seen_in, words_answers, shape_answers, FitsTable, LookOfWordsIsTheShapes}
use Rattle.ns_table.proofs.Limits.{nsid-cases, group-cases, controller-cases, lt-cases, if-true, if-false}
use Rattle.ns_table.proofs.Spaces.{seen-again, stamp-again, fine-seen, nothing-outside, found-passes}
use Rattle.ns_table.proofs.Placed.{placed}

-- ---- controllers
bit-again : (b : Bool) → not (bit b == 0) ≡ b
bit-again true = refl
bit-again false = refl

not-ready : (cs : List ControllerRow) (c : ℕ) → length cs ≤ 31 → (IsController c → ⊥) → ready_in cs c ≡ false
not-ready cs zero few out = refl
not-ready cs (suc c) few out =
    elim (lt-cases c 31) [
      | inl h ↦ absurd (out (omega arith, omega arith))
      | inr h ↦ ap is_ready_at (slice_get_past cs c (omega arith))
    ]

ready-is : (x : Shape) (c : ℕ) → FitsTable x → (words_answers (words_of x) 0).ready c ≡ ready_in x.controllers c
ready-is x c fits =
    let word = get_or (words_of x) (at (Ready c)) 0 in
    elim (controller-cases c) [
      | inl t ↦ if-true (is_controller c) (not (word == 0)) false (ready_in x.controllers c) t.0
          (ap (λ (w : ℕ). not (w == 0)) ((placed x).each (Ready c) t.1) ∙ bit-again (ready_in x.controllers c))
      | inr t ↦ if-false (is_controller c) (not (word == 0)) false (ready_in x.controllers c) t.0 (sym (not-ready x.controllers c fits.few_controllers t.1))
    ]

-- ---- namespaces
seen-is : (x : Shape) (s n : ℕ) → FitsTable x → (words_answers (words_of x) 0).ns s n ≡ seen_of x.blocks (space_in n (subsystem_row x.tree s))
seen-is x s n fits =
    let seen = seen_of x.blocks (space_in n (subsystem_row x.tree s)) in
    elim (nsid-cases s n) [
      | inl t ↦ if-true (is_nsid s n) (seen_in (words_of x) (space_at s n)) NotConfigured seen t.0
          (seen-again (words_of x) (space_at s n) (x.stamps.space s n) seen (λ k small. (placed x).each (Space s n k) (t.1, small)) (fine-seen x s n fits))
      | inr t ↦ if-false (is_nsid s n) (seen_in (words_of x) (space_at s n)) NotConfigured seen t.0 (sym (nothing-outside x s n fits t.1))
    ]

-- a serial is what its word tells
serial-again : (word stamp : ℕ) → stamp < 2 ^ 32 → word ≡ stamp → stamp_in word ≡ stamp
serial-again word stamp small is = omega arith

stamp-is : (x : Shape) (s n : ℕ) → FitsTable x → (words_answers (words_of x) 0).ns_stamp s n ≡ (shape_answers x 0).ns_stamp s n
stamp-is x s n fits =
    let seen = seen_of x.blocks (space_in n (subsystem_row x.tree s)) in
    let word = stamp_in (get_or (words_of x) (space_at s n + 10) 0) in
    let stamp = x.stamps.space s n in
    elim (nsid-cases s n) [
      | inl t ↦ if-true (is_nsid s n) word 0 (if is_nsid s n then stamp else 0) t.0
          (serial-again (get_or (words_of x) (space_at s n + 10) 0) stamp (fits.stamps.space s n) ((placed x).each (Space s n 10) (t.1, omega arith) ∙ stamp-again seen stamp) ∙ sym (if-true (is_nsid s n) stamp 0 stamp t.0 refl))
      | inr t ↦ if-false (is_nsid s n) word 0 (if is_nsid s n then stamp else 0) t.0 (sym (if-false (is_nsid s n) stamp 0 0 t.0 refl))
    ]

-- ---- groups
state-again : (o : Option Ana) → state_in (state_word o) ≡ group_state o
state-again None = refl
state-again (Some Optimized) = refl
state-again (Some NonOptimized) = refl
state-again (Some Inaccessible) = refl
state-again (Some PersistentLoss) = refl
state-again (Some Changing) = refl

made-again : (o : Option Ana) → not (state_word o == 0) ≡ is_some o
made-again None = refl
made-again (Some Optimized) = refl
made-again (Some NonOptimized) = refl
made-again (Some Inaccessible) = refl
made-again (Some PersistentLoss) = refl
made-again (Some Changing) = refl

group-there : (x : Shape) (p g : ℕ) (row : PortRow) (state : Ana) → FitsTable x → port_row x.tree p ≡ Some row → maps.get row.groups g ≡ Some state → IsGroup p g
group-there x p g row state fits e f =
    let named = (port_positions x.tree fits.standing.placed).of_position p row e in
    let place : row.at ≡ p = eqb-true row.at p (found-passes (λ (r : PortRow). r.at == p) (maps.values x.tree.settings.ports) row e) in
    let below = fits.standing.placed.ports.below row.id row named in
    let stands = fits.standing.sound.ports row.id row named in
    (omega (arith, below, place), stands.group_low g state f, stands.group_high g state f)

none-on : (x : Shape) (p g : ℕ) (row : PortRow) (m : Option Ana) → FitsTable x → port_row x.tree p ≡ Some row → maps.get row.groups g ≡ m → (IsGroup p g → ⊥) → m ≡ None
none-on x p g row None fits e f out = refl
none-on x p g row (Some state) fits e f out = absurd (out (group-there x p g row state fits e f))

none-at : (x : Shape) (p g : ℕ) (o : Option PortRow) → FitsTable x → port_row x.tree p ≡ o → (IsGroup p g → ⊥) → group_in g o ≡ None
none-at x p g None fits e out = refl
none-at x p g (Some row) fits e out = none-on x p g row (maps.get row.groups g) fits e refl out

ana-is : (x : Shape) (p g : ℕ) → FitsTable x → (words_answers (words_of x) 0).ana p g ≡ group_state (group_in g (port_row x.tree p))
ana-is x p g fits =
    let word = get_or (words_of x) (at (State p g)) 0 in
    let o = group_in g (port_row x.tree p) in
    elim (group-cases p g) [
      | inl t ↦ if-true (is_group p g) (state_in word) Inaccessible (group_state o) t.0 (ap state_in ((placed x).each (State p g) t.1) ∙ state-again o)
      | inr t ↦ if-false (is_group p g) (state_in word) Inaccessible (group_state o) t.0 (sym (ap group_state (none-at x p g (port_row x.tree p) fits refl t.1)))
    ]

made-is : (x : Shape) (p g : ℕ) → FitsTable x → (words_answers (words_of x) 0).group_made p g ≡ is_some (group_in g (port_row x.tree p))
made-is x p g fits =
    let word = get_or (words_of x) (at (State p g)) 0 in
    let o = group_in g (port_row x.tree p) in
    elim (group-cases p g) [
      | inl t ↦ if-true (is_group p g) (not (word == 0)) false (is_some o) t.0 (ap (λ (w : ℕ). not (w == 0)) ((placed x).each (State p g) t.1) ∙ made-again o)
      | inr t ↦ if-false (is_group p g) (not (word == 0)) false (is_some o) t.0 (sym (ap (λ (m : Option Ana). is_some m) (none-at x p g (port_row x.tree p) fits refl t.1)))
    ]

-- ---- stamps of ANA changes
clipped : (word stamp k most : ℕ) → (k < most → word ≡ stamp) → (if nat_lt k most then word else 0) ≡ (if nat_lt k most then stamp else 0)
clipped word stamp k most same =
    elim (lt-cases k most) [
      | inl t ↦ if-true (nat_lt k most) word 0 (if nat_lt k most then stamp else 0) t.0 (same t.1 ∙ sym (if-true (nat_lt k most) stamp 0 stamp t.0 refl))
      | inr t ↦ if-false (nat_lt k most) word 0 (if nat_lt k most then stamp else 0) t.0 (sym (if-false (nat_lt k most) stamp 0 0 t.0 refl))
    ]

ana-stamp-is : (x : Shape) (s p : ℕ) → FitsTable x → (words_answers (words_of x) 0).ana_stamp s p ≡ (shape_answers x 0).ana_stamp s p
ana-stamp-is x s p fits =
    let ws = words_of x in
    let of_sub = stamp_in (get_or ws (at (SubsystemStamp s)) 0) in
    let of_port = stamp_in (get_or ws (at (PortStamp p)) 0) in
    let a = clipped of_sub (x.stamps.subsystem s) s 16 (λ h. serial-again _ (x.stamps.subsystem s) (fits.stamps.subsystem s) ((placed x).each (SubsystemStamp s) h)) in
    let b = clipped of_port (x.stamps.port p) p 8 (λ h. serial-again _ (x.stamps.port p) (fits.stamps.port p) ((placed x).each (PortStamp p) h)) in
    ap (λ (k : ℕ). max k (if nat_lt p 8 then of_port else 0)) a ∙ ap (λ (k : ℕ). max (if nat_lt s 16 then x.stamps.subsystem s else 0) k) b

-- ---- all answers
pub answered : LookOfWordsIsTheShapes
answered x serial fits =
    let changes = (placed x).each Changes tt in
    λ i. record {
      ready = λ c. ready-is x c fits i;
      ns = λ s n. seen-is x s n fits i;
      ana = λ p g. ana-is x p g fits i;
      group_made = λ p g. made-is x p g fits i;
      ns_stamp = λ s n. stamp-is x s n fits i;
      ana_stamp = λ s p. ana-stamp-is x s p fits i;
      ana_count = changes i;
      serial = serial;
      bars = λ c s n o. 0;
      offers = (words_answers (words_of x) serial).offers;
      marks = λ s n. 0;
      group_count = λ p s g. changes i;
    }
