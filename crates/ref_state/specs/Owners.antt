-- Whose hold, whose Execute and whose part: what soundness and the steps say of each one.
use Rattle.std.specs.Prelude.{◌≡◌, ℕ, ◌<◌, Bool, true, ◌&&◌, ◌==◌, length}
use Rattle.ref_state.specs.declared.kinds.Tag.{Tag}
use Rattle.ref_state.specs.declared.kinds.Take.{Take}
use Rattle.ref_state.specs.declared.kinds.Kind.{Kind}
use Rattle.ref_state.specs.declared.kinds.Kind.TheVariants.{Split}
use Rattle.ref_state.specs.declared.state.Role.TheVariants.{Part}
use Rattle.ref_state.specs.declared.state.View.{View}
use Rattle.ref_state.specs.declared.state.State.{State as Core}
use Rattle.ref_state.specs.State.{kept, entries, executes, got_at, submit_got, view}
use Rattle.ref_state.specs.Steps.{IsAllowed, next_core}
use Rattle.ref_state.specs.Soundness.{Each, Every, IsSound}

-- it is this call
abbrev pub is_call : Tag → Tag → Bool
is_call t u = (u.kind == t.kind) && ((u.caller == t.caller) && (u.number == t.number))

-- these are the caller and the number of the call
abbrev pub is_name : Tag → ℕ → ℕ → Bool
is_name t caller number = (caller == t.caller) && (number == t.number)

-- to each hold there is one entry at its place, with its call, whose section got it
abbrev pub HoldsHaveEntries : Type 0
HoldsHaveEntries = (c : Core) → IsSound c
    → Each c.views (λ _ v. Every (λ h. entries (got_at h.place (is_call h.call)) c.views
    ≡ 1) v.holds)

-- to each Execute there is one submit at the place that it names, with the Execute's caller and
-- number, whose section got a hold
abbrev pub ExecutesHaveSubmits : Type 0
ExecutesHaveSubmits = (c : Core) → IsSound c
    → Each c.views (λ _ v. Every (λ e. (k : ℕ) → executes e.by k ≡ true
    → entries (submit_got k (is_name e.call)) c.views ≡ 1) (kept v))

-- a part has the number of the seat that it was split from, and has seen what that seat has
abbrev pub PartOfItsSeat : Type 0
PartOfItsSeat = (c : Core) (j : ℕ) (t : Take) → IsSound c → IsAllowed c j (Split t)
    → let u : View = view (next_core c j (Split t)).views (length c.views) in (u.role ≡ Part)
    × (u.number ≡ j) × (u.seen ≡ (view c.views j).seen)

-- no step changes a number
abbrev pub NumbersStay : Type 0
NumbersStay = (c : Core) (j : ℕ) (k : Kind) (i : ℕ) → i < length c.views
    → (view (next_core c j k).views i).number ≡ (view c.views i).number
