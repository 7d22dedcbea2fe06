-- The small target as a meaning in which a drain ends once no command is held on its disk, the one
-- with number 0.
use Rattle.std.specs.Prelude.{◌≡◌, ◌≢◌, ℕ, ◌+◌, ◌==◌, ◌&&◌, Bool, true, false, cond, List, Some, is_some, refl}
use Rattle.std.proofs.Common.{ap, ◌∙◌, eq-eqb, ne_eqb}
use Rattle.ref_state.specs.declared.kinds.Tag.{Tag}
use Rattle.ref_state.specs.State.{total}
use Rattle.ref_state.specs.Steps.{first}
use Rattle.table_rule.specs.declared.rule.Plan.{Plan}
use Rattle.table_rule.specs.Meant.{Meaning, of_pair, is_named, on}
use Rattle.small_target.specs.declared.Small.{Small}
use Rattle.small_target.specs.Small.{small_held, small_next, small_words, small_touches, small_stands, small_start}
use Rattle.small_target.proofs.SmallLaws as laws

-- the command of an Execute is held
abbrev pub taken : Small → Tag → Bool
taken t tag = is_some (first (λ (y : Tag × ℕ). is_named tag y.0) t.waiting)

-- a drain is open, and no command is held on its disk
abbrev pub ended : Small → Bool
ended t = (t.draining == 1) && (total (of_pair (on 0)) t.waiting == 0)

abbrev pub ending_lawful : Small → Tag → Bool
ending_lawful t tag = cond (tag.kind == 2) (taken t tag) (cond (tag.kind == 7) (ended t) true)

-- ## The laws that speak of what is lawful

pub removes_held : (t : Small) (tag : Tag) (x : Tag × ℕ) → tag.kind ≡ 2 → first (λ (y : Tag × ℕ). is_named tag y.0) t.waiting ≡ Some x
    → (ending_lawful t tag ≡ true) × ((f : Tag → ℕ → ℕ) → total (of_pair f) (small_next t tag).waiting + of_pair f x ≡ total (of_pair f) t.waiting)
    × ((n : ℕ) (y : ℕ) → small_touches x.0 x.1 n ≡ false → small_stands y n t → small_stands y n (small_next t tag))
removes_held t tag x two e = let r = laws.removes t tag x two e in (
  ap (λ b. cond b (taken t tag) (cond (tag.kind == 7) (ended t) true)) (eq-eqb tag.kind 2 two) ∙ ap is_some e,
  r.1,
  r.2,
)

pub always_lawful : (t : Small) (tag : Tag) → tag.kind ≢ 2 → tag.kind ≢ 7 → ending_lawful t tag ≡ true
always_lawful t tag two seven = ap (λ b. cond b (taken t tag) (cond (tag.kind == 7) (ended t) true)) (ne_eqb tag.kind 2 two)
    ∙ ap (λ b. cond b (ended t) true) (ne_eqb tag.kind 7 seven)

abbrev pub ending_means : Meaning Small ℕ (ℕ × ℕ) ℕ ℕ
ending_means = record {
  start = small_start;
  lawful = ending_lawful;
  next = small_next;
  reply = λ t tag. t.shown;
  held = small_held;
  words = small_words;
  fixed = λ t. t.shown;
  desk = λ t. (t.shown, t.draining);
  commands = λ t. t.waiting;
  touches = small_touches;
  stands = small_stands;
  free = refl;
  held_is = laws.held_is;
  adds = laws.adds;
  leaves = laws.leaves;
  removes = removes_held;
  executes = laws.executes;
  always = always_lawful;
  stays = laws.stays;
}

-- a table of one disk, with one word a side
abbrev pub small_plan : List ℕ → Plan
small_plan quotas = record { quotas = quotas; disks = 1; slots = 8; rows = 1 }
