-- Plans read line after line, as a loop does.
use Rattle.std.proofs.Common.{◌≡◌, ◌⊎◌, ◌<◌, ◌+◌, ◌^◌, ℕ, Bool, true, false, ◌&&◌, ◌||◌, eqb, ltb, leb, List, [], ◌∷◌, Result, Ok, Err, refl, sym, ◌∙◌, arith, inl, inr}
use Rattle.std.proofs.lemmas.Bool.{eqb-true, ltb-true}
use Rattle.std.proofs.lemmas.List.Sums.{sum_by_push}
use Rattle.mem_bdev.specs.declared.disk.DiskLine.{DiskLine}
use Rattle.plan_files.specs.declared.items.Item.{Item}
use Rattle.plan_files.specs.declared.items.Item.TheVariants.{Simple, Disk, Config, Script, Journal, Queue}
use Rattle.plan_files.specs.declared.items.Plan.{Plan}
use Rattle.plan_files.specs.declared.plan.PlanError.{PlanError}
use Rattle.plan_files.specs.declared.plan.PlanError.TheVariants as errors
use Rattle.plan_files.specs.Spelling.{is_name, fits_disk}
use Rattle.plan_files.specs.Plans.{with_item, disk_bytes, total_of, item_bytes, is_complete}
use Rattle.plan_files.specs.PlanReading.{Fails, line_taken, plan_from, next_line}
use Rattle.plan_files.proofs.Wording.{and-parts}

-- the shape of a disk that a line may say
pub record IsShaped (d : DiskLine) : Type 0 where
  pub known : (d.shift ≡ 9) ⊎ (d.shift ≡ 12)
  pub small : d.blocks < 2 ^ 52

or-parts : (a b : Bool) → (a || b) ≡ true → (a ≡ true) ⊎ (b ≡ true)
or-parts true b e = inl refl
or-parts false b e = inr e

pub is_shaped : (d : DiskLine) → fits_disk d ≡ true → IsShaped d
unfolding fits_disk
is_shaped d e =
    let p = and-parts (is_name d.path && (eqb d.shift 9 || eqb d.shift 12) && leb 1 d.blocks)
    (ltb d.blocks (2 ^ 52)) e in
    let q = and-parts (is_name d.path && (eqb d.shift 9 || eqb d.shift 12)) (leb 1 d.blocks) p.0 in
    let r = and-parts (is_name d.path) (eqb d.shift 9 || eqb d.shift 12) q.0 in
    let known : (d.shift ≡ 9) ⊎ (d.shift ≡ 12) =
    elim (or-parts (eqb d.shift 9) (eqb d.shift 12) r.1) [
      | inl s ↦ inl (eqb-true d.shift 9 s)
      | inr s ↦ inr (eqb-true d.shift 12 s)
    ] in
    record { known = known; small = ltb-true _ _ p.1 }

-- the bytes of all disks with one more item
pub total_more : (p : Plan) (item : Item) → total_of (with_item p item).disks ≡ total_of p.disks
    + item_bytes item
total_more p Simple = omega arith
total_more p (Disk d) = sum_by_push disk_bytes p.disks d
total_more p (Config name) = omega arith
total_more p (Script name) = omega arith
total_more p (Journal name) = omega arith
total_more p (Queue q) = omega arith

pub goes_on : (n : ℕ) (p q : Plan) (all after : List (List ℕ)) (line : List ℕ)
    (total : Result Plan PlanError) → all ≡ line ∷ after → line_taken n p line ≡ Ok q
    → plan_from n p all ≡ total → plan_from (next_line n) q after ≡ total
unfolding plan_from
goes_on n p q all after line total cut taken so_far =
    let one : plan_from n p all ≡ plan_from (next_line n) q after = rw (cut, taken) refl in
    sym one ∙ so_far

pub ends : (e : PlanError) (n : ℕ) (p : Plan) (all after : List (List ℕ)) (line : List ℕ)
    (total : Result Plan PlanError) → all ≡ line ∷ after → Fails e (line_taken n p line)
    → plan_from n p all ≡ total → Fails e total
unfolding plan_from
ends errors.Memory n p all after line total cut failed so_far = tt
ends (errors.BadLine l) n p all after line total cut failed so_far =
    let one : plan_from n p all ≡ Err (errors.BadLine l) = rw (cut, failed) refl in
    sym so_far ∙ one
ends (errors.TooLong w m) n p all after line total cut failed so_far =
    let one : plan_from n p all ≡ Err (errors.TooLong w m) = rw (cut, failed) refl in
    sym so_far ∙ one

pub is_done : (n : ℕ) (p : Plan) (all : List (List ℕ)) (total : Result Plan PlanError) → all ≡ []
    → is_complete p ≡ true → plan_from n p all ≡ total → total ≡ Ok p
unfolding plan_from
is_done n p all total none complete so_far =
    let one : plan_from n p all ≡ Ok p = rw (none, complete) refl in
    sym so_far ∙ one

pub is_missing : (n : ℕ) (p : Plan) (all : List (List ℕ)) (total : Result Plan PlanError) → all ≡ []
    → is_complete p ≡ false → plan_from n p all ≡ total → total ≡ Err (errors.BadLine n)
unfolding plan_from
is_missing n p all total none complete so_far =
    let one : plan_from n p all ≡ Err (errors.BadLine n) = rw (none, complete) refl in
    sym so_far ∙ one
