-- What each line of a plan keeps of its disks and its queues.
use Rattle.std.proofs.Common.{◌≡◌, ◌≤◌, ◌⊎◌, ℕ, ◌^◌, ◌*◌, Bool, true, false, not, ◌&&◌, ◌||◌, ◌==◌, nat_le, nat_lt, List, [], ◌∷◌, ◌++◌, length, map, refl, sym, ap, subst, ◌∙◌, inl, inr, arith}
use Rattle.std.specs.List.{AllByRecursion, list_any}
use Rattle.std.specs.Str.{bytes_eq}
use Rattle.std.proofs.lemmas.Bool.{leb-true, le-leb, eqb-true, both_ways}
use Rattle.std.proofs.lemmas.List.Elements.{All-from_recursion}
use Rattle.mem_bdev.specs.declared.disk.DiskLine.{DiskLine}
use Rattle.plan_files.specs.declared.items.Item.{Item}
use Rattle.plan_files.specs.declared.items.Item.TheVariants.{Simple, Disk, Config, Script, Journal, Queue}
use Rattle.plan_files.specs.declared.items.Plan.{Plan}
use Rattle.plan_files.specs.declared.plan.TheConstants.{MAX_DISKS, MAX_QUEUES}
use Rattle.plan_files.specs.Spelling.{is_name, fits, fits_disk}
use Rattle.plan_files.specs.Plans.{IsAllowed, Makes, no_plan, with_item, is_new, is_complete}
use Rattle.configfs_rows.specs.Holders.{are_apart}
use Rattle.configfs_tree.specs.Start.{line_path}
use Rattle.configfs_tree.proofs.Decided.{left_false, right_false, both}
use Rattle.tree_target.specs.PlanDisks.{IsPlanDisk, PlansFitTargets}
use Rattle.tree_target.proofs.HeldList.{both_true}

not_true : (b : Bool) → not b ≡ true → b ≡ false
not_true true e = sym e
not_true false e = refl

-- ---- paths that differ
any_more : (x : List ℕ) (disks : List DiskLine) (d : DiskLine)
    → list_any (bytes_eq x) (map line_path disks) ≡ false → bytes_eq x d.path ≡ false
    → list_any (bytes_eq x) (map line_path (disks ++ d ∷ [])) ≡ false
any_more x [] d none differs = ap (λ (b : Bool). b || false) differs
any_more x (y ∷ disks) d none differs =
    ap (λ (b : Bool). b || list_any (bytes_eq x) (map line_path (disks ++ d ∷ [])))
    (left_false (bytes_eq x y.path) (list_any (bytes_eq x) (map line_path disks)) none)
    ∙ any_more x disks d
    (right_false (bytes_eq x y.path) (list_any (bytes_eq x) (map line_path disks)) none) differs

apart_more : (disks : List DiskLine) (d : DiskLine) → are_apart (map line_path disks) ≡ true
    → list_any (λ (e : DiskLine). bytes_eq e.path d.path) disks ≡ false
    → are_apart (map line_path (disks ++ d ∷ [])) ≡ true
apart_more [] d apart new = refl
apart_more (e ∷ disks) d apart new =
    let parts = both_true (not (list_any (bytes_eq e.path) (map line_path disks)))
    (are_apart (map line_path disks)) apart in
    let rest = list_any (λ (x : DiskLine). bytes_eq x.path d.path) disks in
    ap (λ (b : Bool). not b && are_apart (map line_path (disks ++ d ∷ [])))
    (any_more e.path disks d (not_true _ parts.0) (left_false (bytes_eq e.path d.path) rest new))
    ∙ apart_more disks d parts.1 (right_false (bytes_eq e.path d.path) rest new)

-- ---- one disk
shift_is : (shift : ℕ) (a b : Bool) → (shift == 9) ≡ a → (shift == 12) ≡ b → (a || b) ≡ true
    → (shift ≡ 9) ⊎ (shift ≡ 12)
shift_is shift true b e f h = inl (eqb-true shift 9 e)
shift_is shift false true e f h = inr (eqb-true shift 12 f)
shift_is shift false false e f h = absurd (both_ways false refl h)

plan_disk : (d : DiskLine) → fits_disk d ≡ true → d.blocks * 2 ^ d.shift ≤ 16777216 → IsPlanDisk d
unfolding fits_disk
plan_disk d fit small =
    let p = both_true (is_name d.path && (d.shift == 9 || d.shift == 12) && nat_le 1 d.blocks)
    (nat_lt d.blocks (2 ^ 52)) fit in
    let q = both_true (is_name d.path && (d.shift == 9 || d.shift == 12)) (nat_le 1 d.blocks) p.0 in
    let r = both_true (is_name d.path) (d.shift == 9 || d.shift == 12) q.0 in
    record {
      shape = record {
        known = shift_is d.shift (d.shift == 9) (d.shift == 12) refl refl r.1;
        some = leb-true 1 d.blocks q.1;
        small = small;
      };
      path = r.0;
    }

all_more : (disks : List DiskLine) (d : DiskLine) → AllByRecursion IsPlanDisk disks → IsPlanDisk d
    → AllByRecursion IsPlanDisk (disks ++ d ∷ [])
all_more [] d each one = (one, tt)
all_more (e ∷ disks) d each one = (each.0, all_more disks d each.1 one)

-- ---- line after line
record Stands (p : Plan) : Type 0 where
  few : length p.disks ≤ MAX_DISKS
  apart : are_apart (map line_path p.disks) ≡ true
  each : AllByRecursion IsPlanDisk p.disks
  few_queues : length p.queues ≤ MAX_QUEUES

added : (p : Plan) (item : Item) → Stands p → fits item ≡ true → IsAllowed p item
    → Stands (with_item p item)
unfolding is_new
added p (Disk d) s fit allowed = record {
  few = allowed.disks;
  apart = apart_more p.disks d s.apart (not_true _ allowed.new);
  each = all_more p.disks d s.each (plan_disk d fit allowed.bytes);
  few_queues = allowed.queues;
}
added p Simple s fit allowed = record {
  few = s.few;
  apart = s.apart;
  each = s.each;
  few_queues = s.few_queues;
}
added p (Config name) s fit allowed = record {
  few = s.few;
  apart = s.apart;
  each = s.each;
  few_queues = s.few_queues;
}
added p (Script name) s fit allowed = record {
  few = s.few;
  apart = s.apart;
  each = s.each;
  few_queues = s.few_queues;
}
added p (Journal name) s fit allowed = record {
  few = s.few;
  apart = s.apart;
  each = s.each;
  few_queues = s.few_queues;
}
added p (Queue q) s fit allowed = record {
  few = s.few;
  apart = s.apart;
  each = s.each;
  few_queues = allowed.queues;
}

stands_after : (lines : List (List ℕ)) (p plan : Plan) → Stands p → Makes lines p plan
    → Stands plan
stands_after [] p plan s made = subst (λ (q : Plan). Stands q) (sym made) s
stands_after (line ∷ lines) p plan s made =
    elim made [
      | inl over ↦ stands_after lines p plan s over.1
      | inr said ↦ stands_after lines (with_item p said.1) plan (added p said.1 s said.3 said.4)
          said.5
    ]

-- ---- a whole plan
complete_parts : (p : Plan) → is_complete p ≡ true → p.simple ≡ true
    → ((length p.disks == 1) && (length p.queues == 1)) ≡ true
unfolding is_complete
complete_parts p whole simple = rw simple at whole

pub plans_fit : PlansFitTargets
plans_fit bytes plan is =
    let s = stands_after is.lines no_plan plan
    (record { few = omega arith; apart = refl; each = tt; few_queues = omega arith })
    is.rest.0 in
    record {
      disks = both (nat_le (length plan.disks) MAX_DISKS) (are_apart (map line_path plan.disks))
          (le-leb (length plan.disks) MAX_DISKS s.few) s.apart;
      each = All-from_recursion IsPlanDisk plan.disks s.each;
      few_queues = s.few_queues;
      one_disk = λ simple. eqb-true _ _
          (both_true (length plan.disks == 1) (length plan.queues == 1)
          (complete_parts plan is.rest.1 simple)).0;
      one_queue = λ simple. eqb-true _ _
          (both_true (length plan.disks == 1) (length plan.queues == 1)
          (complete_parts plan is.rest.1 simple)).1;
    }
