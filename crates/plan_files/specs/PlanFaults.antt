-- The first fault of a plan: where the lines that may stand together end, and why the next one can't be added.
use Rattle.std.specs.Prelude.{◌≡◌, ◌≢◌, ◌≤◌, ◌<◌, ◌⊎◌, ◌^◌, ℕ, ◌+◌, ◌-◌, min, true, false, ◌&&◌, List, ◌∷◌, ◌++◌, length, codes}
use Rattle.plan_files.specs.declared.items.Item.{Item}
use Rattle.plan_files.specs.declared.items.Plan.{Plan}
use Rattle.plan_files.specs.declared.limits.What.{What}
use Rattle.plan_files.specs.declared.limits.What.TheVariants.{Disks, DiskBytes, AllDiskBytes, Queues}
use Rattle.mem_bdev.specs.declared.limits.TheConstants.{MAX_DISK_BYTES}
use Rattle.plan_files.specs.declared.plan.TheConstants.{MAX_DISKS, MAX_ALL_DISK_BYTES, MAX_QUEUES}
use Rattle.plan_files.specs.declared.plan.PlanError.{PlanError}
use Rattle.plan_files.specs.declared.plan.PlanError.TheVariants as errors
use Rattle.text_lines.specs.Lines.{is_passed_over, lines_of}
use Rattle.plan_files.specs.Spelling.{spelling, fits}
use Rattle.plan_files.specs.Plans.{no_plan, with_item, is_new, agrees, is_complete, item_bytes, total_of, Makes}

-- the number of the line that follows the head and so many more lines; it stands still at 2 ^ 32 - 1
abbrev pub number_after : ℕ → ℕ
number_after count = min (2 + count) (2 ^ 32 - 1)

-- A line that may not stand after those of this plan: it isn't passed over, and spells no item that is not one too many,
-- repeats no path or name, and agrees with the others.
pub record IsBad (p : Plan) (line : List ℕ) : Type 0 where
  pub looked_at : is_passed_over line ≡ false
  pub none : (item : Item) → line ≡ spelling item → fits item ≡ true
      → (is_new p item && agrees (with_item p item)) ≡ false

-- the first limit that a plan passes, where its newest disk has so many bytes
abbrev pub PassesFirst : Plan → ℕ → What → ℕ → Type 0
PassesFirst p bytes what count =
    ((what ≡ Disks) × (count ≡ length p.disks) × (MAX_DISKS < count))
    ⊎ (((what ≡ DiskBytes) × (count ≡ bytes) × (MAX_DISK_BYTES < count)
    × (length p.disks ≤ MAX_DISKS))
    ⊎ (((what ≡ AllDiskBytes) × (count ≡ total_of p.disks) × (MAX_ALL_DISK_BYTES < count)
    × (length p.disks ≤ MAX_DISKS) × (bytes ≤ MAX_DISK_BYTES))
    ⊎ ((what ≡ Queues) × (count ≡ length p.queues) × (MAX_QUEUES < count)
    × (length p.disks ≤ MAX_DISKS) × (bytes ≤ MAX_DISK_BYTES)
    × (total_of p.disks ≤ MAX_ALL_DISK_BYTES))))

-- a line that may stand after those of this plan, and with which the plan passes a limit
pub record PassesLimit (p : Plan) (line : List ℕ) (what : What) (count : ℕ) : Type 0 where
  pub looked_at : is_passed_over line ≡ false
  pub item : Item
  pub says : line ≡ spelling item
  pub fit : fits item ≡ true
  pub new : is_new p item ≡ true
  pub agree : agrees (with_item p item) ≡ true
  pub first : PassesFirst (with_item p item) (item_bytes item) what count

-- why line n can't be added to this plan
abbrev pub LineFault : ℕ → Plan → List ℕ → PlanError → Type 0
LineFault n p line errors.Memory = ⊥
LineFault n p line (errors.BadLine number) = (number ≡ n) × IsBad p line
LineFault n p line (errors.TooLong what count) = PassesLimit p line what count

-- the lines up to one make a plan, and that one can't be added to it
pub record StopsAt (lines : List (List ℕ)) (e : PlanError) : Type 0 where
  pub before : List (List ℕ)
  pub line : List ℕ
  pub after : List (List ℕ)
  pub is : lines ≡ before ++ line ∷ after
  pub plan : Plan
  pub made : Makes before no_plan plan
  pub fault : LineFault (number_after (length before)) plan line e

-- the lines make a plan in which something is missing: it is missed on the line after the last
pub record Lacks (lines : List (List ℕ)) (e : PlanError) : Type 0 where
  pub plan : Plan
  pub made : Makes lines no_plan plan
  pub missing : is_complete plan ≡ false
  pub is : e ≡ errors.BadLine (number_after (length lines))

-- The first line isn't the head of a plan; or, after it, a line can't be added to those before it, or something is missing.
abbrev pub FirstFault : List ℕ → PlanError → Type 0
FirstFault bytes e =
    ((e ≡ errors.BadLine 1) × ((lines : List (List ℕ)) → lines_of bytes ≢ codes "nvmet-plan 1"
    ∷ lines))
    ⊎ ((lines : List (List ℕ)) × (lines_of bytes ≡ codes "nvmet-plan 1" ∷ lines)
    × (StopsAt lines e ⊎ Lacks lines e))
