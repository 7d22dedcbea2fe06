-- Plans: what their lines say one after another, and which line is the first bad one.
use Rattle.std.specs.Prelude.{◌≡◌, ◌⊎◌, ◌≤◌, ◌^◌, ℕ, ◌*◌, ◌==◌, nat_lt, nat_le, Bool, true, false, not, ◌&&◌, ◌||◌, if◌then◌else◌, List, [], ◌∷◌, ◌++◌, length, codes, Option, Some, None, Result, Ok, Err}
use Rattle.std.specs.Option.{is_some}
use Rattle.std.specs.List.{list_any, list_all, sum_by}
use Rattle.std.specs.Str.{bytes_eq}
use Rattle.mem_bdev.specs.declared.disk.DiskLine.{DiskLine}
use Rattle.plan_files.specs.declared.items.Item.{Item}
use Rattle.plan_files.specs.declared.items.Item.TheVariants.{Simple, Disk, Config, Script, Journal, Queue}
use Rattle.plan_files.specs.declared.items.Plan.{Plan}
use Rattle.mem_bdev.specs.declared.limits.TheConstants.{MAX_DISK_BYTES}
use Rattle.plan_files.specs.declared.plan.TheConstants.{MAX_DISKS, MAX_ALL_DISK_BYTES, MAX_QUEUES}
use Rattle.plan_files.specs.declared.plan.PlanError.{PlanError}
use Rattle.plan_files.specs.declared.plan.PlanError.TheVariants as errors
use Rattle.plan_files.specs.declared.limits.What.TheVariants.{Disks, DiskBytes, AllDiskBytes, Queues}
use Rattle.text_lines.specs.Lines.{is_passed_over, lines_of}
use Rattle.plan_files.specs.Spelling.{spelling, fits}

-- a plan that says nothing yet
abbrev pub no_plan : Plan
no_plan = record {
  simple = false;
  disks = [];
  config = None;
  script = None;
  journal = None;
  queues = [];
}

-- the plan with one more item
abbrev pub with_item : Plan → Item → Plan
with_item p Simple = record p { simple = true }
with_item p (Disk d) = record p { disks = p.disks ++ d ∷ [] }
with_item p (Config name) = record p { config = Some name }
with_item p (Script name) = record p { script = Some name }
with_item p (Journal name) = record p { journal = Some name }
with_item p (Queue q) = record p { queues = p.queues ++ q ∷ [] }

-- ---- what a line may add to the lines before it

abbrev pub has_name : Option (List ℕ) → List ℕ → Bool
has_name None name = false
has_name (Some n) name = bytes_eq n name

-- whether no earlier line has this file name
unfoldable pub is_free : Plan → List ℕ → Bool
is_free p name =
    not (has_name p.config name || has_name p.script name || has_name p.journal name
    || list_any (λ q. bytes_eq q.capsules name || bytes_eq q.responses name) p.queues)

-- not one too many of its kind, and no disk path or file name that stands already
unfoldable pub is_new : Plan → Item → Bool
is_new p Simple = not p.simple
is_new p (Disk d) = not (list_any (λ e. bytes_eq e.path d.path) p.disks)
is_new p (Config name) = not (is_some p.config) && is_free p name
is_new p (Script name) = not (is_some p.script) && is_free p name
is_new p (Journal name) = not (is_some p.journal) && is_free p name
is_new p (Queue q) = is_free p q.capsules && is_free p q.responses
    && not (bytes_eq q.capsules q.responses)

-- a simple plan names no other file, and has at most one disk and one queue, by port 1
unfoldable pub agrees : Plan → Bool
agrees p =
    not p.simple
    || not (is_some p.config) && not (is_some p.script) && not (is_some p.journal)
    && nat_le (length p.disks) 1 && nat_le (length p.queues) 1
    && list_all (λ q. q.port == 1) p.queues

-- a simple plan has one disk and one queue, another one a configuration and a journal
unfoldable pub is_complete : Plan → Bool
is_complete p = if p.simple then length p.disks == 1 && length p.queues == 1 else (is_some p.config
    && is_some p.journal)

abbrev pub disk_bytes : DiskLine → ℕ
disk_bytes d = d.blocks * 2 ^ d.shift

abbrev pub total_of : List DiskLine → ℕ
total_of disks = sum_by disk_bytes disks

-- the bytes of the disk that an item adds
abbrev pub item_bytes : Item → ℕ
item_bytes Simple = 0
item_bytes (Disk d) = disk_bytes d
item_bytes (Config name) = 0
item_bytes (Script name) = 0
item_bytes (Journal name) = 0
item_bytes (Queue q) = 0

-- the plan, where its newest disk has so many bytes, or the first limit that it passes: 64 disks, 16 MiB in one disk,
-- 256 MiB in all disks, 31 queues
unfoldable pub within : Plan → ℕ → Result Plan PlanError
within p bytes =
    if nat_lt MAX_DISKS (length p.disks) then Err (errors.TooLong Disks (length p.disks)) else
    (if nat_lt MAX_DISK_BYTES bytes then Err (errors.TooLong DiskBytes bytes) else
    (if nat_lt MAX_ALL_DISK_BYTES (total_of p.disks) then Err (errors.TooLong AllDiskBytes
    (total_of p.disks)) else
    (if nat_lt MAX_QUEUES (length p.queues) then Err (errors.TooLong Queues (length p.queues)) else
    Ok p)))

-- ---- a plan, line after line

-- what an item may add to a plan
pub record IsAllowed (p : Plan) (item : Item) : Type 0 where
  pub new : is_new p item ≡ true
  pub agrees : agrees (with_item p item) ≡ true
  pub disks : length (with_item p item).disks ≤ MAX_DISKS
  pub bytes : item_bytes item ≤ MAX_DISK_BYTES
  pub total : total_of (with_item p item).disks ≤ MAX_ALL_DISK_BYTES
  pub queues : length (with_item p item).queues ≤ MAX_QUEUES

-- these lines make the first plan the second: each is passed over, or spells an item that may be added
abbrev pub Makes : List (List ℕ) → Plan → Plan → Type 0
Makes [] p q = q ≡ p
Makes (line ∷ lines) p q =
    ((is_passed_over line ≡ true) × Makes lines p q)
    ⊎ ((is_passed_over line ≡ false) × (item : Item) × (line ≡ spelling item) × (fits item ≡ true)
    × IsAllowed p item × Makes lines (with_item p item) q)

-- they make it a plan in which nothing is missing
abbrev pub Adds : List (List ℕ) → Plan → Plan → Type 0
Adds lines p plan = Makes lines p plan × (is_complete plan ≡ true)

-- the plan in these bytes
pub record IsPlan (bytes : List ℕ) (plan : Plan) : Type 0 where
  pub lines : List (List ℕ)
  pub head : lines_of bytes ≡ codes "nvmet-plan 1" ∷ lines
  pub rest : Adds lines no_plan plan
