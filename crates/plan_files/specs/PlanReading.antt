-- Reading a plan from its first line on: the plan, or the first bad line or passed limit.
use Rattle.std.specs.Prelude.{◌^◌, ℕ, ◌+◌, ◌-◌, min, Bool, true, false, ◌&&◌, if◌then◌else◌, List, [], ◌∷◌, codes, Option, Some, None, Result, Ok, Err}
use Rattle.std.specs.Str.{bytes_eq}
use Rattle.plan_files.specs.declared.items.Item.{Item}
use Rattle.plan_files.specs.declared.items.Plan.{Plan}
use Rattle.plan_files.specs.declared.plan.PlanError.{PlanError}
use Rattle.plan_files.specs.declared.plan.PlanError.TheVariants as errors
use Rattle.text_lines.specs.Answers as answers
use Rattle.plan_files.specs.Binding.{◌>>=◌}
use Rattle.text_lines.specs.Lines.{is_passed_over, lines_of}
use Rattle.plan_files.specs.Spelling.{item_in}
use Rattle.plan_files.specs.Plans.{no_plan, with_item, is_new, agrees, within, item_bytes, is_complete}

-- whether an error is want of memory
abbrev pub is_memory : PlanError → Bool
is_memory errors.Memory = true
is_memory (errors.BadLine line) = false
is_memory (errors.TooLong what count) = false

-- an error is what reading gives, unless memory ran out
abbrev pub Fails : {Y : Type 0} → PlanError → Result Y PlanError → Type 0
Fails e read = answers.Fails is_memory e read

-- what a call answered is what reading gives, unless memory ran out
abbrev pub Gives : Result Plan PlanError → Result Plan PlanError → Type 0
Gives result read = answers.Gives Fails (λ plan. plan) result read

-- `plan` is what the call left where it answers `Ok`
abbrev pub Leaves : {X : Type 0} → Plan → Result X PlanError → Result Plan PlanError → Type 0
Leaves plan result read = answers.Gives Fails (λ x. plan) result read

-- the plan after an item on line n: a bad line comes before a passed limit
unfoldable pub item_taken : ℕ → Plan → Item → Result Plan PlanError
item_taken n p item = if is_new p item && agrees (with_item p item) then within (with_item p item)
    (item_bytes item) else Err (errors.BadLine n)

abbrev pub said_taken : ℕ → Plan → Option Item → Result Plan PlanError
said_taken n p None = Err (errors.BadLine n)
said_taken n p (Some item) = item_taken n p item

-- the plan after line n
unfoldable pub line_taken : ℕ → Plan → List ℕ → Result Plan PlanError
line_taken n p line = if is_passed_over line then Ok p else said_taken n p (item_in line)

-- the number of the next line; it stands still at 2 ^ 32 - 1
abbrev pub next_line : ℕ → ℕ
next_line n = min (n + 1) (2 ^ 32 - 1)

-- the plan after these lines, the first of which is line n; what is missing at the end is missed on the line after the last
unfoldable pub plan_from : ℕ → Plan → List (List ℕ) → Result Plan PlanError
plan_from n p [] = if is_complete p then Ok p else Err (errors.BadLine n)
plan_from n p (line ∷ lines) = line_taken n p line >>= λ q. plan_from (next_line n) q lines

abbrev pub plan_by : List (List ℕ) → Result Plan PlanError
plan_by [] = Err (errors.BadLine 1)
plan_by (head ∷ lines) = if bytes_eq head (codes "nvmet-plan 1") then plan_from 2 no_plan lines else
    Err (errors.BadLine 1)

-- the plan in these bytes, or their first fault
unfoldable pub plan_in : List ℕ → Result Plan PlanError
plan_in bytes = plan_by (lines_of bytes)
