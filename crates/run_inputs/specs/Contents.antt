-- The bytes of a file, within its limit.
use Rattle.std.specs.Prelude.{ℕ, ◌+◌, nat_lt, if◌then◌else◌, List, length, Result, Ok, Err}
use Rattle.plan_files.specs.declared.limits.What.{What}
use Rattle.plan_files.specs.declared.limits.What.TheVariants.{Bytes}
use Rattle.run_outcomes.specs.declared.numbers.FileNo.{FileNo}
use Rattle.run_outcomes.specs.declared.faults.Fault.{Fault}
use Rattle.run_outcomes.specs.declared.faults.Fault.TheVariants as fault

-- the bytes, where they are at most so many; the limit plus 1 is the count
unfoldable pub content_of : ℕ → FileNo → List ℕ → Result (List ℕ) Fault
content_of limit file bytes = if nat_lt limit (length bytes) then Err
    (fault.Limit file Bytes (limit + 1)) else Ok bytes

-- a number that is counted at this file, where it is at most so much
unfoldable pub total_of : ℕ → FileNo → What → ℕ → Result ℕ Fault
total_of limit file what count = if nat_lt limit count then Err (fault.Limit file what count) else
    Ok count
