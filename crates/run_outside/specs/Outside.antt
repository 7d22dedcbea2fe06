-- What calls of the outside do, and when they fail.
use Rattle.std.specs.Prelude.{◌≡◌, ◌≢◌, ◌≤◌, ℕ, ◌+◌, ◌-◌, ◌^◌, min, Bool, true, false, IsTrue, nat_le, List, ◌++◌, length, take, Option, Some, None, Result, Ok, Err, IfSome, IsSome, IsSomeAnd}
use Rattle.run_outside.specs.declared.outside.FileError.{FileError}
use Rattle.run_outside.specs.declared.outside.FileError.TheVariants as files
use Rattle.run_outside.specs.declared.outside.WriteError.{WriteError}
use Rattle.run_outside.specs.declared.outside.WriteError.TheVariants as writes
use Rattle.run_outside.specs.declared.outside.SinkFault.{SinkFault}

-- a count with one more; it stands still at 2 ^ 64 - 1
abbrev pub next_count : ℕ → ℕ
next_count n = min (n + 1) (2 ^ 64 - 1)

-- a count of faults rose, or stands at its end
abbrev pub Rose : ℕ → ℕ → Type 0
Rose before now = next_count before ≤ now

-- the last call on files: whether it wrote, the first 255 bytes of the name, and whether the count rose in it
pub record LastCall : Type 0 where
  pub wrote : Bool
  pub name : List ℕ
  pub rose : Bool

abbrev pub rose : ℕ → ℕ → Bool
rose before now = nat_le (next_count before) now

abbrev pub read_call : List ℕ → ℕ → ℕ → LastCall
read_call name before now = record { wrote = false; name = take 255 name; rose = rose before now }

abbrev pub write_call : List ℕ → ℕ → ℕ → LastCall
write_call name before now = record { wrote = true; name = take 255 name; rose = rose before now }

-- what a read appends: the whole content, of at most `limit` bytes; or `limit + 1` bytes of a longer one; or nothing
abbrev pub ReadGives : Option (List ℕ) → ℕ → List ℕ → List ℕ → Result (Unit {0}) FileError → Type 0
ReadGives told limit old new (Ok u) = (content : List ℕ) × (new ≡ old ++ content)
    × (length content ≤ limit) × IfSome told (λ c. c ≡ content)
ReadGives told limit old new (Err files.TooLong) = (front : List ℕ) × (new ≡ old ++ front)
    × (length front ≡ limit + 1) × IfSome told (λ c. take (limit + 1) c ≡ front)
ReadGives told limit old new (Err files.Failed) = new ≡ old
ReadGives told limit old new (Err files.Memory) = new ≡ old

-- A name holds exactly these bytes since a write: wherever it is told, and it is told where it was told before or the
-- files tell at all.
abbrev pub HoldsWritten : Bool → Option (List ℕ) → Option (List ℕ) → List ℕ → Type 0
HoldsWritten tells old new bytes =
    IfSome new (λ c. c ≡ bytes) × (IsSome old → new ≡ Some bytes)
    × (IsTrue tells → new ≡ Some bytes)

-- What a write leaves at its name. A name that was told stays told, whatever the write answers.
abbrev pub WriteResult : Bool → Option (List ℕ) → Option (List ℕ) → List ℕ
    → Result (Unit {0}) WriteError → Type 0
WriteResult tells old new bytes (Ok u) = HoldsWritten tells old new bytes
WriteResult tells old new bytes (Err writes.Failed) = IsSome old → IsSome new
WriteResult tells old new bytes (Err writes.Memory) = new ≡ old

-- what a write leaves: the bytes at the name, and other names as before
pub record WriteGives (tells : Bool) (old new : List ℕ → Option (List ℕ)) (name bytes : List ℕ)
    (result : Result (Unit {0}) WriteError) : Type 0 where
  pub others : (other : List ℕ) → other ≢ name → new other ≡ old other
  pub this : WriteResult tells (old name) (new name) bytes result

-- the count rises where the answer is `Failed`, and stays where it is another
abbrev pub ReadCounts : ℕ → ℕ → Result (Unit {0}) FileError → Type 0
ReadCounts before now (Err files.Failed) = Rose before now
ReadCounts before now (Err files.TooLong) = now ≡ before
ReadCounts before now (Err files.Memory) = now ≡ before
ReadCounts before now (Ok u) = now ≡ before

-- why a read failed; the count never falls, whatever it answers
pub record ReadCause (before now : ℕ) (result : Result (Unit {0}) FileError) : Type 0 where
  pub later : before ≤ now
  pub failed : ReadCounts before now result

abbrev pub WriteCounts : ℕ → ℕ → Result (Unit {0}) WriteError → Type 0
WriteCounts before now (Err writes.Failed) = Rose before now
WriteCounts before now (Err writes.Memory) = now ≡ before
WriteCounts before now (Ok u) = now ≡ before

-- why a write failed; the count never falls, whatever it answers
pub record WriteCause (before now : ℕ) (result : Result (Unit {0}) WriteError) : Type 0 where
  pub later : before ≤ now
  pub failed : WriteCounts before now result

-- what a sink took: all of the bytes, or a front of them
abbrev pub Takes : List ℕ → List ℕ → List ℕ → Result (Unit {0}) SinkFault → Type 0
Takes old new bytes (Ok u) = new ≡ old ++ bytes
Takes old new bytes (Err e) = (n : ℕ) × (new ≡ old ++ take n bytes)

-- where nothing is told, nothing is claimed; what was told stays told
abbrev pub SinkTakes : Option (List ℕ) → Option (List ℕ) → List ℕ → Result (Unit {0}) SinkFault
    → Type 0
SinkTakes None new bytes result = Unit {0}
SinkTakes (Some old) new bytes result = IsSomeAnd new (λ now. Takes old now bytes result)

abbrev pub SinkCounts : ℕ → ℕ → Result (Unit {0}) SinkFault → Type 0
SinkCounts before now (Err e) = Rose before now
SinkCounts before now (Ok u) = now ≡ before

-- why a sink failed; the count never falls, whatever it answers, and stays where nothing failed
pub record SinkCause (before now : ℕ) (result : Result (Unit {0}) SinkFault) : Type 0 where
  pub later : before ≤ now
  pub failed : SinkCounts before now result
