-- What writing piece by piece does to the bytes that a writer holds, where those are known.
use Rattle.std.specs.Prelude.{◌<◌, ℕ, Bool, true, false, List, length, take, Option}
use Rattle.std.specs.Io.KnownBytes.{Appends}

-- what a writer took: all of the bytes, or a front that lacks something
abbrev pub PassedOn : Option (List ℕ) → Option (List ℕ) → List ℕ → Bool → Type 0
PassedOn old new bytes true = Appends old new bytes
PassedOn old new bytes false = (n : ℕ) × (n < length bytes) × Appends old new (take n bytes)
