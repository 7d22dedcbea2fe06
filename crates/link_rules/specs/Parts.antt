-- The parts of a path as the code has them.
use Rattle.std.specs.Prelude.{◌≡◌, ℕ, Bool, List, [], ◌∷◌, None}
use Rattle.link_rules.specs.Reading.{folder_of, link_of}
use Rattle.link_rules.specs.declared.paths.Parts.{Parts}
use Rattle.link_rules.specs.declared.paths.Parts.TheVariants.{Two, Four, Other}

abbrev pub AreParts : List (List ℕ) → Parts → Type 0
AreParts parts (Two kind name) = parts ≡ kind.now ∷ name.now ∷ []
AreParts parts (Four kind name inner last) = parts ≡ kind.now ∷ name.now ∷ inner.now ∷ last.now ∷ []
AreParts parts Other = (folder_of parts ≡ None) × ((made : Bool) → link_of made parts ≡ None)
