-- What a command line gave.
use Rattle.std.specs.Prelude.{◌≡◌, ℕ, List, [], ◌∷◌, ◌++◌, codes, drop, Result, Ok, Err, IsErrAnd, String}
use Rattle.std.specs.Vec.Iter.{into_iter_items}
use Rattle.std.specs.declared.vec.IntoIter.{IntoIter}
use Rattle.std.specs.declared.alloc.Global.{Global}
use Rattle.std.specs.declared.io.Error.{Error}
use Rattle.std.specs.declared.io.ErrorKind.TheVariants.{OutOfMemory}
use Rattle.std.specs.IoError.{error_kind}

-- the words after the program's name; none where one of them is no text
abbrev pub given_words : Result (IntoIter (String Global) Global) Error → List (String Global)
given_words (Ok args) = drop 1 (into_iter_items args)
given_words (Err e) = []

-- there was no memory for the words
abbrev pub LacksMemory : Result (IntoIter (String Global) Global) Error → Type 0
LacksMemory args = IsErrAnd args (λ e. error_kind e ≡ OutOfMemory)

-- the line that says so
abbrev pub memory_line : List ℕ
memory_line = codes "out of memory" ++ 10 ∷ []
