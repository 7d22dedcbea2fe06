-- The words of the command line.
use Rattle.std.specs.Prelude.{◌≡◌, ℕ, nat_eq, nat_le, ◌&&◌, not, Bool, if◌then◌else◌, List, [], ◌∷◌, length, codes, Option, Some, None, IsSome, Result, Ok, Err, string_bytes, String}
use Rattle.std.specs.List.{starts_with}
use Rattle.std.specs.Str.{bytes_eq}
use Rattle.std.specs.declared.alloc.Global.{Global}
use Rattle.plan_files.specs.Spelling.{is_name, number_of}
use Rattle.command_words.specs.declared.words.TheConstants.{MAX_GEN, MAX_GEN_NAME}
use Rattle.command_words.specs.declared.words.Verb.{Verb}
use Rattle.command_words.specs.declared.words.Verb.TheVariants as verbs
use Rattle.command_words.specs.declared.words.Words.{Words}
use Rattle.command_words.specs.declared.words.Words.TheVariants as words
use Rattle.command_words.specs.declared.words.WordsError.{WordsError}
use Rattle.command_words.specs.declared.words.WordsError.TheVariants as errors

-- ---- values
-- a name that doesn't begin as an option does
abbrev pub is_plan_name : List ℕ → Bool
is_plan_name name = is_name name && not (starts_with nat_eq name (codes "-"))

abbrev pub is_gen_name : List ℕ → Bool
is_gen_name name = is_plan_name name && nat_le (length name) MAX_GEN_NAME

-- 1 to 4,096
abbrev pub is_gen_number : ℕ → Bool
is_gen_number n = nat_le 1 n && nat_le n MAX_GEN

abbrev pub gen_in : Option ℕ → Option ℕ
gen_in None = None
gen_in (Some n) = if is_gen_number n then Some n else None

-- the decimal number from 1 to 4,096 that a word is
abbrev pub gen_of : List ℕ → Option ℕ
gen_of word = gen_in (number_of word)

-- values such as the words may have
abbrev pub are_said : Words → Bool
are_said (words.Run plan) = is_plan_name plan
are_said (words.Check plan) = is_plan_name plan
are_said (words.Show plan) = is_plan_name plan
are_said (words.Gen n name) = is_gen_number n && is_gen_name name

-- ---- commands with a plan
unfoldable pub verb_of : List ℕ → Option Verb
verb_of word =
    if bytes_eq word (codes "run") then Some verbs.Run else
    (if bytes_eq word (codes "check") then Some verbs.Check else
    (if bytes_eq word (codes "show") then Some verbs.Show else None))

abbrev pub with_plan : Verb → List ℕ → Words
with_plan verbs.Run plan = words.Run plan
with_plan verbs.Check plan = words.Check plan
with_plan verbs.Show plan = words.Show plan

abbrev pub plan_said : Option Verb → List ℕ → Option Words
plan_said None plan = None
plan_said (Some verb) plan = if is_plan_name plan then Some (with_plan verb plan) else None

-- what a command and the name of a plan say
abbrev pub plan_words : List ℕ → List ℕ → Option Words
plan_words verb plan = plan_said (verb_of verb) plan

-- ---- the generator
abbrev pub gen_said : Option ℕ → List ℕ → Option Words
gen_said None name = None
gen_said (Some n) name = if is_gen_name name then Some (words.Gen n name) else None

-- what `gen`, a number and a name say
abbrev pub gen_words : List ℕ → List ℕ → List ℕ → Option Words
gen_words verb n name = if bytes_eq verb (codes "gen") then gen_said (gen_of n) name else None

-- ---- the whole line
-- what words say: `run`, `check` or `show` and the name of a plan, or `gen`, a number and a name;
-- other words say nothing
abbrev pub said_by : List (String Global) → Option Words
said_by [] = None
said_by (verb ∷ []) = None
said_by (verb ∷ plan ∷ []) = plan_words (string_bytes verb) (string_bytes plan)
said_by (verb ∷ n ∷ name ∷ []) = gen_words (string_bytes verb) (string_bytes n) (string_bytes name)
said_by (verb ∷ n ∷ name ∷ word ∷ rest) = None

-- what reading the words answers: what they say; that they say nothing; or want of memory where they
-- say something
abbrev pub Reads : Option Words → Result Words WordsError → Type 0
Reads said (Ok w) = said ≡ Some w
Reads said (Err errors.Usage) = said ≡ None
Reads said (Err errors.Memory) = IsSome said
