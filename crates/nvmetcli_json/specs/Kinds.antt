-- The kinds of value that members have.
use Rattle.std.specs.Prelude.{ℕ, ◌==◌, ◌&&◌, ◌||◌, ◌^◌, not, nat_lt, nat_le, Bool, true, false, List, length, codes, Option, Some, None, Ok, option_and_then, slice_index, if◌then◌else◌}
use Rattle.std.specs.List.{list_all}
use Rattle.std.specs.Str.{bytes_eq}
use Rattle.std.specs.Str.Parse.{digits_value}
use Rattle.std.specs.Fmt.{decimal}
use Rattle.serde_json.specs.Data.{Data}
use Rattle.serde_json.specs.Find.{as_str, as_number, as_u64}
use Rattle.configfs_rows.specs.Nqns.{is_nqn}
use Rattle.configfs_rows.specs.Values.{is_text}
use Rattle.nvmetcli_json.specs.Faults.{Found, misfit}

-- a text, and a whole number from 0 to 2 ^ 64 - 1 that is written in digits alone
abbrev pub text_of : Data → Option (List ℕ)
text_of d = as_str d

abbrev pub whole_of : Data → Option ℕ
whole_of d = option_and_then as_u64 (as_number d)

-- ---- an NQN
abbrev pub if_nqn : Option (List ℕ) → Found (List ℕ)
if_nqn None = misfit
if_nqn (Some s) = if is_nqn s then Ok s else misfit

unfoldable pub nqn_in : Data → Found (List ℕ)
nqn_in d = if_nqn (text_of d)

-- ---- the value of an attribute: a text of bytes from 20h to 7Eh, or a number that is taken for
-- its decimal text
abbrev pub if_number : Option ℕ → Found (List ℕ)
if_number None = misfit
if_number (Some n) = Ok (decimal n)

abbrev pub if_value : Option (List ℕ) → Option ℕ → Found (List ℕ)
if_value None n = if_number n
if_value (Some s) n = if is_text s then Ok s else misfit

unfoldable pub value_in : Data → Found (List ℕ)
value_in d = if_value (text_of d) (whole_of d)

-- ---- a number below a limit, or its decimal text
-- digits alone, with no leading zero but in `0` itself
unfoldable pub is_numeral : List ℕ → Bool
is_numeral word = nat_le 1 (length word) && (length word == 1 || not (slice_index word 0 == 48))
    && list_all (λ b. nat_le 48 b && nat_le b 57) word

unfoldable pub number_of : List ℕ → Option ℕ
number_of word = if is_numeral word && nat_lt (digits_value 10 word) (2 ^ 64) then Some
    (digits_value 10 word) else None

abbrev pub either_number : Option (List ℕ) → Option ℕ → Option ℕ
either_number None n = n
either_number (Some s) n = number_of s

abbrev pub if_below : ℕ → Option ℕ → Found ℕ
if_below limit None = misfit
if_below limit (Some n) = if nat_lt n limit then Ok n else misfit

unfoldable pub number_in : ℕ → Data → Found ℕ
number_in limit d = if_below limit (either_number (text_of d) (whole_of d))

-- ---- 0 or 1, or its text
abbrev pub if_flag : Option (List ℕ) → Option ℕ → Found Bool
if_flag None None = misfit
if_flag None (Some n) = if n == 0 then Ok false else (if n == 1 then Ok true else misfit)
if_flag (Some s) n = if bytes_eq s (codes "0") then Ok false else (if bytes_eq s
    (codes "1") then Ok true else misfit)

unfoldable pub flag_in : Data → Found Bool
flag_in d = if_flag (text_of d) (whole_of d)
