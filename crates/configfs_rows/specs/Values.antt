-- What the texts of attributes mean.
use Rattle.std.specs.Fmt.{decimal}
use Rattle.std.specs.Prelude.{◌≡◌, ◌≤◌, ◌↔◌, ℕ, ◌+◌, ◌*◌, ◌-◌, ◌==◌, ◌&&◌, ◌||◌, not, nat_lt, nat_le, Bool, true, false, List, [], ◌∷◌, length, Option, Some, None, codes, if◌then◌else◌}
use Rattle.std.specs.List.{list_any, list_all}
use Rattle.std.specs.Str.{bytes_eq}
use Rattle.configfs_rows.specs.declared.limits.TheConstants.{PATH_LEN, MAX_ANA_GROUPS}
use Rattle.sqe_cqe.specs.declared.rows.Ana.{Ana}
use Rattle.sqe_cqe.specs.Anas.{ana_number}

-- a printable character or a space
abbrev pub is_text_byte : ℕ → Bool
is_text_byte b = nat_lt 31 b && nat_lt b 127

abbrev pub is_text : List ℕ → Bool
is_text value = list_all is_text_byte value

-- a device path: 1 to 255 bytes, none of them a space
abbrev pub is_path : List ℕ → Bool
is_path value = nat_lt 0 (length value) && nat_le (length value) PATH_LEN
    && list_all (λ b. not (b == 32)) value

-- a path is set to a value
abbrev pub has_path : Option (List ℕ) → List ℕ → Bool
has_path None value = false
has_path (Some path) value = bytes_eq path value

abbrev pub one_of : List ℕ → List (List ℕ) → Bool
one_of value texts = list_any (bytes_eq value) texts

-- the words of a port's addresses
abbrev pub is_trtype : List ℕ → Bool
is_trtype value = one_of value (codes "loop" ∷ codes "tcp" ∷ codes "rdma" ∷ codes "fc" ∷ [])

abbrev pub is_adrfam : List ℕ → Bool
is_adrfam value = (length value == 0)
    || one_of value (codes "ipv4" ∷ codes "ipv6" ∷ codes "ib" ∷ codes "fc" ∷ codes "loop" ∷ codes
    "pcie" ∷ [])

abbrev pub is_treq : List ℕ → Bool
is_treq value = one_of value (codes "not specified" ∷ codes "required" ∷ codes "not required" ∷ [])

-- a text of at most so many bytes
abbrev pub is_short : List ℕ → ℕ → Bool
is_short value most = is_text value && nat_le (length value) most

-- a decimal number: digits alone, with no 0 in front of another digit
abbrev pub is_digit : ℕ → Bool
is_digit b = nat_lt 47 b && nat_lt b 58

abbrev pub starts_well : List ℕ → Bool
starts_well [] = true
starts_well (a ∷ []) = true
starts_well (a ∷ b ∷ rest) = not (a == 48)

abbrev pub is_decimal : List ℕ → Bool
is_decimal value = nat_lt 0 (length value) && list_all is_digit value && starts_well value

-- the number of digits that follow the number n
abbrev pub decimal_value : ℕ → List ℕ → ℕ
decimal_value n [] = n
decimal_value n (b ∷ bytes) = decimal_value (n * 10 + (b - 48)) bytes

-- the ANA group that a text names, a decimal number from 1 to 128
unfoldable pub group_named : List ℕ → Option ℕ
group_named value =
    if is_decimal value && nat_lt 0 (decimal_value 0 value)
    && nat_le (decimal_value 0 value) MAX_ANA_GROUPS
    then Some (decimal_value 0 value)
    else None

-- a text names a group exactly where it is the decimal text of a number from 1 to 128
abbrev pub GroupNamesAgain : List ℕ → ℕ → Type 0
GroupNamesAgain value group = (group_named value ≡ Some group) ↔
    ((1 ≤ group) × (group ≤ MAX_ANA_GROUPS) × (value ≡ decimal group))

-- two states are one
abbrev pub same_state : Ana → Ana → Bool
same_state a b = ana_number a == ana_number b

abbrev pub same_bool : Bool → Bool → Bool
same_bool true b = b
same_bool false b = not b
