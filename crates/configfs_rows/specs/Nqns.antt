-- NQNs: 1 to 223 bytes, each from 21h to 7Eh and none of them '/'. They are ordered by their bytes.
use Rattle.std.specs.Prelude.{ℕ, ◌&&◌, not, nat_lt, nat_le, ◌==◌, Bool, List, length, codes}
use Rattle.std.specs.List.{list_all}
use Rattle.std.specs.declared.cmp.Ordering.{Ordering}
use Rattle.std.specs.Ordering.{nat_cmp}
use Rattle.std.specs.Cmp.Lexicographic.{slice_cmp}
use Rattle.configfs_rows.specs.declared.limits.TheConstants.{NQN_LEN}

abbrev pub name_order : List ℕ → List ℕ → Ordering
name_order = slice_cmp nat_cmp

abbrev pub is_name_byte : ℕ → Bool
is_name_byte b = nat_lt 32 b && nat_lt b 127 && not (b == 47)

unfoldable pub is_nqn : List ℕ → Bool
is_nqn bytes = nat_lt 0 (length bytes) && nat_le (length bytes) NQN_LEN
    && list_all is_name_byte bytes

-- the name that every subsystem with a discovery log answers to
abbrev pub discovery_nqn : List ℕ
discovery_nqn = codes "nqn.2014-08.org.nvmexpress.discovery"
