-- A port as it is made, and after one of its addresses, links or ANA groups changed.
use Rattle.std.specs.Prelude.{ℕ, List, [], codes, Bool, false, Option, Some, None}
use Rattle.std.specs.FinMap as map
use Rattle.configfs_rows.specs.Maps.{kept_or_taken}
use Rattle.sqe_cqe.specs.declared.rows.Ana.{Ana}
use Rattle.sqe_cqe.specs.declared.rows.Ana.TheVariants as state
use Rattle.configfs_rows.specs.declared.ports.PortRow.{PortRow}
use Rattle.configfs_rows.specs.declared.ports.Address.{Address}
use Rattle.configfs_rows.specs.declared.ports.Address.TheVariants as address

abbrev pub fresh_port : ℕ → ℕ → PortRow
fresh_port id at = record {
  id = id;
  at = at;
  trtype = [];
  adrfam = [];
  traddr = [];
  trsvcid = [];
  treq = codes "not specified";
  links = map.empty;
  groups = map.insert map.empty 1 state.Optimized;
}

-- an address of a port
abbrev pub address_of : Address → PortRow → List ℕ
address_of address.Trtype p = p.trtype
address_of address.Adrfam p = p.adrfam
address_of address.Traddr p = p.traddr
address_of address.Trsvcid p = p.trsvcid
address_of address.Treq p = p.treq

-- a port with a new address
abbrev pub with_address : Address → List ℕ → PortRow → PortRow
with_address address.Trtype value p = record p { trtype = value }
with_address address.Adrfam value p = record p { adrfam = value }
with_address address.Traddr value p = record p { traddr = value }
with_address address.Trsvcid value p = record p { trsvcid = value }
with_address address.Treq value p = record p { treq = value }

-- the link to a subsystem made, or taken away
abbrev pub put_link : List ℕ → Bool → PortRow → PortRow
put_link nqn linked p = record p { links = kept_or_taken p.links nqn linked }

-- the group is made on a port that is there
abbrev pub has_group : Option PortRow → ℕ → Bool
has_group None group = false
has_group (Some p) group = map.contains_key p.groups group

abbrev pub put_group : ℕ → Ana → PortRow → PortRow
put_group group state p = record p { groups = map.insert p.groups group state }

abbrev pub remove_group : ℕ → PortRow → PortRow
remove_group group p = record p { groups = map.remove p.groups group }
