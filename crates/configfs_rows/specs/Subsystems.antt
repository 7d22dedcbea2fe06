-- A subsystem as it is made, and after one of its attributes, links or namespaces changed.
use Rattle.std.specs.Prelude.{ℕ, List, Bool, false, codes}
use Rattle.std.specs.FinMap as map
use Rattle.configfs_rows.specs.Maps.{update_at, kept_or_taken}
use Rattle.configfs_rows.specs.Rows.{put_in, fresh_namespace}
use Rattle.configfs_rows.specs.declared.namespaces.NamespacePut.{NamespacePut}
use Rattle.configfs_rows.specs.declared.subsystems.SubsystemRow.{SubsystemRow}
use Rattle.configfs_rows.specs.declared.subsystems.SubsystemPut.{SubsystemPut}
use Rattle.configfs_rows.specs.declared.subsystems.SubsystemPut.TheVariants as put

abbrev pub fresh_subsystem : List ℕ → ℕ → SubsystemRow
fresh_subsystem nqn at = record {
  nqn = nqn;
  at = at;
  allow_any_host = false;
  serial = codes "00000000000000000001";
  model_name = codes "Linux";
  allowed_hosts = map.empty;
  namespaces = map.empty;
}

abbrev pub put_in_subsystem : SubsystemPut → SubsystemRow → SubsystemRow
put_in_subsystem (put.AllowAnyHost any) s = record s { allow_any_host = any }
put_in_subsystem (put.Serial serial) s = record s { serial = serial }
put_in_subsystem (put.ModelName name) s = record s { model_name = name }

-- the link to a host made, or taken away
abbrev pub put_allowed : List ℕ → Bool → SubsystemRow → SubsystemRow
put_allowed host linked s = record s { allowed_hosts = kept_or_taken s.allowed_hosts host linked }

abbrev pub put_namespace : ℕ → NamespacePut → SubsystemRow → SubsystemRow
put_namespace nsid put s = record s { namespaces = update_at s.namespaces nsid (put_in put) }

abbrev pub add_namespace : ℕ → SubsystemRow → SubsystemRow
add_namespace nsid s = record s { namespaces = map.insert s.namespaces nsid fresh_namespace }

abbrev pub remove_namespace : ℕ → SubsystemRow → SubsystemRow
remove_namespace nsid s = record s { namespaces = map.remove s.namespaces nsid }
