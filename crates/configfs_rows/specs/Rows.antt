-- A namespace as it is made, and after an attribute was put.
use Rattle.std.specs.Prelude.{ℕ, List, false, Some, None, replicate}
use Rattle.configfs_rows.specs.declared.namespaces.Identifier.{Identifier}
use Rattle.configfs_rows.specs.declared.namespaces.Identifier.TheVariants as identifier
use Rattle.configfs_rows.specs.declared.namespaces.NamespaceRow.{NamespaceRow}
use Rattle.configfs_rows.specs.declared.namespaces.NamespacePut.{NamespacePut}
use Rattle.configfs_rows.specs.declared.namespaces.NamespacePut.TheVariants as put

abbrev pub fresh_namespace : NamespaceRow
fresh_namespace = record {
  device_path = None;
  disk = None;
  uuid = replicate 16 0;
  nguid = replicate 16 0;
  group = 1;
  enabled = false;
}

-- an identifier of a namespace
abbrev pub identifier_of : Identifier → NamespaceRow → List ℕ
identifier_of identifier.Uuid n = n.uuid
identifier_of identifier.Nguid n = n.nguid

-- its UUID and its NGUID after one of them was put
abbrev pub put_uuid : Identifier → List ℕ → List ℕ → List ℕ
put_uuid identifier.Uuid bytes uuid = bytes
put_uuid identifier.Nguid bytes uuid = uuid

abbrev pub put_nguid : Identifier → List ℕ → List ℕ → List ℕ
put_nguid identifier.Uuid bytes nguid = nguid
put_nguid identifier.Nguid bytes nguid = bytes

abbrev pub put_in : NamespacePut → NamespaceRow → NamespaceRow
put_in (put.Path path disk) n = record n { device_path = Some path; disk = disk }
put_in (put.Identifier which bytes) n = record n {
  uuid = put_uuid which bytes n.uuid;
  nguid =
      put_nguid which bytes n.nguid;
}
put_in (put.Group group) n = record n { group = group }
put_in (put.Enabled enabled) n = record n { enabled = enabled }
