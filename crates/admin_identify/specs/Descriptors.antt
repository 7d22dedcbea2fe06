-- The list of descriptors of a namespace.
use Rattle.std.specs.Prelude.{ℕ, ◌==◌, Bool, if◌then◌else◌, List, [], ◌∷◌, ◌++◌}
use Rattle.std.specs.List.{list_all}
use Rattle.sqe_cqe.specs.declared.rows.NsRow.{NsRow}
use Rattle.sqe_cqe.specs.declared.rows.Seen.{Seen}
use Rattle.sqe_cqe.specs.declared.rows.Seen.TheVariants.{NotConfigured, Off, On}
use Rattle.look_pages.specs.declared.walk.TheConstants.{PAGE}
use Rattle.look_pages.specs.Pages.{zeros, filled}
use Rattle.admin_identify.specs.declared.descriptors.TheConstants.{NIDT_NGUID, NIDT_UUID, NIDT_CSI}

-- an identifier that isn't set
abbrev pub is_zero : List ℕ → Bool
is_zero id = list_all (λ byte. byte == 0) id

-- type, length, two reserved bytes and the value, of an identifier of 16 bytes that is set
abbrev pub identifier : ℕ → List ℕ → List ℕ
identifier nidt id = if is_zero id then [] else (nidt ∷ 16 ∷ 0 ∷ 0 ∷ []) ++ id

-- UUID, NGUID, and the command set identifier 0, the NVM command set
abbrev pub descriptor_bytes : NsRow → List ℕ
descriptor_bytes row =
    identifier NIDT_UUID row.uuid ++ (identifier NIDT_NGUID row.nguid ++ (NIDT_CSI ∷ 1 ∷ 0 ∷ 0 ∷ 0 ∷ []))

-- of an enabled namespace, and zeros
unfoldable pub descriptor_page : Seen → List ℕ
descriptor_page NotConfigured = zeros PAGE
descriptor_page Off = zeros PAGE
descriptor_page (On row) = filled PAGE (descriptor_bytes row)
