-- The fields of the tables overlap nowhere and end within the page.
use Rattle.std.specs.Prelude.{◌≡◌, ℕ, length}
use Rattle.sqe_cqe.specs.declared.controllers.Ctrl.{Ctrl}
use Rattle.sqe_cqe.specs.declared.rows.NsRow.{NsRow}
use Rattle.sqe_cqe.specs.declared.rows.Offers.{Offers}
use Rattle.look_pages.specs.declared.walk.TheConstants.{PAGE}
use Rattle.look_pages.specs.Tables.{IsApart}
use Rattle.admin_identify.specs.Controller.{controller_fields}
use Rattle.admin_identify.specs.Namespace.{namespace_fields}

-- the texts of a controller are arrays of these sizes
abbrev pub ControllerFieldsApart : Type 0
ControllerFieldsApart = (c : Ctrl) (offers : Offers)
    → length c.serial ≡ 20 → length c.model_name ≡ 40 → length c.subnqn ≡ 256
    → IsApart 0 PAGE (controller_fields c offers)

-- and an NGUID is one of 16 bytes
abbrev pub NamespaceFieldsApart : Type 0
NamespaceFieldsApart = (row : NsRow) (nuse rescap marks : ℕ)
    → length row.nguid ≡ 16 → IsApart 0 PAGE (namespace_fields row nuse rescap marks)
