-- Identify: the first check that fails, and the page.
use Rattle.std.specs.Prelude.{ℕ, ◌%◌, ◌==◌, nat_lt, not, Bool, if◌then◌else◌, List}
use Rattle.sqe_cqe.specs.declared.sqe.Sqe.{Sqe}
use Rattle.sqe_cqe.specs.declared.controllers.Ctrl.{Ctrl}
use Rattle.sqe_cqe.specs.declared.rows.Seen.{Seen}
use Rattle.sqe_cqe.specs.declared.rows.Seen.TheVariants.{NotConfigured, Off, On}
use Rattle.sqe_cqe.specs.declared.codes.TheConstants.{SUCCESS, INVALID_FIELD, INVALID_NAMESPACE, INTERNAL_PATH_ERROR, DATA_SGL_LENGTH_INVALID}
use Rattle.sqe_cqe.specs.Answers.{View}
use Rattle.look_pages.specs.declared.walk.TheConstants.{PAGE}
use Rattle.look_pages.specs.Pages.{zeros}
use Rattle.admin_identify.specs.declared.identify.TheConstants.{CNS_NAMESPACE, CNS_CONTROLLER, CNS_ACTIVE_LIST, CNS_DESCRIPTORS}
use Rattle.admin_identify.specs.Controller.{controller_page}
use Rattle.admin_identify.specs.Namespace.{namespace_page}
use Rattle.admin_identify.specs.ActiveList.{active_list_page}
use Rattle.admin_identify.specs.Descriptors.{descriptor_page}

-- which page is asked for, in the low byte of dword 10
abbrev pub cns_of : Sqe → ℕ
cns_of e = e.cdw10 % 256

abbrev pub seen_status : Seen → ℕ
seen_status NotConfigured = INVALID_NAMESPACE
seen_status Off = INTERNAL_PATH_ERROR
seen_status (On row) = SUCCESS

abbrev pub cns_status : View → Sqe → ℕ
cns_status v e =
    if cns_of e == CNS_NAMESPACE then (if e.nsid == 0xffffffff then INVALID_NAMESPACE else SUCCESS)
    else if cns_of e == CNS_CONTROLLER then SUCCESS
    else if cns_of e == CNS_ACTIVE_LIST then
    (if nat_lt e.nsid 0xfffffffe then SUCCESS else INVALID_NAMESPACE)
    else if cns_of e == CNS_DESCRIPTORS then seen_status (v.ns e.nsid)
    else INVALID_FIELD

-- the SGL length comes first
unfoldable pub identify_status : View → Sqe → ℕ
identify_status v e = if not (e.sgl_len == PAGE) then DATA_SGL_LENGTH_INVALID else cns_status v e

unfoldable pub identify_page : View → Ctrl → Sqe → List ℕ
identify_page v c e =
    if cns_of e == CNS_NAMESPACE then namespace_page v (v.ns e.nsid) e.nsid
    else if cns_of e == CNS_CONTROLLER then controller_page c v.offers
    else if cns_of e == CNS_ACTIVE_LIST then active_list_page v e.nsid
    else if cns_of e == CNS_DESCRIPTORS then descriptor_page (v.ns e.nsid)
    else zeros PAGE
