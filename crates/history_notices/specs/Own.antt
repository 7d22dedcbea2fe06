-- What a successful command of a controller's own is to its notices.
use Rattle.std.specs.Prelude.{◌==◌, ◌&&◌, if◌then◌else◌}
use Rattle.sqe_cqe.specs.declared.sqe.Sqe.{Sqe}
use Rattle.async_events.specs.declared.feature.TheConstants.{SET_FEATURES, ASYNC_EVENTS}
use Rattle.async_events.specs.Features.{feature_id, bit}
use Rattle.async_events.specs.Notices.{Mark, Reads, Configures, Passes}
use Rattle.log_pages.specs.Logs.{log_of, retains}
use Rattle.admin_commands.specs.declared.checks.TheConstants.{GET_LOG_PAGE}

-- a log read that doesn't retain, or new bits of Asynchronous Event Configuration
abbrev pub succeeded : Sqe → Mark
succeeded e =
    if e.opcode == GET_LOG_PAGE then (if retains e then Passes else Reads (log_of e))
    else if (e.opcode == SET_FEATURES) && (feature_id e == ASYNC_EVENTS)
    then Configures (bit 8 e.cdw11) (bit 11 e.cdw11)
    else Passes
