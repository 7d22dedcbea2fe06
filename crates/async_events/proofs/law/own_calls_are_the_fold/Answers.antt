use Rattle.async_events.proofs.Folds.{begins_fresh, request_waits, read_unmasks, poll_takes, poll_gives, bits_set}
use Rattle.async_events.proofs.law.own_calls_are_the_fold.Goals as goal

pub returns : goal.returns
returns c = record { begins = begins_fresh; request = request_waits; read = read_unmasks; poll = poll_takes; gives = poll_gives; bits = bits_set }
