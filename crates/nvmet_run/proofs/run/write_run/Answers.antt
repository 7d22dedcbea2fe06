use Rattle.nvmet_run.proofs.Known.{all_texts}
use Rattle.nvmet_run.proofs.run.write_run.Goals as goal

pub write_files-requires-clause-apart : goal.write_files-requires-clause-apart
write_files-requires-clause-apart g c =
    rw (c.as_slice-lines.ensures, c.deref.ensures.value, c.bytes-text.ensures.value)
    (c.plans_have_apart_names.ensures _ c.args.plan.now _ _ c.requires.spelled)

pub write_files-requires-clause-names : goal.write_files-requires-clause-names
write_files-requires-clause-names g c =
    rw c.as_slice-lines.ensures (all_texts _ c.requires.names.queues)
