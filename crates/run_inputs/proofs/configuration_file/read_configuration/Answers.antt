use Rattle.run_inputs.proofs.Starting.{config_reads, config_stops, no_config}
use Rattle.run_inputs.proofs.configuration_file.read_configuration.Goals as goal

pub returns-in-Ok-clause-read : goal.returns-in-Ok-clause-read
returns-in-Ok-clause-read g c =
    let name = rw c.unwrap-name.ensures at c.as_text.ensures.value in
    config_reads c.args.plan.now _ _ c.in-Ok.bytes.items _ (rw name at c.in-Ok.ensures.told)
    c.in-Ok.ensures.short
    (rw c.deref.ensures.value at c.parse_configuration.ensures.started)

pub returns-in-Ok-clause-refused : goal.returns-in-Ok-clause-refused
returns-in-Ok-clause-refused g c =
    let name = rw c.unwrap-name.ensures at c.as_text.ensures.value in
    config_stops c.args.plan.now _ _ _ c.in-Ok.bytes.items _ (rw name at c.in-Ok.ensures.told)
    c.in-Ok.ensures.short
    (rw c.deref.ensures.value at c.parse_configuration.ensures.refused)

pub returns-in-Err-clause-refused : goal.returns-in-Err-clause-refused
returns-in-Err-clause-refused g c =
    let name = rw c.unwrap-name.ensures at c.as_text.ensures.value in
    no_config c.args.plan.now _ _ _ c.in-Err.fault (rw name at c.in-Err.ensures.refused)
