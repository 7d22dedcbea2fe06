use Rattle.run_inputs.proofs.Parsing.{script_reads, script_stops, no_script}
use Rattle.run_inputs.proofs.script_file.read_named_script.Goals as goal

pub returns-in-Ok-clause-read : goal.returns-in-Ok-clause-read
returns-in-Ok-clause-read g c =
    let name = rw c.unwrap-name.ensures at c.as_text.ensures.value in
    script_reads (λ v. v.items) _ _ c.in-Ok.bytes.items _ (rw name at c.in-Ok.ensures.told)
    (rw c.deref.ensures.value at c.parse_script.ensures.exact)

pub returns-in-Ok-clause-refused : goal.returns-in-Ok-clause-refused
returns-in-Ok-clause-refused g c =
    let name = rw c.unwrap-name.ensures at c.as_text.ensures.value in
    script_stops (λ v. v.items) _ _ _ c.in-Ok.bytes.items _ (rw name at c.in-Ok.ensures.told)
    (rw c.deref.ensures.value at c.parse_script.ensures.exact)

pub returns-in-Err-clause-refused : goal.returns-in-Err-clause-refused
returns-in-Err-clause-refused g c =
    let name = rw c.unwrap-name.ensures at c.as_text.ensures.value in
    no_script _ _ _ c.in-Err.fault (rw name at c.in-Err.ensures.refused)
