use Rattle.std.proofs.Common.{◌≡◌, length, arith}
use Rattle.run_inputs.proofs.Parsing.{input_refused, capsules_refused, output_refused, all_counted}
use Rattle.run_inputs.proofs.queue_files.count_capsules.Goals as goal

pub returns-in-Err-clause-exact : goal.returns-in-Err-clause-exact
returns-in-Err-clause-exact c =
    let len : c.len.result ≡ length c.args.bytes.items = omega (arith, c.len.ensures) in
    input_refused c.args.file c.args.before c.args.room c.len.result c.args.bytes.items
    c.in-Err.fault len c.in-Err.ensures.exact

pub returns-in-Err-parse_capsules-clause-exact : goal.returns-in-Err-parse_capsules-clause-exact
returns-in-Err-parse_capsules-clause-exact c =
    let len : c.len.result ≡ length c.args.bytes.items = omega (arith, c.len.ensures) in
    capsules_refused c.args.file c.args.before c.args.room c.len.result c.in-Ok.input
    c.args.bytes.items c.in-Err-parse_capsules.fault len c.in-Ok.ensures.exact
    (rw c.deref.ensures.value at c.in-Err-parse_capsules.ensures.exact)

pub returns-in-Err-count_within-clause-exact : goal.returns-in-Err-count_within-clause-exact
returns-in-Err-count_within-clause-exact c =
    let len : c.len.result ≡ length c.args.bytes.items = omega (arith, c.len.ensures) in
    output_refused c.args.file c.args.before c.args.room c.len.result c.in-Ok.input
    c.args.bytes.items c.in-Ok-parse_capsules.read.capsules.items
    c.in-Ok-parse_capsules.read.room c.in-Err-count_within.fault len c.in-Ok.ensures.exact
    (rw c.deref.ensures.value at c.in-Ok-parse_capsules.ensures.exact)
    c.in-Ok-parse_capsules.ensures.room c.in-Err-count_within.ensures.exact

pub returns-clause-exact : goal.returns-clause-exact
returns-clause-exact c =
    let len : c.len.result ≡ length c.args.bytes.items = omega (arith, c.len.ensures) in
    all_counted c.args.file c.args.before c.args.room c.len.result c.in-Ok.input
    c.in-Ok-count_within.output c.args.bytes.items c.in-Ok-parse_capsules.read.capsules.items
    c.in-Ok-parse_capsules.read.room len c.in-Ok.ensures.exact
    (rw c.deref.ensures.value at c.in-Ok-parse_capsules.ensures.exact)
    c.in-Ok-parse_capsules.ensures.room c.in-Ok-count_within.ensures.exact
