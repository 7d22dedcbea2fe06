use Rattle.std.proofs.Common.{List, Result, subst}
use Rattle.response_files.specs.Responses.{Response, responses_in}
use Rattle.response_files.specs.ResponseReading.{Gives}
use Rattle.response_files.specs.declared.responses.RecordError.{RecordError}
use Rattle.response_files.proofs.Listing.{is_spelled, is_first, are_read, is_refused}
use Rattle.response_files.proofs.responses.read_responses.Goals as goal

pub returns-clause-spelled : goal.returns-clause-spelled
returns-clause-spelled c = is_spelled (λ v. responses_in c.args.bytes.now v.items)
    c.args.bytes.now c.all_records.result (record { each = λ k. (c.type_inv.bytes k).fits })
    c.all_records.ensures.exact

pub returns-clause-only : goal.returns-clause-only
returns-clause-only c = λ rs are.
    subst (λ (read : Result (List Response) RecordError). Gives (λ v. responses_in
    c.args.bytes.now v.items) c.all_records.result read) (are_read c.args.bytes.now rs are)
    c.all_records.ensures.exact

pub returns-clause-fault : goal.returns-clause-fault
returns-clause-fault c = is_first (λ v. responses_in c.args.bytes.now v.items)
    c.args.bytes.now c.all_records.result (record { each = λ k. (c.type_inv.bytes k).fits })
    c.all_records.ensures.exact

pub returns-clause-faults : goal.returns-clause-faults
returns-clause-faults c = λ offset m.
    subst (λ (read : Result (List Response) RecordError). Gives (λ v. responses_in
    c.args.bytes.now v.items) c.all_records.result read) (is_refused c.args.bytes.now offset m)
    c.all_records.ensures.exact
