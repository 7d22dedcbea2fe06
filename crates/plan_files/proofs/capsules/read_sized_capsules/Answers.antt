use Rattle.std.proofs.Common.{List, Result, subst}
use Rattle.plan_files.specs.declared.capsules.CapsuleError.{CapsuleError}
use Rattle.plan_files.specs.Capsules.{Capsule, capsules_in}
use Rattle.plan_files.specs.CapsuleReading.{Gives}
use Rattle.plan_files.proofs.CapsuleFaulting.{is_fault, found_fault}
use Rattle.plan_files.proofs.Fitting.{found_spelled, found_within, are_read}
use Rattle.plan_files.proofs.capsules.read_sized_capsules.Goals as goal

pub returns-clause-spelled : goal.returns-clause-spelled
returns-clause-spelled c = found_spelled (λ s. capsules_in c.args.bytes.now s.capsules.items)
    c.args.bytes.now c.all_capsules.result c.all_capsules.ensures.exact

pub returns-clause-within : goal.returns-clause-within
returns-clause-within c = found_within (λ s. capsules_in c.args.bytes.now s.capsules.items)
    c.args.bytes.now c.all_capsules.result c.all_capsules.ensures.exact

pub returns-clause-fault : goal.returns-clause-fault
returns-clause-fault c = found_fault _ c.args.bytes.now c.all_capsules.result
    c.all_capsules.ensures.exact

pub returns-clause-faults : goal.returns-clause-faults
returns-clause-faults c = λ e first.
    subst (λ (read : Result (List Capsule) CapsuleError). Gives (λ s. capsules_in c.args.bytes.now
    s.capsules.items) c.all_capsules.result read) (is_fault c.args.bytes.now e first)
    c.all_capsules.ensures.exact

pub returns-clause-only : goal.returns-clause-only
returns-clause-only c = λ cs within are.
    subst (λ (read : Result (List Capsule) CapsuleError). Gives (λ s. capsules_in c.args.bytes.now
    s.capsules.items) c.all_capsules.result read) (are_read c.args.bytes.now cs are within)
    c.all_capsules.ensures.exact
