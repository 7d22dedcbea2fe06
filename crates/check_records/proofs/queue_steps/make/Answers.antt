use Rattle.std.proofs.Common.{sym, subst}
use Rattle.run_records.specs.declared.records.Kind.{Kind}
use Rattle.run_records.specs.declared.records.Kind.TheVariants as kinds
use Rattle.plan_files.specs.declared.capsules.Capsule as program
use Rattle.plan_files.specs.Capsules.{IsWholeIn}
use Rattle.check_records.specs.Cursors.{CanMake, HasMade}
use Rattle.check_records.proofs.Stepping.{made_as, submit_is, payload_is, execute_is, control_is, control_len, length_payload, holds_by}
use Rattle.check_records.proofs.queue_steps.make.Goals as goal

pub returns-in-Submit-clause-does : goal.returns-in-Submit-clause-does
returns-in-Submit-clause-does c =
    let f = c.args.file.now in
    let n = c.args.step.now.number in
    let can : CanMake kinds.Submit c.args.target.now c.args.queue n f = subst (λ (k : Kind). CanMake k c.args.target.now c.args.queue n f) c.in-Submit.is c.requires.can in
    made_as _ _ _ _ _ _ (submit_is c.args.queue c.args.taken f c.args.step.now.kind n c.index-capsule.result.now c.in-Submit.is can.1 c.index-capsule.ensures) c.submit.ensures.does

pub returns-in-Submit-clause-made : goal.returns-in-Submit-clause-made
returns-in-Submit-clause-made c =
    let f = c.args.file.now in
    let n = c.args.step.now.number in
    let x = c.index-capsule.result.now in
    let can : CanMake kinds.Submit c.args.target.now c.args.queue n f = subst (λ (k : Kind). CanMake k c.args.target.now c.args.queue n f) c.in-Submit.is c.requires.can in
    let whole : IsWholeIn f.bytes.items x = subst (λ (y : program.Capsule). IsWholeIn f.bytes.items y) (sym c.index-capsule.ensures) (c.requires.file.whole n x can.1) in
    let made : HasMade kinds.Submit c.submit.result c.submit.new.target c.args.queue n f =
    holds_by c.submit.result c.submit.new.target c.args.queue n _ _ _ c.submit.ensures.held c.submit.ensures.answered (length_payload f n x can.1 c.index-capsule.ensures whole) in
    subst (λ (k : Kind). HasMade k c.submit.result c.submit.new.target c.args.queue n f) (sym c.in-Submit.is) made

pub returns-in-Execute-clause-does : goal.returns-in-Execute-clause-does
returns-in-Execute-clause-does c =
    let f = c.args.file.now in
    let n = c.args.step.now.number in
    let can : CanMake kinds.Execute c.args.target.now c.args.queue n f = subst (λ (k : Kind). CanMake k c.args.target.now c.args.queue n f) c.in-Execute.is c.requires.can in
    let p = payload_is f n c.index.result.now c.deref.result.now c.payload_of-payload.result.now can.2 c.index.ensures c.deref.ensures.value c.payload_of-payload.ensures.value in
    made_as _ _ _ _ _ _ (execute_is c.args.queue c.args.taken f c.args.step.now.kind n c.payload_of-payload.result.now c.in-Execute.is p) c.execute.ensures.does

pub control-requires-clause-payload : goal.control-requires-clause-payload
control-requires-clause-payload c = λ to. control_len c.index-capsule-in-Control.result.now.sqe _ c.payload_of-payload-in-Control.ensures.len to

pub returns-in-Control-clause-does : goal.returns-in-Control-clause-does
returns-in-Control-clause-does c =
    let f = c.args.file.now in
    let n = c.args.step.now.number in
    let can : CanMake kinds.Control c.args.target.now c.args.queue n f = subst (λ (k : Kind). CanMake k c.args.target.now c.args.queue n f) c.in-Control.is c.requires.can in
    let p = payload_is f n c.index-capsule-in-Control.result.now c.deref-in-Control.result.now c.payload_of-payload-in-Control.result.now can.1 c.index-capsule-in-Control.ensures c.deref-in-Control.ensures.value c.payload_of-payload-in-Control.ensures.value in
    made_as _ _ _ _ _ _ (control_is c.args.queue c.args.taken f c.args.step.now.kind n c.index-capsule-in-Control.result.now c.payload_of-payload-in-Control.result.now c.in-Control.is can.1 c.index-capsule-in-Control.ensures p) c.control.ensures.does
