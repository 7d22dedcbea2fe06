use Rattle.std.proofs.Common.{◌≡◌, ◌<◌, ◌≤◌, List, length, get_or, refl, ap, subst, ◌∙◌}
use Rattle.plan_files.specs.declared.capsules.Capsule as program
use Rattle.run_transcript.specs.Turns.{is_admin_at}
use Rattle.plan_files.specs.Capsules as plan
use Rattle.check_records.proofs.Nexts.{first_poll, first_control, first_submit, capsule_is}
use Rattle.check_records.proofs.cursor.first_step.Goals as goal

pub returns-in_default-clause-next : goal.returns-in_default-clause-next
returns-in_default-clause-next c = λ t st.
    let le : length c.args.file.now.capsules.items ≤ c.args.taken = subst (λ (l : List program.Capsule). length l ≤ c.args.taken) c.deref.ensures.value c.in_default.ensures.lookup.3 in
    first_poll c.args.target.now t c.args.queue c.args.taken c.args.file.now c.poll.result st le c.poll.ensures

pub returns-then-capsule-eq-FABRICS-clause-next : goal.returns-then-capsule-eq-FABRICS-clause-next
returns-then-capsule-eq-FABRICS-clause-next c = λ t st.
    let lt : c.args.taken < length c.args.file.now.capsules.items = subst (λ (l : List program.Capsule). c.args.taken < length l) c.deref.ensures.value c.in-Some.ensures.lookup.3.0 in
    let is : c.in-Some.capsule.now ≡ get_or c.args.file.now.capsules.items c.args.taken c.in-Some.capsule.now = subst (λ (l : List program.Capsule). c.in-Some.capsule.now ≡ get_or l c.args.taken c.in-Some.capsule.now) c.deref.ensures.value (c.in-Some.ensures.lookup.3.1 _) in
    first_control (is_admin_at t c.args.queue) c.args.queue c.args.taken c.args.file.now c.in-Some.capsule.now lt is c.if-capsule-eq-FABRICS.true

pub returns-then-capsule-eq-FABRICS-clause-step : goal.returns-then-capsule-eq-FABRICS-clause-step
returns-then-capsule-eq-FABRICS-clause-step c =
    let lt : c.args.taken < length c.args.file.now.capsules.items = subst (λ (l : List program.Capsule). c.args.taken < length l) c.deref.ensures.value c.in-Some.ensures.lookup.3.0 in
    let is : c.in-Some.capsule.now ≡ get_or c.args.file.now.capsules.items c.args.taken c.in-Some.capsule.now = subst (λ (l : List program.Capsule). c.in-Some.capsule.now ≡ get_or l c.args.taken c.in-Some.capsule.now) c.deref.ensures.value (c.in-Some.ensures.lookup.3.1 _) in
    record {
      kind_is = (lt, ap (λ (x : plan.Capsule). x.entry.opcode) (capsule_is c.args.file.now c.args.taken c.in-Some.capsule.now lt is) ∙ c.if-capsule-eq-FABRICS.true);
      number_is = refl;
    }

pub returns-else-capsule-eq-FABRICS-clause-next : goal.returns-else-capsule-eq-FABRICS-clause-next
returns-else-capsule-eq-FABRICS-clause-next c = λ t st.
    let lt : c.args.taken < length c.args.file.now.capsules.items = subst (λ (l : List program.Capsule). c.args.taken < length l) c.deref.ensures.value c.in-Some.ensures.lookup.3.0 in
    let is : c.in-Some.capsule.now ≡ get_or c.args.file.now.capsules.items c.args.taken c.in-Some.capsule.now = subst (λ (l : List program.Capsule). c.in-Some.capsule.now ≡ get_or l c.args.taken c.in-Some.capsule.now) c.deref.ensures.value (c.in-Some.ensures.lookup.3.1 _) in
    first_submit (is_admin_at t c.args.queue) c.args.queue c.args.taken c.args.file.now c.in-Some.capsule.now lt is c.if-capsule-eq-FABRICS.false
