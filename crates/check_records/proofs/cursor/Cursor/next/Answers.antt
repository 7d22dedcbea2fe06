use Rattle.std.proofs.Common.{◌≡◌, Bool, false, refl, sym, ap, ◌∙◌}
use Rattle.run_transcript.specs.Turns as turns
use Rattle.run_transcript.specs.Turns.{is_admin_at, next_by}
use Rattle.check_records.specs.declared.cursor.Stage.{Stage}
use Rattle.check_records.specs.Cursors.{capsules_of, stage_at}
use Rattle.check_records.proofs.Nexts.{admin_is, through_poll, holding_next}
use Rattle.check_records.proofs.cursor.Cursor.next.Goals as goal

pub returns-in-Holding-clause-next : goal.returns-in-Holding-clause-next
returns-in-Holding-clause-next c = λ t st.
    let q = c.args.queue in
    let n = c.args.self.now.taken in
    ap (λ (s : Stage). next_by (stage_at s) (is_admin_at t q) q (capsules_of c.args.file.now) n) c.in-Holding.is
    ∙ holding_next q n c.args.file.now (c.requires.some c.in-Holding.is) c.requires.inside

pub returns-then-is_admin-clause-next : goal.returns-then-is_admin-clause-next
returns-then-is_admin-clause-next c = λ t st.
    let q = c.args.queue in
    let n = c.args.self.now.taken in
    let both = through_poll c.args.target.now t q n c.args.file.now c.poll.result st c.if-is_admin.ensures c.poll.ensures (is_admin_at t q) refl in
    ap (λ (s : Stage). next_by (stage_at s) (is_admin_at t q) q (capsules_of c.args.file.now) n) c.in-Through.is
    ∙ ap (λ (b : Bool). next_by turns.Through b q (capsules_of c.args.file.now) n) both.0
    ∙ both.1

pub returns-else-is_admin-clause-next : goal.returns-else-is_admin-clause-next
returns-else-is_admin-clause-next c = λ t st.
    let q = c.args.queue in
    let n = c.args.self.now.taken in
    let file = capsules_of c.args.file.now in
    let admin : is_admin_at t q ≡ false = admin_is c.args.target.now t q st ∙ sym c.if-is_admin.ensures in
    let same : next_by turns.Through (is_admin_at t q) q file n ≡ next_by turns.Ready (is_admin_at t q) q file n =
    ap (λ (b : Bool). next_by turns.Through b q file n) admin ∙ sym (ap (λ (b : Bool). next_by turns.Ready b q file n) admin) in
    ap (λ (s : Stage). next_by (stage_at s) (is_admin_at t q) q file n) c.in-Through.is
    ∙ same
    ∙ c.first_step-in-Through.ensures.next t st
