use Rattle.std.proofs.Common.{◌≡◌, ◌<◌, ℕ, suc, ◌+◌, length, get_or, Some, refl, sym, ap, subst, ◌∙◌, arith, true≢false}
use Rattle.tree_target.specs.Kept.{LeavesOthers}
use Rattle.journal_text.specs.declared.lines.JournalLine.{JournalLine}
use Rattle.std.specs.declared.option.Option.{Option}
use Rattle.check_records.specs.declared.seats.Responses.{Responses}
use Rattle.check_records.specs.Cursors.{capsules_of, IsReady}
use Rattle.check_records.specs.Seats.{AreRead, DeskSteps, IsBehindLine, index_of, seat_next, files_of, all_responses}
use Rattle.check_records.proofs.Replaying.{nobody, fault-order}
use Rattle.check_records.proofs.Seating.{place-goes}
use Rattle.check_records.proofs.Finding.{found, none_seat, nobody-here, goes-on, steps-as, behind-as, seated-more, all-seated, all-stay, desk-goes, desk-more, next-line}
use Rattle.check_records.proofs.replay.step_place.Goals as goal

pub step_seat-found-requires-clause-read : goal.step_seat-found-requires-clause-read
step_seat-found-requires-clause-read c =
    let q = c.in-Some.q in
    let lt : q < length c.args.responses.now = omega (arith, c.in-Some.ensures.found.0, c.requires.same, c.requires.seats) in
    subst (λ (x : Responses). AreRead x) (sym c.index-responses-q.is) (c.requires.read q c.index-responses-q.result lt)

pub step_seat-found-requires-clause-some : goal.step_seat-found-requires-clause-some
step_seat-found-requires-clause-some c =
    (found c.args.files.now c.args.responses.now c.args.seats.now c.in-Some.q c.args.place c.index-files-q.result c.index-responses-q.result none_seat
    c.in-Some.ensures.found.0 c.requires.same c.requires.seats c.index-files-q.is c.index-responses-q.is c.in-Some.ensures.found.1).inside

pub step_seat-found-requires-clause-ready : goal.step_seat-found-requires-clause-ready
step_seat-found-requires-clause-ready c =
    let q = c.in-Some.q in
    let x = found c.args.files.now c.args.responses.now c.args.seats.now q c.args.place c.index-files-q.result c.index-responses-q.result none_seat
    c.in-Some.ensures.found.0 c.requires.same c.requires.seats c.index-files-q.is c.index-responses-q.is c.in-Some.ensures.found.1 in
    let up : suc q ≡ q + 1 = omega arith in
    subst (λ (k : ℕ). IsReady k (capsules_of c.index-files-q.result) c.args.target.now (get_or c.args.seats.now q none_seat).cursor) up
    (c.requires.seated q _ _ _ x.file_at x.rs_at x.seat_at).ready

pub returns-clause-goes : goal.returns-clause-goes
returns-clause-goes c = λ n run told bounds lt laid st.
    let q = c.in-Some.q in
    let x = found c.args.files.now c.args.responses.now c.args.seats.now q c.args.place c.index-files-q.result c.index-responses-q.result none_seat
    c.in-Some.ensures.found.0 c.requires.same c.requires.seats c.index-files-q.is c.index-responses-q.is c.in-Some.ensures.found.1 in
    let down : q + 1 ≡ suc q = omega arith in
    let seated = c.requires.seated q _ _ _ x.file_at x.rs_at x.seat_at in
    place-goes n c.args.place run c.args.script.now (files_of c.args.files.now) (all_responses c.args.responses.now) c.args.journal.now
    (index_of c.args.desk.now.next c.args.seats.now) told laid lt c.args.target.now q _ _ x.rec (get_or c.args.seats.now q none_seat) c.args.bound
    x.file_at x.rs_at x.rec_at x.place (ap seat_next x.seat_at) seated bounds c.step_seat-found.result c.step_seat-found.new.target _ st
    (steps-as (q + 1) (suc q) _ _ _ c.args.place c.args.bound _ _ _ _ down x.rec_at c.step_seat-found.ensures.steps.steps)
    (λ none. goes-on c.args.desk.now.next c.args.seats.now q (get_or c.args.seats.now q none_seat) c.step_seat-found.new.seat c.in-Some.ensures.found.0 x.seat_at (c.step_seat-found.ensures.next none).next)

pub returns-clause-seated : goal.returns-clause-seated
returns-clause-seated c = λ none.
    let q = c.in-Some.q in
    let x = found c.args.files.now c.args.responses.now c.args.seats.now q c.args.place c.index-files-q.result c.index-responses-q.result none_seat
    c.in-Some.ensures.found.0 c.requires.same c.requires.seats c.index-files-q.is c.index-responses-q.is c.in-Some.ensures.found.1 in
    let down : q + 1 ≡ suc q = omega arith in
    let seated = c.requires.seated q _ _ _ x.file_at x.rs_at x.seat_at in
    let g = c.step_seat-found.ensures.next none in
    let ready : IsReady (suc q) (capsules_of c.index-files-q.result) c.step_seat-found.new.target c.step_seat-found.new.seat.cursor =
    subst (λ (k : ℕ). IsReady k (capsules_of c.index-files-q.result) c.step_seat-found.new.target c.step_seat-found.new.seat.cursor) down (c.step_seat-found.ensures.ready none) in
    let leaves : LeavesOthers (suc q) c.args.target.now c.step_seat-found.new.target =
    subst (λ (k : ℕ). LeavesOthers k c.args.target.now c.step_seat-found.new.target) down (c.step_seat-found.ensures.others none) in
    let mine = seated-more c.args.target.now c.step_seat-found.new.target q _ _ _ x.rec (get_or c.args.seats.now q none_seat) c.step_seat-found.new.seat seated x.rec_at ready g.next
    (behind-as (q + 1) (suc q) _ _ x.rec _ _ down x.rec_at g.progress) g.front g.earlier in
    all-seated c.args.target.now c.step_seat-found.new.target _ _ c.args.seats.now q _ _ c.step_seat-found.new.seat c.requires.seated leaves mine x.file_at x.rs_at c.in-Some.ensures.found.0

pub returns-in_default-clause-goes : goal.returns-in_default-clause-goes
returns-in_default-clause-goes c = λ n run told bounds lt laid st.
    fault-order n c.args.place run (index_of c.args.desk.now.next c.args.seats.now) laid lt
    (nobody n c.args.place run (index_of c.args.desk.now.next c.args.seats.now) laid
    (nobody-here n c.args.place run c.args.script.now c.args.files.now c.args.responses.now c.args.journal.now c.args.desk.now c.args.seats.now told c.requires.seats
    (λ h. true≢false (sym (c.is_editors.ensures.1 h) ∙ c.if-is_editors.false)) (c.in_default.ensures.none refl)))

pub returns-then-is_editors-clause-goes : goal.returns-then-is_editors-clause-goes
returns-then-is_editors-clause-goes c = λ n run told bounds lt laid st.
    let l = next-line c.args.journal.now c.args.desk.now c.args.place (c.is_editors.ensures.0 c.if-is_editors.true) in
    let steps : DeskSteps c.args.script.now (Some l.line) c.args.desk.now.cursor c.args.target.now c.in_ok-found.found c.step_desk.new.target =
    subst (λ (o : Option JournalLine). DeskSteps c.args.script.now o c.args.desk.now.cursor c.args.target.now c.in_ok-found.found c.step_desk.new.target) l.at c.in_ok-found.ensures.steps in
    desk-goes n c.args.place run c.args.script.now (files_of c.args.files.now) (all_responses c.args.responses.now) c.args.journal.now l.line c.args.desk.now c.step_desk.new.desk.next
    c.args.seats.now c.args.target.now c.step_desk.new.target c.in_ok-found.found told laid lt c.requires.desk l.at l.place st steps (λ none. (c.in_ok-found.ensures.next none).0)

pub returns-then-is_editors-clause-seated : goal.returns-then-is_editors-clause-seated
returns-then-is_editors-clause-seated c = λ none.
    all-stay c.args.target.now c.step_desk.new.target _ _ c.args.seats.now c.requires.seated (c.in_ok-found.ensures.others none)

pub returns-then-is_editors-clause-desk : goal.returns-then-is_editors-clause-desk
returns-then-is_editors-clause-desk c = λ none.
    let l = next-line c.args.journal.now c.args.desk.now c.args.place (c.is_editors.ensures.0 c.if-is_editors.true) in
    let next = c.in_ok-found.ensures.next none in
    let behind : IsBehindLine c.args.script.now (Some l.line) c.args.desk.now.cursor c.step_desk.new.desk.cursor =
    subst (λ (o : Option JournalLine). IsBehindLine c.args.script.now o c.args.desk.now.cursor c.step_desk.new.desk.cursor) l.at next.1 in
    desk-more c.args.script.now c.args.journal.now l.line c.args.desk.now c.step_desk.new.desk c.requires.desk l.at next.0 behind
