use Rattle.std.proofs.Common.{◌≡◌, ◌∙◌, sym, refl, true, arith, rules}
use Rattle.tree_target.specs.Kept.{is_admin_in}
use Rattle.run_serving.specs.Readiness.{capsules_of}
use Rattle.run_serving.proofs.Filing.{capsules-len, room_left}
use Rattle.run_serving.proofs.Nexts.{admin_kept}
use Rattle.run_serving.proofs.Polling.{no_polls, polls_begin, polls_ended, polls_go_on, polls_out}
use Rattle.run_serving.proofs.files.poll_to_end.Goals as goal

pub returns-then-not-is_admin-clause-serves : goal.returns-then-not-is_admin-clause-serves
returns-then-not-is_admin-clause-serves c = no_polls _ _ _ _ _
    (sym c.is_admin.ensures ∙ c.if-not-is_admin.true)

pub loop-polls-init : goal.loop-polls-init
loop-polls-init c =
    let admin : is_admin_in c.args.target.now c.args.queue ≡ true = sym c.is_admin.ensures
    ∙ c.if-not-is_admin.false in
    record {
      idle = c.requires.idle;
      queues = refl;
      admin = admin;
      few = omega (arith, c.requires.ready.few);
      room = room_left c.args.file.now c.args.output.now c.requires.ready;
      makes = polls_begin _ _ _ _ _ _ (omega arith) admin;
    }

pub returns-then-is_no_event-clause-serves : goal.returns-then-is_no_event-clause-serves
returns-then-is_no_event-clause-serves c =
    let f = c.args.file.now in
    polls_ended c.args.queue (capsules_of f) _ _ _ _ _ _ _ _ _ c.loop-polls.polls _ _
    c.loop-polls-test.true
    (omega (arith, capsules-len f.bytes.items f.capsules.items, c.len-taken.ensures))
    c.loop-polls.invariant.makes c.poll_one-reply.ensures.last
    (c.is_no_event.ensures.none c.if-is_no_event.true)

pub loop-polls-preserved : goal.loop-polls-preserved
loop-polls-preserved c =
    let f = c.args.file.now in
    let before = c.loop-polls.invariant in
    let after = c.poll_one-reply.ensures in
    record {
      idle = search rules;
      queues = after.others.queues ∙ before.queues;
      admin = admin_kept c.loop-polls.target c.poll_one-reply.new.target c.args.queue true after.bindings before.admin;
      few = omega (arith, after.calls, before.few);
      room = omega (arith, after.len, after.room, before.room, c.loop-polls-test.true);
      makes = polls_go_on c.args.queue (capsules_of f) _ _ _ _ _ _ _ _ _ c.loop-polls.polls _ _
          c.loop-polls-test.true
          (omega (arith, capsules-len f.bytes.items f.capsules.items, c.len-taken.ensures))
          before.makes after.last _ (omega arith)
          (c.is_no_event.ensures.event c.if-is_no_event.false after.replies);
    }

pub returns-clause-serves : goal.returns-clause-serves
returns-clause-serves c = polls_out _ _ _ _ _ _ _ _ _ c.loop-polls.polls
    (omega (arith, c.loop-polls-test.false)) c.loop-polls.invariant.makes
    (omega (arith, c.loop-polls-test.false, c.loop-polls.auto.polls-end))
