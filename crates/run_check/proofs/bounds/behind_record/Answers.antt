use Rattle.std.proofs.Common.{sym}
use Rattle.run_check.proofs.Bounding.{adds_of, taken_behind}
use Rattle.run_check.proofs.bounds.behind_record.Goals as goal

pub returns-clause-adds : goal.returns-clause-adds
returns-clause-adds c =
    rw (sym c.is_final_poll-last.ensures) (adds_of c.is_final_poll-last.result c.args.record.now.head.place
    c.args.bound c.behind_unless-to.result c.behind_unless-to.ensures.last
    c.behind_unless-to.ensures.other)

pub returns-clause-progress : goal.returns-clause-progress
returns-clause-progress c = λ bytes queue file. rw c.reply_told.ensures at
    (c.advance.ensures.progress queue c.args.record.now.head.number file c.args.cursor.now.taken)

pub returns-clause-few : goal.returns-clause-few
returns-clause-few c = rw c.advance.ensures.at
    (taken_behind c.args.cursor.now c.args.record.now.head.kind c.reply_told.result)
