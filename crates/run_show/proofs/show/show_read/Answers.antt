use Rattle.std.proofs.Common.{inr}
use Rattle.run_show.proofs.Ending.{text_shown}
use Rattle.run_show.proofs.show.show_read.Goals as goal

pub returns-in-Ok-put_text-clause-shown : goal.returns-in-Ok-put_text-clause-shown
returns-in-Ok-put_text-clause-shown g c = λ name plan_read.
    text_shown _ _ _ _ name _ c.make_text.ensures.later (c.in-Ok.ensures.made name plan_read)
    (rw c.deref.ensures.value at c.in-Ok-put_text.ensures.took)

pub returns-in-Ok-clause-refused : goal.returns-in-Ok-clause-refused
returns-in-Ok-clause-refused g c = λ name plan_read.
    let refused = rw c.deref.ensures.value at c.in-Err-put_text.ensures.refused in
    inr (refused.0, _, c.in-Ok.ensures.made name plan_read, refused.1)
