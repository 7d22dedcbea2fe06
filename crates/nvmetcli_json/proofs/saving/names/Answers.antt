use Rattle.std.proofs.Common.{◌∙◌}
use Rattle.std.specs.FinMap as maps
use Rattle.std.specs.Map.Iter.{deref}
use Rattle.std.proofs.lemmas.Map.Iter.{iter_end}
use Rattle.serde_json.specs.Data.{string}
use Rattle.nvmetcli_json.specs.Saving.{names_data}
use Rattle.nvmetcli_json.proofs.Shown.{all_shown, shown_on}
use Rattle.nvmetcli_json.proofs.saving.names.Goals as goal

pub loop-nqn-preserved : goal.loop-nqn-preserved
loop-nqn-preserved c = rw c.in_ok-push.ensures.items
    (shown_on deref string c.loop-nqn.yielded c.in-Some.nqn c.loop-nqn.shown.items
    c.in_ok-value.value c.in_ok-value.ensures c.loop-nqn.invariant)

pub returns : goal.returns
unfolding names_data
returns c =
    let stop = iter_end deref
    (maps.keys c.args.rows.now) c.loop-nqn.yielded c.into_iter-nqn-iterator.result
    c.loop-nqn.nqn-iterator c.next.new.self c.next.result
    (c.into_iter-nqn-iterator.ensures.into_iter_gives ∙ c.iter-nqn-items.ensures)
    c.loop-nqn.yielded_by c.in-None.is c.next.ensures.steps in
    all_shown deref string c.loop-nqn.yielded c.loop-nqn.shown
    (maps.keys c.args.rows.now) stop.0 c.loop-nqn.invariant
