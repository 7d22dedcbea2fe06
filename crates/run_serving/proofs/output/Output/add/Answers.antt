use Rattle.std.proofs.Common.{◌∙◌, refl}
use Rattle.run_serving.proofs.output.Output.add.Goals as goal

pub returns-clause-adds : goal.returns-clause-adds
returns-clause-adds c =
    let n = c.count.ensures.counts in
    record {
      records = c.count.ensures.same ∙ c.put_record.ensures.value ∙ rw c.head-head.ensures refl;
      counts = record {
        calls = n.calls;
        submitted = n.submitted;
        executed = n.executed;
        refused = n.refused;
        events = n.events;
        waiting = n.waiting;
        taken = n.taken;
        given = n.given;
      };
    }
