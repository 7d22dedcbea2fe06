-- A run of a plan by its name.
use Rattle.std.proofs.Common.{◌≡◌, ℕ, List, Ok, ◌∙◌}
use Rattle.plan_files.specs.declared.items.Plan.{Plan}
use Rattle.run_outcomes.specs.Outsides.{Told}
use Rattle.run_inputs.specs.Gives.{PlanBegins}
use Rattle.run_inputs.specs.Known.{Known, begun}
use Rattle.run_inputs.specs.Reading.{ReadsSo, RestWasRead}
use Rattle.run_prints.specs.Prints.{Makes}
use Rattle.nvmet_run.specs.Made.{MakesPlan}

pub makes_plan : (told : Told) (name : List ℕ) (plan : Plan) (s : Known)
    (records : List (List ℕ)) (written text : List ℕ) → s.plan ≡ plan → RestWasRead told plan s
    → Makes s records written text → ReadsSo told name PlanBegins (Ok (begun plan))
    → MakesPlan told name plan records written text
makes_plan told name plan s records written text same read m plan_read = record {
  run = m.run;
  plan_is = m.of.plan ∙ same;
  made = record {
    read = record {
      known = s;
      was_read = (Ok (begun plan), plan_read, read);
      plan = m.of.plan;
      start = m.of.start;
      passed_over = m.of.passed_over;
      script = m.of.script;
      files = m.of.files;
    };
    ordered = m.ordered;
    served = m.served;
    legal = m.legal;
  };
  printed = m.printed;
}
