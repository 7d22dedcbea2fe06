-- All files of a run, by those of its plan.
use Rattle.std.proofs.Common.{ℕ, List, Ok, Err, refl, sym, subst, inl, inr}
use Rattle.plan_files.specs.declared.items.Plan.{Plan}
use Rattle.run_outcomes.specs.declared.numbers.TheConstants.{PLAN}
use Rattle.run_outcomes.specs.declared.faults.Fault.{Fault}
use Rattle.run_outcomes.specs.declared.faults.Fault.TheVariants as fault
use Rattle.run_outcomes.specs.Outsides.{FilesView}
use Rattle.run_inputs.specs.Gives.{PlanBegins}
use Rattle.run_inputs.specs.InputFiles.{input_files}
use Rattle.run_inputs.specs.Known.{begun}
use Rattle.run_inputs.specs.Reading.{ReadsSo, Reading, ReadsAll}
use Rattle.run_inputs.specs.Ready.{ReadsRest, ReadsInputs}
use Rattle.run_inputs.specs.Stages.{StoppedIn}
use Rattle.run_inputs.specs.Views.{IsEarlier}
use Rattle.run_inputs.proofs.Walking.{walk_was}
use Rattle.run_inputs.specs.declared.inputs.PlanInputs.{PlanInputs}

-- a plan that was not read
pub plan_ends : (before after : FilesView) (name : List ℕ) (f : Fault)
    → Reading before after PLAN name PlanBegins (Err f) → ReadsAll before after name (Err f)
plan_ends before after name f h = (Err f, h, refl)

-- a file that a plan names was not read
pub rest_ends : (before mid after : FilesView) (name : List ℕ) (plan : Plan) (f : Fault)
    → ReadsSo before.told name PlanBegins (Ok (begun plan)) → IsEarlier before mid
    → StoppedIn mid after (input_files plan) (begun plan) f → ReadsAll before after name (Err f)
rest_ends before mid after name plan f h later stops = elim stops [
  | inl memory ↦
      subst (λ (e : Fault). ReadsAll before after name (Err e)) (sym memory) (
        Err fault.Memory,
        tt,
        refl,
      )
  | inr rest ↦ (Ok (begun plan), h, rest before later)
]

-- all files were read
pub rest_goes : (before mid after : FilesView) (name : List ℕ) (plan : Plan) (i : PlanInputs)
    → ReadsSo before.told name PlanBegins (Ok (begun plan)) → IsEarlier before mid
    → (rest : ReadsRest mid plan i) → ReadsAll before after name (Ok rest.known)
rest_goes before mid after name plan i h later rest = (
  Ok (begun plan),
  h,
  rest.read before after later,
)

pub rest_read : (before mid : FilesView) (name : List ℕ) (plan : Plan) (i : PlanInputs)
    → ReadsSo before.told name PlanBegins (Ok (begun plan)) → IsEarlier before mid
    → ReadsRest mid plan i → ReadsInputs before.told name (record {
      plan = plan;
      target = i.target;
      passed_over = i.passed_over;
      script = i.script;
      files = i.files;
    })
rest_read before mid name plan i h later rest = record {
  known = rest.known;
  plan_is = rest.plan_is;
  holds = rest.holds;
  was_read = (
    Ok (begun plan),
    h,
    walk_was before before (input_files plan) (begun plan) rest.known
        (rest.read before before later),
  );
}
