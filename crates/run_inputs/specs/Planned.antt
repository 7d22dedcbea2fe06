-- What a run may rely on of a plan that was read.
use Rattle.std.specs.Prelude.{◌≡◌, ℕ, Bool, true, false, List, All, None, IfSome, IsSome, IsUtf8}
use Rattle.plan_files.specs.declared.items.Plan.{Plan}
use Rattle.plan_files.specs.Plans.{IsPlan}
use Rattle.tree_target.specs.PlanDisks.{FitsTarget}

-- the names of the files that a plan names are texts
pub record HasTextNames (plan : Plan) : Type 0 where
  pub config : IfSome plan.config (λ name. IsUtf8 name)
  pub script : IfSome plan.script (λ name. IsUtf8 name)
  pub journal : IfSome plan.journal (λ name. IsUtf8 name)
  pub queues : All (λ q. IsUtf8 q.capsules × IsUtf8 q.responses) plan.queues

-- a simple plan has no configuration, and another one has one
abbrev pub HasStart : Bool → Plan → Type 0
HasStart true plan = plan.config ≡ None
HasStart false plan = IsSome plan.config

-- A plan is spelled in some bytes, fits a target, names its files by texts, and has a start.
pub record IsPlanned (plan : Plan) : Type 0 where
  pub bytes : List ℕ
  pub spelled : IsPlan bytes plan
  pub fits : FitsTarget plan
  pub names : HasTextNames plan
  pub start : HasStart plan.simple plan
