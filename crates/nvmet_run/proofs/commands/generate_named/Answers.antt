use Rattle.std.proofs.Common.{subst}
use Rattle.gen_files.specs.Seeds.{Base}
use Rattle.run_gen.specs.Generated.{Generated}
use Rattle.run_outcomes.specs.Outsides.{told_by}
use Rattle.nvmet_run.specs.Answers.{base_of}
use Rattle.nvmet_run.proofs.Serving.{seed_as}
use Rattle.nvmet_run.proofs.commands.generate_named.Goals as goal

pub returns-in-Ok-Some-clause-fine : goal.returns-in-Ok-Some-clause-fine
returns-in-Ok-Some-clause-fine g c = λ is.
    let old = c.args.files.now in
    let new = c.generate_from.new.files in
    subst (λ (b : Base). Generated (told_by (g.F.Files.tells old) (g.F.Files.told old))
    (told_by (g.F.Files.tells new) (g.F.Files.told new)) (g.K.Sink.taken c.args.out.now)
    (g.K.Sink.taken c.generate_from.new.out) b)
    (seed_as c.in-Ok-Some.field-0 (base_of c.args.n c.args.name.now) c.in-Ok-Some.seed c.in-Ok-Some.field-0-is
    c.in-Ok-Some.ensures.seed) (c.generate_from.ensures.fine is)
