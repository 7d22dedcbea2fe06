use Rattle.std.proofs.Common.{refl}
use Rattle.gen_files.specs.Contents.{contents}
use Rattle.gen_files.proofs.made.make_files.Goals as goal

pub returns-clause-value : goal.returns-clause-value
unfolding contents
returns-clause-value c = rw (
  c.in_ok-vec.ensures.items,
  c.in_ok-plan.ensures.value,
  c.in_ok-configuration.ensures.value,
  c.in_ok-script.ensures.value,
  c.in_ok-admin.ensures.value,
  c.in_ok-first.ensures.value,
  c.in_ok-second.ensures.value,
  c.in_ok-third.ensures.value,
  c.in_ok-plan_text.ensures,
  c.name.ensures,
  c.in_ok-configuration_text.ensures,
  c.in_ok-script_text.ensures,
  c.in_ok-admin_queue.ensures,
) refl

pub returns-clause-text : goal.returns-clause-text
returns-clause-text c = rw c.in_ok-vec.ensures.items (
  c.in_ok-plan.ensures.text,
  (
    c.in_ok-configuration.ensures.text,
    (
      c.in_ok-script.ensures.text,
      (
        c.in_ok-admin.ensures.text,
        (
          c.in_ok-first.ensures.text,
          (c.in_ok-second.ensures.text, (c.in_ok-third.ensures.text, tt)),
        ),
      ),
    ),
  ),
)
