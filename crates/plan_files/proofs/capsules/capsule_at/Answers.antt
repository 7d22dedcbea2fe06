use Rattle.std.proofs.Common.{◌≡◌, Ok, drop, refl, ap, ◌∙◌, arith, length-drop}
use Rattle.std.proofs.lemmas.List.{drop-drop}
use Rattle.plan_files.specs.Capsules.{Capsule, capsule_of, capsule_in}
use Rattle.plan_files.proofs.Fitting.{Stands, next_is}
use Rattle.plan_files.proofs.capsules.capsule_at.Goals as goal

pub returns-clause-exact : goal.returns-clause-exact
returns-clause-exact c =
    let rest = drop c.args.at c.args.bytes.now in
    let len = length-drop c.args.at c.args.bytes.now in
    let stands : Stands c.args.room rest = record {
      short = rw (← c.entry_at-sqe.ensures, ← c.data_len-data_len.ensures.value)
          c.if-data_len-gt-MAX_TRANSFER.false;
      whole = rw (← c.entry_at-sqe.ensures, ← c.data_len-data_len.ensures.value)
          (omega (arith, len));
      roomy = rw (← c.entry_at-sqe.ensures, ← c.room_for.ensures.value)
          c.if-room-gt-MAX_OUTPUT.false;
    } in
    let same : capsule_of rest ≡ capsule_in c.args.bytes.now _ = rw (
      ← c.entry_at-sqe.ensures,
      ← c.data_len-data_len.ensures.value,
      drop-drop,
    ) refl in
    next_is c.args.at c.args.room rest stands ∙ ap (λ (x : Capsule). Ok x) same
