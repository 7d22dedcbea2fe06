-- The wide target as a meaning of the running table.
use Rattle.std.specs.Prelude.{ℕ, List, refl}
use Rattle.table_rule.specs.declared.rule.Plan.{Plan}
use Rattle.table_rule.specs.Meant.{Meaning}
use Rattle.small_target.specs.declared.Wide.{Wide}
use Rattle.small_target.specs.Wide.{wide_held, wide_next, wide_lawful, wide_words, wide_touches, wide_stands, wide_start}
use Rattle.small_target.proofs.WideLaws as laws

abbrev pub wide_means : Meaning Wide ℕ ℕ ℕ ℕ
wide_means = record {
  start = wide_start;
  lawful = wide_lawful;
  next = wide_next;
  reply = λ t tag. 0;
  held = wide_held;
  words = wide_words;
  fixed = λ t. 0;
  desk = λ t. 0;
  commands = λ t. t.waiting;
  touches = wide_touches;
  stands = wide_stands;
  free = refl;
  held_is = laws.held_is;
  adds = laws.adds;
  leaves = laws.leaves;
  removes = laws.removes;
  executes = λ t tag two. (refl, refl);
  always = laws.always;
  stays = λ t tag near. refl;
}

-- a table of one disk, with one word a side
abbrev pub wide_plan : List ℕ → Plan
wide_plan quotas = record { quotas = quotas; disks = 1; slots = 8; rows = 1 }
