use Rattle.edit_words.proofs.Controls.{controls_change, controls_turn, connects_leave, raised_keeps}
use Rattle.edit_words.proofs.law.controls_turn_readiness.Goals as goal

pub returns-clause-changed : goal.returns-clause-changed
returns-clause-changed c = controls_change

pub returns-clause-turned : goal.returns-clause-turned
returns-clause-turned c = controls_turn

pub returns-clause-unbound : goal.returns-clause-unbound
returns-clause-unbound c = connects_leave

pub returns-clause-stamps : goal.returns-clause-stamps
returns-clause-stamps c = raised_keeps
