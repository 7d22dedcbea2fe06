use Rattle.edit_words.proofs.Identified.{edits_keep_identifiers, nothing_lacks, drains_keep_identifiers, controls_keep_identifiers}
use Rattle.edit_words.proofs.law.identifiers_are_kept.Goals as goal

pub returns-clause-edits : goal.returns-clause-edits
returns-clause-edits c = edits_keep_identifiers

pub returns-clause-start : goal.returns-clause-start
returns-clause-start c = nothing_lacks

pub returns-clause-drains : goal.returns-clause-drains
returns-clause-drains c = drains_keep_identifiers

pub returns-clause-controls : goal.returns-clause-controls
returns-clause-controls c = controls_keep_identifiers
