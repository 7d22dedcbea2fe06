use Rattle.section_look_tests.proofs.section_tests.looks_in_sections_are_the_trees.Given as goal

abbrev pub ghosts-run-I-Patches : goal.ghosts-run-I-Patches
ghosts-run-I-Patches g a = record { opened = a.rows.items; patches = a.patches.now }

abbrev pub ghosts-run-L-Ledger : goal.ghosts-run-L-Ledger
ghosts-run-L-Ledger g a = record { name = a.blank.name; parts = 5 }
