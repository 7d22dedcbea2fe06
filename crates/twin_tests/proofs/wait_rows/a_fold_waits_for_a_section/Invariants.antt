use Rattle.twin_tests.proofs.wait_rows.a_fold_waits_for_a_section.Given as goal

abbrev pub ghosts-fold_beside_a_section : goal.ghosts-fold_beside_a_section
ghosts-fold_beside_a_section g a = record { name = a.blank.name; parts = 5 }
