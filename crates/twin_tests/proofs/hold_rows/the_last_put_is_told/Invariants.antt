use Rattle.twin_tests.proofs.hold_rows.the_last_put_is_told.Given as goal

abbrev pub ghosts-put_both : goal.ghosts-put_both
ghosts-put_both g a = record { name = a.blank.name; parts = 5 }
