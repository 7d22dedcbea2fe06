use Rattle.table_steps_tests.proofs.execute_tests.an_execute_writes_both_extents.Given as goal

abbrev pub ghosts-write_twice : goal.ghosts-write_twice
ghosts-write_twice g a = record { name = a.blank.name; parts = 5 }
