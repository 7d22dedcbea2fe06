use Rattle.table_steps_tests.proofs.extents_tests.an_execute_over_three_extents_writes_two.Given as goal

abbrev pub ghosts-write_three : goal.ghosts-write_three
ghosts-write_three g a = record { name = a.blank.name; parts = 5 }
