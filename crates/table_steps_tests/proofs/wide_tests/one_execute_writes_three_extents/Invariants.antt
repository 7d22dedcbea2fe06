use Rattle.table_steps_tests.proofs.wide_tests.one_execute_writes_three_extents.Given as goal

abbrev pub ghosts-write_three : goal.ghosts-write_three
ghosts-write_three g a = record { name = a.blank.name; parts = 5 }
