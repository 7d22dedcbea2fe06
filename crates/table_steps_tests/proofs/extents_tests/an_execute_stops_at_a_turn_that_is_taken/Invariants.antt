use Rattle.table_steps_tests.proofs.extents_tests.an_execute_stops_at_a_turn_that_is_taken.Given as goal

abbrev pub ghosts-write_three : goal.ghosts-write_three
ghosts-write_three g a = record { name = a.blank.name; parts = 5 }
