use Rattle.table_steps_tests.proofs.turn_tests.a_turn_is_had_once.Given as goal

abbrev pub ghosts-three_tries : goal.ghosts-three_tries
ghosts-three_tries g a = record { name = a.blank.name; parts = 5 }
