use Rattle.table_steps_tests.proofs.drain_tests.a_drain_ends_with_its_last_hold.Given as goal

abbrev pub ghosts-drain_held : goal.ghosts-drain_held
ghosts-drain_held g a = record { name = a.blank.name; parts = 5 }
