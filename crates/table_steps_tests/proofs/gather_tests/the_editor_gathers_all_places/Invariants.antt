use Rattle.table_steps_tests.proofs.gather_tests.the_editor_gathers_all_places.Given as goal

abbrev pub ghosts-gather : goal.ghosts-gather
ghosts-gather g a = record { name = a.blank.name; parts = 5 }
