use Rattle.table_steps_tests.proofs.section_tests.sections_have_places_in_order.Given as goal

abbrev pub ghosts-three_sections : goal.ghosts-three_sections
ghosts-three_sections g a = record { name = a.blank.name; parts = 5 }
