use Rattle.table_steps_tests.proofs.parts_tests.another_seat_puts_the_last_hold.Given as goal

abbrev pub ghosts-put_elsewhere : goal.ghosts-put_elsewhere
ghosts-put_elsewhere g a = record { name = a.blank.name; parts = 5 }
