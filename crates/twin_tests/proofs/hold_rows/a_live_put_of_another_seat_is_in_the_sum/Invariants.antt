use Rattle.twin_tests.proofs.hold_rows.a_live_put_of_another_seat_is_in_the_sum.Given as goal

abbrev pub ghosts-put_elsewhere : goal.ghosts-put_elsewhere
ghosts-put_elsewhere g a = record { name = a.blank.name; parts = 5 }
