use Rattle.table_travels_tests.proofs.counter_tests.another_threads_counter_goes_below_zero.Given as goal

abbrev pub ghosts-put_elsewhere-L-Ledger : goal.ghosts-put_elsewhere-L-Ledger
ghosts-put_elsewhere-L-Ledger g a = record { name = a.blank.name; parts = 5 }

abbrev pub ghosts-put_elsewhere-K-Ledger : goal.ghosts-put_elsewhere-K-Ledger
ghosts-put_elsewhere-K-Ledger g a = record { name = a.other.name; parts = 5 }
