use Rattle.table_travels_tests.proofs.place_tests.a_place_is_lent_and_all_is_gathered.Given as goal

abbrev pub ghosts-lend_and_gather-A-Ledger : goal.ghosts-lend_and_gather-A-Ledger
ghosts-lend_and_gather-A-Ledger g a = record { name = a.first.name; parts = 5 }

abbrev pub ghosts-lend_and_gather-B-Ledger : goal.ghosts-lend_and_gather-B-Ledger
ghosts-lend_and_gather-B-Ledger g a = record { name = a.second.name; parts = 5 }

abbrev pub ghosts-lend_and_gather-C-Ledger : goal.ghosts-lend_and_gather-C-Ledger
ghosts-lend_and_gather-C-Ledger g a = record { name = a.third.name; parts = 5 }
