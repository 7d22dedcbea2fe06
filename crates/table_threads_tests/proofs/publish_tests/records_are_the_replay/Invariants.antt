use Rattle.table_threads_tests.proofs.publish_tests.records_are_the_replay.Given as goal

abbrev pub ghosts-run_all-L-Ledger : goal.ghosts-run_all-L-Ledger
ghosts-run_all-L-Ledger g a = record { name = a.blank.name; parts = 5 }

abbrev pub ghosts-run_all-K-Ledger : goal.ghosts-run_all-K-Ledger
ghosts-run_all-K-Ledger g a = record { name = a.other.name; parts = 5 }

abbrev pub ghosts-run_all-E-Ledger : goal.ghosts-run_all-E-Ledger
ghosts-run_all-E-Ledger g a = record { name = a.editors.name; parts = 5 }
