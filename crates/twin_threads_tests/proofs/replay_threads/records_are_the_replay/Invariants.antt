use Rattle.twin_threads_tests.proofs.replay_threads.records_are_the_replay.Given as goal

abbrev pub ghosts-run_all-A-Ledger : goal.ghosts-run_all-A-Ledger
ghosts-run_all-A-Ledger g a = record { name = a.first.name; parts = 5 }

abbrev pub ghosts-run_all-B-Ledger : goal.ghosts-run_all-B-Ledger
ghosts-run_all-B-Ledger g a = record { name = a.second.name; parts = 5 }

abbrev pub ghosts-run_all-C-Ledger : goal.ghosts-run_all-C-Ledger
ghosts-run_all-C-Ledger g a = record { name = a.third.name; parts = 5 }

abbrev pub ghosts-run_all-D-Ledger : goal.ghosts-run_all-D-Ledger
ghosts-run_all-D-Ledger g a = record { name = a.fourth.name; parts = 5 }

abbrev pub ghosts-run_all-E-Ledger : goal.ghosts-run_all-E-Ledger
ghosts-run_all-E-Ledger g a = record { name = a.fifth.name; parts = 5 }
