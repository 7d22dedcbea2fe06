use Rattle.twin_threads_tests.proofs.drain_threads.records_under_drains_are_the_replay.Given as goal

abbrev pub ghosts-drain_under_fire-A-Ledger : goal.ghosts-drain_under_fire-A-Ledger
ghosts-drain_under_fire-A-Ledger g a = record { name = a.first.name; parts = 5 }

abbrev pub ghosts-drain_under_fire-B-Ledger : goal.ghosts-drain_under_fire-B-Ledger
ghosts-drain_under_fire-B-Ledger g a = record { name = a.second.name; parts = 5 }

abbrev pub ghosts-drain_under_fire-C-Ledger : goal.ghosts-drain_under_fire-C-Ledger
ghosts-drain_under_fire-C-Ledger g a = record { name = a.third.name; parts = 5 }

abbrev pub ghosts-drain_under_fire-D-Ledger : goal.ghosts-drain_under_fire-D-Ledger
ghosts-drain_under_fire-D-Ledger g a = record { name = a.fourth.name; parts = 5 }
