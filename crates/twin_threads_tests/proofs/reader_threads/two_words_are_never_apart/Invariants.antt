use Rattle.twin_threads_tests.proofs.reader_threads.two_words_are_never_apart.Given as goal

abbrev pub ghosts-read_beside_edits-A-Ledger : goal.ghosts-read_beside_edits-A-Ledger
ghosts-read_beside_edits-A-Ledger g a = record { name = a.first.name; parts = 5 }

abbrev pub ghosts-read_beside_edits-B-Ledger : goal.ghosts-read_beside_edits-B-Ledger
ghosts-read_beside_edits-B-Ledger g a = record { name = a.second.name; parts = 5 }

abbrev pub ghosts-read_beside_edits-C-Ledger : goal.ghosts-read_beside_edits-C-Ledger
ghosts-read_beside_edits-C-Ledger g a = record { name = a.third.name; parts = 5 }
