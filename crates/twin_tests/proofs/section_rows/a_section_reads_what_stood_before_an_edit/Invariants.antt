use Rattle.twin_tests.proofs.section_rows.a_section_reads_what_stood_before_an_edit.Given as goal

abbrev pub ghosts-edit_beside_a_section : goal.ghosts-edit_beside_a_section
ghosts-edit_beside_a_section g a = record { name = a.blank.name; parts = 5 }
