use Rattle.call_tests.proofs.covers.labelled_uncounted.Given as goal

-- the ledger is the one of the blank
abbrev pub ghosts-labelled : goal.ghosts-labelled
ghosts-labelled g a = record { name = a.blank.name; parts = a.blank.parts }
