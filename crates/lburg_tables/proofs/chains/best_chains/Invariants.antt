use Rattle.lburg_tables.proofs.chains.best_chains.Given as goal

abbrev pub ghosts-best_of_each : goal.ghosts-best_of_each
ghosts-best_of_each a = record { name = a.blank.name; parts = a.blank.parts }
