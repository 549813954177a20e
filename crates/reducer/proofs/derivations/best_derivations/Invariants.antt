use Rattle.reducer.proofs.derivations.best_derivations.Given as goal

abbrev pub ghosts-derive_all : goal.ghosts-derive_all
ghosts-derive_all g a = record { name = a.blank.name; parts = a.blank.parts }
