use Rattle.c_whole_fits.proofs.lemmas.Stored.{placed_of, whole_of}
use Rattle.c_whole_fits.proofs.laws.whole_initialisers_fit.Goals as goal

pub returns-clause-whole : goal.returns-clause-whole
returns-clause-whole g = λ u locals meant texts of ps p h t. whole_of u locals meant texts p of ps h t

pub returns-clause-placed : goal.returns-clause-placed
returns-clause-placed g = λ u locals n of ps h. placed_of u locals n of ps h
