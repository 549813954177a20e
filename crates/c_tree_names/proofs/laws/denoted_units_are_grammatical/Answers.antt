use Rattle.std.proofs.Common.{None, subst}
use Rattle.c_lexer.specs.Tokens.{first_place}
use Rattle.c_tree_names.proofs.lemmas.Lexed.{lexemes_named}
use Rattle.c_tree_names.proofs.lemmas.Named.{AreNamed}
use Rattle.c_tree_names.proofs.lemmas.UnitsNamed.{unit_named}
use Rattle.c_tree_names.proofs.laws.denoted_units_are_grammatical.Goals as goal

pub returns : goal.returns
returns g = λ source u h. record { levels = h.denotes.fits.levels; names = unit_named u (subst AreNamed h.denotes.spelled (lexemes_named source first_place h.tokens h.placed None h.cut h.are)) }
