use Rattle.std.proofs.Common.{sym, ◌∙◌}
use Rattle.lcc_text.specs.Names.{bytes_of}
use Rattle.lburg_grammar.proofs.ResolvePatternPlaces.{known_leaf}
use Rattle.lburg_grammar.proofs.resolved_rule.+pattern_of.Goals as goal

pub place_in-requires : goal.place_in-requires
place_in-requires t c = known_leaf (bytes_of c.args.terminals.now) (bytes_of c.args.nonterminals.now) c.args.tree.now c.in-Leaf.name (sym c.in-Leaf.is) (sym c.find.ensures ∙ c.in-None.is) c.requires.known
