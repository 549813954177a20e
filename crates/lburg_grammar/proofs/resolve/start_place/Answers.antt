use Rattle.lcc_text.specs.Names.{bytes_of}
use Rattle.lburg_grammar.proofs.ResolveStarts.{start_known}
use Rattle.lburg_grammar.proofs.resolve.start_place.Goals as goal

pub returns-in-Some : goal.returns-in-Some
returns-in-Some c = start_known (bytes_of c.args.nonterminals.now) c.args.start c.in-Some.name c.in-Some.is c.place_in.result c.place_in.ensures
