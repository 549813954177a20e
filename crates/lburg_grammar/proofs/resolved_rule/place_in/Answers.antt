use Rattle.std.proofs.Common.{sym, ◌∙◌}
use Rattle.lcc_text.specs.Names.{bytes_of}
use Rattle.lcc_text.proofs.lemmas.Places.{place_none}
use Rattle.lburg_grammar.proofs.resolved_rule.place_in.Goals as goal

pub returns-in-None : goal.returns-in-None
returns-in-None c = absurd (place_none (bytes_of c.args.names.now) c.args.name.now c.requires.0 (sym c.find.ensures ∙ c.in-None.is) c.requires.1)
