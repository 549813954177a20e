use Rattle.std.proofs.Common.{◌∙◌}
use Rattle.lcc_text.proofs.lemmas.Keys.{place_now}
use Rattle.lcc_text.proofs.names.find.Goals as goal

pub returns : goal.returns
returns c = c.get_index_of.ensures.index ∙ place_now c.args.name.now c.args.names.now.keys
