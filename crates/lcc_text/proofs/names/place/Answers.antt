use Rattle.std.proofs.Common.{◌∙◌, ap}
use Rattle.lcc_text.proofs.lemmas.Keys.{now, with_now, stored_now}
use Rattle.lcc_text.proofs.names.place.Goals as goal

pub returns-clause-names : goal.returns-clause-names
returns-clause-names c = ap now c.in_ok-place.ensures.keys ∙ with_now c.args.name c.args.names.now.keys

pub returns-clause-place : goal.returns-clause-place
returns-clause-place c = let h = c.in_ok-place.ensures.stored in stored_now c.args.name c.insert_full.new.self.keys c.in_ok-place.place h.0 h.1 h.2
