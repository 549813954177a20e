use Rattle.input_parts.proofs.lemmas.PartedOnce.{parted_once}
use Rattle.input_parts.proofs.laws.one_parting.Goals as goal

pub returns : goal.returns
returns c = parted_once
