use Rattle.lcc_base.specs.Prefixes.{output_starts, depth_starts}
use Rattle.forests.proofs.lemmas.Begun.{call_begins}
use Rattle.forests.proofs.lemmas.Further.{call_further}
use Rattle.forests.proofs.laws.runs_go_further.Goals as goal

pub returns-clause-begins : goal.returns-clause-begins
returns-clause-begins c = call_begins

pub returns-clause-further : goal.returns-clause-further
returns-clause-further c = call_further

pub returns-clause-output : goal.returns-clause-output
returns-clause-output c = output_starts

pub returns-clause-depth : goal.returns-clause-depth
returns-clause-depth c = depth_starts
