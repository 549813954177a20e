use Rattle.forests.specs.Budgets.{with_calls}
use Rattle.forests.specs.Meaning.{call_of}
use Rattle.forests.proofs.lemmas.SoundRuns.{evaluate_sound, calls_sound}
use Rattle.forests.proofs.lemmas.SoundUnits.{program_sound, main_sound}
use Rattle.forests.proofs.laws.runs_stay_sound.Goals as goal

pub returns-clause-trees : goal.returns-clause-trees
returns-clause-trees c = λ g s t p words env k. evaluate_sound (with_calls s (call_of g)) (calls_sound g words) env t p k

pub returns-clause-calls : goal.returns-clause-calls
returns-clause-calls c = λ g name p words k. calls_sound g words name p k

pub returns-clause-program : goal.returns-clause-program
returns-clause-program c = program_sound

pub returns-clause-main : goal.returns-clause-main
returns-clause-main c = main_sound
