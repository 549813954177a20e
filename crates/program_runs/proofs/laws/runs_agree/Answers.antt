use Rattle.program_runs.proofs.lemmas.Points.{agrees}
use Rattle.program_runs.proofs.lemmas.Counted.{counted_agrees}
use Rattle.program_runs.proofs.laws.runs_agree.Goals as goal

pub returns-clause-reached : goal.returns-clause-reached
returns-clause-reached g c = λ step start stack other turns at whole. agrees step start stack other turns at whole

pub returns-clause-counted : goal.returns-clause-counted
returns-clause-counted g c = λ program name p run room stack meant a. counted_agrees program name p run room stack meant a
