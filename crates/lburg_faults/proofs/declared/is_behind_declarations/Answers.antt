use Rattle.lburg_faults.proofs.DeclareText.{rules_declare_nothing}
use Rattle.lburg_faults.proofs.declared.is_behind_declarations.Goals as goal

pub returns-in-Rules-clause-yes : goal.returns-in-Rules-clause-yes
returns-in-Rules-clause-yes c = rw c.in-Rules.is (λ _. rules_declare_nothing)
