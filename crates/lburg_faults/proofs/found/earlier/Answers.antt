use Rattle.std.proofs.Common.{subst, Option}
use Rattle.lburg_faults.specs.declared.found.Found.{Found}
use Rattle.lburg_faults.specs.Scans.{Scanned, NameRows, UseRows}
use Rattle.lburg_faults.proofs.EndingFirst.{name_before}
use Rattle.lburg_faults.proofs.found.earlier.Goals as goal

pub returns-else-b-a-clause-first : goal.returns-else-b-a-clause-first
returns-else-b-a-clause-first c = λ s l bound r x y.
    name_before s l bound c.in-Some-Some.a c.in-Some-Some.b r c.if-b-a.false
    (subst (λ (o : Option Found). Scanned NameRows s l bound o) c.in-Some-Some.is-0 x)
    (subst (λ (o : Option Found). Scanned UseRows s l bound o) c.in-Some-Some.is-1 y)
