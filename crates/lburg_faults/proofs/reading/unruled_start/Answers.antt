use Rattle.std.proofs.Common.{refl, sym, subst, ◌∙◌}
use Rattle.std.proofs.lemmas.Option.{same_Some}
use Rattle.lcc_text.specs.Names.{bytes_of}
use Rattle.lburg_faults.specs.declared.known.StartSymbol.{StartSymbol}
use Rattle.lburg_faults.specs.Terminals.{Among}
use Rattle.lburg_faults.proofs.TextNames.{found, found_none}
use Rattle.lburg_faults.proofs.reading.unruled_start.Goals as goal

pub returns-in-Some-clause-none : goal.returns-in-Some-clause-none
returns-in-Some-clause-none c = λ s e.
    let P : StartSymbol → Type 0 = λ t. Among t.name.now (bytes_of c.args.lefts.now) in
    subst P (same_Some c.in_ok-start.start s (sym c.in_ok-start.was ∙ e)) (found (bytes_of c.args.lefts.now) c.in_ok-start.start.name.now c.find.result _ c.find.ensures c.in-Some.is)

pub returns-in-None-clause-some : goal.returns-in-None-clause-some
returns-in-None-clause-some c = (c.in_ok-start.start, c.in_ok-start.was, refl, found_none (bytes_of c.args.lefts.now) c.in_ok-start.start.name.now c.find.result c.find.ensures c.in-None.is)
