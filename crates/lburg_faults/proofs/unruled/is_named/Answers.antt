use Rattle.std.proofs.Common.{sym, ◌∙◌, inl, inr}
use Rattle.lcc_text.specs.Names.{bytes_of}
use Rattle.lburg_faults.proofs.TextNames.{found, found_some, found_none, found_not}
use Rattle.lburg_faults.proofs.unruled.is_named.Goals as goal

pub returns-in-Some-clause-yes : goal.returns-in-Some-clause-yes
returns-in-Some-clause-yes c = λ t. inl (found (bytes_of c.args.terminals.now) c.args.name.now c.find.result _ c.find.ensures c.in-Some.is)

pub returns-in-None-clause-yes : goal.returns-in-None-clause-yes
returns-in-None-clause-yes c = λ t. inr (found_some (bytes_of c.args.lefts.now) c.args.name.now c.find-in-None.result c.find-in-None.ensures (sym c.is_some.ensures ∙ t))

pub returns-in-None-clause-no : goal.returns-in-None-clause-no
returns-in-None-clause-no c = λ t h. elim h [
  | inl a ↦ found_none (bytes_of c.args.terminals.now) c.args.name.now c.find.result c.find.ensures c.in-None.is a
  | inr a ↦ found_not (bytes_of c.args.lefts.now) c.args.name.now c.find-in-None.result c.find-in-None.ensures (sym c.is_some.ensures ∙ t) a
]
