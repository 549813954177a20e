use Rattle.std.proofs.Common.{inl, inr}
use Rattle.std.proofs.lemmas.Result.{err_from_is_err_and}
use Rattle.lburg_grammar.proofs.FaultNone.{no_fault, checked_fine}
use Rattle.lburg_grammar.proofs.ResolveText.{is_text, one_description}
use Rattle.lburg_grammar.proofs.description_text.read.Goals as goal

pub returns-in_err-checked-clause-only : goal.returns-in_err-checked-clause-only
returns-in_err-checked-clause-only c = λ d is.
    let p = err_from_is_err_and c.from_residual.result c.from_residual.ensures.1 in
    rw (p.1, p.2) (elim c.in_err-checked.ensures.fault [
      | inl m ↦ m
      | inr f ↦ absurd (no_fault d c.args.text.now _ c.one_text.ensures c.one_line.ensures c.one_tree.ensures is f)
    ])

pub returns-in-Ok-clause-found : goal.returns-in-Ok-clause-found
returns-in-Ok-clause-found c = is_text c.in_ok-checked.checked c.args.text.now c.in-Ok.description c.in_ok-checked.ensures.found c.in-Ok.ensures

pub returns-in-Ok-clause-one : goal.returns-in-Ok-clause-one
returns-in-Ok-clause-one c = λ d is.
    one_description c.one_text.ensures c.one_line.ensures c.args.text.now c.in-Ok.description d
    (is_text c.in_ok-checked.checked c.args.text.now c.in-Ok.description c.in_ok-checked.ensures.found c.in-Ok.ensures) is

pub returns-in-Ok-clause-fine : goal.returns-in-Ok-clause-fine
returns-in-Ok-clause-fine c = λ f x. checked_fine c.in_ok-checked.checked c.args.text.now f c.one_text.ensures c.in_ok-checked.ensures.found x
