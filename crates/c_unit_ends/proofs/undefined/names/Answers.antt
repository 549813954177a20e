use Rattle.std.proofs.Common.{map, sym, ap, ◌∙◌}
use Rattle.std.specs.Prelude.{None}
use Rattle.std.proofs.lemmas.Result.{IfErr-weaker, on_ok_weaker}
use Rattle.c_check_decl.specs.Declares.{linked_in}
use Rattle.c_check_expr.specs.Known.{state_of}
use Rattle.c_units.specs.Ends.{has_main, names_fault}
use Rattle.c_unit_ends.specs.NameFaults.{missing_in, other_in}
use Rattle.c_unit_ends.specs.Uses.{function_uses, object_uses}
use Rattle.c_unit_parts.specs.PartsIn.{function_in, parts_in}
use Rattle.c_unit_ends.proofs.FaultsTold.{told_on, told_same}
use Rattle.c_unit_ends.proofs.WholeNames.{called_fault, used_fault}
use Rattle.c_unit_ends.proofs.undefined.names.Goals as goal

pub returns-in_err-missing-clause-told : goal.returns-in_err-missing-clause-told
returns-in_err-missing-clause-told c =
    let t = c.args.types.now in
    let p = c.args.parts.now in
    let xs = c.args.standings.now in
    let s = state_of c.args.scopes.now t in
    let first = c.in_objects-in_initialisers in
    let f = c.in_err-missing.field-0.0 in
    told_on c.from_residual.result f (names_fault s (parts_in t p)) c.from_residual.ensures.1
    (used_fault s t p xs c.requires.standings (sym (c.if-not-has_main.ensures ∙ ap (λ fs. has_main (map (function_in t) fs)) c.as_slice.ensures)) f first.result c.in_functions.result
    (first.ensures ∙ ap (λ os. missing_in xs None (object_uses os)) c.as_slice-2.ensures)
    (c.in_functions.ensures ∙ ap (λ fs. missing_in xs first.result (function_uses fs)) c.as_slice-3.ensures) c.in_err-missing.ensures.told)

pub returns-clause-sound : goal.returns-clause-sound
returns-clause-sound c =
    let t = c.args.types.now in
    let p = c.args.parts.now in
    let xs = c.args.standings.now in
    let s = state_of c.args.scopes.now t in
    let first = c.in_objects-in_initialisers in
    on_ok_weaker c.missing-3.result
    (λ h. called_fault s t p xs c.requires.standings (sym (c.if-not-has_main.ensures ∙ ap (λ fs. has_main (map (function_in t) fs)) c.as_slice.ensures)) first.result c.in_functions.result c.declared_otherwise-declared.result c.in_ok-called.field-0
    (first.ensures ∙ ap (λ os. missing_in xs None (object_uses os)) c.as_slice-2.ensures)
    (c.in_functions.ensures ∙ ap (λ fs. missing_in xs first.result (function_uses fs)) c.as_slice-3.ensures) c.in_ok-missing.ensures.sound
    (c.declared_otherwise-declared.ensures ∙ ap (λ ls. other_in xs None (map (linked_in t) ls)) c.as_slice-4.ensures) c.in_ok-called.ensures ∙ h)
    c.missing-3.ensures.sound

pub returns-clause-told : goal.returns-clause-told
returns-clause-told c =
    let t = c.args.types.now in
    let p = c.args.parts.now in
    let xs = c.args.standings.now in
    let s = state_of c.args.scopes.now t in
    let first = c.in_objects-in_initialisers in
    IfErr-weaker c.missing-3.result _ _
    (λ f h. told_same f _ _ (called_fault s t p xs c.requires.standings (sym (c.if-not-has_main.ensures ∙ ap (λ fs. has_main (map (function_in t) fs)) c.as_slice.ensures)) first.result c.in_functions.result c.declared_otherwise-declared.result c.in_ok-called.field-0
    (first.ensures ∙ ap (λ os. missing_in xs None (object_uses os)) c.as_slice-2.ensures)
    (c.in_functions.ensures ∙ ap (λ fs. missing_in xs first.result (function_uses fs)) c.as_slice-3.ensures) c.in_ok-missing.ensures.sound
    (c.declared_otherwise-declared.ensures ∙ ap (λ ls. other_in xs None (map (linked_in t) ls)) c.as_slice-4.ensures) c.in_ok-called.ensures) h)
    c.missing-3.ensures.told
