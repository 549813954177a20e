use Rattle.std.specs.Prelude.{◌≡◌, ℤ, pos, true}
use Rattle.std.specs.Int.Signed.{lt_z}
use Rattle.std.proofs.Common.{rules, w32, ap, sym, ◌∙◌, subst}
use Rattle.std.proofs.lemmas.Int.{to_z-of_z}
use Rattle.c_rows_agree.specs.Typed.{Typed}
use Rattle.c_pointers_agree.specs.Pointers.{local}
use Rattle.statement_steps.proofs.lemmas.Storing.{slot_is}
use Rattle.statement_steps.proofs.parameters.slot_place.Goals as goal

pub returns-in-Some-clause-is : goal.returns-in-Some-clause-is
returns-in-Some-clause-is c =
    let z = c.in-Some.offset in
    let is = to_z-of_z w32 z (search rules) in
    c.local.ensures ∙ ap (λ (y : ℤ). local y) is ∙ slot_is c.args.site.now.places.now c.args.place z (sym c.offset_of.ensures ∙ c.in-Some.is) (subst (λ (y : ℤ). lt_z y (pos 0) ≡ true) is c.if-offset-lt0.true)

pub returns-in-Some-clause-pointer : goal.returns-in-Some-clause-pointer
returns-in-Some-clause-pointer c = ap (λ (t : Typed). t.suffix) c.local.ensures
