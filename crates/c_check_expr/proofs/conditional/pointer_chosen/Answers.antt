use Rattle.std.proofs.Common.{◌≡◌, ◌∙◌, ℕ, sym, ap, false}
use Rattle.std.specs.Prelude.{◌&&◌}
use Rattle.c_types.specs.Table.{type_at}
use Rattle.c_meaning.specs.Constants.{is_null}
use Rattle.c_meaning.specs.CoreTrees.{CoreOf, seen, type_of}
use Rattle.c_meaning.specs.Types.{is_pointer, target}
use Rattle.c_check_expr.proofs.ChoiceNode.{both_targets, first_fails, second_fails}
use Rattle.c_check_expr.proofs.conditional.pointer_chosen.Goals.{else-is_null-via-then-is_null+else-is_pointer, else-is_null-via-else-is_null}
use Rattle.c_check_expr.proofs.conditional.pointer_chosen.Goals as goal

pub common_pointer-requires-clause-fits : goal.common_pointer-requires-clause-fits
common_pointer-requires-clause-fits c =
    let t = type_at c.args.types.now in
    let a : c.v.inside.of ≡ type_of c.args.v.now = ap (λ (x : CoreOf ℕ). type_of x) c.v.view_is in
    let b : c.w.inside.of ≡ type_of c.args.w.now = ap (λ (x : CoreOf ℕ). type_of x) c.w.view_is in
    let null = is_null (seen t c.args.v.now) in
    let pointer = is_pointer (t (type_of c.args.w.now)) in
    let none : (null && pointer) ≡ false =
    elim c.else-is_null.branch [
      | else-is_null-via-then-is_null+else-is_pointer w ↦ second_fails null pointer (ap (λ (n : ℕ). is_pointer (t n)) (sym b) ∙ sym w.is_pointer.ensures ∙ w.if-is_pointer.false)
      | else-is_null-via-else-is_null w ↦ first_fails null pointer (sym c.is_null.ensures ∙ w.if-is_null.false)
    ] in
    both_targets t c.args.v.now c.args.w.now c.requires.fits none (sym c.is_null-2.ensures ∙ c.if-is_null-2.false) (t c.target-a.result) (t c.target-b.result)
    (c.target-a.ensures.means ∙ ap (λ (n : ℕ). target (t n)) a)
    (c.target-b.ensures.means ∙ ap (λ (n : ℕ). target (t n)) b)
