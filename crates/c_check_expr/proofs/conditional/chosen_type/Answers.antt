use Rattle.std.proofs.Common.{◌≡◌, ◌∙◌, ℕ, sym, ap, true, false}
use Rattle.std.specs.Prelude.{◌&&◌, ◌||◌}
use Rattle.c_types.specs.Conversions.{is_integer}
use Rattle.c_types.specs.Table.{type_at}
use Rattle.c_meaning.specs.CoreTrees.{CoreOf, type_of}
use Rattle.c_meaning.specs.Types.{is_pointer}
use Rattle.c_check_expr.proofs.ChoiceNode.{first_fails, one_holds, other_holds, pointers_among, second_fails}
use Rattle.c_check_expr.proofs.conditional.chosen_type.Goals.{else-is_integer-via-then-is_integer+else-is_integer-2, else-is_integer-via-else-is_integer, then-is_pointer, else-is_pointer}
use Rattle.c_check_expr.proofs.conditional.chosen_type.Goals as goal

pub pointer_chosen-requires-clause-fits : goal.pointer_chosen-requires-clause-fits
pointer_chosen-requires-clause-fits c =
    let t = type_at c.args.types.now in
    let v = type_of c.args.v.now in
    let w = type_of c.args.w.now in
    let of_v : v ≡ c.v.inside.of = sym (ap (λ (x : CoreOf ℕ). type_of x) c.v.view_is) in
    let of_w : w ≡ c.w.inside.of = sym (ap (λ (x : CoreOf ℕ). type_of x) c.w.view_is) in
    let numbers : (is_integer (t v) && is_integer (t w)) ≡ false =
    elim c.else-is_integer.branch [
      | else-is_integer-via-then-is_integer+else-is_integer-2 b ↦ second_fails (is_integer (t v)) (is_integer (t w)) (ap (λ (n : ℕ). is_integer (t n)) of_w ∙ sym b.is_integer-then-is_integer.ensures ∙ b.if-is_integer-2.false)
      | else-is_integer-via-else-is_integer b ↦ first_fails (is_integer (t v)) (is_integer (t w)) (ap (λ (n : ℕ). is_integer (t n)) of_v ∙ sym c.is_integer.ensures ∙ b.if-is_integer.false)
    ] in
    let pointers : (is_pointer (t v) || is_pointer (t w)) ≡ true =
    elim c.if-is_pointer.branch [
      | then-is_pointer b ↦ one_holds (is_pointer (t v)) (is_pointer (t w)) (ap (λ (n : ℕ). is_pointer (t n)) of_v ∙ sym c.is_pointer.ensures ∙ b.if-is_pointer.true)
      | else-is_pointer b ↦ other_holds (is_pointer (t v)) (is_pointer (t w)) (ap (λ (n : ℕ). is_pointer (t n)) of_w ∙ sym b.is_pointer-else-is_pointer.ensures ∙ sym b.value-is ∙ c.if-is_pointer-2.true)
    ] in
    pointers_among t c.args.v.now c.args.w.now c.requires.fits numbers pointers
