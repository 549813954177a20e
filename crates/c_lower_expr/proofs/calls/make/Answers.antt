use Rattle.std.specs.Prelude.{ℤ}
use Rattle.std.proofs.Common.{rules, w32, sym, ◌∙◌, ap, subst}
use Rattle.std.proofs.lemmas.Int.{to_z-of_z}
use Rattle.std.proofs.lemmas.Result.{IfOk-weaker}
use Rattle.lowered_forms.specs.Calls.{all_passed, called_in, result_suffix}
use Rattle.lowering_steps.specs.Operands.{typed_of}
use Rattle.lowering_acts.specs.Gives.{Gives}
use Rattle.c_lower_expr.specs.Passing.{all_typed}
use Rattle.lowering_acts.specs.Sites.{context_of, type_in}
use Rattle.c_lower_expr.proofs.lemmas.Making.{whole_made, nothing_made, scalar_made}
use Rattle.c_lower_expr.proofs.calls.make.Goals as goal

pub returns-in_ok-place : goal.returns-in_ok-place
returns-in_ok-place c =
    let site = c.args.site.now in
    IfOk-weaker c.whole_given.result _ _
    (λ v g. whole_made (context_of site) (type_in site c.args.of) c.args.passed.now.next c.args.passed.now.values.items c.in_ok-function.words.now c.in_ok-function.function c.in_ok-place.place v c.args.into.now c.whole_given.new.block
    (sym c.as_slice.ensures.value ∙ c.in_ok-function.ensures) (sym c.if-is_whole.true ∙ c.is_whole.ensures) c.in_ok-place.ensures g)
    c.whole_given.ensures

pub returns-then-is_void : goal.returns-then-is_void
returns-then-is_void c =
    let site = c.args.site.now in
    IfOk-weaker c.nothing_given.result _ _
    (λ v g. nothing_made (context_of site) (type_in site c.args.of) c.args.passed.now.next c.args.passed.now.values.items c.in_ok-function.words.now c.in_ok-function.function v c.args.into.now c.nothing_given.new.block
    (sym c.as_slice.ensures.value ∙ c.in_ok-function.ensures) (sym c.if-is_whole.false ∙ c.is_whole.ensures) (sym c.if-is_void.true ∙ c.is_void.ensures) g)
    c.nothing_given.ensures

pub returns-in_ok-offset : goal.returns-in_ok-offset
returns-in_ok-offset c =
    let site = c.args.site.now in
    IfOk-weaker c.scalar_given.result _ _
    (λ v g. scalar_made (context_of site) (type_in site c.args.of) c.args.passed.now.next c.args.passed.now.values.items c.in_ok-function.words.now c.in_ok-function.function v c.result_suffix-suffix.result c.in_ok-offset.offset c.args.into.now c.new_slot.new.self c.scalar_given.new.block
    (sym c.as_slice.ensures.value ∙ c.in_ok-function.ensures) (sym c.if-is_whole.false ∙ c.is_whole.ensures) (sym c.if-is_void.false ∙ c.is_void.ensures) (c.result_suffix-suffix.ensures ∙ ap result_suffix c.gives_pointer.ensures) c.in_ok-offset.ensures
    (subst (λ (z : ℤ). Gives c.new_slot.new.self.block (λ l. called_in z c.result_suffix-suffix.result (typed_of c.in_ok-function.function) (all_passed (all_typed c.in_ok-function.words.now) l)) v c.scalar_given.new.block) (to_z-of_z w32 c.in_ok-offset.offset (search rules)) g))
    c.scalar_given.ensures
