use Rattle.std.proofs.Common.{◌≡◌, ℕ, ◌<◌, ◌+◌, ◌++◌, List, [], ◌∷◌, length, get_or, drop, sym, ap, ◌∙◌, append_assoc}
use Rattle.std.proofs.lemmas.List.{at_drop_more}
use Rattle.c_ast.specs.declared.specifier.Qualifier.{Qualifier}
use Rattle.c_types.specs.declared.qualifiers.Qualifiers.{Qualifiers}
use Rattle.c_types.specs.Table.{Table}
use Rattle.c_meaning.specs.Nodes as node
use Rattle.c_meaning.specs.TypeRows.{pointer_steps, qualifiers_among}
use Rattle.c_check_expr.specs.declared.parts.Step.{Step}
use Rattle.c_check_expr.specs.declared.parts.Step.TheVariants as step
use Rattle.c_check_expr.specs.PartsSeen.{steps_seen}
use Rattle.c_check_expr.proofs.WalkStays.{steps_append, steps_in_append}
use Rattle.c_check_expr.proofs.walk_declarators.pointer_steps.Goals as goal

-- one more pointer
next : (t : Table) (steps : List Step) (set : Qualifiers) (l : List (List Qualifier)) (q : List Qualifier) (i : ℕ) (whole : List node.Step) → i < length l → q ≡ get_or l i q → set.0 ≡ qualifiers_among q
    → steps_seen t steps ++ pointer_steps (drop i l) ≡ whole → steps_seen t (steps ++ step.Pointer set ∷ []) ++ pointer_steps (drop (i + 1) l) ≡ whole
next t steps set l q i whole h is e k =
    let one : pointer_steps (drop i l) ≡ node.ToPointer set.0 ∷ pointer_steps (drop (i + 1) l) = at_drop_more pointer_steps l i q h ∙ ap (λ x. pointer_steps (x ∷ drop (i + 1) l)) (sym is) ∙ ap (λ n. node.ToPointer n ∷ pointer_steps (drop (i + 1) l)) (sym e) in
    ap (λ a. a ++ pointer_steps (drop (i + 1) l)) (steps_append t steps (step.Pointer set ∷ [])) ∙ append_assoc (steps_seen t steps) (node.ToPointer set.0 ∷ []) (pointer_steps (drop (i + 1) l)) ∙ ap (λ b. steps_seen t steps ++ b) (sym one) ∙ k

pub loop-qualifiers-preserved : goal.loop-qualifiers-preserved
loop-qualifiers-preserved c =
    let i = c.loop-qualifiers.qualifiers-index in let q = c.qualifiers-item.result in
    rw c.in_ok-push.ensures.ok (
      λ t. next t c.loop-qualifiers.steps c.qualifier_set.result c.args.pointers.now q i _ (rw c.as_slice-qualifiers-items.ensures at c.loop-qualifiers-test.true) (rw c.as_slice-qualifiers-items.ensures at c.qualifiers-item.is) (c.qualifier_set.ensures ∙ ap qualifiers_among c.as_slice.ensures) (c.loop-qualifiers.invariant.0 t),
      λ n. steps_in_append n c.loop-qualifiers.steps (step.Pointer c.qualifier_set.result ∷ []) (c.loop-qualifiers.invariant.1 n) (tt, tt),
    )
