use Rattle.std.proofs.Common.{◌≡◌, ℕ, Bool, List, refl, sym, ap, subst, ◌∙◌}
use denote.Enum.Bare.{sameb}
use Rattle.c_ast.specs.contracts.operator.PostfixOperator.{the_type}
use Rattle.c_ast.specs.declared.operator.PostfixOperator.{PostfixOperator}
use Rattle.c_ast.specs.declared.operator.PostfixOperator.TheVariants as postfix
use Rattle.c_types.specs.Facts.{IsWithin}
use Rattle.c_types.specs.Layout.{Tag, known}
use Rattle.c_types.specs.Table.{tags, type_at}
use Rattle.c_meaning.specs.CoreTrees.{seen, type_of}
use Rattle.c_meaning.specs.Nodes as node
use Rattle.c_meaning.specs.Rows.{postfixed, stepped}
use Rattle.c_meaning.specs.Typing.{Fine}
use Rattle.c_meaning.specs.Values.{CoreTree}
use Rattle.c_values.specs.Giving.{giving}
use Rattle.c_check_expr.specs.Changing.{step_broken}
use Rattle.c_values.specs.declared.changes.Given.TheVariants.{Before}
use Rattle.c_check_expr.proofs.ChangeNodes.{broken_by, postfix_fine}
use Rattle.c_values.specs.Stays.{type_in_table, type_seen}
use Rattle.c_check_expr.proofs.assign.postfix.Goals as goal

row_of : (tags : List Tag) (line : ℕ) (op : PostfixOperator) (back : Bool) (a : CoreTree) → back ≡ sameb the_type op postfix.Decrement → postfixed tags line op a ≡ stepped tags line (giving Before) back a
row_of tags line postfix.Increment back a e = ap (λ b. stepped tags line (giving Before) b a) (sym e)
row_of tags line postfix.Decrement back a e = ap (λ b. stepped tags line (giving Before) b a) (sym e)

pub returns-clause-ok : goal.returns-clause-ok
returns-clause-ok c =
    let t = c.args.types.now in
    let k = type_at t in
    let a = seen k c.args.a in
    let w : IsWithin (known (tags t)) (type_of a) = subst (IsWithin (known (tags t))) (sym (type_seen k c.args.a)) (c.types_are_within_limits.ensures (type_of c.args.a) (type_in_table _ c.args.a c.requires)) in
    λ s h. postfix_fine s (tags t) c.args.line c.args.op a h (sym c.in_default.ensures) w ∙ ap (λ (x : CoreTree). Fine s x) (row_of (tags t) c.args.line c.args.op c.eq-back.result a c.eq-back.ensures ∙ sym c.in_ok-core.ensures.means)

pub returns-in-Some-clause-err : goal.returns-in-Some-clause-err
returns-in-Some-clause-err c =
    let t = c.args.types.now in
    let a = seen (type_at t) c.args.a in
    λ s h. broken_by s (tags t) c.args.line c.in-Some.number (node.Postfix c.args.op a) (λ z. step_broken z a) refl h (sym c.in-Some.ensures)
