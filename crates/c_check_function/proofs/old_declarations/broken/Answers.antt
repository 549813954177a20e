use Rattle.std.proofs.Common.{List, ap, length, sym, ◌∙◌}
use Rattle.std.specs.Prelude.{◌==◌}
use Rattle.c_ast.specs.declared.statement.InitDeclarator.{InitDeclarator}
use Rattle.c_units.specs.Functions.{has_other}
use Rattle.c_check_expr.specs.Known.{state_of}
use Rattle.c_check_function.proofs.OldLists.{none_declared, nothing_declared, one_declared}
use Rattle.c_check_function.proofs.old_declarations.broken.Goals as goal

pub returns-then-not-declares_something : goal.returns-then-not-declares_something
returns-then-not-declares_something c t = nothing_declared c.args.d.now (has_other (state_of c.args.scopes.now t) c.args.names.now) c.declares_something.result c.declares_something.ensures c.if-not-declares_something.true

pub returns-then-is_empty : goal.returns-then-is_empty
returns-then-is_empty c t =
    none_declared c.args.d.now (has_other (state_of c.args.scopes.now t) c.args.names.now) c.declares_something.result c.declares_something.ensures c.if-not-declares_something.false (sym (c.has_other.ensures t) ∙ c.if-has_other.false)
    (c.if-is_empty.ensures ∙ ap (λ (l : List InitDeclarator). length l == 0) c.as_slice.ensures)

pub returns-else-is_empty : goal.returns-else-is_empty
returns-else-is_empty c t =
    one_declared c.args.d.now (has_other (state_of c.args.scopes.now t) c.args.names.now) c.declares_something.result c.declares_something.ensures c.if-not-declares_something.false (sym (c.has_other.ensures t) ∙ c.if-has_other.false)
    (c.if-is_empty.ensures ∙ ap (λ (l : List InitDeclarator). length l == 0) c.as_slice.ensures)
