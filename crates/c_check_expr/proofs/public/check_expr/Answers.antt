use Rattle.c_ast.specs.Views.{expr_of}
use Rattle.c_ast.specs.Seen.{expr_seen}
use Rattle.c_meaning.specs.Postorder.{first_fault, nodes}
use Rattle.c_meaning.specs.Typing.{typed}
use Rattle.c_meaning.specs.TypingRelation.{Types}
use Rattle.c_check_expr.specs.Known.{state_of}
use Rattle.c_check_expr.specs.TypedIn.{expr_in}
use Rattle.c_check_expr.specs.Walks.{core}
use Rattle.c_check_expr.specs.Told.{breaks, passes, relates}
use Rattle.c_check_expr.proofs.public.check_expr.Goals as goal

pub returns-clause-typed : goal.returns-clause-typed
unfolding expr_in expr_seen
returns-clause-typed c = let s = state_of c.args.scopes.now c.args.types.now in let e = expr_of c.args.e.now in relates core (typed s e) (Types s e) c.expression.new.scopes c.expression.new.types c.expression.result (c.typing_is_a_function.ensures.expressions s e) c.expression.ensures.ok

pub returns-clause-constraint : goal.returns-clause-constraint
unfolding expr_in expr_seen
returns-clause-constraint c = λ n l h. let s = state_of c.args.scopes.now c.args.types.now in let e = expr_of c.args.e.now in breaks (typed s e) (first_fault (nodes s e)) c.expression.result n l (c.typing_is_a_function.ensures.expression_faults s e) c.expression.ensures.err h

pub returns-clause-limit : goal.returns-clause-limit
unfolding expr_in expr_seen
returns-clause-limit c = λ w l h. let s = state_of c.args.scopes.now c.args.types.now in let e = expr_of c.args.e.now in passes (typed s e) (first_fault (nodes s e)) c.expression.result w l (c.typing_is_a_function.ensures.expression_faults s e) c.expression.ensures.err h
