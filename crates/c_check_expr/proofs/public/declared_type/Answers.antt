use Rattle.c_ast.specs.Views.{declarator_of, specifiers_of}
use Rattle.c_ast.specs.Seen.{declarator_seen, specifiers_seen}
use Rattle.c_types.specs.Table.{type_at}
use Rattle.c_meaning.specs.Postorder.{declared_nodes, first_fault}
use Rattle.c_meaning.specs.Typing.{typed_declared}
use Rattle.c_meaning.specs.TypingRelation.{TypesDeclared}
use Rattle.c_check_expr.specs.Known.{state_of}
use Rattle.c_check_expr.specs.TypedIn.{declared_in}
use Rattle.c_check_expr.specs.Told.{breaks, passes, relates}
use Rattle.c_check_expr.proofs.public.declared_type.Goals as goal

pub returns-clause-typed : goal.returns-clause-typed
unfolding declared_in declarator_seen specifiers_seen
returns-clause-typed c = let s = state_of c.args.scopes.now c.args.types.now in let x = specifiers_of c.args.s.now in let d = declarator_of c.args.d.now in relates type_at (typed_declared s x d) (TypesDeclared s x d) c.declared.new.scopes c.declared.new.types c.declared.result (c.typing_is_a_function.ensures.declared s x d) c.declared.ensures.ok

pub returns-clause-constraint : goal.returns-clause-constraint
unfolding declared_in declarator_seen specifiers_seen
returns-clause-constraint c = λ n l h. let s = state_of c.args.scopes.now c.args.types.now in let x = specifiers_of c.args.s.now in let d = declarator_of c.args.d.now in breaks (typed_declared s x d) (first_fault (declared_nodes s x d)) c.declared.result n l (c.typing_is_a_function.ensures.declared_faults s x d) c.declared.ensures.err h

pub returns-clause-limit : goal.returns-clause-limit
unfolding declared_in declarator_seen specifiers_seen
returns-clause-limit c = λ w l h. let s = state_of c.args.scopes.now c.args.types.now in let x = specifiers_of c.args.s.now in let d = declarator_of c.args.d.now in passes (typed_declared s x d) (first_fault (declared_nodes s x d)) c.declared.result w l (c.typing_is_a_function.ensures.declared_faults s x d) c.declared.ensures.err h
