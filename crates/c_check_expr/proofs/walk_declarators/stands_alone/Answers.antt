use Rattle.std.proofs.Common.{◌≡◌, ◌≢◌, Bool, false, not, List, [], ◌∷◌, length, map, refl, nat_eq, arith}
use Rattle.std.proofs.lemmas.Bool.Decides.{nat_tests}
use Rattle.c_ast.specs.declared.expr.Parameter.{Parameter}
use Rattle.c_ast.specs.Views.{parameters_of}
use Rattle.c_ast.specs.Seen.{parameter_seen as parameter_tree}
use Rattle.c_meaning.specs.Typing.{stands_alone}
use Rattle.c_check_expr.proofs.walk_declarators.stands_alone.Goals as goal

one : (ps : List Parameter) (more : Bool) → length ps ≡ 1 → not more ≡ stands_alone (parameters_of (map parameter_tree ps)) more
one [] more h = absurd (omega arith)
one (p ∷ []) more h = refl
one (p ∷ q ∷ ps) more h = absurd (omega arith)

other : (ps : List Parameter) (more : Bool) → length ps ≢ 1 → stands_alone (parameters_of (map parameter_tree ps)) more ≡ false
other [] more h = refl
other (p ∷ []) more h = absurd (h refl)
other (p ∷ q ∷ ps) more h = refl

pub returns-then-list-eq1 : goal.returns-then-list-eq1
returns-then-list-eq1 c = one c.args.list.now c.args.more c.if-list-eq1.true

pub returns-else-list-eq1 : goal.returns-else-list-eq1
returns-else-list-eq1 c = let h = c.if-list-eq1.false in let o = other c.args.list.now c.args.more h in let e : nat_eq (length c.args.list.now) 1 ≡ false = grind (arith, nat_tests) in rw (o, e) refl
