use Rattle.std.proofs.Common.{sym, ◌∙◌}
use Rattle.c_check_expr.proofs.WalkExprs.{callee_known, callee_new}
use Rattle.c_check_expr.proofs.walk_expr.named_callee.Goals as goal

pub returns-in-Some : goal.returns-in-Some
returns-in-Some c =
    rw c.requires.name (callee_known c.args.scopes.now c.args.types.now c.args.f.now.line c.args.name.now c.in-Some.field-0 c.name.result (rw (sym c.as_slice.ensures) (sym c.find.ensures.means ∙ c.in-Some.is)) c.requires.symbols (rw c.as_slice-in-Some.ensures at c.name.ensures.ok) (rw c.as_slice-in-Some.ensures at c.name.ensures.err) c.name.ensures.within)

pub returns-in-None : goal.returns-in-None
returns-in-None c =
    let k = c.new_function.ensures in
    rw c.requires.name (callee_new c.args.scopes.now c.new_function.new.scopes c.args.types.now c.new_function.new.types c.args.f.now.line c.args.name.now c.new_function.result (rw (sym c.as_slice.ensures) (sym c.find.ensures.means ∙ c.in-None.is)) (rw c.as_slice-in-None.ensures at k.ok) (rw c.as_slice-in-None.ensures at k.err) k.within (record { outer = k.outer; extends = k.grows.extends; symbols = k.symbols }))
