-- Where names' symbols stand, each with its line, in trees over any types.
use Rattle.std.specs.Prelude.{ℕ, Option, Some, None, List, [], ◌∷◌, ◌++◌, map}
use Rattle.c_meaning.specs.declared.core_expr.CoreKind.TheVariants as kind
use Rattle.c_meaning.specs.CoreTrees.{CoreOf, Core, CoresOf, NoCore, Cores}
use Rattle.c_meaning.specs.StmtTrees.{FilledOf, StmtOf, Expression, Initialise, Block, If, While, Do, For, Switch, Label, Return, StmtsOf, NoStmt, Stmts, filled_of, stmt_of}
use Rattle.c_check_decl.specs.declared.declares.DefinedObject.{DefinedObject}
use Rattle.c_unit_parts.specs.declared.DefinedFunction.{DefinedFunction}

abbrev mutual
  pub uses : {T : Type 0} → CoreOf T → List (ℕ × ℕ)
  uses (Core (kind.Symbol id) of line kids) = (id, line) ∷ []
  uses (Core what of line kids) = all_uses kids

  pub all_uses : {T : Type 0} → CoresOf T → List (ℕ × ℕ)
  all_uses NoCore = []
  all_uses (Cores c cs) = uses c ++ all_uses cs

abbrev pub some_uses : {T : Type 0} → Option (CoreOf T) → List (ℕ × ℕ)
some_uses None = []
some_uses (Some c) = uses c

abbrev pub place_uses : {T : Type 0} → List (FilledOf T) → List (ℕ × ℕ)
place_uses [] = []
place_uses (p ∷ ps) = uses p.value ++ place_uses ps

abbrev mutual
  pub stmt_uses : {T : Type 0} → StmtOf T → List (ℕ × ℕ)
  stmt_uses (Expression e) = uses e
  stmt_uses (Initialise local zeroed ps) = place_uses ps
  stmt_uses (Block first locals ss) = stmts_uses ss
  stmt_uses (If e s t) = uses e ++ stmt_uses s ++ stmt_uses t
  stmt_uses (While e s) = uses e ++ stmt_uses s
  stmt_uses (Do s e) = stmt_uses s ++ uses e
  stmt_uses (For a b c s) = some_uses a ++ some_uses b ++ some_uses c ++ stmt_uses s
  stmt_uses (Switch e cases default s) = uses e ++ stmt_uses s
  stmt_uses (Label n s) = stmt_uses s
  stmt_uses (Return e) = some_uses e
  stmt_uses s = []

  pub stmts_uses : {T : Type 0} → StmtsOf T → List (ℕ × ℕ)
  stmts_uses NoStmt = []
  stmts_uses (Stmts s ss) = stmt_uses s ++ stmts_uses ss

-- ---- of a unit's parts

abbrev pub object_uses : List DefinedObject → List (ℕ × ℕ)
object_uses [] = []
object_uses (o ∷ os) = place_uses (map filled_of o.object.places) ++ object_uses os

abbrev pub function_uses : List DefinedFunction → List (ℕ × ℕ)
function_uses [] = []
function_uses (f ∷ fs) = stmt_uses (stmt_of f.function.body) ++ function_uses fs
