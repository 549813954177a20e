-- Names' symbols stand where they do, whichever types a tree is over.
use Rattle.std.proofs.Common.{◌≡◌, ℕ, List, [], ◌∷◌, map, refl}
use Rattle.std.specs.Prelude.{Option, Some, None}
use Rattle.c_types.specs.CType.{CType}
use Rattle.c_types.specs.Table.{Table, type_at}
use Rattle.c_meaning.specs.declared.core_expr.CoreKind.TheVariants as kind
use Rattle.c_meaning.specs.declared.filled_place.FilledPlace.{FilledPlace}
use Rattle.c_meaning.specs.CoreTrees.{CoreOf, Core, CoresOf, NoCore, Cores, seen, all_seen}
use Rattle.c_meaning.specs.StmtTrees.{FilledOf, StmtOf, Nothing, Expression, Initialise, Block, If, While, Do, For, Switch, Label, Goto, Break, Continue, Return, StmtsOf, NoStmt, Stmts, filled_of, maybe_seen, place_seen, stmt_of, stmt_seen, stmts_seen}
use Rattle.c_check_decl.specs.declared.declares.DefinedObject.{DefinedObject}
use Rattle.c_check_decl.specs.Declares.{defined_in}
use Rattle.c_unit_parts.specs.declared.DefinedFunction.{DefinedFunction}
use Rattle.c_unit_parts.specs.PartsIn.{function_in}
use Rattle.c_units.specs.Ends as whole
use Rattle.c_unit_ends.specs.Uses.{all_uses, function_uses, object_uses, place_uses, some_uses, stmt_uses, stmts_uses, uses}

module _ (known : ℕ → CType) where
  mutual
    same : (c : CoreOf ℕ) → whole.uses (seen known c) ≡ uses c
    same (Core (kind.Symbol id) of line kids) = refl
    same (Core what of line kids) = all_same kids

    all_same : (cs : CoresOf ℕ) → whole.all_uses (all_seen known cs) ≡ all_uses cs
    all_same NoCore = refl
    all_same (Cores c cs) = rw (same c, all_same cs) refl

  some_same : (o : Option (CoreOf ℕ)) → whole.some_uses (maybe_seen known o) ≡ some_uses o
  some_same None = refl
  some_same (Some c) = same c

  places_same : (ps : List (FilledOf ℕ)) → whole.place_uses (map (place_seen known) ps) ≡ place_uses ps
  places_same [] = refl
  places_same (p ∷ ps) = rw (same p.value, places_same ps) refl

  mutual
    stmt_same : (s : StmtOf ℕ) → whole.stmt_uses (stmt_seen known s) ≡ stmt_uses s
    stmt_same Nothing = refl
    stmt_same (Expression e) = same e
    stmt_same (Initialise local zeroed ps) = places_same ps
    stmt_same (Block first locals ss) = stmts_same ss
    stmt_same (If e s t) = rw (same e, stmt_same s, stmt_same t) refl
    stmt_same (While e s) = rw (same e, stmt_same s) refl
    stmt_same (Do s e) = rw (same e, stmt_same s) refl
    stmt_same (For a b c s) = rw (some_same a, some_same b, some_same c, stmt_same s) refl
    stmt_same (Switch e cases default s) = rw (same e, stmt_same s) refl
    stmt_same (Label n s) = stmt_same s
    stmt_same (Goto n) = refl
    stmt_same Break = refl
    stmt_same Continue = refl
    stmt_same (Return e) = some_same e

    stmts_same : (ss : StmtsOf ℕ) → whole.stmts_uses (stmts_seen known ss) ≡ stmts_uses ss
    stmts_same NoStmt = refl
    stmts_same (Stmts s ss) = rw (stmt_same s, stmts_same ss) refl

  place_list : (ps : List FilledPlace) → whole.place_uses (map (λ (p : FilledPlace). place_seen known (filled_of p)) ps) ≡ place_uses (map filled_of ps)
  place_list [] = refl
  place_list (p ∷ ps) = rw (same p.value, place_list ps) refl

pub objects_same : (t : Table) (os : List DefinedObject) → whole.object_uses (map (defined_in t) os) ≡ object_uses os
objects_same t [] = refl
objects_same t (o ∷ os) = rw (place_list (type_at t) o.object.places, objects_same t os) refl

pub functions_same : (t : Table) (fs : List DefinedFunction) → whole.function_uses (map (function_in t) fs) ≡ function_uses fs
functions_same t [] = refl
functions_same t (f ∷ fs) = rw (stmt_same (type_at t) (stmt_of f.function.body), functions_same t fs) refl
