-- What each statement is as a tree.
use Rattle.std.proofs.Common.{◌≡◌, ℕ, Option, List, [], ◌∷◌, map, refl, sym, ap, ◌∙◌}
use Rattle.std.specs.Prelude.{Bool}
use Rattle.std.specs.Global.{Box}
use Rattle.c_filling.specs.Filled.{seen_places}
use Rattle.c_meaning.specs.CoreTrees.{CoreOf}
use Rattle.c_meaning.specs.declared.core_stmt.CoreCase.{CoreCase}
use Rattle.c_meaning.specs.declared.core_stmt.CoreForHead.{CoreForHead}
use Rattle.c_meaning.specs.declared.core_stmt.CoreStmt.{CoreStmt, CoreStmt-F, fold-roll-CoreStmt}
use Rattle.c_meaning.specs.declared.core_stmt.CoreStmt.TheVariants as stmt
use Rattle.c_meaning.specs.declared.filled_place.FilledPlace.{FilledPlace}
use Rattle.c_meaning.specs.StmtTrees.{StmtOf, Expression, Block, Initialise, If, While, For, Switch, Stmts, filled_of, stmt_layer, stmt_of, stmts_of}
use Rattle.c_worlds.specs.declared.program.Program.{Program}
use Rattle.c_worlds.specs.Programs.{place_tree, stmt_trees}
use Rattle.c_eval.specs.Stacks.{statements, statement}
use Rattle.c_eval.specs.Weights.{places_of, statements_of}

-- ---- lists

pub all_trees : (p : Program) (ss : List CoreStmt) → statements p ss ≡ stmt_trees p (stmts_of (map stmt_of ss))
all_trees p [] = refl
all_trees p (s ∷ ss) = ap (Stmts (statement p s)) (all_trees p ss)

pub all_weighed : (ss : List CoreStmt) → statements_of ss ≡ stmts_of (map stmt_of ss)
all_weighed [] = refl
all_weighed (s ∷ ss) = ap (Stmts (stmt_of s)) (all_weighed ss)

pub places_seen : (p : Program) (ps : List FilledPlace) → seen_places p ps ≡ map (place_tree p) (map filled_of ps)
places_seen p [] = refl
places_seen p (x ∷ xs) = ap (λ ys. place_tree p (filled_of x) ∷ ys) (places_seen p xs)

pub places_weighed : (ps : List FilledPlace) → places_of ps ≡ map filled_of ps
places_weighed [] = refl
places_weighed (x ∷ xs) = ap (λ ys. filled_of x ∷ ys) (places_weighed xs)

-- ---- forms

pub is_if : (e : Box (CoreOf ℕ)) (s u : Box CoreStmt) → stmt_of (stmt.If e s u) ≡ If e.value (stmt_of s.value) (stmt_of u.value)
is_if e s u = ap stmt_of (sym (stmt.rolls-If e s u)) ∙ fold-roll-CoreStmt (StmtOf ℕ) stmt_layer (CoreStmt-F.If e s u)

pub is_while : (e : CoreOf ℕ) (s : Box CoreStmt) → stmt_of (stmt.While e s) ≡ While e (stmt_of s.value)
is_while e s = ap stmt_of (sym (stmt.rolls-While e s)) ∙ fold-roll-CoreStmt (StmtOf ℕ) stmt_layer (CoreStmt-F.While e s)

pub is_expression : (e : CoreOf ℕ) → stmt_of (stmt.Expression e) ≡ Expression e
is_expression e = ap stmt_of (sym (stmt.rolls-Expression e)) ∙ fold-roll-CoreStmt (StmtOf ℕ) stmt_layer (CoreStmt-F.Expression e)

pub is_for : (h : Box CoreForHead) (s : Box CoreStmt) → stmt_of (stmt.For h s) ≡ For h.value.first h.value.test h.value.last (stmt_of s.value)
is_for h s = ap stmt_of (sym (stmt.rolls-For h s)) ∙ fold-roll-CoreStmt (StmtOf ℕ) stmt_layer (CoreStmt-F.For h s)

pub is_switch : (e : Box (CoreOf ℕ)) (cases : List CoreCase) (default : Option ℕ) (s : Box CoreStmt) → stmt_of (stmt.Switch e cases default s) ≡ Switch e.value cases default (stmt_of s.value)
is_switch e cases default s = ap stmt_of (sym (stmt.rolls-Switch e cases default s)) ∙ fold-roll-CoreStmt (StmtOf ℕ) stmt_layer (CoreStmt-F.Switch e cases default s)

pub is_block : (first locals : ℕ) (ss : List CoreStmt) → stmt_of (stmt.Block first locals ss) ≡ Block first locals (stmts_of (map stmt_of ss))
is_block first locals ss = ap stmt_of (sym (stmt.rolls-Block first locals ss)) ∙ fold-roll-CoreStmt (StmtOf ℕ) stmt_layer (CoreStmt-F.Block first locals ss)

pub is_initialise : (local : ℕ) (zero : Bool) (places : List FilledPlace) → stmt_of (stmt.Initialise local zero places) ≡ Initialise local zero (map filled_of places)
is_initialise local zero places = ap stmt_of (sym (stmt.rolls-Initialise local zero places)) ∙ fold-roll-CoreStmt (StmtOf ℕ) stmt_layer (CoreStmt-F.Initialise local zero places)
