-- The nodes of each statement, by its parts.
use Rattle.std.proofs.Common.{◌≡◌, ℕ, ◌+◌, Bool, List, [], ◌∷◌, map, sym, ap, ◌∙◌, refl}
use Rattle.std.specs.Prelude.{Option}
use Rattle.std.specs.Global.{Box}
use Rattle.c_meaning.specs.declared.core_stmt.CoreCase.{CoreCase}
use Rattle.c_meaning.specs.declared.core_stmt.CoreForHead.{CoreForHead}
use Rattle.c_meaning.specs.declared.core_stmt.CoreStmt.{CoreStmt, CoreStmt-F, fold-roll-CoreStmt}
use Rattle.c_meaning.specs.declared.core_stmt.CoreStmt.TheVariants as stmt
use Rattle.c_meaning.specs.declared.filled_place.FilledPlace.{FilledPlace}
use Rattle.c_meaning.specs.CoreTrees.{CoreOf, parts}
use Rattle.c_meaning.specs.StmtTrees.{StmtOf, filled_of, stmt_layer, stmt_of, stmts_of}
use Rattle.lowering_limits.specs.Nodes.{all_nodes, filled_nodes, nodes_of, place_nodes, some_nodes, stmt_nodes, stmts_nodes}

places_same : (ps : List FilledPlace) → filled_nodes (map filled_of ps) ≡ place_nodes ps
places_same [] = refl
places_same (p ∷ ps) = ap (λ n. parts p.value + n) (places_same ps)

list_same : (ss : List CoreStmt) → stmts_nodes (stmts_of (map stmt_of ss)) ≡ all_nodes ss
unfolding nodes_of
list_same [] = refl
list_same (s ∷ ss) = ap (λ n. stmt_nodes (stmt_of s) + n) (list_same ss)

pub nodes_nothing : nodes_of stmt.Nothing ≡ 1
unfolding nodes_of
nodes_nothing = ap stmt_nodes (ap stmt_of (sym stmt.rolls-Nothing) ∙ fold-roll-CoreStmt (StmtOf ℕ) stmt_layer CoreStmt-F.Nothing)

pub nodes_expression : (e : CoreOf ℕ) → nodes_of (stmt.Expression e) ≡ 1 + parts e
unfolding nodes_of
nodes_expression e = ap stmt_nodes (ap stmt_of (sym (stmt.rolls-Expression e)) ∙ fold-roll-CoreStmt (StmtOf ℕ) stmt_layer (CoreStmt-F.Expression e))

pub nodes_initialise : (local : ℕ) (zero : Bool) (ps : List FilledPlace) → nodes_of (stmt.Initialise local zero ps) ≡ 1 + place_nodes ps
unfolding nodes_of
nodes_initialise local zero ps = ap stmt_nodes (ap stmt_of (sym (stmt.rolls-Initialise local zero ps)) ∙ fold-roll-CoreStmt (StmtOf ℕ) stmt_layer (CoreStmt-F.Initialise local zero ps)) ∙ ap (λ n. 1 + n) (places_same ps)

pub nodes_block : (first locals : ℕ) (ss : List CoreStmt) → nodes_of (stmt.Block first locals ss) ≡ 1 + all_nodes ss
unfolding nodes_of
nodes_block first locals ss = ap stmt_nodes (ap stmt_of (sym (stmt.rolls-Block first locals ss)) ∙ fold-roll-CoreStmt (StmtOf ℕ) stmt_layer (CoreStmt-F.Block first locals ss)) ∙ ap (λ n. 1 + n) (list_same ss)

pub nodes_if : (e : Box (CoreOf ℕ)) (s u : Box CoreStmt) → nodes_of (stmt.If e s u) ≡ 1 + (parts e.value + (nodes_of s.value + nodes_of u.value))
unfolding nodes_of
nodes_if e s u = ap stmt_nodes (ap stmt_of (sym (stmt.rolls-If e s u)) ∙ fold-roll-CoreStmt (StmtOf ℕ) stmt_layer (CoreStmt-F.If e s u))

pub nodes_while : (e : CoreOf ℕ) (s : Box CoreStmt) → nodes_of (stmt.While e s) ≡ 1 + (parts e + nodes_of s.value)
unfolding nodes_of
nodes_while e s = ap stmt_nodes (ap stmt_of (sym (stmt.rolls-While e s)) ∙ fold-roll-CoreStmt (StmtOf ℕ) stmt_layer (CoreStmt-F.While e s))

pub nodes_do : (s : Box CoreStmt) (e : CoreOf ℕ) → nodes_of (stmt.Do s e) ≡ 1 + (parts e + nodes_of s.value)
unfolding nodes_of
nodes_do s e = ap stmt_nodes (ap stmt_of (sym (stmt.rolls-Do s e)) ∙ fold-roll-CoreStmt (StmtOf ℕ) stmt_layer (CoreStmt-F.Do s e))

pub nodes_for : (h : Box CoreForHead) (s : Box CoreStmt) → nodes_of (stmt.For h s) ≡ 1 + (some_nodes h.value.first + (some_nodes h.value.test + (some_nodes h.value.last + nodes_of s.value)))
unfolding nodes_of
nodes_for h s = ap stmt_nodes (ap stmt_of (sym (stmt.rolls-For h s)) ∙ fold-roll-CoreStmt (StmtOf ℕ) stmt_layer (CoreStmt-F.For h s))

pub nodes_switch : (e : Box (CoreOf ℕ)) (cases : List CoreCase) (default : Option ℕ) (s : Box CoreStmt) → nodes_of (stmt.Switch e cases default s) ≡ 1 + (parts e.value + nodes_of s.value)
unfolding nodes_of
nodes_switch e cases default s = ap stmt_nodes (ap stmt_of (sym (stmt.rolls-Switch e cases default s)) ∙ fold-roll-CoreStmt (StmtOf ℕ) stmt_layer (CoreStmt-F.Switch e cases default s))

pub nodes_label : (n : ℕ) (s : Box CoreStmt) → nodes_of (stmt.Label n s) ≡ 1 + nodes_of s.value
unfolding nodes_of
nodes_label n s = ap stmt_nodes (ap stmt_of (sym (stmt.rolls-Label n s)) ∙ fold-roll-CoreStmt (StmtOf ℕ) stmt_layer (CoreStmt-F.Label n s))

pub nodes_goto : (n : ℕ) → nodes_of (stmt.Goto n) ≡ 1
unfolding nodes_of
nodes_goto n = ap stmt_nodes (ap stmt_of (sym (stmt.rolls-Goto n)) ∙ fold-roll-CoreStmt (StmtOf ℕ) stmt_layer (CoreStmt-F.Goto n))

pub nodes_break : nodes_of stmt.Break ≡ 1
unfolding nodes_of
nodes_break = ap stmt_nodes (ap stmt_of (sym stmt.rolls-Break) ∙ fold-roll-CoreStmt (StmtOf ℕ) stmt_layer CoreStmt-F.Break)

pub nodes_continue : nodes_of stmt.Continue ≡ 1
unfolding nodes_of
nodes_continue = ap stmt_nodes (ap stmt_of (sym stmt.rolls-Continue) ∙ fold-roll-CoreStmt (StmtOf ℕ) stmt_layer CoreStmt-F.Continue)

pub nodes_return : (e : Option (CoreOf ℕ)) → nodes_of (stmt.Return e) ≡ 1 + some_nodes e
unfolding nodes_of
nodes_return e = ap stmt_nodes (ap stmt_of (sym (stmt.rolls-Return e)) ∙ fold-roll-CoreStmt (StmtOf ℕ) stmt_layer (CoreStmt-F.Return e))

pub ruleset statement_nodes = (nodes_nothing, nodes_expression, nodes_initialise, nodes_block, nodes_if, nodes_while, nodes_do, nodes_for, nodes_switch, nodes_label, nodes_goto, nodes_break, nodes_continue, nodes_return)
