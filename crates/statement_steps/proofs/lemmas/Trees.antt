-- What each checked statement is over types as mathematics has them.
use Rattle.std.specs.Prelude.{◌≡◌, ℕ, Bool, Option, List, [], ◌∷◌, map}
use Rattle.std.specs.Global.{Box}
use Rattle.std.proofs.Common.{refl, sym, ap, ◌∙◌}
use Rattle.c_types.specs.CType.{CType}
use Rattle.c_meaning.specs.declared.core_stmt.CoreCase.{CoreCase}
use Rattle.c_meaning.specs.declared.core_stmt.CoreForHead.{CoreForHead}
use Rattle.c_meaning.specs.declared.core_stmt.CoreStmt.{CoreStmt, CoreStmt-F, fold-roll-CoreStmt}
use Rattle.c_meaning.specs.declared.core_stmt.CoreStmt.TheVariants as stmt
use Rattle.c_meaning.specs.declared.filled_place.FilledPlace.{FilledPlace}
use Rattle.c_meaning.specs.CoreTrees.{CoreOf, seen}
use Rattle.c_meaning.specs.StmtTrees as tree
use Rattle.c_meaning.specs.StmtTrees.{StmtOf, filled_of, maybe_seen, place_seen, stmt_layer, stmt_of, stmt_seen, stmts_of, stmts_seen}
use Rattle.statement_steps.specs.Numbering.{tree_of, trees_of}

pub tree_is : (known : ℕ → CType) (s : CoreStmt) → tree_of known s ≡ stmt_seen known (stmt_of s)
unfolding tree_of
tree_is known s = refl

pub trees_seen : (known : ℕ → CType) (ss : List CoreStmt) → stmts_seen known (stmts_of (map stmt_of ss)) ≡ trees_of known ss
unfolding tree_of
trees_seen known [] = refl
trees_seen known (s ∷ ss) = ap (tree.Stmts (stmt_seen known (stmt_of s))) (trees_seen known ss)

pub is_nothing : (known : ℕ → CType) → tree_of known stmt.Nothing ≡ tree.Nothing
unfolding tree_of
is_nothing known = ap (stmt_seen known) (ap stmt_of (sym stmt.rolls-Nothing) ∙ fold-roll-CoreStmt (StmtOf ℕ) stmt_layer CoreStmt-F.Nothing)

pub is_expression : (known : ℕ → CType) (e : CoreOf ℕ) → tree_of known (stmt.Expression e) ≡ tree.Expression (seen known e)
unfolding tree_of
is_expression known e = ap (stmt_seen known) (ap stmt_of (sym (stmt.rolls-Expression e)) ∙ fold-roll-CoreStmt (StmtOf ℕ) stmt_layer (CoreStmt-F.Expression e))

pub is_initialise : (known : ℕ → CType) (local : ℕ) (zero : Bool) (ps : List FilledPlace) → tree_of known (stmt.Initialise local zero ps) ≡ tree.Initialise local zero (map (place_seen known) (map filled_of ps))
unfolding tree_of
is_initialise known local zero ps = ap (stmt_seen known) (ap stmt_of (sym (stmt.rolls-Initialise local zero ps)) ∙ fold-roll-CoreStmt (StmtOf ℕ) stmt_layer (CoreStmt-F.Initialise local zero ps))

pub is_block : (known : ℕ → CType) (first locals : ℕ) (ss : List CoreStmt) → tree_of known (stmt.Block first locals ss) ≡ tree.Block first locals (trees_of known ss)
unfolding tree_of
is_block known first locals ss =
    ap (stmt_seen known) (ap stmt_of (sym (stmt.rolls-Block first locals ss)) ∙ fold-roll-CoreStmt (StmtOf ℕ) stmt_layer (CoreStmt-F.Block first locals ss))
    ∙ ap (tree.Block first locals) (trees_seen known ss)

pub is_if : (known : ℕ → CType) (e : Box (CoreOf ℕ)) (s u : Box CoreStmt) → tree_of known (stmt.If e s u) ≡ tree.If (seen known e.value) (tree_of known s.value) (tree_of known u.value)
unfolding tree_of
is_if known e s u = ap (stmt_seen known) (ap stmt_of (sym (stmt.rolls-If e s u)) ∙ fold-roll-CoreStmt (StmtOf ℕ) stmt_layer (CoreStmt-F.If e s u))

pub is_while : (known : ℕ → CType) (e : CoreOf ℕ) (s : Box CoreStmt) → tree_of known (stmt.While e s) ≡ tree.While (seen known e) (tree_of known s.value)
unfolding tree_of
is_while known e s = ap (stmt_seen known) (ap stmt_of (sym (stmt.rolls-While e s)) ∙ fold-roll-CoreStmt (StmtOf ℕ) stmt_layer (CoreStmt-F.While e s))

pub is_do : (known : ℕ → CType) (s : Box CoreStmt) (e : CoreOf ℕ) → tree_of known (stmt.Do s e) ≡ tree.Do (tree_of known s.value) (seen known e)
unfolding tree_of
is_do known s e = ap (stmt_seen known) (ap stmt_of (sym (stmt.rolls-Do s e)) ∙ fold-roll-CoreStmt (StmtOf ℕ) stmt_layer (CoreStmt-F.Do s e))

pub is_for : (known : ℕ → CType) (h : Box CoreForHead) (s : Box CoreStmt)
    → tree_of known (stmt.For h s) ≡ tree.For (maybe_seen known h.value.first) (maybe_seen known h.value.test) (maybe_seen known h.value.last) (tree_of known s.value)
unfolding tree_of
is_for known h s = ap (stmt_seen known) (ap stmt_of (sym (stmt.rolls-For h s)) ∙ fold-roll-CoreStmt (StmtOf ℕ) stmt_layer (CoreStmt-F.For h s))

pub is_switch : (known : ℕ → CType) (e : Box (CoreOf ℕ)) (cases : List CoreCase) (default : Option ℕ) (s : Box CoreStmt)
    → tree_of known (stmt.Switch e cases default s) ≡ tree.Switch (seen known e.value) cases default (tree_of known s.value)
unfolding tree_of
is_switch known e cases default s = ap (stmt_seen known) (ap stmt_of (sym (stmt.rolls-Switch e cases default s)) ∙ fold-roll-CoreStmt (StmtOf ℕ) stmt_layer (CoreStmt-F.Switch e cases default s))

pub is_label : (known : ℕ → CType) (n : ℕ) (s : Box CoreStmt) → tree_of known (stmt.Label n s) ≡ tree.Label n (tree_of known s.value)
unfolding tree_of
is_label known n s = ap (stmt_seen known) (ap stmt_of (sym (stmt.rolls-Label n s)) ∙ fold-roll-CoreStmt (StmtOf ℕ) stmt_layer (CoreStmt-F.Label n s))

pub is_goto : (known : ℕ → CType) (n : ℕ) → tree_of known (stmt.Goto n) ≡ tree.Goto n
unfolding tree_of
is_goto known n = ap (stmt_seen known) (ap stmt_of (sym (stmt.rolls-Goto n)) ∙ fold-roll-CoreStmt (StmtOf ℕ) stmt_layer (CoreStmt-F.Goto n))

pub is_break : (known : ℕ → CType) → tree_of known stmt.Break ≡ tree.Break
unfolding tree_of
is_break known = ap (stmt_seen known) (ap stmt_of (sym stmt.rolls-Break) ∙ fold-roll-CoreStmt (StmtOf ℕ) stmt_layer CoreStmt-F.Break)

pub is_continue : (known : ℕ → CType) → tree_of known stmt.Continue ≡ tree.Continue
unfolding tree_of
is_continue known = ap (stmt_seen known) (ap stmt_of (sym stmt.rolls-Continue) ∙ fold-roll-CoreStmt (StmtOf ℕ) stmt_layer CoreStmt-F.Continue)

pub is_return : (known : ℕ → CType) (e : Option (CoreOf ℕ)) → tree_of known (stmt.Return e) ≡ tree.Return (maybe_seen known e)
unfolding tree_of
is_return known e = ap (stmt_seen known) (ap stmt_of (sym (stmt.rolls-Return e)) ∙ fold-roll-CoreStmt (StmtOf ℕ) stmt_layer (CoreStmt-F.Return e))

pub ruleset statement_trees = (is_nothing, is_expression, is_initialise, is_block, is_if, is_while, is_do, is_for, is_switch, is_label, is_goto, is_break, is_continue, is_return)
