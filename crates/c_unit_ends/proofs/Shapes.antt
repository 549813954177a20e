-- What each checked statement is as a tree.
use Rattle.std.proofs.Common.{◌≡◌, ℕ, Option, List, sym, ap, ◌∙◌}
use Rattle.std.specs.Global.{Box}
use Rattle.c_meaning.specs.CoreTrees.{CoreOf}
use Rattle.c_meaning.specs.declared.core_stmt.CoreCase.{CoreCase}
use Rattle.c_meaning.specs.declared.core_stmt.CoreForHead.{CoreForHead}
use Rattle.c_meaning.specs.declared.core_stmt.CoreStmt.{CoreStmt, CoreStmt-F, fold-roll-CoreStmt}
use Rattle.c_meaning.specs.declared.core_stmt.CoreStmt.TheVariants as stmt
use Rattle.c_meaning.specs.StmtTrees.{StmtOf, If, While, Do, For, Switch, stmt_layer, stmt_of}

pub is_if : (e : Box (CoreOf ℕ)) (s u : Box CoreStmt) → stmt_of (stmt.If e s u) ≡ If e.value (stmt_of s.value) (stmt_of u.value)
is_if e s u = ap stmt_of (sym (stmt.rolls-If e s u)) ∙ fold-roll-CoreStmt (StmtOf ℕ) stmt_layer (CoreStmt-F.If e s u)

pub is_while : (e : CoreOf ℕ) (s : Box CoreStmt) → stmt_of (stmt.While e s) ≡ While e (stmt_of s.value)
is_while e s = ap stmt_of (sym (stmt.rolls-While e s)) ∙ fold-roll-CoreStmt (StmtOf ℕ) stmt_layer (CoreStmt-F.While e s)

pub is_do : (s : Box CoreStmt) (e : CoreOf ℕ) → stmt_of (stmt.Do s e) ≡ Do (stmt_of s.value) e
is_do s e = ap stmt_of (sym (stmt.rolls-Do s e)) ∙ fold-roll-CoreStmt (StmtOf ℕ) stmt_layer (CoreStmt-F.Do s e)

pub is_for : (h : Box CoreForHead) (s : Box CoreStmt) → stmt_of (stmt.For h s) ≡ For h.value.first h.value.test h.value.last (stmt_of s.value)
is_for h s = ap stmt_of (sym (stmt.rolls-For h s)) ∙ fold-roll-CoreStmt (StmtOf ℕ) stmt_layer (CoreStmt-F.For h s)

pub is_switch : (e : Box (CoreOf ℕ)) (cases : List CoreCase) (default : Option ℕ) (s : Box CoreStmt) → stmt_of (stmt.Switch e cases default s) ≡ Switch e.value cases default (stmt_of s.value)
is_switch e cases default s = ap stmt_of (sym (stmt.rolls-Switch e cases default s)) ∙ fold-roll-CoreStmt (StmtOf ℕ) stmt_layer (CoreStmt-F.Switch e cases default s)
