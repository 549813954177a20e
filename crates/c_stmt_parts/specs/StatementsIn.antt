-- What typing makes of statements where scopes and a table tell what is known, as contracts of the walk speak of it: it is not
-- unfolded there; and how the walk's answers are seen.
use Rattle.std.specs.Prelude.{ℕ, Result, Ok, Err, List, [], ◌∷◌}
use Rattle.c_ast.specs.Trees.{BlockTree, DeclarationTree, StatementTree, StatementTrees}
use Rattle.c_symbols.specs.Scoping.{Scoping}
use Rattle.c_types.specs.CType.{CType}
use Rattle.c_types.specs.Table.{Table}
use Rattle.c_meaning.specs.declared.core_stmt.CoreStmt.{CoreStmt}
use Rattle.c_meaning.specs.Declarations.{Declares}
use Rattle.c_meaning.specs.StmtTrees.{IsStmtIn, StmtOf, StmtsOf, NoStmt, Stmts, stmt_of}
use Rattle.c_meaning.specs.Typing.{Outcome}
use Rattle.c_values.specs.declared.check_fault.CheckFault.{CheckFault}
use Rattle.c_check_expr.specs.Known.{state_of}
use Rattle.c_check_expr.specs.Walks.{Walks}
use Rattle.c_check_decl.specs.Declares.{stmt_in}
use Rattle.c_units.specs.Bodies.{Typed, Within as WithinTrees, Body as BodyTrees, all_typed_stmts, done, typed_block, typed_declarations, typed_stmt}
use Rattle.c_units.specs.Statements.{Around as AroundTrees}
use Rattle.c_stmt_parts.specs.declared.body.Body.{Body}
use Rattle.c_stmt_parts.specs.BodiesSeen.{IsBodyIn, body_in}

unfoldable pub declarations_in : Scoping → Table → List DeclarationTree → Outcome Declares
declarations_in s t ds = typed_declarations (state_of s t) ds

unfoldable pub statement_in : WithinTrees → AroundTrees → Scoping → Table → BodyTrees → StatementTree → Outcome (Typed (StmtOf CType))
statement_in f a s t b st = typed_stmt f a (state_of s t) b st

unfoldable pub statements_in : WithinTrees → AroundTrees → Scoping → Table → BodyTrees → StatementTrees → Outcome (Typed (StmtsOf CType))
statements_in f a s t b ss = all_typed_stmts f a (state_of s t) b ss

unfoldable pub block_in : WithinTrees → AroundTrees → Scoping → Table → BodyTrees → BlockTree → Outcome (Typed (StmtOf CType))
block_in f a s t b block = typed_block f a (state_of s t) b block

-- ---- answers beside what the function has behind them

abbrev pub with_body : {V : Type 0} → Body → Result V CheckFault → Result (Body × V) CheckFault
with_body b (Ok v) = Ok (b, v)
with_body b (Err e) = Err e

abbrev pub code_in : Table → Body × CoreStmt → Typed (StmtOf CType)
code_in t p = done (body_in t p.0) (stmt_in t p.1)

abbrev pub IsCodeIn : ℕ → Body × CoreStmt → Type 0
IsCodeIn n p = IsBodyIn n p.0 × IsStmtIn n (stmt_of p.1)

abbrev pub stmts_in : Table → List CoreStmt → StmtsOf CType
stmts_in t [] = NoStmt
stmts_in t (s ∷ ss) = Stmts (stmt_in t s) (stmts_in t ss)

abbrev pub AreStmtsBelow : ℕ → List CoreStmt → Type 0
AreStmtsBelow n [] = Unit {0}
AreStmtsBelow n (s ∷ ss) = IsStmtIn n (stmt_of s) × AreStmtsBelow n ss

abbrev pub codes_in : Table → Body × List CoreStmt → Typed (StmtsOf CType)
codes_in t p = done (body_in t p.0) (stmts_in t p.1)

abbrev pub AreCodesIn : ℕ → Body × List CoreStmt → Type 0
AreCodesIn n p = IsBodyIn n p.0 × AreStmtsBelow n p.1

-- a statement, with what the function has behind it
abbrev pub WalksStmt : Outcome (Typed (StmtOf CType)) → Scoping → Table → Scoping → Table → Body → Result CoreStmt CheckFault → Type 0
WalksStmt outcome s a u b body result = Walks code_in IsCodeIn outcome s a u b (with_body body result)

-- statements in order
abbrev pub WalksStmts : Outcome (Typed (StmtsOf CType)) → Scoping → Table → Scoping → Table → Body → Result (List CoreStmt) CheckFault → Type 0
WalksStmts outcome s a u b body result = Walks codes_in AreCodesIn outcome s a u b (with_body body result)
