-- What is told of a statement whose parts are checked.
use Rattle.std.specs.Prelude.{◌≡◌, ℕ, Result, IfOk, IfErr, OnOk, length}
use Rattle.c_types.specs.CType.{CType}
use Rattle.c_types.specs.Table.{Table, Grows}
use Rattle.c_meaning.specs.StmtTrees.{IsStmtIn, StmtOf, stmt_of}
use Rattle.c_meaning.specs.declared.core_stmt.CoreStmt.{CoreStmt}
use Rattle.c_values.specs.declared.check_fault.CheckFault.{CheckFault}
use Rattle.c_check_decl.specs.Declares.{stmt_in}
use Rattle.c_units.specs.Statements.{StmtNode}
use Rattle.c_stmt_parts.specs.Asked.{IsSound, IsToldAt}

-- its checked form over the later table, where nothing is told at its node; or what is told
pub record Ends (before : Table) (line : ℕ) (n : StmtNode) (code : StmtOf CType) (behind : Table) (result : Result CoreStmt CheckFault) : Type 0 where
  pub ok : IfOk result (λ s. stmt_in behind s ≡ code)
  pub sound : OnOk result (IsSound before line n)
  pub told : IfErr result (λ e. IsToldAt before line n e)
  pub within : IfOk result (λ s. IsStmtIn (length behind.forms) (stmt_of s))
  pub grows : Grows before behind
