-- What is told of a statement whose parts are checked: its node's fault, want of memory, or its checked form.
use Rattle.std.proofs.Common.{◌≡◌, ℕ, Bool, length, subst}
use Rattle.std.specs.Prelude.{Result, Ok, Err, IsErrAnd}
use Rattle.c_types.specs.CType.{CType}
use Rattle.c_types.specs.Table.{Table, Grows}
use Rattle.c_meaning.specs.StmtTrees.{IsStmtIn, StmtOf, Label, stmt_of}
use Rattle.c_meaning.specs.declared.core_stmt.CoreStmt.{CoreStmt}
use Rattle.c_values.specs.declared.check_fault.CheckFault.{CheckFault}
use Rattle.c_values.specs.declared.check_fault.CheckFault.TheVariants.{Memory}
use Rattle.c_check_decl.specs.Declares.{stmt_in}
use Rattle.c_units.specs.Statements.{StmtNode}
use Rattle.c_stmt_parts.specs.Asked.{IsSound, IsToldAt}
use Rattle.c_check_stmt.specs.Ends.{Ends}

module _ (a : Table) (line : ℕ) (n : StmtNode) (code : StmtOf CType) (q : Table) where
  told_same : (d : CheckFault) (e : CheckFault) → e ≡ d → IsToldAt a line n d → IsToldAt a line n e
  told_same d e h told = rw h told

  pub ends_told : (d : CheckFault) (r : Result CoreStmt CheckFault) → IsErrAnd r (λ e. e ≡ d) → IsToldAt a line n d → Grows a q → Ends a line n code q r
  ends_told d (Ok s) h told g = absurd h
  ends_told d (Err e) h told g = record { ok = tt; sound = tt; told = told_same d e h told; within = tt; grows = g }

  pub ends_memory : (r : Result CoreStmt CheckFault) → IsErrAnd r (λ e. e ≡ Memory) → Grows a q → Ends a line n code q r
  ends_memory r h g = ends_told Memory r h (λ s e. tt) g

  pub ends_well : (s : CoreStmt) → stmt_in q s ≡ code → IsSound a line n → IsStmtIn (length q.forms) (stmt_of s) → Grows a q → Ends a line n code q (Ok s)
  ends_well s h sound i g = record { ok = h; sound = sound; told = tt; within = i; grows = g }

-- a label, a case or a default that stood before or didn't, with its number
pub marked_ends : (a : Table) (line : ℕ) (n : Bool → StmtNode) {q : Table} (r : Result CoreStmt CheckFault) {stood again : Bool} {number marks : ℕ} {inside : StmtOf CType} → stood ≡ again → number ≡ marks → Ends a line (n stood) (Label number inside) q r → Ends a line (n again) (Label marks inside) q r
marked_ends a line n {q = q} r {stood = stood} {marks = marks} {inside = inside} h k e = subst (λ x. Ends a line (n x) (Label marks inside) q r) h (subst (λ x. Ends a line (n stood) (Label x inside) q r) k e)
