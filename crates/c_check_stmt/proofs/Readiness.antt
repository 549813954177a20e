-- What is known stays known behind a part of a statement, whatever that declares.
use Rattle.std.proofs.Common.{◌≡◌, List, length, sym, subst}
use Rattle.std.specs.Prelude.{Result, Ok, IsErrAnd}
use Rattle.c_symbols.specs.Scoping.{Scoping}
use Rattle.c_types.specs.CType.{CType}
use Rattle.c_types.specs.Table.{Table}
use Rattle.c_meaning.specs.StmtTrees.{StmtOf, StmtsOf}
use Rattle.c_meaning.specs.Typing.{Outcome}
use Rattle.c_meaning.specs.declared.core_stmt.CoreStmt.{CoreStmt}
use Rattle.c_values.specs.declared.check_fault.CheckFault.{CheckFault}
use Rattle.c_values.specs.declared.check_fault.CheckFault.TheVariants.{Memory}
use Rattle.c_check_expr.specs.Keeps.{Keeps}
use Rattle.c_check_expr.specs.Kept.{below_later}
use Rattle.c_check_expr.proofs.lemmas.Walking.{memory_stops}
use Rattle.c_units.specs.Bodies.{Typed}
use Rattle.c_stmt_parts.specs.declared.around.Within.{Within}
use Rattle.c_stmt_parts.specs.declared.body.Body.{Body}
use Rattle.c_stmt_parts.specs.BodiesSeen.{IsBodyIn}
use Rattle.c_stmt_parts.proofs.lemmas.BodiesStay.{body_later}
use Rattle.c_stmt_parts.specs.StatementsIn.{AreCodesIn, IsCodeIn, WalksStmt, WalksStmts, code_in, codes_in, with_body}
use Rattle.c_stmt_parts.proofs.lemmas.StatementWalks.{with_err}
use Rattle.c_check_stmt.specs.Ready.{IsReady}

pub ready_on : {s u : Scoping} {a b : Table} {w : Within} {x : Body} → IsReady a w x → Keeps s a u b → IsReady b w x
ready_on {a = a} {b = b} {w = w} {x = x} r k = record { result = below_later a b k.extends w.result r.result; body = body_later a b k.extends x r.body }

-- behind a statement its body has further types
pub ready_behind : {s u : Scoping} {a b : Table} {w : Within} {x : Body} (y : Body) (code : CoreStmt) (o : Outcome (Typed (StmtOf CType))) → IsReady a w x → WalksStmt o s a u b y (Ok code) → IsReady b w y
ready_behind {a = a} {b = b} {w = w} y code o r k = record { result = below_later a b k.keeps.extends w.result r.result; body = k.within.0 }

-- another body with such types
pub ready_with : {a : Table} {w : Within} {x : Body} (y : Body) → IsReady a w x → IsBodyIn (length a.forms) y → IsReady a w y
ready_with y r i = record { result = r.result; body = i }

pub out_of_memory : {s u : Scoping} {a b : Table} (o : Outcome (Typed (StmtOf CType))) (y : Body) (r : Result CoreStmt CheckFault) → IsErrAnd r (λ d. d ≡ Memory) → Keeps s a u b → WalksStmt o s a u b y r
out_of_memory {s = s} {u = u} {a = a} {b = b} o y r h k = memory_stops code_in IsCodeIn o s u a b (with_body y r) (with_err Memory y r h) k

pub out_of_list_memory : {s u : Scoping} {a b : Table} (o : Outcome (Typed (StmtsOf CType))) (y : Body) (r : Result (List CoreStmt) CheckFault) → IsErrAnd r (λ d. d ≡ Memory) → Keeps s a u b → WalksStmts o s a u b y r
out_of_list_memory {s = s} {u = u} {a = a} {b = b} o y r h k = memory_stops codes_in AreCodesIn o s u a b (with_body y r) (with_err Memory y r h) k

-- the same statement, said otherwise
pub same_code : {s u : Scoping} {a b : Table} (o : Outcome (Typed (StmtOf CType))) (y : Body) {full whole : CoreStmt} → full ≡ whole → WalksStmt o s a u b y (Ok whole) → WalksStmt o s a u b y (Ok full)
same_code {s = s} {u = u} {a = a} {b = b} o y e w = subst (λ x. WalksStmt o s a u b y (Ok x)) (sym e) w
