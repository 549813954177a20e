-- Typing of statements: their parts in order, and then the statement.
-- Source: C89 3.6.
use Rattle.std.specs.Prelude.{ℕ, ℤ, pos, unsigned_abs, ◌+◌, ◌^◌, ◌==◌, ◌&&◌, ◌||◌, not, if◌then◌else◌, Bool, true, false, Option, Some, None, List, [], ◌∷◌, ◌++◌, length, is_some, is_none}
use Rattle.c_ast.specs.Trees.{NoExpr, AnExpr, DeclarationTree, StatementTree, Label, Case, Default, Expression, Compound, If, IfElse, Switch, While, Do, For, Goto, Continue, Break, Return, StatementTrees, NoStatements, Statements, BlockTree, Block}
use Rattle.c_symbols.specs.Scoping.{symbol_named}
use Rattle.c_types.specs.CType.{CType, unqualified}
use Rattle.c_meaning.specs.declared.core_stmt.CoreCase.{CoreCase}
use Rattle.c_meaning.specs.State.{State, entered, left}
use Rattle.c_meaning.specs.StmtTrees.{StmtOf, StmtsOf, NoStmt, Stmts}
use Rattle.c_meaning.specs.StmtTrees as code
use Rattle.c_meaning.specs.Values.{CoreTree, value, promoted_value}
use Rattle.c_meaning.specs.Constants.{fold}
use Rattle.c_meaning.specs.Rows.{stored}
use Rattle.std.specs.Int.{int_rem_euclid}
use Rattle.c_meaning.specs.Units.{is_among, numbers}
use Rattle.c_meaning.specs.Typing.{Outcome, Fine, then_do, unless, typed, maybe_typed}
use Rattle.c_meaning.specs.Declarations.{Declares, Defined, Linked, nothing, together, or_zero}
use Rattle.c_meaning.specs.Declaring.{typed_declaration}
use Rattle.c_units.specs.Statements.{Around, StmtNode, stmt_fault}
use Rattle.c_units.specs.Statements as node

-- the function around a statement: its result, and the labels of its body with their numbers, each name once
pub record Within : Type 0 where
  pub result : CType
  pub labels : List (List ℕ × ℕ)

-- What a function has so far: how many labels, cases and defaults; the cases of the innermost switch and its default; whether a
-- goto names none of its labels; its locals; the objects with static storage that it defines; and the names with linkage that
-- its blocks declare.
pub record Body : Type 0 where
  pub marks : ℕ
  pub cases : List CoreCase
  pub default : Option ℕ
  pub lost : Bool
  pub locals : List CType
  pub objects : List Defined
  pub linked : List Linked

-- a statement, and what the function has behind it
pub record Typed (T : Type 0) : Type 0 where
  pub body : Body
  pub code : T

abbrev pub done : {T : Type 0} → Body → T → Typed T
done body code = record { body = body; code = code }

-- ---- what a function has

-- modulo 2^32
abbrev pub number_of : Option ℤ → Option ℕ
number_of None = None
number_of (Some z) = Some (unsigned_abs (int_rem_euclid z (pos (2 ^ 32))))

abbrev pub marked : Body → Body
marked b = record { marks = b.marks + 1; cases = b.cases; default = b.default; lost = b.lost; locals = b.locals; objects = b.objects; linked = b.linked }

abbrev pub with_cases : List CoreCase → Option ℕ → Body → Body
with_cases cases default b = record { marks = b.marks; cases = cases; default = default; lost = b.lost; locals = b.locals; objects = b.objects; linked = b.linked }

-- the number of a case modulo 2^32, if it is constant
abbrev pub case_number : CoreTree → Option ℕ
case_number e = number_of (fold e)

abbrev pub is_again : Option ℕ → List CoreCase → Bool
is_again None cases = false
is_again (Some n) cases = is_among n (numbers cases)

-- cases of a switch, each number once
abbrev pub with_number : ℕ → Option ℕ → List CoreCase → List CoreCase
with_number label None cases = cases
with_number label (Some n) cases = if is_among n (numbers cases) then cases else cases ++ record { number = n; label = label } ∷ []

abbrev pub or_label : Option ℕ → ℕ → Option ℕ
or_label (Some n) m = Some n
or_label None m = Some m

-- a case or a default stands in the innermost switch, if there is one
abbrev pub stands_in : Around → Body → List CoreCase → Option ℕ → Body
stands_in a b cases default = marked (if a.switch then with_cases cases default b else b)

abbrev pub with_case : Around → Body → CoreTree → Body
with_case a b e = stands_in a b (with_number b.marks (case_number e) b.cases) b.default

abbrev pub with_default : Around → Body → Body
with_default a b = stands_in a b b.cases (or_label b.default b.marks)

abbrev pub is_case_again : Around → Body → CoreTree → Bool
is_case_again a b e = a.switch && is_again (case_number e) b.cases

abbrev pub is_default_again : Around → Body → Bool
is_default_again a b = a.switch && is_some b.default

abbrev pub with_goto : Body → Bool → Body
with_goto b lost = record { marks = b.marks; cases = b.cases; default = b.default; lost = b.lost || lost; locals = b.locals; objects = b.objects; linked = b.linked }

abbrev pub with_declared : Body → Declares → Body
with_declared b d =
    record {
      marks = b.marks;
      cases = b.cases;
      default = b.default;
      lost = b.lost;
      locals = b.locals ++ d.locals;
      objects = b.objects ++ d.objects;
      linked = b.linked ++ d.linked;
    }

-- ---- around a statement

abbrev pub in_loop : Around → Around
in_loop a = record { loop = true; switch = a.switch }

abbrev pub in_switch : Around → Around
in_switch a = record { loop = a.loop; switch = true }

-- ---- rows

abbrev pub at_stmt : {T : Type 0} → State → ℕ → StmtNode → T → Outcome T
at_stmt s line n typed = unless (stmt_fault s line n) s typed

abbrev pub goto : Within → Body → List ℕ → Typed (StmtOf CType)
goto f b name = done (with_goto b (is_none (symbol_named f.labels name))) (code.Goto (or_zero (symbol_named f.labels name)))

-- a label that isn't the first of its name
abbrev pub is_other : Option ℕ → ℕ → Bool
is_other None n = false
is_other (Some m) n = not (m == n)

abbrev pub stands_again : Within → Body → List ℕ → Bool
stands_again f b name = is_other (symbol_named f.labels name) b.marks

abbrev pub maybe_value : Option CoreTree → Option CoreTree
maybe_value None = None
maybe_value (Some e) = Some (value e)

-- what is returned, at the type of the function's result
abbrev pub returned : CType → Option CoreTree → Option CoreTree
returned result None = None
returned result (Some e) = Some (stored (unqualified result) (value e))

abbrev pub labelled : Body → Typed (StmtOf CType) → Typed (StmtOf CType)
labelled b t = done t.body (code.Label b.marks t.code)

-- behind a switch those around have their cases again
abbrev pub switched : Body → CoreTree → Typed (StmtOf CType) → Typed (StmtOf CType)
switched b e t = done (with_cases b.cases b.default t.body) (code.Switch (promoted_value (value e)) t.body.cases t.body.default t.code)

abbrev pub on_code : {T U : Type 0} → (T → U) → Typed T → Typed U
on_code f t = done t.body (f t.code)

abbrev pub joined : Typed (StmtOf CType) → Typed (StmtsOf CType) → Typed (StmtsOf CType)
joined t ts = done ts.body (Stmts t.code ts.code)

abbrev pub stmts_behind : List (StmtOf CType) → StmtsOf CType → StmtsOf CType
stmts_behind [] ss = ss
stmts_behind (f ∷ fs) ss = Stmts f (stmts_behind fs ss)

-- a block: its locals are the next, and they begin with what their initialisers say
abbrev pub block_of : Body → Declares → Typed (StmtsOf CType) → Typed (StmtOf CType)
block_of b what t = done t.body (code.Block (length b.locals) (length what.locals) (stmts_behind what.fills t.code))

-- ---- the walk

abbrev pub typed_declarations : State → List DeclarationTree → Outcome Declares
typed_declarations s [] = Fine s nothing
typed_declarations s (d ∷ ds) = then_do (typed_declaration s d) (λ s what. then_do (typed_declarations s ds) (λ s more. Fine s (together what more)))

abbrev mutual
  pub typed_stmt : Within → Around → State → Body → StatementTree → Outcome (Typed (StmtOf CType))
  typed_stmt f a s b (Label l name st) = then_do (typed_stmt f a s (marked b) st) (λ s t. at_stmt s l (node.Label (stands_again f b name)) (labelled b t))
  typed_stmt f a s b (Case l e st) = then_do (typed s e) (λ s c. then_do (typed_stmt f a s (with_case a b c) st) (λ s t. at_stmt s l (node.Case c a (is_case_again a b c)) (labelled b t)))
  typed_stmt f a s b (Default l st) = then_do (typed_stmt f a s (with_default a b) st) (λ s t. at_stmt s l (node.Default a (is_default_again a b)) (labelled b t))
  typed_stmt f a s b (Expression l NoExpr) = Fine s (done b code.Nothing)
  typed_stmt f a s b (Expression l (AnExpr e)) = then_do (typed s e) (λ s c. at_stmt s l (node.Expression c) (done b (code.Expression (value c))))
  typed_stmt f a s b (Compound l block) = then_do (typed_block f a (entered s) b block) (λ t x. Fine (left s.outer s.inner t) x)
  typed_stmt f a s b (If l e st) = then_do (typed s e) (λ s c. then_do (typed_stmt f a s b st) (λ s t. at_stmt s l (node.Test c) (done t.body (code.If (value c) t.code code.Nothing))))
  typed_stmt f a s b (IfElse l e st su) = then_do (typed s e) (λ s c. then_do (typed_stmt f a s b st) (λ s t. then_do (typed_stmt f a s t.body su) (λ s u. at_stmt s l (node.Test c) (done u.body (code.If (value c) t.code u.code)))))
  typed_stmt f a s b (Switch l e st) = then_do (typed s e) (λ s c. then_do (typed_stmt f (in_switch a) s (with_cases [] None b) st) (λ s t. at_stmt s l (node.Switch c) (switched b c t)))
  typed_stmt f a s b (While l e st) = then_do (typed s e) (λ s c. then_do (typed_stmt f (in_loop a) s b st) (λ s t. at_stmt s l (node.Test c) (on_code (code.While (value c)) t)))
  typed_stmt f a s b (Do l st e) = then_do (typed_stmt f (in_loop a) s b st) (λ s t. then_do (typed s e) (λ s c. at_stmt s l (node.Test c) (on_code (λ x. code.Do x (value c)) t)))
  typed_stmt f a s b (For l first test last st) =
      then_do (maybe_typed s first) (λ s c. then_do (maybe_typed s test) (λ s d. then_do (maybe_typed s last) (λ s e.
      then_do (typed_stmt f (in_loop a) s b st) (λ s t. at_stmt s l (node.For c d e) (on_code (code.For (maybe_value c) (maybe_value d) (maybe_value e)) t)))))
  typed_stmt f a s b (Goto l name) = Fine s (goto f b name)
  typed_stmt f a s b (Continue l) = at_stmt s l (node.Continue a) (done b code.Continue)
  typed_stmt f a s b (Break l) = at_stmt s l (node.Break a) (done b code.Break)
  typed_stmt f a s b (Return l e) = then_do (maybe_typed s e) (λ s c. at_stmt s l (node.Return f.result c) (done b (code.Return (returned f.result c))))

  pub all_typed_stmts : Within → Around → State → Body → StatementTrees → Outcome (Typed (StmtsOf CType))
  all_typed_stmts f a s b NoStatements = Fine s (done b NoStmt)
  all_typed_stmts f a s b (Statements st more) = then_do (typed_stmt f a s b st) (λ s t. then_do (all_typed_stmts f a s t.body more) (λ s ts. Fine s (joined t ts)))

  -- in the scope that it stands in
  pub typed_block : Within → Around → State → Body → BlockTree → Outcome (Typed (StmtOf CType))
  typed_block f a s b (Block l ds ss) = then_do (typed_declarations s ds) (λ s what. then_do (all_typed_stmts f a s (with_declared b what) ss) (λ s t. Fine s (block_of b what t)))
