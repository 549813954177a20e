-- What each checked statement is over a table of types, and that its types stand below a place where those of its parts do.
use Rattle.std.proofs.Common.{◌≡◌, ℕ, Option, List, [], ◌∷◌, map, refl, sym, ap, ◌∙◌, subst}
use Rattle.std.specs.Global.{Box}
use Rattle.c_types.specs.Table.{Table, type_at}
use Rattle.c_meaning.specs.CoreTrees.{CoreOf, IsIn}
use Rattle.c_meaning.specs.declared.core_stmt.CoreCase.{CoreCase}
use Rattle.c_meaning.specs.declared.core_stmt.CoreForHead.{CoreForHead}
use Rattle.c_meaning.specs.declared.core_stmt.CoreStmt.{CoreStmt, CoreStmt-F, fold-roll-CoreStmt}
use Rattle.c_meaning.specs.declared.core_stmt.CoreStmt.TheVariants as stmt
use Rattle.c_meaning.specs.StmtTrees.{StmtOf, Nothing, Expression, Block, If, While, Do, For, Switch, Label, Goto, Break, Continue, Return, AreStmtsIn, IsSomeIn, IsStmtIn, stmt_layer, stmt_of, stmt_seen, stmts_of, stmts_seen}
use Rattle.c_check_expr.specs.Walks.{core}
use Rattle.c_check_decl.specs.Declares.{stmt_in}
use Rattle.c_stmt_parts.specs.Asked.{maybe_core}
use Rattle.c_stmt_parts.specs.StatementsIn.{AreStmtsBelow, stmts_in}

-- ---- one layer of each, over places

is_nothing : stmt_of stmt.Nothing ≡ Nothing
is_nothing = ap stmt_of (sym stmt.rolls-Nothing) ∙ fold-roll-CoreStmt (StmtOf ℕ) stmt_layer CoreStmt-F.Nothing

is_expression : (e : CoreOf ℕ) → stmt_of (stmt.Expression e) ≡ Expression e
is_expression e = ap stmt_of (sym (stmt.rolls-Expression e)) ∙ fold-roll-CoreStmt (StmtOf ℕ) stmt_layer (CoreStmt-F.Expression e)

is_block : (first locals : ℕ) (ss : List CoreStmt) → stmt_of (stmt.Block first locals ss) ≡ Block first locals (stmts_of (map stmt_of ss))
is_block first locals ss = ap stmt_of (sym (stmt.rolls-Block first locals ss)) ∙ fold-roll-CoreStmt (StmtOf ℕ) stmt_layer (CoreStmt-F.Block first locals ss)

is_if : (e : Box (CoreOf ℕ)) (s u : Box CoreStmt) → stmt_of (stmt.If e s u) ≡ If e.value (stmt_of s.value) (stmt_of u.value)
is_if e s u = ap stmt_of (sym (stmt.rolls-If e s u)) ∙ fold-roll-CoreStmt (StmtOf ℕ) stmt_layer (CoreStmt-F.If e s u)

is_while : (e : CoreOf ℕ) (s : Box CoreStmt) → stmt_of (stmt.While e s) ≡ While e (stmt_of s.value)
is_while e s = ap stmt_of (sym (stmt.rolls-While e s)) ∙ fold-roll-CoreStmt (StmtOf ℕ) stmt_layer (CoreStmt-F.While e s)

is_do : (s : Box CoreStmt) (e : CoreOf ℕ) → stmt_of (stmt.Do s e) ≡ Do (stmt_of s.value) e
is_do s e = ap stmt_of (sym (stmt.rolls-Do s e)) ∙ fold-roll-CoreStmt (StmtOf ℕ) stmt_layer (CoreStmt-F.Do s e)

is_for : (h : Box CoreForHead) (s : Box CoreStmt) → stmt_of (stmt.For h s) ≡ For h.value.first h.value.test h.value.last (stmt_of s.value)
is_for h s = ap stmt_of (sym (stmt.rolls-For h s)) ∙ fold-roll-CoreStmt (StmtOf ℕ) stmt_layer (CoreStmt-F.For h s)

is_switch : (e : Box (CoreOf ℕ)) (cases : List CoreCase) (default : Option ℕ) (s : Box CoreStmt) → stmt_of (stmt.Switch e cases default s) ≡ Switch e.value cases default (stmt_of s.value)
is_switch e cases default s = ap stmt_of (sym (stmt.rolls-Switch e cases default s)) ∙ fold-roll-CoreStmt (StmtOf ℕ) stmt_layer (CoreStmt-F.Switch e cases default s)

is_label : (n : ℕ) (s : Box CoreStmt) → stmt_of (stmt.Label n s) ≡ Label n (stmt_of s.value)
is_label n s = ap stmt_of (sym (stmt.rolls-Label n s)) ∙ fold-roll-CoreStmt (StmtOf ℕ) stmt_layer (CoreStmt-F.Label n s)

is_goto : (n : ℕ) → stmt_of (stmt.Goto n) ≡ Goto n
is_goto n = ap stmt_of (sym (stmt.rolls-Goto n)) ∙ fold-roll-CoreStmt (StmtOf ℕ) stmt_layer (CoreStmt-F.Goto n)

is_break : stmt_of stmt.Break ≡ Break
is_break = ap stmt_of (sym stmt.rolls-Break) ∙ fold-roll-CoreStmt (StmtOf ℕ) stmt_layer CoreStmt-F.Break

is_continue : stmt_of stmt.Continue ≡ Continue
is_continue = ap stmt_of (sym stmt.rolls-Continue) ∙ fold-roll-CoreStmt (StmtOf ℕ) stmt_layer CoreStmt-F.Continue

is_return : (e : Option (CoreOf ℕ)) → stmt_of (stmt.Return e) ≡ Return e
is_return e = ap stmt_of (sym (stmt.rolls-Return e)) ∙ fold-roll-CoreStmt (StmtOf ℕ) stmt_layer (CoreStmt-F.Return e)

-- ---- over a table

pub nothing_seen : (t : Table) → stmt_in t stmt.Nothing ≡ Nothing
nothing_seen t = ap (stmt_seen (type_at t)) is_nothing

pub expression_seen : (t : Table) (e : CoreOf ℕ) → stmt_in t (stmt.Expression e) ≡ Expression (core t e)
expression_seen t e = ap (stmt_seen (type_at t)) (is_expression e)

pub statements_seen : (t : Table) (ss : List CoreStmt) → stmts_seen (type_at t) (stmts_of (map stmt_of ss)) ≡ stmts_in t ss
statements_seen t [] = refl
statements_seen t (s ∷ ss) = rw (statements_seen t ss) refl

pub block_seen : (t : Table) (first locals : ℕ) (ss : List CoreStmt) → stmt_in t (stmt.Block first locals ss) ≡ Block first locals (stmts_in t ss)
block_seen t first locals ss = ap (stmt_seen (type_at t)) (is_block first locals ss) ∙ ap (Block first locals) (statements_seen t ss)

pub if_seen : (t : Table) (e : Box (CoreOf ℕ)) (s u : Box CoreStmt) → stmt_in t (stmt.If e s u) ≡ If (core t e.value) (stmt_in t s.value) (stmt_in t u.value)
if_seen t e s u = ap (stmt_seen (type_at t)) (is_if e s u)

pub while_seen : (t : Table) (e : CoreOf ℕ) (s : Box CoreStmt) → stmt_in t (stmt.While e s) ≡ While (core t e) (stmt_in t s.value)
while_seen t e s = ap (stmt_seen (type_at t)) (is_while e s)

pub do_seen : (t : Table) (s : Box CoreStmt) (e : CoreOf ℕ) → stmt_in t (stmt.Do s e) ≡ Do (stmt_in t s.value) (core t e)
do_seen t s e = ap (stmt_seen (type_at t)) (is_do s e)

pub for_seen : (t : Table) (h : Box CoreForHead) (s : Box CoreStmt) → stmt_in t (stmt.For h s) ≡ For (maybe_core t h.value.first) (maybe_core t h.value.test) (maybe_core t h.value.last) (stmt_in t s.value)
for_seen t h s = ap (stmt_seen (type_at t)) (is_for h s)

pub switch_seen : (t : Table) (e : Box (CoreOf ℕ)) (cases : List CoreCase) (default : Option ℕ) (s : Box CoreStmt) → stmt_in t (stmt.Switch e cases default s) ≡ Switch (core t e.value) cases default (stmt_in t s.value)
switch_seen t e cases default s = ap (stmt_seen (type_at t)) (is_switch e cases default s)

pub label_seen : (t : Table) (n : ℕ) (s : Box CoreStmt) → stmt_in t (stmt.Label n s) ≡ Label n (stmt_in t s.value)
label_seen t n s = ap (stmt_seen (type_at t)) (is_label n s)

pub goto_seen : (t : Table) (n : ℕ) → stmt_in t (stmt.Goto n) ≡ Goto n
goto_seen t n = ap (stmt_seen (type_at t)) (is_goto n)

pub break_seen : (t : Table) → stmt_in t stmt.Break ≡ Break
break_seen t = ap (stmt_seen (type_at t)) is_break

pub continue_seen : (t : Table) → stmt_in t stmt.Continue ≡ Continue
continue_seen t = ap (stmt_seen (type_at t)) is_continue

pub return_seen : (t : Table) (e : Option (CoreOf ℕ)) → stmt_in t (stmt.Return e) ≡ Return (maybe_core t e)
return_seen t e = ap (stmt_seen (type_at t)) (is_return e)

-- ---- their types stand below a place

pub nothing_within : (n : ℕ) → IsStmtIn n (stmt_of stmt.Nothing)
nothing_within n = subst (IsStmtIn n) (sym is_nothing) tt

pub expression_within : (n : ℕ) (e : CoreOf ℕ) → IsIn n e → IsStmtIn n (stmt_of (stmt.Expression e))
expression_within n e i = subst (IsStmtIn n) (sym (is_expression e)) i

statements_within : (n : ℕ) (ss : List CoreStmt) → AreStmtsBelow n ss → AreStmtsIn n (stmts_of (map stmt_of ss))
statements_within n [] i = tt
statements_within n (s ∷ ss) i = (i.0, statements_within n ss i.1)

pub block_within : (n first locals : ℕ) (ss : List CoreStmt) → AreStmtsBelow n ss → IsStmtIn n (stmt_of (stmt.Block first locals ss))
block_within n first locals ss i = subst (IsStmtIn n) (sym (is_block first locals ss)) (statements_within n ss i)

pub if_within : (n : ℕ) (e : Box (CoreOf ℕ)) (s u : Box CoreStmt) → IsIn n e.value → IsStmtIn n (stmt_of s.value) → IsStmtIn n (stmt_of u.value) → IsStmtIn n (stmt_of (stmt.If e s u))
if_within n e s u i j k = subst (IsStmtIn n) (sym (is_if e s u)) (i, (j, k))

pub while_within : (n : ℕ) (e : CoreOf ℕ) (s : Box CoreStmt) → IsIn n e → IsStmtIn n (stmt_of s.value) → IsStmtIn n (stmt_of (stmt.While e s))
while_within n e s i j = subst (IsStmtIn n) (sym (is_while e s)) (i, j)

pub do_within : (n : ℕ) (s : Box CoreStmt) (e : CoreOf ℕ) → IsStmtIn n (stmt_of s.value) → IsIn n e → IsStmtIn n (stmt_of (stmt.Do s e))
do_within n s e i j = subst (IsStmtIn n) (sym (is_do s e)) (i, j)

pub for_within : (n : ℕ) (h : Box CoreForHead) (s : Box CoreStmt) → IsSomeIn n h.value.first → IsSomeIn n h.value.test → IsSomeIn n h.value.last → IsStmtIn n (stmt_of s.value) → IsStmtIn n (stmt_of (stmt.For h s))
for_within n h s i j k l = subst (IsStmtIn n) (sym (is_for h s)) (i, (j, (k, l)))

pub switch_within : (n : ℕ) (e : Box (CoreOf ℕ)) (cases : List CoreCase) (default : Option ℕ) (s : Box CoreStmt) → IsIn n e.value → IsStmtIn n (stmt_of s.value) → IsStmtIn n (stmt_of (stmt.Switch e cases default s))
switch_within n e cases default s i j = subst (IsStmtIn n) (sym (is_switch e cases default s)) (i, j)

pub label_within : (n label : ℕ) (s : Box CoreStmt) → IsStmtIn n (stmt_of s.value) → IsStmtIn n (stmt_of (stmt.Label label s))
label_within n label s i = subst (IsStmtIn n) (sym (is_label label s)) i

pub goto_within : (n label : ℕ) → IsStmtIn n (stmt_of (stmt.Goto label))
goto_within n label = subst (IsStmtIn n) (sym (is_goto label)) tt

pub break_within : (n : ℕ) → IsStmtIn n (stmt_of stmt.Break)
break_within n = subst (IsStmtIn n) (sym is_break) tt

pub continue_within : (n : ℕ) → IsStmtIn n (stmt_of stmt.Continue)
continue_within n = subst (IsStmtIn n) (sym is_continue) tt

pub return_within : (n : ℕ) (e : Option (CoreOf ℕ)) → IsSomeIn n e → IsStmtIn n (stmt_of (stmt.Return e))
return_within n e i = subst (IsStmtIn n) (sym (is_return e)) i
