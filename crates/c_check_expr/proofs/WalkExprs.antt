-- Walks over expressions: each construct behind its parts.
use Rattle.std.proofs.Common.{◌≡◌, ℕ, List, [], ◌∷◌, ◌++◌, Some, None, length, sym, ap, ◌∙◌, subst}
use Rattle.std.specs.Prelude.{Option, is_none, Result, Ok, Err, IfOk, IfErr, IsErrAnd}
use Rattle.c_ast.specs.declared.expr.Expr.{Expr, out-Expr}
use Rattle.c_ast.specs.declared.expr.ExprForm.{ExprForm}
use Rattle.c_ast.specs.Trees.{Call, Conditional, Cast, Enclosed, ExprTree, ExprTrees, Comma, SizeofType, TypeNameTree, Name}
use Rattle.c_ast.specs.Seen.{expr_form_seen, expr_seen}
use Rattle.c_ast.proofs.lemmas.SeenExprs.{expr_parts}
use Rattle.c_symbols.specs.Scoping.{Scoping, found}
use Rattle.c_types.specs.Table.{Table, Grows, type_at}
use Rattle.c_meaning.specs.CoreTrees.{CoreOf, IsIn}
use Rattle.c_meaning.specs.Nodes.{ExprNode, Expression}
use Rattle.c_meaning.specs.Nodes as node
use Rattle.c_meaning.specs.Rows.{row}
use Rattle.c_meaning.specs.State.{State, with_function}
use Rattle.c_meaning.specs.Typing.{Outcome, Fine, all_typed, at, at_expr, callee, callee_named, then_do, typed, typed_name}
use Rattle.c_meaning.specs.Values.{CoreTree}
use Rattle.c_values.specs.declared.check_fault.CheckFault.{CheckFault}
use Rattle.c_check_expr.specs.AtNode.{Becomes, IsRefused, Tells}
use Rattle.c_check_expr.specs.Keeps.{Keeps}
use Rattle.c_check_expr.specs.Known.{AreSymbolsIn, state_of}
use Rattle.c_check_expr.specs.TypedIn.{callee_in, expr_in, exprs_in, name_in, pair_in}
use Rattle.c_check_expr.specs.Walks.{AreCoresIn, IsBelow, IsPairIn, Walks, core, cores, pair}
use Rattle.c_values.specs.Stays.{in_later, seen_stays}
use Rattle.c_check_expr.proofs.lemmas.WalkLists.{then_same, then_then}
use Rattle.c_check_expr.specs.Kept.{keeps_itself}
use Rattle.c_check_expr.proofs.lemmas.Walking.{both_go, first_stops, second_stops, walk_as, walk_node, walk_none, walk_then}

-- what a node's function ensures of it
pub record IsNodeOf (a b : Table) (line : ℕ) (n : ExprNode) (r : Result (CoreOf ℕ) CheckFault) : Type 0 where
  pub ok : IfOk r (λ c. Becomes a line n b c)
  pub err : IfErr r (λ f. IsRefused a line n f)
  pub within : IfOk r (λ c. IsIn (length b.forms) c)
  pub grows : Grows a b

pub node_walk : (s : Scoping) (a b : Table) (line : ℕ) (n : ExprNode) (r : Result (CoreOf ℕ) CheckFault) → AreSymbolsIn (length a.forms) s.symbols → IsNodeOf a b line n r → Walks core IsIn (at_expr (state_of s a) line n) s a s b r
node_walk s a b line n r i h = walk_node s a b line n r i h.grows h.ok h.err h.within

-- ---- a node without parts

pub leaf_goes : (tree : ExprTree) (line : ℕ) (n : ExprNode) (s : Scoping) (a b : Table) (r : Result (CoreOf ℕ) CheckFault) → ((m : State) → typed m tree ≡ at_expr m line n) → AreSymbolsIn (length a.forms) s.symbols → IsNodeOf a b line n r → Walks core IsIn (expr_in s a tree) s a s b r
unfolding expr_in
leaf_goes tree line n s a b r e i h = walk_as (at_expr (state_of s a) line n) (typed (state_of s a) tree) (e (state_of s a)) (node_walk s a b line n r i h)

-- ---- with one part

module _ (tree x : ExprTree) (line : ℕ) (n : CoreTree → ExprNode) (is : (m : State) → typed m tree ≡ then_do (typed m x) (λ u c. at_expr u line (n c))) where
  pub one_stops : {s u : Scoping} {a b : Table} {e : CheckFault} (r : Result (CoreOf ℕ) CheckFault) → IsErrAnd r (λ d. d ≡ e) → Walks core IsIn (expr_in s a x) s a u b (Err e) → Walks core IsIn (expr_in s a tree) s a u b r
  unfolding expr_in
  one_stops {s = s} {a = a} r h w = walk_as (then_do (typed (state_of s a) x) (λ u c. at_expr u line (n c))) (typed (state_of s a) tree) (is (state_of s a)) (first_stops core IsIn (typed (state_of s a) x) (λ u c. at_expr u line (n c)) r h w)

  pub one_goes : {s u : Scoping} {a b d : Table} {v : CoreOf ℕ} {r : Result (CoreOf ℕ) CheckFault} → Walks core IsIn (expr_in s a x) s a u b (Ok v) → IsNodeOf b d line (n (core b v)) r → Walks core IsIn (expr_in s a tree) s a u d r
  unfolding expr_in
  one_goes {s = s} {u = u} {a = a} {b = b} {d = d} {v = v} {r = r} w h =
      walk_as (then_do (typed (state_of s a) x) (λ u c. at_expr u line (n c))) (typed (state_of s a) tree) (is (state_of s a))
      (walk_then core IsIn (typed (state_of s a) x) (λ u c. at_expr u line (n c)) s u u a b d v r w (node_walk u b d line (n (core b v)) r w.keeps.symbols h))

-- ---- two parts

pub pair_stops : {s u : Scoping} {a b : Table} {e : CheckFault} (x y : ExprTree) (r : Result (CoreOf ℕ × CoreOf ℕ) CheckFault) → IsErrAnd r (λ d. d ≡ e) → Walks core IsIn (expr_in s a x) s a u b (Err e) → Walks pair IsPairIn (pair_in s a x y) s a u b r
unfolding expr_in pair_in
pair_stops {s = s} {a = a} x y r h w = first_stops pair IsPairIn (typed (state_of s a) x) (λ m c. then_do (typed m y) (λ u d. Fine u (c, d))) r h w

pub pair_stops_second : {s m u : Scoping} {a b c : Table} {v : CoreOf ℕ} {e : CheckFault} (x y : ExprTree) (r : Result (CoreOf ℕ × CoreOf ℕ) CheckFault) → IsErrAnd r (λ d. d ≡ e) → Walks core IsIn (expr_in s a x) s a m b (Ok v) → Walks core IsIn (expr_in m b y) m b u c (Err e) → Walks pair IsPairIn (pair_in s a x y) s a u c r
unfolding expr_in pair_in
pair_stops_second {s = s} {a = a} x y r h w w2 = second_stops pair IsPairIn (typed (state_of s a) x) (λ m c. typed m y) (λ u c d. Fine u (c, d)) r h w w2

pub pair_goes : {s m u : Scoping} {a b c : Table} {v w : CoreOf ℕ} (x y : ExprTree) → Walks core IsIn (expr_in s a x) s a m b (Ok v) → Walks core IsIn (expr_in m b y) m b u c (Ok w) → Walks pair IsPairIn (pair_in s a x y) s a u c (Ok (v, w))
unfolding expr_in pair_in
pair_goes {s = s} {m = m} {u = u} {a = a} {b = b} {c = c} {v = v} {w = w} x y h k =
    both_go pair IsPairIn (typed (state_of s a) x) (λ m c. typed m y) (λ u c d. Fine u (c, d)) h k (seen_stays b c k.keeps.extends v h.within)
    (walk_none pair IsPairIn u c (v, w) k.keeps.symbols (in_later b c k.keeps.extends v h.within, k.within))

abbrev paired : CoreTree → CoreTree → CoreTree × CoreTree
paired c d = (c, d)

module _ (tree x y : ExprTree) (line : ℕ) (n : CoreTree → CoreTree → ExprNode) (is : (m : State) → typed m tree ≡ then_do (typed m x) (λ u c. then_do (typed u y) (λ v d. at_expr v line (n c d)))) where
  as_pair : (m : State) → typed m tree ≡ then_do (then_do (typed m x) (λ u c. then_do (typed u y) (λ v d. Fine v (paired c d)))) (λ v p. at_expr v line (n p.0 p.1))
  as_pair m =
      is m
      ∙ sym (then_then (typed m x) (λ u c. then_do (typed u y) (λ v d. Fine v (paired c d))) (λ v (p : CoreTree × CoreTree). at_expr v line (n p.0 p.1))
      ∙ then_same (typed m x) (λ u c. then_do (then_do (typed u y) (λ v d. Fine v (paired c d))) (λ v (p : CoreTree × CoreTree). at_expr v line (n p.0 p.1))) (λ u c. then_do (typed u y) (λ v d. at_expr v line (n c d)))
      (λ u c. then_then (typed u y) (λ v d. Fine v (paired c d)) (λ v (p : CoreTree × CoreTree). at_expr v line (n p.0 p.1))))

  pub two_stop : {s u : Scoping} {a b : Table} {e : CheckFault} (r : Result (CoreOf ℕ) CheckFault) → IsErrAnd r (λ d. d ≡ e) → Walks pair IsPairIn (pair_in s a x y) s a u b (Err e) → Walks core IsIn (expr_in s a tree) s a u b r
  unfolding expr_in pair_in
  two_stop {s = s} {a = a} r h w =
      walk_as (then_do (pair_in s a x y) (λ v p. at_expr v line (n p.0 p.1))) (typed (state_of s a) tree) (as_pair (state_of s a))
      (first_stops core IsIn (pair_in s a x y) (λ v p. at_expr v line (n p.0 p.1)) r h w)

  pub two_go : {s u : Scoping} {a b d : Table} {p : CoreOf ℕ × CoreOf ℕ} {r : Result (CoreOf ℕ) CheckFault} → Walks pair IsPairIn (pair_in s a x y) s a u b (Ok p) → IsNodeOf b d line (n (core b p.0) (core b p.1)) r → Walks core IsIn (expr_in s a tree) s a u d r
  unfolding expr_in pair_in
  two_go {s = s} {u = u} {a = a} {b = b} {d = d} {p = p} {r = r} w h =
      walk_as (then_do (pair_in s a x y) (λ v p. at_expr v line (n p.0 p.1))) (typed (state_of s a) tree) (as_pair (state_of s a))
      (walk_then core IsIn (pair_in s a x y) (λ v p. at_expr v line (n p.0 p.1)) s u u a b d p r w (node_walk u b d line (n (core b p.0) (core b p.1)) r w.keeps.symbols h))

-- ---- what an expression is

pub seen_as : {s u : Scoping} {a b : Table} {r : Result (CoreOf ℕ) CheckFault} (e : Expr) (f : ExprForm) (tree : ExprTree) → (out-Expr e).form ≡ f → expr_form_seen f (out-Expr e).line ≡ tree
    → Walks core IsIn (expr_in s a tree) s a u b r → Walks core IsIn (expr_in s a (expr_seen e)) s a u b r
seen_as {s = s} {u = u} {a = a} {b = b} {r = r} e f tree h k w =
    subst (λ x. Walks core IsIn (expr_in s a x) s a u b r) (sym (expr_parts e ∙ ap (λ g. expr_form_seen g (out-Expr e).line) h ∙ k)) w

-- ---- names, and what stands in parentheses

pub name_goes : (s : Scoping) (a : Table) (line : ℕ) (x : List ℕ) (r : Result (CoreOf ℕ) CheckFault) → AreSymbolsIn (length a.forms) s.symbols
    → IfOk r (λ c. at_expr (state_of s a) line (node.Name x) ≡ Fine (state_of s a) (core a c)) → IfErr r (λ f. Tells f (at_expr (state_of s a) line (node.Name x))) → IfOk r (λ c. IsIn (length a.forms) c) → Walks core IsIn (expr_in s a (Name line x)) s a s a r
unfolding expr_in
name_goes s a line x r i ok err within = record { ok = ok; err = err; within = within; keeps = keeps_itself s a i }

pub enclosed_goes : {s u : Scoping} {a b : Table} {r : Result (CoreOf ℕ) CheckFault} (line : ℕ) (x : ExprTree) → Walks core IsIn (expr_in s a x) s a u b r → Walks core IsIn (expr_in s a (Enclosed line x)) s a u b r
unfolding expr_in
enclosed_goes line x w = w

-- ---- three parts

pub three_stop : {s u : Scoping} {a b : Table} {e : CheckFault} (line : ℕ) (x y z : ExprTree) (r : Result (CoreOf ℕ) CheckFault) → IsErrAnd r (λ d. d ≡ e) → Walks core IsIn (expr_in s a x) s a u b (Err e) → Walks core IsIn (expr_in s a (Conditional line x y z)) s a u b r
unfolding expr_in
three_stop {s = s} {a = a} line x y z r h w = first_stops core IsIn (typed (state_of s a) x) (λ m c. then_do (typed m y) (λ u d. then_do (typed u z) (λ v f. at_expr v line (node.Conditional c d f)))) r h w

-- behind the first, the others as a pair
behind_first : (m : State) (line : ℕ) (y z : ExprTree) (c : CoreTree) → then_do (typed m y) (λ u d. then_do (typed u z) (λ v f. at_expr v line (node.Conditional c d f))) ≡ then_do (then_do (typed m y) (λ u d. then_do (typed u z) (λ v f. Fine v (paired d f)))) (λ v p. at_expr v line (node.Conditional c p.0 p.1))
behind_first m line y z c =
    sym (then_then (typed m y) (λ u d. then_do (typed u z) (λ v f. Fine v (paired d f))) (λ v (p : CoreTree × CoreTree). at_expr v line (node.Conditional c p.0 p.1))
    ∙ then_same (typed m y) (λ u d. then_do (then_do (typed u z) (λ v f. Fine v (paired d f))) (λ v (p : CoreTree × CoreTree). at_expr v line (node.Conditional c p.0 p.1))) (λ u d. then_do (typed u z) (λ v f. at_expr v line (node.Conditional c d f)))
    (λ u d. then_then (typed u z) (λ v f. Fine v (paired d f)) (λ v (p : CoreTree × CoreTree). at_expr v line (node.Conditional c p.0 p.1))))

chosen_is : (m : State) (line : ℕ) (x y z : ExprTree) → typed m (Conditional line x y z) ≡ then_do (typed m x) (λ u c. then_do (then_do (typed u y) (λ v d. then_do (typed v z) (λ w f. Fine w (paired d f)))) (λ v p. at_expr v line (node.Conditional c p.0 p.1)))
chosen_is m line x y z =
    then_same (typed m x) (λ u c. then_do (typed u y) (λ v d. then_do (typed v z) (λ w f. at_expr w line (node.Conditional c d f)))) (λ u c. then_do (then_do (typed u y) (λ v d. then_do (typed v z) (λ w f. Fine w (paired d f)))) (λ v p. at_expr v line (node.Conditional c p.0 p.1)))
    (λ u c. behind_first u line y z c)

abbrev others : ExprTree → ExprTree → State → CoreTree → Outcome (CoreTree × CoreTree)
others y z m c = then_do (typed m y) (λ v d. then_do (typed v z) (λ w f. Fine w (paired d f)))

pub three_stop_behind : {s m u : Scoping} {a b c : Table} {v : CoreOf ℕ} {e : CheckFault} (line : ℕ) (x y z : ExprTree) (r : Result (CoreOf ℕ) CheckFault) → IsErrAnd r (λ d. d ≡ e) → Walks core IsIn (expr_in s a x) s a m b (Ok v) → Walks pair IsPairIn (pair_in m b y z) m b u c (Err e)
    → Walks core IsIn (expr_in s a (Conditional line x y z)) s a u c r
unfolding expr_in pair_in
three_stop_behind {s = s} {a = a} line x y z r h w k =
    walk_as (then_do (typed (state_of s a) x) (λ u c. then_do (others y z u c) (λ v p. at_expr v line (node.Conditional c p.0 p.1)))) (typed (state_of s a) (Conditional line x y z)) (chosen_is (state_of s a) line x y z)
    (second_stops core IsIn (typed (state_of s a) x) (others y z) (λ v c p. at_expr v line (node.Conditional c p.0 p.1)) r h w k)

pub three_go : {s m u : Scoping} {a b c d : Table} {v : CoreOf ℕ} {p : CoreOf ℕ × CoreOf ℕ} {r : Result (CoreOf ℕ) CheckFault} (line : ℕ) (x y z : ExprTree) → Walks core IsIn (expr_in s a x) s a m b (Ok v) → Walks pair IsPairIn (pair_in m b y z) m b u c (Ok p)
    → IsNodeOf c d line (node.Conditional (core c v) (core c p.0) (core c p.1)) r → Walks core IsIn (expr_in s a (Conditional line x y z)) s a u d r
unfolding expr_in pair_in
three_go {s = s} {u = u} {a = a} {b = b} {c = c} {d = d} {v = v} {p = p} {r = r} line x y z w k h =
    walk_as (then_do (typed (state_of s a) x) (λ u c. then_do (others y z u c) (λ v p. at_expr v line (node.Conditional c p.0 p.1)))) (typed (state_of s a) (Conditional line x y z)) (chosen_is (state_of s a) line x y z)
    (both_go core IsIn (typed (state_of s a) x) (others y z) (λ v c p. at_expr v line (node.Conditional c p.0 p.1)) w k (seen_stays b c k.keeps.extends v w.within)
    (node_walk u c d line (node.Conditional (core c v) (core c p.0) (core c p.1)) r k.keeps.symbols h))

-- ---- casts, sizes of types

pub cast_stops : {s u : Scoping} {a b : Table} {e : CheckFault} (line : ℕ) (t : TypeNameTree) (x : ExprTree) (r : Result (CoreOf ℕ) CheckFault) → IsErrAnd r (λ d. d ≡ e) → Walks type_at IsBelow (name_in s a t) s a u b (Err e) → Walks core IsIn (expr_in s a (Cast line t x)) s a u b r
unfolding expr_in name_in
cast_stops {s = s} {a = a} line t x r h w = first_stops core IsIn (typed_name (state_of s a) t) (λ m to. then_do (typed m x) (λ u c. at_expr u line (node.Cast to c))) r h w

pub cast_stops_second : {s m u : Scoping} {a b c : Table} {v : ℕ} {e : CheckFault} (line : ℕ) (t : TypeNameTree) (x : ExprTree) (r : Result (CoreOf ℕ) CheckFault) → IsErrAnd r (λ d. d ≡ e) → Walks type_at IsBelow (name_in s a t) s a m b (Ok v) → Walks core IsIn (expr_in m b x) m b u c (Err e) → Walks core IsIn (expr_in s a (Cast line t x)) s a u c r
unfolding expr_in name_in
cast_stops_second {s = s} {a = a} line t x r h w k = second_stops core IsIn (typed_name (state_of s a) t) (λ m to. typed m x) (λ u to c. at_expr u line (node.Cast to c)) r h w k

pub cast_goes : {s m u : Scoping} {a b c d : Table} {v : ℕ} {y : CoreOf ℕ} {r : Result (CoreOf ℕ) CheckFault} (line : ℕ) (t : TypeNameTree) (x : ExprTree) → Walks type_at IsBelow (name_in s a t) s a m b (Ok v) → Walks core IsIn (expr_in m b x) m b u c (Ok y)
    → IsNodeOf c d line (node.Cast (type_at c v) (core c y)) r → Walks core IsIn (expr_in s a (Cast line t x)) s a u d r
unfolding expr_in name_in
cast_goes {s = s} {u = u} {a = a} {b = b} {c = c} {d = d} {v = v} {y = y} {r = r} line t x w k h =
    both_go core IsIn (typed_name (state_of s a) t) (λ m to. typed m x) (λ u to c. at_expr u line (node.Cast to c)) w k (k.keeps.extends.types_stay v w.within)
    (node_walk u c d line (node.Cast (type_at c v) (core c y)) r k.keeps.symbols h)

pub sizeof_type_stops : {s u : Scoping} {a b : Table} {e : CheckFault} (line : ℕ) (t : TypeNameTree) (r : Result (CoreOf ℕ) CheckFault) → IsErrAnd r (λ d. d ≡ e) → Walks type_at IsBelow (name_in s a t) s a u b (Err e) → Walks core IsIn (expr_in s a (SizeofType line t)) s a u b r
unfolding expr_in name_in
sizeof_type_stops {s = s} {a = a} line t r h w = first_stops core IsIn (typed_name (state_of s a) t) (λ m of. at_expr m line (node.SizeofType of)) r h w

pub sizeof_type_goes : {s u : Scoping} {a b d : Table} {v : ℕ} {r : Result (CoreOf ℕ) CheckFault} (line : ℕ) (t : TypeNameTree) → Walks type_at IsBelow (name_in s a t) s a u b (Ok v) → IsNodeOf b d line (node.SizeofType (type_at b v)) r → Walks core IsIn (expr_in s a (SizeofType line t)) s a u d r
unfolding expr_in name_in
sizeof_type_goes {s = s} {u = u} {a = a} {b = b} {d = d} {v = v} {r = r} line t w h =
    walk_then core IsIn (typed_name (state_of s a) t) (λ m of. at_expr m line (node.SizeofType of)) s u u a b d v r w (node_walk u b d line (node.SizeofType (type_at b v)) r w.keeps.symbols h)

-- ---- calls, commas

pub call_stops : {s u : Scoping} {a b : Table} {e : CheckFault} (line : ℕ) (f : ExprTree) (es : ExprTrees) (r : Result (CoreOf ℕ) CheckFault) → IsErrAnd r (λ d. d ≡ e) → Walks core IsIn (callee_in s a f) s a u b (Err e) → Walks core IsIn (expr_in s a (Call line f es)) s a u b r
unfolding expr_in callee_in
call_stops {s = s} {a = a} line f es r h w = first_stops core IsIn (callee (state_of s a) f (typed (state_of s a) f)) (λ m c. then_do (all_typed m es) (λ u cs. at_expr u line (node.Call c cs))) r h w

pub call_stops_second : {s m u : Scoping} {a b c : Table} {v : CoreOf ℕ} {e : CheckFault} (line : ℕ) (f : ExprTree) (es : ExprTrees) (r : Result (CoreOf ℕ) CheckFault) → IsErrAnd r (λ d. d ≡ e) → Walks core IsIn (callee_in s a f) s a m b (Ok v) → Walks cores AreCoresIn (exprs_in m b es) m b u c (Err e)
    → Walks core IsIn (expr_in s a (Call line f es)) s a u c r
unfolding expr_in callee_in exprs_in
call_stops_second {s = s} {a = a} line f es r h w k = second_stops core IsIn (callee (state_of s a) f (typed (state_of s a) f)) (λ m c. all_typed m es) (λ u c cs. at_expr u line (node.Call c cs)) r h w k

pub call_goes : {s m u : Scoping} {a b c d : Table} {v : CoreOf ℕ} {vs : List (CoreOf ℕ)} {r : Result (CoreOf ℕ) CheckFault} (line : ℕ) (f : ExprTree) (es : ExprTrees) → Walks core IsIn (callee_in s a f) s a m b (Ok v) → Walks cores AreCoresIn (exprs_in m b es) m b u c (Ok vs)
    → IsNodeOf c d line (node.Call (core c v) (cores c vs)) r → Walks core IsIn (expr_in s a (Call line f es)) s a u d r
unfolding expr_in callee_in exprs_in
call_goes {s = s} {u = u} {a = a} {b = b} {c = c} {d = d} {v = v} {vs = vs} {r = r} line f es w k h =
    both_go core IsIn (callee (state_of s a) f (typed (state_of s a) f)) (λ m c. all_typed m es) (λ u c cs. at_expr u line (node.Call c cs)) w k (seen_stays b c k.keeps.extends v w.within)
    (node_walk u c d line (node.Call (core c v) (cores c vs)) r k.keeps.symbols h)

pub comma_stops : {s u : Scoping} {a b : Table} {e : CheckFault} (line : ℕ) (es : ExprTrees) (r : Result (CoreOf ℕ) CheckFault) → IsErrAnd r (λ d. d ≡ e) → Walks cores AreCoresIn (exprs_in s a es) s a u b (Err e) → Walks core IsIn (expr_in s a (Comma line es)) s a u b r
unfolding expr_in exprs_in
comma_stops {s = s} {a = a} line es r h w = first_stops core IsIn (all_typed (state_of s a) es) (λ m cs. at_expr m line (node.Comma cs)) r h w

pub comma_goes : {s u : Scoping} {a b d : Table} {vs : List (CoreOf ℕ)} {r : Result (CoreOf ℕ) CheckFault} (line : ℕ) (es : ExprTrees) → Walks cores AreCoresIn (exprs_in s a es) s a u b (Ok vs) → IsNodeOf b d line (node.Comma (cores b vs)) r → Walks core IsIn (expr_in s a (Comma line es)) s a u d r
unfolding expr_in exprs_in
comma_goes {s = s} {u = u} {a = a} {b = b} {d = d} {vs = vs} {r = r} line es w h =
    walk_then core IsIn (all_typed (state_of s a) es) (λ m cs. at_expr m line (node.Comma cs)) s u u a b d vs r w (node_walk u b d line (node.Comma (cores b vs)) r w.keeps.symbols h)

-- what is called is no bare name
pub callee_plain : {s u : Scoping} {a b : Table} {r : Result (CoreOf ℕ) CheckFault} (f : ExprTree) → ((m : State) → (o : Outcome CoreTree) → callee m f o ≡ o) → Walks core IsIn (expr_in s a f) s a u b r → Walks core IsIn (callee_in s a f) s a u b r
unfolding expr_in callee_in
callee_plain {s = s} {a = a} f h w = walk_as (typed (state_of s a) f) (callee (state_of s a) f (typed (state_of s a) f)) (h (state_of s a) (typed (state_of s a) f)) w

-- a name that is called, and that a scope has
pub callee_known : (s : Scoping) (a : Table) (line : ℕ) (x : List ℕ) (id : ℕ) (r : Result (CoreOf ℕ) CheckFault) → found (s.outer ++ s.inner ∷ []) x ≡ Some id → AreSymbolsIn (length a.forms) s.symbols
    → IfOk r (λ c. at_expr (state_of s a) line (node.Name x) ≡ Fine (state_of s a) (core a c)) → IfErr r (λ f. Tells f (at_expr (state_of s a) line (node.Name x))) → IfOk r (λ c. IsIn (length a.forms) c) → Walks core IsIn (callee_in s a (Name line x)) s a s a r
unfolding callee_in
callee_known s a line x id r e i ok err within =
    walk_as (at_expr (state_of s a) line (node.Name x)) (callee (state_of s a) (Name line x) (typed (state_of s a) (Name line x))) (ap (λ (o : Option ℕ). callee_named (state_of s a) line x (is_none o) (at_expr (state_of s a) line (node.Name x))) e)
    (record { ok = ok; err = err; within = within; keeps = keeps_itself s a i })

-- one that no scope has
pub callee_new : (s u : Scoping) (a b : Table) (line : ℕ) (x : List ℕ) (r : Result (CoreOf ℕ) CheckFault) → found (s.outer ++ s.inner ∷ []) x ≡ None
    → IfOk r (λ c. at (state_of s a) line (Expression (node.NewFunction x)) (with_function (state_of s a) line x) (row (state_of s a) line (node.NewFunction x)) ≡ Fine (state_of u b) (core b c)) → IfErr r (λ f. Tells f (at (state_of s a) line (Expression (node.NewFunction x)) (with_function (state_of s a) line x) (row (state_of s a) line (node.NewFunction x)))) → IfOk r (λ c. IsIn (length b.forms) c) → Keeps s a u b
    → Walks core IsIn (callee_in s a (Name line x)) s a u b r
unfolding callee_in
callee_new s u a b line x r e ok err within k = rw e (record { ok = ok; err = err; within = within; keeps = k })
