-- Walks over type names, specifiers and declarators: each construct behind its parts.
use Rattle.std.proofs.Common.{◌≡◌, ℕ, ◌<◌, Option, Some, None, List, length, map, refl, sym, ap, ◌∙◌, subst}
use Rattle.std.specs.Prelude.{Result, Ok, Err, IfOk, IfErr, IsErrAnd}
use Rattle.c_ast.specs.declared.expr.Specifiers.{Specifiers as SpecifiersSyntax, out-Specifiers}
use Rattle.c_ast.specs.declared.expr.TypeName.{TypeName, out-TypeName}
use Rattle.c_ast.specs.Trees.{ADeclarator, DeclaratorTree, ExprTree, NoDeclarator, NoExpr, AnExpr}
use Rattle.c_ast.specs.Views.{specifier_list_of}
use Rattle.c_ast.specs.Seen.{maybe_declarator_seen, specifier_seen, specifiers_seen, type_name_seen}
use Rattle.c_ast.proofs.lemmas.SeenTypes.{specifiers_parts, type_name_parts}
use Rattle.c_symbols.specs.Scoping.{Scoping}
use Rattle.c_types.specs.CType.{CType}
use Rattle.c_types.specs.Table.{Grows, Table, tags, type_at}
use Rattle.c_meaning.specs.CoreTrees.{CoreOf, IsIn}
use Rattle.c_meaning.specs.Nodes.{Typing}
use Rattle.c_meaning.specs.Nodes as node
use Rattle.c_meaning.specs.State.{State}
use Rattle.c_meaning.specs.TypeRows.{formed, specified}
use Rattle.c_meaning.specs.TypeRows as rows
use Rattle.c_meaning.specs.Typing.{Outcome, Fine, at, declared, shaped, then_do, typed, typed_declarator, typed_parts, typed_shape, typed_specifiers}
use Rattle.c_meaning.specs.Typing as typing
use Rattle.c_values.specs.declared.check_fault.CheckFault.{CheckFault}
use Rattle.c_check_expr.specs.declared.parts.Declared.{Declared as DeclaredValue}
use Rattle.c_check_expr.specs.declared.parts.Part.{Part}
use Rattle.c_check_expr.specs.declared.parts.Shaped.{Shaped as ShapedValue}
use Rattle.c_check_expr.specs.declared.parts.Specified.{Specified as SpecifiedValue}
use Rattle.c_check_expr.specs.AtNode.{Tells}
use Rattle.c_check_expr.specs.Known.{AreSymbolsIn, state_of}
use Rattle.c_check_expr.specs.PartsSeen.{ArePartsIn, IsSizeIn, declared_seen, parts_seen, shaped_seen, size_seen, specified_seen}
use Rattle.c_check_expr.specs.TypedIn.{declarator_in, expr_in, maybe_expr_in, name_in, parts_in, shape_in, specifiers_in}
use Rattle.c_check_expr.specs.Walks.{IsBelow, IsDeclaredIn, IsShapeIn, IsSpecifiedIn, Walks, core}
use Rattle.c_check_expr.specs.SymbolsStay.{state_stays}
use Rattle.c_check_expr.specs.Kept.{keeps_grown}
use Rattle.c_check_expr.proofs.lemmas.Walking.{both_go, first_stops, second_stops, walk_none, walk_then}

-- ---- a node that changes nothing of what is known, whatever else is

goes_ok : {V T : Type 0} (view : Table → V → T) (f : State → Outcome T) (s : Scoping) (a b : Table) → state_of s b ≡ state_of s a → (r : Result V CheckFault) → IfOk r (λ v. (m : State) → m.tags ≡ tags a → f m ≡ Fine m (view b v)) → IfOk r (λ v. f (state_of s a) ≡ Fine (state_of s b) (view b v))
goes_ok view f s a b e (Ok v) h = h (state_of s a) refl ∙ ap (λ m. Fine m (view b v)) (sym e)
goes_ok view f s a b e (Err x) h = tt

goes_err : {V T : Type 0} (f : State → Outcome T) (s : Scoping) (a : Table) → (r : Result V CheckFault) → IfErr r (λ e. (m : State) → m.tags ≡ tags a → Tells e (f m)) → IfErr r (λ e. Tells e (f (state_of s a)))
goes_err f s a (Ok v) h = tt
goes_err f s a (Err x) h = h (state_of s a) refl

pub node_goes : {V T : Type 0} (view : Table → V → T) (IsWithin : ℕ → V → Type 0) (f : State → Outcome T) (s : Scoping) (a b : Table) (r : Result V CheckFault) → AreSymbolsIn (length a.forms) s.symbols
    → IfOk r (λ v. (m : State) → m.tags ≡ tags a → f m ≡ Fine m (view b v)) → IfErr r (λ e. (m : State) → m.tags ≡ tags a → Tells e (f m)) → IfOk r (λ v. IsWithin (length b.forms) v) → Grows a b → Walks view IsWithin (f (state_of s a)) s a s b r
node_goes view IsWithin f s a b r i ok err within g =
    record { ok = goes_ok view f s a b (state_stays s a b g i) r ok; err = goes_err f s a r err; within = within; keeps = keeps_grown s a b i g }

-- ---- expressions that may be left out

pub maybe_stops : {s u : Scoping} {a b : Table} {e : CheckFault} (x : ExprTree) (r : Result (Option (CoreOf ℕ)) CheckFault) → IsErrAnd r (λ d. d ≡ e) → Walks core IsIn (expr_in s a x) s a u b (Err e) → Walks size_seen IsSizeIn (maybe_expr_in s a (AnExpr x)) s a u b r
unfolding expr_in maybe_expr_in
maybe_stops {s = s} {a = a} x r h w = first_stops size_seen IsSizeIn (typed (state_of s a) x) (λ m c. Fine m (Some c)) r h w

pub maybe_goes : {s u : Scoping} {a b : Table} {v : CoreOf ℕ} (x : ExprTree) → Walks core IsIn (expr_in s a x) s a u b (Ok v) → Walks size_seen IsSizeIn (maybe_expr_in s a (AnExpr x)) s a u b (Ok (Some v))
unfolding expr_in maybe_expr_in
maybe_goes {s = s} {u = u} {a = a} {b = b} {v = v} x w = walk_then size_seen IsSizeIn (typed (state_of s a) x) (λ m c. Fine m (Some c)) s u u a b b v (Ok (Some v)) w (walk_none size_seen IsSizeIn u b (Some v) w.keeps.symbols w.within)

pub maybe_none : (s : Scoping) (a : Table) → AreSymbolsIn (length a.forms) s.symbols → Walks size_seen IsSizeIn (maybe_expr_in s a NoExpr) s a s a (Ok None)
unfolding maybe_expr_in
maybe_none s a i = walk_none size_seen IsSizeIn s a None i tt

-- ---- type names

abbrev specified_as : SpecifiedValue → CType → rows.Specified
specified_as b t = record { classes = b.classes; of = t }

pub name_stops : {s u : Scoping} {a b : Table} {e : CheckFault} (n : TypeName) (r : Result ℕ CheckFault) → IsErrAnd r (λ d. d ≡ e) → Walks specified_seen IsSpecifiedIn (specifiers_in s a (specifiers_seen (out-TypeName n).specifiers)) s a u b (Err e) → Walks type_at IsBelow (name_in s a (type_name_seen n)) s a u b r
unfolding name_in specifiers_in
name_stops {s = s} {u = u} {a = a} {b = b} n r h w =
    rw (type_name_parts n) (first_stops type_at IsBelow (typed_specifiers (state_of s a) (specifiers_seen (out-TypeName n).specifiers)) (λ m x. then_do (typed_shape m x.of (maybe_declarator_seen (out-TypeName n).declarator)) (λ u p. Fine u p.of)) r h w)

pub name_stops_second : {s m u : Scoping} {a b c : Table} {v : SpecifiedValue} {e : CheckFault} (n : TypeName) (r : Result ℕ CheckFault) → IsErrAnd r (λ d. d ≡ e) → Walks specified_seen IsSpecifiedIn (specifiers_in s a (specifiers_seen (out-TypeName n).specifiers)) s a m b (Ok v)
    → Walks shaped_seen IsShapeIn (shape_in m b v.of (maybe_declarator_seen (out-TypeName n).declarator)) m b u c (Err e) → Walks type_at IsBelow (name_in s a (type_name_seen n)) s a u c r
unfolding name_in specifiers_in shape_in
name_stops_second {s = s} {a = a} n r h w k =
    rw (type_name_parts n) (second_stops type_at IsBelow (typed_specifiers (state_of s a) (specifiers_seen (out-TypeName n).specifiers)) (λ m x. typed_shape m x.of (maybe_declarator_seen (out-TypeName n).declarator)) (λ u x p. Fine u p.of) r h w k)

pub name_goes : {s m u : Scoping} {a b c : Table} {v : SpecifiedValue} {p : ShapedValue} (n : TypeName) → Walks specified_seen IsSpecifiedIn (specifiers_in s a (specifiers_seen (out-TypeName n).specifiers)) s a m b (Ok v)
    → Walks shaped_seen IsShapeIn (shape_in m b v.of (maybe_declarator_seen (out-TypeName n).declarator)) m b u c (Ok p) → Walks type_at IsBelow (name_in s a (type_name_seen n)) s a u c (Ok p.of)
unfolding name_in specifiers_in shape_in
name_goes {s = s} {u = u} {a = a} {b = b} {c = c} {v = v} {p = p} n w k =
    rw (type_name_parts n) (both_go type_at IsBelow (typed_specifiers (state_of s a) (specifiers_seen (out-TypeName n).specifiers)) (λ m x. typed_shape m x.of (maybe_declarator_seen (out-TypeName n).declarator)) (λ u x p. Fine u p.of) w k
    (ap (λ t. specified_as v t) (k.keeps.extends.types_stay v.of w.within))
    (walk_none type_at IsBelow u c p.of k.keeps.symbols k.within))

-- ---- declarators over types

pub shape_none : (s : Scoping) (a : Table) (base : ℕ) → AreSymbolsIn (length a.forms) s.symbols → base < length a.forms → Walks shaped_seen IsShapeIn (shape_in s a base NoDeclarator) s a s a (Ok (record { name = None; of = base }))
unfolding shape_in
shape_none s a base i l = walk_none shaped_seen IsShapeIn s a (record { name = None; of = base }) i l

abbrev at_declarator : CType → State → typing.Declared → Outcome typing.Shaped
at_declarator t m p = at m p.line (Typing (node.Declarator t p.steps)) m (shaped p.name (formed t p.steps))

pub shape_stops : {s u : Scoping} {a b : Table} {e : CheckFault} (base : ℕ) (d : DeclaratorTree) (r : Result ShapedValue CheckFault) → IsErrAnd r (λ x. x ≡ e) → Walks declared_seen IsDeclaredIn (declarator_in s a d) s a u b (Err e) → Walks shaped_seen IsShapeIn (shape_in s a base (ADeclarator d)) s a u b r
unfolding shape_in declarator_in
shape_stops {s = s} {a = a} base d r h w = first_stops shaped_seen IsShapeIn (typed_declarator (state_of s a) d) (λ m p. at_declarator (type_at a base) m p) r h w

pub shape_goes : {s u : Scoping} {a b c : Table} {v : DeclaredValue} (base : ℕ) (d : DeclaratorTree) (r : Result ShapedValue CheckFault) → base < length a.forms → Walks declared_seen IsDeclaredIn (declarator_in s a d) s a u b (Ok v)
    → IfOk r (λ p. (m : State) → m.tags ≡ tags b → at_declarator (type_at b base) m (declared_seen b v) ≡ Fine m (shaped_seen c p)) → IfErr r (λ e. (m : State) → m.tags ≡ tags b → Tells e (at_declarator (type_at b base) m (declared_seen b v))) → IfOk r (λ p. p.of < length c.forms) → Grows b c
    → Walks shaped_seen IsShapeIn (shape_in s a base (ADeclarator d)) s a u c r
unfolding shape_in declarator_in
shape_goes {s = s} {u = u} {a = a} {b = b} {c = c} {v = v} base d r l w ok err within g =
    walk_then shaped_seen IsShapeIn (typed_declarator (state_of s a) d) (λ m p. at_declarator (type_at a base) m p) s u u a b c v r w
    (subst (λ t. Walks shaped_seen IsShapeIn (at_declarator t (state_of u b) (declared_seen b v)) u b u c r) (w.keeps.extends.types_stay base l)
    (node_goes shaped_seen IsShapeIn (λ m. at_declarator (type_at b base) m (declared_seen b v)) u b c r w.keeps.symbols ok err within g))

-- ---- specifiers

abbrev at_specifiers : ℕ → State → List node.Part → Outcome rows.Specified
at_specifiers line m ps = at m line (Typing (node.Specifiers ps)) m (specified ps)

pub specifiers_stop : {s u : Scoping} {a b : Table} {e : CheckFault} (n : SpecifiersSyntax) (r : Result SpecifiedValue CheckFault) → IsErrAnd r (λ x. x ≡ e) → Walks parts_seen ArePartsIn (parts_in s a (specifier_list_of (map specifier_seen (out-Specifiers n).list))) s a u b (Err e)
    → Walks specified_seen IsSpecifiedIn (specifiers_in s a (specifiers_seen n)) s a u b r
unfolding specifiers_in parts_in
specifiers_stop {s = s} {a = a} n r h w = rw (specifiers_parts n) (first_stops specified_seen IsSpecifiedIn (typed_parts (state_of s a) (specifier_list_of (map specifier_seen (out-Specifiers n).list))) (λ m ps. at_specifiers (out-Specifiers n).line m ps) r h w)

pub specifiers_go : {s u : Scoping} {a b c : Table} {v : List Part} (n : SpecifiersSyntax) (r : Result SpecifiedValue CheckFault) → Walks parts_seen ArePartsIn (parts_in s a (specifier_list_of (map specifier_seen (out-Specifiers n).list))) s a u b (Ok v)
    → IfOk r (λ p. (m : State) → m.tags ≡ tags b → at_specifiers (out-Specifiers n).line m (parts_seen b v) ≡ Fine m (specified_seen c p)) → IfErr r (λ e. (m : State) → m.tags ≡ tags b → Tells e (at_specifiers (out-Specifiers n).line m (parts_seen b v))) → IfOk r (λ p. p.of < length c.forms) → Grows b c
    → Walks specified_seen IsSpecifiedIn (specifiers_in s a (specifiers_seen n)) s a u c r
unfolding specifiers_in parts_in
specifiers_go {s = s} {u = u} {a = a} {b = b} {c = c} {v = v} n r w ok err within g =
    rw (specifiers_parts n) (walk_then specified_seen IsSpecifiedIn (typed_parts (state_of s a) (specifier_list_of (map specifier_seen (out-Specifiers n).list))) (λ m ps. at_specifiers (out-Specifiers n).line m ps) s u u a b c v r w
    (node_goes specified_seen IsSpecifiedIn (λ m. at_specifiers (out-Specifiers n).line m (parts_seen b v)) u b c r w.keeps.symbols ok err within g))
