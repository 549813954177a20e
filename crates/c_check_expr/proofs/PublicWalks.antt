-- The walk of specifiers with a declarator.
use Rattle.std.proofs.Common.{◌≡◌, ℕ, ap}
use Rattle.std.specs.Prelude.{Result, Ok, Err, IsErrAnd}
use Rattle.c_ast.specs.Trees.{ADeclarator, DeclaratorTree, SpecifiersTree}
use Rattle.c_symbols.specs.Scoping.{Scoping}
use Rattle.c_types.specs.CType.{CType}
use Rattle.c_types.specs.Table.{Table, type_at}
use Rattle.c_meaning.specs.TypeRows as rows
use Rattle.c_meaning.specs.Typing.{Fine, then_do, typed_shape, typed_specifiers}
use Rattle.c_values.specs.declared.check_fault.CheckFault.{CheckFault}
use Rattle.c_check_expr.specs.declared.parts.Shaped.{Shaped as ShapedValue}
use Rattle.c_check_expr.specs.declared.parts.Specified.{Specified as SpecifiedValue}
use Rattle.c_check_expr.specs.Known.{state_of}
use Rattle.c_check_expr.specs.PartsSeen.{shaped_seen, specified_seen}
use Rattle.c_check_expr.specs.TypedIn.{declared_in, shape_in, specifiers_in}
use Rattle.c_check_expr.specs.Walks.{IsBelow, IsShapeIn, IsSpecifiedIn, Walks}
use Rattle.c_check_expr.proofs.lemmas.Walking.{both_go, first_stops, second_stops, walk_none}

-- ---- declared types

abbrev specified_as : SpecifiedValue → CType → rows.Specified
specified_as b t = record { classes = b.classes; of = t }

pub declared_stops : {s u : Scoping} {a b : Table} {e : CheckFault} (x : SpecifiersTree) (d : DeclaratorTree) (r : Result ℕ CheckFault) → IsErrAnd r (λ d. d ≡ e) → Walks specified_seen IsSpecifiedIn (specifiers_in s a x) s a u b (Err e) → Walks type_at IsBelow (declared_in s a x d) s a u b r
unfolding declared_in specifiers_in
declared_stops {s = s} {a = a} x d r h w = first_stops type_at IsBelow (typed_specifiers (state_of s a) x) (λ m b. then_do (typed_shape m b.of (ADeclarator d)) (λ u p. Fine u p.of)) r h w

pub declared_stops_second : {s m u : Scoping} {a b c : Table} {v : SpecifiedValue} {e : CheckFault} (x : SpecifiersTree) (d : DeclaratorTree) (r : Result ℕ CheckFault) → IsErrAnd r (λ d. d ≡ e) → Walks specified_seen IsSpecifiedIn (specifiers_in s a x) s a m b (Ok v)
    → Walks shaped_seen IsShapeIn (shape_in m b v.of (ADeclarator d)) m b u c (Err e) → Walks type_at IsBelow (declared_in s a x d) s a u c r
unfolding declared_in specifiers_in shape_in
declared_stops_second {s = s} {a = a} x d r h w k = second_stops type_at IsBelow (typed_specifiers (state_of s a) x) (λ m b. typed_shape m b.of (ADeclarator d)) (λ u b p. Fine u p.of) r h w k

pub declared_goes : {s m u : Scoping} {a b c : Table} {v : SpecifiedValue} {p : ShapedValue} (x : SpecifiersTree) (d : DeclaratorTree) → Walks specified_seen IsSpecifiedIn (specifiers_in s a x) s a m b (Ok v)
    → Walks shaped_seen IsShapeIn (shape_in m b v.of (ADeclarator d)) m b u c (Ok p) → Walks type_at IsBelow (declared_in s a x d) s a u c (Ok p.of)
unfolding declared_in specifiers_in shape_in
declared_goes {s = s} {u = u} {a = a} {b = b} {c = c} {v = v} {p = p} x d w k =
    both_go type_at IsBelow (typed_specifiers (state_of s a) x) (λ m b. typed_shape m b.of (ADeclarator d)) (λ u b p. Fine u p.of) w k
    (ap (λ t. specified_as v t) (k.keeps.extends.types_stay v.of w.within)) (walk_none type_at IsBelow u c p.of k.keeps.symbols k.within)
