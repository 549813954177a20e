-- When a node passes no limit, or the one on depth: nearly all types that expressions form are those of a table, or pointers.
use Rattle.std.proofs.Common.{◌≡◌, ℕ, ◌≤◌, Bool, true, false, List, [], ◌∷◌, refl, sym, subst, arith}
use Rattle.std.specs.Prelude.{IfSome, None, Option, Some, nat_lt, if◌then◌else◌}
use Rattle.std.proofs.lemmas.Bool.Decides.{nat_tests}
use Rattle.lcc_base.specs.declared.which.Which.{Which}
use Rattle.lcc_base.specs.declared.which.Which.TheVariants as which
use Rattle.c_types.specs.CType.{Basic, Void, Char, SignedChar, UnsignedChar, Short, UnsignedShort, Int, Unsigned, Long, UnsignedLong, CType, Plain, Array, Kind, Simple, Pointer, Function, Structure, Union, depth, qualify, unqualified}
use Rattle.c_types.specs.Facts.{IsWithin}
use Rattle.c_types.specs.Layout.{Tag, extent, known}
use Rattle.c_types.specs.Table.{is_above}
use Rattle.c_meaning.specs.declared.core_expr.CoreKind.TheVariants as kind
use Rattle.c_meaning.specs.Constraints.{Breaks, Passes, constraints, extents, fault_at, first_broken, first_passed, passes_number, some_deep, some_large, some_nested, types_formed}
use Rattle.c_meaning.specs.CoreTrees.{Core, line_of, one, type_of}
use Rattle.c_meaning.specs.Nodes.{ExprNode, Expression}
use Rattle.c_meaning.specs.Rows.{row}
use Rattle.c_meaning.specs.State.{State}
use Rattle.c_meaning.specs.Types.{pointer_to}
use Rattle.c_meaning.specs.Typing.{Fine, Bad, at_expr}
use Rattle.c_values.proofs.lemmas.Qualified.{extent_qualify}
use Rattle.c_meaning.specs.Values.{CoreTree, is_lvalue, is_place, value_by, value_type}

-- ---- types that pass no limit on sizes and nesting, and none on depth

pub record IsSmall (tags : List Tag) (t : CType) : Type 0 where
  pub size : is_above (extent tags t).size ≡ false
  pub nesting : nat_lt 500 (extent tags t).nesting ≡ false

abbrev pub AreSmall : List Tag → List CType → Type 0
AreSmall tags [] = Unit {0}
AreSmall tags (t ∷ ts) = IsSmall tags t × AreSmall tags ts

abbrev pub IsShallow : CType → Type 0
IsShallow t = nat_lt 500 (depth t) ≡ false

abbrev pub AreShallow : List CType → Type 0
AreShallow [] = Unit {0}
AreShallow (t ∷ ts) = IsShallow t × AreShallow ts

not_above : (o : Option ℕ) → IfSome o (λ n. n ≤ 16777216) → is_above o ≡ false
not_above None h = refl
not_above (Some n) h = grind (arith, nat_tests)

-- a type of a table
pub within_small : (tags : List Tag) (t : CType) → IsWithin (known tags) t → IsSmall tags t
within_small tags t h =
    let n = h.bounded.nesting in
    record { size = not_above (extent tags t).size h.bounded.size; nesting = grind (arith, nat_tests) }

pub within_shallow : (tags : List Tag) (t : CType) → IsWithin (known tags) t → IsShallow t
within_shallow tags t h = let d = h.shallow in grind (arith, nat_tests)

-- a pointer
pub pointer_small : (tags : List Tag) (q : ℕ) (t : CType) → IsSmall tags (Plain q (Pointer t))
pointer_small tags q t = record { size = refl; nesting = refl }

-- the basic types
pub basic_small : (tags : List Tag) (q : ℕ) (b : Basic) → IsSmall tags (Plain q (Simple b))
basic_small tags q Void = record { size = refl; nesting = refl }
basic_small tags q Char = record { size = refl; nesting = refl }
basic_small tags q SignedChar = record { size = refl; nesting = refl }
basic_small tags q UnsignedChar = record { size = refl; nesting = refl }
basic_small tags q Short = record { size = refl; nesting = refl }
basic_small tags q UnsignedShort = record { size = refl; nesting = refl }
basic_small tags q Int = record { size = refl; nesting = refl }
basic_small tags q Unsigned = record { size = refl; nesting = refl }
basic_small tags q Long = record { size = refl; nesting = refl }
basic_small tags q UnsignedLong = record { size = refl; nesting = refl }

pub qualified_small : (tags : List Tag) (q : ℕ) (t : CType) → IsSmall tags t → IsSmall tags (qualify q t)
qualified_small tags q t h =
    let e = sym (extent_qualify (known tags) q t) in
    record { size = subst (λ x. is_above x.size ≡ false) e h.size; nesting = subst (λ x. nat_lt 500 x.nesting ≡ false) e h.nesting }

pub depth_qualify : (q : ℕ) (t : CType) → depth (qualify q t) ≡ depth t
depth_qualify q (Plain p kind) = refl
depth_qualify q (Array t n) = rw (depth_qualify q t) refl

pub qualified_shallow : (q : ℕ) (t : CType) → IsShallow t → IsShallow (qualify q t)
qualified_shallow q t h = rw (depth_qualify q t) h

pub unqualified_small : (tags : List Tag) (t : CType) → IsSmall tags t → IsSmall tags (unqualified t)
unqualified_small tags (Plain q k) h = record { size = h.size; nesting = h.nesting }
unqualified_small tags (Array of n) h = h

pub unqualified_shallow : (t : CType) → IsShallow t → IsShallow (unqualified t)
unqualified_shallow (Plain q k) h = h
unqualified_shallow (Array of n) h = h

-- ---- values

read_small : (tags : List Tag) (q : ℕ) (k : Kind) (c : CoreTree) → IsSmall tags (Plain q k) → IsSmall tags (type_of c) → (b : Bool) → IsSmall tags (type_of (if b then Core kind.Read (Plain 0 k) (line_of c) (one c) else c))
read_small tags q k c h t true = record { size = h.size; nesting = h.nesting }
read_small tags q k c h t false = t

first_small : (tags : List Tag) (of : CType) (c : CoreTree) → IsSmall tags (type_of c) → (b : Bool) → IsSmall tags (type_of (if b then Core kind.First (pointer_to of) (line_of c) (one c) else c))
first_small tags of c t true = pointer_small tags 0 of
first_small tags of c t false = t

value_small_by : (tags : List Tag) (t : CType) (c : CoreTree) → IsSmall tags t → IsSmall tags (type_of c) → IsSmall tags (type_of (value_by t c))
value_small_by tags (Array of n) c h t = first_small tags of c t (is_lvalue c)
value_small_by tags (Plain q (Function r ps)) c h t = pointer_small tags 0 (type_of c)
value_small_by tags (Plain q (Structure n)) c h t = t
value_small_by tags (Plain q (Union n)) c h t = t
value_small_by tags (Plain q (Simple Void)) c h t = t
value_small_by tags (Plain q k) c h t = read_small tags q k c h t (is_place c)

-- the type of an expression's value, where its own passes no limit
pub value_small : (tags : List Tag) (c : CoreTree) → IsSmall tags (type_of c) → IsSmall tags (value_type c)
value_small tags c h = value_small_by tags (type_of c) c h h

-- ---- limits of a node

none_large : (tags : List Tag) (ts : List CType) → AreSmall tags ts → some_large (extents tags ts) ≡ false
none_large tags [] h = refl
none_large tags (t ∷ ts) h = rw (h.0.size) (none_large tags ts h.1)

none_nested : (tags : List Tag) (ts : List CType) → AreSmall tags ts → some_nested (extents tags ts) ≡ false
none_nested tags [] h = refl
none_nested tags (t ∷ ts) h = rw (h.0.nesting) (none_nested tags ts h.1)

none_deep : (ts : List CType) → AreShallow ts → some_deep ts ≡ false
none_deep [] h = refl
none_deep (t ∷ ts) h = rw (h.0) (none_deep ts h.1)

-- nothing is passed where each type that is formed is small and shallow, and the arguments are few
pub none_passed : (s : State) (line : ℕ) (n : ExprNode) → AreSmall s.tags (types_formed s line (Expression n)) → AreShallow (types_formed s line (Expression n)) → passes_number s line (Expression n) ≡ false → first_passed s line (Expression n) ≡ None
none_passed s line n m d p =
    let ts = types_formed s line (Expression n) in
    rw (none_large s.tags ts m, none_nested s.tags ts m, none_deep ts d, p) refl

-- the depth is passed where some type is deep and each is small
pub depth_passed : (s : State) (line : ℕ) (n : ExprNode) → AreSmall s.tags (types_formed s line (Expression n)) → some_deep (types_formed s line (Expression n)) ≡ true → first_passed s line (Expression n) ≡ Some which.Depth
depth_passed s line n m d =
    let ts = types_formed s line (Expression n) in
    rw (none_large s.tags ts m, none_nested s.tags ts m, d) refl

-- ---- what is told at a node

pub node_fine : (s : State) (line : ℕ) (n : ExprNode) → first_broken constraints s (Expression n) ≡ None → first_passed s line (Expression n) ≡ None → at_expr s line n ≡ Fine s (row s line n)
unfolding fault_at
node_fine s line n b p = rw (b, p) refl

pub node_broken : (s : State) (line k : ℕ) (n : ExprNode) → first_broken constraints s (Expression n) ≡ Some k → at_expr s line n ≡ Bad (Breaks k line)
unfolding fault_at
node_broken s line k n b = rw b refl

pub node_passed : (s : State) (line : ℕ) (w : Which) (n : ExprNode) → first_broken constraints s (Expression n) ≡ None → first_passed s line (Expression n) ≡ Some w → at_expr s line n ≡ Bad (Passes w line)
unfolding fault_at
node_passed s line w n b p = rw (b, p) refl
