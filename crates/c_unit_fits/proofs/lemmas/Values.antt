-- What a statement takes of its expressions: values, tests, switched numbers, and what is returned.
use Rattle.std.proofs.Common.{◌≡◌, ℕ, true, false, not, List, refl, sym, ap, subst, ◌∙◌, inl, inr}
use Rattle.std.specs.Prelude.{IfSome, Option, Some, None}
use Rattle.c_types.specs.CType.{CType, unqualified}
use Rattle.c_types.specs.Conversions.{is_integer}
use Rattle.c_types.specs.Layout.{Tag}
use Rattle.c_meaning.specs.Constraints.{Fault}
use Rattle.c_meaning.specs.CoreTrees.{type_of}
use Rattle.c_meaning.specs.ExprConstraints.{is_assignable}
use Rattle.c_meaning.specs.Fits.{IsPromoted}
use Rattle.c_meaning.specs.Postorder.{or_else}
use Rattle.c_meaning.specs.Constraints.{broken_or}
use Rattle.c_meaning.specs.NodeConstraints.{first_of}
use Rattle.c_meaning.specs.Rows.{stored}
use Rattle.c_meaning.specs.State.{State}
use Rattle.c_meaning.specs.Types.{is_scalar, is_void}
use Rattle.c_meaning.specs.Values.{CoreTree, converted, promoted_value, value, value_type}
use Rattle.c_units.specs.Bodies.{maybe_value, returned}
use Rattle.c_units.specs.Statements.{StmtNode, stmt_constraints, stmt_fault, values_fault, is_no_test}
use Rattle.c_units.specs.Statements as node
use Rattle.c_fits.proofs.lemmas.Assigned.{IsAssigned, assigned_as, bare_again, scalar_no_record}
use Rattle.c_fits.proofs.lemmas.Booleans.{not_false, or_left, or_right}
use Rattle.c_fits.proofs.lemmas.Constraints.{test_in, unbroken_on}
use Rattle.c_fits.proofs.lemmas.Numbers.{promoted_operand, promoted_type_is, promoted_value_type}
use Rattle.c_fits.proofs.lemmas.Values.{IsOperand, IsPart, converted_operand, converted_type, value_operand}
use Rattle.c_unit_fits.specs.OpenStmts.{IsOpenReturned, IsOpenTest, IsOpenValue}

-- at a node without a fault no constraint is broken
or_none : (x y : Option Fault) → or_else x y ≡ None → x ≡ None
or_none (Some f) y h = h
or_none None y h = refl

pub stmt_unbroken : (s : State) (line : ℕ) (n : StmtNode) → stmt_fault s line n ≡ None → (number : ℕ) → test_in stmt_constraints number s n ≡ false
unfolding stmt_fault
stmt_unbroken s line n h number = unbroken_on stmt_constraints s line n None (or_none (broken_or line (first_of stmt_constraints s n) None) (values_fault s.tags n) h) number

-- ---- values

pub value_is : (tags : List Tag) (c : CoreTree) → IsPart tags c → IsOpenValue tags (value c)
value_is tags c p = let o = value_operand tags c p in (o.fits, o.value)

pub test_is : (tags : List Tag) (c : CoreTree) → IsPart tags c → is_no_test (Some c) ≡ false → IsOpenTest tags (value c)
test_is tags c p h = (value_is tags c p, not_false (is_scalar (value_type c)) h)

-- expressions that may be missing
abbrev pub MaybePart : List Tag → Option CoreTree → Type 0
MaybePart tags c = IfSome c (IsPart tags)

pub maybe_value_is : (tags : List Tag) (c : Option CoreTree) → MaybePart tags c → IfSome (maybe_value c) (IsOpenValue tags)
maybe_value_is tags (Some c) p = value_is tags c p
maybe_value_is tags None p = tt

pub maybe_test_is : (tags : List Tag) (c : Option CoreTree) → MaybePart tags c → is_no_test c ≡ false → IfSome (maybe_value c) (IsOpenTest tags)
maybe_test_is tags (Some c) p h = test_is tags c p h
maybe_test_is tags None p h = tt

-- the number of a switch
pub switch_is : (tags : List Tag) (c : CoreTree) → IsPart tags c → is_integer (value_type c) ≡ true → IsOpenValue tags (promoted_value (value c)) × IsPromoted (type_of (promoted_value (value c)))
switch_is tags c p h =
    let o = promoted_operand tags (value c) (value_operand tags c p) h in
    ((o.fits, o.value), subst IsPromoted (sym (promoted_value_type (value c))) (promoted_type_is (value c) h))

-- ---- what is returned

returned_value : (tags : List Tag) (result : CType) (v : CoreTree) → IsOperand tags v → is_assignable (unqualified result) v ≡ true → IsOpenValue tags (stored (unqualified result) v) × (unqualified (type_of (stored (unqualified result) v)) ≡ unqualified result)
returned_value tags result v o h = by (assigned_as tags (unqualified result) v o.fits h)
  where
    of_type : CoreTree → Type 0
    of_type w = IsOpenValue tags w × (unqualified (type_of w) ≡ unqualified result)

    by : IsAssigned (unqualified result) (type_of v) → of_type (stored (unqualified result) v)
    by (inl k) =
        let d = converted_operand tags (unqualified result) v o k.1 k.0 (bare_again result) in
        let e : stored (unqualified result) v ≡ converted (unqualified result) v = rw (scalar_no_record (unqualified result) k.0) in
        subst of_type (sym e) ((d.fits, d.value), ap unqualified (converted_type (unqualified result) v) ∙ bare_again result)
    by (inr k) =
        let e : stored (unqualified result) v ≡ v = rw k.0 in
        subst of_type (sym e) ((o.fits, o.value), k.1 ∙ bare_again result)

pub returned_is : (s : State) (line : ℕ) (result : CType) (c : Option CoreTree) → MaybePart s.tags c → stmt_fault s line (node.Return result c) ≡ None → IsOpenReturned s.tags result (returned result c)
returned_is s line result None p h = tt
returned_is s line result (Some c) p h =
    let e = stmt_unbroken s line (node.Return result (Some c)) h 51 in
    let r = returned_value s.tags result (value c) (value_operand s.tags c p) (not_false (is_assignable (unqualified result) (value c)) (or_right (is_void result) (not (is_assignable (unqualified result) (value c))) e)) in
    (r.0, (or_left (is_void result) (not (is_assignable (unqualified result) (value c))) e, r.1))
