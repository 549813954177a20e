-- What a value's type passes, where the expression's own is a table's: nothing, or the limit on depth.
use Rattle.std.proofs.Common.{◌≡◌, ℕ, ◌<◌, ◌≤◌, Bool, true, false, List, [], ◌∷◌, length, refl, sym, ap, ◌∙◌, subst, arith}
use Rattle.std.specs.Prelude.{IfErr, IfSome, IsErrAnd, Err, None, Ok, Option, Result, Some, nat_lt, if◌then◌else◌}
use Rattle.std.proofs.lemmas.Bool.Decides.{nat_tests}
use Rattle.lcc_base.specs.declared.which.Which.TheVariants as which
use Rattle.c_types.specs.CType.{Void, CType, Plain, Array, Kind, Simple, Function, Structure, Union, depth}
use Rattle.c_types.specs.Facts.{IsWithin}
use Rattle.c_types.specs.Layout.{Tag, extent, known}
use Rattle.c_types.specs.Table.{Table, is_above, tags, type_at}
use Rattle.c_meaning.specs.declared.core_expr.CoreKind.TheVariants as kind
use Rattle.c_meaning.specs.CoreTrees.{Core, CoreOf, IsIn, line_of, one, seen, type_of}
use Rattle.c_meaning.specs.NodeConstraints.{passed_by}
use Rattle.c_meaning.specs.Types.{pointer_to}
use Rattle.c_meaning.specs.Values.{CoreTree, is_lvalue, is_place, value_by, value_type}
use Rattle.c_values.specs.declared.check_fault.CheckFault.{CheckFault}
use Rattle.c_values.specs.declared.check_fault.CheckFault.TheVariants.{Constraint, Limit, Memory}
use Rattle.c_values.specs.Stays.{type_in_table, type_seen}
use Rattle.c_values.specs.TooDeep.{IsTooDeep}
use Rattle.c_check_expr.specs.Completed.{IsPassed}

-- neither its size nor its nesting is past the limits
pub record IsSmall (tags : List Tag) (t : CType) : Type 0 where
  pub size : is_above (extent tags t).size ≡ false
  pub nesting : nat_lt 500 (extent tags t).nesting ≡ false

not_above : (o : Option ℕ) → IfSome o (λ n. n ≤ 16777216) → is_above o ≡ false
not_above None h = refl
not_above (Some n) h = grind (arith, nat_tests)

not_deep : (t : CType) → depth t ≤ 500 → nat_lt 500 (depth t) ≡ false
not_deep t h = grind (arith, nat_tests)

within_small : (tags : List Tag) (t : CType) → IsWithin (known tags) t → IsSmall tags t
within_small tags t h =
    let n = h.bounded.nesting in
    record { size = not_above (extent tags t).size h.bounded.size; nesting = grind (arith, nat_tests) }

pointer_small : (tags : List Tag) (t : CType) → IsSmall tags (pointer_to t)
pointer_small tags t = record { size = refl; nesting = refl }

read_small : (tags : List Tag) (q : ℕ) (k : Kind) (c : CoreTree) → IsSmall tags (Plain q k) → IsSmall tags (type_of c) → (b : Bool) → IsSmall tags (type_of (if b then Core kind.Read (Plain 0 k) (line_of c) (one c) else c))
read_small tags q k c h t true = record { size = h.size; nesting = h.nesting }
read_small tags q k c h t false = t

first_small : (tags : List Tag) (of : CType) (c : CoreTree) → IsSmall tags (type_of c) → (b : Bool) → IsSmall tags (type_of (if b then Core kind.First (pointer_to of) (line_of c) (one c) else c))
first_small tags of c t true = pointer_small tags of
first_small tags of c t false = t

value_small_by : (tags : List Tag) (t : CType) (c : CoreTree) → IsSmall tags t → IsSmall tags (type_of c) → IsSmall tags (type_of (value_by t c))
value_small_by tags (Array of n) c h t = first_small tags of c t (is_lvalue c)
value_small_by tags (Plain q (Function r ps)) c h t = pointer_small tags (type_of c)
value_small_by tags (Plain q (Structure n)) c h t = t
value_small_by tags (Plain q (Union n)) c h t = t
value_small_by tags (Plain q (Simple Void)) c h t = t
value_small_by tags (Plain q k) c h t = read_small tags q k c h t (is_place c)

-- the type of an expression's value, where those of its table are within the limits
pub value_small : (t : Table) (c : CoreOf ℕ) → ((id : ℕ) → id < length t.forms → IsWithin (known (tags t)) (type_at t id)) → IsIn (length t.forms) c → IsSmall (tags t) (value_type (seen (type_at t) c))
value_small t c w i =
    let v = seen (type_at t) c in
    let h = within_small (tags t) (type_of v) (subst (IsWithin (known (tags t))) (sym (type_seen (type_at t) c)) (w (type_of c) (type_in_table (length t.forms) c i))) in
    value_small_by (tags t) (type_of v) v h h

-- nothing is passed where it isn't too deep, and else the limit on depth
pub none_passed : (tags : List Tag) (t : CType) → IsSmall tags t → nat_lt 500 (depth t) ≡ false → passed_by tags (t ∷ []) ≡ None
none_passed tags t m d = rw (m.size, m.nesting, d) refl

depth_passed : (tags : List Tag) (t : CType) → IsSmall tags t → nat_lt 500 (depth t) ≡ true → passed_by tags (t ∷ []) ≡ Some which.Depth
depth_passed tags t m d = rw (m.size, m.nesting, d) refl

depth_told : (e : CheckFault) (line : ℕ) (tags : List Tag) (t : CType) → IsSmall tags t → IsTooDeep e line t → IsPassed e line (passed_by tags (t ∷ []))
depth_told (Constraint number place) line tags t m d = d
depth_told (Limit limit place) line tags t m d = rw (d.0) (depth_passed tags t m d.1.1, d.1.0)
depth_told Memory line tags t m d = tt

-- what a `?` hands on
pub handed_on : {T : Type 0} (r : Result T CheckFault) (e : CheckFault) (line : ℕ) (tags : List Tag) (t : CType) → IsErrAnd r (λ y. y ≡ e) → IsSmall tags t → IsTooDeep e line t → IfErr r (λ y. IsPassed y line (passed_by tags (t ∷ [])))
handed_on (Ok v) e line tags t i m d = absurd i
handed_on (Err y) e line tags t i m d = depth_told y line tags t m (subst (λ z. IsTooDeep z line t) (sym i) d)

-- ---- types of values that are asked for first

-- one of the table
pub own_fine : (t : Table) (id : ℕ) (of : CType) → ((i : ℕ) → i < length t.forms → IsWithin (known (tags t)) (type_at t i)) → id < length t.forms → type_at t id ≡ of → passed_by (tags t) (of ∷ []) ≡ None
own_fine t id of w l e =
    let h : IsWithin (known (tags t)) of = subst (IsWithin (known (tags t))) e (w id l) in
    none_passed (tags t) of (within_small (tags t) of h) (not_deep of h.shallow)

-- a pointer that the table perhaps lacks
pub pointer_fine : (tags : List Tag) (of to : CType) → pointer_to to ≡ of → nat_lt 500 (depth (pointer_to to)) ≡ false → passed_by tags (of ∷ []) ≡ None
pointer_fine tags of to e d = ap (λ x. passed_by tags (x ∷ [])) (sym e) ∙ none_passed tags (pointer_to to) (pointer_small tags to) d

pub pointer_told : {T : Type 0} (r : Result T CheckFault) (e : CheckFault) (line : ℕ) (tags : List Tag) (of to : CType) → IsErrAnd r (λ y. y ≡ e) → pointer_to to ≡ of → IsTooDeep e line (pointer_to to) → IfErr r (λ y. IsPassed y line (passed_by tags (of ∷ [])))
pointer_told r e line tags of to i q d = subst (λ x. IfErr r (λ y. IsPassed y line (passed_by tags (x ∷ [])))) q (handed_on r e line tags (pointer_to to) i (pointer_small tags to) d)
