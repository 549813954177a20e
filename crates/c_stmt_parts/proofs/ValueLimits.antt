-- What forming the value of an expression tells, where the expression's type is a table's: nothing, or the limit on depth.
use Rattle.std.proofs.Common.{◌≡◌, ℕ, ◌<◌, ◌≤◌, Bool, true, false, List, [], ◌∷◌, length, refl, sym, ap, ◌∙◌, subst, arith}
use Rattle.std.specs.Prelude.{IfSome, None, Option, Some, nat_lt, if◌then◌else◌}
use Rattle.std.proofs.lemmas.Bool.Decides.{nat_tests}
use Rattle.lcc_base.specs.declared.which.Which.TheVariants as which
use Rattle.c_types.specs.CType.{Void, CType, Plain, Array, Kind, Simple, Function, Structure, Union, depth}
use Rattle.c_types.specs.Facts.{IsWithin}
use Rattle.c_types.specs.Layout.{Tag, extent, known}
use Rattle.c_types.specs.Table.{Table, is_above, tags, type_at}
use Rattle.c_meaning.specs.declared.core_expr.CoreKind.TheVariants as kind
use Rattle.c_meaning.specs.CoreTrees.{Core, CoreOf, IsIn, line_of, one, seen, type_of}
use Rattle.c_meaning.specs.Constraints.{Passes, passed_fault}
use Rattle.c_meaning.specs.NodeConstraints.{passed_by}
use Rattle.c_meaning.specs.Types.{pointer_to}
use Rattle.c_meaning.specs.Values.{CoreTree, is_lvalue, is_place, value_by, value_type}
use Rattle.c_values.specs.declared.check_fault.CheckFault.{CheckFault}
use Rattle.c_values.specs.declared.check_fault.CheckFault.TheVariants.{Constraint, Limit, Memory}
use Rattle.c_values.specs.Stays.{type_in_table, type_seen}
use Rattle.c_values.specs.TooDeep.{IsTooDeep}
use Rattle.c_check_expr.specs.StepFaults.{IsFault}
use Rattle.c_units.specs.Statements.{value_fault}

-- neither its size nor its nesting is past the limits
record IsSmall (tags : List Tag) (t : CType) : Type 0 where
  size : is_above (extent tags t).size ≡ false
  nesting : nat_lt 500 (extent tags t).nesting ≡ false

not_above : (o : Option ℕ) → IfSome o (λ n. n ≤ 16777216) → is_above o ≡ false
not_above None h = refl
not_above (Some n) h = grind (arith, nat_tests)

within_small : (tags : List Tag) (t : CType) → IsWithin (known tags) t → IsSmall tags t
within_small tags t h =
    let n = h.bounded.nesting in
    record { size = not_above (extent tags t).size h.bounded.size; nesting = grind (arith, nat_tests) }

pointer_small : (tags : List Tag) (t : CType) → IsSmall tags (pointer_to t)
pointer_small tags t = record { size = refl; nesting = refl }

read_small : (tags : List Tag) (q : ℕ) (k : Kind) (c : CoreTree) → IsSmall tags (Plain q k) → IsSmall tags (type_of c) → (b : Bool) → IsSmall tags (type_of (if b then Core kind.Read (Plain 0 k) (line_of c) (one c) else c))
read_small tags q k c h t true = record { size = h.size; nesting = h.nesting }
read_small tags q k c h t false = t

first_small : (tags : List Tag) (of : CType) (c : CoreTree) → IsSmall tags (type_of c) → (b : Bool) → IsSmall tags (type_of (if b then Core kind.First (pointer_to of) (line_of c) (one c) else c))
first_small tags of c t true = pointer_small tags of
first_small tags of c t false = t

value_small_by : (tags : List Tag) (t : CType) (c : CoreTree) → IsSmall tags t → IsSmall tags (type_of c) → IsSmall tags (type_of (value_by t c))
value_small_by tags (Array of n) c h t = first_small tags of c t (is_lvalue c)
value_small_by tags (Plain q (Function r ps)) c h t = pointer_small tags (type_of c)
value_small_by tags (Plain q (Structure n)) c h t = t
value_small_by tags (Plain q (Union n)) c h t = t
value_small_by tags (Plain q (Simple Void)) c h t = t
value_small_by tags (Plain q k) c h t = read_small tags q k c h t (is_place c)

none_passed : (tags : List Tag) (t : CType) → IsSmall tags t → nat_lt 500 (depth t) ≡ false → passed_by tags (t ∷ []) ≡ None
none_passed tags t m d = rw (m.size, m.nesting, d) refl

depth_passed : (tags : List Tag) (t : CType) → IsSmall tags t → nat_lt 500 (depth t) ≡ true → passed_by tags (t ∷ []) ≡ Some which.Depth
depth_passed tags t m d = rw (m.size, m.nesting, d) refl

line_seen : {T U : Type 0} (known : T → U) (c : CoreOf T) → line_of (seen known c) ≡ line_of c
line_seen known (Core what of line kids) = refl

depth_told : (tags : List Tag) (c : CoreTree) (e : CheckFault) (line : ℕ) → IsSmall tags (value_type c) → line_of c ≡ line → IsTooDeep e line (value_type c) → IsFault e (value_fault tags (Some c))
depth_told tags c (Constraint number place) line m l d = absurd d
depth_told tags c (Limit limit place) line m l d =
    ap (passed_fault (line_of c)) (depth_passed tags (value_type c) m d.1.1) ∙ ap (λ (n : ℕ). Some (Passes which.Depth n)) (l ∙ sym d.1.0) ∙ ap (λ w. Some (Passes w place)) (sym d.0)
depth_told tags c Memory line m l d = tt

-- the types of a table are within the limits
abbrev pub AreLimited : Table → Type 0
AreLimited t = (id : ℕ) → id < length t.forms → IsWithin (known (tags t)) (type_at t id)

module _ (t : Table) (c : CoreOf ℕ) (limits : AreLimited t) (i : IsIn (length t.forms) c) where
  small : IsSmall (tags t) (value_type (seen (type_at t) c))
  small =
      let v = seen (type_at t) c in
      let h = within_small (tags t) (type_of v) (subst (IsWithin (known (tags t))) (sym (type_seen (type_at t) c)) (limits (type_of c) (type_in_table (length t.forms) c i))) in
      value_small_by (tags t) (type_of v) v h h

  pub value_sound : nat_lt 500 (depth (value_type (seen (type_at t) c))) ≡ false → value_fault (tags t) (Some (seen (type_at t) c)) ≡ None
  value_sound d = ap (passed_fault (line_of (seen (type_at t) c))) (none_passed (tags t) (value_type (seen (type_at t) c)) small d)

  pub value_told : (e : CheckFault) (line : ℕ) → line_of c ≡ line → IsTooDeep e line (value_type (seen (type_at t) c)) → IsFault e (value_fault (tags t) (Some (seen (type_at t) c)))
  value_told e line l d = depth_told (tags t) (seen (type_at t) c) e line small (line_seen (type_at t) c ∙ l) d
