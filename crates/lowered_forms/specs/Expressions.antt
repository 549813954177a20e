-- The lowering of expressions: a row for each kind of checked expression, by its parts' lowering. What has a place comes to the place's
-- address, a structure too.
-- Source: ISO/IEC 9899:1990, 6.3; Fraser and Hanson, A Retargetable C Compiler, chapters 8, 9 and 12.
use Rattle.std.specs.Prelude.{ℕ, pos, Bool, true, false, List, [], ◌∷◌}
use Rattle.c_types.specs.CType.{CType}
use Rattle.c_meaning.specs.declared.core_expr.Conversion.TheVariants as to
use Rattle.c_meaning.specs.declared.core_expr.CoreKind.{CoreKind}
use Rattle.c_meaning.specs.declared.core_expr.CoreKind.TheVariants as kind
use Rattle.c_meaning.specs.CoreTrees.{Core, NoCore, Cores, type_of}
use Rattle.c_meaning.specs.Scalars.{is_signed}
use Rattle.c_meaning.specs.Types.{is_pointer}
use Rattle.c_meaning.specs.Values.{CoreTree, CoreTrees}
use Rattle.c_runs.specs.Places.{spot_of}
use Rattle.c_rows_agree.specs.Integers.{number, converted_to, as_pointer, unary_of, binary_of}
use Rattle.c_pointers_agree.specs.Pointers.{name, moved_among, difference}
use Rattle.lowered_forms.specs.Contexts.{Context, function_name, object_name, text_name, built_in_name}
use Rattle.lowered_forms.specs.Lows.{Low}
use Rattle.lowered_forms.specs.Values.{Lowered, Part, with_value, then_low, nothing, placed, of_two}
use Rattle.lowered_forms.specs.Places.{local_place, member}
use Rattle.lowered_forms.specs.Accesses.{read}
use Rattle.lowered_forms.specs.Tests.{test_row, truth_of}
use Rattle.lowered_forms.specs.Conditionals.{conditional}
use Rattle.lowered_forms.specs.Changes.{assignment, changing, new_given, old_given}
use Rattle.lowered_forms.specs.Calls.{calling}

-- all parts but the last are dropped
abbrev pub comma_from : Part → List Part → Low → Lowered
comma_from a [] l = a.value l
comma_from a (b ∷ ps) l = comma_from b ps (a.value l).low

-- what is no test by itself
abbrev pub plain_row : Context → CoreKind → CType → List Part → Low → Lowered
plain_row s (kind.Local n register) of [] l = placed (local_place s n of) l
plain_row s (kind.Object n) of [] l = with_value (name (object_name s.unit n) (pos 0)) l
plain_row s (kind.Text n) of [] l = with_value (name (text_name s.unit n) (pos 0)) l
plain_row s (kind.Function n) of [] l = with_value (name (function_name s.unit n) (pos 0)) l
plain_row s (kind.BuiltIn b) of [] l = with_value (name (built_in_name s.unit b) (pos 0)) l
plain_row s (kind.Number n) of [] l = with_value (number (is_signed of) n) l
plain_row s kind.Pointed of (a ∷ []) l = a.value l
plain_row s (kind.Member offset first width) of (a ∷ []) l = member s offset a l
plain_row s kind.Read of (a ∷ []) l = then_low (a.value l) (λ p l1. placed (read s.order (spot_of a.tree) p) l1)
plain_row s kind.Address of (a ∷ []) l = a.value l
plain_row s kind.First of (a ∷ []) l = a.value l
plain_row s (kind.Convert to.Void) of (a ∷ []) l = nothing (a.value l).low
plain_row s (kind.Convert to.Pointer) of (a ∷ []) l = then_low (a.value l) (λ v l1. placed (as_pointer v) l1)
plain_row s (kind.Convert (to.Integer x)) of (a ∷ []) l = then_low (a.value l) (λ v l1. placed (converted_to x v) l1)
plain_row s (kind.Unary o) of (a ∷ []) l = then_low (a.value l) (λ v l1. placed (unary_of o v) l1)
plain_row s (kind.Binary o signed) of (a ∷ b ∷ []) l = of_two a b l (λ v w l1. placed (binary_of o signed v w) l1)
plain_row s (kind.Move size back) of (a ∷ b ∷ []) l = of_two a b l (λ v w l1. placed (moved_among size back (is_pointer (type_of a.tree)) v w) l1)
plain_row s (kind.Difference size) of (a ∷ b ∷ []) l = of_two a b l (λ v w l1. placed (difference size v w) l1)
plain_row s kind.Conditional of (a ∷ b ∷ c ∷ []) l = conditional of a b c l
plain_row s kind.Comma of (a ∷ ps) l = comma_from a ps l
plain_row s kind.Assign of (a ∷ b ∷ []) l = assignment s of a b l
plain_row s (kind.Change by) of (a ∷ b ∷ []) l = changing s by new_given a b l
plain_row s (kind.Postfix by) of (a ∷ b ∷ []) l = changing s by old_given a b l
plain_row s (kind.Call n) of (f ∷ ps) l = calling s n of f ps l
-- no checked unit holds anything else
plain_row s what of ps l = nothing l

-- an expression as a test
abbrev pub tested_row : Context → CoreKind → CType → List Part → ℕ → Bool → Low → Low
tested_row s what of ps n when l = test_row what ps (λ l1. plain_row s what of ps l1) n when l

-- by whether it is a test by itself
abbrev pub is_test : CoreKind → Bool
is_test kind.Not = true
is_test kind.And = true
is_test kind.Or = true
is_test (kind.Compare o signed) = true
is_test k = false

abbrev pub row_by : Bool → Context → CoreKind → CType → List Part → Low → Lowered
row_by true s what of ps l = truth_of (λ n when l1. tested_row s what of ps n when l1) l
row_by false s what of ps l = plain_row s what of ps l

abbrev pub row : Context → CoreKind → CType → List Part → Low → Lowered
row s what of ps l = row_by (is_test what) s what of ps l

abbrev mutual
  pub low_e : Context → CoreTree → Low → Lowered
  low_e s (Core what of line kids) l = row s what of (parts_of s kids) l

  pub low_test : Context → CoreTree → ℕ → Bool → Low → Low
  low_test s (Core what of line kids) n when l = tested_row s what of (parts_of s kids) n when l

  pub parts_of : Context → CoreTrees → List Part
  parts_of s NoCore = []
  parts_of s (Cores c cs) = record { tree = c; value = λ l. low_e s c l; test = λ n when l. low_test s c n when l } ∷ parts_of s cs
