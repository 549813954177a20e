-- The constraints on specifiers and declarators, one by one.
-- Source: C89 3.5.1 to 3.5.5, in the profile of this compiler.
use Rattle.std.specs.Prelude.{ℕ, zero, suc, ℤ, pos, ◌&&◌, ◌||◌, not, nat_le, int_le, Bool, true, false, Option, Some, None, List, [], ◌∷◌, is_some, is_none, negsuc}
use Rattle.std.specs.Str.{bytes_eq}
use Rattle.c_ast.specs.declared.specifier.Storage.{Storage as StorageClass}
use Rattle.c_ast.specs.declared.specifier.Storage.TheVariants as class
use Rattle.c_ast.specs.declared.specifier.BasicType.{BasicType}
use Rattle.c_ast.specs.declared.specifier.BasicType.TheVariants as word
use Rattle.c_ast.specs.declared.specifier.RecordKind.{RecordKind}
use Rattle.c_ast.specs.declared.specifier.RecordKind.TheVariants as record_kind
use Rattle.c_types.specs.CType.{CType, Plain, Array, Kind, Structure, Union, Enumeration}
use Rattle.c_types.specs.BitFields.{is_field_type}
use Rattle.c_types.specs.Layout.{MemberType, Tag}
use Rattle.c_meaning.specs.State.{State, place_of, place_here, known_at}
use Rattle.c_meaning.specs.Types.{is_void, is_function, is_array, has_size}
use Rattle.c_meaning.specs.Values.{CoreTree}
use Rattle.c_meaning.specs.Constants.{fold, above_zero}
use Rattle.c_types.specs.Members.{is_defined}
use Rattle.c_meaning.specs.Nodes.{TypeNode, Step, ToArray, ToFunction, ToNamed, ToOpen, ToPointer}
use Rattle.c_meaning.specs.Nodes as node
use Rattle.c_meaning.specs.TypeRows.{classes_in, words_in, wholes_in, type_among, tag_key, number_of, formed_by}

abbrev pub is_floating : BasicType → Bool
is_floating word.Float = true
is_floating word.Double = true
is_floating w = false

abbrev pub some_floating : List BasicType → Bool
some_floating [] = false
some_floating (w ∷ ws) = is_floating w || some_floating ws

-- 1: `float` or `double` stands in a type
abbrev pub has_floating : State → TypeNode → Bool
has_floating s (node.Specifiers parts) = some_floating (words_in parts)
has_floating s n = false

-- 2: the type specifiers form no type of C89
abbrev pub forms_no_type : State → TypeNode → Bool
forms_no_type s (node.Specifiers parts) = is_none (type_among (wholes_in parts) (words_in parts))
forms_no_type s n = false

abbrev pub are_several : List StorageClass → Bool
are_several [] = false
are_several (c ∷ []) = false
are_several (c ∷ d ∷ cs) = true

abbrev pub is_other_class : List StorageClass → Bool
is_other_class [] = false
is_other_class (class.Register ∷ cs) = false
is_other_class cs = true

-- 3: two storage classes; another than `register` on a parameter
abbrev pub has_bad_class : State → TypeNode → Bool
has_bad_class s (node.Specifiers parts) = are_several (classes_in parts)
has_bad_class s (node.Parameter classes name of alone) = is_other_class classes
has_bad_class s n = false

abbrev pub is_taken : State → Option (List ℕ) → Bool
is_taken s (Some name) = is_some (place_here s name)
is_taken s None = false

-- 5: a name without linkage is declared twice in a scope
abbrev pub is_declared_twice : State → TypeNode → Bool
is_declared_twice s (node.Enumerator name value next) = is_taken s (Some name)
is_declared_twice s (node.ParameterDeclarator name base steps) = is_taken s name
is_declared_twice s n = false

abbrev pub has_record_kind : RecordKind → Kind → Bool
has_record_kind record_kind.Struct (Structure n) = true
has_record_kind record_kind.Union (Union n) = true
has_record_kind k other = false

abbrev pub is_of_kind : RecordKind → CType → Bool
is_of_kind k (Plain q kind) = has_record_kind k kind
is_of_kind k (Array of n) = false

abbrev pub is_enumeration_kind : Kind → Bool
is_enumeration_kind (Enumeration n) = true
is_enumeration_kind k = false

abbrev pub is_enumeration : CType → Bool
is_enumeration (Plain q k) = is_enumeration_kind k
is_enumeration (Array of n) = false

-- what a tag was declared as, if it was
abbrev pub is_other_record : State → RecordKind → Option ℕ → Bool
is_other_record s k None = false
is_other_record s k (Some id) = not (is_of_kind k (known_at s id).of)

abbrev pub is_defined_record : State → Option ℕ → Bool
is_defined_record s None = false
is_defined_record s (Some id) = is_defined s.tags (number_of (known_at s id).of)

abbrev pub is_other_enumeration : State → Option ℕ → Bool
is_other_enumeration s None = false
is_other_enumeration s (Some id) = not (is_enumeration (known_at s id).of)

abbrev pub has_stood : State → Option ℕ → Bool
has_stood s None = false
has_stood s (Some id) = is_some (known_at s id).value

-- 8: a tag is used as another kind, or defined twice in a scope
abbrev pub misuses_tag : State → TypeNode → Bool
misuses_tag s (node.Record k (Some tag) number members) =
    is_other_record s k (place_here s (tag_key tag)) || is_defined_record s (place_here s (tag_key tag))
misuses_tag s (node.RecordTag k tag) = is_other_record s k (place_of s (tag_key tag))
misuses_tag s (node.Enumeration (Some tag)) =
    is_other_enumeration s (place_here s (tag_key tag)) || has_stood s (place_here s (tag_key tag))
misuses_tag s (node.EnumerationTag tag) = is_other_enumeration s (place_of s (tag_key tag))
misuses_tag s n = false

abbrev pub has_name : List MemberType → List ℕ → Bool
has_name [] name = false
has_name (m ∷ ms) name = bytes_eq name m.name || has_name ms name

-- 9: a member name stands twice in a structure
abbrev pub repeats_member : State → TypeNode → Bool
repeats_member s (node.Field before (Some name) of width) = has_name before name
repeats_member s n = false

-- 10: a member has incomplete or function type
abbrev pub has_no_object : State → TypeNode → Bool
has_no_object s (node.Field before name of width) = not (has_size s.tags of)
has_no_object s n = false

-- from 0 to 32, and 0 only without a name
abbrev pub is_width : Option (List ℕ) → Option ℤ → Bool
is_width name (Some (pos zero)) = is_none name
is_width name (Some (pos (suc n))) = nat_le (suc n) 32
is_width name z = false

-- 11: a bit-field's type isn't int, signed or unsigned; its width isn't constant, isn't 0 to 32, or is 0 with a name
abbrev pub is_bad_field : State → TypeNode → Bool
is_bad_field s (node.Field before name of (Some width)) = not (is_field_type of && is_width name (fold width))
is_bad_field s n = false

abbrev pub is_in_int : Option ℤ → Bool
is_in_int (Some z) = int_le (negsuc 2147483647) z && int_le z (pos 2147483647)
is_in_int None = false

abbrev pub written_or : Option CoreTree → ℤ → Option ℤ
written_or (Some c) next = fold c
written_or None next = Some next

-- 12: an enumerator isn't an integer constant that int holds
abbrev pub is_bad_enumerator : State → TypeNode → Bool
is_bad_enumerator s (node.Enumerator name value next) = not (is_in_int (written_or value next))
is_bad_enumerator s n = false

-- the steps of a declarator's node, and the type that they begin with
pub record Steps : Type 0 where
  pub base : CType
  pub steps : List Step

abbrev pub steps_of : TypeNode → Option Steps
steps_of (node.Declarator base steps) = Some (record { base = base; steps = steps })
steps_of (node.ParameterDeclarator name base steps) = Some (record { base = base; steps = steps })
steps_of n = None

-- some step is so, over the type that it is made from
abbrev pub some_step : (CType → Step → Bool) → CType → List Step → Bool
some_step test t [] = false
some_step test t (p ∷ ps) = test t p || some_step test (formed_by p t) ps

abbrev pub some_of : (CType → Step → Bool) → Option Steps → Bool
some_of test (Some d) = some_step test d.base d.steps
some_of test None = false

abbrev pub is_bad_size : CType → Step → Bool
is_bad_size t (ToArray (Some c)) = is_none (above_zero (fold c))
is_bad_size t p = false

-- 13: an array size isn't a constant above 0
abbrev pub has_bad_size : State → TypeNode → Bool
has_bad_size s n = some_of is_bad_size (steps_of n)

abbrev pub is_bad_element : List Tag → CType → Step → Bool
is_bad_element tags t (ToArray size) = not (has_size tags t)
is_bad_element tags t p = false

-- 14: an array's element is a function, void or incomplete
abbrev pub has_bad_element : State → TypeNode → Bool
has_bad_element s n = some_of (is_bad_element s.tags) (steps_of n)

abbrev pub is_function_step : Step → Bool
is_function_step (ToFunction parameters more scope) = true
is_function_step (ToNamed names) = true
is_function_step ToOpen = true
is_function_step p = false

abbrev pub is_bad_result : CType → Step → Bool
is_bad_result t p = is_function_step p && (is_function t || is_array t)

-- 15: a function returns a function or an array
abbrev pub has_bad_result : State → TypeNode → Bool
has_bad_result s n = some_of is_bad_result (steps_of n)

-- 17: `void` stands among several parameters, or names one
abbrev pub is_bad_void : State → TypeNode → Bool
is_bad_void s (node.Parameter classes name of alone) = is_void of && (not alone || is_some name)
is_bad_void s n = false

abbrev pub is_name_list : CType → Step → Bool
is_name_list t (ToNamed names) = true
is_name_list t p = false

-- 19: a name list without a definition
abbrev pub has_name_list : State → TypeNode → Bool
has_name_list s n = some_of is_name_list (steps_of n)
