-- The rows of specifiers and declarators: what they make of their parts.
-- Source: C89 3.5.2 to 3.5.5.
use Rattle.std.specs.Prelude.{ℕ, ℤ, pos, ◌&&◌, Bool, true, false, Option, Some, None, List, [], ◌∷◌, bit_or, if◌then◌else◌}
use Rattle.c_ast.specs.declared.specifier.Storage.{Storage as StorageClass}
use Rattle.c_ast.specs.declared.specifier.Storage.TheVariants as class
use Rattle.c_ast.specs.declared.specifier.Qualifier.{Qualifier}
use Rattle.c_ast.specs.declared.specifier.Qualifier.TheVariants as qualifier
use Rattle.c_ast.specs.declared.specifier.BasicType.{BasicType}
use Rattle.c_ast.specs.declared.specifier.RecordKind.{RecordKind}
use Rattle.c_ast.specs.declared.specifier.RecordKind.TheVariants as record_kind
use Rattle.c_symbols.specs.declared.symbol.Storage.{Storage}
use Rattle.c_symbols.specs.declared.symbol.Storage.TheVariants as storage
use Rattle.c_types.specs.CType.{Basic, Int, CType, Plain, Array, Kind, Pointer, Function, Structure, Union, Enumeration, Open, Listed, CTypes, NoType, And, basic, qualify, unqualified}
use Rattle.c_types.specs.Layout.{MemberType}
use Rattle.c_meaning.specs.State.{Known, State, place_of, place_here, known_at, level_of, declared, replaced, counted, defined}
use Rattle.c_meaning.specs.Types.{is_void, pointer_to}
use Rattle.c_meaning.specs.Values.{CoreTree}
use Rattle.c_meaning.specs.Constants.{fold, above_zero}
use Rattle.c_meaning.specs.Words as words
use Rattle.c_meaning.specs.Nodes.{Part, Stored, Qualified, Word, Whole, NamedParameter, Step, ToPointer, ToArray, ToFunction, ToNamed, ToOpen}

-- ---- specifiers

-- what specifiers say: the storage classes, and the type
pub record Specified : Type 0 where
  pub classes : List StorageClass
  pub of : CType

abbrev pub qualifier_bit : Qualifier → ℕ
qualifier_bit qualifier.Const = 1
qualifier_bit qualifier.Volatile = 2

abbrev pub qualifiers_among : List Qualifier → ℕ
qualifiers_among [] = 0
qualifiers_among (q ∷ qs) = bit_or (qualifier_bit q) (qualifiers_among qs)

abbrev pub classes_in : List Part → List StorageClass
classes_in [] = []
classes_in (Stored c ∷ ps) = c ∷ classes_in ps
classes_in (p ∷ ps) = classes_in ps

abbrev pub qualifiers_in : List Part → List Qualifier
qualifiers_in [] = []
qualifiers_in (Qualified q ∷ ps) = q ∷ qualifiers_in ps
qualifiers_in (p ∷ ps) = qualifiers_in ps

abbrev pub words_in : List Part → List BasicType
words_in [] = []
words_in (Word w ∷ ps) = w ∷ words_in ps
words_in (p ∷ ps) = words_in ps

-- the types that stand among specifiers by themselves
abbrev pub wholes_in : List Part → List CType
wholes_in [] = []
wholes_in (Whole t ∷ ps) = t ∷ wholes_in ps
wholes_in (p ∷ ps) = wholes_in ps

-- the type of words, or the one that stands alone; None where they form no type
abbrev pub basic_or_none : Option Basic → Option CType
basic_or_none (Some b) = Some (basic b)
basic_or_none None = None

abbrev pub type_among : List CType → List BasicType → Option CType
type_among [] ws = basic_or_none (words.meant ws)
type_among (t ∷ []) [] = Some t
type_among ts ws = None

abbrev pub type_or_int : Option CType → CType
type_or_int (Some t) = t
type_or_int None = basic Int

abbrev pub specified : List Part → Specified
specified ps =
    record {
      classes = classes_in ps;
      of = qualify (qualifiers_among (qualifiers_in ps)) (type_or_int (type_among (wholes_in ps) (words_in ps)));
    }

-- ---- tags

-- a tag has a blank before it in the scopes, so that it equals no other name
abbrev pub tag_key : List ℕ → List ℕ
tag_key tag = 32 ∷ tag

abbrev pub tagged : ℕ → ℕ → CType → Option ℤ → Known
tagged line level of value = record { class = storage.Tag; of = of; line = line; level = level; value = value }

abbrev pub record_type : RecordKind → ℕ → CType
record_type record_kind.Struct n = Plain 0 (Structure n)
record_type record_kind.Union n = Plain 0 (Union n)

abbrev pub enumeration_type : ℕ → CType
enumeration_type n = Plain 0 (Enumeration n)

abbrev pub is_union : RecordKind → Bool
is_union record_kind.Struct = false
is_union record_kind.Union = true

-- a state, and a type that is known in it
pub record Tagged : Type 0 where
  pub state : State
  pub of : CType

-- a structure, union or enumeration that is declared under the tag in the innermost scope
abbrev pub with_tag : State → ℕ → List ℕ → CType → Option ℤ → Tagged
with_tag s line tag of value = record { state = declared (counted s) (tag_key tag) (tagged line (level_of s) of value); of = of }

-- one without a tag
abbrev pub without_tag : State → CType → Tagged
without_tag s of = record { state = counted s; of = of }

-- the type that a symbol's tag names
abbrev pub tagged_at : State → ℕ → Tagged
tagged_at s id = record { state = s; of = (known_at s id).of }

-- A structure or union whose members come: the innermost scope's of this tag, or else a new one, not yet complete.
abbrev pub opened_at : State → ℕ → RecordKind → List ℕ → Option ℕ → Tagged
opened_at s line k tag (Some id) = tagged_at s id
opened_at s line k tag None = with_tag s line tag (record_type k s.count) None

abbrev pub opened : State → ℕ → RecordKind → Option (List ℕ) → Tagged
opened s line k None = without_tag s (record_type k s.count)
opened s line k (Some tag) = opened_at s line k tag (place_here s (tag_key tag))

abbrev pub number_of_kind : Kind → ℕ
number_of_kind (Structure n) = n
number_of_kind (Union n) = n
number_of_kind (Enumeration n) = n
number_of_kind k = 0

abbrev pub number_of : CType → ℕ
number_of (Plain q k) = number_of_kind k
number_of (Array of n) = 0

-- with its members
abbrev pub completed : State → RecordKind → ℕ → List MemberType → State
completed s k number ms = defined s (record { number = number; is_union = is_union k; members = ms })

-- the innermost declaration of the tag, or a new one in the innermost scope
abbrev pub named_at : State → ℕ → List ℕ → CType → Option ℕ → Tagged
named_at s line tag of (Some id) = tagged_at s id
named_at s line tag of None = with_tag s line tag of None

abbrev pub named : State → ℕ → List ℕ → CType → Tagged
named s line tag of = named_at s line tag of (place_of s (tag_key tag))

-- What is known where the list of an enumeration begins: its tag is in force there. Where the innermost scope doesn't have it,
-- it means a whole type without enumerators until the list's end.
abbrev pub awaited_at : State → ℕ → List ℕ → Option ℕ → State
awaited_at s line tag (Some id) = s
awaited_at s line tag None = (with_tag s line tag (enumeration_type s.count) None).state

abbrev pub awaited : State → ℕ → Option (List ℕ) → State
awaited s line None = s
awaited s line (Some tag) = awaited_at s line tag (place_here s (tag_key tag))

-- An enumeration whose list has stood: a new type, which replaces what the tag means in the innermost scope.
abbrev pub enumerated_at : State → ℕ → List ℕ → Option ℕ → Tagged
enumerated_at s line tag None = with_tag s line tag (enumeration_type s.count) (Some (pos 0))
enumerated_at s line tag (Some id) =
    record {
      state = replaced (counted s) id (tagged line (level_of s) (enumeration_type s.count) (Some (pos 0)));
      of = enumeration_type s.count;
    }

abbrev pub enumerated : State → ℕ → Option (List ℕ) → Tagged
enumerated s line None = without_tag s (enumeration_type s.count)
enumerated s line (Some tag) = enumerated_at s line tag (place_here s (tag_key tag))

-- ---- enumerators and members

abbrev pub number_or : Option ℤ → ℤ → ℤ
number_or (Some z) other = z
number_or None other = other

-- the value that is written, or the next one
abbrev pub enumerator_value : Option CoreTree → ℤ → ℤ
enumerator_value None next = next
enumerator_value (Some c) next = number_or (fold c) next

abbrev pub with_enumerator : State → ℕ → List ℕ → ℤ → State
with_enumerator s line name z =
    declared s name (record { class = storage.Enumerator; of = basic Int; line = line; level = level_of s; value = Some z })

abbrev pub nat_part : Option ℤ → ℕ
nat_part (Some (pos n)) = n
nat_part z = 0

abbrev pub field_width : Option CoreTree → Option ℕ
field_width None = None
field_width (Some c) = Some (nat_part (fold c))

abbrev pub name_or_empty : Option (List ℕ) → List ℕ
name_or_empty (Some name) = name
name_or_empty None = []

abbrev pub member : Option (List ℕ) → CType → Option CoreTree → MemberType
member name of width = record { name = name_or_empty name; of = of; width = field_width width }

-- ---- declarators

-- the length that an expression gives; none where it is no constant above 0
abbrev pub length_of : Option CoreTree → Option ℕ
length_of None = None
length_of (Some c) = above_zero (fold c)

-- parameters are unqualified in the type of their function (C89 3.5.4.3)
abbrev pub types_of : List NamedParameter → CTypes
types_of [] = NoType
types_of (p ∷ ps) = And (unqualified p.of) (types_of ps)

-- one step from the base of a declarator to its type
abbrev pub formed_by : Step → CType → CType
formed_by (ToPointer qualifiers) t = Plain qualifiers (Pointer t)
formed_by (ToArray size) t = Array t (length_of size)
formed_by (ToFunction ps more scope) t = Plain 0 (Function t (Listed (types_of ps) more))
formed_by (ToNamed names) t = Plain 0 (Function t Open)
formed_by ToOpen t = Plain 0 (Function t Open)

-- all steps
abbrev pub formed : CType → List Step → CType
formed t [] = t
formed t (p ∷ ps) = formed (formed_by p t) ps

-- the pointers of a declarator, in the order in which they are formed
abbrev pub pointer_steps : List (List Qualifier) → List Step
pointer_steps [] = []
pointer_steps (qs ∷ rest) = ToPointer (qualifiers_among qs) ∷ pointer_steps rest

-- a parameter of array or function type is a pointer (C89 3.5.4.3)
abbrev pub adjusted_kind : ℕ → Kind → CType
adjusted_kind q (Function result parameters) = pointer_to (Plain q (Function result parameters))
adjusted_kind q k = Plain q k

abbrev pub adjusted : CType → CType
adjusted (Array of n) = pointer_to of
adjusted (Plain q k) = adjusted_kind q k

-- `(void)` says that there are no parameters
abbrev pub none_if_void : Bool → List NamedParameter → List NamedParameter
none_if_void alone [] = []
none_if_void alone (p ∷ ps) = if alone && is_void p.of then [] else p ∷ ps

abbrev pub is_register : List StorageClass → Bool
is_register (class.Register ∷ cs) = true
is_register cs = false

abbrev pub parameter_class : List StorageClass → Storage
parameter_class cs = if is_register cs then storage.Register else storage.Auto

-- the how-manieth parameter
abbrev pub parameter_known : State → ℕ → ℕ → List StorageClass → CType → Known
parameter_known s line place cs of = record { class = parameter_class cs; of = of; line = line; level = level_of s; value = Some (pos place) }

-- a parameter's name is in force from its declarator on
abbrev pub with_parameter : State → ℕ → ℕ → List StorageClass → Option (List ℕ) → CType → State
with_parameter s line place cs None of = s
with_parameter s line place cs (Some name) of = declared s name (parameter_known s line place cs of)
