-- Definitions of functions: the node of a definition's declarator and that of an old-style parameter, and the constraints and
-- limits on these.
-- Source: C89 3.7.1, 3.5.4.3, in the profile of this compiler.
use Rattle.std.specs.Prelude.{ℕ, ◌||◌, not, nat_lt, Bool, true, false, Option, Some, None, List, [], ◌∷◌, ◌++◌, length, is_none}
use Rattle.c_ast.specs.declared.specifier.Storage.{Storage as StorageClass}
use Rattle.c_symbols.specs.Scoping.{symbol_named}
use Rattle.c_types.specs.CType.{CType}
use Rattle.c_types.specs.Layout.{Tag}
use Rattle.lcc_base.specs.declared.which.Which.{Which}
use Rattle.lcc_base.specs.declared.which.Which.TheVariants as which
use Rattle.c_meaning.specs.State.{State}
use Rattle.c_meaning.specs.Types.{is_void, has_size}
use Rattle.c_meaning.specs.Rows.{result_type}
use Rattle.c_meaning.specs.Units.{are_different}
use Rattle.c_meaning.specs.Nodes.{NamedParameter, Step, ToFunction, ToNamed, ToOpen}
use Rattle.c_meaning.specs.TypeRows.{formed, adjusted}
use Rattle.c_meaning.specs.TypeConstraints.{is_other_class, is_taken, is_bad_size, is_bad_element, is_bad_result, is_name_list, some_step}
use Rattle.c_meaning.specs.Constraints.{Fault, broken_or, formings, some_many}
use Rattle.c_meaning.specs.NodeConstraints.{ConstraintOn, on, first_of, passed_by}
use Rattle.c_meaning.specs.Declarations.{Naming, Name, is_typedef, is_declared_again, is_declared_otherwise, is_defined}

-- ---- nodes

-- the declarator of a function's definition, over the type of its specifiers
pub record Definition : Type 0 where
  pub naming : Naming
  pub base : CType
  pub steps : List Step

-- The declarator of an old-style parameter, over the type of its specifiers: its storage classes, its place in the list of names,
-- and whether it has an initialiser.
pub record OldParameter : Type 0 where
  pub classes : List StorageClass
  pub name : List ℕ
  pub base : CType
  pub steps : List Step
  pub place : Option ℕ
  pub initialised : Bool

-- ---- the steps of a definition

-- The last step is the function's own: the one that its name is nearest to.
abbrev pub own_step : List Step → Option Step
own_step [] = None
own_step (p ∷ []) = Some p
own_step (p ∷ q ∷ ps) = own_step (q ∷ ps)

abbrev pub before_own : List Step → List Step
before_own [] = []
before_own (p ∷ []) = []
before_own (p ∷ q ∷ ps) = p ∷ before_own (q ∷ ps)

abbrev pub is_nameless : List NamedParameter → Bool
is_nameless [] = false
is_nameless (p ∷ ps) = is_none p.name || is_nameless ps

-- it makes a function, whose parameters have names
abbrev pub is_definition_step : Option Step → Bool
is_definition_step (Some (ToFunction ps more scope)) = not (is_nameless ps)
is_definition_step (Some (ToNamed names)) = true
is_definition_step (Some ToOpen) = true
is_definition_step step = false

abbrev pub names_of : Option Step → List (List ℕ)
names_of (Some (ToNamed names)) = names
names_of step = []

abbrev pub has_more : Option Step → Bool
has_more (Some (ToFunction ps more scope)) = more
has_more step = false

abbrev pub has_open_parameter : List Tag → List NamedParameter → Bool
has_open_parameter tags [] = false
has_open_parameter tags (p ∷ ps) = not (has_size tags p.of) || has_open_parameter tags ps

abbrev pub takes_open : List Tag → Option Step → Bool
takes_open tags (Some (ToFunction ps more scope)) = has_open_parameter tags ps
takes_open tags step = false

abbrev pub is_open_result : List Tag → CType → Bool
is_open_result tags t = not (is_void t || has_size tags t)

-- ---- constraints on a definition's declarator

-- 3: a definition is no typedef
abbrev pub is_typedef_of : State → Definition → Bool
is_typedef_of s n = is_typedef n.naming.class

-- 5: a name without linkage is declared twice in a scope, or with two meanings: the function's, or one of a list of names
abbrev pub is_named_again : State → Definition → Bool
is_named_again s n = is_declared_again s (Name n.naming) || not (are_different (names_of (own_step n.steps)))

-- 6: declarations of one linked name have types that aren't compatible
abbrev pub is_named_otherwise : State → Definition → Bool
is_named_otherwise s n = is_declared_otherwise s (Name n.naming)

-- 7: a function is defined twice
abbrev pub is_defined_again : State → Definition → Bool
is_defined_again s n = is_defined s (symbol_named s.links n.naming.name)

-- 13: an array size isn't a constant above 0
abbrev pub has_bad_size : State → Definition → Bool
has_bad_size s n = some_step is_bad_size n.base n.steps

-- 14: an array's element is a function, void or incomplete
abbrev pub has_bad_element : State → Definition → Bool
has_bad_element s n = some_step (is_bad_element s.tags) n.base n.steps

-- 15: a function returns a function or an array
abbrev pub has_bad_result : State → Definition → Bool
has_bad_result s n = some_step is_bad_result n.base n.steps

-- 18: a definition's declarator isn't itself a function's, or a prototype's parameter has no name
abbrev pub is_no_definition : State → Definition → Bool
is_no_definition s n = not (is_definition_step (own_step n.steps))

-- 19: a name list without a definition: in another step than the function's own
abbrev pub has_name_list : State → Definition → Bool
has_name_list s n = some_step is_name_list n.base (before_own n.steps)

-- 20: a definition's parameter has incomplete type, or its result has incomplete type other than void
abbrev pub has_open_type : State → Definition → Bool
has_open_type s n = takes_open s.tags (own_step n.steps) || is_open_result s.tags (result_type n.naming.of)

-- 21: a definition has `...`
abbrev pub is_variadic : State → Definition → Bool
is_variadic s n = has_more (own_step n.steps)

-- all of them, smaller numbers first
abbrev pub definition_constraints : List (ConstraintOn Definition)
definition_constraints =
    on 3 is_typedef_of ∷
    on 5 is_named_again ∷
    on 6 is_named_otherwise ∷
    on 7 is_defined_again ∷
    on 13 has_bad_size ∷
    on 14 has_bad_element ∷
    on 15 has_bad_result ∷
    on 18 is_no_definition ∷
    on 19 has_name_list ∷
    on 20 has_open_type ∷
    on 21 is_variadic ∷ []

-- ---- constraints on an old-style parameter's declarator

-- 3: another storage class than `register`
abbrev pub has_other_class : State → OldParameter → Bool
has_other_class s n = is_other_class n.classes

-- 5: the name is declared twice in the scope
abbrev pub is_parameter_again : State → OldParameter → Bool
is_parameter_again s n = is_taken s (Some n.name)

abbrev pub has_bad_parameter_size : State → OldParameter → Bool
has_bad_parameter_size s n = some_step is_bad_size n.base n.steps

abbrev pub has_bad_parameter_element : State → OldParameter → Bool
has_bad_parameter_element s n = some_step (is_bad_element s.tags) n.base n.steps

abbrev pub has_bad_parameter_result : State → OldParameter → Bool
has_bad_parameter_result s n = some_step is_bad_result n.base n.steps

-- 17: `void` names a parameter
abbrev pub is_void_parameter : State → OldParameter → Bool
is_void_parameter s n = is_void (formed n.base n.steps)

-- 19: an old-style declaration names no listed parameter, or has an initialiser; a name list without a definition
abbrev pub is_unlisted : State → OldParameter → Bool
is_unlisted s n = is_none n.place || (n.initialised || some_step is_name_list n.base n.steps)

-- 20: a definition's parameter has incomplete type
abbrev pub is_open_parameter : State → OldParameter → Bool
is_open_parameter s n = not (has_size s.tags (adjusted (formed n.base n.steps)))

-- all of them, smaller numbers first
abbrev pub parameter_constraints : List (ConstraintOn OldParameter)
parameter_constraints =
    on 3 has_other_class ∷
    on 5 is_parameter_again ∷
    on 13 has_bad_parameter_size ∷
    on 14 has_bad_parameter_element ∷
    on 15 has_bad_parameter_result ∷
    on 17 is_void_parameter ∷
    on 19 is_unlisted ∷
    on 20 is_open_parameter ∷ []

-- ---- limits

abbrev pub or_which : Option Which → Bool → Option Which
or_which (Some w) many = Some w
or_which None true = Some which.Parameters
or_which None false = None

abbrev pub has_many_names : Option Step → Bool
has_many_names step = nat_lt 127 (length (names_of step))

-- of the types that a declarator forms, and of the number of parameters
abbrev pub definition_limit : State → Definition → Option Which
definition_limit s n = or_which (passed_by s.tags (formings n.base n.steps)) (some_many n.steps || has_many_names (own_step n.steps))

abbrev pub parameter_limit : State → OldParameter → Option Which
parameter_limit s n =
    or_which (passed_by s.tags (formings n.base n.steps ++ adjusted (formed n.base n.steps) ∷ [])) (some_many n.steps)

-- ---- what is told

unfoldable pub definition_fault : State → ℕ → Definition → Option Fault
definition_fault s line n = broken_or line (first_of definition_constraints s n) (definition_limit s n)

unfoldable pub parameter_fault : State → ℕ → OldParameter → Option Fault
parameter_fault s line n = broken_or line (first_of parameter_constraints s n) (parameter_limit s n)
