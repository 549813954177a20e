-- What typing an expression, a type or a declarator changes of what is known, one step behind the other: calls of undeclared names,
-- tags, enumerators, and the definitions of structures and unions. A prototype's parameters have a scope of their own.
-- Source: C89 3.1.2.1, 3.3.2.2, 3.5.2.1 to 3.5.2.3, 3.5.4.3.
use Rattle.std.specs.Prelude.{◌≡◌, ℕ, ℤ, false, Option, None, List, IfSome}
use Rattle.c_symbols.specs.Scoping.{symbol_named}
use Rattle.c_meaning.specs.ExprConstraints.{differs_from_int_function}
use Rattle.c_ast.specs.declared.specifier.RecordKind.{RecordKind}
use Rattle.c_ast.specs.declared.specifier.Storage.{Storage}
use Rattle.c_types.specs.CType.{CType}
use Rattle.c_types.specs.Layout.{MemberType}
use Rattle.c_meaning.specs.State.{State, place_here, place_of, entered, left, with_function}
use Rattle.c_meaning.specs.TypeRows.{awaited, completed, enumerated, named, opened, with_enumerator, with_parameter}
use Rattle.c_meaning.specs.Declaring.{alone}
use Rattle.c_tree_names.specs.Names.{IsName}

mutual
  pub data Steps : State → State → Type 0 where
    Stay : {s : State} → Steps s s
    Go : {s t u : State} (first : Steps s t) (second : Steps t u) → Steps s u
    -- a call of an undeclared name declares it, where what it was declared as elsewhere is compatible
    Call : (s : State) (line : ℕ) (name : List ℕ) (is : IsName name) (new : place_of s name ≡ None) (fits : differs_from_int_function s (symbol_named s.links name) ≡ false) → Steps s (with_function s line name)
    -- a tag that is named, that stands alone, whose members come, or whose enumerators come and have come
    Tag : (s : State) (line : ℕ) (tag : List ℕ) (of : CType) → Steps s (named s line tag of).state
    Alone : (s : State) (line : ℕ) (k : RecordKind) (tag : List ℕ) → Steps s (alone s line k tag).state
    Open : (s : State) (line : ℕ) (k : RecordKind) (tag : Option (List ℕ)) → Steps s (opened s line k tag).state
    Await : (s : State) (line : ℕ) (tag : Option (List ℕ)) → Steps s (awaited s line tag)
    Enumerate : (s : State) (line : ℕ) (tag : Option (List ℕ)) → Steps s (enumerated s line tag).state
    -- an enumerator, which the scope doesn't have yet
    Enumerator : (s : State) (line : ℕ) (name : List ℕ) (z : ℤ) (is : IsName name) (new : place_here s name ≡ None) → Steps s (with_enumerator s line name z)
    -- a structure's or union's members
    Complete : (s : State) (k : RecordKind) (number : ℕ) (members : List MemberType) → Steps s (completed s k number members)
    -- a prototype's scope is left
    Prototype : {s t : State} (inside : StepsInside (entered s) t) → Steps s (left s.outer s.inner t)

  -- in a prototype's scope, whose parameters are declared there
  pub data StepsInside : State → State → Type 0 where
    Plain : {s t : State} (steps : Steps s t) → StepsInside s t
    GoInside : {s t u : State} (first : StepsInside s t) (second : StepsInside t u) → StepsInside s u
    Parameter : (s : State) (line place : ℕ) (classes : List Storage) (name : Option (List ℕ)) (of : CType) (is : IfSome name IsName) → StepsInside s (with_parameter s line place classes name of)
