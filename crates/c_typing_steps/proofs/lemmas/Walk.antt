-- What is known behind each part of an expression or a type comes by steps from what was known before it.
use Rattle.std.proofs.Common.{◌≡◌, ℕ, ◌+◌, ◌+ℤ◌, Bool, false, List, [], ◌∷◌, ◌++◌, refl, subst}
use Rattle.std.specs.Prelude.{Option, Some, None, IfSome, ℤ, pos, is_none, is_some}
use Rattle.c_ast.specs.Trees.{ExprTree, Name, Integer, Character, Text, Enclosed, Index, Member, Postfix, Prefix, SizeofExpr, SizeofType, Cast, Binary, Conditional, Assign, Comma, ExprTrees, NoExprs, Exprs, MaybeExpr, NoExpr, AnExpr, TypeNameTree, TypeNamed, SpecifiersTree, SpecifierTree, SpecifierTrees, NoSpecifiers, Specifiers, MemberTree, Members, MemberTrees, NoMembers, MoreMembers, FieldTree, Field, FieldTrees, NoFields, Fields, EnumeratorTree, Enumerator, EnumeratorTrees, NoEnumerators, Enumerators, DeclaratorTree, Declarator, MaybeDeclarator, NoDeclarator, ADeclarator, CoreTree, Named, Inner, Omitted, SuffixTree, ArraySuffix, Prototype, NameList, NoParameters, SuffixTrees, NoSuffixes, Suffixes, ParameterTree, Parameter, ParameterTrees, NoParameter, Parameters}
use Rattle.c_ast.specs.Trees as tree
use Rattle.c_symbols.specs.Scoping.{symbol_named}
use Rattle.c_types.specs.CType.{CType}
use Rattle.c_types.specs.Layout.{MemberType}
use Rattle.c_meaning.specs.Constraints.{fault_at}
use Rattle.c_meaning.specs.ExprConstraints.{differs_from_int_function}
use Rattle.c_meaning.specs.Nodes.{Expression, NamedParameter, Part, Step, Typing}
use Rattle.c_meaning.specs.Nodes as node
use Rattle.c_meaning.specs.State.{State, entered, place_here, place_of}
use Rattle.c_meaning.specs.TypeRows.{adjusted, awaited, enumeration_type, enumerator_value, number_of, opened, record_type}
use Rattle.c_meaning.specs.TypeRows as rows
use Rattle.c_meaning.specs.Typing.{Declared, Shaped, stands_alone}
use Rattle.c_meaning.specs.TypingRelation.{IsCallee, Types, TypesAll, TypesCallee, TypesCore, TypesDeclarator, TypesEnumerator, TypesEnumerators, TypesField, TypesFields, TypesMaybe, TypesMember, TypesMembers, TypesName, TypesParameter, TypesParameters, TypesParameterShape, TypesPart, TypesParts, TypesShape, TypesSpecifiers, TypesSuffix, TypesSuffixes}
use Rattle.c_meaning.specs.Values.{CoreTrees}
use Rattle.c_meaning.specs.Values as values
use Rattle.c_fits.proofs.lemmas.Constraints.{unbroken}
use Rattle.c_tree_names.specs.Names.{AllEnumeratorNames, AllFieldNames, AllMemberNames, AllNames, AllParameterNames, AllSpecifierNames, AllSuffixNames, CoreNames, DeclaratorNames, EnumeratorNames, ExprNames, FieldNames, IsName, MaybeDeclaratorNames, MaybeNames, MemberNames, ParameterNames, SpecifierNames, SpecifiersNames, SuffixNames, TypeNames}
use Rattle.c_typing_steps.specs.Steps.{Steps, Stay, Go, Call, Tag, Open, Await, Enumerate, Complete, Prototype, StepsInside, Plain, GoInside}
use Rattle.c_typing_steps.specs.Steps as step

pub stay : {s u : State} → s ≡ u → Steps s u
stay {s} {u} e = subst (Steps s) e Stay

-- the step to a state, which is this one
pub to : {s t u : State} → Steps s t → t ≡ u → Steps s u
to {s} {t} {u} f e = subst (Steps s) e f

inside : {s t u : State} → StepsInside s t → t ≡ u → StepsInside s u
inside {s} {t} {u} f e = subst (StepsInside s) e f

-- ---- names

-- an enumerator's name isn't in the scope yet
not_taken : (s : State) (line : ℕ) (x : List ℕ) (c : Option values.CoreTree) (next : ℤ) → fault_at s line (Typing (node.Enumerator x c next)) ≡ None → place_here s x ≡ None
not_taken s line x c next h = by (place_here s x) (unbroken s line (Typing (node.Enumerator x c next)) h 5)
  where
    by : (o : Option ℕ) → is_some o ≡ false → o ≡ None
    by None e = refl
    by (Some id) e = absurd (let never : ⊥ = cc in never)

-- what is called without a declaration fits what its name was declared as elsewhere
pub link_fits : (s : State) (line : ℕ) (x : List ℕ) → fault_at s line (Expression (node.NewFunction x)) ≡ None → differs_from_int_function s (symbol_named s.links x) ≡ false
link_fits s line x h = unbroken s line (Expression (node.NewFunction x)) h 6

-- a declarator's name is one of the tree's
abbrev HasName : Option (List ℕ) → Type 0
HasName name = IfSome name IsName

mutual
  declarator_name : (s : State) (d : DeclaratorTree) (u : State) (p : Declared) → DeclaratorNames d → TypesDeclarator s d u p → HasName p.name
  declarator_name s (Declarator l pointers core xs) u p n h = subst (λ (p : Declared). HasName p.name) h.3.3.1 (core_name s core h.0 h.1 n.0 h.2)

  core_name : (s : State) (c : CoreTree) (u : State) (p : Declared) → CoreNames c → TypesCore s c u p → HasName p.name
  core_name s (Named x) u p n h = subst (λ (p : Declared). HasName p.name) h.1 n
  core_name s (Inner d) u p n h = declarator_name s d u p n h
  core_name s Omitted u p n h = subst (λ (p : Declared). HasName p.name) h.1 tt

parameter_name : (s : State) (base : CType) (d : MaybeDeclarator) (u : State) (p : Shaped) → MaybeDeclaratorNames d → TypesParameterShape s base d u p → HasName p.name
parameter_name s base NoDeclarator u p n h = subst (λ (p : Shaped). HasName p.name) h.1 tt
parameter_name s base (ADeclarator d) u p n h = subst (λ (p : Shaped). HasName p.name) h.3.1.1 (declarator_name s d h.0 h.1 n h.2)

-- ---- the walk

-- what is called may be declared by its call
named_callee : (s : State) (l : ℕ) (x : List ℕ) (types : State → values.CoreTree → Type 0) (u : State) (c : values.CoreTree) → IsName x → (types u c → Steps s u) → IsCallee s l x (is_none (place_of s x)) types u c → Steps s u
named_callee s l x types u c n g h = by (place_of s x) refl h
  where
    by : (o : Option ℕ) → place_of s x ≡ o → IsCallee s l x (is_none o) types u c → Steps s u
    by None e h = to (Call s l x n e (link_fits s l x h.0)) h.1.0
    by (Some id) e h = g h

pub callee_steps : (s : State) (f : ExprTree) (u : State) (c : values.CoreTree) → ExprNames f → (Types s f u c → Steps s u) → TypesCallee s f (Types s f) u c → Steps s u
callee_steps s (Name l x) u c n g h = named_callee s l x (Types s (Name l x)) u c n g h
callee_steps s f u c n g h = g h

mutual
  pub expr_steps : (s : State) (e : ExprTree) (u : State) (c : values.CoreTree) → ExprNames e → Types s e u c → Steps s u
  expr_steps s (Name l x) u c n h = stay h.1.0
  expr_steps s (Integer l v k) u c n h = stay h.1.0
  expr_steps s (Character l z) u c n h = stay h.1.0
  expr_steps s (Text l texts) u c n h = stay h.1.0
  expr_steps s (Enclosed l e) u c n h = expr_steps s e u c n h
  expr_steps s (Index l a i) u c n h = Go (expr_steps s a h.0 h.1 n.0 h.2) (to (expr_steps h.0 i h.3.0 h.3.1 n.1 h.3.2) h.3.3.1.0)
  expr_steps s (tree.Call l f es) u c n h = Go (callee_steps s f h.0 h.1 n.0 (expr_steps s f h.0 h.1 n.0) h.2) (to (all_steps h.0 es h.3.0 h.3.1 n.1 h.3.2) h.3.3.1.0)
  expr_steps s (Member l op a x) u c n h = to (expr_steps s a h.0 h.1 n h.2) h.3.1.0
  expr_steps s (Postfix l op a) u c n h = to (expr_steps s a h.0 h.1 n h.2) h.3.1.0
  expr_steps s (Prefix l op a) u c n h = to (expr_steps s a h.0 h.1 n h.2) h.3.1.0
  expr_steps s (SizeofExpr l a) u c n h = to (expr_steps s a h.0 h.1 n h.2) h.3.1.0
  expr_steps s (SizeofType l t) u c n h = to (type_steps s t h.0 h.1 n h.2) h.3.1.0
  expr_steps s (Cast l t a) u c n h = Go (type_steps s t h.0 h.1 n.0 h.2) (to (expr_steps h.0 a h.3.0 h.3.1 n.1 h.3.2) h.3.3.1.0)
  expr_steps s (Binary l op a b) u c n h = Go (expr_steps s a h.0 h.1 n.0 h.2) (to (expr_steps h.0 b h.3.0 h.3.1 n.1 h.3.2) h.3.3.1.0)
  expr_steps s (Conditional l a b d) u c n h =
      Go (expr_steps s a h.0 h.1 n.0 h.2) (Go (expr_steps h.0 b h.3.0 h.3.1 n.1.0 h.3.2) (to (expr_steps h.3.0 d h.3.3.0 h.3.3.1 n.1.1 h.3.3.2) h.3.3.3.1.0))
  expr_steps s (Assign l op a b) u c n h = Go (expr_steps s a h.0 h.1 n.0 h.2) (to (expr_steps h.0 b h.3.0 h.3.1 n.1 h.3.2) h.3.3.1.0)
  expr_steps s (Comma l es) u c n h = to (all_steps s es h.0 h.1 n h.2) h.3.1.0

  pub all_steps : (s : State) (es : ExprTrees) (u : State) (cs : CoreTrees) → AllNames es → TypesAll s es u cs → Steps s u
  all_steps s NoExprs u cs n h = stay h.0
  all_steps s (Exprs e es) u cs n h = Go (expr_steps s e h.0 h.1 n.0 h.2) (to (all_steps h.0 es h.3.0 h.3.1 n.1 h.3.2) h.3.3.0)

  pub maybe_steps : (s : State) (e : MaybeExpr) (u : State) (c : Option values.CoreTree) → MaybeNames e → TypesMaybe s e u c → Steps s u
  maybe_steps s NoExpr u c n h = stay h.0
  maybe_steps s (AnExpr e) u c n h = to (expr_steps s e h.0 h.1 n h.2) h.3.0

  -- ---- type names, specifiers

  pub type_steps : (s : State) (t : TypeNameTree) (u : State) (of : CType) → TypeNames t → TypesName s t u of → Steps s u
  type_steps s (TypeNamed l specs d) u of n h = Go (specifiers_steps s specs h.0 h.1 n.0 h.2) (to (shape_steps h.0 h.1.of d h.3.0 h.3.1 n.1 h.3.2) h.3.3.0)

  pub shape_steps : (s : State) (base : CType) (d : MaybeDeclarator) (u : State) (p : Shaped) → MaybeDeclaratorNames d → TypesShape s base d u p → Steps s u
  shape_steps s base NoDeclarator u p n h = stay h.0
  shape_steps s base (ADeclarator d) u p n h = to (declarator_steps s d h.0 h.1 n h.2) h.3.1.0

  pub specifiers_steps : (s : State) (specs : SpecifiersTree) (u : State) (b : rows.Specified) → SpecifiersNames specs → TypesSpecifiers s specs u b → Steps s u
  specifiers_steps s (tree.Specified l list) u b n h = to (parts_steps s list h.0 h.1 n h.2) h.3.1.0

  parts_steps : (s : State) (ps : SpecifierTrees) (u : State) (qs : List Part) → AllSpecifierNames ps → TypesParts s ps u qs → Steps s u
  parts_steps s NoSpecifiers u qs n h = stay h.0
  parts_steps s (Specifiers p ps) u qs n h = Go (part_steps s p h.0 h.1 n.0 h.2) (to (parts_steps h.0 ps h.3.0 h.3.1 n.1 h.3.2) h.3.3.0)

  part_steps : (s : State) (p : SpecifierTree) (u : State) (q : Part) → SpecifierNames p → TypesPart s p u q → Steps s u
  part_steps s (tree.Stored l class) u q n h = stay h.0
  part_steps s (tree.Qualified l qualifier) u q n h = stay h.0
  part_steps s (tree.Basic l word) u q n h = stay h.0
  part_steps s (tree.NamedType l x) u q n h = stay h.0
  part_steps s (tree.RecordTag l k tag) u q n h = to (Tag s l tag (record_type k s.count)) h.1.0
  part_steps s (tree.EnumTag l tag) u q n h = to (Tag s l tag (enumeration_type s.count)) h.1.0
  part_steps s (tree.Enum l tag es comma) u q n h =
      Go (Await s l tag) (Go (enumerators_steps (awaited s l tag) (pos 0) es h.0 h.1 n h.2) (to (Enumerate h.0 l tag) h.3.1.0))
  part_steps s (tree.Record l k tag ms) u q n h =
      Go (Open s l k tag) (Go (members_steps (opened s l k tag).state [] ms h.0 h.1 n h.2) (to (Complete h.0 k (number_of (opened s l k tag).of) h.1) h.3.1.0))

  -- the members behind others
  members_steps : (s : State) (before : List MemberType) (ms : MemberTrees) (u : State) (now : List MemberType) → AllMemberNames ms → TypesMembers s before ms u now → Steps s u
  members_steps s before NoMembers u now n h = stay h.0
  members_steps s before (MoreMembers m ms) u now n h = Go (member_steps s before m h.0 h.1 n.0 h.2) (members_steps h.0 h.1 ms u now n.1 h.3)

  member_steps : (s : State) (before : List MemberType) (m : MemberTree) (u : State) (now : List MemberType) → MemberNames m → TypesMember s before m u now → Steps s u
  member_steps s before (Members l specs fs) u now n h = Go (specifiers_steps s specs h.0 h.1 n.0 h.2) (fields_steps h.0 before h.1.of fs u now n.1 h.3)

  fields_steps : (s : State) (before : List MemberType) (base : CType) (fs : FieldTrees) (u : State) (now : List MemberType) → AllFieldNames fs → TypesFields s before base fs u now → Steps s u
  fields_steps s before base NoFields u now n h = stay h.0
  fields_steps s before base (Fields f fs) u now n h = Go (field_steps s before base f h.0 h.1 n.0 h.2) (fields_steps h.0 (before ++ h.1 ∷ []) base fs u now n.1 h.3)

  field_steps : (s : State) (before : List MemberType) (base : CType) (f : FieldTree) (u : State) (m : MemberType) → FieldNames f → TypesField s before base f u m → Steps s u
  field_steps s before base (Field l d width) u m n h = Go (shape_steps s base d h.0 h.1 n.0 h.2) (to (maybe_steps h.0 width h.3.0 h.3.1 n.1 h.3.2) h.3.3.1.0)

  -- the value that the next enumerator has, where none is written
  enumerators_steps : (s : State) (next : ℤ) (es : EnumeratorTrees) (u : State) (z : ℤ) → AllEnumeratorNames es → TypesEnumerators s next es u z → Steps s u
  enumerators_steps s next NoEnumerators u z n h = stay h.0
  enumerators_steps s next (Enumerators e es) u z n h = Go (enumerator_steps s next e h.0 h.1 n.0 h.2) (enumerators_steps h.0 (h.1 +ℤ pos 1) es u z n.1 h.3)

  enumerator_steps : (s : State) (next : ℤ) (e : EnumeratorTree) (u : State) (z : ℤ) → EnumeratorNames e → TypesEnumerator s next e u z → Steps s u
  enumerator_steps s next (Enumerator l x value) u z n h =
      Go (maybe_steps s value h.0 h.1 n.1 h.2) (to (step.Enumerator h.0 l x (enumerator_value h.1 next) n.0 (not_taken h.0 l x h.1 next h.3.0)) h.3.1.0)

  -- ---- declarators

  pub declarator_steps : (s : State) (d : DeclaratorTree) (u : State) (p : Declared) → DeclaratorNames d → TypesDeclarator s d u p → Steps s u
  declarator_steps s (Declarator l pointers core suffixes) u p n h = Go (core_steps s core h.0 h.1 n.0 h.2) (to (suffixes_steps h.0 suffixes h.3.0 h.3.1 n.1 h.3.2) h.3.3.0)

  pub core_steps : (s : State) (c : CoreTree) (u : State) (p : Declared) → CoreNames c → TypesCore s c u p → Steps s u
  core_steps s (Named x) u p n h = stay h.0
  core_steps s (Inner d) u p n h = declarator_steps s d u p n h
  core_steps s Omitted u p n h = stay h.0

  pub suffixes_steps : (s : State) (xs : SuffixTrees) (u : State) (ps : List Step) → AllSuffixNames xs → TypesSuffixes s xs u ps → Steps s u
  suffixes_steps s NoSuffixes u ps n h = stay h.0
  suffixes_steps s (Suffixes x xs) u ps n h = Go (suffix_steps s x h.0 h.1 n.0 h.2) (to (suffixes_steps h.0 xs h.3.0 h.3.1 n.1 h.3.2) h.3.3.0)

  -- a prototype's parameters have a scope of their own
  pub suffix_steps : (s : State) (x : SuffixTree) (u : State) (p : Step) → SuffixNames x → TypesSuffix s x u p → Steps s u
  suffix_steps s (ArraySuffix l size) u p n h = to (maybe_steps s size h.0 h.1 n h.2) h.3.0
  suffix_steps s (NameList l names) u p n h = stay h.0
  suffix_steps s (NoParameters l) u p n h = stay h.0
  suffix_steps s (Prototype l ps more) u p n h = to (Prototype (parameters_steps (entered s) (stands_alone ps more) 0 ps h.0 h.1 n h.2)) h.3.0

  pub parameters_steps : (s : State) (alone : Bool) (index : ℕ) (ps : ParameterTrees) (u : State) (qs : List NamedParameter) → AllParameterNames ps → TypesParameters s alone index ps u qs → StepsInside s u
  parameters_steps s alone index NoParameter u qs n h = Plain (stay h.0)
  parameters_steps s alone index (Parameters p ps) u qs n h = GoInside (parameter_steps s alone index p h.0 h.1 n.0 h.2) (inside (parameters_steps h.0 alone (index + 1) ps h.3.0 h.3.1 n.1 h.3.2) h.3.3.0)

  parameter_steps : (s : State) (alone : Bool) (index : ℕ) (p : ParameterTree) (u : State) (q : NamedParameter) → ParameterNames p → TypesParameter s alone index p u q → StepsInside s u
  parameter_steps s alone index (Parameter l specs d) u q n h =
      GoInside (Plain (Go (specifiers_steps s specs h.0 h.1 n.0 h.2) (parameter_shape_steps h.0 h.1.of d h.3.0 h.3.1 n.1 h.3.2)))
      (inside (step.Parameter h.3.0 l index h.1.classes h.3.1.name (adjusted h.3.1.of) (parameter_name h.0 h.1.of d h.3.0 h.3.1 n.1 h.3.2)) h.3.3.1.0)

  parameter_shape_steps : (s : State) (base : CType) (d : MaybeDeclarator) (u : State) (p : Shaped) → MaybeDeclaratorNames d → TypesParameterShape s base d u p → Steps s u
  parameter_shape_steps s base NoDeclarator u p n h = stay h.0
  parameter_shape_steps s base (ADeclarator d) u p n h = to (declarator_steps s d h.0 h.1 n h.2) h.3.1.0
