-- Typing as a relation, by rows: each construct is typed where its parts are, in order, and its node breaks no constraint
-- and passes no limit. The states are those before and behind it.
-- Source: C89 3.3, 3.5.2 to 3.5.5.
use Rattle.std.specs.Prelude.{◌≡◌, ℕ, ℤ, pos, ◌+◌, ◌+ℤ◌, Bool, true, false, Option, Some, None, List, [], ◌∷◌, ◌++◌, is_none}
use Rattle.c_ast.specs.declared.specifier.RecordKind.{RecordKind}
use Rattle.c_ast.specs.Trees.{ExprTree, Name, Integer, Character, Text, Enclosed, Index, Call, Member, Postfix, Prefix, SizeofExpr, SizeofType, Cast, Binary, Conditional, Assign, Comma, ExprTrees, NoExprs, Exprs, MaybeExpr, NoExpr, AnExpr, TypeNameTree, TypeNamed, SpecifiersTree, SpecifierTree, SpecifierTrees, NoSpecifiers, Specifiers, MemberTree, Members, MemberTrees, NoMembers, MoreMembers, FieldTree, Field, FieldTrees, NoFields, Fields, EnumeratorTree, Enumerator, EnumeratorTrees, NoEnumerators, Enumerators, DeclaratorTree, Declarator, MaybeDeclarator, NoDeclarator, ADeclarator, CoreTree, Named, Inner, Omitted, SuffixTree, ArraySuffix, Prototype, NameList, NoParameters, SuffixTrees, NoSuffixes, Suffixes, ParameterTree, Parameter, ParameterTrees, NoParameter, Parameters}
use Rattle.c_ast.specs.Trees as tree
use Rattle.c_types.specs.CType.{CType}
use Rattle.c_types.specs.Layout.{MemberType}
use Rattle.c_meaning.specs.CoreTrees.{NoCore, Cores}
use Rattle.c_meaning.specs.State.{State, place_of, entered, left, with_function}
use Rattle.c_meaning.specs.Values.{CoreTrees}
use Rattle.c_meaning.specs.Values as values
use Rattle.c_meaning.specs.Nodes.{Node, Expression, Typing, ExprNode, TypeNode, Part, Step}
use Rattle.c_meaning.specs.Nodes as node
use Rattle.c_meaning.specs.Rows.{row}
use Rattle.c_meaning.specs.TypeRows.{Tagged, specified, opened, number_of, completed, record_type, named, awaited, enumerated, enumeration_type, enumerator_value, with_enumerator, member, formed, pointer_steps, adjusted, none_if_void, with_parameter}
use Rattle.c_meaning.specs.TypeRows as rows
use Rattle.c_meaning.specs.Constraints.{fault_at}
use Rattle.c_meaning.specs.Typing.{Declared, Shaped, declared, shaped, stands_alone, named_type}

-- what it is, with nothing known but this
abbrev pub Is : {T : Type 0} → State → T → State → T → Type 0
Is s t u x = (s ≡ u) × (t ≡ x)

-- the one, and the other behind it
abbrev pub Then : {T U : Type 0} → (State → T → Type 0) → (State → T → State → U → Type 0) → State → U → Type 0
Then {T} first next u y = (s : State) × (x : T) × first s x × next s x u y

-- a node that breaks nothing and passes nothing, and what it makes of its parts
abbrev pub IsAt : {T : Type 0} → State → ℕ → Node → State → T → State → T → Type 0
IsAt s line n behind typed u x = (fault_at s line n ≡ None) × ((behind ≡ u) × (typed ≡ x))

abbrev pub IsExpr : State → ℕ → ExprNode → State → values.CoreTree → Type 0
IsExpr s line n = IsAt s line (Expression n) s (row s line n)

abbrev pub IsTag : State → ℕ → TypeNode → Tagged → State → Part → Type 0
IsTag s line n tagged = IsAt s line (Typing n) tagged.state (node.Whole tagged.of)

abbrev pub IsRecord : State → ℕ → RecordKind → Option (List ℕ) → ℕ → List MemberType → State → Part → Type 0
IsRecord s line k tag number ms = IsAt s line (Typing (node.Record k tag number ms)) (completed s k number ms) (node.Whole (record_type k number))

-- a name that is called may be undeclared: the call declares it
abbrev pub IsCallee : State → ℕ → List ℕ → Bool → (State → values.CoreTree → Type 0) → State → values.CoreTree → Type 0
IsCallee s l x true types = IsAt s l (Expression (node.NewFunction x)) (with_function s l x) (row s l (node.NewFunction x))
IsCallee s l x false types = types

abbrev pub TypesCallee : State → ExprTree → (State → values.CoreTree → Type 0) → State → values.CoreTree → Type 0
TypesCallee s (Name l x) types = IsCallee s l x (is_none (place_of s x)) types
TypesCallee s e types = types

abbrev mutual
  pub Types : State → ExprTree → State → values.CoreTree → Type 0
  Types s (Name l x) = IsExpr s l (node.Name x)
  Types s (Integer l n k) = IsExpr s l (node.Integer n k)
  Types s (Character l z) = IsExpr s l (node.Character z)
  Types s (Text l texts) = IsExpr s l (node.Text texts)
  Types s (Enclosed l e) = Types s e
  Types s (Index l a i) = Then (Types s a) (λ s c. Then (Types s i) (λ s d. IsExpr s l (node.Index c d)))
  Types s (Call l f es) = Then (TypesCallee s f (Types s f)) (λ s c. Then (TypesAll s es) (λ s cs. IsExpr s l (node.Call c cs)))
  Types s (Member l op a x) = Then (Types s a) (λ s c. IsExpr s l (node.Member op c x))
  Types s (Postfix l op a) = Then (Types s a) (λ s c. IsExpr s l (node.Postfix op c))
  Types s (Prefix l op a) = Then (Types s a) (λ s c. IsExpr s l (node.Prefix op c))
  Types s (SizeofExpr l a) = Then (Types s a) (λ s c. IsExpr s l (node.SizeofExpr c))
  Types s (SizeofType l t) = Then (TypesName s t) (λ s of. IsExpr s l (node.SizeofType of))
  Types s (Cast l t a) = Then (TypesName s t) (λ s to. Then (Types s a) (λ s c. IsExpr s l (node.Cast to c)))
  Types s (Binary l op a b) = Then (Types s a) (λ s c. Then (Types s b) (λ s d. IsExpr s l (node.Binary op c d)))
  Types s (Conditional l a b c) = Then (Types s a) (λ s u. Then (Types s b) (λ s v. Then (Types s c) (λ s w. IsExpr s l (node.Conditional u v w))))
  Types s (Assign l op a b) = Then (Types s a) (λ s c. Then (Types s b) (λ s d. IsExpr s l (node.Assign op c d)))
  Types s (Comma l es) = Then (TypesAll s es) (λ s cs. IsExpr s l (node.Comma cs))

  pub TypesAll : State → ExprTrees → State → CoreTrees → Type 0
  TypesAll s NoExprs = Is s NoCore
  TypesAll s (Exprs e es) = Then (Types s e) (λ s c. Then (TypesAll s es) (λ s cs. Is s (Cores c cs)))

  pub TypesMaybe : State → MaybeExpr → State → (Option values.CoreTree) → Type 0
  TypesMaybe s NoExpr = Is s None
  TypesMaybe s (AnExpr e) = Then (Types s e) (λ s c. Is s (Some c))

  -- ---- type names, specifiers

  pub TypesName : State → TypeNameTree → State → CType → Type 0
  TypesName s (TypeNamed l specs d) = Then (TypesSpecifiers s specs) (λ s b. Then (TypesShape s b.of d) (λ s p. Is s p.of))

  -- a declarator that may be left out, over the type of the specifiers
  pub TypesShape : State → CType → MaybeDeclarator → State → Shaped → Type 0
  TypesShape s base NoDeclarator = Is s (shaped None base)
  TypesShape s base (ADeclarator d) = Then (TypesDeclarator s d) (λ s p. IsAt s p.line (Typing (node.Declarator base p.steps)) s (shaped p.name (formed base p.steps)))

  pub TypesSpecifiers : State → SpecifiersTree → State → rows.Specified → Type 0
  TypesSpecifiers s (tree.Specified l list) = Then (TypesParts s list) (λ s ps. IsAt s l (Typing (node.Specifiers ps)) s (specified ps))

  pub TypesParts : State → SpecifierTrees → State → (List Part) → Type 0
  TypesParts s NoSpecifiers = Is s []
  TypesParts s (Specifiers p ps) = Then (TypesPart s p) (λ s q. Then (TypesParts s ps) (λ s qs. Is s (q ∷ qs)))

  pub TypesPart : State → SpecifierTree → State → Part → Type 0
  TypesPart s (tree.Stored l class) = Is s (node.Stored class)
  TypesPart s (tree.Qualified l qualifier) = Is s (node.Qualified qualifier)
  TypesPart s (tree.Basic l word) = Is s (node.Word word)
  TypesPart s (tree.NamedType l x) = Is s (node.Whole (named_type s (place_of s x)))
  TypesPart s (tree.RecordTag l k tag) = IsTag s l (node.RecordTag k tag) (named s l tag (record_type k s.count))
  TypesPart s (tree.EnumTag l tag) = IsTag s l (node.EnumerationTag tag) (named s l tag (enumeration_type s.count))
  TypesPart s (tree.Enum l tag es comma) = Then (TypesEnumerators (awaited s l tag) (pos 0) es) (λ s next. IsTag s l (node.Enumeration tag) (enumerated s l tag))
  TypesPart s (tree.Record l k tag ms) = Then (TypesMembers (opened s l k tag).state [] ms) (λ t members. IsRecord t l k tag (number_of (opened s l k tag).of) members)

  -- the members behind others
  pub TypesMembers : State → List MemberType → MemberTrees → State → (List MemberType) → Type 0
  TypesMembers s before NoMembers = Is s before
  TypesMembers s before (MoreMembers m ms) = Then (TypesMember s before m) (λ s now. TypesMembers s now ms)

  pub TypesMember : State → List MemberType → MemberTree → State → (List MemberType) → Type 0
  TypesMember s before (Members l specs fs) = Then (TypesSpecifiers s specs) (λ s b. TypesFields s before b.of fs)

  pub TypesFields : State → List MemberType → CType → FieldTrees → State → (List MemberType) → Type 0
  TypesFields s before base NoFields = Is s before
  TypesFields s before base (Fields f fs) = Then (TypesField s before base f) (λ s m. TypesFields s (before ++ m ∷ []) base fs)

  pub TypesField : State → List MemberType → CType → FieldTree → State → MemberType → Type 0
  TypesField s before base (Field l d width) = Then (TypesShape s base d) (λ s p. Then (TypesMaybe s width) (λ s c. IsAt s l (Typing (node.Field before p.name p.of c)) s (member p.name p.of c)))

  -- the value that the next enumerator has, where none is written
  pub TypesEnumerators : State → ℤ → EnumeratorTrees → State → ℤ → Type 0
  TypesEnumerators s next NoEnumerators = Is s next
  TypesEnumerators s next (Enumerators e es) = Then (TypesEnumerator s next e) (λ s z. TypesEnumerators s (z +ℤ pos 1) es)

  pub TypesEnumerator : State → ℤ → EnumeratorTree → State → ℤ → Type 0
  TypesEnumerator s next (Enumerator l x value) = Then (TypesMaybe s value) (λ s c. IsAt s l (Typing (node.Enumerator x c next)) (with_enumerator s l x (enumerator_value c next)) (enumerator_value c next))

  -- ---- declarators

  pub TypesDeclarator : State → DeclaratorTree → State → Declared → Type 0
  TypesDeclarator s (Declarator l pointers core suffixes) = Then (TypesCore s core) (λ s inner. Then (TypesSuffixes s suffixes) (λ s outer. Is s (declared l (pointer_steps pointers) inner outer)))

  pub TypesCore : State → CoreTree → State → Declared → Type 0
  TypesCore s (Named x) = Is s (record { line = 0; name = Some x; steps = [] })
  TypesCore s (Inner d) = TypesDeclarator s d
  TypesCore s Omitted = Is s (record { line = 0; name = None; steps = [] })

  pub TypesSuffixes : State → SuffixTrees → State → (List Step) → Type 0
  TypesSuffixes s NoSuffixes = Is s []
  TypesSuffixes s (Suffixes x xs) = Then (TypesSuffix s x) (λ s p. Then (TypesSuffixes s xs) (λ s ps. Is s (p ∷ ps)))

  -- a prototype's parameters have a scope of their own
  pub TypesSuffix : State → SuffixTree → State → Step → Type 0
  TypesSuffix s (ArraySuffix l size) = Then (TypesMaybe s size) (λ s c. Is s (node.ToArray c))
  TypesSuffix s (NameList l names) = Is s (node.ToNamed names)
  TypesSuffix s (NoParameters l) = Is s node.ToOpen
  TypesSuffix s (Prototype l ps more) = Then (TypesParameters (entered s) (stands_alone ps more) 0 ps) (λ t qs. Is (left s.outer s.inner t) (node.ToFunction (none_if_void (stands_alone ps more) qs) more t.inner))

  pub TypesParameters : State → Bool → ℕ → ParameterTrees → State → (List node.NamedParameter) → Type 0
  TypesParameters s alone index NoParameter = Is s []
  TypesParameters s alone index (Parameters p ps) = Then (TypesParameter s alone index p) (λ s q. Then (TypesParameters s alone (index + 1) ps) (λ s qs. Is s (q ∷ qs)))

  pub TypesParameter : State → Bool → ℕ → ParameterTree → State → node.NamedParameter → Type 0
  TypesParameter s alone index (Parameter l specs d) = Then (TypesSpecifiers s specs) (λ s b. Then (TypesParameterShape s b.of d) (λ s p. IsAt s l (Typing (node.Parameter b.classes p.name p.of alone)) (with_parameter s l index b.classes p.name (adjusted p.of)) (record { name = p.name; of = adjusted p.of })))

  pub TypesParameterShape : State → CType → MaybeDeclarator → State → Shaped → Type 0
  TypesParameterShape s base NoDeclarator = Is s (shaped None base)
  TypesParameterShape s base (ADeclarator d) = Then (TypesDeclarator s d) (λ s p. IsAt s p.line (Typing (node.ParameterDeclarator p.name base p.steps)) s (shaped p.name (formed base p.steps)))

-- the type that specifiers and a declarator declare
abbrev pub TypesDeclared : State → SpecifiersTree → DeclaratorTree → State → CType → Type 0
TypesDeclared s specs d = Then (TypesSpecifiers s specs) (λ s b. Then (TypesShape s b.of (ADeclarator d)) (λ s p. Is s p.of))
