-- Typing: the parts of a construct in order, and then the construct.
-- Source: C89 3.3, 3.5.2 to 3.5.5.
use Rattle.std.specs.Prelude.{ℕ, ℤ, pos, ◌+◌, ◌+ℤ◌, Bool, true, false, not, Option, Some, None, List, [], ◌∷◌, ◌++◌, reverse, is_none}
use Rattle.c_ast.specs.declared.specifier.RecordKind.{RecordKind}
use Rattle.c_ast.specs.Trees.{ExprTree, Name, Integer, Character, Text, Enclosed, Index, Call, Member, Postfix, Prefix, SizeofExpr, SizeofType, Cast, Binary, Conditional, Assign, Comma, ExprTrees, NoExprs, Exprs, MaybeExpr, NoExpr, AnExpr, TypeNameTree, TypeNamed, SpecifiersTree, SpecifierTree, SpecifierTrees, NoSpecifiers, Specifiers, MemberTree, Members, MemberTrees, NoMembers, MoreMembers, FieldTree, Field, FieldTrees, NoFields, Fields, EnumeratorTree, Enumerator, EnumeratorTrees, NoEnumerators, Enumerators, DeclaratorTree, Declarator, MaybeDeclarator, NoDeclarator, ADeclarator, CoreTree, Named, Inner, Omitted, SuffixTree, ArraySuffix, Prototype, NameList, NoParameters, SuffixTrees, NoSuffixes, Suffixes, ParameterTree, Parameter, ParameterTrees, NoParameter, Parameters}
use Rattle.c_ast.specs.Trees as tree
use Rattle.c_types.specs.CType.{CType, basic, Int}
use Rattle.c_types.specs.Layout.{MemberType}
use Rattle.c_meaning.specs.CoreTrees.{NoCore, Cores}
use Rattle.c_meaning.specs.State.{State, place_of, known_at, entered, left, with_function}
use Rattle.c_meaning.specs.Values.{CoreTrees}
use Rattle.c_meaning.specs.Values as values
use Rattle.c_meaning.specs.Nodes.{Node, Expression, Typing, ExprNode, TypeNode, Part, Step}
use Rattle.c_meaning.specs.Nodes as node
use Rattle.c_meaning.specs.Rows.{row}
use Rattle.c_meaning.specs.TypeRows.{Tagged, specified, opened, number_of, completed, record_type, named, awaited, enumerated, enumeration_type, enumerator_value, with_enumerator, member, formed, pointer_steps, adjusted, none_if_void, with_parameter}
use Rattle.c_meaning.specs.TypeRows as rows
use Rattle.c_meaning.specs.Constraints.{Fault, fault_at}

-- what comes of a part: what it is, with what is known behind it; or the first fault
pub data Outcome (T : Type 0) : Type 0 where
  Fine : (s : State) (typed : T) → Outcome T
  Bad : (f : Fault) → Outcome T

-- the one, and where it is fine the other behind it
abbrev pub then_do : {T U : Type 0} → Outcome T → (State → T → Outcome U) → Outcome U
then_do (Fine s t) next = next s t
then_do (Bad f) next = Bad f

abbrev pub unless : {T : Type 0} → Option Fault → State → T → Outcome T
unless (Some f) s t = Bad f
unless None s t = Fine s t

-- a node whose parts are typed: its fault, or what it makes of them, with what is known behind it
abbrev pub at : {T : Type 0} → State → ℕ → Node → State → T → Outcome T
at s line n behind typed = unless (fault_at s line n) behind typed

-- an expression's node
abbrev pub at_expr : State → ℕ → ExprNode → Outcome values.CoreTree
at_expr s line n = at s line (Expression n) s (row s line n)

-- a name, and the steps from the type of the specifiers to its type
pub record Declared : Type 0 where
  pub line : ℕ
  pub name : Option (List ℕ)
  pub steps : List Step

-- a name, and its type
pub record Shaped : Type 0 where
  pub name : Option (List ℕ)
  pub of : CType

abbrev pub declared : ℕ → List Step → Declared → List Step → Declared
declared line pointers inner suffixes = record { line = line; name = inner.name; steps = pointers ++ reverse suffixes ++ inner.steps }

abbrev pub shaped : Option (List ℕ) → CType → Shaped
shaped name of = record { name = name; of = of }

-- a prototype's only parameter stands alone
abbrev pub stands_alone : ParameterTrees → Bool → Bool
stands_alone (Parameters p NoParameter) more = not more
stands_alone ps more = false

-- the type that a typedef name names
abbrev pub named_type : State → Option ℕ → CType
named_type s (Some id) = (known_at s id).of
named_type s None = basic Int

-- a name that is called may be undeclared: the call declares it
abbrev pub callee_named : State → ℕ → List ℕ → Bool → Outcome values.CoreTree → Outcome values.CoreTree
callee_named s l x true typed = at s l (Expression (node.NewFunction x)) (with_function s l x) (row s l (node.NewFunction x))
callee_named s l x false typed = typed

-- what is called, where it is this without its being called
abbrev pub callee : State → ExprTree → Outcome values.CoreTree → Outcome values.CoreTree
callee s (Name l x) typed = callee_named s l x (is_none (place_of s x)) typed
callee s e typed = typed

-- what a tag names, at its node
abbrev pub at_tag : State → ℕ → TypeNode → Tagged → Outcome Part
at_tag s line n tagged = at s line (Typing n) tagged.state (node.Whole tagged.of)

-- a structure or union, with its members
abbrev pub at_record : State → ℕ → RecordKind → Option (List ℕ) → ℕ → List MemberType → Outcome Part
at_record s line k tag number ms =
    at s line (Typing (node.Record k tag number ms)) (completed s k number ms) (node.Whole (record_type k number))

abbrev mutual
  pub typed : State → ExprTree → Outcome values.CoreTree
  typed s (Name l x) = at_expr s l (node.Name x)
  typed s (Integer l n k) = at_expr s l (node.Integer n k)
  typed s (Character l z) = at_expr s l (node.Character z)
  typed s (Text l texts) = at_expr s l (node.Text texts)
  typed s (Enclosed l e) = typed s e
  typed s (Index l a i) = then_do (typed s a) (λ s c. then_do (typed s i) (λ s d. at_expr s l (node.Index c d)))
  typed s (Call l f es) = then_do (callee s f (typed s f)) (λ s c. then_do (all_typed s es) (λ s cs. at_expr s l (node.Call c cs)))
  typed s (Member l op a x) = then_do (typed s a) (λ s c. at_expr s l (node.Member op c x))
  typed s (Postfix l op a) = then_do (typed s a) (λ s c. at_expr s l (node.Postfix op c))
  typed s (Prefix l op a) = then_do (typed s a) (λ s c. at_expr s l (node.Prefix op c))
  typed s (SizeofExpr l a) = then_do (typed s a) (λ s c. at_expr s l (node.SizeofExpr c))
  typed s (SizeofType l t) = then_do (typed_name s t) (λ s of. at_expr s l (node.SizeofType of))
  typed s (Cast l t a) = then_do (typed_name s t) (λ s to. then_do (typed s a) (λ s c. at_expr s l (node.Cast to c)))
  typed s (Binary l op a b) = then_do (typed s a) (λ s c. then_do (typed s b) (λ s d. at_expr s l (node.Binary op c d)))
  typed s (Conditional l a b c) = then_do (typed s a) (λ s u. then_do (typed s b) (λ s v. then_do (typed s c) (λ s w. at_expr s l (node.Conditional u v w))))
  typed s (Assign l op a b) = then_do (typed s a) (λ s c. then_do (typed s b) (λ s d. at_expr s l (node.Assign op c d)))
  typed s (Comma l es) = then_do (all_typed s es) (λ s cs. at_expr s l (node.Comma cs))

  pub all_typed : State → ExprTrees → Outcome CoreTrees
  all_typed s NoExprs = Fine s NoCore
  all_typed s (Exprs e es) = then_do (typed s e) (λ s c. then_do (all_typed s es) (λ s cs. Fine s (Cores c cs)))

  pub maybe_typed : State → MaybeExpr → Outcome (Option values.CoreTree)
  maybe_typed s NoExpr = Fine s None
  maybe_typed s (AnExpr e) = then_do (typed s e) (λ s c. Fine s (Some c))

  -- ---- type names, specifiers

  pub typed_name : State → TypeNameTree → Outcome CType
  typed_name s (TypeNamed l specs d) = then_do (typed_specifiers s specs) (λ s b. then_do (typed_shape s b.of d) (λ s p. Fine s p.of))

  -- a declarator that may be left out, over the type of the specifiers
  pub typed_shape : State → CType → MaybeDeclarator → Outcome Shaped
  typed_shape s base NoDeclarator = Fine s (shaped None base)
  typed_shape s base (ADeclarator d) = then_do (typed_declarator s d) (λ s p. at s p.line (Typing (node.Declarator base p.steps)) s (shaped p.name (formed base p.steps)))

  pub typed_specifiers : State → SpecifiersTree → Outcome rows.Specified
  typed_specifiers s (tree.Specified l list) = then_do (typed_parts s list) (λ s ps. at s l (Typing (node.Specifiers ps)) s (specified ps))

  pub typed_parts : State → SpecifierTrees → Outcome (List Part)
  typed_parts s NoSpecifiers = Fine s []
  typed_parts s (Specifiers p ps) = then_do (typed_part s p) (λ s q. then_do (typed_parts s ps) (λ s qs. Fine s (q ∷ qs)))

  pub typed_part : State → SpecifierTree → Outcome Part
  typed_part s (tree.Stored l class) = Fine s (node.Stored class)
  typed_part s (tree.Qualified l qualifier) = Fine s (node.Qualified qualifier)
  typed_part s (tree.Basic l word) = Fine s (node.Word word)
  typed_part s (tree.NamedType l x) = Fine s (node.Whole (named_type s (place_of s x)))
  typed_part s (tree.RecordTag l k tag) = at_tag s l (node.RecordTag k tag) (named s l tag (record_type k s.count))
  typed_part s (tree.EnumTag l tag) = at_tag s l (node.EnumerationTag tag) (named s l tag (enumeration_type s.count))
  typed_part s (tree.Enum l tag es comma) = then_do (typed_enumerators (awaited s l tag) (pos 0) es) (λ s next. at_tag s l (node.Enumeration tag) (enumerated s l tag))
  typed_part s (tree.Record l k tag ms) = then_do (typed_members (opened s l k tag).state [] ms) (λ t members. at_record t l k tag (number_of (opened s l k tag).of) members)

  -- the members behind others
  pub typed_members : State → List MemberType → MemberTrees → Outcome (List MemberType)
  typed_members s before NoMembers = Fine s before
  typed_members s before (MoreMembers m ms) = then_do (typed_member s before m) (λ s now. typed_members s now ms)

  pub typed_member : State → List MemberType → MemberTree → Outcome (List MemberType)
  typed_member s before (Members l specs fs) = then_do (typed_specifiers s specs) (λ s b. typed_fields s before b.of fs)

  pub typed_fields : State → List MemberType → CType → FieldTrees → Outcome (List MemberType)
  typed_fields s before base NoFields = Fine s before
  typed_fields s before base (Fields f fs) = then_do (typed_field s before base f) (λ s m. typed_fields s (before ++ m ∷ []) base fs)

  pub typed_field : State → List MemberType → CType → FieldTree → Outcome MemberType
  typed_field s before base (Field l d width) = then_do (typed_shape s base d) (λ s p. then_do (maybe_typed s width) (λ s c. at s l (Typing (node.Field before p.name p.of c)) s (member p.name p.of c)))

  -- the value that the next enumerator has, where none is written
  pub typed_enumerators : State → ℤ → EnumeratorTrees → Outcome ℤ
  typed_enumerators s next NoEnumerators = Fine s next
  typed_enumerators s next (Enumerators e es) = then_do (typed_enumerator s next e) (λ s z. typed_enumerators s (z +ℤ pos 1) es)

  pub typed_enumerator : State → ℤ → EnumeratorTree → Outcome ℤ
  typed_enumerator s next (Enumerator l x value) = then_do (maybe_typed s value) (λ s c. at s l (Typing (node.Enumerator x c next)) (with_enumerator s l x (enumerator_value c next)) (enumerator_value c next))

  -- ---- declarators

  pub typed_declarator : State → DeclaratorTree → Outcome Declared
  typed_declarator s (Declarator l pointers core suffixes) = then_do (typed_core s core) (λ s inner. then_do (typed_suffixes s suffixes) (λ s outer. Fine s (declared l (pointer_steps pointers) inner outer)))

  pub typed_core : State → CoreTree → Outcome Declared
  typed_core s (Named x) = Fine s (record { line = 0; name = Some x; steps = [] })
  typed_core s (Inner d) = typed_declarator s d
  typed_core s Omitted = Fine s (record { line = 0; name = None; steps = [] })

  pub typed_suffixes : State → SuffixTrees → Outcome (List Step)
  typed_suffixes s NoSuffixes = Fine s []
  typed_suffixes s (Suffixes x xs) = then_do (typed_suffix s x) (λ s p. then_do (typed_suffixes s xs) (λ s ps. Fine s (p ∷ ps)))

  -- a prototype's parameters have a scope of their own
  pub typed_suffix : State → SuffixTree → Outcome Step
  typed_suffix s (ArraySuffix l size) = then_do (maybe_typed s size) (λ s c. Fine s (node.ToArray c))
  typed_suffix s (NameList l names) = Fine s (node.ToNamed names)
  typed_suffix s (NoParameters l) = Fine s node.ToOpen
  typed_suffix s (Prototype l ps more) = then_do (typed_parameters (entered s) (stands_alone ps more) 0 ps) (λ t qs. Fine (left s.outer s.inner t) (node.ToFunction (none_if_void (stands_alone ps more) qs) more t.inner))

  pub typed_parameters : State → Bool → ℕ → ParameterTrees → Outcome (List node.NamedParameter)
  typed_parameters s alone index NoParameter = Fine s []
  typed_parameters s alone index (Parameters p ps) = then_do (typed_parameter s alone index p) (λ s q. then_do (typed_parameters s alone (index + 1) ps) (λ s qs. Fine s (q ∷ qs)))

  pub typed_parameter : State → Bool → ℕ → ParameterTree → Outcome node.NamedParameter
  typed_parameter s alone index (Parameter l specs d) = then_do (typed_specifiers s specs) (λ s b. then_do (typed_parameter_shape s b.of d) (λ s p. at s l (Typing (node.Parameter b.classes p.name p.of alone)) (with_parameter s l index b.classes p.name (adjusted p.of)) (record { name = p.name; of = adjusted p.of })))

  pub typed_parameter_shape : State → CType → MaybeDeclarator → Outcome Shaped
  typed_parameter_shape s base NoDeclarator = Fine s (shaped None base)
  typed_parameter_shape s base (ADeclarator d) = then_do (typed_declarator s d) (λ s p. at s p.line (Typing (node.ParameterDeclarator p.name base p.steps)) s (shaped p.name (formed base p.steps)))

-- the type that specifiers and a declarator declare
abbrev pub typed_declared : State → SpecifiersTree → DeclaratorTree → Outcome CType
typed_declared s specs d = then_do (typed_specifiers s specs) (λ s b. then_do (typed_shape s b.of (ADeclarator d)) (λ s p. Fine s p.of))
