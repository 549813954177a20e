-- The nodes of a construct in postorder, each behind its parts, as far as these are typed, and the first of them that breaks
-- a constraint or passes a limit.
use Rattle.std.specs.Prelude.{ℕ, ℤ, pos, ◌+◌, ◌+ℤ◌, Bool, true, false, Option, Some, None, List, [], ◌∷◌, ◌++◌, is_none}
use Rattle.c_ast.specs.Trees.{ExprTree, Name, Integer, Character, Text, Enclosed, Index, Call, Member, Postfix, Prefix, SizeofExpr, SizeofType, Cast, Binary, Conditional, Assign, Comma, ExprTrees, NoExprs, Exprs, MaybeExpr, NoExpr, AnExpr, TypeNameTree, TypeNamed, SpecifiersTree, SpecifierTree, SpecifierTrees, NoSpecifiers, Specifiers, MemberTree, Members, MemberTrees, NoMembers, MoreMembers, FieldTree, Field, FieldTrees, NoFields, Fields, EnumeratorTree, Enumerator, EnumeratorTrees, NoEnumerators, Enumerators, DeclaratorTree, Declarator, MaybeDeclarator, NoDeclarator, ADeclarator, CoreTree, Named, Inner, Omitted, SuffixTree, ArraySuffix, Prototype, NameList, NoParameters, SuffixTrees, NoSuffixes, Suffixes, ParameterTree, Parameter, ParameterTrees, NoParameter, Parameters}
use Rattle.c_ast.specs.Trees as tree
use Rattle.c_types.specs.CType.{CType}
use Rattle.c_types.specs.Layout.{MemberType}
use Rattle.c_meaning.specs.State.{State, place_of, entered}
use Rattle.c_meaning.specs.Nodes.{Node, Expression, Typing, ExprNode, TypeNode, Part, Step}
use Rattle.c_meaning.specs.Nodes as node
use Rattle.c_meaning.specs.TypeRows.{opened, number_of, awaited}
use Rattle.c_meaning.specs.Constraints.{Fault, fault_at}
use Rattle.c_meaning.specs.Typing.{Outcome, Fine, Bad, typed, all_typed, maybe_typed, typed_name, typed_shape, typed_specifiers, typed_parts, typed_part, typed_members, typed_member, typed_field, typed_enumerators, typed_enumerator, typed_declarator, typed_core, typed_suffixes, typed_suffix, typed_parameters, typed_parameter, typed_parameter_shape, callee, stands_alone}

-- a node whose parts are typed, where it stands
pub record Place : Type 0 where
  pub state : State
  pub line : ℕ
  pub node : Node

abbrev pub place : State → ℕ → Node → List Place
place s line n = record { state = s; line = line; node = n } ∷ []

abbrev pub expr_place : State → ℕ → ExprNode → List Place
expr_place s line n = place s line (Expression n)

abbrev pub type_place : State → ℕ → TypeNode → List Place
type_place s line n = place s line (Typing n)

-- what stands behind a part that is typed
abbrev pub behind : {T : Type 0} → Outcome T → (State → T → List Place) → List Place
behind (Fine s t) next = next s t
behind (Bad f) next = []

-- the nodes of a part, and of what stands behind it
abbrev pub visit : {T : Type 0} → List Place → Outcome T → (State → T → List Place) → List Place
visit places part next = places ++ behind part next

abbrev pub callee_places : State → ℕ → List ℕ → Bool → List Place → List Place
callee_places s l x true places = expr_place s l (node.NewFunction x)
callee_places s l x false places = places

abbrev pub callee_nodes : State → ExprTree → List Place → List Place
callee_nodes s (Name l x) places = callee_places s l x (is_none (place_of s x)) places
callee_nodes s e places = places

abbrev mutual
  pub nodes : State → ExprTree → List Place
  nodes s (Name l x) = expr_place s l (node.Name x)
  nodes s (Integer l n k) = expr_place s l (node.Integer n k)
  nodes s (Character l z) = expr_place s l (node.Character z)
  nodes s (Text l texts) = expr_place s l (node.Text texts)
  nodes s (Enclosed l e) = nodes s e
  nodes s (Index l a i) = visit (nodes s a) (typed s a) (λ s c. visit (nodes s i) (typed s i) (λ s d. expr_place s l (node.Index c d)))
  nodes s (Call l f es) = visit (callee_nodes s f (nodes s f)) (callee s f (typed s f)) (λ s c. visit (all_nodes s es) (all_typed s es) (λ s cs. expr_place s l (node.Call c cs)))
  nodes s (Member l op a x) = visit (nodes s a) (typed s a) (λ s c. expr_place s l (node.Member op c x))
  nodes s (Postfix l op a) = visit (nodes s a) (typed s a) (λ s c. expr_place s l (node.Postfix op c))
  nodes s (Prefix l op a) = visit (nodes s a) (typed s a) (λ s c. expr_place s l (node.Prefix op c))
  nodes s (SizeofExpr l a) = visit (nodes s a) (typed s a) (λ s c. expr_place s l (node.SizeofExpr c))
  nodes s (SizeofType l t) = visit (name_nodes s t) (typed_name s t) (λ s of. expr_place s l (node.SizeofType of))
  nodes s (Cast l t a) = visit (name_nodes s t) (typed_name s t) (λ s to. visit (nodes s a) (typed s a) (λ s c. expr_place s l (node.Cast to c)))
  nodes s (Binary l op a b) = visit (nodes s a) (typed s a) (λ s c. visit (nodes s b) (typed s b) (λ s d. expr_place s l (node.Binary op c d)))
  nodes s (Conditional l a b c) = visit (nodes s a) (typed s a) (λ s u. visit (nodes s b) (typed s b) (λ s v. visit (nodes s c) (typed s c) (λ s w. expr_place s l (node.Conditional u v w))))
  nodes s (Assign l op a b) = visit (nodes s a) (typed s a) (λ s c. visit (nodes s b) (typed s b) (λ s d. expr_place s l (node.Assign op c d)))
  nodes s (Comma l es) = visit (all_nodes s es) (all_typed s es) (λ s cs. expr_place s l (node.Comma cs))

  pub all_nodes : State → ExprTrees → List Place
  all_nodes s NoExprs = []
  all_nodes s (Exprs e es) = visit (nodes s e) (typed s e) (λ s c. visit (all_nodes s es) (all_typed s es) (λ s cs. []))

  pub maybe_nodes : State → MaybeExpr → List Place
  maybe_nodes s NoExpr = []
  maybe_nodes s (AnExpr e) = visit (nodes s e) (typed s e) (λ s c. [])

  -- ---- type names, specifiers

  pub name_nodes : State → TypeNameTree → List Place
  name_nodes s (TypeNamed l specs d) = visit (specifiers_nodes s specs) (typed_specifiers s specs) (λ s b. visit (shape_nodes s b.of d) (typed_shape s b.of d) (λ s p. []))

  -- a declarator that may be left out, over the type of the specifiers
  pub shape_nodes : State → CType → MaybeDeclarator → List Place
  shape_nodes s base NoDeclarator = []
  shape_nodes s base (ADeclarator d) = visit (declarator_nodes s d) (typed_declarator s d) (λ s p. place s p.line (Typing (node.Declarator base p.steps)))

  pub specifiers_nodes : State → SpecifiersTree → List Place
  specifiers_nodes s (tree.Specified l list) = visit (parts_nodes s list) (typed_parts s list) (λ s ps. place s l (Typing (node.Specifiers ps)))

  pub parts_nodes : State → SpecifierTrees → List Place
  parts_nodes s NoSpecifiers = []
  parts_nodes s (Specifiers p ps) = visit (part_nodes s p) (typed_part s p) (λ s q. visit (parts_nodes s ps) (typed_parts s ps) (λ s qs. []))

  pub part_nodes : State → SpecifierTree → List Place
  part_nodes s (tree.Stored l class) = []
  part_nodes s (tree.Qualified l qualifier) = []
  part_nodes s (tree.Basic l word) = []
  part_nodes s (tree.NamedType l x) = []
  part_nodes s (tree.RecordTag l k tag) = type_place s l (node.RecordTag k tag)
  part_nodes s (tree.EnumTag l tag) = type_place s l (node.EnumerationTag tag)
  part_nodes s (tree.Enum l tag es comma) = visit (enumerators_nodes (awaited s l tag) (pos 0) es) (typed_enumerators (awaited s l tag) (pos 0) es) (λ s next. type_place s l (node.Enumeration tag))
  part_nodes s (tree.Record l k tag ms) = visit (members_nodes (opened s l k tag).state [] ms) (typed_members (opened s l k tag).state [] ms) (λ t members. type_place t l (node.Record k tag (number_of (opened s l k tag).of) members))

  -- the members behind others
  pub members_nodes : State → List MemberType → MemberTrees → List Place
  members_nodes s before NoMembers = []
  members_nodes s before (MoreMembers m ms) = visit (member_nodes s before m) (typed_member s before m) (λ s now. members_nodes s now ms)

  pub member_nodes : State → List MemberType → MemberTree → List Place
  member_nodes s before (Members l specs fs) = visit (specifiers_nodes s specs) (typed_specifiers s specs) (λ s b. fields_nodes s before b.of fs)

  pub fields_nodes : State → List MemberType → CType → FieldTrees → List Place
  fields_nodes s before base NoFields = []
  fields_nodes s before base (Fields f fs) = visit (field_nodes s before base f) (typed_field s before base f) (λ s m. fields_nodes s (before ++ m ∷ []) base fs)

  pub field_nodes : State → List MemberType → CType → FieldTree → List Place
  field_nodes s before base (Field l d width) = visit (shape_nodes s base d) (typed_shape s base d) (λ s p. visit (maybe_nodes s width) (maybe_typed s width) (λ s c. place s l (Typing (node.Field before p.name p.of c))))

  -- the value that the next enumerator has, where none is written
  pub enumerators_nodes : State → ℤ → EnumeratorTrees → List Place
  enumerators_nodes s next NoEnumerators = []
  enumerators_nodes s next (Enumerators e es) = visit (enumerator_nodes s next e) (typed_enumerator s next e) (λ s z. enumerators_nodes s (z +ℤ pos 1) es)

  pub enumerator_nodes : State → ℤ → EnumeratorTree → List Place
  enumerator_nodes s next (Enumerator l x value) = visit (maybe_nodes s value) (maybe_typed s value) (λ s c. place s l (Typing (node.Enumerator x c next)))

  -- ---- declarators

  pub declarator_nodes : State → DeclaratorTree → List Place
  declarator_nodes s (Declarator l pointers core suffixes) = visit (core_nodes s core) (typed_core s core) (λ s inner. visit (suffixes_nodes s suffixes) (typed_suffixes s suffixes) (λ s outer. []))

  pub core_nodes : State → CoreTree → List Place
  core_nodes s (Named x) = []
  core_nodes s (Inner d) = declarator_nodes s d
  core_nodes s Omitted = []

  pub suffixes_nodes : State → SuffixTrees → List Place
  suffixes_nodes s NoSuffixes = []
  suffixes_nodes s (Suffixes x xs) = visit (suffix_nodes s x) (typed_suffix s x) (λ s p. visit (suffixes_nodes s xs) (typed_suffixes s xs) (λ s ps. []))

  -- a prototype's parameters have a scope of their own
  pub suffix_nodes : State → SuffixTree → List Place
  suffix_nodes s (ArraySuffix l size) = visit (maybe_nodes s size) (maybe_typed s size) (λ s c. [])
  suffix_nodes s (NameList l names) = []
  suffix_nodes s (NoParameters l) = []
  suffix_nodes s (Prototype l ps more) = visit (parameters_nodes (entered s) (stands_alone ps more) 0 ps) (typed_parameters (entered s) (stands_alone ps more) 0 ps) (λ t qs. [])

  pub parameters_nodes : State → Bool → ℕ → ParameterTrees → List Place
  parameters_nodes s alone index NoParameter = []
  parameters_nodes s alone index (Parameters p ps) = visit (parameter_nodes s alone index p) (typed_parameter s alone index p) (λ s q. visit (parameters_nodes s alone (index + 1) ps) (typed_parameters s alone (index + 1) ps) (λ s qs. []))

  pub parameter_nodes : State → Bool → ℕ → ParameterTree → List Place
  parameter_nodes s alone index (Parameter l specs d) = visit (specifiers_nodes s specs) (typed_specifiers s specs) (λ s b. visit (parameter_shape_nodes s b.of d) (typed_parameter_shape s b.of d) (λ s p. place s l (Typing (node.Parameter b.classes p.name p.of alone))))

  pub parameter_shape_nodes : State → CType → MaybeDeclarator → List Place
  parameter_shape_nodes s base NoDeclarator = []
  parameter_shape_nodes s base (ADeclarator d) = visit (declarator_nodes s d) (typed_declarator s d) (λ s p. place s p.line (Typing (node.ParameterDeclarator p.name base p.steps)))

abbrev pub declared_nodes : State → SpecifiersTree → DeclaratorTree → List Place
declared_nodes s specs d = visit (specifiers_nodes s specs) (typed_specifiers s specs) (λ s b. shape_nodes s b.of (ADeclarator d))

-- ---- the first fault

abbrev pub or_else : Option Fault → Option Fault → Option Fault
or_else (Some f) g = Some f
or_else None g = g

-- the fault of the first node that has one
abbrev pub first_fault : List Place → Option Fault
first_fault [] = None
first_fault (p ∷ ps) = or_else (fault_at p.state p.line p.node) (first_fault ps)
