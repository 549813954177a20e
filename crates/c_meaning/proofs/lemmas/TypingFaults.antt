-- The fault that typing as a function gives is that of the first node, in postorder, that has one.
use Rattle.std.proofs.Common.{refl}
use Rattle.std.specs.Prelude.{ℕ, ℤ, pos, ◌+◌, ◌+ℤ◌, Bool, true, false, List, [], ◌∷◌, ◌++◌, is_none}
use Rattle.c_ast.specs.Trees.{ExprTree, Name, Integer, Character, Text, Enclosed, Index, Call, Member, Postfix, Prefix, SizeofExpr, SizeofType, Cast, Binary, Conditional, Assign, Comma, ExprTrees, NoExprs, Exprs, MaybeExpr, NoExpr, AnExpr, TypeNameTree, TypeNamed, SpecifiersTree, SpecifierTree, SpecifierTrees, NoSpecifiers, Specifiers, MemberTree, Members, MemberTrees, NoMembers, MoreMembers, FieldTree, Field, FieldTrees, NoFields, Fields, EnumeratorTree, Enumerator, EnumeratorTrees, NoEnumerators, Enumerators, DeclaratorTree, Declarator, MaybeDeclarator, NoDeclarator, ADeclarator, CoreTree, Named, Inner, Omitted, SuffixTree, ArraySuffix, Prototype, NameList, NoParameters, SuffixTrees, NoSuffixes, Suffixes, ParameterTree, Parameter, ParameterTrees, NoParameter, Parameters}
use Rattle.c_ast.specs.Trees as tree
use Rattle.c_types.specs.CType.{CType}
use Rattle.c_types.specs.Layout.{MemberType}
use Rattle.c_meaning.specs.State.{State, place_of, entered}
use Rattle.c_meaning.specs.Values.{CoreTrees}
use Rattle.c_meaning.specs.Values as values
use Rattle.c_meaning.specs.TypeRows.{opened, awaited}
use Rattle.c_meaning.specs.Typing.{Outcome, stands_alone, callee, callee_named, typed, all_typed, maybe_typed, typed_name, typed_shape, typed_specifiers, typed_parts, typed_part, typed_members, typed_member, typed_fields, typed_field, typed_enumerators, typed_enumerator, typed_declarator, typed_core, typed_suffixes, typed_suffix, typed_parameters, typed_parameter, typed_parameter_shape, typed_declared}
use Rattle.c_meaning.specs.Postorder.{Place, callee_nodes, callee_places, nodes, all_nodes, maybe_nodes, name_nodes, shape_nodes, specifiers_nodes, parts_nodes, part_nodes, members_nodes, member_nodes, fields_nodes, field_nodes, enumerators_nodes, enumerator_nodes, declarator_nodes, core_nodes, suffixes_nodes, suffix_nodes, parameters_nodes, parameter_nodes, parameter_shape_nodes, declared_nodes}
use Rattle.c_meaning.specs.Laws.{IsFirst}
use Rattle.c_meaning.proofs.lemmas.Threads.{visit_first, last_first, at_first}

-- what is called, by whether its name is declared
named_first : (s : State) (l : ℕ) (x : List ℕ) (b : Bool) (o : Outcome values.CoreTree) (places : List Place) → IsFirst o places → IsFirst (callee_named s l x b o) (callee_places s l x b places)
named_first s l x true o places h = at_first _ _ _ _ _
named_first s l x false o places h = h

callee_first : (s : State) (f : ExprTree) (o : Outcome values.CoreTree) (places : List Place) → IsFirst o places → IsFirst (callee s f o) (callee_nodes s f places)
callee_first s (Name l x) o places h = named_first s l x (is_none (place_of s x)) o places h
callee_first s f o places h = h

mutual
  pub expr_first : (s : State) (e : ExprTree) → IsFirst (typed s e) (nodes s e)
  expr_first s (Name l x) = at_first _ _ _ _ _
  expr_first s (Integer l n k) = at_first _ _ _ _ _
  expr_first s (Character l z) = at_first _ _ _ _ _
  expr_first s (Text l texts) = at_first _ _ _ _ _
  expr_first s (Enclosed l e) = expr_first s e
  expr_first s (Index l a i) = visit_first _ _ _ _ (expr_first s a) (λ s c. visit_first _ _ _ _ (expr_first s i) (λ s d. at_first _ _ _ _ _))
  expr_first s (Call l f es) = visit_first _ _ _ _ (callee_first s f (typed s f) (nodes s f) (expr_first s f)) (λ s c. visit_first _ _ _ _ (exprs_first s es) (λ s cs. at_first _ _ _ _ _))
  expr_first s (Member l op a x) = visit_first _ _ _ _ (expr_first s a) (λ s c. at_first _ _ _ _ _)
  expr_first s (Postfix l op a) = visit_first _ _ _ _ (expr_first s a) (λ s c. at_first _ _ _ _ _)
  expr_first s (Prefix l op a) = visit_first _ _ _ _ (expr_first s a) (λ s c. at_first _ _ _ _ _)
  expr_first s (SizeofExpr l a) = visit_first _ _ _ _ (expr_first s a) (λ s c. at_first _ _ _ _ _)
  expr_first s (SizeofType l t) = visit_first _ _ _ _ (name_first s t) (λ s of. at_first _ _ _ _ _)
  expr_first s (Cast l t a) = visit_first _ _ _ _ (name_first s t) (λ s to. visit_first _ _ _ _ (expr_first s a) (λ s c. at_first _ _ _ _ _))
  expr_first s (Binary l op a b) = visit_first _ _ _ _ (expr_first s a) (λ s c. visit_first _ _ _ _ (expr_first s b) (λ s d. at_first _ _ _ _ _))
  expr_first s (Conditional l a b c) = visit_first _ _ _ _ (expr_first s a) (λ s u. visit_first _ _ _ _ (expr_first s b) (λ s v. visit_first _ _ _ _ (expr_first s c) (λ s w. at_first _ _ _ _ _)))
  expr_first s (Assign l op a b) = visit_first _ _ _ _ (expr_first s a) (λ s c. visit_first _ _ _ _ (expr_first s b) (λ s d. at_first _ _ _ _ _))
  expr_first s (Comma l es) = visit_first _ _ _ _ (exprs_first s es) (λ s cs. at_first _ _ _ _ _)

  pub exprs_first : (s : State) (es : ExprTrees) → IsFirst (all_typed s es) (all_nodes s es)
  exprs_first s NoExprs = refl
  exprs_first s (Exprs e es) = visit_first _ _ _ _ (expr_first s e) (λ s c. visit_first _ _ _ _ (exprs_first s es) (λ s cs. refl))

  pub maybe_first : (s : State) (e : MaybeExpr) → IsFirst (maybe_typed s e) (maybe_nodes s e)
  maybe_first s NoExpr = refl
  maybe_first s (AnExpr e) = visit_first _ _ _ _ (expr_first s e) (λ s c. refl)

  -- ---- type names, specifiers

  pub name_first : (s : State) (t : TypeNameTree) → IsFirst (typed_name s t) (name_nodes s t)
  name_first s (TypeNamed l specs d) = visit_first _ _ _ _ (specifiers_first s specs) (λ s b. visit_first _ _ _ _ (shape_first s b.of d) (λ s p. refl))

  -- a declarator that may be left out, over the type of the specifiers
  pub shape_first : (s : State) (base : CType) (d : MaybeDeclarator) → IsFirst (typed_shape s base d) (shape_nodes s base d)
  shape_first s base NoDeclarator = refl
  shape_first s base (ADeclarator d) = visit_first _ _ _ _ (declarator_first s d) (λ s p. at_first _ _ _ _ _)

  pub specifiers_first : (s : State) (specs : SpecifiersTree) → IsFirst (typed_specifiers s specs) (specifiers_nodes s specs)
  specifiers_first s (tree.Specified l list) = visit_first _ _ _ _ (parts_first s list) (λ s ps. at_first _ _ _ _ _)

  pub parts_first : (s : State) (ps : SpecifierTrees) → IsFirst (typed_parts s ps) (parts_nodes s ps)
  parts_first s NoSpecifiers = refl
  parts_first s (Specifiers p ps) = visit_first _ _ _ _ (part_first s p) (λ s q. visit_first _ _ _ _ (parts_first s ps) (λ s qs. refl))

  pub part_first : (s : State) (p : SpecifierTree) → IsFirst (typed_part s p) (part_nodes s p)
  part_first s (tree.Stored l class) = refl
  part_first s (tree.Qualified l qualifier) = refl
  part_first s (tree.Basic l word) = refl
  part_first s (tree.NamedType l x) = refl
  part_first s (tree.RecordTag l k tag) = at_first _ _ _ _ _
  part_first s (tree.EnumTag l tag) = at_first _ _ _ _ _
  part_first s (tree.Enum l tag es comma) = visit_first _ _ _ _ (enumerators_first (awaited s l tag) (pos 0) es) (λ s next. at_first _ _ _ _ _)
  part_first s (tree.Record l k tag ms) = visit_first _ _ _ _ (members_first (opened s l k tag).state [] ms) (λ t members. at_first _ _ _ _ _)

  -- the members behind others
  pub members_first : (s : State) (before : List MemberType) (ms : MemberTrees) → IsFirst (typed_members s before ms) (members_nodes s before ms)
  members_first s before NoMembers = refl
  members_first s before (MoreMembers m ms) = visit_first _ _ _ _ (member_first s before m) (λ s now. members_first s now ms)

  pub member_first : (s : State) (before : List MemberType) (m : MemberTree) → IsFirst (typed_member s before m) (member_nodes s before m)
  member_first s before (Members l specs fs) = visit_first _ _ _ _ (specifiers_first s specs) (λ s b. fields_first s before b.of fs)

  pub fields_first : (s : State) (before : List MemberType) (base : CType) (fs : FieldTrees) → IsFirst (typed_fields s before base fs) (fields_nodes s before base fs)
  fields_first s before base NoFields = refl
  fields_first s before base (Fields f fs) = visit_first _ _ _ _ (field_first s before base f) (λ s m. fields_first s (before ++ m ∷ []) base fs)

  pub field_first : (s : State) (before : List MemberType) (base : CType) (f : FieldTree) → IsFirst (typed_field s before base f) (field_nodes s before base f)
  field_first s before base (Field l d width) = visit_first _ _ _ _ (shape_first s base d) (λ s p. visit_first _ _ _ _ (maybe_first s width) (λ s c. at_first _ _ _ _ _))

  -- the value that the next enumerator has, where none is written
  pub enumerators_first : (s : State) (next : ℤ) (es : EnumeratorTrees) → IsFirst (typed_enumerators s next es) (enumerators_nodes s next es)
  enumerators_first s next NoEnumerators = refl
  enumerators_first s next (Enumerators e es) = visit_first _ _ _ _ (enumerator_first s next e) (λ s z. enumerators_first s (z +ℤ pos 1) es)

  pub enumerator_first : (s : State) (next : ℤ) (e : EnumeratorTree) → IsFirst (typed_enumerator s next e) (enumerator_nodes s next e)
  enumerator_first s next (Enumerator l x value) = visit_first _ _ _ _ (maybe_first s value) (λ s c. at_first _ _ _ _ _)

  -- ---- declarators

  pub declarator_first : (s : State) (d : DeclaratorTree) → IsFirst (typed_declarator s d) (declarator_nodes s d)
  declarator_first s (Declarator l pointers core suffixes) = visit_first _ _ _ _ (core_first s core) (λ s inner. visit_first _ _ _ _ (suffixes_first s suffixes) (λ s outer. refl))

  pub core_first : (s : State) (c : CoreTree) → IsFirst (typed_core s c) (core_nodes s c)
  core_first s (Named x) = refl
  core_first s (Inner d) = declarator_first s d
  core_first s Omitted = refl

  pub suffixes_first : (s : State) (xs : SuffixTrees) → IsFirst (typed_suffixes s xs) (suffixes_nodes s xs)
  suffixes_first s NoSuffixes = refl
  suffixes_first s (Suffixes x xs) = visit_first _ _ _ _ (suffix_first s x) (λ s p. visit_first _ _ _ _ (suffixes_first s xs) (λ s ps. refl))

  -- a prototype's parameters have a scope of their own
  pub suffix_first : (s : State) (x : SuffixTree) → IsFirst (typed_suffix s x) (suffix_nodes s x)
  suffix_first s (ArraySuffix l size) = visit_first _ _ _ _ (maybe_first s size) (λ s c. refl)
  suffix_first s (NameList l names) = refl
  suffix_first s (NoParameters l) = refl
  suffix_first s (Prototype l ps more) = visit_first _ _ _ _ (parameters_first (entered s) (stands_alone ps more) 0 ps) (λ t qs. refl)

  pub parameters_first : (s : State) (alone : Bool) (index : ℕ) (ps : ParameterTrees) → IsFirst (typed_parameters s alone index ps) (parameters_nodes s alone index ps)
  parameters_first s alone index NoParameter = refl
  parameters_first s alone index (Parameters p ps) = visit_first _ _ _ _ (parameter_first s alone index p) (λ s q. visit_first _ _ _ _ (parameters_first s alone (index + 1) ps) (λ s qs. refl))

  pub parameter_first : (s : State) (alone : Bool) (index : ℕ) (p : ParameterTree) → IsFirst (typed_parameter s alone index p) (parameter_nodes s alone index p)
  parameter_first s alone index (Parameter l specs d) = visit_first _ _ _ _ (specifiers_first s specs) (λ s b. visit_first _ _ _ _ (parameter_shape_first s b.of d) (λ s p. at_first _ _ _ _ _))

  pub parameter_shape_first : (s : State) (base : CType) (d : MaybeDeclarator) → IsFirst (typed_parameter_shape s base d) (parameter_shape_nodes s base d)
  parameter_shape_first s base NoDeclarator = refl
  parameter_shape_first s base (ADeclarator d) = visit_first _ _ _ _ (declarator_first s d) (λ s p. at_first _ _ _ _ _)

pub declared_first : (s : State) (specs : SpecifiersTree) (d : DeclaratorTree) → IsFirst (typed_declared s specs d) (declared_nodes s specs d)
declared_first s specs d = visit_first _ _ _ _ (specifiers_first s specs) (λ s b. last_first _ _ _ (shape_first s b.of (ADeclarator d)) (λ s p. refl))
