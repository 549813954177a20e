-- What the rows type is what typing as a function gives, and nothing else.
use Rattle.std.specs.Prelude.{ℕ, ℤ, pos, ◌+◌, ◌+ℤ◌, Bool, true, false, List, [], ◌∷◌, ◌++◌, is_none}
use Rattle.c_ast.specs.Trees.{ExprTree, Name, Integer, Character, Text, Enclosed, Index, Call, Member, Postfix, Prefix, SizeofExpr, SizeofType, Cast, Binary, Conditional, Assign, Comma, ExprTrees, NoExprs, Exprs, MaybeExpr, NoExpr, AnExpr, TypeNameTree, TypeNamed, SpecifiersTree, SpecifierTree, SpecifierTrees, NoSpecifiers, Specifiers, MemberTree, Members, MemberTrees, NoMembers, MoreMembers, FieldTree, Field, FieldTrees, NoFields, Fields, EnumeratorTree, Enumerator, EnumeratorTrees, NoEnumerators, Enumerators, DeclaratorTree, Declarator, MaybeDeclarator, NoDeclarator, ADeclarator, CoreTree, Named, Inner, Omitted, SuffixTree, ArraySuffix, Prototype, NameList, NoParameters, SuffixTrees, NoSuffixes, Suffixes, ParameterTree, Parameter, ParameterTrees, NoParameter, Parameters}
use Rattle.c_ast.specs.Trees as tree
use Rattle.c_types.specs.CType.{CType}
use Rattle.c_types.specs.Layout.{MemberType}
use Rattle.c_meaning.specs.State.{State, place_of, entered}
use Rattle.c_meaning.specs.Values.{CoreTrees}
use Rattle.c_meaning.specs.Values as values
use Rattle.c_meaning.specs.TypeRows.{opened, awaited}
use Rattle.c_meaning.specs.Typing.{Outcome, stands_alone, callee, callee_named, typed, all_typed, maybe_typed, typed_name, typed_shape, typed_specifiers, typed_parts, typed_part, typed_members, typed_member, typed_fields, typed_field, typed_enumerators, typed_enumerator, typed_declarator, typed_core, typed_suffixes, typed_suffix, typed_parameters, typed_parameter, typed_parameter_shape, typed_declared}
use Rattle.c_meaning.specs.TypingRelation.{TypesCallee, IsCallee, Types, TypesAll, TypesMaybe, TypesName, TypesShape, TypesSpecifiers, TypesParts, TypesPart, TypesMembers, TypesMember, TypesFields, TypesField, TypesEnumerators, TypesEnumerator, TypesDeclarator, TypesCore, TypesSuffixes, TypesSuffix, TypesParameters, TypesParameter, TypesParameterShape, TypesDeclared}
use Rattle.c_meaning.specs.Laws.{IsTyping}
use Rattle.c_meaning.proofs.lemmas.Threads.{then_typing, is_typing, at_typing}

-- what is called, by whether its name is declared
named_rows : (s : State) (l : ℕ) (x : List ℕ) (b : Bool) {o : Outcome values.CoreTree} {types : State → values.CoreTree → Type 0} → IsTyping o types → IsTyping (callee_named s l x b o) (IsCallee s l x b types)
named_rows s l x true h = at_typing
named_rows s l x false h = h

callee_rows : (s : State) (f : ExprTree) {o : Outcome values.CoreTree} {types : State → values.CoreTree → Type 0} → IsTyping o types → IsTyping (callee s f o) (TypesCallee s f types)
callee_rows s (Name l x) h = named_rows s l x (is_none (place_of s x)) h
callee_rows s f h = h

mutual
  pub expr_rows : (s : State) (e : ExprTree) → IsTyping (typed s e) (Types s e)
  expr_rows s (Name l x) = at_typing
  expr_rows s (Integer l n k) = at_typing
  expr_rows s (Character l z) = at_typing
  expr_rows s (Text l texts) = at_typing
  expr_rows s (Enclosed l e) = expr_rows s e
  expr_rows s (Index l a i) = then_typing (expr_rows s a) (λ s c. then_typing (expr_rows s i) (λ s d. at_typing))
  expr_rows s (Call l f es) = then_typing (callee_rows s f (expr_rows s f)) (λ s c. then_typing (exprs_rows s es) (λ s cs. at_typing))
  expr_rows s (Member l op a x) = then_typing (expr_rows s a) (λ s c. at_typing)
  expr_rows s (Postfix l op a) = then_typing (expr_rows s a) (λ s c. at_typing)
  expr_rows s (Prefix l op a) = then_typing (expr_rows s a) (λ s c. at_typing)
  expr_rows s (SizeofExpr l a) = then_typing (expr_rows s a) (λ s c. at_typing)
  expr_rows s (SizeofType l t) = then_typing (name_rows s t) (λ s of. at_typing)
  expr_rows s (Cast l t a) = then_typing (name_rows s t) (λ s to. then_typing (expr_rows s a) (λ s c. at_typing))
  expr_rows s (Binary l op a b) = then_typing (expr_rows s a) (λ s c. then_typing (expr_rows s b) (λ s d. at_typing))
  expr_rows s (Conditional l a b c) = then_typing (expr_rows s a) (λ s u. then_typing (expr_rows s b) (λ s v. then_typing (expr_rows s c) (λ s w. at_typing)))
  expr_rows s (Assign l op a b) = then_typing (expr_rows s a) (λ s c. then_typing (expr_rows s b) (λ s d. at_typing))
  expr_rows s (Comma l es) = then_typing (exprs_rows s es) (λ s cs. at_typing)

  pub exprs_rows : (s : State) (es : ExprTrees) → IsTyping (all_typed s es) (TypesAll s es)
  exprs_rows s NoExprs = is_typing
  exprs_rows s (Exprs e es) = then_typing (expr_rows s e) (λ s c. then_typing (exprs_rows s es) (λ s cs. is_typing))

  pub maybe_rows : (s : State) (e : MaybeExpr) → IsTyping (maybe_typed s e) (TypesMaybe s e)
  maybe_rows s NoExpr = is_typing
  maybe_rows s (AnExpr e) = then_typing (expr_rows s e) (λ s c. is_typing)

  -- ---- type names, specifiers

  pub name_rows : (s : State) (t : TypeNameTree) → IsTyping (typed_name s t) (TypesName s t)
  name_rows s (TypeNamed l specs d) = then_typing (specifiers_rows s specs) (λ s b. then_typing (shape_rows s b.of d) (λ s p. is_typing))

  -- a declarator that may be left out, over the type of the specifiers
  pub shape_rows : (s : State) (base : CType) (d : MaybeDeclarator) → IsTyping (typed_shape s base d) (TypesShape s base d)
  shape_rows s base NoDeclarator = is_typing
  shape_rows s base (ADeclarator d) = then_typing (declarator_rows s d) (λ s p. at_typing)

  pub specifiers_rows : (s : State) (specs : SpecifiersTree) → IsTyping (typed_specifiers s specs) (TypesSpecifiers s specs)
  specifiers_rows s (tree.Specified l list) = then_typing (parts_rows s list) (λ s ps. at_typing)

  pub parts_rows : (s : State) (ps : SpecifierTrees) → IsTyping (typed_parts s ps) (TypesParts s ps)
  parts_rows s NoSpecifiers = is_typing
  parts_rows s (Specifiers p ps) = then_typing (part_rows s p) (λ s q. then_typing (parts_rows s ps) (λ s qs. is_typing))

  pub part_rows : (s : State) (p : SpecifierTree) → IsTyping (typed_part s p) (TypesPart s p)
  part_rows s (tree.Stored l class) = is_typing
  part_rows s (tree.Qualified l qualifier) = is_typing
  part_rows s (tree.Basic l word) = is_typing
  part_rows s (tree.NamedType l x) = is_typing
  part_rows s (tree.RecordTag l k tag) = at_typing
  part_rows s (tree.EnumTag l tag) = at_typing
  part_rows s (tree.Enum l tag es comma) = then_typing (enumerators_rows (awaited s l tag) (pos 0) es) (λ s next. at_typing)
  part_rows s (tree.Record l k tag ms) = then_typing (members_rows (opened s l k tag).state [] ms) (λ t members. at_typing)

  -- the members behind others
  pub members_rows : (s : State) (before : List MemberType) (ms : MemberTrees) → IsTyping (typed_members s before ms) (TypesMembers s before ms)
  members_rows s before NoMembers = is_typing
  members_rows s before (MoreMembers m ms) = then_typing (member_rows s before m) (λ s now. members_rows s now ms)

  pub member_rows : (s : State) (before : List MemberType) (m : MemberTree) → IsTyping (typed_member s before m) (TypesMember s before m)
  member_rows s before (Members l specs fs) = then_typing (specifiers_rows s specs) (λ s b. fields_rows s before b.of fs)

  pub fields_rows : (s : State) (before : List MemberType) (base : CType) (fs : FieldTrees) → IsTyping (typed_fields s before base fs) (TypesFields s before base fs)
  fields_rows s before base NoFields = is_typing
  fields_rows s before base (Fields f fs) = then_typing (field_rows s before base f) (λ s m. fields_rows s (before ++ m ∷ []) base fs)

  pub field_rows : (s : State) (before : List MemberType) (base : CType) (f : FieldTree) → IsTyping (typed_field s before base f) (TypesField s before base f)
  field_rows s before base (Field l d width) = then_typing (shape_rows s base d) (λ s p. then_typing (maybe_rows s width) (λ s c. at_typing))

  -- the value that the next enumerator has, where none is written
  pub enumerators_rows : (s : State) (next : ℤ) (es : EnumeratorTrees) → IsTyping (typed_enumerators s next es) (TypesEnumerators s next es)
  enumerators_rows s next NoEnumerators = is_typing
  enumerators_rows s next (Enumerators e es) = then_typing (enumerator_rows s next e) (λ s z. enumerators_rows s (z +ℤ pos 1) es)

  pub enumerator_rows : (s : State) (next : ℤ) (e : EnumeratorTree) → IsTyping (typed_enumerator s next e) (TypesEnumerator s next e)
  enumerator_rows s next (Enumerator l x value) = then_typing (maybe_rows s value) (λ s c. at_typing)

  -- ---- declarators

  pub declarator_rows : (s : State) (d : DeclaratorTree) → IsTyping (typed_declarator s d) (TypesDeclarator s d)
  declarator_rows s (Declarator l pointers core suffixes) = then_typing (core_rows s core) (λ s inner. then_typing (suffixes_rows s suffixes) (λ s outer. is_typing))

  pub core_rows : (s : State) (c : CoreTree) → IsTyping (typed_core s c) (TypesCore s c)
  core_rows s (Named x) = is_typing
  core_rows s (Inner d) = declarator_rows s d
  core_rows s Omitted = is_typing

  pub suffixes_rows : (s : State) (xs : SuffixTrees) → IsTyping (typed_suffixes s xs) (TypesSuffixes s xs)
  suffixes_rows s NoSuffixes = is_typing
  suffixes_rows s (Suffixes x xs) = then_typing (suffix_rows s x) (λ s p. then_typing (suffixes_rows s xs) (λ s ps. is_typing))

  -- a prototype's parameters have a scope of their own
  pub suffix_rows : (s : State) (x : SuffixTree) → IsTyping (typed_suffix s x) (TypesSuffix s x)
  suffix_rows s (ArraySuffix l size) = then_typing (maybe_rows s size) (λ s c. is_typing)
  suffix_rows s (NameList l names) = is_typing
  suffix_rows s (NoParameters l) = is_typing
  suffix_rows s (Prototype l ps more) = then_typing (parameters_rows (entered s) (stands_alone ps more) 0 ps) (λ t qs. is_typing)

  pub parameters_rows : (s : State) (alone : Bool) (index : ℕ) (ps : ParameterTrees) → IsTyping (typed_parameters s alone index ps) (TypesParameters s alone index ps)
  parameters_rows s alone index NoParameter = is_typing
  parameters_rows s alone index (Parameters p ps) = then_typing (parameter_rows s alone index p) (λ s q. then_typing (parameters_rows s alone (index + 1) ps) (λ s qs. is_typing))

  pub parameter_rows : (s : State) (alone : Bool) (index : ℕ) (p : ParameterTree) → IsTyping (typed_parameter s alone index p) (TypesParameter s alone index p)
  parameter_rows s alone index (Parameter l specs d) = then_typing (specifiers_rows s specs) (λ s b. then_typing (parameter_shape_rows s b.of d) (λ s p. at_typing))

  pub parameter_shape_rows : (s : State) (base : CType) (d : MaybeDeclarator) → IsTyping (typed_parameter_shape s base d) (TypesParameterShape s base d)
  parameter_shape_rows s base NoDeclarator = is_typing
  parameter_shape_rows s base (ADeclarator d) = then_typing (declarator_rows s d) (λ s p. at_typing)

pub declared_rows : (s : State) (specs : SpecifiersTree) (d : DeclaratorTree) → IsTyping (typed_declared s specs d) (TypesDeclared s specs d)
declared_rows s specs d = then_typing (specifiers_rows s specs) (λ s b. then_typing (shape_rows s b.of (ADeclarator d)) (λ s p. is_typing))
