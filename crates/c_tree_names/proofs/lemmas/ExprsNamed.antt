-- The names of expressions, specifiers and declarators are those among their marks.
use Rattle.std.specs.Prelude.{ℕ, Bool, true, false, List, ◌&&◌, ◌||◌}
use Rattle.c_ast.specs.Marks.{Mark}
use Rattle.c_ast.specs.ExprMarks.{expr, sequence, more_sequence, arguments, more_arguments, maybe_expr, expr_behind, type_name, specifiers, specifier_list, specifier, members, member, fields, more_fields, field, enumerators, more_enumerators, enumerator, maybe_declarator, declarator, core, suffixes, suffix, parameters, more_parameters, parameter, says_type, is_own, has_typedef, maybe_name}
use Rattle.c_ast.specs.Trees.{ExprTree, Name, Integer, Character, Text, Enclosed, Index, Call, Member, Postfix, Prefix, SizeofExpr, SizeofType, Cast, Binary, Conditional, Assign, Comma, ExprTrees, NoExprs, Exprs, MaybeExpr, NoExpr, AnExpr, TypeNameTree, TypeNamed, SpecifiersTree, Specified, SpecifierTree, Stored, Qualified, Basic, Record, RecordTag, Enum, EnumTag, NamedType, SpecifierTrees, NoSpecifiers, Specifiers, MemberTree, Members, MemberTrees, NoMembers, MoreMembers, FieldTree, Field, FieldTrees, NoFields, Fields, EnumeratorTree, Enumerator, EnumeratorTrees, NoEnumerators, Enumerators, DeclaratorTree, Declarator, MaybeDeclarator, NoDeclarator, ADeclarator, CoreTree, Named as NamedCore, Inner, Omitted, SuffixTree, ArraySuffix, Prototype, NameList, NoParameters, SuffixTrees, NoSuffixes, Suffixes, ParameterTree, Parameter, ParameterTrees, NoParameter, Parameters}
use Rattle.c_tree_names.specs.Names.{ExprNames, AllNames, MaybeNames, TypeNames, SpecifiersNames, AllSpecifierNames, SpecifierNames, AllMemberNames, MemberNames, AllFieldNames, FieldNames, AllEnumeratorNames, EnumeratorNames, MaybeDeclaratorNames, DeclaratorNames, CoreNames, AllSuffixNames, SuffixNames, AllParameterNames, ParameterNames}
use Rattle.c_tree_names.proofs.lemmas.Named.{Named, behind_texts, behind_pointers, listed_names, behind_tag, behind_end, behind_dots, behind_put, behind_closed, behind_asked}

mutual
  pub expr_named : (e : ExprTree) (r : List Mark) → Named (expr e r) → ExprNames e × Named r
  expr_named (Name l n) r h = h
  expr_named (Integer l v k) r h = h
  expr_named (Character l v) r h = h
  expr_named (Text l bs) r h = (tt, behind_texts bs r h)
  expr_named (Enclosed l e) r h =
      let p = expr_named e _ h.1 in
      (p.0, p.1.1)
  expr_named (Index l a i) r h =
      let p = expr_named a _ h in
      let q = expr_named i _ p.1.1 in
      ((p.0, q.0), q.1.1)
  expr_named (Call l f es) r h =
      let p = expr_named f _ h in
      let q = arguments_named es r p.1.1 in
      ((p.0, q.0), q.1)
  expr_named (Member l op a n) r h =
      let p = expr_named a _ h in
      (p.0, p.1.1.1)
  expr_named (Postfix l op a) r h =
      let p = expr_named a _ h in
      (p.0, p.1.1)
  expr_named (Prefix l op a) r h = expr_named a r h.1
  expr_named (SizeofExpr l a) r h = expr_named a r h.1
  expr_named (SizeofType l t) r h =
      let p = type_named t _ h.1.1 in
      (p.0, p.1.1)
  expr_named (Cast l t a) r h =
      let p = type_named t _ h.1 in
      let q = expr_named a r p.1.1 in
      ((p.0, q.0), q.1)
  expr_named (Binary l op a b) r h =
      let p = expr_named a _ h in
      let q = expr_named b r p.1.1 in
      ((p.0, q.0), q.1)
  expr_named (Conditional l a b c) r h =
      let p = expr_named a _ h in
      let q = expr_named b _ p.1.1 in
      let s = expr_named c r q.1.1 in
      ((p.0, (q.0, s.0)), s.1)
  expr_named (Assign l op a b) r h =
      let p = expr_named a _ h in
      let q = expr_named b r p.1.1 in
      ((p.0, q.0), q.1)
  expr_named (Comma l es) r h = sequence_named es r h

  sequence_named : (es : ExprTrees) (r : List Mark) → Named (sequence es r) → AllNames es × Named r
  sequence_named NoExprs r h = (tt, h)
  sequence_named (Exprs e es) r h =
      let p = expr_named e _ h in
      let q = more_sequence_named es r p.1 in
      ((p.0, q.0), q.1)

  more_sequence_named : (es : ExprTrees) (r : List Mark) → Named (more_sequence es r) → AllNames es × Named r
  more_sequence_named NoExprs r h = (tt, h)
  more_sequence_named (Exprs e es) r h =
      let p = expr_named e _ h.1 in
      let q = more_sequence_named es r p.1 in
      ((p.0, q.0), q.1)

  arguments_named : (es : ExprTrees) (r : List Mark) → Named (arguments es r) → AllNames es × Named r
  arguments_named NoExprs r h = (tt, h.1)
  arguments_named (Exprs e es) r h =
      let p = expr_named e _ h in
      let q = more_arguments_named es r p.1 in
      ((p.0, q.0), q.1)

  more_arguments_named : (es : ExprTrees) (r : List Mark) → Named (more_arguments es r) → AllNames es × Named r
  more_arguments_named NoExprs r h = (tt, h.1)
  more_arguments_named (Exprs e es) r h =
      let p = expr_named e _ h.1 in
      let q = more_arguments_named es r p.1 in
      ((p.0, q.0), q.1)

  pub maybe_named : (e : MaybeExpr) (r : List Mark) → Named (maybe_expr e r) → MaybeNames e × Named r
  maybe_named NoExpr r h = (tt, h)
  maybe_named (AnExpr e) r h = expr_named e r h

  behind_named : (e : MaybeExpr) (k : ℕ) (r : List Mark) → Named (expr_behind k e r) → MaybeNames e × Named r
  behind_named NoExpr k r h = (tt, h)
  behind_named (AnExpr e) k r h = expr_named e r h.1

  type_named : (t : TypeNameTree) (r : List Mark) → Named (type_name t r) → TypeNames t × Named r
  type_named (TypeNamed l s d) r h =
      let p = specifiers_named s _ h in
      let q = maybe_declarator_named d true r p.1 in
      ((p.0, q.0), q.1)

  pub specifiers_named : (s : SpecifiersTree) (r : List Mark) → Named (specifiers s r) → SpecifiersNames s × Named r
  specifiers_named (Specified l ss) r h = list_named ss false r h

  list_named : (ss : SpecifierTrees) (typed : Bool) (r : List Mark) → Named (specifier_list typed ss r) → AllSpecifierNames ss × Named r
  list_named NoSpecifiers typed r h = (tt, h)
  list_named (Specifiers s ss) typed r h =
      let p = specifier_named s _ h in
      let q = list_named ss (typed || says_type s) r p.1 in
      ((p.0, q.0), q.1)

  specifier_named : (s : SpecifierTree) (r : List Mark) → Named (specifier s r) → SpecifierNames s × Named r
  specifier_named (Stored l s) r h = (tt, h.1)
  specifier_named (Qualified l q) r h = (tt, h.1)
  specifier_named (Basic l b) r h = (tt, h.1)
  specifier_named (Record l k tag ms) r h = members_named ms r (behind_tag tag _ h.1).1
  specifier_named (RecordTag l k n) r h = (tt, h.1.1)
  specifier_named (Enum l tag es comma) r h = enumerators_named es comma r (behind_tag tag _ h.1).1
  specifier_named (EnumTag l n) r h = (tt, h.1.1)
  specifier_named (NamedType l n) r h = (tt, h.1)

  members_named : (ms : MemberTrees) (r : List Mark) → Named (members ms r) → AllMemberNames ms × Named r
  members_named NoMembers r h = (tt, h.1)
  members_named (MoreMembers m ms) r h =
      let p = member_named m _ h in
      let q = members_named ms r p.1 in
      ((p.0, q.0), q.1)

  member_named : (m : MemberTree) (r : List Mark) → Named (member m r) → MemberNames m × Named r
  member_named (Members l s fs) r h =
      let p = specifiers_named s _ h in
      let q = fields_named fs r p.1 in
      ((p.0, q.0), q.1)

  fields_named : (fs : FieldTrees) (r : List Mark) → Named (fields fs r) → AllFieldNames fs × Named r
  fields_named NoFields r h = (tt, h.1)
  fields_named (Fields f fs) r h =
      let p = field_named f _ h in
      let q = more_fields_named fs r p.1 in
      ((p.0, q.0), q.1)

  more_fields_named : (fs : FieldTrees) (r : List Mark) → Named (more_fields fs r) → AllFieldNames fs × Named r
  more_fields_named NoFields r h = (tt, h.1)
  more_fields_named (Fields f fs) r h =
      let p = field_named f _ h.1 in
      let q = more_fields_named fs r p.1 in
      ((p.0, q.0), q.1)

  field_named : (f : FieldTree) (r : List Mark) → Named (field f r) → FieldNames f × Named r
  field_named (Field l d w) r h =
      let p = maybe_declarator_named d false _ h in
      let q = behind_named w 31 r p.1 in
      ((p.0, q.0), q.1)

  enumerators_named : (es : EnumeratorTrees) (comma : Bool) (r : List Mark) → Named (enumerators es comma r) → AllEnumeratorNames es × Named r
  enumerators_named NoEnumerators comma r h = (tt, behind_end comma r h)
  enumerators_named (Enumerators e es) comma r h =
      let p = enumerator_named e _ h in
      let q = more_enumerators_named es comma r p.1 in
      ((p.0, q.0), q.1)

  more_enumerators_named : (es : EnumeratorTrees) (comma : Bool) (r : List Mark) → Named (more_enumerators es comma r) → AllEnumeratorNames es × Named r
  more_enumerators_named NoEnumerators comma r h = (tt, behind_end comma r h)
  more_enumerators_named (Enumerators e es) comma r h =
      let p = enumerator_named e _ h.1 in
      let q = more_enumerators_named es comma r p.1 in
      ((p.0, q.0), q.1)

  enumerator_named : (e : EnumeratorTree) (r : List Mark) → Named (enumerator e r) → EnumeratorNames e × Named r
  enumerator_named (Enumerator l n v) r h =
      let p = behind_named v 34 _ h.1 in
      ((h.0, p.0), p.1)

  maybe_declarator_named : (d : MaybeDeclarator) (free : Bool) (r : List Mark) → Named (maybe_declarator free d r) → MaybeDeclaratorNames d × Named r
  maybe_declarator_named NoDeclarator free r h = (tt, h)
  maybe_declarator_named (ADeclarator d) free r h = declarator_named d free false r h

  pub declarator_named : (d : DeclaratorTree) (free outer : Bool) (r : List Mark) → Named (declarator free outer d r) → DeclaratorNames d × Named r
  declarator_named (Declarator l ps c ss) free outer r h =
      let p = core_named c free outer _ (behind_pointers ps _ h) in
      let q = suffixes_named ss (outer && is_own c) r p.1 in
      ((p.0, q.0), q.1)

  core_named : (c : CoreTree) (free outer : Bool) (r : List Mark) → Named (core free outer c r) → CoreNames c × Named r
  core_named (NamedCore n) free outer r h = behind_asked free true _ h
  core_named (Inner d) free outer r h =
      let p = declarator_named d free outer _ (behind_asked free true _ h).1 in
      (p.0, p.1.1)
  core_named Omitted free outer r h = (tt, behind_asked free false r h)

  suffixes_named : (ss : SuffixTrees) (own : Bool) (r : List Mark) → Named (suffixes own ss r) → AllSuffixNames ss × Named r
  suffixes_named NoSuffixes own r h = (tt, h)
  suffixes_named (Suffixes s ss) own r h =
      let p = suffix_named s own _ h in
      let q = suffixes_named ss false r p.1 in
      ((p.0, q.0), q.1)

  suffix_named : (s : SuffixTree) (own : Bool) (r : List Mark) → Named (suffix own s r) → SuffixNames s × Named r
  suffix_named (ArraySuffix l e) own r h =
      let p = maybe_named e _ h.1 in
      (p.0, p.1.1)
  suffix_named (Prototype l ps more) own r h =
      let p = parameters_named ps more _ h.1 in
      (p.0, behind_closed own r p.1)
  suffix_named (NameList l ns) own r h =
      let p = listed_names ns _ h.1 in
      (p.0, behind_closed own r p.1)
  suffix_named (NoParameters l) own r h = (tt, behind_closed own r h.1.1)

  parameters_named : (ps : ParameterTrees) (more : Bool) (r : List Mark) → Named (parameters ps more r) → AllParameterNames ps × Named r
  parameters_named NoParameter more r h = (tt, behind_dots more r h)
  parameters_named (Parameters p ps) more r h =
      let a = parameter_named p _ h in
      let b = more_parameters_named ps more r a.1 in
      ((a.0, b.0), b.1)

  more_parameters_named : (ps : ParameterTrees) (more : Bool) (r : List Mark) → Named (more_parameters ps more r) → AllParameterNames ps × Named r
  more_parameters_named NoParameter more r h = (tt, behind_dots more r h)
  more_parameters_named (Parameters p ps) more r h =
      let a = parameter_named p _ h.1 in
      let b = more_parameters_named ps more r a.1 in
      ((a.0, b.0), b.1)

  parameter_named : (p : ParameterTree) (r : List Mark) → Named (parameter p r) → ParameterNames p × Named r
  parameter_named (Parameter l s d) r h =
      let a = specifiers_named s _ h in
      let b = maybe_declarator_named d true _ a.1 in
      ((a.0, b.0), behind_put (maybe_name d) (has_typedef s) r b.1)
