-- What is known behind each part of an expression or a type follows what was known before it, and the types that come of it
-- have names.
use Rattle.std.proofs.Common.{◌≡◌, ℕ, ◌+◌, ◌+ℤ◌, Bool, true, false, List, [], ◌∷◌, ◌++◌, refl, subst, ◌∙◌}
use Rattle.std.specs.Prelude.{Option, ℤ, pos, is_none}
use Rattle.c_ast.specs.Trees.{ExprTree, Name, Integer, Character, Text, Enclosed, Index, Call, Member, Postfix, Prefix, SizeofExpr, SizeofType, Cast, Binary, Conditional, Assign, Comma, ExprTrees, NoExprs, Exprs, MaybeExpr, NoExpr, AnExpr, TypeNameTree, TypeNamed, SpecifiersTree, SpecifierTree, SpecifierTrees, NoSpecifiers, Specifiers, MemberTree, Members, MemberTrees, NoMembers, MoreMembers, FieldTree, Field, FieldTrees, NoFields, Fields, EnumeratorTree, Enumerator, EnumeratorTrees, NoEnumerators, Enumerators, DeclaratorTree, Declarator, MaybeDeclarator, NoDeclarator, ADeclarator, CoreTree, Named, Inner, Omitted, SuffixTree, ArraySuffix, Prototype, NameList, NoParameters, SuffixTrees, NoSuffixes, Suffixes, ParameterTree, Parameter, ParameterTrees, NoParameter, Parameters}
use Rattle.c_ast.specs.Trees as tree
use Rattle.c_types.specs.BitFields.{are_fields, is_field}
use Rattle.c_types.specs.CType.{CType}
use Rattle.c_types.specs.Layout.{MemberType}
use Rattle.c_meaning.specs.Nodes.{ExprNode, Node, NamedParameter, Part, Step, Whole}
use Rattle.c_meaning.specs.Nodes as node
use Rattle.c_meaning.specs.State.{State, entered, place_of}
use Rattle.c_meaning.specs.TypeRows.{adjusted, awaited, completed, enumerated, enumeration_type, enumerator_value, named, number_of, opened, record_type, specified, with_parameter}
use Rattle.c_meaning.specs.TypeRows as rows
use Rattle.c_meaning.specs.Typing.{Declared, Shaped, named_type, stands_alone}
use Rattle.c_meaning.specs.TypingRelation.{IsCallee, Types, TypesAll, TypesCallee, TypesCore, TypesDeclared, TypesDeclarator, TypesEnumerator, TypesEnumerators, TypesField, TypesFields, TypesMaybe, TypesMember, TypesMembers, TypesName, TypesParameter, TypesParameters, TypesParameterShape, TypesPart, TypesParts, TypesShape, TypesSpecifiers, TypesSuffix, TypesSuffixes}
use Rattle.c_meaning.specs.Values.{CoreTrees}
use Rattle.c_meaning.specs.Values as values
use Rattle.c_meaning.specs.Types.{has_size}
use Rattle.c_fits.specs.Sound.{AreSized, Extends, Follows, IsNamed, IsSound, Unnamed, is_of}
use Rattle.c_fits.proofs.lemmas.Completing.{completed_follows, completed_named, open_is, opened_follows}
use Rattle.c_fits.proofs.lemmas.Kinds.{elements_of_record, is_of_record}
use Rattle.c_fits.proofs.lemmas.Following.{entered_sound, left_follows, same_follows, then_extends, then_follows, unnamed_before}
use Rattle.c_fits.proofs.lemmas.Types.{NoneOf, adjusted_apart, adjusted_elements, awaited_follows, enumerated_follows, enumerator_follows, fields_push, formed_apart, function_follows, known_named, member_field, member_sized, named_follows, parameter_extends, sized_push, sized_stay, specified_apart}

-- a sound state is followed
abbrev pub Goes : State → State → Type 0
Goes s u = IsSound s → Follows s u

-- or extended, where parameters may be declared
abbrev pub GoesOn : State → State → Type 0
GoesOn s u = IsSound s → Extends s u

pub stay : {s u : State} → s ≡ u → Goes s u
stay {s} {u} e h = subst (Follows s) e (same_follows s h)

pub go : {s t u : State} → Goes s t → Goes t u → Goes s u
go {s} {t} {u} f g h = let a = f h in then_follows s t u a (g a.sound)

-- all whole types among parts have names
abbrev AreNamed : State → List Part → Type 0
AreNamed s ps = (n : ℕ) → Unnamed s.tags s.symbols n → NoneOf n ps

abbrev PartGoes : State → State → Part → Type 0
PartGoes s u p = IsSound s → Follows s u × AreNamed u (p ∷ [])

abbrev PartsGo : State → State → List Part → Type 0
PartsGo s u ps = IsSound s → Follows s u × AreNamed u ps

none_first : (n : ℕ) (p : Part) (ps : List Part) → NoneOf n (p ∷ []) → NoneOf n ps → NoneOf n (p ∷ ps)
none_first n (Whole t) ps h k = (h.0, k)
none_first n (node.Stored c) ps h k = k
none_first n (node.Qualified q) ps h k = k
none_first n (node.Word w) ps h k = k

-- what a declarator makes of a type has a name where the type has
abbrev Shapes : CType → CType → Type 0
Shapes t u = (n : ℕ) → is_of n t ≡ false → is_of n u ≡ false

-- members are bit-fields that there may be, and have sizes, where those before them are and have
abbrev MembersGo : State → List MemberType → State → List MemberType → Type 0
MembersGo s before u now = IsSound s → are_fields before ≡ true → AreSized s.tags before → Follows s u × ((are_fields now ≡ true) × AreSized u.tags now)

-- a part that a tag names
tag_goes : (s t u : State) (of : CType) (q : Part) → Follows s t × IsNamed t of → t ≡ u → Whole of ≡ q → Follows s u × AreNamed u (q ∷ [])
tag_goes s t u of q h e g =
    subst (λ x. Follows s u × AreNamed u (x ∷ [])) g (subst (λ x. Follows s x × AreNamed x (Whole of ∷ [])) e (h.0, λ n k. (h.1 n k, tt)))

-- what is called may be declared by its call
named_callee : (s : State) (l : ℕ) (x : List ℕ) (b : Bool) (types : State → values.CoreTree → Type 0) (u : State) (c : values.CoreTree) → (types u c → Goes s u) → IsCallee s l x b types u c → Goes s u
named_callee s l x true types u c g h = λ k. subst (Follows s) h.1.0 (function_follows s l x k)
named_callee s l x false types u c g h = g h

pub callee_goes : (s : State) (f : ExprTree) (u : State) (c : values.CoreTree) → (Types s f u c → Goes s u) → TypesCallee s f (Types s f) u c → Goes s u
callee_goes s (Name l x) u c g h = named_callee s l x (is_none (place_of s x)) (Types s (Name l x)) u c g h
callee_goes s f u c g h = g h

mutual
  pub expr_goes : (s : State) (e : ExprTree) (u : State) (c : values.CoreTree) → Types s e u c → Goes s u
  expr_goes s (Name l x) u c h = stay h.1.0
  expr_goes s (Integer l n k) u c h = stay h.1.0
  expr_goes s (Character l z) u c h = stay h.1.0
  expr_goes s (Text l texts) u c h = stay h.1.0
  expr_goes s (Enclosed l e) u c h = expr_goes s e u c h
  expr_goes s (Index l a i) u c h = go (expr_goes s a h.0 h.1 h.2) (go (expr_goes h.0 i h.3.0 h.3.1 h.3.2) (stay h.3.3.1.0))
  expr_goes s (Call l f es) u c h = go (callee_goes s f h.0 h.1 (expr_goes s f h.0 h.1) h.2) (go (exprs_go h.0 es h.3.0 h.3.1 h.3.2) (stay h.3.3.1.0))
  expr_goes s (Member l op a x) u c h = go (expr_goes s a h.0 h.1 h.2) (stay h.3.1.0)
  expr_goes s (Postfix l op a) u c h = go (expr_goes s a h.0 h.1 h.2) (stay h.3.1.0)
  expr_goes s (Prefix l op a) u c h = go (expr_goes s a h.0 h.1 h.2) (stay h.3.1.0)
  expr_goes s (SizeofExpr l a) u c h = go (expr_goes s a h.0 h.1 h.2) (stay h.3.1.0)
  expr_goes s (SizeofType l t) u c h = go (name_goes s t h.0 h.1 h.2) (stay h.3.1.0)
  expr_goes s (Cast l t a) u c h = go (name_goes s t h.0 h.1 h.2) (go (expr_goes h.0 a h.3.0 h.3.1 h.3.2) (stay h.3.3.1.0))
  expr_goes s (Binary l op a b) u c h = go (expr_goes s a h.0 h.1 h.2) (go (expr_goes h.0 b h.3.0 h.3.1 h.3.2) (stay h.3.3.1.0))
  expr_goes s (Conditional l a b d) u c h =
      go (expr_goes s a h.0 h.1 h.2) (go (expr_goes h.0 b h.3.0 h.3.1 h.3.2) (go (expr_goes h.3.0 d h.3.3.0 h.3.3.1 h.3.3.2) (stay h.3.3.3.1.0)))
  expr_goes s (Assign l op a b) u c h = go (expr_goes s a h.0 h.1 h.2) (go (expr_goes h.0 b h.3.0 h.3.1 h.3.2) (stay h.3.3.1.0))
  expr_goes s (Comma l es) u c h = go (exprs_go s es h.0 h.1 h.2) (stay h.3.1.0)

  pub exprs_go : (s : State) (es : ExprTrees) (u : State) (cs : CoreTrees) → TypesAll s es u cs → Goes s u
  exprs_go s NoExprs u cs h = stay h.0
  exprs_go s (Exprs e es) u cs h = go (expr_goes s e h.0 h.1 h.2) (go (exprs_go h.0 es h.3.0 h.3.1 h.3.2) (stay h.3.3.0))

  pub maybe_goes : (s : State) (e : MaybeExpr) (u : State) (c : Option values.CoreTree) → TypesMaybe s e u c → Goes s u
  maybe_goes s NoExpr u c h = stay h.0
  maybe_goes s (AnExpr e) u c h = go (expr_goes s e h.0 h.1 h.2) (stay h.3.0)

  -- ---- type names, specifiers

  pub name_goes : (s : State) (t : TypeNameTree) (u : State) (of : CType) → TypesName s t u of → Goes s u
  name_goes s (TypeNamed l specs d) u of h k =
      let a = specifiers_go s specs h.0 h.1 h.2 k in
      let b = shape_goes h.0 h.1.of d h.3.0 h.3.1 h.3.2 a.0.sound in
      subst (Follows s) h.3.3.0 (then_follows s h.0 h.3.0 a.0 b.0)

  pub shape_goes : (s : State) (base : CType) (d : MaybeDeclarator) (u : State) (p : Shaped) → TypesShape s base d u p → IsSound s → Follows s u × Shapes base p.of
  shape_goes s base NoDeclarator u p h k = (subst (Follows s) h.0 (same_follows s k), subst (λ (p : Shaped). Shapes base p.of) h.1 (λ n e. e))
  shape_goes s base (ADeclarator d) u p h k = (
    subst (Follows s) h.3.1.0 (declarator_goes s d h.0 h.1 h.2 k),
    subst (λ (p : Shaped). Shapes base p.of) h.3.1.1 (λ n e. formed_apart n h.1.steps base e),
  )

  pub specifiers_go : (s : State) (specs : SpecifiersTree) (u : State) (b : rows.Specified) → TypesSpecifiers s specs u b → IsSound s → Follows s u × IsNamed u b.of
  specifiers_go s (tree.Specified l list) u b h k =
      let f = parts_go s list h.0 h.1 h.2 k in (
        subst (Follows s) h.3.1.0 f.0,
        subst (λ (b : rows.Specified). IsNamed u b.of) h.3.1.1 (subst (λ u. IsNamed u (specified h.1).of) h.3.1.0 (λ n m. specified_apart n h.1 (f.1 n m))),
      )

  pub parts_go : (s : State) (ps : SpecifierTrees) (u : State) (qs : List Part) → TypesParts s ps u qs → PartsGo s u qs
  parts_go s NoSpecifiers u qs h k = (subst (Follows s) h.0 (same_follows s k), subst (AreNamed u) h.1 (λ n m. tt))
  parts_go s (Specifiers p ps) u qs h k =
      let a = part_goes s p h.0 h.1 h.2 k in
      let b = parts_go h.0 ps h.3.0 h.3.1 h.3.2 a.0.sound in (
        subst (Follows s) h.3.3.0 (then_follows s h.0 h.3.0 a.0 b.0),
        subst (AreNamed u) h.3.3.1 (subst (λ u. AreNamed u (h.1 ∷ h.3.1)) h.3.3.0 (λ n m. none_first n h.1 h.3.1 (a.1 n (unnamed_before h.0 h.3.0 b.0 n m)) (b.1 n m))),
      )

  pub part_goes : (s : State) (p : SpecifierTree) (u : State) (q : Part) → TypesPart s p u q → PartGoes s u q
  part_goes s (tree.Stored l class) u q h k = (subst (Follows s) h.0 (same_follows s k), subst (λ q. AreNamed u (q ∷ [])) h.1 (λ n m. tt))
  part_goes s (tree.Qualified l qualifier) u q h k = (subst (Follows s) h.0 (same_follows s k), subst (λ q. AreNamed u (q ∷ [])) h.1 (λ n m. tt))
  part_goes s (tree.Basic l word) u q h k = (subst (Follows s) h.0 (same_follows s k), subst (λ q. AreNamed u (q ∷ [])) h.1 (λ n m. tt))
  part_goes s (tree.NamedType l x) u q h k = tag_goes s s u (named_type s (place_of s x)) q (same_follows s k, known_named s (place_of s x)) h.0 h.1
  part_goes s (tree.RecordTag l c tag) u q h k =
      tag_goes s (named s l tag (record_type c s.count)).state u (named s l tag (record_type c s.count)).of q
      (named_follows s l tag (record_type c s.count) k (λ n e. is_of_record c n s.count ∙ e) (elements_of_record s.tags c s.count)) h.1.0 h.1.1
  part_goes s (tree.EnumTag l tag) u q h k =
      tag_goes s (named s l tag (enumeration_type s.count)).state u (named s l tag (enumeration_type s.count)).of q
      (named_follows s l tag (enumeration_type s.count) k (λ n e. refl) refl) h.1.0 h.1.1
  part_goes s (tree.Enum l tag es comma) u q h k =
      let a = awaited_follows s l tag k in
      let b = enumerators_go (awaited s l tag) (pos 0) es h.0 h.1 h.2 a.sound in
      let t = enumerated_follows h.0 l tag b.sound h.3.0 in
      tag_goes s (enumerated h.0 l tag).state u (enumerated h.0 l tag).of q
      (then_follows s h.0 (enumerated h.0 l tag).state (then_follows s (awaited s l tag) h.0 a b) t.0, t.1) h.3.1.0 h.3.1.1
  part_goes s (tree.Record l c tag ms) u q h k =
      let a = opened_follows s l c tag k in
      let b = members_go (opened s l c tag).state [] ms h.0 h.1 h.2 a.sound refl tt in
      let f = then_follows s (opened s l c tag).state h.0 a b.0 in
      let o = open_is s h.0 l c tag h.1 k b.0 h.3.0 in
      tag_goes s (completed h.0 c (number_of (opened s l c tag).of) h.1) u (record_type c (number_of (opened s l c tag).of)) q
      (completed_follows s h.0 c (number_of (opened s l c tag).of) h.1 f o k b.1.0 b.1.1, completed_named h.0 c (number_of (opened s l c tag).of) h.1) h.3.1.0 h.3.1.1

  -- the members behind others
  pub members_go : (s : State) (before : List MemberType) (ms : MemberTrees) (u : State) (now : List MemberType) → TypesMembers s before ms u now → MembersGo s before u now
  members_go s before NoMembers u now h k e z =
      subst (λ (u : State). Follows s u × ((are_fields now ≡ true) × AreSized u.tags now)) h.0 (subst (λ ms. Follows s s × ((are_fields ms ≡ true) × AreSized s.tags ms)) h.1 (same_follows s k, (e, z)))
  members_go s before (MoreMembers m ms) u now h k e z =
      let a = member_goes s before m h.0 h.1 h.2 k e z in
      let b = members_go h.0 h.1 ms u now h.3 a.0.sound a.1.0 a.1.1 in
      (then_follows s h.0 u a.0 b.0, b.1)

  member_goes : (s : State) (before : List MemberType) (m : MemberTree) (u : State) (now : List MemberType) → TypesMember s before m u now → MembersGo s before u now
  member_goes s before (Members l specs fs) u now h k e z =
      let a = specifiers_go s specs h.0 h.1 h.2 k in
      let b = fields_go h.0 before h.1.of fs u now h.3 a.0.sound e (sized_stay s.tags h.0.tags before a.0.tags z) in
      (then_follows s h.0 u a.0 b.0, b.1)

  fields_go : (s : State) (before : List MemberType) (base : CType) (fs : FieldTrees) (u : State) (now : List MemberType) → TypesFields s before base fs u now → MembersGo s before u now
  fields_go s before base NoFields u now h k e z =
      subst (λ (u : State). Follows s u × ((are_fields now ≡ true) × AreSized u.tags now)) h.0 (subst (λ ms. Follows s s × ((are_fields ms ≡ true) × AreSized s.tags ms)) h.1 (same_follows s k, (e, z)))
  fields_go s before base (Fields f fs) u now h k e z =
      let a = field_goes s before base f h.0 h.1 h.2 k in
      let b = fields_go h.0 (before ++ h.1 ∷ []) base fs u now h.3 a.0.sound (fields_push before h.1 e a.1.0) (sized_push h.0.tags before h.1 (sized_stay s.tags h.0.tags before a.0.tags z) a.1.1) in
      (then_follows s h.0 u a.0 b.0, b.1)

  field_goes : (s : State) (before : List MemberType) (base : CType) (f : FieldTree) (u : State) (m : MemberType) → TypesField s before base f u m → IsSound s → Follows s u × ((is_field m.name m.of m.width ≡ true) × (has_size u.tags m.of ≡ true))
  field_goes s before base (Field l d width) u m h k =
      let a = shape_goes s base d h.0 h.1 h.2 k in
      let b = maybe_goes h.0 width h.3.0 h.3.1 h.3.2 a.0.sound in
      subst (λ (u : State). Follows s u × ((is_field m.name m.of m.width ≡ true) × (has_size u.tags m.of ≡ true))) h.3.3.1.0
      (subst (λ (m : MemberType). Follows s h.3.0 × ((is_field m.name m.of m.width ≡ true) × (has_size h.3.0.tags m.of ≡ true))) h.3.3.1.1 (then_follows s h.0 h.3.0 a.0 b, (member_field h.3.0 l before h.1.name h.1.of h.3.1 h.3.3.0, member_sized h.3.0 l before h.1.name h.1.of h.3.1 h.3.3.0)))

  -- the value that the next enumerator has, where none is written
  enumerators_go : (s : State) (next : ℤ) (es : EnumeratorTrees) (u : State) (z : ℤ) → TypesEnumerators s next es u z → Goes s u
  enumerators_go s next NoEnumerators u z h = stay h.0
  enumerators_go s next (Enumerators e es) u z h = go (enumerator_goes s next e h.0 h.1 h.2) (enumerators_go h.0 (h.1 +ℤ pos 1) es u z h.3)

  enumerator_goes : (s : State) (next : ℤ) (e : EnumeratorTree) (u : State) (z : ℤ) → TypesEnumerator s next e u z → Goes s u
  enumerator_goes s next (Enumerator l x value) u z h =
      go (maybe_goes s value h.0 h.1 h.2) (λ k. subst (Follows h.0) h.3.1.0 (enumerator_follows h.0 l x (enumerator_value h.1 next) k))

  -- ---- declarators

  pub declarator_goes : (s : State) (d : DeclaratorTree) (u : State) (p : Declared) → TypesDeclarator s d u p → Goes s u
  declarator_goes s (Declarator l pointers core suffixes) u p h = go (core_goes s core h.0 h.1 h.2) (go (suffixes_go h.0 suffixes h.3.0 h.3.1 h.3.2) (stay h.3.3.0))

  pub core_goes : (s : State) (c : CoreTree) (u : State) (p : Declared) → TypesCore s c u p → Goes s u
  core_goes s (Named x) u p h = stay h.0
  core_goes s (Inner d) u p h = declarator_goes s d u p h
  core_goes s Omitted u p h = stay h.0

  pub suffixes_go : (s : State) (xs : SuffixTrees) (u : State) (ps : List Step) → TypesSuffixes s xs u ps → Goes s u
  suffixes_go s NoSuffixes u ps h = stay h.0
  suffixes_go s (Suffixes x xs) u ps h = go (suffix_goes s x h.0 h.1 h.2) (go (suffixes_go h.0 xs h.3.0 h.3.1 h.3.2) (stay h.3.3.0))

  -- a prototype's parameters have a scope of their own
  pub suffix_goes : (s : State) (x : SuffixTree) (u : State) (p : Step) → TypesSuffix s x u p → Goes s u
  suffix_goes s (ArraySuffix l size) u p h = go (maybe_goes s size h.0 h.1 h.2) (stay h.3.0)
  suffix_goes s (NameList l names) u p h = stay h.0
  suffix_goes s (NoParameters l) u p h = stay h.0
  suffix_goes s (Prototype l ps more) u p h = λ k. subst (Follows s) h.3.0 (left_follows s h.0 k (parameters_go (entered s) (stands_alone ps more) 0 ps h.0 h.1 h.2 (entered_sound s k)))

  pub parameters_go : (s : State) (alone : Bool) (index : ℕ) (ps : ParameterTrees) (u : State) (qs : List NamedParameter) → TypesParameters s alone index ps u qs → GoesOn s u
  parameters_go s alone index NoParameter u qs h k = let f = stay h.0 k in f.extends
  parameters_go s alone index (Parameters p ps) u qs h k =
      let a = parameter_goes s alone index p h.0 h.1 h.2 k in
      let b = parameters_go h.0 alone (index + 1) ps h.3.0 h.3.1 h.3.2 a.sound in
      subst (Extends s) h.3.3.0 (then_extends s h.0 h.3.0 a b)

  parameter_goes : (s : State) (alone : Bool) (index : ℕ) (p : ParameterTree) (u : State) (q : NamedParameter) → TypesParameter s alone index p u q → GoesOn s u
  parameter_goes s alone index (Parameter l specs d) u q h k =
      let a = specifiers_go s specs h.0 h.1 h.2 k in
      let b = parameter_shape_goes h.0 h.1.of d h.3.0 h.3.1 h.3.2 a.0.sound in
      let f = parameter_extends h.3.0 l index h.1.classes h.3.1.name (adjusted h.3.1.of) b.0.sound (λ n m. adjusted_apart n h.3.1.of (b.1 n (a.1 n (unnamed_before h.0 h.3.0 b.0 n m)))) (adjusted_elements h.3.0.tags h.3.1.of) in
      subst (Extends s) h.3.3.1.0 (then_extends s h.3.0 (with_parameter h.3.0 l index h.1.classes h.3.1.name (adjusted h.3.1.of)) (let g = then_follows s h.0 h.3.0 a.0 b.0 in g.extends) f)

  parameter_shape_goes : (s : State) (base : CType) (d : MaybeDeclarator) (u : State) (p : Shaped) → TypesParameterShape s base d u p → IsSound s → Follows s u × Shapes base p.of
  parameter_shape_goes s base NoDeclarator u p h k = (subst (Follows s) h.0 (same_follows s k), subst (λ (p : Shaped). Shapes base p.of) h.1 (λ n e. e))
  parameter_shape_goes s base (ADeclarator d) u p h k = (
    subst (Follows s) h.3.1.0 (declarator_goes s d h.0 h.1 h.2 k),
    subst (λ (p : Shaped). Shapes base p.of) h.3.1.1 (λ n e. formed_apart n h.1.steps base e),
  )

-- the type that specifiers and a declarator declare
pub declared_goes : (s : State) (specs : SpecifiersTree) (d : DeclaratorTree) (u : State) (of : CType) → TypesDeclared s specs d u of → Goes s u
declared_goes s specs d u of h k =
    let a = specifiers_go s specs h.0 h.1 h.2 k in
    let b = shape_goes h.0 h.1.of (ADeclarator d) h.3.0 h.3.1 h.3.2 a.0.sound in
    subst (Follows s) h.3.3.0 (then_follows s h.0 h.3.0 a.0 b.0)
