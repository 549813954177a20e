-- The texts of trees are those of the tokens that the trees are spelled by.
use Rattle.std.proofs.Common.{◌≡◌, ℕ, ◌++◌, Bool, true, false, ◌&&◌, ◌||◌, Option, Some, None, List, [], ◌∷◌, flat_map, drop, refl, sym, ap, ◌∙◌, append_assoc}
use Rattle.c_ast.specs.declared.specifier.Qualifier.{Qualifier}
use Rattle.c_ast.specs.Lexemes.{Lexeme, Keyword, Sign}
use Rattle.c_ast.specs.Marks.{Mark, Tok, tokens_of}
use Rattle.c_ast.specs.Spell.{spell}
use Rattle.c_ast.specs.Operators.{binary_sign, assign_sign, prefix_sign, postfix_sign, member_sign, record_word}
use Rattle.c_ast.specs.Printed.{token_text, spaced, printed}
use Rattle.c_ast.specs.Trees.{ExprTree, Name, Integer, Character, Text, Enclosed, Index, Call, Member, Postfix, Prefix, SizeofExpr, SizeofType, Cast, Binary, Conditional, Assign, Comma, ExprTrees, NoExprs, Exprs, MaybeExpr, NoExpr, AnExpr, TypeNameTree, TypeNamed, SpecifiersTree, Specified, SpecifierTree, Stored, Qualified, Basic, Record, RecordTag, Enum, EnumTag, NamedType, SpecifierTrees, NoSpecifiers, Specifiers, MemberTree, Members, MemberTrees, NoMembers, MoreMembers, FieldTree, Field, FieldTrees, NoFields, Fields, EnumeratorTree, Enumerator, EnumeratorTrees, NoEnumerators, Enumerators, DeclaratorTree, Declarator, MaybeDeclarator, NoDeclarator, ADeclarator, CoreTree, Named, Inner, Omitted, SuffixTree, ArraySuffix, Prototype, NameList, NoParameters, SuffixTrees, NoSuffixes, Suffixes, ParameterTree, Parameter, ParameterTrees, NoParameter, Parameters, InitialiserTree, ByExpr, Braced, InitialiserTrees, NoInitialisers, Initialisers, InitTree, DeclarationTree, StatementTree, Label, Case, Default, Expression, Compound, If, IfElse, Switch, While, Do, For, Goto, Continue, Break, Return, StatementTrees, NoStatements, Statements, BlockTree, Block, ExternalTree, Function, Declares, Empty, UnitTree}
use Rattle.c_ast.specs.ExprMarks.{sign, texts_then, qualifiers_then, pointers_then, more_names_then, names_then, tag_then, end_then, dots_then, says_type, has_typedef, is_own, declared_name, maybe_name, put_then, closed_then, asked_then, expr, sequence, more_sequence, arguments, more_arguments, maybe_expr, expr_behind, type_name, specifiers, specifier_list, specifier, members, member, fields, more_fields, field, enumerators, more_enumerators, enumerator, maybe_declarator, declarator, core, suffixes, suffix, parameters, more_parameters, parameter}
use Rattle.c_ast.specs.UnitMarks.{initialiser, initialisers, more_initialisers, maybe_initialiser, whole_declarator, init, more_inits, inits, declaration, declarations, statement, statements, block, function_body, maybe_specifiers, maybe_typedef, external, externals}
use Rattle.c_ast.specs.TreeTexts.{behind_comma, behind_text, block_text, core_text, declaration_text, declarator_text, dots_text, end_text, enumerator_text, enumerators_text, expr_text, external_text, field_text, fields_text, init_text, initialiser_text, initialisers_text, listed, literal_text, maybe_declarator_text, maybe_expr_text, maybe_initialiser_text, maybe_specifiers_text, member_text, members_text, more_enumerators_text, more_fields_text, more_initialisers_text, more_parameters_text, more_sequence_text, name_text, parameter_text, parameters_text, pointer_text, qualifier_text, sequence_text, sign_text, specifier_list_text, specifier_text, specifiers_text, statement_text, statements_text, suffix_text, suffixes_text, tag_text, test_text, type_name_text, word_text}

-- the text of the marks' tokens
abbrev pub text : List Mark → List ℕ
text ms = flat_map token_text (tokens_of ms)

-- what stands behind s begins with t
and_then : (s t z : List ℕ) {x y : List ℕ} → x ≡ s ++ y → y ≡ t ++ z → x ≡ s ++ t ++ z
and_then s t z p q = p ∙ ap (λ w. s ++ w) q ∙ sym (append_assoc s t z)

-- ---- what stands alone

spell_texts : (bs : List (List ℕ)) (r : List Mark) → text (texts_then bs r) ≡ flat_map literal_text bs ++ text r
spell_texts [] r = refl
spell_texts (b ∷ bs) r = and_then (literal_text b) _ _ refl (spell_texts bs r)

spell_qualifiers : (qs : List Qualifier) (r : List Mark) → text (qualifiers_then qs r) ≡ flat_map qualifier_text qs ++ text r
spell_qualifiers [] r = refl
spell_qualifiers (q ∷ qs) r = and_then (qualifier_text q) _ _ refl (spell_qualifiers qs r)

spell_pointers : (ps : List (List Qualifier)) (r : List Mark) → text (pointers_then ps r) ≡ flat_map pointer_text ps ++ text r
spell_pointers [] r = refl
spell_pointers (qs ∷ ps) r = and_then _ _ _ (and_then (sign_text 11) _ _ refl (spell_qualifiers qs _)) (spell_pointers ps r)

spell_more_names : (ns : List (List ℕ)) (r : List Mark) → text (more_names_then ns r) ≡ flat_map (behind_comma name_text) ns ++ text (sign 3 r)
spell_more_names [] r = refl
spell_more_names (n ∷ ns) r = and_then _ _ _ (and_then (sign_text 45) (name_text n) _ refl refl) (spell_more_names ns r)

spell_names : (ns : List (List ℕ)) (r : List Mark) → text (names_then ns r) ≡ listed name_text ns ++ text (sign 3 r)
spell_names [] r = refl
spell_names (n ∷ ns) r = and_then (name_text n) _ _ refl (spell_more_names ns r)

spell_tag : (tag : Option (List ℕ)) (r : List Mark) → text (tag_then tag r) ≡ tag_text tag ++ text r
spell_tag None r = refl
spell_tag (Some n) r = refl

spell_end : (comma : Bool) (r : List Mark) → text (end_then comma r) ≡ end_text comma ++ text r
spell_end true r = and_then (sign_text 45) (sign_text 5) _ refl refl
spell_end false r = refl

spell_dots : (more : Bool) (r : List Mark) → text (dots_then more r) ≡ dots_text more ++ text r
spell_dots true r = and_then _ (sign_text 3) _ (and_then (sign_text 45) (sign_text 33) _ refl refl) refl
spell_dots false r = refl

spell_put : (n : Option (List ℕ)) (typedef : Bool) (r : List Mark) → text (put_then n typedef r) ≡ text r
spell_put None typedef r = refl
spell_put (Some n) typedef r = refl

spell_closed : (own : Bool) (r : List Mark) → text (closed_then own r) ≡ text r
spell_closed true r = refl
spell_closed false r = refl

spell_asked : (free answer : Bool) (r : List Mark) → text (asked_then free answer r) ≡ text r
spell_asked true answer r = refl
spell_asked false answer r = refl

-- ---- trees

mutual
  spell_expr : (e : ExprTree) (r : List Mark) → text (expr e r) ≡ expr_text e ++ text r
  spell_expr (Name l n) r = refl
  spell_expr (Integer l v k) r = refl
  spell_expr (Character l v) r = refl
  spell_expr (Text l bs) r = spell_texts bs r
  spell_expr (Enclosed l e) r = and_then _ (sign_text 3) _ (and_then (sign_text 2) _ _ refl (spell_expr e _)) refl
  spell_expr (Index l a i) r = and_then _ (sign_text 1) _ (and_then _ _ _ (and_then _ (sign_text 0) _ (spell_expr a _) refl) (spell_expr i _)) refl
  spell_expr (Call l f es) r = and_then _ (sign_text 3) _ (and_then _ _ _ (and_then _ (sign_text 2) _ (spell_expr f _) refl) (spell_arguments es r)) refl
  spell_expr (Member l op a n) r = and_then _ (name_text n) _ (and_then _ (sign_text (member_sign op)) _ (spell_expr a _) refl) refl
  spell_expr (Postfix l op a) r = and_then _ (sign_text (postfix_sign op)) _ (spell_expr a _) refl
  spell_expr (Prefix l op a) r = and_then (sign_text (prefix_sign op)) _ _ refl (spell_expr a r)
  spell_expr (SizeofExpr l a) r = and_then (word_text 22) _ _ refl (spell_expr a r)
  spell_expr (SizeofType l t) r = and_then _ (sign_text 3) _ (and_then _ _ _ (and_then (word_text 22) (sign_text 2) _ refl refl) (spell_type_name t _)) refl
  spell_expr (Cast l t a) r = and_then _ _ _ (and_then _ (sign_text 3) _ (and_then (sign_text 2) _ _ refl (spell_type_name t _)) refl) (spell_expr a r)
  spell_expr (Binary l op a b) r = and_then _ _ _ (and_then _ (sign_text (binary_sign op)) _ (spell_expr a _) refl) (spell_expr b r)
  spell_expr (Conditional l a b c) r = and_then _ _ _ (and_then _ (sign_text 31) _ (and_then _ _ _ (and_then _ (sign_text 30) _ (spell_expr a _) refl) (spell_expr b _)) refl) (spell_expr c r)
  spell_expr (Assign l op a b) r = and_then _ _ _ (and_then _ (sign_text (assign_sign op)) _ (spell_expr a _) refl) (spell_expr b r)
  spell_expr (Comma l es) r = spell_sequence es r

  spell_sequence : (es : ExprTrees) (r : List Mark) → text (sequence es r) ≡ sequence_text es ++ text r
  spell_sequence NoExprs r = refl
  spell_sequence (Exprs e es) r = and_then _ _ _ (spell_expr e _) (spell_more_sequence es r)

  spell_more_sequence : (es : ExprTrees) (r : List Mark) → text (more_sequence es r) ≡ more_sequence_text es ++ text r
  spell_more_sequence NoExprs r = refl
  spell_more_sequence (Exprs e es) r = and_then _ _ _ (and_then (sign_text 45) _ _ refl (spell_expr e _)) (spell_more_sequence es r)

  spell_arguments : (es : ExprTrees) (r : List Mark) → text (arguments es r) ≡ sequence_text es ++ text (sign 3 r)
  spell_arguments NoExprs r = refl
  spell_arguments (Exprs e es) r = and_then _ _ _ (spell_expr e _) (spell_more_arguments es r)

  spell_more_arguments : (es : ExprTrees) (r : List Mark) → text (more_arguments es r) ≡ more_sequence_text es ++ text (sign 3 r)
  spell_more_arguments NoExprs r = refl
  spell_more_arguments (Exprs e es) r = and_then _ _ _ (and_then (sign_text 45) _ _ refl (spell_expr e _)) (spell_more_arguments es r)

  spell_maybe : (e : MaybeExpr) (r : List Mark) → text (maybe_expr e r) ≡ maybe_expr_text e ++ text r
  spell_maybe NoExpr r = refl
  spell_maybe (AnExpr e) r = spell_expr e r

  spell_behind : (k : ℕ) (e : MaybeExpr) (r : List Mark) → text (expr_behind k e r) ≡ behind_text k e ++ text r
  spell_behind k NoExpr r = refl
  spell_behind k (AnExpr e) r = and_then (sign_text k) _ _ refl (spell_expr e r)

  spell_type_name : (t : TypeNameTree) (r : List Mark) → text (type_name t r) ≡ type_name_text t ++ text r
  spell_type_name (TypeNamed l s d) r = and_then _ _ _ (spell_specifiers s _) (spell_maybe_declarator true d r)

  spell_specifiers : (s : SpecifiersTree) (r : List Mark) → text (specifiers s r) ≡ specifiers_text s ++ text r
  spell_specifiers (Specified l ss) r = spell_specifier_list false ss r

  spell_specifier_list : (typed : Bool) (ss : SpecifierTrees) (r : List Mark) → text (specifier_list typed ss r) ≡ specifier_list_text ss ++ text r
  spell_specifier_list typed NoSpecifiers r = refl
  spell_specifier_list typed (Specifiers s ss) r = and_then _ _ _ (spell_specifier s _) (spell_specifier_list (typed || says_type s) ss r)

  spell_specifier : (s : SpecifierTree) (r : List Mark) → text (specifier s r) ≡ specifier_text s ++ text r
  spell_specifier (Stored l s) r = refl
  spell_specifier (Qualified l q) r = refl
  spell_specifier (Basic l b) r = refl
  spell_specifier (Record l k tag ms) r = and_then _ (sign_text 5) _ (and_then _ _ _ (and_then _ (sign_text 4) _ (and_then (word_text (record_word k)) _ _ refl (spell_tag tag _)) refl) (spell_members ms r)) refl
  spell_specifier (RecordTag l k n) r = and_then (word_text (record_word k)) (name_text n) _ refl refl
  spell_specifier (Enum l tag es comma) r = and_then _ _ _ (and_then _ _ _ (and_then _ (sign_text 4) _ (and_then (word_text 10) _ _ refl (spell_tag tag _)) refl) (spell_enumerators es comma r)) (spell_end comma r)
  spell_specifier (EnumTag l n) r = and_then (word_text 10) (name_text n) _ refl refl
  spell_specifier (NamedType l n) r = refl

  spell_members : (ms : MemberTrees) (r : List Mark) → text (members ms r) ≡ members_text ms ++ text (sign 5 r)
  spell_members NoMembers r = refl
  spell_members (MoreMembers m ms) r = and_then _ _ _ (spell_member m _) (spell_members ms r)

  spell_member : (m : MemberTree) (r : List Mark) → text (member m r) ≡ member_text m ++ text r
  spell_member (Members l s fs) r = and_then _ (sign_text 32) _ (and_then _ _ _ (spell_specifiers s _) (spell_fields fs r)) refl

  spell_fields : (fs : FieldTrees) (r : List Mark) → text (fields fs r) ≡ fields_text fs ++ text (sign 32 r)
  spell_fields NoFields r = refl
  spell_fields (Fields f fs) r = and_then _ _ _ (spell_field f _) (spell_more_fields fs r)

  spell_more_fields : (fs : FieldTrees) (r : List Mark) → text (more_fields fs r) ≡ more_fields_text fs ++ text (sign 32 r)
  spell_more_fields NoFields r = refl
  spell_more_fields (Fields f fs) r = and_then _ _ _ (and_then (sign_text 45) _ _ refl (spell_field f _)) (spell_more_fields fs r)

  spell_field : (f : FieldTree) (r : List Mark) → text (field f r) ≡ field_text f ++ text r
  spell_field (Field l d w) r = and_then _ _ _ (spell_maybe_declarator false d _) (spell_behind 31 w r)

  spell_enumerators : (es : EnumeratorTrees) (comma : Bool) (r : List Mark) → text (enumerators es comma r) ≡ enumerators_text es ++ text (end_then comma r)
  spell_enumerators NoEnumerators comma r = refl
  spell_enumerators (Enumerators e es) comma r = and_then _ _ _ (spell_enumerator e _) (spell_more_enumerators es comma r)

  spell_more_enumerators : (es : EnumeratorTrees) (comma : Bool) (r : List Mark) → text (more_enumerators es comma r) ≡ more_enumerators_text es ++ text (end_then comma r)
  spell_more_enumerators NoEnumerators comma r = refl
  spell_more_enumerators (Enumerators e es) comma r = and_then _ _ _ (and_then (sign_text 45) _ _ refl (spell_enumerator e _)) (spell_more_enumerators es comma r)

  spell_enumerator : (e : EnumeratorTree) (r : List Mark) → text (enumerator e r) ≡ enumerator_text e ++ text r
  spell_enumerator (Enumerator l n v) r = and_then (name_text n) _ _ refl (spell_behind 34 v _)

  spell_maybe_declarator : (free : Bool) (d : MaybeDeclarator) (r : List Mark) → text (maybe_declarator free d r) ≡ maybe_declarator_text d ++ text r
  spell_maybe_declarator free NoDeclarator r = refl
  spell_maybe_declarator free (ADeclarator d) r = spell_declarator free false d r

  spell_declarator : (free outer : Bool) (d : DeclaratorTree) (r : List Mark) → text (declarator free outer d r) ≡ declarator_text d ++ text r
  spell_declarator free outer (Declarator l ps c ss) r = and_then _ _ _ (and_then _ _ _ (spell_pointers ps _) (spell_core free outer c _)) (spell_suffixes (outer && is_own c) ss r)

  spell_core : (free outer : Bool) (c : CoreTree) (r : List Mark) → text (core free outer c r) ≡ core_text c ++ text r
  spell_core free outer (Named n) r = spell_asked free true _
  spell_core free outer (Inner d) r = spell_asked free true _ ∙ and_then _ (sign_text 3) _ (and_then (sign_text 2) _ _ refl (spell_declarator free outer d _)) refl
  spell_core free outer Omitted r = spell_asked free false r

  spell_suffixes : (own : Bool) (ss : SuffixTrees) (r : List Mark) → text (suffixes own ss r) ≡ suffixes_text ss ++ text r
  spell_suffixes own NoSuffixes r = refl
  spell_suffixes own (Suffixes s ss) r = and_then _ _ _ (spell_suffix own s _) (spell_suffixes false ss r)

  spell_suffix : (own : Bool) (s : SuffixTree) (r : List Mark) → text (suffix own s r) ≡ suffix_text s ++ text r
  spell_suffix own (ArraySuffix l e) r = and_then _ (sign_text 1) _ (and_then (sign_text 0) _ _ refl (spell_maybe e _)) refl
  spell_suffix own (Prototype l ps more) r = (and_then _ _ _ (and_then (sign_text 2) _ _ refl (spell_parameters ps more _)) (spell_dots more _)) ∙ ap (λ t. suffix_text (Prototype l ps more) ++ t) (spell_closed own r)
  spell_suffix own (NameList l ns) r = (and_then _ (sign_text 3) _ (and_then (sign_text 2) _ _ refl (spell_names ns _)) refl) ∙ ap (λ t. suffix_text (NameList l ns) ++ t) (spell_closed own r)
  spell_suffix own (NoParameters l) r = (and_then (sign_text 2) (sign_text 3) _ refl refl) ∙ ap (λ t. suffix_text (NoParameters l) ++ t) (spell_closed own r)

  spell_parameters : (ps : ParameterTrees) (more : Bool) (r : List Mark) → text (parameters ps more r) ≡ parameters_text ps ++ text (dots_then more r)
  spell_parameters NoParameter more r = refl
  spell_parameters (Parameters p ps) more r = and_then _ _ _ (spell_parameter p _) (spell_more_parameters ps more r)

  spell_more_parameters : (ps : ParameterTrees) (more : Bool) (r : List Mark) → text (more_parameters ps more r) ≡ more_parameters_text ps ++ text (dots_then more r)
  spell_more_parameters NoParameter more r = refl
  spell_more_parameters (Parameters p ps) more r = and_then _ _ _ (and_then (sign_text 45) _ _ refl (spell_parameter p _)) (spell_more_parameters ps more r)

  spell_parameter : (p : ParameterTree) (r : List Mark) → text (parameter p r) ≡ parameter_text p ++ text r
  spell_parameter (Parameter l s d) r = (and_then _ _ _ (spell_specifiers s _) (spell_maybe_declarator true d _)) ∙ ap (λ t. parameter_text (Parameter l s d) ++ t) (spell_put (maybe_name d) (has_typedef s) r)

mutual
  spell_initialiser : (i : InitialiserTree) (r : List Mark) → text (initialiser i r) ≡ initialiser_text i ++ text r
  spell_initialiser (ByExpr l e) r = spell_expr e r
  spell_initialiser (Braced l is comma) r = and_then _ _ _ (and_then (sign_text 4) _ _ refl (spell_initialisers is comma r)) (spell_end comma r)

  spell_initialisers : (is : InitialiserTrees) (comma : Bool) (r : List Mark) → text (initialisers is comma r) ≡ initialisers_text is ++ text (end_then comma r)
  spell_initialisers NoInitialisers comma r = refl
  spell_initialisers (Initialisers i is) comma r = and_then _ _ _ (spell_initialiser i _) (spell_more_initialisers is comma r)

  spell_more_initialisers : (is : InitialiserTrees) (comma : Bool) (r : List Mark) → text (more_initialisers is comma r) ≡ more_initialisers_text is ++ text (end_then comma r)
  spell_more_initialisers NoInitialisers comma r = refl
  spell_more_initialisers (Initialisers i is) comma r = and_then _ _ _ (and_then (sign_text 45) _ _ refl (spell_initialiser i _)) (spell_more_initialisers is comma r)

spell_maybe_initialiser : (i : Option InitialiserTree) (r : List Mark) → text (maybe_initialiser i r) ≡ maybe_initialiser_text i ++ text r
spell_maybe_initialiser None r = refl
spell_maybe_initialiser (Some i) r = and_then (sign_text 34) _ _ refl (spell_initialiser i r)

spell_whole : (d : DeclaratorTree) (typedef : Bool) (r : List Mark) → text (whole_declarator d typedef r) ≡ declarator_text d ++ text r
spell_whole d typedef r = spell_declarator false true d _ ∙ ap (λ t. declarator_text d ++ t) (spell_put (declared_name d) typedef r)

spell_init : (typedef : Bool) (i : InitTree) (r : List Mark) → text (init typedef i r) ≡ init_text i ++ text r
spell_init typedef i r = and_then _ _ _ (spell_whole i.declarator typedef _) (spell_maybe_initialiser i.initialiser r)

spell_more_inits : (typedef : Bool) (is : List InitTree) (r : List Mark) → text (more_inits typedef is r) ≡ flat_map (behind_comma init_text) is ++ text (sign 32 r)
spell_more_inits typedef [] r = refl
spell_more_inits typedef (i ∷ is) r = and_then _ _ _ (and_then (sign_text 45) _ _ refl (spell_init typedef i _)) (spell_more_inits typedef is r)

spell_inits : (typedef : Bool) (is : List InitTree) (r : List Mark) → text (inits typedef is r) ≡ listed init_text is ++ text (sign 32 r)
spell_inits typedef [] r = refl
spell_inits typedef (i ∷ is) r = and_then _ _ _ (spell_init typedef i _) (spell_more_inits typedef is r)

spell_declaration : (d : DeclarationTree) (r : List Mark) → text (declaration d r) ≡ declaration_text d ++ text r
spell_declaration d r = and_then _ (sign_text 32) _ (and_then _ _ _ (spell_specifiers d.specifiers _) (spell_inits (has_typedef d.specifiers) d.declarators r)) refl

spell_declarations : (ds : List DeclarationTree) (r : List Mark) → text (declarations ds r) ≡ flat_map declaration_text ds ++ text r
spell_declarations [] r = refl
spell_declarations (d ∷ ds) r = and_then _ _ _ (spell_declaration d _) (spell_declarations ds r)

-- an expression in parentheses behind a word
spell_test : (k : ℕ) (e : ExprTree) (r : List Mark) → text (Tok (Keyword k) ∷ Tok (Sign 2) ∷ expr e (Tok (Sign 3) ∷ r)) ≡ test_text k e ++ text r
spell_test k e r = and_then _ (sign_text 3) _ (and_then _ _ _ (and_then (word_text k) (sign_text 2) _ refl refl) (spell_expr e _)) refl

mutual
  spell_statement : (s : StatementTree) (r : List Mark) → text (statement s r) ≡ statement_text s ++ text r
  spell_statement (Label l n s) r = and_then _ _ _ (and_then (name_text n) (sign_text 31) _ refl refl) (spell_statement s r)
  spell_statement (Case l e s) r = and_then _ _ _ (and_then _ (sign_text 31) _ (and_then (word_text 2) _ _ refl (spell_expr e _)) refl) (spell_statement s r)
  spell_statement (Default l s) r = and_then _ _ _ (and_then (word_text 6) (sign_text 31) _ refl refl) (spell_statement s r)
  spell_statement (Expression l e) r = and_then _ (sign_text 32) _ (spell_maybe e _) refl
  spell_statement (Compound l b) r = spell_block b r
  spell_statement (If l e s) r = and_then _ _ _ (spell_test 15 e _) (spell_statement s _)
  spell_statement (IfElse l e s t) r = and_then _ _ _ (and_then _ (word_text 9) _ (and_then _ _ _ (spell_test 15 e _) (spell_statement s _)) refl) (spell_statement t r)
  spell_statement (Switch l e s) r = and_then _ _ _ (spell_test 25 e _) (spell_statement s r)
  spell_statement (While l e s) r = and_then _ _ _ (spell_test 31 e _) (spell_statement s r)
  spell_statement (Do l s e) r = and_then _ (sign_text 32) _ (and_then _ _ _ (and_then (word_text 7) _ _ refl (spell_statement s _)) (spell_test 31 e _)) refl
  spell_statement (For l a b c s) r = and_then _ _ _ (and_then _ (sign_text 3) _ (and_then _ _ _ (and_then _ (sign_text 32) _ (and_then _ _ _ (and_then _ (sign_text 32) _ (and_then _ _ _ (and_then (word_text 13) (sign_text 2) _ refl refl) (spell_maybe a _)) refl) (spell_maybe b _)) refl) (spell_maybe c _)) refl) (spell_statement s r)
  spell_statement (Goto l n) r = and_then _ (sign_text 32) _ (and_then (word_text 14) (name_text n) _ refl refl) refl
  spell_statement (Continue l) r = and_then (word_text 5) (sign_text 32) _ refl refl
  spell_statement (Break l) r = and_then (word_text 1) (sign_text 32) _ refl refl
  spell_statement (Return l e) r = and_then _ (sign_text 32) _ (and_then (word_text 19) _ _ refl (spell_maybe e _)) refl

  spell_statements : (ss : StatementTrees) (r : List Mark) → text (statements ss r) ≡ statements_text ss ++ text r
  spell_statements NoStatements r = refl
  spell_statements (Statements s ss) r = and_then _ _ _ (spell_statement s _) (spell_statements ss r)

  spell_block : (b : BlockTree) (r : List Mark) → text (block b r) ≡ block_text b ++ text r
  spell_block (Block l ds ss) r = and_then _ (sign_text 5) _ (and_then _ _ _ (and_then (sign_text 4) _ _ refl (spell_declarations ds _)) (spell_statements ss _)) refl

spell_body : (b : BlockTree) (r : List Mark) → text (function_body b r) ≡ block_text b ++ text r
spell_body (Block l ds ss) r = and_then _ (sign_text 5) _ (and_then _ _ _ (and_then (sign_text 4) _ _ refl (spell_declarations ds _)) (spell_statements ss _)) refl

spell_maybe_specifiers : (s : Option SpecifiersTree) (r : List Mark) → text (maybe_specifiers s r) ≡ maybe_specifiers_text s ++ text r
spell_maybe_specifiers None r = refl
spell_maybe_specifiers (Some s) r = spell_specifiers s r

spell_external : (x : ExternalTree) (r : List Mark) → text (external x r) ≡ external_text x ++ text r
spell_external (Function l s d ps b) r = and_then _ _ _ (and_then _ _ _ (and_then _ _ _ (spell_maybe_specifiers s _) (spell_whole d (maybe_typedef s) _)) (spell_declarations ps _)) (spell_body b r)
spell_external (Declares l d) r = spell_declaration d r
spell_external (Empty l) r = refl

spell_externals : (xs : List ExternalTree) → text (externals xs []) ≡ flat_map external_text xs
spell_externals [] = refl
spell_externals (x ∷ xs) = spell_external x _ ∙ ap (λ t. external_text x ++ t) (spell_externals xs)

-- the texts of a unit's external declarations are those of its tokens, and without the first blank the printed text
pub spell_unit : (u : UnitTree) → flat_map token_text (spell u) ≡ flat_map external_text u.externals
spell_unit u = spell_externals u.externals

pub first_blank : (ls : List Lexeme) → drop 1 (flat_map token_text ls) ≡ spaced ls
unfolding token_text
first_blank [] = refl
first_blank (l ∷ ls) = refl

pub unit_printed : (u : UnitTree) → drop 1 (flat_map external_text u.externals) ≡ printed u
unit_printed u = ap (drop 1) (sym (spell_unit u)) ∙ first_blank (spell u)
