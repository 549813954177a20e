-- What a reader of expressions, specifiers and declarators gives that looks at the next token or two and never goes back, for
-- trees up to a height. That it gives each piece, and nothing else, is a law (Exact).
-- Source: C89 3.3 to 3.5.
use Rattle.std.specs.Prelude.{◌+◌, ◌==◌, if◌then◌else◌, ◌&&◌, ◌||◌, not, nat_le, ℕ, zero, suc, Bool, true, false, Option, Some, None, List, [], ◌∷◌, length}
use Rattle.c_ast.specs.declared.operator.PrefixOperator.{PrefixOperator}
use Rattle.c_ast.specs.declared.specifier.RecordKind.{RecordKind}
use Rattle.c_ast.specs.declared.specifier.Qualifier.{Qualifier}
use Rattle.c_ast.specs.declared.specifier.Qualifier.TheVariants as qualifier
use Rattle.c_ast.specs.Lexemes.{Lexeme, Name, Keyword, Integer, Character, Text, Sign, Placed}
use Rattle.c_ast.specs.InForce.{InForce, put, is_typedef}
use Rattle.c_ast.specs.Marks.{IsSpecifier, IsSized, IsDeclarator, IsCore, IsSuffix, IsSign, lexemes, first_is, is_sign}
use Rattle.c_ast.specs.Operators.{level_of, operand_level, assignment_level, conditional_level, cast_level, unary_level}
use Rattle.c_ast.specs.ExprMarks.{says_type, has_typedef, is_own, maybe_name}
use Rattle.c_ast.specs.Levels.{rank, is_named, is_abstract}
use Rattle.c_ast.specs.Heights.{height}
use Rattle.c_ast.specs.Views.{exprs_of, specifier_list_of, members_of, fields_of, enumerators_of, suffixes_of, parameters_of}
use Rattle.c_ast.specs.Reach.{LinkKind, Index, Call, Select, Step, Operate, Question, Assign}
use Rattle.c_ast.specs.Trees.{ExprTree, Enclosed, Prefix, SizeofExpr, SizeofType, Cast, Comma, ExprTrees, NoExprs, MaybeExpr, NoExpr, AnExpr, TypeNameTree, TypeNamed, SpecifiersTree, Specified, SpecifierTree, Stored, Qualified, Basic, Record, RecordTag, Enum, EnumTag, NamedType, MemberTree, Members, MemberTrees, FieldTree, Field, FieldTrees, EnumeratorTree, Enumerator, EnumeratorTrees, DeclaratorTree, Declarator, MaybeDeclarator, NoDeclarator, ADeclarator, CoreTree, Named, Inner, Omitted, SuffixTree, ArraySuffix, Prototype, NameList, NoParameters, SuffixTrees, ParameterTree, Parameter, ParameterTrees}
use Rattle.c_ast.specs.Trees as tree
use Rattle.c_ast.specs.Signs.{open_bracket, close_bracket, open_parenthesis, close_parenthesis, open_brace, close_brace, star_sign, colon_sign, semicolon, ellipsis, equals_sign, comma_sign}
use Rattle.c_ast.specs.Keywords.{const_word, sizeof_word, volatile_word}
use Rattle.c_readings.specs.Links.{LinkTree, Indexed, Arguments, Member, Postfix, Operand, Choices, Value, linked, kind_at}
use Rattle.c_readings.specs.Words.{Word, StorageWord, QualifierWord, BasicWord, RecordWord, EnumWord, word_of, prefix_of}
use Rattle.c_readings.specs.Reading.{State, Read, gives, bind, answer, ask, here, tail, beyond, with_first, one_sign, one_name, put_state, open_state, close_state, all_of, commas}

-- readers of the trees that count in a height, up to a limit: expressions of a level, 1 or more, and whole ones, declarators
-- (free: the name may be left out; outer: no part of another), and lines of members
pub record Readers : Type 0 where
  pub limit : ℕ
  pub piece : ℕ → State → Read ExprTree
  pub whole : State → Read ExprTree
  pub declarator : Bool → Bool → State → Read DeclaratorTree
  pub member : State → Read MemberTree

-- at least one item, with commas between
abbrev pub some_commas : {A : Type 0} → (State → Read A) → State → Read (List A)
some_commas item s = bind (item s) (λ x t. bind (commas item t) (λ xs u. gives (x ∷ xs) u))

-- ---- specifiers

abbrev pub tag_or : Lexeme → State → State → Option (List ℕ) × State
tag_or (Name n) s t = (Some n, t)
tag_or (Keyword k) s t = (None, s)
tag_or (Integer v k) s t = (None, s)
tag_or (Character v) s t = (None, s)
tag_or (Text b) s t = (None, s)
tag_or (Sign k) s t = (None, s)

abbrev pub tag_on : List Placed → State → Option (List ℕ) × State
tag_on [] s = (None, s)
tag_on (t ∷ ts) s = tag_or t.lexeme s record { names = s.names; rest = ts }

-- a tag, if a name is next
abbrev pub tag : State → Option (List ℕ) × State
tag s = tag_on s.rest s

-- a tag that stands alone
abbrev pub bare : Option (List ℕ) → (List ℕ → SpecifierTree) → State → Read SpecifierTree
bare None f s = None
bare (Some n) f s = gives (f n) s

-- an expression behind this sign, if it is next
unfoldable pub piece_behind : Readers → ℕ → State → Read MaybeExpr
piece_behind R k s = ask (IsSign k) s (bind (R.piece conditional_level (beyond s)) (λ e t. gives (AnExpr e) t)) (gives NoExpr s)

unfoldable pub maybe_declarator : Readers → Bool → State → Read MaybeDeclarator
maybe_declarator R free s = ask IsDeclarator s (bind (R.declarator free false s) (λ d t. gives (ADeclarator d) t)) (gives NoDeclarator s)

-- a declarator or a width
abbrev pub one_of_both : MaybeDeclarator → MaybeExpr → Bool
one_of_both NoDeclarator NoExpr = false
one_of_both NoDeclarator (AnExpr e) = true
one_of_both (ADeclarator d) w = true

unfoldable pub field : Readers → State → Read FieldTree
field R s =
    bind (maybe_declarator R false s) (λ d t. bind (piece_behind R colon_sign t) (λ w u.
    if one_of_both d w then gives (Field (here s) d w) u else None))

unfoldable pub fields : Readers → State → Read FieldTrees
fields R s = bind (some_commas (field R) s) (λ fs t. one_sign semicolon t (λ u. gives (fields_of fs) u))

-- behind `{`
unfoldable pub members : Readers → State → Read MemberTrees
members R s =
    bind (R.member s) (λ m t. bind (all_of (λ b u. not (answer (IsSign close_brace) u)) (λ b u. R.member u) (λ b x. b) true t) (λ ms u.
    one_sign close_brace u (λ v. gives (members_of (m ∷ ms)) v)))

abbrev pub record_behind : Readers → ℕ → RecordKind → Option (List ℕ) × State → Read SpecifierTree
record_behind R line k p =
    ask (IsSign open_brace) p.1
    (bind (members R (beyond p.1)) (λ ms t. gives (Record line k p.0 ms) t))
    (bare p.0 (λ n. RecordTag line k n) p.1)

-- behind `struct` or `union`
unfoldable pub record_of : Readers → ℕ → RecordKind → State → Read SpecifierTree
record_of R line k s = record_behind R line k (tag s)

unfoldable pub enumerator : Readers → State → Read EnumeratorTree
enumerator R s =
    one_name s (λ n t. bind (piece_behind R equals_sign t) (λ v u.
    gives (Enumerator (here s) n v) record { names = put u.names n false; rest = u.rest }))

-- behind a comma the list goes on, where this sign isn't next there
abbrev pub goes_on_without : ℕ → State → Bool
goes_on_without k s = answer (IsSign comma_sign) s && not (answer (IsSign k) (beyond s))

-- behind `{`, and whether a comma stands before `}`
unfoldable pub enumerators : Readers → State → Read (EnumeratorTrees × Bool)
enumerators R s =
    bind (enumerator R s) (λ e t. bind (all_of (λ b u. goes_on_without close_brace u) (λ b u. enumerator R (beyond u)) (λ b x. b) true t) (λ es u.
    ask (IsSign comma_sign) u
    (one_sign close_brace (beyond u) (λ v. gives (enumerators_of (e ∷ es), true) v))
    (one_sign close_brace u (λ v. gives (enumerators_of (e ∷ es), false) v))))

abbrev pub enumeration_behind : Readers → ℕ → Option (List ℕ) × State → Read SpecifierTree
enumeration_behind R line p =
    ask (IsSign open_brace) p.1
    (bind (enumerators R (beyond p.1)) (λ es t. gives (Enum line p.0 es.0 es.1) t))
    (bare p.0 (λ n. EnumTag line n) p.1)

-- behind `enum`
unfoldable pub enumeration_of : Readers → ℕ → State → Read SpecifierTree
enumeration_of R line s = enumeration_behind R line (tag s)

abbrev pub word_by : Readers → ℕ → Option Word → State → Read SpecifierTree
word_by R line None s = None
word_by R line (Some (StorageWord x)) s = gives (Stored line x) s
word_by R line (Some (QualifierWord q)) s = gives (Qualified line q) s
word_by R line (Some (BasicWord b)) s = gives (Basic line b) s
word_by R line (Some (RecordWord k)) s = record_of R line k s
word_by R line (Some EnumWord) s = enumeration_of R line s

abbrev pub specifier_by : Readers → ℕ → Lexeme → State → Read SpecifierTree
specifier_by R line (Name n) s = gives (NamedType line n) s
specifier_by R line (Keyword k) s = word_by R line (word_of k) s
specifier_by R line (Integer v k) s = None
specifier_by R line (Character v) s = None
specifier_by R line (Text b) s = None
specifier_by R line (Sign k) s = None

-- where one more specifier is next
unfoldable pub specifier : Readers → State → Read SpecifierTree
specifier R s = with_first s (specifier_by R (here s))

abbrev pub some_specifiers : ℕ → List SpecifierTree → State → Read SpecifiersTree
some_specifiers line [] s = None
some_specifiers line (x ∷ xs) s = gives (Specified line (specifier_list_of (x ∷ xs))) s

-- b: one of those before says a type
abbrev pub more_specifiers : Readers → Bool → State → Read (List SpecifierTree)
more_specifiers R b s = all_of (λ typed t. answer (IsSpecifier typed) t) (λ typed t. specifier R t) (λ typed x. typed || says_type x) b s

unfoldable pub specifiers : Readers → State → Read SpecifiersTree
specifiers R s = bind (more_specifiers R false s) (λ xs t. some_specifiers (here s) xs t)

abbrev pub abstract_or_none : MaybeDeclarator → Bool
abstract_or_none NoDeclarator = true
abstract_or_none (ADeclarator d) = is_abstract d

unfoldable pub type_name : Readers → State → Read TypeNameTree
type_name R s =
    bind (specifiers R s) (λ ss t. bind (maybe_declarator R true t) (λ d u.
    if abstract_or_none d then gives (TypeNamed (here s) ss d) u else None))

-- ---- declarators

-- the qualifier that the token is
abbrev pub qualifier_of : Lexeme → Option Qualifier
qualifier_of (Keyword k) = if k == const_word then Some qualifier.Const else (if k == volatile_word then Some qualifier.Volatile else None)
qualifier_of (Name n) = None
qualifier_of (Integer v k) = None
qualifier_of (Character v) = None
qualifier_of (Text b) = None
qualifier_of (Sign k) = None

abbrev pub qualified_by : Option Qualifier → List Qualifier × List Placed → List Placed → List Qualifier × List Placed
qualified_by None more ts = ([], ts)
qualified_by (Some q) more ts = (q ∷ more.0, more.1)

-- the qualifiers that are next, and the tokens behind them
unfoldable pub qualifiers_on : List Placed → List Qualifier × List Placed
qualifiers_on [] = ([], [])
qualifiers_on (t ∷ ts) = qualified_by (qualifier_of t.lexeme) (qualifiers_on ts) (t ∷ ts)

-- the qualifiers behind each `*` that is next, and the tokens behind them, no more than so many
unfoldable pub pointers_in : ℕ → List Placed → List (List Qualifier) × List Placed
pointers_in zero ts = ([], ts)
pointers_in (suc m) ts =
    if first_is (is_sign star_sign) (lexemes ts)
    then ((qualifiers_on (tail ts)).0 ∷ (pointers_in m (qualifiers_on (tail ts)).1).0, (pointers_in m (qualifiers_on (tail ts)).1).1)
    else ([], ts)

abbrev pub pointers_on : List Placed → List (List Qualifier) × List Placed
pointers_on ts = pointers_in (length ts) ts

abbrev pub core_by : Readers → Bool → Bool → Lexeme → State → Read CoreTree
core_by R free outer (Name n) s = gives (Named n) s
core_by R free outer (Sign k) s = if k == open_parenthesis then bind (R.declarator free outer s) (λ d t. one_sign close_parenthesis t (λ u. gives (Inner d) u)) else None
core_by R free outer (Keyword k) s = None
core_by R free outer (Integer v k) s = None
core_by R free outer (Character v) s = None
core_by R free outer (Text b) s = None

-- the declared name, or a declarator in parentheses, or nothing where the name is left out
unfoldable pub core : Readers → Bool → Bool → State → Read CoreTree
core R free outer s = if free && not (answer IsCore s) then gives Omitted s else with_first s (core_by R free outer)

-- behind `[`
unfoldable pub size : Readers → ℕ → State → Read SuffixTree
size R line s =
    ask (IsSign close_bracket) s
    (gives (ArraySuffix line NoExpr) (beyond s))
    (bind (R.piece conditional_level s) (λ e t. one_sign close_bracket t (λ u. gives (ArraySuffix line (AnExpr e)) u)))

abbrev pub is_plain : InForce → Lexeme → Bool
is_plain names (Name n) = not (is_typedef names n)
is_plain names (Keyword k) = false
is_plain names (Integer v k) = false
is_plain names (Character v) = false
is_plain names (Text b) = false
is_plain names (Sign k) = false

-- a name of a list, which declares a parameter
unfoldable pub parameter_name : State → Read (List ℕ)
parameter_name s = one_name s (λ n t. gives n record { names = put t.names n false; rest = t.rest })

-- names with commas between, and `)`
unfoldable pub name_list : State → Read (List (List ℕ))
name_list s = bind (some_commas parameter_name s) (λ ns t. one_sign close_parenthesis t (λ u. gives ns u))

-- with a name or without one and without a list of names
abbrev pub either : MaybeDeclarator → Bool
either NoDeclarator = true
either (ADeclarator d) = is_named d || is_abstract d

unfoldable pub parameter : Readers → State → Read ParameterTree
parameter R s =
    bind (specifiers R s) (λ ss t. bind (maybe_declarator R true t) (λ d u.
    if either d then gives (Parameter (here s) ss d) (put_state (maybe_name d) (has_typedef ss) u) else None))

-- parameters with commas between, perhaps `, ...`, and `)`
unfoldable pub parameters : Readers → State → Read (ParameterTrees × Bool)
parameters R s =
    bind (parameter R s) (λ p t. bind (all_of (λ b u. goes_on_without ellipsis u) (λ b u. parameter R (beyond u)) (λ b x. b) true t) (λ ps u.
    ask (IsSign comma_sign) u
    (one_sign ellipsis (beyond u) (λ v. one_sign close_parenthesis v (λ w. gives (parameters_of (p ∷ ps), true) w)))
    (one_sign close_parenthesis u (λ v. gives (parameters_of (p ∷ ps), false) v))))

-- behind `(`, where the scope is open
unfoldable pub parameter_list : Readers → ℕ → State → Read SuffixTree
parameter_list R line s =
    ask (IsSign close_parenthesis) s
    (gives (NoParameters line) (beyond s))
    (if first_is (is_plain s.names) (lexemes s.rest)
    then bind (name_list s) (λ ns t. gives (NameList line ns) t)
    else bind (parameters R s) (λ ps t. gives (Prototype line ps.0 ps.1) t))

-- own: its parameters' names are kept
unfoldable pub suffix : Readers → Bool → State → Read SuffixTree
suffix R own s =
    ask (IsSign open_bracket) s
    (size R (here s) (beyond s))
    (one_sign open_parenthesis s (λ t. bind (parameter_list R (here s) (open_state t)) (λ x u. gives x (close_state own u))))

unfoldable pub suffixes : Readers → Bool → State → Read SuffixTrees
suffixes R own s =
    bind (all_of (λ own t. answer IsSuffix t) (λ own t. suffix R own t) (λ own x. false) own s) (λ xs t. gives (suffixes_of xs) t)

-- ---- expressions

abbrev pub text_or : Lexeme → List (List ℕ) × List Placed → List Placed → List (List ℕ) × List Placed
text_or (Text b) more ts = (b ∷ more.0, more.1)
text_or (Name n) more ts = ([], ts)
text_or (Keyword k) more ts = ([], ts)
text_or (Integer v k) more ts = ([], ts)
text_or (Character v) more ts = ([], ts)
text_or (Sign k) more ts = ([], ts)

-- the texts that are next, and the tokens behind them
unfoldable pub texts_on : List Placed → List (List ℕ) × List Placed
texts_on [] = ([], [])
texts_on (t ∷ ts) = text_or t.lexeme (texts_on ts) (t ∷ ts)

abbrev pub prefixed_by : Readers → ℕ → Option PrefixOperator → State → Read ExprTree
prefixed_by R line None s = None
prefixed_by R line (Some op) s = bind (R.piece (operand_level op) s) (λ a t. gives (Prefix line op a) t)

-- behind `(`, where no type's name is next
unfoldable pub enclosed : Readers → ℕ → State → Read ExprTree
enclosed R line s = bind (R.whole s) (λ e t. one_sign close_parenthesis t (λ u. gives (Enclosed line e) u))

-- behind `(`, where a type's name is next
unfoldable pub cast : Readers → ℕ → State → Read ExprTree
cast R line s =
    bind (type_name R s) (λ n t. one_sign close_parenthesis t (λ u. bind (R.piece cast_level u) (λ a v. gives (Cast line n a) v)))

-- behind `sizeof`
unfoldable pub sized : Readers → ℕ → State → Read ExprTree
sized R line s =
    ask IsSized s
    (bind (type_name R (beyond s)) (λ n t. one_sign close_parenthesis t (λ u. gives (SizeofType line n) u)))
    (bind (R.piece unary_level s) (λ a t. gives (SizeofExpr line a) t))

abbrev pub signed_by : Readers → ℕ → ℕ → ℕ → State → Read ExprTree
signed_by R level line k s =
    if k == open_parenthesis
    then ask (IsSpecifier false) s (if nat_le level 13 then cast R line s else None) (enclosed R line s)
    else (if nat_le level 14 then prefixed_by R line (prefix_of k) s else None)

abbrev pub head_by : Readers → ℕ → ℕ → Lexeme → State → Read ExprTree
head_by R level line (Name n) s = if is_typedef s.names n then None else gives (tree.Name line n) s
head_by R level line (Integer v k) s = gives (tree.Integer line v k) s
head_by R level line (Character v) s = gives (tree.Character line v) s
head_by R level line (Text b) s = gives (tree.Text line (b ∷ (texts_on s.rest).0)) record { names = s.names; rest = (texts_on s.rest).1 }
head_by R level line (Keyword k) s = if k == sizeof_word && nat_le level unary_level then sized R line s else None
head_by R level line (Sign k) s = signed_by R level line k s

-- what stands before the first operator
unfoldable pub head : Readers → ℕ → State → Read ExprTree
head R level s = with_first s (head_by R level (here s))

-- behind `(` of a call
unfoldable pub arguments : Readers → State → Read ExprTrees
arguments R s =
    ask (IsSign close_parenthesis) s
    (gives NoExprs (beyond s))
    (bind (some_commas (R.piece assignment_level) s) (λ es t. one_sign close_parenthesis t (λ u. gives (exprs_of es) u)))

-- what stands behind the token of a kind
unfoldable pub link : Readers → LinkKind → State → Read LinkTree
link R Index s = bind (R.whole s) (λ i t. one_sign close_bracket t (λ u. gives (Indexed i) u))
link R Call s = bind (arguments R s) (λ es t. gives (Arguments es) t)
link R (Select op) s = one_name s (λ n t. gives (Member op n) t)
link R (Step op) s = gives (Postfix op) s
link R (Operate op) s = bind (R.piece (level_of op + 1) s) (λ b t. gives (Operand op b) t)
link R Question s = bind (R.whole s) (λ b t. one_sign colon_sign t (λ u. bind (R.piece conditional_level u) (λ c v. gives (Choices b c) v)))
link R (Assign op) s = bind (R.piece assignment_level s) (λ b t. gives (Value op b) t)

abbrev pub kind_on : ℕ → ℕ → List Placed → Option LinkKind
kind_on level rank [] = None
kind_on level rank (t ∷ ts) = kind_at level rank t.lexeme

abbrev pub chained : Readers → ℕ → ExprTree → Option LinkKind → State → (ExprTree → State → Read ExprTree) → Read ExprTree
chained R line a None s go = gives a s
chained R line a (Some k) s go =
    if nat_le (height a) R.limit then bind (link R k (beyond s)) (λ m t. go (linked line a m) t) else None

-- the links behind an expression, no more than so many
unfoldable pub chain : ℕ → Readers → ℕ → ℕ → ExprTree → State → Read ExprTree
chain zero R level line a s = None
chain (suc m) R level line a s = chained R line a (kind_on level (rank a) s.rest) s (λ b t. chain m R level line b t)

-- ---- one node higher than the readers reach

unfoldable pub piece_above : Readers → ℕ → State → Read ExprTree
piece_above R level s = bind (head R level s) (λ a t. chain (length t.rest + 1) R level (here s) a t)

unfoldable pub whole_above : Readers → State → Read ExprTree
whole_above R s =
    bind (piece_above R assignment_level s) (λ a t.
    ask (IsSign comma_sign) t
    (if nat_le (height a) R.limit then bind (commas (R.piece assignment_level) t) (λ es u. gives (Comma (here s) (exprs_of (a ∷ es))) u) else None)
    (gives a t))

abbrev pub declarator_behind : Readers → Bool → Bool → ℕ → List (List Qualifier) × List Placed → InForce → Read DeclaratorTree
declarator_behind R free outer line p names =
    bind (core R free outer record { names = names; rest = p.1 }) (λ c t. bind (suffixes R (outer && is_own c) t) (λ ss u.
    gives (Declarator line p.0 c ss) u))

unfoldable pub declarator_above : Readers → Bool → Bool → State → Read DeclaratorTree
declarator_above R free outer s = declarator_behind R free outer (here s) (pointers_on s.rest) s.names

unfoldable pub member_above : Readers → State → Read MemberTree
member_above R s = bind (specifiers R s) (λ ss t. bind (fields R t) (λ fs u. gives (Members (here s) ss fs) u))

abbrev pub no_readers : Readers
no_readers = record {
  limit = 0;
  piece = λ level s. None;
  whole = λ s. None;
  declarator = λ free outer s. None;
  member = λ s. None;
}

abbrev pub above : Readers → Readers
above R = record {
  limit = suc R.limit;
  piece = piece_above R;
  whole = whole_above R;
  declarator = declarator_above R;
  member = member_above R;
}

-- the readers of trees no higher than n
unfoldable pub readers : ℕ → Readers
readers zero = no_readers
readers (suc n) = above (readers n)
