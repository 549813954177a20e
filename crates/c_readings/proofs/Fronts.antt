-- The marks of a tree use up a front of the tokens.
use Rattle.std.proofs.Common.{◌≡◌, ◌≤◌, ◌+◌, ◌↔◌, ◌++◌, ◌-◌, ℕ, Bool, true, false, ◌&&◌, ◌||◌, Option, Some, None, List, [], ◌∷◌, length, drop, refl, sym, ap, ◌∙◌, append_assoc, drop_at, length-append, arith}
use Rattle.c_ast.specs.declared.specifier.Qualifier.{Qualifier}
use Rattle.c_ast.specs.Lexemes.{Lexeme, Name, Keyword, Integer, Character, Text, Sign, Placed}
use Rattle.c_ast.specs.InForce.{InForce, put, opened, closed, closed_kept}
use Rattle.c_ast.specs.Operators.{binary_sign, assign_sign, prefix_sign, postfix_sign, member_sign, storage_word, qualifier_word, basic_word, record_word}
use Rattle.c_ast.specs.Marks.{Mark, Test, Tok, Plain, Typed, Here, Ask, Put, Open, Close, Keep, Runs, IsSpecifier, IsSized, IsDeclarator, IsCore, IsSuffix, IsQualifier, IsText, IsSign, next_line}
use Rattle.c_ast.specs.ExprMarks as marks
use Rattle.c_ast.specs.ExprMarks.{says_type, has_typedef, is_own, maybe_name}
use Rattle.c_ast.specs.Trees.{ExprTree, Enclosed, Index, Call, Member, Postfix, Prefix, SizeofExpr, SizeofType, Cast, Binary, Conditional, Assign, Comma, ExprTrees, NoExprs, Exprs, MaybeExpr, NoExpr, AnExpr, TypeNameTree, TypeNamed, SpecifiersTree, Specified, SpecifierTree, Stored, Qualified, Basic, Record, RecordTag, Enum, EnumTag, NamedType, SpecifierTrees, NoSpecifiers, Specifiers, MemberTree, Members, MemberTrees, NoMembers, MoreMembers, FieldTree, Field, FieldTrees, NoFields, Fields, EnumeratorTree, Enumerator, EnumeratorTrees, NoEnumerators, Enumerators, DeclaratorTree, Declarator, MaybeDeclarator, NoDeclarator, ADeclarator, CoreTree, Named, Inner, Omitted, SuffixTree, ArraySuffix, Prototype, NameList, NoParameters, SuffixTrees, NoSuffixes, Suffixes, ParameterTree, Parameter, ParameterTrees, NoParameter, Parameters}
use Rattle.c_ast.specs.Trees as tree
use Rattle.c_ast.specs.Levels.{is_named}
use Rattle.c_readings.specs.Reading.{State, beyond, tail}
use Rattle.c_readings.specs.Exact.{RunsOn}
use Rattle.c_readings.specs.Fronts.{AreFronts}
use Rattle.c_readings.proofs.Steps.{beyond_runs, taken_used}

infixr 40 ◌▸◌
-- the marks behind run at an end of the tokens
record RunsBehind (r : List Mark) (ts : List Placed) : Type 0 where
  before : List Placed
  behind : List Placed
  names : InForce
  parts : ts ≡ before ++ behind
  runs : Runs r names behind

-- where marks with others behind run, these run at an end
record Front (f : List Mark → List Mark) : Type 0 where
  at : (r : List Mark) (names : InForce) (ts : List Placed) → Runs (f r) names ts → RunsBehind r ts

nothing : Front (λ r. r)
nothing = record { at = λ r names ts h. record { before = []; behind = ts; names = names; parts = refl; runs = h } }

further : (a us : List Placed) (r : List Mark) (ts : List Placed) → ts ≡ a ++ us → RunsBehind r us → RunsBehind r ts
further a us r ts e p = record { before = a ++ p.before; behind = p.behind; names = p.names; parts = e ∙ ap (λ z. a ++ z) p.parts ∙ sym (append_assoc a p.before p.behind); runs = p.runs }

◌▸◌ : {f g : List Mark → List Mark} → Front f → Front g → Front (λ r. f (g r))
◌▸◌ {f} {g} a b = record {
  at = λ r names ts h.
      let p = a.at (g r) names ts h in
      further p.before p.behind r ts p.parts (b.at r p.names p.behind p.runs);
}

-- ---- one mark

taken : (t : Placed) (rest : List Placed) (r : List Mark) (names : InForce) (ts : List Placed) → ts ≡ t ∷ rest → Runs r names rest → RunsBehind r ts
taken t rest r names ts e h = record { before = t ∷ []; behind = rest; names = names; parts = e; runs = h }

none_taken : (r : List Mark) (names : InForce) (ts : List Placed) → Runs r names ts → RunsBehind r ts
none_taken r names ts h = nothing.at r names ts h

tok : (l : Lexeme) → Front (λ r. Tok l ∷ r)
tok l = record { at = λ r names ts h. taken record { lexeme = l; line = h.0 } h.1 r names ts h.2 h.3 }

plain : (n : List ℕ) → Front (λ r. Plain n ∷ r)
plain n = record { at = λ r names ts h. taken record { lexeme = Name n; line = h.1 } h.2 r names ts h.3 h.4 }

typed : (n : List ℕ) → Front (λ r. Typed n ∷ r)
typed n = record { at = λ r names ts h. taken record { lexeme = Name n; line = h.1 } h.2 r names ts h.3 h.4 }

here : (l : ℕ) → Front (λ r. Here l ∷ r)
here l = record { at = λ r names ts h. none_taken r names ts h.1 }

ask : (q : Test) (b : Bool) → Front (λ r. Ask q b ∷ r)
ask q b = record { at = λ r names ts h. none_taken r names ts h.1 }

puts : (n : List ℕ) (b : Bool) → Front (λ r. Put n b ∷ r)
puts n b = record { at = λ r names ts h. none_taken r (put names n b) ts h }

opens : Front (λ r. Open ∷ r)
opens = record { at = λ r names ts h. none_taken r (opened names) ts h }

closes : Front (λ r. Close ∷ r)
closes = record { at = λ r names ts h. none_taken r (closed names) ts h }

keeps : Front (λ r. Keep ∷ r)
keeps = record { at = λ r names ts h. none_taken r (closed_kept names) ts h }

-- ---- what stands alone

texts : (bs : List (List ℕ)) → Front (marks.texts_then bs)
texts [] = ask IsText false
texts (b ∷ bs) = tok (Text b) ▸ texts bs

qualifiers : (qs : List Qualifier) → Front (marks.qualifiers_then qs)
qualifiers [] = ask IsQualifier false
qualifiers (q ∷ qs) = tok (Keyword (qualifier_word q)) ▸ qualifiers qs

pointers : (ps : List (List Qualifier)) → Front (marks.pointers_then ps)
pointers [] = ask (IsSign 11) false
pointers (qs ∷ ps) = tok (Sign 11) ▸ qualifiers qs ▸ pointers ps

more_names : (ns : List (List ℕ)) → Front (marks.more_names_then ns)
more_names [] = tok (Sign 3)
more_names (n ∷ ns) = tok (Sign 45) ▸ tok (Name n) ▸ puts n false ▸ more_names ns

names_listed : (ns : List (List ℕ)) → Front (marks.names_then ns)
names_listed [] = tok (Sign 3)
names_listed (n ∷ ns) = plain n ▸ puts n false ▸ more_names ns

tag : (o : Option (List ℕ)) → Front (marks.tag_then o)
tag None = nothing
tag (Some n) = tok (Name n)

ended : (comma : Bool) → Front (marks.end_then comma)
ended true = tok (Sign 45) ▸ tok (Sign 5)
ended false = tok (Sign 5)

dots : (more : Bool) → Front (marks.dots_then more)
dots true = tok (Sign 45) ▸ tok (Sign 33) ▸ tok (Sign 3)
dots false = tok (Sign 3)

maybe_puts : (o : Option (List ℕ)) (typedef : Bool) → Front (marks.put_then o typedef)
maybe_puts None typedef = nothing
maybe_puts (Some n) typedef = puts n typedef

scope_ends : (own : Bool) → Front (marks.closed_then own)
scope_ends true = keeps
scope_ends false = closes

asked : (free answer : Bool) → Front (marks.asked_then free answer)
asked true answer = ask IsCore answer
asked false answer = nothing

-- ---- trees

mutual
  expr : (e : ExprTree) → Front (marks.expr e)
  expr (tree.Name l n) = here l ▸ plain n
  expr (tree.Integer l v k) = here l ▸ tok (Integer v k)
  expr (tree.Character l v) = here l ▸ tok (Character v)
  expr (tree.Text l bs) = here l ▸ texts bs
  expr (Enclosed l e) = here l ▸ tok (Sign 2) ▸ expr e ▸ tok (Sign 3)
  expr (Index l a i) = here l ▸ expr a ▸ tok (Sign 0) ▸ expr i ▸ tok (Sign 1)
  expr (Call l f es) = here l ▸ expr f ▸ tok (Sign 2) ▸ arguments es
  expr (Member l op a n) = here l ▸ expr a ▸ tok (Sign (member_sign op)) ▸ tok (Name n)
  expr (Postfix l op a) = here l ▸ expr a ▸ tok (Sign (postfix_sign op))
  expr (Prefix l op a) = here l ▸ tok (Sign (prefix_sign op)) ▸ expr a
  expr (SizeofExpr l a) = here l ▸ tok (Keyword 22) ▸ ask IsSized false ▸ expr a
  expr (SizeofType l t) = here l ▸ tok (Keyword 22) ▸ ask IsSized true ▸ tok (Sign 2) ▸ type_name t ▸ tok (Sign 3)
  expr (Cast l t a) = here l ▸ tok (Sign 2) ▸ type_name t ▸ tok (Sign 3) ▸ expr a
  expr (Binary l op a b) = here l ▸ expr a ▸ tok (Sign (binary_sign op)) ▸ expr b
  expr (Conditional l a b c) = here l ▸ expr a ▸ tok (Sign 30) ▸ expr b ▸ tok (Sign 31) ▸ expr c
  expr (Assign l op a b) = here l ▸ expr a ▸ tok (Sign (assign_sign op)) ▸ expr b
  expr (Comma l es) = here l ▸ sequence es

  sequence : (es : ExprTrees) → Front (marks.sequence es)
  sequence NoExprs = nothing
  sequence (Exprs e es) = expr e ▸ more_sequence es

  more_sequence : (es : ExprTrees) → Front (marks.more_sequence es)
  more_sequence NoExprs = nothing
  more_sequence (Exprs e es) = tok (Sign 45) ▸ expr e ▸ more_sequence es

  arguments : (es : ExprTrees) → Front (marks.arguments es)
  arguments NoExprs = tok (Sign 3)
  arguments (Exprs e es) = expr e ▸ more_arguments es

  more_arguments : (es : ExprTrees) → Front (marks.more_arguments es)
  more_arguments NoExprs = tok (Sign 3)
  more_arguments (Exprs e es) = tok (Sign 45) ▸ expr e ▸ more_arguments es

  maybe_expr : (m : MaybeExpr) → Front (marks.maybe_expr m)
  maybe_expr NoExpr = nothing
  maybe_expr (AnExpr e) = expr e

  expr_behind : (k : ℕ) (m : MaybeExpr) → Front (marks.expr_behind k m)
  expr_behind k NoExpr = ask (IsSign k) false
  expr_behind k (AnExpr e) = tok (Sign k) ▸ expr e

  type_name : (t : TypeNameTree) → Front (marks.type_name t)
  type_name (TypeNamed l s d) = here l ▸ specifiers s ▸ maybe_declarator true d

  specifiers : (s : SpecifiersTree) → Front (marks.specifiers s)
  specifiers (Specified l ss) = here l ▸ ask (IsSpecifier false) true ▸ specifier_list false ss

  specifier_list : (said : Bool) (ss : SpecifierTrees) → Front (marks.specifier_list said ss)
  specifier_list said NoSpecifiers = ask (IsSpecifier said) false
  specifier_list said (Specifiers s ss) = ask (IsSpecifier said) true ▸ specifier s ▸ specifier_list (said || says_type s) ss

  specifier : (s : SpecifierTree) → Front (marks.specifier s)
  specifier (Stored l s) = here l ▸ tok (Keyword (storage_word s))
  specifier (Qualified l q) = here l ▸ tok (Keyword (qualifier_word q))
  specifier (Basic l b) = here l ▸ tok (Keyword (basic_word b))
  specifier (Record l k t ms) = here l ▸ tok (Keyword (record_word k)) ▸ tag t ▸ tok (Sign 4) ▸ members ms
  specifier (RecordTag l k n) = here l ▸ tok (Keyword (record_word k)) ▸ tok (Name n) ▸ ask (IsSign 4) false
  specifier (Enum l t es comma) = here l ▸ tok (Keyword 10) ▸ tag t ▸ tok (Sign 4) ▸ enumerators es comma
  specifier (EnumTag l n) = here l ▸ tok (Keyword 10) ▸ tok (Name n) ▸ ask (IsSign 4) false
  specifier (NamedType l n) = here l ▸ typed n

  members : (ms : MemberTrees) → Front (marks.members ms)
  members NoMembers = tok (Sign 5)
  members (MoreMembers m ms) = member m ▸ members ms

  member : (m : MemberTree) → Front (marks.member m)
  member (Members l s fs) = here l ▸ specifiers s ▸ fields fs

  fields : (fs : FieldTrees) → Front (marks.fields fs)
  fields NoFields = tok (Sign 32)
  fields (Fields f fs) = field f ▸ more_fields fs

  more_fields : (fs : FieldTrees) → Front (marks.more_fields fs)
  more_fields NoFields = tok (Sign 32)
  more_fields (Fields f fs) = tok (Sign 45) ▸ field f ▸ more_fields fs

  field : (f : FieldTree) → Front (marks.field f)
  field (Field l d w) = here l ▸ maybe_declarator false d ▸ expr_behind 31 w

  enumerators : (es : EnumeratorTrees) (comma : Bool) → Front (marks.enumerators es comma)
  enumerators NoEnumerators comma = ended comma
  enumerators (Enumerators e es) comma = enumerator e ▸ more_enumerators es comma

  more_enumerators : (es : EnumeratorTrees) (comma : Bool) → Front (marks.more_enumerators es comma)
  more_enumerators NoEnumerators comma = ended comma
  more_enumerators (Enumerators e es) comma = tok (Sign 45) ▸ enumerator e ▸ more_enumerators es comma

  enumerator : (e : EnumeratorTree) → Front (marks.enumerator e)
  enumerator (Enumerator l n v) = here l ▸ tok (Name n) ▸ expr_behind 34 v ▸ puts n false

  maybe_declarator : (free : Bool) (d : MaybeDeclarator) → Front (marks.maybe_declarator free d)
  maybe_declarator free NoDeclarator = ask IsDeclarator false
  maybe_declarator free (ADeclarator d) = ask IsDeclarator true ▸ declarator free false d

  declarator : (free outer : Bool) (d : DeclaratorTree) → Front (marks.declarator free outer d)
  declarator free outer (Declarator l ps c ss) = here l ▸ pointers ps ▸ core free outer c ▸ suffixes (outer && is_own c) ss

  core : (free outer : Bool) (c : CoreTree) → Front (marks.core free outer c)
  core free outer (Named n) = asked free true ▸ tok (Name n)
  core free outer (Inner d) = asked free true ▸ tok (Sign 2) ▸ declarator free outer d ▸ tok (Sign 3)
  core free outer Omitted = asked free false

  suffixes : (own : Bool) (ss : SuffixTrees) → Front (marks.suffixes own ss)
  suffixes own NoSuffixes = ask IsSuffix false
  suffixes own (Suffixes s ss) = suffix own s ▸ suffixes false ss

  suffix : (own : Bool) (s : SuffixTree) → Front (marks.suffix own s)
  suffix own (ArraySuffix l e) = here l ▸ tok (Sign 0) ▸ maybe_expr e ▸ tok (Sign 1)
  suffix own (Prototype l ps more) = here l ▸ tok (Sign 2) ▸ opens ▸ parameters ps more ▸ scope_ends own
  suffix own (NameList l ns) = here l ▸ tok (Sign 2) ▸ opens ▸ names_listed ns ▸ scope_ends own
  suffix own (NoParameters l) = here l ▸ tok (Sign 2) ▸ opens ▸ tok (Sign 3) ▸ scope_ends own

  parameters : (ps : ParameterTrees) (more : Bool) → Front (marks.parameters ps more)
  parameters NoParameter more = dots more
  parameters (Parameters p ps) more = parameter p ▸ more_parameters ps more

  more_parameters : (ps : ParameterTrees) (more : Bool) → Front (marks.more_parameters ps more)
  more_parameters NoParameter more = dots more
  more_parameters (Parameters p ps) more = tok (Sign 45) ▸ parameter p ▸ more_parameters ps more

  parameter : (p : ParameterTree) → Front (marks.parameter p)
  parameter (Parameter l s d) = here l ▸ specifiers s ▸ maybe_declarator true d ▸ maybe_puts (maybe_name d) (has_typedef s)

-- ---- marks that are of these tokens alone

exactly : List Placed → List Mark
exactly [] = []
exactly (t ∷ ts) = Here t.line ∷ Tok t.lexeme ∷ exactly ts

exactly_runs : (ts : List Placed) (names : InForce) → Runs (exactly ts) names ts
unfolding exactly
exactly_runs [] names = refl
exactly_runs (t ∷ ts) names = (refl, (t.line, ts, refl, exactly_runs ts names))

line_same : (t : Placed) (line : ℕ) (rest ts : List Placed) → next_line ts ≡ Some t.line → ts ≡ record { lexeme = t.lexeme; line = line } ∷ rest → line ≡ t.line
line_same t line rest ts h e = let f : Some line ≡ Some t.line = sym (ap next_line e) ∙ h in cc

exactly_these : (us : List Placed) (names : InForce) (ts : List Placed) → Runs (exactly us) names ts → ts ≡ us
unfolding exactly
exactly_these [] names ts h = h
exactly_these (t ∷ us) names ts h =
    h.1.2 ∙ ap (λ n. record { lexeme = t.lexeme; line = n } ∷ h.1.1) (line_same t h.1.0 h.1.1 ts h.0 h.1.2) ∙ ap (λ rest. t ∷ rest) (exactly_these us names h.1.1 h.1.3)

-- ---- fronts

end_dropped : (a us ts : List Placed) → ts ≡ a ++ us → us ≡ drop (length ts - length us) ts
end_dropped a us ts e =
    let n : length a ≡ length ts - length us = omega (arith, ap length e, length-append a us) in
    sym (ap (λ zs. drop (length ts - length us) zs) e ∙ drop_at a us (length ts - length us) n)

fronts : {A : Type 0} (spelled : A → List Mark → List Mark) → ((x : A) → Front (spelled x)) → AreFronts spelled
fronts spelled f s t x h =
    let p = (f x).at (exactly t.rest) s.names s.rest ((h (exactly t.rest)).1 (exactly_runs t.rest t.names)) in
    end_dropped p.before t.rest s.rest (p.parts ∙ ap (λ us. p.before ++ us) (exactly_these t.rest p.names p.behind p.runs))

pub expression_fronts : AreFronts marks.expr
expression_fronts = fronts marks.expr expr

pub type_name_fronts : AreFronts marks.type_name
type_name_fronts = fronts marks.type_name type_name

pub specifiers_fronts : AreFronts marks.specifiers
specifiers_fronts = fronts marks.specifiers specifiers

pub declarator_fronts : (free outer : Bool) → AreFronts (marks.declarator free outer)
declarator_fronts free outer = fronts (marks.declarator free outer) (declarator free outer)

-- ---- a declarator with a name has a token

-- where marks run and the tokens us behind them, there are as many tokens at least
no_more : {f : List Mark → List Mark} → Front f → (s : State) (us : List Placed) → RunsOn (f (exactly us)) s → length us ≤ length s.rest
no_more f s us h =
    let p = f.at (exactly us) s.names s.rest h in
    let e = exactly_these us p.names p.behind p.runs in
    omega (arith, ap length p.parts, length-append p.before p.behind, ap length e)

-- this token stands before others
one_less : (l : Lexeme) {f : List Mark → List Mark} → Front f → (s : State) (us : List Placed) → RunsOn (Tok l ∷ f (exactly us)) s → length us + 1 ≤ length s.rest
one_less l {f} a s us h =
    let n = no_more a (beyond s) us (beyond_runs l (f (exactly us)) s h) in
    let u = taken_used s.rest h.1 l (h.0, h.2) in
    let v = ap (λ ts. length (tail ts)) h.2 in
    omega arith

named_run : (outer : Bool) (d : DeclaratorTree) (s : State) (us : List Placed) → is_named d ≡ true → RunsOn (marks.declarator false outer d (exactly us)) s → length us + 1 ≤ length s.rest
named_run outer (Declarator l (qs ∷ ps) c ss) s us n h = one_less (Sign 11) (qualifiers qs ▸ pointers ps ▸ core false outer c ▸ suffixes (outer && is_own c) ss) s us h.1
named_run outer (Declarator l [] (Named n) ss) s us k h = one_less (Name n) (suffixes (outer && is_own (Named n)) ss) s us h.1.1
named_run outer (Declarator l [] (Inner d) ss) s us n h = one_less (Sign 2) (declarator false outer d ▸ tok (Sign 3) ▸ suffixes (outer && is_own (Inner d)) ss) s us h.1.1
named_run outer (Declarator l [] Omitted ss) s us n h = absurd cc

-- so it uses one
pub named_used : (outer : Bool) (d : DeclaratorTree) (s t : State) → is_named d ≡ true → ((r : List Mark) → RunsOn (marks.declarator false outer d r) s ↔ RunsOn r t) → length t.rest + 1 ≤ length s.rest
named_used outer d s t n h = named_run outer d s t.rest n ((h (exactly t.rest)).1 (exactly_runs t.rest t.names))
