-- What a reader gives before a parser's place is what its call for the production answers.
use Rattle.std.proofs.Common.{◌≡◌, ◌≤◌, ◌+◌, ◌-◌, ℕ, zero, suc, Bool, true, false, Option, Some, None, List, [], ◌∷◌, length, take, drop, inl, inr, refl, sym, ap, ◌∙◌, subst, length-drop, drop-drop, arith}
use Rattle.std.proofs.lemmas.List.{take_rest}
use Rattle.c_ast.specs.InForce.{InForce}
use Rattle.c_ast.specs.Lexemes.{Placed}
use Rattle.c_ast.specs.Marks.{Mark, Runs}
use Rattle.c_ast.specs.ExprMarks as marks
use Rattle.c_ast.specs.Trees.{DeclaratorTree, Declarator}
use Rattle.c_lexer.specs.declared.token.Token.{Token}
use Rattle.c_lexer.specs.PlacedTokens.{placed}
use Rattle.c_readings.specs.Reading.{State, Read}
use Rattle.c_ast.specs.Levels.{Parts, FitsTypeName, FitsSpecifiers}
use Rattle.c_ast.specs.Heights.{height, type_name_height, specifiers_height, declarator_height}
use Rattle.c_ast.specs.Reach.{goes_on, goes_on_whole}
use Rattle.c_readings.specs.Readers.{readers, declarator_above, core, pointers_in, type_name, specifiers}
use Rattle.c_readings.specs.Exact.{Finds, Exact, AreExact, TypesAreExact, FitsAt, FitsFree, nothing_more, where_left}
use Rattle.c_readings.specs.Fronts.{AreFronts}
use Rattle.c_expr.specs.Answers.{at, Fails}
use Rattle.c_expr.proofs.Loops.{as_many}
use Rattle.c_expr.specs.Productions.{Production, IsTaken, Stands, declarator}
use Rattle.c_expr.specs.State.{MParser, IsStopped, ahead, Took, Refused, Again, NoPiece, NoMemory}
use Rattle.c_expr.specs.declared.stop.Stop.{Stop}
use Rattle.c_expr.specs.declared.stop.Stop.TheVariants as stop
use Rattle.c_expr.specs.declared.syntax_fault.SyntaxFault.{SyntaxFault}
use Rattle.c_expr.specs.declared.syntax_fault.SyntaxFault.TheVariants.{NoParse, Memory, Lex}

drop_placed : (source : List ℕ) (n : ℕ) (ts : List Token) → drop n (placed source ts) ≡ placed source (drop n ts)
drop_placed source zero ts = refl
drop_placed source (suc n) [] = refl
drop_placed source (suc n) (t ∷ ts) = drop_placed source n ts

-- before the place stand these tokens
abbrev before : InForce → MParser → State
before names p = at names p.source (drop p.place p.tokens)

-- what is left behind a piece, at the place that is computed from how many they are
left_behind : (old : MParser) (us : List Token) → old.place ≤ length old.tokens → length us ≤ length (drop old.place old.tokens) → placed old.source us ≡ drop (length (placed old.source (drop old.place old.tokens)) - length (placed old.source us)) (placed old.source (drop old.place old.tokens)) → placed old.source us ≡ placed old.source (drop (length old.tokens - length us) old.tokens)
left_behind old us bound short e =
    let n : length (placed old.source (drop old.place old.tokens)) - length (placed old.source us) ≡ length old.tokens - old.place - length us = omega (arith, as_many old.source (drop old.place old.tokens), as_many old.source us, length-drop old.place old.tokens) in
    let k : old.place + (length old.tokens - old.place - length us) ≡ length old.tokens - length us = omega (arith, bound, short, length-drop old.place old.tokens) in
    e ∙ ap (λ m. drop m (placed old.source (drop old.place old.tokens))) n
    ∙ drop_placed old.source (length old.tokens - old.place - length us) (drop old.place old.tokens)
    ∙ ap (placed old.source) (drop-drop (length old.tokens - old.place - length us) old.place old.tokens ∙ ap (λ m. drop m old.tokens) k)

-- the parser behind the tree
abbrev passed : MParser → InForce → List Token → MParser
passed old names us = record old { place = length old.tokens - length us; names = names }

pub took : (P : Production) → Exact P.spelled P.Fits P.goes_on P.high P.most P.least P.read → AreFronts P.spelled → (old new : MParser) (names names' : InForce) (x : P.Tree) (us : List Token) → old.place ≤ length old.tokens → length us ≤ length (drop old.place old.tokens) → old.fault ≡ None → new ≡ passed old names' us → P.read (before names old) ≡ Some (x, at names' old.source us) → Took P (before names old) old x new
unfolding ahead
took P e f old new names names' x us bound short fault same y =
    let p = e.piece (before names old) x (at names' old.source us) y in
    let q : at names' old.source us ≡ ahead (passed old names' us) = ap (λ ts. record { names = names'; rest = ts }) (left_behind old us bound short (f (before names old) (at names' old.source us) x p.runs)) in
    subst (λ (n : MParser). Took P (before names old) old x n) (sym same) record {
      taken = subst (λ (t : State). IsTaken P (before names old) x t) q p;
      reads = y ∙ ap (λ t. Some (x, t)) q;
      before = fault;
      further = omega (arith, bound, short, p.used, as_many old.source us, as_many old.source (drop old.place old.tokens), length-drop old.place old.tokens);
      same = refl;
    }

-- where the reader gives nothing, no tree stands
pub none_stands : (P : Production) → Exact P.spelled P.Fits P.goes_on P.high P.most P.least P.read → (s : State) → P.read s ≡ None → Stands P s → ⊥
none_stands P e s y st = subst (λ (o : Read P.Tree). Finds o st.tree st.others) y (e.found s st.tree st.others st.fits st.low st.stops st.runs)

no_memory : {left : ℕ} {C : Type 0} → stop.NoParse left ≡ stop.Memory → C
no_memory h = absurd cc

pub refused : (P : Production) (s : State) (old new : MParser) → (P.read s ≡ None → Stands P s → ⊥) → (st : Stop) (fault : SyntaxFault) → old.fault ≡ None → Fails st (P.read s) → IsStopped old.tokens new.place st fault → old.place ≤ new.place → new ≡ record old { place = new.place; names = new.names; fault = Some fault } → Refused P s old new fault
refused P s old new none (stop.NoParse left) (NoParse line) h f i w k =
    let e : P.read s ≡ None = elim f [ inl m ↦ no_memory m | inr n ↦ n ] in
    NoPiece line h (none e) e w i k
refused P s old new none (stop.NoParse left) Memory h f i w k = absurd i
refused P s old new none (stop.NoParse left) (Lex fault) h f i w k = absurd i
refused P s old new none stop.Memory (NoParse line) h f i w k = absurd i
refused P s old new none stop.Memory Memory h f i w k = NoMemory h w k
refused P s old new none stop.Memory (Lex fault) h f i w k = absurd i

-- ---- a declarator, of which nothing stands where nothing is left

declarator_at_end : (n : ℕ) (outer : Bool) (names : InForce) → (readers n).declarator false outer record { names = names; rest = [] } ≡ None
unfolding readers declarator_above core pointers_in
declarator_at_end zero outer names = refl
declarator_at_end (suc n) outer names = refl

none_at_end : (limit : ℕ) (names : InForce) → Stands (declarator limit) record { names = names; rest = [] } → ⊥
none_at_end limit names st = at_end st.tree st.others st.runs
  where
    at_end : (x : DeclaratorTree) (r : List Mark) → Runs (marks.declarator false true x r) names [] → ⊥
    at_end (Declarator l ps c ss) r h = let e = h.0 in absurd cc

-- as the exact reader gives it
where_given : (n : ℕ) (names : InForce) (ts : List Placed) (x : DeclaratorTree) (t : State) → (readers n).declarator false true record { names = names; rest = ts } ≡ Some (x, t) → where_left ts ((readers n).declarator false true record { names = names; rest = ts }) ≡ Some (x, t)
where_given n names [] x t y = absurd (let e = sym (declarator_at_end n true names) ∙ y in no_some e)
  where
    no_some : {A : Type 0} {a : A} {C : Type 0} → None ≡ Some a → C
    no_some h = absurd cc
where_given n names (p ∷ ts) x t y = y

where_none : (n : ℕ) (names : InForce) (ts : List Placed) → (readers n).declarator false true record { names = names; rest = ts } ≡ None → where_left ts ((readers n).declarator false true record { names = names; rest = ts }) ≡ None
where_none n names [] y = refl
where_none n names (p ∷ ts) y = y

-- ---- the exits of a call: as its tokens stand there

-- the parser as its parts
abbrev pub parser_of : List ℕ → List Token → ℕ → InForce → Option SyntaxFault → MParser
parser_of source tokens place names fault = record { source = source; tokens = tokens; place = place; names = names; fault = fault }

abbrev pub rest_of : ℕ → List Token → List Token
rest_of place tokens = take (length tokens - place) (drop place tokens)

same_state : (names : InForce) (source src : List ℕ) (tokens toks : List Token) (place : ℕ) → src ≡ source → toks ≡ tokens → at names src (rest_of place toks) ≡ at names source (drop place tokens)
same_state names source src tokens toks place e f =
    ap (λ ts. at names src ts) (take_rest toks place ∙ ap (λ ts. drop place ts) f) ∙ ap (λ z. at names z (drop place tokens)) e

pub took_by : (P : Production) → Exact P.spelled P.Fits P.goes_on P.high P.most P.least P.read → AreFronts P.spelled → (g : InForce → InForce) (source src : List ℕ) (tokens toks : List Token) (place many : ℕ) (names names' : InForce) (fault : Option SyntaxFault) (old : MParser) (x : P.Tree) (us : List Token) → src ≡ source → toks ≡ tokens → many ≡ length tokens → place ≤ length tokens → fault ≡ None → parser_of source tokens place names fault ≡ old → length us ≤ length (rest_of place toks) → P.read (at (g names) src (rest_of place toks)) ≡ Some (x, at names' src us) → Took P (before (g old.names) old) old x (parser_of source tokens (many - length us) names' fault)
took_by P e f g source src tokens toks place many names names' fault old x us es et em bound none v short y =
    let h = same_state (g names) source src tokens toks place es et in
    let first = parser_of source tokens place names fault in
    let y' : P.read (at (g names) source (drop place tokens)) ≡ Some (x, at names' source us) = ap P.read (sym h) ∙ y ∙ ap (λ z. Some (x, at names' z us)) es in
    let short' : length us ≤ length (drop place tokens) = subst (λ (z : List Token). length us ≤ length z) (take_rest toks place ∙ ap (λ ts. drop place ts) et) short in
    let same : parser_of source tokens (many - length us) names' fault ≡ passed first names' us = ap (λ n. parser_of source tokens (n - length us) names' fault) em in
    subst (λ (p : MParser). Took P (before (g p.names) p) p x (parser_of source tokens (many - length us) names' fault)) v
    (took P e f first (parser_of source tokens (many - length us) names' fault) (g names) names' x us bound short' none same y')

pub refused_by : (P : Production) → Exact P.spelled P.Fits P.goes_on P.high P.most P.least P.read → (g : InForce → InForce) (source src : List ℕ) (tokens toks : List Token) (place place' : ℕ) (names names' : InForce) (fault : Option SyntaxFault) (old new : MParser) (st : Stop) (result : SyntaxFault) → src ≡ source → toks ≡ tokens → fault ≡ None → parser_of source tokens place names fault ≡ old → place ≤ place' → new ≡ parser_of source tokens place' names' (Some result) → IsStopped tokens place' st result → Fails st (P.read (at (g names) src (rest_of place toks))) → Refused P (before (g old.names) old) old new result
refused_by P e g source src tokens toks place place' names names' fault old new st result es et none v far w i f =
    let h = same_state (g names) source src tokens toks place es et in
    let first = parser_of source tokens place names fault in
    let last = parser_of source tokens place' names' (Some result) in
    subst (λ (p : MParser). Refused P (before (g p.names) p) p new result) v
    (subst (λ (q : MParser). Refused P (before (g names) first) first q result) (sym w)
    (refused P (before (g names) first) first last (none_stands P e (before (g names) first)) st result none
    (subst (λ (s : State). Fails st (P.read s)) h f) i far refl))

pub again : (P : Production) (s : State) (fault : SyntaxFault) (o : Option SyntaxFault) (old : MParser) → old.fault ≡ o → o ≡ Some fault → Refused P s old old fault
again P s fault o old e f = Again fault (e ∙ f) refl

-- the reader of declarators, as it is exact
abbrev pub some_declarator : ℕ → State → Read DeclaratorTree
some_declarator n s = where_left s.rest ((readers n).declarator false true s)

-- the readers that the calls ask, exact up to each limit

pub whole_exact : ((n : ℕ) → (readers n).limit ≡ n) → ((n : ℕ) → AreExact (readers n)) → (n : ℕ) → Exact marks.expr Parts goes_on_whole height n 1 (readers n).whole
whole_exact l e n = subst (λ (k : ℕ). Exact marks.expr Parts goes_on_whole height k 1 (readers n).whole) (l n) (e n).whole

pub piece_exact : ((n : ℕ) → (readers n).limit ≡ n) → ((n : ℕ) → AreExact (readers n)) → (level : ℕ) → (1 ≤ level) × (level ≤ 15) → (n : ℕ) → Exact marks.expr (FitsAt level) (goes_on level) height n 1 ((readers n).piece level)
piece_exact l e level h n = subst (λ (k : ℕ). Exact marks.expr (FitsAt level) (goes_on level) height k 1 ((readers n).piece level)) (l n) ((e n).piece level h.0 h.1)

pub type_name_exact : ((n : ℕ) → (readers n).limit ≡ n) → ((n : ℕ) → TypesAreExact (readers n)) → (n : ℕ) → Exact marks.type_name FitsTypeName nothing_more type_name_height n 1 (type_name (readers n))
type_name_exact l e n = subst (λ (k : ℕ). Exact marks.type_name FitsTypeName nothing_more type_name_height k 1 (type_name (readers n))) (l n) (e n).type_name

pub specifiers_exact : ((n : ℕ) → (readers n).limit ≡ n) → ((n : ℕ) → TypesAreExact (readers n)) → (n : ℕ) → Exact marks.specifiers FitsSpecifiers nothing_more specifiers_height n 1 (specifiers (readers n))
specifiers_exact l e n = subst (λ (k : ℕ). Exact marks.specifiers FitsSpecifiers nothing_more specifiers_height k 1 (specifiers (readers n))) (l n) (e n).specifiers

pub declarator_exact : ((n : ℕ) → (readers n).limit ≡ n) → ((n : ℕ) → AreExact (readers n)) → (n : ℕ) → Exact (marks.declarator false true) (FitsFree false) nothing_more declarator_height n 0 (some_declarator n)
declarator_exact l e n = subst (λ (k : ℕ). Exact (marks.declarator false true) (FitsFree false) nothing_more declarator_height k 0 (some_declarator n)) (l n) ((e n).declarator false true)

pub declarator_given : (limit : ℕ) (names given : InForce) (ts : List Placed) (x : DeclaratorTree) (t : State) → given ≡ names → (readers limit).declarator false true record { names = given; rest = ts } ≡ Some (x, t) → some_declarator limit record { names = names; rest = ts } ≡ Some (x, t)
declarator_given limit names given ts x t e y = subst (λ (n : InForce). some_declarator limit record { names = n; rest = ts } ≡ Some (x, t)) e (where_given limit given ts x t y)

pub declarator_fails : (limit : ℕ) (names given : InForce) (ts : List Placed) (st : Stop) → given ≡ names → Fails st ((readers limit).declarator false true record { names = given; rest = ts }) → Fails st (some_declarator limit record { names = names; rest = ts })
declarator_fails limit names given ts st e f = subst (λ (n : InForce). Fails st (some_declarator limit record { names = n; rest = ts })) e (elim f [ inl m ↦ inl m | inr y ↦ inr (where_none limit given ts y) ])
