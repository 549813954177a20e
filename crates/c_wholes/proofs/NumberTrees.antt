-- The words of each statement, and what is left where it is counted.
use Rattle.std.proofs.Common.{◌≡◌, ◌<◌, ℕ, suc, ◌+◌, Bool, List, [], ◌∷◌, length, map, drop, get_or, drop-cons, sym, ap, ◌∙◌, subst, arith}
use Rattle.std.specs.Prelude.{Option, Some, None, IfSome}
use Rattle.std.specs.Global.{Box}
use Rattle.c_types.specs.CType.{CType}
use Rattle.c_meaning.specs.declared.core_stmt.CoreCase.{CoreCase}
use Rattle.c_meaning.specs.declared.core_stmt.CoreForHead.{CoreForHead}
use Rattle.c_meaning.specs.declared.core_stmt.CoreStmt.{CoreStmt}
use Rattle.c_meaning.specs.declared.core_stmt.CoreStmt.TheVariants as stmt
use Rattle.c_meaning.specs.declared.core_unit.CoreFunction.{CoreFunction}
use Rattle.c_meaning.specs.declared.filled_place.FilledPlace.{FilledPlace}
use Rattle.c_meaning.specs.CoreTrees.{CoreOf}
use Rattle.c_meaning.specs.Each.{EachIs}
use Rattle.c_meaning.specs.Numbers.{HasWords, PlaceHasWords}
use Rattle.c_meaning.specs.StmtTrees.{StmtOf, StmtsOf, NoStmt, Stmts, Expression, Return, filled_of, maybe_seen, place_seen, stmt_of, stmts_of}
use Rattle.c_wholes.specs.Numbering.{AreCounted, AreCountedFunctions, ExprHasWords, IsCounted, PlacesHaveWords, SomeHasWords}
use Rattle.c_wholes.proofs.Layers.{is_block, is_initialise, is_if, is_while, is_do, is_for, is_switch, is_label}

-- ---- words

pub some_words : (f : ℕ → CType) (e : Option (CoreOf ℕ)) → SomeHasWords e → IfSome (maybe_seen f e) HasWords
some_words f None h = tt
some_words f (Some c) h = h f

pub filled_words : (f : ℕ → CType) (ps : List FilledPlace) → PlacesHaveWords ps → EachIs PlaceHasWords (map (place_seen f) (map filled_of ps))
filled_words f [] h = tt
filled_words f (p ∷ ps) h = (h.0 f, filled_words f ps h.1)

pub places_words : (f : ℕ → CType) (ps : List FilledPlace) → PlacesHaveWords ps → EachIs PlaceHasWords (map (λ p. place_seen f (filled_of p)) ps)
places_words f [] h = tt
places_words f (p ∷ ps) h = (h.0 f, places_words f ps h.1)

-- ---- statements, each of which is one

module _ (most left : ℕ) (less : left + 1 ≡ most) where
  -- a statement without others in it
  pub leaf : (s : CoreStmt) (u : StmtOf ℕ) → stmt_of s ≡ u → IsCounted most left u → IsCounted most left (stmt_of s)
  leaf s u e h = subst (IsCounted most left) (sym e) h

  pub expression_counted : (e : CoreOf ℕ) → ExprHasWords e → IsCounted most left (Expression e)
  expression_counted e w = λ f. (less, w f)

  pub return_counted : (e : Option (CoreOf ℕ)) → SomeHasWords e → IsCounted most left (Return e)
  return_counted e w = λ f. (less, some_words f e w)

  pub initialise_counted : (local : ℕ) (zero : Bool) (ps : List FilledPlace) → PlacesHaveWords ps → IsCounted most left (stmt_of (stmt.Initialise local zero ps))
  initialise_counted local zero ps w = leaf _ _ (is_initialise local zero ps) (λ f. (less, filled_words f ps w))

  module _ (end' : ℕ) where
    pub block_counted : (first locals : ℕ) (ss : List CoreStmt) → AreCounted left end' (stmts_of (map stmt_of ss)) → IsCounted most end' (stmt_of (stmt.Block first locals ss))
    block_counted first locals ss h = subst (IsCounted most end') (sym (is_block first locals ss)) (λ f. (let e = (h f).0 in omega (arith, e, less), (h f).1))

    pub label_counted : (n : ℕ) (s : Box CoreStmt) → IsCounted left end' (stmt_of s.value) → IsCounted most end' (stmt_of (stmt.Label n s))
    label_counted n s h = subst (IsCounted most end') (sym (is_label n s)) (λ f. (let e = (h f).0 in omega (arith, e, less), (h f).1))

    pub while_counted : (e : CoreOf ℕ) (s : Box CoreStmt) → ExprHasWords e → IsCounted left end' (stmt_of s.value) → IsCounted most end' (stmt_of (stmt.While e s))
    while_counted e s w h = subst (IsCounted most end') (sym (is_while e s)) (λ f. (let e = (h f).0 in omega (arith, e, less), (w f, (h f).1)))

    pub do_counted : (e : CoreOf ℕ) (s : Box CoreStmt) → ExprHasWords e → IsCounted left end' (stmt_of s.value) → IsCounted most end' (stmt_of (stmt.Do s e))
    do_counted e s w h = subst (IsCounted most end') (sym (is_do s e)) (λ f. (let e = (h f).0 in omega (arith, e, less), ((h f).1, w f)))

    pub for_counted : (t : Box CoreForHead) (s : Box CoreStmt) → SomeHasWords t.value.first → SomeHasWords t.value.test → SomeHasWords t.value.last → IsCounted left end' (stmt_of s.value) → IsCounted most end' (stmt_of (stmt.For t s))
    for_counted t s a b c h =
        subst (IsCounted most end') (sym (is_for t s)) (λ f. (let e = (h f).0 in omega (arith, e, less), (some_words f t.value.first a, (some_words f t.value.test b, (some_words f t.value.last c, (h f).1)))))

    pub switch_counted : (e : Box (CoreOf ℕ)) (cases : List CoreCase) (default : Option ℕ) (s : Box CoreStmt) → ExprHasWords e.value → IsCounted left end' (stmt_of s.value) → IsCounted most end' (stmt_of (stmt.Switch e cases default s))
    switch_counted e cases default s w h = subst (IsCounted most end') (sym (is_switch e cases default s)) (λ f. (let e = (h f).0 in omega (arith, e, less), (w f, (h f).1)))

    pub if_counted : (between : ℕ) (e : Box (CoreOf ℕ)) (s t : Box CoreStmt) → ExprHasWords e.value → IsCounted left between (stmt_of s.value) → IsCounted between end' (stmt_of t.value) → IsCounted most end' (stmt_of (stmt.If e s t))
    if_counted between e s t w h k =
        subst (IsCounted most end') (sym (is_if e s t)) (λ f. (let a = (h f).0 in let b = (k f).0 in omega (arith, a, b, less), (w f, ((h f).1, (k f).1))))

-- ---- lists

pub none_counted : (most : ℕ) → AreCounted most most NoStmt
none_counted most = λ f. (omega arith, tt)

pub more_counted : (most left end' : ℕ) (s : StmtOf ℕ) (ss : StmtsOf ℕ) → IsCounted most left s → AreCounted left end' ss → AreCounted most end' (Stmts s ss)
more_counted most left end' s ss h k = λ f. (let a = (h f).0 in let b = (k f).0 in omega (arith, a, b), ((h f).1, (k f).1))

pub no_function_counted : (most : ℕ) → AreCountedFunctions most most []
no_function_counted most = λ t. (omega arith, tt)

pub more_functions_counted : (most left end' : ℕ) (x : CoreFunction) (xs : List CoreFunction) → AreCountedFunctions most left (x ∷ []) → AreCountedFunctions left end' xs → AreCountedFunctions most end' (x ∷ xs)
more_functions_counted most left end' x xs h k = λ t. (let a = (h t).0 in let b = (k t).0 in omega (arith, a, b), ((h t).1.0, (k t).1))

-- what is known of a list is known of its rest, where the next is such
module _ {X : Type 0} (xs : List X) (i : ℕ) (x : X) (l : i < length xs) (is : x ≡ get_or xs i x) where
  first_behind : drop i xs ≡ x ∷ drop (i + 1) xs
  first_behind = drop-cons xs i x l ∙ ap (λ y. y ∷ drop (suc i) xs) (sym is) ∙ ap (λ n. x ∷ drop n xs) (let e : suc i ≡ i + 1 = omega arith in e)

  pub onward : (Q : List X → Type 0) → Q (x ∷ drop (i + 1) xs) → Q (drop i xs)
  onward Q q = subst Q (sym first_behind) q
