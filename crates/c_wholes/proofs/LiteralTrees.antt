-- Which types stand in a tree doesn't matter to its string literals; and the literals of each statement.
use Rattle.std.proofs.Common.{◌≡◌, ◌<◌, ℕ, suc, ◌+◌, Bool, List, [], ◌∷◌, ◌++◌, length, map, drop, get_or, drop-cons, refl, sym, ap, ◌∙◌, arith}
use Rattle.std.specs.Prelude.{Option, Some, None}
use Rattle.std.specs.Global.{Box}
use Rattle.c_types.specs.CType.{CType}
use Rattle.c_meaning.specs.declared.core_expr.CoreKind.TheVariants as kind
use Rattle.c_meaning.specs.declared.filled_place.FilledPlace.{FilledPlace}
use Rattle.c_meaning.specs.declared.core_stmt.CoreCase.{CoreCase}
use Rattle.c_meaning.specs.declared.core_stmt.CoreForHead.{CoreForHead}
use Rattle.c_meaning.specs.declared.core_stmt.CoreStmt.{CoreStmt}
use Rattle.c_meaning.specs.declared.core_stmt.CoreStmt.TheVariants as stmt
use Rattle.c_meaning.specs.CoreTrees.{CoreOf, Core, CoresOf, NoCore, Cores, seen, all_seen}
use Rattle.c_meaning.specs.StmtTrees.{FilledOf, StmtOf, Expression, Initialise, Block, If, While, Do, For, Switch, Label, Return, StmtsOf, NoStmt, Stmts, filled_of, maybe_seen, place_seen, stmt_of, stmt_seen, stmts_seen}
use Rattle.c_units.specs.Wholes.{literals, all_literals, some_literals, place_literals, stmt_literals, stmts_literals, once}
use Rattle.c_wholes.specs.Literals.{blank, texts_of_expr, texts_of_some, texts_of_places, texts_of_stmt}
use Rattle.c_wholes.proofs.Layers.{is_initialise, is_if, is_while, is_do, is_for, is_switch}
use Rattle.c_wholes.proofs.OnceLists.{once_append, once_two}

module _ (f g : ℕ → CType) where
  mutual
    pub same_literals : (c : CoreOf ℕ) → literals (seen f c) ≡ literals (seen g c)
    same_literals (Core (kind.Literal bytes) of line kids) = refl
    same_literals (Core what of line kids) = all_same_literals kids

    pub all_same_literals : (cs : CoresOf ℕ) → all_literals (all_seen f cs) ≡ all_literals (all_seen g cs)
    all_same_literals NoCore = refl
    all_same_literals (Cores c cs) = rw (same_literals c, all_same_literals cs) refl

  some_same : (e : Option (CoreOf ℕ)) → some_literals (maybe_seen f e) ≡ some_literals (maybe_seen g e)
  some_same None = refl
  some_same (Some c) = same_literals c

  places_same : (ps : List (FilledOf ℕ)) → place_literals (map (place_seen f) ps) ≡ place_literals (map (place_seen g) ps)
  places_same [] = refl
  places_same (p ∷ ps) = rw (same_literals p.value, places_same ps) refl

  pub filled_same : (ps : List FilledPlace) → place_literals (map (λ p. place_seen f (filled_of p)) ps) ≡ place_literals (map (λ p. place_seen g (filled_of p)) ps)
  filled_same [] = refl
  filled_same (p ∷ ps) = rw (same_literals p.value, filled_same ps) refl

  mutual
    pub stmt_same : (s : StmtOf ℕ) → stmt_literals (stmt_seen f s) ≡ stmt_literals (stmt_seen g s)
    stmt_same (Expression e) = same_literals e
    stmt_same (Initialise local zero ps) = places_same ps
    stmt_same (Block first locals ss) = stmts_same ss
    stmt_same (If e s t) = rw (same_literals e, stmt_same s, stmt_same t) refl
    stmt_same (While e s) = rw (same_literals e, stmt_same s) refl
    stmt_same (Do s e) = rw (same_literals e, stmt_same s) refl
    stmt_same (For a b c s) = rw (some_same a, some_same b, some_same c, stmt_same s) refl
    stmt_same (Switch e cases default s) = rw (same_literals e, stmt_same s) refl
    stmt_same (Label n s) = stmt_same s
    stmt_same (Return e) = some_same e
    stmt_same s = refl

    pub stmts_same : (ss : StmtsOf ℕ) → stmts_literals (stmts_seen f ss) ≡ stmts_literals (stmts_seen g ss)
    stmts_same NoStmt = refl
    stmts_same (Stmts s ss) = rw (stmt_same s, stmts_same ss) refl

layer : (s : CoreStmt) (u : StmtOf ℕ) → stmt_of s ≡ u → texts_of_stmt s ≡ stmt_literals (stmt_seen blank u)
layer s u h = ap (λ v. stmt_literals (stmt_seen blank v)) h

filled_texts : (ps : List FilledPlace) → place_literals (map (place_seen blank) (map filled_of ps)) ≡ texts_of_places ps
filled_texts [] = refl
filled_texts (p ∷ ps) = ap (λ ts. texts_of_expr p.value ++ ts) (filled_texts ps)

pub initialise_texts : (local : ℕ) (zero : Bool) (ps : List FilledPlace) → texts_of_stmt (stmt.Initialise local zero ps) ≡ texts_of_places ps
initialise_texts local zero ps = layer _ _ (is_initialise local zero ps) ∙ filled_texts ps

pub if_texts : (e : Box (CoreOf ℕ)) (s u : Box CoreStmt) → texts_of_stmt (stmt.If e s u) ≡ texts_of_expr e.value ++ texts_of_stmt s.value ++ texts_of_stmt u.value
if_texts e s u = layer _ _ (is_if e s u)

pub while_texts : (e : CoreOf ℕ) (s : Box CoreStmt) → texts_of_stmt (stmt.While e s) ≡ texts_of_expr e ++ texts_of_stmt s.value
while_texts e s = layer _ _ (is_while e s)

pub do_texts : (s : Box CoreStmt) (e : CoreOf ℕ) → texts_of_stmt (stmt.Do s e) ≡ texts_of_stmt s.value ++ texts_of_expr e
do_texts s e = layer _ _ (is_do s e)

pub for_texts : (h : Box CoreForHead) (s : Box CoreStmt) → texts_of_stmt (stmt.For h s) ≡ texts_of_some h.value.first ++ texts_of_some h.value.test ++ texts_of_some h.value.last ++ texts_of_stmt s.value
for_texts h s = layer _ _ (is_for h s)

pub switch_texts : (e : Box (CoreOf ℕ)) (cases : List CoreCase) (default : Option ℕ) (s : Box CoreStmt) → texts_of_stmt (stmt.Switch e cases default s) ≡ texts_of_expr e.value ++ texts_of_stmt s.value
switch_texts e cases default s = layer _ _ (is_switch e cases default s)

-- a statement whose parts' literals are noted in turn
pub one_part : (b a : List (List ℕ)) (s : CoreStmt) (v : CoreStmt) (xs : List (List ℕ)) → s ≡ v → texts_of_stmt v ≡ xs → a ≡ once b xs → a ≡ once b (texts_of_stmt s)
one_part b a s v xs i p h = h ∙ ap (once b) (sym (ap texts_of_stmt i ∙ p))

pub two_parts : (b x a : List (List ℕ)) (s : CoreStmt) (v : CoreStmt) (xs ys : List (List ℕ)) → s ≡ v → texts_of_stmt v ≡ xs ++ ys → x ≡ once b xs → a ≡ once x ys → a ≡ once b (texts_of_stmt s)
two_parts b x a s v xs ys i p h k = one_part b a s v (xs ++ ys) i p (once_two b xs ys x a h k)

pub three_parts : (b x y a : List (List ℕ)) (s : CoreStmt) (v : CoreStmt) (xs ys zs : List (List ℕ)) → s ≡ v → texts_of_stmt v ≡ xs ++ ys ++ zs → x ≡ once b xs → y ≡ once x ys → a ≡ once y zs → a ≡ once b (texts_of_stmt s)
three_parts b x y a s v xs ys zs i p h k l = two_parts b y a s v (xs ++ ys) zs i p (once_two b xs ys x y h k) l

pub four_parts : (b x y z a : List (List ℕ)) (s : CoreStmt) (v : CoreStmt) (xs ys zs us : List (List ℕ)) → s ≡ v → texts_of_stmt v ≡ xs ++ ys ++ zs ++ us → x ≡ once b xs → y ≡ once x ys → z ≡ once y zs → a ≡ once z us → a ≡ once b (texts_of_stmt s)
four_parts b x y z a s v xs ys zs us i p h k l m = three_parts b y z a s v (xs ++ ys) zs us i p (once_two b xs ys x y h k) l m

-- ---- loops over parts

first_behind : {X : Type 0} (xs : List X) (i : ℕ) (x : X) → i < length xs → x ≡ get_or xs i x → drop i xs ≡ x ∷ drop (i + 1) xs
first_behind xs i x l h = drop-cons xs i x l ∙ ap (λ y. y ∷ drop (suc i) xs) (sym h) ∙ ap (λ n. x ∷ drop n xs) (let e : suc i ≡ i + 1 = omega arith in e)

-- where the next part's literals are noted, what is left is the rest
pub next_noted : {X : Type 0} (of : X → List (List ℕ)) (all : List X → List (List ℕ)) → ((x : X) (xs : List X) → all (x ∷ xs) ≡ of x ++ all xs)
    → (xs : List X) (i : ℕ) (x : X) (now new : List (List ℕ)) → i < length xs → x ≡ get_or xs i x → new ≡ once now (of x) → once new (all (drop (i + 1) xs)) ≡ once now (all (drop i xs))
next_noted of all step xs i x now new l h n =
    ap (λ ts. once ts (all (drop (i + 1) xs))) n ∙ sym (once_append now (of x) (all (drop (i + 1) xs)))
    ∙ ap (once now) (sym (step x (drop (i + 1) xs)) ∙ ap all (sym (first_behind xs i x l h)))
