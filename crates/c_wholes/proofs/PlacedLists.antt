-- Places for copies in lists of places and of statements, one more behind the others.
use Rattle.std.proofs.Common.{◌≡◌, ◌<◌, ℕ, ◌+◌, List, [], ◌∷◌, ◌++◌, length, map, refl, sym, ap, ◌∙◌, append_assoc, append-nil, length-append, arith}
use Rattle.std.proofs.lemmas.List.{map-append}
use Rattle.c_types.specs.CType.{CType}
use Rattle.c_types.specs.Table.{Table, type_at}
use Rattle.c_meaning.specs.declared.core_expr.CoreKind.{CoreKind}
use Rattle.c_meaning.specs.declared.filled_place.FilledPlace.{FilledPlace}
use Rattle.c_meaning.specs.declared.core_stmt.CoreStmt.{CoreStmt}
use Rattle.c_meaning.specs.Copies.{expressions, all_expressions, copies_in, all_copies}
use Rattle.c_meaning.specs.CoreTrees.{CoreOf, IsIn, seen}
use Rattle.c_meaning.specs.StmtTrees.{FilledOf, StmtOf, StmtsOf, NoStmt, Stmts, ArePlacesIn, AreStmtsIn, IsStmtIn, filled_of, place_seen, stmt_of, stmt_seen, stmts_of, stmts_seen}
use Rattle.c_meaning.specs.Values.{CoreTree}
use Rattle.c_units.specs.Wholes.{copies, stmt_copies, placed, placed_places, placed_stmt, placed_stmts, whole, whole_places, whole_stmt, whole_stmts}
use Rattle.c_wholes.specs.Placing.{IsPlaced, ArePlacesPlaced, IsStmtPlaced, AreStmtsPlaced}
use Rattle.c_wholes.proofs.PlacedParts.{count, same_grows, then_grows}
use Rattle.c_wholes.proofs.WholeCopies.{copies_append}

-- ---- places

abbrev values : List (FilledOf CType) → List CoreTree
values ps = map (λ (p : FilledOf CType). p.value) ps

abbrev with_value : FilledOf CType → CoreTree → FilledOf CType
with_value p c = record { of = p.of; offset = p.offset; first = p.first; width = p.width; value = c }

more : (n a b : ℕ) → (n + a) + b ≡ n + (a + b)
more n a b = omega arith

placed_behind : (n : ℕ) (ps : List (FilledOf CType)) (p : FilledOf CType) → placed_places n (ps ++ p ∷ []) ≡ placed_places n ps ++ with_value p (placed (n + length (all_copies (values ps))) p.value) ∷ []
placed_behind n [] p = ap (λ m. with_value p (placed m p.value) ∷ []) (let e : n ≡ n + 0 = omega arith in e)
placed_behind n (q ∷ qs) p =
    ap (λ rs. with_value q (placed n q.value) ∷ rs)
    (placed_behind (n + copies q.value) qs p
    ∙ ap (λ m. placed_places (n + copies q.value) qs ++ with_value p (placed m p.value) ∷ [])
    (more n (copies q.value) (length (all_copies (values qs))) ∙ ap (λ m. n + m) (sym (length-append (copies_in q.value) (all_copies (values qs))))))

values_copies : (ps : List (FilledOf CType)) (p : FilledOf CType) → all_copies (values ps) ++ copies_in p.value ≡ all_copies (values (ps ++ p ∷ []))
values_copies ps p =
    ap (λ ls. all_copies (values ps) ++ ls) (sym (append-nil (copies_in p.value))) ∙ sym (copies_append (values ps) (p.value ∷ []))
    ∙ ap all_copies (sym (map-append (λ (p : FilledOf CType). p.value) ps (p ∷ [])))

places_in_push : (n : ℕ) (qs : List FilledPlace) (q : FilledPlace) → ArePlacesIn n (map filled_of qs) → q.at.of < n → IsIn n q.value → ArePlacesIn n (map filled_of (qs ++ q ∷ []))
places_in_push n [] q h i j = ((i, j), tt)
places_in_push n (r ∷ rs) q h i j = (h.0, places_in_push n rs q h.1 i j)

pub whole_behind : (meant : ℕ → CoreKind) (texts : List (List ℕ)) (f : ℕ → CType) (xs : List FilledPlace) (x : FilledPlace)
    → whole_places meant texts (map (λ q. place_seen f (filled_of q)) (xs ++ x ∷ []))
    ≡ whole_places meant texts (map (λ q. place_seen f (filled_of q)) xs) ++ with_value (place_seen f (filled_of x)) (whole meant texts (seen f x.value)) ∷ []
whole_behind meant texts f [] x = refl
whole_behind meant texts f (y ∷ ys) x = ap (λ ps. with_value (place_seen f (filled_of y)) (whole meant texts (seen f y.value)) ∷ ps) (whole_behind meant texts f ys x)

-- one more place, whose value is made whole and has places
pub one_more_filled : (t : Table) (a b c : List ℕ) (ps : List (FilledOf CType)) (w : CoreTree) (qs : List FilledPlace) (x : FilledPlace) (d : CoreOf ℕ)
    → ArePlacesPlaced t a b ps qs → IsPlaced t b c w d → x.at.of < length t.forms
    → ArePlacesPlaced t a c (ps ++ with_value (place_seen (type_at t) (filled_of x)) w ∷ []) (qs ++ record x { value = d } ∷ [])
one_more_filled t a b c ps w qs x d p q i =
    let g = λ (r : FilledPlace). place_seen (type_at t) (filled_of r) in
    let v = with_value (g x) w in
    record {
      means =
          map-append g qs (record x { value = d } ∷ []) ∙ (λ j. p.means j ++ with_value (g x) (q.means j) ∷ [])
          ∙ ap (λ m. placed_places (length a) ps ++ with_value v (placed m w) ∷ []) (count t _ a b p.grows) ∙ sym (placed_behind (length a) ps v);
      grows = same_grows t _ _ a c (values_copies ps v) (then_grows t _ _ a b c p.grows q.grows);
      is_in = places_in_push _ qs (record x { value = d }) p.is_in i q.is_in;
    }

-- ---- statements

abbrev stmts_join : {T : Type 0} → StmtsOf T → StmtOf T → StmtsOf T
stmts_join NoStmt u = Stmts u NoStmt
stmts_join (Stmts s ss) u = Stmts s (stmts_join ss u)

seen_behind : (f : ℕ → CType) (us : List CoreStmt) (u : CoreStmt) → stmts_seen f (stmts_of (map stmt_of (us ++ u ∷ []))) ≡ stmts_join (stmts_seen f (stmts_of (map stmt_of us))) (stmt_seen f (stmt_of u))
seen_behind f [] u = refl
seen_behind f (s ∷ ss) u = ap (Stmts (stmt_seen f (stmt_of s))) (seen_behind f ss u)

stmts_placed_behind : (n : ℕ) (ss : StmtsOf CType) (s : StmtOf CType) → placed_stmts n (stmts_join ss s) ≡ stmts_join (placed_stmts n ss) (placed_stmt (n + length (all_copies (all_expressions ss))) s)
stmts_placed_behind n NoStmt s = ap (λ m. Stmts (placed_stmt m s) NoStmt) (let e : n ≡ n + 0 = omega arith in e)
stmts_placed_behind n (Stmts u us) s =
    ap (Stmts (placed_stmt n u))
    (stmts_placed_behind (n + stmt_copies u) us s
    ∙ ap (λ m. stmts_join (placed_stmts (n + stmt_copies u) us) (placed_stmt m s))
    (more n (stmt_copies u) (length (all_copies (all_expressions us)))
    ∙ ap (λ m. n + m) (sym (ap length (copies_append (expressions u) (all_expressions us)) ∙ length-append (all_copies (expressions u)) (all_copies (all_expressions us))))))

all_behind : (ss : StmtsOf CType) (s : StmtOf CType) → all_copies (all_expressions ss) ++ all_copies (expressions s) ≡ all_copies (all_expressions (stmts_join ss s))
all_behind NoStmt s = sym (copies_append (expressions s) [] ∙ append-nil (all_copies (expressions s)))
all_behind (Stmts u us) s =
    ap (λ ls. ls ++ all_copies (expressions s)) (copies_append (expressions u) (all_expressions us))
    ∙ append_assoc (all_copies (expressions u)) (all_copies (all_expressions us)) (all_copies (expressions s))
    ∙ ap (λ ls. all_copies (expressions u) ++ ls) (all_behind us s) ∙ sym (copies_append (expressions u) (all_expressions (stmts_join us s)))

stmts_in_push : (n : ℕ) (us : List CoreStmt) (u : CoreStmt) → AreStmtsIn n (stmts_of (map stmt_of us)) → IsStmtIn n (stmt_of u) → AreStmtsIn n (stmts_of (map stmt_of (us ++ u ∷ [])))
stmts_in_push n [] u h i = (i, tt)
stmts_in_push n (s ∷ ss) u h i = (h.0, stmts_in_push n ss u h.1 i)

pub stmts_whole_behind : (meant : ℕ → CoreKind) (texts : List (List ℕ)) (f : ℕ → CType) (xs : List CoreStmt) (x : CoreStmt)
    → whole_stmts meant texts (stmts_seen f (stmts_of (map stmt_of (xs ++ x ∷ []))))
    ≡ stmts_join (whole_stmts meant texts (stmts_seen f (stmts_of (map stmt_of xs)))) (whole_stmt meant texts (stmt_seen f (stmt_of x)))
stmts_whole_behind meant texts f [] x = refl
stmts_whole_behind meant texts f (y ∷ ys) x = ap (Stmts (whole_stmt meant texts (stmt_seen f (stmt_of y)))) (stmts_whole_behind meant texts f ys x)

-- one more statement
pub one_more_stmt : (t : Table) (a b c : List ℕ) (ss : StmtsOf CType) (s : StmtOf CType) (us : List CoreStmt) (u : CoreStmt)
    → AreStmtsPlaced t a b ss us → IsStmtPlaced t b c s u → AreStmtsPlaced t a c (stmts_join ss s) (us ++ u ∷ [])
one_more_stmt t a b c ss s us u p q =
    record {
      means =
          seen_behind (type_at t) us u ∙ (λ j. stmts_join (p.means j) (q.means j))
          ∙ ap (λ m. stmts_join (placed_stmts (length a) ss) (placed_stmt m s)) (count t _ a b p.grows) ∙ sym (stmts_placed_behind (length a) ss s);
      grows = same_grows t _ _ a c (all_behind ss s) (then_grows t _ _ a b c p.grows q.grows);
      is_in = stmts_in_push _ us u p.is_in q.is_in;
    }
