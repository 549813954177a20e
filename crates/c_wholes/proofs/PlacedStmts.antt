-- Places for copies in statements, part by part.
use Rattle.std.proofs.Common.{◌≡◌, ℕ, ◌+◌, Bool, List, [], ◌∷◌, ◌++◌, length, map, sym, ap, ◌∙◌, subst, append-nil}
use Rattle.std.specs.Prelude.{Option}
use Rattle.std.specs.Global.{Box}
use Rattle.c_types.specs.CType.{CType}
use Rattle.c_types.specs.Table.{Table, type_at}
use Rattle.c_meaning.specs.declared.core_expr.CoreKind.{CoreKind}
use Rattle.c_meaning.specs.declared.filled_place.FilledPlace.{FilledPlace}
use Rattle.c_meaning.specs.declared.core_stmt.CoreCase.{CoreCase}
use Rattle.c_meaning.specs.declared.core_stmt.CoreForHead.{CoreForHead}
use Rattle.c_meaning.specs.declared.core_stmt.CoreStmt.{CoreStmt}
use Rattle.c_meaning.specs.declared.core_stmt.CoreStmt.TheVariants as stmt
use Rattle.c_meaning.specs.Copies.{maybe, expressions, copies_in, all_copies}
use Rattle.c_meaning.specs.CoreTrees.{CoreOf, seen}
use Rattle.c_meaning.specs.StmtTrees.{FilledOf, StmtOf, Initialise, If, While, Do, For, Switch, Label, IsStmtIn, filled_of, maybe_seen, place_seen, stmt_of, stmt_seen}
use Rattle.c_meaning.specs.Values.{CoreTree}
use Rattle.c_units.specs.Wholes.{some_copies, stmt_copies, placed, some_placed, placed_stmt, some_whole, whole, whole_places, whole_stmt}
use Rattle.c_wholes.specs.Placing.{Grows, Placing, IsPlaced, ArePlacesPlaced, IsHeadPlaced, IsStmtPlaced}
use Rattle.c_wholes.proofs.KindTrees.{filled_seen}
use Rattle.c_wholes.proofs.Layers.{is_initialise, is_if, is_while, is_do, is_for, is_switch, is_label}
use Rattle.c_wholes.proofs.PlacedParts.{count, same_grows, then_grows}
use Rattle.c_wholes.proofs.WholeCopies.{copies_append}

one_expr : (c : CoreTree) → copies_in c ≡ all_copies (c ∷ [])
one_expr c = sym (append-nil (copies_in c))

module _ (t : Table) where
  -- where the statement is known by its layer
  pub by_layer : (meant : ℕ → CoreKind) (texts : List (List ℕ)) (a b : List ℕ) (x v : CoreStmt) (u : StmtOf ℕ) (new : CoreStmt) → x ≡ v → stmt_of v ≡ u
      → IsStmtPlaced t a b (whole_stmt meant texts (stmt_seen (type_at t) u)) new → IsStmtPlaced t a b (whole_stmt meant texts (stmt_seen (type_at t) (stmt_of x))) new
  by_layer meant texts a b x v u new i j p = subst (λ w. IsStmtPlaced t a b (whole_stmt meant texts (stmt_seen (type_at t) w)) new) (sym (ap stmt_of i ∙ j)) p

  abbrev PlacedAs : List ℕ → List ℕ → StmtOf CType → StmtOf ℕ → Type 0
  PlacedAs a b s u = Placing t a b (stmt_seen (type_at t) u ≡ placed_stmt (length a) s) (all_copies (expressions s)) (IsStmtIn (length t.forms) u)

  layered : (a b : List ℕ) (s : StmtOf CType) (u : StmtOf ℕ) (new : CoreStmt) → stmt_of new ≡ u → PlacedAs a b s u → IsStmtPlaced t a b s new
  layered a b s u new i p = subst (PlacedAs a b s) (sym i) p

  pub initialise_placed : (a b : List ℕ) (local : ℕ) (zero : Bool) (ps : List (FilledOf CType)) (qs : List FilledPlace) → ArePlacesPlaced t a b ps qs → IsStmtPlaced t a b (Initialise local zero ps) (stmt.Initialise local zero qs)
  initialise_placed a b local zero ps qs p =
      layered a b (Initialise local zero ps) _ _ (is_initialise local zero qs)
      (record { means = ap (Initialise local zero) (filled_seen (type_at t) qs ∙ p.means); grows = p.grows; is_in = p.is_in })

  pub label_placed : (a b : List ℕ) (n : ℕ) (s : StmtOf CType) (u : Box CoreStmt) → IsStmtPlaced t a b s u.value → IsStmtPlaced t a b (Label n s) (stmt.Label n u)
  label_placed a b n s u p = layered a b (Label n s) _ _ (is_label n u) (record { means = ap (Label n) p.means; grows = p.grows; is_in = p.is_in })

  -- an expression, and a statement behind it
  expr_then : (a b c : List ℕ) (e : CoreTree) (s : StmtOf CType) → Grows t (copies_in e) a b → Grows t (all_copies (expressions s)) b c → Grows t (all_copies (e ∷ expressions s)) a c
  expr_then a b c e s g h = then_grows t _ _ a b c g h

  pub while_placed : (a b c : List ℕ) (e : CoreTree) (s : StmtOf CType) (d : CoreOf ℕ) (u : Box CoreStmt) → IsPlaced t a b e d → IsStmtPlaced t b c s u.value → IsStmtPlaced t a c (While e s) (stmt.While d u)
  while_placed a b c e s d u p q =
      layered a c (While e s) _ _ (is_while d u)
      (record {
        means = λ j. While (p.means j) ((q.means ∙ ap (λ n. placed_stmt n s) (count t _ a b p.grows)) j);
        grows = expr_then a b c e s p.grows q.grows;
        is_in = (p.is_in, q.is_in);
      })

  pub switch_placed : (a b c : List ℕ) (e : CoreTree) (cases : List CoreCase) (default : Option ℕ) (s : StmtOf CType) (d : Box (CoreOf ℕ)) (u : Box CoreStmt) → IsPlaced t a b e d.value → IsStmtPlaced t b c s u.value → IsStmtPlaced t a c (Switch e cases default s) (stmt.Switch d cases default u)
  switch_placed a b c e cases default s d u p q =
      layered a c (Switch e cases default s) _ _ (is_switch d cases default u)
      (record {
        means = λ j. Switch (p.means j) cases default ((q.means ∙ ap (λ n. placed_stmt n s) (count t _ a b p.grows)) j);
        grows = expr_then a b c e s p.grows q.grows;
        is_in = (p.is_in, q.is_in);
      })

  pub do_placed : (a b c : List ℕ) (s : StmtOf CType) (e : CoreTree) (u : Box CoreStmt) (d : CoreOf ℕ) → IsStmtPlaced t a b s u.value → IsPlaced t b c e d → IsStmtPlaced t a c (Do s e) (stmt.Do u d)
  do_placed a b c s e u d p q =
      layered a c (Do s e) _ _ (is_do u d)
      (record {
        means = λ j. Do (p.means j) ((q.means ∙ ap (λ n. placed n e) (count t _ a b p.grows)) j);
        grows =
            same_grows t _ _ a c (ap (λ ls. all_copies (expressions s) ++ ls) (one_expr e) ∙ sym (copies_append (expressions s) (e ∷ [])))
            (then_grows t _ _ a b c p.grows q.grows);
        is_in = (p.is_in, q.is_in);
      })

  pub if_placed : (a b c d : List ℕ) (e : CoreTree) (s u : StmtOf CType) (x : Box (CoreOf ℕ)) (y z : Box CoreStmt) → IsPlaced t a b e x.value → IsStmtPlaced t b c s y.value → IsStmtPlaced t c d u z.value → IsStmtPlaced t a d (If e s u) (stmt.If x y z)
  if_placed a b c d e s u x y z p q r =
      let m = count t _ a b p.grows in
      let n = count t _ b c q.grows ∙ ap (λ k. k + stmt_copies s) m in
      layered a d (If e s u) _ _ (is_if x y z)
      (record {
        means = λ j. If (p.means j) ((q.means ∙ ap (λ k. placed_stmt k s) m) j) ((r.means ∙ ap (λ k. placed_stmt k u) n) j);
        grows =
            same_grows t _ _ a d (ap (λ ls. copies_in e ++ ls) (sym (copies_append (expressions s) (expressions u))))
            (then_grows t _ _ a b d p.grows (then_grows t _ _ b c d q.grows r.grows));
        is_in = (p.is_in, (q.is_in, r.is_in));
      })

  pub for_placed : (a d e : List ℕ) (whole : Option CoreTree → Option CoreTree) (old : CoreForHead) (s : StmtOf CType) (x : Box CoreForHead) (u : Box CoreStmt) → IsHeadPlaced t a d whole old x.value → IsStmtPlaced t d e s u.value
      → IsStmtPlaced t a e (For (whole (maybe_seen (type_at t) old.first)) (whole (maybe_seen (type_at t) old.test)) (whole (maybe_seen (type_at t) old.last)) s) (stmt.For x u)
  for_placed a d e whole old s x u k v =
      let b = k.behind_first in
      let c = k.behind_test in
      let f = whole (maybe_seen (type_at t) old.first) in
      let g = whole (maybe_seen (type_at t) old.test) in
      let h = whole (maybe_seen (type_at t) old.last) in
      let p = k.first in
      let q = k.test in
      let r = k.last in
      let l = count t _ a b p.grows in
      let m = count t _ b c q.grows ∙ ap (λ k. k + some_copies g) l in
      let n = count t _ c d r.grows ∙ ap (λ k. k + some_copies h) m in
      layered a e (For f g h s) _ _ (is_for x u)
      (record {
        means = λ j. For (p.means j) ((q.means ∙ ap (λ k. some_placed k g) l) j) ((r.means ∙ ap (λ k. some_placed k h) m) j) ((v.means ∙ ap (λ k. placed_stmt k s) n) j);
        grows =
            same_grows t _ _ a e
            (sym (copies_append (maybe f ++ maybe g ++ maybe h) (expressions s)
            ∙ ap (λ ls. ls ++ all_copies (expressions s)) (copies_append (maybe f ++ maybe g) (maybe h) ∙ ap (λ ls. ls ++ all_copies (maybe h)) (copies_append (maybe f) (maybe g)))))
            (then_grows t _ _ a d e (then_grows t _ _ a c d (then_grows t _ _ a b c p.grows q.grows) r.grows) v.grows);
        is_in = (p.is_in, (q.is_in, (r.is_in, v.is_in)));
      })

-- an initialisation by its layer
pub initialise_seen : (t : Table) (meant : ℕ → CoreKind) (texts : List (List ℕ)) (a b : List ℕ) (local : ℕ) (zero : Bool) (ps qs : List FilledPlace)
    → ArePlacesPlaced t a b (whole_places meant texts (map (λ q. place_seen (type_at t) (filled_of q)) ps)) qs
    → IsStmtPlaced t a b (whole_stmt meant texts (stmt_seen (type_at t) (Initialise local zero (map filled_of ps)))) (stmt.Initialise local zero qs)
initialise_seen t meant texts a b local zero ps qs p =
    subst (λ rs. IsStmtPlaced t a b (Initialise local zero (whole_places meant texts rs)) (stmt.Initialise local zero qs)) (sym (filled_seen (type_at t) ps))
    (initialise_placed t a b local zero _ qs p)

-- ---- from where the parts stood

module _ (t : Table) (meant : ℕ → CoreKind) (texts : List (List ℕ)) where
  pub from_value : (a b : List ℕ) (x y d : CoreOf ℕ) → x ≡ y → IsPlaced t a b (whole meant texts (seen (type_at t) x)) d → IsPlaced t a b (whole meant texts (seen (type_at t) y)) d
  from_value a b x y d e p = subst (λ z. IsPlaced t a b (whole meant texts (seen (type_at t) z)) d) e p

  pub from_head : (a b : List ℕ) (x y d : CoreForHead) → x ≡ y → IsHeadPlaced t a b (some_whole meant texts) x d → IsHeadPlaced t a b (some_whole meant texts) y d
  from_head a b x y d e p = subst (λ z. IsHeadPlaced t a b (some_whole meant texts) z d) e p

  pub from_stmt : (a b : List ℕ) (x y d : CoreStmt) → x ≡ y → IsStmtPlaced t a b (whole_stmt meant texts (stmt_seen (type_at t) (stmt_of x))) d → IsStmtPlaced t a b (whole_stmt meant texts (stmt_seen (type_at t) (stmt_of y))) d
  from_stmt a b x y d e p = subst (λ z. IsStmtPlaced t a b (whole_stmt meant texts (stmt_seen (type_at t) (stmt_of z))) d) e p
