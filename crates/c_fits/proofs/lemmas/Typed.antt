-- What is typed fits: the induction over expressions.
use Rattle.std.proofs.Common.{ℕ, Bool, true, false, List, subst}
use Rattle.std.specs.Prelude.{is_none}
use Rattle.c_ast.specs.Levels.{Parts, AllAssign, TwoExprs}
use Rattle.c_ast.specs.Trees.{ExprTree, Name, Integer, Character, Text, Enclosed, Index, Call, Member, Postfix, Prefix, SizeofExpr, SizeofType, Cast, Binary, Conditional, Assign, Comma, ExprTrees, NoExprs, Exprs}
use Rattle.c_meaning.specs.CoreTrees.{Cores}
use Rattle.c_meaning.specs.Fits.{IsOpenLeaf}
use Rattle.c_meaning.specs.Nodes.{ExprNode}
use Rattle.c_meaning.specs.Nodes as node
use Rattle.c_meaning.specs.State.{State, int_function, link_or_next, place_of}
use Rattle.c_meaning.specs.TypingRelation.{IsCallee, IsExpr, Types, TypesAll, TypesCallee}
use Rattle.c_meaning.specs.Values.{CoreTree, CoreTrees}
use Rattle.c_fits.specs.Sound.{Follows, IsSound}
use Rattle.c_fits.proofs.lemmas.Growing.{fits_stays}
use Rattle.c_fits.proofs.lemmas.Places.{symbol_part}
use Rattle.c_fits.proofs.lemmas.Rows.{HasParts, IsSome, row_part}
use Rattle.c_fits.proofs.lemmas.Values.{AreParts, IsPart}
use Rattle.c_fits.proofs.lemmas.Walk.{callee_goes, expr_goes, exprs_go, name_goes}

-- what fits does so still where more is known
pub part_stays : (s u : State) (c : CoreTree) → Follows s u → IsPart s.tags c → IsPart u.tags c
part_stays s u c f p = record { fits = fits_stays IsOpenLeaf s.tags u.tags f.tags c p.fits; bare = p.bare }

-- a node whose parts fit
at_row : (s : State) (l : ℕ) (n : ExprNode) (u : State) (c : CoreTree) → IsExpr s l n u c → IsSound s → HasParts s.tags n → IsPart u.tags c
at_row s l n u c h k p = subst (λ (u : State). IsPart u.tags c) h.1.0 (subst (IsPart s.tags) h.1.1 (row_part s k l n h.0 p))

named_part : (s : State) (l : ℕ) (x : List ℕ) (b : Bool) (types : State → CoreTree → Type 0) (u : State) (c : CoreTree) → (types u c → IsPart u.tags c) → IsCallee s l x b types u c → IsPart u.tags c
named_part s l x true types u c g h = subst (IsPart u.tags) h.1.1 (symbol_part u.tags (link_or_next s x) l int_function)
named_part s l x false types u c g h = g h

callee_part : (s : State) (f : ExprTree) (u : State) (c : CoreTree) → (Types s f u c → IsPart u.tags c) → TypesCallee s f (Types s f) u c → IsPart u.tags c
callee_part s (Name l x) u c g h = named_part s l x (is_none (place_of s x)) (Types s (Name l x)) u c g h
callee_part s f u c g h = g h

-- a comma of the grammar has parts
some_parts : (s : State) (es : ExprTrees) (u : State) (cs : CoreTrees) → TwoExprs es → TypesAll s es u cs → IsSome cs
some_parts s NoExprs u cs g h = absurd g
some_parts s (Exprs e es) u cs g h = subst IsSome h.3.3.1 tt

mutual
  pub expr_part : (s : State) (e : ExprTree) (u : State) (c : CoreTree) → Types s e u c → Parts e → IsSound s → IsPart u.tags c
  expr_part s (Name l x) u c h g k = at_row s l (node.Name x) u c h k tt
  expr_part s (Integer l n i) u c h g k = at_row s l (node.Integer n i) u c h k tt
  expr_part s (Character l z) u c h g k = at_row s l (node.Character z) u c h k tt
  expr_part s (Text l texts) u c h g k = at_row s l (node.Text texts) u c h k tt
  expr_part s (Enclosed l e) u c h g k = expr_part s e u c h g k
  expr_part s (Index l a i) u c h g k =
      let f = expr_goes s a h.0 h.1 h.2 k in
      let d = expr_goes h.0 i h.3.0 h.3.1 h.3.2 f.sound in
      at_row h.3.0 l (node.Index h.1 h.3.1) u c h.3.3 d.sound
      (part_stays h.0 h.3.0 h.1 d (expr_part s a h.0 h.1 h.2 g.1 k), expr_part h.0 i h.3.0 h.3.1 h.3.2 g.2 f.sound)
  expr_part s (Call l e es) u c h g k =
      let f = callee_goes s e h.0 h.1 (expr_goes s e h.0 h.1) h.2 k in
      let d = exprs_go h.0 es h.3.0 h.3.1 h.3.2 f.sound in
      at_row h.3.0 l (node.Call h.1 h.3.1) u c h.3.3 d.sound
      (part_stays h.0 h.3.0 h.1 d (callee_part s e h.0 h.1 (λ t. expr_part s e h.0 h.1 t g.1 k) h.2), exprs_parts h.0 es h.3.0 h.3.1 h.3.2 g.2 f.sound)
  expr_part s (Member l op a x) u c h g k =
      let f = expr_goes s a h.0 h.1 h.2 k in
      at_row h.0 l (node.Member op h.1 x) u c h.3 f.sound (expr_part s a h.0 h.1 h.2 g.1 k)
  expr_part s (Postfix l op a) u c h g k =
      let f = expr_goes s a h.0 h.1 h.2 k in
      at_row h.0 l (node.Postfix op h.1) u c h.3 f.sound (expr_part s a h.0 h.1 h.2 g.1 k)
  expr_part s (Prefix l op a) u c h g k =
      let f = expr_goes s a h.0 h.1 h.2 k in
      at_row h.0 l (node.Prefix op h.1) u c h.3 f.sound (expr_part s a h.0 h.1 h.2 g.1 k)
  expr_part s (SizeofExpr l a) u c h g k = let f = expr_goes s a h.0 h.1 h.2 k in at_row h.0 l (node.SizeofExpr h.1) u c h.3 f.sound tt
  expr_part s (SizeofType l t) u c h g k = let f = name_goes s t h.0 h.1 h.2 k in at_row h.0 l (node.SizeofType h.1) u c h.3 f.sound tt
  expr_part s (Cast l t a) u c h g k =
      let f = name_goes s t h.0 h.1 h.2 k in
      let d = expr_goes h.0 a h.3.0 h.3.1 h.3.2 f.sound in
      at_row h.3.0 l (node.Cast h.1 h.3.1) u c h.3.3 d.sound (expr_part h.0 a h.3.0 h.3.1 h.3.2 g.2 f.sound)
  expr_part s (Binary l op a b) u c h g k =
      let f = expr_goes s a h.0 h.1 h.2 k in
      let d = expr_goes h.0 b h.3.0 h.3.1 h.3.2 f.sound in
      at_row h.3.0 l (node.Binary op h.1 h.3.1) u c h.3.3 d.sound
      (part_stays h.0 h.3.0 h.1 d (expr_part s a h.0 h.1 h.2 g.1 k), expr_part h.0 b h.3.0 h.3.1 h.3.2 g.3 f.sound)
  expr_part s (Conditional l a b e) u c h g k =
      let f = expr_goes s a h.0 h.1 h.2 k in
      let d = expr_goes h.0 b h.3.0 h.3.1 h.3.2 f.sound in
      let m = expr_goes h.3.0 e h.3.3.0 h.3.3.1 h.3.3.2 d.sound in
      at_row h.3.3.0 l (node.Conditional h.1 h.3.1 h.3.3.1) u c h.3.3.3 m.sound (
        part_stays h.3.0 h.3.3.0 h.1 m (part_stays h.0 h.3.0 h.1 d (expr_part s a h.0 h.1 h.2 g.1 k)),
        (part_stays h.3.0 h.3.3.0 h.3.1 m (expr_part h.0 b h.3.0 h.3.1 h.3.2 g.2 f.sound), expr_part h.3.0 e h.3.3.0 h.3.3.1 h.3.3.2 g.4 d.sound),
      )
  expr_part s (Assign l op a b) u c h g k =
      let f = expr_goes s a h.0 h.1 h.2 k in
      let d = expr_goes h.0 b h.3.0 h.3.1 h.3.2 f.sound in
      at_row h.3.0 l (node.Assign op h.1 h.3.1) u c h.3.3 d.sound
      (part_stays h.0 h.3.0 h.1 d (expr_part s a h.0 h.1 h.2 g.1 k), expr_part h.0 b h.3.0 h.3.1 h.3.2 g.3 f.sound)
  expr_part s (Comma l es) u c h g k =
      let f = exprs_go s es h.0 h.1 h.2 k in
      at_row h.0 l (node.Comma h.1) u c h.3 f.sound (some_parts s es h.0 h.1 g.0 h.2, exprs_parts s es h.0 h.1 h.2 g.1 k)

  pub exprs_parts : (s : State) (es : ExprTrees) (u : State) (cs : CoreTrees) → TypesAll s es u cs → AllAssign es → IsSound s → AreParts u.tags cs
  exprs_parts s NoExprs u cs h g k = subst (AreParts u.tags) h.1 tt
  exprs_parts s (Exprs e es) u cs h g k =
      let f = expr_goes s e h.0 h.1 h.2 k in
      let d = exprs_go h.0 es h.3.0 h.3.1 h.3.2 f.sound in
      let p = part_stays h.0 h.3.0 h.1 d (expr_part s e h.0 h.1 h.2 g.1 k) in
      let q = exprs_parts h.0 es h.3.0 h.3.1 h.3.2 g.2 f.sound in
      subst (AreParts u.tags) h.3.3.1 (subst (λ (u : State). AreParts u.tags (Cores h.1 h.3.1)) h.3.3.0 (p, q))
