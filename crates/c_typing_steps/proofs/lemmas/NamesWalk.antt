-- Each name in a typed expression stands for what the declaration in force says where it stands.
use Rattle.std.proofs.Common.{◌≡◌, ℕ, List, [], ◌∷◌, ◌++◌, length, refl, subst}
use Rattle.std.specs.Prelude.{false, Option, Some, None, IfSome, ℤ, pos, is_none}
use Rattle.c_ast.specs.Trees.{ExprTree, Name, Integer, Character, Text, Enclosed, Index, Member, Postfix, Prefix, SizeofExpr, SizeofType, Cast, Binary, Conditional, Assign, Comma, ExprTrees, NoExprs, Exprs, MaybeExpr, NoExpr, AnExpr}
use Rattle.c_ast.specs.Trees as tree
use Rattle.c_symbols.specs.declared.symbol.Storage.{Storage}
use Rattle.c_symbols.specs.declared.symbol.Storage.TheVariants as storage
use Rattle.c_symbols.specs.Scoping.{found, or_else, symbol_named}
use Rattle.c_meaning.specs.declared.core_expr.CoreKind.{CoreKind}
use Rattle.c_meaning.specs.declared.core_expr.CoreKind.TheVariants as kind
use Rattle.c_meaning.specs.CoreTrees.{Cores}
use Rattle.c_meaning.specs.ExprConstraints.{differs_from_int_function}
use Rattle.c_meaning.specs.Nodes.{ExprNode}
use Rattle.c_meaning.specs.Nodes as node
use Rattle.c_meaning.specs.Rows.{kind_meant, meant, row}
use Rattle.c_meaning.specs.State.{Known, State, declared, external, known_at, level_of, link_or_next, nothing_known, place_here, place_of, with_function, with_link}
use Rattle.c_meaning.specs.TypingRelation.{IsCallee, IsExpr, Types, TypesAll, TypesCallee, TypesMaybe}
use Rattle.c_meaning.specs.Values.{CoreTree, CoreTrees}
use Rattle.c_tree_names.specs.Names.{AllNames, ExprNames, IsName, MaybeNames}
use Rattle.c_fits.proofs.lemmas.Lists.{named_last, seam}
use Rattle.c_typing_steps.specs.Names.{EachName, EachNameOf, IfName, StandsFor}
use Rattle.c_typing_steps.specs.Steps.{Steps, Stay, Go, Call}
use Rattle.c_typing_steps.proofs.lemmas.Builders.{EachNameAt, row_names}
use Rattle.c_typing_steps.proofs.lemmas.Names.{all_between, each_between}
use Rattle.c_typing_steps.proofs.lemmas.Walk.{all_steps, callee_steps, expr_steps, link_fits, type_steps}

-- ---- declared names

-- what the innermost scope has is found, and where nothing is found it has nothing
found_inner : (scopes : List (List (List ℕ × ℕ))) (inner : List (List ℕ × ℕ)) (name : List ℕ) (id : ℕ) → symbol_named inner name ≡ Some id → found (scopes ++ inner ∷ []) name ≡ Some id
found_inner [] inner name id e = e
found_inner (s ∷ ss) inner name id e = rw (found_inner ss inner name id e)

none_inner : (scopes : List (List (List ℕ × ℕ))) (inner : List (List ℕ × ℕ)) (name : List ℕ) → found (scopes ++ inner ∷ []) name ≡ None → symbol_named inner name ≡ None
none_inner [] inner name e = e
none_inner (s ∷ ss) inner name e = none_inner ss inner name (by (found (ss ++ inner ∷ []) name) e)
  where
    by : (o : Option ℕ) → or_else o (symbol_named s name) ≡ None → o ≡ None
    by None e = refl
    by (Some id) e = e

-- a name that is declared is found behind that, where the innermost scope doesn't have it
pub declared_found : (s : State) (name : List ℕ) (k : Known) → place_here s name ≡ None → place_of (declared s name k) name ≡ Some (length s.symbols)
declared_found s name k e = found_inner s.outer (s.inner ++ (name, length s.symbols) ∷ []) name (length s.symbols) (named_last s.inner name (length s.symbols) e)

-- and is what it was declared as
pub declared_known : (s : State) (name : List ℕ) (k : Known) → known_at (declared s name k) (length s.symbols) ≡ k
declared_known s name k = seam s.symbols k nothing_known

-- ---- names and string literals

name_stands : (s : State) (x : List ℕ) (id : ℕ) → IsName x → place_of s x ≡ Some id → (what : CoreKind) → what ≡ kind_meant (known_at s id).class (known_at s id).value id → IfName (StandsFor s s) what (known_at s id).of
name_stands s x id n e (kind.Local place register) m = record { at = s; before = Stay; behind = Stay; name = x; is = n; id = id; found = e; means = m; type = refl }
name_stands s x id n e (kind.Symbol l) m = record { at = s; before = Stay; behind = Stay; name = x; is = n; id = id; found = e; means = m; type = refl }
name_stands s x id n e (kind.Literal bytes) m = absurd (no_literal (known_at s id).class (known_at s id).value id bytes m)
  where
    no_literal : (c : Storage) (v : Option ℤ) (id : ℕ) (bytes : List ℕ) → kind.Literal bytes ≡ kind_meant c v id → ⊥
    no_literal storage.Enumerator v id bytes m = let never : ⊥ = cc in never
    no_literal storage.Auto v id bytes m = let never : ⊥ = cc in never
    no_literal storage.Register v id bytes m = let never : ⊥ = cc in never
    no_literal c v id bytes m = let never : ⊥ = cc in never
name_stands s x id n e what m = tt

meant_stands : (s : State) (x : List ℕ) (line : ℕ) (o : Option ℕ) → IsName x → place_of s x ≡ o → EachName (StandsFor s s) (meant s o line)
meant_stands s x line None n e = (tt, tt)
meant_stands s x line (Some id) n e = (name_stands s x id n e (kind_meant (known_at s id).class (known_at s id).value id) refl, tt)

-- a name that is declared by its call stands for a function behind it
new_stands : (s : State) (line : ℕ) (x : List ℕ) → IsName x → place_of s x ≡ None → differs_from_int_function s (symbol_named s.links x) ≡ false → EachName (StandsFor s (with_function s line x)) (row s line (node.NewFunction x))
new_stands s line x n e f = (
  record {
    at = with_function s line x;
    before = Call s line x n e f;
    behind = Stay;
    name = x;
    is = n;
    id = length linked.symbols;
    found = declared_found linked x k (same_inner (symbol_named s.links x) (none_inner s.outer s.inner x e));
    means = rw (declared_known linked x k) refl;
    type = rw (declared_known linked x k) refl;
  },
  tt,
)
  where
    k : Known
    k = external line (level_of s) (Some (pos (link_or_next s x)))

    linked : State
    linked = with_link s x (symbol_named s.links x) (external line 0 None)

    same_inner : (o : Option ℕ) → place_here s x ≡ None → place_here (with_link s x o (external line 0 None)) x ≡ None
    same_inner None h = h
    same_inner (Some id) h = h

-- ---- the walk

-- what a row makes of its parts
ends : (s t u : State) (line : ℕ) (n : ExprNode) (c : CoreTree) → EachNameAt (StandsFor s t) t line n → IsExpr t line n u c → EachName (StandsFor s u) c
ends s t u line n c p h = subst (EachName (StandsFor s u)) h.1.1 (subst (λ u. EachName (StandsFor s u) (row t line n)) h.1.0 (row_names (StandsFor s t) t line n p))

-- of a part, up to the end of the next one, and from the begin of the one before
onward : (s t u : State) (c : CoreTree) → Steps t u → EachName (StandsFor s t) c → EachName (StandsFor s u) c
onward s t u c f h = each_between s s t u c Stay f h

back : (s t u : State) (c : CoreTree) → Steps s t → EachName (StandsFor t u) c → EachName (StandsFor s u) c
back s t u c f h = each_between s t u u c f Stay h

named_callee : (s : State) (l : ℕ) (x : List ℕ) (types : State → CoreTree → Type 0) (u : State) (c : CoreTree) → IsName x → (types u c → EachName (StandsFor s u) c) → IsCallee s l x (is_none (place_of s x)) types u c → EachName (StandsFor s u) c
named_callee s l x types u c n g h = by (place_of s x) refl h
  where
    by : (o : Option ℕ) → place_of s x ≡ o → IsCallee s l x (is_none o) types u c → EachName (StandsFor s u) c
    by None e h = subst (EachName (StandsFor s u)) h.1.1 (subst (λ u. EachName (StandsFor s u) (row s l (node.NewFunction x))) h.1.0 (new_stands s l x n e (link_fits s l x h.0)))
    by (Some id) e h = g h

callee_names : (s : State) (f : ExprTree) (u : State) (c : CoreTree) → ExprNames f → (Types s f u c → EachName (StandsFor s u) c) → TypesCallee s f (Types s f) u c → EachName (StandsFor s u) c
callee_names s (Name l x) u c n g h = named_callee s l x (Types s (Name l x)) u c n g h
callee_names s f u c n g h = g h

mutual
  pub expr_names : (s : State) (e : ExprTree) (u : State) (c : CoreTree) → ExprNames e → Types s e u c → EachName (StandsFor s u) c
  expr_names s (Name l x) u c n h = ends s s u l (node.Name x) c (meant_stands s x l (place_of s x) n refl) h
  expr_names s (Integer l v k) u c n h = ends s s u l (node.Integer v k) c tt h
  expr_names s (Character l z) u c n h = ends s s u l (node.Character z) c tt h
  expr_names s (Text l texts) u c n h = ends s s u l (node.Text texts) c (refl, tt) h
  expr_names s (Enclosed l e) u c n h = expr_names s e u c n h
  expr_names s (Index l a i) u c n h =
      ends s h.3.0 u l (node.Index h.1 h.3.1) c
      (onward s h.0 h.3.0 h.1 (expr_steps h.0 i h.3.0 h.3.1 n.1 h.3.2) (expr_names s a h.0 h.1 n.0 h.2), back s h.0 h.3.0 h.3.1 (expr_steps s a h.0 h.1 n.0 h.2) (expr_names h.0 i h.3.0 h.3.1 n.1 h.3.2)) h.3.3
  expr_names s (tree.Call l f es) u c n h =
      ends s h.3.0 u l (node.Call h.1 h.3.1) c (
        onward s h.0 h.3.0 h.1 (all_steps h.0 es h.3.0 h.3.1 n.1 h.3.2) (callee_names s f h.0 h.1 n.0 (expr_names s f h.0 h.1 n.0) h.2),
        all_between s h.0 h.3.0 h.3.0 h.3.1 (callee_steps s f h.0 h.1 n.0 (expr_steps s f h.0 h.1 n.0) h.2) Stay (all_names h.0 es h.3.0 h.3.1 n.1 h.3.2),
      ) h.3.3
  expr_names s (Member l op a x) u c n h = ends s h.0 u l (node.Member op h.1 x) c (expr_names s a h.0 h.1 n h.2) h.3
  expr_names s (Postfix l op a) u c n h = ends s h.0 u l (node.Postfix op h.1) c (expr_names s a h.0 h.1 n h.2) h.3
  expr_names s (Prefix l op a) u c n h = ends s h.0 u l (node.Prefix op h.1) c (expr_names s a h.0 h.1 n h.2) h.3
  expr_names s (SizeofExpr l a) u c n h = ends s h.0 u l (node.SizeofExpr h.1) c tt h.3
  expr_names s (SizeofType l t) u c n h = ends s h.0 u l (node.SizeofType h.1) c tt h.3
  expr_names s (Cast l t a) u c n h =
      ends s h.3.0 u l (node.Cast h.1 h.3.1) c (back s h.0 h.3.0 h.3.1 (type_steps s t h.0 h.1 n.0 h.2) (expr_names h.0 a h.3.0 h.3.1 n.1 h.3.2)) h.3.3
  expr_names s (Binary l op a b) u c n h =
      ends s h.3.0 u l (node.Binary op h.1 h.3.1) c
      (onward s h.0 h.3.0 h.1 (expr_steps h.0 b h.3.0 h.3.1 n.1 h.3.2) (expr_names s a h.0 h.1 n.0 h.2), back s h.0 h.3.0 h.3.1 (expr_steps s a h.0 h.1 n.0 h.2) (expr_names h.0 b h.3.0 h.3.1 n.1 h.3.2)) h.3.3
  expr_names s (Conditional l a b d) u c n h =
      let f = expr_steps s a h.0 h.1 n.0 h.2 in
      let g = expr_steps h.0 b h.3.0 h.3.1 n.1.0 h.3.2 in
      let k = expr_steps h.3.0 d h.3.3.0 h.3.3.1 n.1.1 h.3.3.2 in
      ends s h.3.3.0 u l (node.Conditional h.1 h.3.1 h.3.3.1) c (
        onward s h.0 h.3.3.0 h.1 (Go g k) (expr_names s a h.0 h.1 n.0 h.2),
        (each_between s h.0 h.3.0 h.3.3.0 h.3.1 f k (expr_names h.0 b h.3.0 h.3.1 n.1.0 h.3.2), back s h.3.0 h.3.3.0 h.3.3.1 (Go f g) (expr_names h.3.0 d h.3.3.0 h.3.3.1 n.1.1 h.3.3.2)),
      ) h.3.3.3
  expr_names s (Assign l op a b) u c n h =
      ends s h.3.0 u l (node.Assign op h.1 h.3.1) c
      (onward s h.0 h.3.0 h.1 (expr_steps h.0 b h.3.0 h.3.1 n.1 h.3.2) (expr_names s a h.0 h.1 n.0 h.2), back s h.0 h.3.0 h.3.1 (expr_steps s a h.0 h.1 n.0 h.2) (expr_names h.0 b h.3.0 h.3.1 n.1 h.3.2)) h.3.3
  expr_names s (Comma l es) u c n h = ends s h.0 u l (node.Comma h.1) c (all_names s es h.0 h.1 n h.2) h.3

  pub all_names : (s : State) (es : ExprTrees) (u : State) (cs : CoreTrees) → AllNames es → TypesAll s es u cs → EachNameOf (StandsFor s u) cs
  all_names s NoExprs u cs n h = subst (EachNameOf (StandsFor s u)) h.1 tt
  all_names s (Exprs e es) u cs n h =
      subst (EachNameOf (StandsFor s u)) h.3.3.1
      (subst (λ u. EachNameOf (StandsFor s u) (Cores h.1 h.3.1)) h.3.3.0 (onward s h.0 h.3.0 h.1 (all_steps h.0 es h.3.0 h.3.1 n.1 h.3.2) (expr_names s e h.0 h.1 n.0 h.2), all_between s h.0 h.3.0 h.3.0 h.3.1 (expr_steps s e h.0 h.1 n.0 h.2) Stay (all_names h.0 es h.3.0 h.3.1 n.1 h.3.2)))

pub maybe_names : (s : State) (e : MaybeExpr) (u : State) (c : Option CoreTree) → MaybeNames e → TypesMaybe s e u c → IfSome c (EachName (StandsFor s u))
maybe_names s NoExpr u c n h = subst (λ c. IfSome c (EachName (StandsFor s u))) h.1 tt
maybe_names s (AnExpr e) u c n h = subst (λ c. IfSome c (EachName (StandsFor s u))) h.3.1 (subst (λ u. EachName (StandsFor s u) h.1) h.3.0 (expr_names s e h.0 h.1 n h.2))
