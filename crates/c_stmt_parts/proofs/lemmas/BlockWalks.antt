-- Blocks: what their declarations declare, their statements, and the scope around them.
use Rattle.std.proofs.Common.{◌≡◌, ◌≢◌, ℕ, ◌<◌, List, [], ◌∷◌, ◌++◌, length, map, suc, refl, sym, ap, ◌∙◌, subst}
use Rattle.std.specs.Prelude.{Result, Ok, Err, IsErrAnd}
use Rattle.c_ast.specs.SeenUnits.{declaration_seen}
use Rattle.c_ast.specs.Trees.{Block, BlockTree, Compound, StatementTrees}
use Rattle.c_ast.specs.UnitViews.{statements_of}
use Rattle.c_ast.specs.declared.statement.Block.{Block as BlockValue, out-Block}
use Rattle.c_ast.specs.declared.statement.Declaration.{Declaration}
use Rattle.c_ast.specs.declared.statement.Statement.{Statement}
use Rattle.c_symbols.specs.Scoping.{Scoping}
use Rattle.c_types.specs.CType.{CType}
use Rattle.c_types.specs.Table.{Table, Extends, type_at}
use Rattle.c_meaning.specs.Declarations.{Declares as DeclaresTrees}
use Rattle.c_meaning.specs.State.{State, entered, left}
use Rattle.c_meaning.specs.StmtTrees.{StmtOf, StmtsOf}
use Rattle.c_meaning.specs.StmtTrees as code
use Rattle.c_meaning.specs.Typing.{Outcome, Fine, then_do}
use Rattle.c_meaning.specs.declared.core_stmt.CoreStmt.{CoreStmt}
use Rattle.c_meaning.specs.declared.core_stmt.CoreStmt.TheVariants as stmt
use Rattle.c_values.specs.declared.check_fault.CheckFault.{CheckFault}
use Rattle.c_check_expr.specs.Keeps.{Keeps}
use Rattle.c_check_expr.specs.Known.{state_of}
use Rattle.c_check_expr.proofs.lemmas.Walking.{first_stops, passed, tells_first, walk_as, walk_then}
use Rattle.c_check_expr.specs.Walks.{Walks}
use Rattle.c_check_decl.specs.declared.declares.Declares.{Declares}
use Rattle.c_check_decl.specs.Declares.{AreDeclaredIn, AreFillsIn, declares_in, stmt_in}
use Rattle.c_check_decl.proofs.lemmas.DeclaresStay.{declares_later, declares_stay}
use Rattle.c_units.specs.Bodies.{Body as BodyTrees, Typed, Within as WithinTrees, all_typed_stmts, block_of, done, stmts_behind, typed_block, with_declared}
use Rattle.c_units.specs.Statements.{Around as AroundTrees}
use Rattle.c_stmt_parts.specs.declared.around.Within.{Within}
use Rattle.c_stmt_parts.specs.declared.body.Body.{Body}
use Rattle.c_stmt_parts.specs.BodiesSeen.{IsBodyIn, body_in, within_in}
use Rattle.c_stmt_parts.proofs.lemmas.BodiesStay.{body_stays, within_stays}
use Rattle.c_stmt_parts.proofs.lemmas.StatementLayers.{block_within}
use Rattle.c_stmt_parts.proofs.lemmas.StatementLayers as layer
use Rattle.c_stmt_parts.specs.StatementsIn.{AreStmtsBelow, IsCodeIn, WalksStmt, WalksStmts, block_in, code_in, codes_in, declarations_in, statement_in, statements_in, stmts_in, with_body}
use Rattle.c_stmt_parts.specs.StatementsSeen.{block_parts, block_seen, statement_seen}
use Rattle.c_stmt_parts.proofs.lemmas.StatementLists.{below_behind}
use Rattle.c_stmt_parts.proofs.lemmas.StatementWalks.{with_err}

-- ---- what locals begin with, and the statements behind

fills_behind : (t : Table) (fills codes : List CoreStmt) → stmts_in t (fills ++ codes) ≡ stmts_behind (map (stmt_in t) fills) (stmts_in t codes)
fills_behind t [] codes = refl
fills_behind t (s ∷ fills) codes = ap (code.Stmts (stmt_in t s)) (fills_behind t fills codes)

fills_below : (n : ℕ) (fills : List CoreStmt) → AreFillsIn n fills → AreStmtsBelow n fills
fills_below n [] i = tt
fills_below n (s ∷ fills) i = (i.0, fills_below n fills i.1)

mapped_length : {A B : Type 0} (f : A → B) (xs : List A) → length (map f xs) ≡ length xs
mapped_length f [] = refl
mapped_length f (x ∷ xs) = ap suc (mapped_length f xs)

-- ---- a block in its scope

pub block_as : (f : WithinTrees) (around : AroundTrees) (b : BodyTrees) {s u : Scoping} {a c : Table} (x : Body) (r : Result CoreStmt CheckFault) (v : BlockValue) → WalksStmt (block_in f around s a b (Block (out-Block v).line (map declaration_seen (out-Block v).declarations) (statements_of (map statement_seen (out-Block v).statements)))) s a u c x r
    → WalksStmt (block_in f around s a b (block_seen v)) s a u c x r
block_as f around b {s = s} {u = u} {a = a} {c = c} x r v w = subst (λ t. WalksStmt (block_in f around s a b t) s a u c x r) (sym (block_parts v)) w

module _ (w : Within) (around : AroundTrees) (s : Scoping) (a : Table) (x : Body) (line : ℕ) (ds : List Declaration) (ss : List Statement) where
  abbrev f : WithinTrees
  f = within_in a w

  abbrev trees : StatementTrees
  trees = statements_of (map statement_seen ss)

  abbrev tree : BlockTree
  tree = Block line (map declaration_seen ds) trees

  abbrev behind : State → DeclaresTrees → Outcome (Typed (StmtOf CType))
  behind m what = then_do (all_typed_stmts f around m (with_declared (body_in a x) what) trees) (λ u t. Fine u (block_of (body_in a x) what t))

  block_is : block_in f around s a (body_in a x) tree ≡ then_do (declarations_in s a (map declaration_seen ds)) behind
  unfolding block_in declarations_in
  block_is = refl

  pub block_stops : {u : Scoping} {c : Table} {d : CheckFault} (y : Body) (r : Result CoreStmt CheckFault) → IsErrAnd r (λ e. e ≡ d) → Walks declares_in AreDeclaredIn (declarations_in s a (map declaration_seen ds)) s a u c (Err d) → WalksStmt (block_in f around s a (body_in a x) tree) s a u c y r
  block_stops y r h p = walk_as _ _ block_is (first_stops code_in IsCodeIn (declarations_in s a (map declaration_seen ds)) behind (with_body y r) (with_err _ y r h) p)

  module _ {m : Scoping} {t : Table} (what : Declares) (y : Body) (below : w.result < length a.forms) (within : IsBodyIn (length a.forms) x) (first : Walks declares_in AreDeclaredIn (declarations_in s a (map declaration_seen ds)) s a m t (Ok what))
      (declared : body_in t y ≡ with_declared (body_in t x) (declares_in t what)) where
    abbrev inside : Outcome (Typed (StmtsOf CType))
    inside = all_typed_stmts f around (state_of m t) (with_declared (body_in a x) (declares_in t what)) trees

    inside_is : statements_in (within_in t w) around m t (body_in t y) trees ≡ inside
    unfolding statements_in
    inside_is =
        ap (λ (g : WithinTrees). all_typed_stmts g around (state_of m t) (body_in t y) trees) (within_stays a t first.keeps.extends w below)
        ∙ ap (λ b. all_typed_stmts f around (state_of m t) b trees) (declared ∙ ap (λ b. with_declared b (declares_in t what)) (body_stays a t first.keeps.extends x within))

    pub block_stops_second : {u : Scoping} {c : Table} {d : CheckFault} (z : Body) (r : Result CoreStmt CheckFault) → IsErrAnd r (λ e. e ≡ d) → WalksStmts (statements_in (within_in t w) around m t (body_in t y) trees) m t u c z (Err d) → WalksStmt (block_in f around s a (body_in a x) tree) s a u c z r
    block_stops_second {u = u} {c = c} {d = d} z r h p =
        passed (with_body z r) (with_err _ z r h)
        (walk_as _ _ block_is (walk_then code_in IsCodeIn (declarations_in s a (map declaration_seen ds)) behind s m u a t c what (Err d) first
        (first_stops code_in IsCodeIn inside (λ u q. Fine u (block_of (body_in a x) (declares_in t what) q)) (Err d) refl (walk_as _ _ (sym inside_is) p))))

    block_code : (c : Table) (z : Body) (start locals : ℕ) (codes : List CoreStmt) → Extends t c → start ≡ length x.locals → locals ≡ length what.locals
        → block_of (body_in a x) (declares_in t what) (codes_in c (z, codes)) ≡ code_in c (z, stmt.Block start locals (what.fills ++ codes))
    block_code c z start locals codes h k l =
        ap (λ n. done (body_in c z) (code.Block n (length (map (type_at t) what.locals)) (stmts_behind (map (stmt_in t) what.fills) (stmts_in c codes)))) (mapped_length (type_at a) x.locals ∙ sym k)
        ∙ ap (λ n. done (body_in c z) (code.Block start n (stmts_behind (map (stmt_in t) what.fills) (stmts_in c codes)))) (mapped_length (type_at t) what.locals ∙ sym l)
        ∙ ap (λ q. done (body_in c z) (code.Block start locals (stmts_behind q (stmts_in c codes)))) (sym (ap (λ (d : DeclaresTrees). d.fills) (declares_stay t c h what first.within)))
        ∙ ap (λ q. done (body_in c z) (code.Block start locals q)) (sym (fills_behind c what.fills codes))
        ∙ ap (done (body_in c z)) (sym (layer.block_seen c start locals (what.fills ++ codes)))

    pub block_goes : {u : Scoping} {c : Table} (z : Body) (start locals : ℕ) (codes all : List CoreStmt) → WalksStmts (statements_in (within_in t w) around m t (body_in t y) trees) m t u c z (Ok codes) → start ≡ length x.locals → locals ≡ length what.locals → all ≡ what.fills ++ codes
        → WalksStmt (block_in f around s a (body_in a x) tree) s a u c z (Ok (stmt.Block start locals all))
    block_goes {u = u} {c = c} z start locals codes all p k l e =
        subst (λ v. WalksStmt (block_in f around s a (body_in a x) tree) s a u c z (Ok (stmt.Block start locals v))) (sym e)
        (walk_as _ _ block_is (walk_then code_in IsCodeIn (declarations_in s a (map declaration_seen ds)) behind s m u a t c what (Ok (z, stmt.Block start locals (what.fills ++ codes))) first
        (record {
          ok = ap (λ o. then_do o (λ u q. Fine u (block_of (body_in a x) (declares_in t what) q))) (sym inside_is ∙ p.ok) ∙ ap (Fine (state_of u c)) (block_code c z start locals codes p.keeps.extends k l);
          err = tt;
          within = (p.within.0, block_within (length c.forms) start locals (what.fills ++ codes) (below_behind (length c.forms) what.fills codes (fills_below (length c.forms) what.fills (declares_later t c p.keeps.extends what first.within).fills) p.within.1));
          keeps = p.keeps;
        })))

-- ---- a block in a scope of its own

ends_same : {A : Type 0} (xs ys : List A) (x y : A) → xs ++ x ∷ [] ≡ ys ++ y ∷ [] → (xs ≡ ys) × (x ≡ y)
ends_same [] [] x y e = (refl, cc)
ends_same [] (b ∷ []) x y e = absurd (cc)
ends_same [] (b ∷ d ∷ ys) x y e = absurd (cc)
ends_same (a ∷ []) [] x y e = absurd (cc)
ends_same (a ∷ d ∷ xs) [] x y e = absurd (cc)
ends_same (a ∷ xs) (b ∷ ys) x y e = (let h : xs ++ x ∷ [] ≡ ys ++ y ∷ [] = cc in let k = ends_same xs ys x y h in let l : a ≡ b = cc in (rw (l, k.0) refl, k.1))

-- a list with one behind it is not empty
pub is_more : {A : Type 0} (xs ys : List A) (x : A) → ys ≡ xs ++ x ∷ [] → ys ≢ []
is_more [] ys x e n = absurd (cc)
is_more (y ∷ xs) ys x e n = absurd (cc)

entered_state : (s m : Scoping) (a : Table) → m.outer ≡ s.outer ++ s.inner ∷ [] → m.inner ≡ [] → m.links ≡ s.links → m.symbols ≡ s.symbols → state_of m a ≡ entered (state_of s a)
entered_state s m a o i l y = rw (o, i, l, y) refl

left_state : (s u z : Scoping) (b : Table) → z.outer ≡ s.outer → z.inner ≡ s.inner → z.links ≡ u.links → z.symbols ≡ u.symbols → state_of z b ≡ left s.outer s.inner (state_of u b)
left_state s u z b o i l y = rw (o, i, l, y) refl

-- what comes of a block comes behind its end
left_walk : (s u z : Scoping) (a b : Table) (m : Scoping) (y : Body) (o : Outcome (Typed (StmtOf CType))) → state_of z b ≡ left s.outer s.inner (state_of u b) → Keeps s a z b → (r : Result CoreStmt CheckFault) → WalksStmt o m a u b y r
    → WalksStmt (then_do o (λ t v. Fine (left s.outer s.inner t) v)) s a z b y r
left_walk s u z a b m y o e k (Ok v) w = record { ok = ap (λ p. then_do p (λ t v. Fine (left s.outer s.inner t) v)) w.ok ∙ ap (λ t. Fine t (code_in b (y, v))) (sym e); err = tt; within = w.within; keeps = k }
left_walk s u z a b m y o e k (Err d) w = record { ok = tt; err = tells_first d o (λ t v. Fine (left s.outer s.inner t) v) w.err; within = tt; keeps = k }

module _ (s m u z : Scoping) (a b : Table) (o : m.outer ≡ s.outer ++ s.inner ∷ []) (i : m.inner ≡ []) (l : m.links ≡ s.links) (k : m.symbols ≡ s.symbols) (scopes : u.outer ≡ z.outer ++ z.inner ∷ []) (links : z.links ≡ u.links) (symbols : z.symbols ≡ u.symbols) where
  closed : Keeps m a u b → (z.outer ≡ s.outer) × (z.inner ≡ s.inner)
  closed h = ends_same z.outer s.outer z.inner s.inner (sym scopes ∙ h.outer ∙ o)

  kept : Keeps m a u b → Keeps s a z b
  kept h = record { outer = (closed h).0; extends = h.extends; symbols = rw symbols h.symbols }

  pub compound_goes : (f : WithinTrees) (around : AroundTrees) (x : BodyTrees) (y : Body) (line : ℕ) (block : BlockTree) (r : Result CoreStmt CheckFault) → WalksStmt (block_in f around m a x block) m a u b y r → WalksStmt (statement_in f around s a x (Compound line block)) s a z b y r
  unfolding block_in statement_in
  compound_goes f around x y line block r w =
      let c = closed w.keeps in
      left_walk s u z a b m y (typed_block f around (entered (state_of s a)) x block) (left_state s u z b c.0 c.1 links symbols) (kept w.keeps) r
      (subst (λ t. WalksStmt (typed_block f around t x block) m a u b y r) (entered_state s m a o i l k) w)
