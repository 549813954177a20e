-- What statements make of what is known, with the objects that their blocks define and the names with linkage that these declare; and
-- each name in them stands with a type that its symbol's absorbs.
use Rattle.std.proofs.Common.{◌≡◌, ℕ, Bool, true, false, List, [], ◌∷◌, ◌++◌, refl, sym, subst}
use Rattle.std.specs.Prelude.{Option, Some, None, IfSome}
use Rattle.c_ast.specs.Levels.{FitsBlock, FitsStatement, FitsStatements}
use Rattle.c_ast.specs.Trees.{ExprTree, MaybeExpr, NoExpr, AnExpr, StatementTree, Label, Case, Default, Expression, Compound, If, IfElse, Switch, While, Do, For, Goto, Continue, Break, Return, StatementTrees, NoStatements, Statements, BlockTree, Block}
use Rattle.c_types.specs.CType.{CType, unqualified}
use Rattle.c_meaning.specs.Each.{EachIs}
use Rattle.c_meaning.specs.State.{State, entered, left}
use Rattle.c_meaning.specs.StmtTrees.{StmtOf, StmtsOf}
use Rattle.c_meaning.specs.Types.{is_record}
use Rattle.c_meaning.specs.TypingRelation.{Types, TypesMaybe}
use Rattle.c_meaning.specs.Values.{CoreTree, converted, promoted_type, value}
use Rattle.c_tree_names.specs.Names.{AllStatementNames, BlockNames, ExprNames, MaybeNames, StatementNames}
use Rattle.c_typing_steps.specs.Laws.{StepLaws}
use Rattle.c_typing_steps.specs.Names.{EachName, EachNameIn, EachNameInAll}
use Rattle.c_typing_steps.proofs.lemmas.Builders.{converted_names, value_names}
use Rattle.c_typing_steps.proofs.lemmas.Names.{each_more, each_more_in, maybe_more}
use Rattle.c_units.specs.Bodies.{Body, Typed, Within, in_switch, marked, maybe_value, returned, stands_in, stmts_behind, with_case, with_cases, with_declared, with_default}
use Rattle.c_units.specs.BodiesRelation.{TypesBlock, TypesStmt, TypesStmts}
use Rattle.c_units.specs.Externals.{Parts}
use Rattle.c_units.specs.Statements.{Around}
use Rattle.c_fits.proofs.lemmas.Values.{chosen_by}
use Rattle.c_linked_names.proofs.lemmas.Absorbing.{TypeLaws}
use Rattle.c_linked_names.proofs.lemmas.Declaring.{declarations_go, fills_keep}
use Rattle.c_linked_names.proofs.lemmas.Going.{Goes, IfMeant, IsDeclared, IsDefinedFunction, IsObject, declared_keeps, function_keeps, goes_steady, goes_then, if_meant_keeps, object_keeps}
use Rattle.c_linked_names.proofs.lemmas.Keeping.{IsRegular, Keeps, Steady, alike_keeps, keeps_itself, keeps_then, steady_itself}
use Rattle.c_linked_names.proofs.lemmas.Lists.{each_map}
use Rattle.c_linked_names.proofs.lemmas.Standing.{each_meant}
use Rattle.c_linked_names.proofs.lemmas.Stepping.{entered_regular, left_keeps, left_regular, steps_steady}

abbrev pub of_body : Body → Parts
of_body b = record { functions = []; objects = b.objects; linked = b.linked }

-- ---- other scopes

pub goes_scoped : (o t : State) (outer : List (List (List ℕ × ℕ))) (inner : List (List ℕ × ℕ)) (p : Parts) → Goes o t p → IsRegular (left outer inner t) → Goes o (left outer inner t) p
goes_scoped o t outer inner p g h =
    let u : State = left outer inner t in
    let k = alike_keeps t u refl refl in
    record {
      regular = h;
      keeps = keeps_then o t u g.keeps k;
      once = g.once;
      new = g.new;
      functions = each_map (IsDefinedFunction t) (IsDefinedFunction u) (function_keeps t u k) p.functions g.functions;
      objects = each_map (IsObject t) (IsObject u) (object_keeps t u k) p.objects g.objects;
      linked = each_map (IsDeclared t) (IsDeclared u) (declared_keeps t u k) p.linked g.linked;
    }

pub goes_from : (s t : State) (outer : List (List (List ℕ × ℕ))) (inner : List (List ℕ × ℕ)) (p : Parts) → Goes (left outer inner s) t p → Goes s t p
goes_from s t outer inner p g =
    record { regular = g.regular; keeps = keeps_then s (left outer inner s) t (alike_keeps s (left outer inner s) refl refl) g.keeps; once = g.once; new = g.new; functions = g.functions; objects = g.objects; linked = g.linked }

-- ---- a statement, in a function that began at another state

pub record StmtGoes (o s u : State) (t : Typed (StmtOf CType)) : Type 0 where
  pub goes : Goes o u (of_body t.body)
  pub keeps : Keeps s u
  pub code : EachNameIn (IfMeant u) t.code

pub record StmtsGo (o s u : State) (t : Typed (StmtsOf CType)) : Type 0 where
  pub goes : Goes o u (of_body t.body)
  pub keeps : Keeps s u
  pub code : EachNameInAll (IfMeant u) t.code

goes_at : (o s u v : State) (x y : Typed (StmtOf CType)) → u ≡ v → x ≡ y → StmtGoes o s u x → StmtGoes o s v y
goes_at o s u v x y e g h = subst (λ u. StmtGoes o s u y) e (subst (StmtGoes o s u) g h)

-- cases are neither objects nor names
stands_body : (a : Around) (b : Body) (cases : _) (default : Option ℕ) → of_body (stands_in a b cases default) ≡ of_body b
stands_body a b cases default = by a.switch
  where
    by : (s : Bool) → of_body (stands_in (record { loop = a.loop; switch = s }) b cases default) ≡ of_body b
    by true = refl
    by false = refl

later_code : (s u : State) → Keeps s u → (c : StmtOf CType) → EachNameIn (IfMeant s) c → EachNameIn (IfMeant u) c
later_code s u k c h = each_more_in (IfMeant s) (IfMeant u) (if_meant_keeps s u k) c h

later_part : (s u : State) → Keeps s u → (c : CoreTree) → EachName (IfMeant s) c → EachName (IfMeant u) c
later_part s u k c h = each_more (IfMeant s) (IfMeant u) (if_meant_keeps s u k) c h

later_maybe : (s u : State) → Keeps s u → (c : Option CoreTree) → IfSome c (EachName (IfMeant s)) → IfSome c (EachName (IfMeant u))
later_maybe s u k c h = maybe_more (IfMeant s) (IfMeant u) (if_meant_keeps s u k) c h

value_meant : (u : State) (c : CoreTree) → EachName (IfMeant u) c → EachName (IfMeant u) (value c)
value_meant u c h = value_names (IfMeant u) c h

maybe_meant : (u : State) (c : Option CoreTree) → IfSome c (EachName (IfMeant u)) → IfSome (maybe_value c) (EachName (IfMeant u))
maybe_meant u None h = tt
maybe_meant u (Some c) h = value_meant u c h

returned_meant : (u : State) (result : CType) (c : Option CoreTree) → IfSome c (EachName (IfMeant u)) → IfSome (returned result c) (EachName (IfMeant u))
returned_meant u result None h = tt
returned_meant u result (Some c) h =
    chosen_by (EachName (IfMeant u)) (is_record (unqualified result)) (value c) (converted (unqualified result) (value c)) (λ e. value_meant u c h) (λ e. converted_names (IfMeant u) (unqualified result) (value c) (value_meant u c h))

behind_fills : (u : State) (fs : List (StmtOf CType)) (ss : StmtsOf CType) → EachIs (EachNameIn (IfMeant u)) fs → EachNameInAll (IfMeant u) ss → EachNameInAll (IfMeant u) (stmts_behind fs ss)
behind_fills u [] ss h k = k
behind_fills u (f ∷ fs) ss h k = (h.0, behind_fills u fs ss h.1 k)

module _ (types : TypeLaws) (laws : StepLaws) where
  -- ---- parts

  abbrev HasPart : State → State → CoreTree → Type 0
  HasPart s u c = Steady s u × EachName (IfMeant u) c

  expr_has : (s : State) (e : ExprTree) (u : State) (c : CoreTree) → Types s e u c → ExprNames e → IsRegular s → HasPart s u c
  expr_has s e u c h n k = (steps_steady types (laws.expressions s u e c n h) k, each_meant types s u c k (laws.names s u e c n h))

  abbrev HasMaybe : State → State → Option CoreTree → Type 0
  HasMaybe s u c = Steady s u × IfSome c (EachName (IfMeant u))

  maybe_has : (s : State) (e : MaybeExpr) (u : State) (c : Option CoreTree) → TypesMaybe s e u c → MaybeNames e → IsRegular s → HasMaybe s u c
  maybe_has s NoExpr u c h n k = subst (λ u. HasMaybe s u c) h.0 (subst (HasMaybe s s) h.1 (steady_itself s k, tt))
  maybe_has s (AnExpr e) u c h n k = subst (λ u. HasMaybe s u c) h.3.0 (subst (HasMaybe s h.0) h.3.1 (expr_has s e h.0 h.1 h.2 n k))

  mutual
    pub stmt_goes : (o : State) (f : Within) (a : Around) (s : State) (b : Body) (st : StatementTree) (u : State) (t : Typed (StmtOf CType)) → TypesStmt f a s b st u t → StatementNames st → FitsStatement st → Goes o s (of_body b) → StmtGoes o s u t
    stmt_goes o f a s b (Label l name st) u t h n g w =
        let i = stmt_goes o f a s (marked b) st h.0 h.1 h.2 n g w in
        goes_at o s h.0 u _ t h.3.1.0 h.3.1.1 (record { goes = i.goes; keeps = i.keeps; code = i.code })
    stmt_goes o f a s b (Case l e st) u t h n g w =
        let p = expr_has s e h.0 h.1 h.2 n.0 w.regular in
        let i = stmt_goes o f a h.0 (with_case a b h.1) st h.3.0 h.3.1 h.3.2 n.1 g.2 (subst (Goes o h.0) (sym (stands_body a b _ _)) (goes_steady types o s h.0 (of_body b) w p.0)) in
        goes_at o s h.3.0 u _ t h.3.3.1.0 h.3.3.1.1 (record { goes = i.goes; keeps = keeps_then s h.0 h.3.0 p.0.keeps i.keeps; code = i.code })
    stmt_goes o f a s b (Default l st) u t h n g w =
        let i = stmt_goes o f a s (with_default a b) st h.0 h.1 h.2 n g (subst (Goes o s) (sym (stands_body a b _ _)) w) in
        goes_at o s h.0 u _ t h.3.1.0 h.3.1.1 (record { goes = i.goes; keeps = i.keeps; code = i.code })
    stmt_goes o f a s b (Expression l NoExpr) u t h n g w = goes_at o s s u _ t h.0 h.1 (record { goes = w; keeps = keeps_itself s; code = tt })
    stmt_goes o f a s b (Expression l (AnExpr e)) u t h n g w =
        let p = expr_has s e h.0 h.1 h.2 n w.regular in
        goes_at o s h.0 u _ t h.3.1.0 h.3.1.1 (record { goes = goes_steady types o s h.0 (of_body b) w p.0; keeps = p.0.keeps; code = value_meant h.0 h.1 p.1 })
    stmt_goes o f a s b (Compound l block) u t h n g w =
        let i = block_goes o f a (entered s) b block h.0 h.1 h.2 n g (goes_scoped o s (s.outer ++ s.inner ∷ []) [] (of_body b) w (entered_regular s w.regular)) in
        let k = keeps_then s (entered s) h.0 (alike_keeps s (entered s) refl refl) i.keeps in
        let v : State = left s.outer s.inner h.0 in
        goes_at o s v u h.1 t h.3.0 h.3.1
        (record { goes = goes_scoped o h.0 s.outer s.inner (of_body h.1.body) i.goes (left_regular s h.0 w.regular i.goes.regular k); keeps = left_keeps s h.0 k; code = later_code h.0 v (alike_keeps h.0 v refl refl) h.1.code i.code })
    stmt_goes o f a s b (If l e st) u t h n g w =
        let p = expr_has s e h.0 h.1 h.2 n.0 w.regular in
        let i = stmt_goes o f a h.0 b st h.3.0 h.3.1 h.3.2 n.1 g.1 (goes_steady types o s h.0 (of_body b) w p.0) in
        goes_at o s h.3.0 u _ t h.3.3.1.0 h.3.3.1.1 (record { goes = i.goes; keeps = keeps_then s h.0 h.3.0 p.0.keeps i.keeps; code = (value_meant h.3.0 h.1 (later_part h.0 h.3.0 i.keeps h.1 p.1), (i.code, tt)) })
    stmt_goes o f a s b (IfElse l e st su) u t h n g w =
        let p = expr_has s e h.0 h.1 h.2 n.0 w.regular in
        let i = stmt_goes o f a h.0 b st h.3.0 h.3.1 h.3.2 n.1.0 g.1 (goes_steady types o s h.0 (of_body b) w p.0) in
        let j = stmt_goes o f a h.3.0 h.3.1.body su h.3.3.0 h.3.3.1 h.3.3.2 n.1.1 g.2 i.goes in
        let k = keeps_then h.0 h.3.0 h.3.3.0 i.keeps j.keeps in
        goes_at o s h.3.3.0 u _ t h.3.3.3.1.0 h.3.3.3.1.1
        (record { goes = j.goes; keeps = keeps_then s h.0 h.3.3.0 p.0.keeps k; code = (value_meant h.3.3.0 h.1 (later_part h.0 h.3.3.0 k h.1 p.1), (later_code h.3.0 h.3.3.0 j.keeps h.3.1.code i.code, j.code)) })
    stmt_goes o f a s b (Switch l e st) u t h n g w =
        let p = expr_has s e h.0 h.1 h.2 n.0 w.regular in
        let i = stmt_goes o f (in_switch a) h.0 (with_cases [] None b) st h.3.0 h.3.1 h.3.2 n.1 g.1 (goes_steady types o s h.0 (of_body b) w p.0) in
        goes_at o s h.3.0 u _ t h.3.3.1.0 h.3.3.1.1
        (record { goes = i.goes; keeps = keeps_then s h.0 h.3.0 p.0.keeps i.keeps; code = (converted_names (IfMeant h.3.0) (promoted_type (value h.1)) (value h.1) (value_meant h.3.0 h.1 (later_part h.0 h.3.0 i.keeps h.1 p.1)), i.code) })
    stmt_goes o f a s b (While l e st) u t h n g w =
        let p = expr_has s e h.0 h.1 h.2 n.0 w.regular in
        let i = stmt_goes o f _ h.0 b st h.3.0 h.3.1 h.3.2 n.1 g.1 (goes_steady types o s h.0 (of_body b) w p.0) in
        goes_at o s h.3.0 u _ t h.3.3.1.0 h.3.3.1.1 (record { goes = i.goes; keeps = keeps_then s h.0 h.3.0 p.0.keeps i.keeps; code = (value_meant h.3.0 h.1 (later_part h.0 h.3.0 i.keeps h.1 p.1), i.code) })
    stmt_goes o f a s b (Do l st e) u t h n g w =
        let i = stmt_goes o f _ s b st h.0 h.1 h.2 n.0 g.0 w in
        let p = expr_has h.0 e h.3.0 h.3.1 h.3.2 n.1 i.goes.regular in
        goes_at o s h.3.0 u _ t h.3.3.1.0 h.3.3.1.1
        (record { goes = goes_steady types o h.0 h.3.0 (of_body h.1.body) i.goes p.0; keeps = keeps_then s h.0 h.3.0 i.keeps p.0.keeps; code = (later_code h.0 h.3.0 p.0.keeps h.1.code i.code, value_meant h.3.0 h.3.1 p.1) })
    stmt_goes o f a s b (For l first test last st) u t h n g w =
        let p = maybe_has s first h.0 h.1 h.2 n.0 w.regular in
        let q = maybe_has h.0 test h.3.0 h.3.1 h.3.2 n.1.0 p.0.regular in
        let r = maybe_has h.3.0 last h.3.3.0 h.3.3.1 h.3.3.2 n.1.1.0 q.0.regular in
        let y = h.3.3.3 in
        let i = stmt_goes o f _ h.3.3.0 b st y.0 y.1 y.2 n.1.1.1 g.3 (goes_steady types o h.3.0 h.3.3.0 (of_body b) (goes_steady types o h.0 h.3.0 (of_body b) (goes_steady types o s h.0 (of_body b) w p.0) q.0) r.0) in
        let k = keeps_then h.3.0 h.3.3.0 y.0 r.0.keeps i.keeps in
        let m = keeps_then h.0 h.3.0 y.0 q.0.keeps k in
        goes_at o s y.0 u _ t y.3.1.0 y.3.1.1
        (record {
          goes = i.goes;
          keeps = keeps_then s h.0 y.0 p.0.keeps m;
          code = (maybe_meant y.0 h.1 (later_maybe h.0 y.0 m h.1 p.1), (maybe_meant y.0 h.3.1 (later_maybe h.3.0 y.0 k h.3.1 q.1), (maybe_meant y.0 h.3.3.1 (later_maybe h.3.3.0 y.0 i.keeps h.3.3.1 r.1), i.code)));
        })
    stmt_goes o f a s b (Goto l name) u t h n g w = goes_at o s s u _ t h.0 h.1 (record { goes = w; keeps = keeps_itself s; code = tt })
    stmt_goes o f a s b (Continue l) u t h n g w = goes_at o s s u _ t h.1.0 h.1.1 (record { goes = w; keeps = keeps_itself s; code = tt })
    stmt_goes o f a s b (Break l) u t h n g w = goes_at o s s u _ t h.1.0 h.1.1 (record { goes = w; keeps = keeps_itself s; code = tt })
    stmt_goes o f a s b (Return l e) u t h n g w =
        let p = maybe_has s e h.0 h.1 h.2 n w.regular in
        goes_at o s h.0 u _ t h.3.1.0 h.3.1.1 (record { goes = goes_steady types o s h.0 (of_body b) w p.0; keeps = p.0.keeps; code = returned_meant h.0 f.result h.1 p.1 })

    pub stmts_go : (o : State) (f : Within) (a : Around) (s : State) (b : Body) (ss : StatementTrees) (u : State) (t : Typed (StmtsOf CType)) → TypesStmts f a s b ss u t → AllStatementNames ss → FitsStatements ss → Goes o s (of_body b) → StmtsGo o s u t
    stmts_go o f a s b NoStatements u t h n g w = subst (λ u. StmtsGo o s u t) h.0 (subst (StmtsGo o s s) h.1 (record { goes = w; keeps = keeps_itself s; code = tt }))
    stmts_go o f a s b (Statements st more) u t h n g w =
        let i = stmt_goes o f a s b st h.0 h.1 h.2 n.0 g.0 w in
        let j = stmts_go o f a h.0 h.1.body more h.3.0 h.3.1 h.3.2 n.1 g.1 i.goes in
        subst (λ u. StmtsGo o s u t) h.3.3.0
        (subst (StmtsGo o s h.3.0) h.3.3.1 (record { goes = j.goes; keeps = keeps_then s h.0 h.3.0 i.keeps j.keeps; code = (later_code h.0 h.3.0 j.keeps h.1.code i.code, j.code) }))

    pub block_goes : (o : State) (f : Within) (a : Around) (s : State) (b : Body) (block : BlockTree) (u : State) (t : Typed (StmtOf CType)) → TypesBlock f a s b block u t → BlockNames block → FitsBlock block → Goes o s (of_body b) → StmtGoes o s u t
    block_goes o f a s b (Block l ds ss) u t h n g w =
        let d = declarations_go types laws s ds h.0 h.1 h.2 w.regular n.0 g.0 in
        let i = stmts_go o f a h.0 (with_declared b h.1) ss h.3.0 h.3.1 h.3.2 n.1 g.1 (goes_then types o s h.0 (of_body b) _ w d.goes) in
        goes_at o s h.3.0 u _ t h.3.3.0 h.3.3.1
        (record {
          goes = i.goes;
          keeps = keeps_then s h.0 h.3.0 d.goes.keeps i.keeps;
          code = behind_fills h.3.0 h.1.fills h.3.1.code (fills_keep h.0 h.3.0 i.keeps h.1.fills d.fills) i.code;
        })
