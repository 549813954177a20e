-- What typed statements give fits, and what is known behind them leads on from what was known before.
use Rattle.std.proofs.Common.{◌≡◌, ℕ, Bool, true, false, List, [], ◌∷◌, ◌++◌, ap, subst, ◌∙◌}
use Rattle.std.specs.Prelude.{Option, Some, None}
use Rattle.c_ast.specs.Levels.{FitsBlock, FitsDeclarations, FitsMaybe, FitsStatement, FitsStatements, Parts}
use Rattle.c_ast.specs.Trees.{ExprTree, MaybeExpr, NoExpr, AnExpr, DeclarationTree, StatementTree, Label, Case, Default, Expression, Compound, If, IfElse, Switch, While, Do, For, Goto, Continue, Break, Return, StatementTrees, NoStatements, Statements, BlockTree, Block}
use Rattle.c_types.specs.CType.{CType}
use Rattle.c_types.specs.Conversions.{is_integer}
use Rattle.c_types.specs.Layout.{Tag}
use Rattle.c_meaning.specs.Declarations.{Declares}
use Rattle.c_meaning.specs.Each.{EachIs}
use Rattle.c_meaning.specs.State.{State, entered, left}
use Rattle.c_meaning.specs.StmtTrees.{StmtOf, Initialise, StmtsOf}
use Rattle.c_meaning.specs.TypingRelation.{Types, TypesMaybe}
use Rattle.c_meaning.specs.Values.{CoreTree, value_type}
use Rattle.c_units.specs.Bodies.{Body, Typed, Within, in_switch, marked, stands_in, stmts_behind, with_case, with_cases, with_declared, with_default}
use Rattle.c_units.specs.BodiesRelation.{TypesDeclarations, TypesStmt, TypesStmts, TypesBlock}
use Rattle.c_units.specs.Statements.{Around, is_no_test}
use Rattle.c_units.specs.Statements as node
use Rattle.std.proofs.lemmas.List.{append_assoc}
use Rattle.c_fits.specs.OpenDeclares.{DeclaresFit, IsOpenFill, IsOpenLocal, IsOpenObject}
use Rattle.c_fits.specs.Sound.{IsSound, Leads}
use Rattle.c_fits.proofs.lemmas.Booleans.{not_false}
use Rattle.c_fits.proofs.lemmas.Declared.{declaration_leads}
use Rattle.c_fits.proofs.lemmas.DeclaredFits.{declaration_fits, declares_stay, each_join, nothing_fits, together_fit}
use Rattle.c_fits.proofs.lemmas.Following.{entered_sound, left_sound}
use Rattle.c_fits.proofs.lemmas.Leading.{follows_leads, same_leads, then_leads}
use Rattle.c_fits.proofs.lemmas.Typed.{expr_part}
use Rattle.c_fits.proofs.lemmas.Values.{IsPart}
use Rattle.c_fits.proofs.lemmas.Growing.{fits_stays}
use Rattle.c_fits.proofs.lemmas.Walk.{expr_goes, maybe_goes}
use Rattle.c_meaning.specs.Fits.{IsOpenLeaf}
use Rattle.c_fits.specs.Growing.{Grows}
use Rattle.c_unit_fits.specs.OpenStmts.{AreOpenStmts, BodyFits, IsOpenStmt}
use Rattle.c_unit_fits.proofs.lemmas.Staying.{body_stays, stmt_stays}
use Rattle.c_unit_fits.proofs.lemmas.Values.{MaybePart, maybe_test_is, maybe_value_is, returned_is, stmt_unbroken, switch_is, test_is, value_is}

-- ---- parts

-- what is known behind a part, and that it fits there
abbrev HasPart : State → State → CoreTree → Type 0
HasPart s u c = Leads s u × IsPart u.tags c

expr_has : (s : State) (e : ExprTree) (u : State) (c : CoreTree) → Types s e u c → Parts e → IsSound s → HasPart s u c
expr_has s e u c h g k = (follows_leads s u (expr_goes s e u c h k), expr_part s e u c h g k)

abbrev HasMaybe : State → State → Option CoreTree → Type 0
HasMaybe s u c = Leads s u × MaybePart u.tags c

maybe_has : (s : State) (e : MaybeExpr) (level : ℕ) (u : State) (c : Option CoreTree) → TypesMaybe s e u c → FitsMaybe e level → IsSound s → HasMaybe s u c
maybe_has s NoExpr level u c h g k = (follows_leads s u (maybe_goes s NoExpr u c h k), subst (MaybePart u.tags) h.1 tt)
maybe_has s (AnExpr e) level u c h g k =
    (follows_leads s u (maybe_goes s (AnExpr e) u c h k), subst (MaybePart u.tags) h.3.1 (subst (λ (u : State). IsPart u.tags h.1) h.3.0 (expr_part s e h.0 h.1 h.2 g.1 k)))

later_part : (s u : State) (c : CoreTree) → Leads s u → IsPart s.tags c → IsPart u.tags c
later_part s u c l p = record { fits = fits_stays IsOpenLeaf s.tags u.tags l.tags c p.fits; bare = p.bare }

later_maybe : (s u : State) (c : Option CoreTree) → Leads s u → MaybePart s.tags c → MaybePart u.tags c
later_maybe s u (Some c) l p = later_part s u c l p
later_maybe s u None l p = tt

-- ---- a statement

pub record StmtFits (result : CType) (ps : List CType) (s u : State) (t : Typed (StmtOf CType)) : Type 0 where
  pub leads : Leads s u
  pub code : IsOpenStmt u.tags result t.code
  pub body : BodyFits u.tags ps t.body

pub record StmtsFit (result : CType) (ps : List CType) (s u : State) (t : Typed (StmtsOf CType)) : Type 0 where
  pub leads : Leads s u
  pub code : AreOpenStmts u.tags result t.code
  pub body : BodyFits u.tags ps t.body

fits_at : {ps : List CType} (result : CType) (s u v : State) (x y : Typed (StmtOf CType)) → u ≡ v → x ≡ y → StmtFits result ps s u x → StmtFits result ps s v y
fits_at {ps} result s u v x y e g h = subst (λ u. StmtFits result ps s u y) e (subst (StmtFits result ps s u) g h)

-- cases and marks are no locals
cases_fit : {ps : List CType} (tags : List Tag) (b : Body) (cases : _) (default : Option ℕ) → BodyFits tags ps b → BodyFits tags ps (with_cases cases default b)
cases_fit tags b cases default h = record { further = h.further; split = h.split; locals = h.locals; objects = h.objects }

marked_fits : {ps : List CType} (tags : List Tag) (b : Body) → BodyFits tags ps b → BodyFits tags ps (marked b)
marked_fits tags b h = record { further = h.further; split = h.split; locals = h.locals; objects = h.objects }

stands_fits : {ps : List CType} (tags : List Tag) (a : Around) (b : Body) (cases : _) (default : Option ℕ) → BodyFits tags ps b → BodyFits tags ps (stands_in a b cases default)
stands_fits {ps} tags a b cases default h = by a.switch
  where
    by : (s : Bool) → BodyFits tags ps (stands_in (record { loop = a.loop; switch = s }) b cases default)
    by true = record { further = h.further; split = h.split; locals = h.locals; objects = h.objects }
    by false = record { further = h.further; split = h.split; locals = h.locals; objects = h.objects }

declared_fits : {ps : List CType} (tags : List Tag) (b : Body) (d : Declares) → BodyFits tags ps b → DeclaresFit tags d → BodyFits tags ps (with_declared b d)
declared_fits {ps} tags b d h k = record { further = h.further ++ d.locals; split = ap (λ ls. ls ++ d.locals) h.split ∙ append_assoc ps h.further d.locals; locals = each_join (IsOpenLocal tags) h.further d.locals h.locals k.locals; objects = each_join (IsOpenObject tags) b.objects d.objects h.objects k.objects }

-- what locals begin with, before statements
fills_fit : (tags : List Tag) (result : CType) (fs : List (StmtOf CType)) (ss : StmtsOf CType) → EachIs (IsOpenFill tags) fs → AreOpenStmts tags result ss → AreOpenStmts tags result (stmts_behind fs ss)
fills_fit tags result [] ss h k = k
fills_fit tags result (Initialise place zero ps ∷ fs) ss h k = (h.0, fills_fit tags result fs ss h.1 k)
fills_fit tags result (f ∷ fs) ss h k = absurd h.0

fill_later : (old new : List Tag) (d : Declares) → Grows old new → DeclaresFit old d → EachIs (IsOpenFill new) d.fills
fill_later old new d g h = (declares_stay old new d g h).fills

abbrev DeclaresAll : State → State → Declares → Type 0
DeclaresAll s u d = Leads s u × DeclaresFit u.tags d

declarations_fit : (s : State) (ds : List DeclarationTree) (u : State) (x : Declares) → TypesDeclarations s ds u x → IsSound s → FitsDeclarations ds → DeclaresAll s u x
declarations_fit s [] u x h k g = subst (λ u. DeclaresAll s u x) h.0 (subst (DeclaresAll s s) h.1 (same_leads s k, nothing_fits s.tags))
declarations_fit s (d ∷ ds) u x h k g =
    let l = declaration_leads s d h.0 h.1 h.2 k in
    let a = declaration_fits s d h.0 h.1 h.2 k g.0 in
    let m = declarations_fit h.0 ds h.3.0 h.3.1 h.3.2 l.sound g.1 in
    subst (λ u. DeclaresAll s u x) h.3.3.0
    (subst (DeclaresAll s h.3.0) h.3.3.1 (then_leads s h.0 h.3.0 l m.0, together_fit h.3.0.tags h.1 h.3.1 (declares_stay h.0.tags h.3.0.tags h.1 m.0.tags a) m.1))

-- a scope around
left_leads : (s t : State) → IsSound s → Leads (entered s) t → Leads s (left s.outer s.inner t)
left_leads s t h f = record { sound = left_sound s t h f.sound f.symbols; count = f.count; symbols = f.symbols; tags = f.tags }

-- ---- the induction

mutual
  pub stmt_fits : {ps : List CType} (f : Within) (a : Around) (s : State) (b : Body) (st : StatementTree) (u : State) (t : Typed (StmtOf CType)) → TypesStmt f a s b st u t → IsSound s → FitsStatement st → BodyFits s.tags ps b → StmtFits f.result ps s u t
  stmt_fits f a s b (Label l name st) u t h k g w =
      let i = stmt_fits f a s (marked b) st h.0 h.1 h.2 k g (marked_fits s.tags b w) in
      fits_at f.result s h.0 u _ t h.3.1.0 h.3.1.1 (record { leads = i.leads; code = i.code; body = i.body })
  stmt_fits f a s b (Case l e st) u t h k g w =
      let p = expr_has s e h.0 h.1 h.2 g.1 k in
      let i = stmt_fits f a h.0 (with_case a b h.1) st h.3.0 h.3.1 h.3.2 p.0.sound g.2 (stands_fits h.0.tags a b _ _ (body_stays s.tags h.0.tags p.0.tags b w)) in
      fits_at f.result s h.3.0 u _ t h.3.3.1.0 h.3.3.1.1 (record { leads = then_leads s h.0 h.3.0 p.0 i.leads; code = i.code; body = i.body })
  stmt_fits f a s b (Default l st) u t h k g w =
      let i = stmt_fits f a s (with_default a b) st h.0 h.1 h.2 k g (stands_fits s.tags a b _ _ w) in
      fits_at f.result s h.0 u _ t h.3.1.0 h.3.1.1 (record { leads = i.leads; code = i.code; body = i.body })
  stmt_fits f a s b (Expression l NoExpr) u t h k g w = fits_at f.result s s u _ t h.0 h.1 (record { leads = same_leads s k; code = tt; body = w })
  stmt_fits f a s b (Expression l (AnExpr e)) u t h k g w =
      let p = expr_has s e h.0 h.1 h.2 g.1 k in
      fits_at f.result s h.0 u _ t h.3.1.0 h.3.1.1 (record { leads = p.0; code = value_is h.0.tags h.1 p.1; body = body_stays s.tags h.0.tags p.0.tags b w })
  stmt_fits f a s b (Compound l block) u t h k g w =
      let i = block_fits f a (entered s) b block h.0 h.1 h.2 (entered_sound s k) g w in
      fits_at f.result s (left s.outer s.inner h.0) u h.1 t h.3.0 h.3.1 (record { leads = left_leads s h.0 k i.leads; code = i.code; body = i.body })
  stmt_fits f a s b (If l e st) u t h k g w =
      let p = expr_has s e h.0 h.1 h.2 g.0 k in
      let i = stmt_fits f a h.0 b st h.3.0 h.3.1 h.3.2 p.0.sound g.1 (body_stays s.tags h.0.tags p.0.tags b w) in
      let c = test_is h.3.0.tags h.1 (later_part h.0 h.3.0 h.1 i.leads p.1) (stmt_unbroken h.3.0 l (node.Test h.1) h.3.3.0 47) in
      fits_at f.result s h.3.0 u _ t h.3.3.1.0 h.3.3.1.1 (record { leads = then_leads s h.0 h.3.0 p.0 i.leads; code = (c, (i.code, tt)); body = i.body })
  stmt_fits f a s b (IfElse l e st su) u t h k g w =
      let p = expr_has s e h.0 h.1 h.2 g.0 k in
      let i = stmt_fits f a h.0 b st h.3.0 h.3.1 h.3.2 p.0.sound g.1 (body_stays s.tags h.0.tags p.0.tags b w) in
      let j = stmt_fits f a h.3.0 h.3.1.body su h.3.3.0 h.3.3.1 h.3.3.2 i.leads.sound g.2 i.body in
      let c = test_is h.3.3.0.tags h.1 (later_part h.0 h.3.3.0 h.1 (then_leads h.0 h.3.0 h.3.3.0 i.leads j.leads) p.1) (stmt_unbroken h.3.3.0 l (node.Test h.1) h.3.3.3.0 47) in
      fits_at f.result s h.3.3.0 u _ t h.3.3.3.1.0 h.3.3.3.1.1
      (record { leads = then_leads s h.0 h.3.3.0 p.0 (then_leads h.0 h.3.0 h.3.3.0 i.leads j.leads); code = (c, (stmt_stays h.3.0.tags h.3.3.0.tags j.leads.tags f.result h.3.1.code i.code, j.code)); body = j.body })
  stmt_fits f a s b (Switch l e st) u t h k g w =
      let p = expr_has s e h.0 h.1 h.2 g.0 k in
      let i = stmt_fits f (in_switch a) h.0 (with_cases [] None b) st h.3.0 h.3.1 h.3.2 p.0.sound g.1 (cases_fit h.0.tags b [] None (body_stays s.tags h.0.tags p.0.tags b w)) in
      let c = switch_is h.3.0.tags h.1 (later_part h.0 h.3.0 h.1 i.leads p.1) (not_false (is_integer (value_type h.1)) (stmt_unbroken h.3.0 l (node.Switch h.1) h.3.3.0 47)) in
      fits_at f.result s h.3.0 u _ t h.3.3.1.0 h.3.3.1.1 (record { leads = then_leads s h.0 h.3.0 p.0 i.leads; code = (c.0, (c.1, i.code)); body = cases_fit h.3.0.tags h.3.1.body b.cases b.default i.body })
  stmt_fits f a s b (While l e st) u t h k g w =
      let p = expr_has s e h.0 h.1 h.2 g.0 k in
      let i = stmt_fits f _ h.0 b st h.3.0 h.3.1 h.3.2 p.0.sound g.1 (body_stays s.tags h.0.tags p.0.tags b w) in
      let c = test_is h.3.0.tags h.1 (later_part h.0 h.3.0 h.1 i.leads p.1) (stmt_unbroken h.3.0 l (node.Test h.1) h.3.3.0 47) in
      fits_at f.result s h.3.0 u _ t h.3.3.1.0 h.3.3.1.1 (record { leads = then_leads s h.0 h.3.0 p.0 i.leads; code = (c, i.code); body = i.body })
  stmt_fits f a s b (Do l st e) u t h k g w =
      let i = stmt_fits f _ s b st h.0 h.1 h.2 k g.0 w in
      let p = expr_has h.0 e h.3.0 h.3.1 h.3.2 g.1 i.leads.sound in
      let c = test_is h.3.0.tags h.3.1 p.1 (stmt_unbroken h.3.0 l (node.Test h.3.1) h.3.3.0 47) in
      fits_at f.result s h.3.0 u _ t h.3.3.1.0 h.3.3.1.1
      (record { leads = then_leads s h.0 h.3.0 i.leads p.0; code = (stmt_stays h.0.tags h.3.0.tags p.0.tags f.result h.1.code i.code, c); body = body_stays h.0.tags h.3.0.tags p.0.tags h.1.body i.body })
  stmt_fits f a s b (For l first test last st) u t h k g w =
      let p = maybe_has s first 0 h.0 h.1 h.2 g.0 k in
      let q = maybe_has h.0 test 0 h.3.0 h.3.1 h.3.2 g.1 p.0.sound in
      let r = maybe_has h.3.0 last 0 h.3.3.0 h.3.3.1 h.3.3.2 g.2 q.0.sound in
      let y = h.3.3.3 in
      let e = then_leads s h.3.0 h.3.3.0 (then_leads s h.0 h.3.0 p.0 q.0) r.0 in
      let i = stmt_fits f _ h.3.3.0 b st y.0 y.1 y.2 r.0.sound g.3 (body_stays s.tags h.3.3.0.tags e.tags b w) in
      let x = then_leads h.3.0 h.3.3.0 y.0 r.0 i.leads in
      let first_value = maybe_value_is y.0.tags h.1 (later_maybe h.0 y.0 h.1 (then_leads h.0 h.3.0 y.0 q.0 x) p.1) in
      let test_value = maybe_test_is y.0.tags h.3.1 (later_maybe h.3.0 y.0 h.3.1 x q.1) (stmt_unbroken y.0 l (node.For h.1 h.3.1 h.3.3.1) y.3.0 47) in
      let last_value = maybe_value_is y.0.tags h.3.3.1 (later_maybe h.3.3.0 y.0 h.3.3.1 i.leads r.1) in
      fits_at f.result s y.0 u _ t y.3.1.0 y.3.1.1 (record { leads = then_leads s h.3.3.0 y.0 e i.leads; code = (first_value, (test_value, (last_value, i.code))); body = i.body })
  stmt_fits f a s b (Goto l name) u t h k g w = fits_at f.result s s u _ t h.0 h.1 (record { leads = same_leads s k; code = tt; body = record { further = w.further; split = w.split; locals = w.locals; objects = w.objects } })
  stmt_fits f a s b (Continue l) u t h k g w = fits_at f.result s s u _ t h.1.0 h.1.1 (record { leads = same_leads s k; code = tt; body = w })
  stmt_fits f a s b (Break l) u t h k g w = fits_at f.result s s u _ t h.1.0 h.1.1 (record { leads = same_leads s k; code = tt; body = w })
  stmt_fits f a s b (Return l e) u t h k g w =
      let p = maybe_has s e 0 h.0 h.1 h.2 g k in
      fits_at f.result s h.0 u _ t h.3.1.0 h.3.1.1 (record { leads = p.0; code = returned_is h.0 l f.result h.1 p.1 h.3.0; body = body_stays s.tags h.0.tags p.0.tags b w })

  pub stmts_fit : {ps : List CType} (f : Within) (a : Around) (s : State) (b : Body) (ss : StatementTrees) (u : State) (t : Typed (StmtsOf CType)) → TypesStmts f a s b ss u t → IsSound s → FitsStatements ss → BodyFits s.tags ps b → StmtsFit f.result ps s u t
  stmts_fit {ps} f a s b NoStatements u t h k g w = subst (λ u. StmtsFit f.result ps s u t) h.0 (subst (StmtsFit f.result ps s s) h.1 (record { leads = same_leads s k; code = tt; body = w }))
  stmts_fit {ps} f a s b (Statements st more) u t h k g w =
      let i = stmt_fits f a s b st h.0 h.1 h.2 k g.0 w in
      let j = stmts_fit f a h.0 h.1.body more h.3.0 h.3.1 h.3.2 i.leads.sound g.1 i.body in
      subst (λ u. StmtsFit f.result ps s u t) h.3.3.0
      (subst (StmtsFit f.result ps s h.3.0) h.3.3.1 (record { leads = then_leads s h.0 h.3.0 i.leads j.leads; code = (stmt_stays h.0.tags h.3.0.tags j.leads.tags f.result h.1.code i.code, j.code); body = j.body }))

  pub block_fits : {ps : List CType} (f : Within) (a : Around) (s : State) (b : Body) (block : BlockTree) (u : State) (t : Typed (StmtOf CType)) → TypesBlock f a s b block u t → IsSound s → FitsBlock block → BodyFits s.tags ps b → StmtFits f.result ps s u t
  block_fits f a s b (Block l ds ss) u t h k g w =
      let d = declarations_fit s ds h.0 h.1 h.2 k g.0 in
      let i = stmts_fit f a h.0 (with_declared b h.1) ss h.3.0 h.3.1 h.3.2 d.0.sound g.1 (declared_fits h.0.tags b h.1 (body_stays s.tags h.0.tags d.0.tags b w) d.1) in
      fits_at f.result s h.3.0 u _ t h.3.3.0 h.3.3.1
      (record { leads = then_leads s h.0 h.3.0 d.0 i.leads; code = fills_fit h.3.0.tags f.result h.1.fills h.3.1.code (fill_later h.0.tags h.3.0.tags h.1 i.leads.tags d.1) i.code; body = i.body })
