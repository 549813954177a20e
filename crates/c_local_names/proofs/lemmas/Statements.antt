-- Names of locals in typed statements are those of the function's locals, and what these begin with lies in them.
use Rattle.std.proofs.Common.{◌≡◌, ℕ, suc, Bool, true, false, List, [], ◌∷◌, ◌++◌, length, refl, sym, ap, subst, ◌∙◌, arith}
use Rattle.std.proofs.lemmas.Bool.Decides.{nat_tests}
use Rattle.std.specs.Prelude.{IfSome, Option, Some, None, nat_eq}
use Rattle.c_ast.specs.Levels.{FitsBlock, FitsDeclarations, FitsStatement, FitsStatements}
use Rattle.c_ast.specs.Trees.{ExprTree, MaybeExpr, NoExpr, AnExpr, DeclarationTree, StatementTree, Label, Case, Default, Expression, Compound, If, IfElse, Switch, While, Do, For, Goto, Continue, Break, Return, StatementTrees, NoStatements, Statements, BlockTree, Block}
use Rattle.c_types.specs.CType.{CType}
use Rattle.c_types.specs.Layout.{Tag}
use Rattle.c_meaning.specs.Declarations.{Declares}
use Rattle.c_meaning.specs.Each.{EachIs}
use Rattle.c_meaning.specs.Linkage.{is_outside}
use Rattle.c_meaning.specs.State.{State, entered, left}
use Rattle.c_meaning.specs.StmtTrees.{StmtOf, Initialise, StmtsOf, NoStmt, Stmts}
use Rattle.c_meaning.specs.StmtTrees as code
use Rattle.c_meaning.specs.TypingRelation.{Types, TypesMaybe}
use Rattle.c_meaning.specs.Values.{CoreTree, promoted_value, value}
use Rattle.c_tree_names.specs.Names.{AllDeclarationNames, AllStatementNames, BlockNames, ExprNames, MaybeNames, StatementNames}
use Rattle.c_typing_steps.specs.Laws.{StepLaws}
use Rattle.c_typing_steps.specs.Names.{EachName, EachNameIn, EachNameInAll, StandsFor}
use Rattle.c_units.specs.Bodies.{Body, Typed, Within, in_loop, in_switch, marked, maybe_value, returned, stands_in, stmts_behind, with_case, with_cases, with_declared, with_default}
use Rattle.c_units.specs.BodiesRelation.{TypesBlock, TypesDeclarations, TypesStmt, TypesStmts}
use Rattle.c_units.specs.Statements.{Around}
use Rattle.c_fits.specs.Growing.{Grows}
use Rattle.c_fits.specs.Sound.{IsSound, Leads}
use Rattle.c_fits.proofs.lemmas.DeclaredFits.{each_join}
use Rattle.c_fits.proofs.lemmas.Declared.{declaration_leads}
use Rattle.c_fits.proofs.lemmas.Following.{entered_sound, left_sound}
use Rattle.c_fits.proofs.lemmas.Growing.{then_grows}
use Rattle.c_fits.proofs.lemmas.Leading.{follows_leads, same_leads, then_leads}
use Rattle.c_fits.proofs.lemmas.Walk.{expr_goes}
use Rattle.c_types.specs.CType.{unqualified}
use Rattle.c_local_names.specs.LocalNames.{AllFillOwn, FillsOwn, IfLocal}
use Rattle.c_local_names.proofs.lemmas.Declaring.{DeclaresIn, FillOwn, HasTexts, adds_others, declaration_in, fills_later, nothing_in, others_then, together_in}
use Rattle.c_local_names.proofs.lemmas.Knowing.{Begins, Knows, adds_know, begins_itself, begins_more, begins_then, entered_knows, left_knows, name_local}
use Rattle.c_local_names.proofs.lemmas.Names.{each_name, promoted_names, stored_names, value_names}
use Rattle.c_local_names.proofs.lemmas.Naming.{SameOthers}
use Rattle.c_local_names.proofs.lemmas.Stepping.{steps_add}

-- ---- statements

abbrev pub Owns : List Tag → List CType → StmtOf CType → Type 0
Owns tags locals s = EachNameIn (IfLocal locals) s × FillsOwn tags locals s

abbrev pub OwnAll : List Tag → List CType → StmtsOf CType → Type 0
OwnAll tags locals ss = EachNameInAll (IfLocal locals) ss × AllFillOwn tags locals ss

-- behind what locals begin with
fills_own_all : (tags : List Tag) (locals : List CType) (fs : List (StmtOf CType)) (ss : StmtsOf CType) → EachIs (FillOwn tags locals) fs → OwnAll tags locals ss → OwnAll tags locals (stmts_behind fs ss)
fills_own_all tags locals [] ss h k = k
fills_own_all tags locals (Initialise place zero ps ∷ fs) ss h k = let r = fills_own_all tags locals fs ss h.1 k in ((h.0.1, r.0), (h.0.0, r.1))
fills_own_all tags locals (f ∷ fs) ss h k = absurd h.0

-- What is known behind a part, of a function that has this behind it; and what holds of the part over further definitions and locals.
pub record Behind (c : ℕ) (s u : State) (b after : Body) (P : List Tag → List CType → Type 0) : Type 0 where
  pub leads : Leads s u
  pub knows : Knows (Some c) after.locals u
  pub outer : u.outer ≡ s.outer
  pub others : SameOthers s u
  pub begins : Begins after.locals b.locals
  pub objects : EachIs HasTexts after.objects
  pub code : (tags : List Tag) (all : List CType) → Grows u.tags tags → Begins all after.locals → P tags all

abbrev pub StmtOwns : ℕ → State → State → Body → Typed (StmtOf CType) → Type 0
StmtOwns c s u b t = Behind c s u b t.body (λ tags all. Owns tags all t.code)

abbrev pub StmtsOwn : ℕ → State → State → Body → Typed (StmtsOf CType) → Type 0
StmtsOwn c s u b t = Behind c s u b t.body (λ tags all. OwnAll tags all t.code)

owns_at : (c : ℕ) (s u v : State) (b : Body) (x y : Typed (StmtOf CType)) → u ≡ v → x ≡ y → StmtOwns c s u b x → StmtOwns c s v b y
owns_at c s u v b x y e g h = subst (λ u. StmtOwns c s u b y) e (subst (StmtOwns c s u b) g h)

-- what is known behind a part that declares no local
pub record After (c : ℕ) (locals : List CType) (s u : State) : Type 0 where
  pub leads : Leads s u
  pub knows : Knows (Some c) locals u
  pub outer : u.outer ≡ s.outer
  pub others : SameOthers s u

after_then : (c : ℕ) (locals : List CType) (s t u : State) → After c locals s t → After c locals t u → After c locals s u
after_then c locals s t u f g =
    record { leads = then_leads s t u f.leads g.leads; knows = g.knows; outer = g.outer ∙ f.outer; others = others_then s t u f.leads.symbols f.others g.others }

before : (c : ℕ) (s t u : State) (b after : Body) (P : List Tag → List CType → Type 0) → After c b.locals s t → Behind c t u b after P → Behind c s u b after P
before c s t u b after P f h =
    record {
      leads = then_leads s t u f.leads h.leads;
      knows = h.knows;
      outer = h.outer ∙ f.outer;
      others = others_then s t u f.leads.symbols f.others h.others;
      begins = h.begins;
      objects = h.objects;
      code = h.code;
    }

-- two parts
both : (c : ℕ) (s t u : State) (b d after : Body) (P Q : List Tag → List CType → Type 0) → Behind c s t b d P → Behind c t u d after Q → Behind c s u b after (λ tags all. P tags all × Q tags all)
both c s t u b d after P Q f g =
    record {
      leads = then_leads s t u f.leads g.leads;
      knows = g.knows;
      outer = g.outer ∙ f.outer;
      others = others_then s t u f.leads.symbols f.others g.others;
      begins = begins_then after.locals d.locals b.locals g.begins f.begins;
      objects = g.objects;
      code = λ tags all e k. (f.code tags all (then_grows t.tags u.tags tags g.leads.tags e) (begins_then all after.locals d.locals k g.begins), g.code tags all e k);
    }

-- from another body with the same locals, to another
recoded : (c : ℕ) (s u : State) (b d after other : Body) (P Q : List Tag → List CType → Type 0) → b.locals ≡ d.locals → other.locals ≡ after.locals → other.objects ≡ after.objects
    → ((tags : List Tag) (all : List CType) → Begins all d.locals → P tags all → Q tags all) → Behind c s u b after P → Behind c s u d other Q
recoded c s u b d after other P Q e g o f h =
    record {
      leads = h.leads;
      knows = subst (λ ls. Knows (Some c) ls u) (sym g) h.knows;
      outer = h.outer;
      others = h.others;
      begins = subst (λ (ls : List CType). Begins ls d.locals) (sym g) (subst (Begins after.locals) e h.begins);
      objects = subst (EachIs HasTexts) (sym o) h.objects;
      code = λ tags all k m.
          let n : Begins all after.locals = subst (Begins all) g m in
          f tags all (subst (Begins all) e (begins_then all after.locals b.locals n h.begins)) (h.code tags all k n);
    }

-- without locals
alone : (c : ℕ) (s u : State) (b other : Body) (P : List Tag → List CType → Type 0) → other.locals ≡ b.locals → EachIs HasTexts other.objects → After c b.locals s u
    → ((tags : List Tag) (all : List CType) → Begins all b.locals → P tags all) → Behind c s u b other P
alone c s u b other P e o h f =
    record {
      leads = h.leads;
      knows = subst (λ ls. Knows (Some c) ls u) (sym e) h.knows;
      outer = h.outer;
      others = h.others;
      begins = subst (λ (ls : List CType). Begins ls b.locals) (sym e) (begins_itself b.locals);
      objects = o;
      code = λ tags all k m. f tags all (subst (Begins all) e m);
    }

same_after : (c : ℕ) (locals : List CType) (s : State) → IsSound s → Knows (Some c) locals s → After c locals s s
same_after c locals s z k = record { leads = same_leads s z; knows = k; outer = refl; others = λ id l e. e }

-- cases and defaults
stands_locals : (a : Around) (b : Body) (cases : _) (default : Option ℕ) → (stands_in a b cases default).locals ≡ b.locals
stands_locals a b cases default = by a.switch
  where
    by : (s : Bool) → (stands_in (record { loop = a.loop; switch = s }) b cases default).locals ≡ b.locals
    by true = refl
    by false = refl

stands_objects : (a : Around) (b : Body) (cases : _) (default : Option ℕ) → (stands_in a b cases default).objects ≡ b.objects
stands_objects a b cases default = by a.switch
  where
    by : (s : Bool) → (stands_in (record { loop = a.loop; switch = s }) b cases default).objects ≡ b.objects
    by true = refl
    by false = refl

-- a scope inside isn't file scope
suc_not : (n : ℕ) → nat_eq (suc n) 0 ≡ false
suc_not n = grind (arith, nat_tests)

pub inner_outside : (xs : List (List (List ℕ × ℕ))) (x : List (List ℕ × ℕ)) → nat_eq (length (xs ++ x ∷ [])) 0 ≡ false
inner_outside [] x = refl
inner_outside (y ∷ ys) x = suc_not (length (ys ++ x ∷ []))

module _ (laws : StepLaws) (c : ℕ) where
  -- ---- expressions

  expr_after : (locals : List CType) (s : State) (e : ExprTree) (u : State) (x : CoreTree) → Types s e u x → ExprNames e → IsSound s → Knows (Some c) locals s → After c locals s u
  expr_after locals s e u x h n z k =
      let f = steps_add (Some c) s u (laws.expressions s u e x n h) k.counted in
      record { leads = follows_leads s u (expr_goes s e u x h z); knows = adds_know (Some c) locals s u f k; outer = f.keeps.outer; others = adds_others (Some c) s u f }

  expr_names : (all locals : List CType) (s : State) (e : ExprTree) (u : State) (x : CoreTree) → Types s e u x → ExprNames e → Knows (Some c) locals s → Begins all locals → EachName (IfLocal all) (value x)
  expr_names all locals s e u x h n k b = value_names (IfLocal all) x (each_name (StandsFor s u) (IfLocal all) (name_local (Some c) all locals s u k b) x (laws.names s u e x n h))

  maybe_after : (locals : List CType) (s : State) (e : MaybeExpr) (u : State) (x : Option CoreTree) → TypesMaybe s e u x → MaybeNames e → IsSound s → Knows (Some c) locals s → After c locals s u
  maybe_after locals s NoExpr u x h n z k = subst (After c locals s) h.0 (same_after c locals s z k)
  maybe_after locals s (AnExpr e) u x h n z k = subst (After c locals s) h.3.0 (expr_after locals s e h.0 h.1 h.2 n z k)

  maybe_names : (all locals : List CType) (s : State) (e : MaybeExpr) (u : State) (x : Option CoreTree) → TypesMaybe s e u x → MaybeNames e → Knows (Some c) locals s → Begins all locals → IfSome (maybe_value x) (EachName (IfLocal all))
  maybe_names all locals s NoExpr u x h n k b = subst (λ x. IfSome (maybe_value x) (EachName (IfLocal all))) h.1 tt
  maybe_names all locals s (AnExpr e) u x h n k b = subst (λ x. IfSome (maybe_value x) (EachName (IfLocal all))) h.3.1 (expr_names all locals s e h.0 h.1 h.2 n k b)

  returned_names : (all : List CType) (result : CType) (x : Option CoreTree) → IfSome (maybe_value x) (EachName (IfLocal all)) → IfSome (returned result x) (EachName (IfLocal all))
  returned_names all result None h = tt
  returned_names all result (Some x) h = stored_names (IfLocal all) (unqualified result) (value x) h

  -- ---- declarations

  declarations_in : (locals : List CType) (s : State) (ds : List DeclarationTree) (u : State) (x : Declares) → TypesDeclarations s ds u x → IsSound s → FitsDeclarations ds → AllDeclarationNames ds → Knows (Some c) locals s → is_outside s ≡ false
      → DeclaresIn c locals s u x × Leads s u
  declarations_in locals s [] u x h z g n k out = (subst (λ u. DeclaresIn c locals s u x) h.0 (subst (DeclaresIn c locals s s) h.1 (nothing_in c locals s k)), subst (Leads s) h.0 (same_leads s z))
  declarations_in locals s (d ∷ ds) u x h z g n k out =
      let f = declaration_in laws c locals s d h.0 h.1 h.2 z g.0 n.0 k out in
      let a = declaration_leads s d h.0 h.1 h.2 z in
      let r = declarations_in (locals ++ h.1.locals) h.0 ds h.3.0 h.3.1 h.3.2 a.sound g.1 n.1 f.knows (ap (λ ss. nat_eq (length ss) 0) f.outer ∙ out) in (
        subst (λ u. DeclaresIn c locals s u x) h.3.3.0 (subst (DeclaresIn c locals s h.3.0) h.3.3.1 (together_in c locals s h.0 h.3.0 h.1 h.3.1 r.1.tags f r.0)),
        subst (Leads s) h.3.3.0 (then_leads s h.0 h.3.0 a r.1),
      )

  -- ---- the induction

  -- a statement that is typed where this is known
  abbrev Given : State → Body → Type 0
  Given s b = IsSound s × Knows (Some c) b.locals s × (is_outside s ≡ false) × EachIs HasTexts b.objects

  given_after : (s u : State) (b : Body) → Given s b → After c b.locals s u → Given u b
  given_after s u b k f = (f.leads.sound, f.knows, ap (λ ss. nat_eq (length ss) 0) f.outer ∙ k.2, k.3)

  given_behind : (s u : State) (b after : Body) (P : List Tag → List CType → Type 0) → Given s b → Behind c s u b after P → Given u after
  given_behind s u b after P k f = (f.leads.sound, f.knows, ap (λ ss. nat_eq (length ss) 0) f.outer ∙ k.2, f.objects)

  given_as : (s : State) (b d : Body) → d.locals ≡ b.locals → d.objects ≡ b.objects → Given s b → Given s d
  given_as s b d e o k = (k.0, subst (λ ls. Knows (Some c) ls s) (sym e) k.1, k.2, subst (EachIs HasTexts) (sym o) k.3)

  mutual
    pub stmt_owns : (f : Within) (a : Around) (s : State) (b : Body) (st : StatementTree) (u : State) (t : Typed (StmtOf CType)) → TypesStmt f a s b st u t → FitsStatement st → StatementNames st → Given s b → StmtOwns c s u b t
    stmt_owns f a s b (Label l name st) u t h g n k =
        let i = stmt_owns f a s (marked b) st h.0 h.1 h.2 g n k in
        owns_at c s h.0 u b _ t h.3.1.0 h.3.1.1 (recoded c s h.0 (marked b) b h.1.body h.1.body (λ tags all. Owns tags all h.1.code) (λ tags all. Owns tags all h.1.code) refl refl refl (λ tags all m x. x) i)
    stmt_owns f a s b (Case l e st) u t h g n k =
        let p = expr_after b.locals s e h.0 h.1 h.2 n.0 k.0 k.1 in
        let d : Body = with_case a b h.1 in
        let same : d.locals ≡ b.locals = stands_locals a b _ _ in
        let i = stmt_owns f a h.0 d st h.3.0 h.3.1 h.3.2 g.2 n.1 (given_as h.0 b d same (stands_objects a b _ _) (given_after s h.0 b k p)) in
        let r = recoded c h.0 h.3.0 d b h.3.1.body h.3.1.body (λ tags all. Owns tags all h.3.1.code) (λ tags all. Owns tags all h.3.1.code) same refl refl (λ tags all m x. x) i in
        owns_at c s h.3.0 u b _ t h.3.3.1.0 h.3.3.1.1 (before c s h.0 h.3.0 b h.3.1.body (λ tags all. Owns tags all h.3.1.code) p r)
    stmt_owns f a s b (Default l st) u t h g n k =
        let d : Body = with_default a b in
        let same : d.locals ≡ b.locals = stands_locals a b _ _ in
        let i = stmt_owns f a s d st h.0 h.1 h.2 g n (given_as s b d same (stands_objects a b _ _) k) in
        owns_at c s h.0 u b _ t h.3.1.0 h.3.1.1 (recoded c s h.0 d b h.1.body h.1.body (λ tags all. Owns tags all h.1.code) (λ tags all. Owns tags all h.1.code) same refl refl (λ tags all m x. x) i)
    stmt_owns f a s b (Expression l NoExpr) u t h g n k = owns_at c s s u b _ t h.0 h.1 (alone c s s b b (λ tags all. Owns tags all code.Nothing) refl k.3 (same_after c b.locals s k.0 k.1) (λ tags all m. (tt, tt)))
    stmt_owns f a s b (Expression l (AnExpr e)) u t h g n k =
        let p = expr_after b.locals s e h.0 h.1 h.2 n k.0 k.1 in
        owns_at c s h.0 u b _ t h.3.1.0 h.3.1.1 (alone c s h.0 b b (λ tags all. Owns tags all (code.Expression (value h.1))) refl k.3 p (λ tags all m. (expr_names all b.locals s e h.0 h.1 h.2 n k.1 m, tt)))
    stmt_owns f a s b (Compound l block) u t h g n k =
        let i = block_owns f a (entered s) b block h.0 h.1 h.2 g n (entered_sound s k.0, entered_knows (Some c) b.locals s k.1, inner_outside s.outer s.inner, k.3) in
        owns_at c s (left s.outer s.inner h.0) u b h.1 t h.3.0 h.3.1
        (record {
          leads = record { sound = left_sound s h.0 k.0 i.leads.sound i.leads.symbols; count = i.leads.count; symbols = i.leads.symbols; tags = i.leads.tags };
          knows = left_knows (Some c) b.locals h.1.body.locals s h.0 k.1 i.knows i.outer;
          outer = refl;
          others = i.others;
          begins = i.begins;
          objects = i.objects;
          code = i.code;
        })
    stmt_owns f a s b (If l e st) u t h g n k =
        let p = expr_after b.locals s e h.0 h.1 h.2 n.0 k.0 k.1 in
        let i = stmt_owns f a h.0 b st h.3.0 h.3.1 h.3.2 g.1 n.1 (given_after s h.0 b k p) in
        let r = recoded c h.0 h.3.0 b b h.3.1.body h.3.1.body (λ tags all. Owns tags all h.3.1.code) (λ tags all. Owns tags all (code.If (value h.1) h.3.1.code code.Nothing)) refl refl refl
        (λ tags all m x. ((expr_names all b.locals s e h.0 h.1 h.2 n.0 k.1 m, (x.0, tt)), (x.1, tt))) i in
        owns_at c s h.3.0 u b _ t h.3.3.1.0 h.3.3.1.1 (before c s h.0 h.3.0 b h.3.1.body (λ tags all. Owns tags all (code.If (value h.1) h.3.1.code code.Nothing)) p r)
    stmt_owns f a s b (IfElse l e st su) u t h g n k =
        let p = expr_after b.locals s e h.0 h.1 h.2 n.0 k.0 k.1 in
        let q = given_after s h.0 b k p in
        let i = stmt_owns f a h.0 b st h.3.0 h.3.1 h.3.2 g.1 n.1.0 q in
        let w = h.3.3 in
        let j = stmt_owns f a h.3.0 h.3.1.body su w.0 w.1 w.2 g.2 n.1.1 (given_behind h.0 h.3.0 b h.3.1.body (λ tags all. Owns tags all h.3.1.code) q i) in
        let y = both c h.0 h.3.0 w.0 b h.3.1.body w.1.body (λ tags all. Owns tags all h.3.1.code) (λ tags all. Owns tags all w.1.code) i j in
        let r = recoded c h.0 w.0 b b w.1.body w.1.body (λ tags all. Owns tags all h.3.1.code × Owns tags all w.1.code) (λ tags all. Owns tags all (code.If (value h.1) h.3.1.code w.1.code)) refl refl refl
        (λ tags all m x. ((expr_names all b.locals s e h.0 h.1 h.2 n.0 k.1 m, (x.0.0, x.1.0)), (x.0.1, x.1.1))) y in
        owns_at c s w.0 u b _ t w.3.1.0 w.3.1.1 (before c s h.0 w.0 b w.1.body (λ tags all. Owns tags all (code.If (value h.1) h.3.1.code w.1.code)) p r)
    stmt_owns f a s b (Switch l e st) u t h g n k =
        let p = expr_after b.locals s e h.0 h.1 h.2 n.0 k.0 k.1 in
        let i = stmt_owns f (in_switch a) h.0 (with_cases [] None b) st h.3.0 h.3.1 h.3.2 g.1 n.1 (given_after s h.0 b k p) in
        let r = recoded c h.0 h.3.0 (with_cases [] None b) b h.3.1.body (with_cases b.cases b.default h.3.1.body) (λ tags all. Owns tags all h.3.1.code) (λ tags all. Owns tags all (code.Switch (promoted_value (value h.1)) h.3.1.body.cases h.3.1.body.default h.3.1.code)) refl refl refl
        (λ tags all m x. ((promoted_names (IfLocal all) (value h.1) (expr_names all b.locals s e h.0 h.1 h.2 n.0 k.1 m), x.0), x.1)) i in
        owns_at c s h.3.0 u b _ t h.3.3.1.0 h.3.3.1.1 (before c s h.0 h.3.0 b (with_cases b.cases b.default h.3.1.body) (λ tags all. Owns tags all (code.Switch (promoted_value (value h.1)) h.3.1.body.cases h.3.1.body.default h.3.1.code)) p r)
    stmt_owns f a s b (While l e st) u t h g n k =
        let p = expr_after b.locals s e h.0 h.1 h.2 n.0 k.0 k.1 in
        let i = stmt_owns f (in_loop a) h.0 b st h.3.0 h.3.1 h.3.2 g.1 n.1 (given_after s h.0 b k p) in
        let r = recoded c h.0 h.3.0 b b h.3.1.body h.3.1.body (λ tags all. Owns tags all h.3.1.code) (λ tags all. Owns tags all (code.While (value h.1) h.3.1.code)) refl refl refl
        (λ tags all m x. ((expr_names all b.locals s e h.0 h.1 h.2 n.0 k.1 m, x.0), x.1)) i in
        owns_at c s h.3.0 u b _ t h.3.3.1.0 h.3.3.1.1 (before c s h.0 h.3.0 b h.3.1.body (λ tags all. Owns tags all (code.While (value h.1) h.3.1.code)) p r)
    stmt_owns f a s b (Do l st e) u t h g n k =
        let i = stmt_owns f (in_loop a) s b st h.0 h.1 h.2 g.0 n.0 k in
        let q = given_behind s h.0 b h.1.body (λ tags all. Owns tags all h.1.code) k i in
        let p = expr_after h.1.body.locals h.0 e h.3.0 h.3.1 h.3.2 n.1 q.0 q.1 in
        let j = alone c h.0 h.3.0 h.1.body h.1.body (λ tags all. EachName (IfLocal all) (value h.3.1)) refl i.objects p (λ tags all m. expr_names all h.1.body.locals h.0 e h.3.0 h.3.1 h.3.2 n.1 q.1 m) in
        let y = both c s h.0 h.3.0 b h.1.body h.1.body (λ tags all. Owns tags all h.1.code) (λ tags all. EachName (IfLocal all) (value h.3.1)) i j in
        owns_at c s h.3.0 u b _ t h.3.3.1.0 h.3.3.1.1
        (recoded c s h.3.0 b b h.1.body h.1.body (λ tags all. Owns tags all h.1.code × EachName (IfLocal all) (value h.3.1)) (λ tags all. Owns tags all (code.Do h.1.code (value h.3.1))) refl refl refl (λ tags all m x. ((x.0.0, x.1), x.0.1)) y)
    stmt_owns f a s b (For l first test last st) u t h g n k =
        let p = maybe_after b.locals s first h.0 h.1 h.2 n.0 k.0 k.1 in
        let q = maybe_after b.locals h.0 test h.3.0 h.3.1 h.3.2 n.1.0 p.leads.sound p.knows in
        let w = h.3.3 in
        let r = maybe_after b.locals h.3.0 last w.0 w.1 w.2 n.1.1.0 q.leads.sound q.knows in
        let e = after_then c b.locals s h.3.0 w.0 (after_then c b.locals s h.0 h.3.0 p q) r in
        let y = w.3 in
        let i = stmt_owns f (in_loop a) w.0 b st y.0 y.1 y.2 g.3 n.1.1.1 (given_after s w.0 b k e) in
        let x = recoded c w.0 y.0 b b y.1.body y.1.body (λ tags all. Owns tags all y.1.code) (λ tags all. Owns tags all (code.For (maybe_value h.1) (maybe_value h.3.1) (maybe_value w.1) y.1.code)) refl refl refl
        (λ tags all m x. (
          (maybe_names all b.locals s first h.0 h.1 h.2 n.0 k.1 m, (maybe_names all b.locals h.0 test h.3.0 h.3.1 h.3.2 n.1.0 p.knows m, (maybe_names all b.locals h.3.0 last w.0 w.1 w.2 n.1.1.0 q.knows m, x.0))),
          x.1,
        )) i in
        owns_at c s y.0 u b _ t y.3.1.0 y.3.1.1 (before c s w.0 y.0 b y.1.body (λ tags all. Owns tags all (code.For (maybe_value h.1) (maybe_value h.3.1) (maybe_value w.1) y.1.code)) e x)
    stmt_owns f a s b (Goto l name) u t h g n k = owns_at c s s u b _ t h.0 h.1 (alone c s s b _ _ refl k.3 (same_after c b.locals s k.0 k.1) (λ tags all m. (tt, tt)))
    stmt_owns f a s b (Continue l) u t h g n k = owns_at c s s u b _ t h.1.0 h.1.1 (alone c s s b b (λ tags all. Owns tags all code.Continue) refl k.3 (same_after c b.locals s k.0 k.1) (λ tags all m. (tt, tt)))
    stmt_owns f a s b (Break l) u t h g n k = owns_at c s s u b _ t h.1.0 h.1.1 (alone c s s b b (λ tags all. Owns tags all code.Break) refl k.3 (same_after c b.locals s k.0 k.1) (λ tags all m. (tt, tt)))
    stmt_owns f a s b (Return l e) u t h g n k =
        let p = maybe_after b.locals s e h.0 h.1 h.2 n k.0 k.1 in
        owns_at c s h.0 u b _ t h.3.1.0 h.3.1.1
        (alone c s h.0 b b (λ tags all. Owns tags all (code.Return (returned f.result h.1))) refl k.3 p (λ tags all m. (returned_names all f.result h.1 (maybe_names all b.locals s e h.0 h.1 h.2 n k.1 m), tt)))

    pub stmts_own : (f : Within) (a : Around) (s : State) (b : Body) (ss : StatementTrees) (u : State) (t : Typed (StmtsOf CType)) → TypesStmts f a s b ss u t → FitsStatements ss → AllStatementNames ss → Given s b → StmtsOwn c s u b t
    stmts_own f a s b NoStatements u t h g n k =
        subst (λ u. StmtsOwn c s u b t) h.0 (subst (StmtsOwn c s s b) h.1 (alone c s s b b (λ tags all. OwnAll tags all NoStmt) refl k.3 (same_after c b.locals s k.0 k.1) (λ tags all m. (tt, tt))))
    stmts_own f a s b (Statements st more) u t h g n k =
        let i = stmt_owns f a s b st h.0 h.1 h.2 g.0 n.0 k in
        let j = stmts_own f a h.0 h.1.body more h.3.0 h.3.1 h.3.2 g.1 n.1 (given_behind s h.0 b h.1.body (λ tags all. Owns tags all h.1.code) k i) in
        let y = both c s h.0 h.3.0 b h.1.body h.3.1.body (λ tags all. Owns tags all h.1.code) (λ tags all. OwnAll tags all h.3.1.code) i j in
        let r = recoded c s h.3.0 b b h.3.1.body h.3.1.body (λ tags all. Owns tags all h.1.code × OwnAll tags all h.3.1.code) (λ tags all. OwnAll tags all (Stmts h.1.code h.3.1.code)) refl refl refl (λ tags all m x. ((x.0.0, x.1.0), (x.0.1, x.1.1))) y in
        subst (λ u. StmtsOwn c s u b t) h.3.3.0 (subst (StmtsOwn c s h.3.0 b) h.3.3.1 r)

    pub block_owns : (f : Within) (a : Around) (s : State) (b : Body) (block : BlockTree) (u : State) (t : Typed (StmtOf CType)) → TypesBlock f a s b block u t → FitsBlock block → BlockNames block → Given s b → StmtOwns c s u b t
    block_owns f a s b (Block l ds ss) u t h g n k =
        let d = declarations_in b.locals s ds h.0 h.1 h.2 k.0 g.0 n.0 k.1 k.2 in
        let w : Body = with_declared b h.1 in
        let i = stmts_own f a h.0 w ss h.3.0 h.3.1 h.3.2 g.1 n.1 (d.1.sound, d.0.knows, ap (λ ss. nat_eq (length ss) 0) d.0.outer ∙ k.2, each_join HasTexts b.objects h.1.objects k.3 d.0.objects) in
        owns_at c s h.3.0 u b _ t h.3.3.0 h.3.3.1
        (record {
          leads = then_leads s h.0 h.3.0 d.1 i.leads;
          knows = i.knows;
          outer = i.outer ∙ d.0.outer;
          others = others_then s h.0 h.3.0 d.0.symbols d.0.others i.others;
          begins = begins_then h.3.1.body.locals (b.locals ++ h.1.locals) b.locals i.begins (begins_more b.locals h.1.locals);
          objects = i.objects;
          code = λ tags all e m.
              fills_own_all tags all h.1.fills h.3.1.code
              (fills_later h.0.tags tags all (b.locals ++ h.1.locals) h.1.fills (then_grows h.0.tags h.3.0.tags tags i.leads.tags e) (begins_then all h.3.1.body.locals (b.locals ++ h.1.locals) m i.begins) d.0.fills)
              (i.code tags all e m);
        })
