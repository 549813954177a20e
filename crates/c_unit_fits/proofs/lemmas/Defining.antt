-- What is known behind a function's definition leads on from what was known before, and its body fits.
use Rattle.std.proofs.Common.{◌≡◌, ℕ, suc, true, not, ◌||◌, List, [], ◌∷◌, ◌++◌, length, refl, sym, ap, subst}
use Rattle.std.specs.Prelude.{Option, Some, None, is_some}
use Rattle.c_ast.specs.Levels.{FitsBlock}
use Rattle.c_ast.specs.Trees.{SpecifiersTree, DeclaratorTree, InitTree, DeclarationTree, BlockTree}
use Rattle.c_symbols.specs.Scoping.{AreBelow, symbol_named}
use Rattle.c_symbols.specs.Extending.{below_more}
use Rattle.c_types.specs.CType.{CType, Int, basic}
use Rattle.c_types.specs.Layout.{Tag}
use Rattle.c_meaning.specs.Declarations.{has_other_linkage, is_again, or_zero}
use Rattle.c_meaning.specs.Declaring.{line_of}
use Rattle.c_meaning.specs.Linkage.{with_count}
use Rattle.c_meaning.specs.Rows.{result_type}
use Rattle.c_meaning.specs.State.{State, place_here}
use Rattle.c_meaning.specs.StmtTrees.{StmtOf}
use Rattle.c_meaning.specs.TypeRows.{Specified, adjusted, formed, parameter_known}
use Rattle.c_meaning.specs.Units.{are_different}
use Rattle.c_units.specs.Bodies.{Typed}
use Rattle.c_units.specs.Definitions.{Definition, OldParameter, names_of, own_step}
use Rattle.c_units.specs.Functions.{definition, nowhere, old_parameter, parameter_types, scope_of, started, with_all_listed, with_definition, with_function_name, with_listed, with_old, within}
use Rattle.c_units.specs.UnitsRelation.{TypesBody, TypesDefinition, TypesOld, TypesOldDeclaration, TypesOldDeclarations, TypesOlds, TypesResult}
use Rattle.c_fits.specs.Sound.{IsOld, IsSound, Leads}
use Rattle.c_fits.proofs.lemmas.Booleans.{or_left}
use Rattle.c_fits.proofs.lemmas.Declared.{inside_specifies, list_specifies, outside_is}
use Rattle.c_fits.proofs.lemmas.Elements.{formed_elements}
use Rattle.c_fits.proofs.lemmas.Leading.{count_leads, declared_leads, follows_leads, noted_leads, old_stays, same_leads, then_leads, with_name_again}
use Rattle.c_fits.proofs.lemmas.Types.{adjusted_apart, adjusted_elements, formed_apart, parameter_numbered}
use Rattle.c_fits.proofs.lemmas.Walk.{declarator_goes}
use Rattle.c_unit_fits.specs.OpenStmts.{BodyFits}
use Rattle.c_unit_fits.proofs.lemmas.Fitting.{StmtFits, block_fits}
use Rattle.c_unit_fits.proofs.lemmas.Signatures.{IsSignature, definition_unbroken, signature, signature_stays}
use Rattle.c_unit_fits.proofs.lemmas.Scopes.{declarator_scoped, own_adjusted, own_scope}

-- ---- the declarator

abbrev Specifies : State → State → Specified → Type 0
Specifies s u b = Leads s u × IsOld u b.of

int_old : (s : State) → IsOld s (basic Int)
int_old s = (λ n l. refl, refl)

pub result_specifies : (s : State) (specs : Option SpecifiersTree) (u : State) (b : Specified) → TypesResult s specs u b → IsSound s → Specifies s u b
result_specifies s None u b h k = subst (λ u. Specifies s u b) h.0 (subst (Specifies s s) h.1 (same_leads s k, int_old s))
result_specifies s (Some specs) u b h k =
    let f = list_specifies s specs h.0 h.1 h.2 k in
    let e = outside_is true h.0 (line_of specs) h.1 u b h.3 in
    subst (λ u. Specifies s u b) e.0 (subst (Specifies s h.0) e.1 (follows_leads s h.0 f.0, (λ n l. let u = f.0.sound.fresh n l in f.1.0 n u, f.1.1)))

-- the function's name is in force behind it, its parameters have symbols, and its type is a function's
abbrev Defines : State → State → Definition → Type 0
Defines s u n = Leads s u × (AreBelow (length u.symbols) (scope_of (own_step n.steps)) × IsSignature u.tags n)

pub definition_leads : (s : State) (line : ℕ) (b : Specified) (d : DeclaratorTree) (u : State) (n : Definition) → TypesDefinition s line b d u n → IsSound s → IsOld s b.of → Defines s u n
definition_leads s line b d u n h k o =
    let f = declarator_goes s d h.0 h.1 h.2 k in
    let base = old_stays s h.0 b.of f.count f.tags o in
    let m : Definition = definition h.0 b h.1 in
    let name = m.naming.name in
    let again = or_left (is_again h.0 m.naming.linkage (place_here h.0 name)) (has_other_linkage h.0 m.naming.linkage (symbol_named h.0.links name)) (or_left (is_again h.0 m.naming.linkage (place_here h.0 name) || has_other_linkage h.0 m.naming.linkage (symbol_named h.0.links name)) (not (are_different (names_of (own_step m.steps)))) (definition_unbroken h.0 h.1.line m h.3.0 5)) in
    let old : IsOld h.0 m.naming.of = (λ i l. formed_apart i h.1.steps b.of (base.0 i l), formed_elements h.0.tags h.1.steps b.of base.1 (definition_unbroken h.0 h.1.line m h.3.0 14)) in
    let a = with_name_again h.0 line m.naming.class name m.naming.of f.sound old again in
    let v : State = with_function_name h.0 line m in
    let c = noted_leads v true (symbol_named v.links name) a.0.sound (a.0.sound.linked name) in
    let all = then_leads h.0 v (with_definition h.0 line m) a.0 c in
    subst (λ u. Defines s u n) h.3.1.0
    (subst (Defines s (with_definition h.0 line m)) h.3.1.1 (
      then_leads s h.0 (with_definition h.0 line m) (follows_leads s h.0 f) all,
      (
        below_more (length h.0.symbols) (length (with_definition h.0 line m).symbols) all.symbols (scope_of (own_step h.1.steps)) (own_scope (length h.0.symbols) h.1.steps (declarator_scoped s d h.0 h.1 h.2 k)),
        signature_stays h.0.tags (with_definition h.0 line m).tags m all.tags (signature h.0 h.1.line m refl h.3.0 (own_adjusted (length h.0.symbols) h.1.steps (declarator_scoped s d h.0 h.1 h.2 k))),
      ),
    ))

-- ---- old-style parameters

pub old_leads : (s : State) (line : ℕ) (names : List (List ℕ)) (b : Specified) (i : InitTree) (u : State) (x : Unit {0}) → TypesOld s line names b i u x → IsSound s → IsOld s b.of → Leads s u
old_leads s line names b i u x h k o =
    let f = declarator_goes s i.declarator h.0 h.1 h.2 k in
    let base = old_stays s h.0 b.of f.count f.tags o in
    let n : OldParameter = old_parameter names b h.1 (is_some i.initialiser) in
    let t : CType = adjusted (formed b.of h.1.steps) in
    let d = declared_leads h.0 n.name (parameter_known h.0 line (or_zero n.place) n.classes t) f.sound (parameter_numbered n.classes t)
    (λ m l. adjusted_apart m (formed b.of h.1.steps) (formed_apart m h.1.steps b.of (base.0 m l)), adjusted_elements h.0.tags (formed b.of h.1.steps)) in
    subst (Leads s) h.3.1.0 (then_leads s h.0 (with_old h.0 line n) (follows_leads s h.0 f) d)

pub olds_lead : (s : State) (line : ℕ) (names : List (List ℕ)) (b : Specified) (is : List InitTree) (u : State) (x : Unit {0}) → TypesOlds s line names b is u x → IsSound s → IsOld s b.of → Leads s u
olds_lead s line names b [] u x h k o = subst (Leads s) h.0 (same_leads s k)
olds_lead s line names b (i ∷ is) u x h k o =
    let f = old_leads s line names b i h.0 h.1 h.2 k o in
    then_leads s h.0 u f (olds_lead h.0 line names b is u x h.3 f.sound (old_stays s h.0 b.of f.count f.tags o))

pub old_declaration_leads : (s : State) (names : List (List ℕ)) (d : DeclarationTree) (u : State) (x : Unit {0}) → TypesOldDeclaration s names d u x → IsSound s → Leads s u
old_declaration_leads s names d u x h k =
    let f = inside_specifies s d.specifiers d.declarators h.0 h.1 h.2 k in
    let g = olds_lead h.0 d.line names h.1 d.declarators h.3.0 h.3.1 h.3.2 f.0.sound (λ n l. let u = f.0.sound.fresh n l in f.1.0 n u, f.1.1) in
    subst (Leads s) h.3.3.1.0 (then_leads s h.0 h.3.0 (follows_leads s h.0 f.0) g)

pub old_declarations_lead : (s : State) (names : List (List ℕ)) (ds : List DeclarationTree) (u : State) (x : Unit {0}) → TypesOldDeclarations s names ds u x → IsSound s → Leads s u
old_declarations_lead s names [] u x h k = subst (Leads s) h.0 (same_leads s k)
old_declarations_lead s names (d ∷ ds) u x h k =
    let f = old_declaration_leads s names d h.0 h.1 h.2 k in
    then_leads s h.0 u f (old_declarations_lead h.0 names ds u x h.3 f.sound)

pub listed_leads : (s : State) (line place : ℕ) (name : List ℕ) (o : Option ℕ) → IsSound s → Leads s (with_listed s line place name o)
listed_leads s line place name (Some id) k = same_leads s k
listed_leads s line place name None k = declared_leads s name (parameter_known s line place [] (basic Int)) k (parameter_numbered [] (basic Int)) (int_old s)

pub all_listed_lead : (s : State) (line place : ℕ) (names : List (List ℕ)) → IsSound s → Leads s (with_all_listed s line place names)
all_listed_lead s line place [] k = same_leads s k
all_listed_lead s line place (n ∷ ns) k =
    let f = listed_leads s line place n (place_here s n) k in
    then_leads s (with_listed s line place n (place_here s n)) (with_all_listed (with_listed s line place n (place_here s n)) line (suc place) ns) f
    (all_listed_lead (with_listed s line place n (place_here s n)) line (suc place) ns f.sound)

-- ---- the body

starts : (tags : List Tag) (ps : List CType) → BodyFits tags ps (started ps)
starts tags ps = record { further = []; split = sym (append_none ps); locals = tt; objects = tt }
  where
    append_none : (ts : List CType) → ts ++ [] ≡ ts
    append_none [] = refl
    append_none (t ∷ ts) = ap (λ us. t ∷ us) (append_none ts)

pub body_fits : (s : State) (n : Definition) (body : BlockTree) (u : State) (t : Typed (StmtOf CType)) → TypesBody s n body u t → IsSound s → FitsBlock body → StmtFits (result_type n.naming.of) (parameter_types s (own_step n.steps)) s u t
body_fits s n body u t h k g =
    let c = count_leads s (length (parameter_types s (own_step n.steps))) k in
    let i = block_fits (within n body) nowhere (with_count s (length (parameter_types s (own_step n.steps)))) (started (parameter_types s (own_step n.steps))) body u t h c.sound g (starts (with_count s (length (parameter_types s (own_step n.steps)))).tags (parameter_types s (own_step n.steps))) in
    record { leads = then_leads s (with_count s (length (parameter_types s (own_step n.steps)))) u c i.leads; code = i.code; body = i.body }
