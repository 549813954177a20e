-- What a function's definition gives fits, and what is known behind it leads on from what was known before.
use Rattle.std.proofs.Common.{◌≡◌, ℕ, Bool, true, false, List, length, refl, subst}
use Rattle.std.specs.Prelude.{Option, None}
use Rattle.c_ast.specs.Levels.{FitsBlock}
use Rattle.c_ast.specs.Trees.{SpecifiersTree, DeclaratorTree, DeclarationTree, BlockTree}
use Rattle.c_meaning.specs.Linkage.{with_count}
use Rattle.c_meaning.specs.State.{State, left}
use Rattle.c_units.specs.Definitions.{Definition, names_of, own_step}
use Rattle.c_units.specs.Functions.{TypedFunction, listed_types, lost_fault, parameter_types, reopened, scope_of, with_all_listed}
use Rattle.c_units.specs.UnitsRelation.{TypesFunction, TypesInScope}
use Rattle.c_fits.specs.Sound.{IsSound, Leads}
use Rattle.c_fits.proofs.lemmas.Leading.{then_leads}
use Rattle.c_unit_fits.specs.Functions.{FunctionFits}
use Rattle.c_unit_fits.proofs.lemmas.BodyShapes.{body_shape}
use Rattle.c_unit_fits.proofs.lemmas.Defining.{all_listed_lead, body_fits, definition_leads, old_declarations_lead, result_specifies}
use Rattle.c_unit_fits.proofs.lemmas.OldParameters.{AreDeclared, first_declared, listed_sized, old_declarations_found}
use Rattle.c_unit_fits.proofs.lemmas.Signatures.{IsSignature, parameters_sized, signature_stays, sized_stay}
use Rattle.c_unit_fits.proofs.lemmas.Scopes.{reopened_leads, reopened_sound}

-- a goto that finds no label is told
lost_none : (line : ℕ) (lost : Bool) → lost_fault line lost ≡ None → lost ≡ false
lost_none line true h = absurd (let never : ⊥ = cc in never)
lost_none line false h = refl

abbrev FitsBehind : State → State → TypedFunction → Type 0
FitsBehind s u f = Leads s u × FunctionFits u.tags f

scope_fits : (s : State) (line : ℕ) (n : Definition) (olds : List DeclarationTree) (body : BlockTree) (u : State) (f : TypedFunction) → TypesInScope s line n olds body u f → IsSound s → IsSignature s.tags n → AreDeclared s (names_of (own_step n.steps)) → FitsBlock body → FitsBehind s u f
scope_fits s line n olds body u f h k z w g =
    let a = old_declarations_lead s (names_of (own_step n.steps)) olds h.0 h.1 h.2 k in
    let v : State = with_all_listed h.0 line 0 (names_of (own_step n.steps)) in
    let b = all_listed_lead h.0 line 0 (names_of (own_step n.steps)) a.sound in
    let i = body_fits v n body h.3.0 h.3.1 h.3.2 b.sound g in
    let ps = parameter_types v (own_step n.steps) in
    let e = lost_none line h.3.1.body.lost h.3.3.0 in
    let shape = body_shape (with_count v (length ps)) h.3.0 n ps body h.3.1 h.3.2 e in
    let all = then_leads s h.0 h.3.0 a (then_leads h.0 v h.3.0 b i.leads) in
    let sign = signature_stays s.tags h.3.0.tags n all.tags z in
    let listed = listed_sized h.0 line (names_of (own_step n.steps)) a.sound (old_declarations_found s (names_of (own_step n.steps)) olds h.0 h.1 h.2 k w) in
    let sized = parameters_sized h.3.0.tags v (own_step n.steps) sign.sized (sized_stay v.tags h.3.0.tags (listed_types v (names_of (own_step n.steps))) i.leads.tags listed) in
    subst (λ u. FitsBehind s u f) h.3.3.1.0
    (subst (FitsBehind s h.3.0) h.3.3.1.1 (
      all,
      record { type = sign.type; result = sign.result; first = ps; parameters = refl; listed = sign.listed v; sized = sized; has = i.body; shape = shape; body = i.code },
    ))

pub function_fits : (s : State) (line : ℕ) (specs : Option SpecifiersTree) (d : DeclaratorTree) (olds : List DeclarationTree) (body : BlockTree) (u : State) (f : TypedFunction) → TypesFunction s line specs d olds body u f → IsSound s → FitsBlock body → FitsBehind s u f
function_fits s line specs d olds body u f h k g =
    let a = result_specifies s specs h.0 h.1 h.2 k in
    let b = definition_leads h.0 line h.1 d h.3.0 h.3.1 h.3.2 a.0.sound a.1 in
    let scope = scope_of (own_step h.3.1.steps) in
    let c = scope_fits (reopened h.3.0 scope) line h.3.1 olds body h.3.3.0 h.3.3.1 h.3.3.2 (reopened_sound h.3.0 scope b.0.sound b.1.0) b.1.1 (first_declared h.3.0 (own_step h.3.1.steps)) g in
    subst (λ u. FitsBehind s u f) h.3.3.3.0
    (subst (FitsBehind s (left h.3.0.outer h.3.0.inner h.3.3.0)) h.3.3.3.1
    (then_leads s h.0 (left h.3.0.outer h.3.0.inner h.3.3.0) a.0 (then_leads h.0 h.3.0 (left h.3.0.outer h.3.0.inner h.3.3.0) b.0 (reopened_leads h.3.0 h.3.3.0 scope b.0.sound c.0)), c.1))
