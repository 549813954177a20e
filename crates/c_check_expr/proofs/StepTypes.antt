-- The types that a declarator's steps form, in a table that grows.
use Rattle.std.proofs.Common.{◌≡◌, ℕ, map, Bool, true, false, List, [], ◌∷◌, refl, subst, sym, ap, ◌∙◌}
use Rattle.std.specs.Prelude.{◌≢◌, ◌||◌, Some, None, nat_lt, if◌then◌else◌}
use Rattle.lcc_base.specs.declared.which.Which.TheVariants as which
use Rattle.c_types.specs.declared.type_fault.TypeFault.{TypeFault}
use Rattle.c_types.specs.declared.type_fault.TypeFault.TheVariants as fault
use Rattle.c_types.specs.declared.type_form.TypeForm.{TypeForm}
use Rattle.c_types.specs.declared.type_form.TypeForm.TheVariants as form
use Rattle.c_types.specs.CType.{CTypes, And, Plain, Function, Listed, depth, unqualified}
use Rattle.c_types.specs.Facts.{type_of}
use Rattle.c_types.specs.Layout.{extent}
use Rattle.c_types.specs.Table.{AreBelow, IsRefusal, Table, element_fault, form_refusal, is_above, tags, type_at, types, types_in}
use Rattle.c_meaning.specs.TypeRows.{formed_by, types_of}
use Rattle.c_values.specs.declared.check_fault.CheckFault.{CheckFault}
use Rattle.c_values.specs.declared.check_fault.CheckFault.TheVariants as told
use Rattle.c_check_expr.specs.declared.parts.NamedParameter.{NamedParameter}
use Rattle.c_check_expr.specs.declared.parts.Step.{Step}
use Rattle.c_check_expr.specs.declared.parts.Step.TheVariants as step
use Rattle.c_check_expr.specs.PartsSeen.{AreParametersIn, parameters_seen, step_seen}
use Rattle.c_check_expr.specs.StepFaults.{IsPassedDepth, is_deep}

too_deep : (a b : Bool) (e : TypeFault) → (if a || b then Some fault.TooDeep else None) ≡ Some e → (e ≡ fault.TooDeep) × ((b || a) ≡ true)
too_deep true true e h = (cc, refl)
too_deep true false e h = (cc, refl)
too_deep false true e h = (cc, refl)
too_deep false false e h = absurd (cc)

-- A type is refused whose element and size are fine: it is too deep.
module _ (t : Table) (f : TypeForm) (h : element_fault t f ≡ None) (m : is_above (extent (tags t) (type_of t f)).size ≡ false) where
  only_deep : (e : TypeFault) → form_refusal t f ≡ Some e → (e ≡ fault.TooDeep) × (is_deep (tags t) (type_of t f) ≡ true)
  only_deep e k = too_deep (nat_lt 500 (depth (type_of t f))) (nat_lt 500 (extent (tags t) (type_of t f)).nesting) e (rw (h, m) at k)

  pub refused_deep : (e : TypeFault) (r : CheckFault) (line : ℕ) → IsRefusal (form_refusal t f) e → (e ≡ fault.TooDeep → r ≡ told.Limit which.Depth line) → (e ≢ fault.TooLarge → e ≢ fault.TooDeep → r ≡ told.Memory) →
      IsPassedDepth r line (is_deep (tags t) (type_of t f))
  refused_deep fault.TooDeep r line n d o = let k = only_deep fault.TooDeep (n (λ x. cc)) in subst (λ (z : CheckFault). IsPassedDepth z line (is_deep (tags t) (type_of t f))) (sym (d refl)) (refl, (refl, k.1))
  refused_deep fault.Memory r line n d o = subst (λ (z : CheckFault). IsPassedDepth z line (is_deep (tags t) (type_of t f))) (sym (o (λ x. cc) (λ x. cc))) tt
  refused_deep fault.Incomplete r line n d o = let k = (only_deep fault.Incomplete (n (λ x. cc))).0 in absurd (cc)
  refused_deep fault.TooLarge r line n d o = let k = (only_deep fault.TooLarge (n (λ x. cc))).0 in absurd (cc)

-- ---- functions

pub ids_below : (n : ℕ) (ps : List NamedParameter) → AreParametersIn n ps → AreBelow n (map (λ p. p.of) ps)
ids_below n [] h = tt
ids_below n (p ∷ ps) h = (h.0, ids_below n ps h.1)

ids_mean : (t : Table) (ps : List NamedParameter) → types_in (types t) (map (λ p. p.of) ps) ≡ types_of (parameters_seen t ps)
ids_mean t [] = refl
ids_mean t (p ∷ ps) = ap (And (unqualified (type_at t p.of))) (ids_mean t ps)

-- the type of a function's form is the one that the step makes
pub function_formed : (t : Table) (of : ℕ) (p : Step) (ps : List NamedParameter) (ids : List ℕ) (more : Bool) (scope : List (List ℕ × ℕ)) → p ≡ step.Function ps more scope → ids ≡ map (λ p. p.of) ps →
    type_of t (form.Function of (Some ids) more) ≡ formed_by (step_seen t p) (type_at t of)
function_formed t of p ps ids more scope e h =
    ap (λ (ts : CTypes). Plain 0 (Function (type_at t of) (Listed ts more))) (ap (types_in (types t)) h ∙ ids_mean t ps)
    ∙ sym (ap (λ (q : Step). formed_by (step_seen t q) (type_at t of)) e)
