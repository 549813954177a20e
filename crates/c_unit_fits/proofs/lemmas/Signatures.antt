-- The type that a definition's declarator forms: a function's, with a result that is void or whole, and parameters that have sizes.
use Rattle.std.proofs.Common.{◌≡◌, ◌⊎◌, ℕ, true, false, not, ◌||◌, List, [], ◌∷◌, refl, sym, ap, subst, ◌∙◌, inl, inr}
use Rattle.std.specs.Prelude.{Option, Some, None}
use Rattle.c_types.specs.CType.{Void, CType, Plain, Array, Simple, Pointer, Function, Structure, Union, Enumeration, Parameters, Open, Listed, And, unqualified}
use Rattle.c_types.specs.Layout.{Tag}
use Rattle.c_meaning.specs.Each.{EachIs}
use Rattle.c_meaning.specs.Fits.{is_whole}
use Rattle.c_meaning.specs.Nodes.{NamedParameter, Step, ToPointer, ToArray, ToFunction, ToNamed, ToOpen}
use Rattle.c_meaning.specs.Rows.{parameters_type, result_type}
use Rattle.c_meaning.specs.State.{State}
use Rattle.c_meaning.specs.TypeConstraints.{is_bad_result, some_step}
use Rattle.c_meaning.specs.TypeRows.{formed, formed_by}
use Rattle.c_meaning.specs.TypeRows as rows
use Rattle.c_meaning.specs.Types.{has_size, is_array, is_function, is_void}
use Rattle.c_meaning.specs.Units.{AreParameters, is_result, types_listed}
use Rattle.c_units.specs.Definitions.{Definition, definition_constraints, definition_fault, has_more, definition_limit, has_open_parameter, is_definition_step, is_open_result, names_of, own_step, takes_open}
use Rattle.c_units.specs.Functions.{listed_types, parameter_types, types_of}
use Rattle.c_fits.specs.Growing.{Grows}
use Rattle.c_fits.specs.OpenDeclares.{IsOpenLocal}
use Rattle.c_unit_fits.specs.Functions.{AreSized}
use Rattle.c_unit_fits.proofs.lemmas.Scopes.{AreAdjusted, StepAdjusted}
use Rattle.c_fits.proofs.lemmas.Booleans.{never, not_false, or_cases, or_left, or_right, or_true}
use Rattle.c_fits.proofs.lemmas.Constraints.{test_in, unbroken_on}
use Rattle.c_fits.proofs.lemmas.DeclaredFits.{locals_stay}
use Rattle.c_fits.proofs.lemmas.Growing.{whole_stays}

-- ---- the function's own step

own_function : (ps : List Step) (t : CType) → is_definition_step (own_step ps) ≡ true → is_function (formed t ps) ≡ true
own_function [] t h = never (sym h)
own_function (ToFunction qs more scope ∷ []) t h = refl
own_function (ToNamed names ∷ []) t h = refl
own_function (ToOpen ∷ []) t h = refl
own_function (ToPointer q ∷ []) t h = never (sym h)
own_function (ToArray size ∷ []) t h = never (sym h)
own_function (p ∷ q ∷ ps) t h = own_function (q ∷ ps) (formed_by p t) h

no_result : (t : CType) (p : Step) (ps : List Step) → some_step is_bad_result t (p ∷ ps) ≡ false → is_bad_result t p ≡ false
no_result t p ps h = or_left (is_bad_result t p) (some_step is_bad_result (formed_by p t) ps) h

own_result : (ps : List Step) (t : CType) → is_definition_step (own_step ps) ≡ true → some_step is_bad_result t ps ≡ false → (is_function (result_type (formed t ps)) || is_array (result_type (formed t ps))) ≡ false
own_result [] t h e = never (sym h)
own_result (ToFunction qs more scope ∷ []) t h e = no_result t (ToFunction qs more scope) [] e
own_result (ToNamed names ∷ []) t h e = no_result t (ToNamed names) [] e
own_result (ToOpen ∷ []) t h e = no_result t ToOpen [] e
own_result (ToPointer q ∷ []) t h e = never (sym h)
own_result (ToArray size ∷ []) t h e = never (sym h)
own_result (p ∷ q ∷ ps) t h e = own_result (q ∷ ps) (formed_by p t) h (or_right (is_bad_result t p) (some_step is_bad_result (formed_by p t) (q ∷ ps)) e)

abbrev step_parameters : Option Step → Parameters
step_parameters (Some (ToFunction ps more scope)) = Listed (rows.types_of ps) more
step_parameters step = Open

own_parameters : (ps : List Step) (t : CType) → is_definition_step (own_step ps) ≡ true → parameters_type (formed t ps) ≡ step_parameters (own_step ps)
own_parameters [] t h = never (sym h)
own_parameters (ToFunction qs more scope ∷ []) t h = refl
own_parameters (ToNamed names ∷ []) t h = refl
own_parameters (ToOpen ∷ []) t h = refl
own_parameters (ToPointer q ∷ []) t h = never (sym h)
own_parameters (ToArray size ∷ []) t h = never (sym h)
own_parameters (p ∷ q ∷ ps) t h = own_parameters (q ∷ ps) (formed_by p t) h

-- ---- results

pub whole_object : (tags : List Tag) (t : CType) → has_size tags t ≡ true → (is_function t || is_array t) ≡ false → is_whole tags t ≡ true
whole_object tags (Plain q (Simple Void)) h e = never (sym h)
whole_object tags (Plain q (Simple b)) h e = refl
whole_object tags (Plain q (Pointer to)) h e = refl
whole_object tags (Plain q (Function r ps)) h e = never e
whole_object tags (Plain q (Structure n)) h e = h
whole_object tags (Plain q (Union n)) h e = h
whole_object tags (Plain q (Enumeration n)) h e = refl
whole_object tags (Array of n) h e = never e

result_is : (tags : List Tag) (t : CType) → is_open_result tags t ≡ false → (is_function t || is_array t) ≡ false → is_result tags t ≡ true
result_is tags t h e = by (or_cases (is_void t) (has_size tags t) (not_false (is_void t || has_size tags t) h))
  where
    by : (is_void t ≡ true) ⊎ (has_size tags t ≡ true) → is_result tags t ≡ true
    by (inl k) = or_true (is_void t) (is_whole tags t) (inl k)
    by (inr k) = or_true (is_void t) (is_whole tags t) (inr (whole_object tags t k e))

pub result_stays : (old new : List Tag) (t : CType) → Grows old new → is_result old t ≡ true → is_result new t ≡ true
result_stays old new t g h = by (or_cases (is_void t) (is_whole old t) h)
  where
    by : (is_void t ≡ true) ⊎ (is_whole old t ≡ true) → is_result new t ≡ true
    by (inl k) = or_true (is_void t) (is_whole new t) (inl k)
    by (inr k) = or_true (is_void t) (is_whole new t) (inr (whole_stays old new g t k))

-- ---- parameters

types_same : (ps : List NamedParameter) → rows.types_of ps ≡ types_listed (types_of ps)
types_same [] = refl
types_same (p ∷ ps) = ap (And (unqualified p.of)) (types_same ps)

all_sized : (tags : List Tag) (ps : List NamedParameter) → has_open_parameter tags ps ≡ false → EachIs (IsOpenLocal tags) (types_of ps)
all_sized tags [] h = tt
all_sized tags (p ∷ ps) h = (not_false (has_size tags p.of) (or_left (not (has_size tags p.of)) (has_open_parameter tags ps) h), all_sized tags ps (or_right (not (has_size tags p.of)) (has_open_parameter tags ps) h))

all_whole : (tags : List Tag) (ps : List NamedParameter) → has_open_parameter tags ps ≡ false → AreAdjusted ps → EachIs (λ t. is_whole tags t ≡ true) (types_of ps)
all_whole tags [] h a = tt
all_whole tags (p ∷ ps) h a =
    (whole_object tags p.of (not_false (has_size tags p.of) (or_left (not (has_size tags p.of)) (has_open_parameter tags ps) h)) a.0, all_whole tags ps (or_right (not (has_size tags p.of)) (has_open_parameter tags ps) h) a.1)

step_listed : (s : State) (o : Option Step) → has_more o ≡ false → AreParameters (step_parameters o) (parameter_types s o)
step_listed s (Some (ToFunction ps more scope)) e = (e, types_same ps)
step_listed s (Some (ToPointer q)) e = tt
step_listed s (Some (ToArray size)) e = tt
step_listed s (Some (ToNamed names)) e = tt
step_listed s (Some ToOpen) e = tt
step_listed s None e = tt

-- the parameters of a prototype
abbrev pub StepSized : List Tag → Option Step → Type 0
StepSized tags (Some (ToFunction ps more scope)) = AreSized tags (types_of ps)
StepSized tags step = Unit {0}

step_sized : (tags : List Tag) (o : Option Step) → takes_open tags o ≡ false → StepAdjusted o → StepSized tags o
step_sized tags (Some (ToFunction ps more scope)) h a = (all_sized tags ps h, all_whole tags ps h a)
step_sized tags (Some (ToPointer q)) h a = tt
step_sized tags (Some (ToArray size)) h a = tt
step_sized tags (Some (ToNamed names)) h a = tt
step_sized tags (Some ToOpen) h a = tt
step_sized tags None h a = tt

-- and those of an old-style definition
pub parameters_sized : (tags : List Tag) (s : State) (o : Option Step) → StepSized tags o → AreSized tags (listed_types s (names_of o)) → AreSized tags (parameter_types s o)
parameters_sized tags s (Some (ToFunction ps more scope)) h k = h
parameters_sized tags s (Some (ToPointer q)) h k = k
parameters_sized tags s (Some (ToArray size)) h k = k
parameters_sized tags s (Some (ToNamed names)) h k = k
parameters_sized tags s (Some ToOpen) h k = k
parameters_sized tags s None h k = k

-- ---- a definition

pub record IsSignature (tags : List Tag) (n : Definition) : Type 0 where
  pub type : is_function n.naming.of ≡ true
  pub result : is_result tags (result_type n.naming.of) ≡ true
  pub listed : (s : State) → AreParameters (parameters_type n.naming.of) (parameter_types s (own_step n.steps))
  pub sized : StepSized tags (own_step n.steps)

pub definition_unbroken : (s : State) (line : ℕ) (n : Definition) → definition_fault s line n ≡ None → (number : ℕ) → test_in definition_constraints number s n ≡ false
unfolding definition_fault
definition_unbroken s line n h number = unbroken_on definition_constraints s line n (definition_limit s n) h number

pub signature : (s : State) (line : ℕ) (n : Definition) → n.naming.of ≡ formed n.base n.steps → definition_fault s line n ≡ None → StepAdjusted (own_step n.steps) → IsSignature s.tags n
signature s line n e h a =
    let own = not_false (is_definition_step (own_step n.steps)) (definition_unbroken s line n h 18) in
    let whole = definition_unbroken s line n h 20 in
    let p = own_parameters n.steps n.base own in
    record {
      type = ap is_function e ∙ own_function n.steps n.base own;
      result =
          result_is s.tags (result_type n.naming.of) (or_right (takes_open s.tags (own_step n.steps)) (is_open_result s.tags (result_type n.naming.of)) whole)
          (subst (λ t. (is_function (result_type t) || is_array (result_type t)) ≡ false) (sym e) (own_result n.steps n.base own (definition_unbroken s line n h 15)));
      listed = λ t.
          subst (λ of. AreParameters (parameters_type of) (parameter_types t (own_step n.steps))) (sym e)
          (subst (λ ps. AreParameters ps (parameter_types t (own_step n.steps))) (sym p) (step_listed t (own_step n.steps) (definition_unbroken s line n h 21)));
      sized = step_sized s.tags (own_step n.steps) (or_left (takes_open s.tags (own_step n.steps)) (is_open_result s.tags (result_type n.naming.of)) whole) a;
    }

-- ---- more definitions

wholes_stay : (old new : List Tag) (ts : List CType) → Grows old new → EachIs (λ t. is_whole old t ≡ true) ts → EachIs (λ t. is_whole new t ≡ true) ts
wholes_stay old new [] g h = tt
wholes_stay old new (t ∷ ts) g h = (whole_stays old new g t h.0, wholes_stay old new ts g h.1)

pub sized_stay : (old new : List Tag) (ts : List CType) → Grows old new → AreSized old ts → AreSized new ts
sized_stay old new ts g h = (locals_stay old new ts g h.0, wholes_stay old new ts g h.1)

step_stays : (old new : List Tag) (o : Option Step) → Grows old new → StepSized old o → StepSized new o
step_stays old new (Some (ToFunction ps more scope)) g h = sized_stay old new (types_of ps) g h
step_stays old new (Some (ToPointer q)) g h = tt
step_stays old new (Some (ToArray size)) g h = tt
step_stays old new (Some (ToNamed names)) g h = tt
step_stays old new (Some ToOpen) g h = tt
step_stays old new None g h = tt

pub signature_stays : (old new : List Tag) (n : Definition) → Grows old new → IsSignature old n → IsSignature new n
signature_stays old new n g h =
    record {
      type = h.type;
      result = result_stays old new (result_type n.naming.of) g h.result;
      listed = h.listed;
      sized = step_stays old new (own_step n.steps) g h.sized;
    }
