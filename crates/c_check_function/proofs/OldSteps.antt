-- The constraints and limits of an old-style parameter's declarator, as the checks of its parts tell them.
use Rattle.std.proofs.Common.{◌≡◌, ℕ, Bool, true, false, List, [], ◌∷◌, ◌++◌, refl, sym, ap, ◌∙◌, subst}
use Rattle.std.specs.Prelude.{◌&&◌, ◌||◌, not, nat_lt, Option, Some, None, Result, Ok, Err, IfErr, IsErrAnd, is_none, unwrap_or, if◌then◌else◌}
use Rattle.lcc_base.specs.declared.which.Which.{Which}
use Rattle.lcc_base.specs.declared.which.Which.TheVariants as which
use Rattle.c_types.specs.CType.{CType, depth}
use Rattle.c_types.specs.Layout.{Tag, extent}
use Rattle.c_types.specs.Table.{is_above}
use Rattle.c_meaning.specs.Constraints.{extents, formings, passed_fault, some_deep, some_large, some_many, some_nested}
use Rattle.c_meaning.specs.Declarations.{or_zero}
use Rattle.c_meaning.specs.NodeConstraints.{first_of}
use Rattle.c_meaning.specs.State.{State}
use Rattle.c_meaning.specs.Nodes.{Step, ToArray, ToFunction, ToNamed, ToOpen, ToPointer}
use Rattle.c_meaning.specs.TypeConstraints.{is_bad_element, is_bad_result, is_bad_size, is_name_list, is_other_class, is_taken, some_step}
use Rattle.c_meaning.specs.TypeRows.{adjusted, formed, formed_by}
use Rattle.c_meaning.specs.Types.{has_size, is_void}
use Rattle.c_values.specs.declared.check_fault.CheckFault.{CheckFault}
use Rattle.c_values.specs.declared.check_fault.CheckFault.TheVariants.{Constraint, Limit, Memory}
use Rattle.c_values.specs.TooDeep.{IsTooDeep}
use Rattle.c_check_expr.specs.StepFaults.{IsFault, IsPassedDepth, is_deep_step, is_large_step, is_many_step}
use Rattle.c_check_expr.proofs.lemmas.StepLimits.{deep_steps, large_steps, many_steps}
use Rattle.c_units.specs.Definitions.{OldParameter, or_which, parameter_constraints}
use Rattle.c_check_function.specs.OldParameters.{old_broken, old_passed}
use Rattle.c_check_function.proofs.DefinitionFaults.{element_fits}
use Rattle.c_check_function.proofs.OwnSteps.{no_steps}

-- ---- what steps make is no void, and a parameter of it is complete

no_void : (base : CType) (p : Step) (ps : List Step) → is_void (formed base (p ∷ ps)) ≡ false
no_void base (ToPointer qualifiers) [] = refl
no_void base (ToArray size) [] = refl
no_void base (ToFunction parameters more scope) [] = refl
no_void base (ToNamed names) [] = refl
no_void base ToOpen [] = refl
no_void base p (q ∷ ps) = no_void (formed_by p base) q ps

pub void_formed : (base : CType) (ps : List Step) → is_void (formed base ps) ≡ (no_steps ps && is_void base)
void_formed base [] = refl
void_formed base (p ∷ ps) = no_void base p ps

complete : (tags : List Tag) (base : CType) (p : Step) (ps : List Step) → has_size tags (adjusted (formed base (p ∷ ps))) ≡ true
complete tags base (ToPointer qualifiers) [] = refl
complete tags base (ToArray size) [] = refl
complete tags base (ToFunction parameters more scope) [] = refl
complete tags base (ToNamed names) [] = refl
complete tags base ToOpen [] = refl
complete tags base p (q ∷ ps) = complete tags (formed_by p base) q ps

pub open_formed : (tags : List Tag) (base : CType) (ps : List Step) → not (has_size tags (adjusted (formed base ps))) ≡ (no_steps ps && not (has_size tags (adjusted base)))
open_formed tags base [] = refl
open_formed tags base (p ∷ ps) = ap not (complete tags base p ps)

small : (tags : List Tag) (base : CType) (p : Step) (ps : List Step) → is_above (extent tags (adjusted (formed base (p ∷ ps)))).size ≡ false
small tags base (ToPointer qualifiers) [] = refl
small tags base (ToArray size) [] = refl
small tags base (ToFunction parameters more scope) [] = refl
small tags base (ToNamed names) [] = refl
small tags base ToOpen [] = refl
small tags base p (q ∷ ps) = small tags (formed_by p base) q ps

-- ---- the first constraint that it breaks

abbrev told : Bool → Bool → Bool → Bool → Bool → Bool → Option ℕ
told size element result void unlisted lacking =
    if size then Some 13 else if element then Some 14 else if result then Some 15 else if void then Some 17 else if unlisted then Some 19 else if lacking then Some 20 else None

pub told_is : (tags : List Tag) (n : OldParameter) (a b c d e f : Bool) → a ≡ some_step is_bad_size n.base n.steps → b ≡ some_step (is_bad_element tags) n.base n.steps → c ≡ some_step is_bad_result n.base n.steps → d ≡ (no_steps n.steps && is_void n.base)
    → e ≡ (is_none n.place || (n.initialised || some_step is_name_list n.base n.steps)) → f ≡ (no_steps n.steps && not (has_size tags (adjusted n.base))) → told a b c d e f ≡ old_broken tags n
told_is tags n a b c d e f g h i j k l = rw (g, h, i, j, k, l, sym (void_formed n.base n.steps), sym (open_formed tags n.base n.steps)) refl

rest_fits : (a b : Bool) (r : Option ℕ) → (if a then Some 3 else if b then Some 5 else r) ≡ None → r ≡ None
rest_fits true b r h = absurd (cc)
rest_fits false true r h = absurd (cc)
rest_fits false false r h = h

pub elements_fit : (s : State) (n : OldParameter) → first_of parameter_constraints s n ≡ None → some_step (is_bad_element s.tags) n.base n.steps ≡ false
elements_fit s n h =
    element_fits (some_step is_bad_size n.base n.steps) (some_step (is_bad_element s.tags) n.base n.steps)
    (if some_step is_bad_result n.base n.steps then Some 15 else if is_void (formed n.base n.steps) then Some 17 else if is_none n.place || (n.initialised || some_step is_name_list n.base n.steps) then Some 19 else if not (has_size s.tags (adjusted (formed n.base n.steps))) then Some 20 else None)
    (rest_fits (is_other_class n.classes) (is_taken s (Some n.name)) (old_broken s.tags n) h)

pub rest_told : (s : State) (n : OldParameter) → is_other_class n.classes ≡ false → is_taken s (Some n.name) ≡ false → first_of parameter_constraints s n ≡ old_broken s.tags n
rest_told s n h k = ap (λ x. if x then Some 3 else if is_taken s (Some n.name) then Some 5 else old_broken s.tags n) h ∙ ap (λ x. if x then Some 5 else old_broken s.tags n) k

-- ---- limits

large_behind : (tags : List Tag) (ts : List CType) (t : CType) → some_large (extents tags (ts ++ t ∷ [])) ≡ (some_large (extents tags ts) || is_above (extent tags t).size)
large_behind tags [] t = by (is_above (extent tags t).size)
  where
    by : (b : Bool) → (b || false) ≡ b
    by true = refl
    by false = refl
large_behind tags (u ∷ ts) t = by (is_above (extent tags u).size) (large_behind tags ts t)
  where
    by : (b : Bool) → some_large (extents tags (ts ++ t ∷ [])) ≡ (some_large (extents tags ts) || is_above (extent tags t).size) → (b || some_large (extents tags (ts ++ t ∷ []))) ≡ ((b || some_large (extents tags ts)) || is_above (extent tags t).size)
    by true h = refl
    by false h = h

nested_behind : (tags : List Tag) (ts : List CType) (t : CType) → nat_lt 500 (extent tags t).nesting ≡ false → some_nested (extents tags (ts ++ t ∷ [])) ≡ some_nested (extents tags ts)
nested_behind tags [] t h = ap (λ b. b || false) h
nested_behind tags (u ∷ ts) t h = ap (λ b. nat_lt 500 (extent tags u).nesting || b) (nested_behind tags ts t h)

nested_more : (tags : List Tag) (ts : List CType) (t : CType) → some_nested (extents tags ts) ≡ true → some_nested (extents tags (ts ++ t ∷ [])) ≡ true
nested_more tags [] t h = absurd (cc)
nested_more tags (u ∷ ts) t h = by (nat_lt 500 (extent tags u).nesting) h (nested_more tags ts t)
  where
    by : (b : Bool) → (b || some_nested (extents tags ts)) ≡ true → (some_nested (extents tags ts) ≡ true → some_nested (extents tags (ts ++ t ∷ [])) ≡ true) → (b || some_nested (extents tags (ts ++ t ∷ []))) ≡ true
    by true e k = refl
    by false e k = k e

deep_behind : (ts : List CType) (t : CType) → some_deep (ts ++ t ∷ []) ≡ (some_deep ts || nat_lt 500 (depth t))
deep_behind [] t = by (nat_lt 500 (depth t))
  where
    by : (b : Bool) → (b || false) ≡ b
    by true = refl
    by false = refl
deep_behind (u ∷ ts) t = by (nat_lt 500 (depth u)) (deep_behind ts t)
  where
    by : (b : Bool) → some_deep (ts ++ t ∷ []) ≡ (some_deep ts || nat_lt 500 (depth t)) → (b || some_deep (ts ++ t ∷ [])) ≡ ((b || some_deep ts) || nat_lt 500 (depth t))
    by true h = refl
    by false h = h

abbrev passes : Bool → Bool → Bool → Option Which
passes large deep many = or_which (if large then Some which.Object else if deep then Some which.Depth else None) many

both_deep : (a b c : Bool) → (a || (b || c)) ≡ ((a || b) || c)
both_deep true b c = refl
both_deep false b c = refl

module _ (tags : List Tag) (base : CType) (ps : List Step) where
  abbrev whole : CType
  whole = adjusted (formed base ps)

  abbrev all : List CType
  all = formings base ps ++ whole ∷ []

  old_is : (l d m : Bool) → some_large (extents tags all) ≡ l → (some_nested (extents tags all) || some_deep all) ≡ d → some_many ps ≡ m → old_passed tags base ps ≡ passes l d m
  old_is l d m h k n = rw (h, k, n) refl

  -- one of the types that steps form is too large
  pub large_told : some_step (is_large_step tags) base ps ≡ true → old_passed tags base ps ≡ Some which.Object
  large_told h = old_is true (some_nested (extents tags all) || some_deep all) (some_many ps) (large_behind tags (formings base ps) whole ∙ ap (λ b. b || is_above (extent tags whole).size) (large_steps tags base ps ∙ h)) refl refl

  large_is : some_step (is_large_step tags) base ps ≡ false → is_above (extent tags whole).size ≡ false → some_large (extents tags all) ≡ false
  large_is h k = large_behind tags (formings base ps) whole ∙ ap (λ b. b || is_above (extent tags whole).size) (large_steps tags base ps ∙ h) ∙ k

  -- one of them is too deep
  some_more : (a b c d : Bool) → (a || b) ≡ true → (a ≡ true → c ≡ true) → (c || (b || d)) ≡ true
  some_more true b c d h k = ap (λ x. x || (b || d)) (k refl)
  some_more false true true d h k = refl
  some_more false true false d h k = refl
  some_more false false c d h k = absurd (cc)

  deep_told : some_step (is_large_step tags) base ps ≡ false → is_above (extent tags whole).size ≡ false → some_step (is_deep_step tags) base ps ≡ true → old_passed tags base ps ≡ Some which.Depth
  deep_told h k e =
      old_is false true (some_many ps) (large_is h k)
      (ap (λ b. some_nested (extents tags all) || b) (deep_behind (formings base ps) whole)
      ∙ some_more (some_nested (extents tags (formings base ps))) (some_deep (formings base ps)) (some_nested (extents tags all)) (nat_lt 500 (depth whole)) (deep_steps tags base ps ∙ e) (nested_more tags (formings base ps) whole)) refl

  -- the pointer in its stead is too deep, or else a function has too many parameters
  behind_told : (b : Bool) → some_step (is_large_step tags) base ps ≡ false → is_above (extent tags whole).size ≡ false → some_step (is_deep_step tags) base ps ≡ false → nat_lt 500 (extent tags whole).nesting ≡ false → nat_lt 500 (depth whole) ≡ b
      → old_passed tags base ps ≡ passes false b (some_step is_many_step base ps)
  behind_told b h k e f g =
      old_is false b (some_step is_many_step base ps) (large_is h k)
      (ap (λ x. x || some_deep all) (nested_behind tags (formings base ps) whole f) ∙ ap (λ x. some_nested (extents tags (formings base ps)) || x) (deep_behind (formings base ps) whole)
      ∙ both_deep (some_nested (extents tags (formings base ps))) (some_deep (formings base ps)) (nat_lt 500 (depth whole)) ∙ ap (λ x. x || nat_lt 500 (depth whole)) (deep_steps tags base ps ∙ e) ∙ g) (many_steps base ps)

  pub many_told : some_step (is_large_step tags) base ps ≡ false → is_above (extent tags whole).size ≡ false → some_step (is_deep_step tags) base ps ≡ false → nat_lt 500 (extent tags whole).nesting ≡ false → nat_lt 500 (depth whole) ≡ false → some_step is_many_step base ps ≡ true
      → old_passed tags base ps ≡ Some which.Parameters
  many_told h k e f g m = behind_told false h k e f g ∙ ap (passes false false) m

  pub none_told : some_step (is_large_step tags) base ps ≡ false → is_above (extent tags whole).size ≡ false → some_step (is_deep_step tags) base ps ≡ false → nat_lt 500 (extent tags whole).nesting ≡ false → nat_lt 500 (depth whole) ≡ false → some_step is_many_step base ps ≡ false
      → old_passed tags base ps ≡ None
  none_told h k e f g m = behind_told false h k e f g ∙ ap (passes false false) m

  -- the fault of the pointer
  pub adjusted_told : (e : CheckFault) (line : ℕ) → some_step (is_large_step tags) base ps ≡ false → is_above (extent tags whole).size ≡ false → some_step (is_deep_step tags) base ps ≡ false → nat_lt 500 (extent tags whole).nesting ≡ false → IsTooDeep e line whole
      → IsFault e (passed_fault line (old_passed tags base ps))
  adjusted_told (Constraint n l) line h k d f i = absurd i
  adjusted_told (Limit w l) line h k d f i = rw (i.0, i.1.0) (ap (passed_fault line) (behind_told true h k d f i.1.1))
  adjusted_told Memory line h k d f i = tt

-- the faults of what forms the types
deep_formed : (tags : List Tag) (base : CType) (ps : List Step) → some_step (is_large_step tags) base ps ≡ false → some_step (is_deep_step tags) base ps ≡ true → old_passed tags base ps ≡ Some which.Depth
deep_formed tags base [] h e = absurd (cc)
deep_formed tags base (p ∷ ps) h e = deep_told tags base (p ∷ ps) h (small tags base p ps) e

pub formed_told : (tags : List Tag) (base : CType) (ps : List Step) (e : CheckFault) (line : ℕ) → some_step (is_large_step tags) base ps ≡ false → IsPassedDepth e line (some_step (is_deep_step tags) base ps) → IsFault e (passed_fault line (old_passed tags base ps))
formed_told tags base ps (Constraint n l) line h i = absurd i
formed_told tags base ps (Limit w l) line h i = rw (i.0, i.1.0) (ap (passed_fault line) (deep_formed tags base ps h i.1.1))
formed_told tags base ps Memory line h i = tt

-- ---- tests that fail, and places

pub left_fails : (a b : Bool) → false ≡ a → false ≡ (a && b)
left_fails true b h = absurd (cc)
left_fails false b h = refl

pub right_fails : (a b : Bool) → false ≡ b → false ≡ (a && b)
right_fails true b h = h
right_fails false b h = refl

pub place_is : (o : Option ℕ) → unwrap_or o 0 ≡ or_zero o
place_is None = refl
place_is (Some n) = refl

-- ---- what a call tells is told

pub handed_on : {A : Type 0} (r : Result A CheckFault) (e : CheckFault) (P : CheckFault → Type 0) → IsErrAnd r (λ y. y ≡ e) → P e → IfErr r P
handed_on (Ok x) e P h p = absurd h
handed_on (Err y) e P h p = subst P (sym h) p

-- what is known of a type over a table that has grown
pub moved : {A : Type 0} (f : List Tag → CType → A) (x : A) (tags more : List Tag) (t u : CType) → more ≡ tags → u ≡ t → f more u ≡ x → f tags t ≡ x
moved f x tags more t u e h k = sym (ap (f tags) h) ∙ sym (ap (λ g. f g u) e) ∙ k
