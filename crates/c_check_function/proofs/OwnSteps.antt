-- The last step of a definition's declarator, which makes the function of what those before it make.
use Rattle.std.proofs.Common.{◌≡◌, ℕ, suc, Bool, true, false, List, [], ◌∷◌, ◌++◌, length, refl, sym, ap, ◌∙◌, subst, arith}
use Rattle.std.specs.Prelude.{◌&&◌, ◌||◌, not, Option, Some, None, ◌==◌, if◌then◌else◌}
use Rattle.std.proofs.lemmas.Bool.Decides.{nat_tests}
use Rattle.c_types.specs.CType.{CType}
use Rattle.c_types.specs.Layout.{Tag}
use Rattle.c_types.specs.Table.{Table}
use Rattle.c_meaning.specs.Nodes as node
use Rattle.c_meaning.specs.Nodes.{ToArray, ToFunction, ToNamed, ToOpen, ToPointer}
use Rattle.c_meaning.specs.Rows.{result_type}
use Rattle.c_meaning.specs.TypeConstraints.{is_bad_result, is_name_list, some_step}
use Rattle.c_meaning.specs.TypeRows.{formed, formed_by}
use Rattle.c_meaning.specs.Types.{is_array, is_function}
use Rattle.c_check_expr.specs.declared.parts.Step.{Step}
use Rattle.c_check_expr.specs.PartsSeen.{AreStepsIn, IsStepIn, step_seen, steps_seen}
use Rattle.c_units.specs.Definitions.{before_own, has_more, is_definition_step, is_open_result, own_step, takes_open}
use Rattle.c_check_function.specs.Headings.{own_broken}

-- ---- whether there are any

abbrev pub no_steps : List node.Step → Bool
no_steps [] = true
no_steps (p ∷ ps) = false

pub zero_fails : (n : ℕ) → (suc n == 0) ≡ false
zero_fails n = grind (arith, nat_tests)

pub emptied : (t : Table) (xs : List Step) (b : Bool) → b ≡ (length xs == 0) → b ≡ no_steps (steps_seen t xs)
emptied t [] b h = h
emptied t (x ∷ xs) b h = h ∙ zero_fails (length xs)

-- ---- steps and one more

own_last : (ps : List node.Step) (p : node.Step) → own_step (ps ++ p ∷ []) ≡ Some p
own_last [] p = refl
own_last (q ∷ []) p = refl
own_last (q ∷ r ∷ ps) p = own_last (r ∷ ps) p

before_last : (ps : List node.Step) (p : node.Step) → before_own (ps ++ p ∷ []) ≡ ps
before_last [] p = refl
before_last (q ∷ []) p = refl
before_last (q ∷ r ∷ ps) p = ap (λ (xs : List node.Step). q ∷ xs) (before_last (r ∷ ps) p)

formed_last : (u : CType) (ps : List node.Step) (p : node.Step) → formed u (ps ++ p ∷ []) ≡ formed_by p (formed u ps)
formed_last u [] p = refl
formed_last u (q ∷ ps) p = formed_last (formed_by q u) ps p

-- where no step is so, the last one is not
last_fails : (test : CType → node.Step → Bool) (u : CType) (ps : List node.Step) (p : node.Step) → some_step test u (ps ++ p ∷ []) ≡ false → test (formed u ps) p ≡ false
last_fails test u [] p h = by (test u p) h
  where
    by : (b : Bool) → (b || false) ≡ false → b ≡ false
    by true e = absurd (cc)
    by false e = refl
last_fails test u (q ∷ ps) p h = last_fails test (formed_by q u) ps p (by (test u q) h)
  where
    by : (b : Bool) → (b || some_step test (formed_by q u) (ps ++ p ∷ [])) ≡ false → some_step test (formed_by q u) (ps ++ p ∷ []) ≡ false
    by true e = absurd (cc)
    by false e = e

seen_last : (t : Table) (ps : List Step) (p : Step) → steps_seen t (ps ++ p ∷ []) ≡ steps_seen t ps ++ step_seen t p ∷ []
seen_last t [] p = refl
seen_last t (q ∷ ps) p = ap (λ (xs : List node.Step). step_seen t q ∷ xs) (seen_last t ps p)

pub seen_split : (t : Table) (xs ps : List Step) (p : Step) → xs ≡ ps ++ p ∷ [] → steps_seen t xs ≡ steps_seen t ps ++ step_seen t p ∷ []
seen_split t xs ps p e = ap (steps_seen t) e ∙ seen_last t ps p

pub own_seen : (t : Table) (xs ps : List Step) (p : Step) → xs ≡ ps ++ p ∷ [] → own_step (steps_seen t xs) ≡ Some (step_seen t p)
own_seen t xs ps p e = ap own_step (seen_split t xs ps p e) ∙ own_last (steps_seen t ps) (step_seen t p)

last_in : (n : ℕ) (ps : List Step) (p : Step) → AreStepsIn n (ps ++ p ∷ []) → IsStepIn n p × AreStepsIn n ps
last_in n [] p h = (h.0, tt)
last_in n (q ∷ ps) p h = let r = last_in n ps p h.1 in (r.0, (h.0, r.1))

pub split_in : (n : ℕ) (xs ps : List Step) (p : Step) → xs ≡ ps ++ p ∷ [] → AreStepsIn n xs → IsStepIn n p × AreStepsIn n ps
split_in n xs ps p e h = last_in n ps p (subst (AreStepsIn n) e h)

-- ---- the result of a function

result_formed : (p : node.Step) (u : CType) → is_definition_step (Some p) ≡ true → result_type (formed_by p u) ≡ u
result_formed (ToFunction ps more scope) u h = refl
result_formed (ToNamed names) u h = refl
result_formed ToOpen u h = refl
result_formed (ToPointer qualifiers) u h = absurd (cc)
result_formed (ToArray size) u h = absurd (cc)

right_fails : (b : Bool) → (true && b) ≡ false → b ≡ false
right_fails b h = h

result_fits : (p : node.Step) (u : CType) → is_definition_step (Some p) ≡ true → is_bad_result u p ≡ false → (is_function u || is_array u) ≡ false
result_fits (ToFunction ps more scope) u h e = e
result_fits (ToNamed names) u h e = e
result_fits ToOpen u h e = e
result_fits (ToPointer qualifiers) u h e = absurd (cc)
result_fits (ToArray size) u h e = absurd (cc)

-- what steps make is complete, unless it is a function or an array
closed : (tags : List Tag) (base : CType) (p : node.Step) (ps : List node.Step) → (is_function (formed base (p ∷ ps)) || is_array (formed base (p ∷ ps))) ≡ false → is_open_result tags (formed base (p ∷ ps)) ≡ false
closed tags base (ToPointer qualifiers) [] h = refl
closed tags base (ToArray size) [] h = absurd (cc)
closed tags base (ToFunction ps more scope) [] h = absurd (cc)
closed tags base (ToNamed names) [] h = absurd (cc)
closed tags base ToOpen [] h = absurd (cc)
closed tags base p (q ∷ ps) h = closed tags (formed_by p base) q ps h

open_where_first : (tags : List Tag) (base : CType) (ps : List node.Step) → (is_function (formed base ps) || is_array (formed base ps)) ≡ false → is_open_result tags (formed base ps) ≡ (no_steps ps && is_open_result tags base)
open_where_first tags base [] h = refl
open_where_first tags base (p ∷ ps) h = closed tags base p ps h

-- ---- the first constraint that it breaks

abbrev pub told : Bool → Bool → Bool → Bool → Option ℕ
told defines named lacking more = if not defines then Some 18 else if named then Some 19 else if lacking then Some 20 else if more then Some 21 else None

module _ (tags : List Tag) (base : CType) (ps : List node.Step) (p : node.Step) (bad : some_step is_bad_result base (ps ++ p ∷ []) ≡ false) where
  split_is : own_broken tags base (ps ++ p ∷ []) ≡ told (is_definition_step (Some p)) (some_step is_name_list base ps) (takes_open tags (Some p) || is_open_result tags (result_type (formed_by p (formed base ps)))) (has_more (Some p))
  split_is = rw (own_last ps p, before_last ps p, formed_last base ps p) refl

  open_is : is_definition_step (Some p) ≡ true → is_open_result tags (result_type (formed_by p (formed base ps))) ≡ (no_steps ps && is_open_result tags base)
  open_is h = ap (is_open_result tags) (result_formed p (formed base ps) h) ∙ open_where_first tags base ps (result_fits p (formed base ps) h (last_fails is_bad_result base ps p bad))

  pub told_is : (d n o m : Bool) → d ≡ is_definition_step (Some p) → n ≡ some_step is_name_list base ps → o ≡ (takes_open tags (Some p) || (no_steps ps && is_open_result tags base)) → m ≡ has_more (Some p)
      → told d n o m ≡ own_broken tags base (ps ++ p ∷ [])
  told_is true n o m e f g h =
      ap (λ x. told true x o m) f
      ∙ ap (λ x. told true (some_step is_name_list base ps) x m) (g ∙ ap (λ x. takes_open tags (Some p) || x) (sym (open_is (sym e))))
      ∙ ap (λ x. told true (some_step is_name_list base ps) (takes_open tags (Some p) || is_open_result tags (result_type (formed_by p (formed base ps)))) x) h
      ∙ ap (λ x. told x (some_step is_name_list base ps) (takes_open tags (Some p) || is_open_result tags (result_type (formed_by p (formed base ps)))) (has_more (Some p))) e
      ∙ sym split_is
  told_is false n o m e f g h =
      ap (λ x. told x (some_step is_name_list base ps) (takes_open tags (Some p) || is_open_result tags (result_type (formed_by p (formed base ps)))) (has_more (Some p))) e
      ∙ sym split_is

-- the same of a declarator's steps
module _ (t : Table) (base : CType) (xs before : List Step) (own : Step) (split : xs ≡ before ++ own ∷ []) (bad : some_step is_bad_result base (steps_seen t xs) ≡ false) where
  pub whole_told : (tags : List Tag) (d n o m : Bool) → d ≡ is_definition_step (Some (step_seen t own)) → n ≡ some_step is_name_list base (steps_seen t before) → o ≡ (takes_open tags (Some (step_seen t own)) || (no_steps (steps_seen t before) && is_open_result tags base))
      → m ≡ has_more (Some (step_seen t own)) → told d n o m ≡ own_broken tags base (steps_seen t xs)
  whole_told tags d n o m e f g h =
      told_is tags base (steps_seen t before) (step_seen t own) (subst (λ y. some_step is_bad_result base y ≡ false) (seen_split t xs before own split) bad) d n o m e f g h
      ∙ sym (ap (own_broken tags base) (seen_split t xs before own split))

-- ---- whether a type is open, test by test

pub first_open : (a b : Bool) → true ≡ a → true ≡ (a || b)
first_open true b h = refl
first_open false b h = absurd (cc)

pub then_open : (a e p q : Bool) → false ≡ a → true ≡ e → q ≡ p → q ≡ (a || (e && p))
then_open true e p q h k l = absurd (cc)
then_open false false p q h k l = absurd (cc)
then_open false true p q h k l = l

pub never_open : (a e p : Bool) → false ≡ a → false ≡ e → false ≡ (a || (e && p))
never_open true e p h k = absurd (cc)
never_open false true p h k = absurd (cc)
never_open false false p h k = refl

-- there is no last step
pub no_own : (t : Table) (xs : List Step) → xs ≡ [] → own_step (steps_seen t xs) ≡ None
no_own t xs e = ap (λ ys. own_step (steps_seen t ys)) e
