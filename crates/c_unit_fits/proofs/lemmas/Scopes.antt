-- The scopes of prototypes' parameters have symbols, so that a function's body may stand in one.
use Rattle.std.proofs.Common.{Bool, List, [], false, length, refl, reverse, subst, sym, ℕ, ◌&&◌, ◌++◌, ◌+◌, ◌||◌, ◌∷◌, ◌≡◌, ◌≤◌}
use Rattle.std.proofs.lemmas.List.{reverse-append}
use Rattle.std.specs.Prelude.{Some}
use Rattle.std.specs.Prelude.{Option, Some}
use Rattle.c_ast.specs.declared.specifier.Qualifier.{Qualifier}
use Rattle.c_ast.specs.Trees.{DeclaratorTree, Declarator, CoreTree, Named, Inner, Omitted, SuffixTree, ArraySuffix, Prototype, NameList, NoParameters, SuffixTrees, NoSuffixes, Suffixes, ParameterTree, Parameter, ParameterTrees, NoParameter, Parameters}
use Rattle.c_symbols.specs.Extending.{below_more}
use Rattle.c_symbols.specs.Scoping.{AreBelow}
use Rattle.c_meaning.specs.Nodes.{NamedParameter, Step, ToPointer, ToArray, ToFunction, ToNamed, ToOpen}
use Rattle.c_meaning.specs.State.{State, entered, left}
use Rattle.c_meaning.specs.TypeRows.{adjusted, none_if_void, pointer_steps}
use Rattle.c_meaning.specs.Types.{is_array, is_function, is_void}
use Rattle.c_types.specs.CType.{CType, Plain, Array, Simple, Pointer, Function, Structure, Union, Enumeration}
use Rattle.c_fits.proofs.lemmas.Values.{chosen_by}
use Rattle.c_meaning.specs.Typing.{Declared, stands_alone}
use Rattle.c_meaning.specs.TypingRelation.{TypesCore, TypesDeclarator, TypesParameter, TypesParameters, TypesSuffix, TypesSuffixes}
use Rattle.c_units.specs.Definitions.{own_step}
use Rattle.c_units.specs.Functions.{reopened, scope_of}
use Rattle.c_fits.specs.Sound.{IsSound, Leads}
use Rattle.c_fits.proofs.lemmas.Following.{all_below_push, entered_sound, left_sound}
use Rattle.c_fits.proofs.lemmas.Walk.{core_goes, parameters_go, suffix_goes, suffixes_go}

-- parameters are neither functions nor arrays
abbrev pub AreAdjusted : List NamedParameter → Type 0
AreAdjusted [] = Unit {0}
AreAdjusted (p ∷ ps) = ((is_function p.of || is_array p.of) ≡ false) × AreAdjusted ps

abbrev pub IsScoped : ℕ → Step → Type 0
IsScoped n (ToFunction ps more scope) = AreBelow n scope × AreAdjusted ps
IsScoped n p = Unit {0}

abbrev pub AreScoped : ℕ → List Step → Type 0
AreScoped n [] = Unit {0}
AreScoped n (p ∷ ps) = IsScoped n p × AreScoped n ps

scoped_more : (n m : ℕ) (p : Step) → n ≤ m → IsScoped n p → IsScoped m p
scoped_more n m (ToFunction ps more scope) l h = (below_more n m l scope h.0, h.1)
scoped_more n m (ToPointer q) l h = tt
scoped_more n m (ToArray size) l h = tt
scoped_more n m (ToNamed names) l h = tt
scoped_more n m ToOpen l h = tt

all_scoped_more : (n m : ℕ) (ps : List Step) → n ≤ m → AreScoped n ps → AreScoped m ps
all_scoped_more n m [] l h = tt
all_scoped_more n m (p ∷ ps) l h = (scoped_more n m p l h.0, all_scoped_more n m ps l h.1)

scoped_join : (n : ℕ) (ps qs : List Step) → AreScoped n ps → AreScoped n qs → AreScoped n (ps ++ qs)
scoped_join n [] qs h k = k
scoped_join n (p ∷ ps) qs h k = (h.0, scoped_join n ps qs h.1 k)

scoped_reverse : (n : ℕ) (ps : List Step) → AreScoped n ps → AreScoped n (reverse ps)
scoped_reverse n [] h = tt
scoped_reverse n (p ∷ ps) h = subst (AreScoped n) (sym (reverse-append (p ∷ []) ps)) (scoped_join n (reverse ps) (p ∷ []) (scoped_reverse n ps h.1) (h.0, tt))

pointers_scoped : (n : ℕ) (qs : List (List Qualifier)) → AreScoped n (pointer_steps qs)
pointers_scoped n [] = tt
pointers_scoped n (q ∷ qs) = (tt, pointers_scoped n qs)

pub adjusted_object : (t : CType) → (is_function (adjusted t) || is_array (adjusted t)) ≡ false
adjusted_object (Array of n) = refl
adjusted_object (Plain q (Function r ps)) = refl
adjusted_object (Plain q (Simple b)) = refl
adjusted_object (Plain q (Pointer to)) = refl
adjusted_object (Plain q (Structure n)) = refl
adjusted_object (Plain q (Union n)) = refl
adjusted_object (Plain q (Enumeration n)) = refl

parameter_adjusted : (s : State) (alone : Bool) (index : ℕ) (p : ParameterTree) (u : State) (q : NamedParameter) → TypesParameter s alone index p u q → (is_function q.of || is_array q.of) ≡ false
parameter_adjusted s alone index (Parameter l specs d) u q h = subst (λ (q : NamedParameter). (is_function q.of || is_array q.of) ≡ false) h.3.3.1.1 (adjusted_object h.3.1.of)

parameters_adjusted : (s : State) (alone : Bool) (index : ℕ) (ps : ParameterTrees) (u : State) (qs : List NamedParameter) → TypesParameters s alone index ps u qs → AreAdjusted qs
parameters_adjusted s alone index NoParameter u qs h = subst AreAdjusted h.1 tt
parameters_adjusted s alone index (Parameters p ps) u qs h = subst AreAdjusted h.3.3.1 (parameter_adjusted s alone index p h.0 h.1 h.2, parameters_adjusted h.0 alone (index + 1) ps h.3.0 h.3.1 h.3.2)

none_adjusted : (alone : Bool) (ps : List NamedParameter) → AreAdjusted ps → AreAdjusted (none_if_void alone ps)
none_adjusted alone [] h = tt
none_adjusted alone (p ∷ ps) h = chosen_by AreAdjusted (alone && is_void p.of) [] (p ∷ ps) (λ e. tt) (λ e. h)

suffix_scoped : (s : State) (x : SuffixTree) (u : State) (p : Step) → TypesSuffix s x u p → IsSound s → IsScoped (length u.symbols) p
suffix_scoped s (ArraySuffix l size) u p h k = subst (IsScoped (length u.symbols)) h.3.1 tt
suffix_scoped s (NameList l names) u p h k = subst (IsScoped (length u.symbols)) h.1 tt
suffix_scoped s (NoParameters l) u p h k = subst (IsScoped (length u.symbols)) h.1 tt
suffix_scoped s (Prototype l ps more) u p h k =
    let f = parameters_go (entered s) (stands_alone ps more) 0 ps h.0 h.1 h.2 (entered_sound s k) in
    subst (IsScoped (length u.symbols)) h.3.1
    (subst (λ (u : State). AreBelow (length u.symbols) h.0.inner) h.3.0 f.sound.names, none_adjusted (stands_alone ps more) h.1 (parameters_adjusted (entered s) (stands_alone ps more) 0 ps h.0 h.1 h.2))

suffixes_scoped : (s : State) (xs : SuffixTrees) (u : State) (ps : List Step) → TypesSuffixes s xs u ps → IsSound s → AreScoped (length u.symbols) ps
suffixes_scoped s NoSuffixes u ps h k = subst (AreScoped (length u.symbols)) h.1 tt
suffixes_scoped s (Suffixes x xs) u ps h k =
    let f = suffix_goes s x h.0 h.1 h.2 k in
    let g = suffixes_go h.0 xs h.3.0 h.3.1 h.3.2 f.sound in
    subst (AreScoped (length u.symbols)) h.3.3.1
    (subst (λ (u : State). AreScoped (length u.symbols) (h.1 ∷ h.3.1)) h.3.3.0
    (scoped_more (length h.0.symbols) (length h.3.0.symbols) h.1 g.symbols (suffix_scoped s x h.0 h.1 h.2 k), suffixes_scoped h.0 xs h.3.0 h.3.1 h.3.2 f.sound))

mutual
  pub declarator_scoped : (s : State) (d : DeclaratorTree) (u : State) (p : Declared) → TypesDeclarator s d u p → IsSound s → AreScoped (length u.symbols) p.steps
  declarator_scoped s (Declarator l pointers core suffixes) u p h k =
      let f = core_goes s core h.0 h.1 h.2 k in
      let g = suffixes_go h.0 suffixes h.3.0 h.3.1 h.3.2 f.sound in
      let inner = all_scoped_more (length h.0.symbols) (length h.3.0.symbols) h.1.steps g.symbols (core_scoped s core h.0 h.1 h.2 k) in
      let outer = scoped_reverse (length h.3.0.symbols) h.3.1 (suffixes_scoped h.0 suffixes h.3.0 h.3.1 h.3.2 f.sound) in
      subst (λ (p : Declared). AreScoped (length u.symbols) p.steps) h.3.3.1
      (subst (λ (u : State). AreScoped (length u.symbols) (pointer_steps pointers ++ reverse h.3.1 ++ h.1.steps)) h.3.3.0
      (scoped_join (length h.3.0.symbols) (pointer_steps pointers ++ reverse h.3.1) h.1.steps (scoped_join (length h.3.0.symbols) (pointer_steps pointers) (reverse h.3.1) (pointers_scoped (length h.3.0.symbols) pointers) outer) inner))

  core_scoped : (s : State) (c : CoreTree) (u : State) (p : Declared) → TypesCore s c u p → IsSound s → AreScoped (length u.symbols) p.steps
  core_scoped s (Named x) u p h k = subst (λ (p : Declared). AreScoped (length u.symbols) p.steps) h.1 tt
  core_scoped s (Inner d) u p h k = declarator_scoped s d u p h k
  core_scoped s Omitted u p h k = subst (λ (p : Declared). AreScoped (length u.symbols) p.steps) h.1 tt

-- the scope of the step that is the function's own
step_scope : (n : ℕ) (p : Step) → IsScoped n p → AreBelow n (scope_of (Some p))
step_scope n (ToFunction ps more scope) h = h.0
step_scope n (ToPointer q) h = tt
step_scope n (ToArray size) h = tt
step_scope n (ToNamed names) h = tt
step_scope n ToOpen h = tt

pub own_scope : (n : ℕ) (ps : List Step) → AreScoped n ps → AreBelow n (scope_of (own_step ps))
own_scope n [] h = tt
own_scope n (p ∷ []) h = step_scope n p h.0
own_scope n (p ∷ q ∷ ps) h = own_scope n (q ∷ ps) h.1

-- and its parameters
abbrev pub StepAdjusted : Option Step → Type 0
StepAdjusted (Some (ToFunction ps more scope)) = AreAdjusted ps
StepAdjusted step = Unit {0}

step_adjusted : (n : ℕ) (p : Step) → IsScoped n p → StepAdjusted (Some p)
step_adjusted n (ToFunction ps more scope) h = h.1
step_adjusted n (ToPointer q) h = tt
step_adjusted n (ToArray size) h = tt
step_adjusted n (ToNamed names) h = tt
step_adjusted n ToOpen h = tt

pub own_adjusted : (n : ℕ) (ps : List Step) → AreScoped n ps → StepAdjusted (own_step ps)
own_adjusted n [] h = tt
own_adjusted n (p ∷ []) h = step_adjusted n p h.0
own_adjusted n (p ∷ q ∷ ps) h = own_adjusted n (q ∷ ps) h.1

-- in which a body stands
pub reopened_sound : (s : State) (scope : List (List ℕ × ℕ)) → IsSound s → AreBelow (length s.symbols) scope → IsSound (reopened s scope)
reopened_sound s scope h k =
    record {
      fields = h.fields;
      once = h.once;
      sizes = h.sizes;
      arrays = h.arrays;
      enumerators = h.enumerators;
      names = k;
      scopes = all_below_push (length s.symbols) s.outer s.inner h.scopes h.names;
      links = h.links;
      linked = h.linked;
      fresh = h.fresh;
    }

pub reopened_leads : (s t : State) (scope : List (List ℕ × ℕ)) → IsSound s → Leads (reopened s scope) t → Leads s (left s.outer s.inner t)
reopened_leads s t scope h f = record { sound = left_sound s t h f.sound f.symbols; count = f.count; symbols = f.symbols; tags = f.tags }
