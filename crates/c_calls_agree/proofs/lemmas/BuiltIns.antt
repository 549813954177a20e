-- Calls of the built-in functions.
use Rattle.std.specs.Prelude.{◌≡◌, ℕ, suc, ◌%◌, ◌&&◌, ◌||◌, Bool, true, false, Option, Some, None, List, [], ◌∷◌, map as mapped}
use Rattle.std.proofs.Common.{true≢false, refl, sym, ap, subst, ◌∙◌, arith}
use Rattle.std.proofs.lemmas.Nat.{mod_below}
use Rattle.objects.specs.declared.value.Value.{Value}
use Rattle.objects.specs.declared.value.Value.TheVariants.{Number, Pointer, Function}
use Rattle.op_forest.specs.Callees.{Callee}
use Rattle.lcc_base.specs.Traces.{Wrote}
use Rattle.forests.specs.Budgets.{with_left}
use Rattle.forests.specs.Functions as forest
use Rattle.forests.specs.Functions.{call_by}
use Rattle.forests.specs.Meaning.{call_of}
use Rattle.forests.specs.OneRoot.{runs}
use Rattle.forests.proofs.lemmas.OneRoot.{one_call}
use Rattle.forests.specs.Sound.{AreInput}
use Rattle.forests.specs.Words.{Word, Plain}
use Rattle.forests.specs.Worlds.{World, with_arguments, with_event, with_input}
use Rattle.c_types.specs.CType.{CType, Plain as PlainType, Array, Kind, Simple, Structure, Union, Enumeration, unqualified}
use Rattle.c_types.specs.CType as type
use Rattle.c_types.specs.Compatible.{kinds_compatible}
use Rattle.c_meaning.specs.declared.built_in.BuiltIn.{BuiltIn}
use Rattle.c_meaning.specs.declared.built_in.BuiltIn.TheVariants.{Putchar, Getchar, Exit}
use Rattle.c_meaning.specs.Types.{is_void, is_record, is_record_kind, is_void_kind}
use Rattle.c_runs.specs.Calls.{Argument, Call, int, arguments_fit, result_fits, built_in_at, built_in_fits, number_of, with_number, put_character, get_character, provided}
use Rattle.c_runs.specs.Outcomes as how
use Rattle.c_runs.specs.Outcomes.{Result, Ends}
use Rattle.c_match.specs.Ranges.{Map}
use Rattle.c_match.specs.Values.{IsValue}
use Rattle.c_match.proofs.lemmas.Growing.{grown_refl}
use Rattle.c_match_worlds.specs.Matches.{Matches}
use Rattle.c_match_worlds.proofs.lemmas.Keeping.{event_keeps, input_keeps}
use Rattle.c_agreement.specs.Called.{AreValues, behind_hidden, passed_values}
use Rattle.c_agreement.specs.Results.{IsGiven}
use Rattle.c_expr_agreement.specs.Scenes.{Scene}
use Rattle.c_calls_agree.specs.Given.{CallCame}
use Rattle.c_calls_agree.specs.Programs.{provided_as, IsProgram}
use Rattle.c_calls_agree.proofs.lemmas.Roots.{arguments_match}

-- ---- what fits

pub both_true : (a b : Bool) → (a && b) ≡ true → (a ≡ true) × (b ≡ true)
both_true true true e = (refl, refl)
both_true true false e = absurd (true≢false (sym e))
both_true false b e = absurd (true≢false (sym e))

one_argument : (t : CType) (xs : List Argument) → arguments_fit false (t ∷ []) xs ≡ true → (x : Argument) × (xs ≡ x ∷ [])
one_argument t [] e = absurd (true≢false (sym e))
one_argument t (x ∷ []) e = (x, refl)
one_argument t (x ∷ y ∷ xs) e = absurd (true≢false (sym (both_true _ _ e).1))

no_argument : (xs : List Argument) → arguments_fit false [] xs ≡ true → xs ≡ []
no_argument [] e = refl
no_argument (x ∷ xs) e = absurd (true≢false (sym e))

int_is_plain : (k : Kind) → kinds_compatible (Simple type.Int) k ≡ true → is_record_kind k ≡ false
int_is_plain (Simple b) e = refl
int_is_plain (type.Pointer to) e = refl
int_is_plain (type.Function r ps) e = refl
int_is_plain (Structure n) e = absurd (true≢false (sym e))
int_is_plain (Union n) e = absurd (true≢false (sym e))
int_is_plain (Enumeration n) e = refl

int_is_no_record : (of : CType) → result_fits int of ≡ true → is_record of ≡ false
int_is_no_record (PlainType q k) e = int_is_plain k (both_true _ _ e).1
int_is_no_record (Array of n) e = refl

void_kind : (k : Kind) → is_void_kind k ≡ true → is_record_kind k ≡ false
void_kind (Simple b) e = refl
void_kind (type.Pointer to) e = refl
void_kind (type.Function r ps) e = refl
void_kind (Structure n) e = absurd (true≢false (sym e))
void_kind (Union n) e = absurd (true≢false (sym e))
void_kind (Enumeration n) e = refl

void_is_no_record : (of : CType) → is_void of ≡ true → is_record of ≡ false
void_is_no_record (PlainType q k) e = void_kind k e
void_is_no_record (Array of n) e = refl

either_no_record : (of : CType) (b : Bool) → is_void of ≡ b → (b || result_fits int of) ≡ true → is_record of ≡ false
either_no_record of true v e = void_is_no_record of v
either_no_record of false v e = int_is_no_record of e

-- ---- what is passed

pub passed_plain : (a : Call) (map : Map) (ws : List Word) → a.result ≡ None → AreValues map (passed_values a) ws → AreValues map (mapped (λ (x : Argument). x.value) a.arguments) ws
passed_plain a map ws none h = subst (λ (o : Option Value). AreValues map (behind_hidden o (mapped (λ (x : Argument). x.value) a.arguments)) ws) none h

no_words : (map : Map) (ws : List Word) → AreValues map [] ws → ws ≡ []
no_words map [] h = refl
no_words map (w ∷ ws) h = absurd h

one_word : (map : Map) (v : Value) (ws : List Word) → AreValues map (v ∷ []) ws → (u : Word) × ((ws ≡ u ∷ []) × IsValue map v u)
one_word map v [] h = absurd h
one_word map v (u ∷ []) h = (u, (refl, h.0))
one_word map v (u ∷ w ∷ ws) h = absurd h.1

given_plain : (place : Option Value) (map : Map) (v : Value) (u : Word) → place ≡ None → IsValue map v u → IsGiven place map v u
given_plain place map v u none h = subst (λ (o : Option Value). IsGiven o map v u) (sym none) h

-- ---- the calls

module _ (s : Scene) (program : IsProgram s) (map : Map) (w : World) (a : Call) (matches : Matches s.lowered s.own map a.world w) (none : a.result ≡ None) (words : AreValues map (mapped (λ (x : Argument). x.value) a.arguments) w.arguments) (j : ℕ) where
  runs_provided : (b : BuiltIn) → built_in_at s.unit a.function ≡ Some b → call_of s.body.program a.function (with_left 0 w) ≡ forest.provided (provided_as b) (with_left 0 w)
  runs_provided b e =
      one_call s.body.program a.function (with_left 0 w)
      ∙ ap (λ (z : Callee). call_by s.body.program (λ t roots p. runs t roots roots p) (call_of s.body.program) a.function z (with_left 0 w)) (program.provides a.function b e)

  put_so : (v : Value) (u : Word) → w.arguments ≡ u ∷ [] → IsValue map v u → built_in_at s.unit a.function ≡ Some Putchar
      → CallCame s map a.world w (suc j) a.function a.result (number_of v a.line a.world (λ n. put_character n j a.world))
  put_so (Number n) u is value e = record {
    steps = 0;
    word = Plain (Number (n % 256));
    world = with_event (with_arguments w []) (Wrote (n % 256));
    runs = runs_provided Putchar e ∙ ap (λ (ws : List Word). forest.put_character ws (with_left 0 w)) (is ∙ ap (λ (z : Word). z ∷ []) value);
    paid = omega arith;
    fewer = omega arith;
    later = map;
    grown = grown_refl map;
    matches = event_keeps s.lowered s.own map a.world (with_arguments w []) (Wrote (n % 256)) (arguments_match s map a.world w [] tt matches);
    locals = refl;
    given = given_plain a.result map (Number (n % 256)) (Plain (Number (n % 256))) none refl;
    is_word = (let b = mod_below n 256 (omega arith) in omega (arith, b));
    left = λ place lt private. refl;
    private = λ p private. private;
    arguments = refl;
  }
  put_so (Pointer object offset) u is value e = tt
  put_so (Function f) u is value e = tt

  put_comes : (xs : List Argument) → a.arguments ≡ xs → arguments_fit false (int ∷ []) xs ≡ true → built_in_at s.unit a.function ≡ Some Putchar → CallCame s map a.world w (suc j) a.function a.result (provided Putchar a j)
  put_comes xs is fit e =
      let x = one_argument int xs fit in
      let one = is ∙ x.1 in
      let u = one_word map x.0.value w.arguments (subst (λ (ys : List Argument). AreValues map (mapped (λ (y : Argument). y.value) ys) w.arguments) one words) in
      subst (λ (ys : List Argument). CallCame s map a.world w (suc j) a.function a.result (with_number ys a.line a.world (λ n. put_character n j a.world))) (sym one)
      (put_so x.0.value u.0 u.1.0 u.1.1 e)

  exit_so : (v : Value) (u : Word) → w.arguments ≡ u ∷ [] → IsValue map v u → built_in_at s.unit a.function ≡ Some Exit
      → CallCame s map a.world w (suc j) a.function a.result (number_of v a.line a.world (λ n. Ends (how.Exit n) a.world))
  exit_so (Number n) u is value e = record {
    steps = 0;
    world = w;
    runs = runs_provided Exit e ∙ ap (λ (ws : List Word). forest.exit_with ws (with_left 0 w)) (is ∙ ap (λ (z : Word). z ∷ []) value);
    later = map;
    grown = grown_refl map;
    matches = matches;
  }
  exit_so (Pointer object offset) u is value e = tt
  exit_so (Function f) u is value e = tt

  exit_comes : (xs : List Argument) → a.arguments ≡ xs → arguments_fit false (int ∷ []) xs ≡ true → built_in_at s.unit a.function ≡ Some Exit → CallCame s map a.world w (suc j) a.function a.result (provided Exit a j)
  exit_comes xs is fit e =
      let x = one_argument int xs fit in
      let one = is ∙ x.1 in
      let u = one_word map x.0.value w.arguments (subst (λ (ys : List Argument). AreValues map (mapped (λ (y : Argument). y.value) ys) w.arguments) one words) in
      subst (λ (ys : List Argument). CallCame s map a.world w (suc j) a.function a.result (with_number ys a.line a.world (λ n. Ends (how.Exit n) a.world))) (sym one)
      (exit_so x.0.value u.0 u.1.0 u.1.1 e)

  -- the same input is read
  get_so : (input : List ℕ) → a.world.input ≡ input → w.arguments ≡ [] → AreInput input → built_in_at s.unit a.function ≡ Some Getchar → CallCame s map a.world w (suc j) a.function a.result (get_character input j a.world)
  get_so [] is nothing_passed bytes e = record {
    steps = 0;
    word = Plain (Number 4294967295);
    world = w;
    runs = runs_provided Getchar e ∙ ap (λ (ws : List Word). forest.get_character ws w.input (with_left 0 w)) nothing_passed ∙ ap (λ (bs : List ℕ). forest.get_character [] bs (with_left 0 w)) (matches.input ∙ is);
    paid = omega arith;
    fewer = omega arith;
    later = map;
    grown = grown_refl map;
    matches = matches;
    locals = refl;
    given = given_plain a.result map (Number 4294967295) (Plain (Number 4294967295)) none refl;
    is_word = omega arith;
    left = λ place lt private. refl;
    private = λ p private. private;
    arguments = nothing_passed;
  }
  get_so (byte ∷ rest) is nothing_passed bytes e = record {
    steps = 0;
    word = Plain (Number byte);
    world = with_input w rest;
    runs = runs_provided Getchar e ∙ ap (λ (ws : List Word). forest.get_character ws w.input (with_left 0 w)) nothing_passed ∙ ap (λ (bs : List ℕ). forest.get_character [] bs (with_left 0 w)) (matches.input ∙ is);
    paid = omega arith;
    fewer = omega arith;
    later = map;
    grown = grown_refl map;
    matches = input_keeps s.lowered s.own map a.world w rest matches bytes.1;
    locals = refl;
    given = given_plain a.result map (Number byte) (Plain (Number byte)) none refl;
    is_word = (let b = bytes.0 in omega (arith, b));
    left = λ place lt private. refl;
    private = λ p private. private;
    arguments = nothing_passed;
  }

  get_comes : arguments_fit false [] a.arguments ≡ true → built_in_at s.unit a.function ≡ Some Getchar → CallCame s map a.world w (suc j) a.function a.result (provided Getchar a j)
  get_comes fit e =
      get_so a.world.input refl (no_words map w.arguments (subst (λ (ys : List Argument). AreValues map (mapped (λ (y : Argument). y.value) ys) w.arguments) (no_argument a.arguments fit) words))
      (subst AreInput matches.input matches.sound.input) e

  pub provided_comes : (b : BuiltIn) → built_in_at s.unit a.function ≡ Some b → built_in_fits b a.of a.arguments ≡ true → CallCame s map a.world w (suc j) a.function a.result (provided b a j)
  provided_comes Putchar e fit = put_comes a.arguments refl (both_true _ _ fit).1 e
  provided_comes Getchar e fit = get_comes (both_true _ _ fit).1 e
  provided_comes Exit e fit = exit_comes a.arguments refl (both_true _ _ fit).1 e

-- what fits a built-in function is no structure
pub built_in_gives_no_record : (b : BuiltIn) (of : CType) (xs : List Argument) → built_in_fits b of xs ≡ true → is_record of ≡ false
built_in_gives_no_record Putchar of xs fit = int_is_no_record of (both_true _ _ fit).0
built_in_gives_no_record Getchar of xs fit = int_is_no_record of (both_true _ _ fit).0
built_in_gives_no_record Exit of xs fit = either_no_record of (is_void of) refl (both_true _ _ fit).0
