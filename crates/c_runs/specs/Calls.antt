-- Calls: what is called, whether it fits, what built-in functions do, and how a function is entered and left.
-- Source: ISO/IEC 9899:1990, 6.3.2.2, 6.6.6.4, 6.7.1, 7.9.7 (putchar, getchar) and 7.10.4 (exit).
use Rattle.std.specs.Prelude.{ℕ, ◌+◌, ◌-◌, ◌%◌, ◌==◌, ◌&&◌, ◌||◌, nat_lt, codes, Bool, true, false, Option, Some, None, List, [], ◌∷◌, ◌++◌, length, take, drop, replicate, slice_get, if◌then◌else◌}
use Rattle.std.specs.Str.{bytes_eq}
use Rattle.lcc_base.specs.declared.cause.Cause.TheVariants.{CallMismatch, PointerNumber}
use Rattle.lcc_base.specs.declared.order.Order.{Order}
use Rattle.objects.specs.declared.purpose.Purpose.TheVariants.{Initialisation}
use Rattle.objects.specs.declared.value.Value.{Value}
use Rattle.objects.specs.declared.value.Value.TheVariants.{Number, Pointer, Function}
use Rattle.objects.specs.Bytes.{unknown_byte}
use Rattle.objects.specs.Conversions.{converted}
use Rattle.objects.specs.Scalars.{scalar_bytes}
use Rattle.c_types.specs.CType.{CType, Int, Parameters, Open, Listed, basic, unqualified}
use Rattle.c_types.specs.Compatible.{compatible}
use Rattle.c_types.specs.Conversions.{promoted}
use Rattle.c_types.specs.Layout.{Tag}
use Rattle.c_meaning.specs.declared.built_in.BuiltIn.{BuiltIn}
use Rattle.c_meaning.specs.declared.built_in.BuiltIn.TheVariants.{Putchar, Getchar, Exit}
use Rattle.c_meaning.specs.Rows.{result_type, parameters_type}
use Rattle.c_meaning.specs.Scalars.{scalar_of}
use Rattle.c_meaning.specs.Types.{is_void, is_record}
use Rattle.c_meaning.specs.Units.{FunctionTree, ObjectTree, UnitTree}
use Rattle.lcc_base.specs.Traces.{Wrote, Opened, Closed}
use Rattle.c_runs.specs.Worlds.{World, objects, with_objects, with_input, with_event, with_local, with_passed, entered, left_behind}
use Rattle.c_runs.specs.Outcomes as how
use Rattle.c_runs.specs.Outcomes.{Result, Gives, GivesNone, Ends, Out, Next, Break, Continue, Return, Goto, Over, undefined, stray, stray_out, if_fine, if_done, either, spend}
use Rattle.c_types.specs.Constness.{is_const}
use Rattle.c_runs.specs.Places.{size_of, assigned}

-- an argument: its value, of a structure the pointer to its copy; its type; and its line
pub record Argument : Type 0 where
  pub value : Value
  pub of : CType
  pub line : ℕ

-- A call of a function by its number: the arguments, the result's type by the called type, the place of the copy of a
-- structure result, the call's line, and the world.
pub record Call : Type 0 where
  pub function : ℕ
  pub arguments : List Argument
  pub of : CType
  pub result : Option Value
  pub line : ℕ
  pub world : World

-- the unit, the order of bytes in memory, and what calls do
pub record Setting : Type 0 where
  pub unit : UnitTree
  pub order : Order
  pub calls : ℕ → Call → Result

-- ---- functions as values: names are numbered from the unit's functions on, then its objects, its texts, and the
-- built-in functions that it doesn't define

abbrev pub has_function : List FunctionTree → List ℕ → Bool
has_function [] name = false
has_function (f ∷ fs) name = bytes_eq f.name name || has_function fs name

abbrev pub has_object : List ObjectTree → List ℕ → Bool
has_object [] name = false
has_object (o ∷ os) name = bytes_eq o.name name || has_object os name

abbrev pub unless_defined : UnitTree → List ℕ → BuiltIn → List BuiltIn
unless_defined u name b = if has_function u.functions name || has_object u.objects name then [] else b ∷ []

abbrev pub built_ins : UnitTree → List BuiltIn
built_ins u = unless_defined u (codes "putchar") Putchar ++ (unless_defined u (codes "getchar") Getchar ++ unless_defined u (codes "exit") Exit)

abbrev pub first_built_in : UnitTree → ℕ
first_built_in u = length u.functions + (length u.objects + length u.texts)

abbrev pub built_in_place : BuiltIn → ℕ
built_in_place Putchar = 0
built_in_place Getchar = 1
built_in_place Exit = 2

abbrev pub place_among : BuiltIn → List BuiltIn → ℕ
place_among b [] = 0
place_among b (c ∷ cs) = if built_in_place b == built_in_place c then 0 else 1 + place_among b cs

-- the number of a built-in function, and what a number stands for
abbrev pub built_in_number : UnitTree → BuiltIn → ℕ
built_in_number u b = first_built_in u + place_among b (built_ins u)

abbrev pub function_at : UnitTree → ℕ → Option FunctionTree
function_at u n = slice_get u.functions n

abbrev pub built_in_at : UnitTree → ℕ → Option BuiltIn
built_in_at u n = if nat_lt n (first_built_in u) then None else slice_get (built_ins u) (n - first_built_in u)

-- ---- CallMismatch

-- its parameters are open: it has an old-style definition
abbrev pub is_open : Parameters → Bool
is_open Open = true
is_open (Listed all more) = false

-- the type that an argument for a parameter has, but for compatibility: after promotion where the definition is old-style
abbrev pub expected : Bool → CType → CType
expected old t = if old then unqualified (promoted t) else unqualified t

abbrev pub arguments_fit : Bool → List CType → List Argument → Bool
arguments_fit old [] [] = true
arguments_fit old [] (a ∷ as') = false
arguments_fit old (t ∷ ts) [] = false
arguments_fit old (t ∷ ts) (a ∷ as') = compatible (expected old t) (unqualified a.of) && arguments_fit old ts as'

abbrev pub own_parameters : FunctionTree → List CType
own_parameters f = take f.parameters f.locals

abbrev pub result_fits : CType → CType → Bool
result_fits own called = compatible (unqualified own) called

-- a function fits a call
abbrev pub fits : FunctionTree → Call → Bool
fits f a = result_fits (result_type f.of) a.of && arguments_fit (is_open (parameters_type f.of)) (own_parameters f) a.arguments

abbrev pub int : CType
int = basic Int

-- so does a built-in one; exit fits the results void and int
abbrev pub built_in_fits : BuiltIn → CType → List Argument → Bool
built_in_fits Putchar of xs = result_fits int of && arguments_fit false (int ∷ []) xs
built_in_fits Getchar of xs = result_fits int of && arguments_fit false [] xs
built_in_fits Exit of xs = (is_void of || result_fits int of) && arguments_fit false (int ∷ []) xs

-- ---- built-in functions

-- the number that one is called with; PointerNumber at the call's line
abbrev pub number_of : Value → ℕ → World → (ℕ → Result) → Result
number_of (Number n) line w go = go n
number_of (Pointer object offset) line w go = undefined PointerNumber line w
number_of (Function f) line w go = undefined PointerNumber line w

abbrev pub with_number : List Argument → ℕ → World → (ℕ → Result) → Result
with_number [] line w go = stray line w
with_number (a ∷ as') line w go = number_of a.value line w go

-- putchar writes the low byte and gives it
abbrev pub put_character : ℕ → ℕ → World → Result
put_character n k w = Gives (Number (n % 256)) k (with_event w (Wrote (n % 256)))

-- getchar gives the next byte of the input, or -1
abbrev pub get_character : List ℕ → ℕ → World → Result
get_character [] k w = Gives (Number 4294967295) k w
get_character (byte ∷ rest) k w = Gives (Number byte) k (with_input w rest)

-- exit ends the run with its argument
abbrev pub provided : BuiltIn → Call → ℕ → Result
provided Putchar a k = with_number a.arguments a.line a.world (λ n. put_character n k a.world)
provided Getchar a k = get_character a.world.input k a.world
provided Exit a k = with_number a.arguments a.line a.world (λ n. Ends (how.Exit n) a.world)

-- ---- a call

-- A call spends its turn when callee and arguments are evaluated and CallMismatch is refused.
abbrev pub called_by : Setting → Option FunctionTree → Option BuiltIn → Call → ℕ → World → Result
called_by s (Some f) b a k w = either (fits f a) (λ k1 w1. spend k1 w1 (λ k2. s.calls k2 a)) (λ k1 w1. undefined CallMismatch a.line w1) k w
called_by s None (Some b) a k w = either (built_in_fits b a.of a.arguments) (λ k1 w1. spend k1 w1 (λ k2. provided b a k2)) (λ k1 w1. undefined CallMismatch a.line w1) k w
called_by s None None a k w = undefined CallMismatch a.line w

-- the callee is no function
abbrev pub call_value : Setting → Value → (ℕ → Call) → ℕ → ℕ → World → Result
call_value s (Function f) call line k w = called_by s (function_at s.unit f) (built_in_at s.unit f) (call f) k w
call_value s (Number n) call line k w = undefined CallMismatch line w
call_value s (Pointer object offset) call line k w = undefined CallMismatch line w

-- ---- a function is entered

-- A parameter: the copy of a structure that was passed, or an object of the converted argument. It is narrowed only where
-- the definition is old-style, with the argument's line.
abbrev pub with_parameter : List Tag → Order → CType → Argument → ℕ → World → (ℕ → World → Out) → Out
with_parameter tags order t a k w go =
    either (is_record t)
    (λ k1 w1. go k1 (with_passed (is_const t) a.value w1))
    (λ k1 w1. if_done (converted (scalar_of t) a.value) a.line w1 (λ v. go k1 (with_local (is_const t) (scalar_bytes order (scalar_of t).width v) w1)))
    k w

abbrev pub with_parameters : List Tag → Order → List CType → List Argument → ℕ → World → (ℕ → World → Out) → Out
with_parameters tags order [] as' k w go = go k w
with_parameters tags order (t ∷ ts) [] k w go = stray_out w
with_parameters tags order (t ∷ ts) (a ∷ as') k w go = with_parameter tags order t a k w (λ k1 w1. with_parameters tags order ts as' k1 w1 go)

-- the other objects begin with unknown bits
abbrev pub with_locals : List Tag → List CType → World → World
with_locals tags [] w = w
with_locals tags (t ∷ ts) w = with_locals tags ts (with_local (is_const t) (replicate (size_of tags t) unknown_byte) w)

-- Its objects live from its entry to its return: the parameters, and then the other locals, the copies of structures that its
-- calls pass and give among them.
abbrev pub opened : UnitTree → Order → FunctionTree → ℕ → List Argument → ℕ → World → (ℕ → World → Out) → Out
opened u order f number as' k w go =
    with_parameters u.tags order (own_parameters f) as' k (entered (Opened number) w)
    (λ k1 w1. go k1 (with_locals u.tags (drop f.parameters f.locals) w1))

-- ---- and left

-- A structure is copied to the caller's object before the locals end, a cause has the returned expression's line.
abbrev pub handed : List Tag → CType → Option Value → Value → ℕ → ℕ → World → World → Result
handed tags of None v line k before w = Gives v k (left_behind Closed before w)
handed tags of (Some copy) v line k before w =
    if_fine (assigned Initialisation tags of (objects w) v copy) line w (λ os. Gives copy k (left_behind Closed before (with_objects w os)))

-- what a call gives, by what the body of its function comes to
abbrev pub returned : List Tag → Call → Out → Result
returned tags a (Next k w) = GivesNone a.line k (left_behind Closed a.world w)
returned tags a (Return None line k w) = GivesNone a.line k (left_behind Closed a.world w)
returned tags a (Return (Some v) line k w) = handed tags a.of a.result v line k a.world w
returned tags a (Break k w) = stray a.line w
returned tags a (Continue k w) = stray a.line w
returned tags a (Goto l k w) = stray a.line w
returned tags a (Over h w) = Ends h w
