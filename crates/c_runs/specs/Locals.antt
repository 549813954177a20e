-- The objects of a call's locals: its parameters, the objects of its blocks, and the copies of structures that its calls pass and
-- give. Each lives, with the size of its type, from where the call's body starts until it ends.
-- Source: C89 3.1.2.4, 3.3.2.2, 3.7.1.
use Rattle.std.specs.Prelude.{◌≡◌, ◌⊎◌, ℕ, Bool, true, Some, List, [], ◌∷◌, ◌++◌, slice_get}
use Rattle.lcc_base.specs.declared.order.Order.{Order}
use Rattle.objects.specs.declared.value.Value.{Value}
use Rattle.c_types.specs.CType.{CType}
use Rattle.c_types.specs.Layout.{Tag}
use Rattle.c_meaning.specs.Copies.{locals_from, all_copied, copied}
use Rattle.c_meaning.specs.Each.{EachIs}
use Rattle.c_meaning.specs.Fits.{is_whole}
use Rattle.c_meaning.specs.Laws.{IsLocalOf}
use Rattle.c_meaning.specs.Types.{is_record}
use Rattle.c_meaning.specs.Units.{FunctionTree, UnitTree, IsFunction, IsUnit}
use Rattle.c_meaning.specs.Values.{CoreTrees}
use Rattle.c_runs.specs.Worlds.{World}
use Rattle.c_runs.specs.Outcomes.{How, Result, Ends, Out, Next, Break, Continue, Return, Goto, Over, then_next}
use Rattle.c_runs.specs.Places.{size_of}
use Rattle.c_runs.specs.Calls.{Argument, Call, Setting, own_parameters, arguments_fit, fits, opened}
use Rattle.c_runs.specs.Expressions.{parts_of, arguments, result_place}
use Rattle.c_runs.specs.Statements.{Start, exec}
use Rattle.c_runs.specs.Run.{body_run, context}
use Rattle.c_runs.specs.Soundness.{Outline, outlines, IsSoundValue, IsSound, Keeps, IsObjectOf, AreLocalsOf, AreTame, IsTameUnit}

-- ---- where a body starts

-- a call up to the start of its body: the world there, or why there is none
abbrev pub body_start : UnitTree → Order → FunctionTree → ℕ → List Argument → ℕ → World → Out
body_start u order f number xs k w = opened u order f number xs k w (λ k1 w1. Next k1 w1)

-- what holds of the world that is left, unless the run is over
abbrev pub IfOpen : Out → (World → Type 0) → Type 0
IfOpen (Next k w) P = P w
IfOpen (Break k w) P = P w
IfOpen (Continue k w) P = P w
IfOpen (Return v line k w) P = P w
IfOpen (Goto l k w) P = P w
IfOpen (Over how w) P = Unit {0}

-- ---- what is passed

-- a value of structure type is the pointer to a whole object of it
abbrev pub IsPassed : List Tag → List Outline → CType → Value → Type 0
IsPassed tags lives t v = is_record t ≡ true → IsObjectOf lives (size_of tags t) v

-- arguments for parameters of these types, as far as both go
abbrev pub ArePassed : List Tag → List Outline → List CType → List Argument → Type 0
ArePassed tags lives [] as' = Unit {0}
ArePassed tags lives (t ∷ ts) [] = Unit {0}
ArePassed tags lives (t ∷ ts) (a ∷ as') = IsPassed tags lives t a.value × ArePassed tags lives ts as'

-- arguments by their own types
abbrev pub AreCopies : List Tag → List Outline → List Argument → Type 0
AreCopies tags lives as' = EachIs (λ (a : Argument). IsPassed tags lives a.of a.value) as'

-- A call is made in a sound world with sound arguments, those of structure type copies; and for a structure result there is an
-- object.
pub record IsPassedCall (u : UnitTree) (a : Call) : Type 0 where
  pub world : IsSound u a.world
  pub values : EachIs (λ (x : Argument). IsSoundValue a.world.storage.made x.value) a.arguments
  pub copies : AreCopies u.tags (outlines a.world.storage.objects) a.arguments
  pub result : is_record a.of ≡ true → (v : Value) × (a.result ≡ Some v) × IsObjectOf (outlines a.world.storage.objects) (size_of u.tags a.of) v

-- the call of a function that is made with these arguments, and the local behind their copies for a structure result
abbrev pub made_call : CType → ℕ → ℕ → List Argument → World → ℕ → Call
made_call of line n xs w f = record { function = f; arguments = xs; of = of; result = result_place of w.locals n; line = line; world = w }

-- What arguments come to, whatever is done with them: the run ends before they are there; or they are handed on, and P holds.
abbrev pub Hands : ((ℕ → List Argument → ℕ → World → Result) → Result) → (ℕ → List Argument → World → Type 0) → Type 0
Hands act P =
    ((how : How) × (w : World) × ((go : ℕ → List Argument → ℕ → World → Result) → act go ≡ Ends how w))
    ⊎ ((n : ℕ) × (xs : List Argument) × (k : ℕ) × (w : World) × ((go : ℕ → List Argument → ℕ → World → Result) → act go ≡ go n xs k w) × P n xs w)

-- ---- the laws

-- a body is run in that world
abbrev pub BodiesStart : Type 0
BodiesStart =
    (s : Setting) (f : FunctionTree) (number : ℕ) (xs : List Argument) (k : ℕ) (w : World)
    → body_run s f number xs k w ≡ then_next (body_start s.unit s.order f number xs k w) (λ k1 w1. exec s f.body Start k1 w1)

-- There its locals are objects of the sizes of their types. Parameters are scalars or whole structures, as they are in each function
-- of a checked unit (`IsFunction`), and a structure is passed as a copy.
abbrev pub EntriesMakeLocals : Type 0
EntriesMakeLocals =
    (u : UnitTree) (order : Order) (f : FunctionTree) (number : ℕ) (xs : List Argument) (k : ℕ) (w : World)
    → EachIs (λ t. is_whole u.tags t ≡ true) (own_parameters f) → ArePassed u.tags (outlines w.storage.objects) (own_parameters f) xs
    → IfOpen (body_start u order f number xs k w) (AreLocalsOf u.tags f.locals)

-- and the world is sound
abbrev pub EntriesStaySound : Type 0
EntriesStaySound =
    (u : UnitTree) (order : Order) (f : FunctionTree) (number : ℕ) (xs : List Argument) (k : ℕ) (w : World)
    → IsSound u w → EachIs (λ (a : Argument). IsSoundValue w.storage.made a.value) xs → IfOpen (body_start u order f number xs k w) (IsSound u)

-- copies of the arguments' types are copies of the parameters', where a call fits
abbrev pub FittingIsPassed : Type 0
FittingIsPassed =
    (tags : List Tag) (lives : List Outline) (old : Bool) (ts : List CType) (xs : List Argument)
    → arguments_fit old ts xs ≡ true → AreCopies tags lives xs → ArePassed tags lives ts xs

-- So it is in a checked unit, where a call is made only if it fits.
abbrev pub CheckedCallsHaveLocals : Type 0
CheckedCallsHaveLocals =
    (u : UnitTree) (order : Order) (f : FunctionTree) (a : Call) (k : ℕ) → IsFunction u f → fits f a ≡ true → IsPassedCall u a
    → IfOpen (body_start u order f a.function a.arguments k a.world) (λ w. IsSound u w × AreLocalsOf u.tags f.locals w)

-- and it is still so where the body returns
abbrev pub BodiesKeepLocals : Type 0
BodiesKeepLocals =
    (u : UnitTree) (order : Order) (f : FunctionTree) (a : Call) (k : ℕ) → IsUnit u → slice_get u.functions a.function ≡ Some f → fits f a ≡ true → IsPassedCall u a
    → IfOpen (body_run (context u order) f a.function a.arguments k a.world) (λ w. IsSound u w × AreLocalsOf u.tags f.locals w)

-- Such are the calls in a body, of whatever function: each passes copies, for which there are locals, as in each function of a
-- checked unit (`CopiesAreLocals`).
abbrev pub CallsPassCopies : Type 0
CallsPassCopies =
    (u : UnitTree) (order : Order) (locals : List CType) (copies : ℕ) (of : CType) (line : ℕ) (cs : CoreTrees) (k : ℕ) (old : World)
    → IsTameUnit u → AreTame cs → EachIs (IsLocalOf locals) (locals_from copies (all_copied cs ++ copied of))
    → IsSound u old → AreLocalsOf u.tags locals old
    → Hands (λ go. arguments (context u order) copies (parts_of (context u order) cs) [] k old go)
    (λ n xs w. ((f : ℕ) → IsPassedCall u (made_call of line n xs w f)) × Keeps old w)

-- what expressions and statements keep, so until the call ends
abbrev pub LocalsAreKept : Type 0
LocalsAreKept = (tags : List Tag) (ts : List CType) (old w : World) → Keeps old w → AreLocalsOf tags ts old → AreLocalsOf tags ts w

-- and so are the copies
abbrev pub CopiesAreKept : Type 0
CopiesAreKept = (tags : List Tag) (xs : List Argument) (old w : World) → Keeps old w → AreCopies tags (outlines old.storage.objects) xs → AreCopies tags (outlines w.storage.objects) xs

-- one of the locals
abbrev pub LocalIsObject : Type 0
LocalIsObject =
    (tags : List Tag) (ts : List CType) (w : World) (n : ℕ) (t : CType) → AreLocalsOf tags ts w → slice_get ts n ≡ Some t
    → (v : Value) × (slice_get w.locals n ≡ Some v) × IsObjectOf (outlines w.storage.objects) (size_of tags t) v
