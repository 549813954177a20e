-- What the run of a body of forests comes to, given what a statement of C comes to.
-- Source: ISO/IEC 9899:1990, 5.1.2.3 (program execution), 6.6 (statements); X. Leroy, Formal verification of a realistic compiler,
-- Communications of the ACM 52(7), 2009, section 2 (simulations).
use Rattle.std.specs.Prelude.{◌≡◌, ℕ, suc, pos, Bool, true, Option, Some, None, List, Result, Ok, Err}
use Rattle.lcc_base.specs.declared.cause.Cause.{Cause}
use Rattle.objects.specs.declared.purpose.Purpose.TheVariants.{Initialisation}
use Rattle.objects.specs.declared.value.Value.{Value}
use Rattle.objects.specs.declared.value.Value.TheVariants.{Number}
use Rattle.objects.specs.Objects.{Object}
use Rattle.forests.specs.Accesses.{word_read}
use Rattle.forests.specs.Words.{Word, Plain}
use Rattle.forests.specs.Worlds.{World, Outcome}
use Rattle.c_types.specs.CType.{CType}
use Rattle.c_meaning.specs.Each.{EachIs}
use Rattle.c_runs.specs.Outcomes.{Undefined, OutOfTurns, Exit, Out, Next, Break, Continue, Return, Goto, Over}
use Rattle.c_runs.specs.Places.{assigned}
use Rattle.c_runs.specs.Worlds as c
use Rattle.c_match.specs.Held.{IsOpenTo}
use Rattle.c_match.specs.Ranges.{Map, Grown}
use Rattle.c_match.specs.Values.{IsValue}
use Rattle.c_match_worlds.specs.Matches.{Matches}
use Rattle.piece_runs.specs.Pieces.{Front}
use Rattle.piece_runs.specs.Reaches.{Stops, Finishes}
use Rattle.c_expr_agreement.specs.LoweredExpr.{Left}
use Rattle.c_expr_agreement.specs.Scenes.{Scene}
use Rattle.lowered_forms.specs.Lows.{Low}
use Rattle.c_straight_agree.specs.Agreement.{IsLeftBut}
use Rattle.c_straight_agree.specs.Layouts.{FrameLayout, address_of, IsWordPlace, IsLaidOut, IsOpenAt, HoldsWholes}
use Rattle.c_straight_agree.specs.Standing.{IsBody, IsSoundIn}
use Rattle.c_tests_agree.specs.Tested.{Passed}

-- ---- where it comes from, and where it may go

-- A function that runs: its unit and body, where its locals are, how many slots of the frame these have, and the place to which C copies its result, where this is a structure.
pub record Activation : Type 0 where
  pub scene : Scene
  pub layout : FrameLayout
  pub locals : ℕ
  pub result : Option Value

-- its body is one of split blocks, its locals are laid out, and the first parameter word is the hidden one where a structure is returned
pub record HasFrame (p : Activation) : Type 0 where
  pub body : IsBody p.scene p.locals
  pub laid : IsLaidOut p.scene p.layout
  pub result : (v : Value) → p.result ≡ Some v → IsWordPlace p.scene (pos 0)

-- the word at an address has the address of a place of C, which may be initialised
pub record HoldsPlace (p : Activation) (v : Value) (a : Word) (map : Map) (w : World) : Type 0 where
  pub word : Word
  pub is : IsValue map v word
  pub opens : IsOpenTo Initialisation map w.objects v
  pub holds : word_read p.scene.body.setting.environment.order w.objects a ≡ Some word

-- the hidden word has that of the object to which the result is copied
abbrev pub HoldsResult : Activation → Map → World → Type 0
HoldsResult p map w = (v : Value) (a : Word) → p.result ≡ Some v → address_of p.scene.body.setting.environment.home (pos 0) ≡ Some a → HoldsPlace p v a map w

-- Where the run is as a statement is entered: its start, with so many turns; the ranges of C's objects; and both worlds.
pub record Origin : Type 0 where
  pub start : ℕ → Outcome
  pub turns : ℕ
  pub map : Map
  pub old : c.World
  pub world : World

-- the same where there was one turn more: a step of the run that no turn of C's was spent for pays it
abbrev pub with_turn : Origin → Origin
with_turn o = record { start = o.start; turns = suc o.turns; map = o.map; old = o.old; world = o.world }

-- the places behind a statement to which it may go: those of `break` and `continue`, and those behind the labels of the program
pub record Ways : Type 0 where
  pub breaks : Low
  pub continues : Low
  pub labels : ℕ → Low

-- What the running call gives: the type; where a structure is copied; and whether it is 0 where no value is given.
pub record Ending : Type 0 where
  pub of : CType
  pub copy : Option Value
  pub gives_zero : Bool

-- those of the locals may, const or not: an initialiser stores into them
abbrev pub AreOpen : Activation → World → Type 0
AreOpen p w = EachIs (IsOpenAt w.objects) p.scene.frame.addresses

-- ---- the run goes on

-- It has come to a place, in worlds that match, where k turns are left: C's world is sound, and parameter words of structures have the
-- addresses of their bytes. Objects that had ranges have the same ones, and what held nothing of C is left, but for slots that the lowering takes.
pub record Came (p : Activation) (o : Origin) (a : Low) (old : c.World) (k : ℕ) : Type 0 where
  pub front : Front p.scene.body.pieces a.pieces a.entries
  pub passed : Passed p.scene o.start o.turns p.locals a front o.map o.old o.world old k
  pub sound : IsSoundIn p.scene old
  pub wholes : HoldsWholes p.scene p.layout passed.world
  pub result : HoldsResult p passed.later passed.world
  pub opens : AreOpen p passed.world

-- ---- it returns

-- with a word of which this holds
pub record Returned (p : Activation) (o : Origin) (is_given : Map → Option Word → Type 0) (old : c.World) (k : ℕ) : Type 0 where
  pub map : Map
  pub grown : Grown o.map map
  pub word : Option Word
  pub world : World
  pub finishes : Finishes o.start o.turns word world k
  pub matches : Matches p.scene.lowered p.scene.own map old world
  pub left : IsLeftBut p.scene p.locals o.map (c.objects o.old) o.world.objects world.objects
  pub given : is_given map word

abbrev pub IsWordOf : Value → Map → Option Word → Type 0
IsWordOf v map (Some u) = IsValue map v u
IsWordOf v map None = ⊥

abbrev pub IsNoValue : Bool → Map → Option Word → Type 0
IsNoValue gives_zero map word = gives_zero ≡ true → word ≡ Some (Plain (Number 0))

abbrev pub IsAnything : Map → Option Word → Type 0
IsAnything map word = Unit {0}

-- a structure is copied before the call's objects end, if it may be
abbrev pub ReturnedCopy : Activation → Origin → c.World → ℕ → Result (List Object) Cause → Type 0
ReturnedCopy p o old k (Ok os) = Returned p o IsAnything (c.with_objects old os) k
ReturnedCopy p o old k (Err cause) = Unit {0}

abbrev pub ReturnedValue : Activation → Ending → Option Value → Origin → Value → c.World → ℕ → Type 0
ReturnedValue p e None o v old k = Returned p o (IsWordOf v) old k
ReturnedValue p e (Some copy) o v old k = ReturnedCopy p o old k (assigned Initialisation p.scene.unit.tags e.of (c.objects old) v copy)

abbrev pub ReturnedWith : Activation → Ending → Origin → Option Value → c.World → ℕ → Type 0
ReturnedWith p e o None old k = Returned p o (IsNoValue e.gives_zero) old k
ReturnedWith p e o (Some v) old k = ReturnedValue p e e.copy o v old k

-- ---- by what a statement of C comes to, behind which this place is; nothing is asked where it is undefined

-- a `continue` and a goto take a step more than turns were spent, which pays for the turn that C spends where it goes on
abbrev pub CameFrom : Activation → Ways → Ending → Origin → Low → Out → Type 0
CameFrom p y e o b (Next k old) = Came p o b old k
CameFrom p y e o b (Break k old) = Came p o y.breaks old k
CameFrom p y e o b (Continue k old) = Came p (with_turn o) y.continues old k
CameFrom p y e o b (Return v line k old) = ReturnedWith p e o v old k
CameFrom p y e o b (Goto l k old) = Came p (with_turn o) (y.labels l) old k
CameFrom p y e o b (Over (Undefined cause line) old) = Unit {0}
CameFrom p y e o b (Over OutOfTurns old) = Stops o.start o.turns old.trace
CameFrom p y e o b (Over (Exit status) old) = Left p.scene o.start o.map status old
