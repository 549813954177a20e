-- A call of putchar returns, and shows the character; it gives no other one. And which locals hold copies of structures.
use Rattle.std.specs.Prelude.{ℕ, pos, negsuc, Some, None, [], ◌∷◌}
use Rattle.std.proofs.Common.{refl, ap, arith}
use Rattle.lcc_base.specs.Traces.{Wrote}
use Rattle.lcc_base.specs.declared.order.Order.TheVariants.{Little}
use Rattle.objects.specs.declared.value.Value.{Value}
use Rattle.objects.specs.declared.value.Value.TheVariants.{Number, Pointer}
use Rattle.op_forest.specs.Callees.{Provided, Putchar}
use Rattle.op_forest.specs.Lowered.{LoweredUnit}
use Rattle.forests.specs.Bodies.{Setting}
use Rattle.forests.specs.Functions.{Program}
use Rattle.forests.specs.Meaning.{call_of}
use Rattle.forests.specs.Words.{Plain}
use Rattle.forests.specs.Worlds.{World}
use Rattle.c_meaning.specs.declared.core_expr.CoreKind.TheVariants as kind
use Rattle.c_meaning.specs.Copies.{own_copies}
use Rattle.c_meaning.specs.CoreTrees.{NoCore, Cores}
use Rattle.c_meaning.specs.Units.{UnitTree}
use Rattle.c_meaning.specs.Values.{CoreTrees}
use Rattle.c_runs.specs.Outcomes.{Gives}
use Rattle.c_runs.specs.Samples.{int, pair, number, local}
use Rattle.c_runs.specs.Worlds as c
use Rattle.c_match.specs.Ranges.{Map}
use Rattle.piece_runs.specs.Pieces.{OfBlock}
use Rattle.piece_runs.specs.Reaches.{BodyRun}
use Rattle.c_expr_agreement.specs.Scenes.{Scene}
use Rattle.c_straight_agree.specs.Layouts.{FrameLayout}
use Rattle.c_calls_agree.specs.Given.{CallReturned, CallCame}
use Rattle.c_calls_agree.specs.Laws.{HasCopies}
use Rattle.c_calls_agree.proofs.lemmas.Making.{GivesOnly}

-- ---- a program whose name 0 is putchar

abbrev source : UnitTree
source = record { functions = []; objects = []; texts = []; tags = []; main = 0 }

abbrev target : LoweredUnit
target = record { functions = []; objects = []; names = []; order = Little }

abbrev program : Program
program = record { callee = λ name. Provided Putchar; global = λ name. None; order = Little }

abbrev setting : Setting
setting = record { call = call_of program; environment = record { global = program.global; order = Little; home = record { function = 0; place = 0; made = 0; slots = []; words = 0 } } }

abbrev body : BodyRun
body = record { program = program; setting = setting; pieces = OfBlock [] [] ∷ [] }

abbrev scene : Scene
scene = record { unit = source; own = 0; lowered = target; body = body; frame = record { types = []; addresses = []; others = [] } }

abbrev no_ranges : Map
no_ranges m = None

abbrev before : c.World
before = record { storage = record { objects = []; made = 0 }; locals = []; input = []; trace = [] }

abbrev behind : c.World
behind = record { storage = record { objects = []; made = 0 }; locals = []; input = []; trace = Wrote 65 ∷ [] }

-- the letter A waits
abbrev first : World
first = record { objects = []; made = 0; arguments = Plain (Number 65) ∷ []; input = []; trace = [] }

-- of two turns one is left
letter_is_put : CallReturned scene no_ranges before first 2 0 None (Some (Number 65)) 1 behind
letter_is_put = record {
  steps = 0;
  word = Plain (Number 65);
  world = record { objects = []; made = 0; arguments = []; input = []; trace = Wrote 65 ∷ [] };
  runs = refl;
  paid = omega arith;
  fewer = omega arith;
  later = no_ranges;
  grown = λ m r e. e;
  matches = record {
    held = record { held = λ p x e. absurd (let never : ⊥ = cc in never); apart = λ p q x y r s e f n g h. absurd (let never : ⊥ = cc in never) };
    made = λ m r e. absurd (let never : ⊥ = cc in never);
    whole = λ p lt. absurd (omega (arith, lt));
    constants = λ t o lt e locked. absurd (let never : ⊥ = cc in never);
    tables = λ t o le e. absurd (let never : ⊥ = cc in never);
    input = refl;
    trace = refl;
    sound = record { objects = tt; arguments = tt; input = tt };
  };
  locals = refl;
  given = refl;
  is_word = omega arith;
  left = λ place lt private. refl;
  private = λ p private. private;
  arguments = refl;
}

-- a turn that was spent is paid: no more are left than there were
never_more : CallReturned scene no_ranges before first 0 0 None (Some (Number 65)) 1 behind → ⊥
never_more r = let l = r.fewer in omega (arith, l)

-- it isn't over where C's turns are spent, unless none was left
came_so : CallCame scene no_ranges before first 2 0 None (Gives (Number 65) 1 behind)
came_so = letter_is_put

-- ---- copies of structures: `g(s)` in `int f(int n, struct s s)`, where g takes and gives a `struct s`, and its copies are the locals behind these parameters

abbrev layout : FrameLayout
layout = record { types = int ∷ pair ∷ pair ∷ pair ∷ []; parameters = 2; places = pos 0 ∷ pos 4 ∷ negsuc 7 ∷ negsuc 15 ∷ [] }

-- the callee stands for g
abbrev operands : CoreTrees
operands = Cores (number 1 0) (Cores (local 1 pair 1) NoCore)

copies_are_locals : HasCopies layout (own_copies (kind.Call 2) pair operands)
copies_are_locals = ((refl, omega arith), ((refl, omega arith), tt))

-- no parameter is one, though its type is the same
never_a_parameter : HasCopies layout (own_copies (kind.Call 1) pair operands) → ⊥
never_a_parameter h = let le = h.0.1 in omega (arith, le)

-- nor is there one behind the last local
never_behind : HasCopies layout (own_copies (kind.Call 3) pair operands) → ⊥
never_behind h = let e = h.1.0.0 in let never : ⊥ = cc in never

-- ---- a call that gives a structure gives the place of its object alone

abbrev place_at : ℕ → Value
place_at n = Pointer (record { place = n; made = n; size = 8 }) 0

abbrev number_of : Value → ℕ
number_of (Pointer name offset) = name.place
number_of v = 0

place_is_given : GivesOnly (place_at 1) (Gives (place_at 1) 0 before)
place_is_given = refl

never_another : GivesOnly (place_at 1) (Gives (place_at 2) 0 before) → ⊥
never_another e = let same = ap number_of e in omega (arith, same)
