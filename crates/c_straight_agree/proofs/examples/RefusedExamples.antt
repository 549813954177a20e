-- What isn't lowered so: a constant of which another operand comes. And what isn't settled.
use Rattle.std.specs.Prelude.{◌≡◌, ℕ, negsuc, true, Some, None, [], ◌∷◌}
use Rattle.std.proofs.Common.{refl, ◌∙◌, arith}
use Rattle.lcc_base.specs.declared.order.Order.TheVariants.{Little}
use Rattle.objects.specs.declared.value.Value.TheVariants.{Number, Pointer}
use Rattle.op_forest.specs.declared.op.Op.TheVariants as op
use Rattle.op_forest.specs.declared.suffix.Suffix.TheVariants.{I}
use Rattle.op_forest.specs.Callees.{Missing}
use Rattle.op_forest.specs.Lowered.{LoweredUnit}
use Rattle.forests.specs.Actions.{Gave}
use Rattle.forests.specs.Bodies.{Setting}
use Rattle.forests.specs.Functions.{Program}
use Rattle.forests.specs.Meaning.{call_of}
use Rattle.forests.specs.Words.{Word, Plain, unknown}
use Rattle.forests.specs.Worlds.{World, Outcome}
use Rattle.dag_forest.specs.declared.kind.Kind.TheVariants.{Signed}
use Rattle.dag_forest.specs.Meaning.{Keeps}
use Rattle.dag_forest.specs.Slots.{slot_temporary}
use Rattle.c_meaning.specs.Units.{UnitTree}
use Rattle.c_runs.specs.Samples.{number}
use Rattle.c_runs.specs.Worlds as c
use Rattle.c_match.specs.Ranges.{Map}
use Rattle.c_rows_agree.specs.Integers as integer
use Rattle.c_rows_agree.specs.Templates.{Given}
use Rattle.c_rows_agree.specs.Typed.{over}
use Rattle.dag_seam.proofs.lemmas.Opening.{none_open}
use Rattle.piece_runs.specs.Pieces.{OfBlock, Front}
use Rattle.piece_runs.specs.Reaches.{BodyRun, acting, run_from, keeps_at}
use Rattle.piece_runs.proofs.lemmas.Reached.{start_is_reached}
use Rattle.c_expr_agreement.specs.Scenes.{Scene}
use Rattle.lowered_forms.specs.Lows.{Low}
use Rattle.lowered_forms.specs.Values.{with_value}
use Rattle.lowered_forms.proofs.lemmas.Fronts.{front_itself}
use Rattle.lowered_forms.proofs.lemmas.Pending.{empty_block}
use Rattle.c_straight_agree.specs.Agreement.{IsLowered}
use Rattle.c_straight_agree.specs.Extends.{Extends}
use Rattle.c_straight_agree.specs.Layouts.{FrameLayout}
use Rattle.c_straight_agree.specs.Settled.{seen, IsSettled, IsNear}
use Rattle.c_straight_agree.specs.Standing.{Standing, IsSoundIn}
use Rattle.c_straight_agree.proofs.lemmas.Extending.{extends_itself}
use Rattle.c_straight_agree.proofs.lemmas.Near.{near_itself}

-- ---- a run that stands before everything

abbrev source : UnitTree
source = record { functions = []; objects = []; texts = []; tags = []; main = 0 }

abbrev layout : FrameLayout
layout = record { types = []; parameters = 0; places = [] }

abbrev target : LoweredUnit
target = record { functions = []; objects = []; names = []; order = Little }

abbrev program : Program
program = record { callee = λ name. Missing; global = λ name. None; order = Little }

abbrev setting : Setting
setting = record { call = call_of program; environment = record { global = program.global; order = Little; home = record { function = 0; place = 0; made = 0; slots = []; words = 0 } } }

abbrev body : BodyRun
body = record { program = program; setting = setting; pieces = OfBlock [] [] ∷ [] }

abbrev scene : Scene
scene = record { unit = source; own = 0; lowered = target; body = body; frame = record { types = []; addresses = []; others = [] } }

abbrev first : Low
first = record { pieces = []; entries = []; slots = []; labels = 0 }

abbrev nothing_yet : Front body.pieces [] []
nothing_yet = record { more = []; before = []; rest = []; is = refl }

abbrev before : c.World
before = record { storage = record { objects = []; made = 0 }; locals = []; input = []; trace = [] }

abbrev world : World
world = record { objects = []; made = 0; arguments = []; input = []; trace = [] }

abbrev no_ranges : Map
no_ranges m = None

abbrev run : ℕ → Outcome
run left = run_from body body.pieces left world

stands_first : Standing scene run 0 first nothing_yet no_ranges before (λ m. unknown) world 0
stands_first = record {
  stands = record {
    reaches = start_is_reached body nothing_yet world 0;
    matches = record {
      held = record { held = λ p x e. absurd (let never : ⊥ = cc in never); apart = λ p q x y r s e f n g h. absurd (let never : ⊥ = cc in never) };
      made = λ m r e. absurd (let never : ⊥ = cc in never);
      whole = λ p lt. absurd (omega (arith, lt));
      constants = λ t o lt e locked. absurd (let never : ⊥ = cc in never);
      tables = λ t o le e. absurd (let never : ⊥ = cc in never);
      input = refl;
      trace = refl;
      sound = record { objects = tt; arguments = tt; input = tt };
    };
    frame = record { locals = tt; others = tt };
    nodes = none_open (acting body) (keeps_at body [] [] nothing_yet) (λ m. unknown) world;
  };
  block = empty_block;
  none_waits = refl;
  slots = front_itself [];
  free = λ i slot e four. absurd (let never : ⊥ = cc in never);
  ready = record { arguments = refl; callees = λ j lt function there. absurd (omega (arith, there)) };
}

sound_first : IsSoundIn scene before
sound_first = record {
  sound = record { own = omega arith; others = []; live = refl; objects = tt; locals = tt; input = tt; trace = tt };
  locals = tt;
  short = λ p x e. absurd (let never : ⊥ = cc in never);
}

-- ---- another operand isn't the constant's

other_operand : IsLowered scene layout (number 1 3) first (with_value (integer.number true 4) first) → ⊥
other_operand h =
    let came = h run 0 nothing_yet nothing_yet no_ranges before (λ m. unknown) world 0 (front_itself []) stands_first sound_first (record { words = λ n of z a u e. absurd (let never : ⊥ = cc in never); opens = tt }) in
    let same = same_number (given came.has.holds.gives ∙ came.has.holds.is) in
    let never : ⊥ = omega (arith, same) in
    never
  where
    given : {u v : Word} → Gave u ≡ Gave v → u ≡ v
    given e = cc

    same_number : {m n : ℕ} → Plain (Number m) ≡ Plain (Number n) → m ≡ n
    same_number e = cc

-- ---- settled templates

-- a block that keeps a node in the object at place 0
abbrev kept : Keeps
kept m = Some (slot_temporary Little Signed (record { place = 0; made = 0; size = 4 }) (negsuc 3))

abbrev at_slot : ℕ → Word
at_slot m = Plain (Pointer (record { place = 0; made = 0; size = 4 }) 0)

constant_is_settled : IsSettled kept (seen body no_ranges at_slot world) (integer.number true 3).tree
constant_is_settled = tt

-- what is read in a temporary changes
read_is_not_settled : IsSettled kept (seen body no_ranges at_slot world) (over op.Indir I (Given 0)) → ⊥
read_is_not_settled h = h.1 (at_slot 0) refl (record { place = 0; made = 0; size = 4 }) 0 refl 0 (slot_temporary Little Signed (record { place = 0; made = 0; size = 4 }) (negsuc 3)) refl refl

-- a node that has another value isn't near
is_near : IsNear kept 1 at_slot at_slot world world
is_near = near_itself kept 1 at_slot world

is_not_near : IsNear kept 1 at_slot (λ m. unknown) world world → ⊥
is_not_near h = let e = h.kept 0 (omega arith) in let never : ⊥ = cc in never

-- ---- states

goes_on : Extends first first
goes_on = extends_itself first

-- a slot stays
never_fewer : Extends (record { pieces = []; entries = []; slots = record { offset = negsuc 3; size = 4 } ∷ []; labels = 0 }) first → ⊥
never_fewer h = let e = h.slots.is in let never : ⊥ = cc in never
