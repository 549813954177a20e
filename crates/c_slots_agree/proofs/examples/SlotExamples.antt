-- A frame of two slots, of which the second one holds 7.
use Rattle.std.specs.Prelude.{◌≡◌, ◌+◌, negsuc, false, None, [], ◌∷◌}
use Rattle.std.proofs.Common.{refl, ap, arith}
use Rattle.lcc_base.specs.declared.order.Order.TheVariants.{Little}
use Rattle.objects.specs.declared.value.ObjectName.{ObjectName}
use Rattle.objects.specs.declared.value.Value.TheVariants.{Number, Pointer}
use Rattle.objects.specs.Bytes.{known_bytes, number_bytes}
use Rattle.op_forest.specs.declared.suffix.Suffix.TheVariants.{I}
use Rattle.op_forest.specs.Callees.{Missing}
use Rattle.forests.specs.Actions.{Gave}
use Rattle.forests.specs.Bodies.{Setting}
use Rattle.forests.specs.Functions.{Program}
use Rattle.forests.specs.Meaning.{call_of}
use Rattle.forests.specs.Words.{Plain, unknown}
use Rattle.forests.specs.Worlds.{World}
use Rattle.dag_forest.specs.Split.{slot_name}
use Rattle.piece_runs.specs.Reaches.{BodyRun}
use Rattle.c_match.specs.Ranges.{Map}
use Rattle.c_expr_agreement.specs.Scenes.{Scene}
use Rattle.lowered_forms.specs.Values.{slot_read}
use Rattle.c_straight_agree.specs.Lasting.{Lasts, LastingValue}
use Rattle.c_slots_agree.specs.Slots.{IsSlotAt, SlotHolds}

abbrev program : Program
program = record { callee = λ name. Missing; global = λ name. None; order = Little }

abbrev setting : Setting
setting = record {
  call = call_of program;
  environment = record {
    global = program.global;
    order = Little;
    home = record { function = 0; place = 0; made = 0; slots = record { offset = negsuc 3; size = 4 } ∷ record { offset = negsuc 7; size = 4 } ∷ []; words = 0 };
  };
}

abbrev body : BodyRun
body = record { program = program; setting = setting; pieces = [] }

abbrev scene : Scene
scene = record {
  unit = record { functions = []; objects = []; texts = []; tags = []; main = 0 };
  own = 0;
  lowered = record { functions = []; objects = []; names = []; order = Little };
  body = body;
  frame = record { types = []; addresses = []; others = [] };
}

abbrev world : World
world = record {
  objects = record { made = 0; constant = false; bytes = known_bytes (number_bytes Little 4 3) } ∷ record { made = 1; constant = false; bytes = known_bytes (number_bytes Little 4 7) } ∷ [];
  made = 2;
  arguments = [];
  input = [];
  trace = [];
}

abbrev no_ranges : Map
no_ranges m = None

second_is : IsSlotAt scene 1 (negsuc 7)
second_is = record { slot = record { offset = negsuc 7; size = 4 }; there = refl; size = refl; is = refl }

holds_seven : SlotHolds scene 1 (Plain (Number 7)) world
holds_seven = refl

seven_lasts : LastingValue scene 0 2 (slot_read I (negsuc 7)) no_ranges (λ m. unknown) world (Number 7)
seven_lasts = record {
  holds = record { word = Plain (Number 7); gives = (Plain (Pointer (record { place = 1; made = 1; size = 4 }) 0), refl, refl); is = refl };
  word = omega arith;
  lasts = (refl, record { number = 1; slot = record { offset = negsuc 7; size = 4 }; behind = omega arith; before = omega arith; there = refl; mild = tt; gives = λ objects. refl });
}

-- ---- what is refused

-- the first slot begins elsewhere
first_is_not : IsSlotAt scene 0 (negsuc 7) → ⊥
first_is_not h = let a = h.there in let b = h.is in let never : ⊥ = cc in never

-- and holds another number
holds_no_seven : SlotHolds scene 0 (Plain (Number 7)) world → ⊥
holds_no_seven h = let never : ⊥ = cc in never

given_name : (a b : ObjectName) → Gave (Plain (Pointer a 0)) ≡ Gave (Plain (Pointer b 0)) → a ≡ b
given_name a b e = cc

-- the first slot alone doesn't make the second one last
lasts_not : Lasts scene 0 1 (slot_read I (negsuc 7)).tree → ⊥
lasts_not h =
    let it = h.1 in
    let named = ap (λ (name : ObjectName). name.place) (given_name (record { place = 1; made = 1; size = 4 }) (slot_name setting.environment.home it.number) (it.gives [])) in
    let one : 1 ≡ 0 + it.number = named in
    let lt = it.before in
    let never : ⊥ = omega (arith, one, lt) in
    never
