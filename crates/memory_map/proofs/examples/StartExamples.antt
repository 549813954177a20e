-- A unit of one object at the start of its program.
use Rattle.std.specs.Prelude.{◌≡◌, ◌≤◌, ℕ, zero, suc, ◌+◌, nat_lt, false, Option, Some, [], ◌∷◌, if◌then◌else◌}
use Rattle.std.proofs.Common.{refl, sym, ap, subst, ◌++◌, arith}
use Rattle.std.proofs.lemmas.Bool.{cond-false, le-ltb}
use Rattle.lcc_base.specs.declared.order.Order.TheVariants.{Big}
use Rattle.objects.specs.declared.byte.Byte.{Byte}
use Rattle.objects.specs.declared.byte.Byte.TheVariants.{Bits}
use Rattle.op_forest.specs.declared.lowered.Datum.TheVariants as datum
use Rattle.op_forest.specs.Lowered.{LoweredUnit}
use Rattle.forests.specs.Words.{Word}
use Rattle.forests.specs.Units.{null_object}
use Rattle.memory_map.specs.Maps.{IsByte}
use Rattle.memory_map.specs.Lies.{Lies, StandAll}
use Rattle.memory_map.specs.Starts.{unit_objects, unit_map, main_map, IsLoaded}
use Rattle.memory_map.proofs.lemmas.Overwritten.{some_is, none_some}
use Rattle.memory_map.proofs.lemmas.Starting.{main_lies}

-- an object of a byte 7
abbrev unit : LoweredUnit
unit = record {
  functions = [];
  objects = record { name = 0; size = 1; constant = false; items = datum.Bytes (7 ∷ []) ∷ [] } ∷ [];
  names = (120 ∷ []) ∷ [];
  order = Big;
}

-- 7 at 4096, and zeros elsewhere
abbrev memory : ℕ → Option ℕ
memory x = if nat_lt x 4097 then (if nat_lt x 4096 then Some 0 else Some 7) else Some 0

abbrev none : ℕ → ℕ
none f = 0

abbrev no_label : ℕ → ℕ → ℕ
no_label f l = 0

behind : (x : ℕ) → 4097 ≤ x → memory x ≡ Some 0
behind x l = cond-false (nat_lt x 4097) (if nat_lt x 4096 then Some 0 else Some 7) (Some 0) (le-ltb x 4097 l)

stand : StandAll (unit_map none no_label unit 4096) (4096 ∷ []) (unit_objects unit) memory
stand zero zero a b e f =
    let q = some_is 4096 a f in
    (7, ap (λ (n : ℕ). memory (n + 0)) (sym q), subst (λ (y : Byte Word). IsByte (unit_map none no_label unit 4096) y 7) (some_is (Bits 255 7) b e) (omega arith, omega arith, refl))
stand zero (suc i) a b e f = absurd (none_some b e)
stand (suc k) i a b e f = absurd (none_some b e)

loaded : IsLoaded none no_label unit 5000 4096 65528 memory
loaded = record {
  four = refl;
  some = omega arith;
  ends = (omega arith, tt);
  stand = stand;
  null_four = refl;
  above = omega arith;
  null_some = omega arith;
  small = omega arith;
  zeros = λ k l. behind (65528 + k) (omega arith);
}

-- the unit's object and the null pointer
they_lie : Lies (main_map none no_label unit 4096 65528 2) 5000 2 (unit_objects unit ++ null_object unit ∷ []) memory
they_lie = main_lies none no_label unit 5000 4096 65528 2 [] memory loaded

-- the null pointer doesn't lie below the floor
no_null : IsLoaded none no_label unit 5000 4096 4100 memory → ⊥
no_null l = let a = l.above in omega (arith, a)
