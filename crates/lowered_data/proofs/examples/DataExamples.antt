-- A unit of one int and one pointer to it, `int a; int *p = &a;`: the initial data of the int, an address that an item tells, and what isn't so.
use Rattle.std.specs.Prelude.{◌≡◌, ℕ, pos, true, false, [], ◌∷◌, length, ◌≤◌, zero, suc, ◌+◌, All, IsSome, Some, codes, slice_get}
use Rattle.std.proofs.Common.{refl, arith, ap, sym}
use Rattle.lcc_base.specs.declared.order.Order.TheVariants.{Big}
use Rattle.objects.specs.declared.byte.Byte.TheVariants.{Part}
use Rattle.objects.specs.declared.value.ObjectName.{ObjectName}
use Rattle.objects.specs.declared.value.Value.{Value}
use Rattle.objects.specs.declared.value.Value.TheVariants.{Pointer}
use Rattle.objects.specs.Bytes.{known_bytes, part_bytes}
use Rattle.objects.specs.Objects.{Object}
use Rattle.op_forest.specs.declared.lowered.Datum.TheVariants as datum
use Rattle.op_forest.specs.declared.lowered.LoweredObject.{LoweredObject}
use Rattle.op_forest.specs.Lowered.{LoweredUnit}
use Rattle.c_meaning.specs.declared.core_expr.CoreKind.TheVariants as kind
use Rattle.c_meaning.specs.CoreTrees.{Core, NoCore, Cores}
use Rattle.c_meaning.specs.Units.{ObjectTree, UnitTree}
use Rattle.c_meaning.specs.Values.{CoreTree}
use Rattle.c_runs.specs.Calls.{int}
use Rattle.c_runs.specs.Worlds.{World, objects}
use Rattle.lowered_data.specs.Data.{image, IsAddress, IsDatumOf, HasHome, IsStretch}
use Rattle.lowered_data.specs.Fitting.{FitsIn}
use Rattle.lowered_data.specs.Numbering.{AreNumbered}
use Rattle.lowered_data.proofs.lemmas.Fitting.{data_fit}
use Rattle.lowered_data.proofs.lemmas.Numbering.{built_in_range, numbers_stand}
use Rattle.op_forest.specs.Units.{built_in_named}
use Rattle.c_runs.specs.Calls.{built_in_at}
use Rattle.lowered_data.specs.Initial.{IsInitialData}
use Rattle.lowered_data.specs.Laws.{NamesStand}
use Rattle.lowered_data.specs.Stand.{Stand}
use Rattle.lowered_data.specs.Still.{is_still}

-- ---- places in lists

two_stand : Stand {A = ℕ} (7 ∷ 8 ∷ 9 ∷ []) 1 (8 ∷ 9 ∷ [])
two_stand = (refl, (refl, tt))

other_stands : Stand {A = ℕ} (7 ∷ 8 ∷ 9 ∷ []) 1 (9 ∷ []) → ⊥
other_stands h = let e = h.0 in let never : ⊥ = cc in never

-- ---- one int

abbrev number : ObjectTree
number = record { name = 97 ∷ []; of = int; line = 1; constant = false; places = [] }

abbrev unit : UnitTree
unit = record { functions = []; objects = number ∷ []; texts = []; tags = []; main = 0 }

abbrev zero_int : Object
zero_int = record { made = 0; constant = false; bytes = known_bytes (0 ∷ 0 ∷ 0 ∷ 0 ∷ []) }

abbrev start : World
start = record { storage = record { objects = zero_int ∷ []; made = 1 }; locals = []; input = []; trace = [] }

abbrev space : LoweredObject
space = record { name = 0; size = 4; constant = false; items = datum.Zero 4 ∷ [] }

space_holds : HasHome (image unit Big (objects start)) 0 space
space_holds = record {
  object = zero_int;
  there = refl;
  made = refl;
  is = record { name = refl; size = refl; constant = refl; items = (known_bytes (0 ∷ 0 ∷ 0 ∷ 0 ∷ []), [], refl, refl, refl) };
}

is_initial : IsInitialData unit Big (space ∷ [])
is_initial = record {
  world = start;
  starts = λ calls input k. refl;
  sound = record {
    own = omega arith;
    others = [];
    live = refl;
    objects = ((omega arith, ((omega arith, omega arith), ((omega arith, omega arith), ((omega arith, omega arith), ((omega arith, omega arith), tt))))), tt);
    locals = tt;
    input = tt;
    trace = tt;
  };
  made = refl;
  texts = λ n text e. absurd (let never : ⊥ = cc in never);
  live = refl;
  many = refl;
  homes = (space_holds, tt);
}

-- an object is wanting
none_initial : IsInitialData unit Big [] → ⊥
none_initial d = let a = d.many in let b = d.live in omega (arith, a, b)

-- it holds 1
one_holds : HasHome (image unit Big (objects start)) 0 (record { name = 0; size = 5; constant = false; items = datum.Zero 4 ∷ [] }) → ⊥
one_holds h = let e = h.there in let s = h.is.size in let same : zero_int ≡ h.object = cc in let n : length (known_bytes {V = Value} (0 ∷ 0 ∷ 0 ∷ 0 ∷ [])) ≡ length h.object.bytes = (let f = same in cc) in omega (arith, n, s)

-- ---- addresses

abbrev name : ObjectName
name = record { place = 0; made = 0; size = 4 }

-- `&a + 1`, one past its last byte
past : IsAddress (image unit Big (objects start)) 0 (pos 4) (Pointer name 4)
past = (refl, (refl, (refl, omega arith)))

past_bytes : IsDatumOf (image unit Big (objects start)) (datum.Name 0 (pos 4)) (part_bytes Big (Pointer name 4))
past_bytes = (Pointer name 4, past, refl)

-- further behind
further : IsAddress (image unit Big (objects start)) 0 (pos 8) (Pointer name 8) → ⊥
further h = let e = h.1.1.1 in omega (arith, e)

-- one byte of an address is no item
one_byte : IsDatumOf (image unit Big (objects start)) (datum.Name 0 (pos 4)) (Part (Pointer name 4) 0 ∷ []) → ⊥
one_byte h = never h.0 h.2
  where
    never : (v : Value) → Part (Pointer name 4) 0 ∷ [] ≡ part_bytes Big v → ⊥
    never v e = cc

-- ---- names

abbrev other : LoweredUnit
other = record { functions = []; objects = []; names = []; order = Big }

-- nothing is named
no_names : NamesStand unit 1 other → ⊥
no_names n = let e = n.objects 0 (omega arith) in let never : ⊥ = cc in never

-- ---- initialisers

abbrev one : CoreTree
one = Core (kind.Number 1) int 1 NoCore

one_still : is_still one ≡ true
one_still = refl

call_acts : is_still (Core (kind.Call 0) int 1 (Cores one NoCore)) ≡ false
call_acts = refl

-- ---- stretches

zeros_stretch : IsStretch (image unit Big (objects start)) zero_int.bytes 0 (datum.Zero 4) 4
zeros_stretch = record { held = zero_int.bytes; datum = refl; stand = (refl, (refl, (refl, (refl, tt)))); count = refl; some = omega arith; within = omega arith }

-- one that ends where it begins
empty_stretch : IsStretch (image unit Big (objects start)) zero_int.bytes 0 (datum.Zero 0) 0 → ⊥
empty_stretch s = let e = s.some in omega (arith, e)

-- ---- what fits a lowered unit

all_fit : All (FitsIn unit 1) (space ∷ [])
unfolding is_initial
all_fit = data_fit unit Big (space ∷ []) is_initial

too_large : FitsIn unit 1 (record { name = 0; size = 5; constant = false; items = datum.Zero 4 ∷ [] }) → ⊥
too_large h = let e : 4 ≡ 5 = h.size in omega (arith, e)

-- ---- names that are numbered

abbrev lowered : LoweredUnit
lowered = record { functions = []; objects = space ∷ []; names = (97 ∷ []) ∷ codes "putchar" ∷ codes "getchar" ∷ codes "exit" ∷ []; order = Big }

named_so : (n : ℕ) (o : LoweredObject) → slice_get (space ∷ []) n ≡ Some o → o.name ≡ 0 + n
named_so zero o e = let same : space ≡ o = cc in ap (λ (y : LoweredObject). y.name) (sym same)
named_so (suc n) o e = absurd (let never : ⊥ = cc in never)

no_table : (n : ℕ) (o : LoweredObject) → slice_get (space ∷ []) n ≡ Some o → 1 ≤ n → 4 ≤ o.name
no_table zero o e h = absurd (let never : ⊥ = omega arith in never)
no_table (suc n) o e h = absurd (let never : ⊥ = cc in never)

built_in_names : (f : ℕ) → IsSome (built_in_at unit f) → IsSome (built_in_named lowered f)
built_in_names zero i = absurd (let never : ⊥ = cc in never)
built_in_names (suc zero) i = refl
built_in_names (suc (suc zero)) i = refl
built_in_names (suc (suc (suc zero))) i = refl
built_in_names (suc (suc (suc (suc n)))) i = let r = (built_in_range unit (suc (suc (suc (suc n)))) i).1 in absurd (let never : ⊥ = omega (arith, r) in never)

numbered : AreNumbered unit lowered
numbered = record {
  many = refl;
  functions = λ n f e. absurd (let never : ⊥ = cc in never);
  enough = omega arith;
  objects = λ n o e h. named_so n o e;
  tables = λ n o e h. no_table n o e h;
  built_ins = built_in_names;
}

named : NamesStand unit 1 lowered
named = numbers_stand unit lowered numbered

-- the object has another's number
abbrev moved : LoweredUnit
moved = record { functions = []; objects = record { name = 1; size = 4; constant = false; items = datum.Zero 4 ∷ [] } ∷ []; names = []; order = Big }

not_numbered : AreNumbered unit moved → ⊥
not_numbered a = let e = a.objects 0 (record { name = 1; size = 4; constant = false; items = datum.Zero 4 ∷ [] }) refl (omega arith) in omega (arith, e)
