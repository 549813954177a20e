-- A world with which a unit of one object and one table begins, and the world of C that it stands for.
use Rattle.std.specs.Prelude.{◌≡◌, ℕ, zero, suc, true, false, Some, List, [], ◌∷◌, flat_map, slice_get}
use Rattle.std.proofs.Common.{refl, subst, arith}
use Rattle.lcc_base.specs.declared.order.Order.TheVariants.{Big}
use Rattle.lcc_base.specs.Traces.{Closed}
use Rattle.objects.specs.Bytes.{known_bytes}
use Rattle.objects.specs.Objects.{Object as Old}
use Rattle.op_forest.specs.declared.lowered.Datum.TheVariants as datum
use Rattle.op_forest.specs.declared.lowered.LoweredObject.{LoweredObject}
use Rattle.op_forest.specs.Lowered.{LoweredUnit}
use Rattle.forests.specs.Sound.{IsSound}
use Rattle.forests.specs.Units.{bytes_in, start_world}
use Rattle.forests.specs.Worlds.{World}
use Rattle.c_runs.specs.Worlds as c
use Rattle.c_match.specs.Bytes.{AreBytesOf}
use Rattle.c_match.specs.Ranges.{Range, Map}
use Rattle.c_match_worlds.specs.Matches.{Matches}
use Rattle.c_match_worlds.specs.Starts.{own_map, StandsAt}
use Rattle.c_match_worlds.specs.Texts.{HasTexts, IsTextAt}
use Rattle.c_match_worlds.proofs.lemmas.Starting.{starts_match}

abbrev zeros : LoweredObject
zeros = record { name = 0; size = 4; constant = false; items = datum.Zero 4 ∷ [] }

abbrev table : LoweredObject
table = record { name = 1; size = 4; constant = true; items = datum.Bytes (1 ∷ 2 ∷ 3 ∷ 4 ∷ []) ∷ [] }

abbrev unit : LoweredUnit
unit = record { functions = []; objects = zeros ∷ table ∷ []; names = (97 ∷ []) ∷ (98 ∷ []) ∷ []; order = Big }

abbrev old_zeros : Old
old_zeros = record { made = 0; constant = false; bytes = known_bytes (0 ∷ 0 ∷ 0 ∷ 0 ∷ []) }

abbrev old : c.World
old = record { storage = record { objects = old_zeros ∷ []; made = 1 }; locals = []; input = 65 ∷ []; trace = [] }

abbrev new : World
new = start_world unit (65 ∷ [])

abbrev whole : Range
whole = record { object = record { place = 0; made = 0; size = 4 }; start = 0 }

abbrev places : Map
places = own_map unit 1

zeros_stand : StandsAt unit places 0 old_zeros
zeros_stand = record {
  home = zeros;
  there = refl;
  made = refl;
  whole = refl;
  size = refl;
  bytes = ((refl, refl), ((refl, refl), ((refl, refl), ((refl, refl), tt))));
  writable = λ e. refl;
}

each_stands : (p : ℕ) (x : Old) → slice_get (c.objects old) p ≡ Some x → StandsAt unit places p x
each_stands zero x e = let same : old_zeros ≡ x = cc in subst (λ (y : Old). StandsAt unit places 0 y) same zeros_stand
each_stands (suc p) x e = absurd (let never : ⊥ = cc in never)

starts_soundly : IsSound new
starts_soundly = record {
  objects = (((omega arith, refl), ((omega arith, refl), ((omega arith, refl), ((omega arith, refl), tt)))), (((omega arith, refl), ((omega arith, refl), ((omega arith, refl), ((omega arith, refl), tt)))), tt));
  arguments = tt;
  input = (omega arith, tt);
}

worlds_match : Matches unit 1 places old new
worlds_match = starts_match unit old (65 ∷ []) each_stands refl refl refl starts_soundly

-- ---- texts

abbrev text : LoweredObject
text = record { name = 2; size = 3; constant = true; items = datum.Bytes (104 ∷ 105 ∷ []) ∷ datum.Zero 1 ∷ [] }

abbrev with_text : LoweredUnit
with_text = record { functions = []; objects = zeros ∷ text ∷ []; names = (97 ∷ []) ∷ (98 ∷ []) ∷ (99 ∷ []) ∷ []; order = Big }

has_text : HasTexts with_text 1 ((104 ∷ 105 ∷ []) ∷ [])
has_text zero t e = let same : 104 ∷ 105 ∷ [] ≡ t = cc in subst (λ (bytes : List ℕ). IsTextAt with_text 1 bytes) same (record { object = text; there = refl; constant = refl; holds = refl })
has_text (suc n) t e = absurd (let never : ⊥ = cc in never)

-- ---- what is refused

-- the object before the text may be written
not_text : IsTextAt with_text 0 [] → ⊥
not_text t =
    let home : t.object ≡ zeros = let e = t.there in cc in
    let constant = subst (λ (o : LoweredObject). o.constant ≡ true) home t.constant in
    let never : ⊥ = cc in
    never

-- more was seen in C
seen_more : Matches unit 1 places (c.with_event old Closed) new → ⊥
seen_more m = let e = m.trace in let never : ⊥ = cc in never

-- another input is left
read_more : Matches unit 1 places (c.with_input old []) new → ⊥
read_more m = let e = m.input in let never : ⊥ = cc in never

-- an object that wasn't made has no range
not_made : Matches unit 0 (λ m. Some whole) (record { storage = record { objects = []; made = 0 }; locals = []; input = []; trace = [] }) new → ⊥
not_made m = let lt = m.made 0 whole refl in let never : ⊥ = omega (arith, lt) in never

-- the table is no object of the unit's own
not_whole : Matches unit 2 places old new → ⊥
not_whole m = let e = m.whole 1 (omega arith) in let never : ⊥ = cc in never

-- other bytes stand there
other_bytes : StandsAt unit places 0 (record { made = 0; constant = false; bytes = known_bytes (1 ∷ 0 ∷ 0 ∷ 0 ∷ []) }) → ⊥
other_bytes s =
    let home : s.home ≡ zeros = let e = s.there in cc in
    let bytes = subst (λ (h : LoweredObject). AreBytesOf places (known_bytes (1 ∷ 0 ∷ 0 ∷ 0 ∷ [])) (flat_map (bytes_in unit) h.items)) home s.bytes in
    let first = bytes.0.1 in
    let never : ⊥ = cc in
    never
