-- Items of a unit's data, and bytes that aren't theirs.
use Rattle.std.specs.Prelude.{pos, false, [], ◌∷◌}
use Rattle.std.proofs.Common.{refl, arith}
use Rattle.lcc_base.specs.declared.order.Order.TheVariants.{Big}
use Rattle.op_forest.specs.declared.lowered.Datum.TheVariants as datum
use Rattle.op_forest.specs.Lowered.{LoweredUnit}
use Rattle.memory_map.specs.Maps.{Map}
use Rattle.memory_map.specs.Starts.{unit_map}
use Rattle.word_rows.specs.Data.{AreSmall, IsItem, AreItems}

-- an object of 4 zeros, which lies at 4096
abbrev unit : LoweredUnit
unit = record {
  functions = [];
  objects = record { name = 0; size = 4; constant = false; items = datum.Zero 4 ∷ [] } ∷ [];
  names = (120 ∷ []) ∷ [];
  order = Big;
}

abbrev map : Map
map = unit_map (λ f. 0) (λ f l. 0) unit 4096

listed : IsItem map unit (datum.Bytes (7 ∷ 255 ∷ [])) (7 ∷ 255 ∷ [])
listed = ((omega arith, (omega arith, tt)), refl)

no_byte : AreSmall (256 ∷ []) → ⊥
no_byte (l, rest) = omega (arith, l)

-- two behind its first byte
an_address : IsItem map unit (datum.Name 0 (pos 2)) (0 ∷ 0 ∷ 16 ∷ 2 ∷ [])
an_address = (_, 4096, refl, (4096, refl, refl, omega arith), omega arith, refl)

one_behind_the_other : AreItems map unit (datum.Zero 1 ∷ datum.Bytes (5 ∷ []) ∷ []) (0 ∷ 5 ∷ [])
one_behind_the_other = (0 ∷ [], 5 ∷ [], refl, (5 ∷ [], [], ((omega arith, tt), refl), refl, refl), refl)

no_more : AreItems map unit [] (0 ∷ []) → ⊥
no_more e = let never : ⊥ = cc in never
