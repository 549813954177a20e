-- Which data the assembly of a unit may have.
use Rattle.std.proofs.Common.{◌≡◌, ◌≤◌, ℕ, false, [], ◌∷◌, List, subst, arith}
use Rattle.asm_text.specs.declared.datum.Datum.TheVariants.{Byte, Zeros}
use Rattle.asm_text.specs.Program.{MDatum, MProgram, data_size}
use Rattle.op_forest.specs.declared.lowered.LoweredFunction.{LoweredFunction}
use Rattle.op_forest.specs.declared.lowered.LoweredObject.{LoweredObject}
use Rattle.op_forest.specs.declared.lowered.Datum.TheVariants as datum
use Rattle.op_forest.specs.Lowered.{LoweredUnit}
use Rattle.mips_target.specs.UnitAssembly.{object_bytes, IsUnitAssembly}

-- an object of three bytes
abbrev three : LoweredObject
three = record { name = 0; size = 3; constant = false; items = datum.Zero 3 ∷ [] }

abbrev eight_bytes : List MDatum
eight_bytes = Zeros 8 ∷ []

abbrev nine_bytes : List MDatum
nine_bytes = Zeros 8 ∷ (Byte 0 ∷ [])

-- it has room for eight bytes of data
room_for_eight : data_size eight_bytes ≤ object_bytes (three ∷ [])
room_for_eight = omega arith

-- and for no ninth
no_ninth : data_size nine_bytes ≤ object_bytes (three ∷ []) → ⊥
no_ninth h = omega (arith, h)

-- where a unit has no object, a line `.space 33554432` behind its functions makes another program
no_space : (room most : LoweredFunction → ℕ) (u : LoweredUnit) (p : MProgram) → u.objects ≡ [] → p.datums ≡ Zeros 33554432 ∷ [] → IsUnitAssembly room most u p → ⊥
no_space room most u p none space a =
    let few : data_size p.datums ≤ object_bytes [] = subst (λ (os : List LoweredObject). data_size p.datums ≤ object_bytes os) none a.few_data in
    let much : 33554432 ≤ 0 = subst (λ (ds : List MDatum). data_size ds ≤ 0) space few in
    omega (arith, much)
