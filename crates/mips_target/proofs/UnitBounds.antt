-- The program of a unit is the unit's assembly, within bounds that have room for its functions.
use Rattle.std.proofs.Common.{ℕ, ◌≤◌, List, [], ◌∷◌, All, sym, subst, arith}
use Rattle.std.specs.List.{AllZip}
use Rattle.std.proofs.lemmas.List.Elements.{All-head, All-tail}
use Rattle.asm_text.specs.Program.{MDatum, MProgram, data_size}
use Rattle.op_forest.specs.declared.lowered.LoweredFunction.{LoweredFunction}
use Rattle.op_forest.specs.Lowered.{LoweredUnit}
use Rattle.mips_target.specs.Frame.{frame_size}
use Rattle.mips_target.specs.Generated.{IsFunction}
use Rattle.unit_text.specs.Entries.{label_in, HasEntry}
use Rattle.unit_text.specs.UnitLines.{Coded}
use Rattle.mips_target.specs.UnitProgram.{IsUnitProgram}
use Rattle.mips_target.specs.UnitAssembly.{HasBounds, IsFunctionAssembly, object_bytes, IsUnitAssembly}
use Rattle.mips_target.proofs.Bounded.{bounded}

module _ (room most : LoweredFunction → ℕ) (u : LoweredUnit) (p : MProgram) where
  abbrev IsEntered : LoweredFunction → Coded → Type 0
  IsEntered f c = IsFunction u f c × HasEntry p c

  abbrev IsOne : LoweredFunction → Coded → Type 0
  IsOne f c = IsFunctionAssembly (room f) (most f) u.names p f c

  function_assembly : (f : LoweredFunction) (c : Coded) → HasBounds room most f → IsFunction u f c → HasEntry p c → IsFunctionAssembly (room f) (most f) u.names p f c
  function_assembly f c wide is place =
      let i = is.code in
      let s = i.selected in
      let a = i.frame in
      let b = i.short in
      let d = wide.frame in
      let e = wide.code in
      record {
        name = is.name;
        place = place;
        description = s.description;
        shipped = s.shipped;
        derivations = s.derivations;
        best = s.best;
        frame = frame_size i.layout;
        framed = omega (arith, a, d);
        emits = i.emits;
        bounds = bounded (room f) (most f) u.names i.layout i.allocated c.items p (label_in p c) place.entry i.made i.registers (omega (arith, a, d)) (omega (arith, b, e)) place.stands;
      }

  each_assembly : (fs : List LoweredFunction) (cs : List Coded) → All (HasBounds room most) fs → AllZip IsEntered fs cs → AllZip IsOne fs cs
  each_assembly [] [] w z = tt
  each_assembly [] (c ∷ cs) w z = absurd z
  each_assembly (f ∷ fs) [] w z = absurd z
  each_assembly (f ∷ fs) (c ∷ cs) w z = (function_assembly f c (All-head (HasBounds room most) f fs w) z.0.0 z.0.1, each_assembly fs cs (All-tail (HasBounds room most) f fs w) z.1)

  pub assembly : IsUnitProgram u p → All (HasBounds room most) u.functions → IsUnitAssembly room most u p
  assembly made wide = record {
    functions = made.functions;
    code = made.code;
    few_data = subst (λ (ds : List MDatum). data_size ds ≤ object_bytes u.objects) (sym made.datums) (omega arith);
    each = each_assembly u.functions made.functions wide made.each;
  }
