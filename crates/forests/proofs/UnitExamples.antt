-- What the names and objects of a small unit are as values and bytes, worked out by hand; and its main run.
use Rattle.std.specs.Prelude.{◌≡◌, ℕ, pos, true, Some, None, List, [], ◌∷◌, codes, refl}
use Rattle.lcc_base.specs.declared.order.Order.TheVariants.{Big}
use Rattle.objects.specs.declared.byte.Byte.TheVariants.{Bits, Part}
use Rattle.objects.specs.declared.value.ObjectName.{ObjectName}
use Rattle.objects.specs.declared.value.Value.TheVariants.{Pointer, Function}
use Rattle.op_forest.specs.declared.lowered.Datum.TheVariants as datum
use Rattle.op_forest.specs.declared.op.Op.TheVariants as op
use Rattle.op_forest.specs.declared.suffix.Suffix.TheVariants.{I, P, V}
use Rattle.op_forest.specs.declared.sym.Sym.TheVariants as sym
use Rattle.op_forest.specs.Lowered.{LoweredUnit}
use Rattle.op_forest.specs.Nodes.{Node, Leaf, One}
use Rattle.lcc_base.specs.Traces.{output_of}
use Rattle.forests.specs.Words.{Word, Plain, Label}
use Rattle.forests.specs.Worlds.{Effect, Went, Exits, Unfinished, Stuck}
use Rattle.forests.specs.Units.{value_of, program_of, start_world, main_world}
use Rattle.forests.specs.Meaning.{call_of}
use Rattle.forests.proofs.Samples.{head}

abbrev load : Node → Node
load a = One (head op.Indir I sym.Nothing None) a

-- It prints the next byte of the input, and exits with what its second parameter points to.
abbrev main_roots : List Node
main_roots =
    One (head op.Arg I sym.Nothing None) (One (head op.Call I sym.Nothing None) (Leaf (head op.Addrg P (sym.Global 4 (pos 0)) None)))
    ∷ One (head op.Call V sym.Nothing None) (Leaf (head op.Addrg P (sym.Global 1 (pos 0)) None))
    ∷ One (head op.Arg I sym.Nothing None) (load (load (Leaf (head op.Addrf P sym.Nothing (Some (pos 4))))))
    ∷ One (head op.Call V sym.Nothing None) (Leaf (head op.Addrg P (sym.Global 3 (pos 0)) None))
    ∷ []

-- main, putchar, an object of 16 bytes, exit, getchar, and a name of nothing
abbrev unit : LoweredUnit
unit = record {
  functions = record { name = 0; words = 2; forest = record { roots = main_roots; frame = [] } } ∷ [];
  objects = record { name = 2; size = 16; constant = true; items = datum.Bytes (1 ∷ 2 ∷ []) ∷ datum.Zero 2 ∷ datum.Name 2 (pos 16) ∷ datum.Name 1 (pos 0) ∷ datum.Label 0 7 ∷ [] } ∷ [];
  names = codes "main" ∷ codes "putchar" ∷ codes "t" ∷ codes "exit" ∷ codes "getchar" ∷ codes "u" ∷ [];
  order = Big;
}

abbrev table : ObjectName
table = record { place = 0; made = 0; size = 16 }

main_is : value_of unit 0 ≡ Some (Function 0)
main_is = refl

putchar_is : value_of unit 1 ≡ Some (Function 1)
putchar_is = refl

table_is : value_of unit 2 ≡ Some (Pointer table 0)
table_is = refl

nothing_is : value_of unit 5 ≡ None
nothing_is = refl

abbrev end_of_table : Word
end_of_table = Plain (Pointer table 16)

table_bytes : (start_world unit []).objects ≡ record {
  made = 0;
  constant = true;
  bytes =
      Bits 255 1 ∷ Bits 255 2 ∷ Bits 255 0 ∷ Bits 255 0
      ∷ Part end_of_table 0 ∷ Part end_of_table 1 ∷ Part end_of_table 2 ∷ Part end_of_table 3
      ∷ Part (Plain (Function 1)) 0 ∷ Part (Plain (Function 1)) 1 ∷ Part (Plain (Function 1)) 2 ∷ Part (Plain (Function 1)) 3
      ∷ Part (Label 0 7) 0 ∷ Part (Label 0 7) 1 ∷ Part (Label 0 7) 2 ∷ Part (Label 0 7) 3
      ∷ [];
} ∷ []
table_bytes = refl

abbrev ended_with : Effect → ℕ
ended_with (Went ws p mv) = 1000
ended_with (Exits status w) = status
ended_with (Unfinished w) = 1001
ended_with Stuck = 1002

abbrev seen : Effect → List ℕ
seen (Went ws p mv) = output_of p.world.trace
seen (Exits status w) = output_of w.trace
seen (Unfinished w) = output_of w.trace
seen Stuck = []

abbrev run : ℕ → Effect
run left = call_of (program_of unit) 0 (record { left = left; world = main_world unit 2 (72 ∷ []) })

-- the input's byte is printed, and the status is the null pointer
prints_input : seen (run 9) ≡ 72 ∷ []
prints_input = refl

ends_with_null : ended_with (run 9) ≡ 0
ends_with_null = refl

goes_on : ended_with (run 3) ≡ 1001
goes_on = refl
