-- What a hasher is fed of a key.
use Rattle.std.specs.Prelude.{ℕ, List, ◌++◌}
use Rattle.std.specs.Hash as fed
use Rattle.std.specs.Int.RustNames.{unsigned_abs}
use Rattle.op_forest.specs.declared.sym.Sym.{Sym}
use Rattle.op_forest.specs.declared.sym.Sym.TheVariants as sym
use Rattle.op_forest.specs.Operators.{number}
use Rattle.dag_forest.specs.declared.key.Key.{Key}
use Rattle.dag_forest.specs.contracts.kids.KidsHash.TheImpl as kids

-- the place that a symbol names, with an offset
abbrev pub sym_place : Sym → ℕ × ℕ
sym_place sym.Nothing = (0, 0)
sym_place (sym.Global name offset) = (name, unsigned_abs offset)
sym_place (sym.Label label) = (label, 0)
sym_place (sym.Block size align) = (size, align)

abbrev pub key_input : Key → List (List ℕ)
key_input k =
    fed.u16 (number k.parts.operator.op k.parts.operator.suffix) ++ (kids.ghosts.hash_input k.parts.kids ++ (fed.u32 (sym_place k.parts.sym).0 ++ (fed.u32 (sym_place k.parts.sym).1 ++ (fed.option fed.i64 k.parts.constant ++ fed.u32 k.mark))))
