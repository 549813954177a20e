use Rattle.std.proofs.Common.{ap, ℕ, List, ◌++◌}
use Rattle.std.specs.Hash as fed
use Rattle.op_forest.specs.Operators.{number}
use Rattle.dag_forest.specs.HashedKeys.{sym_place}
use Rattle.dag_forest.specs.contracts.kids.KidsHash.TheImpl as kids
use Rattle.dag_forest.proofs.key.KeyHash.hash.Goals as goal

pub returns : goal.returns
returns g c =
    let w = g.H.Hasher.write in
    let k = c.args.self.now in
    let a : List (List ℕ) = fed.u16 (number k.parts.operator.op k.parts.operator.suffix) in
    let b : List (List ℕ) = kids.ghosts.hash_input k.parts.kids in
    let d : List (List ℕ) = fed.u32 (sym_place k.parts.sym).0 in
    let e : List (List ℕ) = fed.u32 (sym_place k.parts.sym).1 in
    let f : List (List ℕ) = fed.option fed.i64 k.parts.constant in
    let h : List (List ℕ) = fed.u32 k.mark in
    fed.fed_then w c.args.state.now c.hash.new.state c.hash-6.new.state a (b ++ (d ++ (e ++ (f ++ h)))) (fed.fed_along w c.args.state.now c.hash.new.state (ap fed.u16 c.number.ensures) c.hash.ensures)
    (fed.fed_then w c.hash.new.state c.hash-2.new.state c.hash-6.new.state b (d ++ (e ++ (f ++ h))) c.hash-2.ensures
    (fed.fed_then w c.hash-2.new.state c.hash-3.new.state c.hash-6.new.state d (e ++ (f ++ h)) (fed.fed_along w c.hash-2.new.state c.hash-3.new.state (ap (λ (t : ℕ × ℕ). fed.u32 t.0) c.sym_place-place.ensures) c.hash-3.ensures)
    (fed.fed_then w c.hash-3.new.state c.hash-4.new.state c.hash-6.new.state e (f ++ h) (fed.fed_along w c.hash-3.new.state c.hash-4.new.state (ap (λ (t : ℕ × ℕ). fed.u32 t.1) c.sym_place-place.ensures) c.hash-4.ensures)
    (fed.fed_then w c.hash-4.new.state c.hash-5.new.state c.hash-6.new.state f h c.hash-5.ensures c.hash-6.ensures))))
