use Rattle.std.proofs.Common.{refl, [], ◌∷◌, arith}
use Rattle.lburg_trees.proofs.tail.take_first.Goals as goal

pub returns-in-Some-clause-taken : goal.returns-in-Some-clause-taken
returns-in-Some-clause-taken g c =
    let reads = c.in-Some.ensures.found in
    record {
      line = reads.line;
      lines = reads.lines;
      here = c.in-Some.plain.tree ∷ [];
      is = reads.is;
      taken = (c.take_tree.new.self, c.in_ok-take_tree.ensures.taken, refl);
      next_is = refl;
      few = omega arith;
      fine = reads.fine;
    }
