use Rattle.std.proofs.Common.{length, refl, sym, ◌∙◌}
use Rattle.std.proofs.lemmas.Bool.Decides.{Decides-eqb}
use Rattle.std.proofs.lemmas.Option.{slice_get_read}
use Rattle.std.proofs.lemmas.Slice.Eq.{slice_eq-Decides}
use Rattle.lburg_trees.proofs.tree_reader.is_named.Goals as goal

pub returns-in-Some-clause-named : goal.returns-in-Some-clause-named
returns-in-Some-clause-named c = λ yes.
    let terminals = c.args.terminals.now in
    let there = c.in-Some.ensures.lookup in
    (c.in-Some.terminal.now, slice_get_read terminals (length terminals) c.args.place c.in-Some.terminal.now refl there.3.0 there.1, sym c.as_slice.ensures ∙ (slice_eq-Decides Decides-eqb _ _ _ c.eq.ensures).0 yes)
