use Rattle.std.proofs.Common.{ℕ, List, ◌++◌, subst}
use Rattle.std.specs.Prelude.{codes, decimal}
use Rattle.std.specs.Io.KnownBytes.{Appends}
use Rattle.lcc_base.specs.Taken.{TookPrefix}
use Rattle.outcomes.specs.Outcome.{hex_word}
use Rattle.lcc_top.proofs.Pieces.{first_of, last_of, both_of}
use Rattle.lcc_top.proofs.report.write_place.Goals as goal

pub returns-in-Ok-clause-all : goal.returns-in-Ok-clause-all
returns-in-Ok-clause-all g c =
    let Had : List ℕ → Type 0 = λ w. Appends (g.E.Sink.taken c.args.report.now) (g.E.Sink.taken c.write_three.new.report) (c.args.what.now ++ codes " at 0x" ++ w) in
    both_of _ _ _ _ (c.args.what.now ++ codes " at 0x" ++ hex_word c.args.pc) (codes ", step " ++ decimal c.args.step ++ codes "\n") (subst Had c.hex_bytes.ensures c.in-Ok.ensures.all) c.write_number.ensures.all

pub returns-in-Ok-clause-prefix : goal.returns-in-Ok-clause-prefix
returns-in-Ok-clause-prefix g c =
    let Had : List ℕ → Type 0 = λ w. Appends (g.E.Sink.taken c.args.report.now) (g.E.Sink.taken c.write_three.new.report) (c.args.what.now ++ codes " at 0x" ++ w) in
    last_of _ _ _ _ (c.args.what.now ++ codes " at 0x" ++ hex_word c.args.pc) (codes ", step " ++ decimal c.args.step ++ codes "\n") (subst Had c.hex_bytes.ensures c.in-Ok.ensures.all) c.write_number.ensures.prefix

pub returns-in-Err-clause-prefix : goal.returns-in-Err-clause-prefix
returns-in-Err-clause-prefix g c =
    let Took : List ℕ → Type 0 = λ w. TookPrefix (g.E.Sink.taken c.args.report.now) (g.E.Sink.taken c.write_three.new.report) (c.args.what.now ++ codes " at 0x" ++ w) in
    first_of _ _ (c.args.what.now ++ codes " at 0x" ++ hex_word c.args.pc) (codes ", step " ++ decimal c.args.step ++ codes "\n") (subst Took c.hex_bytes.ensures c.in-Err.ensures.prefix)
