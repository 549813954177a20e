use Rattle.std.proofs.Common.{ℕ, List, ◌++◌, ◌∙◌, subst}
use Rattle.std.specs.Prelude.{codes, decimal}
use Rattle.std.specs.Io.KnownBytes.{Appends}
use Rattle.lcc_base.specs.Cause.{cause_name}
use Rattle.lcc_base.specs.Taken.{TookPrefix}
use Rattle.lcc_top.proofs.Pieces.{first_of, last_of, both_of}
use Rattle.lcc_top.proofs.report.write_undefined.Goals as goal

pub returns-in-Ok-clause-all : goal.returns-in-Ok-clause-all
returns-in-Ok-clause-all g c =
    let Had : List ℕ → Type 0 = λ w. Appends (g.E.Sink.taken c.args.report.now) (g.E.Sink.taken c.write_three.new.report) (codes "undefined: " ++ w ++ codes " at line ") in
    both_of _ _ _ _ (codes "undefined: " ++ cause_name c.args.cause ++ codes " at line ") (decimal c.args.line ++ codes "\n") (subst Had (c.as_bytes.ensures.value ∙ c.name.ensures) c.in-Ok.ensures.all) c.write_number.ensures.all

pub returns-in-Ok-clause-prefix : goal.returns-in-Ok-clause-prefix
returns-in-Ok-clause-prefix g c =
    let Had : List ℕ → Type 0 = λ w. Appends (g.E.Sink.taken c.args.report.now) (g.E.Sink.taken c.write_three.new.report) (codes "undefined: " ++ w ++ codes " at line ") in
    last_of _ _ _ _ (codes "undefined: " ++ cause_name c.args.cause ++ codes " at line ") (decimal c.args.line ++ codes "\n") (subst Had (c.as_bytes.ensures.value ∙ c.name.ensures) c.in-Ok.ensures.all) c.write_number.ensures.prefix

pub returns-in-Err-clause-prefix : goal.returns-in-Err-clause-prefix
returns-in-Err-clause-prefix g c =
    let Took : List ℕ → Type 0 = λ w. TookPrefix (g.E.Sink.taken c.args.report.now) (g.E.Sink.taken c.write_three.new.report) (codes "undefined: " ++ w ++ codes " at line ") in
    first_of _ _ (codes "undefined: " ++ cause_name c.args.cause ++ codes " at line ") (decimal c.args.line ++ codes "\n") (subst Took (c.as_bytes.ensures.value ∙ c.name.ensures) c.in-Err.ensures.prefix)
