use Rattle.std.proofs.Common.{ℕ, List, ◌++◌, ◌∙◌, subst}
use Rattle.std.specs.Prelude.{codes, decimal, OnOk, OnErr}
use Rattle.std.specs.Io.KnownBytes.{Appends}
use Rattle.lcc_base.specs.Taken.{TookPrefix}
use Rattle.lcc_top.proofs.Pieces.{first_of, last_of, both_of}
use Rattle.lcc_top.proofs.report.write_at_line.Goals as goal

pub returns-in-Ok-clause-all : goal.returns-in-Ok-clause-all
returns-in-Ok-clause-all g c =
    let Had : List ℕ → Type 0 = λ w. Appends (g.E.Sink.taken c.args.report.now) (g.E.Sink.taken c.write_three.new.report) (codes "line " ++ w ++ codes ": ") in
    let Named : List ℕ → Type 0 = λ w. OnOk c.write_three-in-Ok.result (Appends (g.E.Sink.taken c.write_three.new.report) (g.E.Sink.taken c.write_three-in-Ok.new.report) (c.args.kind.now ++ w ++ codes "\n")) in
    let had = subst Had (c.as_bytes.ensures.value ∙ c.format.ensures.text) c.in-Ok.ensures.all in
    let named = subst Named c.as_bytes-in-Ok.ensures.value c.write_three-in-Ok.ensures.all in
    both_of _ _ _ _ (codes "line " ++ decimal c.args.line ++ codes ": ") (c.args.kind.now ++ c.args.name.now ++ codes "\n") had named

pub returns-in-Ok-clause-prefix : goal.returns-in-Ok-clause-prefix
returns-in-Ok-clause-prefix g c =
    let Had : List ℕ → Type 0 = λ w. Appends (g.E.Sink.taken c.args.report.now) (g.E.Sink.taken c.write_three.new.report) (codes "line " ++ w ++ codes ": ") in
    let Named : List ℕ → Type 0 = λ w. OnErr c.write_three-in-Ok.result (TookPrefix (g.E.Sink.taken c.write_three.new.report) (g.E.Sink.taken c.write_three-in-Ok.new.report) (c.args.kind.now ++ w ++ codes "\n")) in
    let had = subst Had (c.as_bytes.ensures.value ∙ c.format.ensures.text) c.in-Ok.ensures.all in
    let named = subst Named c.as_bytes-in-Ok.ensures.value c.write_three-in-Ok.ensures.prefix in
    last_of _ _ _ _ (codes "line " ++ decimal c.args.line ++ codes ": ") (c.args.kind.now ++ c.args.name.now ++ codes "\n") had named

pub returns-in-Err-clause-prefix : goal.returns-in-Err-clause-prefix
returns-in-Err-clause-prefix g c =
    let Took : List ℕ → Type 0 = λ w. TookPrefix (g.E.Sink.taken c.args.report.now) (g.E.Sink.taken c.write_three.new.report) (codes "line " ++ w ++ codes ": ") in
    first_of _ _ (codes "line " ++ decimal c.args.line ++ codes ": ") (c.args.kind.now ++ c.args.name.now ++ codes "\n") (subst Took (c.as_bytes.ensures.value ∙ c.format.ensures.text) c.in-Err.ensures.prefix)
