use Rattle.std.proofs.Common.{ℕ, List, ◌∙◌, subst}
use Rattle.std.specs.Prelude.{OnOk, OnErr, codes}
use Rattle.std.specs.Io.KnownBytes.{Appends}
use Rattle.lcc_base.specs.Taken.{TookPrefix}
use Rattle.asm_text.specs.StuckCause.{cause_name}
use Rattle.outcomes.specs.Outcome.{place_line}
use Rattle.lcc_top.proofs.Pieces.{first_of, last_of, both_of, place_behind}
use Rattle.lcc_top.proofs.report.write_stuck.Goals as goal

pub returns-in-Ok-clause-all : goal.returns-in-Ok-clause-all
returns-in-Ok-clause-all g c =
    let Had : List ℕ → Type 0 = λ l. OnOk c.write_place.result (Appends (g.E.Sink.taken c.args.report.now) (g.E.Sink.taken c.write_place.new.report) l) in
    let Named : List ℕ → Type 0 = λ n. OnOk c.write_place.result (Appends (g.E.Sink.taken c.write_all.new.sink) (g.E.Sink.taken c.write_place.new.report) (place_line n c.args.pc c.args.step)) in
    let named = subst Named (c.as_bytes.ensures.value ∙ c.name.ensures) c.write_place.ensures.all in
    subst Had (place_behind (codes "stuck: ") (cause_name c.args.cause) c.args.pc c.args.step) (both_of c.write_place.result _ _ _ (codes "stuck: ") (place_line (cause_name c.args.cause) c.args.pc c.args.step) c.in-Ok.ensures.all named)

pub returns-in-Ok-clause-prefix : goal.returns-in-Ok-clause-prefix
returns-in-Ok-clause-prefix g c =
    let Took : List ℕ → Type 0 = λ l. OnErr c.write_place.result (TookPrefix (g.E.Sink.taken c.args.report.now) (g.E.Sink.taken c.write_place.new.report) l) in
    let Named : List ℕ → Type 0 = λ n. OnErr c.write_place.result (TookPrefix (g.E.Sink.taken c.write_all.new.sink) (g.E.Sink.taken c.write_place.new.report) (place_line n c.args.pc c.args.step)) in
    let named = subst Named (c.as_bytes.ensures.value ∙ c.name.ensures) c.write_place.ensures.prefix in
    subst Took (place_behind (codes "stuck: ") (cause_name c.args.cause) c.args.pc c.args.step) (last_of c.write_place.result _ _ _ (codes "stuck: ") (place_line (cause_name c.args.cause) c.args.pc c.args.step) c.in-Ok.ensures.all named)

pub returns-in-Err-clause-prefix : goal.returns-in-Err-clause-prefix
returns-in-Err-clause-prefix g c =
    let Took : List ℕ → Type 0 = λ l. TookPrefix (g.E.Sink.taken c.args.report.now) (g.E.Sink.taken c.write_all.new.sink) l in
    subst Took (place_behind (codes "stuck: ") (cause_name c.args.cause) c.args.pc c.args.step) (first_of _ _ (codes "stuck: ") (place_line (cause_name c.args.cause) c.args.pc c.args.step) c.in-Err.ensures.prefix)
