use Rattle.std.proofs.Common.{◌≡◌, ◌++◌, ◌∷◌, [], ℕ, List, Result, Ok, Err, map, length, sym, ap, ◌∙◌}
use Rattle.std.proofs.lemmas.List.{length-map}
use Rattle.std.specs.Prelude.{OnErr, take}
use Rattle.std.specs.Borrow.{Bor}
use Rattle.asm_lines.specs.Statements.{told}
use Rattle.asm_text.proofs.GrownNames.{grown_more}
use Rattle.asm_text.proofs.LineTables.{lines_grown, table_pushed, view_pushed, view_kept}
use Rattle.asm_text.proofs.lines.Lines.push.Goals as goal

on_err : {T E P : Type 0} (r : Result T E) → P → OnErr r P
on_err {T} {E} {P} (Ok x) p = tt
on_err {T} {E} {P} (Err e) p = p

pub returns-in_err-statement-clause-err : goal.returns-in_err-statement-clause-err
returns-in_err-statement-clause-err c =
    let t = c.self.invariant in
    on_err c.from_residual.result (lines_grown c.self.inside.names c.kept.new.names c.kept.ensures.grown 1 c.self.inside.labels.items c.self.inside.lines.items t.named t.statements ∙ c.self.view_is)

pub invariant_of-self-in-Ok : goal.invariant_of-self-in-Ok
invariant_of-self-in-Ok c =
    let labels = map (λ (n : Bor (List ℕ)). n.now) c.args.labels.now in
    table_pushed c.self.inside.names c.kept.new.names c.add_line.new.names c.self.inside.labels.items c.add_line.new.numbers.items c.self.inside.lines.items c.add_line.new.lines.items labels _ c.kept.ensures.grown c.add_line.ensures.grown c.self.invariant c.in-Ok.ensures.labels c.in-Ok.ensures.lines (sym (length-map c.args.labels.now (λ (n : Bor (List ℕ)). n.now))) c.in_ok-statement.ensures.below

pub returns-in-Ok-clause-ok : goal.returns-in-Ok-clause-ok
returns-in-Ok-clause-ok c =
    let labels = map (λ (n : Bor (List ℕ)). n.now) c.args.labels.now in
    view_pushed c.self.inside.names c.kept.new.names c.add_line.new.names c.self.inside.labels.items c.add_line.new.numbers.items c.self.inside.lines.items c.add_line.new.lines.items labels _ c.kept.ensures.grown c.add_line.ensures.grown c.self.invariant c.in-Ok.ensures.labels c.in-Ok.ensures.lines (sym (length-map c.args.labels.now (λ (n : Bor (List ℕ)). n.now))) c.in_ok-statement.ensures.below (told c.args.statement) c.args.self.now c.in_ok-statement.ensures.same c.self.view_is

pub returns-in-Err-clause-err : goal.returns-in-Err-clause-err
returns-in-Err-clause-err c =
    let g = grown_more c.self.inside.names c.kept.new.names c.add_line.new.names c.kept.ensures.grown c.add_line.ensures.grown in
    let before = c.len-before.ensures ∙ c.self.inside.labels.ok.0 in
    view_kept c.self.inside.names c.add_line.new.names c.self.inside.labels.items c.add_line.new.numbers.items c.truncate.new.self.items c.self.inside.lines.items c.add_line.new.lines.items c.args.self.now g c.self.invariant c.add_line.ensures.front (c.truncate.ensures.items ∙ ap (λ (n : ℕ). take n c.add_line.new.numbers.items) before) c.in-Err.ensures.err c.self.view_is
