use Rattle.std.proofs.Common.{◌≡◌, ◌++◌, ℕ, List, sym, subst, ap, ◌∙◌}
use Rattle.std.specs.Prelude.{All}
use Rattle.lcc_text.specs.Lines.{lines_of}
use Rattle.asm_text.specs.declared.lines.Line.{Line}
use Rattle.asm_text.specs.LineBack.{IsLineBack}
use Rattle.asm_text.specs.Lines.{MLine, AreLines}
use Rattle.asm_text.specs.LineTable.{lines_behind}
use Rattle.asm_text.specs.Printable.{ArePrintable}
use Rattle.asm_text.specs.Printed.{lines_text}
use Rattle.asm_text.proofs.ReadBack.{lines_back}
use Rattle.asm_text.proofs.printing.print.Goals as goal

-- the lines that were printed
seen : (c : goal.In_ok-add_lines) → lines_behind c.lines.inside.names 1 c.deref.result.now c.deref-2.result.now ≡ c.args.lines.now
seen c =
    let names = c.lines.inside.names in
    ap (λ (ls : List ℕ). lines_behind names 1 ls c.deref-2.result.now) c.deref.ensures.value ∙ ap (λ (ls : List Line). lines_behind names 1 c.lines.inside.labels.items ls) c.deref-2.ensures.value ∙ c.lines.view_is

printed : (c : goal.In_ok-add_lines) → c.add_lines.new.out ≡ lines_text c.args.lines.now
printed c =
    c.in_ok-add_lines.ensures.text ∙ ap (λ (t : List ℕ). t ++ lines_text (lines_behind c.lines.inside.names 1 c.deref.result.now c.deref-2.result.now)) c.new-out.ensures ∙ ap lines_text (seen c)

spelled : (c : goal.In_ok-add_lines) → ArePrintable c.args.lines.now → AreLines (lines_of c.add_lines.new.out) 1 c.args.lines.now
spelled c p =
    let back = subst (λ (ms : List MLine). All IsLineBack ms) (seen c) c.in_ok-add_lines.ensures.back in
    subst (λ (t : List ℕ). AreLines (lines_of t) 1 c.args.lines.now) (sym (printed c)) (lines_back 1 c.args.lines.now back p)

pub returns-clause-lines : goal.returns-clause-lines
returns-clause-lines c = spelled c

pub returns-clause-program : goal.returns-clause-program
returns-clause-program c =
    λ p printable made. record { lines = c.args.lines.now; spelled = spelled c printable; made = made }
