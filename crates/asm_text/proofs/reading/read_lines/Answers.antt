use Rattle.std.proofs.Common.{List, ℕ, subst, arith}
use Rattle.lcc_text.specs.Lines.{lines_of}
use Rattle.asm_lines.specs.Spelling.{Spells}
use Rattle.asm_lines.specs.Tokens.{views}
use Rattle.asm_text.proofs.ReadLines.{HasRead, read_more}
use Rattle.asm_text.proofs.reading.read_lines.Goals as goal

pub loop-line-preserved : goal.loop-line-preserved
loop-line-preserved c =
    let R : List (List ℕ) → Type 0 = λ texts. HasRead c.args.text.now c.loop-line.before texts c.loop-line.assembly in
    let tokens = views c.deref.result.now in
    let spelled : Spells tokens c.in-Some.line.now = rw c.deref.ensures.value c.in_ok-add_tokens.ensures in
    let made = c.in_ok-add_line.ensures.made in
    record {
      read = read_more c.args.text.now c.loop-line.before c.in-Some.line.now (lines_of c.in-Some.behind.now) c.loop-line.assembly tokens made.0 c.add_line.new.self (subst R c.in-Some.ensures.some c.loop-line.invariant.read) spelled made.1 made.2 made.3 made.4 c.in_ok-add_line.ensures.within;
      few = omega (arith, c.in-Some.ensures.shorter);
    }
