use Rattle.std.proofs.Common.{◌≡◌, ◌+◌, ◌++◌, length, take, drop}
use Rattle.std.specs.Prelude.{All}
use Rattle.asm_text.specs.LineBack.{IsLineBack}
use Rattle.asm_text.specs.LineTable.{lines_behind, AreLineTable}
use Rattle.asm_text.specs.Printed.{lines_text}
use Rattle.asm_text.proofs.printing.add_lines.Given as goal

abbrev pub invariant-loop-line : goal.invariant-loop-line
invariant-loop-line l = record {
  table : AreLineTable l.names l.rest (drop l.line-index l.lines);
  left : lines_behind l.names (1 + l.line-index) l.rest (drop l.line-index l.lines) ≡ drop l.line-index (lines_behind l.names 1 l.labels l.lines);
  text : l.out ++ lines_text (drop l.line-index (lines_behind l.names 1 l.labels l.lines)) ≡ l.fn.out ++ lines_text (lines_behind l.names 1 l.labels l.lines);
  back : All IsLineBack (take l.line-index (lines_behind l.names 1 l.labels l.lines));
}
