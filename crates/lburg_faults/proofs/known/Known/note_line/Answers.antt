use Rattle.std.proofs.Common.{subst, sym}
use Rattle.std.proofs.lemmas.Result.{IfOk-weaker, IfErr-weaker}
use Rattle.lburg_lines.specs.declared.section.Section.{Section}
use Rattle.lburg_lines.specs.Tokens.{views}
use Rattle.lburg_lines.specs.Grammar.{line_of}
use Rattle.lburg_faults.specs.Knowing.{NotesLine, LineFails}
use Rattle.lburg_faults.proofs.known.Known.note_line.Goals as goal

pub returns-in-Rules : goal.returns-in-Rules
returns-in-Rules c = record {
  found = IfOk-weaker c.rule.result _ _ (λ line h s k n set.
      subst (λ (x : Section). NotesLine s (record { section = x; tokens = views c.args.tokens.now }) c.rule.new.self (line_of line)) (sym c.in-Rules.is) (h s k (set.declared c.in-Rules.is))) c.rule.ensures.found;
  fault = IfErr-weaker c.rule.result _ _ (λ e h s k n set.
      subst (λ (x : Section). LineFails s (record { section = x; tokens = views c.args.tokens.now }) e) (sym c.in-Rules.is) (h s k (set.declared c.in-Rules.is))) c.rule.ensures.fault;
}

pub returns-in-Prologue : goal.returns-in-Prologue
returns-in-Prologue c = record {
  found = IfOk-weaker c.other.result _ _ (λ line h s k n set. h s k) c.other.ensures.found;
  fault = IfErr-weaker c.other.result _ _ (λ e h s k n set. h s k) c.other.ensures.fault;
}
