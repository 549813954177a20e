use Rattle.std.proofs.Common.{refl, Option, subst}
use Rattle.std.proofs.lemmas.Result.{err_from_is_err_and}
use Rattle.lburg_lines.specs.Sections.{TokenLine}
use Rattle.lburg_lines.specs.Tokens.{views}
use Rattle.lburg_lines.specs.Grammar.{line_of}
use Rattle.lburg_faults.specs.declared.found.Found.{Found}
use Rattle.lburg_faults.specs.Scans.{Scanned}
use Rattle.lburg_faults.specs.LineEnds.{RuleRows}
use Rattle.lburg_faults.proofs.EndingNodes.{of_rules}
use Rattle.lburg_faults.proofs.EndingParts.{ending_begun}
use Rattle.lburg_faults.proofs.EndingMain.{whole_line}
use Rattle.lburg_faults.proofs.EndingKnown.{known_uses}
use Rattle.lburg_faults.proofs.EndingNotes.{rule_found, rule_fails}
use Rattle.lburg_faults.proofs.known.Known.rule.Goals as goal

pub returns-clause-found : goal.returns-clause-found
returns-clause-found c = λ s k t.
    let l : TokenLine = of_rules (views c.args.tokens.now) in
    let e = c.in_ok-end.end in
    let is = c.in_ok-end.ensures.ends in
    let begun = ending_begun l e is in
    let uses = known_uses s.terminals s.before c.args.self.now c.note_names.new.self k c.in_ok-named.ensures.terminals c.in_ok-named.ensures.arities in
    let o = c.in_ok-line.ensures.ok in
    let none = c.earlier.ensures.none o.0 in
    let first = c.earlier.ensures.first s l e.bound refl (c.in_ok-named.ensures.scanned s l k t refl refl begun) (c.in_ok-used.ensures.scanned s l uses t refl refl begun) in
    let w = whole_line l e c.in_ok-line.line is o.1 in
    rule_found s l e c.in_ok-line.line c.args.self.now c.note_names.new.self c.note_uses.new.self c.count.new.self refl is c.in_ok-end.ensures.small o.1
    (subst (λ (x : Option Found). Scanned RuleRows s l e.bound x) o.0 first) k
    (c.in_ok-named.ensures.known none.0 s l k t refl refl (line_of c.in_ok-line.line, w.1) w.0)
    (c.in_ok-used.ensures.known none.1 s l uses t refl refl (line_of c.in_ok-line.line, w.1) w.0) c.count.ensures

pub returns-in_err-line-clause-fault : goal.returns-in_err-line-clause-fault
returns-in_err-line-clause-fault c =
    let p = err_from_is_err_and c.from_residual-in_err-line.result c.from_residual-in_err-line.ensures.1 in
    rw (p.1, p.2) (λ s k t.
    let l : TokenLine = of_rules (views c.args.tokens.now) in
    let e = c.in_ok-end.end in
    let is = c.in_ok-end.ensures.ends in
    let begun = ending_begun l e is in
    let uses = known_uses s.terminals s.before c.args.self.now c.note_names.new.self k c.in_ok-named.ensures.terminals c.in_ok-named.ensures.arities in
    let first = c.earlier.ensures.first s l e.bound refl (c.in_ok-named.ensures.scanned s l k t refl refl begun) (c.in_ok-used.ensures.scanned s l uses t refl refl begun) in
    rule_fails s l e c.earlier.result _ refl is c.in_ok-end.ensures.small first c.in_err-line.ensures.err)
