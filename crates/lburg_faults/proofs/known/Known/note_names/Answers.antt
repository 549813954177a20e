use Rattle.std.proofs.Common.{Option, arith, subst}
use Rattle.std.proofs.lemmas.Result.{IfOk-weaker}
use Rattle.lcc_text.specs.Names.{bytes_of}
use Rattle.lburg_lines.specs.Tokens.{views}
use Rattle.lburg_faults.specs.declared.line_fault.LineFault.{LineFault}
use Rattle.lburg_faults.proofs.RuleNames.{FirstGives}
use Rattle.lburg_faults.proofs.RuleLine.{IsPatternEnd, first_scanned, rest_scanned, all_known, none_known}
use Rattle.lburg_faults.proofs.known.Known.note_names.Goals as goal

pub returns-then-bound-eq0-clause-known : goal.returns-then-bound-eq0-clause-known
returns-then-bound-eq0-clause-known c = none_known (views c.args.tokens.now) c.args.self.now c.args.bound c.if-bound-eq0.true

pub returns-in-Some-clause-scanned : goal.returns-in-Some-clause-scanned
returns-in-Some-clause-scanned c =
    let P : Option LineFault → Type 0 = λ f. FirstGives (views c.args.tokens.now) c.args.self.now (bytes_of c.note_first.new.self.nonterminals) f in
    first_scanned (views c.args.tokens.now) c.args.self.now (bytes_of c.note_first.new.self.nonterminals) c.args.bound c.in-Some.fault (omega arith) (subst P c.in-Some.is c.in_ok-fault.ensures.gives)

pub returns-clause-scanned : goal.returns-clause-scanned
returns-clause-scanned c =
    let P : Option LineFault → Type 0 = λ f. FirstGives (views c.args.tokens.now) c.args.self.now (bytes_of c.note_first.new.self.nonterminals) f in
    let end : IsPatternEnd (views c.args.tokens.now) c.args.bound c.pattern_end.result = record { within = c.pattern_end.ensures.within; none = c.pattern_end.ensures.none; behind = c.pattern_end.ensures.behind } in
    IfOk-weaker _ _ _ (rest_scanned (views c.args.tokens.now) c.args.self.now c.note_first.new.self (bytes_of c.note_nodes.new.self.nonterminals) c.args.bound c.pattern_end.result (omega arith) end (subst P c.in_default.is c.in_ok-fault.ensures.gives) c.in_ok-fault.ensures.terminals) c.note_nodes.ensures.give

pub returns-clause-known : goal.returns-clause-known
returns-clause-known c =
    let P : Option LineFault → Type 0 = λ f. FirstGives (views c.args.tokens.now) c.args.self.now (bytes_of c.note_first.new.self.nonterminals) f in
    let end : IsPatternEnd (views c.args.tokens.now) c.args.bound c.pattern_end.result = record { within = c.pattern_end.ensures.within; none = c.pattern_end.ensures.none; behind = c.pattern_end.ensures.behind } in
    all_known c.note_nodes.result (views c.args.tokens.now) c.args.self.now c.note_first.new.self c.note_nodes.new.self c.args.bound c.pattern_end.result (omega arith) end (subst P c.in_default.is c.in_ok-fault.ensures.gives)
    c.in_ok-fault.ensures.terminals c.in_ok-fault.ensures.numbers c.in_ok-fault.ensures.arities c.in_ok-fault.ensures.start c.in_ok-fault.ensures.rules
    c.note_nodes.ensures.terminals c.note_nodes.ensures.numbers c.note_nodes.ensures.arities c.note_nodes.ensures.start c.note_nodes.ensures.rules c.note_nodes.ensures.give
