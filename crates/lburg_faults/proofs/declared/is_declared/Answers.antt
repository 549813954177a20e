use Rattle.std.proofs.Common.{sym, ◌∙◌, true≢false}
use Rattle.lburg_lines.specs.Tokens.{views}
use Rattle.lburg_faults.proofs.DeclareText.{all_left, less_left, found_left, nothing_left, text_ended}
use Rattle.lburg_faults.proofs.declared.is_declared.Goals as goal

pub loop-line-init : goal.loop-line-init
loop-line-init c = all_left c.args.name.now c.args.text.now

pub returns-then-is_behind_declarations-clause-no :
    goal.returns-then-is_behind_declarations-clause-no
returns-then-is_behind_declarations-clause-no c = λ terminals h a. absurd (nothing_left c.args.name.now c.args.text.now c.loop-line.section c.loop-line.rest.now (c.is_behind_declarations.ensures.yes c.if-is_behind_declarations.true) c.loop-line.invariant terminals h a)

pub returns-then-line_declares-clause-yes : goal.returns-then-line_declares-clause-yes
returns-then-line_declares-clause-yes c = λ _.
    found_left c.one_text.ensures c.args.name.now c.args.text.now c.loop-line.section c.loop-line.rest.now c.in-Some.behind.now c.in-Some.line.now (views c.in_ok-tokens.tokens.items) (c.is_behind_declarations.ensures.no c.if-is_behind_declarations.false) c.in-Some.ensures.some c.in_ok-tokens.ensures (rw (← c.deref.ensures.value) (c.line_declares.ensures.yes c.if-line_declares.true)) c.loop-line.invariant

pub loop-line-preserved : goal.loop-line-preserved
loop-line-preserved c =
    rw (c.behind-section.ensures, c.deref-in-Some.ensures.value) (less_left c.one_text.ensures c.args.name.now c.args.text.now c.loop-line.section c.loop-line.rest.now c.in-Some.behind.now c.in-Some.line.now (views c.in_ok-tokens.tokens.items) (c.is_behind_declarations.ensures.no c.if-is_behind_declarations.false) c.in-Some.ensures.some c.in_ok-tokens.ensures (λ a. true≢false (sym (c.line_declares.ensures.no (rw c.deref.ensures.value a)) ∙ c.if-line_declares.false)) c.loop-line.invariant)

pub returns-clause-no : goal.returns-clause-no
returns-clause-no c = λ terminals h a. absurd (text_ended c.args.name.now c.args.text.now c.loop-line.section c.loop-line.rest.now c.in_default.ensures.none c.loop-line.invariant terminals h a)
