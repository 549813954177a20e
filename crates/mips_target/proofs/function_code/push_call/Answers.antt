use Rattle.std.proofs.Common.{rules, ◌≡◌, [], min, get_or, ap, ◌∙◌}
use Rattle.std.proofs.lemmas.List.{get_or_default}
use Rattle.std.proofs.lemmas.Result.{on_ok_weaker}
use Rattle.asm_lines.specs.declared.instruction.Instruction.TheVariants.{Call}
use Rattle.asm_lines.specs.declared.instruction.Target.TheVariants as target
use Rattle.asm_lines.specs.Statements.{MStatement, Does, told}
use Rattle.mips_target.proofs.Bodies.{loaded, called}
use Rattle.mips_target.proofs.function_code.push_call.Goals as goal

pub loop-word-preserved : goal.loop-word-preserved
loop-word-preserved c =
    loaded c.args.lines.now c.loop-word.lines c.push_plain.new.lines c.loop-word.word (told c.load.result) (ap told c.load.ensures) c.loop-word.invariant c.in_ok-push_plain.ensures

pub returns : goal.returns
returns c =
    let names = c.args.names.now in
    let name = c.args.name in
    let call : MStatement = Does (Call (target.Label c.as_slice-label.result.now)) in
    let label = c.as_slice-label.ensures ∙ c.index-names-name.is ∙ get_or_default names name _ [] c.requires.name in
    let here : call ≡ Does (Call (target.Label (get_or names name []))) = ap (λ l. Does (Call (target.Label l))) label in
    let words : c.loop-word.word ≡ min c.args.words 4 = search rules in
    on_ok_weaker c.push_plain-3.result (λ moves. called names c.args.words c.loop-word.word c.args.to name call (told c.copy.result) c.args.lines.now c.loop-word.lines c.push_plain-2.new.lines c.push_plain-3.new.lines words here (ap told c.copy.ensures) c.loop-word.invariant c.in_ok-push_plain-2.ensures moves) c.push_plain-3.ensures
