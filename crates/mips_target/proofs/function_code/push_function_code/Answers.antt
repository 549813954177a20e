use Rattle.std.proofs.Common.{rules, ◌≡◌, ◌+◌, ◌≤◌, ◌<◌, ◌++◌, length, drop, sym, subst}
use Rattle.mips_target.specs.FunctionCode.{body_of, function_code}
use Rattle.unit_text.specs.UnitLines.{numbered, label_text, code_lines}
use Rattle.mips_target.specs.Sizes.{Fits}
use Rattle.mips_target.proofs.Bodies.{body_at, fits_at}
use Rattle.mips_target.proofs.function_code.push_function_code.Goals as goal

pub loop-instr-preserved : goal.loop-instr-preserved
loop-instr-preserved c =
    let names = c.args.names.now in
    let layout = c.args.layout in
    let code = c.args.code.now in
    let n = c.loop-instr.instr-index in
    let new = c.push_instructions.new.lines in
    let i = c.loop-instr.invariant in
    let all = c.args.lines.now ++ numbered (length c.args.lines.now + 1) (code_lines label_text (function_code names layout code)) in
    let lt : n < length code = search rules in
    let handed = c.handed_behind-handed.ensures in
    let few : c.handed_behind-handed.result ≤ n + 1 = search rules in
    record {
      pushed = subst (λ k. new ++ numbered (length new + 1) (code_lines label_text (body_of names layout k (drop (n + 1) code))) ≡ all) (sym handed) (body_at names layout c.loop-instr.handed code n _ c.loop-instr.lines new all lt c.in_ok-push_instructions.ensures i.pushed);
      fits = subst (λ k. Fits names layout k (drop (n + 1) code)) (sym handed) (fits_at names layout c.loop-instr.handed code n _ lt i.fits).1;
      few = few;
    }
