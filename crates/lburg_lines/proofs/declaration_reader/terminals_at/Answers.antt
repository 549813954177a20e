use Rattle.std.proofs.Common.{◌≡◌, ◌++◌, ◌∷◌, [], map, arith}
use Rattle.std.proofs.lemmas.List.{map_push}
use Rattle.std.proofs.lemmas.Result.{err_from_is_err_and}
use Rattle.lburg_lines.specs.Grammar.{numbered_of}
use Rattle.lburg_lines.proofs.Declarations.{stuck_behind, terminals_more}
use Rattle.lburg_lines.proofs.declaration_reader.terminals_at.Goals as goal

pub returns-in_err-terminal-clause-stuck : goal.returns-in_err-terminal-clause-stuck
returns-in_err-terminal-clause-stuck c =
    let p = err_from_is_err_and c.from_residual.result c.from_residual.ensures.1 in
    rw (p.1, p.2) (stuck_behind (map numbered_of c.loop-at.found.items) c.args.tokens.now c.split_at.result.1.now c.loop-at.at c.in_err-terminal.field-0.0 c.split_at.ensures.back c.loop-at.invariant.1 c.in_err-terminal.ensures.stuck)

pub loop-at-preserved : goal.loop-at-preserved
loop-at-preserved c =
    let e : map numbered_of c.push.new.self.items ≡ map numbered_of c.loop-at.found.items ++ numbered_of c.in_ok-terminal.terminal ∷ [] = rw c.in_ok-push.ensures.items (map_push _ c.loop-at.found.items c.in_ok-terminal.terminal) in
    (omega (arith, c.in_ok-terminal.ensures.long), terminals_more (map numbered_of c.loop-at.found.items) (map numbered_of c.push.new.self.items) (numbered_of c.in_ok-terminal.terminal) c.args.tokens.now c.split_at.result.1.now c.loop-at.at c.split_at.ensures.back e c.in_ok-terminal.ensures.ok c.loop-at.invariant.1)
