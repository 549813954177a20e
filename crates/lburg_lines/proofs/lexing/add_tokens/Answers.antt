use Rattle.std.proofs.Common.{◌≡◌, ◌++◌, ◌∷◌, []}
use Rattle.std.proofs.lemmas.List.{map_push}
use Rattle.lburg_lines.specs.Tokens.{Wrong, view, views}
use Rattle.lburg_lines.specs.declared.token.Token.TheVariants.{Bad}
use Rattle.lburg_lines.proofs.Blanks.{steps, stops, ends, nonempty, emptied, adds_none, adds_one, adds_all, adds_last}
use Rattle.lburg_lines.proofs.lexing.add_tokens.Goals as goal

pub loop-behind-init : goal.loop-behind-init
loop-behind-init c = adds_none (views c.args.found.now.items) c.args.bytes.now

pub returns-then-is_empty : goal.returns-then-is_empty
returns-then-is_empty c =
    let behind = c.skip_blanks-behind.result.now in
    adds_all _ (views c.loop-behind.found.items) _ c.loop-behind.rest.now c.loop-behind.invariant (ends c.loop-behind.rest.now behind c.skip_blanks-behind.ensures.skips (emptied behind c.is_empty.result c.if-is_empty.true c.is_empty.ensures))

pub loop-behind-preserved : goal.loop-behind-preserved
loop-behind-preserved c =
    let behind = c.skip_blanks-behind.result.now in
    let e : views c.push.new.self.items ≡ views c.loop-behind.found.items ++ view c.in-Some.token ∷ [] = rw c.in_ok-push-in-Some.ensures.items (map_push _ c.loop-behind.found.items c.in-Some.token) in
    let n = nonempty behind c.is_empty.result c.if-is_empty.false c.is_empty.ensures in
    adds_one _ (views c.loop-behind.found.items) _ (view c.in-Some.token) _ c.loop-behind.rest.now c.in-Some.after.now c.loop-behind.invariant e (λ ts s. steps c.loop-behind.rest.now behind c.in-Some.after.now (view c.in-Some.token) ts c.skip_blanks-behind.ensures.skips c.skip_blanks-behind.ensures.stops n c.in-Some.ensures.some s)

pub returns-in-None : goal.returns-in-None
returns-in-None c =
    let behind = c.skip_blanks-behind.result.now in
    let e : views c.push-in-None.new.self.items ≡ views c.loop-behind.found.items ++ Wrong ∷ [] = rw c.in_ok-push-in-None.ensures.items (map_push _ c.loop-behind.found.items Bad) in
    let n = nonempty behind c.is_empty.result c.if-is_empty.false c.is_empty.ensures in
    adds_last _ (views c.loop-behind.found.items) _ Wrong _ c.loop-behind.rest.now c.loop-behind.invariant e (stops c.loop-behind.rest.now behind c.skip_blanks-behind.ensures.skips c.skip_blanks-behind.ensures.stops n c.in-None.ensures.none)
