use Rattle.std.proofs.Common.{◌≡◌, ◌++◌, ◌∷◌, []}
use Rattle.std.proofs.lemmas.List.{map_push}
use Rattle.asm_lines.specs.declared.token.Token.{Token}
use Rattle.asm_lines.specs.Tokens.{view, views}
use Rattle.asm_lines.proofs.Blanks.{steps, ends, leads_all, leads_more}
use Rattle.asm_lines.proofs.lexing.add_tokens.Goals as goal

pub returns-then-is_remark : goal.returns-then-is_remark
returns-then-is_remark c =
    let skip = c.skip_spaces-is_spaced in
    leads_all _ _ _ c.loop-behind.invariant (ends c.loop-behind.rest.now skip.result.1.now skip.result.0 skip.ensures.skips (c.is_remark.ensures.yes c.if-is_remark.true))

pub loop-behind-preserved : goal.loop-behind-preserved
loop-behind-preserved c =
    let skip = c.skip_spaces-is_spaced in
    let t : Token = record { text = c.in-Some.next.text; kind = c.in-Some.next.kind; is_spaced = skip.result.0 } in
    let e : views c.push.new.self.items ≡ views c.loop-behind.tokens.items ++ view t ∷ [] = rw c.in_ok-push-in-Some.ensures.items (map_push _ c.loop-behind.tokens.items t) in
    let start = c.is_remark.ensures.no c.if-is_remark.false skip.ensures.stops in
    leads_more _ _ (view t) _ c.loop-behind.rest.now c.in-Some.next.rest.now c.loop-behind.invariant e (λ ts s. steps c.loop-behind.rest.now skip.result.1.now c.in-Some.next.rest.now (view t).tok skip.result.0 ts skip.ensures.skips start c.in-Some.ensures.some s)
