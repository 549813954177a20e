use Rattle.std.proofs.Common.{◌+◌, ◌++◌, length, sym, ap, ◌∙◌, arith}
use Rattle.c_lexer.specs.Texts.{values_from, text_of}
use Rattle.c_lexer.proofs.PlacedTokens.{shorter}
use Rattle.c_lexer.proofs.Literals.{one_more, no_more}
use Rattle.c_lexer.proofs.literal.text_values.Goals as goal

pub loop-value-init : goal.loop-value-init
loop-value-init c =
    let most = shorter (c.args.token.start + 1) c.args.source.now in
    let same = ap (λ l. length l) c.behind-rest.ensures in
    (omega (arith, most, same, c.requires), length c.args.source.now, (omega (arith, most, same), ap (λ z. z ++ values_from (length c.args.source.now) c.behind-rest.result.now) c.new-values.ensures ∙ ap (λ l. values_from (length c.args.source.now) l) c.behind-rest.ensures))

pub read_quoted-requires : goal.read_quoted-requires
read_quoted-requires c = c.loop-value.invariant.0

pub loop-value-preserved : goal.loop-value-preserved
loop-value-preserved c =
    let i = c.loop-value.invariant in
    let w = c.in-Character.ensures.within in
    let most = shorter c.in-Character.len c.loop-value.rest.now in
    let same = ap (λ l. length l) c.behind-rest-in-Character.ensures in
    let m = one_more i.1 c.in-Character.value c.in-Character.len c.loop-value.rest.now c.behind-rest-in-Character.result.now c.loop-value.values c.push.new.self (text_of c.args.source.now c.args.token) i.2 (sym c.in-Character.ensures.is) w c.behind-rest-in-Character.ensures c.in_ok-push.ensures.ok in
    (omega (arith, most, same, i.0), m.0, m.1)

pub returns : goal.returns
returns c =
    let i = c.loop-value.invariant in
    no_more i.1 c.read_quoted.result c.loop-value.rest.now c.loop-value.values (text_of c.args.source.now c.args.token) i.2 (sym c.read_quoted.ensures.is) (λ v len e. c.in_default.not-Character v len (sym e))
