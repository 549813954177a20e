use Rattle.std.proofs.Common.{◌≡◌, sym, ◌∙◌, arith}
use Rattle.std.proofs.lemmas.Bool.Decides.{nat_tests}
use Rattle.first_form.proofs.NextToken.{constant_next, constant_some, name_next, sign_next, no_token}
use Rattle.first_form.proofs.lexing.token_len.Goals as goal

pub returns-then-starts_constant-clause-some : goal.returns-then-starts_constant-clause-some
returns-then-starts_constant-clause-some c = λ l. constant_next c.args.bytes.now c.run_len.result (sym c.starts_constant.ensures ∙ c.if-starts_constant.true) c.run_len.ensures.front c.run_len.ensures.behind c.run_len.ensures.bound

pub returns-then-starts_constant-clause-none : goal.returns-then-starts_constant-clause-none
returns-then-starts_constant-clause-none c = λ l. (let k = constant_some c.args.bytes.now c.run_len.result (sym c.starts_constant.ensures ∙ c.if-starts_constant.true) c.run_len.ensures.behind in absurd (omega arith))

pub returns-then-name-gt0-clause-some : goal.returns-then-name-gt0-clause-some
returns-then-name-gt0-clause-some c = λ l. name_next c.args.bytes.now c.run_len-name.result (sym c.starts_constant.ensures ∙ c.if-starts_constant.false) c.run_len-name.ensures.front c.run_len-name.ensures.behind l c.run_len-name.ensures.bound

pub returns-else-name-gt0-clause-some : goal.returns-else-name-gt0-clause-some
returns-else-name-gt0-clause-some c = λ l.
    let k : c.run_len-name.result ≡ 0 = grind (arith, nat_tests) in
    sign_next c.args.bytes.now c.sign_len.result c.run_len-name.result (sym c.starts_constant.ensures ∙ c.if-starts_constant.false) c.run_len-name.ensures.behind k (c.sign_len.ensures.some l) c.sign_len.ensures.longest c.sign_len.ensures.bound

pub returns-else-name-gt0-clause-none : goal.returns-else-name-gt0-clause-none
returns-else-name-gt0-clause-none c = λ l.
    let k : c.run_len-name.result ≡ 0 = grind (arith, nat_tests) in
    no_token c.args.bytes.now c.sign_len.result c.run_len-name.result (sym c.starts_constant.ensures ∙ c.if-starts_constant.false) c.run_len-name.ensures.behind k c.sign_len.ensures.longest l
