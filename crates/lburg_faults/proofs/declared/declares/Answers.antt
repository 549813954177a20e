use Rattle.std.proofs.Common.{◌≡◌, List, drop, ◌+◌, ◌∷◌, ap, sym, ◌∙◌, arith}
use Rattle.std.proofs.lemmas.List.{drop-drop}
use Rattle.std.proofs.lemmas.Slice.Eq.{bytes_eq-Decides}
use Rattle.lburg_lines.specs.declared.token.Token.{Token}
use Rattle.lburg_lines.specs.Tokens.{views}
use Rattle.lburg_faults.specs.Terminals.{names_of, numbered}
use Rattle.lburg_faults.proofs.DeclareText.{named_more, named_here, unlike}
use Rattle.lburg_faults.proofs.declared.declares.Goals as goal

pub returns-then-eq-clause-yes : goal.returns-then-eq-clause-yes
returns-then-eq-clause-yes c = λ _.
    named_here c.args.name.now c.in-Some.other.now (names_of (numbered (views c.split_at.result.1.now))) (names_of (numbered (views (drop 3 c.split_at.result.1.now)))) (names_of (numbered (views c.args.tokens.now))) c.in-Some.ensures.some ((bytes_eq-Decides c.in-Some.other.now c.args.name.now).0 (sym c.eq.ensures ∙ c.if-eq.true)) (rw c.split_at.ensures.back c.loop-at.invariant.yes)

pub loop-at-preserved : goal.loop-at-preserved
loop-at-preserved c =
    let here = names_of (numbered (views (drop c.loop-at.at c.args.tokens.now))) in
    let e : names_of (numbered (views c.split_at.result.1.now)) ≡ here = ap (λ (ts : List Token). names_of (numbered (views ts))) c.split_at.ensures.back in
    let f : drop 3 c.split_at.result.1.now ≡ drop (c.loop-at.at + 3) c.args.tokens.now = ap (λ (ts : List Token). drop 3 ts) c.split_at.ensures.back ∙ drop-drop 3 c.loop-at.at c.args.tokens.now in
    let r = named_more c.args.name.now c.in-Some.other.now here (names_of (numbered (views (drop (c.loop-at.at + 3) c.args.tokens.now)))) (names_of (numbered (views c.args.tokens.now))) (sym e ∙ c.in-Some.ensures.some ∙ ap (λ (ts : List Token). c.in-Some.other.now ∷ names_of (numbered (views ts))) f) (unlike c.in-Some.other.now c.args.name.now (sym c.eq.ensures ∙ c.if-eq.false)) c.loop-at.invariant.yes c.loop-at.invariant.no in
    record {
      within = omega (arith, c.in-Some.ensures.long, c.split_at.ensures.back_len);
      yes = r.0;
      no = r.1;
    }
