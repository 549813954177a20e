use Rattle.std.proofs.Common.{ℕ, ◌+◌, ◌-◌, length, refl, sym, subst}
use Rattle.lburg_lines.specs.Tokens.{views}
use Rattle.lburg_lines.specs.NamedTree.{named_of}
use Rattle.lburg_faults.specs.Using.{UsedAt}
use Rattle.lburg_faults.proofs.RuleTrees.{few_of, use_found, use_missing}
use Rattle.lburg_faults.proofs.using.use_at.Goals as goal

pub returns-in-Ok-clause-some : goal.returns-in-Ok-clause-some
returns-in-Ok-clause-some c =
    let here = c.split_at.result.1.now in
    let few = c.split_at-2.result.0.now in
    let last = c.args.place + (length few - length c.in-Ok.rest.now - 1) in
    let P : ℕ → Type 0 = λ n. UsedAt (views c.args.tokens.now) c.args.place last n in
    subst P (sym c.operands_of.ensures) (use_found c.args.tokens.now here few c.in-Ok.rest.now (named_of c.in-Ok.tree) c.args.place c.tokens_of_sixteen.result last c.requires c.split_at.ensures.back c.split_at-2.ensures.front (few_of here c.tokens_of_sixteen.result c.tokens_of_sixteen.ensures.within c.tokens_of_sixteen.ensures.few c.tokens_of_sixteen.ensures.next) c.in-Ok.ensures.ok c.in-Ok.ensures.ends c.in-Ok.ensures.shorter refl)

pub returns-in-Err-Stuck-clause-none : goal.returns-in-Err-Stuck-clause-none
returns-in-Err-Stuck-clause-none c =
    let here = c.split_at.result.1.now in
    let h = rw c.in-Err-Stuck.field-0-is at c.in-Err-Stuck.ensures.stuck in
    use_missing c.args.tokens.now here c.split_at-2.result.0.now c.args.place c.tokens_of_sixteen.result c.split_at.ensures.back c.split_at-2.ensures.front (few_of here c.tokens_of_sixteen.result c.tokens_of_sixteen.ensures.within c.tokens_of_sixteen.ensures.few c.tokens_of_sixteen.ensures.next) h.0 h.2
