use Rattle.std.proofs.Common.{sym, ◌∙◌}
use Rattle.lowering_acts.specs.Sites.{context_of, type_in}
use Rattle.c_meaning.specs.Types.{is_record}
use Rattle.c_lower_expr.proofs.lemmas.Making.{word_behind, whole_behind}
use Rattle.c_lower_expr.proofs.calls.pass.Goals as goal

pub returns-in_ok-push : goal.returns-in_ok-push
returns-in_ok-push c =
    let site = c.args.site.now in
    let of = type_in site c.args.of in
    whole_behind (is_record of) (context_of site) of c.args.into.now c.args.passed.now.values.items c.push.new.self.items c.args.passed.now.next c.in_ok-next.next c.args.v c.in_ok-place.place c.copy.new.block
    (sym c.is_whole.ensures ∙ c.if-is_whole.true) c.in_ok-push.ensures.items c.in_ok-next.ensures c.in_ok-place.ensures c.in_ok-copy.ensures

pub returns-in_ok-push-2 : goal.returns-in_ok-push-2
returns-in_ok-push-2 c =
    let site = c.args.site.now in
    let of = type_in site c.args.of in
    word_behind (is_record of) (context_of site) of c.args.into.now c.args.passed.now.values.items c.push-else-is_whole.new.self.items c.args.passed.now.next c.args.v (sym c.is_whole.ensures ∙ c.if-is_whole.false) c.in_ok-push-2.ensures.items
