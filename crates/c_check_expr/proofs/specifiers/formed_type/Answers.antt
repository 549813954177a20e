use Rattle.std.proofs.Common.{sym, ap, ◌∙◌}
use Rattle.std.specs.Prelude.{Some, ◌≢◌}
use Rattle.c_types.specs.Table.{type_at}
use Rattle.c_check_expr.proofs.SpecifierLists.{no_place, place_below, place_means, whole_alone, whole_among_words, whole_below, whole_several, words_alone}
use Rattle.c_check_expr.proofs.specifiers.formed_type.Goals as goal

pub returns-in_err-word_type-in-None-clause-means :
    goal.returns-in_err-word_type-in-None-clause-means
returns-in_err-word_type-in-None-clause-means c =
    let t = c.args.types.now in
    let ps = c.args.parts.now in
    rw c.from_residual.ensures (sym (words_alone t ps (sym c.first_whole.ensures ∙ c.in-None.is) ∙ no_place _ (sym (c.word_type.ensures t) ∙ c.in_err-word_type-in-None.was)))

pub basic_type-requires : goal.basic_type-requires
basic_type-requires c = place_below _ c.in_ok-word_type-in-None.field-0 (sym (c.word_type.ensures c.args.types.now) ∙ c.in_ok-word_type-in-None.was)

pub returns-in-Some-clause-means : goal.returns-in-Some-clause-means
returns-in-Some-clause-means c =
    sym (whole_alone c.args.types.now c.args.parts.now c.in-Some.of (sym c.first_whole.ensures ∙ c.in-Some.is) (sym c.whole_count.ensures ∙ c.if-whole_count-eq1.true) (sym c.word_count.ensures ∙ c.if-word_count-eq0.true))

pub returns-in-Some-clause-within : goal.returns-in-Some-clause-within
returns-in-Some-clause-within c = whole_below _ c.args.parts.now c.in-Some.of c.requires (sym c.first_whole.ensures ∙ c.in-Some.is)

pub returns-in-Some-2-clause-means : goal.returns-in-Some-2-clause-means
returns-in-Some-2-clause-means c = let n : c.word_count.result ≢ 0 = c.if-word_count-eq0.false in
    sym (whole_among_words c.args.types.now c.args.parts.now c.in-Some-2.field-0 (sym c.first_whole.ensures ∙ c.in-Some-2.is) (λ h. n (c.word_count.ensures ∙ h)))

pub returns-in-Some-2-2-clause-means : goal.returns-in-Some-2-2-clause-means
returns-in-Some-2-2-clause-means c = let n : c.whole_count.result ≢ 1 = c.if-whole_count-eq1.false in
    sym (whole_several c.args.types.now c.args.parts.now c.in-Some-2.field-0 (sym c.first_whole.ensures ∙ c.in-Some-2.is) (λ h. n (c.whole_count.ensures ∙ h)))

pub returns-in_ok-word_type-in-None-clause-means :
    goal.returns-in_ok-word_type-in-None-clause-means
returns-in_ok-word_type-in-None-clause-means c =
    let t = c.args.types.now in
    let p = c.in_ok-word_type-in-None.field-0 in
    let m = place_means _ p (sym (c.word_type.ensures t) ∙ c.in_ok-word_type-in-None.was) in
    sym (words_alone t c.args.parts.now (sym c.first_whole.ensures ∙ c.in-None.is) ∙ m ∙ ap Some (sym c.basic_type.ensures.means ∙ ap (type_at t) (sym c.basic_type.ensures.is)))
