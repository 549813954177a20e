use Rattle.std.proofs.Common.{◌≡◌, ◌<◌, ◌^◌, length, map, sym, ap, ◌∙◌, subst, arith}
use Rattle.c_meaning.specs.declared.core_stmt.CoreCase.{CoreCase}
use Rattle.switch_tables.specs.Cases.{AreWords}
use Rattle.switch_tables.specs.Order.{rising, IsRising}
use Rattle.switch_tables.specs.Cuts.{cut}
use Rattle.switch_tables.specs.Tables.{label_count, table_of, tables_of}
use Rattle.switch_tables.specs.Searches.{found, search_over}
use Rattle.switch_tables.proofs.lemmas.Sorting.{rising_all, rising_rises, length_rising}
use Rattle.switch_tables.proofs.lemmas.Cutting.{joined_cut, cut_is_half_full, labels_are_few}
use Rattle.switch_tables.proofs.lemmas.Searching.{numbers_lead}
use Rattle.switch_tables.proofs.cutting.tables.Goals as goal

pub cut_all-requires-clause-words : goal.cut_all-requires-clause-words
cut_all-requires-clause-words c =
    subst AreWords (sym (c.deref.ensures.value ∙ c.in_ok-sorted.ensures.sorted)) (rising_all (λ (d : CoreCase). d.number < 2 ^ 32) c.args.signed c.args.cases.now c.in_ok-sorted.ensures.words)

pub cut_all-requires-clause-rising : goal.cut_all-requires-clause-rising
cut_all-requires-clause-rising c =
    subst (IsRising c.args.signed) (sym (c.deref.ensures.value ∙ c.in_ok-sorted.ensures.sorted)) (rising_rises c.args.signed c.args.cases.now c.in_ok-sorted.ensures.words c.requires)

pub returns-clause-leads : goal.returns-clause-leads
returns-clause-leads c n w =
    let made : c.from_vec.result ≡ tables_of c.args.signed c.args.default c.args.cases.now =
    c.from_vec.ensures ∙ (c.in_ok-tables.ensures ∙ ap (λ cs. map (table_of c.args.default) (cut cs)) (c.deref.ensures.value ∙ c.in_ok-sorted.ensures.sorted))
    in
    ap (λ ts. found c.args.signed c.args.default n (search_over ts)) made
    ∙ numbers_lead c.args.signed c.args.cases.now c.args.default n c.in_ok-sorted.ensures.words c.requires w

pub returns-clause-size : goal.returns-clause-size
returns-clause-size c =
    let sorted = rising c.args.signed c.args.cases.now in
    let words = rising_all (λ (d : CoreCase). d.number < 2 ^ 32) c.args.signed c.args.cases.now c.in_ok-sorted.ensures.words in
    let made = c.from_vec.ensures ∙ (c.in_ok-tables.ensures ∙ ap (λ cs. map (table_of c.args.default) (cut cs)) (c.deref.ensures.value ∙ c.in_ok-sorted.ensures.sorted)) in
    let few = labels_are_few c.args.default (cut sorted) (cut_is_half_full sorted words) in
    let count = ap length (joined_cut sorted) ∙ length_rising c.args.signed c.args.cases.now in
    let same = ap label_count made in
    omega (arith, few, count, same)
