use Rattle.std.proofs.Common.{◌≡◌, ◌≢◌, ◌+◌, ◌-◌, ◌/◌, length, take, drop, sym, ap, ◌∙◌, arith, add-one}
use Rattle.std.proofs.lemmas.Bool.{eqb-false}
use Rattle.std.proofs.lemmas.List.{take_all, length-drop}
use Rattle.switch_tables.specs.Searches.{At, search_over}
use Rattle.switch_tables.proofs.lemmas.Searching.{search_splits}
use Rattle.switch_tables.proofs.search.halved.Goals as goal

pub returns-clause-search : goal.returns-clause-search
returns-clause-search c =
    let some : length c.args.tables.now ≢ 0 = eqb-false (length c.args.tables.now) 0 (sym c.is_empty.ensures ∙ c.if-is_empty.false) in
    let ts = c.args.tables.now in
    let k = length c.args.tables.now / 2 in
    let x = c.index-tables-middle.result in
    let back : take (length c.args.tables.now - (length c.args.tables.now / 2 + 1)) (drop (length c.args.tables.now / 2 + 1) c.args.tables.now) ≡ drop (length c.args.tables.now / 2 + 1) c.args.tables.now =
    take_all (length c.args.tables.now - (length c.args.tables.now / 2 + 1)) (drop (length c.args.tables.now / 2 + 1) c.args.tables.now) (omega (arith, length-drop (length c.args.tables.now / 2 + 1) c.args.tables.now))
    in
    search_splits ts x (omega arith) c.index-tables-middle.is
    ∙ ap (λ rest. At x (search_over (take k ts)) (search_over rest)) (ap (λ j. drop j ts) (sym (add-one (length c.args.tables.now / 2))) ∙ sym back)
