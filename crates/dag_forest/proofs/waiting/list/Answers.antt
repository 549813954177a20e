use Rattle.std.proofs.Common.{◌≡◌, Vec, Global, List, ◌++◌, ◌∷◌, [], get_or, set, map, ◌∙◌, ap, sym, rules}
use Rattle.std.proofs.lemmas.List.{map-set, get_or-map}
use Rattle.dag_forest.specs.Schedules.{Act}
use Rattle.dag_forest.proofs.waiting.list.Goals as goal

abbrev items_of : Vec Act Global → List Act
items_of v = v.items

pub returns-in_ok-push-clause-ok : goal.returns-in_ok-push-clause-ok
returns-in_ok-push-clause-ok c =
    let lists = c.args.lists.now.items in
    let was : c.index_mut.result.now.items ≡ get_or (map items_of lists) c.args.root [] =
    ap items_of c.index_mut.ensures.value ∙ sym (get_or-map items_of lists c.args.root c.index_mut.result.now [] (search rules)) in
    map-set items_of lists c.args.root c.push.new.self ∙ ap (λ z. set (map items_of lists) c.args.root z) (c.in_ok-push.ensures.items ∙ ap (λ z. z ++ c.args.act ∷ []) was)
