use Rattle.std.proofs.Common.{[], ◌∷◌, ◌++◌, List, map, ap, ◌∙◌}
use Rattle.c_types.specs.CType.{CType}
use Rattle.c_types.specs.Table.{type_at}
use Rattle.c_meaning.specs.CoreTrees.{seen}
use Rattle.c_meaning.specs.Filling.{filled_by}
use Rattle.c_meaning.specs.StmtTrees.{FilledOf}
use Rattle.c_values.specs.Stays.{grows_on, in_later}
use Rattle.c_initialisers.specs.StoresStay.{stores_later, stores_stay}
use Rattle.c_initialisers.specs.Storing.{stored_in}
use Rattle.c_initialisers.specs.Waiting.{place_in}
use Rattle.c_initialisers.proofs.Stores.{filled_stays}
use Rattle.c_initialisers.proofs.storing.store.Goals as goal

pub store_text-requires-clause-within : goal.store_text-requires-clause-within
store_text-requires-clause-within c = in_later c.args.types.now c.form_value_type.new.types c.form_value_type.ensures.grows.extends c.args.c c.requires.within

pub store_text-requires-clause-places : goal.store_text-requires-clause-places
store_text-requires-clause-places c = stores_later c.args.types.now c.form_value_type.new.types c.form_value_type.ensures.grows.extends c.args.places.now.items c.requires.places

pub returns-in_err-store_text-clause-grows : goal.returns-in_err-store_text-clause-grows
returns-in_err-store_text-clause-grows c = grows_on c.args.types.now c.form_value_type.new.types c.store_text.new.types c.form_value_type.ensures.grows c.store_text.ensures.grows

pub returns-in_ok-store_text-clause-stored : goal.returns-in_ok-store_text-clause-stored
returns-in_ok-store_text-clause-stored c =
    let a = c.args.types.now in
    let b = c.form_value_type.new.types in
    let h = c.form_value_type.ensures.grows.extends in
    let ps = c.args.places.now.items in
    c.in_ok-store_text.ensures.stored
    ∙ ap (λ (xs : List (FilledOf CType)). xs ++ filled_by (place_in b c.args.at) (seen (type_at b) c.args.c) ∷ []) (stores_stay a b h ps c.requires.places)
    ∙ ap (λ (x : FilledOf CType). map (stored_in a) ps ++ x ∷ []) (filled_stays a b h c.args.at c.args.c c.requires.at c.requires.within)

pub returns-in_ok-store_text-clause-grows : goal.returns-in_ok-store_text-clause-grows
returns-in_ok-store_text-clause-grows c = grows_on c.args.types.now c.form_value_type.new.types c.store_text.new.types c.form_value_type.ensures.grows c.store_text.ensures.grows
