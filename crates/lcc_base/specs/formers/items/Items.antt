-- How `Items` acts on types, so that a type can hold a list of itself: it is the list of its
-- items, each of them a child, and a change of the items' type goes through its one field.
use mathlib.Core.Path.{◌≡◌, refl, sym}
use mathlib.Core.List.{List, []}
use mathlib.Core.Former.{Former, this, list, via, children}
use base.Stored.{code_map}
use denote.RattleType.{RattleType}
use denote.HoleLaws.{Alike}
use denote.HolePlaces.{Recodes, struct_places, laid}
use denote.Hole.Carrier.{listed, list-listed}
use denote.Hole.Fix.{over}
use denote.Param.Weighed.{Weighed, w_list}
use denote.Model.Placed.{view_places}
use Rattle.std.specs.formers.vec.Vec as vec
use Rattle.std.specs.declared.alloc.Global.{Global}
use Rattle.std.specs.contracts.alloc.Global as heap
use Rattle.std.specs.contracts.impls.GlobalAllocator.TheImpl.{ghosts}
use Rattle.lcc_base.specs.declared.items.Items.TheInside.{Inside}
use Rattle.lcc_base.specs.declared.items.Items.TheView.{view, invariant}
use Rattle.lcc_base.specs.contracts.items.Items as whole
use Rattle.lcc_base.specs.contracts.items.Items.TheInside as inside

abbrev pub the_former : Former {0} → Former {0}
the_former item = list item

-- the weight of a list is that of its items
abbrev pub the_weighed : {item : Former {0}} → Weighed item → Weighed (the_former item)
the_weighed weight = w_list weight

abbrev pub the_empty : List ⊥
the_empty = []

abbrev pub the_items : (T : Type 0) → List T → List T
the_items T all = all

-- the children are the items
pub the_items_listed : (T : Type 0) (all : List T) → listed _ (children (the_former this) T all) ≡ the_items T all
the_items_listed T all = list-listed T all

-- the fields, by their one vector
abbrev one_vector : Former {0}
one_vector = via (vec.the_former this Global) Inside (λ T i. i.items) (λ T v. record { items = v }) (λ T i. refl) (λ T v. refl)

module _ (Old New : RattleType) (change : Old.Denot → New.Denot) where
  pub the_places : Alike Old New change → Alike (whole.the_row Old) (whole.the_row New) ((the_former this).map Old.Denot New.Denot change)
  the_places alike = view_places one_vector (list this) view (λ X Y k u. refl) (λ X u. refl) Old.Denot New.Denot change
      (whole.the_row Old).coded (whole.the_row New).coded (invariant Old.Denot) (invariant New.Denot)
      (λ u p q. refl) (λ u p q. refl) (λ u e. tt) (λ u e. tt) (over (inside.the_row Old)) (over (inside.the_row New))
      (struct_places (inside.the_type Old) (inside.the_type New) (vec.mapped change, tt) _ (λ d. refl) refl
      (laid _ _ _ (vec.the_places heap.the_row ghosts Old New change alike), tt))

  pub the_codes_placed : Recodes Old New change → Recodes (whole.the_row Old) (whole.the_row New) ((the_former this).map Old.Denot New.Denot change)
  the_codes_placed recodes all = sym (code_map Old.coded.code New.coded.code change (λ x. sym (recodes x)) all)
