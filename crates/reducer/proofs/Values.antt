-- Derivations as values.
use Rattle.std.proofs.Common.{◌≡◌, ◌≢◌, ℕ, ◌+◌, ◌-◌, Some, None, List, [], ◌∷◌, ◌++◌, map, refl, sym, ap, ◌∙◌, subst, append_assoc}
use Rattle.std.specs.Prelude.{slice_get}
use Rattle.std.proofs.lemmas.List.{append-nil, map-append}
use Rattle.lburg_model.specs.declared.rule.Rule.{Rule}
use Rattle.lburg_model.specs.declared.derivation.Derivation.{Derivation as Value, roll-Derivation, fold-roll-Derivation}
use Rattle.lburg_model.specs.Tree.{MTree, nodes, kids_of}
use Rattle.lburg_model.specs.Pattern.{MPattern, PHole, PLeaf, POne, PTwo, pattern_of}
use Rattle.lburg_model.specs.Derivation.{MDerivation, Apply, NoPart, Part}
use Rattle.lburg_model.specs.DerivationOf.{parts_of, layer, derivation_of}
use Rattle.lburg_model.specs.Best.{IsBestOf, IsBest}
use Rattle.lburg_model.specs.Description.{MDescription}
use Rattle.tree_labeller.specs.MCells.{MCells}
use Rattle.tree_labeller.specs.IsLabelled.{IsLabelled}
use Rattle.tree_labeller.specs.Rows.{Row}
use Rattle.tree_labeller.specs.Indexed.{Parts, Uses, join, erase_in}
use Rattle.tree_labeller.specs.Labelled.{cell, total, Labelled}
use Rattle.tree_labeller.specs.Chosen.{Chosen}
use Rattle.reducer.specs.Built.{GrownBy, Built, PartsAdded}
use Rattle.tree_labeller.proofs.lemmas.Taken.{follower, taken_hole, taken_leaf, taken_one, taken_two}
use Rattle.tree_labeller.proofs.lemmas.Greatest.{follows_best}
use Rattle.tree_labeller.proofs.lemmas.Cover.{is_best_of}

-- the derivation of a value that is made of its parts
value_made : (number : ℕ) (parts : List Value) → derivation_of (roll-Derivation (record { rule = number; parts = parts })) ≡ Apply number (parts_of (map derivation_of parts))
value_made number parts = fold-roll-Derivation MDerivation layer (record { rule = number; parts = parts })

parts_join : (xs ys : List MDerivation) → parts_of (xs ++ ys) ≡ join (parts_of xs) (parts_of ys)
parts_join [] ys = refl
parts_join (x ∷ xs) ys = ap (λ z. Part x z) (parts_join xs ys)

module _ (rows : List Row) (d : List Rule) where
  -- a list has grown by the parts
  abbrev Grown : (p : MPattern) (old new : List Value) (t : MTree) → Parts d p t → Type 0
  Grown p old new t y = GrownBy y old new

  pub built : (w n : ℕ) (t : MTree) (at number : ℕ) (r : Rule) (new : List Value) → Labelled rows d w at t → cell rows at n ≢ None → Chosen rows d n t at number → slice_get d (number - 1) ≡ Some r → PartsAdded rows d (pattern_of r.pattern) t at [] new → Built rows d n t at (roll-Derivation (record { rule = number; parts = new }))
  built w n t at number r new l some ch is (y, tot, fol, (added, grown, same)) =
      let (i, isr, left, ni, follows) = follower rows d w n t at number r y l some ch is tot fol in
      (Uses i r isr left y, follows, value_made number new ∙ ap (λ z. Apply z (parts_of (map derivation_of new))) ni ∙ ap (λ z. Apply (i + 1) (parts_of (map derivation_of z))) grown ∙ ap (Apply (i + 1)) same)

  pub added_hole : (n : ℕ) (t : MTree) (at : ℕ) (x : Value) (old new : List Value) → new ≡ old ++ x ∷ [] → Built rows d n t at x → PartsAdded rows d (PHole n) t at old new
  added_hole n t at x old new grown (e, fol, same) = taken_hole rows d n t at (Grown (PHole n) old new t) e fol (x ∷ [], grown, ap (λ z. Part z NoPart) same)

  pub added_leaf : (op : ℕ) (t : MTree) (at : ℕ) (old : List Value) → total rows (PLeaf op) t at ≢ None → PartsAdded rows d (PLeaf op) t at old old
  added_leaf op t at old some = taken_leaf rows d op t at (Grown (PLeaf op) old old) some (λ v. ([], sym (append-nil old), refl))

  pub added_one : (op : ℕ) (p : MPattern) (t a : MTree) (at : ℕ) (old new : List Value) → total rows (POne op p) t at ≢ None → slice_get (kids_of t) 0 ≡ Some a → PartsAdded rows d p a (at + 1) old new → PartsAdded rows d (POne op p) t at old new
  added_one op p t a at old new some k x = taken_one rows d op p t a at (Grown p old new) (Grown (POne op p) old new) some k (λ v u y grown. grown) x

  grown_twice : {p q : MPattern} {u z : MTree} (x : Parts d p u) (y : Parts d q z) (old mid new : List Value) → GrownBy x old mid → GrownBy y mid new → (added : List Value) × (new ≡ old ++ added) × (parts_of (map derivation_of added) ≡ join (erase_in x) (erase_in y))
  grown_twice x y old mid new (f, ef, same) (g, eg, more) =
      (f ++ g, eg ∙ ap (λ z. z ++ g) ef ∙ append_assoc old f g, ap parts_of (map-append derivation_of f g) ∙ parts_join (map derivation_of f) (map derivation_of g) ∙ ap (λ z. join z (parts_of (map derivation_of g))) same ∙ ap (join (erase_in x)) more)

  pub added_two : (op : ℕ) (p q : MPattern) (t a b : MTree) (at : ℕ) (old mid new : List Value) → total rows (PTwo op p q) t at ≢ None → slice_get (kids_of t) 0 ≡ Some a → slice_get (kids_of t) 1 ≡ Some b → PartsAdded rows d p a (at + 1) old mid → PartsAdded rows d q b (at + 1 + nodes a) mid new → PartsAdded rows d (PTwo op p q) t at old new
  added_two op p q t a b at old mid new some k l x y =
      taken_two rows d op p q t a b at (Grown p old mid) (Grown q mid new) (Grown (PTwo op p q) old new) some k l (λ v u z f g grown more. grown_twice f g old mid new grown more) x y

  -- a value that follows the cells is the best derivation
  built_is_best : (w n : ℕ) (t : MTree) (at : ℕ) (x : Value) → Labelled rows d w at t → Built rows d n t at x → IsBestOf d n t (derivation_of x)
  built_is_best w n t at x l (e, follows, same) =
      let F : MDerivation → Type 0 = λ z. IsBestOf d n t z in
      subst F (sym same) (is_best_of d n t e (follows_best rows d w n t at e l follows))

-- the same from the start symbol, by the board and the rules that the tree was labelled with
pub best_value : (d : MDescription) (k board : MCells) (rules : List Rule) (start : ℕ) (t : MTree) (x : Value) → board ≡ k → rules ≡ d.rules → start ≡ d.start → IsLabelled d k t → Built board.rows rules start t 0 x → IsBest d t (derivation_of x)
best_value d k board rules start t x same_board same_rules same_start labelled built_in =
    let Board : MCells → Type 0 = λ z. Built z.rows rules start t 0 x in
    let Rules : List Rule → Type 0 = λ z. Built k.rows z start t 0 x in
    let Start : ℕ → Type 0 = λ z. Built k.rows d.rules z t 0 x in
    built_is_best k.rows d.rules k.nonterminals d.start t 0 x labelled (subst Start same_start (subst Rules same_rules (subst Board same_board built_in)))
