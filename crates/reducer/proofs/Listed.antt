-- The best derivations of a list of trees, one more at the end.
use Rattle.std.proofs.Common.{◌≡◌, ℕ, suc, ◌+◌, ◌<◌, List, [], ◌∷◌, ◌++◌, length, take, get_or, map, refl, sym, ap, ◌∙◌, subst}
use Rattle.std.proofs.lemmas.List.{take_more, map_push, length-map}
use Rattle.lburg_model.specs.declared.derivation.Derivation.{Derivation}
use Rattle.lburg_model.specs.Tree.{MTree}
use Rattle.lburg_model.specs.Description.{MDescription}
use Rattle.lburg_model.specs.Derivation.{MDerivation}
use Rattle.lburg_model.specs.DerivationOf.{derivation_of}
use Rattle.lburg_model.specs.Best.{IsBest}
use Rattle.reducer.specs.AreBest.{AreBest}

best_at_end : (d : MDescription) (ts : List MTree) (t : MTree) (xs : List MDerivation) (x : MDerivation) → AreBest d ts xs → IsBest d t x → AreBest d (ts ++ t ∷ []) (xs ++ x ∷ [])
best_at_end d [] t [] x are is = (is, tt)
best_at_end d [] t (y ∷ ys) x are is = absurd are
best_at_end d (u ∷ us) t [] x are is = absurd are
best_at_end d (u ∷ us) t (y ∷ ys) x are is = (are.0, best_at_end d us t ys x are.1 is)

-- the best derivation of the tree at a place behind those before it
pub next_best : {N : Type 0} (tree : N → MTree) (d : MDescription) (trees : List N) (i : ℕ) (node : N) (xs new : List Derivation) (x : Derivation) → i < length trees → node ≡ get_or trees i node → AreBest d (map tree (take i trees)) (map derivation_of xs) → IsBest d (tree node) (derivation_of x) → new ≡ xs ++ x ∷ [] → AreBest d (map tree (take (i + 1) trees)) (map derivation_of new)
next_best {N} tree d trees i node xs new x inside at are is grown =
    let more = best_at_end d (map tree (take i trees)) (tree node) (map derivation_of xs) (derivation_of x) are is in
    let all : take (i + 1) trees ≡ take i trees ++ node ∷ [] = take_more trees i node inside ∙ ap (λ (u : N). take i trees ++ u ∷ []) (sym at) in
    let here : map tree (take i trees) ++ tree node ∷ [] ≡ map tree (take (i + 1) trees) = sym (map_push tree (take i trees) node) ∙ ap (map tree) (sym all) in
    let there : map derivation_of xs ++ derivation_of x ∷ [] ≡ map derivation_of new = sym (map_push derivation_of xs x) ∙ ap (map derivation_of) (sym grown) in
    let Trees : List MTree → Type 0 = λ l. AreBest d l (map derivation_of xs ++ derivation_of x ∷ []) in
    let Derivations : List MDerivation → Type 0 = λ l. AreBest d (map tree (take (i + 1) trees)) l in
    subst Derivations there (subst Trees here more)

same_lengths : (d : MDescription) (ts : List MTree) (xs : List MDerivation) → AreBest d ts xs → length xs ≡ length ts
same_lengths d [] [] are = refl
same_lengths d [] (x ∷ xs) are = absurd are
same_lengths d (t ∷ ts) [] are = absurd are
same_lengths d (t ∷ ts) (x ∷ xs) are = ap suc (same_lengths d ts xs are.1)

-- there are as many derivations as trees
pub as_many : {N : Type 0} (tree : N → MTree) (d : MDescription) (trees : List N) (xs : List Derivation) → AreBest d (map tree trees) (map derivation_of xs) → length xs ≡ length trees
as_many tree d trees xs are = sym (length-map xs derivation_of) ∙ same_lengths d (map tree trees) (map derivation_of xs) are ∙ length-map trees tree
