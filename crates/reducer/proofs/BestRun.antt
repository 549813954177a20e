-- The run of a visitor over the best derivation.
use Rattle.std.proofs.Common.{◌≡◌, ℕ, List, sym, subst}
use Rattle.lburg_model.specs.declared.rule.Rule.{Rule}
use Rattle.lburg_model.specs.Tree.{MTree}
use Rattle.lburg_model.specs.Description.{MDescription}
use Rattle.lburg_model.specs.Derivation.{MDerivation, applied}
use Rattle.lburg_model.specs.Best.{IsBest, IsBestOf}
use Rattle.tree_labeller.specs.Rows.{Row}
use Rattle.tree_labeller.specs.MCells.{MCells}
use Rattle.tree_labeller.specs.Labelled.{Labelled}
use Rattle.tree_labeller.specs.IsLabelled.{IsLabelled}
use Rattle.tree_labeller.specs.Indexed.{erase}
use Rattle.tree_labeller.proofs.lemmas.Cover.{is_best_of}
use Rattle.tree_labeller.proofs.lemmas.Greatest.{follows_best}
use Rattle.tree_labeller.proofs.lemmas.Erased.{applied_kept}
use Rattle.reducer.specs.Reduced.{Reduced}
use Rattle.reducer.specs.Runs.{Runs}

module _ {N V : Type 0} (tree : N → MTree) (step : V → ℕ → N → V → Type 0) where
  -- a visitor that ran over a derivation that follows the cells ran over the best one
  reduced_is_best : (rows : List Row) (d : List Rule) (w n : ℕ) (t : MTree) (at : ℕ) (s s' : V) → Labelled rows d w at t → Reduced rows d tree step n t at s s' → (x : MDerivation) × IsBestOf d n t x × Runs tree step (applied d t x) s s'
  reduced_is_best rows d w n t at s s' l (e, follows, run) =
      let Over : List (ℕ × MTree) → Type 0 = λ z. Runs tree step z s s' in
      (erase e, is_best_of d n t e (follows_best rows d w n t at e l follows), subst Over (sym (applied_kept e)) run)

  -- the same from the start symbol, by the board and the rules that the tree was labelled with
  pub best_run : (d : MDescription) (k board : MCells) (rules : List Rule) (start : ℕ) (t : MTree) (s s' : V) → board ≡ k → rules ≡ d.rules → start ≡ d.start → IsLabelled d k t → Reduced board.rows rules tree step start t 0 s s' → (x : MDerivation) × IsBest d t x × Runs tree step (applied d.rules t x) s s'
  best_run d k board rules start t s s' same_board same_rules same_start labelled reduced =
      let Board : MCells → Type 0 = λ z. Reduced z.rows rules tree step start t 0 s s' in
      let Rules : List Rule → Type 0 = λ z. Reduced k.rows z tree step start t 0 s s' in
      let Start : ℕ → Type 0 = λ z. Reduced k.rows d.rules tree step z t 0 s s' in
      reduced_is_best k.rows d.rules k.nonterminals d.start t 0 s s' labelled (subst Start same_start (subst Rules same_rules (subst Board same_board reduced)))
