-- The trees of a split block that fits are well formed, and stand in front of what follows.
use Rattle.std.proofs.Common.{◌≡◌, ℕ, false, Option, Some, None, List, [], ◌∷◌, ◌++◌, inl, inr, refl, ap, suc}
use Rattle.lcc_base.specs.declared.order.Order.{Order}
use Rattle.op_forest.specs.declared.frame.Slot.{Slot}
use Rattle.op_forest.specs.Labels.{label_by}
use Rattle.op_forest.specs.Nodes.{Node as Tree}
use Rattle.forests.specs.Addresses.{Home}
use Rattle.dag_forest.specs.declared.act.Act.{Act}
use Rattle.dag_forest.specs.declared.act.Act.TheVariants.{Made, Acts}
use Rattle.dag_forest.specs.declared.entry.Entry.{Entry}
use Rattle.dag_forest.specs.declared.entry.Entry.TheVariants.{Value, Root}
use Rattle.dag_forest.specs.declared.parts.Parts.{Parts}
use Rattle.dag_forest.specs.Emission.{Lost, tree_at, emitted, emit, no_tree}
use Rattle.dag_forest.specs.NewSlots.{offset_below}
use Rattle.dag_forest.specs.Choice.{Room}
use Rattle.op_forest.specs.Frames.{lowest}
use Rattle.forests.specs.WellFormed.{LiesInOne}
use Rattle.dag_forest.specs.Meaning.{Temporary, Keeps}
use Rattle.dag_forest.specs.Schedules.{acts_of, at}
use Rattle.dag_forest.specs.Split.{room_of, Split, split_frame, split_trees, keeps_of}
use Rattle.dag_forest.specs.Tally.{keys_of}
use Rattle.dag_seam.specs.Fitting.{Fits, FitsNode, FitsBlock, HasRoot, IsOwnLabel, IsOwnTarget, KeepsNoBlock, AreFitTrees, SplitAppends, target_at}
use Rattle.dag_seam.specs.Rooms.{AreEntries}
use Rattle.dag_seam.proofs.lemmas.Acts.{HasParts, IsAny, acts_are, entries_zip, entries_have_parts}
use Rattle.dag_seam.proofs.lemmas.FitTrees.{FitsAct, FitsActing, all_fit}
use Rattle.dag_seam.proofs.lemmas.NewSlots.{lies_in_new}
use Rattle.dag_forest.proofs.lemmas.Chosen.{between}

-- a root of the block is one
roots_own : (P : ℕ → Parts → Type 0) (all es : List Entry) (n : ℕ) → ((l : ℕ) → HasRoot (P l) es → HasRoot (P l) all) → AreEntries (λ m x. Unit {0}) (λ x. (l : ℕ) → P l x → HasRoot (P l) all) es n
roots_own P all [] n f = tt
roots_own P all (Value x ∷ es) n f = (tt, roots_own P all es (suc n) f)
roots_own P all (Root x ∷ es) n f = ((λ l p. f l (inl p)), roots_own P all es n (λ l h. f l (inr h)))

module _ (order : Order) (home : Home) (before more : List Slot) (es : List Entry) (split : Split before es) (fits : FitsBlock (split_frame before es ++ more) es) (none : KeepsNoBlock es) where
  abbrev slots : List Slot
  slots = split_frame before es ++ more

  abbrev IsLabelOf : ℕ → Parts → Type 0
  IsLabelOf l x = label_by x.operator.op x.sym ≡ Some l

  abbrev IsTargetOf : ℕ → Parts → Type 0
  IsTargetOf l x = target_at (keys_of es) x ≡ Some l

  abbrev Labelled : Parts → Type 0
  Labelled x = (l : ℕ) → IsLabelOf l x → HasRoot (IsLabelOf l) es

  abbrev Targeted : Parts → Type 0
  Targeted x = (l : ℕ) → IsTargetOf l x → HasRoot (IsTargetOf l) es

  lies : (n : ℕ) (r : Room) → room_of es n ≡ Some r → LiesInOne slots (offset_below (lowest before) r.number)
  lies n r e = lies_in_new before more es r.number (between (acts_of es) (λ m. false) 0 n r e).1

  abbrev Node : ℕ → Parts → Type 0
  Node = FitsAct order home before slots es lies none (IsOwnLabel es) (IsOwnTarget es)

  abbrev Acting : Parts → Type 0
  Acting = FitsActing order home before slots es lies none (IsOwnLabel es) (IsOwnTarget es)

  record Ready (x : Parts) : Type 0 where
    root : Fits (keys_of es) slots x
    label : Labelled x

  entries_ready : AreEntries Node Acting es 0
  entries_ready =
      entries_zip Node (λ n x. Unit {0}) Node Ready Targeted Acting es 0 (λ m x h g. h) (λ x h g. record { fits = h.root; label = h.label; target = g })
      (entries_zip Node (λ n x. Unit {0}) Node (Fits (keys_of es) slots) Labelled Ready es 0 (λ m x h g. h) (λ x h g. record { root = h; label = g })
      (entries_zip (λ n x. FitsNode (keys_of es) slots x) (HasParts (keys_of es)) Node (Fits (keys_of es) slots) IsAny (Fits (keys_of es) slots) es 0 (λ m x h g. record { has = g; node = h }) (λ x h g. h) fits (entries_have_parts es))
      (roots_own IsLabelOf es es 0 (λ l h. h)))
      (roots_own IsTargetOf es es 0 (λ l h. h))

  pub split_fits : AreFitTrees slots (IsOwnLabel es) (IsOwnTarget es) (split_trees order home before es [])
  split_fits = all_fit order home before slots es lies none (IsOwnLabel es) (IsOwnTarget es) (acts_of es) (λ m. Lost) (λ m. no_tree) (λ m us. absurd us) (split.holds order home) (acts_are Node Acting es entries_ready)

emit_append : (keeps : Keeps) (xs : List Act) (ts : ℕ → Tree) (rest : List Tree) → emit keeps xs ts rest ≡ emit keeps xs ts [] ++ rest
emit_append keeps [] ts rest = refl
emit_append keeps (Made n x ∷ xs) ts rest = by (keeps n) (λ t. emit_append keeps xs (at ts n t) rest)
  where
    by : (o : Option Temporary) → ((t : Tree) → emit keeps xs (at ts n t) rest ≡ emit keeps xs (at ts n t) [] ++ rest)
        → emitted o (tree_at ts x) (λ t. emit keeps xs (at ts n t) rest) ≡ emitted o (tree_at ts x) (λ t. emit keeps xs (at ts n t) []) ++ rest
    by None go = go (tree_at ts x)
    by (Some z) go = ap (λ q. z.store (tree_at ts x) ∷ q) (go z.read)
emit_append keeps (Acts x ∷ xs) ts rest = ap (λ q. tree_at ts x ∷ q) (emit_append keeps xs ts rest)

pub split_appends : SplitAppends
split_appends order home before es rest = emit_append (keeps_of order home before es) (acts_of es) (λ m. no_tree) rest
