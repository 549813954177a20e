-- What the code keeps shows a state, and does so behind a step that changes the open block alone.
use Rattle.std.specs.Prelude.{◌≡◌, ℕ, List, [], ◌∷◌, ◌++◌}
use Rattle.std.proofs.Common.{refl, sym, ◌∙◌, subst}
use Rattle.lcc_base.specs.declared.order.Order.{Order}
use Rattle.op_forest.specs.Nodes.{Node}
use Rattle.forests.specs.Addresses.{Home}
use Rattle.dag_forest.specs.declared.entry.Entry.{Entry}
use Rattle.dag_forest.specs.Split.{split_frame, split_trees}
use Rattle.piece_runs.specs.Pieces.{OfBlock, Mark, label_root}
use Rattle.piece_runs.proofs.lemmas.Tails.{roots_append}
use Rattle.c_rows_agree.specs.Typed.{Typed}
use Rattle.lowered_forms.specs.Lows.{Low, with_entries, ended, with_mark}
use Rattle.lowered_forms.specs.Values.{placed}
use Rattle.lowering_steps.specs.declared.operand.Operand.{Operand}
use Rattle.lowering_steps.specs.declared.state.State.{State}
use Rattle.lowering_steps.specs.Asking.{Acts, Places}
use Rattle.lowering_steps.specs.States.{Shows, Comes}

-- with other entries in the open block
abbrev pub with_block : State → List Entry → State
with_block s es = record { done = s.done; block = es; frame = s.frame; labels = s.labels }

pub block_shows : (s : State) (l : Low) (fs : List Entry) → Shows s l → Shows (with_block s fs) (with_entries fs l)
block_shows s l fs h = record { done = h.done; block = refl; frame = h.frame; labels = h.labels }

pub acts_shows : (s : State) (l : Low) (step : Low → Low) (fs : List Entry) → Shows s l → Acts s.block step fs → Shows (with_block s fs) (step l)
acts_shows s l step fs h a = subst (Shows (with_block s fs)) (sym (a.is l (sym h.block))) (block_shows s l fs h)

pub places_comes : (s : State) (l : Low) (t : Typed) (v : Operand) (fs : List Entry) → Shows s l → Places s.block t v fs → Comes (with_block s fs) v (placed t l)
places_comes s l t v fs h p = record { low = with_entries fs l; is = p.is l (sym h.block); shows = block_shows s l fs h }

-- ---- blocks that are finished, and labels

pub ended_shows : (s t : State) (l : Low) (b : List Entry) (ts : List Node) → Shows s l → b ≡ s.block → ((order : Order) (home : Home) → ts ≡ split_trees order home s.frame b [])
    → t.done.items ≡ s.done.items ++ ts → t.block ≡ [] → t.frame ≡ split_frame s.frame b → t.labels ≡ s.labels → Shows t (ended l)
ended_shows s t l b ts h e trees done block frame labels = record {
  done = λ order home.
      done
      ∙ (λ i. h.done order home i ++ (trees order home ∙ (λ j. split_trees order home (h.frame j) ((e ∙ h.block) j) [])) i)
      ∙ sym (roots_append order home l.pieces (OfBlock l.slots l.entries ∷ []));
  block = block;
  frame = frame ∙ (λ i. split_frame (h.frame i) ((e ∙ h.block) i));
  labels = labels ∙ h.labels;
}

pub marked_shows : (s t : State) (l : Low) (n : ℕ) (root : Node) → Shows s l → root ≡ label_root n → t.done.items ≡ s.done.items ++ root ∷ [] → t.block ≡ s.block → t.frame ≡ s.frame → t.labels ≡ s.labels → Shows t (with_mark n l)
marked_shows s t l n root h e done block frame labels = record {
  done = λ order home. done ∙ (λ i. h.done order home i ++ e i ∷ []) ∙ sym (roots_append order home l.pieces (Mark n ∷ []));
  block = block ∙ h.block;
  frame = frame ∙ h.frame;
  labels = labels ∙ h.labels;
}
