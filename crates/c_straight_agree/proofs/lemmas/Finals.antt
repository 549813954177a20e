-- What open blocks come to be, before what is lowered.
use Rattle.std.specs.Prelude.{◌≡◌, List, [], ◌∷◌, ◌++◌}
use Rattle.std.proofs.Common.{sym, ap, ◌∙◌, append_assoc, append-nil}
use Rattle.dag_forest.specs.declared.entry.Entry.{Entry}
use Rattle.piece_runs.specs.Pieces.{Piece, OfBlock, Mark}
use Rattle.lowered_forms.specs.Later.{IsFront}
use Rattle.lowered_forms.specs.Lows.{Low, with_entries, with_slot}
use Rattle.lowered_forms.specs.Steps.{Relation, Steps, Jumps}
use Rattle.lowered_forms.proofs.lemmas.Fronts.{front_itself, front_joins, front_before, asked_adds, rooted_adds, rooted_one_adds}
use Rattle.lowered_forms.proofs.lemmas.Induction.{value_steps, test_steps}
use Rattle.c_straight_agree.specs.Finals.{Final, FinalsGoBack, TestFinalsGoBack}

module _ (all : List Piece) where
  abbrev pub back : Relation
  back n a b = Final all b → Final all a

  -- with fewer entries
  pub fewer_entries : (l : Low) (es : List Entry) → IsFront l.entries es → Final all (with_entries es l) → Final all l
  fewer_entries l es p f = record {
    front = record {
      more = p.more ++ f.front.more;
      before = f.front.before;
      rest = f.front.rest;
      is = f.front.is ∙ ap (λ (gs : List Entry). l.pieces ++ OfBlock f.front.before gs ∷ f.front.rest) (ap (λ (gs : List Entry). gs ++ f.front.more) p.is ∙ append_assoc l.entries p.more f.front.more);
    };
    slots = f.slots;
  }

  fewer_slots : (l : Low) → Final all (with_slot l) → Final all l
  fewer_slots l f = record {
    front = record { more = f.front.more; before = f.front.before; rest = f.front.rest; is = f.front.is };
    slots = front_joins l.slots (with_slot l).slots f.front.before (front_before l.slots _) f.slots;
  }

  -- where it is finished it is split behind its slots, whatever follows
  pub finished : (l : Low) (rest : List Piece) → all ≡ l.pieces ++ OfBlock l.slots l.entries ∷ rest → Final all l
  finished l rest is = record {
    front = record { more = []; before = l.slots; rest = rest; is = is ∙ ap (λ (gs : List Entry). l.pieces ++ OfBlock l.slots gs ∷ rest) (sym (append-nil l.entries)) };
    slots = front_itself l.slots;
  }

  pub back_steps : Steps back
  back_steps = record {
    same = λ l f. f;
    joins = λ m n a b c x y f. x (y f);
    weakens = λ m n a b h x. x;
    asks = λ t l. fewer_entries l _ (asked_adds t l.entries).front;
    acts = λ r l. fewer_entries l _ (rooted_adds r l.entries).front;
    acts_one = λ h t l. fewer_entries l _ (rooted_one_adds h t l.entries).front;
    slot = λ l. fewer_slots l;
  }

  pub back_jumps : Jumps back
  back_jumps = record {
    uncounted = λ m n a b x. x;
    ends = λ l f. finished l _ (f.front.is ∙ append_assoc l.pieces (OfBlock l.slots l.entries ∷ []) _);
    marks = λ n l f. finished l _ (f.front.is ∙ append_assoc (l.pieces ++ OfBlock l.slots l.entries ∷ []) (Mark n ∷ []) _ ∙ append_assoc l.pieces (OfBlock l.slots l.entries ∷ []) _);
    label = λ l f. record { front = record { more = f.front.more; before = f.front.before; rest = f.front.rest; is = f.front.is }; slots = f.slots };
  }

pub finals_go_back : FinalsGoBack
finals_go_back all x e l f = value_steps (back all) (back_steps all) x e (λ jumps. back_jumps all) l f

pub test_finals_go_back : TestFinalsGoBack
test_finals_go_back all x e n when l f = test_steps (back all) (back_steps all) (back_jumps all) x e n when l f
