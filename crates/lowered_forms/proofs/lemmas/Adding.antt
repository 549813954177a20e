-- The lowering adds to a state.
use Rattle.std.specs.Prelude.{◌≡◌, ◌≤◌, ℕ, Bool, List, [], ◌∷◌, ◌++◌}
use Rattle.std.proofs.Common.{refl, ◌∙◌, arith, append_assoc}
use Rattle.c_meaning.specs.Values.{CoreTree}
use Rattle.dag_forest.specs.declared.entry.Entry.{Entry}
use Rattle.lowered_forms.specs.Contexts.{Context}
use Rattle.lowered_forms.specs.Expressions.{low_e, low_test}
use Rattle.lowered_forms.specs.Later.{IsFront, HoldsOpen, IsLater}
use Rattle.piece_runs.specs.Pieces.{Piece, OfBlock, Mark}
use Rattle.lowered_forms.specs.Lows.{Low, with_entries, with_slot, with_label}
use Rattle.lowered_forms.specs.Steps.{Relation, Steps, Jumps}
use Rattle.lowered_forms.proofs.lemmas.Fronts.{Adds, itself_is, join_is, front_itself, front_joins, front_before, asked_adds, rooted_adds, rooted_one_adds}
use Rattle.lowered_forms.proofs.lemmas.Induction.{value_steps, test_steps}

abbrev later : Relation
later n a b = IsLater a b

open_joins : (es fs gs : List Entry) (ps qs : List Piece) → HoldsOpen es ps fs → HoldsOpen fs qs gs → HoldsOpen es (ps ++ qs) gs
open_joins es fs gs [] [] x y = front_joins es fs gs x y
open_joins es fs gs [] (OfBlock before hs ∷ qs) x y = front_joins es fs hs x y
open_joins es fs gs [] (Mark n ∷ qs) x y = y
open_joins es fs gs (OfBlock before hs ∷ ps) qs x y = x
open_joins es fs gs (Mark n ∷ ps) qs x y = x

-- the open block and the slots alone go on
goes_on : (a b : Low) → b.pieces ≡ a.pieces → IsFront a.slots b.slots → a.labels ≤ b.labels → IsFront a.entries b.entries → IsLater a b
goes_on a b p s h f = record { pieces = record { more = []; is = p ∙ itself_is a.pieces }; slots = s; labels = h; begins = f }

later_with : (n : ℕ) (l : Low) (es : List Entry) → Adds n l.entries es → IsLater l (with_entries es l)
later_with n l es h = goes_on l (with_entries es l) refl (front_itself l.slots) (omega arith) h.front

later_steps : Steps later
later_steps = record {
  same = λ l. goes_on l l refl (front_itself l.slots) (omega arith) (front_itself l.entries);
  joins = λ m n a b c x y. record {
    pieces = record { more = x.pieces.more ++ y.pieces.more; is = join_is a.pieces b.pieces c.pieces x.pieces.more y.pieces.more x.pieces.is y.pieces.is };
    slots = front_joins a.slots b.slots c.slots x.slots y.slots;
    labels = (let e = x.labels in let f = y.labels in omega (arith, e, f));
    begins = open_joins a.entries b.entries c.entries x.pieces.more y.pieces.more x.begins y.begins;
  };
  weakens = λ m n a b h x. x;
  asks = λ t l. later_with 0 l _ (asked_adds t l.entries);
  acts = λ r l. later_with 1 l _ (rooted_adds r l.entries);
  acts_one = λ h t l. later_with 1 l _ (rooted_one_adds h t l.entries);
  slot = λ l. goes_on l (with_slot l) refl (front_before l.slots _) (omega arith) (front_itself l.entries);
}

later_jumps : Jumps later
later_jumps = record {
  uncounted = λ m n a b x. x;
  ends = λ l. record {
    pieces = record { more = OfBlock l.slots l.entries ∷ []; is = refl };
    slots = front_before l.slots _;
    labels = omega arith;
    begins = front_itself l.entries;
  };
  marks = λ n l. record {
    pieces = record { more = OfBlock l.slots l.entries ∷ Mark n ∷ []; is = append_assoc l.pieces (OfBlock l.slots l.entries ∷ []) (Mark n ∷ []) };
    slots = front_before l.slots _;
    labels = omega arith;
    begins = front_itself l.entries;
  };
  label = λ l. goes_on l (with_label l) refl (front_itself l.slots) (omega arith) (front_itself l.entries);
}

pub lowering_adds : (s : Context) (e : CoreTree) (l : Low) → IsLater l (low_e s e l).low
lowering_adds s e l = value_steps later later_steps s e (λ f. later_jumps) l

pub testing_adds : (s : Context) (e : CoreTree) (n : ℕ) (when : Bool) (l : Low) → IsLater l (low_test s e n when l)
testing_adds s e n when l = test_steps later later_steps later_jumps s e n when l
