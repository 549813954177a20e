-- Straight expressions go on in one block.
use Rattle.std.specs.Prelude.{◌≡◌, ℕ, true, List}
use Rattle.std.proofs.Common.{true≢false, refl, sym, ◌∙◌, arith}
use Rattle.c_meaning.specs.Values.{CoreTree}
use Rattle.dag_forest.specs.declared.entry.Entry.{Entry}
use Rattle.lowered_forms.specs.Contexts.{Context}
use Rattle.lowered_forms.specs.Expressions.{low_e}
use Rattle.lowered_forms.specs.Later.{GoesOn}
use Rattle.lowered_forms.specs.Lows.{Low, with_entries}
use Rattle.lowered_forms.specs.Steps.{Relation, Steps}
use Rattle.lowered_forms.specs.Straight.{straight, roots_for}
use Rattle.lowered_forms.proofs.lemmas.Fronts.{Adds, front_itself, front_joins, asked_adds, rooted_adds, rooted_one_adds}
use Rattle.lowered_forms.proofs.lemmas.Induction.{value_steps}

abbrev going : Relation
going n a b = GoesOn n a b

going_with : (n : ℕ) (l : Low) (es : List Entry) → Adds n l.entries es → GoesOn n l (with_entries es l)
going_with n l es h = record { pieces = refl; labels = refl; entries = h.front; roots = (let e = h.roots in omega (arith, e)) }

going_steps : Steps going
going_steps = record {
  same = λ l. record { pieces = refl; labels = refl; entries = front_itself l.entries; roots = omega arith };
  joins = λ m n a b c x y. record {
    pieces = y.pieces ∙ x.pieces;
    labels = y.labels ∙ x.labels;
    entries = front_joins a.entries b.entries c.entries x.entries y.entries;
    roots = (let e = x.roots in let f = y.roots in omega (arith, e, f));
  };
  weakens = λ m n a b h x. record { pieces = x.pieces; labels = x.labels; entries = x.entries; roots = (let e = x.roots in omega (arith, h, e)) };
  asks = λ t l. going_with 0 l _ (asked_adds t l.entries);
  acts = λ r l. going_with 1 l _ (rooted_adds r l.entries);
  acts_one = λ h t l. going_with 1 l _ (rooted_one_adds h t l.entries);
  slot = λ l. record { pieces = refl; labels = refl; entries = front_itself l.entries; roots = omega arith };
}

pub straight_goes_on : (s : Context) (e : CoreTree) → straight e ≡ true → (l : Low) → GoesOn (roots_for e) l (low_e s e l).low
straight_goes_on s e h l = value_steps going going_steps s e (λ f. absurd (true≢false (sym h ∙ f))) l
