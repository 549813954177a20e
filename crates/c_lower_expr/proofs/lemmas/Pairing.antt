-- Two operands of an expression: the second one's first mark tells how the first one waits; and one act with both.
use Rattle.std.specs.Prelude.{◌≡◌, Bool, List, ◌∷◌, ◌++◌}
use Rattle.std.proofs.Common.{sym, ap, ◌∙◌}
use Rattle.dag_forest.specs.declared.entry.Entry.{Entry}
use Rattle.c_meaning.specs.Values.{CoreTree}
use Rattle.c_rows_agree.specs.Typed.{Typed}
use Rattle.lowered_forms.specs.Contexts.{Context}
use Rattle.lowered_forms.specs.Expressions.{low_e}
use Rattle.lowered_forms.specs.Lows.{Low}
use Rattle.lowered_forms.specs.Straight.{straight}
use Rattle.lowered_forms.specs.Values.{Lowered, held, of_two}
use Rattle.lowering_steps.specs.declared.operand.Operand.{Operand}
use Rattle.lowering_steps.specs.declared.state.State.{State}
use Rattle.lowering_steps.specs.Asking.{Acts}
use Rattle.lowering_steps.specs.Operands.{typed_of}
use Rattle.lowering_steps.specs.States.{Comes, Shows}
use Rattle.lowering_steps.proofs.lemmas.Stating.{with_block, acts_shows}
use Rattle.lowering_acts.specs.Gives.{Gives}
use Rattle.c_lower_expr.specs.Lowering.{LowersTo, Lowers}
use Rattle.c_lower_expr.specs.Marks.{marks}
use Rattle.c_lower_expr.specs.Pairs.{Pair, pair, with_first, with_second, held_before, LowersBoth}
use Rattle.c_lower_expr.specs.Passing.{part_of}
use Rattle.c_lower_expr.proofs.lemmas.Marking.{head_is}
use Rattle.c_lower_expr.proofs.lemmas.Stepping.{comes_as, shows_as, used_both, gives_comes}

pub pair_goes : (c : Context) (a b : CoreTree) (s m n t : State) (ms ns more os : List Bool) (x : Bool) (v u w : Operand)
    → LowersTo (λ l. low_e c a l) (marks a) s ms v m ns → ns ≡ x ∷ more
    → ((l : Low) → Shows m l → Comes n u (held x (typed_of v) l))
    → LowersTo (λ l. low_e c b l) (marks b) n ns w t os → LowersBoth c a b s ms u w t os
pair_goes c a b s m n t ms ns more os x v u w f head hold g = record {
  is = λ l rest h e.
      let first = f.is l (marks b ++ rest) h (used_both (marks a) (marks b) ms rest e) in
      let straight_is : x ≡ straight b = head_is b x more rest (sym head ∙ first.1) in
      let kept = hold first.0.low first.0.shows in
      let second = g.is kept.low rest kept.shows first.1 in (
        record {
          low = second.0.low;
          is =
              ap (λ (r : Lowered). with_second c b (held_before b r)) first.0.is
              ∙ ap (λ y. with_second c b (held y (typed_of v) first.0.low)) (sym straight_is)
              ∙ ap (λ (r : Lowered). with_second c b r) kept.is
              ∙ ap (λ (r : Lowered). with_first (typed_of u) r) second.0.is;
          shows = second.0.shows;
        },
        second.1,
      );
}

pub pair_gives : (c : Context) (a b : CoreTree) (go : Typed → Typed → Low → Lowered) (s m : State) (ms ns : List Bool) (v w r : Operand) (es : List Entry)
    → LowersBoth c a b s ms v w m ns → Gives m.block (λ l. go (typed_of v) (typed_of w) l) r es
    → LowersTo (λ l. of_two (part_of c a) (part_of c b) l go) (marks a ++ marks b) s ms r (with_block m es) ns
pair_gives c a b go s m ms ns v w r es f g = record {
  is = λ l rest h e.
      let both = f.is l rest h e in (
        comes_as (with_block m es) r (go (typed_of v) (typed_of w) both.0.low) (of_two (part_of c a) (part_of c b) l go)
            (sym (ap (λ (p : Pair). go p.first p.second p.low) both.0.is))
            (gives_comes m both.0.low (λ l1. go (typed_of v) (typed_of w) l1) r es both.0.shows g),
        both.1,
      );
}

-- what acts with both
pub pair_acts : (c : Context) (a b : CoreTree) (go : Typed → Typed → Low → Low) (s m : State) (ms ns : List Bool) (v w : Operand) (es : List Entry)
    → LowersBoth c a b s ms v w m ns → Acts m.block (λ l. go (typed_of v) (typed_of w) l) es
    → Lowers (λ l. let p : Pair = pair c a b l in go p.first p.second p.low) (marks a ++ marks b) s ms (with_block m es) ns
pair_acts c a b go s m ms ns v w es f g = record {
  is = λ l rest h e.
      let both = f.is l rest h e in (
        shows_as (with_block m es) (go (typed_of v) (typed_of w) both.0.low) (go (pair c a b l).first (pair c a b l).second (pair c a b l).low)
            (sym (ap (λ (p : Pair). go p.first p.second p.low) both.0.is))
            (acts_shows m both.0.low (λ l1. go (typed_of v) (typed_of w) l1) es both.0.shows g),
        both.1,
      );
}
