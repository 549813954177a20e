-- Expressions and tests add few nodes and temporaries.
use Rattle.std.specs.Prelude.{◌≡◌, ◌≤◌, ℕ, ◌+◌, ◌*◌, Bool, true, None}
use Rattle.std.proofs.Common.{arith}
use Rattle.op_forest.specs.declared.op.Op.TheVariants as op
use Rattle.op_forest.specs.declared.suffix.Suffix.{Suffix}
use Rattle.op_forest.specs.declared.suffix.Suffix.TheVariants.{C, S, I, U, P, B, V}
use Rattle.op_forest.specs.declared.sym.Sym.TheVariants as sym
use Rattle.dag_forest.specs.declared.kids.Kids.TheVariants as kids
use Rattle.dag_forest.specs.Entries.{parts_of}
use Rattle.dag_forest.specs.Tally.{node_count}
use Rattle.c_meaning.specs.CoreTrees.{parts}
use Rattle.c_meaning.specs.Values.{CoreTree}
use Rattle.c_rows_agree.specs.Templates.{Template}
use Rattle.lowered_forms.specs.Asked.{asked}
use Rattle.lowered_forms.specs.Blocks.{IsBlock}
use Rattle.lowered_forms.specs.Contexts.{Context}
use Rattle.lowered_forms.specs.Expressions.{low_e, low_test}
use Rattle.lowered_forms.specs.Handed.{handed_as, low_node}
use Rattle.lowered_forms.specs.Lows.{Low, with_entries}
use Rattle.lowered_forms.specs.Sizes.{weight_by}
use Rattle.lowered_forms.specs.Sizes.{with_use as used_once}
use Rattle.lowered_forms.proofs.lemmas.HandedNodes.{expressions_are_nodes}
use Rattle.expression_weights.specs.Expressions.{IsSmall, AddsFew}
use Rattle.expression_weights.specs.Templates.{Priced}
use Rattle.expression_weights.specs.Weighs.{Weighs, IsFormed}
use Rattle.expression_weights.proofs.lemmas.Blocks.{with_root}
use Rattle.expression_weights.proofs.lemmas.Expressions.{value_price, price_is, value_comes, test_rises}
use Rattle.expression_weights.proofs.lemmas.Growing.{Grows, grows_rises}
use Rattle.expression_weights.proofs.lemmas.Operations.{as_i_at}
use Rattle.expression_weights.proofs.lemmas.Priced.{with_use}
use Rattle.expression_weights.proofs.lemmas.Steps.{Raises, raises_rises, weighs_more, block_weight}
use Rattle.expression_weights.proofs.lemmas.Templates.{priced_asks, priced_more, asked_formed, asked_got}

handed_priced : (s : Suffix) (t : Template) → Priced 10 t → Priced 12 (handed_as s t)
handed_priced C t h = as_i_at 10 C t (omega arith) h
handed_priced S t h = as_i_at 10 S t (omega arith) h
handed_priced I t h = as_i_at 10 I t (omega arith) h
handed_priced U t h = as_i_at 10 U t (omega arith) h
handed_priced P t h = priced_more 10 12 t (omega arith) h
handed_priced B t h = as_i_at 10 B t (omega arith) h
handed_priced V t h = as_i_at 10 V t (omega arith) h

pub expressions_are_small : (s : Context) (e : CoreTree) (l : Low) → IsBlock l.entries → IsFormed (low_node s e l).low → IsSmall e l (low_node s e l)
expressions_are_small s e l b f =
    let r = low_e s e l in
    let t = handed_as r.value.suffix r.value.tree in
    let a = asked t r.low.entries in
    let c = value_comes Raises raises_rises s e l in
    let g = value_comes Grows grows_rises s e l in
    let p = handed_priced r.value.suffix r.value.tree c.value in
    let below = expressions_are_nodes s e l b in
    let back : IsFormed r.low = record { open_ = asked_formed t r.low.entries f.open_; pieces = f.pieces } in
    let d = price_is e in
    record {
      nodes = (let x = g.rises.nodes in let y = (grows_rises.asks 12 t r.low (priced_asks 12 t p)).nodes in omega (arith, x, y, d));
      weights = λ w h.
          let v = c.rises.weighs back w h in
          let got = asked_got 12 12 t r.low.entries (λ m. 0) v.cost f.open_ below.below p (priced_asks 12 t p) v.block in
          let x = parts_of (record { op = op.Ret; suffix = I }) (kids.One a.node) sym.Nothing None in
          let used = block_weight (used_once a.node a.entries) ((v.cost + 12) + 1) (with_root a.entries x (with_use a.node (λ m. 0)) (v.cost + 12) (λ m. omega arith) got.used) in
          let all = v.all in
          omega (arith, all, used, d);
    }

pub values_add_few : (s : Context) (e : CoreTree) (l : Low) → IsFormed (low_e s e l).low → AddsFew e l (low_e s e l).low
values_add_few s e l f =
    let c = value_comes Raises raises_rises s e l in
    let g = value_comes Grows grows_rises s e l in
    let d = price_is e in
    record {
      nodes = (let x = g.rises.nodes in omega (arith, x, d));
      weights = λ w h. weighs_more (w + value_price e) (w + 69 * parts e) (low_e s e l).low (omega (arith, d)) (c.rises.weighs f w h);
    }

pub tests_add_few : (s : Context) (e : CoreTree) (n : ℕ) (when : Bool) (l : Low) → IsFormed (low_test s e n when l) → AddsFew e l (low_test s e n when l)
tests_add_few s e n when l f =
    let c = test_rises Raises raises_rises s e n when l in
    let g = test_rises Grows grows_rises s e n when l in
    let d = price_is e in
    record {
      nodes = (let x = g.nodes in omega (arith, x, d));
      weights = λ w h. weighs_more (w + (value_price e + 14)) (w + 69 * parts e) (low_test s e n when l) (omega (arith, d)) (c.weighs f w h);
    }
