use Rattle.std.proofs.Common.{◌≡◌, ◌+◌, ◌<◌, ℕ, List, length, get_or, None, sym, ap, ◌∙◌, subst, arith}
use Rattle.lburg_model.specs.Description.{MDescription}
use Rattle.lburg_tables.specs.declared.cell.Cell.{Cell}
use Rattle.lburg_tables.specs.Row.{CellAt}
use Rattle.lburg_tables.specs.RowOf.{row_of}
use Rattle.lburg_tables.proofs.lemmas.RowLaws.{seen_at}
use Rattle.tree_labeller.specs.Merged.{Merged}
use Rattle.tree_labeller.specs.Trials.{NoStart, Start, Pass}
use Rattle.tree_labeller.proofs.MergedRows.{merged_none, merged_skip, merged_more, merged_closed, fits_after, row_long}
use Rattle.tree_labeller.proofs.merging.merge_chains.Goals.{in-Some, in_default}
use Rattle.tree_labeller.proofs.merging.merge_chains.Goals as goal

pub loop-m-init : goal.loop-m-init
loop-m-init g c =
    let d = c.args.tables.now in
    let base = row_of c.args.base.now in
    let From : List Cell → Type 0 = λ cells. Merged d.rules (length d.nonterminals) base 0 (row_of cells) in
    record {
      merged = subst From (sym c.requires.copied) (merged_none d.rules (length d.nonterminals) base);
      steps = (0, NoStart, omega arith);
    }

pub extend-requires : goal.extend-requires
extend-requires g c =
    let d = c.args.tables.now in
    let m = c.loop-m.m in
    let names = ap (λ (l : List (List ℕ)). length l) c.nonterminals-nonterminals.ensures.value in
    let same = ap (λ (z : MDescription). length z.nonterminals) c.description.ensures.value in
    let inside : m < length c.args.base.now = (let h = c.loop-m-test.true in let w = c.requires.wide in omega arith) in
    let here : CellAt (row_of c.args.base.now) m c.in-Some.from = seen_at c.args.base.now m _ inside ∙ sym c.in-Some.ensures in
    let few = c.requires.short m c.in-Some.from here in
    let cheap = c.requires.cheap m c.in-Some.from here in
    let long = ap (λ (l : List Cell). length l) c.requires.copied in
    let kept = c.loop-m.auto.row in
    let wide : length c.loop-m.row ≡ length c.args.base.now = omega arith in
    record { fit = fits_after d m (length c.loop-m.row) c.in-Some.from c.best_chains.result.now c.description.ensures.is c.best_chains.ensures (let w = c.requires.wide in omega arith) (omega arith) cheap }

pub loop-m-preserved : goal.loop-m-preserved
loop-m-preserved g c =
    let d = c.args.tables.now in
    let m = c.loop-m.m in
    let base = row_of c.args.base.now in
    let row = row_of c.loop-m.row in
    let had = c.loop-m.invariant in
    let (tried, trials, steps) = had.steps in
    let names = ap (λ (l : List (List ℕ)). length l) c.nonterminals-nonterminals.ensures.value in
    let same = ap (λ (z : MDescription). length z.nonterminals) c.description.ensures.value in
    let inside : m < length c.args.base.now = (let h = c.loop-m-test.true in let w = c.requires.wide in omega arith) in
    let After : List Cell → Type 0 = λ cells. Merged d.rules (length d.nonterminals) base (m + 1) (row_of cells) in
    record {
      merged = elim c.match-seen.branch [
        | in-Some w ↦
            let here : CellAt base m w.in-Some.from = seen_at c.args.base.now m _ inside ∙ sym w.in-Some.ensures in
            subst After (sym w.row-is) (merged_more d base row (row_of w.extend.new.row) m w.in-Some.from w.best_chains.result.now here w.best_chains.ensures had.merged w.extend.ensures.extended)
        | in_default w ↦
            let none : get_or base m None ≡ None = seen_at c.args.base.now m _ inside ∙ sym w.in_default.ensures in
            subst After (sym w.row-is) (merged_skip d.rules (length d.nonterminals) base row m none had.merged)
      ];
      steps = elim c.match-seen.branch [
        | in-Some w ↦
            let here : CellAt base m w.in-Some.from = seen_at c.args.base.now m _ inside ∙ sym w.in-Some.ensures in
            let more = w.extend.ensures.steps in
            let now = w.steps-is in
            (tried + length w.best_chains.result.now, Start (w.in-Some.from, here) w.best_chains.ensures.many trials, omega arith)
        | in_default w ↦
            let none : get_or base m None ≡ None = seen_at c.args.base.now m _ inside ∙ sym w.in_default.ensures in
            let now = w.steps-is in
            (tried, Pass (λ (cell, at). let f = sym at ∙ none in cc) trials, omega arith)
      ];
    }

pub returns-clause-closed : goal.returns-clause-closed
returns-clause-closed g c = λ constant.
    let d = c.args.tables.now in
    let base = row_of c.args.base.now in
    let names = ap (λ (l : List (List ℕ)). length l) c.nonterminals-nonterminals.ensures.value in
    let same = ap (λ (z : MDescription). length z.nonterminals) c.description.ensures.value in
    let over : c.loop-m.m ≡ length d.nonterminals = (let h = c.loop-m-test.false in let e = c.loop-m.auto.m-end in omega arith) in
    let All : ℕ → Type 0 = λ k. Merged d.rules (length d.nonterminals) base k (row_of c.loop-m.row) in
    let long = row_long c.args.base.now in
    merged_closed d.rules constant (length d.nonterminals) base (row_of c.loop-m.row) c.requires.free c.requires.named (let w = c.requires.wide in omega arith) (subst All over c.loop-m.invariant.merged)
