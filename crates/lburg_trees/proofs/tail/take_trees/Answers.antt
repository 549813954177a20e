use Rattle.std.proofs.Common.{◌≡◌, ◌⊎◌, ℕ, ◌+◌, List, sym, subst, inl, inr, length, arith}
use Rattle.std.proofs.lemmas.Result.{IfOk-weaker, IfErr-weaker, on_ok_weaker}
use Rattle.lcc_text.specs.Lines.{lines_of}
use Rattle.lburg_lines.specs.Tokens.{Tok}
use Rattle.lburg_model.specs.Tree.{MTree}
use Rattle.lburg_model.specs.Description.{MDescription, IsDescription}
use Rattle.lburg_trees.specs.declared.tree_fault.TreeFault.{TreeFault}
use Rattle.lburg_trees.specs.declared.tree_fault.TreeFault.TheVariants.{Memory}
use Rattle.lburg_trees.specs.Rows.{Stands}
use Rattle.lburg_trees.specs.FirstFault.{IsTailOf, FirstFault}
use Rattle.lburg_trees.specs.TailText.{AreTrees, IsTail}
use Rattle.lburg_trees.specs.Reading.{AreFine, FailsAt}
use Rattle.lburg_trees.specs.Taking.{Takes}
use Rattle.lburg_trees.proofs.Tails.{OneSpelling, OneText, one_tail, same_trees, trees_fine, fine_none, first_fault}
use Rattle.lburg_trees.proofs.tail.take_trees.Goals as goal

-- the trees of a tail are those of its lines
trees_of : (d : MDescription) (text : List ℕ) (before : ℕ) (lines : List (List ℕ)) (trees : List MTree) → OneText → IsTailOf text before lines → IsTail d trees text → AreTrees d lines trees
trees_of d text before lines trees law tail h =
    let e = one_tail text h.before before h.lines lines law h.tail tail in
    subst (λ (l : List (List ℕ)). AreTrees d l trees) e.1 h.spelled

-- no first fault stands in lines without one
none_first : (d : MDescription) (text : List ℕ) (before : ℕ) (lines : List (List ℕ)) (f : TreeFault) → OneText → OneSpelling → IsTailOf text before lines → AreFine d lines (length lines) → FirstFault d text f → ⊥
none_first d text before lines f law one tail fine h =
    let e = one_tail text h.before before h.lines lines law h.tail tail in
    fine_none d h.before h.lines h.place one (subst (λ (l : List (List ℕ)). AreFine d l (length l)) (sym e.1) fine) h.first.stands

-- where the lines spell trees, none of them fails
only_memory : (d : MDescription) (before : ℕ) (lines : List (List ℕ)) (trees : List MTree) (f : TreeFault) → OneSpelling → IsDescription d → AreTrees d lines trees → (f ≡ Memory) ⊎ FailsAt d before lines f → f ≡ Memory
only_memory d before lines trees f one is a (inl e) = e
only_memory d before lines trees f one is a (inr h) =
    absurd (let k = trees_fine d lines trees (h.index + 1) is a h.index h.line (omega arith) h.there in k.2 h.which h.place (subst (λ (z : List Tok). Stands d h.which z h.place) (one h.tokens k.0 h.line h.spelled k.1) h.fault.stands))

-- a taker that took the trees of the lines took these
took : {T : Type 0} (step : T → ℕ → MTree → T → Type 0) (d : MDescription) (lines : List (List ℕ)) (trees : List MTree) (s s' : T) → OneSpelling → IsDescription d → AreTrees d lines trees → (xs : List MTree) × AreTrees d lines xs × Takes step 1 xs s s' → Takes step 1 trees s s'
took {T} step d lines trees s s' one is a (xs, b, t) =
    let Took : List MTree → Type 0 = λ ts. Takes step 1 ts s s' in
    subst Took (same_trees d lines xs trees one is b a) t

pub returns-clause-one : goal.returns-clause-one
returns-clause-one g c = λ trees h.
    let d = c.args.d.now in
    let step = g.T.TreeTaker.takes in
    let old = c.args.taker.now in
    let new = c.take_lines.new.taker in
    let lines = lines_of c.in_ok-tail.tail.text.now in
    let a = trees_of d c.args.text.now c.in_ok-tail.tail.before lines trees c.one_text.ensures c.in_ok-tail.ensures.is h in
    on_ok_weaker c.take_lines.result (took step d lines trees old new c.one_spelling.ensures c.terminals.ensures.is a) c.take_lines.ensures.found

pub returns-clause-fine : goal.returns-clause-fine
returns-clause-fine g c =
    let d = c.args.d.now in
    let lines = lines_of c.in_ok-tail.tail.text.now in
    IfOk-weaker c.take_lines.result (λ _. AreFine d lines (length lines)) (λ _. (f : TreeFault) → FirstFault d c.args.text.now f → ⊥)
    (λ _ k f h. none_first d c.args.text.now c.in_ok-tail.tail.before lines f c.one_text.ensures c.one_spelling.ensures c.in_ok-tail.ensures.is k h) c.take_lines.ensures.fine

pub returns-clause-fault : goal.returns-clause-fault
returns-clause-fault g c =
    let d = c.args.d.now in
    let text = c.args.text.now in
    let before = c.in_ok-tail.tail.before in
    let lines = lines_of c.in_ok-tail.tail.text.now in
    IfErr-weaker c.take_lines.result (λ f. (f ≡ Memory) ⊎ FailsAt d before lines f) (λ f. (f ≡ Memory) ⊎ FirstFault d text f)
    (λ f k. elim k [ inl e ↦ inl e | inr h ↦ inr (first_fault d text before lines f c.one_spelling.ensures c.in_ok-tail.ensures.is h) ]) c.take_lines.ensures.fault

pub returns-clause-only : goal.returns-clause-only
returns-clause-only g c = λ trees h.
    let d = c.args.d.now in
    let before = c.in_ok-tail.tail.before in
    let lines = lines_of c.in_ok-tail.tail.text.now in
    let a = trees_of d c.args.text.now before lines trees c.one_text.ensures c.in_ok-tail.ensures.is h in
    IfErr-weaker c.take_lines.result (λ f. (f ≡ Memory) ⊎ FailsAt d before lines f) (λ f. f ≡ Memory)
    (λ f k. only_memory d before lines trees f c.one_spelling.ensures c.terminals.ensures.is a k) c.take_lines.ensures.fault
