-- How many labels an expression uses: at most two for each expression in it, as a conditional does.
-- Source: Aho, Lam, Sethi and Ullman, Compilers, 6.6 (short-circuit code).
use Rattle.std.specs.Prelude.{ℕ, ◌≤◌, ◌+◌, ◌*◌, Bool}
use Rattle.c_meaning.specs.CoreTrees.{parts}
use Rattle.c_meaning.specs.Values.{CoreTree}
use Rattle.lowered_forms.specs.Contexts.{Context}
use Rattle.lowered_forms.specs.Expressions.{low_e, low_test}
use Rattle.lowered_forms.specs.Lows.{Low}

abbrev pub LabelsAreFew : Type 0
LabelsAreFew = (s : Context) (e : CoreTree) (l : Low) → (low_e s e l).low.labels ≤ l.labels + 2 * parts e

abbrev pub TestLabelsAreFew : Type 0
TestLabelsAreFew = (s : Context) (e : CoreTree) (n : ℕ) (when : Bool) (l : Low) → (low_test s e n when l).labels ≤ l.labels + 2 * parts e
