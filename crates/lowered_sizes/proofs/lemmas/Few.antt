-- Slots and labels of lowered expressions are few.
use Rattle.std.specs.Prelude.{◌≤◌, ◌<◌, ℕ, ◌+◌, ◌*◌, Bool}
use Rattle.std.proofs.Common.{arith}
use Rattle.c_meaning.specs.CoreTrees.{parts}
use Rattle.c_meaning.specs.Values.{CoreTree}
use Rattle.lowered_forms.specs.Contexts.{Context}
use Rattle.lowered_forms.specs.Expressions.{low_e, low_test}
use Rattle.lowered_forms.specs.Lows.{Low}
use Rattle.lowered_forms.specs.Sizes.{other_slots}
use Rattle.lowered_sizes.proofs.lemmas.CountedExpressions.{slots_are, value_counts, test_counts}
use Rattle.lowered_sizes.proofs.lemmas.Taking.{Takes, takes_counts}

pub labels_are_few : (s : Context) (e : CoreTree) (l : Low) → (low_e s e l).low.labels ≤ l.labels + 2 * parts e
labels_are_few s e l = (value_counts Takes takes_counts s e l).labels

pub test_labels_are_few : (s : Context) (e : CoreTree) (n : ℕ) (when : Bool) (l : Low) → (low_test s e n when l).labels ≤ l.labels + 2 * parts e
test_labels_are_few s e n when l = (test_counts Takes takes_counts s e n when l).labels

pub slots_are_few : (s : Context) (e : CoreTree) (l : Low) → other_slots (low_e s e l).low < other_slots l + 2 * parts e
slots_are_few s e l = let h = (value_counts Takes takes_counts s e l).slots in let d = slots_are e in omega (arith, h, d)

pub test_slots_are_few : (s : Context) (e : CoreTree) (n : ℕ) (when : Bool) (l : Low) → other_slots (low_test s e n when l) < other_slots l + 2 * parts e
test_slots_are_few s e n when l = let h = (test_counts Takes takes_counts s e n when l).slots in let d = slots_are e in omega (arith, h, d)
