-- What a checker's answers say: of a whole construct, and of a node whose parts are checked.
use Rattle.std.specs.Prelude.{◌≡◌, ℕ}
use Rattle.c_types.specs.Table.{Table, tags, type_at}
use Rattle.c_meaning.specs.CoreTrees.{CoreOf, seen}
use Rattle.c_meaning.specs.Constraints.{Breaks, Passes}
use Rattle.c_meaning.specs.Nodes.{ExprNode}
use Rattle.c_meaning.specs.State.{State}
use Rattle.c_meaning.specs.Typing.{Outcome, Fine, Bad, at_expr}
use Rattle.c_values.specs.declared.check_fault.CheckFault.{CheckFault}
use Rattle.c_values.specs.declared.check_fault.CheckFault.TheVariants.{Constraint, Limit, Memory}

-- the fault is the one of the outcome; want of memory says nothing of it
abbrev pub Tells : {T : Type 0} → CheckFault → Outcome T → Type 0
Tells (Constraint number line) outcome = outcome ≡ Bad (Breaks number line)
Tells (Limit limit line) outcome = outcome ≡ Bad (Passes limit line)
Tells Memory outcome = Unit {0}

-- the node of an expression, with what a table knows, becomes this core
abbrev pub Becomes : Table → ℕ → ExprNode → Table → CoreOf ℕ → Type 0
Becomes old line n new c = (s : State) → s.tags ≡ tags old → at_expr s line n ≡ Fine s (seen (type_at new) c)

-- it has this fault
abbrev pub IsRefused : Table → ℕ → ExprNode → CheckFault → Type 0
IsRefused old line n e = (s : State) → s.tags ≡ tags old → Tells e (at_expr s line n)
