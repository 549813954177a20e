-- What waits behind small blocks, what they make, and how their runs end.
use Rattle.std.specs.Prelude.{◌≡◌, refl, ℕ, pos, true, false, None, List, [], ◌∷◌}
use Rattle.std.proofs.Common.{inl, inr}
use Rattle.op_forest.specs.declared.op.Op.TheVariants as op
use Rattle.op_forest.specs.declared.suffix.Suffix.TheVariants.{I, V}
use Rattle.op_forest.specs.declared.sym.Sym.TheVariants as sym
use Rattle.op_forest.specs.Nodes.{Leaf}
use Rattle.forests.specs.Words.{Word}
use Rattle.forests.specs.Worlds.{World, Point}
use Rattle.dag_forest.specs.declared.act.Act.TheVariants.{Made, Acts}
use Rattle.dag_forest.specs.declared.entry.Entry.{Entry}
use Rattle.dag_forest.specs.declared.entry.Entry.TheVariants.{Value, Root}
use Rattle.dag_forest.specs.declared.kids.Kids.TheVariants.{One, Two}
use Rattle.dag_forest.specs.BlockExamples.{over, call, address, doubled}
use Rattle.dag_forest.specs.Meaning.{Through, Out}
use Rattle.dag_forest.specs.Schedules.{acts_of}
use Rattle.dag_seam.specs.Laws.{GoesOn}
use Rattle.dag_seam.specs.Ran.{IsOver, IsOn}
use Rattle.dag_seam.specs.SplitLaws.{Lacks}
use Rattle.dag_seam.specs.Turns.{waiting, made_of, Makes}

-- the address of a function, a call of it, and its negative
abbrev called : List Entry
called = Value (address 2 (pos 0)) ∷ Value (call 0) ∷ Value (over op.Neg I (One 1)) ∷ []

both_wait : waiting called ≡ Made 1 (call 0) ∷ Made 2 (over op.Neg I (One 1)) ∷ []
both_wait = refl

-- until a root uses them
none_waits : waiting (Value (address 2 (pos 0)) ∷ Value (call 0) ∷ Value (over op.Neg I (One 1)) ∷ Root (over op.Ret I (One 2)) ∷ []) ≡ []
none_waits = refl

not_made : made_of called 1 ≡ false
not_made = refl

made : made_of called 0 ≡ true
made = refl

goes_on : GoesOn (doubled (pos 0)) (Root (over op.Asgn I (Two 2 3)) ∷ []) (Acts (over op.Asgn I (Two 2 3)) ∷ [])
goes_on = (refl, refl)

-- x is read as node 1 of 4
makes : Makes 1 (acts_of (doubled (pos 0)))
makes = inr (inl refl)

makes_no_fifth : Makes 4 (acts_of (doubled (pos 0))) → ⊥
makes_no_fifth (inl e) = let no : ⊥ = cc in no
makes_no_fifth (inr (inl e)) = let no : ⊥ = cc in no
makes_no_fifth (inr (inr (inl e))) = let no : ⊥ = cc in no
makes_no_fifth (inr (inr (inr (inl e)))) = let no : ⊥ = cc in no
makes_no_fifth (inr (inr (inr (inr e)))) = absurd e

over_out : (w : World) → IsOver (Out w)
over_out w = tt

goes_through : (values : ℕ → Word) (p : Point) → IsOver (Through values p) → ⊥
goes_through values p h = h

-- other values of nodes outside are the same run, and another end isn't
on_none : (values others : ℕ → Word) (p : Point) → IsOn (λ m. ⊥) (Through values p) (Through others p)
on_none values others p = (others, refl, (λ m no. absurd no))

not_on : (values : ℕ → Word) (p : Point) (w : World) → IsOn (λ m. ⊥) (Through values p) (Out w) → ⊥
not_on values p w h = let e : Out w ≡ Through h.0 p = h.1 in let no : ⊥ = cc in no

-- a label
lacks : Lacks 4 (Leaf (record { operator = record { op = op.Label; suffix = V }; sym = sym.Label 3; value = None }) ∷ [])
lacks = ((λ e. let no : ⊥ = cc in no), tt)

has_it : Lacks 3 (Leaf (record { operator = record { op = op.Label; suffix = V }; sym = sym.Label 3; value = None }) ∷ []) → ⊥
has_it h = h.0 refl
