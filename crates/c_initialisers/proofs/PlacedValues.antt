-- An expression among the items of a list: the node over its place, and what is stored behind others.
use Rattle.std.proofs.Common.{◌≡◌, ℕ, Bool, true, false, Option, Some, None, List, [], ◌∷◌, ◌++◌, refl, sym, ap, ◌∙◌}
use Rattle.std.specs.Prelude.{◌||◌, not}
use Rattle.c_types.specs.CType.{CType}
use Rattle.c_meaning.specs.Constraints.{Fault}
use Rattle.c_meaning.specs.Filling.{Found, Waiting, filled_by, is_nowhere, taken}
use Rattle.c_meaning.specs.Initialising.{InitForm, Stored, Value, init_constraints, init_fault, inner_node, joined, stored}
use Rattle.c_meaning.specs.NodeConstraints.{first_of}
use Rattle.c_meaning.specs.State.{State}
use Rattle.c_meaning.specs.StmtTrees.{FilledOf}
use Rattle.c_meaning.specs.Typing.{Fine, unless}
use Rattle.c_meaning.specs.Values.{CoreTree}
use Rattle.c_initialisers.specs.declared.nodes.Standing.{Standing}
use Rattle.c_initialisers.specs.Listed.{onto, value_in, value_onto}
use Rattle.c_initialisers.specs.Storing.{node_of}

or_false : (a : Bool) → (a || false) ≡ a
or_false true = refl
or_false false = refl

pub stored_same : (p q : List (FilledOf CType)) (v w : List Waiting) (x y : Bool) → p ≡ q → v ≡ w → x ≡ y → stored p v x ≡ stored q w y
stored_same p q v w x y h i j = rw (h, i, j) refl

pub standing_node : (z : Standing) (static : Bool) (form : InitForm) → z.is_static ≡ static → z.is_barred ≡ false → z.is_unfit ≡ false → node_of z form [] ≡ inner_node static form
standing_node z static form i j k = rw (i, j, k) refl

pub standing_first : (z : Standing) (static : Bool) (form : InitForm) (s : State) (r : Option ℕ) → z.is_static ≡ static → z.is_barred ≡ false → z.is_unfit ≡ false → first_of init_constraints s (node_of z form []) ≡ r → first_of init_constraints s (inner_node static form) ≡ r
standing_first z static form s r i j k h = ap (first_of init_constraints s) (sym (standing_node z static form i j k)) ∙ h

-- ---- behind others

onto_unless : (before : Stored) (f : Option Fault) (s : State) (x : Stored) → onto before (unless f s x) ≡ unless f s (joined before x)
onto_unless before (Some f) s x = refl
onto_unless before None s x = refl

pub value_found : (s : State) (static : Bool) (line : ℕ) (before : Stored) (c : CoreTree) (f : Found) → taken s.tags c before.left ≡ Some f → value_onto s static line before c ≡ value_in s static line f.at c (stored before.places f.left before.excess)
value_found s static line before c f e =
    rw e (onto_unless before (init_fault s line (inner_node static (Value (Some f.at) c))) s (stored (filled_by f.at c ∷ []) f.left false)
    ∙ ap (λ b. unless (init_fault s line (inner_node static (Value (Some f.at) c))) s (stored (before.places ++ filled_by f.at c ∷ []) f.left b)) (or_false before.excess))

none_fault : (s : State) (static : Bool) (line : ℕ) (c : CoreTree) → init_fault s line (inner_node static (Value None c)) ≡ None
unfolding init_fault
none_fault s true line c = refl
none_fault s false line c = refl

append_none : {A : Type 0} (xs : List A) → xs ++ [] ≡ xs
append_none [] = refl
append_none (x ∷ xs) = ap (λ ys. x ∷ ys) (append_none xs)

pub value_left : (s : State) (static : Bool) (line : ℕ) (before : Stored) (c : CoreTree) → taken s.tags c before.left ≡ None → value_onto s static line before c ≡ Fine s (stored before.places before.left (before.excess || not (is_nowhere before.left)))
value_left s static line before c e = rw (e, none_fault s static line c, append_none before.places) refl
