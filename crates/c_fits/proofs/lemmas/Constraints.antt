-- At a node without a fault no constraint is broken.
use Rattle.std.proofs.Common.{◌≡◌, ℕ, Bool, true, false, List, [], ◌∷◌, refl}
use Rattle.std.specs.Prelude.{◌==◌, Option, Some, None, if◌then◌else◌}
use Rattle.c_meaning.specs.State.{State}
use Rattle.c_meaning.specs.Nodes.{Node}
use Rattle.lcc_base.specs.declared.which.Which.{Which}
use Rattle.c_meaning.specs.Constraints.{Constraint, constraints, broken_or, fault_at, first_broken, first_passed}
use Rattle.c_meaning.specs.Declarations.{DeclNode, decl_constraints, decl_fault}
use Rattle.c_meaning.specs.Initialising.{InitNode, init_constraints, init_fault, init_types}
use Rattle.c_meaning.specs.NodeConstraints.{ConstraintOn, first_of, passed_by}

-- the test of the constraint of this number
abbrev pub test_of : List Constraint → ℕ → State → Node → Bool
test_of [] number s n = false
test_of (c ∷ cs) number s n = if c.number == number then c.is_broken s n else test_of cs number s n

none_broken : (cs : List Constraint) (s : State) (n : Node) (number : ℕ) → first_broken cs s n ≡ None → test_of cs number s n ≡ false
none_broken [] s n number h = refl
none_broken (c ∷ cs) s n number h = by (c.number == number) (c.is_broken s n) refl h (none_broken cs s n number)
  where
    by : (b t : Bool) → c.is_broken s n ≡ t → (if t then Some c.number else first_broken cs s n) ≡ None → (first_broken cs s n ≡ None → test_of cs number s n ≡ false)
        → (if b then c.is_broken s n else test_of cs number s n) ≡ false
    by b true e h k = absurd (let never : ⊥ = cc in never)
    by true false e h k = e
    by false false e h k = k h

pub unbroken : (s : State) (line : ℕ) (n : Node) → fault_at s line n ≡ None → (number : ℕ) → test_of constraints number s n ≡ false
unfolding fault_at
unbroken s line n h number = by (first_broken constraints s n) refl h
  where
    by : (o : Option ℕ) → first_broken constraints s n ≡ o → broken_or line o (first_passed s line n) ≡ None → test_of constraints number s n ≡ false
    by (Some m) e h = absurd (let never : ⊥ = cc in never)
    by None e h = none_broken constraints s n number e

-- ---- of initialisers and declarations

abbrev pub test_in : {N : Type 0} → List (ConstraintOn N) → ℕ → State → N → Bool
test_in [] number s n = false
test_in (c ∷ cs) number s n = if c.number == number then c.is_broken s n else test_in cs number s n

none_of : {N : Type 0} (cs : List (ConstraintOn N)) (s : State) (n : N) (number : ℕ) → first_of cs s n ≡ None → test_in cs number s n ≡ false
none_of [] s n number h = refl
none_of (c ∷ cs) s n number h = by (c.number == number) (c.is_broken s n) refl h (none_of cs s n number)
  where
    by : (b t : Bool) → c.is_broken s n ≡ t → (if t then Some c.number else first_of cs s n) ≡ None → (first_of cs s n ≡ None → test_in cs number s n ≡ false)
        → (if b then c.is_broken s n else test_in cs number s n) ≡ false
    by b true e h k = absurd (let never : ⊥ = cc in never)
    by true false e h k = e
    by false false e h k = k h

-- where nothing is told no constraint is broken
pub unbroken_on : {N : Type 0} (cs : List (ConstraintOn N)) (s : State) (line : ℕ) (n : N) (limit : Option Which) → broken_or line (first_of cs s n) limit ≡ None → (number : ℕ) → test_in cs number s n ≡ false
unbroken_on cs s line n limit h number = by (first_of cs s n) refl h
  where
    by : (o : Option ℕ) → first_of cs s n ≡ o → broken_or line o limit ≡ None → test_in cs number s n ≡ false
    by (Some m) e h = absurd (let never : ⊥ = cc in never)
    by None e h = none_of cs s n number e

pub decl_unbroken : (s : State) (line : ℕ) (n : DeclNode) → decl_fault s line n ≡ None → (number : ℕ) → test_in decl_constraints number s n ≡ false
unfolding decl_fault
decl_unbroken s line n h number = unbroken_on decl_constraints s line n None h number

pub init_unbroken : (s : State) (line : ℕ) (n : InitNode) → init_fault s line n ≡ None → (number : ℕ) → test_in init_constraints number s n ≡ false
unfolding init_fault
init_unbroken s line n h number = unbroken_on init_constraints s line n (passed_by s.tags (init_types n)) h number
