-- The number of an operator gives the operator back.
use Rattle.std.specs.Prelude.{◌≡◌, ℕ, List, [], ◌∷◌}
use Rattle.op_forest.specs.declared.op.Op.{Op}
use Rattle.op_forest.specs.declared.op.Op.TheVariants.{Cnst, Addrg, Addrf, Addrl, Indir, Asgn, Arg, Call, Ret, Cvc, Cvs, Cvi, Cvu, Cvp, Neg, Bcom, Add, Sub, Mul, Div, Mod, Lsh, Rsh, Band, Bor, Bxor, Eq, Ne, Lt, Le, Gt, Ge, Jump, Label}
use Rattle.op_forest.specs.declared.suffix.Suffix.{Suffix}
use Rattle.op_forest.specs.declared.suffix.Suffix.TheVariants.{C, S, I, U, P, B, V}
use Rattle.op_forest.specs.Nodes.{Head, number_of}

abbrev pub Numbered : Type 0
Numbered = Op × Suffix

-- by their numbers; none has the number 0
abbrev pub operators : List Numbered
operators =
    (Cnst, C)
    ∷ (Cnst, C)
    ∷ (Cnst, S)
    ∷ (Cnst, I)
    ∷ (Cnst, U)
    ∷ (Cnst, P)
    ∷ (Addrg, P)
    ∷ (Addrf, P)
    ∷ (Addrl, P)
    ∷ (Indir, C)
    ∷ (Indir, S)
    ∷ (Indir, I)
    ∷ (Indir, P)
    ∷ (Indir, B)
    ∷ (Asgn, C)
    ∷ (Asgn, S)
    ∷ (Asgn, I)
    ∷ (Asgn, P)
    ∷ (Asgn, B)
    ∷ (Arg, I)
    ∷ (Arg, P)
    ∷ (Call, I)
    ∷ (Call, V)
    ∷ (Ret, I)
    ∷ (Ret, V)
    ∷ (Cvc, I)
    ∷ (Cvc, U)
    ∷ (Cvs, I)
    ∷ (Cvs, U)
    ∷ (Cvi, C)
    ∷ (Cvi, S)
    ∷ (Cvi, U)
    ∷ (Cvu, C)
    ∷ (Cvu, S)
    ∷ (Cvu, I)
    ∷ (Cvu, P)
    ∷ (Cvp, U)
    ∷ (Neg, I)
    ∷ (Bcom, U)
    ∷ (Add, I)
    ∷ (Add, U)
    ∷ (Add, P)
    ∷ (Sub, I)
    ∷ (Sub, U)
    ∷ (Sub, P)
    ∷ (Mul, I)
    ∷ (Mul, U)
    ∷ (Div, I)
    ∷ (Div, U)
    ∷ (Mod, I)
    ∷ (Mod, U)
    ∷ (Lsh, I)
    ∷ (Lsh, U)
    ∷ (Rsh, I)
    ∷ (Rsh, U)
    ∷ (Band, U)
    ∷ (Bor, U)
    ∷ (Bxor, U)
    ∷ (Eq, I)
    ∷ (Ne, I)
    ∷ (Lt, I)
    ∷ (Lt, U)
    ∷ (Le, I)
    ∷ (Le, U)
    ∷ (Gt, I)
    ∷ (Gt, U)
    ∷ (Ge, I)
    ∷ (Ge, U)
    ∷ (Jump, V)
    ∷ (Label, V)
    ∷ []

-- a head with this number has this operator
abbrev pub HasNumber : Head → ℕ → Op → Suffix → Type 0
HasNumber h n o x = (n ≡ number_of h) → (h.operator.op ≡ o) × (h.operator.suffix ≡ x)
