-- Lemmas: the number of an operator gives the operator back.
use Rattle.std.specs.Prelude.{◌≡◌, ℕ, ◌⊎◌, Some, slice_get, refl}
use Rattle.std.proofs.Common.{ap, sym, ◌∙◌, inl, inr, ⊎_elim}
use Rattle.op_forest.specs.declared.op.Op.{Op}
use Rattle.op_forest.specs.declared.op.Op.TheVariants.{Cnst, Addrg, Addrf, Addrl, Indir, Asgn, Arg, Call, Ret, Cvc, Cvs, Cvi, Cvu, Cvp, Neg, Bcom, Add, Sub, Mul, Div, Mod, Lsh, Rsh, Band, Bor, Bxor, Eq, Ne, Lt, Le, Gt, Ge, Jump, Label}
use Rattle.op_forest.specs.declared.suffix.Suffix.{Suffix}
use Rattle.op_forest.specs.declared.suffix.Suffix.TheVariants.{C, S, I, U, P, B, V}
use Rattle.op_forest.specs.Operators.{number}
use Rattle.op_forest.specs.Nodes.{Head, number_of}
use Rattle.op_forest.specs.NumberedOperators.{Numbered, operators, HasNumber}

number_back : (o : Op) (x : Suffix) → (number o x ≡ 0) ⊎ (slice_get operators (number o x) ≡ Some (o, x))
number_back Cnst C = inr refl
number_back Cnst S = inr refl
number_back Cnst I = inr refl
number_back Cnst U = inr refl
number_back Cnst P = inr refl
number_back Addrg P = inr refl
number_back Addrf P = inr refl
number_back Addrl P = inr refl
number_back Indir C = inr refl
number_back Indir S = inr refl
number_back Indir I = inr refl
number_back Indir P = inr refl
number_back Indir B = inr refl
number_back Asgn C = inr refl
number_back Asgn S = inr refl
number_back Asgn I = inr refl
number_back Asgn P = inr refl
number_back Asgn B = inr refl
number_back Arg I = inr refl
number_back Arg P = inr refl
number_back Call I = inr refl
number_back Call V = inr refl
number_back Ret I = inr refl
number_back Ret V = inr refl
number_back Cvc I = inr refl
number_back Cvc U = inr refl
number_back Cvs I = inr refl
number_back Cvs U = inr refl
number_back Cvi C = inr refl
number_back Cvi S = inr refl
number_back Cvi U = inr refl
number_back Cvu C = inr refl
number_back Cvu S = inr refl
number_back Cvu I = inr refl
number_back Cvu P = inr refl
number_back Cvp U = inr refl
number_back Neg I = inr refl
number_back Bcom U = inr refl
number_back Add I = inr refl
number_back Add U = inr refl
number_back Add P = inr refl
number_back Sub I = inr refl
number_back Sub U = inr refl
number_back Sub P = inr refl
number_back Mul I = inr refl
number_back Mul U = inr refl
number_back Div I = inr refl
number_back Div U = inr refl
number_back Mod I = inr refl
number_back Mod U = inr refl
number_back Lsh I = inr refl
number_back Lsh U = inr refl
number_back Rsh I = inr refl
number_back Rsh U = inr refl
number_back Band U = inr refl
number_back Bor U = inr refl
number_back Bxor U = inr refl
number_back Eq I = inr refl
number_back Ne I = inr refl
number_back Lt I = inr refl
number_back Lt U = inr refl
number_back Le I = inr refl
number_back Le U = inr refl
number_back Gt I = inr refl
number_back Gt U = inr refl
number_back Ge I = inr refl
number_back Ge U = inr refl
number_back Jump V = inr refl
number_back Label V = inr refl
number_back o x = inl refl

same_op : (a b : Numbered) → Some a ≡ Some b → (a.0 ≡ b.0) × (a.1 ≡ b.1)
same_op a b e =
    let f : a ≡ b = cc in
    (ap (λ n. n.0) f, ap (λ n. n.1) f)

found_op : (a b : Numbered) (m : ℕ) → (m ≡ 0) ⊎ (slice_get operators m ≡ Some a) → (m ≡ 0 → ⊥) → slice_get operators m ≡ Some b → (a.0 ≡ b.0) × (a.1 ≡ b.1)
found_op a b m known some e = ⊎_elim (λ none. absurd (some none)) (λ f. same_op a b (sym f ∙ e)) known

pub is_numbered : (h : Head) (n : ℕ) (o : Op) (x : Suffix) → (n ≡ 0 → ⊥) → slice_get operators n ≡ Some (o, x) → HasNumber h n o x
is_numbered h n o x some e same =
    found_op (h.operator.op, h.operator.suffix) (o, x) (number_of h) (number_back h.operator.op h.operator.suffix) (λ zero. some (same ∙ zero)) (ap (slice_get operators) (sym same) ∙ e)
