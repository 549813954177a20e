-- What each operator takes and gives: the suffixes of its operands, from left to right, and whether it gives a value.
-- A pair that is no operator has no row: what stands here for it says nothing.
-- Source: Fraser and Hanson, A Retargetable C Compiler, chapter 5, without floating point.
use Rattle.std.specs.Prelude.{Bool, true, false, List, [], ◌∷◌}
use Rattle.op_forest.specs.declared.op.Op.{Op}
use Rattle.op_forest.specs.declared.op.Op.TheVariants.{Cnst, Addrg, Addrf, Addrl, Indir, Asgn, Arg, Call, Ret, Cvc, Cvs, Cvi, Cvu, Cvp, Neg, Bcom, Add, Sub, Mul, Div, Mod, Lsh, Rsh, Band, Bor, Bxor, Eq, Ne, Lt, Le, Gt, Ge, Jump, Label}
use Rattle.op_forest.specs.declared.suffix.Suffix.{Suffix}
use Rattle.op_forest.specs.declared.suffix.Suffix.TheVariants.{C, S, I, U, P, V}

-- the suffixes of the operands
abbrev pub takes : Op → Suffix → List Suffix
takes Cnst s = []
takes Addrg s = []
takes Addrf s = []
takes Addrl s = []
takes Indir s = P ∷ []
takes Asgn s = P ∷ s ∷ []
takes Arg s = s ∷ []
takes Call s = P ∷ []
takes Ret V = []
takes Ret s = s ∷ []
takes Cvc s = C ∷ []
takes Cvs s = S ∷ []
takes Cvi s = I ∷ []
takes Cvu s = U ∷ []
takes Cvp s = P ∷ []
takes Neg s = s ∷ []
takes Bcom s = s ∷ []
takes Add P = P ∷ I ∷ []
takes Add s = s ∷ s ∷ []
takes Sub P = P ∷ I ∷ []
takes Sub s = s ∷ s ∷ []
takes Mul s = s ∷ s ∷ []
takes Div s = s ∷ s ∷ []
takes Mod s = s ∷ s ∷ []
takes Lsh s = s ∷ I ∷ []
takes Rsh s = s ∷ I ∷ []
takes Band s = s ∷ s ∷ []
takes Bor s = s ∷ s ∷ []
takes Bxor s = s ∷ s ∷ []
takes Eq s = s ∷ s ∷ []
takes Ne s = s ∷ s ∷ []
takes Lt s = s ∷ s ∷ []
takes Le s = s ∷ s ∷ []
takes Gt s = s ∷ s ∷ []
takes Ge s = s ∷ s ∷ []
takes Jump s = P ∷ []
takes Label s = []

abbrev pub gives_value : Op → Suffix → Bool
gives_value Asgn s = false
gives_value Arg s = false
gives_value Call V = false
gives_value Ret s = false
gives_value Eq s = false
gives_value Ne s = false
gives_value Lt s = false
gives_value Le s = false
gives_value Gt s = false
gives_value Ge s = false
gives_value Jump s = false
gives_value Label s = false
gives_value op s = true

-- behind a return, a jump or a comparison the run may go on elsewhere
abbrev pub moves : Op → Bool
moves Ret = true
moves Eq = true
moves Ne = true
moves Lt = true
moves Le = true
moves Gt = true
moves Ge = true
moves Jump = true
moves op = false
