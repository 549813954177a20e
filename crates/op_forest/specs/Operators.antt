-- The 69 operators, in the order of their numbers from 1, and what is a value of its parts as numbers.
-- Source: Fraser and Hanson, A Retargetable C Compiler, chapter 5, without floating point.
use Rattle.std.specs.Prelude.{ℕ}
use Rattle.op_forest.specs.declared.op.Op.{Op}
use Rattle.op_forest.specs.declared.op.Op.TheVariants.{Cnst, Addrg, Addrf, Addrl, Indir, Asgn, Arg, Call, Ret, Cvc, Cvs, Cvi, Cvu, Cvp, Neg, Bcom, Add, Sub, Mul, Div, Mod, Lsh, Rsh, Band, Bor, Bxor, Eq, Ne, Lt, Le, Gt, Ge, Jump, Label}
use Rattle.op_forest.specs.declared.suffix.Suffix.{Suffix}
use Rattle.op_forest.specs.declared.suffix.Suffix.TheVariants.{C, S, I, U, P, B, V}

-- the operator's number, 0 where the pair is no operator
abbrev pub number : Op → Suffix → ℕ
number Cnst C = 1
number Cnst S = 2
number Cnst I = 3
number Cnst U = 4
number Cnst P = 5
number Addrg P = 6
number Addrf P = 7
number Addrl P = 8
number Indir C = 9
number Indir S = 10
number Indir I = 11
number Indir P = 12
number Indir B = 13
number Asgn C = 14
number Asgn S = 15
number Asgn I = 16
number Asgn P = 17
number Asgn B = 18
number Arg I = 19
number Arg P = 20
number Call I = 21
number Call V = 22
number Ret I = 23
number Ret V = 24
number Cvc I = 25
number Cvc U = 26
number Cvs I = 27
number Cvs U = 28
number Cvi C = 29
number Cvi S = 30
number Cvi U = 31
number Cvu C = 32
number Cvu S = 33
number Cvu I = 34
number Cvu P = 35
number Cvp U = 36
number Neg I = 37
number Bcom U = 38
number Add I = 39
number Add U = 40
number Add P = 41
number Sub I = 42
number Sub U = 43
number Sub P = 44
number Mul I = 45
number Mul U = 46
number Div I = 47
number Div U = 48
number Mod I = 49
number Mod U = 50
number Lsh I = 51
number Lsh U = 52
number Rsh I = 53
number Rsh U = 54
number Band U = 55
number Bor U = 56
number Bxor U = 57
number Eq I = 58
number Ne I = 59
number Lt I = 60
number Lt U = 61
number Le I = 62
number Le U = 63
number Gt I = 64
number Gt U = 65
number Ge I = 66
number Ge U = 67
number Jump V = 68
number Label V = 69
number op suffix = 0
