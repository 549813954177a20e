-- An example: an expression that names an object, a function and a string literal, and what it becomes.
use Rattle.std.proofs.Common.{◌≡◌, ℕ, zero, suc, true, false, [], ◌∷◌, refl}
use Rattle.std.specs.Prelude.{Some, codes}
use Rattle.c_types.specs.CType.{Char, Int, CType, Plain, Array, Function, Listed, NoType, basic}
use Rattle.c_meaning.specs.declared.core_expr.CoreKind.{CoreKind}
use Rattle.c_meaning.specs.declared.core_expr.CoreKind.TheVariants as kind
use Rattle.c_meaning.specs.CoreTrees.{Core, none, one, two}
use Rattle.c_meaning.specs.Fits.{Fits, IsOpenLeaf}
use Rattle.c_meaning.specs.StmtTrees.{Nothing}
use Rattle.c_meaning.specs.Types.{pointer_to}
use Rattle.c_meaning.specs.Units.{FunctionTree, IsExpr, IsLeaf, ObjectTree, UnitTree}
use Rattle.c_meaning.specs.Values.{CoreTree}
use Rattle.c_units.specs.Wholes.{placed, whole}
use Rattle.c_whole_fits.specs.There.{IsMeant, NamesAreThere, is_meaning}
use Rattle.c_whole_fits.proofs.lemmas.Meant.{place_meant}
use Rattle.c_whole_fits.proofs.lemmas.Placed.{placed_fits}
use Rattle.c_whole_fits.proofs.lemmas.Wholes.{whole_fits}

-- ---- int f(void); int n; .. n = f(), "ab"

abbrev int : CType
int = basic Int

abbrev giving : CType
giving = Plain 0 (Function int (Listed NoType false))

abbrev f : FunctionTree
f = record { name = codes "f"; of = giving; parameters = 0; locals = []; body = Nothing }

abbrev n : ObjectTree
n = record { name = codes "n"; of = int; line = 1; constant = false; places = [] }

abbrev unit : UnitTree
unit = record { functions = f ∷ []; objects = n ∷ []; texts = codes "ab" ∷ []; tags = []; main = 0 }

-- the function is the first symbol
abbrev meant : ℕ → CoreKind
meant zero = kind.Function 0
meant (suc id) = kind.Object 0

abbrev expression : CType → CoreKind → CoreKind → CoreKind → CoreKind → CoreTree
expression chars object function call text =
    Core kind.Comma (pointer_to (basic Char)) 1 (two
    (Core kind.Assign int 1 (two (Core object int 1 none) (Core call int 1 (one (Core kind.Address (pointer_to giving) 1 (one (Core function giving 1 none)))))))
    (Core kind.First (pointer_to (basic Char)) 1 (one (Core text chars 1 none))))

abbrev chars : CType
chars = Array (basic Char) (Some 3)

abbrev before : CoreTree
before = expression chars (kind.Symbol 1) (kind.Symbol 0) (kind.Call 0) (kind.Literal (codes "ab"))

abbrev behind : CoreTree
behind = expression chars (kind.Object 0) (kind.Function 0) (kind.Call 5) (kind.Text 0)

is_so : placed 5 (whole meant (codes "ab" ∷ []) before) ≡ behind
is_so = refl

address_fits : Fits IsOpenLeaf [] (Core kind.Address (pointer_to giving) 1 (one (Core (kind.Symbol 0) giving 1 none)))
address_fits = (((tt, (refl, tt)), tt), (refl, (refl, refl)))

call_fits : Fits IsOpenLeaf [] (Core (kind.Call 0) int 1 (one (Core kind.Address (pointer_to giving) 1 (one (Core (kind.Symbol 0) giving 1 none)))))
call_fits = ((address_fits, tt), (refl, (refl, (refl, (refl, (refl, tt))))))

first_fits : Fits IsOpenLeaf [] (Core kind.First (pointer_to (basic Char)) 1 (one (Core (kind.Literal (codes "ab")) chars 1 none)))
first_fits = (((tt, (refl, refl)), tt), (refl, (refl, (basic Char, Some 3, refl, refl))))

fits : Fits IsOpenLeaf [] before
fits = (((((tt, (refl, tt)), (call_fits, tt)), (refl, (refl, (refl, (refl, refl))))), (first_fits, tt)), (refl, refl))

there : NamesAreThere (IsLeaf unit []) meant (codes "ab" ∷ []) before
there = (
  tt,
  (
    (tt, (((n, refl, refl), tt), ((tt, ((tt, (((f, refl, refl), tt), tt)), tt)), tt))),
    ((tt, (((codes "ab", refl, refl), tt), tt)), tt),
  ),
)

meaning : (id : ℕ) → is_meaning (meant id) ≡ true
meaning zero = refl
meaning (suc id) = refl

means : IsMeant (IsLeaf unit []) meant
means = record { meaning = meaning; places = λ id of l e. place_meant unit [] (refl, tt) (meant id) of (meaning id) l e }

behind_fits : IsExpr unit [] behind
behind_fits = placed_fits (IsLeaf unit []) [] (λ k m of e. e) 5 (whole meant (codes "ab" ∷ []) before) (whole_fits (IsLeaf unit []) meant (codes "ab" ∷ []) [] means before fits there)
