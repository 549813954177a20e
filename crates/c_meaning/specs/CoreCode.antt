-- A checked expression as a list that gives it back: its expressions, parts first, each with the number of its parts.
use Rattle.std.specs.Prelude.{◌≡◌, ℕ, zero, suc, ◌+◌, List, [], ◌∷◌, refl}
use Rattle.std.proofs.Common.{arith, ap, ◌∙◌}
use Rattle.std.specs.Coded.{Coded, code_by, coded×, coded_ℕ, coded_list}
use Rattle.c_meaning.specs.declared.core_expr.CoreKind.{CoreKind}
use Rattle.c_meaning.specs.declared.core_expr.CoreKind.TheVariants as kind
use Rattle.c_meaning.specs.contracts.core_expr.CoreKind as kind_contract
use Rattle.c_meaning.specs.CoreTrees.{CoreOf, Core, CoresOf, NoCore, Cores}

-- how many parts it has, what it is, its type and its line
abbrev Entry : Type 0
Entry = ℕ × (CoreKind × (ℕ × ℕ))

abbrev count : CoresOf ℕ → ℕ
count NoCore = 0
count (Cores c cs) = suc (count cs)

abbrev mutual
  pub written : CoreOf ℕ → List Entry → List Entry
  written (Core what of line kids) rest = all_written kids ((count kids, (what, (of, line))) ∷ rest)

  pub all_written : CoresOf ℕ → List Entry → List Entry
  all_written NoCore rest = rest
  all_written (Cores c cs) rest = written c (all_written cs rest)

-- so many expressions off the stack of what was read before, the last one first, put before others; and what is left
abbrev taken : ℕ → List (CoreOf ℕ) → CoresOf ℕ → CoresOf ℕ
taken zero stack kids = kids
taken (suc n) [] kids = kids
taken (suc n) (c ∷ stack) kids = taken n stack (Cores c kids)

abbrev left : ℕ → List (CoreOf ℕ) → List (CoreOf ℕ)
left zero stack = stack
left (suc n) [] = []
left (suc n) (c ∷ stack) = left n stack

abbrev put : Entry → List (CoreOf ℕ) → List (CoreOf ℕ)
put e stack = Core e.1.0 e.1.1.0 e.1.1.1 (taken e.0 stack NoCore) ∷ left e.0 stack

abbrev read_back : List Entry → List (CoreOf ℕ) → List (CoreOf ℕ)
read_back [] stack = stack
read_back (e ∷ es) stack = read_back es (put e stack)

abbrev top : List (CoreOf ℕ) → CoreOf ℕ
top [] = Core kind.Read 0 0 NoCore
top (c ∷ cs) = c

-- expressions on the stack, the last one topmost
abbrev pushed : CoresOf ℕ → List (CoreOf ℕ) → List (CoreOf ℕ)
pushed NoCore stack = stack
pushed (Cores c cs) stack = pushed cs (c ∷ stack)

abbrev before : CoresOf ℕ → CoresOf ℕ → CoresOf ℕ
before NoCore kids = kids
before (Cores c cs) kids = Cores c (before cs kids)

before_none : (cs : CoresOf ℕ) → before cs NoCore ≡ cs
before_none NoCore = refl
before_none (Cores c cs) = ap (Cores c) (before_none cs)

nothing : (n : ℕ) → 0 + n ≡ n
nothing n = omega arith

more : (n : ℕ) → n ≡ n + 0
more n = omega arith

moved : (a b : ℕ) → suc a + b ≡ a + suc b
moved a b = omega arith

taken_pushed : (cs : CoresOf ℕ) (n : ℕ) (stack : List (CoreOf ℕ)) (kids : CoresOf ℕ) → taken (count cs + n) (pushed cs stack) kids ≡ taken n stack (before cs kids)
taken_pushed NoCore n stack kids = ap (λ m. taken m stack kids) (nothing n)
taken_pushed (Cores c cs) n stack kids = ap (λ m. taken m (pushed cs (c ∷ stack)) kids) (moved (count cs) n) ∙ taken_pushed cs (suc n) (c ∷ stack) kids

left_pushed : (cs : CoresOf ℕ) (n : ℕ) (stack : List (CoreOf ℕ)) → left (count cs + n) (pushed cs stack) ≡ left n stack
left_pushed NoCore n stack = ap (λ m. left m stack) (nothing n)
left_pushed (Cores c cs) n stack = ap (λ m. left m (pushed cs (c ∷ stack))) (moved (count cs) n) ∙ left_pushed cs (suc n) (c ∷ stack)

put_pushed : (what : CoreKind) (of line : ℕ) (kids : CoresOf ℕ) (stack : List (CoreOf ℕ)) → put (count kids, (what, (of, line))) (pushed kids stack) ≡ Core what of line kids ∷ stack
put_pushed what of line kids stack =
    ap (λ ks. Core what of line ks ∷ left (count kids) (pushed kids stack)) (ap (λ n. taken n (pushed kids stack) NoCore) (more (count kids)) ∙ taken_pushed kids 0 stack NoCore ∙ before_none kids)
    ∙ ap (λ st. Core what of line kids ∷ st) (ap (λ n. left n (pushed kids stack)) (more (count kids)) ∙ left_pushed kids 0 stack)

mutual
  read_written : (c : CoreOf ℕ) (rest : List Entry) (stack : List (CoreOf ℕ)) → read_back (written c rest) stack ≡ read_back rest (c ∷ stack)
  read_written (Core what of line kids) rest stack =
      all_read_written kids ((count kids, (what, (of, line))) ∷ rest) stack ∙ ap (read_back rest) (put_pushed what of line kids stack)

  all_read_written : (cs : CoresOf ℕ) (rest : List Entry) (stack : List (CoreOf ℕ)) → read_back (all_written cs rest) stack ≡ read_back rest (pushed cs stack)
  all_read_written NoCore rest stack = refl
  all_read_written (Cores c cs) rest stack = read_written c (all_written cs rest) stack ∙ all_read_written cs rest (c ∷ stack)

abbrev to_list : CoreOf ℕ → List Entry
to_list c = written c []

abbrev from_list : List Entry → CoreOf ℕ
from_list es = top (read_back es [])

pub back : (c : CoreOf ℕ) → from_list (to_list c) ≡ c
back c = ap top (read_written c [] [])

abbrev pub core_code : Coded (CoreOf ℕ)
core_code = code_by (List Entry) (coded_list (coded× coded_ℕ (coded× kind_contract.the_row.coded (coded× coded_ℕ coded_ℕ)))) to_list from_list back
