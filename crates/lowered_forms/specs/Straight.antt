-- Straight expressions, which go on in one block; and how many roots they add at most.
-- Source: ISO/IEC 9899:1990, 6.3.2.2, 6.3.2.4, 6.3.3.1, 6.3.16 (calls, changes, assignments); Aho, Lam, Sethi and Ullman, Compilers, 8.4
-- (basic blocks).
use Rattle.std.specs.Prelude.{ℕ, suc, ◌+◌, ◌*◌, Bool, true, false, ◌&&◌, List, [], ◌∷◌}
use Rattle.c_meaning.specs.declared.core_expr.CoreKind.{CoreKind}
use Rattle.c_meaning.specs.declared.core_expr.CoreKind.TheVariants as kind
use Rattle.c_meaning.specs.CoreTrees.{Core, NoCore, Cores}
use Rattle.c_meaning.specs.Values.{CoreTree, CoreTrees}
use Rattle.dag_forest.specs.declared.entry.Entry.{Entry}
use Rattle.dag_forest.specs.declared.entry.Entry.TheVariants.{Value, Root}

-- comparisons, `!`, `&&`, `||` and `?:` jump
abbrev pub goes_on : CoreKind → Bool
goes_on (kind.Compare operator signed) = false
goes_on kind.Not = false
goes_on kind.And = false
goes_on kind.Or = false
goes_on kind.Conditional = false
goes_on k = true

abbrev mutual
  pub straight : CoreTree → Bool
  straight (Core what of line kids) = goes_on what && all_straight kids

  pub all_straight : CoreTrees → Bool
  all_straight NoCore = true
  all_straight (Cores c cs) = straight c && all_straight cs

-- ---- roots

abbrev pub count : CoreTrees → ℕ
count NoCore = 0
count (Cores c cs) = suc (count cs)

abbrev pub argument_count : CoreTrees → ℕ
argument_count NoCore = 0
argument_count (Cores f cs) = count cs

-- one for an assignment and a change, two for a call and each of its arguments
abbrev pub own_roots : CoreKind → CoreTrees → ℕ
own_roots kind.Assign kids = 1
own_roots (kind.Change by) kids = 1
own_roots (kind.Postfix by) kids = 1
own_roots (kind.Call copies) kids = 2 + 2 * argument_count kids
own_roots k kids = 0

abbrev mutual
  pub roots_for : CoreTree → ℕ
  roots_for (Core what of line kids) = own_roots what kids + all_roots_for kids

  pub all_roots_for : CoreTrees → ℕ
  all_roots_for NoCore = 0
  all_roots_for (Cores c cs) = roots_for c + all_roots_for cs

-- how many roots a block has
abbrev pub root_count : List Entry → ℕ
root_count [] = 0
root_count (Value x ∷ es) = root_count es
root_count (Root x ∷ es) = suc (root_count es)
