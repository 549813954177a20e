-- Trees over any types with other kinds in them.
use Rattle.c_meaning.specs.declared.core_expr.CoreKind.{CoreKind}
use Rattle.c_meaning.specs.CoreTrees.{CoreOf, Core, CoresOf, NoCore, Cores}
use Rattle.c_meaning.specs.StmtTrees.{FilledOf}

-- each kind replaced
abbrev mutual
  pub with_kinds : {T : Type 0} → (CoreKind → CoreKind) → CoreOf T → CoreOf T
  with_kinds f (Core what of line kids) = Core (f what) of line (all_with_kinds f kids)

  pub all_with_kinds : {T : Type 0} → (CoreKind → CoreKind) → CoresOf T → CoresOf T
  all_with_kinds f NoCore = NoCore
  all_with_kinds f (Cores c cs) = Cores (with_kinds f c) (all_with_kinds f cs)

-- each kind of a place's value replaced
abbrev pub place_with_kinds : {T : Type 0} → (CoreKind → CoreKind) → FilledOf T → FilledOf T
place_with_kinds f p = record { of = p.of; offset = p.offset; first = p.first; width = p.width; value = with_kinds f p.value }
