-- What a declarator's parts say of it: that it is a name, or has none.
use Rattle.std.proofs.Common.{◌≡◌, ◌↔◌, ℕ, Some, None, Bool, IsTrue, true, false, ◌&&◌, List, [], ◌∷◌, map, refl, ap, ◌∙◌}
use Rattle.c_ast.specs.declared.expr.Declarator.{Declarator, out-Declarator}
use Rattle.c_ast.specs.declared.expr.Suffix.{Suffix}
use Rattle.c_ast.specs.declared.specifier.Qualifier.{Qualifier}
use Rattle.c_ast.specs.ExprMarks.{core_name, declared_name, is_own, just_name, no_pointers, no_suffixes}
use Rattle.c_ast.specs.Levels.{has_name, is_abstract, is_named, lacks_name, no_name_lists}
use Rattle.c_ast.specs.Trees.{CoreTree, DeclaratorTree}
use Rattle.c_ast.specs.Trees as trees
use Rattle.c_ast.specs.Views.{suffixes_of}
use Rattle.c_ast.specs.Seen.{core_seen, declarator_seen, suffix_seen}
use Rattle.c_ast.proofs.lemmas.SeenTypes.{declarator_parts}

regroup : (p s o : Bool) → (p && (s && o)) ≡ ((p && s) && o)
regroup true s o = refl
regroup false s o = refl

pub just_name_by : (v : Declarator) → just_name (declarator_seen v) ≡ ((no_pointers (out-Declarator v).pointers && no_suffixes (suffixes_of (map suffix_seen (out-Declarator v).suffixes))) && is_own (core_seen (out-Declarator v).core))
just_name_by v =
    ap just_name (declarator_parts v) ∙ regroup (no_pointers (out-Declarator v).pointers) (no_suffixes (suffixes_of (map suffix_seen (out-Declarator v).suffixes))) (is_own (core_seen (out-Declarator v).core))

pub is_abstract_by : (v : Declarator) → is_abstract (declarator_seen v) ≡ (no_name_lists (suffixes_of (map suffix_seen (out-Declarator v).suffixes)) && lacks_name (core_seen (out-Declarator v).core) (no_pointers (out-Declarator v).pointers && no_suffixes (suffixes_of (map suffix_seen (out-Declarator v).suffixes))))
is_abstract_by v = ap is_abstract (declarator_parts v)

pub no_pointers_if : (r : Bool) (ps : List (List Qualifier)) → (IsTrue r ↔ (ps ≡ [])) → r ≡ no_pointers ps
no_pointers_if true [] e = refl
no_pointers_if true (p ∷ ps) e = let none : (p ∷ ps) ≡ [] = e.0 refl in cc
no_pointers_if false [] e = let never : false ≡ true = e.1 refl in cc
no_pointers_if false (p ∷ ps) e = refl

pub no_suffixes_if : (r : Bool) (ss : List Suffix) → (IsTrue r ↔ (ss ≡ [])) → r ≡ no_suffixes (suffixes_of (map suffix_seen ss))
no_suffixes_if true [] e = refl
no_suffixes_if true (s ∷ ss) e = let none : (s ∷ ss) ≡ [] = e.0 refl in cc
no_suffixes_if false [] e = let never : false ≡ true = e.1 refl in cc
no_suffixes_if false (s ∷ ss) e = refl

mutual
  pub named_if : (d : DeclaratorTree) (n : List ℕ) → declared_name d ≡ Some n → is_named d ≡ true
  named_if (trees.Declarator l ps c ss) n e = core_named c n e

  core_named : (c : CoreTree) (n : List ℕ) → core_name c ≡ Some n → has_name c ≡ true
  core_named (trees.Named m) n e = refl
  core_named (trees.Inner d) n e = named_if d n e
  core_named trees.Omitted n e = cc

mutual
  pub unnamed_if : (d : DeclaratorTree) → declared_name d ≡ None → is_named d ≡ false
  unnamed_if (trees.Declarator l ps c ss) e = core_unnamed c e

  core_unnamed : (c : CoreTree) → core_name c ≡ None → has_name c ≡ false
  core_unnamed (trees.Named m) e = cc
  core_unnamed (trees.Inner d) e = unnamed_if d e
  core_unnamed trees.Omitted e = refl
