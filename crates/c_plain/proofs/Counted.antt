-- How many parts an expression has that is seen as a tree.
use Rattle.std.proofs.Common.{◌≡◌, ℕ, suc, List, [], ◌∷◌, length, refl, ap, sym, ◌∙◌}
use Rattle.c_meaning.specs.declared.core_expr.CoreKind.{CoreKind}
use Rattle.c_meaning.specs.CoreTrees.{CoreOf, Core, cores_of, kids_of}
use Rattle.c_plain.specs.Counts.{count}

counted : (kids : List (CoreOf ℕ)) → count (cores_of kids) ≡ length kids
counted [] = refl
counted (c ∷ cs) = ap suc (counted cs)

pub count_is : (e : CoreOf ℕ) (what : CoreKind) (of line : ℕ) (kids slice : List (CoreOf ℕ)) → Core what of line (cores_of kids) ≡ e → slice ≡ kids → count (kids_of e) ≡ length slice
count_is e what of line kids slice v s = sym (ap (λ x. count (kids_of x)) v) ∙ counted kids ∙ ap length (sym s)
