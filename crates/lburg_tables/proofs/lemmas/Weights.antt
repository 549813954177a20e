-- How many rules have a root, a rule at a time.
use Rattle.std.proofs.Common.{◌≡◌, ℕ, ◌+◌, List, [], ◌∷◌, refl, ap, ◌∙◌, sym, arith}
use Rattle.std.specs.Prelude.{Bool, true, false, if◌then◌else◌}
use Rattle.std.proofs.lemmas.List.Recursion.{is_count_by}
use Rattle.lburg_model.specs.declared.rule.Rule.{Rule}
use Rattle.lburg_model.specs.Pattern.{MPattern, pattern_of}
use Rattle.lburg_tables.specs.Root.{Root, root_of, same_root, has_root}
use Rattle.lburg_tables.specs.Places.{with_root}

-- 1 for a pattern with this root, else 0
abbrev pub root_weight : Root → MPattern → ℕ
root_weight root p = if same_root (root_of p) root then 1 else 0

abbrev weights : Root → List Rule → ℕ
weights root [] = 0
weights root (r ∷ rs) = root_weight root (pattern_of r.pattern) + weights root rs

counted : (b : Bool) (n : ℕ) → (if b then 1 else 0) + n ≡ (if b then 1 + n else n)
counted true n = refl
counted false n = omega arith

pub with_more : (root : Root) (r : Rule) (rs : List Rule) → with_root root (r ∷ rs) ≡ root_weight root (pattern_of r.pattern) + with_root root rs
with_more root r rs =
    let are : (l : List Rule) → weights root l ≡ with_root root l = is_count_by (weights root) (has_root root) refl (λ q qs. counted (has_root root q) (weights root qs)) in
    sym (are (r ∷ rs)) ∙ ap (λ n. root_weight root (pattern_of r.pattern) + n) (are rs)
