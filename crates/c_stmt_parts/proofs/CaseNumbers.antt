-- The numbers of a switch's cases, as a map from numbers to labels holds them.
use Rattle.std.proofs.Common.{◌≡◌, ℕ, Bool, true, false, List, [], ◌∷◌, ◌++◌, refl, ap, ◌∙◌}
use Rattle.std.specs.Prelude.{Option, Some, None, ◌||◌, if◌then◌else◌, is_some, nat_eq}
use Rattle.std.specs.Map.{lookup}
use denote.Ref.{Bor}
use Rattle.std.specs.Option.{option_copied}
use Rattle.c_meaning.specs.Units.{is_among, numbers}
use Rattle.c_meaning.specs.declared.core_stmt.CoreCase.{CoreCase}
use Rattle.c_stmt_parts.specs.CaseLists.{cases_in}

pub among_entries : (es : List (ℕ × ℕ)) (n : ℕ) → is_some (lookup (nat_eq n) es) ≡ is_among n (numbers (cases_in es))
among_entries [] n = refl
among_entries (e ∷ es) n = by (nat_eq n e.0) ∙ ap (λ (b : Bool). nat_eq n e.0 || b) (among_entries es n)
  where
    by : (b : Bool) → is_some (if b then Some e.1 else lookup (nat_eq n) es) ≡ (b || is_some (lookup (nat_eq n) es))
    by true = refl
    by false = refl

is_none_by : (o : Option ℕ) → is_some o ≡ false → o ≡ None
is_none_by None h = refl
is_none_by (Some x) h = absurd (cc)

pub not_among : (es : List (ℕ × ℕ)) (n : ℕ) → is_among n (numbers (cases_in es)) ≡ false → lookup (nat_eq n) es ≡ None
not_among es n h = is_none_by (lookup (nat_eq n) es) (among_entries es n ∙ h)

pub cases_push : (es : List (ℕ × ℕ)) (n l : ℕ) → cases_in (es ++ (n, l) ∷ []) ≡ cases_in es ++ record { number = n; label = l } ∷ []
cases_push [] n l = refl
cases_push (e ∷ es) n l = ap (λ (cs : List CoreCase). record { number = e.0; label = e.1 } ∷ cs) (cases_push es n l)

pub some_copied : (o : Option (Bor ℕ)) → is_some (option_copied o) ≡ is_some o
some_copied None = refl
some_copied (Some x) = refl
