-- The search of a switch leads to the chosen label.
use Rattle.std.specs.Prelude.{◌≡◌, ℕ, ◌<◌, ◌^◌, ◌==◌, Bool, true, false, Option, Some, List, [], ◌∷◌, if◌then◌else◌}
use Rattle.std.proofs.Common.{refl, ap, ◌∙◌}
use Rattle.c_meaning.specs.declared.core_stmt.CoreCase.{CoreCase}
use Rattle.c_meaning.specs.Units.{are_apart, numbers}
use Rattle.c_runs.specs.Statements.{chosen}
use Rattle.switch_tables.specs.Cases.{label_of, AreWords}
use Rattle.switch_tables.specs.Searches.{found, search_over}
use Rattle.switch_tables.specs.Tables.{tables_of}
use Rattle.switch_tables.proofs.lemmas.Searching.{numbers_lead}
use Rattle.lowered_statements.specs.Functions.{Function, label_at, placed_cases, label_or}

-- one of two labels
one_of : (f : Function) (end : ℕ) (b : Bool) (l : ℕ) (o : Option ℕ) → (if b then label_at f l else label_or f end o) ≡ label_or f end (if b then Some l else o)
one_of f end true l o = refl
one_of f end false l o = refl

pub chosen_is_label : (f : Function) (cases : List CoreCase) (default : Option ℕ) (end n : ℕ) → label_of (placed_cases f cases) (label_or f end default) n ≡ label_or f end (chosen cases default n)
chosen_is_label f [] default end n = refl
chosen_is_label f (c ∷ cs) default end n =
    ap (λ (m : ℕ). if c.number == n then label_at f c.label else m) (chosen_is_label f cs default end n) ∙ one_of f end (c.number == n) c.label (chosen cs default n)

-- the numbers are those of the cases
same_numbers : (f : Function) (cases : List CoreCase) → numbers (placed_cases f cases) ≡ numbers cases
same_numbers f [] = refl
same_numbers f (c ∷ cs) = ap (λ (ns : List ℕ). c.number ∷ ns) (same_numbers f cs)

words_placed : (f : Function) (cases : List CoreCase) → AreWords cases → AreWords (placed_cases f cases)
words_placed f [] h = tt
words_placed f (c ∷ cs) h = (h.0, words_placed f cs h.1)

pub chosen_is_found : (f : Function) (signed : Bool) (cases : List CoreCase) (default : Option ℕ) (end n : ℕ) → AreWords cases → are_apart (numbers cases) ≡ true → n < 2 ^ 32
    → found signed (label_or f end default) n (search_over (tables_of signed (label_or f end default) (placed_cases f cases))) ≡ label_or f end (chosen cases default n)
chosen_is_found f signed cases default end n words apart le =
    numbers_lead signed (placed_cases f cases) (label_or f end default) n (words_placed f cases words) (ap are_apart (same_numbers f cases) ∙ apart) le
    ∙ chosen_is_label f cases default end n
