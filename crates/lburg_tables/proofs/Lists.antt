-- How the lists of an index grow by the place of one more rule.
use Rattle.std.proofs.Common.{◌≡◌, ℕ, zero, suc, ◌+◌, ◌<◌, List, [], ◌∷◌, ◌++◌, length, take, get_or, Some, refl, sym, ap, ◌∙◌, inl, inr, arith, if◌then◌else◌, ◌==◌}
use Rattle.std.specs.Prelude.{slice_get}
use Rattle.std.proofs.lemmas.Grind.{common_steps}
use Rattle.std.proofs.lemmas.Bool.{cases_eq}
use Rattle.std.proofs.lemmas.Bool.Decides.{nat_tests}
use Rattle.std.proofs.lemmas.List.{append-nil, take_more, length-take-le, length-set, get_or-set_same, get_or-set_other}
use Rattle.std.proofs.lemmas.Option.{slice_get_within, slice_get-get_or, none-some}
use Rattle.lburg_model.specs.declared.rule.Rule.{Rule}
use Rattle.lburg_model.specs.Pattern.{MPattern, PHole, PLeaf, POne, PTwo, pattern_of}
use Rattle.lburg_model.specs.Description.{MDescription, IsDescription, HasArity, FitsIn}
use Rattle.lburg_tables.specs.Root.{Root, Chain, Operator, root_of, same_root, places_with}
use Rattle.lburg_tables.specs.Places.{place_of}
use Rattle.lburg_tables.proofs.lemmas.Places.{pushed}
use Rattle.lburg_tables.specs.IsIndex.{places_in}
use Rattle.lburg_tables.specs.Added.{HasList, added, operators_with, chains_with}

-- ---- one list grows

added_at : (lists : List (List ℕ)) (n m place : ℕ) → n < length lists → places_in (added lists n place) m ≡ places_in lists m ++ (if n == m then place ∷ [] else [])
added_at lists n m place h =
    elim (cases_eq n m) [
      | inl e ↦ grind (arith, common_steps, nat_tests, get_or-set_same lists n (places_in lists n ++ place ∷ []) [] h)
      | inr e ↦ grind (arith, common_steps, nat_tests, get_or-set_other lists n m (places_in lists n ++ place ∷ []) [], append-nil (places_in lists m))
    ]

operators_grow : (root : Root) (lists : List (List ℕ)) (chains place op : ℕ) → HasList (length lists) chains root → places_in (operators_with root place lists) op ≡ places_in lists op ++ (if same_root root (Operator op) then place ∷ [] else [])
operators_grow (Chain n) lists chains place op h = sym (append-nil (places_in lists op))
operators_grow (Operator o) lists chains place op h = added_at lists o op place h

chains_grow : (root : Root) (lists : List (List ℕ)) (operators place n : ℕ) → HasList operators (length lists) root → places_in (chains_with root place lists) n ≡ places_in lists n ++ (if same_root root (Chain n) then place ∷ [] else [])
chains_grow (Chain m) lists operators place n h = added_at lists m n place h
chains_grow (Operator op) lists operators place n h = sym (append-nil (places_in lists n))

one_more : (root : Root) (rules : List Rule) (k : ℕ) (r : Rule) → k < length rules → r ≡ get_or rules k r → places_with root (take (k + 1) rules) ≡ places_with root (take k rules) ++ place_of root r k
one_more root rules k r h is =
    let many : length (take k rules) ≡ k = length-take-le k rules (omega arith) in
    let more : take (k + 1) rules ≡ take k rules ++ r ∷ [] = take_more rules k r h ∙ ap (λ x. take k rules ++ x ∷ []) (sym is) in
    ap (places_with root) more ∙ pushed root (take k rules) r ∙ ap (λ x. places_with root (take k rules) ++ place_of root r x) many

pub operators_more : (rules : List Rule) (k : ℕ) (r : Rule) (old new : List (List ℕ)) (chains : ℕ) → k < length rules → r ≡ get_or rules k r → HasList (length old) chains (root_of (pattern_of r.pattern)) → new ≡ operators_with (root_of (pattern_of r.pattern)) k old → ((op : ℕ) → places_in old op ≡ places_with (Operator op) (take k rules)) → (op : ℕ) → places_in new op ≡ places_with (Operator op) (take (k + 1) rules)
operators_more rules k r old new chains h is fits after before op =
    ap (λ lists. places_in lists op) after ∙ operators_grow (root_of (pattern_of r.pattern)) old chains k op fits ∙ ap (λ l. l ++ place_of (Operator op) r k) (before op) ∙ sym (one_more (Operator op) rules k r h is)

pub chains_more : (rules : List Rule) (k : ℕ) (r : Rule) (old new : List (List ℕ)) (operators : ℕ) → k < length rules → r ≡ get_or rules k r → HasList operators (length old) (root_of (pattern_of r.pattern)) → new ≡ chains_with (root_of (pattern_of r.pattern)) k old → ((n : ℕ) → places_in old n ≡ places_with (Chain n) (take k rules)) → (n : ℕ) → places_in new n ≡ places_with (Chain n) (take (k + 1) rules)
chains_more rules k r old new operators h is fits after before n =
    ap (λ lists. places_in lists n) after ∙ chains_grow (root_of (pattern_of r.pattern)) old operators k n fits ∙ ap (λ l. l ++ place_of (Chain n) r k) (before n) ∙ sym (one_more (Chain n) rules k r h is)

-- ---- their number stays

pub operators_many : (root : Root) (place : ℕ) (lists : List (List ℕ)) → length (operators_with root place lists) ≡ length lists
operators_many (Chain n) place lists = refl
operators_many (Operator op) place lists = length-set lists op (places_in lists op ++ place ∷ [])

pub chains_many : (root : Root) (place : ℕ) (lists : List (List ℕ)) → length (chains_with root place lists) ≡ length lists
chains_many (Chain n) place lists = length-set lists n (places_in lists n ++ place ∷ [])
chains_many (Operator op) place lists = refl

-- ---- each rule's root has a list

within : (d : MDescription) (op n : ℕ) → HasArity d op n → op < length d.terminals + 1
within d zero n (t, is, arity) = absurd (none-some t is)
within d (suc place) n (t, is, arity) =
    let below : place < length d.terminals = slice_get_within d.terminals place t is in
    omega arith

fitting : (d : MDescription) (p : MPattern) (operators chains : ℕ) → operators ≡ length d.terminals + 1 → chains ≡ length d.nonterminals → FitsIn d p → HasList operators chains (root_of p)
fitting d (PHole n) operators chains e f h = omega arith
fitting d (PLeaf op) operators chains e f h = omega (arith, within d op 0 h)
fitting d (POne op p) operators chains e f h = omega (arith, within d op 1 h.0)
fitting d (PTwo op p q) operators chains e f h = omega (arith, within d op 2 h.0)

pub has_list : (d : MDescription) (rules : List Rule) (k : ℕ) (r : Rule) (operators chains : ℕ) → IsDescription d → rules ≡ d.rules → k < length rules → r ≡ get_or rules k r → operators ≡ length d.terminals + 1 → chains ≡ length d.nonterminals → HasList operators chains (root_of (pattern_of r.pattern))
has_list d rules k r operators chains is same h at e f =
    let found : slice_get d.rules k ≡ Some r = ap (λ l. slice_get l k) (sym same) ∙ slice_get-get_or rules k r h ∙ ap (λ x. Some x) (sym at) in
    fitting d (pattern_of r.pattern) operators chains e f (is.rules k r found).fits
