-- The numbers of one more part.
use Rattle.std.proofs.Common.{◌≡◌, ℕ, ◌+◌, ◌<◌, ◌≤◌, List, [], ◌∷◌, ◌++◌, length, take, get_or, map, sym, ap, ◌∙◌, append_assoc}
use Rattle.std.proofs.lemmas.List.{append-nil, take_more, take_all, map_push}
use Rattle.lburg_model.specs.declared.derivation.Derivation.{Derivation, out-Derivation}
use Rattle.lburg_model.specs.Derivation.{MDerivation, numbers, numbers_in}
use Rattle.lburg_model.specs.DerivationOf.{parts_of, derivation_of}
use Rattle.lburg_model.proofs.lemmas.DerivationOf.{derivation_out}

joined_more : (xs : List MDerivation) (x : MDerivation) → numbers_in (parts_of (xs ++ x ∷ [])) ≡ numbers_in (parts_of xs) ++ numbers x
joined_more [] x = append-nil (numbers x)
joined_more (y ∷ xs) x = ap (λ l. numbers y ++ l) (joined_more xs x) ∙ sym (append_assoc (numbers y) (numbers_in (parts_of xs)) (numbers x))

pub one_more : (ds : List Derivation) (k : ℕ) (d : Derivation) (old mid new : List ℕ) → k < length ds → d ≡ get_or ds k d → mid ≡ old ++ numbers_in (parts_of (map derivation_of (take k ds))) → new ≡ mid ++ numbers (derivation_of d) → new ≡ old ++ numbers_in (parts_of (map derivation_of (take (k + 1) ds)))
one_more ds k d old mid new h ed em en =
    let parts = take k ds in
    let at : take (k + 1) ds ≡ parts ++ d ∷ [] = take_more ds k d h ∙ ap (λ x. parts ++ x ∷ []) (sym ed) in
    en ∙ ap (λ l. l ++ numbers (derivation_of d)) em ∙ append_assoc old (numbers_in (parts_of (map derivation_of parts))) (numbers (derivation_of d))
    ∙ ap (λ l. old ++ l) (sym (joined_more (map derivation_of parts) (derivation_of d)) ∙ ap (λ l. numbers_in (parts_of l)) (sym (map_push derivation_of parts d)) ∙ ap (λ l. numbers_in (parts_of (map derivation_of l))) (sym at))

pub all_parts : (d : Derivation) (ds : List Derivation) (k : ℕ) (old mid new : List ℕ) → ds ≡ (out-Derivation d).parts → length ds ≤ k → mid ≡ old ++ (out-Derivation d).rule ∷ [] → new ≡ mid ++ numbers_in (parts_of (map derivation_of (take k ds))) → new ≡ old ++ numbers (derivation_of d)
all_parts d ds k old mid new e h em en =
    en ∙ ap (λ l. mid ++ numbers_in (parts_of (map derivation_of l))) (take_all k ds h ∙ e) ∙ ap (λ l. l ++ numbers_in (parts_of (map derivation_of (out-Derivation d).parts))) em
    ∙ append_assoc old ((out-Derivation d).rule ∷ []) (numbers_in (parts_of (map derivation_of (out-Derivation d).parts)))
    ∙ ap (λ l. old ++ l) (ap numbers (sym (derivation_out d)))
