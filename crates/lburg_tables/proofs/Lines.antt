-- Texts that are written line by line.
use Rattle.std.proofs.Common.{◌≡◌, ℕ, ◌+◌, ◌<◌, List, [], ◌∷◌, ◌++◌, length, take, get_or, map, codes, decimal, refl, sym, ap, ◌∙◌, append_assoc, arith}
use Rattle.std.proofs.lemmas.List.{append-nil, take_more, length-take-le, get_or_default}
use Rattle.lburg_model.specs.declared.rule.Rule.{Rule}
use Rattle.lburg_model.specs.declared.terminal.Terminal.{Terminal}
use Rattle.lburg_model.specs.Description.{MDescription}
use Rattle.lburg_model.specs.CoverText.{spaced}
use Rattle.lburg_tables.specs.TablesText.{operator_line, operator_lines, rule_line, rule_lines, chain_line, chain_lines}

-- Lines of values of which the first has a number: each line depends on its value and number.
module _ {A : Type 0} (lines : ℕ → List A → List ℕ) (line : ℕ → A → List ℕ) (none : (n : ℕ) → lines n [] ≡ []) (split : (n : ℕ) (x : A) (xs : List A) → lines n (x ∷ xs) ≡ line n x ++ lines (n + 1) xs) where
  pushed : (n m : ℕ) (xs : List A) (x : A) → m ≡ n + length xs → lines n (xs ++ x ∷ []) ≡ lines n xs ++ line m x
  pushed n m [] x h =
      let same : n ≡ m = omega arith in
      split n x [] ∙ ap (λ l. line n x ++ l) (none (n + 1)) ∙ append-nil (line n x) ∙ ap (λ k. line k x) same ∙ ap (λ l. l ++ line m x) (sym (none n))
  pushed n m (y ∷ xs) x h =
      split n y (xs ++ x ∷ []) ∙ ap (λ l. line n y ++ l) (pushed (n + 1) m xs x (omega arith)) ∙ sym (append_assoc (line n y) (lines (n + 1) xs) (line m x)) ∙ ap (λ l. l ++ line m x) (sym (split n y xs))

  -- one more line was written
  step : (n m k : ℕ) (xs : List A) (x : A) (old mid new : List ℕ) → m ≡ n + k → k < length xs → x ≡ get_or xs k x → mid ≡ old ++ lines n (take k xs) → new ≡ mid ++ line m x → new ≡ old ++ lines n (take (k + 1) xs)
  step n m k xs x old mid new e h is before after =
      let many : length (take k xs) ≡ k = length-take-le k xs (omega arith) in
      let more : take (k + 1) xs ≡ take k xs ++ x ∷ [] = take_more xs k x h ∙ ap (λ y. take k xs ++ y ∷ []) (sym is) in
      after ∙ ap (λ l. l ++ line m x) before ∙ append_assoc old (lines n (take k xs)) (line m x) ∙ ap (λ l. old ++ l) (sym (pushed n m (take k xs) x (omega arith)) ∙ ap (lines n) (sym more))

-- the number of the rule at a place, behind a blank
abbrev number_text : ℕ → List ℕ
number_text place = codes " " ++ decimal (place + 1)

abbrev numbers_text : List ℕ → List ℕ
numbers_text places = spaced (map (λ place. place + 1) places)

numbers_split : (n place : ℕ) (places : List ℕ) → numbers_text (place ∷ places) ≡ number_text place ++ numbers_text places
numbers_split n place places = refl

pub number_step : (k number : ℕ) (places : List ℕ) (old before mid new : List ℕ) → k < length places → number ≡ get_or places k 0 → before ≡ old ++ numbers_text (take k places) → mid ≡ before ++ codes " " → new ≡ mid ++ decimal (number + 1) → new ≡ old ++ numbers_text (take (k + 1) places)
number_step k number places old before mid new h is was blank after =
    let same : number ≡ get_or places k number = is ∙ get_or_default places k 0 number h in
    step (λ n. numbers_text) (λ n. number_text) (λ n. refl) numbers_split 0 k k places number old before new (omega arith) h same was
    (after ∙ ap (λ l. l ++ decimal (number + 1)) blank ∙ append_assoc before (codes " ") (decimal (number + 1)))

pub operator_step : (rules : List Rule) (k : ℕ) (ts : List Terminal) (t : Terminal) (old mid new : List ℕ) → k < length ts → t ≡ get_or ts k t → mid ≡ old ++ operator_lines rules 1 (take k ts) → new ≡ mid ++ operator_line rules (k + 1) t → new ≡ old ++ operator_lines rules 1 (take (k + 1) ts)
operator_step rules k ts t old mid new h is before after = step (operator_lines rules) (operator_line rules) (λ n. refl) (λ n x xs. refl) 1 (k + 1) k ts t old mid new (omega arith) h is before after

pub rule_step : (d : MDescription) (k : ℕ) (rs : List Rule) (r : Rule) (old mid new : List ℕ) → k < length rs → r ≡ get_or rs k r → mid ≡ old ++ rule_lines d 1 (take k rs) → new ≡ mid ++ rule_line d (k + 1) r → new ≡ old ++ rule_lines d 1 (take (k + 1) rs)
rule_step d k rs r old mid new h is before after = step (rule_lines d) (rule_line d) (λ n. refl) (λ n x xs. refl) 1 (k + 1) k rs r old mid new (omega arith) h is before after

pub chain_step : (rules : List Rule) (k : ℕ) (names : List (List ℕ)) (name : List ℕ) (old mid new : List ℕ) → k < length names → name ≡ get_or names k name → mid ≡ old ++ chain_lines rules 0 (take k names) → new ≡ mid ++ chain_line rules k name → new ≡ old ++ chain_lines rules 0 (take (k + 1) names)
chain_step rules k names name old mid new h is before after = step (chain_lines rules) (chain_line rules) (λ n. refl) (λ n x xs. refl) 0 k k names name old mid new (omega arith) h is before after
