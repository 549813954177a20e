-- Symbols in order, and which of them are names' with linkage.
use Rattle.std.proofs.Common.{◌≡◌, ℕ, suc, ◌+◌, ◌<◌, Bool, true, false, List, ◌∷◌, length, get_or, set, drop, refl, sym, ap, ◌∙◌, arith}
use Rattle.std.specs.Prelude.{◌==◌, ◌||◌, ◌&&◌, not, Option, Some, slice_get, if◌then◌else◌}
use Rattle.std.proofs.lemmas.Bool.{eqb-true, eqb-false}
use Rattle.std.proofs.lemmas.Option.{get_or_from_slice_get, slice_get_within}
use Rattle.std.proofs.lemmas.List.{at_drop_more, get_or-set_other, get_or-set_same}
use Rattle.c_symbols.specs.declared.symbol.Symbol.{Symbol}
use Rattle.c_types.specs.CType.{CType}
use Rattle.c_check_expr.specs.Known.{all_known, known_of}
use Rattle.c_units.specs.Ends.{is_link, least, linked_symbol}
use Rattle.c_standings.specs.declared.Standing.{Standing}
use Rattle.c_unit_ends.specs.NameFaults.{called_in, is_called}

-- ---- marks

pub linked_more : (marks : List Bool) (rest : List (List ℕ × ℕ)) (n : List ℕ × ℕ) → n.1 < length marks → (k : ℕ) → (get_or (set marks n.1 true) k false || is_link rest k) ≡ (get_or marks k false || is_link (n ∷ rest) k)
linked_more marks rest n l k = by (n.1 == k) (get_or (set marks n.1 true) k false) (get_or marks k false) (is_link rest k) (λ i. ap (λ (j : ℕ). get_or (set marks n.1 true) j false) (sym (eqb-true n.1 k i)) ∙ get_or-set_same marks n.1 true false l) (λ i. get_or-set_other marks n.1 k true false (λ j. eqb-false n.1 k i (sym j)))
  where
    or_true : (b : Bool) → true ≡ (b || true)
    or_true true = refl
    or_true false = refl

    by : (c d f r : Bool) → (c ≡ true → d ≡ true) → (c ≡ false → d ≡ f) → (d || r) ≡ (f || (c || r))
    by true d f r g h = ap (λ b. b || r) (g refl) ∙ or_true f
    by false d f r g h = ap (λ b. b || r) (h refl)

-- ---- one symbol

pub called_more : (xs : List (ℕ × Standing)) (ns : List (List ℕ × ℕ)) (ts : List CType) (ys : List Symbol) (i : ℕ) (y : Symbol) (linked : Bool) (found new : Option ℕ) → slice_get ys i ≡ Some y → linked ≡ is_link ns i
    → new ≡ (if not linked && is_called xs (linked_symbol (known_of ts y)) (known_of ts y).of then least found y.line else found)
    → called_in xs ns (i + 1) new (all_known ts (drop (i + 1) ys)) ≡ called_in xs ns i found (all_known ts (drop i ys))
called_more xs ns ts ys i y linked found new e f g =
    let next : i + 1 ≡ suc i = omega arith in
    ap (λ (j : ℕ). called_in xs ns j new (all_known ts (drop (i + 1) ys))) next
    ∙ ap (λ h. called_in xs ns (suc i) h (all_known ts (drop (i + 1) ys)))
    (g ∙ ap (λ (b : Bool). if not b && is_called xs (linked_symbol (known_of ts y)) (known_of ts y).of then least found y.line else found) f)
    ∙ ap (λ (z : Symbol). called_in xs ns i found (all_known ts (z ∷ drop (i + 1) ys))) (sym (get_or_from_slice_get ys i y y e))
    ∙ sym (at_drop_more (λ (zs : List Symbol). called_in xs ns i found (all_known ts zs)) ys i y (slice_get_within ys i y e))
