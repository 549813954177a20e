-- Where a number leads among cases in rising order: to those before a table, to those behind it, or into it.
use Rattle.std.proofs.Common.{◌≡◌, ℕ, ◌+◌, ◌-◌, ◌%◌, ◌^◌, ◌<◌, ◌≤◌, Bool, true, false, List, [], ◌∷◌, ◌++◌, length, get_or, refl, sym, ap, ◌∙◌, arith}
use Rattle.std.proofs.lemmas.Bool.{ltb-true, ltb-false}
use Rattle.std.specs.Prelude.{if◌then◌else◌}
use Rattle.std.specs.List.{AllByRecursion}
use Rattle.objects.specs.Arithmetic.{is_less}
use Rattle.c_meaning.specs.declared.core_stmt.CoreCase.{CoreCase}
use Rattle.switch_tables.specs.Cases.{label_of, AreWords}
use Rattle.switch_tables.specs.Order.{rank, IsRising}
use Rattle.switch_tables.specs.Cuts.{offset}
use Rattle.switch_tables.specs.Tables.{last_number, table_of, labels_from}
use Rattle.switch_tables.specs.Searches.{last_in}
use Rattle.switch_tables.proofs.lemmas.Ranks.{less_by_rank, offset_by_rank, moved_by_offset}
use Rattle.switch_tables.proofs.lemmas.Labels.{HasNone, label_of_append, label_of_none, length-labels_from, get_or-labels_from}
use Rattle.switch_tables.proofs.lemmas.Sorting.{AreAbove, above_more}

-- ---- parts of cases in rising order

pub all_front : (P : CoreCase → Type 0) (xs ys : List CoreCase) → AllByRecursion P (xs ++ ys) → AllByRecursion P xs
all_front P [] ys h = tt
all_front P (x ∷ xs) ys h = (h.0, all_front P xs ys h.1)

pub all_back : (P : CoreCase → Type 0) (xs ys : List CoreCase) → AllByRecursion P (xs ++ ys) → AllByRecursion P ys
all_back P [] ys h = h
all_back P (x ∷ xs) ys h = all_back P xs ys h.1

pub rising_front : (signed : Bool) (xs ys : List CoreCase) → IsRising signed (xs ++ ys) → IsRising signed xs
rising_front signed [] ys h = tt
rising_front signed (x ∷ xs) ys h = (all_front (λ d. rank signed x.number < rank signed d.number) xs ys h.0, rising_front signed xs ys h.1)

pub rising_back : (signed : Bool) (xs ys : List CoreCase) → IsRising signed (xs ++ ys) → IsRising signed ys
rising_back signed [] ys h = h
rising_back signed (x ∷ xs) ys h = rising_back signed xs ys h.1

-- each place is below r
abbrev pub AreBelow : Bool → ℕ → List CoreCase → Type 0
AreBelow signed r cases = AllByRecursion (λ d. rank signed d.number < r) cases

pub below_next : (signed : Bool) (xs : List CoreCase) (y : CoreCase) (ys : List CoreCase) → IsRising signed (xs ++ y ∷ ys) → AreBelow signed (rank signed y.number) xs
below_next signed [] y ys h = tt
below_next signed (x ∷ xs) y ys h = ((all_back (λ d. rank signed x.number < rank signed d.number) xs (y ∷ ys) h.0).0, below_next signed xs y ys h.1)

below_more : (signed : Bool) (r s : ℕ) (cs : List CoreCase) → r ≤ s → AreBelow signed r cs → AreBelow signed s cs
below_more signed r s [] l h = tt
below_more signed r s (c ∷ cs) l h = (omega (arith, h.0), below_more signed r s cs l h.1)

pub up_to_last : (signed : Bool) (c : CoreCase) (cs : List CoreCase) → IsRising signed (c ∷ cs) → AllByRecursion (λ d. rank signed d.number ≤ rank signed (last_number (c ∷ cs))) (c ∷ cs)
up_to_last signed c [] h = (omega arith, tt)
up_to_last signed c (d ∷ ds) h = let rest = up_to_last signed d ds h.1 in (omega (arith, h.0.0, rest.0), rest)

above_last : (signed : Bool) (c : CoreCase) (cs ys : List CoreCase) → IsRising signed (c ∷ (cs ++ ys)) → AreAbove signed (rank signed (last_number (c ∷ cs))) ys
above_last signed c [] ys h = h.0
above_last signed c (d ∷ ds) ys h = above_last signed d ds ys h.1

pub last_is_word : (c : CoreCase) (cs : List CoreCase) → AreWords (c ∷ cs) → last_number (c ∷ cs) < 2 ^ 32
last_is_word c [] h = h.0
last_is_word c (d ∷ ds) h = last_is_word d ds h.1

none_above : (signed : Bool) (n : ℕ) (cs : List CoreCase) → AreAbove signed (rank signed n) cs → HasNone n cs
none_above signed n [] h = tt
none_above signed n (c ∷ cs) h = (λ e. absurd (omega (arith, h.0, ap (rank signed) e)), none_above signed n cs h.1)

pub none_below : (signed : Bool) (n : ℕ) (cs : List CoreCase) → AreBelow signed (rank signed n) cs → HasNone n cs
none_below signed n [] h = tt
none_below signed n (c ∷ cs) h = (λ e. absurd (omega (arith, h.0, ap (rank signed) e)), none_below signed n cs h.1)

-- ---- a table's own numbers

along_each : (signed : Bool) (low last : ℕ) (cs : List CoreCase) → low < 2 ^ 32 → last < 2 ^ 32 → AreWords cs → AllByRecursion (λ d. rank signed low ≤ rank signed d.number) cs → AllByRecursion (λ d. rank signed d.number ≤ rank signed last) cs
    → AllByRecursion (λ d. offset low d.number ≤ offset low last) cs
along_each signed low last [] p q ws g h = tt
along_each signed low last (c ∷ cs) p q ws g h =
    (omega (arith, g.0, h.0, offset_by_rank signed low c.number p ws.0 g.0, offset_by_rank signed low last p q (omega (arith, g.0, h.0))), along_each signed low last cs p q ws.1 g.1 h.1)

from_first : (signed : Bool) (c : CoreCase) (cs : List CoreCase) → IsRising signed (c ∷ cs) → AllByRecursion (λ d. rank signed c.number ≤ rank signed d.number) (c ∷ cs)
from_first signed c cs h = (omega arith, weaker cs h.0)
  where
    weaker : (ds : List CoreCase) → AreAbove signed (rank signed c.number) ds → AllByRecursion (λ d. rank signed c.number ≤ rank signed d.number) ds
    weaker [] g = tt
    weaker (d ∷ ds) g = (omega (arith, g.0), weaker ds g.1)

-- each case lies between the first one and the last one
pub is_along_last : (signed : Bool) (c : CoreCase) (cs : List CoreCase) → AreWords (c ∷ cs) → IsRising signed (c ∷ cs)
    → AllByRecursion (λ d. offset c.number d.number ≤ offset c.number (last_number (c ∷ cs))) (c ∷ cs)
is_along_last signed c cs ws h =
    along_each signed c.number (last_number (c ∷ cs)) (c ∷ cs) ws.0 (last_is_word c cs ws) ws (from_first signed c cs h) (up_to_last signed c cs h)

pub last_in_table : (default : ℕ) (c : CoreCase) (cs : List CoreCase) → AreWords (c ∷ cs) → last_in (table_of default (c ∷ cs)) ≡ last_number (c ∷ cs)
last_in_table default c cs ws =
    let range = offset c.number (last_number (c ∷ cs)) + 1 in
    let count : length (labels_from (c ∷ cs) default c.number range) - 1 ≡ offset c.number (last_number (c ∷ cs)) = omega (arith, length-labels_from (c ∷ cs) default c.number range) in
    ap (λ k. (c.number + k) % 2 ^ 32) count ∙ moved_by_offset c.number (last_number (c ∷ cs)) ws.0 (last_is_word c cs ws)

label_in_table : (signed : Bool) (default : ℕ) (c : CoreCase) (cs : List CoreCase) (n : ℕ) → AreWords (c ∷ cs) → n < 2 ^ 32 → rank signed c.number ≤ rank signed n → rank signed n ≤ rank signed (last_number (c ∷ cs))
    → get_or (table_of default (c ∷ cs)).labels (offset c.number n) default ≡ label_of (c ∷ cs) default n
label_in_table signed default c cs n ws w low high =
    let last = last_number (c ∷ cs) in
    let within : offset c.number n < offset c.number last + 1 =
    omega (arith, low, high, offset_by_rank signed c.number n ws.0 w low, offset_by_rank signed c.number last ws.0 (last_is_word c cs ws) (omega arith))
    in
    get_or-labels_from (c ∷ cs) default c.number (offset c.number last + 1) (offset c.number n) default ws.0 within
    ∙ ap (label_of (c ∷ cs) default) (moved_by_offset c.number n ws.0 w)

-- ---- a number among cases before a table, in it, and behind it

parts : (xs g ys : List CoreCase) (default n : ℕ) → label_of (xs ++ (g ++ ys)) default n ≡ label_of xs (label_of g (label_of ys default n) n) n
parts xs g ys default n = label_of_append xs (g ++ ys) default n ∙ ap (λ l. label_of xs l n) (label_of_append g ys default n)

pub leads_among : (signed : Bool) (xs : List CoreCase) (c : CoreCase) (cs ys : List CoreCase) (default n : ℕ) → IsRising signed (xs ++ (c ∷ cs ++ ys)) → AreWords (c ∷ cs) → n < 2 ^ 32
    → (if is_less signed n c.number then label_of xs default n else if is_less signed (last_in (table_of default (c ∷ cs))) n then label_of ys default n else get_or (table_of default (c ∷ cs)).labels (offset c.number n) default)
    ≡ label_of (xs ++ (c ∷ cs ++ ys)) default n
leads_among signed xs c cs ys default n up ws w = by (is_less signed n c.number) refl
  where
    group : IsRising signed (c ∷ (cs ++ ys))
    group = rising_back signed xs (c ∷ (cs ++ ys)) up

    before : AreBelow signed (rank signed c.number) xs
    before = below_next signed xs c (cs ++ ys) up

    behind : AreAbove signed (rank signed (last_number (c ∷ cs))) ys
    behind = above_last signed c cs ys group

    own : AllByRecursion (λ d. rank signed d.number ≤ rank signed (last_number (c ∷ cs))) (c ∷ cs)
    own = up_to_last signed c cs (rising_front signed (c ∷ cs) ys group)

    strict : (ds : List CoreCase) → rank signed (last_number (c ∷ cs)) < rank signed n → AllByRecursion (λ d. rank signed d.number ≤ rank signed (last_number (c ∷ cs))) ds → AreBelow signed (rank signed n) ds
    strict [] l h = tt
    strict (d ∷ ds) l h = (omega (arith, h.0), strict ds l h.1)

    behind_or_in : (q : Bool) → is_less signed (last_number (c ∷ cs)) n ≡ q → rank signed c.number ≤ rank signed n → (if q then label_of ys default n else get_or (table_of default (c ∷ cs)).labels (offset c.number n) default) ≡ label_of (xs ++ (c ∷ cs ++ ys)) default n
    behind_or_in true e low =
        let high = ltb-true (rank signed (last_number (c ∷ cs))) (rank signed n) (sym (less_by_rank signed (last_number (c ∷ cs)) n (last_is_word c cs ws) w) ∙ e) in
        let front = none_below signed n xs (below_more signed (rank signed c.number) (rank signed n) xs low before) in
        let inside = none_below signed n (c ∷ cs) (strict (c ∷ cs) high own) in
        sym (parts xs (c ∷ cs) ys default n
        ∙ (label_of_none xs (label_of (c ∷ cs) (label_of ys default n) n) n front
        ∙ label_of_none (c ∷ cs) (label_of ys default n) n inside))
    behind_or_in false e low =
        let high = ltb-false (rank signed (last_number (c ∷ cs))) (rank signed n) (sym (less_by_rank signed (last_number (c ∷ cs)) n (last_is_word c cs ws) w) ∙ e) in
        let front = none_below signed n xs (below_more signed (rank signed c.number) (rank signed n) xs low before) in
        let back = none_above signed n ys (above_more signed (rank signed n) (rank signed (last_number (c ∷ cs))) ys high behind) in
        label_in_table signed default c cs n ws w low high
        ∙ sym (parts xs (c ∷ cs) ys default n
        ∙ (label_of_none xs (label_of (c ∷ cs) (label_of ys default n) n) n front
        ∙ ap (λ l. label_of (c ∷ cs) l n) (label_of_none ys default n back)))

    by : (q : Bool) → is_less signed n c.number ≡ q → (if q then label_of xs default n else if is_less signed (last_in (table_of default (c ∷ cs))) n then label_of ys default n else get_or (table_of default (c ∷ cs)).labels (offset c.number n) default) ≡ label_of (xs ++ (c ∷ cs ++ ys)) default n
    by true e =
        let low = ltb-true (rank signed n) (rank signed c.number) (sym (less_by_rank signed n c.number w ws.0) ∙ e) in
        let none : HasNone n (c ∷ (cs ++ ys)) = none_above signed n (c ∷ (cs ++ ys)) (low, above_more signed (rank signed n) (rank signed c.number) (cs ++ ys) (omega arith) group.0) in
        sym (label_of_append xs (c ∷ (cs ++ ys)) default n ∙ ap (λ l. label_of xs l n) (label_of_none (c ∷ (cs ++ ys)) default n none))
    by false e =
        let low = ltb-false (rank signed n) (rank signed c.number) (sym (less_by_rank signed n c.number w ws.0) ∙ e) in
        let same = last_in_table default c cs ws in
        ap (λ m. if is_less signed m n then label_of ys default n else get_or (table_of default (c ∷ cs)).labels (offset c.number n) default) same
        ∙ behind_or_in (is_less signed (last_number (c ∷ cs)) n) refl low
