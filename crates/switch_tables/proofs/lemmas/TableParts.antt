-- What each table of a switch has, and how many there are.
use Rattle.std.proofs.Common.{◌≡◌, ℕ, zero, suc, ◌+◌, ◌%◌, ◌^◌, ◌<◌, ◌≤◌, ◌==◌, Bool, true, false, List, [], ◌∷◌, length, map, sym, ap, ◌∙◌, subst, arith, length-append}
use Rattle.std.proofs.lemmas.Bool.{ltb-false}
use Rattle.std.proofs.lemmas.List.{length-map}
use Rattle.std.specs.Prelude.{if◌then◌else◌}
use Rattle.std.specs.List.{AllByRecursion}
use Rattle.objects.specs.Arithmetic.{is_less}
use Rattle.c_meaning.specs.declared.core_stmt.CoreCase.{CoreCase}
use Rattle.c_meaning.specs.Units.{are_apart, are_among, is_among, numbers}
use Rattle.switch_tables.specs.Cases.{label_of, AreWords}
use Rattle.switch_tables.specs.Order.{rank, rising, IsRising}
use Rattle.switch_tables.specs.Cuts.{offset, range_to, cut, joined}
use Rattle.switch_tables.specs.Tables.{first_number, last_number, labels_from, table_of, tables_of}
use Rattle.switch_tables.specs.Laws.{IsTable, AreLabels}
use Rattle.switch_tables.proofs.lemmas.Ranks.{less_by_rank, offset_by_rank}
use Rattle.switch_tables.proofs.lemmas.Labels.{length-labels_from}
use Rattle.switch_tables.proofs.lemmas.Sorting.{both, rising_all, rising_rises, length_rising}
use Rattle.switch_tables.proofs.lemmas.Cutting.{HasFirst, joined_cut, cut_has_firsts}
use Rattle.switch_tables.proofs.lemmas.Leading.{all_front, all_back, rising_front, rising_back, last_is_word, last_in_table}

-- ---- each has a label for each of its numbers

is_table : (signed : Bool) (default : ℕ) (c : CoreCase) (cs : List CoreCase) → AreWords (c ∷ cs) → IsRising signed (c ∷ cs) → IsTable signed (table_of default (c ∷ cs))
is_table signed default c cs ws up =
    record {
      low = ws.0;
      some = omega (arith, length-labels_from (c ∷ cs) default c.number (offset c.number (last_number (c ∷ cs)) + 1));
      whole = λ n w e f.
          let last = last_number (c ∷ cs) in
          let word = last_is_word c cs ws in
          let above = ltb-false (rank signed n) (rank signed c.number) (sym (less_by_rank signed n c.number w ws.0) ∙ e) in
          let same = ap (λ m. is_less signed m n) (last_in_table default c cs ws) in
          let within = ltb-false (rank signed last) (rank signed n) (sym (less_by_rank signed last n word w) ∙ (sym same ∙ f)) in
          omega (arith, above, within, offset_by_rank signed c.number n ws.0 w above, offset_by_rank signed c.number last ws.0 word (omega arith), length-labels_from (c ∷ cs) default c.number (offset c.number last + 1));
    }

groups_are_tables : (signed : Bool) (default : ℕ) (gs : List (List CoreCase)) → AllByRecursion HasFirst gs → AreWords (joined gs) → IsRising signed (joined gs) → AllByRecursion (IsTable signed) (map (table_of default) gs)
groups_are_tables signed default [] firsts ws up = tt
groups_are_tables signed default (g ∷ gs) firsts ws up = (
  subst (λ h. AreWords h → IsRising signed h → IsTable signed (table_of default h)) (sym firsts.0.2) (is_table signed default firsts.0.0 firsts.0.1) (all_front (λ c. c.number < 2 ^ 32) g (joined gs) ws) (rising_front signed g (joined gs) up),
  groups_are_tables signed default gs firsts.1 (all_back (λ c. c.number < 2 ^ 32) g (joined gs) ws) (rising_back signed g (joined gs) up),
)

pub are_tables : (signed : Bool) (cases : List CoreCase) (default : ℕ) → AreWords cases → are_apart (numbers cases) ≡ true → AllByRecursion (IsTable signed) (tables_of signed default cases)
are_tables signed cases default ws h =
    let sorted = rising signed cases in
    let same = joined_cut sorted in
    groups_are_tables signed default (cut sorted) (cut_has_firsts sorted)
    (subst AreWords (sym same) (rising_all (λ c. c.number < 2 ^ 32) signed cases ws))
    (subst (IsRising signed) (sym same) (rising_rises signed cases ws h))

-- ---- how many

groups_are_few : (gs : List (List CoreCase)) → AllByRecursion HasFirst gs → length gs ≤ length (joined gs)
groups_are_few [] h = omega arith
groups_are_few (g ∷ gs) h = omega (arith, groups_are_few gs h.1, length-append g (joined gs), ap length h.0.2)

pub are_few : (signed : Bool) (cases : List CoreCase) (default : ℕ) → length (tables_of signed default cases) ≤ length cases
are_few signed cases default =
    let sorted = rising signed cases in
    omega (arith, length-map (cut sorted) (table_of default), groups_are_few (cut sorted) (cut_has_firsts sorted), ap length (joined_cut sorted), length_rising signed cases)

-- ---- which labels

abbrev IsKnown : List ℕ → CoreCase → Type 0
IsKnown known c = is_among c.label known ≡ true

each_known : (known : List ℕ) (cases : List CoreCase) → are_among cases known ≡ true → AllByRecursion (IsKnown known) cases
each_known known [] h = tt
each_known known (c ∷ cs) h = let parts = both (is_among c.label known) (are_among cs known) h in (parts.0, each_known known cs parts.1)

label_is_known : (known : List ℕ) (cases : List CoreCase) (default n : ℕ) → AllByRecursion (IsKnown known) cases → is_among default known ≡ true → is_among (label_of cases default n) known ≡ true
label_is_known known [] default n h e = e
label_is_known known (c ∷ cs) default n h e = by (c.number == n) (label_is_known known cs default n h.1 e)
  where
    by : (q : Bool) → is_among (label_of cs default n) known ≡ true → is_among (if q then c.label else label_of cs default n) known ≡ true
    by true rest = h.0
    by false rest = rest

labels_are_known : (known : List ℕ) (cases : List CoreCase) (default n k : ℕ) → AllByRecursion (IsKnown known) cases → is_among default known ≡ true → AllByRecursion (λ l. is_among l known ≡ true) (labels_from cases default n k)
labels_are_known known cases default n zero h e = tt
labels_are_known known cases default n (suc k) h e = (label_is_known known cases default n h e, labels_are_known known cases default ((n + 1) % 2 ^ 32) k h e)

groups_are_known : (known : List ℕ) (default : ℕ) (gs : List (List CoreCase)) → AllByRecursion (IsKnown known) (joined gs) → is_among default known ≡ true → AllByRecursion (AreLabels known) (map (table_of default) gs)
groups_are_known known default [] h e = tt
groups_are_known known default (g ∷ gs) h e = (
  labels_are_known known g default (first_number g) (range_to g (last_number g)) (all_front (IsKnown known) g (joined gs) h) e,
  groups_are_known known default gs (all_back (IsKnown known) g (joined gs) h) e,
)

pub are_known : (signed : Bool) (cases : List CoreCase) (default : ℕ) (known : List ℕ) → are_among cases known ≡ true → is_among default known ≡ true → AllByRecursion (AreLabels known) (tables_of signed default cases)
are_known signed cases default known h e =
    let sorted = rising signed cases in
    groups_are_known known default (cut sorted) (subst (AllByRecursion (IsKnown known)) (sym (joined_cut sorted)) (rising_all (IsKnown known) signed cases (each_known known cases h))) e
