-- A table is filled case by case, in any order.
use Rattle.std.proofs.Common.{◌≡◌, ◌≢◌, ℕ, zero, suc, ◌+◌, ◌^◌, ◌<◌, ◌≤◌, Bool, List, [], ◌∷◌, ◌++◌, length, map, take, drop, get_or, set, refl, sym, ap, ◌∙◌, subst, arith, append_assoc}
use Rattle.std.proofs.Math.Seq.{split_at}
use Rattle.std.proofs.lemmas.List.{take_more, take-append-drop}
use Rattle.std.proofs.lemmas.List.Elements.{All-from_recursion}
use Rattle.c_meaning.specs.declared.core_stmt.CoreCase.{CoreCase}
use Rattle.switch_tables.specs.declared.table.Table.{Table}
use Rattle.switch_tables.specs.Cases.{AreWords}
use Rattle.switch_tables.specs.Order.{IsRising}
use Rattle.switch_tables.specs.Cuts.{offset, cut}
use Rattle.switch_tables.specs.Tables.{first_number, last_number, labels_from}
use Rattle.switch_tables.proofs.lemmas.Ranks.{moved_by_offset, offset_below}
use Rattle.switch_tables.proofs.lemmas.Labels.{HasNone, labels_from_more}
use Rattle.switch_tables.proofs.lemmas.Leading.{all_front, all_back, rising_front, rising_back, below_next, none_below, is_along_last}

pub last_at : (cases : List CoreCase) (k : ℕ) (d : CoreCase) → length cases ≡ suc k → (get_or cases k d).number ≡ last_number cases
last_at [] k d e = absurd (omega arith)
last_at (c ∷ []) zero d e = refl
last_at (c ∷ []) (suc k) d e = absurd (omega arith)
last_at (c ∷ b ∷ cs) zero d e = absurd (omega arith)
last_at (c ∷ b ∷ cs) (suc k) d e = last_at (b ∷ cs) k d (omega arith)

pub words_more : (cases : List CoreCase) (i : ℕ) (d : CoreCase) → i < length cases → AreWords (take i cases) → (get_or cases i d).number < 2 ^ 32 → AreWords (take (i + 1) cases)
words_more cases i d l h w = subst AreWords (sym (take_more cases i d l)) (pushed (take i cases) h)
  where
    pushed : (cs : List CoreCase) → AreWords cs → AreWords (cs ++ get_or cases i d ∷ [])
    pushed [] g = (w, tt)
    pushed (c ∷ cs) g = (g.0, pushed cs g.1)

pub copies_more : (cases old new : List CoreCase) (i : ℕ) (d x : CoreCase) → i < length cases → old ≡ take i cases → x ≡ get_or cases i d → new ≡ old ++ x ∷ [] → new ≡ take (i + 1) cases
copies_more cases old new i d x l e f g =
    g ∙ (ap (λ l. l ++ x ∷ []) e ∙ (ap (λ y. take i cases ++ y ∷ []) f ∙ sym (take_more cases i d l)))

-- ---- parts of a list

pub words_front : (n : ℕ) (cases : List CoreCase) → AreWords cases → AreWords (take n cases)
words_front n cases h = all_front (λ c. c.number < 2 ^ 32) (take n cases) (drop n cases) (subst AreWords (sym (take-append-drop n cases)) h)

pub words_back : (n : ℕ) (cases : List CoreCase) → AreWords cases → AreWords (drop n cases)
words_back n cases h = all_back (λ c. c.number < 2 ^ 32) (take n cases) (drop n cases) (subst AreWords (sym (take-append-drop n cases)) h)

pub rising_take : (signed : Bool) (n : ℕ) (cases : List CoreCase) → IsRising signed cases → IsRising signed (take n cases)
rising_take signed n cases h = rising_front signed (take n cases) (drop n cases) (subst (IsRising signed) (sym (take-append-drop n cases)) h)

pub rising_drop : (signed : Bool) (n : ℕ) (cases : List CoreCase) → IsRising signed cases → IsRising signed (drop n cases)
rising_drop signed n cases h = rising_back signed (take n cases) (drop n cases) (subst (IsRising signed) (sym (take-append-drop n cases)) h)

-- ---- one more case of a table

pub is_within : (signed : Bool) (cases : List CoreCase) (i : ℕ) (d : CoreCase) → AreWords cases → IsRising signed cases → i < length cases
    → offset (first_number cases) (get_or cases i d).number ≤ offset (first_number cases) (last_number cases)
is_within signed [] i d ws up l = absurd (omega arith)
is_within signed (c ∷ cs) i d ws up l =
    All-from_recursion (λ x. offset c.number x.number ≤ offset c.number (last_number (c ∷ cs))) (c ∷ cs) (is_along_last signed c cs ws up) i d l

first_is_word : (cases : List CoreCase) (i : ℕ) → AreWords cases → i < length cases → first_number cases < 2 ^ 32
first_is_word [] i ws l = absurd (omega arith)
first_is_word (c ∷ cs) i ws l = ws.0

word_at : (cases : List CoreCase) (i : ℕ) (d : CoreCase) → AreWords cases → i < length cases → (get_or cases i d).number < 2 ^ 32
word_at cases i d ws l = All-from_recursion (λ x. x.number < 2 ^ 32) cases ws i d l

none_before : (signed : Bool) (cases : List CoreCase) (i : ℕ) (d : CoreCase) → IsRising signed cases → i < length cases → HasNone (get_or cases i d).number (take i cases)
none_before signed cases i d up l =
    none_below signed (get_or cases i d).number (take i cases)
    (below_next signed (take i cases) (get_or cases i d) (drop (suc i) cases) (subst (IsRising signed) (split_at cases i d l) up))

pub filled_more : (signed : Bool) (cases : List CoreCase) (default i : ℕ) (d : CoreCase) → AreWords cases → IsRising signed cases → i < length cases
    → set (labels_from (take i cases) default (first_number cases) (offset (first_number cases) (last_number cases) + 1)) (offset (first_number cases) (get_or cases i d).number) (get_or cases i d).label
    ≡ labels_from (take (i + 1) cases) default (first_number cases) (offset (first_number cases) (last_number cases) + 1)
filled_more signed cases default i d ws up l =
    let low = first_number cases in
    let room = offset (first_number cases) (last_number cases) + 1 in
    let x = get_or cases i d in
    let first = first_is_word cases i ws l in
    let within = is_within signed cases i d ws up l in
    let most = offset_below (first_number cases) (last_number cases) in
    sym (ap (λ front. labels_from front default low room) (take_more cases i d l)
    ∙ labels_from_more (take i cases) x default low room (offset low x.number) first (omega arith) (omega arith) (moved_by_offset low x.number first (word_at cases i d ws l)) (none_before signed cases i d up l))

-- ---- one more table

pub cut_moves : (f : List CoreCase → Table) (ts new : List Table) (t : Table) (rest front back : List CoreCase) (n : ℕ) → new ≡ ts ++ t ∷ [] → t ≡ f front → front ≡ take n rest → back ≡ drop n rest → cut rest ≡ take n rest ∷ cut (drop n rest)
    → new ++ map f (cut back) ≡ ts ++ map f (cut rest)
cut_moves f ts new t rest front back n e1 e2 e3 e4 e5 =
    ap (λ l. l ++ map f (cut back)) e1
    ∙ (append_assoc ts (t ∷ []) (map f (cut back))
    ∙ (ap (λ x. ts ++ x ∷ map f (cut back)) (e2 ∙ ap f e3)
    ∙ (ap (λ b. ts ++ f (take n rest) ∷ map f (cut b)) e4
    ∙ ap (λ gs. ts ++ map f gs) (sym e5))))

pub has_length : (cases : List CoreCase) → cases ≢ [] → 0 < length cases
has_length [] h = absurd (h refl)
has_length (c ∷ cs) h = omega arith
