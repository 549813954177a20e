-- Specifiers as they are seen: their words by how often each stands, and what else stands among them.
use Rattle.std.proofs.Common.{◌≡◌, ℕ, ◌+◌, ◌<◌, ◌≤◌, lit<, List, [], ◌∷◌, ◌++◌, length, refl, sym, ap, ◌∙◌, zero-add, arith}
use Rattle.std.specs.Prelude.{Bool, true, false, ◌&&◌, ◌≢◌, Option, Some, None, ◌==◌, count_by, option_map, cond, nat_eq, if◌then◌else◌}
use Rattle.std.specs.Int.Bits.{or_zero_l}
use Rattle.std.proofs.lemmas.List.Recursion.{is_count_by}
use lib.Pointwise.{pointwise}
use Rattle.c_ast.specs.declared.specifier.BasicType.{BasicType}
use Rattle.c_ast.specs.declared.specifier.Storage.{Storage}
use Rattle.c_types.specs.CType.{CType, Basic, Void, Char, SignedChar, UnsignedChar, Short, UnsignedShort, Int, Unsigned, Long, UnsignedLong, qualify}
use Rattle.c_types.specs.Compatible.{basic_place}
use Rattle.c_types.specs.Table.{Table, basic_forms, type_at, type_in, types_of}
use Rattle.c_meaning.specs.Constraints.{constraints, first_broken}
use Rattle.c_meaning.specs.Nodes.{Node, Typing}
use Rattle.c_meaning.specs.Nodes as node
use Rattle.c_meaning.specs.State.{State}
use Rattle.c_meaning.specs.TypeConstraints.{are_several, some_floating}
use Rattle.c_meaning.specs.TypeRows.{basic_or_none, classes_in, qualifiers_in, type_among, wholes_in, words_in}
use Rattle.c_meaning.specs.TypeRows as rows
use Rattle.c_meaning.specs.Words.{Worded, are_same, table}
use Rattle.c_meaning.specs.Words as words
use Rattle.c_check_expr.specs.declared.parts.Part.{Part}
use Rattle.c_check_expr.specs.declared.parts.Part.TheVariants as part
use Rattle.c_check_expr.specs.Counted.{are_equal, classes_among, counted, counts, first_whole, has_float, is_any_word, is_whole, is_word, meant_in, qualifiers_among}
use Rattle.c_check_expr.specs.PartsSeen.{ArePartsIn, parts_seen}

-- ---- words

float_seen : (t : Table) (ps : List Part) → has_float ps ≡ some_floating (words_in (parts_seen t ps))
float_seen t [] = refl
float_seen t (part.Word w ∷ ps) = rw (float_seen t ps) refl
float_seen t (part.Stored c ∷ ps) = float_seen t ps
float_seen t (part.Qualified q ∷ ps) = float_seen t ps
float_seen t (part.Whole of ∷ ps) = float_seen t ps

added_count : (b : Bool) (n : ℕ) → (if b then 1 else 0) + n ≡ cond b (1 + n) n
added_count true n = refl
added_count false n = zero-add n

word_count : (t : Table) (n : ℕ) (ps : List Part) → count_by (is_word n) ps ≡ words.count n (words_in (parts_seen t ps))
word_count t n ps = sym (is_count_by (λ qs. words.count n (words_in (parts_seen t qs))) (is_word n) refl by ps)
  where
    by : (p : Part) (qs : List Part) → words.count n (words_in (parts_seen t (p ∷ qs))) ≡ cond (is_word n p) (1 + words.count n (words_in (parts_seen t qs))) (words.count n (words_in (parts_seen t qs)))
    by (part.Word w) qs = added_count (words.place_of w == n) (words.count n (words_in (parts_seen t qs)))
    by p qs = refl

counted_words : (t : Table) (ps : List Part) → counted ps ≡ counts (words_in (parts_seen t ps))
counted_words t ps =
    rw (word_count t 0 ps, word_count t 1 ps, word_count t 2 ps, word_count t 3 ps, word_count t 4 ps, word_count t 5 ps, word_count t 6 ps, word_count t 7 ps, word_count t 8 ps) refl

-- all hold, in whichever order they are asked
abbrev all_of : List Bool → Bool
all_of [] = true
all_of (b ∷ bs) = b && all_of bs

abbrev backwards : List Bool → List Bool
backwards [] = []
backwards (b ∷ bs) = backwards bs ++ b ∷ []

and_false : (b : Bool) → (b && false) ≡ false
and_false true = refl
and_false false = refl

exchanged : (a b c : Bool) → (a && (b && c)) ≡ (b && (a && c))
exchanged true b c = refl
exchanged false b c = sym (and_false b)

last_first : (bs : List Bool) (b : Bool) → all_of (bs ++ b ∷ []) ≡ (b && all_of bs)
last_first [] b = refl
last_first (a ∷ bs) b = ap (λ x. a && x) (last_first bs b) ∙ exchanged a b (all_of bs)

backwards_same : (bs : List Bool) → all_of (backwards bs) ≡ all_of bs
backwards_same [] = refl
backwards_same (b ∷ bs) = last_first (backwards bs) b ∙ ap (λ x. b && x) (backwards_same bs)

abbrev same_at : List BasicType → List BasicType → ℕ → Bool
same_at ws vs n = words.count n ws == words.count n vs

counts_same : (ws vs : List BasicType) → are_equal (counts ws) (counts vs) ≡ are_same ws vs
counts_same ws vs =
    let same = same_at ws vs in
    backwards_same (same 8 ∷ same 7 ∷ same 6 ∷ same 5 ∷ same 4 ∷ same 3 ∷ same 2 ∷ same 1 ∷ same 0 ∷ [])

pub equal_numbers : (ns ms : List ℕ) → are_equal ns ms ≡ pointwise nat_eq ns ms
equal_numbers [] [] = refl
equal_numbers [] (m ∷ ms) = refl
equal_numbers (n ∷ ns) [] = refl
equal_numbers (n ∷ ns) (m ∷ ms) = ap (λ b. (n == m) && b) (equal_numbers ns ms)

-- the table of words, by how often each stands
abbrev pub rows_of : List Worded → List (List ℕ × ℕ)
rows_of [] = []
rows_of (t ∷ ts) = (counts t.words, basic_place t.means) ∷ rows_of ts

row_meant : (b : Bool) (m : Basic) (x : Option ℕ) (o : Option Basic) → x ≡ option_map basic_place o → (if b then Some (basic_place m) else x) ≡ option_map basic_place (if b then Some m else o)
row_meant true m x o h = refl
row_meant false m x o h = h

rows_meant : (ws : List BasicType) (ts : List Worded) → meant_in (rows_of ts) (counts ws) ≡ option_map basic_place (words.meant_in ts ws)
rows_meant ws [] = refl
rows_meant ws (t ∷ ts) = rw (counts_same ws t.words) (row_meant (are_same ws t.words) t.means _ _ (rows_meant ws ts))

pub words_meant : (t : Table) (ps : List Part) → meant_in (rows_of table) (counted ps) ≡ option_map basic_place (words.meant (words_in (parts_seen t ps)))
words_meant t ps = ap (meant_in (rows_of table)) (counted_words t ps) ∙ rows_meant (words_in (parts_seen t ps)) table

-- ---- the type that they form

basic_there : (b : Basic) → type_in (types_of basic_forms) (basic_place b) ≡ rows.type_or_int (basic_or_none (Some b))
basic_there Void = refl
basic_there Char = refl
basic_there SignedChar = refl
basic_there UnsignedChar = refl
basic_there Short = refl
basic_there UnsignedShort = refl
basic_there Int = refl
basic_there Unsigned = refl
basic_there Long = refl
basic_there UnsignedLong = refl

basic_below : (b : Basic) → basic_place b < 10
basic_below Void = lit< tt
basic_below Char = lit< tt
basic_below SignedChar = lit< tt
basic_below UnsignedChar = lit< tt
basic_below Short = lit< tt
basic_below UnsignedShort = lit< tt
basic_below Int = lit< tt
basic_below Unsigned = lit< tt
basic_below Long = lit< tt
basic_below UnsignedLong = lit< tt

pub place_below : (o : Option Basic) (p : ℕ) → option_map basic_place o ≡ Some p → p < 10
place_below None p e = absurd (cc)
place_below (Some b) p e = (let h : basic_place b ≡ p = cc in rw (sym h) (basic_below b))

pub place_means : (o : Option Basic) (p : ℕ) → option_map basic_place o ≡ Some p → basic_or_none o ≡ Some (type_in (types_of basic_forms) p)
place_means None p e = absurd (cc)
place_means (Some b) p e = (let h : basic_place b ≡ p = cc in rw (sym h, basic_there b) refl)

pub no_place : (o : Option Basic) → option_map basic_place o ≡ None → basic_or_none o ≡ None
no_place None e = refl
no_place (Some b) e = absurd (cc)

wholes_count : (t : Table) (ps : List Part) → count_by is_whole ps ≡ length (wholes_in (parts_seen t ps))
wholes_count t ps = sym (is_count_by (λ qs. length (wholes_in (parts_seen t qs))) is_whole refl by ps)
  where
    by : (p : Part) (qs : List Part) → length (wholes_in (parts_seen t (p ∷ qs))) ≡ cond (is_whole p) (1 + length (wholes_in (parts_seen t qs))) (length (wholes_in (parts_seen t qs)))
    by (part.Whole of) qs = omega arith
    by p qs = refl

words_count : (t : Table) (ps : List Part) → count_by is_any_word ps ≡ length (words_in (parts_seen t ps))
words_count t ps = sym (is_count_by (λ qs. length (words_in (parts_seen t qs))) is_any_word refl by ps)
  where
    by : (p : Part) (qs : List Part) → length (words_in (parts_seen t (p ∷ qs))) ≡ cond (is_any_word p) (1 + length (words_in (parts_seen t qs))) (length (words_in (parts_seen t qs)))
    by (part.Word w) qs = omega arith
    by p qs = refl

no_whole : (t : Table) (ps : List Part) → first_whole ps ≡ None → wholes_in (parts_seen t ps) ≡ []
no_whole t [] e = refl
no_whole t (part.Whole of ∷ ps) e = absurd (cc)
no_whole t (part.Word w ∷ ps) e = no_whole t ps e
no_whole t (part.Stored c ∷ ps) e = no_whole t ps e
no_whole t (part.Qualified q ∷ ps) e = no_whole t ps e

some_whole : (t : Table) (ps : List Part) (id : ℕ) → first_whole ps ≡ Some id → (ts : List CType) × (wholes_in (parts_seen t ps) ≡ type_at t id ∷ ts)
some_whole t [] id e = absurd (cc)
some_whole t (part.Whole of ∷ ps) id e = (let h : of ≡ id = cc in (wholes_in (parts_seen t ps), rw h refl))
some_whole t (part.Word w ∷ ps) id e = some_whole t ps id e
some_whole t (part.Stored c ∷ ps) id e = some_whole t ps id e
some_whole t (part.Qualified q ∷ ps) id e = some_whole t ps id e

pub whole_below : (n : ℕ) (ps : List Part) (id : ℕ) → ArePartsIn n ps → first_whole ps ≡ Some id → id < n
whole_below n [] id i e = absurd (cc)
whole_below n (part.Whole of ∷ ps) id i e = (let h : of ≡ id = cc in rw (sym h) i.0)
whole_below n (part.Word w ∷ ps) id i e = whole_below n ps id i.1 e
whole_below n (part.Stored c ∷ ps) id i e = whole_below n ps id i.1 e
whole_below n (part.Qualified q ∷ ps) id i e = whole_below n ps id i.1 e

abbrev among : Table → List Part → Option CType
among t ps = type_among (wholes_in (parts_seen t ps)) (words_in (parts_seen t ps))

alone : (u : CType) (ts : List CType) (ws : List BasicType) → length (u ∷ ts) ≡ 1 → length ws ≡ 0 → type_among (u ∷ ts) ws ≡ Some u
alone u [] [] h k = refl
alone u [] (w ∷ ws) h k = absurd (omega arith)
alone u (v ∷ ts) ws h k = absurd (omega arith)

among_several : (u : CType) (ts : List CType) (ws : List BasicType) → length (u ∷ ts) ≢ 1 → type_among (u ∷ ts) ws ≡ None
among_several u [] ws h = absurd (h refl)
among_several u (v ∷ ts) ws h = refl

among_words : (u : CType) (ts : List CType) (ws : List BasicType) → length ws ≢ 0 → type_among (u ∷ ts) ws ≡ None
among_words u [] [] h = absurd (h refl)
among_words u [] (w ∷ ws) h = refl
among_words u (v ∷ ts) ws h = refl

pub whole_alone : (t : Table) (ps : List Part) (id : ℕ) → first_whole ps ≡ Some id → count_by is_whole ps ≡ 1 → count_by is_any_word ps ≡ 0 → among t ps ≡ Some (type_at t id)
whole_alone t ps id e h k =
    let r = some_whole t ps id e in
    let l : length (type_at t id ∷ r.0) ≡ 1 = sym (ap length r.1) ∙ sym (wholes_count t ps) ∙ h in
    rw r.1 (alone (type_at t id) r.0 (words_in (parts_seen t ps)) l (sym (words_count t ps) ∙ k))

pub whole_several : (t : Table) (ps : List Part) (id : ℕ) → first_whole ps ≡ Some id → count_by is_whole ps ≢ 1 → among t ps ≡ None
whole_several t ps id e h =
    let r = some_whole t ps id e in
    rw r.1 (among_several (type_at t id) r.0 (words_in (parts_seen t ps)) (λ l. h (wholes_count t ps ∙ ap length r.1 ∙ l)))

pub whole_among_words : (t : Table) (ps : List Part) (id : ℕ) → first_whole ps ≡ Some id → count_by is_any_word ps ≢ 0 → among t ps ≡ None
whole_among_words t ps id e h =
    let r = some_whole t ps id e in
    rw r.1 (among_words (type_at t id) r.0 (words_in (parts_seen t ps)) (λ l. h (words_count t ps ∙ l)))

pub words_alone : (t : Table) (ps : List Part) → first_whole ps ≡ None → among t ps ≡ basic_or_none (words.meant (words_in (parts_seen t ps)))
words_alone t ps e = rw (no_whole t ps e) refl

-- ---- storage classes and qualifiers

pub classes_seen : (t : Table) (ps : List Part) → classes_in (parts_seen t ps) ≡ classes_among ps
classes_seen t [] = refl
classes_seen t (part.Stored c ∷ ps) = rw (classes_seen t ps) refl
classes_seen t (part.Word w ∷ ps) = classes_seen t ps
classes_seen t (part.Whole of ∷ ps) = classes_seen t ps
classes_seen t (part.Qualified q ∷ ps) = classes_seen t ps

pub qualifiers_seen : (t : Table) (ps : List Part) → rows.qualifiers_among (qualifiers_in (parts_seen t ps)) ≡ qualifiers_among ps
qualifiers_seen t [] = refl
qualifiers_seen t (part.Qualified q ∷ ps) = rw (qualifiers_seen t ps) refl
qualifiers_seen t (part.Word w ∷ ps) = qualifiers_seen t ps ∙ sym (or_zero_l (qualifiers_among ps))
qualifiers_seen t (part.Whole of ∷ ps) = qualifiers_seen t ps ∙ sym (or_zero_l (qualifiers_among ps))
qualifiers_seen t (part.Stored c ∷ ps) = qualifiers_seen t ps ∙ sym (or_zero_l (qualifiers_among ps))

-- ---- what is told

abbrev specifiers : Table → List Part → Node
specifiers t ps = Typing (node.Specifiers (parts_seen t ps))

pub floating_broken : (s : State) (t : Table) (ps : List Part) → has_float ps ≡ true → first_broken constraints s (specifiers t ps) ≡ Some 1
floating_broken s t ps f = rw (sym (float_seen t ps) ∙ f) refl

pub type_broken : (s : State) (t : Table) (ps : List Part) → has_float ps ≡ false → among t ps ≡ None → first_broken constraints s (specifiers t ps) ≡ Some 2
type_broken s t ps f a = rw (sym (float_seen t ps) ∙ f, a) refl

pub several : (cs : List Storage) → 1 < length cs → are_several cs ≡ true
several [] h = absurd (omega arith)
several (c ∷ []) h = absurd (omega arith)
several (c ∷ d ∷ cs) h = refl

pub not_several : (cs : List Storage) → length cs ≤ 1 → are_several cs ≡ false
not_several [] h = refl
not_several (c ∷ []) h = refl
not_several (c ∷ d ∷ cs) h = absurd (omega arith)

pub classes_broken : (s : State) (t : Table) (ps : List Part) (u : CType) → has_float ps ≡ false → among t ps ≡ Some u → 1 < length (classes_among ps) → first_broken constraints s (specifiers t ps) ≡ Some 3
classes_broken s t ps u f a c = rw (sym (float_seen t ps) ∙ f, a, classes_seen t ps, several (classes_among ps) c) refl

pub none_broken : (s : State) (t : Table) (ps : List Part) (u : CType) → has_float ps ≡ false → among t ps ≡ Some u → length (classes_among ps) ≤ 1 → first_broken constraints s (specifiers t ps) ≡ None
none_broken s t ps u f a c = rw (sym (float_seen t ps) ∙ f, a, classes_seen t ps, not_several (classes_among ps) c) refl

-- what they say
pub said : (t : Table) (ps : List Part) (cs : List Storage) (u of : CType) → cs ≡ classes_among ps → among t ps ≡ Some u → of ≡ qualify (qualifiers_among ps) u → rows.specified (parts_seen t ps) ≡ record { classes = cs; of = of }
said t ps cs u of c a h = rw (classes_seen t ps, qualifiers_seen t ps, a, c, h) refl
