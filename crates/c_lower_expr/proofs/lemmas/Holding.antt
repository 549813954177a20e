-- Operands that wait for another one, each in turn; and argument words that are passed, each in turn.
use Rattle.std.specs.Prelude.{◌≡◌, ℕ, Bool, List, [], ◌∷◌, ◌++◌, set}
use Rattle.std.proofs.Common.{refl, sym, ap, ◌∙◌, subst, drop, take, get_or, length, ◌<◌, ◌+◌, arith}
use Rattle.std.proofs.lemmas.List.{append_assoc, append-nil, take_more_set, drop-set-lt, map-append}
use Rattle.dag_forest.specs.declared.entry.Entry.{Entry}
use Rattle.c_rows_agree.specs.Typed.{Typed}
use Rattle.lowered_forms.specs.Calls.{Passed, before, all_held, all_passed, word_passed}
use Rattle.lowered_forms.specs.Lows.{Low, with_entries}
use Rattle.lowered_forms.specs.Values.{Lowered, with_value, held}
use Rattle.lowering_steps.specs.declared.operand.Operand.{Operand}
use Rattle.lowering_steps.specs.declared.state.State.{State}
use Rattle.lowering_steps.specs.Asking.{Acts}
use Rattle.lowering_steps.specs.Operands.{template_of, typed_of}
use Rattle.lowering_steps.specs.States.{Comes, Shows}
use Rattle.c_lower_expr.specs.Passing.{all_typed, ShowsPassed}
use Rattle.c_lower_expr.proofs.lemmas.Marking.{left_is}

-- operands that are held, before others
abbrev pub behind_all : List Typed → Passed → Passed
behind_all xs p = record { values = xs ++ p.values; next = p.next; low = p.low }

pub record HeldLeft (b : Bool) (n : ℕ) (s : State) (all : Passed) (held_ones left : List Operand) : Type 0 where
  pub low : Low
  pub is : behind_all (all_typed held_ones) (all_held b n (all_typed left) low) ≡ all
  pub shows : Shows s low

pub hold_begins : (b : Bool) (n : ℕ) (s : State) (vs : List Operand) (l : Low) → Shows s l → HeldLeft b n s (all_held b n (all_typed vs) l) [] vs
hold_begins b n s vs l h = record { low = l; is = refl; shows = h }

held_one : (b : Bool) (n : ℕ) (xs : List Operand) (v x : Operand) (vs : List Operand) (l m : Low) → held b (typed_of v) l ≡ with_value (typed_of x) m
    → behind_all (all_typed (xs ++ x ∷ [])) (all_held b n (all_typed vs) m) ≡ behind_all (all_typed xs) (all_held b n (all_typed (v ∷ vs)) l)
held_one b n xs v x vs l m e =
    ap (λ ys. behind_all ys (all_held b n (all_typed vs) m)) (map-append typed_of xs (x ∷ []))
    ∙ (λ i. record { values = append_assoc (all_typed xs) (typed_of x ∷ []) (all_held b n (all_typed vs) m).values i; next = (all_held b n (all_typed vs) m).next; low = (all_held b n (all_typed vs) m).low })
    ∙ ap (λ (r : Lowered). behind_all (all_typed xs) (before r (λ l1. all_held b n (all_typed vs) l1))) (sym e)

pub hold_goes_on : (b : Bool) (n : ℕ) (s t : State) (all : Passed) (vs : List Operand) (i : ℕ) (v x : Operand)
    → i < length vs → v ≡ get_or vs i v → HeldLeft b n s all (take i vs) (drop i vs)
    → ((l : Low) → Shows s l → Comes t x (held b (typed_of v) l)) → HeldLeft b n t all (take (i + 1) (set vs i x)) (drop (i + 1) (set vs i x))
hold_goes_on b n s t all vs i v x lt is f hold =
    let others = drop (i + 1) vs in
    let front : take (i + 1) (set vs i x) ≡ take i vs ++ x ∷ [] = take_more_set vs i x lt in
    let behind : drop (i + 1) (set vs i x) ≡ others = drop-set-lt (i + 1) vs i x (omega arith) in
    let now : HeldLeft b n s all (take i vs) (v ∷ others) = subst (λ ys. HeldLeft b n s all (take i vs) ys) (left_is vs i v lt is) f in
    let came = hold now.low now.shows in
    let on : HeldLeft b n t all (take i vs ++ x ∷ []) others = record {
      low = came.low;
      is = held_one b n (take i vs) v x others now.low came.low came.is ∙ now.is;
      shows = came.shows;
    } in
    subst (λ xs. HeldLeft b n t all xs (drop (i + 1) (set vs i x))) (sym front) (subst (λ ys. HeldLeft b n t all (take i vs ++ x ∷ []) ys) (sym behind) on)

pub hold_goes : (b : Bool) (n : ℕ) (s : State) (all : Passed) (vs : List Operand) (i : ℕ) → drop i vs ≡ [] → take i vs ≡ vs → HeldLeft b n s all (take i vs) (drop i vs) → ShowsPassed s vs n all
hold_goes b n s all vs i none whole f =
    let done : HeldLeft b n s all vs [] = subst (λ xs. HeldLeft b n s all xs []) whole (subst (λ ys. HeldLeft b n s all (take i vs) ys) none f) in
    let is : record { values = all_typed vs ++ []; next = n; low = done.low } ≡ all = done.is in
    record {
      values = sym (append-nil (all_typed vs)) ∙ ap (λ (p : Passed). p.values) is;
      next_is = ap (λ (p : Passed). p.next) is;
      shows = subst (λ l. Shows s l) (ap (λ (p : Passed). p.low) is) done.shows;
    }

-- ---- argument words

abbrev pub WordsLeft : List Entry → List Operand → List Operand → List Entry → Type 0
WordsLeft old all left new = (l : Low) → l.entries ≡ old → all_passed (all_typed all) l ≡ all_passed (all_typed left) (with_entries new l)

pub words_begin : (es : List Entry) (vs : List Operand) → WordsLeft es vs vs es
words_begin es vs = λ l e. ap (λ (x : List Entry). all_passed (all_typed vs) (with_entries x l)) e

pub words_go_on : (old es fs : List Entry) (vs : List Operand) (i : ℕ) (v : Operand) → i < length vs → v ≡ get_or vs i v
    → WordsLeft old vs (drop i vs) es → Acts es (λ l. word_passed v.suffix (template_of v) l) fs → WordsLeft old vs (drop (i + 1) vs) fs
words_go_on old es fs vs i v lt is f act = λ l e.
    f l e ∙ ap (λ xs. all_passed (all_typed xs) (with_entries es l)) (left_is vs i v lt is)
    ∙ ap (λ m. all_passed (all_typed (drop (i + 1) vs)) m) (act.is (with_entries es l) refl)

pub words_go : (old es : List Entry) (vs left : List Operand) → left ≡ [] → WordsLeft old vs left es → Acts old (λ l. all_passed (all_typed vs) l) es
words_go old es vs left none f = record { is = λ l e. f l e ∙ ap (λ xs. all_passed (all_typed xs) (with_entries es l)) none }
