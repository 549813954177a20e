-- The name and the constant of a node, and where their reading stops.
use Rattle.std.proofs.Common.{◌≡◌, ◌≤◌, ◌<◌, ◌⊎◌, ℕ, zero, suc, ◌+◌, ◌-◌, ℤ, false, List, [], ◌∷◌, ◌++◌, length, take, Option, Some, None, refl, sym, ap, ◌∙◌, subst, inl, inr, append_assoc, arith, add-one, length-append}
use Rattle.std.specs.Prelude.{◌≢◌, slice_get, option_map}
use Rattle.std.proofs.lemmas.Option.{same_Some, slice_get-map}
use Rattle.std.proofs.lemmas.List.{append-nil}
use Rattle.std.proofs.Math.Seq.{take-append-add}
use Rattle.lcc_text.specs.Names.{place_of}
use Rattle.lcc_text.specs.Stops.{next}
use Rattle.lcc_text.proofs.lemmas.Places.{place_some, place_none}
use Rattle.lburg_lines.specs.declared.read_error.ReadError.{ReadError}
use Rattle.lburg_lines.specs.declared.read_error.ReadError.TheVariants.{Stuck}
use Rattle.lburg_lines.specs.declared.token.Sign.TheVariants.{Open, Close, Comma, OpenBracket, CloseBracket}
use Rattle.lburg_lines.specs.Tokens.{Tok, Word, Number, Negative, Mark}
use Rattle.lburg_lines.specs.Numbers.{MNumber, Plain, Minus, IsNumber, number_token}
use Rattle.lburg_model.specs.declared.terminal.Terminal.{Terminal}
use Rattle.lburg_model.specs.Tree.{TLeaf}
use Rattle.lburg_model.specs.Description.{MDescription, IsDescription, AreDistinct, terminal_at, terminal_names}
use Rattle.lburg_trees.specs.declared.row.Row.{Row}
use Rattle.lburg_trees.specs.declared.row.Row.TheVariants.{BadTree, UnknownOp, WrongArity, TooLarge, TooHigh}
use Rattle.lburg_trees.specs.declared.stop.Stop.{Stop}
use Rattle.lburg_trees.specs.declared.stop.Stop.TheVariants.{Fault}
use Rattle.lburg_trees.specs.TailTree.{MTail, Alone, Over, Both, IsConstant, HasNumbers, Ends, constant_then, tree_then, root_of, operands_of}
use Rattle.lburg_trees.specs.Setting.{Before}
use Rattle.lburg_trees.specs.UnknownOp.{IsNamed, IsUnknownOp}
use Rattle.lburg_trees.specs.WrongArity.{IsWrongArity}
use Rattle.lburg_trees.specs.Rows.{Means, row_number}
use Rattle.lburg_trees.specs.Reading.{ReadsTree, TreeStops, GoesOn, NoneBefore, StopsTree, StopsConstant, IsHead, ReadsHead, CountFits, CountDiffers, IsAlone, IsPastMost}
use Rattle.lburg_trees.proofs.Trees.{constant_append, then_append, alone_bracket, open_bracket}
use Rattle.lburg_trees.proofs.Moves.{one, moved, WrongHere, Fine, split, later, ahead, constant_long, tree_long}
use Rattle.lburg_trees.proofs.Fine.{no_name_here, quiet, names_there, drop_none, here_is, here_same, fine_constant, RootMay, right_root, moved_constant}
use Rattle.lburg_trees.proofs.Contexts.{first_pre, first_line, first_context}
use Rattle.lburg_trees.proofs.Lifts.{Passed, analysed, none_passed, stops_no_tree, holds}
use Rattle.lburg_trees.proofs.Operands.{may_have}

-- ---- names of terminals

there : (d : MDescription) (n : List ℕ) (i : ℕ) (o : Option Terminal) → slice_get d.terminals i ≡ o → option_map (λ (t : Terminal). t.name) o ≡ Some n → (t : Terminal) × IsNamed d (i + 1) t n
there d n i None e f = absurd cc
there d n i (Some t) e f = (t, (ap (terminal_at d) (add-one i) ∙ e, same_Some t.name n f))

pub name_at : (d : MDescription) (n : List ℕ) (i : ℕ) (t : Terminal) → slice_get d.terminals i ≡ Some t → t.name ≡ n → IsNamed d (i + 1) t n
name_at d n i t e f = (ap (terminal_at d) (add-one i) ∙ e, f)

pub name_known : (d : MDescription) (names : List (List ℕ)) (n : List ℕ) (i : ℕ) → names ≡ terminal_names d → place_of names n ≡ Some i → (t : Terminal) × IsNamed d (i + 1) t n
name_known d names n i e h =
    let s : slice_get (terminal_names d) i ≡ Some n = ap (λ (l : List (List ℕ)). slice_get l i) (sym e) ∙ place_some names n i h in
    there d n i (slice_get d.terminals i) refl (sym (slice_get-map (λ (t : Terminal). t.name) d.terminals i) ∙ s)

pub name_unknown : (d : MDescription) (names : List (List ℕ)) (n : List ℕ) (op : ℕ) (t : Terminal) → names ≡ terminal_names d → place_of names n ≡ None → IsNamed d op t n → ⊥
name_unknown d names n op t e h is =
    let s = names_there d op t n is in
    place_none names n s.0 h (ap (λ (l : List (List ℕ)). slice_get l s.0) e ∙ s.2)

-- ---- no name stands next

starts : (line : List Tok) (t : MTail) (after more : List Tok) → ((n : List ℕ) → next line ≢ Some (Word n)) → more ≡ tree_then t after → next more ≡ next line → ⊥
starts line (Alone n c) after more h e f = h n (sym f ∙ ap next e)
starts line (Over n c a) after more h e f = h n (sym f ∙ ap next e)
starts line (Both n c a b) after more h e f = h n (sym f ∙ ap next e)

pub no_name : (d : MDescription) (b : Before) (line : List Tok) → ((n : List ℕ) → next line ≢ Some (Word n)) → StopsTree d b line (Fault BadTree (length line))
no_name d b line h = (
  line,
  refl,
  record {
    front = [];
    parts = refl;
    begun = (Alone (97 ∷ []) None, Word (97 ∷ []) ∷ [], tt, refl);
    stuck = λ t after more k p e f. starts line t after more h e f;
  },
  λ row p l m. omega arith,
)

-- ---- the name has a fault

take_none : (l : List Tok) → take 0 l ≡ []
take_none [] = refl
take_none (t ∷ ts) = refl

take_one : (t : Tok) (l : List Tok) → take 1 (t ∷ l) ≡ t ∷ []
take_one t l = ap (λ (z : List Tok). t ∷ z) (take_none l)

one_goes : (n : List ℕ) (rest : List Tok) → GoesOn (Word n ∷ rest) 0
one_goes n rest = (Alone n None, [], tt, ap (λ (l : List Tok). l ++ []) (take_one (Word n) rest))

-- a tree whose last token is the first one stands at the front
first_here : (d : MDescription) (b : Before) (t : Tok) (ts : List Tok) → IsWrongArity d (t ∷ ts) 0 → WrongHere d (t ∷ ts) 0
first_here d b t ts m = elim (split d b WrongArity t ts 0 m) [ inl g ↦ g | inr h ↦ absurd (let e = h.1 in let no : ⊥ = omega arith in no) ]

-- such a tree is a name alone
alone_at : (a : MTail) (n : List ℕ) (rest r : List Tok) → Ends a r → Word n ∷ rest ≡ tree_then a r → length r ≡ length rest → IsAlone rest
alone_at (Alone m None) n rest r ends e l = let k : r ≡ rest = cc in subst IsAlone k ends
alone_at (Alone m (Some c)) n rest r ends e l = absurd (let k = ap length e in let no : ⊥ = omega arith in no)
alone_at (Over m c a) n rest r ends e l =
    let k = ap length e in
    let f = constant_long c (Mark Open ∷ tree_then a (Mark Close ∷ r)) in
    let g = tree_long a (Mark Close ∷ r) in
    absurd (let no : ⊥ = omega arith in no)
alone_at (Both m c a b) n rest r ends e l =
    let k = ap length e in
    let f = constant_long c (Mark Open ∷ tree_then a (Mark Comma ∷ tree_then b (Mark Close ∷ r))) in
    let g = tree_long a (Mark Comma ∷ tree_then b (Mark Close ∷ r)) in
    let h = tree_long b (Mark Close ∷ r) in
    absurd (let no : ⊥ = omega arith in no)

-- an operator that may be alone, if it is, has no wrong number of operands there
right_name : (d : MDescription) (b : Before) (n : List ℕ) (rest : List Tok) (op : ℕ) (t : Terminal) → AreDistinct (terminal_names d) → IsNamed d op t n → (IsAlone rest → CountFits d op 0) → IsWrongArity d (Word n ∷ rest) 0 → ⊥
right_name d b n rest op t distinct is may m =
    let w = first_here d b (Word n) rest m in
    let e = here_is d (Word n ∷ rest) 0 w in
    let last = w.wrong.stands.last_is in
    let alone = alone_at w.wrong.tree n rest w.wrong.stands.rest w.wrong.stands.ends e (omega arith) in
    right_root d (Word n ∷ rest) 0 (Alone n None) op rest distinct refl alone (may_have d op 0 n t is (may alone)) w

first_place : (row other : Row) (p : ℕ) → (p ≡ 0 → row_number row ≤ row_number other) → (0 < p) ⊎ ((0 ≡ p) × (row_number row ≤ row_number other))
first_place row other zero h = inr (refl, h refl)
first_place row other (suc p) h = inl (omega arith)

unknown_rows : (d : MDescription) (b : Before) (tokens : List Tok) (other : Row) (p : ℕ) → Means d b other tokens p → 2 ≤ row_number other
unknown_rows d b tokens BadTree p m = absurd m
unknown_rows d b tokens UnknownOp p m = omega arith
unknown_rows d b tokens WrongArity p m = omega arith
unknown_rows d b tokens TooLarge p m = omega arith
unknown_rows d b tokens TooHigh p m = omega arith

pub unknown_name : (d : MDescription) (b : Before) (n : List ℕ) (rest : List Tok) → ((op : ℕ) (t : Terminal) → IsNamed d op t n → ⊥) → StopsTree d b (Word n ∷ rest) (Fault UnknownOp (length (Word n ∷ rest)))
unknown_name d b n rest h = (
  0,
  omega arith,
  record {
    within = omega arith;
    means = (n, refl, h);
    goes_on = one_goes n rest;
    least = λ other p m. first_place UnknownOp other p (λ e. unknown_rows d b (Word n ∷ rest) other p m);
  },
)

known_name : (d : MDescription) (n : List ℕ) (rest : List Tok) (op : ℕ) (t : Terminal) → IsNamed d op t n → IsUnknownOp d (Word n ∷ rest) 0 → ⊥
known_name d n rest op t is m =
    let f = same_Some (Word n) (Word m.0) m.1 in
    let e : n ≡ m.0 = cc in
    m.2 op t (is.0, is.1 ∙ e)

large_rows : (d : MDescription) (b : Before) (n : List ℕ) (rest : List Tok) (op : ℕ) (t : Terminal) (other : Row) → AreDistinct (terminal_names d) → IsNamed d op t n → (IsAlone rest → CountFits d op 0) → Means d b other (Word n ∷ rest) 0 → 4 ≤ row_number other
large_rows d b n rest op t BadTree distinct is may m = absurd m
large_rows d b n rest op t UnknownOp distinct is may m = absurd (known_name d n rest op t is m)
large_rows d b n rest op t WrongArity distinct is may m = absurd (right_name d b n rest op t distinct is may m)
large_rows d b n rest op t TooLarge distinct is may m = omega arith
large_rows d b n rest op t TooHigh distinct is may m = omega arith

too_large : (d : MDescription) (b : Before) (n : List ℕ) (rest : List Tok) (op : ℕ) (t : Terminal) → AreDistinct (terminal_names d) → IsNamed d op t n → 65535 ≤ b.names → (IsAlone rest → CountFits d op 0) → StopsTree d b (Word n ∷ rest) (Fault TooLarge (length (Word n ∷ rest)))
too_large d b n rest op t distinct is h may = (
  0,
  omega arith,
  record {
    within = omega arith;
    means = (n, refl, omega arith);
    goes_on = one_goes n rest;
    least = λ other p m. first_place TooLarge other p (λ e. large_rows d b n rest op t other distinct is may (subst (λ (z : ℕ). Means d b other (Word n ∷ rest) z) e m));
  },
)

wrong_rows : (d : MDescription) (b : Before) (n : List ℕ) (rest : List Tok) (op : ℕ) (t : Terminal) (other : Row) → IsNamed d op t n → Means d b other (Word n ∷ rest) 0 → 3 ≤ row_number other
wrong_rows d b n rest op t BadTree is m = absurd m
wrong_rows d b n rest op t UnknownOp is m = absurd (known_name d n rest op t is m)
wrong_rows d b n rest op t WrongArity is m = omega arith
wrong_rows d b n rest op t TooLarge is m = omega arith
wrong_rows d b n rest op t TooHigh is m = omega arith

-- a terminal of the operator has the operator's name
same_named : (d : MDescription) (op : ℕ) (n : List ℕ) (t u : Terminal) → IsNamed d op t n → terminal_at d op ≡ Some u → IsNamed d op u n
same_named d op n t u is e = (e, ap (λ (z : Terminal). z.name) (same_Some u t (sym e ∙ is.0)) ∙ is.1)

wrong_alone : (d : MDescription) (b : Before) (n : List ℕ) (rest : List Tok) (op : ℕ) (t : Terminal) → IsNamed d op t n → IsAlone rest → CountDiffers d op 0 → StopsTree d b (Word n ∷ rest) (Fault WrongArity (length (Word n ∷ rest)))
wrong_alone d b n rest op t is alone f = (
  0,
  omega arith,
  record {
    within = omega arith;
    means = record {
      at = 0;
      tree = Alone n None;
      stands = record { rest = rest; parts = refl; numbers = tt; ends = alone; last_is = omega arith };
      op = op;
      terminal = f.terminal;
      named = same_named d op n t f.terminal is f.known;
      arity = f.arity;
      arity_is = f.arity_is;
      differs = f.differs;
    };
    goes_on = one_goes n rest;
    least = λ other p m. first_place WrongArity other p (λ e. wrong_rows d b n rest op t other is (subst (λ (z : ℕ). Means d b other (Word n ∷ rest) z) e m));
  },
)

-- too many names came before this one
pub past_most : (d : MDescription) (b : Before) (n : List ℕ) (rest : List Tok) (op : ℕ) (t : Terminal) (row : Row) → AreDistinct (terminal_names d) → IsNamed d op t n → 65535 ≤ b.names → IsPastMost d op rest row → StopsTree d b (Word n ∷ rest) (Fault row (length (Word n ∷ rest)))
past_most d b n rest op t WrongArity distinct is h p = wrong_alone d b n rest op t is p.0 p.1
past_most d b n rest op t TooLarge distinct is h p = too_large d b n rest op t distinct is h p
past_most d b n rest op t BadTree distinct is h p = absurd p
past_most d b n rest op t UnknownOp distinct is h p = absurd p
past_most d b n rest op t TooHigh distinct is h p = absurd p

-- the same of a line, where so many tokens are left
pub at_name : (d : MDescription) (b : Before) (line rest : List Tok) (n : List ℕ) (row : Row) (left : ℕ) → line ≡ Word n ∷ rest → left ≡ length line → StopsTree d b (Word n ∷ rest) (Fault row (length (Word n ∷ rest))) → StopsTree d b line (Fault row left)
at_name d b line rest n row left e f h =
    subst (λ (k : ℕ). StopsTree d b line (Fault row k)) (sym f) (subst (λ (l : List Tok). StopsTree d b l (Fault row (length l))) (sym e) h)

-- ---- the constant breaks off

-- the name and the constant of a tree
head_of : (t : MTail) (x : List Tok) → HasNumbers t → Ends t x → (c : Option MNumber) × (y : List Tok) × IsConstant c × (c ≡ None → next y ≢ Some (Mark OpenBracket)) × (tree_then t x ≡ Word (root_of t) ∷ constant_then c y)
head_of (Alone n c) x h e = (c, x, h, alone_bracket n c x e, refl)
head_of (Over n c a) x h e = (c, Mark Open ∷ tree_then a (Mark Close ∷ x), h.0, open_bracket c (tree_then a (Mark Close ∷ x)), refl)
head_of (Both n c a b) x h e = (c, Mark Open ∷ tree_then a (Mark Comma ∷ tree_then b (Mark Close ∷ x)), h.0, open_bracket c (tree_then a (Mark Comma ∷ tree_then b (Mark Close ∷ x))), refl)

number_stuck : (m : List ℕ) (c : Option MNumber) (y more rest : List Tok) (n : List ℕ) → IsConstant c → (c ≡ None → next y ≢ Some (Mark OpenBracket)) → Word n ∷ (Mark OpenBracket ∷ more) ≡ Word m ∷ constant_then c y → next more ≡ next rest → ((k : MNumber) → IsNumber k → next rest ≢ Some (number_token k)) → ⊥
number_stuck m None y more rest n i h e f g = let k : y ≡ Mark OpenBracket ∷ more = cc in h refl (ap next k)
number_stuck m (Some k) y more rest n i h e f g = let l : more ≡ number_token k ∷ (Mark CloseBracket ∷ y) = cc in g k i (sym f ∙ ap next l)

close_stuck : (m : List ℕ) (c : Option MNumber) (y more rest : List Tok) (n : List ℕ) (t : Tok) → (c ≡ None → next y ≢ Some (Mark OpenBracket)) → Word n ∷ (Mark OpenBracket ∷ (t ∷ more)) ≡ Word m ∷ constant_then c y → next more ≡ next rest → next rest ≢ Some (Mark CloseBracket) → ⊥
close_stuck m None y more rest n t h e f g = let k : y ≡ Mark OpenBracket ∷ (t ∷ more) = cc in h refl (ap next k)
close_stuck m (Some k) y more rest n t h e f g = let l : more ≡ Mark CloseBracket ∷ y = cc in g (sym f ∙ ap next l)

number_stops : (n : List ℕ) (rest : List Tok) → ((k : MNumber) → IsNumber k → next rest ≢ Some (number_token k)) → TreeStops (Word n ∷ (Mark OpenBracket ∷ rest)) rest
number_stops n rest h = record {
  front = Word n ∷ (Mark OpenBracket ∷ []);
  parts = refl;
  begun = (Alone n (Some (Plain (48 ∷ []))), Number (48 ∷ []) ∷ (Mark CloseBracket ∷ []), omega arith, refl);
  stuck = λ t after more k p e f. (let s = head_of t after k p in number_stuck (root_of t) s.0 s.1 more rest n s.2 s.3 (e ∙ s.4) f h);
}

close_stops : (n : List ℕ) (k : MNumber) (rest : List Tok) → IsNumber k → next rest ≢ Some (Mark CloseBracket) → TreeStops (Word n ∷ (Mark OpenBracket ∷ (number_token k ∷ rest))) rest
close_stops n k rest is h = record {
  front = Word n ∷ (Mark OpenBracket ∷ (number_token k ∷ []));
  parts = refl;
  begun = (Alone n (Some k), Mark CloseBracket ∷ [], is, refl);
  stuck = λ t after more i p e f. (let s = head_of t after i p in close_stuck (root_of t) s.0 s.1 more rest n (number_token k) s.3 (e ∙ s.4) f h);
}

none_yet : (d : MDescription) (b : Before) (line : List Tok) → NoneBefore d b line 0
none_yet d b line row p l m = omega arith

fine_bracket : (d : MDescription) (b : Before) (line : List Tok) → Fine d b (Mark OpenBracket ∷ []) line
fine_bracket d b line = (quiet d b (Mark OpenBracket) line (λ n e. cc) (λ e. absurd cc), tt)

fine_number : (d : MDescription) (b : Before) (k : MNumber) (line : List Tok) → Fine d b (Mark OpenBracket ∷ (number_token k ∷ [])) line
fine_number d b (Plain k) line = (quiet d b (Mark OpenBracket) (Number k ∷ line) (λ n e. cc) (λ e. absurd cc), (quiet d b (Number k) line (λ n e. cc) (λ e. absurd cc), tt))
fine_number d b (Minus k) line = (quiet d b (Mark OpenBracket) (Negative k ∷ line) (λ n e. cc) (λ e. absurd cc), (quiet d b (Negative k) line (λ n e. cc) (λ e. absurd cc), tt))

broken_number : (d : MDescription) (b : Before) (n : List ℕ) (rest : List Tok) (op : ℕ) (t : Terminal) → IsNamed d op t n → b.names < 65535 → ((k : MNumber) → IsNumber k → next rest ≢ Some (number_token k)) → StopsTree d b (Word n ∷ (Mark OpenBracket ∷ rest)) (Fault BadTree (length rest))
broken_number d b n rest op t is few h =
    let stops = number_stops n rest h in
    let pre = Mark OpenBracket ∷ [] in
    let passed : Passed d b (moved (one b (Word n)) pre) n pre rest = record { op = op; terminal = t; named = is; few = few; fine = fine_bracket d (one b (Word n)) rest; moves = refl } in
    let none = none_passed d b (moved (one b (Word n)) pre) n pre rest 0 passed (none_yet d _ rest) (λ p w l. stops_no_tree d _ rest p stops w) in
    let e : suc (length pre + 0) ≡ length (Word n ∷ (Mark OpenBracket ∷ rest)) - length rest = omega arith in
    (rest, refl, stops, subst (λ (z : ℕ). NoneBefore d b (Word n ∷ (Mark OpenBracket ∷ rest)) z) e none)

broken_close : (d : MDescription) (b : Before) (n : List ℕ) (k : MNumber) (rest : List Tok) (op : ℕ) (t : Terminal) → IsNamed d op t n → b.names < 65535 → IsNumber k → next rest ≢ Some (Mark CloseBracket) → StopsTree d b (Word n ∷ (Mark OpenBracket ∷ (number_token k ∷ rest))) (Fault BadTree (length rest))
broken_close d b n k rest op t is few i h =
    let stops = close_stops n k rest i h in
    let pre = Mark OpenBracket ∷ (number_token k ∷ []) in
    let passed : Passed d b (moved (one b (Word n)) pre) n pre rest = record { op = op; terminal = t; named = is; few = few; fine = fine_number d (one b (Word n)) k rest; moves = refl } in
    let none = none_passed d b (moved (one b (Word n)) pre) n pre rest 0 passed (none_yet d _ rest) (λ p w l. stops_no_tree d _ rest p stops w) in
    let e : suc (length pre + 0) ≡ length (Word n ∷ (Mark OpenBracket ∷ (number_token k ∷ rest))) - length rest = omega arith in
    (rest, refl, stops, subst (λ (z : ℕ). NoneBefore d b (Word n ∷ (Mark OpenBracket ∷ (number_token k ∷ rest))) z) e none)

abbrev pub stopped : ReadError → Stop → Type 0
stopped e s = (left : ℕ) → e ≡ Stuck left → s ≡ Fault BadTree left

pub broken_constant : (d : MDescription) (b : Before) (n : List ℕ) (line rest : List Tok) (op : ℕ) (t : Terminal) (e : ReadError) (s : Stop) → line ≡ Word n ∷ rest → IsNamed d op t n → b.names < 65535 → StopsConstant rest e → stopped e s → StopsTree d b line s
broken_constant d b n line rest op t e s l is few (inl h) k =
    rw (l, h.2, k (length h.0) h.1) (broken_number d b n h.0 op t is few h.3)
broken_constant d b n line rest op t e s l is few (inr h) k =
    rw (l, h.3, k (length h.1) h.2) (broken_close d b n h.0 h.1 op t is few h.4 h.5)

-- ---- a name with its constant that no parenthesis follows

alone_ends : (n : List ℕ) (c : Option MNumber) (x : List Tok) → (c ≡ None → next x ≢ Some (Mark OpenBracket)) → next x ≢ Some (Mark Open) → Ends (Alone n c) x
alone_ends n None x h k = (h refl, k)
alone_ends n (Some c) x h k = k

-- Before the end of a whole tree no fault stands, if its tokens behind the name have none, and its root may have its
-- operands.
pub whole_none : (d : MDescription) (b after : Before) (n : List ℕ) (pre rest : List Tok) (a : MTail) (op : ℕ) → AreDistinct (terminal_names d) → RootMay d a op → Passed d b after n pre rest → Word n ∷ (pre ++ rest) ≡ tree_then a rest → Ends a rest → NoneBefore d b (tree_then a rest) (length (tree_then a rest) - length rest)
whole_none d b after n pre rest a op distinct may s e ends =
    let long = length-append pre rest in
    let f = ap length e in
    let k : suc (length pre + 0) ≡ length (tree_then a rest) - length rest = omega arith in
    let none = none_passed d b after n pre rest 0 s (none_yet d after rest) (λ p w l. right_root d _ p a op rest distinct e ends may w) in
    let moved_over : NoneBefore d b (tree_then a rest) (suc (length pre + 0)) = subst (λ (l : List Tok). NoneBefore d b l (suc (length pre + 0))) e none in
    subst (λ (z : ℕ). NoneBefore d b (tree_then a rest) z) k moved_over

-- the first tokens of a line are a tree's
whole_goes : (n : List ℕ) (pre rest : List Tok) (a : MTail) → HasNumbers a → ((x : List Tok) → Word n ∷ (pre ++ x) ≡ tree_then a x) → GoesOn (tree_then a rest) (length pre)
whole_goes n pre rest a numbers e =
    let k : length pre + 1 ≡ suc (length pre + 0) = omega arith in (
      a,
      [],
      numbers,
      append-nil (take (length pre + 1) (tree_then a rest))
          ∙ ap (take (length pre + 1)) (sym (e rest))
          ∙ ap (λ (z : ℕ). take z (Word n ∷ (pre ++ rest))) k
          ∙ ap (λ (l : List Tok). Word n ∷ l) (take-append-add pre rest 0 ∙ ap (λ (l : List Tok). pre ++ l) (take_none rest))
          ∙ e [],
    )

-- if its root has another number of operands, the tree's last token tells it
pub whole_differs : (d : MDescription) (b after : Before) (n : List ℕ) (pre rest : List Tok) (a : MTail) (op : ℕ) (t : Terminal) → IsNamed d op t (root_of a) → CountDiffers d op (operands_of a) → HasNumbers a → Passed d b after n pre rest → ((x : List Tok) → Word n ∷ (pre ++ x) ≡ tree_then a x) → Ends a rest → StopsTree d b (tree_then a rest) (Fault WrongArity (length rest + 1))
whole_differs d b after n pre rest a op t is f numbers s e ends =
    let long = length-append pre rest in
    let whole = ap length (e rest) in
    let end : suc (length pre) + length rest ≡ length (tree_then a rest) = omega arith in (
      length pre,
      omega arith,
      record {
        within = omega arith;
        means = record {
          at = 0;
          tree = a;
          stands = record { rest = rest; parts = drop_none (tree_then a rest); numbers = numbers; ends = ends; last_is = end };
          op = op;
          terminal = f.terminal;
          named = same_named d op (root_of a) t f.terminal is f.known;
          arity = f.arity;
          arity_is = f.arity_is;
          differs = f.differs;
        };
        goes_on = whole_goes n pre rest a numbers e;
        least = λ other p m.
            elim (analysed d b after n pre rest other p s (subst (λ (l : List Tok). Means d b other l p) (sym (e rest)) m)) [
              | inl g ↦ (
                  let same = ap length (here_same d _ p a rest (e rest) ends g.1).1 in
                  let last = g.1.wrong.stands.last_is in
                  let row = ap row_number g.0 in
                  inr (omega arith, omega arith)
                  )
              | inr h ↦ (let q = h.1 in inl (omega arith))
            ];
      },
    )

leaf_passed : (d : MDescription) (b : Before) (tokens rest : List Tok) (op : ℕ) (value : Option ℤ) → (h : ReadsHead d b tokens rest op value) → Passed d b (moved (one b (Word h.name)) (constant_then h.constant [])) h.name (constant_then h.constant []) rest
leaf_passed d b tokens rest op value h =
    record { op = op; terminal = h.is.terminal; named = h.is.named; few = h.is.few; fine = fine_constant d (one b (Word h.name)) h.constant [] rest tt; moves = refl }

pub leaf : (d : MDescription) (b : Before) (tokens rest : List Tok) (op : ℕ) (value : Option ℤ) → IsDescription d → ReadsHead d b tokens rest op value → next rest ≢ Some (Mark Open) → b.opened ≤ 499 → CountFits d op 0 → ReadsTree d b tokens rest (TLeaf op value)
leaf d b tokens rest op value is h k low fits =
    let n = h.name in
    let c = h.constant in
    let ends = alone_ends n c rest h.ends k in
    let few = h.is.few in
    let may = may_have d op 0 n h.is.terminal h.is.named fits in
    record {
      written = Alone n c;
      numbers = h.is.numbers;
      parts = h.parts;
      ends = ends;
      means = (may, h.is.value_is);
      small = omega arith;
      low = omega arith;
      none = subst (λ (l : List Tok). NoneBefore d b l (length l - length rest)) (sym h.parts) (whole_none d b _ n (constant_then c []) rest (Alone n c) op is.names may (leaf_passed d b tokens rest op value h) (then_append (Alone n c) [] rest) ends);
    }

pub leaf_differs : (d : MDescription) (b : Before) (tokens rest : List Tok) (op : ℕ) (value : Option ℤ) → ReadsHead d b tokens rest op value → next rest ≢ Some (Mark Open) → CountDiffers d op 0 → StopsTree d b tokens (Fault WrongArity (length rest + 1))
leaf_differs d b tokens rest op value h k f =
    let n = h.name in
    let c = h.constant in
    subst (λ (l : List Tok). StopsTree d b l (Fault WrongArity (length rest + 1))) (sym h.parts) (whole_differs d b _ n (constant_then c []) rest (Alone n c) op h.is.terminal h.is.named f h.is.numbers (leaf_passed d b tokens rest op value h) (then_append (Alone n c) []) (alone_ends n c rest h.ends k))

-- ---- a parenthesis that opens while too many are open

open_rows : (d : MDescription) (b : Before) (line : List Tok) (other : Row) → Means d b other (Mark Open ∷ line) 0 → 5 ≤ row_number other
open_rows d b line BadTree m = absurd m
open_rows d b line UnknownOp m = let e = same_Some (Mark Open) (Word m.0) m.1 in absurd cc
open_rows d b line WrongArity m = absurd (no_name_here d (Mark Open) line 0 (λ n e. cc) (first_here d b (Mark Open) line m))
open_rows d b line TooLarge m = let e = same_Some (Mark Open) (Word m.0) m.1 in absurd cc
open_rows d b line TooHigh m = omega arith

open_first : (d : MDescription) (b : Before) (line : List Tok) (other : Row) (k q p : ℕ) → p ≡ suc (k + q) → Means d b other (Mark Open ∷ line) q → (suc (k + 0) < p) ⊎ ((suc (k + 0) ≡ p) × (5 ≤ row_number other))
open_first d b line other k zero p e m = inr (omega arith, open_rows d b line other m)
open_first d b line other k (suc q) p e m = inl (omega arith)

open_goes : (n : List ℕ) (c : Option MNumber) (line : List Tok) → IsConstant c → GoesOn (Word n ∷ (constant_then c [] ++ Mark Open ∷ line)) (suc (length (constant_then c []) + 0))
open_goes n c line is =
    let pre = constant_then c [] in
    let more = Word (97 ∷ []) ∷ (Mark Close ∷ []) in
    let e : suc (length pre + 0) + 1 ≡ suc (length pre + 1) = omega arith in
    let t : take (suc (length pre + 0) + 1) (Word n ∷ (pre ++ Mark Open ∷ line)) ≡ Word n ∷ (pre ++ Mark Open ∷ []) =
    ap (λ (k : ℕ). take k (Word n ∷ (pre ++ Mark Open ∷ line))) e ∙ ap (λ (l : List Tok). Word n ∷ l) (take-append-add pre (Mark Open ∷ line) 1 ∙ ap (λ (l : List Tok). pre ++ l) (take_one (Mark Open) line)) in (
      Over n c (Alone (97 ∷ []) None),
      more,
      (is, tt),
      ap (λ (l : List Tok). l ++ more) t ∙ ap (λ (l : List Tok). Word n ∷ l) (append_assoc pre (Mark Open ∷ []) more ∙ constant_append c [] (Mark Open ∷ more)),
    )

-- the last token of the tree stands behind its open parenthesis
open_later : (d : MDescription) (n : List ℕ) (c : Option MNumber) (line : List Tok) (p : ℕ) → IsConstant c → WrongHere d (Word n ∷ (constant_then c [] ++ Mark Open ∷ line)) p → suc (length (constant_then c []) + 0) < p
open_later d n c line p is w =
    let pre = constant_then c [] in
    let e : Word n ∷ (first_pre c ++ line) ≡ Word n ∷ (pre ++ Mark Open ∷ line) = first_line n c line ∙ ap (λ (l : List Tok). Word n ∷ l) (sym (constant_append c [] (Mark Open ∷ line))) in
    let h = holds d n (first_pre c) false line p (first_context n c is) (subst (λ (l : List Tok). WrongHere d l p) (sym e) w) in
    let same = ap length e in
    let long = length-append (first_pre c) line in
    let long2 = length-append pre (Mark Open ∷ line) in
    let parts = ap length h.parts in
    let kid = tree_long h.kid h.after in
    let later = h.later in
    omega arith

too_high_at : (d : MDescription) (b : Before) (line : List Tok) (n : List ℕ) (c : Option MNumber) (op : ℕ) (value : Option ℤ) → IsHead d b op value n c → 499 ≤ b.opened → StopsTree d b (Word n ∷ (constant_then c [] ++ Mark Open ∷ line)) (Fault TooHigh (length (Mark Open ∷ line)))
too_high_at d b line n c op value h many =
    let pre = constant_then c [] in
    let after = moved (one b (Word n)) pre in
    let here = Mark Open ∷ line in
    let passed : Passed d b after n pre here =
    record { op = op; terminal = h.terminal; named = h.named; few = h.few; fine = fine_constant d (one b (Word n)) c [] here tt; moves = refl } in
    let same : after ≡ one b (Word n) = moved_constant (one b (Word n)) c [] in
    let means : Means d after TooHigh here 0 = subst (λ (z : Before). Means d z TooHigh here 0) (sym same) (refl, many) in
    let goes = open_goes n c line h.numbers in
    let long = length-append pre here in
    let within : suc (length pre + 0) < length (Word n ∷ (pre ++ here)) = omega arith in (
      suc (length pre + 0),
      omega arith,
      record {
        within = within;
        means = later d b TooHigh (Word n) (pre ++ here) (length pre + 0) (ahead d (one b (Word n)) pre here TooHigh 0 means);
        goes_on = goes;
        least = λ other p m.
            elim (analysed d b after n pre here other p passed m) [
              | inl g ↦ inl (open_later d n c line p h.numbers g.1)
              | inr q ↦ open_first d after line other (length pre) q.0 p q.1 q.2
            ];
      },
    )

pub too_high : (d : MDescription) (b : Before) (tokens rest line : List Tok) (op : ℕ) (value : Option ℤ) → ReadsHead d b tokens rest op value → rest ≡ Mark Open ∷ line → 499 ≤ b.opened → StopsTree d b tokens (Fault TooHigh (length rest))
too_high d b tokens rest line op value h e many =
    let f : tokens ≡ Word h.name ∷ (constant_then h.constant [] ++ Mark Open ∷ line) = h.parts ∙ ap (λ (l : List Tok). Word h.name ∷ constant_then h.constant l) e ∙ ap (λ (l : List Tok). Word h.name ∷ l) (sym (constant_append h.constant [] (Mark Open ∷ line))) in
    rw (f, e) (too_high_at d b line h.name h.constant op value h.is many)
