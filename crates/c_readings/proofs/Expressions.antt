-- Readers of expressions are exact.
use Rattle.std.proofs.Common.{◌≡◌, ◌≤◌, ◌<◌, ◌+◌, ℕ, suc, Bool, true, false, nat_le, if◌then◌else◌, Option, Some, None, List, [], ◌∷◌, length, refl, sym, ap, ◌∙◌, subst, arith}
use Rattle.std.proofs.lemmas.Bool.Decides.{nat_tests}
use Rattle.c_ast.specs.Lexemes.{Lexeme, Sign, Placed}
use Rattle.c_ast.specs.Marks.{Mark, Tok, Here, IsSign, next, is_sign, first_is, lexemes}
use Rattle.c_ast.specs.ExprMarks as marks
use Rattle.c_ast.specs.Levels.{rank, Parts, AllAssign, TwoExprs, FitsTypeName}
use Rattle.c_ast.specs.Heights.{height, tallest, type_name_height}
use Rattle.c_ast.specs.Reach.{LinkKind, sign_of_link, link_of, needed, links, behind, behind_last, goes_on, goes_on_whole}
use Rattle.c_ast.specs.Trees.{ExprTree, Name, Integer, Character, Text, Enclosed, Index, Call, Prefix, SizeofExpr, SizeofType, Cast, Binary, Conditional, Assign, Comma, ExprTrees, NoExprs, Exprs}
use Rattle.c_ast.specs.Trees as tree
use Rattle.c_ast.specs.Views.{exprs_of}
use Rattle.c_readings.specs.Links.{LinkTree, Indexed, Arguments, Member, Postfix, Operand, Choices, Value, linked}
use Rattle.c_readings.specs.Reading.{State, gives, bind, answer, ask, here, commas}
use Rattle.c_readings.specs.Readers.{Readers, type_name, head, chain, piece_above, whole_above}
use Rattle.c_readings.specs.Exact.{RunsOn, Finds, Ends, Stops, IsPiece, Exact, AreExact, FitsAt, nothing_more}
use Rattle.c_readings.proofs.Steps.{Yields, read_so, bind_yields, if_yields, iff_then, iff_path, here_iff, bind_finds, if_finds_yes, asked_yes, asked_no, here_is, here_finds, sign_next, fails_next}
use Rattle.c_readings.proofs.Lists.{Last, listed, IsListed}
use Rattle.c_readings.proofs.Operators.{or_first, or_second, or_none, op_level, needed_some, made_needed, behind_left, stops_at}
use Rattle.c_readings.proofs.Links.{kind_of, link_marks, linked_marks, linked_rank, linked_height, linked_behind, parts_linked, le_known, known_le, Ended}
use Rattle.c_readings.proofs.Arguments.{list_of, list_is, FitsList, all_assign, tallest_low, fits_list, separated, sequence_marks, behind_commas_yields, behind_commas_found}
use Rattle.c_readings.proofs.Heads.{TypeNames, head_yields, variable_found, integer_found, character_found, literal_found, enclosed_found, cast_found, sized_found, sized_type_found, prefix_found}
use Rattle.c_readings.proofs.Chains.{chain_yields, after_link, chain_ended}

-- ---- a first part and links behind it

-- where x stands, the chain finds z
abbrev Goes : Readers → ℕ → State → ExprTree → List Mark → List Mark → ExprTree → Type 0
Goes R level s x q r z = (k : ℕ) (t : State) → RunsOn q t → length t.rest < k → Finds (chain k R level (here s) x t) z r

abbrev Reads : Readers → ℕ → State → List Mark → ExprTree → Type 0
Reads R level s r z = Finds (bind (head R level s) (λ a t. chain (length t.rest + 1) R level (here s) a t)) z r

from_head : (R : Readers) (level : ℕ) (s : State) (x : ExprTree) (q r : List Mark) (z : ExprTree) → Finds (head R level s) x q → Goes R level s x q r z → Reads R level s r z
from_head R level s x q r z f g = bind_finds (head R level s) x q r (λ a t. chain (length t.rest + 1) R level (here s) a t) z f (λ t u. g (length t.rest + 1) t u (omega arith))

left_stops : (a : ExprTree) (k : LinkKind) (m : List Mark) → Parts a → needed k ≤ rank a → Stops behind a (Tok (Sign (sign_of_link k)) ∷ m)
left_stops a k m f p t e = let g : Sign (sign_of_link k) ≡ t = cc in subst (λ x. behind a x ≡ false) g (behind_left a k f p)

-- the token of a link, and what stands behind it
abbrev after : LinkTree → List Mark → List Mark
after m q = Tok (Sign (sign_of_link (kind_of m))) ∷ link_marks m q

-- what a link makes is found where what stands before it is found
behind_link : (R : Readers) → AreExact R → (level l : ℕ) (a : ExprTree) (m : LinkTree) (q r : List Mark) (z : ExprTree) (s : State) → level ≤ rank (linked l a m) → Parts (linked l a m) → height (linked l a m) ≤ suc R.limit → Stops behind (linked l a m) q → RunsOn (marks.expr (linked l a m) q) s → Goes R level s (linked l a m) q r z → (level ≤ rank a → Parts a → height a ≤ suc R.limit → Stops behind a (after m q) → RunsOn (marks.expr a (after m q)) s → Goes R level s a (after m q) r z → Reads R level s r z) → Reads R level s r z
behind_link R e level l a m q r z s o p h st u g found =
    let d = parts_linked l a m p in let i = linked_height l a m in let j = linked_rank l a m in
    let v : RunsOn (Here l ∷ marks.expr a (after m q)) s = subst (λ y. RunsOn y s) (linked_marks l a m q) u in
    found (omega (arith, o, j, made_needed (kind_of m), d.0)) d.1 (omega (arith, h, i)) (left_stops a (kind_of m) (link_marks m q) d.1 d.0) v.1 (λ k t w b.
    after_link R e level (here s) a m k q r z t (omega (arith, o, j)) d.0 d.2 (omega (arith, h, i)) (omega (arith, h, i)) (λ c y. sym (linked_behind l a m c) ∙ st c y) w b (λ n x c y.
    subst (λ line. Finds (chain n R level (here s) (linked line a m) x) z r) (sym (here_is l (marks.expr a (after m q)) s v)) (g n x c y)))

-- an expression is its first part and the links behind it
chain_found : (R : Readers) → AreExact R → TypeNames R → (x : ExprTree) (level : ℕ) (q r : List Mark) (z : ExprTree) (s : State) → 1 ≤ level → level ≤ rank x → Parts x → height x ≤ suc R.limit → Stops behind x q → RunsOn (marks.expr x q) s → Goes R level s x q r z → Reads R level s r z
chain_found R e n (Name l v) level q r z s o p f h st u g = from_head R level s (Name l v) q r z (variable_found R level l v q s u) g
chain_found R e n (Integer l v k) level q r z s o p f h st u g = from_head R level s (Integer l v k) q r z (integer_found R level l v k q s u) g
chain_found R e n (Character l v) level q r z s o p f h st u g = from_head R level s (Character l v) q r z (character_found R level l v q s u) g
chain_found R e n (Text l bs) level q r z s o p f h st u g = from_head R level s (Text l bs) q r z (literal_found R level l bs q s f u) g
chain_found R e n (Enclosed l a) level q r z s o p f h st u g = from_head R level s (Enclosed l a) q r z (enclosed_found R e level l a q s f (omega arith) u) g
chain_found R e n (Prefix l op a) level q r z s o p f h st u g = from_head R level s (Prefix l op a) q r z (prefix_found R e level l op a q s p f (omega arith) st u) g
chain_found R e n (SizeofExpr l a) level q r z s o p f h st u g = from_head R level s (SizeofExpr l a) q r z (sized_found R e level l a q s p f (omega arith) st u) g
chain_found R e n (SizeofType l x) level q r z s o p f h st u g = from_head R level s (SizeofType l x) q r z (sized_type_found R n level l x q s p f (omega arith) u) g
chain_found R e n (Cast l x a) level q r z s o p f h st u g = from_head R level s (Cast l x a) q r z (cast_found R e n level l x a q s p f.0 (omega arith) (f.1, f.2) (omega arith) st u) g
chain_found R e n (Index l a i) level q r z s o p f h st u g = behind_link R e level l a (Indexed i) q r z s p f h st u g (chain_found R e n a level (after (Indexed i) q) r z s o)
chain_found R e n (Call l a es) level q r z s o p f h st u g = behind_link R e level l a (Arguments es) q r z s p f h st u g (chain_found R e n a level (after (Arguments es) q) r z s o)
chain_found R e n (tree.Member l op a v) level q r z s o p f h st u g = behind_link R e level l a (Member op v) q r z s p f h st u g (chain_found R e n a level (after (Member op v) q) r z s o)
chain_found R e n (tree.Postfix l op a) level q r z s o p f h st u g = behind_link R e level l a (Postfix op) q r z s p f h st u g (chain_found R e n a level (after (Postfix op) q) r z s o)
chain_found R e n (Binary l op a b) level q r z s o p f h st u g = behind_link R e level l a (Operand op b) q r z s p f h st u g (chain_found R e n a level (after (Operand op b) q) r z s o)
chain_found R e n (Conditional l a b c) level q r z s o p f h st u g = behind_link R e level l a (Choices b c) q r z s p f h st u g (chain_found R e n a level (after (Choices b c) q) r z s o)
chain_found R e n (Assign l op a b) level q r z s o p f h st u g = behind_link R e level l a (Value op b) q r z s p f h st u g (chain_found R e n a level (after (Value op b) q) r z s o)
chain_found R e n (Comma l es) level q r z s o p f h st u g = absurd (omega arith)

piece_yields : (R : Readers) → AreExact R → TypeNames R → (level : ℕ) → level ≤ 15 → (s : State) → Yields (piece_above R level s) (Ended R level s)
unfolding piece_above
piece_yields R e n level k s =
    bind_yields (head R level s) (λ a t. chain (length t.rest + 1) R level (here s) a t) _ (Ended R level s) (head_yields R e n level s k) (λ a t b.
    chain_yields (length t.rest + 1) R e level s a t b)

piece_found : (R : Readers) → AreExact R → TypeNames R → (level : ℕ) → 1 ≤ level → (s : State) (x : ExprTree) (r : List Mark) → FitsAt level x → height x ≤ suc R.limit → Stops (goes_on level) x r → RunsOn (marks.expr x r) s → Finds (piece_above R level s) x r
unfolding piece_above
piece_found R e n level o s x r f h st g =
    chain_found R e n x level r r x s o f.0 f.1 h (λ t i. or_second _ _ (st t i)) g (λ k t u w.
    chain_ended R level (here s) x k r t st u w)

pub piece_above_exact : (R : Readers) → AreExact R → Exact marks.type_name FitsTypeName nothing_more type_name_height R.limit 1 (type_name R) → (level : ℕ) → 1 ≤ level → level ≤ 15 → Exact marks.expr (FitsAt level) (goes_on level) height (suc R.limit) 1 (piece_above R level)
piece_above_exact R e n level h k = record {
  piece = λ s x t i. read_so (piece_above R level s) (Ended R level s) x t (piece_yields R e n level k s) i;
  found = λ s x r f w st g. piece_found R e n level h s x r f w st g;
}

-- ---- whole expressions

abbrev Whole : Readers → State → ExprTree → State → Type 0
Whole R s x t = IsPiece marks.expr Parts goes_on_whole height (suc R.limit) 1 s x t

ends_whole : (a : ExprTree) (ts : List Placed) → first_is (is_sign 45) (lexemes ts) ≡ false → Ends (goes_on 1) a ts → Ends goes_on_whole a ts
ends_whole a [] h e = tt
ends_whole a (t ∷ ts) h e = or_none _ _ h e

no_link : (o : Option LinkKind) → links 1 0 o ≡ false
no_link None = refl
no_link (Some k) = let h = needed_some k in grind (arith, nat_tests)

ends_last : (x : ExprTree) (xs : List ExprTree) (t : Lexeme) (other : Bool) → Last (λ y. goes_on 1 y t ≡ false) (x ∷ xs) → behind_last (exprs_of (x ∷ xs)) t other ≡ false
ends_last x [] t other h = h
ends_last x (y ∷ ys) t other h = ends_last y ys t (goes_on 1 x t) h

ends_sequence : (l : ℕ) (a x : ExprTree) (xs : List ExprTree) (ts : List Placed) → first_is (is_sign 45) (lexemes ts) ≡ false → Last (λ y. Ends (goes_on 1) y ts) (x ∷ xs) → Ends goes_on_whole (Comma l (exprs_of (a ∷ x ∷ xs))) ts
ends_sequence l a x xs [] h e = tt
ends_sequence l a x xs (t ∷ ts) h e = or_none _ _ h (or_none _ _ (no_link (link_of t.lexeme)) (ends_last x xs t.lexeme (goes_on 1 a t.lexeme) e))

sequence_is : (R : Readers) (s : State) (a : ExprTree) (t : State) (xs : List ExprTree) (u : State) → Ended R 1 s a t → answer (IsSign 45) t ≡ true → height a ≤ R.limit → IsListed marks.expr (FitsAt 1) (goes_on 1) height R.limit (λ b t. answer (IsSign 45) t) t xs u → Whole R s (Comma (here s) (exprs_of (a ∷ xs))) u
sequence_is R s a t [] u p c low k = absurd (let d : true ≡ false = sym c ∙ (ap (λ v. answer (IsSign 45) v) (sym k.none) ∙ k.stopped.1) in cc)
sequence_is R s a t (x ∷ xs) u p c low k =
    let w : FitsList R.limit (a ∷ x ∷ xs) = ((p.fits, low), k.kept) in
    record {
      fits = (tt, all_assign R.limit (a ∷ x ∷ xs) w);
      low = omega (arith, tallest_low R.limit (a ∷ x ∷ xs) w);
      ends = ends_sequence (here s) a x xs u.rest k.stopped.1 k.ends;
      used = omega (arith, p.used, k.used);
      runs = λ r. here_iff (marks.sequence (exprs_of (a ∷ x ∷ xs)) r) s (omega (arith, p.used)) (iff_then (iff_path _ _ s (sequence_marks (a ∷ x ∷ xs) r)) (iff_then (p.runs (listed marks.expr (x ∷ xs) r)) (k.runs r)));
    }

whole_yields : (R : Readers) → AreExact R → TypeNames R → (s : State) → Yields (whole_above R s) (Whole R s)
unfolding whole_above
whole_yields R e n s =
    bind_yields (piece_above R 1 s) (λ a t. ask (IsSign 45) t (if nat_le (height a) R.limit then bind (commas (R.piece 1) t) (λ es u. gives (Comma (here s) (exprs_of (a ∷ es))) u) else None) (gives a t)) _ (Whole R s) (piece_yields R e n 1 (omega arith) s) (λ a t p.
    if_yields (answer (IsSign 45) t) (if nat_le (height a) R.limit then bind (commas (R.piece 1) t) (λ es u. gives (Comma (here s) (exprs_of (a ∷ es))) u) else None) (gives a t) (Whole R s)
    (λ c. if_yields (nat_le (height a) R.limit) (bind (commas (R.piece 1) t) (λ es u. gives (Comma (here s) (exprs_of (a ∷ es))) u)) None (Whole R s)
    (λ low. bind_yields (commas (R.piece 1) t) (λ es u. gives (Comma (here s) (exprs_of (a ∷ es))) u) _ (Whole R s) (behind_commas_yields R e t) (λ xs u k. sequence_is R s a t xs u p c (le_known (height a) R.limit low) k))
    (λ low. tt))
    (λ c. record { fits = p.fits.1; low = p.low; ends = ends_whole a t.rest c p.ends; used = p.used; runs = p.runs }))

whole_single : (R : Readers) → AreExact R → TypeNames R → (x : ExprTree) (r : List Mark) (s : State) → 1 ≤ rank x → Parts x → height x ≤ suc R.limit → Stops goes_on_whole x r → RunsOn (marks.expr x r) s → Finds (whole_above R s) x r
unfolding whole_above
whole_single R e n x r s o f h st g =
    bind_finds (piece_above R 1 s) x r r _ x (piece_found R e n 1 (omega arith) s x r (o, f) h (λ t i. or_second _ _ (st t i)) g) (λ t u.
    asked_no (IsSign 45) t _ (gives x t) x r (fails_next (is_sign 45) r t (λ v i. or_first _ _ (st v i)) u) (refl, u))

last_stops : (es : ExprTrees) (r : List Mark) (other : Lexeme → Bool) → ((t : Lexeme) → next r ≡ Some t → behind_last es t (other t) ≡ false) → Last (λ x. Stops (goes_on 1) x r) (list_of es)
last_stops NoExprs r other h = tt
last_stops (Exprs e NoExprs) r other h = h
last_stops (Exprs e (Exprs a es)) r other h = last_stops (Exprs a es) r (λ t. goes_on 1 e t) h

whole_sequence : (R : Readers) → AreExact R → TypeNames R → (l : ℕ) (es : ExprTrees) (r : List Mark) (s : State) → TwoExprs es → AllAssign es → tallest es ≤ R.limit → Stops goes_on_whole (Comma l es) r → RunsOn (marks.expr (Comma l es) r) s → Finds (whole_above R s) (Comma l es) r
unfolding whole_above
whole_sequence R e n l NoExprs r s f w h st g = absurd f
whole_sequence R e n l (Exprs x NoExprs) r s f w h st g = absurd f
whole_sequence R e n l (Exprs x (Exprs a es)) r s f w h st g =
    let z : ExprTree = Comma l (Exprs x (Exprs a es)) in
    let xs : List ExprTree = a ∷ list_of es in
    let y : FitsList R.limit (x ∷ xs) = fits_list R.limit (Exprs x (Exprs a es)) w h in
    let m : RunsOn (separated (x ∷ xs) r) s = subst (λ i. RunsOn i s) (ap (λ i. marks.sequence i r) (sym (list_is (Exprs x (Exprs a es)))) ∙ sequence_marks (x ∷ xs) r) g.1 in
    let c : (t : State) → RunsOn r t → answer (IsSign 45) t ≡ false = λ t u. fails_next (is_sign 45) r t (λ v i. or_first _ _ (st v i)) u in
    here_finds l (marks.sequence (Exprs x (Exprs a es)) r) r s (λ j. bind (piece_above R 1 s) (λ b t. ask (IsSign 45) t (if nat_le (height b) R.limit then bind (commas (R.piece 1) t) (λ ys u. gives (Comma j (exprs_of (b ∷ ys))) u) else None) (gives b t))) z g (λ j.
    bind_finds (piece_above R 1 s) x (listed marks.expr xs r) r _ z (piece_found R e n 1 (omega arith) s x (listed marks.expr xs r) y.0.0 (omega (arith, y.0.1)) (stops_at x 1 (Sign 45) (marks.expr a (listed marks.expr (list_of es) r)) refl) m) (λ t u.
    asked_yes (IsSign 45) t _ (gives x t) z r (sign_next 45 (marks.expr a (listed marks.expr (list_of es) r)) t u)
    (if_finds_yes (nat_le (height x) R.limit) (bind (commas (R.piece 1) t) (λ ys v. gives (Comma l (exprs_of (x ∷ ys))) v)) None z r (known_le (height x) R.limit y.0.1)
    (bind_finds (commas (R.piece 1) t) xs r r (λ ys v. gives (Comma l (exprs_of (x ∷ ys))) v) z (behind_commas_found R e t xs r y.1 (last_stops (Exprs a es) r (λ t. goes_on 1 x t) (λ t i. or_second _ _ (or_second _ _ (st t i)))) c u) (λ v i. (ap (λ ys. Comma l (Exprs x ys)) (list_is (Exprs a es)), i))))))

whole_found : (R : Readers) → AreExact R → TypeNames R → (x : ExprTree) (r : List Mark) (s : State) → Parts x → height x ≤ suc R.limit → Stops goes_on_whole x r → RunsOn (marks.expr x r) s → Finds (whole_above R s) x r
whole_found R e n (Comma l es) r s f h st g = whole_sequence R e n l es r s f.0 f.1 (omega arith) st g
whole_found R e n (Binary l op a b) r s f h st g = whole_single R e n (Binary l op a b) r s (let d = (op_level op).0 in omega arith) f h st g
whole_found R e n x r s f h st g = whole_single R e n x r s (omega arith) f h st g

pub whole_above_exact : (R : Readers) → AreExact R → Exact marks.type_name FitsTypeName nothing_more type_name_height R.limit 1 (type_name R) → Exact marks.expr Parts goes_on_whole height (suc R.limit) 1 (whole_above R)
whole_above_exact R e n = record {
  piece = λ s x t i. read_so (whole_above R s) (Whole R s) x t (whole_yields R e n s) i;
  found = λ s x r f h st g. whole_found R e n x r s f h st g;
}
