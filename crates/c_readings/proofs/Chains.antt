-- Readers of links, and of what stands behind a first part, are exact.
use Rattle.std.proofs.Common.{◌≡◌, ◌≤◌, ◌<◌, ◌+◌, ℕ, zero, suc, false, nat_le, Option, Some, None, List, [], ◌∷◌, length, refl, sym, ap, ◌∙◌, subst, arith}
use Rattle.c_ast.specs.InForce.{InForce}
use Rattle.c_ast.specs.Lexemes.{Lexeme, Name, Sign, Placed}
use Rattle.c_ast.specs.Operators.{level_of}
use Rattle.c_ast.specs.Marks.{Mark, Tok, Runs, next}
use Rattle.c_ast.specs.ExprMarks as marks
use Rattle.c_ast.specs.Levels.{rank}
use Rattle.c_ast.specs.Heights.{height}
use Rattle.c_ast.specs.Reach.{LinkKind, Index, Call, Select, Step, Operate, Question, Assign, sign_of_link, needed, made, extends, behind, goes_on}
use Rattle.c_ast.specs.Trees.{ExprTree}
use Rattle.c_readings.specs.Links.{LinkTree, Indexed, Arguments, Member, Postfix, Operand, Choices, Value, linked}
use Rattle.c_readings.specs.Reading.{State, Read, tail, beyond, here, gives, bind, name_then, one_name}
use Rattle.c_readings.specs.Readers.{Readers, arguments, link, kind_on, chained, chain}
use Rattle.c_readings.specs.Exact.{RunsOn, Finds, Ends, Stops, IsPiece, AreExact}
use Rattle.c_readings.proofs.Steps.{Yields, if_yields, iff_path, here_iff, yields, bind_yields, name_yields, sign_yields, Takes, past, taken_used, iff_same, iff_then, token_iff, read_so, if_finds_yes, read_finds, bind_finds, first_finds, sign_finds, beyond_runs, next_runs}
use Rattle.c_readings.proofs.Operators.{op_level, or_first, or_none, stops_whole_at}
use Rattle.c_readings.proofs.Links.{kind_of, link_marks, FitsLink, link_goes_on, link_height, linked_marks, linked_rank, linked_parts, linked_height, linked_behind, kind_is, no_kind, kind_none, kind_next, ends_never, ends_like, le_known, known_le, Begun, Ended}
use Rattle.c_readings.proofs.Arguments.{arguments_exact}

-- ---- links

name_finds : {B : Type 0} (n : List ℕ) (m r : List Mark) (s : State) (f : List ℕ → State → Read B) (z : B) → RunsOn (Tok (Name n) ∷ m) s → ((t : State) → RunsOn m t → Finds (f n t) z r) → Finds (one_name s f) z r
name_finds n m r s f z h g = first_finds (Name n) m r s (name_then f) z h g

abbrev FitsKind : LinkKind → LinkTree → Type 0
FitsKind k m = (kind_of m ≡ k) × FitsLink m

abbrev LinkPiece : Readers → LinkKind → State → LinkTree → State → Type 0
LinkPiece R k s m t = IsPiece link_marks (FitsKind k) link_goes_on link_height R.limit 0 s m t

link_yields : (R : Readers) → AreExact R → (k : LinkKind) (s : State) → Yields (link R k s) (LinkPiece R k s)
unfolding link
link_yields R e Index s =
    bind_yields (R.whole s) _ _ (LinkPiece R Index s) (yields (R.whole s) _ (e.whole.piece s)) (λ i t p.
    sign_yields 1 t (λ u. gives (Indexed i) u) (LinkPiece R Index s) (λ n. record {
      fits = (refl, p.fits);
      low = p.low;
      ends = ends_never link_goes_on (Indexed i) (tail t.rest) (λ l. refl);
      used = omega (arith, p.used, taken_used t.rest (tail t.rest) (Sign 1) n);
      runs = λ r. iff_then (p.runs (Tok (Sign 1) ∷ r)) (token_iff (Sign 1) r t (tail t.rest) n iff_same);
    }))
link_yields R e Call s =
    bind_yields (arguments R s) (λ es t. gives (Arguments es) t) _ (LinkPiece R Call s) (yields (arguments R s) _ ((arguments_exact R e).piece s)) (λ es t p. record {
      fits = (refl, p.fits);
      low = p.low;
      ends = ends_never link_goes_on (Arguments es) t.rest (λ l. refl);
      used = omega (arith, p.used);
      runs = p.runs;
    })
link_yields R e (Select op) s =
    name_yields s (λ n t. gives (Member op n) t) (LinkPiece R (Select op) s) (λ n us k. record {
      fits = (refl, tt);
      low = omega arith;
      ends = ends_never link_goes_on (Member op n) us (λ l. refl);
      used = omega (arith, taken_used s.rest us (Name n) k);
      runs = λ r. token_iff (Name n) r s us k iff_same;
    })
link_yields R e (Step op) s = record {
  fits = (refl, tt);
  low = omega arith;
  ends = ends_never link_goes_on (Postfix op) s.rest (λ l. refl);
  used = omega arith;
  runs = λ r. iff_same;
}
link_yields R e (Operate op) s =
    let d = op_level op in let x = e.piece (level_of op + 1) (omega arith) (omega (arith, d.1)) in
    bind_yields (R.piece (level_of op + 1) s) (λ b t. gives (Operand op b) t) _ (LinkPiece R (Operate op) s) (yields (R.piece (level_of op + 1) s) _ (x.piece s)) (λ b t p. record {
      fits = (refl, p.fits);
      low = p.low;
      ends = ends_like (goes_on (level_of op + 1)) b link_goes_on (Operand op b) t.rest (λ l h. h) p.ends;
      used = omega (arith, p.used);
      runs = p.runs;
    })
link_yields R e Question s =
    let x = e.piece 2 (omega arith) (omega arith) in
    bind_yields (R.whole s) _ _ (LinkPiece R Question s) (yields (R.whole s) _ (e.whole.piece s)) (λ b t p.
    sign_yields 31 t (λ u. bind (R.piece 2 u) (λ c v. gives (Choices b c) v)) (LinkPiece R Question s) (λ n.
    bind_yields (R.piece 2 (beyond t)) (λ c v. gives (Choices b c) v) _ (LinkPiece R Question s) (yields (R.piece 2 (beyond t)) _ (x.piece (beyond t))) (λ c v q. record {
      fits = (refl, (p.fits, q.fits));
      low = omega (arith, p.low, q.low);
      ends = ends_like (goes_on 2) c link_goes_on (Choices b c) v.rest (λ l h. h) q.ends;
      used = omega (arith, p.used, q.used, taken_used t.rest (tail t.rest) (Sign 31) n);
      runs = λ r. iff_then (p.runs (Tok (Sign 31) ∷ marks.expr c r)) (token_iff (Sign 31) (marks.expr c r) t (tail t.rest) n (q.runs r));
    })))
link_yields R e (Assign op) s =
    let x = e.piece 1 (omega arith) (omega arith) in
    bind_yields (R.piece 1 s) (λ b t. gives (Value op b) t) _ (LinkPiece R (Assign op) s) (yields (R.piece 1 s) _ (x.piece s)) (λ b t p. record {
      fits = (refl, p.fits);
      low = p.low;
      ends = ends_like (goes_on 1) b link_goes_on (Value op b) t.rest (λ l h. h) p.ends;
      used = omega (arith, p.used);
      runs = p.runs;
    })

link_found : (R : Readers) → AreExact R → (m : LinkTree) (r : List Mark) (s : State) → FitsLink m → link_height m ≤ R.limit → Stops link_goes_on m r → RunsOn (link_marks m r) s → Finds (link R (kind_of m) s) m r
unfolding link
link_found R e (Indexed i) r s f h st g =
    bind_finds (R.whole s) i (Tok (Sign 1) ∷ r) r _ (Indexed i) (e.whole.found s i (Tok (Sign 1) ∷ r) f h (stops_whole_at i (Sign 1) r refl refl) g) (λ t u.
    sign_finds 1 r r t (λ u. gives (Indexed i) u) (Indexed i) u (λ v. (refl, v)))
link_found R e (Arguments es) r s f h st g =
    bind_finds (arguments R s) es r r (λ ys t. gives (Arguments ys) t) (Arguments es) ((arguments_exact R e).found s es r f h st g) (λ t u. (refl, u))
link_found R e (Member op n) r s f h st g = name_finds n r r s (λ n t. gives (Member op n) t) (Member op n) g (λ t u. (refl, u))
link_found R e (Postfix op) r s f h st g = (refl, g)
link_found R e (Operand op b) r s f h st g =
    let d = op_level op in let x = e.piece (level_of op + 1) (omega arith) (omega (arith, d.1)) in
    bind_finds (R.piece (level_of op + 1) s) b r r (λ y t. gives (Operand op y) t) (Operand op b) (x.found s b r f h st g) (λ t u. (refl, u))
link_found R e (Choices b c) r s f h st g =
    let x = e.piece 2 (omega arith) (omega arith) in
    bind_finds (R.whole s) b (Tok (Sign 31) ∷ marks.expr c r) r _ (Choices b c) (e.whole.found s b (Tok (Sign 31) ∷ marks.expr c r) f.0 (omega (arith, h)) (stops_whole_at b (Sign 31) (marks.expr c r) refl refl) g) (λ t u.
    sign_finds 31 (marks.expr c r) r t (λ u. bind (R.piece 2 u) (λ y v. gives (Choices b y) v)) (Choices b c) u (λ v.
    bind_finds (R.piece 2 (beyond t)) c r r (λ y t. gives (Choices b y) t) (Choices b c) (x.found (beyond t) c r f.1 (omega (arith, h)) st v) (λ w k. (refl, k))))
link_found R e (Value op b) r s f h st g =
    let x = e.piece 1 (omega arith) (omega arith) in
    bind_finds (R.piece 1 s) b r r (λ y t. gives (Value op y) t) (Value op b) (x.found s b r f h st g) (λ t u. (refl, u))

-- ---- chains of links

-- one more link
link_begun : (R : Readers) (level : ℕ) (s : State) (a : ExprTree) (t : State) (k : LinkKind) (l : Lexeme) (us : List Placed) (m : LinkTree) (u : State) → Begun R level s a t → height a ≤ R.limit → Takes t.rest l us → (l ≡ Sign (sign_of_link k)) × (level ≤ made k) × (needed k ≤ rank a) → LinkPiece R k (past t us) m u → Begun R level s (linked (here s) a m) u
link_begun R level s a t k l us m u b low n g p =
    let i = p.fits.0 in
    let w : Takes t.rest (Sign (sign_of_link (kind_of m))) us = subst (λ x. Takes t.rest x us) (g.0 ∙ ap (λ j. Sign (sign_of_link j)) (sym i)) n in
    record {
      fits = (omega (arith, g.1, ap made i, linked_rank (here s) a m), linked_parts (here s) a m (omega (arith, g.2, ap needed i)) b.fits.1 p.fits.1);
      low = omega (arith, low, p.low, linked_height (here s) a m);
      ends = ends_like link_goes_on m behind (linked (here s) a m) u.rest (λ x h. linked_behind (here s) a m x ∙ h) p.ends;
      used = omega (arith, b.used, taken_used t.rest us l n, p.used);
      runs = λ r. iff_then (iff_path _ _ s (linked_marks (here s) a m r)) (here_iff (marks.expr a (Tok (Sign (sign_of_link (kind_of m))) ∷ link_marks m r)) s (omega (arith, b.used)) (iff_then (b.runs (Tok (Sign (sign_of_link (kind_of m))) ∷ link_marks m r)) (token_iff _ (link_marks m r) t us w (p.runs r))));
    }

ends_both : (level : ℕ) (a : ExprTree) (ts : List Placed) → kind_on level (rank a) ts ≡ None → Ends behind a ts → Ends (goes_on level) a ts
ends_both level a [] h e = tt
ends_both level a (t ∷ ts) h e = or_none _ _ (no_kind level (rank a) t.lexeme h) e

kind_taken : (level n : ℕ) (ts : List Placed) (k : LinkKind) → kind_on level n ts ≡ Some k → (l : Lexeme) × (Takes ts l (tail ts)) × ((l ≡ Sign (sign_of_link k)) × (level ≤ made k) × (needed k ≤ n))
kind_taken level n [] k h = absurd cc
kind_taken level n (t ∷ ts) k h = (t.lexeme, (t.line, refl), kind_is level n t.lexeme k h)

-- what is given where the chain ends, or goes on by one link
chained_yields : (R : Readers) → AreExact R → (level : ℕ) (s : State) (a : ExprTree) (t : State) (go : ExprTree → State → Read ExprTree) → Begun R level s a t → ((x : ExprTree) (u : State) → Begun R level s x u → Yields (go x u) (Ended R level s)) → (o : Option LinkKind) → kind_on level (rank a) t.rest ≡ o → Yields (chained R (here s) a o t go) (Ended R level s)
chained_yields R e level s a t go b g None h = record { fits = b.fits; low = b.low; ends = ends_both level a t.rest h b.ends; used = b.used; runs = b.runs }
chained_yields R e level s a t go b g (Some k) h =
    let w = kind_taken level (rank a) t.rest k h in
    if_yields (nat_le (height a) R.limit) (bind (link R k (beyond t)) (λ m u. go (linked (here s) a m) u)) None (Ended R level s) (λ low.
    bind_yields (link R k (beyond t)) (λ m u. go (linked (here s) a m) u) (LinkPiece R k (beyond t)) (Ended R level s) (link_yields R e k (beyond t)) (λ m u p.
    g (linked (here s) a m) u (link_begun R level s a t k w.0 (tail t.rest) m u b (le_known (height a) R.limit low) w.1 w.2 p)))
    (λ low. tt)

pub chain_yields : (m : ℕ) (R : Readers) → AreExact R → (level : ℕ) (s : State) (a : ExprTree) (t : State) → Begun R level s a t → Yields (chain m R level (here s) a t) (Ended R level s)
unfolding chain
chain_yields zero R e level s a t b = tt
chain_yields (suc m) R e level s a t b = chained_yields R e level s a t (λ x u. chain m R level (here s) x u) b (λ x u c. chain_yields m R e level s x u c) (kind_on level (rank a) t.rest) refl

-- ---- chains are found

link_shorter : (R : Readers) → AreExact R → (k : LinkKind) (s : State) (m : LinkTree) (t : State) → link R k s ≡ Some (m, t) → {n : ℕ} → length s.rest < n → length t.rest < n
link_shorter R e k s m t y w = let p : LinkPiece R k s m t = read_so (link R k s) (LinkPiece R k s) m t (link_yields R e k s) y in omega (arith, p.used, w)

none_on : (level n : ℕ) (r : List Mark) (names : InForce) (ts : List Placed) → ((t : Lexeme) → next r ≡ Some t → extends level n t ≡ false) → Runs r names ts → kind_on level n ts ≡ None
none_on level n r names [] h g = refl
none_on level n r names (t ∷ ts) h g = kind_none level n t.lexeme (h t.lexeme (next_runs r names t ts g))

-- a link that is next is read, and the chain goes on behind it
pub after_link : (R : Readers) → AreExact R → (level line : ℕ) (a : ExprTree) (m : LinkTree) (n : ℕ) (q r : List Mark) (z : ExprTree) (s : State) → level ≤ made (kind_of m) → needed (kind_of m) ≤ rank a → FitsLink m → height a ≤ R.limit → link_height m ≤ R.limit → Stops link_goes_on m q → RunsOn (Tok (Sign (sign_of_link (kind_of m))) ∷ link_marks m q) s → length s.rest < n → ((k : ℕ) (t : State) → RunsOn q t → length t.rest < k → Finds (chain k R level line (linked line a m) t) z r) → Finds (chain n R level line a s) z r
unfolding chain
after_link R e level line a m zero q r z s low need f h i st g w more = absurd (omega arith)
after_link R e level line a m (suc n) q r z s low need f h i st g w more =
    let go : ExprTree → State → Read ExprTree = λ b t. chain n R level line b t in
    let k : kind_on level (rank a) s.rest ≡ Some (kind_of m) = ap (kind_on level (rank a)) g.2 ∙ kind_next level (rank a) (kind_of m) low need in
    subst (λ o. Finds (chained R line a o s go) z r) (sym k)
    (if_finds_yes (nat_le (height a) R.limit) (bind (link R (kind_of m) (beyond s)) (λ y t. go (linked line a y) t)) None z r (known_le (height a) R.limit h)
    (read_finds (link R (kind_of m) (beyond s)) m q r (λ y t. go (linked line a y) t) z (link_found R e m q (beyond s) f i st (beyond_runs (Sign (sign_of_link (kind_of m))) (link_marks m q) s g)) (λ t y v.
    more n t v (link_shorter R e (kind_of m) (beyond s) m t y (omega (arith, w, ap (λ ts. length (tail ts)) g.2, ap length g.2))))))

-- where no link is next, the chain ends
pub chain_ended : (R : Readers) (level line : ℕ) (a : ExprTree) (n : ℕ) (r : List Mark) (s : State) → Stops (goes_on level) a r → RunsOn r s → length s.rest < n → Finds (chain n R level line a s) a r
unfolding chain
chain_ended R level line a zero r s st g w = absurd (omega arith)
chain_ended R level line a (suc n) r s st g w =
    subst (λ o. Finds (chained R line a o s (λ b t. chain n R level line b t)) a r) (sym (none_on level (rank a) r s.names s.rest (λ t e. or_first _ _ (st t e)) g)) (refl, g)
