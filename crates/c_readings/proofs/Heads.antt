-- Readers of what stands before the first operator are exact.
use Rattle.std.proofs.Common.{◌≡◌, ◌≤◌, ◌==◌, ◌&&◌, ◌↔◌, if◌then◌else◌, ℕ, suc, Bool, true, false, nat_le, ℤ, Option, Some, None, List, [], ◌∷◌, length, refl, sym, ap, subst, arith}
use Rattle.c_ast.specs.declared.class.IntKind.{IntKind}
use Rattle.c_ast.specs.declared.operator.PrefixOperator.{PrefixOperator}
use Rattle.c_ast.specs.declared.operator.PrefixOperator.TheVariants as prefix
use Rattle.c_ast.specs.Lexemes.{Lexeme, Name, Keyword, Integer, Character, Text, Sign, Placed}
use Rattle.c_ast.specs.InForce.{InForce, is_typedef}
use Rattle.c_ast.specs.Operators.{operand_level, prefix_sign}
use Rattle.c_ast.specs.Marks.{Mark, Tok, Plain, Here, Ask, IsSized, IsSpecifier, IsText, first_is, first_two, is_text, is_sign, is_specifier, lexemes}
use Rattle.c_ast.specs.ExprMarks as marks
use Rattle.c_ast.specs.Levels.{IsSome, Parts, FitsTypeName}
use Rattle.c_ast.specs.Heights.{height, type_name_height}
use Rattle.c_ast.specs.Reach.{behind, goes_on}
use Rattle.c_ast.specs.Trees.{ExprTree, Enclosed, Prefix, SizeofExpr, SizeofType, Cast, TypeNameTree, TypeNamed, Specified}
use Rattle.c_ast.specs.Trees as tree
use Rattle.c_readings.specs.Words.{prefix_of}
use Rattle.c_readings.specs.Reading.{State, Read, gives, bind, answer, ask, here, tail, beyond, on_first, with_first, one_sign}
use Rattle.c_readings.specs.Readers.{Readers, type_name, text_or, texts_on, prefixed_by, enclosed, cast, sized, signed_by, head_by, head}
use Rattle.c_readings.specs.Exact.{RunsOn, Finds, Ends, Stops, Exact, AreExact, FitsAt, nothing_more}
use Rattle.c_readings.proofs.Steps.{Yields, yields, bind_yields, if_yields, first_yields, sign_yields, Takes, past, sign_taken, taken_used, iff_same, iff_then, iff_path, here_iff, token_iff, plain_iff, asked_iff, bind_finds, if_finds_yes, if_finds_no, asked_yes, asked_no, first_finds, here_finds, sign_finds, beyond_runs, same_number}
use Rattle.c_readings.proofs.Operators.{operand_levels, prefix_known, stops_whole_at}
use Rattle.c_readings.proofs.Firsts.{no_type}
use Rattle.c_readings.proofs.Links.{by_one, ends_never, ends_like, le_known, known_le, Begun}

-- a type's name is read exactly
abbrev pub TypeNames : Readers → Type 0
TypeNames R = Exact marks.type_name FitsTypeName nothing_more type_name_height R.limit 1 (type_name R)

both_true : (a b : Bool) → (a && b) ≡ true → (a ≡ true) × (b ≡ true)
both_true true b h = (refl, h)
both_true false b h = absurd cc

-- ---- texts

-- so many texts stand there
abbrev Texts : InForce → List Placed → List (List ℕ) × List Placed → Type 0
Texts names ts p = ((r : List Mark) → RunsOn (marks.texts_then p.0 r) record { names = names; rest = ts } ↔ RunsOn r record { names = names; rest = p.1 }) × (length p.1 ≤ length ts)

no_text : (names : InForce) (ts : List Placed) → answer IsText record { names = names; rest = ts } ≡ false → Texts names ts ([], ts)
no_text names ts h = (λ r. asked_iff IsText false r record { names = names; rest = ts } h iff_same, omega arith)

text_or_read : (names : InForce) (l : Lexeme) (line : ℕ) (ts : List Placed) (more : List (List ℕ) × List Placed) → Texts names ts more → Texts names (record { lexeme = l; line = line } ∷ ts) (text_or l more (record { lexeme = l; line = line } ∷ ts))
text_or_read names (Text b) line ts more h = (λ r. token_iff (Text b) (marks.texts_then more.0 r) record { names = names; rest = record { lexeme = Text b; line = line } ∷ ts } ts (line, refl) (h.0 r), omega (arith, h.1))
text_or_read names (Name n) line ts more h = no_text names _ refl
text_or_read names (Keyword n) line ts more h = no_text names _ refl
text_or_read names (Integer v n) line ts more h = no_text names _ refl
text_or_read names (Character v) line ts more h = no_text names _ refl
text_or_read names (Sign n) line ts more h = no_text names _ refl

texts_read : (names : InForce) (ts : List Placed) → Texts names ts (texts_on ts)
unfolding texts_on
texts_read names [] = no_text names [] refl
texts_read names (t ∷ ts) = text_or_read names t.lexeme t.line ts (texts_on ts) (texts_read names ts)

-- ---- what is read is so

-- a first part whose first token is l
begun : (R : Readers) (level : ℕ) (s : State) (x : ExprTree) (l : Lexeme) (us : List Placed) (t : State) (m : List Mark → List Mark) → Takes s.rest l us → FitsAt level x → height x ≤ suc R.limit → Ends behind x t.rest → length t.rest ≤ length us → ((r : List Mark) → marks.expr x r ≡ Here (here s) ∷ Tok l ∷ m r) → ((r : List Mark) → RunsOn (m r) (past s us) ↔ RunsOn r t) → Begun R level s x t
begun R level s x l us t m k f h e u w g =
    let c = taken_used s.rest us l k in
    record {
      fits = f;
      low = h;
      ends = e;
      used = omega arith;
      runs = λ r. iff_then (iff_path _ _ s (w r)) (here_iff (Tok l ∷ m r) s (omega arith) (token_iff l (m r) s us k (g r)));
    }

sized_yields : (R : Readers) → AreExact R → TypeNames R → (level : ℕ) (s : State) (us : List Placed) → level ≤ 14 → Takes s.rest (Keyword 22) us → Yields (sized R (here s) (past s us)) (Begun R level s)
unfolding sized
sized_yields R e n level s us h k =
    if_yields (answer IsSized (past s us)) _ _ (Begun R level s)
    (λ a. let w = sign_taken 2 us (sized_sign s.names us a) in
    bind_yields (type_name R (beyond (past s us))) (λ x t. one_sign 3 t (λ u. gives (SizeofType (here s) x) u)) _ (Begun R level s) (yields (type_name R (beyond (past s us))) _ (n.piece (beyond (past s us)))) (λ x t p.
    sign_yields 3 t (λ u. gives (SizeofType (here s) x) u) (Begun R level s) (λ v.
    begun R level s (SizeofType (here s) x) (Keyword 22) us (beyond t) (λ r. Ask IsSized true ∷ Tok (Sign 2) ∷ marks.type_name x (Tok (Sign 3) ∷ r)) k (h, p.fits) (omega (arith, p.low)) (ends_never behind (SizeofType (here s) x) (tail t.rest) (λ l. refl))
    (omega (arith, p.used, taken_used us (tail us) (Sign 2) w, taken_used t.rest (tail t.rest) (Sign 3) v)) (λ r. refl)
    (λ r. asked_iff IsSized true (Tok (Sign 2) ∷ marks.type_name x (Tok (Sign 3) ∷ r)) (past s us) a (token_iff (Sign 2) (marks.type_name x (Tok (Sign 3) ∷ r)) (past s us) (tail us) w (iff_then (p.runs (Tok (Sign 3) ∷ r)) (token_iff (Sign 3) r t (tail t.rest) v iff_same)))))))
    (λ a. bind_yields (R.piece 14 (past s us)) (λ x t. gives (SizeofExpr (here s) x) t) _ (Begun R level s) (yields (R.piece 14 (past s us)) _ ((e.piece 14 (omega arith) (omega arith)).piece (past s us))) (λ x t p.
    begun R level s (SizeofExpr (here s) x) (Keyword 22) us t (λ r. Ask IsSized false ∷ marks.expr x r) k (h, p.fits) (omega (arith, p.low)) (ends_like (goes_on 14) x behind (SizeofExpr (here s) x) t.rest (λ l i. i) p.ends)
    (omega (arith, p.used)) (λ r. refl) (λ r. asked_iff IsSized false (marks.expr x r) (past s us) a (p.runs r))))
  where
    sized_sign : (names : InForce) (ts : List Placed) → first_two (is_sign 2) (is_specifier names false) (lexemes ts) ≡ true → first_is (is_sign 2) (lexemes ts) ≡ true
    sized_sign names [] i = i
    sized_sign names (t ∷ ts) i = (both_true _ _ i).0

enclosed_yields : (R : Readers) → AreExact R → (level : ℕ) (s : State) (us : List Placed) → level ≤ 15 → Takes s.rest (Sign 2) us → Yields (enclosed R (here s) (past s us)) (Begun R level s)
unfolding enclosed
enclosed_yields R e level s us h k =
    bind_yields (R.whole (past s us)) (λ x t. one_sign 3 t (λ u. gives (Enclosed (here s) x) u)) _ (Begun R level s) (yields (R.whole (past s us)) _ (e.whole.piece (past s us))) (λ x t p.
    sign_yields 3 t (λ u. gives (Enclosed (here s) x) u) (Begun R level s) (λ v.
    begun R level s (Enclosed (here s) x) (Sign 2) us (beyond t) (λ r. marks.expr x (Tok (Sign 3) ∷ r)) k (h, p.fits) (omega (arith, p.low)) (ends_never behind (Enclosed (here s) x) (tail t.rest) (λ l. refl))
    (omega (arith, p.used, taken_used t.rest (tail t.rest) (Sign 3) v)) (λ r. refl) (λ r. iff_then (p.runs (Tok (Sign 3) ∷ r)) (token_iff (Sign 3) r t (tail t.rest) v iff_same))))

cast_yields : (R : Readers) → AreExact R → TypeNames R → (level : ℕ) (s : State) (us : List Placed) → level ≤ 13 → Takes s.rest (Sign 2) us → Yields (cast R (here s) (past s us)) (Begun R level s)
unfolding cast
cast_yields R e n level s us h k =
    bind_yields (type_name R (past s us)) (λ x t. one_sign 3 t (λ u. bind (R.piece 13 u) (λ a v. gives (Cast (here s) x a) v))) _ (Begun R level s) (yields (type_name R (past s us)) _ (n.piece (past s us))) (λ x t p.
    sign_yields 3 t (λ u. bind (R.piece 13 u) (λ a v. gives (Cast (here s) x a) v)) (Begun R level s) (λ v.
    bind_yields (R.piece 13 (beyond t)) (λ a v. gives (Cast (here s) x a) v) _ (Begun R level s) (yields (R.piece 13 (beyond t)) _ ((e.piece 13 (omega arith) (omega arith)).piece (beyond t))) (λ a u q.
    begun R level s (Cast (here s) x a) (Sign 2) us u (λ r. marks.type_name x (Tok (Sign 3) ∷ marks.expr a r)) k (h, (p.fits, q.fits.0, q.fits.1)) (omega (arith, p.low, q.low)) (ends_like (goes_on 13) a behind (Cast (here s) x a) u.rest (λ l i. i) q.ends)
    (omega (arith, p.used, q.used, taken_used t.rest (tail t.rest) (Sign 3) v)) (λ r. refl) (λ r. iff_then (p.runs (Tok (Sign 3) ∷ marks.expr a r)) (token_iff (Sign 3) (marks.expr a r) t (tail t.rest) v (q.runs r))))))

prefix_is : (k : ℕ) (op : PrefixOperator) → prefix_of k ≡ Some op → k ≡ prefix_sign op
prefix_is k op h =
    by_one prefix_sign k 8 prefix.Increment op _ refl h (λ h1.
    by_one prefix_sign k 9 prefix.Decrement op _ refl h1 (λ h2.
    by_one prefix_sign k 10 prefix.Address op _ refl h2 (λ h3.
    by_one prefix_sign k 11 prefix.Indirect op _ refl h3 (λ h4.
    by_one prefix_sign k 12 prefix.Plus op _ refl h4 (λ h5.
    by_one prefix_sign k 13 prefix.Minus op _ refl h5 (λ h6.
    by_one prefix_sign k 14 prefix.Complement op _ refl h6 (λ h7.
    by_one prefix_sign k 15 prefix.Not op _ refl h7 (λ h8. absurd cc))))))))

prefixed_yields : (R : Readers) → AreExact R → (level k : ℕ) (s : State) (us : List Placed) → level ≤ 14 → Takes s.rest (Sign k) us → (o : Option PrefixOperator) → prefix_of k ≡ o → Yields (prefixed_by R (here s) o (past s us)) (Begun R level s)
prefixed_yields R e level k s us h w None i = tt
prefixed_yields R e level k s us h w (Some op) i =
    let d = operand_levels op in
    bind_yields (R.piece (operand_level op) (past s us)) (λ a t. gives (Prefix (here s) op a) t) _ (Begun R level s) (yields (R.piece (operand_level op) (past s us)) _ ((e.piece (operand_level op) (omega (arith, d.0)) (omega (arith, d.1))).piece (past s us))) (λ a t p.
    begun R level s (Prefix (here s) op a) (Sign (prefix_sign op)) us t (λ r. marks.expr a r) (subst (λ j. Takes s.rest (Sign j) us) (prefix_is k op i) w) (h, p.fits) (omega (arith, p.low)) (ends_like (goes_on (operand_level op)) a behind (Prefix (here s) op a) t.rest (λ l j. j) p.ends)
    (omega (arith, p.used)) (λ r. refl) p.runs)

signed_yields : (R : Readers) → AreExact R → TypeNames R → (level k : ℕ) (s : State) (us : List Placed) → level ≤ 15 → Takes s.rest (Sign k) us → Yields (signed_by R level (here s) k (past s us)) (Begun R level s)
signed_yields R e n level k s us h w =
    if_yields (k == 2) (ask (IsSpecifier false) (past s us) (if nat_le level 13 then cast R (here s) (past s us) else None) (enclosed R (here s) (past s us))) (if nat_le level 14 then prefixed_by R (here s) (prefix_of k) (past s us) else None) (Begun R level s)
    (λ a. let v = subst (λ j. Takes s.rest (Sign j) us) (same_number k 2 a) w in
    if_yields (answer (IsSpecifier false) (past s us)) (if nat_le level 13 then cast R (here s) (past s us) else None) (enclosed R (here s) (past s us)) (Begun R level s)
    (λ b. if_yields (nat_le level 13) (cast R (here s) (past s us)) None (Begun R level s) (λ c. cast_yields R e n level s us (le_known level 13 c) v) (λ c. tt))
    (λ b. enclosed_yields R e level s us h v))
    (λ a. if_yields (nat_le level 14) (prefixed_by R (here s) (prefix_of k) (past s us)) None (Begun R level s) (λ c. prefixed_yields R e level k s us (le_known level 14 c) w (prefix_of k) refl) (λ c. tt))

head_by_yields : (R : Readers) → AreExact R → TypeNames R → (level : ℕ) (s : State) → level ≤ 15 → (l : Lexeme) (us : List Placed) → Takes s.rest l us → Yields (head_by R level (here s) l (past s us)) (Begun R level s)
head_by_yields R e n level s h (Name v) us k = if_yields (is_typedef s.names v) None (gives (tree.Name (here s) v) (past s us)) (Begun R level s) (λ a. tt) (λ a. variable_is a)
  where
    variable_is : is_typedef s.names v ≡ false → Begun R level s (tree.Name (here s) v) (past s us)
    variable_is a =
        let c = taken_used s.rest us (Name v) k in
        record { fits = (h, tt); low = omega arith; ends = ends_never behind (tree.Name (here s) v) us (λ l. refl); used = omega arith; runs = λ r. here_iff (Plain v ∷ r) s (omega arith) (plain_iff v r s us a k iff_same) }
head_by_yields R e n level s h (Integer v i) us k = begun R level s (tree.Integer (here s) v i) (Integer v i) us (past s us) (λ r. r) k (h, tt) (omega arith) (ends_never behind (tree.Integer (here s) v i) us (λ l. refl)) (omega arith) (λ r. refl) (λ r. iff_same)
head_by_yields R e n level s h (Character v) us k = begun R level s (tree.Character (here s) v) (Character v) us (past s us) (λ r. r) k (h, tt) (omega arith) (ends_never behind (tree.Character (here s) v) us (λ l. refl)) (omega arith) (λ r. refl) (λ r. iff_same)
head_by_yields R e n level s h (Text b) us k =
    let w = texts_read s.names us in
    begun R level s (tree.Text (here s) (b ∷ (texts_on us).0)) (Text b) us record { names = s.names; rest = (texts_on us).1 } (λ r. marks.texts_then (texts_on us).0 r) k (h, tt) (omega arith) (ends_never behind (tree.Text (here s) (b ∷ (texts_on us).0)) (texts_on us).1 (λ l. refl)) w.1 (λ r. refl) w.0
head_by_yields R e n level s h (Keyword v) us k =
    if_yields (v == 22 && nat_le level 14) (sized R (here s) (past s us)) None (Begun R level s) (λ a.
    let d = both_true _ _ a in sized_yields R e n level s us (le_known level 14 d.1) (subst (λ j. Takes s.rest (Keyword j) us) (same_number v 22 d.0) k)) (λ a. tt)
head_by_yields R e n level s h (Sign v) us k = signed_yields R e n level v s us h k

pub head_yields : (R : Readers) → AreExact R → TypeNames R → (level : ℕ) (s : State) → level ≤ 15 → Yields (head R level s) (Begun R level s)
unfolding head
head_yields R e n level s h = first_yields s (head_by R level (here s)) (Begun R level s) (λ l us k. head_by_yields R e n level s h l us k)

-- ---- what stands there is read

plain_next_finds : {B : Type 0} (n : List ℕ) (m r : List Mark) (s : State) (f : Lexeme → State → Read B) (z : B) → RunsOn (Plain n ∷ m) s → ((us : List Placed) → RunsOn m (past s us) → Finds (f (Name n) (past s us)) z r) → Finds (with_first s f) z r
plain_next_finds n m r s f z h g = subst (λ ts. Finds (on_first ts s.names f) z r) (sym h.3) (g h.2 h.4)

pub variable_found : (R : Readers) (level l : ℕ) (n : List ℕ) (q : List Mark) (s : State) → RunsOn (marks.expr (tree.Name l n) q) s → Finds (head R level s) (tree.Name l n) q
unfolding head
variable_found R level l n q s h =
    here_finds l (Plain n ∷ q) q s (λ j. with_first s (head_by R level j)) (tree.Name l n) h (λ g.
    plain_next_finds n q q s (head_by R level l) (tree.Name l n) g (λ us i. if_finds_no (is_typedef s.names n) None (gives (tree.Name l n) (past s us)) (tree.Name l n) q g.0 (refl, i)))

-- a first part whose first token is t
token_found : (R : Readers) (level l : ℕ) (t : Lexeme) (m q : List Mark) (x : ExprTree) (s : State) → RunsOn (Here l ∷ Tok t ∷ m) s → ((u : State) → RunsOn m u → Finds (head_by R level l t u) x q) → Finds (head R level s) x q
unfolding head
token_found R level l t m q x s h g =
    here_finds l (Tok t ∷ m) q s (λ j. with_first s (head_by R level j)) x h (λ i.
    first_finds t m q s (head_by R level l) x i g)

pub integer_found : (R : Readers) (level l v : ℕ) (k : IntKind) (q : List Mark) (s : State) → RunsOn (marks.expr (tree.Integer l v k) q) s → Finds (head R level s) (tree.Integer l v k) q
integer_found R level l v k q s h = token_found R level l (Integer v k) q q (tree.Integer l v k) s h (λ u g. (refl, g))

pub character_found : (R : Readers) (level l : ℕ) (v : ℤ) (q : List Mark) (s : State) → RunsOn (marks.expr (tree.Character l v) q) s → Finds (head R level s) (tree.Character l v) q
character_found R level l v q s h = token_found R level l (Character v) q q (tree.Character l v) s h (λ u g. (refl, g))

not_text : (l : Lexeme) (more : List (List ℕ) × List Placed) (ts : List Placed) → is_text l ≡ false → text_or l more ts ≡ ([], ts)
not_text (Text b) more ts h = absurd cc
not_text (Name n) more ts h = refl
not_text (Keyword k) more ts h = refl
not_text (Integer v k) more ts h = refl
not_text (Character v) more ts h = refl
not_text (Sign k) more ts h = refl

texts_found : (bs : List (List ℕ)) (r : List Mark) (names : InForce) (ts : List Placed) → RunsOn (marks.texts_then bs r) record { names = names; rest = ts } → ((texts_on ts).0 ≡ bs) × RunsOn r record { names = names; rest = (texts_on ts).1 }
unfolding texts_on
texts_found [] r names [] h = (refl, h.1)
texts_found [] r names (t ∷ ts) h =
    let P : List (List ℕ) × List Placed → Type 0 = λ p. (p.0 ≡ []) × RunsOn r record { names = names; rest = p.1 } in
    subst P (sym (not_text t.lexeme (texts_on ts) (t ∷ ts) h.0)) (refl, h.1)
texts_found (b ∷ bs) r names ts h =
    let g = texts_found bs r names h.1 h.3 in
    let P : List Placed → Type 0 = λ us. ((texts_on us).0 ≡ b ∷ bs) × RunsOn r record { names = names; rest = (texts_on us).1 } in
    subst P (sym h.2) (ap (λ xs. b ∷ xs) g.0, g.1)

pub literal_found : (R : Readers) (level l : ℕ) (bs : List (List ℕ)) (q : List Mark) (s : State) → IsSome bs → RunsOn (marks.expr (tree.Text l bs) q) s → Finds (head R level s) (tree.Text l bs) q
literal_found R level l [] q s f h = absurd f
literal_found R level l (b ∷ bs) q s f h =
    token_found R level l (Text b) (marks.texts_then bs q) q (tree.Text l (b ∷ bs)) s h (λ u g.
    let w = texts_found bs q u.names u.rest g in (ap (λ xs. tree.Text l (b ∷ xs)) w.0, w.1))

pub enclosed_found : (R : Readers) → AreExact R → (level l : ℕ) (x : ExprTree) (q : List Mark) (s : State) → Parts x → height x ≤ R.limit → RunsOn (marks.expr (Enclosed l x) q) s → Finds (head R level s) (Enclosed l x) q
unfolding enclosed
enclosed_found R e level l x q s f w h =
    token_found R level l (Sign 2) (marks.expr x (Tok (Sign 3) ∷ q)) q (Enclosed l x) s h (λ u g.
    asked_no (IsSpecifier false) u _ _ (Enclosed l x) q (no_type x (Tok (Sign 3) ∷ q) u f g)
    (bind_finds (R.whole u) x (Tok (Sign 3) ∷ q) q (λ y t. one_sign 3 t (λ v. gives (Enclosed l y) v)) (Enclosed l x) (e.whole.found u x (Tok (Sign 3) ∷ q) f w (stops_whole_at x (Sign 3) q refl refl) g) (λ t k.
    sign_finds 3 q q t (λ v. gives (Enclosed l x) v) (Enclosed l x) k (λ v. (refl, v)))))

-- a type's name begins with a specifier
type_next : (x : TypeNameTree) (r : List Mark) (s : State) → RunsOn (marks.type_name x r) s → answer (IsSpecifier false) s ≡ true
type_next (TypeNamed l (Specified m ss) d) r s h = h.1.1.0

pub cast_found : (R : Readers) → AreExact R → TypeNames R → (level l : ℕ) (x : TypeNameTree) (a : ExprTree) (q : List Mark) (s : State) → level ≤ 13 → FitsTypeName x → type_name_height x ≤ R.limit → FitsAt 13 a → height a ≤ R.limit → Stops (goes_on 13) a q → RunsOn (marks.expr (Cast l x a) q) s → Finds (head R level s) (Cast l x a) q
unfolding cast
cast_found R e n level l x a q s o f w g z st h =
    token_found R level l (Sign 2) (marks.type_name x (Tok (Sign 3) ∷ marks.expr a q)) q (Cast l x a) s h (λ u k.
    asked_yes (IsSpecifier false) u _ _ (Cast l x a) q (type_next x (Tok (Sign 3) ∷ marks.expr a q) u k)
    (if_finds_yes (nat_le level 13) (cast R l u) None (Cast l x a) q (known_le level 13 o)
    (bind_finds (type_name R u) x (Tok (Sign 3) ∷ marks.expr a q) q (λ y t. one_sign 3 t (λ v. bind (R.piece 13 v) (λ b i. gives (Cast l y b) i))) (Cast l x a) (n.found u x (Tok (Sign 3) ∷ marks.expr a q) f w (λ c i. refl) k) (λ t m.
    sign_finds 3 (marks.expr a q) q t (λ v. bind (R.piece 13 v) (λ b i. gives (Cast l x b) i)) (Cast l x a) m (λ v.
    bind_finds (R.piece 13 (beyond t)) a q q (λ b i. gives (Cast l x b) i) (Cast l x a) ((e.piece 13 (omega arith) (omega arith)).found (beyond t) a q g z st v) (λ i j. (refl, j)))))))

pub sized_found : (R : Readers) → AreExact R → (level l : ℕ) (a : ExprTree) (q : List Mark) (s : State) → level ≤ 14 → FitsAt 14 a → height a ≤ R.limit → Stops (goes_on 14) a q → RunsOn (marks.expr (SizeofExpr l a) q) s → Finds (head R level s) (SizeofExpr l a) q
unfolding sized
sized_found R e level l a q s o f w st h =
    token_found R level l (Keyword 22) (Ask IsSized false ∷ marks.expr a q) q (SizeofExpr l a) s h (λ u g.
    if_finds_yes (nat_le level 14) (sized R l u) None (SizeofExpr l a) q (known_le level 14 o)
    (asked_no IsSized u _ _ (SizeofExpr l a) q g.0
    (bind_finds (R.piece 14 u) a q q (λ b t. gives (SizeofExpr l b) t) (SizeofExpr l a) ((e.piece 14 (omega arith) (omega arith)).found u a q f w st g.1) (λ t k. (refl, k)))))

pub sized_type_found : (R : Readers) → TypeNames R → (level l : ℕ) (x : TypeNameTree) (q : List Mark) (s : State) → level ≤ 14 → FitsTypeName x → type_name_height x ≤ R.limit → RunsOn (marks.expr (SizeofType l x) q) s → Finds (head R level s) (SizeofType l x) q
unfolding sized
sized_type_found R n level l x q s o f w h =
    token_found R level l (Keyword 22) (Ask IsSized true ∷ Tok (Sign 2) ∷ marks.type_name x (Tok (Sign 3) ∷ q)) q (SizeofType l x) s h (λ u g.
    if_finds_yes (nat_le level 14) (sized R l u) None (SizeofType l x) q (known_le level 14 o)
    (asked_yes IsSized u _ _ (SizeofType l x) q g.0
    (bind_finds (type_name R (beyond u)) x (Tok (Sign 3) ∷ q) q (λ y t. one_sign 3 t (λ v. gives (SizeofType l y) v)) (SizeofType l x) (n.found (beyond u) x (Tok (Sign 3) ∷ q) f w (λ c i. refl) (beyond_runs (Sign 2) (marks.type_name x (Tok (Sign 3) ∷ q)) u g.1)) (λ t k.
    sign_finds 3 q q t (λ v. gives (SizeofType l x) v) (SizeofType l x) k (λ v. (refl, v))))))

pub prefix_found : (R : Readers) → AreExact R → (level l : ℕ) (op : PrefixOperator) (a : ExprTree) (q : List Mark) (s : State) → level ≤ 14 → FitsAt (operand_level op) a → height a ≤ R.limit → Stops (goes_on (operand_level op)) a q → RunsOn (marks.expr (Prefix l op a) q) s → Finds (head R level s) (Prefix l op a) q
prefix_found R e level l op a q s o f w st h =
    let d = operand_levels op in let p = prefix_known op in
    token_found R level l (Sign (prefix_sign op)) (marks.expr a q) q (Prefix l op a) s h (λ u g.
    if_finds_no (prefix_sign op == 2) _ _ (Prefix l op a) q p.1
    (if_finds_yes (nat_le level 14) (prefixed_by R l (prefix_of (prefix_sign op)) u) None (Prefix l op a) q (known_le level 14 o)
    (subst (λ i. Finds (prefixed_by R l i u) (Prefix l op a) q) (sym p.0)
    (bind_finds (R.piece (operand_level op) u) a q q (λ b t. gives (Prefix l op b) t) (Prefix l op a) ((e.piece (operand_level op) (omega (arith, d.0)) (omega (arith, d.1))).found u a q f w st g) (λ t k. (refl, k))))))
