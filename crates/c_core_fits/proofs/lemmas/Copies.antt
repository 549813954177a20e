-- The copies of structures that a function's calls pass and give stand one behind the other where its calls name them, in the order of
-- the text.
use Rattle.std.proofs.Common.{◌≡◌, ℕ, suc, ◌+◌, true, List, [], ◌∷◌, ◌++◌, length, map, refl, sym, ap, subst, ◌∙◌, arith}
use Rattle.std.specs.Prelude.{Option, Some, None}
use Rattle.std.proofs.lemmas.List.{append_assoc, length-append}
use Rattle.c_types.specs.CType.{CType}
use Rattle.c_meaning.specs.declared.core_expr.CoreKind.{CoreKind}
use Rattle.c_meaning.specs.declared.core_expr.CoreKind.TheVariants as kind
use Rattle.c_meaning.specs.Copies.{LocalAt, all_copied, all_copies, all_expressions, copied, copies_in, copies_in_all, expressions, locals_from, maybe, own_copies}
use Rattle.c_meaning.specs.CoreTrees.{Core, NoCore, Cores}
use Rattle.c_meaning.specs.StmtTrees.{FilledOf, StmtOf, Nothing, Expression, Initialise, Block, If, While, Do, For, Switch, Label, Goto, Break, Continue, Return, StmtsOf, NoStmt, Stmts}
use Rattle.c_meaning.specs.Values.{CoreTree, CoreTrees}
use Rattle.c_units.specs.Wholes.{all_placed, all_whole, copies, placed, placed_kind, placed_places, placed_stmt, placed_stmts, some_copies, some_placed, some_whole, stmt_copies, whole, whole_kind, whole_places, whole_stmt, whole_stmts}
use Rattle.c_fits.proofs.lemmas.Booleans.{never}
use Rattle.c_whole_fits.specs.There.{is_meaning}
use Rattle.c_whole_fits.proofs.lemmas.Placed.{placed_type}
use Rattle.c_whole_fits.proofs.lemmas.Wholes.{whole_type}

-- ---- locals one behind the other

abbrev pub types_at : List LocalAt → List CType
types_at = map (λ (l : LocalAt). l.of)

pub types_of_locals : (n : ℕ) (ts : List CType) → types_at (locals_from n ts) ≡ ts
types_of_locals n [] = refl
types_of_locals n (t ∷ ts) = ap (λ us. t ∷ us) (types_of_locals (n + 1) ts)

pub locals_count : (n : ℕ) (ts : List CType) → length (locals_from n ts) ≡ length ts
locals_count n [] = refl
locals_count n (t ∷ ts) = ap suc (locals_count (n + 1) ts)

from_join : (n : ℕ) (xs ys : List LocalAt) → locals_from n (types_at xs) ++ locals_from (n + length xs) (types_at ys) ≡ locals_from n (types_at (xs ++ ys))
from_join n [] ys = let e : n + 0 ≡ n = omega arith in ap (λ m. locals_from m (types_at ys)) e
from_join n (x ∷ xs) ys =
    let e : n + suc (length xs) ≡ (n + 1) + length xs = omega arith in
    ap (λ ls. record { place = n; of = x.of } ∷ ls) (ap (λ m. locals_from (n + 1) (types_at xs) ++ locals_from m (types_at ys)) e ∙ from_join (n + 1) xs ys)

-- ---- copies of an expression

copied_placed : (n : ℕ) (cs : CoreTrees) → all_copied (all_placed n cs) ≡ all_copied cs
copied_placed n NoCore = refl
copied_placed n (Cores c cs) = rw (placed_type n c, copied_placed (n + copies c) cs) refl

own_placed : (n m : ℕ) (what : CoreKind) (of : CType) (kids : CoreTrees) → own_copies (placed_kind n what) of (all_placed m kids) ≡ locals_from n (types_at (own_copies what of kids))
own_placed n m (kind.Call before) of NoCore = refl
own_placed n m (kind.Call before) of (Cores f cs) =
    ap (λ ts. locals_from n (ts ++ copied of)) (copied_placed (m + copies f) cs) ∙ ap (locals_from n) (sym (types_of_locals before (all_copied cs ++ copied of)))
own_placed n m what of kids = refl

-- behind those of other expressions
join : (n : ℕ) (xs ys xs' ys' : List LocalAt) → xs' ≡ locals_from n (types_at xs) → ys' ≡ locals_from (n + length xs) (types_at ys) → xs' ++ ys' ≡ locals_from n (types_at (xs ++ ys))
join n xs ys xs' ys' h k = rw (h, k) (from_join n xs ys)

mutual
  pub placed_copies : (n : ℕ) (c : CoreTree) → copies_in (placed n c) ≡ locals_from n (types_at (copies_in c))
  placed_copies n (Core what of line kids) =
      let m = n + length (own_copies what of kids) in
      join n (own_copies what of kids) (copies_in_all kids) (own_copies (placed_kind n what) of (all_placed m kids)) (copies_in_all (all_placed m kids)) (own_placed n m what of kids) (all_placed_copies m kids)

  all_placed_copies : (n : ℕ) (cs : CoreTrees) → copies_in_all (all_placed n cs) ≡ locals_from n (types_at (copies_in_all cs))
  all_placed_copies n NoCore = refl
  all_placed_copies n (Cores c cs) =
      join n (copies_in c) (copies_in_all cs) (copies_in (placed n c)) (copies_in_all (all_placed (n + copies c) cs)) (placed_copies n c) (all_placed_copies (n + copies c) cs)

-- ---- copies of a statement

pub copies_join : (cs ds : List CoreTree) → all_copies (cs ++ ds) ≡ all_copies cs ++ all_copies ds
copies_join [] ds = refl
copies_join (c ∷ cs) ds = rw (copies_join cs ds) (sym (append_assoc (copies_in c) (all_copies cs) (all_copies ds)))

-- copies of these expressions, placed from there on
abbrev AreFrom : ℕ → List CoreTree → List CoreTree → Type 0
AreFrom n cs ds = all_copies ds ≡ locals_from n (types_at (all_copies cs))

first_from : (n : ℕ) (c : CoreTree) (cs ds : List CoreTree) → AreFrom (n + copies c) cs ds → AreFrom n (c ∷ cs) (placed n c ∷ ds)
first_from n c cs ds h = join n (copies_in c) (all_copies cs) (copies_in (placed n c)) (all_copies ds) (placed_copies n c) h

both_from : (n : ℕ) (cs ds es fs : List CoreTree) → AreFrom n cs ds → AreFrom (n + length (all_copies cs)) es fs → AreFrom n (cs ++ es) (ds ++ fs)
both_from n cs ds es fs h k =
    copies_join ds fs ∙ join n (all_copies cs) (all_copies es) (all_copies ds) (all_copies fs) h k ∙ ap (λ ls. locals_from n (types_at ls)) (sym (copies_join cs es))

-- behind so many copies
behind_from : (n m : ℕ) (cs ds es fs : List CoreTree) → m ≡ n + length (all_copies cs) → AreFrom n cs ds → AreFrom m es fs → AreFrom n (cs ++ es) (ds ++ fs)
behind_from n m cs ds es fs e h k = both_from n cs ds es fs h (subst (λ m. AreFrom m es fs) e k)

-- how many expressions have together
counted : (n m k : ℕ) (cs ds : List CoreTree) → m ≡ n + length (all_copies cs) → k ≡ m + length (all_copies ds) → k ≡ n + length (all_copies (cs ++ ds))
counted n m k cs ds e g =
    let l : length (all_copies (cs ++ ds)) ≡ length (all_copies cs) + length (all_copies ds) = ap length (copies_join cs ds) ∙ length-append (all_copies cs) (all_copies ds) in
    omega (arith, e, g, l)

some_from : (n : ℕ) (c : Option CoreTree) → AreFrom n (maybe c) (maybe (some_placed n c))
some_from n (Some c) = first_from n c [] [] refl
some_from n None = refl

abbrev values_in : List (FilledOf CType) → List CoreTree
values_in = map (λ (p : FilledOf CType). p.value)

places_from : (n : ℕ) (ps : List (FilledOf CType)) → AreFrom n (values_in ps) (values_in (placed_places n ps))
places_from n [] = refl
places_from n (p ∷ ps) = first_from n p.value (values_in ps) (values_in (placed_places (n + copies p.value) ps)) (places_from (n + copies p.value) ps)

mutual
  pub stmt_from : (n : ℕ) (s : StmtOf CType) → AreFrom n (expressions s) (expressions (placed_stmt n s))
  stmt_from n Nothing = refl
  stmt_from n (Expression e) = first_from n e [] [] refl
  stmt_from n (Initialise local zero ps) = places_from n ps
  stmt_from n (Block first locals ss) = stmts_from n ss
  stmt_from n (If e s t) =
      let m = n + copies e in
      let k = m + stmt_copies s in
      first_from n e (expressions s ++ expressions t) (expressions (placed_stmt m s) ++ expressions (placed_stmt k t))
      (both_from m (expressions s) (expressions (placed_stmt m s)) (expressions t) (expressions (placed_stmt k t)) (stmt_from m s) (stmt_from k t))
  stmt_from n (While e s) = first_from n e (expressions s) (expressions (placed_stmt (n + copies e) s)) (stmt_from (n + copies e) s)
  stmt_from n (Do s e) =
      let m = n + stmt_copies s in
      both_from n (expressions s) (expressions (placed_stmt n s)) (e ∷ []) (placed m e ∷ []) (stmt_from n s) (first_from m e [] [] refl)
  stmt_from n (For a b c s) =
      let i = n + some_copies a in
      let j = i + some_copies b in
      let k = j + some_copies c in
      let x = maybe (some_placed n a) in
      let y = maybe (some_placed i b) in
      let z = maybe (some_placed j c) in
      let ab = both_from n (maybe a) x (maybe b) y (some_from n a) (some_from i b) in
      let to_b : j ≡ n + length (all_copies (maybe a ++ maybe b)) = counted n i j (maybe a) (maybe b) refl refl in
      let abc = behind_from n j (maybe a ++ maybe b) (x ++ y) (maybe c) z to_b ab (some_from j c) in
      behind_from n k (maybe a ++ maybe b ++ maybe c) (x ++ y ++ z) (expressions s) (expressions (placed_stmt k s)) (counted n j k (maybe a ++ maybe b) (maybe c) to_b refl) abc (stmt_from k s)
  stmt_from n (Switch e cases default s) = first_from n e (expressions s) (expressions (placed_stmt (n + copies e) s)) (stmt_from (n + copies e) s)
  stmt_from n (Label l s) = stmt_from n s
  stmt_from n (Goto l) = refl
  stmt_from n Break = refl
  stmt_from n Continue = refl
  stmt_from n (Return e) = some_from n e

  stmts_from : (n : ℕ) (ss : StmtsOf CType) → AreFrom n (all_expressions ss) (all_expressions (placed_stmts n ss))
  stmts_from n NoStmt = refl
  stmts_from n (Stmts s ss) =
      let m = n + stmt_copies s in
      both_from n (expressions s) (expressions (placed_stmt n s)) (all_expressions ss) (all_expressions (placed_stmts m ss)) (stmt_from n s) (stmts_from m ss)

-- ---- made whole, a statement has the same copies

abbrev AreSame : List CoreTree → List CoreTree → Type 0
AreSame cs ds = all_copies ds ≡ all_copies cs

module _ (meant : ℕ → CoreKind) (texts : List (List ℕ)) (m : (id : ℕ) → is_meaning (meant id) ≡ true) where
  copied_whole : (cs : CoreTrees) → all_copied (all_whole meant texts cs) ≡ all_copied cs
  copied_whole NoCore = refl
  copied_whole (Cores c cs) = rw (whole_type meant texts c, copied_whole cs) refl

  meaning_own : (what : CoreKind) (of : CType) (kids : CoreTrees) → is_meaning what ≡ true → own_copies what of kids ≡ []
  meaning_own (kind.Call before) of kids h = never (sym h)
  meaning_own what of kids h = refl

  own_whole : (what : CoreKind) (of : CType) (kids : CoreTrees) → own_copies (whole_kind meant texts what) of (all_whole meant texts kids) ≡ own_copies what of kids
  own_whole (kind.Call before) of NoCore = refl
  own_whole (kind.Call before) of (Cores f cs) = ap (λ ts. locals_from before (ts ++ copied of)) (copied_whole cs)
  own_whole (kind.Symbol id) of kids = meaning_own (meant id) of (all_whole meant texts kids) (m id)
  own_whole what of kids = refl

  mutual
    whole_copies : (c : CoreTree) → copies_in (whole meant texts c) ≡ copies_in c
    whole_copies (Core what of line kids) = rw (own_whole what of kids, all_whole_copies kids) refl

    all_whole_copies : (cs : CoreTrees) → copies_in_all (all_whole meant texts cs) ≡ copies_in_all cs
    all_whole_copies NoCore = refl
    all_whole_copies (Cores c cs) = rw (whole_copies c, all_whole_copies cs) refl

  first_same : (c : CoreTree) (cs ds : List CoreTree) → AreSame cs ds → AreSame (c ∷ cs) (whole meant texts c ∷ ds)
  first_same c cs ds h = rw (whole_copies c, h) refl

  both_same : (cs ds es fs : List CoreTree) → AreSame cs ds → AreSame es fs → AreSame (cs ++ es) (ds ++ fs)
  both_same cs ds es fs h k = rw (copies_join ds fs, copies_join cs es, h, k) refl

  some_same : (c : Option CoreTree) → AreSame (maybe c) (maybe (some_whole meant texts c))
  some_same (Some c) = first_same c [] [] refl
  some_same None = refl

  places_same : (ps : List (FilledOf CType)) → AreSame (values_in ps) (values_in (whole_places meant texts ps))
  places_same [] = refl
  places_same (p ∷ ps) = first_same p.value (values_in ps) (values_in (whole_places meant texts ps)) (places_same ps)

  mutual
    pub stmt_same : (s : StmtOf CType) → AreSame (expressions s) (expressions (whole_stmt meant texts s))
    stmt_same Nothing = refl
    stmt_same (Expression e) = first_same e [] [] refl
    stmt_same (Initialise local zero ps) = places_same ps
    stmt_same (Block first locals ss) = stmts_same ss
    stmt_same (If e s t) =
        first_same e (expressions s ++ expressions t) (expressions (whole_stmt meant texts s) ++ expressions (whole_stmt meant texts t))
        (both_same (expressions s) (expressions (whole_stmt meant texts s)) (expressions t) (expressions (whole_stmt meant texts t)) (stmt_same s) (stmt_same t))
    stmt_same (While e s) = first_same e (expressions s) (expressions (whole_stmt meant texts s)) (stmt_same s)
    stmt_same (Do s e) = both_same (expressions s) (expressions (whole_stmt meant texts s)) (e ∷ []) (whole meant texts e ∷ []) (stmt_same s) (first_same e [] [] refl)
    stmt_same (For a b c s) =
        let x = expressions (whole_stmt meant texts s) in
        let y = maybe (some_whole meant texts c) in
        let z = maybe (some_whole meant texts b) in
        let w = maybe (some_whole meant texts a) in
        both_same (maybe a ++ maybe b ++ maybe c) (w ++ z ++ y) (expressions s) x
        (both_same (maybe a ++ maybe b) (w ++ z) (maybe c) y (both_same (maybe a) w (maybe b) z (some_same a) (some_same b)) (some_same c)) (stmt_same s)
    stmt_same (Switch e cases default s) = first_same e (expressions s) (expressions (whole_stmt meant texts s)) (stmt_same s)
    stmt_same (Label l s) = stmt_same s
    stmt_same (Goto l) = refl
    stmt_same Break = refl
    stmt_same Continue = refl
    stmt_same (Return e) = some_same e

    stmts_same : (ss : StmtsOf CType) → AreSame (all_expressions ss) (all_expressions (whole_stmts meant texts ss))
    stmts_same NoStmt = refl
    stmts_same (Stmts s ss) = both_same (expressions s) (expressions (whole_stmt meant texts s)) (all_expressions ss) (all_expressions (whole_stmts meant texts ss)) (stmt_same s) (stmts_same ss)

  -- so the copies of a statement that is made whole and whose calls name theirs from a place on
  pub whole_from : (n : ℕ) (s : StmtOf CType) → all_copies (expressions (placed_stmt n (whole_stmt meant texts s))) ≡ locals_from n (types_at (all_copies (expressions s)))
  whole_from n s = stmt_from n (whole_stmt meant texts s) ∙ ap (λ ls. locals_from n (types_at ls)) (stmt_same s)
