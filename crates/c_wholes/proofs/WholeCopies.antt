-- A whole tree has the copies of the tree that it was made of, where no symbol stands for a call.
use Rattle.std.proofs.Common.{◌≡◌, ℕ, List, [], ◌∷◌, ◌++◌, map, refl, sym, ap, append_assoc, ◌∙◌}
use Rattle.std.specs.Prelude.{Option, Some, None}
use Rattle.c_types.specs.CType.{CType}
use Rattle.c_meaning.specs.declared.core_expr.CoreKind.{CoreKind}
use Rattle.c_meaning.specs.declared.core_expr.CoreKind.TheVariants as kind
use Rattle.c_meaning.specs.Copies.{LocalAt, all_copied, copied, locals_from, maybe, expressions, all_expressions, own_copies, copies_in, copies_in_all, all_copies}
use Rattle.c_meaning.specs.CoreTrees.{Core, NoCore, Cores, type_of}
use Rattle.c_meaning.specs.StmtTrees.{FilledOf, StmtOf, Expression, Initialise, Block, If, While, Do, For, Switch, Label, Return, StmtsOf, NoStmt, Stmts}
use Rattle.c_meaning.specs.Values.{CoreTree, CoreTrees}
use Rattle.c_units.specs.Wholes.{whole_kind, whole, all_whole, some_whole, whole_places, whole_stmt, whole_stmts, copied_types}
use Rattle.c_standings.specs.declared.Standing.{Standing}
use Rattle.c_standings.specs.declared.Standing.TheVariants as standing
use Rattle.c_standings.specs.StandingLists.{kind_of, meant, of_symbol}

pub copies_append : (cs ds : List CoreTree) → all_copies (cs ++ ds) ≡ all_copies cs ++ all_copies ds
copies_append [] ds = refl
copies_append (c ∷ cs) ds = ap (λ ls. copies_in c ++ ls) (copies_append cs ds) ∙ sym (append_assoc (copies_in c) (all_copies cs) (all_copies ds))

module _ (standings : List (ℕ × Standing)) (texts : List (List ℕ)) where
  no_call : (s : Option Standing) (id : ℕ) (of : CType) (kids : CoreTrees) → own_copies (kind_of s id) of kids ≡ []
  no_call (Some (standing.Function n)) id of kids = refl
  no_call (Some (standing.Object n)) id of kids = refl
  no_call (Some (standing.BuiltIn b)) id of kids = refl
  no_call None id of kids = refl

  same_type : (c : CoreTree) → type_of (whole (meant standings) texts c) ≡ type_of c
  same_type (Core what of line kids) = refl

  same_copied : (cs : CoreTrees) → all_copied (all_whole (meant standings) texts cs) ≡ all_copied cs
  same_copied NoCore = refl
  same_copied (Cores c cs) = rw (same_type c, same_copied cs) refl

  same_own : (what : CoreKind) (of : CType) (kids : CoreTrees) → own_copies (whole_kind (meant standings) texts what) of (all_whole (meant standings) texts kids) ≡ own_copies what of kids
  same_own (kind.Symbol id) of kids = no_call (of_symbol standings id) id of _
  same_own (kind.Literal bytes) of kids = refl
  same_own (kind.Call n) of NoCore = refl
  same_own (kind.Call n) of (Cores f arguments) = ap (λ ts. locals_from n (ts ++ copied of)) (same_copied arguments)
  same_own what of kids = refl

  mutual
    same_copies : (c : CoreTree) → copies_in (whole (meant standings) texts c) ≡ copies_in c
    same_copies (Core what of line kids) = rw (same_own what of kids, all_same_copies kids) refl

    all_same_copies : (cs : CoreTrees) → copies_in_all (all_whole (meant standings) texts cs) ≡ copies_in_all cs
    all_same_copies NoCore = refl
    all_same_copies (Cores c cs) = rw (same_copies c, all_same_copies cs) refl

  some_copies : (e : Option CoreTree) → all_copies (maybe (some_whole (meant standings) texts e)) ≡ all_copies (maybe e)
  some_copies None = refl
  some_copies (Some c) = rw (same_copies c) refl

  places_copies : (ps : List (FilledOf CType)) → all_copies (map (λ (p : FilledOf CType). p.value) (whole_places (meant standings) texts ps)) ≡ all_copies (map (λ (p : FilledOf CType). p.value) ps)
  places_copies [] = refl
  places_copies (p ∷ ps) = rw (same_copies p.value, places_copies ps) refl

  both : (a b c d : List CoreTree) → all_copies a ≡ all_copies c → all_copies b ≡ all_copies d → all_copies (a ++ b) ≡ all_copies (c ++ d)
  both a b c d h k = copies_append a b ∙ ap (λ x. x ++ all_copies b) h ∙ ap (λ x. all_copies c ++ x) k ∙ sym (copies_append c d)

  mutual
    pub stmt_copies : (s : StmtOf CType) → all_copies (expressions (whole_stmt (meant standings) texts s)) ≡ all_copies (expressions s)
    stmt_copies (Expression e) = rw (same_copies e) refl
    stmt_copies (Initialise local zero ps) = places_copies ps
    stmt_copies (Block first locals ss) = stmts_copies ss
    stmt_copies (If e s u) = both (whole (meant standings) texts e ∷ []) (expressions (whole_stmt (meant standings) texts s) ++ expressions (whole_stmt (meant standings) texts u)) (e ∷ []) (expressions s ++ expressions u) (rw (same_copies e) refl) (both (expressions (whole_stmt (meant standings) texts s)) (expressions (whole_stmt (meant standings) texts u)) (expressions s) (expressions u) (stmt_copies s) (stmt_copies u))
    stmt_copies (While e s) = both (whole (meant standings) texts e ∷ []) (expressions (whole_stmt (meant standings) texts s)) (e ∷ []) (expressions s) (rw (same_copies e) refl) (stmt_copies s)
    stmt_copies (Do s e) = both (expressions (whole_stmt (meant standings) texts s)) (whole (meant standings) texts e ∷ []) (expressions s) (e ∷ []) (stmt_copies s) (rw (same_copies e) refl)
    stmt_copies (For a b c s) =
        both (maybe (some_whole (meant standings) texts a) ++ maybe (some_whole (meant standings) texts b) ++ maybe (some_whole (meant standings) texts c)) _ (maybe a ++ maybe b ++ maybe c) _
        (both (maybe (some_whole (meant standings) texts a) ++ maybe (some_whole (meant standings) texts b)) _ (maybe a ++ maybe b) _
        (both (maybe (some_whole (meant standings) texts a)) _ (maybe a) _ (some_copies a) (some_copies b)) (some_copies c))
        (stmt_copies s)
    stmt_copies (Switch e cases default s) = both (whole (meant standings) texts e ∷ []) (expressions (whole_stmt (meant standings) texts s)) (e ∷ []) (expressions s) (rw (same_copies e) refl) (stmt_copies s)
    stmt_copies (Label n s) = stmt_copies s
    stmt_copies (Return e) = some_copies e
    stmt_copies s = refl

    stmts_copies : (ss : StmtsOf CType) → all_copies (all_expressions (whole_stmts (meant standings) texts ss)) ≡ all_copies (all_expressions ss)
    stmts_copies NoStmt = refl
    stmts_copies (Stmts s ss) = both (expressions (whole_stmt (meant standings) texts s)) _ (expressions s) _ (stmt_copies s) (stmts_copies ss)

  pub same_copied_types : (s : StmtOf CType) → map (λ (l : LocalAt). l.of) (all_copies (expressions (whole_stmt (meant standings) texts s))) ≡ copied_types s
  same_copied_types s = ap (map (λ (l : LocalAt). l.of)) (stmt_copies s)
