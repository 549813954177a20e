-- Places for copies in trees, part by part.
use Rattle.std.proofs.Common.{◌≡◌, ◌<◌, ℕ, ◌+◌, suc, Bool, List, [], ◌∷◌, ◌++◌, length, map, refl, sym, ap, ◌∙◌, subst, append_assoc, append-nil, length-append, arith}
use Rattle.std.proofs.lemmas.List.{map-append}
use Rattle.std.specs.Prelude.{true, if◌then◌else◌}
use Rattle.c_types.specs.CType.{CType, unqualified}
use Rattle.c_meaning.specs.Types.{is_record}
use Rattle.c_types.specs.Table.{Table, type_at, AreBelow}
use Rattle.c_meaning.specs.declared.core_expr.CoreKind.{CoreKind}
use Rattle.c_meaning.specs.declared.core_expr.CoreKind.TheVariants as kind
use Rattle.c_meaning.specs.Copies.{LocalAt, all_copied, copied, locals_from, own_copies, copies_in, copies_in_all}
use Rattle.c_meaning.specs.CoreTrees.{CoreOf, Core, CoresOf, NoCore, Cores, IsIn, AreIn, seen, all_seen, cores_of}
use Rattle.c_meaning.specs.Values.{CoreTree, CoreTrees}
use Rattle.c_units.specs.Wholes.{placed_kind, placed, all_placed}
use Rattle.c_wholes.specs.Placing.{HasTypes, Grows, IsPlaced, ArePlaced, call_types}

-- ---- locals

pub length_of_map : {A B : Type 0} (f : A → B) (xs : List A) → length (map f xs) ≡ length xs
length_of_map f [] = refl
length_of_map f (x ∷ xs) = ap suc (length_of_map f xs)

-- how many locals there are then
pub count : (t : Table) (ls : List LocalAt) (a b : List ℕ) → Grows t ls a b → length b ≡ length a + length ls
count t ls a b g =
    sym (length_of_map (type_at t) b) ∙ ap length g.types ∙ length-append (map (type_at t) a) (map (λ (l : LocalAt). l.of) ls)
    ∙ (λ i. length_of_map (type_at t) a i + length_of_map (λ (l : LocalAt). l.of) ls i)

pub then_types : (t : Table) (us vs : List CType) (a b c : List ℕ) → HasTypes t us a b → HasTypes t vs b c → HasTypes t (us ++ vs) a c
then_types t us vs a b c g h =
    record {
      types = h.types ∙ ap (λ x. x ++ vs) g.types ∙ append_assoc (map (type_at t) a) us vs;
      within = h.within;
    }

pub then_grows : (t : Table) (ks ls : List LocalAt) (a b c : List ℕ) → Grows t ks a b → Grows t ls b c → Grows t (ks ++ ls) a c
then_grows t ks ls a b c g h = subst (λ us. HasTypes t us a c) (sym (map-append (λ (l : LocalAt). l.of) ks ls)) (then_types t _ _ a b c g h)

pub same_grows : (t : Table) (ks ls : List LocalAt) (a b : List ℕ) → ks ≡ ls → Grows t ks a b → Grows t ls a b
same_grows t ks ls a b e g = subst (λ xs. Grows t xs a b) e g

pub below_push : (n : ℕ) (xs : List ℕ) (x : ℕ) → AreBelow n xs → x < n → AreBelow n (xs ++ x ∷ [])
below_push n [] x h i = (i, tt)
below_push n (y ∷ ys) x h i = (h.0, below_push n ys x h.1 i)

pub push_type : (t : Table) (a b : List ℕ) (id : ℕ) (u : CType) → AreBelow (length t.forms) a → id < length t.forms → type_at t id ≡ u → b ≡ a ++ id ∷ [] → HasTypes t (u ∷ []) a b
push_type t a b id u h i e f =
    record {
      types = ap (map (type_at t)) f ∙ map-append (type_at t) a (id ∷ []) ∙ ap (λ v. map (type_at t) a ++ v ∷ []) e;
      within = subst (AreBelow (length t.forms)) (sym f) (below_push _ a id h i);
    }

pub one_copy : (t : Table) (a b : List ℕ) (of : CType) → is_record of ≡ true → HasTypes t (unqualified of ∷ []) a b → HasTypes t (copied of) a b
one_copy t a b of r h = subst (λ (r : Bool). HasTypes t (if r then unqualified of ∷ [] else []) a b) (sym r) h

types_from : (n : ℕ) (us : List CType) → map (λ (l : LocalAt). l.of) (locals_from n us) ≡ us
types_from n [] = refl
types_from n (u ∷ us) = ap (λ vs. u ∷ vs) (types_from (n + 1) us)

-- a call's own copies have the types of its arguments and its result
pub call_copies : (n : ℕ) (of : CType) (kids : CoreTrees) → map (λ (l : LocalAt). l.of) (own_copies (kind.Call n) of kids) ≡ call_types of kids
call_copies n of NoCore = refl
call_copies n of (Cores f arguments) = types_from n (all_copied arguments ++ copied of)

pub grows_by_call : (t : Table) (n : ℕ) (of : CType) (kids : CoreTrees) (a b : List ℕ) → HasTypes t (call_types of kids) a b → Grows t (own_copies (kind.Call n) of kids) a b
grows_by_call t n of kids a b h = subst (λ us. HasTypes t us a b) (sym (call_copies n of kids)) h

-- ---- expressions

-- the whole of its own copies and its parts
pub placed_from : (t : Table) (a b c : List ℕ) (what now : CoreKind) (of line : ℕ) (kids : List (CoreOf ℕ)) (ds : List (CoreOf ℕ)) → of < length t.forms
    → now ≡ placed_kind (length a) what
    → Grows t (own_copies what (type_at t of) (all_seen (type_at t) (cores_of kids))) a b
    → ArePlaced t b c (all_seen (type_at t) (cores_of kids)) ds
    → IsPlaced t a c (seen (type_at t) (Core what of line (cores_of kids))) (Core now of line (cores_of ds))
placed_from t a b c what now of line kids ds i k g p =
    record {
      means = (λ j. Core (k j) (type_at t of) line (p.means j)) ∙ ap (λ n. Core (placed_kind (length a) what) (type_at t of) line (all_placed n (all_seen (type_at t) (cores_of kids)))) (count t _ a b g);
      grows = then_grows t _ _ a b c g p.grows;
      is_in = (i, p.is_in);
    }

abbrev cores_join : {T : Type 0} → CoresOf T → CoresOf T → CoresOf T
cores_join NoCore ds = ds
cores_join (Cores c cs) ds = Cores c (cores_join cs ds)

-- one more behind the others
seen_push : {T U : Type 0} (f : T → U) (cs : List (CoreOf T)) (c : CoreOf T) → all_seen f (cores_of (cs ++ c ∷ [])) ≡ cores_join (all_seen f (cores_of cs)) (Cores (seen f c) NoCore)
seen_push f [] c = refl
seen_push f (d ∷ ds) c = ap (Cores (seen f d)) (seen_push f ds c)

placed_push : (n : ℕ) (cs : CoreTrees) (c : CoreTree) → all_placed n (cores_join cs (Cores c NoCore)) ≡ cores_join (all_placed n cs) (Cores (placed (n + length (copies_in_all cs)) c) NoCore)
placed_push n NoCore c = ap (λ m. Cores (placed m c) NoCore) (let e : n ≡ n + 0 = omega arith in e)
placed_push n (Cores d ds) c =
    ap (Cores (placed n d)) (placed_push (n + length (copies_in d)) ds c
    ∙ ap (λ m. cores_join (all_placed (n + length (copies_in d)) ds) (Cores (placed m c) NoCore)) (lengths d ds))
  where
    lengths : (d : CoreTree) (ds : CoreTrees) → (n + length (copies_in d)) + length (copies_in_all ds) ≡ n + length (copies_in d ++ copies_in_all ds)
    lengths d ds = omega (arith, length-append (copies_in d) (copies_in_all ds))

copies_push : (cs : CoreTrees) (c : CoreTree) → copies_in_all (cores_join cs (Cores c NoCore)) ≡ copies_in_all cs ++ copies_in c
copies_push NoCore c = append-nil (copies_in c)
copies_push (Cores d ds) c = ap (λ ls. copies_in d ++ ls) (copies_push ds c) ∙ sym (append_assoc (copies_in d) (copies_in_all ds) (copies_in c))

in_push : (n : ℕ) (cs : List (CoreOf ℕ)) (c : CoreOf ℕ) → AreIn n (cores_of cs) → IsIn n c → AreIn n (cores_of (cs ++ c ∷ []))
in_push n [] c h i = (i, tt)
in_push n (d ∷ ds) c h i = (h.0, in_push n ds c h.1 i)

pub one_more_placed : (t : Table) (a b c : List ℕ) (xs ds : List (CoreOf ℕ)) (x d : CoreOf ℕ)
    → ArePlaced t a b (all_seen (type_at t) (cores_of xs)) ds → IsPlaced t b c (seen (type_at t) x) d
    → ArePlaced t a c (all_seen (type_at t) (cores_of (xs ++ x ∷ []))) (ds ++ d ∷ [])
one_more_placed t a b c xs ds x d p q =
    let f = type_at t in
    let cs = all_seen f (cores_of xs) in
    record {
      means =
          seen_push f ds d ∙ (λ j. cores_join (p.means j) (Cores (q.means j) NoCore))
          ∙ ap (λ m. cores_join (all_placed (length a) cs) (Cores (placed m (seen f x)) NoCore)) (count t _ a b p.grows)
          ∙ sym (placed_push (length a) cs (seen f x)) ∙ ap (all_placed (length a)) (sym (seen_push f xs x));
      grows = same_grows t _ _ a c (sym (ap copies_in_all (seen_push f xs x) ∙ copies_push cs (seen f x))) (then_grows t _ _ a b c p.grows q.grows);
      is_in = in_push _ ds d p.is_in q.is_in;
    }

-- ---- as many expressions as before

abbrev many : {T : Type 0} → CoresOf T → ℕ
many NoCore = 0
many (Cores c cs) = suc (many cs)

many_of : {T : Type 0} (cs : List (CoreOf T)) → many (cores_of cs) ≡ length cs
many_of [] = refl
many_of (c ∷ cs) = ap suc (many_of cs)

many_seen : {T U : Type 0} (f : T → U) (cs : CoresOf T) → many (all_seen f cs) ≡ many cs
many_seen f NoCore = refl
many_seen f (Cores c cs) = ap suc (many_seen f cs)

many_placed : (n : ℕ) (cs : CoreTrees) → many (all_placed n cs) ≡ many cs
many_placed n NoCore = refl
many_placed n (Cores c cs) = ap suc (many_placed (n + length (copies_in c)) cs)

pub as_many : (t : Table) (a b : List ℕ) (cs ds : List (CoreOf ℕ)) → ArePlaced t a b (all_seen (type_at t) (cores_of cs)) ds → length ds ≡ length cs
as_many t a b cs ds p =
    let f = type_at t in
    sym (many_seen f (cores_of ds) ∙ many_of ds) ∙ ap many p.means ∙ many_placed (length a) (all_seen f (cores_of cs)) ∙ many_seen f (cores_of cs) ∙ many_of cs
