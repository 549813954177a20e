-- Blocks that are asked for nodes stay blocks, and the answers are those of a block.
use Rattle.std.specs.Prelude.{◌≡◌, ◌<◌, ◌≤◌, ℕ, suc, Option, Some, None, List, [], ◌∷◌, ◌++◌, length, slice_get}
use Rattle.std.proofs.Common.{⊎_elim, refl, ap, sym, ◌∙◌, subst, arith, length-append}
use Rattle.op_forest.specs.Nodes.{Head}
use Rattle.dag_forest.specs.declared.entry.Entry.{Entry}
use Rattle.dag_forest.specs.declared.entry.Entry.TheVariants as entry
use Rattle.dag_forest.specs.declared.key.Key.{Key}
use Rattle.dag_forest.specs.declared.kids.Kids.TheVariants as kids
use Rattle.dag_forest.specs.declared.parts.Parts.{Parts}
use Rattle.dag_forest.specs.Entries.{AreBelow}
use Rattle.dag_forest.specs.Tally.{keys_of, key_behind, AreDistinct, IsFresh, node_count}
use Rattle.dag_seam.proofs.lemmas.Keys.{keys_value, keys_root, last_get, count_keys, within}
use Rattle.dag_seam.proofs.lemmas.Growing.{formed_goes_on, new_is_last}
use Rattle.c_rows_agree.specs.Templates.{Template, Given, Leaf, One, Two, Root}
use Rattle.lowered_forms.specs.Asked.{Asked, key_place, found_or_new, asked_parts, with_kids, asked, rooted, rooted_one}
use Rattle.lowered_forms.specs.Blocks.{IsBlock, IsWithin, IsThere, IsAnswer}
use Rattle.lowered_forms.proofs.lemmas.KeyPlaces.{found_there, missing_is_fresh}

-- ---- one node

distinct_with : (ks : List Key) (k : Key) → AreDistinct ks → IsFresh ks k → AreDistinct (ks ++ k ∷ [])
distinct_with ks k d f i j x a b =
    ⊎_elim
    (λ p. ⊎_elim (λ q. d i j x p q) (λ q. absurd (f i (subst (λ y. slice_get ks i ≡ Some y) (sym q.1) p))) (last_get ks k j x b))
    (λ p. ⊎_elim (λ q. absurd (f j (subst (λ y. slice_get ks j ≡ Some y) (sym p.1) q))) (λ q. p.0 ∙ sym q.0) (last_get ks k j x b))
    (last_get ks k i x a)

count_value : (es : List Entry) (x : Parts) → node_count (es ++ entry.Value x ∷ []) ≡ suc (node_count es)
count_value es x =
    let e = sym (count_keys (es ++ entry.Value x ∷ [])) ∙ ap length (keys_value es x) ∙ length-append (keys_of es) (key_behind es x ∷ []) in
    let f = count_keys es in
    omega (arith, e, f)

count_root : (es : List Entry) (x : Parts) → node_count (es ++ entry.Root x ∷ []) ≡ node_count es
count_root es x = sym (count_keys (es ++ entry.Root x ∷ [])) ∙ ap length (keys_root es x) ∙ count_keys es

there_by : (o : Option ℕ) (x : Parts) (es : List Entry) → key_place (key_behind es x) (keys_of es) 0 ≡ o → IsBlock es → AreBelow (node_count es) x.kids → IsThere es (found_or_new o x es)
there_by (Some m) x es e b h =
    record { block = b; below = (let f = within (keys_of es) m (key_behind es x) (found_there (key_behind es x) (keys_of es) m e) in let g = count_keys es in omega (arith, f, g)); others = omega arith }
there_by None x es e b h =
    record {
      block = record {
        formed = (formed_goes_on es b.formed x h).0;
        distinct = subst AreDistinct (sym (keys_value es x)) (distinct_with (keys_of es) (key_behind es x) b.distinct (missing_is_fresh (key_behind es x) (keys_of es) e));
      };
      below = (let f = count_value es x in let g = count_keys es in omega (arith, f, g));
      others = (let f = count_value es x in omega (arith, f));
    }

pub parts_there : (x : Parts) (es : List Entry) → IsBlock es → AreBelow (node_count es) x.kids → IsThere es (asked_parts x es)
parts_there x es b h = there_by (key_place (key_behind es x) (keys_of es) 0) x es refl b h

-- ---- templates

-- nodes stay
pub within_more : (m n : ℕ) (t : Template) → m ≤ n → IsWithin m t → IsWithin n t
within_more m n (Given k) h f = omega (arith, h, f)
within_more m n (Leaf x) h f = tt
within_more m n (One x a) h f = within_more m n a h f
within_more m n (Two x a b) h f = (within_more m n a h f.0, within_more m n b h f.1)

there_then : (es fs : List Entry) (a : Asked) → node_count es ≤ node_count fs → IsThere fs a → IsThere es a
there_then es fs a h t = record { block = t.block; below = t.below; others = (let f = t.others in omega (arith, h, f)) }

pub asked_there : (t : Template) (es : List Entry) → IsBlock es → IsWithin (node_count es) t → IsThere es (asked t es)
asked_there (Given n) es b h = record { block = b; below = h; others = omega arith }
asked_there (Leaf x) es b h = parts_there (with_kids x kids.Zero) es b tt
asked_there (One x a) es b h =
    let p = asked_there a es b h in
    there_then es (asked a es).entries _ p.others (parts_there (with_kids x (kids.One (asked a es).node)) (asked a es).entries p.block p.below)
asked_there (Two x a c) es b h =
    let p = asked_there a es b h.0 in
    let fs = (asked a es).entries in
    let q = asked_there c fs p.block (within_more (node_count es) (node_count fs) c p.others h.1) in
    let gs = (asked c fs).entries in
    let first : (asked a es).node < node_count gs = (let f = p.below in let g = q.others in omega (arith, f, g)) in
    there_then es gs _ (let f = p.others in let g = q.others in omega (arith, f, g)) (parts_there (with_kids x (kids.Two (asked a es).node (asked c fs).node)) gs q.block (first, q.below))

root_block : (x : Parts) (es : List Entry) → IsBlock es → AreBelow (node_count es) x.kids → IsBlock (es ++ entry.Root x ∷ []) × (node_count es ≤ node_count (es ++ entry.Root x ∷ []))
root_block x es b h =
    (record { formed = (formed_goes_on es b.formed x h).1; distinct = subst AreDistinct (sym (keys_root es x)) b.distinct }, (let f = count_root es x in omega (arith, f)))

pub rooted_one_there : (h : Head) (t : Template) (es : List Entry) → IsBlock es → IsWithin (node_count es) t → IsBlock (rooted_one h t es) × (node_count es ≤ node_count (rooted_one h t es))
rooted_one_there h t es b f =
    let p = asked_there t es b f in
    let q = root_block (with_kids h (kids.One (asked t es).node)) (asked t es).entries p.block p.below in
    (q.0, (let x = p.others in let y = q.1 in omega (arith, x, y)))

pub rooted_there : (r : Root) (es : List Entry) → IsBlock es → IsWithin (node_count es) r.left → IsWithin (node_count es) r.right → IsBlock (rooted r es) × (node_count es ≤ node_count (rooted r es))
rooted_there r es b f g =
    let p = asked_there r.left es b f in
    let fs = (asked r.left es).entries in
    let q = asked_there r.right fs p.block (within_more (node_count es) (node_count fs) r.right p.others g) in
    let gs = (asked r.right fs).entries in
    let first : (asked r.left es).node < node_count gs = (let x = p.below in let y = q.others in omega (arith, x, y)) in
    let o = root_block (with_kids r.head (kids.Two (asked r.left es).node (asked r.right fs).node)) gs q.block (first, q.below) in
    (o.0, (let x = p.others in let y = q.others in let z = o.1 in omega (arith, x, y, z)))

-- ---- a block's answers

abbrev asked_of : ℕ → List Entry → Asked
asked_of n es = record { node = n; entries = es }

asked_record : (n m : ℕ) (new es : List Entry) → n ≡ m → new ≡ es → asked_of m es ≡ asked_of n new
asked_record n m new es e f = λ i. asked_of (sym e i) (sym f i)

answer_by : (o : Option ℕ) (es new : List Entry) (x : Parts) (n : ℕ) → key_place (key_behind es x) (keys_of es) 0 ≡ o → IsAnswer es x n new → found_or_new o x es ≡ record { node = n; entries = new }
answer_by (Some m) es new x n e a =
    let r = a.again m (found_there (key_behind es x) (keys_of es) m e) in
    asked_record n m new es r.0 r.1
answer_by None es new x n e a =
    ⊎_elim
    (λ p. absurd (missing_is_fresh (key_behind es x) (keys_of es) e n (subst (λ fs. slice_get (keys_of fs) n ≡ Some (key_behind es x)) p a.node)))
    (λ p.
    let last = new_is_last es x n (subst (λ fs. AreDistinct (keys_of fs)) p a.distinct) (subst (λ fs. slice_get (keys_of fs) n ≡ Some (key_behind es x)) p a.node) in
    asked_record n (length (keys_of es)) new (es ++ entry.Value x ∷ []) (last ∙ sym (count_keys es)) p)
    a.added

pub answers_are_asked : (es new : List Entry) (x : Parts) (n : ℕ) → IsAnswer es x n new → asked_parts x es ≡ record { node = n; entries = new }
answers_are_asked es new x n a = answer_by (key_place (key_behind es x) (keys_of es) 0) es new x n refl a
