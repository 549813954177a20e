-- The unit's objects live in each world that stands for one of C.
use Rattle.std.specs.Prelude.{◌≡◌, ◌≤◌, ◌<◌, ◌⊎◌, ℕ, zero, suc, ◌+◌, Option, Some, List, [], ◌∷◌, ◌++◌, length, slice_get}
use Rattle.std.proofs.Common.{⊎_elim, refl, sym, ap, subst, ◌∙◌, arith}
use Rattle.std.proofs.lemmas.Bool.{cases_lt}
use Rattle.std.proofs.lemmas.Option.{slice_get_within}
use Rattle.op_forest.specs.declared.lowered.LoweredObject.{LoweredObject}
use Rattle.op_forest.specs.Lowered.{LoweredUnit}
use Rattle.forests.specs.Worlds.{World}
use Rattle.c_types.specs.Layout.{Tag}
use Rattle.c_meaning.specs.Units.{ObjectTree, UnitTree}
use Rattle.c_runs.specs.Places.{size_of}
use Rattle.c_runs.specs.Soundness.{Outline, outline, outlines, text_outlines, own_outlines, declared, IsSound}
use Rattle.c_runs.specs.Worlds as c
use Rattle.c_match.specs.Ranges.{Range, Map}
use Rattle.c_match_worlds.specs.Matches.{Matches, name_in, object_in}
use Rattle.c_agreement.specs.Pairs.{own_count}
use Rattle.c_pointers_agree.proofs.lemmas.Short.{object_at}
use Rattle.dag_seam.proofs.lemmas.Acts.{get_left}

pub one_there : {A : Type 0} (xs : List A) (n : ℕ) → n < length xs → (x : A) × (slice_get xs n ≡ Some x)
one_there [] n lt = absurd (let never : ⊥ = omega (arith, lt) in never)
one_there (x ∷ xs) zero lt = (x, refl)
one_there (x ∷ xs) (suc n) lt = one_there xs n (omega (arith, lt))

-- ---- which was made when

next_is : (n p : ℕ) → n + 1 + p ≡ n + suc p
next_is n p = omega arith

text_made : (n : ℕ) (ts : List (List ℕ)) (p : ℕ) → p < length ts → (size : ℕ) × (slice_get (text_outlines n ts) p ≡ Some (record { made = n + p; size = size }))
text_made n [] p lt = absurd (let never : ⊥ = omega (arith, lt) in never)
text_made n (t ∷ ts) zero lt = (length (t ++ 0 ∷ []), ap (λ (m : ℕ). Some (record { made = m; size = length (t ++ 0 ∷ []) })) (let e : n ≡ n + 0 = omega arith in e))
text_made n (t ∷ ts) (suc p) lt = let r = text_made (n + 1) ts p (omega (arith, lt)) in (r.0, r.1 ∙ ap (λ (m : ℕ). Some (record { made = m; size = r.0 })) (next_is n p))

own_made : (tags : List Tag) (n : ℕ) (os : List ObjectTree) (ts : List (List ℕ)) (p : ℕ) → p < length os + length ts → (size : ℕ) × (slice_get (own_outlines tags n os ts) p ≡ Some (record { made = n + p; size = size }))
own_made tags n [] ts p lt = text_made n ts p (omega (arith, lt))
own_made tags n (o ∷ os) ts zero lt = (size_of tags o.of, ap (λ (m : ℕ). Some (record { made = m; size = size_of tags o.of })) (let e : n ≡ n + 0 = omega arith in e))
own_made tags n (o ∷ os) ts (suc p) lt = let r = own_made tags (n + 1) os ts p (omega (arith, lt)) in (r.0, r.1 ∙ ap (λ (m : ℕ). Some (record { made = m; size = r.0 })) (next_is n p))

-- ---- worlds of forests

same_range : {a b : Range} → Some a ≡ Some b → a ≡ b
same_range e = cc

module _ (u : UnitTree) (l : LoweredUnit) (map : Map) (old : c.World) (w : World) (sound : IsSound u old) (m : Matches l (own_count u) map old w) where
  own_lives : (p : ℕ) → p < own_count u → p < length w.objects
  own_lives p lt =
      let made = own_made u.tags 0 u.objects u.texts p lt in
      let listed : slice_get (outlines (c.objects old)) p ≡ Some (record { made = 0 + p; size = made.0 }) = ap (λ (os : List Outline). slice_get os p) sound.live ∙ get_left (declared u) sound.others p (record { made = 0 + p; size = made.0 }) made.1 in
      let y = object_at (c.objects old) p (record { made = 0 + p; size = made.0 }) listed in
      let named : y.0.made ≡ p = ap (λ (o : Outline). o.made) y.2 ∙ (let e : 0 + p ≡ p = omega arith in e) in
      let h = m.held.held p y.0 y.1 in
      let range : h.range ≡ record { object = name_in l p; start = 0 } = same_range (sym h.is ∙ ap map named ∙ m.whole p lt) in
      subst (λ (r : Range). r.object.place < length w.objects) range (slice_get_within w.objects h.range.object.place h.held.home h.held.there)

  table_lives : (t : ℕ) → own_count u ≤ t → t < length l.objects → t < length w.objects
  table_lives t le lt =
      let o = one_there l.objects t lt in
      slice_get_within w.objects t (object_in l t o.0) (m.tables t o.0 le o.1).0

  all_live : (n : ℕ) → n ≡ length l.objects → n ≤ length w.objects
  all_live zero e = omega arith
  all_live (suc t) e = ⊎_elim (λ lt. own_lives t lt) (λ le. table_lives t le (omega (arith, e))) (cases_lt t (own_count u))

  pub objects_live : length l.objects ≤ length w.objects
  objects_live = all_live (length l.objects) refl
