-- Names that are looked up, and names that are collected.
use Rattle.std.proofs.Common.{◌≡◌, ℕ, zero, suc, ◌⊎◌, true, false, List, [], ◌∷◌, ◌++◌, length, Option, Some, None, refl, sym, subst, ◌∙◌, inl, inr}
use Rattle.std.specs.Prelude.{slice_get, is_some}
use Rattle.std.proofs.lemmas.Option.{none-some, same_Some}
use Rattle.lcc_text.specs.Names.{with_name, place_of}
use Rattle.lcc_text.proofs.lemmas.Places.{place_some, place_none, known_or_new, with_known, with_new}
use Rattle.lburg_faults.specs.Terminals.{Among}

-- ---- a name that was looked up

pub found : (names : List (List ℕ)) (name : List ℕ) (o : Option ℕ) (i : ℕ) → o ≡ place_of names name → o ≡ Some i → Among name names
found names name o i e f = (i, place_some names name i (sym e ∙ f))

pub found_some : (names : List (List ℕ)) (name : List ℕ) (o : Option ℕ) → o ≡ place_of names name → is_some o ≡ true → Among name names
found_some names name None e f = absurd cc
found_some names name (Some i) e f = found names name (Some i) i e refl

pub found_none : (names : List (List ℕ)) (name : List ℕ) (o : Option ℕ) → o ≡ place_of names name → o ≡ None → Among name names → ⊥
found_none names name o e f a = place_none names name a.0 (sym e ∙ f) a.1

pub found_not : (names : List (List ℕ)) (name : List ℕ) (o : Option ℕ) → o ≡ place_of names name → is_some o ≡ false → Among name names → ⊥
found_not names name None e f a = found_none names name None e refl a
found_not names name (Some i) e f a = cc

-- ---- names that are collected

pub at_front : {A : Type 0} (xs ys : List A) (i : ℕ) (x : A) → slice_get xs i ≡ Some x → slice_get (xs ++ ys) i ≡ Some x
at_front [] ys i x g = absurd (none-some x g)
at_front (z ∷ xs) ys zero x g = g
at_front (z ∷ xs) ys (suc i) x g = at_front xs ys i x g

pub at_last : {A : Type 0} (xs : List A) (y : A) → slice_get (xs ++ y ∷ []) (length xs) ≡ Some y
at_last [] y = refl
at_last (z ∷ xs) y = at_last xs y

among_push : {A : Type 0} (xs : List A) (y : A) (i : ℕ) (x : A) → slice_get (xs ++ y ∷ []) i ≡ Some x → Among x xs ⊎ (x ≡ y)
among_push [] y zero x g = inr (sym (same_Some y x g))
among_push [] y (suc i) x g = absurd (none-some x g)
among_push (z ∷ xs) y zero x g = inl (zero, g)
among_push (z ∷ xs) y (suc i) x g = elim (among_push xs y i x g) [
  | inl a ↦ inl (suc a.0, a.1)
  | inr e ↦ inr e
]

-- the same names stand in both lists
pub record SameNames (a b : List (List ℕ)) : Type 0 where
  pub all : (name : List ℕ) → Among name b → Among name a
  pub only : (name : List ℕ) → Among name a → Among name b

pub same_none : (a b : List (List ℕ)) → a ≡ [] → b ≡ [] → SameNames a b
same_none a b e f = let P : List (List ℕ) → Type 0 = λ x. SameNames x b in let Q : List (List ℕ) → Type 0 = λ y. SameNames [] y in subst P (sym e) (subst Q (sym f) (record { all = λ name h. h; only = λ name h. h }))

kept : (names : List (List ℕ)) (name x : List ℕ) → Among x names → Among x (with_name names name)
kept names name x a = let P : List (List ℕ) → Type 0 = λ l. Among x l in elim (known_or_new names name) [
  | inl k ↦ subst P (sym (with_known names name k.0 k.1)) a
  | inr n ↦ subst P (sym (with_new names name n)) (a.0, at_front names (name ∷ []) a.0 x a.1)
]

noted : (names : List (List ℕ)) (name : List ℕ) → Among name (with_name names name)
noted names name = let P : List (List ℕ) → Type 0 = λ l. Among name l in elim (known_or_new names name) [
  | inl k ↦ subst P (sym (with_known names name k.0 k.1)) (k.0, k.1)
  | inr n ↦ subst P (sym (with_new names name n)) (length names, at_last names name)
]

old_or_last : (names : List (List ℕ)) (name x : List ℕ) → Among x (with_name names name) → Among x names ⊎ (x ≡ name)
old_or_last names name x a = let P : List (List ℕ) → Type 0 = λ l. Among x l in elim (known_or_new names name) [
  | inl k ↦ inl (subst P (with_known names name k.0 k.1) a)
  | inr n ↦ (let b = subst P (with_new names name n) a in among_push names name b.0 x b.1)
]

-- a name more
pub same_more : (names others : List (List ℕ)) (name : List ℕ) → SameNames names others → SameNames (with_name names name) (others ++ name ∷ [])
same_more names others name s = record {
  all = λ x a. elim (among_push others name a.0 x a.1) [
    | inl b ↦ kept names name x (s.all x b)
    | inr e ↦ (let P : List ℕ → Type 0 = λ y. Among y (with_name names name) in subst P (sym e) (noted names name))
  ];
  only = λ x a. elim (old_or_last names name x a) [
    | inl b ↦ (let c = s.only x b in (c.0, at_front others (name ∷ []) c.0 x c.1))
    | inr e ↦ (let P : List ℕ → Type 0 = λ y. Among y (others ++ name ∷ []) in subst P (sym e) (length others, at_last others name))
  ];
}
