-- What is known behind a declared name and its initialiser: its type may be completed, and where it has linkage its definition is noted.
use Rattle.std.proofs.Common.{◌≡◌, ℕ, ◌+◌, ◌<◌, ◌≤◌, Bool, true, false, not, ◌&&◌, ◌||◌, List, length, refl, sym, ap, subst, ◌∙◌, arith}
use Rattle.std.specs.Prelude.{◌==◌, ℤ, pos, zero, suc, Option, Some, None}
use Rattle.std.specs.Prelude.{negsuc}
use Rattle.std.proofs.lemmas.Bool.{eqb-true}
use Rattle.std.proofs.lemmas.Bool.Decides.{nat_tests}
use Rattle.c_symbols.specs.Scoping.{symbol_named}
use Rattle.c_types.specs.CType.{CType}
use Rattle.c_types.specs.Compatible.{compatible}
use Rattle.c_meaning.specs.Declarations.{Naming, Whole, decl_fault, definition, differs_from, is_defined, is_definition, is_definition_of, is_extern, noted, recomposed, retyped, with_linked_whole}
use Rattle.c_meaning.specs.Linkage.{composed, is_linked, with_type, with_value}
use Rattle.c_meaning.specs.State.{Known, State, known_at, place_here, replaced}
use Rattle.c_meaning.specs.Types.{is_function}
use Rattle.c_units.specs.Ends.{is_link}
use Rattle.c_fits.proofs.lemmas.Booleans.{and_beside, never, not_false, or_left, or_right}
use Rattle.c_fits.proofs.lemmas.Constraints.{decl_unbroken}
use Rattle.c_fits.proofs.lemmas.Values.{chosen_by}
use Rattle.c_linked_names.proofs.lemmas.Absorbing.{Absorbs, TypeLaws, absorbs_itself, absorbs_then}
use Rattle.c_linked_names.proofs.lemmas.Going.{defined_at}
use Rattle.c_linked_names.proofs.lemmas.Keeping.{IsEntry, IsRegular, Keeps, keeps_itself, keeps_then, link_below, link_class, link_of}
use Rattle.c_linked_names.proofs.lemmas.Lists.{named_link, one_if}
use Rattle.c_linked_names.proofs.lemmas.Naming.{Retypes, both_composed, retype, retypes_defined}
use Rattle.c_linked_names.proofs.lemmas.Stepping.{known_other, known_replaced, replaced_regular}

-- ---- a definition that is noted

abbrev noting : State → ℕ → Bool → State
noting s l init = replaced s l (with_value (known_at s l) (definition init (known_at s l).value))

pub record Notes (s t : State) (l : ℕ) (init : Bool) : Type 0 where
  pub regular : IsRegular t
  pub keeps : Keeps s t
  pub outer : t.outer ≡ s.outer
  pub inner : t.inner ≡ s.inner
  pub links : t.links ≡ s.links
  pub more : (id : ℕ) → defined_at s id ≤ defined_at t id
  pub once : init ≡ true → defined_at s l ≡ 0 → (id : ℕ) → one_if (l == id) + defined_at s id ≤ defined_at t id

-- a tentative definition isn't one
still_defined : (init : Bool) (v : Option ℤ) → one_if (is_definition v) ≤ one_if (is_definition (definition init v))
still_defined true (Some (pos (suc n))) = omega arith
still_defined true (Some (pos zero)) = omega arith
still_defined true (Some (negsuc n)) = omega arith
still_defined true None = omega arith
still_defined false None = omega arith
still_defined false (Some z) = omega arith

pub noting_notes : (s : State) (l : ℕ) (init : Bool) → IsRegular s → is_link s.links l ≡ true → Notes s (noting s l init) l init
noting_notes s l init h e =
    let b = link_below s l h e in
    let r = replaced_regular s l (with_value (known_at s l) (definition init (known_at s l).value)) h (record { below = b; class = refl; type = λ c. absorbs_itself (known_at s l).of; value = λ f. never (sym e ∙ f); bound = λ m f g. never (sym e ∙ f) }) in
    record { regular = r.0; keeps = r.1; outer = refl; inner = refl; links = refl; more = λ id. by b id (id == l) refl; once = λ i z id. at b i z id (id == l) refl }
  where
    t : State
    t = noting s l init

    of_this : l < length s.symbols → defined_at t l ≡ one_if (is_definition (definition init (known_at s l).value))
    of_this b = ap (λ (k : Known). one_if (is_definition k.value)) (known_replaced s l (with_value (known_at s l) (definition init (known_at s l).value)) b)

    of_other : (id : ℕ) → (id == l) ≡ false → defined_at t id ≡ defined_at s id
    of_other id q = ap (λ (k : Known). one_if (is_definition k.value)) (known_other s l (with_value (known_at s l) (definition init (known_at s l).value)) id q)

    by : l < length s.symbols → (id : ℕ) (q : Bool) → (id == l) ≡ q → defined_at s id ≤ defined_at t id
    by b id true q = let p = eqb-true id l q in subst (λ i. defined_at s i ≤ defined_at t i) (sym p) (let x = of_this b in let y = still_defined init (known_at s l).value in omega (arith, x, y))
    by b id false q = let x = of_other id q in omega (arith, x)

    at : l < length s.symbols → init ≡ true → defined_at s l ≡ 0 → (id : ℕ) (q : Bool) → (id == l) ≡ q → one_if (l == id) + defined_at s id ≤ defined_at t id
    at b i z id true q =
        let p = eqb-true id l q in
        subst (λ j. one_if (l == j) + defined_at s j ≤ defined_at t j) (sym p) (
        let x = of_this b in
        let y : one_if (is_definition (definition init (known_at s l).value)) ≡ 1 = ap (λ i. one_if (is_definition (definition i (known_at s l).value))) i in
        let w = one_at (l == l) in
        omega (arith, x, y, z, w))
      where
        one_at : (b : Bool) → one_if b ≤ 1
        one_at true = omega arith
        one_at false = omega arith
    at b i z id false q =
        let x = of_other id q in
        let w : one_if (l == id) ≡ 0 = ap one_if (other (l == id) refl) in
        omega (arith, x, w)
      where
        other : (b : Bool) → (l == id) ≡ b → (l == id) ≡ false
        other true p = let r : (id == l) ≡ true = let m = eqb-true l id p in grind (arith, nat_tests) in never (sym r ∙ q)
        other false p = p

-- ---- a name with linkage

pub record LinkedWhole (u v : State) (l : ℕ) (init : Bool) (of : CType) : Type 0 where
  pub notes : Notes u v l init
  pub absorbed : init ≡ true → Absorbs (known_at v l).of of

no_definition : (a b c : Bool) → (not a && (b || c)) ≡ false → a ≡ false → b ≡ true → ⊥
no_definition true b c e f g = never f
no_definition false true c e f g = never e
no_definition false false c e f g = never (sym g)

-- nothing is noted
unnoted : (u : State) (l : ℕ) (init : Bool) (of : CType) → IsRegular u → (init ≡ true → ⊥) → LinkedWhole u u l init of
unnoted u l init of h none =
    record { notes = record { regular = h; keeps = keeps_itself u; outer = refl; inner = refl; links = refl; more = λ id. omega arith; once = λ e. absurd (none e) }; absorbed = λ e. absurd (none e) }

module _ (types : TypeLaws) where
  noted_whole : (u : State) (name : List ℕ) (id l : ℕ) (init : Bool) (of : CType) → IsRegular u → IsEntry u (name, id) → link_of (known_at u id) ≡ Some l → compatible of (known_at u l).of ≡ true → compatible of (known_at u id).of ≡ true
      → LinkedWhole u (noting (composed (composed u l of) id of) l init) l init of
  noted_whole u name id l init of h x g c d =
      let e = named_link u.links name l (x.linked l g) in
      let a = both_composed types u name id l of h x g c d in
      let t : State = composed (composed u l of) id of in
      let i : is_link t.links l ≡ true = ap (λ ns. is_link ns l) a.0.links ∙ e in
      let n = noting_notes t l init a.0.regular i in
      record {
        notes =
            record {
              regular = n.regular;
              keeps = keeps_then u t (noting t l init) a.0.keeps n.keeps;
              outer = refl;
              inner = refl;
              links = refl;
              more = λ j. let y = retypes_defined u t a.0 j in let z = n.more j in omega (arith, y, z);
              once = λ q w j. let y = retypes_defined u t a.0 j in let z = n.once q (retypes_defined u t a.0 l ∙ w) j in omega (arith, y, z);
            };
        absorbed = λ q. absorbs_then (known_at (noting t l init) l).of (known_at t l).of of (n.keeps.types l (link_below t l a.0.regular i) (link_class t l a.0.regular i)) a.1;
      }

  pub linked_whole : (u : State) (line : ℕ) (n : Naming) (init : Bool) (id l : ℕ) → IsRegular u → place_here u n.name ≡ Some id → IsEntry u (n.name, id) → is_linked n.linkage ≡ true → link_of (known_at u id) ≡ Some l → decl_fault u line (Whole n init) ≡ None → (init ≡ true → is_function n.of ≡ false)
      → LinkedWhole u (with_linked_whole u n init) l init n.of
  linked_whole u line n init id l h here x w g f o =
      let named = x.linked l g in
      let all = and_beside (is_linked n.linkage) (differs_from u n.of (place_here u n.name) || differs_from u n.of (symbol_named u.links n.name)) w (decl_unbroken u line (Whole n init) f 6) in
      let c = not_false _ (ap (differs_from u n.of) (sym named) ∙ or_right (differs_from u n.of (place_here u n.name)) (differs_from u n.of (symbol_named u.links n.name)) all) in
      let d = not_false _ (ap (differs_from u n.of) (sym here) ∙ or_left (differs_from u n.of (place_here u n.name)) (differs_from u n.of (symbol_named u.links n.name)) all) in
      chosen_by (λ v. LinkedWhole u v l init n.of) (is_definition_of n init) (noted (recomposed (recomposed u n.of (symbol_named u.links n.name)) n.of (place_here u n.name)) init (symbol_named u.links n.name)) u
      (λ e.
      subst (λ m. LinkedWhole u (noted (recomposed (recomposed u n.of m) n.of (place_here u n.name)) init m) l init n.of) (sym named)
      (subst (λ p. LinkedWhole u (noted (recomposed (recomposed u n.of (Some l)) n.of p) init (Some l)) l init n.of) (sym here) (noted_whole u n.name id l init n.of h x g c d)))
      (λ e. unnoted u l init n.of h (λ i. no_definition (is_function n.of) init (not (is_extern n.class)) e (o i) i))

  -- what isn't defined yet where it is
  pub undefined_yet : (u : State) (line : ℕ) (n : Naming) (init : Bool) (l : ℕ) → symbol_named u.links n.name ≡ Some l → is_linked n.linkage ≡ true → decl_fault u line (Whole n init) ≡ None → init ≡ true → defined_at u l ≡ 0
  undefined_yet u line n init l named w f i =
      ap one_if (ap (is_defined u) (sym named) ∙ and_beside (is_linked n.linkage) (is_defined u (symbol_named u.links n.name)) w (and_beside init (is_linked n.linkage && is_defined u (symbol_named u.links n.name)) i (decl_unbroken u line (Whole n init) f 7)))

-- ---- a name without linkage

pub alone_whole : (u : State) (of : CType) (name : List ℕ) (id : ℕ) → IsRegular u → place_here u name ≡ Some id → id < length u.symbols → link_of (known_at u id) ≡ None → Absorbs of (known_at u id).of
    → Retypes u (retyped u of (place_here u name)) × Absorbs (known_at (retyped u of (place_here u name)) id).of of
alone_whole u of name id h here b g a =
    subst (λ p. Retypes u (retyped u of p) × Absorbs (known_at (retyped u of p) id).of of) (sym here) (
      retype u id of h b a (λ l e k. absurd (let q : None ≡ Some l = sym g ∙ k in let none : ⊥ = cc in none)),
      subst (λ (k : Known). Absorbs k.of of) (sym (known_replaced u id (with_type (known_at u id) of) b)) (absorbs_itself of),
    )
