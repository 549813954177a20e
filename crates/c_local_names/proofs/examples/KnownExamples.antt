-- Examples: what is known in the body of `f(a) int a; {..}`, and what isn't.
use Rattle.c_units.specs.Functions.{is_object_class}
use Rattle.c_fits.proofs.lemmas.Booleans.{never}
use Rattle.std.proofs.Common.{◌≡◌, ◌⊎◌, ℕ, List, [], ◌∷◌, refl, subst, inl, inr, arith, ◌<◌, sym, ap, false}
use Rattle.std.specs.Prelude.{pos, codes, Some, None}
use Rattle.c_symbols.specs.declared.symbol.Storage.TheVariants as storage
use Rattle.c_types.specs.CType.{CType, Char, Int, basic}
use Rattle.c_meaning.specs.Declarations.{nothing}
use Rattle.c_meaning.specs.Linkage.{count_known, count_name}
use Rattle.c_meaning.specs.State.{Known, State, known_at}
use Rattle.c_units.specs.Externals.{no_parts}
use Rattle.c_units.specs.Typing.{at_first}
use Rattle.c_local_names.proofs.lemmas.Declaring.{DeclaresIn, DeclaresOther, nothing_in, nothing_other}
use Rattle.c_local_names.proofs.lemmas.Keeping.{Adds, Counted, IsBeside, Keeps, Stays, same_adds, same_keeps}
use Rattle.c_local_names.proofs.lemmas.Knowing.{IsPlaced, Knows}
use Rattle.c_local_names.proofs.lemmas.Naming.{IsOtherAt, SameOthers}
use Rattle.c_local_names.proofs.lemmas.OldStyle.{InnerListed, Listed}
use Rattle.c_local_names.proofs.lemmas.Parameters.{InnerPlaced, IsScope}
use Rattle.c_local_names.proofs.lemmas.Scopes.{Named, IsSome}
use Rattle.c_local_names.proofs.lemmas.Units.{UnitOwns, nothing_owns}

-- `a` has the first place of one
abbrev parameter : CType → Known
parameter of = record { class = storage.Auto; of = of; line = 1; level = 0; value = Some (pos 0) }

abbrev body : State
body = record { outer = []; inner = (codes "a", 0) ∷ (count_name, 1) ∷ []; links = []; symbols = parameter (basic Int) ∷ count_known 0 1 ∷ []; tags = []; count = 0 }

abbrev locals : List CType
locals = basic Int ∷ []

a_named : Named body (codes "a") 0
a_named = inr (inl (refl, refl))

-- ---- what is known

in_body : Knows (Some 1) locals body
in_body =
    record {
      counted =
          record {
            found = refl;
            below = λ name id k. below name id k;
            beside = λ name id k. beside name id k;
            links_below = λ name id k. absurd k;
            links_beside = λ name id k e. absurd k;
            linked = λ name id k. absurd k;
          };
      placed = λ name id k. placed name id k;
      count = λ c e. subst (λ i. (known_at body i).value ≡ Some (pos 1)) (counter c e) refl;
    }
  where
    counter : (c : ℕ) → Some 1 ≡ Some c → 1 ≡ c
    counter c e = cc

    below : (name : List ℕ) (id : ℕ) → Named body name id → id < 2
    below name id (inl k) = absurd k
    below name id (inr (inl e)) = let q = e.1 in omega (arith, q)
    below name id (inr (inr (inl e))) = let q = e.1 in omega (arith, q)
    below name id (inr (inr (inr k))) = absurd k

    beside : (name : List ℕ) (id : ℕ) → Named body name id → IsBeside (Some 1) name id
    beside name id (inl k) = absurd k
    beside name id (inr (inl e)) = λ n g. (let q = e.1 in let no : ⊥ = omega (arith, q, g) in no)
    beside name id (inr (inr (inl e))) = λ n g. never (subst IsSome (sym e.0) n)
    beside name id (inr (inr (inr k))) = absurd k

    placed : (name : List ℕ) (id : ℕ) → Named body name id → IsPlaced locals (known_at body id)
    placed name id (inl k) = absurd k
    placed name id (inr (inl e)) = subst (λ i. IsPlaced locals (known_at body i)) e.1 (basic Int, refl, refl)
    placed name id (inr (inr (inl e))) = subst (λ i. IsPlaced locals (known_at body i)) e.1 tt
    placed name id (inr (inr (inr k))) = absurd k

-- without a local of that place
not_in_body : Knows (Some 1) [] body → ⊥
not_in_body h = let e = (h.placed (codes "a") 0 a_named).1 in let none : ⊥ = cc in none

-- locals are counted there
not_outside : Counted None body → ⊥
not_outside h = let e = h.found in let none : ⊥ = cc in none

-- ---- what is kept

kept : Keeps (Some 1) body body
kept = same_keeps (Some 1) body in_body.counted

not_kept : Keeps (Some 1) body at_first → ⊥
not_kept h = let l = h.symbols in omega (arith, l)

added : Adds (Some 1) body body
added = same_adds (Some 1) body in_body.counted

not_added : Adds (Some 1) body at_first → ⊥
not_added h = not_kept h.keeps

stays : Stays (parameter (basic Int)) (count_known 0 1)
stays = inr refl

-- a local's type
not_stays : Stays (parameter (basic Int)) (parameter (basic Char)) → ⊥
not_stays (inl e) = let t = ap (λ (k : Known). k.of) e in let none : ⊥ = cc in none
not_stays (inr e) = let none : ⊥ = cc in none

others_same : SameOthers body body
others_same = λ id l e. e

-- the count's symbol isn't a local's
abbrev other : State
other = record { outer = []; inner = []; links = []; symbols = parameter (basic Int) ∷ parameter (basic Int) ∷ []; tags = []; count = 0 }

others_differ : SameOthers body other → ⊥
others_differ h = let e = h 1 (omega arith) refl in let none : ⊥ = cc in none

count_other : IsOtherAt body count_name
count_other = (1, refl, refl)

a_local : IsOtherAt body (codes "a") → ⊥
a_local h = let e : Some 0 ≡ Some h.0 = h.1 in let same : 0 ≡ h.0 = cc in let k = subst (λ i. is_object_class (known_at body i).class ≡ false) (sym same) h.2 in let none : ⊥ = cc in none

-- ---- parameters

a_scope : IsScope body locals ((codes "a", 0) ∷ [])
a_scope name id (inl e) = (let q = e.1 in omega (arith, q), subst IsSome e.0 refl, subst (λ i. IsPlaced locals (known_at body i)) e.1 (basic Int, refl, refl))
a_scope name id (inr k) = absurd k

no_scope : IsScope body [] ((codes "a", 0) ∷ []) → ⊥
no_scope h = let e = (h (codes "a") 0 (inl (refl, refl))).2.1 in let none : ⊥ = cc in none

inner : InnerPlaced locals body
inner = λ name id k. in_body.placed name id (inr k)

not_inner : InnerPlaced [] body → ⊥
not_inner h = let e = (h (codes "a") 0 (inl (refl, refl))).1 in let none : ⊥ = cc in none

a_listed : Listed (codes "a" ∷ []) body (codes "a") 0
a_listed = (0, refl, refl, refl)

not_listed : Listed [] body (codes "a") 0 → ⊥
not_listed h = let e = h.1 in let none : ⊥ = cc in none

all_listed : InnerListed [] locals body
all_listed = λ name id k. inl (inner name id k)

not_all_listed : InnerListed [] [] body → ⊥
not_all_listed h = by (h (codes "a") 0 (inl (refl, refl)))
  where
    by : IsPlaced [] (known_at body 0) ⊎ Listed [] body (codes "a") 0 → ⊥
    by (inl p) = let e = p.1 in let none : ⊥ = cc in none
    by (inr l) = not_listed l

-- ---- declarations and units

nothing_local : DeclaresIn 1 locals body body nothing
nothing_local = nothing_in 1 locals body in_body

forgotten : DeclaresIn 1 locals body at_first nothing → ⊥
forgotten h = let l = h.symbols in omega (arith, l)

nothing_else : DeclaresOther (Some 1) body body nothing
nothing_else = nothing_other (Some 1) body in_body.counted

all_forgotten : DeclaresOther (Some 1) body at_first nothing → ⊥
all_forgotten h = not_added h.adds

first : UnitOwns at_first no_parts
first = nothing_owns

-- at file scope no local is known
not_first : UnitOwns body no_parts → ⊥
not_first h = not_outside h.knows.counted
