-- What is known of a function's locals: each name of a local has a place among them, with a compatible type, and the count of
-- locals is theirs. So names in typed expressions are those of locals.
use Rattle.std.proofs.Common.{◌≡◌, ◌⊎◌, ℕ, zero, suc, false, List, [], ◌∷◌, ◌++◌, length, get_or, refl, sym, ap, subst, ◌∙◌, inl, inr}
use Rattle.std.specs.Prelude.{ℤ, pos, Option, Some, slice_get, slice_set}
use Rattle.std.proofs.lemmas.List.{append_assoc, get_or-set_same}
use Rattle.c_symbols.specs.declared.symbol.Storage.{Storage}
use Rattle.c_symbols.specs.declared.symbol.Storage.TheVariants as storage
use Rattle.c_types.specs.CType.{CType}
use Rattle.c_meaning.specs.declared.core_expr.CoreKind.{CoreKind}
use Rattle.c_meaning.specs.declared.core_expr.CoreKind.TheVariants as kind
use Rattle.c_meaning.specs.Linkage.{count_known, counted_at, with_count}
use Rattle.c_meaning.specs.Rows.{kind_meant, nat_of}
use Rattle.c_meaning.specs.State.{Known, State, entered, known_at, left, nothing_known, replaced}
use Rattle.c_meaning.specs.Units.{IsNamed}
use Rattle.c_typing_steps.specs.Names.{IfName, Stands, StandsFor}
use Rattle.c_typing_steps.specs.Steps.{Steps}
use Rattle.c_units.specs.Functions.{is_object_class}
use Rattle.c_fits.proofs.lemmas.Lists.{set_related}
use Rattle.c_local_names.specs.LocalNames.{IfLocal}
use Rattle.c_local_names.proofs.lemmas.Keeping.{Adds, Counted, Stays, counter_below, entered_counted, left_counted, left_named, replaced_counted}
use Rattle.c_local_names.proofs.lemmas.Scopes.{Has, Named, SomeHas, place_named, some_push}
use Rattle.c_local_names.proofs.lemmas.Stepping.{steps_add}

-- ---- lists that begin alike

-- the one begins with the other
abbrev pub Begins : List CType → List CType → Type 0
Begins all first = (more : List CType) × (all ≡ first ++ more)

pub nothing_behind : (xs : List CType) → xs ++ [] ≡ xs
nothing_behind [] = refl
nothing_behind (x ∷ xs) = ap (λ ys. x ∷ ys) (nothing_behind xs)

pub begins_itself : (xs : List CType) → Begins xs xs
begins_itself xs = ([], sym (nothing_behind xs))

pub begins_then : (xs ys zs : List CType) → Begins xs ys → Begins ys zs → Begins xs zs
begins_then xs ys zs h k = (k.0 ++ h.0, h.1 ∙ ap (λ (l : List CType). l ++ h.0) k.1 ∙ append_assoc zs k.0 h.0)

pub begins_more : (xs ys : List CType) → Begins (xs ++ ys) xs
begins_more xs ys = (ys, refl)

pub get_first : (xs ys : List CType) (n : ℕ) (of : CType) → slice_get xs n ≡ Some of → slice_get (xs ++ ys) n ≡ Some of
get_first [] ys n of e = absurd (let none : ⊥ = cc in none)
get_first (x ∷ xs) ys zero of e = e
get_first (x ∷ xs) ys (suc n) of e = get_first xs ys n of e

pub get_begun : (xs ys : List CType) (n : ℕ) (of : CType) → Begins xs ys → slice_get ys n ≡ Some of → slice_get xs n ≡ Some of
get_begun xs ys n of b e = ap (λ (l : List CType). slice_get l n) b.1 ∙ get_first ys b.0 n of e

pub get_next : (xs : List CType) (of : CType) (ys : List CType) → slice_get (xs ++ of ∷ ys) (length xs) ≡ Some of
get_next [] of ys = refl
get_next (x ∷ xs) of ys = get_next xs of ys

-- ---- symbols of locals

abbrev pub IsPlacedBy : List CType → Storage → Option ℤ → CType → Type 0
IsPlacedBy locals storage.Auto v of = IsNamed (λ t. t) locals (nat_of v 0) of
IsPlacedBy locals storage.Register v of = IsNamed (λ t. t) locals (nat_of v 0) of
IsPlacedBy locals class v of = Unit {0}

-- a local's symbol has its place among these, with a compatible type
abbrev pub IsPlaced : List CType → Known → Type 0
IsPlaced locals k = IsPlacedBy locals k.class k.value k.of

other_by : (locals : List CType) (c : Storage) (v : Option ℤ) (of : CType) → is_object_class c ≡ false → IsPlacedBy locals c v of
other_by locals storage.Auto v of e = absurd (let none : ⊥ = cc in none)
other_by locals storage.Register v of e = absurd (let none : ⊥ = cc in none)
other_by locals c v of e = tt

pub other_placed : (locals : List CType) (k : Known) → is_object_class k.class ≡ false → IsPlaced locals k
other_placed locals k e = other_by locals k.class k.value k.of e

pub stays_placed : (locals : List CType) (old new : Known) → Stays old new → IsPlaced locals old → IsPlaced locals new
stays_placed locals old new (inl e) h = subst (IsPlaced locals) (sym e) h
stays_placed locals old new (inr e) h = other_placed locals new e

begun_by : (all locals : List CType) (c : Storage) (v : Option ℤ) (of : CType) → Begins all locals → IsPlacedBy locals c v of → IsPlacedBy all c v of
begun_by all locals storage.Auto v of b h = (h.0, get_begun all locals (nat_of v 0) h.0 b h.1, h.2)
begun_by all locals storage.Register v of b h = (h.0, get_begun all locals (nat_of v 0) h.0 b h.1, h.2)
begun_by all locals c v of b h = tt

pub begun_placed : (all locals : List CType) (k : Known) → Begins all locals → IsPlaced locals k → IsPlaced all k
begun_placed all locals k b h = begun_by all locals k.class k.value k.of b h

-- what such a symbol stands for
local_by : (locals : List CType) (c : Storage) (v : Option ℤ) (id : ℕ) (of : CType) → IsPlacedBy locals c v of → IfLocal locals (kind_meant c v id) of
local_by locals storage.Auto v id of h = h
local_by locals storage.Register v id of h = h
local_by locals storage.Enumerator v id of h = tt
local_by locals storage.Typedef v id of h = tt
local_by locals storage.Extern v id of h = tt
local_by locals storage.Static v id of h = tt
local_by locals storage.Tag v id of h = tt

-- where no local is, it is none
none_by : (c : Storage) (v : Option ℤ) (of : CType) → IsPlacedBy [] c v of → is_object_class c ≡ false
none_by storage.Auto v of h = absurd (let e = h.1 in let none : ⊥ = cc in none)
none_by storage.Register v of h = absurd (let e = h.1 in let none : ⊥ = cc in none)
none_by storage.Enumerator v of h = refl
none_by storage.Typedef v of h = refl
none_by storage.Extern v of h = refl
none_by storage.Static v of h = refl
none_by storage.Tag v of h = refl

pub none_placed : (k : Known) → IsPlaced [] k → is_object_class k.class ≡ false
none_placed k h = none_by k.class k.value k.of h

-- ---- what is known of locals

pub record Knows (o : Option ℕ) (locals : List CType) (s : State) : Type 0 where
  pub counted : Counted o s
  pub placed : (name : List ℕ) (id : ℕ) → Named s name id → IsPlaced locals (known_at s id)
  pub count : (c : ℕ) → o ≡ Some c → (known_at s c).value ≡ Some (pos (length locals))

-- behind what declares none
pub adds_know : (o : Option ℕ) (locals : List CType) (s u : State) → Adds o s u → Knows o locals s → Knows o locals u
adds_know o locals s u f h =
    record {
      counted = f.keeps.counted;
      placed = λ name id k. by name id k;
      count = λ c e. ap (λ (k : Known). k.value) (f.keeps.counter c e) ∙ h.count c e;
    }
  where
    old : (name : List ℕ) (id : ℕ) → Named s name id → IsPlaced locals (known_at u id)
    old name id k = stays_placed locals (known_at s id) (known_at u id) (f.keeps.known id (h.counted.below name id k)) (h.placed name id k)

    inner : (name : List ℕ) (id : ℕ) → Has s.inner name id ⊎ (is_object_class (known_at u id).class ≡ false) → IsPlaced locals (known_at u id)
    inner name id (inl k) = old name id (inr k)
    inner name id (inr e) = other_placed locals (known_at u id) e

    by : (name : List ℕ) (id : ℕ) → Named u name id → IsPlaced locals (known_at u id)
    by name id (inl k) = old name id (inl (subst (λ ss. SomeHas ss name id) f.keeps.outer k))
    by name id (inr k) = inner name id (f.inner name id k)

pub steps_know : (o : Option ℕ) (locals : List CType) (s u : State) → Steps s u → Knows o locals s → Knows o locals u
steps_know o locals s u steps h = adds_know o locals s u (steps_add o s u steps h.counted) h

-- in a scope, and behind it
pub entered_knows : (o : Option ℕ) (locals : List CType) (s : State) → Knows o locals s → Knows o locals (entered s)
entered_knows o locals s h =
    record {
      counted = entered_counted o s h.counted;
      placed = λ name id k. by name id k;
      count = h.count;
    }
  where
    by : (name : List ℕ) (id : ℕ) → Named (entered s) name id → IsPlaced locals (known_at s id)
    by name id (inl k) = h.placed name id (some_push s.outer s.inner name id k)
    by name id (inr k) = absurd k

pub left_knows : (o : Option ℕ) (locals all : List CType) (s t : State) → Knows o locals s → Knows o all t → t.outer ≡ s.outer ++ s.inner ∷ [] → Knows o all (left s.outer s.inner t)
left_knows o locals all s t h k e =
    record {
      counted = left_counted o s t h.counted k.counted e;
      placed = λ name id g. k.placed name id (left_named s t name id e g);
      count = k.count;
    }

-- with another count
pub count_knows : (c : ℕ) (locals : List CType) (s : State) → Counted (Some c) s → ((name : List ℕ) (id : ℕ) → Named s name id → IsPlaced locals (known_at s id)) → Knows (Some c) locals (with_count s (length locals))
count_knows c locals s h p = subst (λ o. Knows (Some c) locals (counted_at s (length locals) o)) (sym h.found) set
  where
    k : Known
    k = count_known (known_at s c).level (length locals)

    set : Knows (Some c) locals (replaced s c k)
    set =
        record {
          counted = replaced_counted (Some c) s c k h (λ e. refl);
          placed = λ name id g. set_related (λ (old new : Known). IsPlaced locals old → IsPlaced locals new) s.symbols c k nothing_known (λ x y. y) (λ y. tt) id (p name id g);
          count = λ d e. subst (λ i. (get_or (slice_set s.symbols c k) i nothing_known).value ≡ Some (pos (length locals))) (same d e) (ap (λ (k : Known). k.value) (get_or-set_same s.symbols c k nothing_known (counter_below (Some c) s c h refl)));
        }
      where
        same : (d : ℕ) → Some c ≡ Some d → c ≡ d
        same d e = cc

-- ---- names of expressions

stands_local : (o : Option ℕ) (all locals : List CType) (s u : State) (what : CoreKind) (of : CType) → Knows o locals s → Begins all locals → Stands s u what of → IfLocal all what of
stands_local o all locals s u what of h b st =
    let k = steps_know o locals s st.at st.before h in
    let p = begun_placed all locals (known_at st.at st.id) b (k.placed st.name st.id (place_named st.at st.name st.id st.found)) in
    let r = local_by all (known_at st.at st.id).class (known_at st.at st.id).value st.id (known_at st.at st.id).of p in
    subst (IfLocal all what) (sym st.type) (subst (λ w. IfLocal all w (known_at st.at st.id).of) (sym st.means) r)

pub name_local : (o : Option ℕ) (all locals : List CType) (s u : State) → Knows o locals s → Begins all locals → (what : CoreKind) (of : CType) → IfName (StandsFor s u) what of → IfName (IfLocal all) what of
name_local o all locals s u h b (kind.Local place register) of st = stands_local o all locals s u (kind.Local place register) of h b st
name_local o all locals s u h b (kind.Symbol id) of st = tt
name_local o all locals s u h b (kind.Literal bytes) of st = st
name_local o all locals s u h b what of st = tt
