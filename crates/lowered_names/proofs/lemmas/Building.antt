-- Names that are added one by one.
use Rattle.std.specs.Prelude.{◌≡◌, ◌<◌, ℕ, zero, suc, ◌+◌, codes, List, [], ◌∷◌, ◌++◌, length, get_or, take, map}
use Rattle.std.proofs.Common.{refl, sym, ap, subst, ◌∙◌, arith, append_assoc, add-one}
use Rattle.c_types.specs.CType.{CType}
use Rattle.c_meaning.specs.declared.built_in.BuiltIn.{BuiltIn}
use Rattle.c_meaning.specs.declared.built_in.BuiltIn.TheVariants.{Putchar, Getchar, Exit}
use Rattle.c_meaning.specs.declared.core_unit.CoreFunction.{CoreFunction}
use Rattle.c_meaning.specs.declared.core_unit.CoreObject.{CoreObject}
use Rattle.c_meaning.specs.Units.{FunctionTree, ObjectTree, UnitTree, function_seen, object_seen, names}
use Rattle.c_runs.specs.Calls.{built_ins}
use Rattle.c_worlds.specs.declared.names.Names.{Names}
use Rattle.c_worlds.specs.BuiltIns.{unless_defined, numbered_built_ins}
use Rattle.c_worlds.specs.Programs.{AreNamesOf as AreNamesOfUnit}
use Rattle.lowered_names.specs.UnitNames.{IsNameOf, AreNamesOf, AreAdded, numbered, built_in_name, AreUnitNames}

pub names_join : (ns ms xs ys : List (List ℕ)) → AreNamesOf ns ms → AreNamesOf xs ys → AreNamesOf (ns ++ xs) (ms ++ ys)
names_join [] [] xs ys h g = g
names_join [] (m ∷ ms) xs ys h g = absurd h
names_join (n ∷ ns) [] xs ys h g = absurd h
names_join (n ∷ ns) (m ∷ ms) xs ys h g = (h.0, names_join ns ms xs ys h.1 g)

pub added_join : (ns xs old mid new : List (List ℕ)) → AreAdded ns old mid → AreAdded xs mid new → AreAdded (ns ++ xs) old new
added_join ns xs old mid new h g = record {
  own = h.own ++ g.own;
  each = names_join ns h.own xs g.own h.each g.each;
  is = g.is ∙ ap (λ (l : List (List ℕ)). l ++ g.own) h.is ∙ append_assoc old h.own g.own;
}

one_added : (n m : List ℕ) (old new : List (List ℕ)) → IsNameOf n m → new ≡ old ++ m ∷ [] → AreAdded (n ∷ []) old new
one_added n m old new h e = record { own = m ∷ []; each = (h, tt); is = e }

module _ {A : Type 0} (name : A → List ℕ) where
  taken_more : (xs : List A) (i : ℕ) (x : A) → i < length xs → x ≡ get_or xs i x → map name (take (suc i) xs) ≡ map name (take i xs) ++ name x ∷ []
  taken_more [] i x lt e = absurd (let never : ⊥ = omega (arith, lt) in never)
  taken_more (y ∷ xs) zero x lt e = ap (λ (z : A). name z ∷ []) (sym e)
  taken_more (y ∷ xs) (suc i) x lt e = ap (λ (l : List (List ℕ)). name y ∷ l) (taken_more xs i x (omega (arith, lt)) e)

  pub added_more : (xs : List A) (i : ℕ) (x : A) (m : List ℕ) (old mid new : List (List ℕ)) → i < length xs → x ≡ get_or xs i x → AreAdded (map name (take i xs)) old mid → IsNameOf (name x) m → new ≡ mid ++ m ∷ [] → AreAdded (map name (take (i + 1) xs)) old new
  added_more xs i x m old mid new lt e h g q =
      rw add-one (subst (λ (ns : List (List ℕ)). AreAdded ns old new) (sym (taken_more xs i x lt e)) (added_join (map name (take i xs)) (name x ∷ []) old mid new h (one_added (name x) m mid new g q)))

-- ---- all of them

functions_seen : (ts : List CType) (fs : List CoreFunction) → map (λ (f : FunctionTree). f.name) (map (function_seen ts) fs) ≡ map (λ (f : CoreFunction). f.name) fs
functions_seen ts [] = refl
functions_seen ts (f ∷ fs) = ap (λ (ns : List (List ℕ)). f.name ∷ ns) (functions_seen ts fs)

objects_seen : (ts : List CType) (os : List CoreObject) → map (λ (o : ObjectTree). o.name) (map (object_seen ts) os) ≡ map (λ (o : CoreObject). o.name) os
objects_seen ts [] = refl
objects_seen ts (o ∷ os) = ap (λ (ns : List (List ℕ)). o.name ∷ ns) (objects_seen ts os)

pub names_seen : (ts : List CType) (fs : List CoreFunction) (os : List CoreObject)
    → map (λ (f : CoreFunction). f.name) fs ++ map (λ (o : CoreObject). o.name) os ≡ map (λ (f : FunctionTree). f.name) (map (function_seen ts) fs) ++ map (λ (o : ObjectTree). o.name) (map (object_seen ts) os)
names_seen ts fs os = λ i. sym (functions_seen ts fs) i ++ sym (objects_seen ts os) i

pub built_ins_seen : (u : UnitTree) (n : Names) → AreNamesOfUnit u n → numbered_built_ins n ≡ built_ins u
built_ins_seen u n h = λ i. unless_defined (h.1.0 i) Putchar ++ (unless_defined (h.1.1.0 i) Getchar ++ unless_defined (h.1.1.1 i) Exit)

pub names_made : (u : UnitTree) (tables count : ℕ) (ns xs a b c d e : List (List ℕ)) (bs : List BuiltIn) → ns ++ xs ≡ names u → count ≡ length u.texts → bs ≡ built_ins u → AreAdded ns [] a → AreAdded xs a b
    → c ≡ b ++ numbered (codes "text.") count → d ≡ c ++ map built_in_name bs → e ≡ d ++ numbered (codes "table.") tables → AreUnitNames u tables e
names_made u tables count ns xs a b c d e bs own texts built h g p q r =
    let all = added_join ns xs [] a b h g in
    let T = numbered (codes "text.") count in
    let B = map built_in_name bs in
    let N = numbered (codes "table.") tables in
    record {
      own = all.own;
      each = subst (λ (l : List (List ℕ)). AreNamesOf l all.own) own all.each;
      is =
          r ∙ ap (λ (l : List (List ℕ)). l ++ N) (q ∙ ap (λ (l : List (List ℕ)). l ++ B) (p ∙ ap (λ (l : List (List ℕ)). l ++ T) all.is))
          ∙ append_assoc (all.own ++ T) B N ∙ append_assoc all.own T (B ++ N)
          ∙ (λ i. all.own ++ (numbered (codes "text.") (texts i) ++ (map built_in_name (built i) ++ N)));
    }
