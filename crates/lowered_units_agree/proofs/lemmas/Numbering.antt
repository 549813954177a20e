-- The names of a lowered unit are numbered: its functions, objects and texts as C's unit numbers them, and behind them the built-in functions and the tables.
use Rattle.std.specs.Prelude.{◌≡◌, ◌≤◌, ◌<◌, ℕ, zero, suc, ◌+◌, ◌-◌, nat_lt, Bool, true, false, IsSome, Option, Some, None, List, [], ◌∷◌, ◌++◌, length, map, slice_get, codes, if◌then◌else◌}
use Rattle.std.specs.Option.{option_map}
use Rattle.std.proofs.Common.{refl, sym, ap, subst, ◌∙◌, arith}
use Rattle.std.proofs.lemmas.Bool.Decides.{nat_tests}
use Rattle.std.proofs.lemmas.List.{length-append}
use Rattle.std.proofs.lemmas.Option.{slice_get-map}
use Rattle.lcc_base.specs.declared.order.Order.{Order}
use Rattle.op_forest.specs.declared.lowered.LoweredObject.{LoweredObject}
use Rattle.op_forest.specs.Callees as callee
use Rattle.op_forest.specs.Lowered.{LoweredUnit}
use Rattle.op_forest.specs.Units.{built_in_named, built_in_of, named_by}
use Rattle.c_meaning.specs.declared.built_in.BuiltIn.{BuiltIn}
use Rattle.c_meaning.specs.declared.built_in.BuiltIn.TheVariants.{Putchar, Getchar, Exit}
use Rattle.c_meaning.specs.Units.{FunctionTree, ObjectTree, UnitTree, names}
use Rattle.c_runs.specs.Calls.{built_in_at, built_ins, first_built_in}
use Rattle.c_runs.specs.Worlds.{objects}
use Rattle.c_calls_agree.specs.Programs.{provided_as}
use Rattle.lowered_data.specs.Data.{Image, HaveHomes, image}
use Rattle.lowered_data.specs.Numbering.{AreNumbered}
use Rattle.lowered_names.specs.UnitNames.{AreNamesOf, built_in_name, numbered}
use Rattle.lowered_units.specs.LoweredUnits.{IsLoweredUnit}
use Rattle.lowered_units.specs.Tables.{all_tables, bodies, first_table, table_count}
use Rattle.lowered_units.proofs.lemmas.Owning.{behind_own, own_many}
use Rattle.lowered_units.proofs.lemmas.Placing.{function_named, functions_many, get_left, get_right, one_there, tables_named}

-- ---- lists of names

names_many : (ns ms : List (List ℕ)) → AreNamesOf ns ms → length ms ≡ length ns
names_many [] [] h = refl
names_many [] (m ∷ ms) h = absurd h
names_many (n ∷ ns) [] h = absurd h
names_many (n ∷ ns) (m ∷ ms) h = ap suc (names_many ns ms h.1)

numbered_many : (front : List ℕ) (n : ℕ) → length (numbered front n) ≡ n
numbered_many front zero = refl
numbered_many front (suc n) = length-append (numbered front n) _ ∙ (let h = numbered_many front n in omega (arith, h))

mapped_many : {A B : Type 0} (f : A → B) (xs : List A) → length (map f xs) ≡ length xs
mapped_many f [] = refl
mapped_many f (x ∷ xs) = ap suc (mapped_many f xs)

own_names_many : (u : UnitTree) → length (names u) ≡ length u.functions + length u.objects
own_names_many u =
    length-append (map (λ (f : FunctionTree). f.name) u.functions) (map (λ (o : ObjectTree). o.name) u.objects)
    ∙ (let m = mapped_many (λ (f : FunctionTree). f.name) u.functions in let n = mapped_many (λ (o : ObjectTree). o.name) u.objects in omega (arith, m, n))

-- ---- built-in functions

-- its number and its place among those that the unit doesn't define
pub record IsBuiltIn (u : UnitTree) (n : ℕ) (b : BuiltIn) : Type 0 where
  pub place : ℕ
  pub number : n ≡ first_built_in u + place
  pub there : slice_get (built_ins u) place ≡ Some b

pub is_built_in : (u : UnitTree) (n : ℕ) (b : BuiltIn) → built_in_at u n ≡ Some b → IsBuiltIn u n b
is_built_in u n b e = by (nat_lt n (first_built_in u)) refl e
  where
    by : (c : Bool) → nat_lt n (first_built_in u) ≡ c → (if c then None else slice_get (built_ins u) (n - first_built_in u)) ≡ Some b → IsBuiltIn u n b
    by true t i = absurd (let never : ⊥ = cc in never)
    by false t i =
        let more : first_built_in u ≤ n = search (nat_tests, arith) in
        record { place = n - first_built_in u; number = omega (arith, more); there = i }

named_so : (b : BuiltIn) → built_in_of (built_in_name b) ≡ Some (provided_as b)
named_so Putchar = refl
named_so Getchar = refl
named_so Exit = refl

module _ (u : UnitTree) (order : Order) (l : LoweredUnit) (i : IsLoweredUnit u order l) where
  name_there : (n : ℕ) (b : BuiltIn) → IsBuiltIn u n b → slice_get l.names n ≡ Some (built_in_name b)
  name_there n b h =
      let k = h.place in
      let at = h.number in
      let own = i.names.own in
      let texts = numbered (codes "text.") (length u.texts) in
      let built = map built_in_name (built_ins u) in
      let tables = numbered (codes "table.") (table_count (bodies u order)) in
      let many = names_many (names u) own i.names.each in
      let count = own_names_many u in
      let texts_count = numbered_many (codes "text.") (length u.texts) in
      ap (λ (ns : List (List ℕ)). slice_get ns n) i.names.is
      ∙ get_right own (texts ++ (built ++ tables)) (length u.texts + k) n (omega (arith, at, many, count))
      ∙ get_right texts (built ++ tables) k (length u.texts + k) (omega (arith, texts_count))
      ∙ get_left built tables k (built_in_name b) (slice_get-map built_in_name (built_ins u) k ∙ ap (option_map built_in_name) h.there)

  pub built_in_there : (n : ℕ) (b : BuiltIn) → built_in_at u n ≡ Some b → built_in_named l n ≡ Some (provided_as b)
  built_in_there n b e = ap named_by (name_there n b (is_built_in u n b e)) ∙ named_so b

  built_in_some : (n : ℕ) → IsSome (built_in_at u n) → IsSome (built_in_named l n)
  built_in_some n h = by (built_in_at u n) refl h
    where
      by : (o : Option BuiltIn) → built_in_at u n ≡ o → IsSome o → IsSome (built_in_named l n)
      by None e k = absurd (let never : ⊥ = cc in never)
      by (Some b) e k = subst (λ (o : Option callee.BuiltIn). IsSome o) (sym (built_in_there n b e)) refl

  -- ---- objects

  home_named : (m : Image) (place : ℕ) (ds : List LoweredObject) (n : ℕ) (o : LoweredObject) → HaveHomes m place ds → slice_get ds n ≡ Some o → o.name ≡ length m.unit.functions + (place + n)
  home_named m place [] n o h e = absurd (let never : ⊥ = cc in never)
  home_named m place (d ∷ ds) zero o h e = let same : d ≡ o = cc in ap (λ (x : LoweredObject). x.name) (sym same) ∙ h.0.is.name ∙ omega arith
  home_named m place (d ∷ ds) (suc n) o h e = home_named m (place + 1) ds n o h.1 e ∙ omega arith

  -- an object of the unit's own
  pub own_named : (n : ℕ) (o : LoweredObject) → slice_get l.objects n ≡ Some o → n < length u.objects + length u.texts → o.name ≡ length u.functions + n
  own_named n o e h =
      let many = own_many u order l i in
      let x = one_there i.own n (omega (arith, many, h)) in
      let there = ap (λ (os : List LoweredObject). slice_get os n) i.objects ∙ get_left i.own (all_tables 0 (first_table u) (bodies u order)) n x.0 x.1 in
      let same : Some x.0 ≡ Some o = sym there ∙ e in
      let alike : x.0 ≡ o = cc in
      home_named (image u order (objects i.holds.world)) 0 i.own n o i.holds.homes (x.1 ∙ ap (λ (y : LoweredObject). Some y) alike) ∙ omega arith

  -- a table
  pub table_named : (n k : ℕ) (o : LoweredObject) → slice_get l.objects n ≡ Some o → n ≡ length u.objects + length u.texts + k → o.name ≡ first_table u + k
  table_named n k o e at = tables_named 0 (first_table u) (bodies u order) k o (sym (behind_own u order l i n k at) ∙ e)

  pub names_numbered : AreNumbered u l
  names_numbered = record {
    many = functions_many 0 u.functions (bodies u order) l.functions i.functions;
    functions = λ n f e. function_named 0 u.functions (bodies u order) l.functions n f i.functions e ∙ omega arith;
    enough =
        let many = own_many u order l i in
        let all = ap (λ (os : List LoweredObject). length os) i.objects ∙ length-append i.own (all_tables 0 (first_table u) (bodies u order)) in
        omega (arith, many, all);
    objects = own_named;
    tables = λ n o e h.
        let k : ℕ = n - (length u.objects + length u.texts) in
        let r = table_named n k o e (omega (arith, h)) in
        omega (arith, r);
    built_ins = built_in_some;
  }
