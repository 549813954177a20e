-- Functions, bodies and tables behind others.
use Rattle.std.specs.Prelude.{◌≡◌, ℕ, suc, ◌+◌, List, [], ◌∷◌, ◌++◌, length}
use Rattle.std.proofs.Common.{refl, sym, ap, ◌∙◌, subst, arith, append-nil, append_assoc}
use Rattle.op_forest.specs.declared.lowered.LoweredFunction.{LoweredFunction}
use Rattle.op_forest.specs.declared.lowered.LoweredObject.{LoweredObject}
use Rattle.c_meaning.specs.Units.{FunctionTree}
use Rattle.lowered_statements.specs.Bodies.{Body}
use Rattle.lowered_units.specs.LoweredUnits.{AreLoweredFunctions, IsLoweredFunction}
use Rattle.lowered_units.specs.Tables.{all_tables, table_count, table_objects}

pub functions_behind : (n m : ℕ) (fs : List FunctionTree) (bs : List Body) (gs : List LoweredFunction) (f : FunctionTree) (b : Body) (g : LoweredFunction)
    → m ≡ n + length fs → AreLoweredFunctions n fs bs gs → IsLoweredFunction m f b g → AreLoweredFunctions n (fs ++ f ∷ []) (bs ++ b ∷ []) (gs ++ g ∷ [])
functions_behind n m [] [] [] f b g e h i = (subst (λ k. IsLoweredFunction k f b g) (omega (arith, e)) i, tt)
functions_behind n m [] [] (x ∷ gs) f b g e h i = absurd h
functions_behind n m [] (c ∷ bs) gs f b g e h i = absurd h
functions_behind n m (x ∷ fs) [] gs f b g e h i = absurd h
functions_behind n m (x ∷ fs) (c ∷ bs) [] f b g e h i = absurd h
functions_behind n m (x ∷ fs) (c ∷ bs) (y ∷ gs) f b g e h i = (h.0, functions_behind (suc n) m fs bs gs f b g (omega (arith, e)) h.1 i)

pub tables_behind : (n m name k : ℕ) (bs : List Body) (b : Body) → m ≡ n + length bs → k ≡ name + table_count bs
    → all_tables n name (bs ++ b ∷ []) ≡ all_tables n name bs ++ table_objects m k b.tables
tables_behind n m name k [] b e i =
    append-nil (table_objects n name b.tables)
    ∙ (let p : n ≡ m = omega (arith, e) in let q : name ≡ k = omega (arith, i) in λ j. table_objects (p j) (q j) b.tables)
tables_behind n m name k (c ∷ bs) b e i =
    ap (λ os. table_objects n name c.tables ++ os) (tables_behind (suc n) m (name + length c.tables) k bs b (omega (arith, e)) (omega (arith, i)))
    ∙ sym (append_assoc (table_objects n name c.tables) (all_tables (suc n) (name + length c.tables) bs) (table_objects m k b.tables))

pub count_behind : (bs : List Body) (b : Body) → table_count (bs ++ b ∷ []) ≡ table_count bs + length b.tables
count_behind [] b = omega arith
count_behind (c ∷ bs) b = let h = count_behind bs b in omega (arith, h)

-- ---- one table more

pub objects_behind : (n name k : ℕ) (ts : List (List ℕ)) (t : List ℕ) → k ≡ name + length ts → table_objects n name (ts ++ t ∷ []) ≡ table_objects n name ts ++ table_objects n k (t ∷ [])
objects_behind n name k [] t e = let p : name ≡ k = omega (arith, e) in λ j. table_objects n (p j) (t ∷ [])
objects_behind n name k (x ∷ ts) t e = ap (λ os. table_objects n name (x ∷ []) ++ os) (objects_behind n (suc name) k ts t (omega (arith, e)))
