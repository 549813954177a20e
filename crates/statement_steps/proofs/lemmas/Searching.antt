-- The search of a switch over tables and their sides.
use Rattle.std.specs.Prelude.{◌≡◌, ◌≢◌, ℕ, ◌+◌, ◌==◌, Bool, true, false, Result, OnOk, List, [], ◌∷◌, ◌++◌, length}
use Rattle.std.proofs.Common.{refl, sym, ap, ◌∙◌, subst}
use Rattle.std.proofs.lemmas.Bool.{true≢false}
use Rattle.std.proofs.lemmas.Result.{on_ok_weaker}
use Rattle.op_forest.specs.declared.op.Op.TheVariants as op
use Rattle.op_forest.specs.declared.suffix.Suffix.TheVariants.{V}
use Rattle.dag_forest.specs.declared.entry.Entry.{Entry}
use Rattle.c_rows_agree.specs.Places.{loaded_pointer}
use Rattle.c_rows_agree.specs.Typed.{head}
use Rattle.objects.specs.declared.operators.Comparison.TheVariants as comparison
use Rattle.lowered_forms.specs.Lows.{Low, acted_one, ended, jumped, marked}
use Rattle.lowered_statements.specs.Bodies.{Body, on_low, with_low}
use Rattle.lowered_statements.specs.Functions.{Function}
use Rattle.lowered_statements.specs.Searches.{Choice, Side, at_table, below_tested, compared_with, is_alone, one_number, one_table, place_in_table, range_tested, searched, side_at, side_by, through, way, with_way}
use Rattle.lowering_steps.specs.declared.state.State.{State}
use Rattle.lowering_steps.specs.Asking.{Acts}
use Rattle.lowering_steps.specs.States.{Shows}
use Rattle.lowering_steps.proofs.lemmas.Stating.{with_block, acts_shows}
use Rattle.switch_tables.specs.declared.table.Table.{Table}
use Rattle.switch_tables.specs.Searches.{Search, Nowhere, At, last_in, search_over}
use Rattle.statement_steps.specs.declared.progress.Progress.{Progress}
use Rattle.statement_steps.specs.Progresses.{Goes, Does}
use Rattle.statement_steps.specs.Sides.{TakesWay, side_of}
use Rattle.statement_steps.proofs.lemmas.Going.{body_as, does_then, goes_by, goes_does, goes_ok, goes_then, with_state, state_shows}

-- ---- tests, and a jump by a table

abbrev one_tested : Choice → ℕ → ℕ → ℕ → Bool → Low → Low
one_tested x n label below b l = below_tested b x n below (compared_with comparison.Equal x n label l)

pub tested_alone : (b : Bool) (x : Choice) (n label below : ℕ) (s t : State) → b ≡ true → Goes (λ l. compared_with comparison.Equal x n label l) s t
    → Goes (λ l. below_tested b x n below (compared_with comparison.Equal x n label l)) s t
tested_alone b x n label below s t e h = subst (λ (a : Bool). Goes (λ l. one_tested x n label below a l) s t) (sym e) h

pub tested_more : {T E : Type 0} (r : Result T E) (b : Bool) (x : Choice) (n label below : ℕ) (s t u : State) → b ≡ false → Goes (λ l. compared_with comparison.Equal x n label l) s t
    → OnOk r (Goes (λ l. compared_with comparison.Less x n below l) t u) → OnOk r (Goes (λ l. below_tested b x n below (compared_with comparison.Equal x n label l)) s u)
tested_more r b x n label below s t u e h k =
    on_ok_weaker r (λ g. subst (λ (a : Bool). Goes (λ l. one_tested x n label below a l) s u) (sym e) (goes_then (λ l. compared_with comparison.Equal x n label l) (λ l. compared_with comparison.Less x n below l) s t u h g)) k

pub tested_range : {T E : Type 0} (r : Result T E) (x : Choice) (table : Table) (below above last : ℕ) (s t u : State) → last ≡ last_in table → Goes (λ l. compared_with comparison.Less x table.low below l) s t
    → OnOk r (Goes (λ l. compared_with comparison.Greater x last above l) t u) → OnOk r (Goes (λ l. range_tested x table below above l) s u)
tested_range r x table below above last s t u e h k =
    on_ok_weaker r (λ g.
    goes_then (λ l. compared_with comparison.Less x table.low below l) (λ l. compared_with comparison.Greater x (last_in table) above l) s t u h
    (subst (λ (n : ℕ). Goes (λ l. compared_with comparison.Greater x n above l) t u) e g)) k

pub record GoesThrough (f : Function) (x : Choice) (t : Table) (p : Progress) (es : List Entry) (q : Progress) (name : ℕ) (labels : List ℕ) : Type 0 where
  pub name_is : name ≡ f.tables + length p.tables.items
  pub jump : Acts p.state.block (λ l. acted_one (head op.Jump V) (loaded_pointer (place_in_table x t.low name)).tree l) es
  pub end : (l : Low) → Shows (with_block p.state es) l → Shows q.state (ended l)
  pub labels_are : labels ≡ t.labels
  pub tables : q.tables.items ≡ p.tables.items ++ labels ∷ []

pub goes_through : (f : Function) (x : Choice) (t : Table) (p : Progress) (es : List Entry) (q : Progress) (name : ℕ) (labels : List ℕ) → GoesThrough f x t p es q name labels → Does (λ b. through f x t b) p q
goes_through f x t p es q name labels k = record {
  is = λ b h.
      let jump = λ (n : ℕ) (l : Low). acted_one (head op.Jump V) (loaded_pointer (place_in_table x t.low n)).tree l in
      record {
        low = subst (λ (n : ℕ). Shows q.state (ended (jump n b.low))) (k.name_is ∙ ap (λ ls. f.tables + length ls) h.tables) (k.end (jump name b.low) (acts_shows p.state b.low (λ l. jump name l) es h.low k.jump));
        tables = k.tables ∙ (λ i. h.tables i ++ k.labels_are i ∷ []);
      };
}

-- ---- sides

-- a side has a label of its own where it has a table
side_way_by : (s : Search) (code : Body → Body) (default n : ℕ) (b : Body) → side_by s code (way s default n) b ≡ side_by s code n b
side_way_by Nowhere code default n b = refl
side_way_by (At t less greater) code default n b = refl

pub side_way : (f : Function) (x : Choice) (tables : List Table) (default n : ℕ) (b : Body) → side_at (side_of f x tables) (way (search_over tables) default n) b ≡ side_at (side_of f x tables) n b
side_way f x tables default n b = side_way_by (search_over tables) (side_of f x tables).code default n b

pub no_side : (f : Function) (x : Choice) (tables : List Table) (n : ℕ) (p : Progress) → tables ≡ [] → Does (λ b. side_at (side_of f x tables) n b) p p
no_side f x tables n p e = record { is = λ b h. body_as p b (side_at (side_of f x tables) n b) (sym (ap (λ ts. side_at (side_of f x ts) n b) e)) h }

some_side_by : (s : Search) (code : Body → Body) (n : ℕ) (b : Body) → (s ≡ Nowhere → ⊥) → code (on_low (λ l. marked n l) b) ≡ side_by s code n b
some_side_by Nowhere code n b not = absurd (not refl)
some_side_by (At t less greater) code n b not = refl

-- ---- one number

pub record SearchesNumber (f : Function) (x : Choice) (n label : ℕ) (less greater : List Table) (alone : Bool) (below : ℕ) (p : Progress) (s t : State) (q r : Progress) : Type 0 where
  pub is_way : TakesWay less x.default below p.state s
  pub is_alone_is : alone ≡ is_alone (search_over less) (search_over greater)
  pub test : Goes (λ l. below_tested alone x n below (compared_with comparison.Equal x n label l)) s t
  pub above : Does (λ b. searched f x (search_over greater) b) (with_state p t) q
  pub rest : Does (λ b. side_at (side_of f x less) below b) q r

pub searches_number : (f : Function) (x : Choice) (n label : ℕ) (less greater : List Table) (alone : Bool) (below : ℕ) (p : Progress) (s t : State) (q r : Progress)
    → SearchesNumber f x n label less greater alone below p s t q r → Does (λ b. one_number x n label (side_of f x less) (side_of f x greater) b) p r
searches_number f x n label less greater alone below p s t q r k = record {
  is = λ b h.
      let a = k.is_way b.low h.low in
      let l1 = with_way (search_over less) b.low in
      let l2 = below_tested alone x n below (compared_with comparison.Equal x n label l1) in
      let d = k.above.is (with_low l2 b) (state_shows p t b l2 h (k.test.is l1 a.1)) in
      let e = k.rest.is (searched f x (search_over greater) (with_low l2 b)) d in
      let last : Body = searched f x (search_over greater) (with_low (below_tested (is_alone (search_over less) (search_over greater)) x n (way (search_over less) x.default b.low.labels) (compared_with comparison.Equal x n label l1)) b) in
      body_as r (side_at (side_of f x less) below (searched f x (search_over greater) (with_low l2 b))) (one_number x n label (side_of f x less) (side_of f x greater) b)
      ((λ i. side_at (side_of f x less) (a.0 i) (searched f x (search_over greater) (with_low (below_tested (k.is_alone_is i) x n (a.0 i) (compared_with comparison.Equal x n label l1)) b)))
      ∙ side_way f x less x.default b.low.labels last)
      e;
}

-- ---- a table

pub record SearchesTable (f : Function) (x : Choice) (t : Table) (less greater : List Table) (below above : ℕ) (p : Progress) (s u v : State) (q r o : Progress) : Type 0 where
  pub is_below : TakesWay less x.default below p.state s
  pub is_above : TakesWay greater x.default above s u
  pub test : Goes (λ l. range_tested x t below above l) u v
  pub jump : Does (λ b. through f x t b) (with_state p v) q
  pub more : Does (λ b. side_at (side_of f x greater) above b) q r
  pub rest : Does (λ b. side_at (side_of f x less) below b) r o

pub searches_table : (f : Function) (x : Choice) (t : Table) (less greater : List Table) (below above : ℕ) (p : Progress) (s u v : State) (q r o : Progress)
    → SearchesTable f x t less greater below above p s u v q r o → Does (λ b. one_table f x t (side_of f x less) (side_of f x greater) b) p o
searches_table f x t less greater below above p s u v q r o k = record {
  is = λ b h.
      let l1 = with_way (search_over less) b.low in
      let l2 = with_way (search_over greater) l1 in
      let a = k.is_below b.low h.low in
      let c = k.is_above l1 a.1 in
      let l3 = range_tested x t below above l2 in
      let d = k.jump.is (with_low l3 b) (state_shows p v b l3 h (k.test.is l2 c.1)) in
      let e = k.rest.is _ (k.more.is _ d) in
      let b3 : Body = through f x t (with_low (range_tested x t (way (search_over less) x.default b.low.labels) (way (search_over greater) x.default l1.labels) l2) b) in
      body_as o (side_at (side_of f x less) below (side_at (side_of f x greater) above (through f x t (with_low l3 b)))) (one_table f x t (side_of f x less) (side_of f x greater) b)
      ((λ i. side_at (side_of f x less) (a.0 i) (side_at (side_of f x greater) (c.0 i) (through f x t (with_low (range_tested x t (a.0 i) (c.0 i) l2) b))))
      ∙ side_way f x less x.default b.low.labels (side_at (side_of f x greater) (way (search_over greater) x.default l1.labels) b3)
      ∙ ap (λ (y : Body). side_at (side_of f x less) b.low.labels y) (side_way f x greater x.default l1.labels b3))
      e;
}

-- ---- the table in the middle

pub at_single : (labels : List ℕ) (label : ℕ) (f : Function) (x : Choice) (t : Table) (less greater : Side) (b : Body) → labels ≡ label ∷ []
    → one_number x t.low label less greater b ≡ at_table labels f x t less greater b
at_single labels label f x t less greater b e = sym (ap (λ ns. at_table ns f x t less greater b) e)

pub search_at : (f : Function) (x : Choice) (tables less greater : List Table) (t : Table) (b : Body) → search_over tables ≡ At t (search_over less) (search_over greater)
    → at_table t.labels f x t (side_of f x less) (side_of f x greater) b ≡ searched f x (search_over tables) b
search_at f x tables less greater t b e = sym (ap (λ s. searched f x s b) e)

pub at_many : (labels : List ℕ) (f : Function) (x : Choice) (t : Table) (less greater : Side) (b : Body) → length labels ≢ 1
    → one_table f x t less greater b ≡ at_table labels f x t less greater b
at_many [] f x t less greater b e = refl
at_many (a ∷ []) f x t less greater b e = absurd (e refl)
at_many (a ∷ c ∷ cs) f x t less greater b e = refl

pub no_tables : {T E : Type 0} (r : Result T E) (f : Function) (x : Choice) (tables : List Table) (p : Progress) (s : State) → tables ≡ []
    → ((l : Low) → Shows p.state l → OnOk r (Shows s (jumped x.default l))) → OnOk r (Does (λ b. searched f x (search_over tables) b) p (with_state p s))
no_tables r f x tables p s e h =
    on_ok_weaker r (λ g. subst (λ (ts : List Table). Does (λ b. searched f x (search_over ts) b) p (with_state p s)) (sym e) (goes_does (λ l. jumped x.default l) p s g)) (goes_ok r (λ l. jumped x.default l) p.state s h)

pub some_side : {T E : Type 0} (r : Result T E) (f : Function) (x : Choice) (tables : List Table) (n : ℕ) (p : Progress) (s : State) (q : Progress) → (length tables == 0) ≡ false
    → ((l : Low) → Shows p.state l → Shows s (marked n l)) → OnOk r (Does (λ b. searched f x (search_over tables) b) (with_state p s) q)
    → OnOk r (Does (λ b. side_at (side_of f x tables) n b) p q)
some_side r f x [] n p s q e mark h = absurd (true≢false e)
some_side r f x (t ∷ ts) n p s q e mark h =
    on_ok_weaker r (λ g.
    does_then (λ b. on_low (λ l. marked n l) b) (λ b. searched f x (search_over (t ∷ ts)) b) p (with_state p s) q (goes_does (λ l. marked n l) p s (goes_by (λ l. marked n l) p.state s mark)) g) h
