-- Walks over what stands in the scope of a definition's parameters: the declarations of old-style ones, and the body.
use Rattle.std.proofs.Common.{◌≡◌, ℕ, ◌<◌, true, false, List, [], ◌∷◌, length, map, suc, refl, sym, ap, ◌∙◌}
use Rattle.std.specs.Prelude.{Result, Ok, Err, IsErrAnd}
use Rattle.c_ast.specs.Trees.{BlockTree, DeclarationTree}
use Rattle.c_symbols.specs.Scoping.{Scoping}
use Rattle.c_types.specs.CType.{CType}
use Rattle.c_types.specs.Table.{Extends, Table, type_at}
use Rattle.c_meaning.specs.declared.core_stmt.CoreStmt.{CoreStmt}
use Rattle.c_meaning.specs.Declarations.{Naming as NamingTrees}
use Rattle.c_meaning.specs.Linkage.{with_count}
use Rattle.c_meaning.specs.Rows.{result_type}
use Rattle.c_meaning.specs.State.{State}
use Rattle.c_meaning.specs.StmtTrees.{StmtOf}
use Rattle.c_meaning.specs.Typing.{Fine, Outcome, then_do, unless}
use Rattle.c_values.specs.declared.check_fault.CheckFault.{CheckFault}
use Rattle.c_values.specs.declared.check_fault.CheckFault.TheVariants.{Constraint}
use Rattle.c_check_expr.specs.Keeps.{Keeps}
use Rattle.c_check_expr.specs.Known.{state_of}
use Rattle.c_check_expr.specs.Kept.{below_later, keeps_itself, keeps_on}
use Rattle.c_check_expr.proofs.lemmas.Walking.{first_stops, walk_as, walk_then}
use Rattle.c_check_expr.specs.Walks.{Walks}
use Rattle.c_check_decl.specs.Named.{linked, naming_in}
use Rattle.c_units.specs.Bodies.{Typed, Within as WithinTrees, typed_block}
use Rattle.c_units.specs.Functions.{lost_fault, nowhere, started, types_of, with_all_listed}
use Rattle.c_units.specs.Marks.{block_labels, firsts}
use Rattle.c_stmt_parts.specs.declared.around.Within.{Within}
use Rattle.c_stmt_parts.specs.declared.body.Body.{Body}
use Rattle.c_stmt_parts.specs.BodiesSeen.{body_in, within_in}
use Rattle.c_stmt_parts.specs.StatementsIn.{IsCodeIn, WalksStmt, block_in, code_in}
use Rattle.c_check_function.specs.declared.function_definitions.Defines.{Defines}
use Rattle.c_check_function.specs.declared.function_definitions.Own.{Own}
use Rattle.c_check_function.specs.declared.parameters.Parameters.{Parameters}
use Rattle.c_check_function.specs.declared.parameters.Parameters.TheVariants as own
use Rattle.c_check_function.specs.Defined.{AreDefinedIn, DefinesTrees, defines_in, function_by, in_scope_in, with_parameters}
use Rattle.c_check_function.specs.FunctionsSeen.{no_types, no_value, old_declarations_in}
use Rattle.c_check_function.specs.OwnParameters.{AreOwnIn, own_names, own_types}
use Rattle.c_check_function.proofs.StepsStay.{parameters_later, parameters_stay}

-- ---- parameters, seen over a later table

own_stay : (s : State) (a b : Table) → Extends a b → (p : Parameters) → AreOwnIn (length a.forms) p → own_types s b p ≡ own_types s a p
own_stay s a b h (own.Typed ps) i = ap types_of (parameters_stay a b h ps i)
own_stay s a b h (own.Named names) i = refl

pub own_later : (a b : Table) → Extends a b → (p : Parameters) → AreOwnIn (length a.forms) p → AreOwnIn (length b.forms) p
own_later a b h (own.Typed ps) i = parameters_later a b h ps i
own_later a b h (own.Named names) i = tt

mapped_length : {A B : Type 0} (f : A → B) (xs : List A) → length (map f xs) ≡ length xs
mapped_length f [] = refl
mapped_length f (x ∷ xs) = ap suc (mapped_length f xs)

-- ---- behind the declarations of old-style parameters

module _ (s : Scoping) (a : Table) (line : ℕ) (o : Own) (olds : List DeclarationTree) (body : BlockTree) where
  abbrev n : NamingTrees
  n = naming_in a o.naming

  abbrev names : List (List ℕ)
  names = own_names o.parameters

  abbrev listed : State → State
  listed m = with_all_listed m line 0 names

  abbrev behind : State → Unit {0} → Outcome DefinesTrees
  behind m v = with_parameters line n (own_types (listed m) a o.parameters) body (listed m)

  in_scope_is : in_scope_in s a line o olds body ≡ then_do (old_declarations_in s a names olds) behind
  unfolding in_scope_in old_declarations_in
  in_scope_is = refl

  pub scope_stops : (u : Scoping) (c : Table) (e : CheckFault) (r : Result Defines CheckFault) → IsErrAnd r (λ x. x ≡ e) → Walks no_value no_types (old_declarations_in s a names olds) s a u c (Err e) → Walks defines_in AreDefinedIn (in_scope_in s a line o olds body) s a u c r
  scope_stops u c e r h w = walk_as _ _ in_scope_is (first_stops defines_in AreDefinedIn (old_declarations_in s a names olds) behind r h w)

  module _ (m : Scoping) (t : Table) (first : Walks no_value no_types (old_declarations_in s a names olds) s a m t (Ok tt)) where
    scope_goes : (u : Scoping) (c : Table) (r : Result Defines CheckFault) → Walks defines_in AreDefinedIn (behind (state_of m t) tt) m t u c r → Walks defines_in AreDefinedIn (in_scope_in s a line o olds body) s a u c r
    scope_goes u c r w = walk_as _ _ in_scope_is (walk_then defines_in AreDefinedIn (old_declarations_in s a names olds) behind s m u a t c tt r first w)

    -- ---- the body

    module _ (v : Scoping) (types : List ℕ) (count : ℕ) (w : Within) (x : Body) (in_own : AreOwnIn (length a.forms) o.parameters) (in_naming : o.naming.of < length a.forms) (counted : count ≡ length types) (locals : (q : State) → q ≡ listed (state_of m t) → map (type_at t) types ≡ own_types q t o.parameters)
        (state : state_of v t ≡ with_count (listed (state_of m t)) count) (result : type_at t w.result ≡ result_type (type_at t o.naming.of)) (labels : w.labels ≡ firsts [] (block_labels 0 body)) (starts : body_in t x ≡ started (map (type_at t) types)) (kept : Keeps m t v t) where
      abbrev ts : List CType
      ts = own_types (listed (state_of m t)) a o.parameters

      types_are : map (type_at t) types ≡ ts
      types_are = locals (listed (state_of m t)) refl ∙ own_stay (listed (state_of m t)) a t first.keeps.extends o.parameters in_own

      count_is : count ≡ length ts
      count_is = counted ∙ sym (mapped_length (type_at t) types) ∙ ap length types_are

      abbrev f : WithinTrees
      f = record { result = result_type n.of; labels = firsts [] (block_labels 0 body) }

      within_is : within_in t w ≡ f
      within_is =
          ap (λ (l : List (List ℕ × ℕ)). record { result = type_at t w.result; labels = l }) labels
          ∙ ap (λ (y : CType). record { result = y; labels = firsts [] (block_labels 0 body) }) (result ∙ ap result_type (first.keeps.extends.types_stay o.naming.of in_naming))

      abbrev ends : State → Typed (StmtOf CType) → Outcome DefinesTrees
      ends u y = unless (lost_fault line y.body.lost) u (function_by u n (length ts) y)

      block_is : block_in (within_in t w) nowhere v t (body_in t x) body ≡ typed_block f nowhere (with_count (listed (state_of m t)) (length ts)) (started ts) body
      unfolding block_in
      block_is =
          ap (λ g. typed_block g nowhere (state_of v t) (body_in t x) body) within_is
          ∙ ap (λ y. typed_block f nowhere y (body_in t x) body) (state ∙ ap (with_count (listed (state_of m t))) count_is)
          ∙ ap (λ y. typed_block f nowhere (with_count (listed (state_of m t)) (length ts)) y body) (starts ∙ ap started types_are)

      behind_is : behind (state_of m t) tt ≡ then_do (block_in (within_in t w) nowhere v t (body_in t x) body) ends
      behind_is = ap (λ p. then_do p ends) (sym block_is)

      -- from the scopes as they are before its parameters
      moved : (u : Scoping) (c : Table) (r : Result Defines CheckFault) (p : Outcome DefinesTrees) → Walks defines_in AreDefinedIn p v t u c r → Walks defines_in AreDefinedIn p m t u c r
      moved u c r p h = record { ok = h.ok; err = h.err; within = h.within; keeps = keeps_on m v u t t c kept h.keeps }

      pub body_stops : (u : Scoping) (c : Table) (e : CheckFault) (r : Result Defines CheckFault) → IsErrAnd r (λ d. d ≡ e) → Walks code_in IsCodeIn (block_in (within_in t w) nowhere v t (body_in t x) body) v t u c (Err e)
          → Walks defines_in AreDefinedIn (in_scope_in s a line o olds body) s a u c r
      body_stops u c e r h p =
          scope_goes u c r (walk_as _ _ behind_is (moved u c r (then_do (block_in (within_in t w) nowhere v t (body_in t x) body) ends)
          (first_stops defines_in AreDefinedIn (block_in (within_in t w) nowhere v t (body_in t x) body) ends r h p)))

      module _ (u : Scoping) (c : Table) (y : Body) (code : CoreStmt) (done : WalksStmt (block_in (within_in t w) nowhere v t (body_in t x) body) v t u c y (Ok code)) where
        body_goes : (r : Result Defines CheckFault) → Walks defines_in AreDefinedIn (ends (state_of u c) (code_in c (y, code))) u c u c r → Walks defines_in AreDefinedIn (in_scope_in s a line o olds body) s a u c r
        body_goes r h =
            scope_goes u c r (walk_as _ _ behind_is (moved u c r (then_do (block_in (within_in t w) nowhere v t (body_in t x) body) ends)
            (walk_then defines_in AreDefinedIn (block_in (within_in t w) nowhere v t (body_in t x) body) ends v u u t c c (y, code) r done h)))

        pub body_breaks : y.lost ≡ true → Walks defines_in AreDefinedIn (in_scope_in s a line o olds body) s a u c (Err (Constraint 50 line))
        body_breaks h =
            body_goes (Err (Constraint 50 line))
            (record { ok = tt; err = ap (λ l. unless (lost_fault line l) (state_of u c) (function_by (state_of u c) n (length ts) (code_in c (y, code)))) h; within = tt; keeps = keeps_itself u c done.keeps.symbols })

        whole : Extends a c
        whole = (keeps_on s m u a t c first.keeps (keeps_on m v u t t c kept done.keeps)).extends

        function_is : (d : Defines) → defines_in c d ≡ function_by (state_of u c) (naming_in c o.naming) count (code_in c (y, code)) → function_by (state_of u c) n (length ts) (code_in c (y, code)) ≡ defines_in c d
        function_is d h =
            sym (h ∙ ap (λ (of : CType). function_by (state_of u c) (record { class = o.naming.class; name = o.naming.name; of = of; linkage = linked o.naming.linkage }) count (code_in c (y, code))) (whole.types_stay o.naming.of in_naming)
            ∙ ap (λ k. function_by (state_of u c) n k (code_in c (y, code))) count_is)

        pub body_fine : (d : Defines) → y.lost ≡ false → defines_in c d ≡ function_by (state_of u c) (naming_in c o.naming) count (code_in c (y, code)) → (o.naming.of < length c.forms → IsCodeIn (length c.forms) (y, code) → AreDefinedIn (length c.forms) d)
            → Walks defines_in AreDefinedIn (in_scope_in s a line o olds body) s a u c (Ok d)
        body_fine d h e i =
            body_goes (Ok d)
            (record {
              ok = ap (λ l. unless (lost_fault line l) (state_of u c) (function_by (state_of u c) n (length ts) (code_in c (y, code)))) h ∙ ap (Fine (state_of u c)) (function_is d e);
              err = tt;
              within = i (below_later a c whole o.naming.of in_naming) done.within;
              keeps = keeps_itself u c done.keeps.symbols;
            })
