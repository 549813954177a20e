-- What a body comes to, its call comes to.
use Rattle.std.specs.Prelude.{◌≡◌, ◌≤◌, ◌<◌, ℕ, zero, suc, ◌+◌, ◌==◌, Bool, true, false, Option, Some, None, Result as Checked, Ok, Err, List, [], ◌∷◌, length, take, nat_eq, slice_get}
use Rattle.std.proofs.Common.{refl, sym, ap, subst, ◌∙◌, arith}
use Rattle.std.proofs.lemmas.Bool.{and_parts, eq-eqb, eqb-true}
use Rattle.std.proofs.lemmas.Option.{slice_get_within}
use Rattle.lcc_base.specs.declared.cause.Cause.{Cause}
use Rattle.objects.specs.declared.purpose.Purpose.TheVariants.{Initialisation}
use Rattle.objects.specs.declared.value.Value.{Value}
use Rattle.objects.specs.declared.value.Value.TheVariants.{Number}
use Rattle.objects.specs.Copies.{copied}
use Rattle.objects.specs.Objects.{Object as Old}
use Rattle.op_forest.specs.Lowered.{LoweredUnit}
use Rattle.forests.specs.Functions.{answered, value_or, left_behind}
use Rattle.forests.specs.Objects.{Object}
use Rattle.forests.specs.Words.{Word, Plain}
use Rattle.forests.specs.Worlds.{World, Outcome}
use Rattle.c_types.specs.CType.{CType, Plain as Of, Array, Simple, Pointer, Function, Structure, Union, Enumeration, Kind, unqualified}
use Rattle.c_types.specs.Compatible.{compatible, kinds_compatible}
use Rattle.c_types.specs.declared.extent.Extent.{Extent}
use Rattle.c_types.specs.Layout.{Tag, extent, kind_extent, known, size_or_zero}
use Rattle.c_meaning.specs.Rows.{result_type, parameters_type}
use Rattle.c_meaning.specs.Types.{is_record, is_record_kind}
use Rattle.c_meaning.specs.Units.{FunctionTree, UnitTree}
use Rattle.c_runs.specs.Calls.{Call, arguments_fit, result_fits, is_open, own_parameters, handed, returned}
use Rattle.c_runs.specs.Outcomes.{Undefined, OutOfTurns, Exit, Out, Next, Break, Continue, Return, Goto, Over, Gives, GivesNone, Ends, if_fine}
use Rattle.c_runs.specs.Places.{assigned}
use Rattle.c_runs.specs.Soundness.{Outline, outlines, Keeps, IsSound, IsSoundOut, CopiesStaySound}
use Rattle.c_runs.specs.Worlds as c
use Rattle.lcc_base.specs.Traces.{Closed}
use Rattle.c_match.specs.Left.{IsPrivate, IsLeft}
use Rattle.c_match.specs.Ranges.{Map, Grown}
use Rattle.c_match.proofs.lemmas.Growing.{grown_trans}
use Rattle.c_match_worlds.proofs.lemmas.Calling.{call_closes}
use Rattle.c_agreement.specs.CameTo.{CameTo, Returns, ExitsWith, GoesOn}
use Rattle.c_agreement.specs.Pairs.{CallPair, pair_of, own_count, target_run}
use Rattle.c_agreement.specs.Results.{Later, IsCallResult}
use Rattle.piece_runs.specs.Reaches.{Stops}
use Rattle.c_expr_agreement.specs.LoweredExpr.{Left}
use Rattle.c_stmt_agreement.specs.Comings.{Activation, Origin, Ending, IsWordOf, IsNoValue, IsAnything, ReturnedCopy, ReturnedValue}
use Rattle.c_stmt_agreement.specs.Comings as came
use Rattle.c_stmts_agree.specs.FunctionBodies.{CameBack}
use Rattle.c_entries_agree.specs.Activations.{activation, ending, scene_of, start_of, Enters}
use Rattle.c_entries_agree.specs.Laws.{IsCallOf}
use Rattle.c_entries_agree.specs.Lowered.{IsFunctionLowering}
use Rattle.c_entries_agree.proofs.lemmas.Above.{one_there}
use Rattle.c_entries_agree.proofs.lemmas.Frames.{fit, result_is_whole}
use Rattle.c_functions_agree.proofs.lemmas.Bodies.{body_runs}

-- ---- lists

kept : {A : Type 0} (n : ℕ) (xs : List A) (k : ℕ) → k < n → slice_get (take n xs) k ≡ slice_get xs k
kept zero xs k h = absurd (let never : ⊥ = omega (arith, h) in never)
kept (suc n) [] k h = refl
kept (suc n) (x ∷ xs) zero h = refl
kept (suc n) (x ∷ xs) (suc k) h = kept n xs k (omega (arith, h))

-- ---- structures of compatible types are copied alike

same_known : (tags : List Tag) (n m : ℕ) → nat_eq n m ≡ true → known tags n ≡ known tags m
same_known tags n m e = ap (known tags) (eqb-true n m e)

kinds_alike : (tags : List Tag) (a b : Kind) → is_record_kind a ≡ true → kinds_compatible a b ≡ true → kind_extent (known tags) a ≡ kind_extent (known tags) b
kinds_alike tags (Structure n) (Structure m) h e = same_known tags n m e
kinds_alike tags (Union n) (Union m) h e = same_known tags n m e
kinds_alike tags (Structure n) (Simple b) h e = absurd (let never : ⊥ = cc in never)
kinds_alike tags (Structure n) (Pointer to) h e = absurd (let never : ⊥ = cc in never)
kinds_alike tags (Structure n) (Function result parameters) h e = absurd (let never : ⊥ = cc in never)
kinds_alike tags (Structure n) (Union m) h e = absurd (let never : ⊥ = cc in never)
kinds_alike tags (Structure n) (Enumeration m) h e = absurd (let never : ⊥ = cc in never)
kinds_alike tags (Union n) (Simple b) h e = absurd (let never : ⊥ = cc in never)
kinds_alike tags (Union n) (Pointer to) h e = absurd (let never : ⊥ = cc in never)
kinds_alike tags (Union n) (Function result parameters) h e = absurd (let never : ⊥ = cc in never)
kinds_alike tags (Union n) (Structure m) h e = absurd (let never : ⊥ = cc in never)
kinds_alike tags (Union n) (Enumeration m) h e = absurd (let never : ⊥ = cc in never)
kinds_alike tags (Simple b) d h e = absurd (let never : ⊥ = cc in never)
kinds_alike tags (Pointer to) d h e = absurd (let never : ⊥ = cc in never)
kinds_alike tags (Function result parameters) d h e = absurd (let never : ⊥ = cc in never)
kinds_alike tags (Enumeration n) d h e = absurd (let never : ⊥ = cc in never)

types_alike : (tags : List Tag) (t u : CType) → is_record t ≡ true → compatible (unqualified t) u ≡ true → extent tags t ≡ extent tags u
types_alike tags (Of p a) (Of q b) h e = kinds_alike tags a b h (and_parts (nat_eq 0 q) (kinds_compatible a b) e).1
types_alike tags (Of p a) (Array of n) h e = absurd (let never : ⊥ = cc in never)
types_alike tags (Array of n) u h e = absurd (let never : ⊥ = cc in never)

-- ---- what is kept

keeps_join : (a b d : c.World) → Keeps a b → Keeps b d → Keeps a d
keeps_join a b d x y = record { made = (let p = x.made in let q = y.made in omega (arith, p, q)); lives = y.lives ∙ x.lives; locals = y.locals ∙ x.locals }

-- ---- what the call comes to

module _ (u : UnitTree) (l : LoweredUnit) (f : FunctionTree) (a : Call) (map : Map) (w : World) (is : IsCallOf u l f a map w) (x : IsFunctionLowering u l a.function f) (k : ℕ) (old : c.World) (e : Enters u l a.function f x a map w k old) where
  abbrev pair : CallPair
  pair = pair_of u l a map w

  abbrev p : Activation
  p = activation u l a.function f x a w

  abbrev gives : Ending
  gives = ending u l a.function f x a

  abbrev start : ℕ → Outcome
  start = start_of u l a.function f x w

  abbrev o : Origin
  o = record { start = start; turns = k; map = e.later; old = old; world = e.world }

  lives : (final : c.World) → Keeps old final → (place : ℕ) → place < length (c.objects a.world) → slice_get (outlines (c.objects final)) place ≡ slice_get (outlines (c.objects a.world)) place
  lives final keeps place lt = ap (λ (os : List Outline). slice_get os place) keeps.lives ∙ e.lives place lt

  module _ (given : Map → Option Word → Type 0) (final : c.World) (j : ℕ) (r : came.Returned p o given final j) (keeps : Keeps old final) where
    left_so : IsLeft map (c.objects a.world) w.objects (left_behind w r.world).objects
    left_so place lt private =
        let y = one_there w.objects place lt in
        let before = e.left place lt private in
        let longer = slice_get_within e.world.objects place y.0 (before.0 ∙ y.1) in
        kept (length w.objects) r.world.objects place lt ∙ r.left place longer before.1 (λ taken. let le = taken.0 in let never : ⊥ = omega (arith, le, lt) in never) ∙ before.0

    call_returns : (v : Option Value) → ((later : Map) (word : Option Word) → given later word → IsCallResult pair later v (value_or word)) → Returns pair k v j (c.left_behind Closed a.world final)
    call_returns v is_result =
        let grown = grown_trans map e.later r.map e.grown r.grown in
        record {
          steps = r.finishes.steps;
          word = value_or r.word;
          world = left_behind w r.world;
          runs = body_runs u l f a map w is x r.finishes.steps ∙ ap (answered w) r.finishes.is;
          paid = r.finishes.paid;
          returned = record {
            later = record { map = r.map; grown = grown; matches = call_closes l (own_count u) map r.map a.world final w r.world is.called.worlds r.matches grown (lives final keeps) };
            value = is_result r.map r.word r.given;
            left = left_so;
          };
        }

  -- ---- without a value, with one, and with a structure

  no_result : (later : Map) (word : Option Word) → IsNoValue gives.gives_zero later word → IsCallResult pair later None (value_or word)
  no_result later word given main = ap value_or (given (eq-eqb a.function u.main main))

  word_result : (v : Value) → a.result ≡ None → (later : Map) (word : Option Word) → IsWordOf v later word → IsCallResult pair later (Some v) (value_or word)
  word_result v none later None given = absurd given
  word_result v none later (Some y) given = subst (λ (r : Option Value). IsCallResult (record { unit = u; lowered = l; source = record { function = a.function; arguments = a.arguments; of = a.of; result = r; line = a.line; world = a.world }; map = map; target = w }) later (Some v) y) (sym none) given

  any_result : (v place : Value) → a.result ≡ Some place → (later : Map) (word : Option Word) → IsAnything later word → IsCallResult pair later (Some v) (value_or word)
  any_result v place some later word given = subst (λ (r : Option Value). IsCallResult (record { unit = u; lowered = l; source = record { function = a.function; arguments = a.arguments; of = a.of; result = r; line = a.line; world = a.world }; map = map; target = w }) later (Some v) (value_or word)) (sym some) tt

  copied_alike : is_record (result_type f.of) ≡ true → (final : c.World) (v place : Value) → assigned Initialisation u.tags a.of (c.objects final) v place ≡ assigned Initialisation u.tags (result_type f.of) (c.objects final) v place
  copied_alike whole final v place =
      ap (λ (y : Extent). copied Initialisation (c.objects final) v place (size_or_zero y.size) y.align)
      (sym (types_alike u.tags (result_type f.of) a.of whole (and_parts (result_fits (result_type f.of) a.of) (arguments_fit (is_open (parameters_type f.of)) (own_parameters f) a.arguments) (fit u l f a map w is x)).0))

  module _ (copies : CopiesStaySound) where
    given_copy : (v place : Value) → a.result ≡ Some place → (line j : ℕ) (final : c.World) → IsSound u final → Keeps old final → (r : Checked (List Old) Cause) → assigned Initialisation u.tags (result_type f.of) (c.objects final) v place ≡ r → ReturnedCopy p o final j r
        → CameTo pair k (if_fine r line final (λ os. Gives place j (c.left_behind Closed a.world (c.with_objects final os))))
    given_copy v place some line j final sound keeps (Ok os) is_so back =
        let q = (copies u Initialisation (result_type f.of) v place final os sound is_so).1 in
        call_returns IsAnything (c.with_objects final os) j back (keeps_join old final (c.with_objects final os) keeps q) (Some place) (any_result place place some)
    given_copy v place some line j final sound keeps (Err cause) is_so back = tt

    given_value : (result : Option Value) → a.result ≡ result → (v : Value) (line j : ℕ) (final : c.World) → IsSound u final → Keeps old final → ReturnedValue p gives result o v final j → CameTo pair k (handed u.tags a.of result v line j a.world final)
    given_value None none v line j final sound keeps back = call_returns (IsWordOf v) final j back keeps (Some v) (word_result v none)
    given_value (Some place) some v line j final sound keeps back =
        subst (λ (r : Checked (List Old) Cause). CameTo pair k (if_fine r line final (λ os. Gives place j (c.left_behind Closed a.world (c.with_objects final os))))) (sym (copied_alike (result_is_whole u l f a map w is x place some) final v place))
        (given_copy v place some line j final sound keeps (assigned Initialisation u.tags (result_type f.of) (c.objects final) v place) refl back)

    pub call_came : (r : Out) → IsSoundOut u old r → CameBack p gives o r → CameTo pair k (returned u.tags a r)
    call_came (Next j final) sound back = call_returns (IsNoValue gives.gives_zero) final j back sound.1 None no_result
    call_came (Break j final) sound back = tt
    call_came (Continue j final) sound back = tt
    call_came (Return None line j final) sound back = call_returns (IsNoValue gives.gives_zero) final j back sound.1.1 None no_result
    call_came (Return (Some v) line j final) sound back = given_value a.result refl v line j final sound.1.0 sound.1.1 back
    call_came (Goto n j final) sound back = tt
    call_came (Over (Undefined cause line) final) sound back = tt
    call_came (Over OutOfTurns final) sound back = record { steps = back.steps; world = back.world; runs = body_runs u l f a map w is x back.steps ∙ ap (answered w) back.is; paid = back.paid; seen = back.seen }
    call_came (Over (Exit status) final) sound back = record {
      steps = back.leaves.steps;
      world = back.world;
      runs = body_runs u l f a map w is x back.leaves.steps ∙ ap (answered w) back.leaves.is;
      later = record { map = back.later; grown = grown_trans map e.later back.later e.grown back.grown; matches = back.matches };
    }
