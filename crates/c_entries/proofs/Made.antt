-- Parameters and other locals, made one behind the other.
use Rattle.std.proofs.Common.{◌≡◌, ℕ, ◌+◌, List, [], ◌∷◌, ◌++◌, length, drop, take, map, refl, sym, ap, ◌∙◌}
use Rattle.std.specs.Prelude.{Some, None, Result as Checked, Ok, Err, IfErr, OnOk, slice_get, min}
use Rattle.lcc_base.specs.Traces.{Event, Opened}
use Rattle.lcc_base.specs.declared.cause.Cause.{Cause}
use Rattle.lcc_base.specs.declared.cause.Cause.TheVariants.{Outside}
use Rattle.c_types.specs.CType.{CType}
use Rattle.c_types.specs.Table.{types}
use Rattle.c_meaning.specs.declared.core_unit.CoreFunction.{CoreFunction}
use Rattle.c_meaning.specs.Units.{function_seen}
use Rattle.c_runs.specs.Calls.{Argument, opened, with_locals, with_parameters}
use Rattle.c_runs.specs.Outcomes.{Out}
use Rattle.c_runs.specs.Worlds.{World as RunWorld, entered}
use Rattle.c_entries.specs.declared.argument.Argument.{Argument as PassedArgument}
use Rattle.c_entries.specs.Arguments.{ArePassedAs}
use Rattle.c_entries.specs.Entered.{Enters, MakesLocals, MakesParameter, MakesParameters}
use Rattle.c_entries.proofs.Fits.{first_types, other_types}
use Rattle.c_entries.proofs.Passed.{drop_at, drop_past, passed_at, passed_past}
use Rattle.c_worlds.specs.declared.program.Program.{Program}
use Rattle.c_worlds.specs.declared.stop.Stop.{Stop}
use Rattle.c_worlds.specs.declared.stop.Stop.TheVariants.{Memory, Undefined}
use Rattle.c_worlds.specs.declared.world.World.{World}
use Rattle.c_worlds.specs.OpenLocals.{OpenLocals, all_locals}
use Rattle.c_worlds.specs.Programs.{known, unit_of}
use Rattle.c_worlds.specs.Shown.{shown}

abbrev making : Program → List ℕ → List Argument → ℕ → RunWorld → (ℕ → RunWorld → Out) → Out
making p ids xs k w go = with_parameters (unit_of p).tags p.order (map (known p) ids) xs k w go

-- the first n parameters are made
abbrev pub AreMade : Program → List ℕ → List PassedArgument → ℕ → World → World → Type 0
AreMade p ids ps n old now =
    (xs : List Argument) → ArePassedAs ps xs → (go : ℕ → RunWorld → Out) (k : ℕ) (t : List Event)
    → with_parameters (unit_of p).tags p.order (map (known p) ids) xs k (shown old t) go
    ≡ with_parameters (unit_of p).tags p.order (map (known p) (drop n ids)) (drop n xs) k (shown now t) go

pub more_made : (p : Program) (ids : List ℕ) (ps : List PassedArgument) (n id : ℕ) (a : PassedArgument) (old now new : World) → AreMade p ids ps n old now → slice_get ids n ≡ Some id → slice_get ps n ≡ Some a → MakesParameter p id a now new (Ok tt) → AreMade p ids ps (n + 1) old new
more_made p ids ps n id a old now new h e f m xs q go k t =
    let x = passed_at ps xs n a q f in
    h xs q go k t
    ∙ ap (λ (is : List ℕ). making p is (drop n xs) k (shown now t) go) (drop_at ids n id e)
    ∙ ap (λ (ys : List Argument). making p (id ∷ drop (n + 1) ids) ys k (shown now t) go) (drop_at xs n x.0 x.1.0)
    ∙ m x.0 x.1.1 (λ k1 w1. making p (drop (n + 1) ids) (drop (n + 1) xs) k1 w1 go) k t

undefined_there : (p : Program) (ids : List ℕ) (ps : List PassedArgument) (n id : ℕ) (a : PassedArgument) (old now new : World) (cause : Cause) (line : ℕ) → AreMade p ids ps n old now → slice_get ids n ≡ Some id → slice_get ps n ≡ Some a → MakesParameter p id a now new (Err (Undefined cause line)) → MakesParameters p ids ps old new (Err (Undefined cause line))
undefined_there p ids ps n id a old now new cause line h e f m xs q go k t =
    let x = passed_at ps xs n a q f in
    h xs q go k t
    ∙ ap (λ (is : List ℕ). making p is (drop n xs) k (shown now t) go) (drop_at ids n id e)
    ∙ ap (λ (ys : List Argument). making p (id ∷ drop (n + 1) ids) ys k (shown now t) go) (drop_at xs n x.0 x.1.0)
    ∙ m x.0 x.1.1 (λ k1 w1. making p (drop (n + 1) ids) (drop (n + 1) xs) k1 w1 go) k t

pub stopped : (p : Program) (ids : List ℕ) (ps : List PassedArgument) (n id : ℕ) (a : PassedArgument) (old now new : World) (stop : Stop) → AreMade p ids ps n old now → slice_get ids n ≡ Some id → slice_get ps n ≡ Some a → MakesParameter p id a now new (Err stop) → MakesParameters p ids ps old new (Err stop)
stopped p ids ps n id a old now new (Undefined cause line) h e f m = undefined_there p ids ps n id a old now new cause line h e f m
stopped p ids ps n id a old now new Memory h e f m = tt

pub none_there : (p : Program) (ids : List ℕ) (ps : List PassedArgument) (n id : ℕ) (old now : World) → AreMade p ids ps n old now → slice_get ids n ≡ Some id → slice_get ps n ≡ None → MakesParameters p ids ps old now (Err (Undefined Outside 0))
none_there p ids ps n id old now h e f xs q go k t =
    h xs q go k t
    ∙ ap (λ (is : List ℕ). making p is (drop n xs) k (shown now t) go) (drop_at ids n id e)
    ∙ ap (λ (ys : List Argument). making p (id ∷ drop (n + 1) ids) ys k (shown now t) go) (drop_past xs n (passed_past ps xs n q f))

pub all_made : (p : Program) (ids : List ℕ) (ps : List PassedArgument) (n : ℕ) (old now : World) → AreMade p ids ps n old now → slice_get ids n ≡ None → MakesParameters p ids ps old now (Ok tt)
all_made p ids ps n old now h e xs q go k t =
    h xs q go k t ∙ ap (λ (is : List ℕ). making p is (drop n xs) k (shown now t) go) (drop_past ids n e)

-- the first n other locals are made
abbrev pub AreThere : Program → List ℕ → ℕ → World → World → Type 0
AreThere p ids n old now =
    (t : List Event) → with_locals (unit_of p).tags (map (known p) ids) (shown old t) ≡ with_locals (unit_of p).tags (map (known p) (drop n ids)) (shown now t)

pub more_there : (p : Program) (ids : List ℕ) (n id : ℕ) (old now new : World) → AreThere p ids n old now → slice_get ids n ≡ Some id → MakesLocals p (id ∷ []) now new → AreThere p ids (n + 1) old new
more_there p ids n id old now new h e m t =
    h t
    ∙ ap (λ (is : List ℕ). with_locals (unit_of p).tags (map (known p) is) (shown now t)) (drop_at ids n id e)
    ∙ ap (λ (w : RunWorld). with_locals (unit_of p).tags (map (known p) (drop (n + 1) ids)) w) (m t)

-- ---- a function is entered

abbrev pub opened_world : World → OpenLocals → World
opened_world w locals = record { storage = w.storage; locals = locals; input = w.input; output = w.output }

-- what is done in a call that is open and has no locals yet
abbrev opened_in : Program → CoreFunction → List Argument → (ℕ → RunWorld → Out) → ℕ → RunWorld → Out
opened_in p f xs go k w = with_parameters (unit_of p).tags p.order (take f.parameters (map (known p) f.locals)) xs k w (λ k1 w1. go k1 (with_locals (unit_of p).tags (drop f.parameters (map (known p) f.locals)) w1))

no_locals_yet : (w : World) (locals : OpenLocals) (number : ℕ) → locals ≡ record { below = all_locals w.locals; here = [] } → (t : List Event) → entered (Opened number) (shown w t) ≡ shown (opened_world w locals) (t ++ Opened number ∷ [])
no_locals_yet w locals number e t = rw e refl

opens : (p : Program) (f : CoreFunction) (number n : ℕ) (ids : List ℕ) (w : World) (locals : OpenLocals) → ids ≡ f.locals → n ≡ min (length ids) f.parameters → locals ≡ record { below = all_locals w.locals; here = [] } → (xs : List Argument) (go : ℕ → RunWorld → Out) (k : ℕ) (t : List Event)
    → opened (unit_of p) p.order (function_seen (types p.core.now.types) f) number xs k (shown w t) go
    ≡ making p (take n ids) xs k (shown (opened_world w locals) (t ++ Opened number ∷ [])) (λ k1 w1. go k1 (with_locals (unit_of p).tags (map (known p) (drop n ids)) w1))
opens p f number n ids w locals e m h xs go k t =
    let u = shown (opened_world w locals) (t ++ Opened number ∷ []) in
    ap (λ (v : RunWorld). opened_in p f xs go k v) (no_locals_yet w locals number h t)
    ∙ ap (λ (is : List ℕ). with_parameters (unit_of p).tags p.order (take f.parameters (map (known p) is)) xs k u (λ k1 w1. go k1 (with_locals (unit_of p).tags (drop f.parameters (map (known p) is)) w1))) (sym e)
    ∙ ap (λ (ts : List CType). with_parameters (unit_of p).tags p.order ts xs k u (λ k1 w1. go k1 (with_locals (unit_of p).tags (drop f.parameters (map (known p) ids)) w1))) (sym (first_types (known p) ids f.parameters n m))
    ∙ ap (λ (ts : List CType). making p (take n ids) xs k u (λ k1 w1. go k1 (with_locals (unit_of p).tags ts w1))) (sym (other_types (known p) ids f.parameters n m))

pub enters_by : (p : Program) (f : CoreFunction) (number n : ℕ) (ids : List ℕ) (ps : List PassedArgument) (w : World) (locals : OpenLocals) (mid new : World) (r : Checked (Unit {0}) Stop) → ids ≡ f.locals → n ≡ min (length ids) f.parameters → locals ≡ record { below = all_locals w.locals; here = [] }
    → MakesParameters p (take n ids) ps (opened_world w locals) mid (Ok tt) → OnOk r (MakesLocals p (drop n ids) mid new) → IfErr r (λ e. e ≡ Memory) → Enters p f number ps w new r
enters_by p f number n ids ps w locals mid new (Ok u) e m h made l none = λ xs q go k t.
    opens p f number n ids w locals e m h xs go k t
    ∙ made xs q (λ k1 w1. go k1 (with_locals (unit_of p).tags (map (known p) (drop n ids)) w1)) k (t ++ Opened number ∷ [])
    ∙ ap (λ (v : RunWorld). go k v) (l (t ++ Opened number ∷ []))
enters_by p f number n ids ps w locals mid new (Err (Undefined cause line)) e m h made l none = absurd (cc)
enters_by p f number n ids ps w locals mid new (Err Memory) e m h made l none = tt

pub entering_stops : (p : Program) (f : CoreFunction) (number n : ℕ) (ids : List ℕ) (ps : List PassedArgument) (w : World) (locals : OpenLocals) (new : World) (stop : Stop) → ids ≡ f.locals → n ≡ min (length ids) f.parameters → locals ≡ record { below = all_locals w.locals; here = [] }
    → MakesParameters p (take n ids) ps (opened_world w locals) new (Err stop) → Enters p f number ps w new (Err stop)
entering_stops p f number n ids ps w locals new Memory e m h made = tt
entering_stops p f number n ids ps w locals new (Undefined cause line) e m h made = λ xs q go k t.
    opens p f number n ids w locals e m h xs go k t
    ∙ made xs q (λ k1 w1. go k1 (with_locals (unit_of p).tags (map (known p) (drop n ids)) w1)) k (t ++ Opened number ∷ [])
