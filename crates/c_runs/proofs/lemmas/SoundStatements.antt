-- Statements keep worlds sound.
use Rattle.std.specs.Prelude.{◌≤◌, ℕ, ◌==◌, zero, suc, pos, Bool, true, false, Option, Some, None, List, [], ◌∷◌, get_or, slice_get, Result as Checked, Ok, Err, refl, if◌then◌else◌}
use Rattle.std.proofs.Common.{arith}
use Rattle.lcc_base.specs.declared.cause.Cause.{Cause}
use Rattle.objects.specs.declared.purpose.Purpose.TheVariants.{Initialisation}
use Rattle.objects.specs.declared.value.Value.{Value}
use Rattle.objects.specs.declared.value.Value.TheVariants.{Number, Pointer, Function}
use Rattle.objects.specs.Objects.{Object}
use Rattle.objects.specs.Accesses.{write_cause, stored_through}
use Rattle.objects.specs.Bytes.{known_bytes}
use Rattle.objects.specs.Pointers.{place_after}
use Rattle.c_types.specs.CType.{CType, Array}
use Rattle.c_meaning.specs.declared.core_expr.CoreKind.{CoreKind}
use Rattle.c_meaning.specs.declared.core_expr.CoreKind.TheVariants as kind
use Rattle.c_meaning.specs.declared.core_stmt.CoreCase.{CoreCase}
use Rattle.c_meaning.specs.CoreTrees.{line_of, what_of}
use Rattle.c_meaning.specs.Filling.{characters}
use Rattle.c_meaning.specs.StmtTrees.{FilledOf, StmtOf, StmtsOf}
use Rattle.c_meaning.specs.StmtTrees as stmt
use Rattle.c_meaning.specs.Types.{is_array, is_record}
use Rattle.c_meaning.specs.Each.{EachIs}
use Rattle.c_meaning.specs.Units.{UnitTree}
use Rattle.c_meaning.specs.Values.{CoreTree}
use Rattle.c_runs.specs.Worlds.{World, objects, with_objects}
use Rattle.c_runs.specs.Outcomes.{Undefined, Result, Gives, GivesNone, Ends, Out, Next, Break, Continue, Return, Goto, Over, then_do, then_go, then_next, looped, switched, spent, catch, either, branch, is_true, if_done}
use Rattle.c_runs.specs.Below.{below}
use Rattle.c_runs.specs.Places.{spot_filled, stored, assigned, spelled}
use Rattle.c_runs.specs.Calls.{Setting}
use Rattle.c_runs.specs.Expressions.{eval, test}
use Rattle.c_runs.specs.Statements.{Entry, Start, At, round, rounds, loop, loop_between, loop_behind, jumps, jump, maybe_dropped, maybe_test, last_and_test, chosen, to_case, switch_on, string_of, filled, fill, zeroed_at, initialised, has, any_has, exec, exec_all}
use Rattle.c_meaning.specs.Numbers.{IsText}
use Rattle.c_runs.specs.Soundness.{IsSoundValue, IsSoundObject, IsSound, IsSoundOut, Keeps, IsTame, IsTamePlace, IsMaybeTame, IsTameStmt, AreTameStmts}
use Rattle.c_runs.proofs.SoundValues.{IfOk, Changed, unless_ok, if_ok, value_more, truth_sound, known_sound, through_stored, zeroed_sound}
use Rattle.c_runs.proofs.Sound.{Sound, SoundAct, keeps_refl, keeps_trans, drop_act, changed_world, stored_spot, assigned_sound, asked_act, CallsSound, eval_act}

pub record SoundOut (u : UnitTree) (old : World) (o : Out) : Type 0 where
  pub by : IsSoundOut u old o

pub record SoundOuts (u : UnitTree) (m : ℕ) (act : ℕ → World → Out) : Type 0 where
  pub by : (k : ℕ) (w : World) → m ≤ w.storage.made → IsSound u w → SoundOut u w (act k w)

pub further_out : (u : UnitTree) (old w : World) (o : Out) → Keeps old w → SoundOut u w o → SoundOut u old o
further_out u old w (Next k x) h s = record { by = (s.by.0, keeps_trans old w x h s.by.1) }
further_out u old w (Break k x) h s = record { by = (s.by.0, keeps_trans old w x h s.by.1) }
further_out u old w (Continue k x) h s = record { by = (s.by.0, keeps_trans old w x h s.by.1) }
further_out u old w (Return v line k x) h s = record { by = (s.by.0, (s.by.1.0, keeps_trans old w x h s.by.1.1)) }
further_out u old w (Goto l k x) h s = record { by = (s.by.0, keeps_trans old w x h s.by.1) }
further_out u old w (Over how x) h s = record { by = s.by }

outs_more : (u : UnitTree) (m n : ℕ) (act : ℕ → World → Out) → m ≤ n → SoundOuts u m act → SoundOuts u n act
outs_more u m n act l a = record { by = λ k w b s. a.by k w (omega (arith, l, b)) s }

-- ---- combinators

does : (u : UnitTree) (m : ℕ) (old : World) (r : Result) (go : Value → ℕ → World → Out) → m ≤ old.storage.made → Sound u old r → ((n : ℕ) (v : Value) → m ≤ n → IsSoundValue n v → SoundOuts u n (go v)) → SoundOut u old (then_do r go)
does u m old (Gives v k w) go l s g = further_out u old w (go v k w) s.by.1.1 ((g w.storage.made v (let a = s.by.1.1.made in omega (arith, l, a)) s.by.0).by k w (omega arith) s.by.1.0)
does u m old (GivesNone line k w) go l s g = record { by = (tt, s.by.0) }
does u m old (Ends how w) go l s g = record { by = s.by }

do_act : (u : UnitTree) (m : ℕ) (act : ℕ → World → Result) (go : Value → ℕ → World → Out) → SoundAct u m act → ((n : ℕ) (v : Value) → m ≤ n → IsSoundValue n v → SoundOuts u n (go v)) → SoundOuts u m (λ k w. then_do (act k w) go)
do_act u m act go a g = record { by = λ k w l s. does u m w (act k w) go l (a.by k w l s) g }

goes : (u : UnitTree) (old : World) (r : Result) (go : ℕ → World → Out) → Sound u old r → SoundOuts u 0 go → SoundOut u old (then_go r go)
goes u old (Gives v k w) go s g = further_out u old w (go k w) s.by.1.1 (g.by k w (omega arith) s.by.1.0)
goes u old (GivesNone line k w) go s g = further_out u old w (go k w) s.by.1 (g.by k w (omega arith) s.by.0)
goes u old (Ends how w) go s g = record { by = s.by }

go_act : (u : UnitTree) (act : ℕ → World → Result) (go : ℕ → World → Out) → SoundAct u 0 act → SoundOuts u 0 go → SoundOuts u 0 (λ k w. then_go (act k w) go)
go_act u act go a g = record { by = λ k w l s. goes u w (act k w) go (a.by k w l s) g }

nexts : (u : UnitTree) (old : World) (o : Out) (go : ℕ → World → Out) → SoundOut u old o → SoundOuts u 0 go → SoundOut u old (then_next o go)
nexts u old (Next k w) go s g = further_out u old w (go k w) s.by.1 (g.by k w (omega arith) s.by.0)
nexts u old (Break k w) go s g = record { by = s.by }
nexts u old (Continue k w) go s g = record { by = s.by }
nexts u old (Return v line k w) go s g = record { by = s.by }
nexts u old (Goto l k w) go s g = record { by = s.by }
nexts u old (Over how w) go s g = record { by = s.by }

pub next_acts : (u : UnitTree) (act go : ℕ → World → Out) → SoundOuts u 0 act → SoundOuts u 0 go → SoundOuts u 0 (λ k w. then_next (act k w) go)
next_acts u act go a g = record { by = λ k w l s. nexts u w (act k w) go (a.by k w l s) g }

loops : (u : UnitTree) (old : World) (o : Out) (go : ℕ → World → Out) → SoundOut u old o → SoundOuts u 0 go → SoundOut u old (looped o go)
loops u old (Next k w) go s g = further_out u old w (go k w) s.by.1 (g.by k w (omega arith) s.by.0)
loops u old (Break k w) go s g = record { by = s.by }
loops u old (Continue k w) go s g = further_out u old w (go k w) s.by.1 (g.by k w (omega arith) s.by.0)
loops u old (Return v line k w) go s g = record { by = s.by }
loops u old (Goto l k w) go s g = record { by = s.by }
loops u old (Over how w) go s g = record { by = s.by }

looped_act : (u : UnitTree) (act go : ℕ → World → Out) → SoundOuts u 0 act → SoundOuts u 0 go → SoundOuts u 0 (λ k w. looped (act k w) go)
looped_act u act go a g = record { by = λ k w l s. loops u w (act k w) go (a.by k w l s) g }

switches : (u : UnitTree) (old : World) (o : Out) → SoundOut u old o → SoundOut u old (switched o)
switches u old (Next k w) s = record { by = s.by }
switches u old (Break k w) s = record { by = s.by }
switches u old (Continue k w) s = record { by = s.by }
switches u old (Return v line k w) s = record { by = s.by }
switches u old (Goto l k w) s = record { by = s.by }
switches u old (Over how w) s = record { by = s.by }

switched_act : (u : UnitTree) (m : ℕ) (act : ℕ → World → Out) → SoundOuts u m act → SoundOuts u m (λ k w. switched (act k w))
switched_act u m act a = record { by = λ k w l s. switches u w (act k w) (a.by k w l s) }

spent_one : (u : UnitTree) (k : ℕ) (w : World) (go : ℕ → Out) → IsSound u w → ((j : ℕ) → SoundOut u w (go j)) → SoundOut u w (spent k w go)
spent_one u zero w go s g = record { by = (tt, s) }
spent_one u (suc k) w go s g = g k

pub either_one : (u : UnitTree) (b : Bool) (go other : ℕ → World → Out) (k : ℕ) (old w : World) → SoundOut u old (go k w) → SoundOut u old (other k w) → SoundOut u old (either b go other k w)
either_one u true go other k old w a c = a
either_one u false go other k old w a c = c

either_act : (u : UnitTree) (m : ℕ) (b : Bool) (go other : ℕ → World → Out) → SoundOuts u m go → SoundOuts u m other → SoundOuts u m (λ k w. either b go other k w)
either_act u m b go other a c = record { by = λ k w l s. either_one u b go other k w w (a.by k w l s) (c.by k w l s) }

branch_act : (u : UnitTree) (m : ℕ) (v : Value) (go other : ℕ → World → Out) → SoundOuts u m go → SoundOuts u m other → SoundOuts u m (λ k w. branch v go other k w)
branch_act u m v go other a c = either_act u m (is_true v) go other a c

catches : (u : UnitTree) (within : ℕ → Bool) (old : World) (o : Out) (go : ℕ → ℕ → World → Out) → SoundOut u old o → ((l : ℕ) → SoundOuts u 0 (go l)) → SoundOut u old (catch within o go)
catches u within old (Next k w) go s g = record { by = s.by }
catches u within old (Break k w) go s g = record { by = s.by }
catches u within old (Continue k w) go s g = record { by = s.by }
catches u within old (Return v line k w) go s g = record { by = s.by }
catches u within old (Goto l k w) go s g =
    either_one u (within l) (λ k1 w1. spent k1 w1 (λ k2. go l k2 w1)) (λ k1 w1. Goto l k1 w1) k old w
    (further_out u old w (spent k w (λ k2. go l k2 w)) s.by.1 (spent_one u k w (λ k2. go l k2 w) s.by.0 (λ j. (g l).by j w (omega arith) s.by.0))) (record { by = s.by })
catches u within old (Over how w) go s g = record { by = s.by }

pub done_one : {A : Type 0} (u : UnitTree) (P : A → Type 0) (c : Checked A Cause) (line : ℕ) (old w : World) (go : A → Out) → IsSound u w → IfOk P c → ((a : A) → P a → SoundOut u old (go a)) → SoundOut u old (if_done c line w go)
done_one u P (Ok a) line old w go s h g = g a h
done_one u P (Err cause) line old w go s h g = record { by = (tt, s) }

next_act : (u : UnitTree) (m : ℕ) → SoundOuts u m (λ k w. Next k w)
next_act u m = record { by = λ k w l s. record { by = (s, keeps_refl w) } }

over_act : (u : UnitTree) (m : ℕ) (cause : Cause) (line : ℕ) → SoundOuts u m (λ k w. Over (Undefined cause line) w)
over_act u m cause line = record { by = λ k w l s. record { by = (tt, s) } }

if_one : (u : UnitTree) (old : World) (b : Bool) (x y : Out) → SoundOut u old x → SoundOut u old y → SoundOut u old (elim b as (λ c. Out) [ true ↦ x | false ↦ y ])
if_one u old true x y h g = h
if_one u old false x y h g = g

-- ---- loops and gotos

round_act : (u : UnitTree) (body : ℕ → World → Out) (between : ℕ → World → Result) (again : ℕ → World → Out) → SoundOuts u 0 body → SoundAct u 0 between → SoundOuts u 0 again → SoundOuts u 0 (λ k w. round body between again k w)
round_act u body between again B T A =
    let rest : SoundOuts u 0 _ = looped_act u body _ B (do_act u 0 between _ T (λ n v l h. branch_act u n v (λ k w. again k w) (λ k w. Next k w) (outs_more u 0 n again l A) (next_act u n))) in
    record { by = λ k w l s. spent_one u k w _ s (λ j. rest.by j w (omega arith) s) }

rounds_act : (u : UnitTree) (body : ℕ → World → Out) (between : ℕ → World → Result) → SoundOuts u 0 body → SoundAct u 0 between → (m : ℕ) → SoundOuts u 0 (λ k w. rounds body between m k w)
unfolding rounds below
rounds_act u body between B T zero = record { by = λ k w l s. record { by = (tt, s) } }
rounds_act u body between B T (suc m) = record {
  by = λ k w l s.
      if_one u w (k == m) (round body between (λ k1 w1. rounds body between m k1 w1) k w) (rounds body between m k w)
      ((round_act u body between (λ k1 w1. rounds body between m k1 w1) B T (rounds_act u body between B T m)).by k w l s)
      ((rounds_act u body between B T m).by k w l s);
}

loop_act : (u : UnitTree) (body : ℕ → World → Out) (between : ℕ → World → Result) → SoundOuts u 0 body → SoundAct u 0 between → SoundOuts u 0 (λ k w. loop body between k w)
unfolding loop
loop_act u body between B T = record { by = λ k w l s. (round_act u body between (λ k1 w1. rounds body between k k1 w1) B T (rounds_act u body between B T k)).by k w l s }

between_act : (u : UnitTree) (body : ℕ → World → Out) (between : ℕ → World → Result) → SoundOuts u 0 body → SoundAct u 0 between → SoundOuts u 0 (λ k w. loop_between body between k w)
between_act u body between B T = do_act u 0 between _ T (λ n v l h. branch_act u n v (λ k w. loop body between k w) (λ k w. Next k w) (outs_more u 0 n (λ k w. loop body between k w) l (loop_act u body between B T)) (next_act u n))

behind_act : (u : UnitTree) (act body : ℕ → World → Out) (between : ℕ → World → Result) → SoundOuts u 0 act → SoundOuts u 0 body → SoundAct u 0 between → SoundOuts u 0 (λ k w. loop_behind (act k w) body between)
behind_act u act body between E B T = looped_act u act _ E (between_act u body between B T)

jumps_act : (u : UnitTree) (within : ℕ → Bool) (body : ℕ → ℕ → World → Out) → ((l : ℕ) → SoundOuts u 0 (body l)) → (m l : ℕ) → SoundOuts u 0 (λ k w. jumps within body m l k w)
unfolding jumps below
jumps_act u within body B zero l = record { by = λ k w b s. record { by = (tt, s) } }
jumps_act u within body B (suc m) l = record {
  by = λ k w b s.
      if_one u w (k == m) (catch within (body l k w) (λ i k1 w1. jumps within body m i k1 w1)) (jumps within body m l k w)
      (catches u within w (body l k w) (λ i k1 w1. jumps within body m i k1 w1) ((B l).by k w b s) (λ i. jumps_act u within body B m i))
      ((jumps_act u within body B m l).by k w b s);
}

jump_act : (u : UnitTree) (within : ℕ → Bool) (body : ℕ → ℕ → World → Out) → ((l : ℕ) → SoundOuts u 0 (body l)) → (l : ℕ) → SoundOuts u 0 (λ k w. jump within body l k w)
unfolding jump
jump_act u within body B l = record { by = λ k w b s. catches u within w (body l k w) (λ i k1 w1. jumps within body k i k1 w1) ((B l).by k w b s) (λ i. jumps_act u within body B k i) }

-- ---- parts of statements

test_act : (s : Setting) → CallsSound s.unit s.calls → (x : CoreTree) → IsTame x → SoundAct s.unit 0 (λ k w. test s x k w)
test_act s C x t = asked_act s.unit 0 x (λ k w. eval s x k w) (line_of x) (eval_act s C x t)

maybe_act : (s : Setting) → CallsSound s.unit s.calls → (x : Option CoreTree) → IsMaybeTame x → SoundAct s.unit 0 (λ k w. maybe_test s x k w)
maybe_act s C None t = record { by = λ k w l q. record { by = (truth_sound w.storage.made true, (q, keeps_refl w)) } }
maybe_act s C (Some x) t = test_act s C x t

last_act : (s : Setting) → CallsSound s.unit s.calls → (x y : Option CoreTree) → IsMaybeTame x → IsMaybeTame y → SoundAct s.unit 0 (λ k w. last_and_test s x y k w)
last_act s C None y t r = maybe_act s C y r
last_act s C (Some x) y t r = drop_act s.unit 0 (λ k w. eval s x k w) _ (eval_act s C x t) (maybe_act s C y r)

dropped_act : (s : Setting) → CallsSound s.unit s.calls → (x : Option CoreTree) (go : ℕ → World → Out) → IsMaybeTame x → SoundOuts s.unit 0 go → SoundOuts s.unit 0 (λ k w. maybe_dropped s x k w go)
dropped_act s C None go t g = g
dropped_act s C (Some x) go t g = go_act s.unit (λ k w. eval s x k w) go (eval_act s C x t) g

case_act : (u : UnitTree) (m : ℕ) (l : Option ℕ) (body : ℕ → ℕ → World → Out) → ((l : ℕ) → SoundOuts u m (body l)) → SoundOuts u m (λ k w. to_case l body k w)
case_act u m None body B = next_act u m
case_act u m (Some l) body B = switched_act u m (body l) (B l)

switch_act : (u : UnitTree) (m : ℕ) (v : Value) (cases : List CoreCase) (default : Option ℕ) (body : ℕ → ℕ → World → Out) (line : ℕ) → ((l : ℕ) → SoundOuts u m (body l)) → SoundOuts u m (λ k w. switch_on v cases default body line k w)
switch_act u m (Number n) cases default body line B = case_act u m (chosen cases default n) body B
switch_act u m (Pointer o x) cases default body line B = over_act u m _ line
switch_act u m (Function f) cases default body line B = over_act u m _ line

-- ---- initialisers

get_or_text : (texts : List (List ℕ)) (n : ℕ) → EachIs IsText texts → IsText (get_or texts n [])
get_or_text [] n h = tt
get_or_text (t ∷ ts) zero h = h.0
get_or_text (t ∷ ts) (suc n) h = get_or_text ts n h.1

characters_sound : (n : ℕ) (bytes : List ℕ) → IsText bytes → IsText (characters n bytes)
characters_sound zero bytes h = tt
characters_sound (suc n) [] h = (omega arith, characters_sound n [] tt)
characters_sound (suc n) (b ∷ bytes) h = (h.0, characters_sound n bytes h.1)

string_sound : (u : UnitTree) (of : CType) (what : CoreKind) → EachIs IsText u.texts → IsText (string_of u of what)
string_sound u (Array of (Some count)) (kind.Text n) h = characters_sound count (get_or u.texts n []) (get_or_text u.texts n h)
string_sound u of what h = tt

spelled_sound : (n : ℕ) (os : List Object) (to : Value) (bytes : List ℕ) → EachIs (IsSoundObject n) os → IsText bytes → IfOk (Changed n os) (spelled os to bytes)
spelled_sound n os to bytes h g = unless_ok (Changed n os) (write_cause Initialisation os to _ 1) (stored_through os to (known_bytes bytes)) (through_stored n os to (known_bytes bytes) h (known_sound n bytes g))

filled_sound : (s : Setting) → EachIs IsText s.unit.texts → (n : ℕ) (p : FilledOf CType) (to v : Value) (os : List Object) → EachIs (IsSoundObject n) os → IsSoundValue n v → IfOk (Changed n os) (filled s p to v os)
filled_sound s T n p to v os h g =
    if_ok (Changed n os) (is_array p.of) (spelled os to (string_of s.unit p.of (what_of p.value))) (if is_record p.of then assigned Initialisation s.unit.tags p.of os v to else stored Initialisation s.order (spot_filled p) v os to)
    (spelled_sound n os to (string_of s.unit p.of (what_of p.value)) h (string_sound s.unit p.of (what_of p.value) T))
    (if_ok (Changed n os) (is_record p.of) (assigned Initialisation s.unit.tags p.of os v to) (stored Initialisation s.order (spot_filled p) v os to)
    (assigned_sound n Initialisation s.unit.tags p.of os v to h) (stored_spot n Initialisation s.order (spot_filled p) v os to h g))

-- the objects that are written, and what goes on
done_act : (u : UnitTree) (m : ℕ) (c : List Object → Checked (List Object) Cause) (line : ℕ) (go : ℕ → World → Out) → ((n : ℕ) (os : List Object) → m ≤ n → EachIs (IsSoundObject n) os → IfOk (Changed n os) (c os)) → SoundOuts u 0 go → SoundOuts u m (λ k w. if_done (c (objects w)) line w (λ os. go k (with_objects w os)))
done_act u m c line go h g = record {
  by = λ k w l s. done_one u (Changed w.storage.made (objects w)) (c (objects w)) line w w _ s (h w.storage.made (objects w) l s.objects)
      (λ os x. let z = changed_world u w os s x in further_out u w (with_objects w os) (go k (with_objects w os)) z.1 (g.by k (with_objects w os) (omega arith) z.0));
}

pub fill_act : (s : Setting) → CallsSound s.unit s.calls → EachIs IsText s.unit.texts → (base : Value) (ps : List (FilledOf CType)) → EachIs IsTamePlace ps → SoundOuts s.unit 0 (λ k w. fill s base ps k w)
fill_act s C T base [] t = next_act s.unit 0
fill_act s C T base (p ∷ ps) t =
    do_act s.unit 0 (λ k w. eval s p.value k w) _ (eval_act s C p.value t.0.1)
    (λ n v l h. done_act s.unit n (λ os. filled s p (place_after base (pos p.offset)) v os) (line_of p.value) (λ k w. fill s base ps k w)
    (λ n2 os l2 so. filled_sound s T n2 p (place_after base (pos p.offset)) v os so (value_more n n2 v l2 h)) (fill_act s C T base ps t.1))

zeroed_by : (n : ℕ) (base : Value) (os : List Object) → EachIs (IsSoundObject n) os → IfOk (Changed n os) (zeroed_at base os)
zeroed_by n (Pointer o x) os h = zeroed_sound n os o h
zeroed_by n (Number m) os h = (h, refl)
zeroed_by n (Function f) os h = (h, refl)

initialised_at : (s : Setting) → CallsSound s.unit s.calls → EachIs IsText s.unit.texts → (base : Option Value) (clear : Bool) (ps : List (FilledOf CType)) → EachIs IsTamePlace ps → SoundOuts s.unit 0 (λ k w. initialised s base clear ps k w)
initialised_at s C T None clear ps t = over_act s.unit 0 _ 0
initialised_at s C T (Some base) false ps t = fill_act s C T base ps t
initialised_at s C T (Some base) true ps t = done_act s.unit 0 (λ os. zeroed_at base os) 0 (λ k w. fill s base ps k w) (λ n os l so. zeroed_by n base os so) (fill_act s C T base ps t)

-- ---- all statements

mutual
  pub exec_act : (s : Setting) → CallsSound s.unit s.calls → EachIs IsText s.unit.texts → (x : StmtOf CType) (e : Entry) → IsTameStmt x → SoundOuts s.unit 0 (λ k w. exec s x e k w)
  exec_act s C T stmt.Nothing e t = next_act s.unit 0
  exec_act s C T (stmt.Expression x) e t = go_act s.unit (λ k w. eval s x k w) _ (eval_act s C x t) (next_act s.unit 0)
  exec_act s C T (stmt.Initialise local clear ps) e t = record { by = λ k w l q. (initialised_at s C T (slice_get w.locals local) clear ps t).by k w l q }
  exec_act s C T (stmt.Block first locals ts) e t = record { by = λ k w l q. catches s.unit (any_has ts) w (exec_all s ts e k w) _ ((all_act s C T ts e t).by k w l q) (λ i. jump_act s.unit (any_has ts) (λ m k2 w2. exec_all s ts (At m) k2 w2) (λ m. all_act s C T ts (At m) t) i) }
  exec_act s C T (stmt.If x y z) Start t = do_act s.unit 0 (λ k w. test s x k w) _ (test_act s C x t.0) (λ n v l h. branch_act s.unit n v (λ k w. exec s y Start k w) (λ k w. exec s z Start k w) (outs_more s.unit 0 n (λ k w. exec s y Start k w) l (exec_act s C T y Start t.1.0)) (outs_more s.unit 0 n (λ k w. exec s z Start k w) l (exec_act s C T z Start t.1.1)))
  exec_act s C T (stmt.If x y z) (At i) t = either_act s.unit 0 (has y i) (λ k w. exec s y (At i) k w) (λ k w. exec s z (At i) k w) (exec_act s C T y (At i) t.1.0) (exec_act s C T z (At i) t.1.1)
  exec_act s C T (stmt.While x y) Start t = between_act s.unit (λ k w. exec s y Start k w) (λ k w. test s x k w) (exec_act s C T y Start t.1) (test_act s C x t.0)
  exec_act s C T (stmt.While x y) (At i) t = behind_act s.unit (λ k w. exec s y (At i) k w) (λ k w. exec s y Start k w) (λ k w. test s x k w) (exec_act s C T y (At i) t.1) (exec_act s C T y Start t.1) (test_act s C x t.0)
  exec_act s C T (stmt.Do y x) Start t = loop_act s.unit (λ k w. exec s y Start k w) (λ k w. test s x k w) (exec_act s C T y Start t.0) (test_act s C x t.1)
  exec_act s C T (stmt.Do y x) (At i) t = behind_act s.unit (λ k w. exec s y (At i) k w) (λ k w. exec s y Start k w) (λ k w. test s x k w) (exec_act s C T y (At i) t.0) (exec_act s C T y Start t.0) (test_act s C x t.1)
  exec_act s C T (stmt.For a b c y) Start t =
      dropped_act s C a _ t.0 (do_act s.unit 0 (λ k w. maybe_test s b k w) _ (maybe_act s C b t.1.0) (λ n v l h. branch_act s.unit n v (λ k w. loop (λ k4 w4. exec s y Start k4 w4) (λ k4 w4. last_and_test s c b k4 w4) k w) (λ k w. Next k w)
      (outs_more s.unit 0 n (λ k w. loop (λ k4 w4. exec s y Start k4 w4) (λ k4 w4. last_and_test s c b k4 w4) k w) l (loop_act s.unit (λ k w. exec s y Start k w) (λ k w. last_and_test s c b k w) (exec_act s C T y Start t.1.1.1) (last_act s C c b t.1.1.0 t.1.0))) (next_act s.unit n)))
  exec_act s C T (stmt.For a b c y) (At i) t = behind_act s.unit (λ k w. exec s y (At i) k w) (λ k w. exec s y Start k w) (λ k w. last_and_test s c b k w) (exec_act s C T y (At i) t.1.1.1) (exec_act s C T y Start t.1.1.1) (last_act s C c b t.1.1.0 t.1.0)
  exec_act s C T (stmt.Switch x cases default y) Start t = do_act s.unit 0 (λ k w. eval s x k w) _ (eval_act s C x t.0) (λ n v l h. switch_act s.unit n v cases default (λ i k w. exec s y (At i) k w) (line_of x) (λ i. outs_more s.unit 0 n (λ k w. exec s y (At i) k w) l (exec_act s C T y (At i) t.1)))
  exec_act s C T (stmt.Switch x cases default y) (At i) t = switched_act s.unit 0 (λ k w. exec s y (At i) k w) (exec_act s C T y (At i) t.1)
  exec_act s C T (stmt.Label m y) Start t = exec_act s C T y Start t
  exec_act s C T (stmt.Label m y) (At i) t = either_act s.unit 0 (i == m) (λ k w. exec s y Start k w) (λ k w. exec s y (At i) k w) (exec_act s C T y Start t) (exec_act s C T y (At i) t)
  exec_act s C T (stmt.Goto m) e t = record { by = λ k w l q. record { by = (q, keeps_refl w) } }
  exec_act s C T stmt.Break e t = record { by = λ k w l q. record { by = (q, keeps_refl w) } }
  exec_act s C T stmt.Continue e t = record { by = λ k w l q. record { by = (q, keeps_refl w) } }
  exec_act s C T (stmt.Return None) e t = record { by = λ k w l q. record { by = (tt, (q, keeps_refl w)) } }
  exec_act s C T (stmt.Return (Some x)) e t = do_act s.unit 0 (λ k w. eval s x k w) _ (eval_act s C x t) (λ n v l h. record { by = λ k w l2 q. record { by = (value_more n w.storage.made v l2 h, (q, keeps_refl w)) } })

  pub all_act : (s : Setting) → CallsSound s.unit s.calls → EachIs IsText s.unit.texts → (xs : StmtsOf CType) (e : Entry) → AreTameStmts xs → SoundOuts s.unit 0 (λ k w. exec_all s xs e k w)
  all_act s C T stmt.NoStmt e t = next_act s.unit 0
  all_act s C T (stmt.Stmts x xs) Start t = next_acts s.unit (λ k w. exec s x Start k w) (λ k w. exec_all s xs Start k w) (exec_act s C T x Start t.0) (all_act s C T xs Start t.1)
  all_act s C T (stmt.Stmts x xs) (At i) t =
      either_act s.unit 0 (has x i) _ (λ k w. exec_all s xs (At i) k w)
      (next_acts s.unit (λ k w. exec s x (At i) k w) (λ k w. exec_all s xs Start k w) (exec_act s C T x (At i) t.0) (all_act s C T xs Start t.1))
      (all_act s C T xs (At i) t.1)
