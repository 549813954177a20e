-- Two settings whose calls do alike do alike. The right one has so many turns more, and events were seen before it; so it
-- does the same, but where the left one is cut off for want of turns. There the right one, if it has more, has shown as
-- much at least.
use Rattle.std.specs.Prelude.{◌≡◌, ℕ, ◌<◌, ◌≤◌, ◌+◌, ◌%◌, zero, suc, pos, Bool, true, false, Option, Some, None, List, [], ◌∷◌, ◌++◌, slice_get, Result as Checked, Ok, Err, refl}
use Rattle.std.proofs.Common.{ap, sym, ◌∙◌, arith, subst, append_assoc}
use Rattle.lcc_base.specs.declared.cause.Cause.{Cause}
use Rattle.lcc_base.specs.Prefixes.{Starts, starts_refl}
use Rattle.lcc_base.specs.Traces.{Event, Wrote}
use Rattle.objects.specs.declared.value.Value.{Value}
use Rattle.objects.specs.declared.value.Value.TheVariants.{Number, Pointer, Function}
use Rattle.objects.specs.declared.purpose.Purpose.TheVariants.{Assignment, Initialisation}
use Rattle.objects.specs.Objects.{Object}
use Rattle.objects.specs.Arithmetic.{unary_value, binary_value}
use Rattle.objects.specs.Conversions.{converted}
use Rattle.objects.specs.Pointers.{moved, subtracted}
use Rattle.c_types.specs.CType.{CType}
use Rattle.c_meaning.specs.declared.built_in.BuiltIn.{BuiltIn}
use Rattle.c_meaning.specs.declared.built_in.BuiltIn.TheVariants.{Putchar, Getchar, Exit}
use Rattle.c_meaning.specs.declared.core_expr.CoreKind.TheVariants as kind
use Rattle.c_meaning.specs.declared.core_expr.Change.{Change}
use Rattle.c_meaning.specs.declared.core_expr.Conversion.TheVariants as to
use Rattle.c_meaning.specs.CoreTrees.{Core, NoCore, Cores, type_of, line_of}
use Rattle.c_meaning.specs.Types.{is_record}
use Rattle.c_meaning.specs.Units.{FunctionTree}
use Rattle.c_meaning.specs.Values.{CoreTree, CoreTrees}
use Rattle.c_runs.specs.Worlds.{World, objects, with_objects, with_event}
use Rattle.c_runs.specs.Outcomes.{How, Undefined, OutOfTurns, Exit as ExitWith, Result, Gives, GivesNone, Ends, undefined, then_give, then_drop, if_fine, gives, stores, tells, truth, either, branch, is_true, spend}
use Rattle.c_runs.specs.Places.{Spot, spot_of, held, stored, kept, source, assigned, place_of_object, place_of_text}
use Rattle.c_runs.specs.Calls.{Argument, Call, Setting, number_of, get_character, fits, built_in_fits, provided, with_number, called_by, call_value, function_at, built_in_at}
use Rattle.c_runs.specs.Expressions.{Part, eval, parts_of, place, asked, holds, of_two, changed, changed_at, changing, assignment, comma_from, copied_to, arguments, compared_by, moved_among, result_place, calling, new_value, old_value}
use Rattle.c_runs.specs.Laws.{Falls, world_of, behind}
use Rattle.c_runs.proofs.Growing.{Grows, GrowsAct, give_grows, drop_grows, fine_grows, spend_grows}

-- how many turns the right has more, and what was seen before it
pub record Ahead : Type 0 where
  pub more : ℕ
  pub before : List Event

-- cut off for want of turns: without more there too, with more no less is shown
abbrev pub Cut : ℕ → List Event → World → Result → Type 0
Cut zero before w q = q ≡ Ends OutOfTurns (behind before w)
Cut (suc m) before w q = Starts (before ++ w.trace) (world_of q).trace

abbrev pub EndsAlike : Ahead → How → World → Result → Type 0
EndsAlike g (Undefined cause line) w q = q ≡ Ends (Undefined cause line) (behind g.before w)
EndsAlike g OutOfTurns w q = Cut g.more g.before w q
EndsAlike g (ExitWith status) w q = q ≡ Ends (ExitWith status) (behind g.before w)

abbrev pub IsAlike : Ahead → Result → Result → Type 0
IsAlike g (Gives v k w) q = q ≡ Gives v (k + g.more) (behind g.before w)
IsAlike g (GivesNone line k w) q = q ≡ GivesNone line (k + g.more) (behind g.before w)
IsAlike g (Ends how w) q = EndsAlike g how w q

-- results alike, and the left one leaves at most k turns
pub record Goes (g : Ahead) (k : ℕ) (r q : Result) : Type 0 where
  pub falls : Falls k r
  pub alike : IsAlike g r q

-- alike from every world on, with at most n turns
pub record Acts (g : Ahead) (n : ℕ) (act bet : ℕ → World → Result) : Type 0 where
  pub alike : (k : ℕ) (w : World) → k ≤ n → Goes g k (act k w) (bet (k + g.more) (behind g.before w))
  pub grows : GrowsAct bet

-- ---- turns

pub falls_less : (j k : ℕ) (r : Result) → j ≤ k → Falls j r → Falls k r
falls_less j k (Gives v i w) h l = omega (arith, l)
falls_less j k (GivesNone line i w) h l = omega (arith, l)
falls_less j k (Ends how w) h l = tt

pub goes_less : (g : Ahead) (j k : ℕ) (r q : Result) → j ≤ k → Goes g j r q → Goes g k r q
goes_less g j k r q h x = record { falls = falls_less j k r h x.falls; alike = x.alike }

pub acts_less : (g : Ahead) (j n : ℕ) (act bet : ℕ → World → Result) → j ≤ n → Acts g n act bet → Acts g j act bet
acts_less g j n act bet h a = record { alike = λ k w l. a.alike k w (omega (arith, h, l)); grows = a.grows }

-- ---- ends pass

pub cut_by : (f : Result → Result) → ((how : How) (w : World) → f (Ends how w) ≡ Ends how w) → ((es : List Event) (q : Result) → Grows es q → Grows es (f q)) → (m : ℕ) (before : List Event) (w : World) (q : Result) → Cut m before w q → Cut m before w (f q)
cut_by f p s zero before w q h = ap f h ∙ p OutOfTurns (behind before w)
cut_by f p s (suc m) before w q h = (s (before ++ w.trace) q (record { by = h })).by

pub ends_by : (f : Result → Result) → ((how : How) (w : World) → f (Ends how w) ≡ Ends how w) → ((es : List Event) (q : Result) → Grows es q → Grows es (f q)) → (g : Ahead) (how : How) (w : World) (q : Result) → EndsAlike g how w q → EndsAlike g how w (f q)
ends_by f p s g (Undefined cause line) w q h = ap f h ∙ p (Undefined cause line) (behind g.before w)
ends_by f p s g OutOfTurns w q h = cut_by f p s g.more g.before w q h
ends_by f p s g (ExitWith status) w q h = ap f h ∙ p (ExitWith status) (behind g.before w)

-- both are undefined alike
pub both_undefined : (g : Ahead) (k : ℕ) (cause : Cause) (line : ℕ) (w : World) → Goes g k (Ends (Undefined cause line) w) (Ends (Undefined cause line) (behind g.before w))
both_undefined g k cause line w = record { falls = tt; alike = refl }

pub both_give : (g : Ahead) (k : ℕ) (v : Value) (w : World) → Goes g k (Gives v k w) (Gives v (k + g.more) (behind g.before w))
both_give g k v w = record { falls = omega arith; alike = refl }

-- ---- combinators

pub give_goes : (g : Ahead) (k : ℕ) (r q : Result) (go to : Value → ℕ → World → Result) → Goes g k r q → ((v : Value) → Acts g k (go v) (to v)) → Goes g k (then_give r go) (then_give q to)
give_goes g k (Gives v j w) q go to h a = subst (λ x. Goes g k (go v j w) (then_give x to)) (sym h.alike) (goes_less g j k (go v j w) (to v (j + g.more) (behind g.before w)) h.falls ((a v).alike j w h.falls))
give_goes g k (GivesNone line j w) q go to h a = subst (λ x. Goes g k (then_give (GivesNone line j w) go) (then_give x to)) (sym h.alike) (record { falls = tt; alike = refl })
give_goes g k (Ends how w) q go to h a =
    record { falls = tt; alike = ends_by (λ x. then_give x to) (λ h1 w1. refl) (λ es x b. give_grows es x to b (λ v. (a v).grows)) g how w q h.alike }

pub drop_goes : (g : Ahead) (k : ℕ) (r q : Result) (go to : ℕ → World → Result) → Goes g k r q → Acts g k go to → Goes g k (then_drop r go) (then_drop q to)
drop_goes g k (Gives v j w) q go to h a = subst (λ x. Goes g k (go j w) (then_drop x to)) (sym h.alike) (goes_less g j k (go j w) (to (j + g.more) (behind g.before w)) h.falls (a.alike j w h.falls))
drop_goes g k (GivesNone line j w) q go to h a = subst (λ x. Goes g k (go j w) (then_drop x to)) (sym h.alike) (goes_less g j k (go j w) (to (j + g.more) (behind g.before w)) h.falls (a.alike j w h.falls))
drop_goes g k (Ends how w) q go to h a =
    record { falls = tt; alike = ends_by (λ x. then_drop x to) (λ h1 w1. refl) (λ es x b. drop_grows es x to b a.grows) g how w q h.alike }

pub fine_goes : {A : Type 0} (g : Ahead) (k : ℕ) (c : Checked A Cause) (line : ℕ) (w : World) (go to : A → Result) → ((a : A) → Goes g k (go a) (to a)) → Goes g k (if_fine c line w go) (if_fine c line (behind g.before w) to)
fine_goes g k (Ok a) line w go to h = h a
fine_goes g k (Err cause) line w go to h = record { falls = tt; alike = refl }

either_goes : (g : Ahead) (n : ℕ) (b : Bool) (go to other rest : ℕ → World → Result) (k : ℕ) (w : World) → k ≤ n → Acts g n go to → Acts g n other rest → Goes g k (either b go other k w) (either b to rest (k + g.more) (behind g.before w))
either_goes g n true go to other rest k w l h a = h.alike k w l
either_goes g n false go to other rest k w l h a = a.alike k w l

either_grows : (es : List Event) (b : Bool) (go other : ℕ → World → Result) (k : ℕ) (w : World) → Grows es (go k w) → Grows es (other k w) → Grows es (either b go other k w)
either_grows es true go other k w h a = h
either_grows es false go other k w h a = a

cut_spends : (m : ℕ) (before : List Event) (w : World) (to : ℕ → Result) → ((j : ℕ) → Grows (behind before w).trace (to j)) → Cut m before w (spend m (behind before w) to)
cut_spends zero before w to s = refl
cut_spends (suc m) before w to s = (s m).by

pub spend_goes : (g : Ahead) (k : ℕ) (w : World) (go to : ℕ → Result) → ((j : ℕ) → j < k → Goes g k (go j) (to (j + g.more))) → ((j : ℕ) → Grows (behind g.before w).trace (to j)) → Goes g k (spend k w go) (spend (k + g.more) (behind g.before w) to)
spend_goes g zero w go to h s =
    let e : g.more ≡ zero + g.more = omega arith in
    record { falls = tt; alike = subst (λ j. Cut g.more g.before w (spend j (behind g.before w) to)) e (cut_spends g.more g.before w to s) }
spend_goes g (suc k) w go to h s =
    let e : suc (k + g.more) ≡ suc k + g.more = omega arith in
    subst (λ j. Goes g (suc k) (go k) (spend j (behind g.before w) to)) e (h k (omega arith))

-- ---- acts

pub give_acts : (g : Ahead) (n : ℕ) (act bet : ℕ → World → Result) (go to : Value → ℕ → World → Result) → Acts g n act bet → ((v : Value) → Acts g n (go v) (to v)) → Acts g n (λ k w. then_give (act k w) go) (λ k w. then_give (bet k w) to)
give_acts g n act bet go to h a = record {
  alike = λ k w l. give_goes g k (act k w) (bet (k + g.more) (behind g.before w)) go to (h.alike k w l) (λ v. acts_less g k n (go v) (to v) l (a v));
  grows = λ k w. give_grows w.trace (bet k w) to (h.grows k w) (λ v. (a v).grows);
}

pub drop_acts : (g : Ahead) (n : ℕ) (act bet : ℕ → World → Result) (go to : ℕ → World → Result) → Acts g n act bet → Acts g n go to → Acts g n (λ k w. then_drop (act k w) go) (λ k w. then_drop (bet k w) to)
drop_acts g n act bet go to h a = record {
  alike = λ k w l. drop_goes g k (act k w) (bet (k + g.more) (behind g.before w)) go to (h.alike k w l) (acts_less g k n go to l a);
  grows = λ k w. drop_grows w.trace (bet k w) to (h.grows k w) a.grows;
}

pub either_acts : (g : Ahead) (n : ℕ) (b : Bool) (go to other rest : ℕ → World → Result) → Acts g n go to → Acts g n other rest → Acts g n (λ k w. either b go other k w) (λ k w. either b to rest k w)
either_acts g n b go to other rest h a = record {
  alike = λ k w l. either_goes g n b go to other rest k w l h a;
  grows = λ k w. either_grows w.trace b to rest k w (h.grows k w) (a.grows k w);
}

-- a value by what is known
value_acts : (g : Ahead) (n : ℕ) (v : Value) → Acts g n (λ k w. Gives v k w) (λ k w. Gives v k w)
value_acts g n v = record { alike = λ k w l. both_give g k v w; grows = λ k w. record { by = starts_refl w.trace } }

-- what is checked in the objects
fine_acts : {A : Type 0} (g : Ahead) (n : ℕ) (c : List Object → Checked A Cause) (line : ℕ) (go to : A → ℕ → World → Result) → ((a : A) → Acts g n (go a) (to a)) → Acts g n (λ k w. if_fine (c (objects w)) line w (λ a. go a k w)) (λ k w. if_fine (c (objects w)) line w (λ a. to a k w))
fine_acts g n c line go to h = record {
  alike = λ k w l. fine_goes g k (c (objects w)) line w (λ a. go a k w) (λ a. to a (k + g.more) (behind g.before w)) (λ a. (h a).alike k w l);
  grows = λ k w. fine_grows w.trace (c (objects w)) line w (λ a. to a k w) (starts_refl w.trace) (λ a. (h a).grows k w);
}

gives_acts : (g : Ahead) (n : ℕ) (c : List Object → Checked Value Cause) (line : ℕ) → Acts g n (λ k w. gives (c (objects w)) line k w) (λ k w. gives (c (objects w)) line k w)
gives_acts g n c line = fine_acts g n c line (λ v k w. Gives v k w) (λ v k w. Gives v k w) (value_acts g n)

tells_acts : (g : Ahead) (n : ℕ) (c : List Object → Checked Bool Cause) (line : ℕ) → Acts g n (λ k w. tells (c (objects w)) line k w) (λ k w. tells (c (objects w)) line k w)
tells_acts g n c line = fine_acts g n c line (λ b k w. Gives (truth b) k w) (λ b k w. Gives (truth b) k w) (λ b. value_acts g n (truth b))

-- other objects
stored_acts : (g : Ahead) (n : ℕ) (v : Value) (os : List Object) → Acts g n (λ k w. Gives v k (with_objects w os)) (λ k w. Gives v k (with_objects w os))
stored_acts g n v os = record { alike = λ k w l. both_give g k v (with_objects w os); grows = λ k w. record { by = starts_refl w.trace } }

stores_acts : (g : Ahead) (n : ℕ) (c : List Object → Checked (List Object) Cause) (v : Value) (line : ℕ) → Acts g n (λ k w. stores (c (objects w)) v line k w) (λ k w. stores (c (objects w)) v line k w)
stores_acts g n c v line = fine_acts g n c line (λ os k w. Gives v k (with_objects w os)) (λ os k w. Gives v k (with_objects w os)) (stored_acts g n v)

none_acts : (g : Ahead) (n line : ℕ) → Acts g n (λ k w. GivesNone line k w) (λ k w. GivesNone line k w)
none_acts g n line = record { alike = λ k w l. record { falls = omega arith; alike = refl }; grows = λ k w. record { by = starts_refl w.trace } }

undefined_acts : (g : Ahead) (n : ℕ) (cause : Cause) (line : ℕ) → Acts g n (λ k w. undefined cause line w) (λ k w. undefined cause line w)
undefined_acts g n cause line = record { alike = λ k w l. both_undefined g k cause line w; grows = λ k w. record { by = starts_refl w.trace } }

place_goes : (g : Ahead) (p : Option Value) (line k : ℕ) (w : World) → Goes g k (place p line k w) (place p line (k + g.more) (behind g.before w))
place_goes g None line k w = record { falls = tt; alike = refl }
place_goes g (Some p) line k w = both_give g k p w

place_grows : (p : Option Value) (line k : ℕ) (w : World) → Grows w.trace (place p line k w)
place_grows None line k w = record { by = starts_refl w.trace }
place_grows (Some p) line k w = record { by = starts_refl w.trace }

-- a place that the running call or the unit tells
place_acts : (g : Ahead) (n : ℕ) (p : List Value → Option Value) (line : ℕ) → Acts g n (λ k w. place (p w.locals) line k w) (λ k w. place (p w.locals) line k w)
place_acts g n p line = record { alike = λ k w l. place_goes g (p w.locals) line k w; grows = λ k w. place_grows (p w.locals) line k w }

-- ---- tests and changes

abbrev part : CoreTree → (ℕ → World → Result) → Part
part c act = record { tree = c; does = act }

pub asked_acts : (g : Ahead) (n : ℕ) (c : CoreTree) (act bet : ℕ → World → Result) (line : ℕ) → Acts g n act bet → Acts g n (λ k w. asked (part c act) line k w) (λ k w. asked (part c bet) line k w)
asked_acts g n c act bet line h = give_acts g n act bet _ _ h (λ v. tells_acts g n (λ os. holds (type_of c) os v) line)

branch_acts : (g : Ahead) (n : ℕ) (v : Value) (go to other rest : ℕ → World → Result) → Acts g n go to → Acts g n other rest → Acts g n (λ k w. branch v go other k w) (λ k w. branch v to rest k w)
branch_acts g n v go to other rest h a = either_acts g n (is_true v) go to other rest h a

two_acts : (g : Ahead) (n : ℕ) (a b : CoreTree) (act bet act2 bet2 : ℕ → World → Result) (line : ℕ) (f : List Object → Value → Value → Checked Value Cause) → Acts g n act bet → Acts g n act2 bet2 → Acts g n (λ k w. of_two (part a act) (part b act2) line f k w) (λ k w. of_two (part a bet) (part b bet2) line f k w)
two_acts g n a b act bet act2 bet2 line f h i = give_acts g n act bet _ _ h (λ v. give_acts g n act2 bet2 _ _ i (λ u. gives_acts g n (λ os. f os v u) line))

-- the same setting with other calls
abbrev pub with_calls : Setting → (ℕ → Call → Result) → Setting
with_calls s d = record { unit = s.unit; order = s.order; calls = d }

changed_acts : (g : Ahead) (n : ℕ) (s : Setting) (d : ℕ → Call → Result) (by : Change) (x : Spot) (t : CType) (give : Spot → Value → Value → Value) (line : ℕ) (p v : Value) → Acts g n (λ k w. changed_at s by x t give line p v k w) (λ k w. changed_at (with_calls s d) by x t give line p v k w)
changed_acts g n s d by x t give line p v =
    fine_acts g n (λ os. held s.order x os p) line _ _ (λ old. fine_acts g n (λ os. changed by x t os old v) line _ _ (λ new. stores_acts g n (λ os. stored Assignment s.order x new os p) (give x old new) line))

changing_acts : (g : Ahead) (n : ℕ) (s : Setting) (d : ℕ → Call → Result) (by : Change) (give : Spot → Value → Value → Value) (line : ℕ) (a b : CoreTree) (act bet act2 bet2 : ℕ → World → Result) → Acts g n act bet → Acts g n act2 bet2 → Acts g n (λ k w. changing s by give line (part a act) (part b act2) k w) (λ k w. changing (with_calls s d) by give line (part a bet) (part b bet2) k w)
changing_acts g n s d by give line a b act bet act2 bet2 h i =
    give_acts g n act bet _ _ h (λ p. give_acts g n act2 bet2 _ _ i (λ v. changed_acts g n s d by (spot_of a) (type_of b) give line p v))

assign_acts : (g : Ahead) (n : ℕ) (s : Setting) (d : ℕ → Call → Result) (of : CType) (line : ℕ) (a b : CoreTree) (act bet act2 bet2 : ℕ → World → Result) → Acts g n act bet → Acts g n act2 bet2 → Acts g n (λ k w. assignment s of line (part a act) (part b act2) k w) (λ k w. assignment (with_calls s d) of line (part a bet) (part b bet2) k w)
assign_acts g n s d of line a b act bet act2 bet2 h i =
    give_acts g n act bet _ _ h (λ p. give_acts g n act2 bet2 _ _ i (λ v.
    either_acts g n (is_record of) _ _ _ _
    (fine_acts g n (λ os. source s.unit.tags of os v) (line_of b) _ _ (λ x. stores_acts g n (λ os. assigned Assignment s.unit.tags of os x p) p line))
    (stores_acts g n (λ os. stored Assignment s.order (spot_of a) v os p) (kept (spot_of a) v) line)))

-- ---- the comma

abbrev pub KidsAct : Ahead → ℕ → Setting → Setting → CoreTrees → Type 0
KidsAct g n s t NoCore = Unit {0}
KidsAct g n s t (Cores c cs) = Acts g n (λ k w. eval s c k w) (λ k w. eval t c k w) × KidsAct g n s t cs

comma_acts : (g : Ahead) (n : ℕ) (s t : Setting) (cs : CoreTrees) (a : CoreTree) (act bet : ℕ → World → Result) → Acts g n act bet → KidsAct g n s t cs → Acts g n (λ k w. comma_from (part a act) (parts_of s cs) k w) (λ k w. comma_from (part a bet) (parts_of t cs) k w)
comma_acts g n s t NoCore a act bet h hs = h
comma_acts g n s t (Cores b cs) a act bet h hs =
    drop_acts g n act bet _ _ h (comma_acts g n s t cs b (λ k w. eval s b k w) (λ k w. eval t b k w) hs.0 hs.1)

-- ---- calls

-- the same call, where events were seen before
abbrev pub call_behind : List Event → Call → Call
call_behind before a = record { function = a.function; arguments = a.arguments; of = a.of; result = a.result; line = a.line; world = behind before a.world }

-- calls do alike at fewer than n turns
pub record CallsAct (g : Ahead) (n : ℕ) (c d : ℕ → Call → Result) : Type 0 where
  pub alike : (j : ℕ) (a : Call) → j < n → Goes g j (c j a) (d (j + g.more) (call_behind g.before a))
  pub grows : (j : ℕ) (a : Call) → Grows a.world.trace (d j a)

number_goes : (g : Ahead) (k : ℕ) (v : Value) (line : ℕ) (w : World) (go to : ℕ → Result) → ((m : ℕ) → Goes g k (go m) (to m)) → Goes g k (number_of v line w go) (number_of v line (behind g.before w) to)
number_goes g k (Number m) line w go to h = h m
number_goes g k (Pointer o x) line w go to h = record { falls = tt; alike = refl }
number_goes g k (Function f) line w go to h = record { falls = tt; alike = refl }

with_number_goes : (g : Ahead) (k : ℕ) (as' : List Argument) (line : ℕ) (w : World) (go to : ℕ → Result) → ((m : ℕ) → Goes g k (go m) (to m)) → Goes g k (with_number as' line w go) (with_number as' line (behind g.before w) to)
with_number_goes g k [] line w go to h = record { falls = tt; alike = refl }
with_number_goes g k (a ∷ as') line w go to h = number_goes g k a.value line w go to h

event_behind : (before : List Event) (e : Event) (w : World) → with_event (behind before w) e ≡ behind before (with_event w e)
event_behind before e w = ap (λ es. record { storage = w.storage; locals = w.locals; input = w.input; trace = es }) (append_assoc before w.trace (e ∷ []))

get_goes : (g : Ahead) (k : ℕ) (input : List ℕ) (w : World) → Goes g k (get_character input k w) (get_character input (k + g.more) (behind g.before w))
get_goes g k [] w = both_give g k _ w
get_goes g k (byte ∷ rest) w = record { falls = omega arith; alike = refl }

provided_goes : (g : Ahead) (b : BuiltIn) (a : Call) (k : ℕ) → Goes g k (provided b a k) (provided b (call_behind g.before a) (k + g.more))
provided_goes g Putchar a k = with_number_goes g k a.arguments a.line a.world _ _ (λ m. record { falls = omega arith; alike = ap (λ w. Gives (Number (m % 256)) (k + g.more) w) (event_behind g.before (Wrote (m % 256)) a.world) })
provided_goes g Getchar a k = get_goes g k a.world.input a.world
provided_goes g Exit a k = with_number_goes g k a.arguments a.line a.world _ _ (λ m. record { falls = tt; alike = refl })

number_grows : (v : Value) (line : ℕ) (w : World) (go : ℕ → Result) → ((m : ℕ) → Grows w.trace (go m)) → Grows w.trace (number_of v line w go)
number_grows (Number m) line w go h = h m
number_grows (Pointer o x) line w go h = record { by = starts_refl w.trace }
number_grows (Function f) line w go h = record { by = starts_refl w.trace }

with_number_grows : (as' : List Argument) (line : ℕ) (w : World) (go : ℕ → Result) → ((m : ℕ) → Grows w.trace (go m)) → Grows w.trace (with_number as' line w go)
with_number_grows [] line w go h = record { by = starts_refl w.trace }
with_number_grows (a ∷ as') line w go h = number_grows a.value line w go h

get_grows : (input : List ℕ) (k : ℕ) (w : World) → Grows w.trace (get_character input k w)
get_grows [] k w = record { by = starts_refl w.trace }
get_grows (byte ∷ rest) k w = record { by = starts_refl w.trace }

provided_grows : (b : BuiltIn) (a : Call) (k : ℕ) → Grows a.world.trace (provided b a k)
provided_grows Putchar a k = with_number_grows a.arguments a.line a.world _ (λ m. record { by = (Wrote (m % 256) ∷ [], refl) })
provided_grows Getchar a k = get_grows a.world.input k a.world
provided_grows Exit a k = with_number_grows a.arguments a.line a.world _ (λ m. record { by = starts_refl a.world.trace })

-- one of two, where both have the same world
choice_goes : (g : Ahead) (b : Bool) (go to other rest : ℕ → World → Result) (k : ℕ) (w : World) → Goes g k (go k w) (to (k + g.more) (behind g.before w)) → Goes g k (other k w) (rest (k + g.more) (behind g.before w)) → Goes g k (either b go other k w) (either b to rest (k + g.more) (behind g.before w))
choice_goes g true go to other rest k w h i = h
choice_goes g false go to other rest k w h i = i

called_goes : (g : Ahead) (n : ℕ) (s : Setting) (d : ℕ → Call → Result) → CallsAct g n s.calls d → (f : Option FunctionTree) (b : Option BuiltIn) (a : Call) (k : ℕ) → k ≤ n → Goes g k (called_by s f b a k a.world) (called_by (with_calls s d) f b (call_behind g.before a) (k + g.more) (behind g.before a.world))
called_goes g n s d C (Some f) b a k l =
    choice_goes g (fits f a) _ _ _ _ k a.world
    (spend_goes g k a.world _ _ (λ j h. goes_less g j k (s.calls j a) (d (j + g.more) (call_behind g.before a)) (omega (arith, h)) (C.alike j a (omega (arith, h, l)))) (λ j. C.grows j (call_behind g.before a)))
    (record { falls = tt; alike = refl })
called_goes g n s d C None (Some b) a k l =
    choice_goes g (built_in_fits b a.of a.arguments) (λ k1 w1. spend k1 w1 (λ k2. provided b a k2)) (λ k1 w1. spend k1 w1 (λ k2. provided b (call_behind g.before a) k2)) _ _ k a.world
    (spend_goes g k a.world _ _ (λ j h. goes_less g j k (provided b a j) (provided b (call_behind g.before a) (j + g.more)) (omega (arith, h)) (provided_goes g b a j)) (λ j. provided_grows b (call_behind g.before a) j))
    (record { falls = tt; alike = refl })
called_goes g n s d C None None a k l = record { falls = tt; alike = refl }

called_grows : (s : Setting) → ((j : ℕ) (a : Call) → Grows a.world.trace (s.calls j a)) → (f : Option FunctionTree) (b : Option BuiltIn) (a : Call) (k : ℕ) → Grows a.world.trace (called_by s f b a k a.world)
called_grows s C (Some f) b a k = either_grows a.world.trace (fits f a) _ _ k a.world (spend_grows k a.world _ (λ j. C j a)) (record { by = starts_refl a.world.trace })
called_grows s C None (Some b) a k = either_grows a.world.trace (built_in_fits b a.of a.arguments) _ _ k a.world (spend_grows k a.world _ (λ j. provided_grows b a j)) (record { by = starts_refl a.world.trace })
called_grows s C None None a k = record { by = starts_refl a.world.trace }

abbrev call_of : List Argument → CType → Option Value → ℕ → World → ℕ → Call
call_of xs of result line w f = record { function = f; arguments = xs; of = of; result = result; line = line; world = w }

value_goes : (g : Ahead) (n : ℕ) (s : Setting) (d : ℕ → Call → Result) → CallsAct g n s.calls d → (v : Value) (xs : List Argument) (of : CType) (result : Option Value) (line k : ℕ) (w : World) → k ≤ n → Goes g k (call_value s v (call_of xs of result line w) line k w) (call_value (with_calls s d) v (call_of xs of result line (behind g.before w)) line (k + g.more) (behind g.before w))
value_goes g n s d C (Function f) xs of result line k w l = called_goes g n s d C (function_at s.unit f) (built_in_at s.unit f) (call_of xs of result line w f) k l
value_goes g n s d C (Number m) xs of result line k w l = record { falls = tt; alike = refl }
value_goes g n s d C (Pointer o x) xs of result line k w l = record { falls = tt; alike = refl }

value_grows : (s : Setting) → ((j : ℕ) (a : Call) → Grows a.world.trace (s.calls j a)) → (v : Value) (xs : List Argument) (of : CType) (result : Option Value) (line k : ℕ) (w : World) → Grows w.trace (call_value s v (call_of xs of result line w) line k w)
value_grows s C (Function f) xs of result line k w = called_grows s C (function_at s.unit f) (built_in_at s.unit f) (call_of xs of result line w f) k
value_grows s C (Number m) xs of result line k w = record { by = starts_refl w.trace }
value_grows s C (Pointer o x) xs of result line k w = record { by = starts_refl w.trace }

value_calls : (g : Ahead) (n : ℕ) (s : Setting) (d : ℕ → Call → Result) → CallsAct g n s.calls d → (v : Value) (xs : List Argument) (of : CType) (m line : ℕ) → Acts g n (λ k w. call_value s v (call_of xs of (result_place of w.locals m) line w) line k w) (λ k w. call_value (with_calls s d) v (call_of xs of (result_place of w.locals m) line w) line k w)
value_calls g n s d C v xs of m line = record {
  alike = λ k w l. value_goes g n s d C v xs of (result_place of w.locals m) line k w l;
  grows = λ k w. value_grows (with_calls s d) C.grows v xs of (result_place of w.locals m) line k w;
}

copied_goes : (g : Ahead) (n : ℕ) (s : Setting) (d : ℕ → Call → Result) (copy : Option Value) (a : CoreTree) (act bet : ℕ → World → Result) (v : Value) (go to : Argument → ℕ → World → Result) → ((x : Argument) → Acts g n (go x) (to x)) → (k : ℕ) (w : World) → k ≤ n → Goes g k (copied_to s copy (part a act) v k w go) (copied_to (with_calls s d) copy (part a bet) v (k + g.more) (behind g.before w) to)
copied_goes g n s d None a act bet v go to h k w l = record { falls = tt; alike = refl }
copied_goes g n s d (Some copy) a act bet v go to h k w l =
    fine_goes g k (source s.unit.tags (type_of a) (objects w) v) (line_of a) w _ _
    (λ from. fine_goes g k (assigned Initialisation s.unit.tags (type_of a) (objects w) from copy) (line_of a) w _ _
    (λ os. (h (record { value = copy; of = type_of a; line = line_of a })).alike k (with_objects w os) l))

copied_grows : (s : Setting) (copy : Option Value) (a : CoreTree) (act : ℕ → World → Result) (v : Value) (go : Argument → ℕ → World → Result) → ((x : Argument) → GrowsAct (go x)) → GrowsAct (λ k w. copied_to s copy (part a act) v k w go)
copied_grows s None a act v go h k w = record { by = starts_refl w.trace }
copied_grows s (Some copy) a act v go h k w =
    fine_grows w.trace (source s.unit.tags (type_of a) (objects w) v) (line_of a) w _ (starts_refl w.trace)
    (λ from. fine_grows w.trace (assigned Initialisation s.unit.tags (type_of a) (objects w) from copy) (line_of a) w _ (starts_refl w.trace)
    (λ os. h (record { value = copy; of = type_of a; line = line_of a }) k (with_objects w os)))

copied_acts : (g : Ahead) (n : ℕ) (s : Setting) (d : ℕ → Call → Result) (m : ℕ) (a : CoreTree) (act bet : ℕ → World → Result) (v : Value) (go to : Argument → ℕ → World → Result) → ((x : Argument) → Acts g n (go x) (to x)) → Acts g n (λ k w. copied_to s (slice_get w.locals m) (part a act) v k w go) (λ k w. copied_to (with_calls s d) (slice_get w.locals m) (part a bet) v k w to)
copied_acts g n s d m a act bet v go to h = record {
  alike = λ k w l. copied_goes g n s d (slice_get w.locals m) a act bet v go to h k w l;
  grows = λ k w. copied_grows (with_calls s d) (slice_get w.locals m) a bet v to (λ x. (h x).grows) k w;
}

arguments_act : (g : Ahead) (n : ℕ) (s : Setting) (d : ℕ → Call → Result) (cs : CoreTrees) (m : ℕ) (done : List Argument) (go to : ℕ → List Argument → ℕ → World → Result) → KidsAct g n s (with_calls s d) cs → ((m : ℕ) (xs : List Argument) → Acts g n (go m xs) (to m xs)) → Acts g n (λ k w. arguments s m (parts_of s cs) done k w go) (λ k w. arguments (with_calls s d) m (parts_of (with_calls s d) cs) done k w to)
arguments_act g n s d NoCore m done go to hs h = h m done
arguments_act g n s d (Cores a cs) m done go to hs h =
    give_acts g n (λ k w. eval s a k w) (λ k w. eval (with_calls s d) a k w) _ _ hs.0 (λ v.
    either_acts g n (is_record (type_of a)) _ _ _ _
    (copied_acts g n s d m a (λ k w. eval s a k w) (λ k w. eval (with_calls s d) a k w) v _ _ (λ x. arguments_act g n s d cs (m + 1) (done ++ x ∷ []) go to hs.1 h))
    (arguments_act g n s d cs m (done ++ record { value = v; of = type_of a; line = line_of a } ∷ []) go to hs.1 h))

calling_acts : (g : Ahead) (n : ℕ) (s : Setting) (d : ℕ → Call → Result) → CallsAct g n s.calls d → (m : ℕ) (of : CType) (line : ℕ) (f : CoreTree) (cs : CoreTrees) → Acts g n (λ k w. eval s f k w) (λ k w. eval (with_calls s d) f k w) → KidsAct g n s (with_calls s d) cs → Acts g n (λ k w. calling s m of line (part f (λ k1 w1. eval s f k1 w1)) (parts_of s cs) k w) (λ k w. calling (with_calls s d) m of line (part f (λ k1 w1. eval (with_calls s d) f k1 w1)) (parts_of (with_calls s d) cs) k w)
calling_acts g n s d C m of line f cs h hs =
    give_acts g n (λ k w. eval s f k w) (λ k w. eval (with_calls s d) f k w) _ _ h (λ callee.
    arguments_act g n s d cs m [] _ _ hs (λ m2 xs. value_calls g n s d C callee xs of m2 line))

-- ---- all expressions

mutual
  pub eval_acts : (g : Ahead) (n : ℕ) (s : Setting) (d : ℕ → Call → Result) → CallsAct g n s.calls d → (e : CoreTree) → Acts g n (λ k w. eval s e k w) (λ k w. eval (with_calls s d) e k w)
  eval_acts g n s d C (Core (kind.Local m register) of line NoCore) = place_acts g n (λ ls. slice_get ls m) line
  eval_acts g n s d C (Core (kind.Object m) of line NoCore) = place_acts g n (λ ls. place_of_object s.unit m (slice_get s.unit.objects m)) line
  eval_acts g n s d C (Core (kind.Text m) of line NoCore) = place_acts g n (λ ls. place_of_text s.unit m (slice_get s.unit.texts m)) line
  eval_acts g n s d C (Core (kind.Function m) of line NoCore) = value_acts g n _
  eval_acts g n s d C (Core (kind.BuiltIn b) of line NoCore) = value_acts g n _
  eval_acts g n s d C (Core (kind.Number m) of line NoCore) = value_acts g n _
  eval_acts g n s d C (Core kind.Pointed of line (Cores a NoCore)) = give_acts g n _ _ _ _ (eval_acts g n s d C a) (λ p. value_acts g n p)
  eval_acts g n s d C (Core (kind.Member offset first width) of line (Cores a NoCore)) = give_acts g n _ _ _ _ (eval_acts g n s d C a) (λ p. gives_acts g n (λ os. moved os p (pos offset)) line)
  eval_acts g n s d C (Core kind.Read of line (Cores a NoCore)) = give_acts g n _ _ _ _ (eval_acts g n s d C a) (λ p. gives_acts g n (λ os. held s.order (spot_of a) os p) line)
  eval_acts g n s d C (Core kind.Address of line (Cores a NoCore)) = give_acts g n _ _ _ _ (eval_acts g n s d C a) (λ p. value_acts g n p)
  eval_acts g n s d C (Core kind.First of line (Cores a NoCore)) = give_acts g n _ _ _ _ (eval_acts g n s d C a) (λ p. value_acts g n p)
  eval_acts g n s d C (Core (kind.Convert to.Void) of line (Cores a NoCore)) = drop_acts g n _ _ _ _ (eval_acts g n s d C a) (none_acts g n 0)
  eval_acts g n s d C (Core (kind.Convert to.Pointer) of line (Cores a NoCore)) = give_acts g n _ _ _ _ (eval_acts g n s d C a) (λ p. value_acts g n p)
  eval_acts g n s d C (Core (kind.Convert (to.Integer x)) of line (Cores a NoCore)) = give_acts g n _ _ _ _ (eval_acts g n s d C a) (λ v. gives_acts g n (λ os. converted x v) (line_of a))
  eval_acts g n s d C (Core (kind.Unary op) of line (Cores a NoCore)) = give_acts g n _ _ _ _ (eval_acts g n s d C a) (λ v. gives_acts g n (λ os. unary_value op v) line)
  eval_acts g n s d C (Core kind.Not of line (Cores a NoCore)) = give_acts g n _ _ _ _ (asked_acts g n a _ _ line (eval_acts g n s d C a)) (λ v. branch_acts g n v _ _ _ _ (value_acts g n (truth false)) (value_acts g n (truth true)))
  eval_acts g n s d C (Core (kind.Binary op signed) of line (Cores a (Cores b NoCore))) = two_acts g n a b _ _ _ _ line (λ os v x. binary_value signed op v x) (eval_acts g n s d C a) (eval_acts g n s d C b)
  eval_acts g n s d C (Core (kind.Compare op signed) of line (Cores a (Cores b NoCore))) = two_acts g n a b _ _ _ _ line (λ os v x. compared_by (type_of a) signed op os v x) (eval_acts g n s d C a) (eval_acts g n s d C b)
  eval_acts g n s d C (Core (kind.Move size back) of line (Cores a (Cores b NoCore))) = two_acts g n a b _ _ _ _ line (λ os v x. moved_among size back (type_of a) (type_of b) os v x) (eval_acts g n s d C a) (eval_acts g n s d C b)
  eval_acts g n s d C (Core (kind.Difference size) of line (Cores a (Cores b NoCore))) = two_acts g n a b _ _ _ _ line (λ os v x. subtracted os size v x) (eval_acts g n s d C a) (eval_acts g n s d C b)
  eval_acts g n s d C (Core kind.And of line (Cores a (Cores b NoCore))) = give_acts g n _ _ _ _ (asked_acts g n a _ _ line (eval_acts g n s d C a)) (λ v. branch_acts g n v _ _ _ _ (asked_acts g n b _ _ line (eval_acts g n s d C b)) (value_acts g n (truth false)))
  eval_acts g n s d C (Core kind.Or of line (Cores a (Cores b NoCore))) = give_acts g n _ _ _ _ (asked_acts g n a _ _ line (eval_acts g n s d C a)) (λ v. branch_acts g n v _ _ _ _ (value_acts g n (truth true)) (asked_acts g n b _ _ line (eval_acts g n s d C b)))
  eval_acts g n s d C (Core kind.Conditional of line (Cores a (Cores b (Cores e NoCore)))) = give_acts g n _ _ _ _ (asked_acts g n a _ _ (line_of a) (eval_acts g n s d C a)) (λ v. branch_acts g n v _ _ _ _ (eval_acts g n s d C b) (eval_acts g n s d C e))
  eval_acts g n s d C (Core kind.Comma of line (Cores a cs)) = comma_acts g n s (with_calls s d) cs a _ _ (eval_acts g n s d C a) (kids_act g n s d C cs)
  eval_acts g n s d C (Core kind.Assign of line (Cores a (Cores b NoCore))) = assign_acts g n s d of line a b _ _ _ _ (eval_acts g n s d C a) (eval_acts g n s d C b)
  eval_acts g n s d C (Core (kind.Change by) of line (Cores a (Cores b NoCore))) = changing_acts g n s d by new_value line a b _ _ _ _ (eval_acts g n s d C a) (eval_acts g n s d C b)
  eval_acts g n s d C (Core (kind.Postfix by) of line (Cores a (Cores b NoCore))) = changing_acts g n s d by old_value line a b _ _ _ _ (eval_acts g n s d C a) (eval_acts g n s d C b)
  eval_acts g n s d C (Core (kind.Call m) of line (Cores f cs)) = calling_acts g n s d C m of line f cs (eval_acts g n s d C f) (kids_act g n s d C cs)
  eval_acts g n s d C (Core what of line kids) = undefined_acts g n _ line

  pub kids_act : (g : Ahead) (n : ℕ) (s : Setting) (d : ℕ → Call → Result) → CallsAct g n s.calls d → (cs : CoreTrees) → KidsAct g n s (with_calls s d) cs
  kids_act g n s d C NoCore = tt
  kids_act g n s d C (Cores e cs) = (eval_acts g n s d C e, kids_act g n s d C cs)
