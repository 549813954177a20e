-- The operands of a call, one behind the other: those that are there wait, in slots where that isn't straight; and a structure is copied at once.
use Rattle.std.specs.Prelude.{◌≡◌, ◌≤◌, ◌<◌, ℕ, suc, ℤ, pos, negsuc, Bool, true, false, if◌then◌else◌, Option, Some, None, Ok, List, [], ◌∷◌, ◌++◌, ◌+◌, length, slice_get, map as mapped, Result as Checked}
use Rattle.std.proofs.Common.{true≢false, refl, sym, ap, subst, ◌∙◌, arith}
use Rattle.lcc_base.specs.declared.cause.Cause.{Cause}
use Rattle.objects.specs.declared.purpose.Purpose.TheVariants.{Initialisation}
use Rattle.objects.specs.declared.value.Value.{Value}
use Rattle.objects.specs.Accesses.{read_cause}
use Rattle.forests.specs.Words.{Word}
use Rattle.forests.specs.Worlds.{World, Outcome}
use Rattle.dag_forest.specs.Tally.{node_count}
use Rattle.c_types.specs.CType.{CType, unqualified}
use Rattle.c_meaning.specs.Copies.{locals_from, copied, all_copied}
use Rattle.c_meaning.specs.CoreTrees.{NoCore, Cores, type_of, line_of}
use Rattle.c_meaning.specs.Types.{is_record}
use Rattle.c_meaning.specs.Values.{CoreTree, CoreTrees}
use Rattle.c_runs.specs.Calls.{Argument}
use Rattle.c_runs.specs.Expressions.{Part, eval, parts_of as does_of, copied_to, arguments}
use Rattle.c_runs.specs.Locals.{LocalIsObject}
use Rattle.c_runs.specs.Outcomes.{Result, either, if_fine}
use Rattle.c_runs.specs.Places.{source, assigned, size_of, align_of}
use Rattle.c_runs.specs.Run.{context}
use Rattle.c_runs.specs.Soundness.{outlines, IsSoundValue, IsObjectOf, Outline, EvalStaysSound, CopiesStaySound}
use Rattle.c_runs.specs.Worlds as c
use Rattle.c_match.specs.Ranges.{Map}
use Rattle.c_match.proofs.lemmas.Growing.{grown_refl}
use Rattle.c_rows_agree.specs.Integers.{number}
use Rattle.c_rows_agree.specs.Typed.{Typed}
use Rattle.piece_runs.specs.Pieces.{Piece, Front}
use Rattle.piece_runs.specs.Reaches.{keeps_at}
use Rattle.c_expr_agreement.specs.LoweredExpr.{GrowsTo}
use Rattle.c_expr_agreement.specs.Scenes.{Scene}
use Rattle.lowered_forms.specs.Accesses.{copy_root}
use Rattle.lowered_forms.specs.Accesses as low
use Rattle.lowered_forms.specs.Calls.{Passed, all_held, behind, passed_by, with_arguments}
use Rattle.lowered_forms.specs.Contexts.{Context}
use Rattle.lowered_forms.specs.Expressions.{low_e, parts_of}
use Rattle.lowered_forms.specs.Later.{IsFront, IsLater}
use Rattle.lowered_forms.specs.Lows.{Low}
use Rattle.lowered_forms.specs.Places.{address_at, local_place}
use Rattle.lowered_forms.specs.Straight.{straight}
use Rattle.lowered_forms.specs.Values.{Lowered, held}
use Rattle.lowered_forms.proofs.lemmas.Adding.{lowering_adds}
use Rattle.lowered_forms.proofs.lemmas.Fronts.{front_joins}
use Rattle.lowered_forms.proofs.lemmas.NodesOf.{value_comes}
use Rattle.lowered_forms.proofs.lemmas.Pending.{IsPending, pending_in}
use Rattle.lowered_forms.proofs.lemmas.WithinTemplates.{local_in}
use Rattle.c_straight_agree.specs.Agreement.{HasValue, Came, CameTo}
use Rattle.c_straight_agree.specs.Extends.{Extends}
use Rattle.c_straight_agree.specs.Finals.{Final}
use Rattle.c_straight_agree.specs.Lasting.{LastingValue}
use Rattle.c_straight_agree.specs.Layouts.{FrameLayout, context_in, IsLaidOut, HoldsWholes}
use Rattle.c_straight_agree.specs.Narrow.{CharsAreNarrow, ShortsAreNarrow}
use Rattle.c_straight_agree.specs.Parts.{IsLoweredPart, AreLoweredParts}
use Rattle.c_straight_agree.specs.Standing.{place_of, IsBody, Standing, IsSoundIn}
use Rattle.c_straight_agree.proofs.lemmas.Assigning.{fine_came}
use Rattle.c_straight_agree.proofs.lemmas.Coming.{joins, gives_then, operand_settled}
use Rattle.c_straight_agree.proofs.lemmas.Copying.{copied_came}
use Rattle.c_straight_agree.proofs.lemmas.Extending.{extends_itself, extends_joins, extends_pieces, acted_extends, straight_extends, later_extends, grows_later, extends_nodes, extends_slots, extends_grows, front_back, slots_back}
use Rattle.c_straight_agree.proofs.lemmas.Finals.{finals_go_back}
use Rattle.c_straight_agree.proofs.lemmas.Kept.{front_length}
use Rattle.c_straight_agree.proofs.lemmas.Lasting.{lasting_value}
use Rattle.c_straight_agree.proofs.lemmas.Leaves.{address_has, local_is}
use Rattle.c_straight_agree.proofs.lemmas.Parts.{result, sound_on, sound_behind, slots_later}
use Rattle.c_straight_agree.proofs.lemmas.Putting.{each_at}
use Rattle.c_straight_agree.proofs.lemmas.Reading.{if_none_is}
use Rattle.c_straight_agree.proofs.lemmas.Wholes.{wholes_left, wholes_stay}
use Rattle.c_calls_agree.specs.Laws.{AreWithin, HasCopies}
use Rattle.c_calls_agree.specs.Passing.{HaveValues}
use Rattle.c_calls_agree.proofs.lemmas.Copies.{each_with, not_passed_whole, place_for, local_is_open, AreEvaluated, evaluated_later, evaluated_with}
use Rattle.c_calls_agree.proofs.lemmas.Holding.{ArePending, pending_later, pending_within, all_held_extends, saved_pending, no_nodes, AllWait, passed_of, number_word, waits_there, all_saved}
use Rattle.c_calls_agree.proofs.lemmas.Words.{have_more, values_stay}

-- ---- the operands that are there

-- behind one more, by whether it is a structure, where those that are there wait for it by whether it is straight
abbrev pub with_operand : Bool → Context → CoreTree → Passed → Passed
with_operand b x e q = passed_by b x (type_of e) q (low_e x e q.low)

abbrev pub held_before : CoreTree → Passed → Passed
held_before e p = all_held (straight e) p.next p.values p.low

-- behind all
abbrev pub passed_from : Context → CoreTrees → Passed → Passed
passed_from x NoCore p = p
passed_from x (Cores e es) p = passed_from x es (with_operand (is_record (type_of e)) x e (held_before e p))

pub arguments_are : (x : Context) (es : CoreTrees) (p : Passed) → with_arguments x (parts_of x es) p ≡ passed_from x es p
arguments_are x NoCore p = refl
arguments_are x (Cores e es) p = arguments_are x es (with_operand (is_record (type_of e)) x e (held_before e p))

all_held_is : (n : ℕ) (vs : List Typed) (l : Low) → all_held true n vs l ≡ passed_of n vs l
all_held_is n [] l = refl
all_held_is n (v ∷ vs) l = ap (λ (p : Passed). passed_of p.next (v ∷ p.values) p.low) (all_held_is n vs l)

-- what waits has no copies
next_is : (t : Bool) (n : ℕ) (vs : List Typed) (l : Low) → (all_held t n vs l).next ≡ n
next_is t n [] l = refl
next_is t n (v ∷ vs) l = next_is t n vs (held t v l).low

operand_extends : (b : Bool) (x : Context) (e : CoreTree) (q : Passed) → Extends (low_e x e q.low).low (with_operand b x e q).low
operand_extends false x e q = extends_itself (low_e x e q.low).low
operand_extends true x e q =
    acted_extends (copy_root (size_of x.unit.tags (type_of e)) (align_of x.unit.tags (type_of e)) (local_place x q.next (type_of e)) (low_e x e q.low).value) (low_e x e q.low).low

-- ---- what the last state goes on from

-- in the same block, or in a later one
pub record Follows (l m : Low) : Type 0 where
  pub pieces : IsFront l.pieces m.pieces
  pub same : m.pieces ≡ l.pieces → Extends l m

follows_on : (l m r : Low) → Extends l m → Follows m r → Follows l r
follows_on l m r x y = record { pieces = front_joins l.pieces m.pieces r.pieces (extends_pieces l m x) y.pieces; same = λ is. extends_joins l m r x (y.same (is ∙ sym x.pieces)) }

follows_later : (l m r : Low) → IsLater l m → Follows m r → Follows l r
follows_later l m r x y = record {
  pieces = front_joins l.pieces m.pieces r.pieces x.pieces y.pieces;
  same = λ is. let one = later_extends l m r.pieces x y.pieces is in extends_joins l m r one (y.same (is ∙ sym one.pieces));
}

final_back : (all : List Piece) (l m : Low) → Extends l m → Final all m → Final all l
final_back all l m x f = record { front = front_back all l m x f.front; slots = slots_back all l m x f.front f.slots }

module _ (x : Context) (go : Passed → Lowered) (further : (p : Passed) → Extends p.low (go p).low) where
  pub follows_all : (es : CoreTrees) (p : Passed) → Follows p.low (go (passed_from x es p)).low
  follows_all NoCore p = record { pieces = extends_pieces p.low (go p).low (further p); same = λ e. further p }
  follows_all (Cores e es) p =
      let b = is_record (type_of e) in
      let q = held_before e p in
      let m = (low_e x e q.low).low in
      let p2 = with_operand b x e q in
      let r = (go (passed_from x es p2)).low in
      follows_on p.low q.low r (all_held_extends (straight e) p.next p.values p.low) (follows_later q.low m r (lowering_adds x e q.low) (follows_on m p2.low r (operand_extends b x e q) (follows_all es p2)))

  pub final_before : (all : List Piece) (es : CoreTrees) (p : Passed) → Final all (go (passed_from x es p)).low → Final all p.low
  final_before all NoCore p f = final_back all p.low (go p).low (further p) f
  final_before all (Cores e es) p f =
      let b = is_record (type_of e) in
      let q = held_before e p in
      let p2 = with_operand b x e q in
      final_back all p.low q.low (all_held_extends (straight e) p.next p.values p.low) (finals_go_back all x e q.low (final_back all (low_e x e q.low).low p2.low (operand_extends b x e q) (final_before all es p2 f)))

-- ---- lists

have_with : (s : Scene) (locals slots : ℕ) (as' : List Typed) (map : Map) (values : ℕ → Word) (w : World) (vs : List Value) (a : Typed) (v : Value) → HaveValues s locals slots as' map values w vs → LastingValue s locals slots a map values w v → HaveValues s locals slots (as' ++ a ∷ []) map values w (vs ++ v ∷ [])
have_with s locals slots [] map values w [] a v h g = (g, tt)
have_with s locals slots [] map values w (u ∷ vs) a v h g = absurd h
have_with s locals slots (b ∷ as') map values w [] a v h g = absurd h
have_with s locals slots (b ∷ as') map values w (u ∷ vs) a v h g = (h.0, have_with s locals slots as' map values w vs a v h.1 g)

abbrev pub values_of : List Argument → List Value
values_of xs = mapped (λ (x : Argument). x.value) xs

values_of_with : (xs : List Argument) (x : Argument) → values_of (xs ++ x ∷ []) ≡ values_of xs ++ x.value ∷ []
values_of_with [] x = refl
values_of_with (y ∷ xs) x = ap (λ vs. y.value ∷ vs) (values_of_with xs x)

address_pending : (n : ℕ) (z : ℤ) → IsPending n (address_at z).tree
address_pending n (pos m) = tt
address_pending n (negsuc m) = tt

abbrev fine : Value → Checked Value Cause
fine v = Ok v

fine_same : (v u : Value) → fine v ≡ fine u → v ≡ u
fine_same v u e = cc

-- what is copied of a value of a type, by whether that is a structure
abbrev copied_if : Bool → CType → List CType
copied_if b t = if b then unqualified t ∷ [] else []

-- ---- what is done with all of them

module _ (s : Scene) (locals : ℕ) (body : IsBody s locals) where
  -- a result of this type, if it is a structure, has a local behind the copies
  abbrev pub GoesAll : FrameLayout → CType → (ℕ → List Typed → Low → Lowered) → (ℕ → List Argument → ℕ → c.World → Result) → Value → Type 0
  GoesAll y of make act callee =
      (n : ℕ) (m : Low) → locals ≤ length m.slots → (ps : List Typed) → AreWithin (node_count m.entries) ps → HasCopies y (locals_from n (copied of)) → (xs : List Argument) (start : ℕ → Outcome) (turns : ℕ) (f : Front s.body.pieces m.pieces m.entries) (h : Front s.body.pieces (make n ps m).low.pieces (make n ps m).low.entries)
      (map : Map) (old : c.World) (values : ℕ → Word) (w : World) (k : ℕ) → IsFront (make n ps m).low.slots h.before → Standing s start turns m f map old values w k → IsSoundIn s old → HoldsWholes s y w → AreEvaluated s old xs → HaveValues s locals (length m.slots) ps map values w (callee ∷ values_of xs)
      → CameTo s start turns m (make n ps m).low h (make n ps m).value map old values w (act n xs k old)

  module _ (chars : CharsAreNarrow) (shorts : ShortsAreNarrow) (evals : EvalStaysSound) (copying : CopiesStaySound) (each : LocalIsObject) (y : FrameLayout) (laid : IsLaidOut s y) (of : CType) (make : ℕ → List Typed → Low → Lowered) (more : (n : ℕ) (ps : List Typed) (l : Low) → Extends l (make n ps l).low) (act : ℕ → List Argument → ℕ → c.World → Result) (callee : Value) where
    abbrev go : Passed → Lowered
    go p = make p.next p.values p.low

    further : (p : Passed) → Extends p.low (go p).low
    further p = more p.next p.values p.low

    abbrev x : Context
    x = context_in s y

    abbrev rest : ℕ → CoreTrees → List Argument → ℕ → c.World → Result
    rest n es done k old = arguments (context s.unit s.lowered.order) n (does_of (context s.unit s.lowered.order) es) done k old (λ m xs k2 w2. act m xs k2 w2)

    -- what is done with the value of an operand, by whether it is a structure
    abbrev then_by : Bool → CoreTree → CoreTrees → ℕ → List Argument → Value → ℕ → c.World → Result
    then_by b e es n done v k old =
        either b (λ k2 w2. copied_to (context s.unit s.lowered.order) (slice_get w2.locals n) (record { tree = e; does = λ k1 w1. eval (context s.unit s.lowered.order) e k1 w1 }) v k2 w2 (λ u k3 w3. rest (n + 1) es (done ++ u ∷ []) k3 w3))
        (λ k2 w2. rest n es (done ++ record { value = v; of = type_of e; line = line_of e } ∷ []) k2 w2) k old

    abbrev RestComes : CoreTrees → Type 0
    RestComes es =
        (p : Passed) → locals ≤ length p.low.slots → ArePending (node_count p.low.entries) p.values → HasCopies y (locals_from p.next (all_copied es ++ copied of)) → (done : List Argument) (start : ℕ → Outcome) (turns : ℕ) (f : Front s.body.pieces p.low.pieces p.low.entries)
        (h : Front s.body.pieces (go (passed_from x es p)).low.pieces (go (passed_from x es p)).low.entries) (map : Map) (before : c.World) (values : ℕ → Word) (first : World) (k : ℕ) → IsFront (go (passed_from x es p)).low.slots h.before
        → Standing s start turns p.low f map before values first k → IsSoundIn s before → HoldsWholes s y first → AreEvaluated s before done → HaveValues s locals (length p.low.slots) p.values map values first (callee ∷ values_of done)
        → CameTo s start turns p.low (go (passed_from x es p)).low h (go (passed_from x es p)).value map before values first (rest p.next es done k before)

    -- ---- behind one operand more

    module _ (e : CoreTree) (es : CoreTrees) (others : RestComes es) (q : Passed) where
      abbrev t : CType
      t = type_of e

      abbrev m : Low
      m = (low_e x e q.low).low

      abbrev a : Typed
      a = (low_e x e q.low).value

      abbrev operand : Part
      operand = record { tree = e; does = λ k1 w1. eval (context s.unit s.lowered.order) e k1 w1 }

      abbrev passed : Value → Argument
      passed v = record { value = v; of = type_of e; line = line_of e }

      -- with the place to which a structure is copied
      abbrev copied_operand : Typed → Passed
      copied_operand to = behind q.values to (suc q.next) (low.copied x.unit.tags (type_of e) to a m)

      abbrev all_by : Bool → Lowered
      all_by b = go (passed_from x es (with_operand b x e q))

      module _ (le : locals ≤ length m.slots) (start : ℕ → Outcome) (turns : ℕ) (f : Front s.body.pieces m.pieces m.entries) (map : Map) (old : c.World) (values : ℕ → Word) (w : World) (k : ℕ) (st : Standing s start turns m f map old values w k) (sound : IsSoundIn s old) (wholes : HoldsWholes s y w)
          (done : List Argument) (evaluated : AreEvaluated s old done) (pending : ArePending (node_count m.entries) q.values) (have : HaveValues s locals (length m.slots) q.values map values w (callee ∷ values_of done)) (in_a : IsPending (node_count m.entries) a.tree) (v : Value) (sv : IsSoundValue old.storage.made v) (hv : HasValue s a map values w v) where
        -- a structure is copied
        module _ (whole : is_record t ≡ true) (typed : slice_get y.types q.next ≡ Some (unqualified t)) (behind_parameters : y.parameters ≤ q.next) (copies : HasCopies y (locals_from (q.next + 1) (all_copied es ++ copied of))) where
          copy_then : (z : ℤ) (copy : Value) → slice_get old.locals q.next ≡ Some copy → IsObjectOf (outlines (c.objects old)) (size_of s.unit.tags t) copy → HasValue s (address_at z) map values w copy
              → (h : Front s.body.pieces (go (passed_from x es (copied_operand (address_at z)))).low.pieces (go (passed_from x es (copied_operand (address_at z)))).low.entries) → IsFront (go (passed_from x es (copied_operand (address_at z)))).low.slots h.before
              → CameTo s start turns m (go (passed_from x es (copied_operand (address_at z)))).low h (go (passed_from x es (copied_operand (address_at z)))).value map old values w
              (copied_to (context s.unit s.lowered.order) (Some copy) operand v k old (λ u k3 w3. rest (q.next + 1) es (done ++ u ∷ []) k3 w3))
          unfolding context
          copy_then z copy there object has h slots =
              let tags = s.unit.tags in
              let to = address_at z in
              let p3 = copied_operand to in
              let l3 = p3.low in
              let r = go (passed_from x es p3) in
              let n = node_count m.entries in
              let last = final_before x go further s.body.pieces es p3 (record { front = h; slots = slots }) in
              let tail = follows_all x go further es p3 in
              let x3 = acted_extends (copy_root (size_of tags t) (align_of tags t) to a) m in
              let go_on : List Argument → ℕ → c.World → Result = λ xs k3 w3. rest (q.next + 1) es xs k3 w3 in
              fine_came (source tags t (c.objects old) v) s start turns m r.low h r.value map old values w (line_of e) old
              (λ from. if_fine (assigned Initialisation tags t (c.objects old) from copy) (line_of e) old (λ os. go_on (done ++ passed copy ∷ []) k (c.with_objects old os)))
              (λ from is.
              let same = fine_same v from (if_none_is (read_cause (c.objects old) v (size_of tags t) (align_of tags t)) (Ok v) from is).1 in
              fine_came (assigned Initialisation tags t (c.objects old) from copy) s start turns m r.low h r.value map old values w (line_of e) old (λ os. go_on (done ++ passed copy ∷ []) k (c.with_objects old os))
              (λ os is2.
              let copied_is = subst (λ (u : Value). assigned Initialisation tags t (c.objects old) u copy ≡ Ok os) (sym same) is2 in
              let new = c.with_objects old os in
              let changed = copying s.unit Initialisation t v copy old os sound.sound copied_is in
              let in_to = local_in n false (Some z) in
              let one = copied_came s locals body tags t chars shorts m le to a in_to (pending_in n a.tree in_a) copy v start turns f map old values w k st Initialisation
              (local_is_open map old.locals s.frame.addresses w.objects st.stands.frame.locals wholes.opens q.next copy there) has.holds (operand_settled (keeps_at s.body m.pieces m.entries f) s to map values w copy has) hv os copied_is to copy in_to has last.front in
              let arg = passed copy in
              let evaluated3 = evaluated_with s new done arg (evaluated_later s old new done changed.1 evaluated) (each_at (IsSoundValue old.storage.made) old.locals q.next copy sound.sound.locals there)
              (λ is3. subst (λ (ls : List Outline). IsObjectOf ls (size_of tags t) copy) (sym changed.1.lives) object) (λ is3. (q.next, there)) in
              let longer = extends_slots m l3 x3 in
              let pending3 = each_with (λ (u : Typed). IsPending (node_count l3.entries) u.tree) q.values to (pending_later n (node_count l3.entries) q.values (extends_nodes m l3 x3) pending) (address_pending (node_count l3.entries) z) in
              let have3 = have_with s locals (length l3.slots) q.values one.later one.others one.world (callee ∷ values_of done) to copy
              (have_more s locals (length m.slots) (length l3.slots) longer q.values one.later one.others one.world (callee ∷ values_of done)
              (values_stay s locals body (length m.slots) (length m.slots) (omega arith) map one.later one.grown old values one.others w one.world st.stands.frame one.alike one.left n (one.kept (extends_grows m l3 x3)) q.values (callee ∷ values_of done) (pending_within n q.values pending) have))
              (lasting_value s locals (length l3.slots) to one.later one.others one.world copy one.has) in
              let have4 = subst (λ (vs : List Value). HaveValues s locals (length l3.slots) (q.values ++ to ∷ []) one.later one.others one.world (callee ∷ vs)) (sym (values_of_with done arg)) have3 in
              let next : q.next + 1 ≡ suc q.next = omega arith in
              joins s start turns m l3 r.low last.front h to r.value map old values w (Some copy) new k longer (λ g. (extends_grows m l3 x3, (extends_grows l3 r.low (tail.same (g.done ∙ sym x3.pieces)), extends_nodes m l3 x3))) one (go_on (done ++ arg ∷ []) k new)
              (subst (λ (i : ℕ). CameTo s start turns l3 r.low h r.value one.later new one.others one.world (rest i es (done ++ arg ∷ []) k new)) (sym next)
              (others p3 (slots_later s locals body m l3 x3.slots le) pending3 (subst (λ (i : ℕ). HasCopies y (locals_from i (all_copied es ++ copied of))) next copies) (done ++ arg ∷ []) start turns last.front h one.later new one.others one.world k slots one.stands
              (sound_on s old new sound changed.0 changed.1) (wholes_stay s y laid start turns m l3 f last.front to map old values w k st (Some copy) new k one wholes) evaluated3 have4))))

          copied_behind : (h : Front s.body.pieces (all_by true).low.pieces (all_by true).low.entries) → IsFront (all_by true).low.slots h.before
              → CameTo s start turns m (all_by true).low h (all_by true).value map old values w (copied_to (context s.unit s.lowered.order) (slice_get old.locals q.next) operand v k old (λ u k3 w3. rest (q.next + 1) es (done ++ u ∷ []) k3 w3))
          copied_behind =
              let at = laid.places q.next (unqualified t) typed in
              let z = at.0 in
              let place = place_for each s y laid old sound q.next t typed in
              let has = address_has s locals body y laid start turns m f map old values w k st sound q.next (unqualified t) z place.copy typed (not_passed_whole s y q.next (unqualified t) behind_parameters) at.1 place.there in
              subst (λ (to : Typed). (h : Front s.body.pieces (go (passed_from x es (copied_operand to))).low.pieces (go (passed_from x es (copied_operand to))).low.entries) → IsFront (go (passed_from x es (copied_operand to))).low.slots h.before
              → CameTo s start turns m (go (passed_from x es (copied_operand to))).low h (go (passed_from x es (copied_operand to))).value map old values w (copied_to (context s.unit s.lowered.order) (slice_get old.locals q.next) operand v k old (λ u k3 w3. rest (q.next + 1) es (done ++ u ∷ []) k3 w3)))
              (sym (local_is s y q.next t z (not_passed_whole s y q.next t behind_parameters) at.1))
              (λ h slots.
              subst (λ (o : Option Value). CameTo s start turns m (go (passed_from x es (copied_operand (address_at z)))).low h (go (passed_from x es (copied_operand (address_at z)))).value map old values w (copied_to (context s.unit s.lowered.order) o operand v k old (λ u k3 w3. rest (q.next + 1) es (done ++ u ∷ []) k3 w3))) (sym place.there)
              (copy_then z place.copy place.there place.object has h slots))

        pub behind_operand : (b : Bool) → is_record t ≡ b → HasCopies y (locals_from q.next ((copied_if b t ++ all_copied es) ++ copied of)) → (h : Front s.body.pieces (all_by b).low.pieces (all_by b).low.entries) → IsFront (all_by b).low.slots h.before
            → CameTo s start turns m (all_by b).low h (all_by b).value map old values w (then_by b e es q.next done v k old)
        behind_operand true is copies h slots = copied_behind is copies.0.0 copies.0.1 copies.1 h slots
        behind_operand false is copies h slots =
            let arg = passed v in
            let n = node_count m.entries in
            let have1 = have_with s locals (length m.slots) q.values map values w (callee ∷ values_of done) a v have (lasting_value s locals (length m.slots) a map values w v hv) in
            others (with_operand false x e q) le (each_with (λ (u : Typed). IsPending n u.tree) q.values a pending in_a) copies (done ++ arg ∷ []) start turns f h map old values w k slots st sound wholes
            (evaluated_with s old done arg evaluated sv (λ whole. absurd (true≢false (sym whole ∙ is))) (λ whole. absurd (true≢false (sym whole ∙ is))))
            (subst (λ (vs : List Value). HaveValues s locals (length m.slots) (q.values ++ a ∷ []) map values w (callee ∷ vs)) (sym (values_of_with done arg)) have1)

    -- ---- one operand more

    module _ (e : CoreTree) (es : CoreTrees) (part : IsLoweredPart s locals y e) (others : RestComes es) (l : Low) (le : locals ≤ length l.slots) (done : List Argument) (start : ℕ → Outcome) (turns : ℕ) (f : Front s.body.pieces l.pieces l.entries)
        (map : Map) (before : c.World) (values : ℕ → Word) (first : World) (k : ℕ) (st : Standing s start turns l f map before values first k) (sound : IsSoundIn s before) (wholes : HoldsWholes s y first) (evaluated : AreEvaluated s before done) where
      abbrev all_with : Passed → Lowered
      all_with q = go (passed_from x es (with_operand (is_record (type_of e)) x e q))

      -- nothing of C has changed
      held_is_came : (q : Passed) (hq : Front s.body.pieces q.low.pieces q.low.entries) → (wait : AllWait s locals start turns l q hq map before values first (callee ∷ values_of done) k) → Came s start turns l q.low hq (number true 0) map before values first None before k
      held_is_came q hq wait = record {
        later = map;
        grown = grown_refl map;
        others = wait.others;
        world = wait.world;
        stands = wait.stands;
        alike = wait.alike;
        left = wait.left;
        private = λ place lt private. private;
        kept = λ g i lt. wait.kept i lt;
        has = number_word s map wait.others wait.world;
      }

      -- those that are there wait in this state, and so many nodes have their values still behind the operand
      one_more : (q : Passed) → Extends l q.low → (count : ℕ) → ArePending count q.values → count ≤ node_count (low_e x e q.low).low.entries → HasCopies y (locals_from q.next (all_copied (Cores e es) ++ copied of))
          → (hq : Front s.body.pieces q.low.pieces q.low.entries) → AllWait s locals start turns l q hq map before values first (callee ∷ values_of done) k
          → ((us vs : ℕ → Word) → (GrowsTo (place_of q.low) (place_of (low_e x e q.low).low) → (i : ℕ) → i < node_count q.low.entries → vs i ≡ us i) → (i : ℕ) → i < count → vs i ≡ us i)
          → (h : Front s.body.pieces (all_with q).low.pieces (all_with q).low.entries) → IsFront (all_with q).low.slots h.before
          → CameTo s start turns l (all_with q).low h (all_with q).value map before values first (rest q.next (Cores e es) done k before)
      unfolding held_is_came
      one_more q x1 count pending few copies hq wait keeps h slots =
          let b = is_record (type_of e) in
          let l1 = q.low in
          let l2 = (low_e x e l1).low in
          let a = (low_e x e l1).value in
          let p2 = with_operand b x e q in
          let r = all_with q in
          let none = number true 0 in
          let x2 = lowering_adds x e l1 in
          let x3 = operand_extends b x e q in
          let tail = follows_on l2 p2.low r.low x3 (follows_all x go further es p2) in
          let last = final_back s.body.pieces l2 p2.low x3 (final_before x go further s.body.pieces es p2 (record { front = h; slots = slots })) in
          let le1 = slots_later s locals body l l1 x1.slots le in
          let le2 = slots_later s locals body l1 l2 x2.slots le1 in
          let more2 = front_length l1.slots l2.slots x2.slots in
          let block_after : r.low.pieces ≡ l1.pieces → Extends l1 r.low = λ is. (follows_later l1 l2 r.low x2 tail).same is in
          let held_came = held_is_came q hq wait in
          let wholes1 = wholes_left s y laid map before first wait.world st.stands.frame.others wait.alike (length l.slots) wait.left wholes in
          joins s start turns l l1 r.low hq h none r.value map before values first None before k (extends_slots l l1 x1) (λ g. (extends_grows l l1 x1, (extends_grows l1 r.low (block_after (g.done ∙ sym x1.pieces)), extends_nodes l l1 x1))) held_came (rest q.next (Cores e es) done k before)
          (gives_then s start turns l1 l2 r.low last.front h a r.value map before wait.others wait.world (result s e k before) (λ v k1 w1. then_by b e es q.next done v k1 w1)
          (part.lowered l1 le1 start turns hq last.front map before wait.others wait.world k last.slots wait.stands sound wholes1)
          (λ v k1 old1 is1 one.
          let so = sound_behind s locals body evals e part.tame k k1 v before old1 sound is1 in
          let have1 = have_more s locals (length l1.slots) (length l2.slots) more2 q.values one.later one.others one.world (callee ∷ values_of done)
          (values_stay s locals body (length l1.slots) (length l1.slots) (omega arith) map one.later one.grown before wait.others one.others wait.world one.world wait.stands.stands.frame one.alike one.left count (keeps wait.others one.others one.kept) q.values (callee ∷ values_of done) (pending_within count q.values pending) wait.have) in
          let wholes2 = wholes_stay s y laid start turns l1 l2 hq last.front a map before wait.others wait.world k wait.stands (Some v) old1 k1 one wholes1 in
          joins s start turns l1 l2 r.low last.front h a r.value map before wait.others wait.world (Some v) old1 k1 more2 (grows_later l1 l2 r.low x2 tail.pieces tail.same) one (then_by b e es q.next done v k1 old1)
          (behind_operand e es others q le2 start turns last.front one.later old1 one.others one.world k1 one.stands so.world wholes2 done (evaluated_later s before old1 done so.keeps evaluated) (pending_later count (node_count l2.entries) q.values few pending) have1
          (value_comes x e l1 wait.stands.block).value v so.value one.has b refl copies h slots)))

    -- whether it is straight or not
    operand_comes : (e : CoreTree) (es : CoreTrees) → IsLoweredPart s locals y e → RestComes es → (p : Passed) → locals ≤ length p.low.slots → ArePending (node_count p.low.entries) p.values → HasCopies y (locals_from p.next (all_copied (Cores e es) ++ copied of)) → (done : List Argument) (start : ℕ → Outcome) (turns : ℕ) (f : Front s.body.pieces p.low.pieces p.low.entries)
        (map : Map) (before : c.World) (values : ℕ → Word) (first : World) (k : ℕ) → Standing s start turns p.low f map before values first k → IsSoundIn s before → HoldsWholes s y first → AreEvaluated s before done → HaveValues s locals (length p.low.slots) p.values map values first (callee ∷ values_of done)
        → (t : Bool) → straight e ≡ t → (h : Front s.body.pieces (go (passed_from x es (with_operand (is_record (type_of e)) x e (all_held t p.next p.values p.low)))).low.pieces (go (passed_from x es (with_operand (is_record (type_of e)) x e (all_held t p.next p.values p.low)))).low.entries)
        → IsFront (go (passed_from x es (with_operand (is_record (type_of e)) x e (all_held t p.next p.values p.low)))).low.slots h.before
        → CameTo s start turns p.low (go (passed_from x es (with_operand (is_record (type_of e)) x e (all_held t p.next p.values p.low)))).low h (go (passed_from x es (with_operand (is_record (type_of e)) x e (all_held t p.next p.values p.low)))).value map before values first (rest p.next (Cores e es) done k before)
    operand_comes e es part others p le pending copies done start turns f map before values first k st sound wholes evaluated have true is h slots =
        let l = p.low in
        let b = is_record (type_of e) in
        let straight_on = straight_extends x e is l in
        subst (λ (q : Passed). (h : Front s.body.pieces (go (passed_from x es (with_operand b x e q))).low.pieces (go (passed_from x es (with_operand b x e q))).low.entries) → IsFront (go (passed_from x es (with_operand b x e q))).low.slots h.before
        → CameTo s start turns l (go (passed_from x es (with_operand b x e q))).low h (go (passed_from x es (with_operand b x e q))).value map before values first (rest p.next (Cores e es) done k before))
        (sym (all_held_is p.next p.values l))
        (one_more e es part others l le done start turns f map before values first k st sound wholes evaluated (passed_of p.next p.values l) (extends_itself l) (node_count l.entries) pending (extends_nodes l (low_e x e l).low straight_on) copies f
        (waits_there chars shorts s locals body laid.frame start turns map before k p.next p.values (callee ∷ values_of done) l f values first st have f)
        (λ us vs kept i lt. kept (extends_grows l (low_e x e l).low straight_on) i lt))
        h slots
    operand_comes e es part others p le pending copies done start turns f map before values first k st sound wholes evaluated have false is h slots =
        let l = p.low in
        let b = is_record (type_of e) in
        let q = all_held false p.next p.values l in
        let p2 = with_operand b x e q in
        let last = final_back s.body.pieces (low_e x e q.low).low p2.low (operand_extends b x e q) (final_before x go further s.body.pieces es p2 (record { front = h; slots = slots })) in
        let g = finals_go_back s.body.pieces x e q.low last in
        let next = next_is false p.next p.values l in
        subst (λ (i : ℕ). CameTo s start turns l (go (passed_from x es p2)).low h (go (passed_from x es p2)).value map before values first (rest i (Cores e es) done k before)) next
        (one_more e es part others l le done start turns f map before values first k st sound wholes evaluated q (all_held_extends false p.next p.values l) 0 (saved_pending (node_count l.entries) p.next p.values l pending) (omega arith)
        (subst (λ (i : ℕ). HasCopies y (locals_from i (all_copied (Cores e es) ++ copied of))) (sym next) copies) g.front
        (all_saved chars shorts s locals body laid.frame start turns map before k p.next p.values (callee ∷ values_of done) l le f values first st pending have g.front g.slots)
        (λ us vs kept i lt. no_nodes us vs i lt) h slots)

    pub arguments_come : (es : CoreTrees) → AreLoweredParts s locals y es → GoesAll y of make (λ n xs k old. act n xs k old) callee → RestComes es
    arguments_come NoCore parts goes p le pending copies done start turns f h map before values first k slots st sound wholes evaluated have =
        goes p.next p.low le p.values (pending_within (node_count p.low.entries) p.values pending) copies done start turns f h map before values first k slots st sound wholes evaluated have
    arguments_come (Cores e es) parts goes p le pending copies done start turns f h map before values first k slots st sound wholes evaluated have =
        operand_comes e es parts.0 (arguments_come es parts.1 goes) p le pending copies done start turns f map before values first k st sound wholes evaluated have (straight e) refl h slots
