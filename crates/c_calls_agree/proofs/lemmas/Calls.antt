-- Calls, by what is done with the argument words; and calls of type void.
use Rattle.std.specs.Prelude.{◌≡◌, ◌≤◌, ◌<◌, ℕ, ◌+◌, Bool, true, false, Option, Some, None, List, [], ◌∷◌, ◌++◌, length, slice_get}
use Rattle.std.proofs.Common.{refl, sym, ap, subst, ◌∙◌, arith}
use Rattle.objects.specs.declared.purpose.Purpose.TheVariants.{Initialisation}
use Rattle.objects.specs.declared.value.Value.{Value}
use Rattle.objects.specs.declared.value.Value.TheVariants.{Number, Pointer, Function}
use Rattle.op_forest.specs.Nodes.{Head}
use Rattle.forests.specs.Words.{Word}
use Rattle.forests.specs.Worlds.{World, Outcome}
use Rattle.dag_forest.specs.Tally.{node_count}
use Rattle.dag_seam.specs.SplitLaws.{TurnsMean}
use Rattle.c_types.specs.CType.{CType}
use Rattle.c_meaning.specs.declared.core_expr.CoreKind.TheVariants as kind
use Rattle.c_meaning.specs.Copies.{locals_from, copied, all_copied}
use Rattle.c_meaning.specs.CoreTrees.{Core, Cores, type_of, line_of}
use Rattle.c_meaning.specs.Types.{is_record, is_void}
use Rattle.c_meaning.specs.Values.{CoreTree, CoreTrees}
use Rattle.c_runs.specs.Calls.{Argument, Setting}
use Rattle.c_runs.specs.Expressions.{Part, parts_of as does_of, argument, arguments, copied_to, call_by}
use Rattle.c_runs.specs.Locals.{LocalIsObject}
use Rattle.c_runs.specs.Outcomes.{Undefined, OutOfTurns, Exit, Result, Gives, GivesNone, Ends, then_give, either}
use Rattle.c_runs.specs.Places.{source, assigned}
use Rattle.c_runs.specs.Run.{context}
use Rattle.c_runs.specs.Soundness.{EvalStaysSound, CopiesStaySound}
use Rattle.c_runs.specs.Worlds as c
use Rattle.c_match.specs.Ranges.{Map}
use Rattle.c_match.proofs.lemmas.Growing.{grown_refl}
use Rattle.c_rows_agree.specs.Integers.{number}
use Rattle.c_rows_agree.specs.Templates.{Template}
use Rattle.c_rows_agree.specs.Typed.{Typed, as_p}
use Rattle.c_pointers_agree.specs.Pointers.{call_head}
use Rattle.piece_runs.specs.Pieces.{Front}
use Rattle.c_expr_agreement.specs.Scenes.{Scene}
use Rattle.lowered_forms.specs.Calls.{Passed, all_passed, called, given_by, made, made_with, first_passed}
use Rattle.lowered_forms.specs.Contexts.{Context}
use Rattle.lowered_forms.specs.Expressions.{low_e}
use Rattle.lowered_forms.specs.Lows.{Low, acted_one, with_slot}
use Rattle.lowered_forms.specs.Values.{Lowered, nothing}
use Rattle.lowered_forms.proofs.lemmas.Adding.{lowering_adds}
use Rattle.lowered_forms.proofs.lemmas.Blocks.{within_more}
use Rattle.lowered_forms.proofs.lemmas.Fronts.{front_itself, front_before, rooted_one_adds}
use Rattle.lowered_forms.proofs.lemmas.NodesOf.{value_comes}
use Rattle.c_straight_agree.specs.Agreement.{Came, CameTo, without_value}
use Rattle.c_straight_agree.specs.Extends.{Extends}
use Rattle.c_straight_agree.specs.Layouts.{FrameLayout, context_in, IsLaidOut}
use Rattle.c_straight_agree.specs.Narrow.{CharsAreNarrow, ShortsAreNarrow}
use Rattle.c_straight_agree.specs.Parts.{AreLoweredParts}
use Rattle.c_straight_agree.specs.Standing.{IsBody}
use Rattle.c_straight_agree.proofs.lemmas.Coming.{joins, gives_then}
use Rattle.c_straight_agree.proofs.lemmas.Extending.{grows_later, extends_nodes, extends_slots, extends_grows, front_back}
use Rattle.c_straight_agree.proofs.lemmas.Kept.{front_length}
use Rattle.c_straight_agree.proofs.lemmas.Lasting.{lasting_more, lasting_stays, lasting_value}
use Rattle.c_straight_agree.proofs.lemmas.Opens.{opens_stay}
use Rattle.c_straight_agree.proofs.lemmas.Parts.{result, Results, sound_behind, slots_later}
use Rattle.c_straight_agree.proofs.lemmas.Performing.{give_without, fine_without, either_without}
use Rattle.c_straight_agree.proofs.lemmas.Putting.{alike_length}
use Rattle.c_straight_agree.proofs.lemmas.Wholes.{wholes_stay}
use Rattle.c_calls_agree.specs.Laws.{HasCopies}
use Rattle.c_calls_agree.specs.Passing.{PassedTo}
use Rattle.c_calls_agree.specs.Programs.{IsProgram}
use Rattle.c_calls_agree.proofs.lemmas.Arguments.{passed_from, arguments_are, follows_all, final_before, values_of, GoesAll, arguments_come}
use Rattle.c_calls_agree.proofs.lemmas.CallRoots.{root_is_made}
use Rattle.c_calls_agree.proofs.lemmas.Holding.{number_word}
use Rattle.c_calls_agree.proofs.lemmas.Making.{called_so, by_value, standing_passes, plain_call_comes}
use Rattle.c_calls_agree.proofs.lemmas.Words.{words_extend, words_are_passed}

-- ---- states go on

pub root_extends : (h : Head) (t : Template) (l : Low) → Extends l (acted_one h t l)
root_extends h t l = record { pieces = refl; entries = (rooted_one_adds h t l.entries).front; slots = front_itself l.slots }

pub slot_extends : (l : Low) → Extends l (with_slot l)
slot_extends l = record { pieces = refl; entries = front_itself l.entries; slots = front_before l.slots _ }

-- ---- what is made, by whether it is a structure, and whether it is of type void

abbrev pub made_as : Bool → Bool → Context → CType → ℕ → List Typed → Low → Lowered
made_as whole void x of n [] l = nothing l
made_as whole void x of n (g ∷ as') l = given_by whole void x of n g as' l

made_is : (x : Context) (of : CType) (n : ℕ) (whole void : Bool) → is_record of ≡ whole → is_void of ≡ void → (ps : List Typed) (l : Low) → made x of n ps l ≡ made_as whole void x of n ps l
made_is x of n whole void is none [] l = refl
made_is x of n whole void is none (g ∷ as') l = ap (λ (b : Bool). given_by b (is_void of) x of n g as' l) is ∙ ap (λ (b : Bool). given_by whole b x of n g as' l) none

-- ---- argument words, and then the call

module _ (s : Scene) (start : ℕ → Outcome) (turns : ℕ) (l m p : Low) (x : Extends l m) (y : Extends m p) (h : Front s.body.pieces m.pieces m.entries) (q : Front s.body.pieces p.pieces p.entries) (b : Typed) (map : Map) (old : c.World) (values : ℕ → Word) (first : World) (k : ℕ) (vs : List Value)
    (one : PassedTo s start turns l m h map old values first k vs) where
  behind_words : (u : Option Value) (new : c.World) (j : ℕ) → Came s start turns m p q b map old one.others one.world u new j → Came s start turns l p q b map old values first u new j
  behind_words u new j two = record {
    later = two.later;
    grown = two.grown;
    others = two.others;
    world = two.world;
    stands = two.stands;
    alike = one.alike ∙ two.alike;
    left = λ place lt private none.
        two.left place (longer place lt) private (λ taken. none ((let a = taken.0 in let e = extends_slots l m x in omega (arith, a, e)), taken.1))
        ∙ one.left place lt private none;
    private = λ place lt private. two.private place (longer place lt) private;
    kept = λ g n lt. two.kept (extends_grows m p y) n (let e = extends_nodes l m x in omega (arith, lt, e)) ∙ one.kept n lt;
    has = two.has;
  }
    where
      longer : (place : ℕ) → place < length first.objects → place < length one.world.objects
      longer place lt = let e = alike_length first.objects one.world.objects one.alike in omega (arith, lt, e)

  pub words_then : (r : Result) → CameTo s start turns m p q b map old one.others one.world r → CameTo s start turns l p q b map old values first r
  words_then (Gives u j new) two = behind_words (Some u) new j two
  words_then (GivesNone line j new) two = behind_words None new j two
  words_then (Ends (Undefined cause line) new) two = tt
  words_then (Ends OutOfTurns new) two = two
  words_then (Ends (Exit status) new) two = two

-- ---- the value of a call that isn't used

module _ (z : Setting) (go : ℕ → List Argument → ℕ → c.World → Result) where
  abbrev dropped : ℕ → List Argument → ℕ → c.World → Result
  dropped n xs k w = without_value (go n xs k w)

  abbrev ArgumentsDrop : List Part → Type 0
  ArgumentsDrop ps = (n : ℕ) (done : List Argument) (k : ℕ) (w : c.World) → without_value (arguments z n ps done k w go) ≡ arguments z n ps done k w (λ m xs k1 w1. dropped m xs k1 w1)

  copied_without : (o : Option Value) (a : Part) (v : Value) (k : ℕ) (w : c.World) (next other : Argument → ℕ → c.World → Result) → ((x : Argument) (k1 : ℕ) (w1 : c.World) → without_value (next x k1 w1) ≡ other x k1 w1) → without_value (copied_to z o a v k w next) ≡ copied_to z o a v k w other
  copied_without None a v k w next other h = refl
  copied_without (Some copy) a v k w next other h =
      fine_without (source z.unit.tags (type_of a.tree) (c.objects w) v) (line_of a.tree) w _ _ (λ from. fine_without (assigned Initialisation z.unit.tags (type_of a.tree) (c.objects w) from copy) (line_of a.tree) w _ _ (λ os. h (argument a copy) k (c.with_objects w os)))

  pub arguments_without : (ps : List Part) → ArgumentsDrop ps
  arguments_without [] n done k w = refl
  arguments_without (a ∷ ps) n done k w =
      give_without (a.does k w) _ _
      (λ v k1 w1.
      either_without (is_record (type_of a.tree)) _ _ _ _ k1 w1
      (copied_without (slice_get w1.locals n) a v k1 w1 _ _ (λ x k2 w2. arguments_without ps (n + 1) (done ++ x ∷ []) k2 w2))
      (arguments_without ps n (done ++ argument a v ∷ []) k1 w1))

-- ---- calls of type void

module _ (chars : CharsAreNarrow) (shorts : ShortsAreNarrow) (each : LocalIsObject) (s : Scene) (locals : ℕ) (body : IsBody s locals) (program : IsProgram s) (y : FrameLayout) (laid : IsLaidOut s y) (of : CType) (line : ℕ) where
  abbrev z : Context
  z = context_in s y

  abbrev calls : Value → ℕ → List Argument → ℕ → c.World → Result
  calls callee n xs k old = call_by (context s.unit s.lowered.order) of line callee n xs k old

  pub void_goes : TurnsMean → is_record of ≡ false → (callee : Value) → GoesAll s locals body y of (λ n ps l. made_as false true z of n ps l) (λ n xs k old. without_value (calls callee n xs k old)) callee
  void_goes means plain callee n m le [] within copies xs start turns f h map old values w k slots st sound wholes evaluated have = absurd have
  void_goes means plain (Number i) n m le (g ∷ as') within copies xs start turns f h map old values w k slots st sound wholes evaluated have = tt
  void_goes means plain (Pointer object offset) n m le (g ∷ as') within copies xs start turns f h map old values w k slots st sound wholes evaluated have = tt
  void_goes means plain (Function function) n m le (g ∷ as') within copies xs start turns f h map old values w k slots st sound wholes evaluated have =
      let m1 = all_passed as' m in
      let p = called g m1 in
      let x1 = words_extend as' m in
      let x2 = root_extends (call_head false) (as_p g) m1 in
      let h1 = front_back s.body.pieces m1 p x2 h in
      let passed = words_are_passed chars shorts s locals body start turns m le f map old values w k [] (standing_passes s start turns m f map old values w k st) as' (values_of xs) within.1 have.1 h1 in
      let count = node_count m.entries in
      let has =
      lasting_more s locals (length m.slots) (length m1.slots) (extends_slots m m1 x1) g map passed.others passed.world (Function function)
      (lasting_stays s locals body (length m.slots) (length m.slots) (omega arith) map map (grown_refl map) old values passed.others w passed.world st.stands.frame passed.alike passed.left count passed.kept g (Function function) within.0 have.0) in
      let r = called_so s of line n xs k old function in
      subst (λ (u : Result). CameTo s start turns m p h (number true 0) map old values w (without_value u)) (sym (by_value s of line n xs k old function))
      (words_then s start turns m m1 p x1 x2 h1 h (number true 0) map old values w k (values_of xs) passed (without_value r)
      (root_is_made chars shorts means s locals body start turns m1 (slots_later s locals body m m1 x1.slots le) h1 map old passed.others passed.world k (values_of xs) passed.stands g function (within_more count (node_count m1.entries) g.tree (extends_nodes m m1 x1) within.0) has None r
      (λ world alike matches words.
      plain_call_comes s locals body program each y laid of line n copies xs k old sound evaluated map st.stands.frame.locals passed.stands.callees function plain world
      (opens_stay s.frame.addresses w.objects world.objects (passed.alike ∙ alike) wholes.opens) matches words) h (number true 0) (λ later others world. number_word s later others world)))

  -- ---- whole calls

  -- by what becomes of the value, behind callee and arguments
  module _ (evals : EvalStaysSound) (copying : CopiesStaySound) (n : ℕ) (whole void : Bool) (is_whole : is_record of ≡ whole) (is : is_void of ≡ void) (further : (i : ℕ) (ps : List Typed) (l : Low) → Extends l (made_as whole void z of i ps l).low) (view : Result → Result)
      (give : (r : Result) (go : Value → ℕ → c.World → Result) → view (then_give r go) ≡ then_give r (λ v k w. view (go v k w)))
      (pass : (go : ℕ → List Argument → ℕ → c.World → Result) (ps : List Part) (k : ℕ) (w : c.World) → view (arguments (context s.unit s.lowered.order) n ps [] k w go) ≡ arguments (context s.unit s.lowered.order) n ps [] k w (λ m xs k1 w1. view (go m xs k1 w1)))
      (goes : (callee : Value) → GoesAll s locals body y of (λ i ps l. made_as whole void z of i ps l) (λ i xs k old. view (calls callee i xs k old)) callee) where
    pub call_is_seen : (e : CoreTree) (es : CoreTrees) → AreLoweredParts s locals y (Cores e es) → HasCopies y (locals_from n (all_copied es ++ copied of)) → (l : Low) → locals ≤ length l.slots
        → Results s locals body y l (low_e z (Core (kind.Call n) of line (Cores e es)) l) (λ k old. view (result s (Core (kind.Call n) of line (Cores e es)) k old))
    call_is_seen e es parts copies l le =
        let first = first_passed n (low_e z e l) in
        let q = passed_from z es first in
        let go : Passed → Lowered = λ p. made_as whole void z of p.next p.values p.low in
        subst (λ (r : Lowered). Results s locals body y l r (λ k old. view (result s (Core (kind.Call n) of line (Cores e es)) k old)))
        (sym (ap (λ (p : Passed). made_with z of p) (arguments_are z es first) ∙ made_is z of q.next whole void is_whole is q.values q.low))
        (λ start turns f h map before values w k slots st sound wholes.
        let l1 = (low_e z e l).low in
        let a = (low_e z e l).value in
        let r = go q in
        let x1 = lowering_adds z e l in
        let tail = follows_all z go (λ p. further p.next p.values p.low) es first in
        let last = final_before z go (λ p. further p.next p.values p.low) s.body.pieces es first (record { front = h; slots = slots }) in
        let more = front_length l.slots l1.slots x1.slots in
        let does : List Part = does_of (context s.unit s.lowered.order) es in
        let then : Value → ℕ → c.World → Result = λ callee k1 w1. arguments (context s.unit s.lowered.order) n does [] k1 w1 (λ i xs k2 w2. calls callee i xs k2 w2) in
        subst (λ (u : Result). CameTo s start turns l r.low h r.value map before values w u) (sym (give (result s e k before) then))
        (gives_then s start turns l l1 r.low last.front h a r.value map before values w (result s e k before) (λ callee k1 w1. view (then callee k1 w1))
        (parts.0.lowered l le start turns f last.front map before values w k last.slots st sound wholes)
        (λ callee k1 old1 is1 one.
        let so = sound_behind s locals body evals e parts.0.tame k k1 callee before old1 sound is1 in
        joins s start turns l l1 r.low last.front h a r.value map before values w (Some callee) old1 k1 more (grows_later l l1 r.low x1 tail.pieces tail.same) one (view (then callee k1 old1))
        (subst (λ (u : Result). CameTo s start turns l1 r.low h r.value one.later old1 one.others one.world u) (sym (pass (λ i xs k2 w2. calls callee i xs k2 w2) does k1 old1))
        (arguments_come s locals body chars shorts evals copying each y laid of (λ i ps m. made_as whole void z of i ps m) further (λ i xs k2 w2. view (calls callee i xs k2 w2)) callee es parts.1 (goes callee) first (slots_later s locals body l l1 x1.slots le)
        ((value_comes z e l st.block).value, tt) copies [] start turns last.front h one.later old1 one.others one.world k1 slots one.stands so.world
        (wholes_stay s y laid start turns l l1 f last.front a map before values w k st (Some callee) old1 k1 one wholes) (record { sound = tt; copies = tt; locals = tt }) (lasting_value s locals (length l1.slots) a one.later one.others one.world callee one.has, tt))))))
