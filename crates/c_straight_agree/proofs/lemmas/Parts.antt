-- Expressions of one part and of two, where the parts are lowered, and the second one is straight.
use Rattle.std.specs.Prelude.{◌≡◌, ◌≤◌, ℕ, Bool, true, Option, Some, None, Ok, Err, List, length, Result as Checked}
use Rattle.std.proofs.Common.{refl, sym, ap, subst, arith}
use Rattle.lcc_base.specs.declared.cause.Cause.{Cause}
use Rattle.objects.specs.declared.value.Value.{Value}
use Rattle.objects.specs.declared.value.Value.TheVariants.{Number, Pointer, Function}
use Rattle.objects.specs.Objects.{Object as Old}
use Rattle.forests.specs.Words.{Word}
use Rattle.forests.specs.Worlds.{World, Outcome}
use Rattle.dag_forest.specs.Tally.{node_count}
use Rattle.c_meaning.specs.Values.{CoreTree}
use Rattle.c_runs.specs.Expressions.{eval}
use Rattle.c_runs.specs.Outcomes.{Result, Gives, GivesNone, Ends, then_give, then_drop, gives}
use Rattle.c_runs.specs.Run.{context}
use Rattle.c_runs.specs.Soundness.{Outline, outlines, IsTame, IsSoundValue, IsSound, Keeps, AreObjectsOf, IsSoundResult, EvalStaysSound}
use Rattle.c_runs.specs.Worlds as c
use Rattle.c_match.specs.Ranges.{Map}
use Rattle.c_rows_agree.specs.Typed.{Typed, Holds}
use Rattle.c_pointers_agree.proofs.lemmas.Short.{short_kept}
use Rattle.piece_runs.specs.Pieces.{Front}
use Rattle.piece_runs.specs.Reaches.{keeps_at}
use Rattle.c_expr_agreement.specs.LoweredExpr.{GrowsTo}
use Rattle.c_expr_agreement.specs.Scenes.{Scene}
use Rattle.lowered_forms.specs.Contexts.{Context}
use Rattle.lowered_forms.specs.Expressions.{low_e, low_test}
use Rattle.lowered_forms.specs.Later.{IsFront}
use Rattle.lowered_forms.specs.Lows.{Low}
use Rattle.lowered_forms.specs.Straight.{straight}
use Rattle.lowered_forms.specs.Values.{Lowered, Part, then_low, placed, held, of_two}
use Rattle.lowered_forms.proofs.lemmas.Adding.{lowering_adds}
use Rattle.lowered_forms.proofs.lemmas.Blocks.{within_more}
use Rattle.lowered_forms.proofs.lemmas.NodesOf.{values_have_nodes}
use Rattle.lowered_forms.proofs.lemmas.WithinTemplates.{HasIn}
use Rattle.c_straight_agree.specs.Agreement.{HasValue, Came, CameTo, without_value, IsPart}
use Rattle.c_straight_agree.specs.Layouts.{FrameLayout, context_in, IsLaidOut, HoldsWholes}
use Rattle.c_straight_agree.specs.Extends.{Extends}
use Rattle.c_straight_agree.specs.Lasting.{LastingValue}
use Rattle.c_straight_agree.specs.Narrow.{CharsAreNarrow, ShortsAreNarrow}
use Rattle.c_straight_agree.specs.Parts.{IsLoweredPart}
use Rattle.c_straight_agree.specs.Settled.{seen, IsSettled}
use Rattle.c_straight_agree.specs.Standing.{place_of, IsBody, Standing, IsSoundIn}
use Rattle.c_straight_agree.proofs.lemmas.Coming.{operand_settled, value_stays, joins, ends_so, gives_then}
use Rattle.c_straight_agree.proofs.lemmas.Wholes.{wholes_stay}
use Rattle.c_straight_agree.proofs.lemmas.Extending.{extends_joins, straight_extends, extends_nodes, extends_slots, extends_grows, extends_pieces, grows_later, front_back, slots_back}
use Rattle.c_straight_agree.proofs.lemmas.Kept.{front_length}
use Rattle.c_straight_agree.proofs.lemmas.Lasting.{lasting_value, lasting_settled}
use Rattle.c_straight_agree.proofs.lemmas.Placing.{placed_came}

-- ---- soundness

pub value_later : (made more : ℕ) (v : Value) → made ≤ more → IsSoundValue made v → IsSoundValue more v
value_later made more (Number n) le h = h
value_later made more (Pointer name offset) le h = (let l = h.0 in omega (arith, le, l), h.1)
value_later made more (Function f) le h = h

abbrev pub result : Scene → CoreTree → ℕ → c.World → Result
result s e k old = eval (context s.unit s.lowered.order) e k old

-- where the same objects live and the running call has the same locals
pub sound_on : (s : Scene) (before old : c.World) → IsSoundIn s before → IsSound s.unit old → Keeps before old → IsSoundIn s old
sound_on s before old h sound keeps = record {
  sound = sound;
  locals = subst (λ (vs : List Value). AreObjectsOf s.unit.tags (outlines (c.objects old)) s.frame.types vs) (sym keeps.locals) (subst (λ (xs : List Outline). AreObjectsOf s.unit.tags xs s.frame.types before.locals) (sym keeps.lives) h.locals);
  short = short_kept (c.objects before) (c.objects old) keeps.lives h.short;
}

-- behind an expression that gives a value
pub record IsSoundBehind (s : Scene) (v : Value) (before old : c.World) : Type 0 where
  pub world : IsSoundIn s old
  pub value : IsSoundValue old.storage.made v
  pub keeps : Keeps before old

pub sound_behind : (s : Scene) (locals : ℕ) → IsBody s locals → EvalStaysSound → (e : CoreTree) → IsTame e → (k j : ℕ) (v : Value) (before old : c.World) → IsSoundIn s before → result s e k before ≡ Gives v j old → IsSoundBehind s v before old
sound_behind s locals body evals e tame k j v before old h is =
    let r = subst (IsSoundResult s.unit before) is (evals s.unit s.lowered.order e k before body.tame tame h.sound) in
    record {
      world = sound_on s before old h r.1.0 r.1.1;
      value = r.0;
      keeps = r.1.1;
    }

-- and behind any expression
pub sound_result : (s : Scene) (locals : ℕ) → IsBody s locals → EvalStaysSound → (e : CoreTree) → IsTame e → (k : ℕ) (before : c.World) → IsSoundIn s before → IsSoundResult s.unit before (result s e k before)
sound_result s locals body evals e tame k before h = evals s.unit s.lowered.order e k before body.tame tame h.sound

-- what isn't used
pub drops_sound : (s : Scene) (start : ℕ → Outcome) (turns : ℕ) (l m p : Low) (h : Front s.body.pieces m.pieces m.entries) (q : Front s.body.pieces p.pieces p.entries) (a b : Typed) (map : Map) (before : c.World) (values : ℕ → Word) (first : World) → IsSoundIn s before
    → (r : Result) (go : ℕ → c.World → Result) → IsSoundResult s.unit before r → CameTo s start turns l m h a map before values first (without_value r)
    → ((k : ℕ) (old : c.World) → IsSoundIn s old → Came s start turns l m h a map before values first None old k → CameTo s start turns l p q b map before values first (go k old))
    → CameTo s start turns l p q b map before values first (then_drop r go)
drops_sound s start turns l m p h q a b map before values first so (Gives v k old) go sound one next = next k old (sound_on s before old so sound.1.0 sound.1.1) one
drops_sound s start turns l m p h q a b map before values first so (GivesNone line k old) go sound one next = next k old (sound_on s before old so sound.0 sound.1) one
drops_sound s start turns l m p h q a b map before values first so (Ends how old) go sound one next = ends_so s start turns l m p h q a b map before values first how old one

-- ---- parts

abbrev pub part : Context → CoreTree → Part
part x e = record { tree = e; value = λ l. low_e x e l; test = λ n when l. low_test x e n when l }

-- what is checked gives its value
pub gives_came : (checked : Checked Value Cause) (s : Scene) (start : ℕ → Outcome) (turns : ℕ) (l m : Low) (h : Front s.body.pieces m.pieces m.entries) (a : Typed) (map : Map) (before : c.World) (values : ℕ → Word) (first : World) (line k : ℕ) (old : c.World)
    → ((u : Value) → checked ≡ Ok u → Came s start turns l m h a map before values first (Some u) old k) → CameTo s start turns l m h a map before values first (gives checked line k old)
gives_came (Ok u) s start turns l m h a map before values first line k old go = go u refl
gives_came (Err cause) s start turns l m h a map before values first line k old go = tt

module _ (s : Scene) (locals : ℕ) (body : IsBody s locals) where
  -- what is done with one operand, and with two, and what it stands for
  abbrev pub GoesOne : (Typed → Low → Lowered) → (Value → ℕ → c.World → Result) → Type 0
  GoesOne go act =
      (m : Low) → locals ≤ length m.slots → (p : Typed) → HasIn (node_count m.entries) p → (v : Value) (start : ℕ → Outcome) (turns : ℕ) (f : Front s.body.pieces m.pieces m.entries) (h : Front s.body.pieces (go p m).low.pieces (go p m).low.entries)
      (map : Map) (old : c.World) (values : ℕ → Word) (w : World) (k : ℕ) → IsFront (go p m).low.slots h.before → Standing s start turns m f map old values w k → IsSoundIn s old → IsSoundValue old.storage.made v → HasValue s p map values w v
      → CameTo s start turns m (go p m).low h (go p m).value map old values w (act v k old)

  -- one of which this is known
  abbrev pub GoesOneOf : (Typed → Type 0) → (Typed → Low → Lowered) → (Value → ℕ → c.World → Result) → Type 0
  GoesOneOf Known go act =
      (m : Low) → locals ≤ length m.slots → (p : Typed) → HasIn (node_count m.entries) p → Known p → (v : Value) (start : ℕ → Outcome) (turns : ℕ) (f : Front s.body.pieces m.pieces m.entries) (h : Front s.body.pieces (go p m).low.pieces (go p m).low.entries)
      (map : Map) (old : c.World) (values : ℕ → Word) (w : World) (k : ℕ) → IsFront (go p m).low.slots h.before → Standing s start turns m f map old values w k → IsSoundIn s old → IsSoundValue old.storage.made v → HasValue s p map values w v
      → CameTo s start turns m (go p m).low h (go p m).value map old values w (act v k old)

  abbrev pub GoesTwo : (Typed → Typed → Low → Lowered) → (Value → Value → ℕ → c.World → Result) → Type 0
  GoesTwo go act =
      (m : Low) → locals ≤ length m.slots → (p q : Typed) → HasIn (node_count m.entries) p → HasIn (node_count m.entries) q → (v u : Value) (start : ℕ → Outcome) (turns : ℕ) (f : Front s.body.pieces m.pieces m.entries) (h : Front s.body.pieces (go p q m).low.pieces (go p q m).low.entries)
      (map : Map) (old : c.World) (values : ℕ → Word) (w : World) (k : ℕ) → IsFront (go p q m).low.slots h.before → Standing s start turns m f map old values w k → IsSoundIn s old → IsSoundValue old.storage.made v → IsSoundValue old.storage.made u
      → LastingValue s locals (length m.slots) p map values w v → HasValue s q map values w u
      → CameTo s start turns m (go p q m).low h (go p q m).value map old values w (act v u k old)

  abbrev pub Results : FrameLayout → Low → Lowered → (ℕ → c.World → Result) → Type 0
  Results y l r does =
      (start : ℕ → Outcome) (turns : ℕ) (f : Front s.body.pieces l.pieces l.entries) (h : Front s.body.pieces r.low.pieces r.low.entries) (map : Map) (before : c.World) (values : ℕ → Word) (first : World) (k : ℕ)
      → IsFront r.low.slots h.before → Standing s start turns l f map before values first k → IsSoundIn s before → HoldsWholes s y first
      → CameTo s start turns l r.low h r.value map before values first (does k before)

  pub grows_by : (l m p : Low) → Extends l m → Extends m p → GrowsTo (place_of l) (place_of p) → GrowsTo (place_of l) (place_of m) × (GrowsTo (place_of m) (place_of p) × (node_count l.entries ≤ node_count m.entries))
  grows_by l m p x y g = (extends_grows l m x, (extends_grows m p y, extends_nodes l m x))

  pub slots_later : (l m : Low) → IsFront l.slots m.slots → locals ≤ length l.slots → locals ≤ length m.slots
  slots_later l m x le = let e = front_length l.slots m.slots x in omega (arith, le, e)

  pub lowered_part : (y : FrameLayout) (e : CoreTree) → IsPart s locals y e → IsLoweredPart s locals y e
  lowered_part y e p = record { tame = p.tame; lowered = p.lowered }

  module _ (evals : EvalStaysSound) (y : FrameLayout) (laid : IsLaidOut s y) where
    abbrev x : Context
    x = context_in s y

    pub one_of_comes : (Known : Typed → Type 0) (a : CoreTree) → IsLoweredPart s locals y a → ((l : Low) → Known (low_e x a l).value) → (go : Typed → Low → Lowered) → ((p : Typed) (l : Low) → Extends l (go p l).low) → (act : Value → ℕ → c.World → Result) → GoesOneOf Known go act
        → (l : Low) → locals ≤ length l.slots → Results y l (then_low (low_e x a l) go) (λ k old. then_give (result s a k old) (λ v k1 w1. act v k1 w1))
    one_of_comes Known a pa known go further act goes l le start turns f h map before values first k slots st sound wholes =
        let l1 = (low_e x a l).low in
        let p = (low_e x a l).value in
        let r = go p l1 in
        let x1 = lowering_adds x a l in
        let x2 = further p l1 in
        let h1 = front_back s.body.pieces l1 r.low x2 h in
        let s1 = slots_back s.body.pieces l1 r.low x2 h slots in
        gives_then s start turns l l1 r.low h1 h p r.value map before values first (result s a k before) (λ v k1 w1. act v k1 w1)
        (pa.lowered l le start turns f h1 map before values first k s1 st sound wholes)
        (λ v k1 old1 is one.
        let so = sound_behind s locals body evals a pa.tame k k1 v before old1 sound is in
        joins s start turns l l1 r.low h1 h p r.value map before values first (Some v) old1 k1 (front_length l.slots l1.slots x1.slots) (grows_later l l1 r.low x1 (extends_pieces l1 r.low x2) (λ e. x2)) one (act v k1 old1)
        (goes l1 (slots_later l l1 x1.slots le) p (values_have_nodes x a l st.block).value (known l) v start turns h1 h one.later old1 one.others one.world k1 slots one.stands so.world so.value one.has))

    pub one_comes : (a : CoreTree) → IsLoweredPart s locals y a → (go : Typed → Low → Lowered) → ((p : Typed) (l : Low) → Extends l (go p l).low) → (act : Value → ℕ → c.World → Result) → GoesOne go act
        → (l : Low) → locals ≤ length l.slots → Results y l (then_low (low_e x a l) go) (λ k old. then_give (result s a k old) (λ v k1 w1. act v k1 w1))
    one_comes a pa go further act goes l le = one_of_comes (λ p. Unit {0}) a pa (λ l1. tt) go further act (λ m ls p in_p known v start turns f h map old values w k slots st sound sv hv. goes m ls p in_p v start turns f h map old values w k slots st sound sv hv) l le

    -- two operands, of which the first one waits
    both_come : (a b : CoreTree) → IsLoweredPart s locals y a → IsLoweredPart s locals y b → straight b ≡ true → (go : Typed → Typed → Low → Lowered) → ((p q : Typed) (l : Low) → Extends l (go p q l).low) → (act : Value → Value → ℕ → c.World → Result) → GoesTwo go act
        → (l : Low) → locals ≤ length l.slots
        → Results y l (then_low (low_e x a l) (λ p l1. then_low (low_e x b l1) (λ q l2. go p q l2))) (λ k old. then_give (result s a k old) (λ v k1 w1. then_give (result s b k1 w1) (λ u k2 w2. act v u k2 w2)))
    both_come a b pa pb goes_on go further act goes l le start turns f h map before values first k slots st sound wholes =
        let l1 = (low_e x a l).low in
        let p = (low_e x a l).value in
        let l2 = (low_e x b l1).low in
        let q = (low_e x b l1).value in
        let r = go p q l2 in
        let x1 = lowering_adds x a l in
        let x2 = straight_extends x b goes_on l1 in
        let x3 = further p q l2 in
        let h2 = front_back s.body.pieces l2 r.low x3 h in
        let s2 = slots_back s.body.pieces l2 r.low x3 h slots in
        let h1 = front_back s.body.pieces l1 l2 x2 h2 in
        let s1 = slots_back s.body.pieces l1 l2 x2 h2 s2 in
        let x23 = extends_joins l1 l2 r.low x2 x3 in
        gives_then s start turns l l1 r.low h1 h p r.value map before values first (result s a k before) (λ v k1 w1. then_give (result s b k1 w1) (λ u k2 w2. act v u k2 w2))
        (pa.lowered l le start turns f h1 map before values first k s1 st sound wholes)
        (λ v k1 old1 is one.
        let so = sound_behind s locals body evals a pa.tame k k1 v before old1 sound is in
        let le1 = slots_later l l1 x1.slots le in
        joins s start turns l l1 r.low h1 h p r.value map before values first (Some v) old1 k1 (front_length l.slots l1.slots x1.slots) (grows_later l l1 r.low x1 (extends_pieces l1 r.low x23) (λ e. x23)) one (then_give (result s b k1 old1) (λ u k2 w2. act v u k2 w2))
        (gives_then s start turns l1 l2 r.low h2 h q r.value one.later old1 one.others one.world (result s b k1 old1) (λ u k2 w2. act v u k2 w2)
        (pb.lowered l1 le1 start turns h1 h2 one.later old1 one.others one.world k1 s2 one.stands so.world (wholes_stay s y laid start turns l l1 f h1 p map before values first k st (Some v) old1 k1 one wholes))
        (λ u k2 old2 is2 two.
        let so2 = sound_behind s locals body evals b pb.tame k1 k2 u old1 old2 so.world is2 in
        let within = (values_have_nodes x a l st.block).value in
        joins s start turns l1 l2 r.low h2 h q r.value one.later old1 one.others one.world (Some u) old2 k2 (extends_slots l1 l2 x2) (grows_by l1 l2 r.low x2 x3) two (act v u k2 old2)
        (goes l2 (slots_later l1 l2 x2.slots le1) p q (within_more (node_count l1.entries) (node_count l2.entries) p.tree (extends_nodes l1 l2 x2) within) (values_have_nodes x b l1 one.stands.block).value v u start turns h2 h two.later old2 two.others two.world k2 slots two.stands so2.world
        (value_later old1.storage.made old2.storage.made v so2.keeps.made so.value) so2.value
        (lasting_value s locals (length l2.slots) p two.later two.others two.world v (value_stays s one.later two.later two.grown one.others two.others one.world two.world two.alike (node_count l1.entries) (two.kept (extends_grows l1 l2 x2)) p v within one.has))
        two.has))))

    -- a second operand that is straight leaves the first one where it is
    waits_so : (st : Bool) → st ≡ true → (b : CoreTree) (go : Typed → Typed → Low → Lowered) (p : Typed) (l1 : Low)
        → then_low (low_e x b l1) (λ q l2. go p q l2) ≡ then_low (held st p l1) (λ z l2. then_low (low_e x b l2) (λ q l3. go z q l3))
    waits_so st e b go p l1 = ap (λ (t : Bool). then_low (held t p l1) (λ z l2. then_low (low_e x b l2) (λ q l3. go z q l3))) (sym e)

    -- expressions of two parts of which the second one is of this sort
    abbrev pub TwoCome : (CoreTree → Type 0) → Type 0
    TwoCome Is =
        (a b : CoreTree) → IsLoweredPart s locals y a → IsLoweredPart s locals y b → Is b → (go : Typed → Typed → Low → Lowered) → ((p q : Typed) (l : Low) → Extends l (go p q l).low) → (act : Value → Value → ℕ → c.World → Result) → GoesTwo go act
        → (l : Low) → locals ≤ length l.slots
        → Results y l (of_two (part x a) (part x b) l go) (λ k old. then_give (result s a k old) (λ v k1 w1. then_give (result s b k1 w1) (λ u k2 w2. act v u k2 w2)))

    pub two_come : TwoCome (λ e. straight e ≡ true)
    two_come a b pa pb goes_on go further act goes l le =
        subst (λ (r : Lowered). Results y l r (λ k old. then_give (result s a k old) (λ v k1 w1. then_give (result s b k1 w1) (λ u k2 w2. act v u k2 w2))))
        (waits_so (straight b) goes_on b go (low_e x a l).value (low_e x a l).low)
        (both_come a b pa pb goes_on go further act goes l le)

  -- ---- what is computed of operands

  -- a template stands for what C gives, where its operands have values
  abbrev pub ComputesOne : (Typed → Typed) → (List Old → Value → Checked Value Cause) → Type 0
  ComputesOne make check =
      (m : Low) → locals ≤ length m.slots → (p : Typed) (v u : Value) (start : ℕ → Outcome) (turns : ℕ) (f : Front s.body.pieces m.pieces m.entries) (map : Map) (old : c.World) (values : ℕ → Word) (w : World) (k : ℕ)
      → Standing s start turns m f map old values w k → IsSoundIn s old → IsSoundValue old.storage.made v
      → Holds (seen s.body map values w) p v → IsSettled (keeps_at s.body m.pieces m.entries f) (seen s.body map values w) p.tree → check (c.objects old) v ≡ Ok u
      → Holds (seen s.body map values w) (make p) u × IsSettled (keeps_at s.body m.pieces m.entries f) (seen s.body map values w) (make p).tree

  abbrev pub ComputesTwo : (Typed → Typed → Typed) → (List Old → Value → Value → Checked Value Cause) → Type 0
  ComputesTwo make check =
      (m : Low) → locals ≤ length m.slots → (p q : Typed) (v u z : Value) (start : ℕ → Outcome) (turns : ℕ) (f : Front s.body.pieces m.pieces m.entries) (map : Map) (old : c.World) (values : ℕ → Word) (w : World) (k : ℕ)
      → Standing s start turns m f map old values w k → IsSoundIn s old → IsSoundValue old.storage.made v → IsSoundValue old.storage.made u
      → Holds (seen s.body map values w) p v → IsSettled (keeps_at s.body m.pieces m.entries f) (seen s.body map values w) p.tree → Holds (seen s.body map values w) q u → IsSettled (keeps_at s.body m.pieces m.entries f) (seen s.body map values w) q.tree → check (c.objects old) v u ≡ Ok z
      → Holds (seen s.body map values w) (make p q) z × IsSettled (keeps_at s.body m.pieces m.entries f) (seen s.body map values w) (make p q).tree

  module _ (chars : CharsAreNarrow) (shorts : ShortsAreNarrow) where
    pub computes_one : (make : Typed → Typed) (check : List Old → Value → Checked Value Cause) (line : ℕ) → ((n : ℕ) (p : Typed) → HasIn n p → HasIn n (make p)) → ComputesOne make check
        → GoesOne (λ p l. placed (make p) l) (λ v k old. gives (check (c.objects old) v) line k old)
    computes_one make check line within computes m le p in_p v start turns f h map old values w k slots st sound sv hv =
        gives_came (check (c.objects old) v) s start turns m (placed (make p) m).low h (placed (make p) m).value map old values w line k old
        (λ u is.
        let y = computes m le p v u start turns f map old values w k st sound sv hv.holds (operand_settled (keeps_at s.body m.pieces m.entries f) s p map values w v hv) is in
        placed_came s locals body chars shorts start turns m le f map old values w k st u (make p) (within (node_count m.entries) p in_p) y.1 y.0 h)

    pub computes_two : (make : Typed → Typed → Typed) (check : List Old → Value → Value → Checked Value Cause) (line : ℕ) → ((n : ℕ) (p q : Typed) → HasIn n p → HasIn n q → HasIn n (make p q)) → ComputesTwo make check
        → GoesTwo (λ p q l. placed (make p q) l) (λ v u k old. gives (check (c.objects old) v u) line k old)
    computes_two make check line within computes m le p q in_p in_q v u start turns f h map old values w k slots st sound sv su hv hu =
        gives_came (check (c.objects old) v u) s start turns m (placed (make p q) m).low h (placed (make p q) m).value map old values w line k old
        (λ z is.
        let keeps = keeps_at s.body m.pieces m.entries f in
        let set_p = lasting_settled s locals body m f st.slots (length m.slots) (omega arith) map values w p v hv in
        let y = computes m le p q v u z start turns f map old values w k st sound sv su hv.holds set_p hu.holds (operand_settled keeps s q map values w u hu) is in
        placed_came s locals body chars shorts start turns m le f map old values w k st z (make p q) (within (node_count m.entries) p q in_p in_q) y.1 y.0 h)
