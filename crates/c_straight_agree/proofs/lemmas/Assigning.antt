-- Assignments and changes of scalars and bit-fields.
use Rattle.std.specs.Prelude.{◌≡◌, ◌≤◌, ℕ, Bool, true, false, Option, Some, Ok, Err, List, [], ◌∷◌, length, Result as Checked, if◌then◌else◌}
use Rattle.std.proofs.Common.{refl, sym, subst, arith}
use Rattle.lcc_base.specs.declared.cause.Cause.{Cause}
use Rattle.lcc_base.specs.declared.cause.Cause.TheVariants.{PointerNumber}
use Rattle.lcc_base.specs.declared.order.Order.{Order}
use Rattle.objects.specs.declared.purpose.Purpose.TheVariants.{Assignment}
use Rattle.objects.specs.declared.value.Value.{Value}
use Rattle.objects.specs.declared.value.Value.TheVariants.{Number, Pointer, Function}
use Rattle.objects.specs.Accesses.{number_or_zero, written, field_written}
use Rattle.objects.proofs.lemmas.AccessLaws.{first_not}
use Rattle.objects.specs.Causes.{first_cause, is_no_number}
use Rattle.objects.specs.Conversions.{extended}
use Rattle.objects.specs.Objects.{Object as Old}
use Rattle.forests.specs.Words.{Word, Plain, IsWord}
use Rattle.forests.specs.Worlds.{World, Outcome}
use Rattle.dag_forest.specs.Tally.{node_count}
use Rattle.c_meaning.specs.Scalars.{scalar_of, is_signed}
use Rattle.c_runs.specs.Outcomes.{Result, Gives, if_fine, stores}
use Rattle.c_runs.specs.Places.{Spot, is_field, field_of}
use Rattle.c_runs.specs.Places as place
use Rattle.c_runs.specs.Worlds as c
use Rattle.c_match.specs.Ranges.{Map}
use Rattle.c_match.specs.Values.{IsValue}
use Rattle.c_rows_agree.specs.Typed.{Typed, Holds}
use Rattle.c_rows_agree.proofs.lemmas.Conversions.{number_of_value}
use Rattle.c_rows_agree.proofs.lemmas.Fields.{field_value_holds}
use Rattle.piece_runs.specs.Pieces.{Front}
use Rattle.piece_runs.specs.Reaches.{keeps_at}
use Rattle.c_expr_agreement.specs.Scenes.{Scene}
use Rattle.lowered_forms.specs.Accesses as low
use Rattle.lowered_forms.specs.Accesses.{kept_by, written_by}
use Rattle.lowered_forms.specs.Later.{IsFront}
use Rattle.lowered_forms.specs.Lows.{Low, acted}
use Rattle.lowered_forms.specs.Values.{placed}
use Rattle.lowered_forms.proofs.lemmas.Blocks.{within_more}
use Rattle.lowered_forms.proofs.lemmas.Pending.{pending_in, placed_comes}
use Rattle.lowered_forms.proofs.lemmas.WithinTemplates.{HasIn, kept_in_block}
use Rattle.c_straight_agree.specs.Agreement.{HasValue, Came, CameTo}
use Rattle.c_straight_agree.specs.Extends.{Extends}
use Rattle.c_straight_agree.specs.Lasting.{LastingValue}
use Rattle.c_straight_agree.specs.Narrow.{CharsAreNarrow, ShortsAreNarrow}
use Rattle.c_straight_agree.specs.Settled.{seen}
use Rattle.c_straight_agree.specs.Standing.{IsBody, Standing}
use Rattle.c_straight_agree.proofs.lemmas.Coming.{operand_settled, value_stays, joins}
use Rattle.c_straight_agree.proofs.lemmas.Extending.{placed_extends, acted_extends, extends_nodes, extends_slots, extends_grows, front_back}
use Rattle.c_straight_agree.proofs.lemmas.Lasting.{lasting_more, lasting_settled, lasting_stays}
use Rattle.c_straight_agree.proofs.lemmas.Parts.{GoesTwo}
use Rattle.c_straight_agree.proofs.lemmas.Placing.{placed_came}
use Rattle.c_straight_agree.proofs.lemmas.Reading.{if_none_is, IsInUnit, width_some}
use Rattle.c_straight_agree.proofs.lemmas.SettledTemplates.{kept_by_set}
use Rattle.c_straight_agree.proofs.lemmas.Storing.{written_came}

-- ---- what is checked

pub fine_came : {A : Type 0} (checked : Checked A Cause) (s : Scene) (start : ℕ → Outcome) (turns : ℕ) (l m : Low) (h : Front s.body.pieces m.pieces m.entries) (a : Typed) (map : Map) (before : c.World) (values : ℕ → Word) (first : World) (line : ℕ) (old : c.World) (go : A → Result)
    → ((u : A) → checked ≡ Ok u → CameTo s start turns l m h a map before values first (go u)) → CameTo s start turns l m h a map before values first (if_fine checked line old go)
fine_came (Ok u) s start turns l m h a map before values first line old go next = next u refl
fine_came (Err cause) s start turns l m h a map before values first line old go next = tt

-- ---- the value that a place has then

pub word_of_value : (map : Map) (v : Value) (w : Word) → IsWord w → IsValue map v w → IsWord (Plain v)
word_of_value map (Number n) w word is = subst IsWord is word
word_of_value map (Pointer object offset) w word is = tt
word_of_value map (Function f) w word is = tt

field_number : (order : Order) (x : Spot) (v : Value) (os new : List Old) (p : Value) → field_written Assignment order (field_of x) v os p ≡ Ok new → (n : ℕ) × (v ≡ Number n)
field_number order x v os new p e = number_of_value v (first_not (is_no_number v) PointerNumber [] (if_none_is (first_cause ((is_no_number v, PointerNumber) ∷ [])) _ new e).0)

module _ (s : Scene) (map : Map) (values : ℕ → Word) (w : World) (order : Order) (x : Spot) (unit : IsInUnit x) (b : Typed) (v p : Value) (os new : List Old) where
  kept_number : (n : ℕ) → v ≡ Number n → is_field x ≡ true → Holds (seen s.body map values w) b v → Holds (seen s.body map values w) (kept_by true x b) (Number (extended (is_signed x.of) x.width (number_or_zero v)))
  kept_number n same is h =
      let at : Holds (seen s.body map values w) b (Number n) = subst (λ (z : Value). Holds (seen s.body map values w) b z) same h in
      subst (λ (z : Value). Holds (seen s.body map values w) (kept_by true x b) (Number (extended (is_signed x.of) x.width (number_or_zero z)))) (sym same)
      (field_value_holds (seen s.body map values w) (field_of x) b n (width_some x.width is) (omega (arith, unit)) at)

  kept_so : (t : Bool) → is_field x ≡ t → (if t then field_written Assignment order (field_of x) v os p else written Assignment order (scalar_of x.of).width v os p) ≡ Ok new → Holds (seen s.body map values w) b v
      → Holds (seen s.body map values w) (kept_by t x b) (if t then Number (extended (is_signed x.of) x.width (number_or_zero v)) else v)
  kept_so true is e h = let n = field_number order x v os new p e in kept_number n.0 n.1 is h
  kept_so false is e h = h

  pub kept_holds : place.stored Assignment order x v os p ≡ Ok new → Holds (seen s.body map values w) b v → Holds (seen s.body map values w) (low.kept x b) (place.kept x v)
  kept_holds e h = kept_so (is_field x) refl e h

-- ---- assignments

-- the node of what is placed
pub placed_in : (a : Typed) (m : Low) (start : ℕ → Outcome) (turns : ℕ) (s : Scene) (f : Front s.body.pieces m.pieces m.entries) (map : Map) (old : c.World) (values : ℕ → Word) (w : World) (k : ℕ) → Standing s start turns m f map old values w k → HasIn (node_count m.entries) a
    → HasIn (node_count (placed a m).low.entries) (placed a m).value
placed_in a m start turns s f map old values w k st in_a = let p = placed_comes a m st.block in_a in pending_in (node_count (placed a m).low.entries) (placed a m).value.tree p.value

module _ (s : Scene) (locals : ℕ) (body : IsBody s locals) (chars : CharsAreNarrow) (shorts : ShortsAreNarrow) where
  -- two steps in one block
  pub both : (start : ℕ → Outcome) (turns : ℕ) (l m p : Low) (x : Extends l m) (y : Extends m p) (h : Front s.body.pieces m.pieces m.entries) (q : Front s.body.pieces p.pieces p.entries) (a b : Typed) (map : Map) (before : c.World) (values : ℕ → Word) (first : World) (v : Option Value) (old : c.World) (k : ℕ)
      → (one : Came s start turns l m h a map before values first v old k) → (r : Result) → CameTo s start turns m p q b one.later old one.others one.world r → CameTo s start turns l p q b map before values first r
  both start turns l m p x y h q a b map before values first v old k one r two =
      joins s start turns l m p h q a b map before values first v old k (extends_slots l m x) (λ g. (extends_grows l m x, (extends_grows m p y, extends_nodes l m x))) one r two

  -- an operand that waits, behind a step
  pub still : (start : ℕ → Outcome) (turns : ℕ) (l m : Low) → Extends l m → (h : Front s.body.pieces m.pieces m.entries) (a : Typed) (map : Map) (before : c.World) (values : ℕ → Word) (first : World) (v : Option Value) (old : c.World) (k : ℕ)
      → (one : Came s start turns l m h a map before values first v old k) → (b : Typed) (u : Value) → HasIn (node_count l.entries) b → HasValue s b map values first u → HasValue s b one.later one.others one.world u
  still start turns l m x h a map before values first v old k one b u in_b hb =
      value_stays s map one.later one.grown values one.others first one.world one.alike (node_count l.entries) (one.kept (extends_grows l m x)) b u in_b hb

  -- and one that waits while blocks end
  pub lasts : (start : ℕ → Outcome) (turns : ℕ) (l m : Low) → Extends l m → (f : Front s.body.pieces l.pieces l.entries) (h : Front s.body.pieces m.pieces m.entries) (a : Typed) (map : Map) (before : c.World) (values : ℕ → Word) (first : World) (j : ℕ) → Standing s start turns l f map before values first j
      → (v : Option Value) (old : c.World) (k : ℕ) → (one : Came s start turns l m h a map before values first v old k) → (b : Typed) (u : Value) → HasIn (node_count l.entries) b → LastingValue s locals (length l.slots) b map values first u → LastingValue s locals (length m.slots) b one.later one.others one.world u
  lasts start turns l m x f h a map before values first j st v old k one b u in_b hb =
      lasting_more s locals (length l.slots) (length m.slots) (extends_slots l m x) b one.later one.others one.world u
      (lasting_stays s locals body (length l.slots) (length l.slots) (omega arith) map one.later one.grown before values one.others first one.world st.stands.frame one.alike one.left (node_count l.entries) (one.kept (extends_grows l m x)) b u in_b hb)

  pub in_later : (l m : Low) → Extends l m → (b : Typed) → HasIn (node_count l.entries) b → HasIn (node_count m.entries) b
  in_later l m x b in_b = within_more (node_count l.entries) (node_count m.entries) b.tree (extends_nodes l m x) in_b

  -- a value is written, and what the place has then is given
  module _ (x : Spot) (unit : IsInUnit x) where
    pub assigned_came : (m : Low) → locals ≤ length m.slots → (a b : Typed) → HasIn (node_count m.entries) a → HasIn (node_count m.entries) b → (p v : Value) (start : ℕ → Outcome) (turns : ℕ) (f : Front s.body.pieces m.pieces m.entries)
        (h : Front s.body.pieces (low.assigned s.lowered.order x a b m).low.pieces (low.assigned s.lowered.order x a b m).low.entries) (map : Map) (old : c.World) (values : ℕ → Word) (w : World) (k : ℕ)
        → IsFront (low.assigned s.lowered.order x a b m).low.slots h.before → Standing s start turns m f map old values w k → LastingValue s locals (length m.slots) a map values w p → HasValue s b map values w v
        → (new : List Old) → place.stored Assignment s.lowered.order x v (c.objects old) p ≡ Ok new
        → CameTo s start turns m (low.assigned s.lowered.order x a b m).low h (low.assigned s.lowered.order x a b m).value map old values w (Gives (place.kept x v) k (c.with_objects old new))
    assigned_came m le a b in_a in_b p v start turns f h map old values w k slots st ha hb new is =
        let kept = low.kept x b in
        let one_low = placed kept m in
        let r = written_by (is_field x) true s.lowered.order x a b in
        let x1 = placed_extends kept m in
        let x2 = acted_extends r one_low.low in
        let h1 = front_back s.body.pieces one_low.low (acted r one_low.low) x2 h in
        let keeps = keeps_at s.body m.pieces m.entries f in
        let here = seen s.body map values w in
        let in_kept = kept_in_block (node_count m.entries) (is_field x) x b in_b in
        let one = placed_came s locals body chars shorts start turns m le f map old values w k st (place.kept x v) kept in_kept (kept_by_set keeps here (is_field x) x b (operand_settled keeps s b map values w v hb))
        (kept_holds s map values w s.lowered.order x unit b v p (c.objects old) new is hb.holds) h1 in
        let la = lasts start turns m one_low.low x1 f h1 one_low.value map old values w k st (Some (place.kept x v)) old k one a p in_a ha in
        let two = written_came s locals body chars shorts x unit true one_low.low (slots_on le (extends_slots m one_low.low x1)) a b (in_later m one_low.low x1 a in_a) (in_later m one_low.low x1 b in_b) p v start turns h1 one.later old one.others one.world k one.stands Assignment tt
        la.holds (lasting_settled s locals body one_low.low h1 one.stands.slots (length one_low.low.slots) (omega arith) one.later one.others one.world a p la)
        (still start turns m one_low.low x1 h1 one_low.value map old values w (Some (place.kept x v)) old k one b v in_b hb)
        new is one_low.value (place.kept x v) (placed_in kept m start turns s f map old values w k st in_kept) one.has h in
        both start turns m one_low.low (acted r one_low.low) x1 x2 h1 h one_low.value one_low.value map old values w (Some (place.kept x v)) old k one (Gives (place.kept x v) k (c.with_objects old new)) two
      where
        slots_on : {n i j : ℕ} → n ≤ i → i ≤ j → n ≤ j
        slots_on p q = omega (arith, p, q)

    pub scalars_are_assigned : (line : ℕ) → GoesTwo s locals body (λ a b l. low.assigned s.lowered.order x a b l)
        (λ p v k old. stores (place.stored Assignment s.lowered.order x v (c.objects old) p) (place.kept x v) line k old)
    scalars_are_assigned line m le a b in_a in_b p v start turns f h map old values w k slots st sound sp sv ha hb =
        fine_came (place.stored Assignment s.lowered.order x v (c.objects old) p) s start turns m (low.assigned s.lowered.order x a b m).low h (low.assigned s.lowered.order x a b m).value map old values w line old (λ os. Gives (place.kept x v) k (c.with_objects old os))
        (λ new is. assigned_came m le a b in_a in_b p v start turns f h map old values w k slots st ha hb new is)
