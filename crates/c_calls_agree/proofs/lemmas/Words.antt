-- Operands are passed one behind the other.
use Rattle.std.specs.Prelude.{◌≡◌, ◌≤◌, ◌<◌, ℕ, List, [], ◌∷◌, ◌++◌, length}
use Rattle.std.proofs.Common.{refl, sym, subst, ◌∙◌, arith, append_assoc, append-nil}
use Rattle.objects.specs.declared.value.Value.{Value}
use Rattle.op_forest.specs.declared.op.Op.TheVariants as op
use Rattle.op_forest.specs.declared.suffix.Suffix.{Suffix}
use Rattle.op_forest.specs.declared.suffix.Suffix.TheVariants.{C, S, I, U, P, B, V}
use Rattle.op_forest.specs.Nodes.{Head}
use Rattle.forests.specs.Actions as action
use Rattle.forests.specs.Alike.{AreAlike}
use Rattle.forests.specs.Rows.{acts}
use Rattle.forests.specs.Words.{Word}
use Rattle.forests.specs.Worlds.{World, Outcome}
use Rattle.dag_forest.specs.Meaning.{Keeps}
use Rattle.dag_forest.specs.Tally.{node_count}
use Rattle.dag_seam.specs.Open.{Open}
use Rattle.c_runs.specs.Worlds as c
use Rattle.c_match.specs.Ranges.{Map, Grown}
use Rattle.c_match.specs.Values.{IsValue}
use Rattle.c_match.proofs.lemmas.Growing.{grown_refl}
use Rattle.c_agreement.specs.Agrees.{ComesWith}
use Rattle.c_agreement.specs.Called.{AreValues}
use Rattle.c_rows_agree.specs.Templates.{Template, Gives}
use Rattle.c_rows_agree.specs.Typed.{Typed, head, as_i_from}
use Rattle.c_rows_agree.proofs.lemmas.Suffixes.{i_gives}
use Rattle.piece_runs.specs.Pieces.{Front}
use Rattle.piece_runs.specs.Reaches.{acting, keeps_at}
use Rattle.c_expr_agreement.specs.Scenes.{Scene, InFrame}
use Rattle.lowered_forms.specs.Asked.{rooted_one}
use Rattle.lowered_forms.specs.Blocks.{IsWithin}
use Rattle.lowered_forms.specs.Calls.{word_passed, all_passed}
use Rattle.lowered_forms.specs.Lows.{Low, acted_one}
use Rattle.lowered_forms.proofs.lemmas.Blocks.{within_more}
use Rattle.lowered_forms.proofs.lemmas.Fronts.{front_itself, rooted_one_adds}
use Rattle.lowered_forms.proofs.lemmas.WithinTemplates.{as_i_in}
use Rattle.c_straight_agree.specs.Agreement.{IsLeftBut}
use Rattle.c_straight_agree.specs.Extends.{Extends}
use Rattle.c_straight_agree.specs.Lasting.{LastingValue}
use Rattle.c_straight_agree.specs.Narrow.{CharsAreNarrow, ShortsAreNarrow}
use Rattle.c_straight_agree.specs.Settled.{seen, IsSettled}
use Rattle.c_straight_agree.specs.Standing.{IsBody}
use Rattle.c_straight_agree.proofs.lemmas.At.{At, at_front}
use Rattle.c_straight_agree.proofs.lemmas.Lasting.{lasting_more, lasting_settled, lasting_stays}
use Rattle.c_straight_agree.proofs.lemmas.Extending.{extends_itself, extends_joins, extends_nodes, extends_slots, front_back}
use Rattle.c_straight_agree.proofs.lemmas.Placing.{lone_by}
use Rattle.c_straight_agree.proofs.lemmas.Putting.{alike_length}
use Rattle.c_straight_agree.proofs.lemmas.SettledTemplates.{as_i_set}
use Rattle.c_calls_agree.specs.Laws.{AreWithin, ArgumentWordsArePassed}
use Rattle.c_calls_agree.specs.Passing.{HaveValues, Passing, PassedTo}
use Rattle.c_calls_agree.proofs.lemmas.Roots.{passing, template_is_passed}

-- ---- states

pub at_passing : (s : Scene) (start : ℕ → Outcome) (turns : ℕ) (l : Low) (f : Front s.body.pieces l.pieces l.entries) (map : Map) (old : c.World) (values : ℕ → Word) (w : World) (k : ℕ) (vs : List Value) → Passing s start turns l f map old values w k vs
    → At s start turns l.pieces l.slots (keeps_at s.body l.pieces l.entries f) k map old l.entries f values w
at_passing s start turns l f map old values w k vs st = record {
  block = st.block;
  none_waits = st.none_waits;
  behind = st.slots;
  reaches = st.stands.reaches;
  matches = st.stands.matches;
  frame = st.stands.frame;
  opened = st.stands.nodes;
  free = st.free;
  keeps_is = refl;
}

abbrev pub Callees : Scene → ℕ → Type 0
Callees s k = (j : ℕ) → j < k → (function : ℕ) → function < length s.unit.functions → ComesWith s.unit s.lowered function j

pub passing_at : (s : Scene) (start : ℕ → Outcome) (turns : ℕ) (l : Low) (f : Front s.body.pieces l.pieces l.entries) (map : Map) (old : c.World) (values : ℕ → Word) (w : World) (k : ℕ) (vs : List Value) (keeps : Keeps)
    → At s start turns l.pieces l.slots keeps k map old l.entries f values w → AreValues map vs w.arguments → Callees s k → Passing s start turns l f map old values w k vs
passing_at s start turns l f map old values w k vs keeps at words callees = record {
  stands = record {
    reaches = at.reaches;
    matches = at.matches;
    frame = at.frame;
    nodes = subst (λ (z : Keeps). Open (acting s.body) z l.entries values w) (sym at.keeps_is) at.opened;
  };
  block = at.block;
  none_waits = at.none_waits;
  slots = at.behind;
  free = at.free;
  words = words;
  callees = callees;
}

pub values_with : (map : Map) (vs : List Value) (ws : List Word) (v : Value) (u : Word) → AreValues map vs ws → IsValue map v u → AreValues map (vs ++ v ∷ []) (ws ++ u ∷ [])
values_with map [] [] v u h g = (g, tt)
values_with map [] (w ∷ ws) v u h g = absurd h
values_with map (x ∷ vs) [] v u h g = absurd h
values_with map (x ∷ vs) (w ∷ ws) v u h g = (h.0, values_with map vs ws v u h.1 g)

-- ---- one operand

-- the operator that passes one of this suffix, and what it is asked of
abbrev pub pass_head : Suffix → Head
pass_head P = head op.Arg P
pass_head x = head op.Arg I

abbrev pub passed_tree : Suffix → Template → Template
passed_tree P t = t
passed_tree x t = as_i_from x t

word_is : (x : Suffix) (t : Template) (l : Low) → word_passed x t l ≡ acted_one (pass_head x) (passed_tree x t) l
word_is C t l = refl
word_is S t l = refl
word_is I t l = refl
word_is U t l = refl
word_is P t l = refl
word_is B t l = refl
word_is V t l = refl

pass_acts : (s : Scene) (x : Suffix) (u : Word) (w : World) → acts s.body.setting.environment (pass_head x) (u ∷ []) w.objects ≡ action.Passed u
pass_acts s C u w = refl
pass_acts s S u w = refl
pass_acts s I u w = refl
pass_acts s U u w = refl
pass_acts s P u w = refl
pass_acts s B u w = refl
pass_acts s V u w = refl

passed_in : (n : ℕ) (x : Suffix) (t : Template) → IsWithin n t → IsWithin n (passed_tree x t)
passed_in n C t h = h
passed_in n S t h = h
passed_in n I t h = h
passed_in n U t h = as_i_in n U t h
passed_in n P t h = h
passed_in n B t h = h
passed_in n V t h = h

module _ (s : Scene) (keeps : Keeps) (map : Map) (values : ℕ → Word) (w : World) where
  passed_set : (x : Suffix) (t : Template) → IsSettled keeps (seen s.body map values w) t → IsSettled keeps (seen s.body map values w) (passed_tree x t)
  passed_set C t h = h
  passed_set S t h = h
  passed_set I t h = h
  passed_set U t h = as_i_set keeps (seen s.body map values w) U t h
  passed_set P t h = h
  passed_set B t h = h
  passed_set V t h = h

  passed_gives : (x : Suffix) (t : Template) (u : Word) → Gives (seen s.body map values w) t u → Gives (seen s.body map values w) (passed_tree x t) u
  passed_gives C t u h = h
  passed_gives S t u h = h
  passed_gives I t u h = h
  passed_gives U t u h = i_gives (seen s.body map values w) U t u h
  passed_gives P t u h = h
  passed_gives B t u h = h
  passed_gives V t u h = h

one_extends : (x : Suffix) (t : Template) (l : Low) → Extends l (acted_one (pass_head x) (passed_tree x t) l)
one_extends x t l = record { pieces = refl; entries = (rooted_one_adds (pass_head x) (passed_tree x t) l.entries).front; slots = front_itself l.slots }

word_extends : (x : Suffix) (t : Template) (l : Low) → Extends l (word_passed x t l)
word_extends x t l = subst (λ (m : Low). Extends l m) (sym (word_is x t l)) (one_extends x t l)

pub words_extend : (as' : List Typed) (l : Low) → Extends l (all_passed as' l)
words_extend [] l = extends_itself l
words_extend (a ∷ as') l = extends_joins l (word_passed a.suffix a.tree l) (all_passed as' (word_passed a.suffix a.tree l)) (word_extends a.suffix a.tree l) (words_extend as' (word_passed a.suffix a.tree l))

module _ (chars : CharsAreNarrow) (shorts : ShortsAreNarrow) (s : Scene) (locals : ℕ) (body : IsBody s locals) (start : ℕ → Outcome) (turns : ℕ) (map : Map) (old : c.World) (k : ℕ) where
  one_passed : (x : Suffix) (t : Template) (v : Value) (l : Low) → locals ≤ length l.slots → (f : Front s.body.pieces l.pieces l.entries) (values : ℕ → Word) (w : World) (us : List Value) → Passing s start turns l f map old values w k us
      → IsWithin (node_count l.entries) t → LastingValue s locals (length l.slots) (record { tree = t; suffix = x }) map values w v
      → (h : Front s.body.pieces l.pieces (rooted_one (pass_head x) (passed_tree x t) l.entries)) → PassedTo s start turns l (acted_one (pass_head x) (passed_tree x t) l) h map old values w k (us ++ v ∷ [])
  one_passed x t v l le f values w us st within has h =
      let keeps = keeps_at s.body l.pieces l.entries f in
      let m = template_is_passed chars shorts s locals body start turns l.pieces l.slots le keeps k map old (pass_head x) (pass_acts s x) (passed_tree x t) l.entries f values w (at_passing s start turns l f map old values w k us st) (passed_in (node_count l.entries) x t within)
      (passed_set s keeps map values w x t (lasting_settled s locals body l f st.slots (length l.slots) (omega arith) map values w (record { tree = t; suffix = x }) v has)) has.holds.word (passed_gives s keeps map values w x t has.holds.word has.holds.gives) h in
      record {
        others = m.others;
        world = passing has.holds.word m.world;
        stands = passing_at s start turns (acted_one (pass_head x) (passed_tree x t) l) h map old m.others (passing has.holds.word m.world) k (us ++ v ∷ []) keeps m.stands
            (values_with map us m.world.arguments v has.holds.word (subst (λ (ws : List Word). AreValues map us ws) (sym m.near.arguments) st.words) has.holds.is) st.callees;
        alike = m.near.alike;
        left = λ place lt private none. m.near.same place (lone_by s locals body l.slots l.pieces l.entries f st.slots place none);
        kept = λ n lt. m.near.kept n lt;
      }

  word_is_passed : (x : Suffix) (t : Template) (v : Value) (l : Low) → locals ≤ length l.slots → (f : Front s.body.pieces l.pieces l.entries) (values : ℕ → Word) (w : World) (us : List Value) → Passing s start turns l f map old values w k us
      → IsWithin (node_count l.entries) t → LastingValue s locals (length l.slots) (record { tree = t; suffix = x }) map values w v
      → (m : Low) → word_passed x t l ≡ m → (h : Front s.body.pieces m.pieces m.entries) → PassedTo s start turns l m h map old values w k (us ++ v ∷ [])
  word_is_passed x t v l le f values w us st within has m is =
      subst (λ (n : Low). (h : Front s.body.pieces n.pieces n.entries) → PassedTo s start turns l n h map old values w k (us ++ v ∷ [])) (sym (word_is x t l) ∙ is)
      (λ h. one_passed x t v l le f values w us st within has h)

  -- ---- one behind the other

  passed_joins : (l m p : Low) → Extends l m → (h : Front s.body.pieces m.pieces m.entries) (q : Front s.body.pieces p.pieces p.entries) (values : ℕ → Word) (first : World) (us vs : List Value) → (one : PassedTo s start turns l m h map old values first k us)
      → PassedTo s start turns m p q map old one.others one.world k vs → PassedTo s start turns l p q map old values first k vs
  passed_joins l m p x h q values first us vs one two = record {
    others = two.others;
    world = two.world;
    stands = two.stands;
    alike = one.alike ∙ two.alike;
    left = λ place lt private none.
        two.left place (let e = alike_length first.objects one.world.objects one.alike in omega (arith, lt, e)) private
        (λ taken. none ((let a = taken.0 in let e = extends_slots l m x in omega (arith, a, e)), taken.1))
        ∙ one.left place lt private none;
    kept = λ n lt. two.kept n (let e = extends_nodes l m x in omega (arith, lt, e)) ∙ one.kept n lt;
  }

  -- nothing is passed
  none_passed : (l : Low) (f h : Front s.body.pieces l.pieces l.entries) (values : ℕ → Word) (w : World) (us : List Value) → Passing s start turns l f map old values w k us → PassedTo s start turns l l h map old values w k us
  none_passed l f h values w us st =
      let keeps = keeps_at s.body l.pieces l.entries f in
      record {
        others = values;
        world = w;
        stands = passing_at s start turns l h map old values w k us keeps (at_front s start turns l.pieces l.slots keeps k map old l.entries f h values w (at_passing s start turns l f map old values w k us st)) st.words st.callees;
        alike = refl;
        left = λ place lt private none. refl;
        kept = λ n lt. refl;
      }

pub within_later : (m n : ℕ) (as' : List Typed) → m ≤ n → AreWithin m as' → AreWithin n as'
within_later m n [] le h = tt
within_later m n (a ∷ as') le h = (within_more m n a.tree le h.0, within_later m n as' le h.1)

module _ (s : Scene) (locals : ℕ) where
  -- operands that wait in more slots
  pub have_more : (slots more : ℕ) → slots ≤ more → (as' : List Typed) (map : Map) (values : ℕ → Word) (w : World) (vs : List Value) → HaveValues s locals slots as' map values w vs → HaveValues s locals more as' map values w vs
  have_more slots more le [] map values w [] h = tt
  have_more slots more le [] map values w (v ∷ vs) h = absurd h
  have_more slots more le (a ∷ as') map values w [] h = absurd h
  have_more slots more le (a ∷ as') map values w (v ∷ vs) h = (lasting_more s locals slots more le a map values w v h.0, have_more slots more le as' map values w vs h.1)

  -- and behind what follows
  pub values_stay : IsBody s locals → (slots from : ℕ) → slots ≤ from → (map later : Map) → Grown map later → (old : c.World) (values others : ℕ → Word) (w world : World) → InFrame s.frame map old w → AreAlike w.objects world.objects → IsLeftBut s from map (c.objects old) w.objects world.objects
      → (n : ℕ) → ((m : ℕ) → m < n → others m ≡ values m) → (as' : List Typed) (vs : List Value) → AreWithin n as' → HaveValues s locals slots as' map values w vs → HaveValues s locals slots as' later others world vs
  values_stay body slots from le map later grown old values others w world frame alike left n kept [] [] within h = tt
  values_stay body slots from le map later grown old values others w world frame alike left n kept [] (v ∷ vs) within h = absurd h
  values_stay body slots from le map later grown old values others w world frame alike left n kept (a ∷ as') [] within h = absurd h
  values_stay body slots from le map later grown old values others w world frame alike left n kept (a ∷ as') (v ∷ vs) within h = (
    lasting_stays s locals body slots from le map later grown old values others w world frame alike left n kept a v within.0 h.0,
    values_stay body slots from le map later grown old values others w world frame alike left n kept as' vs within.1 h.1,
  )

pub words_are_passed : CharsAreNarrow → ShortsAreNarrow → ArgumentWordsArePassed
words_are_passed chars shorts s locals body start turns l le f map old values w k us st [] [] within has h =
    subst (λ (vs : List Value). PassedTo s start turns l l h map old values w k vs) (sym (append-nil us)) (none_passed chars shorts s locals body start turns map old k l f h values w us st)
words_are_passed chars shorts s locals body start turns l le f map old values w k us st [] (v ∷ vs) within has h = absurd has
words_are_passed chars shorts s locals body start turns l le f map old values w k us st (a ∷ as') [] within has h = absurd has
words_are_passed chars shorts s locals body start turns l le f map old values w k us st (a ∷ as') (v ∷ vs) within has h =
    let m = word_passed a.suffix a.tree l in
    let x = word_extends a.suffix a.tree l in
    let y = words_extend as' m in
    let g = front_back s.body.pieces m (all_passed as' m) y h in
    let one = word_is_passed chars shorts s locals body start turns map old k a.suffix a.tree v l le f values w us st within.0 has.0 m refl g in
    let n = node_count l.entries in
    let two = words_are_passed chars shorts s locals body start turns m (let e = extends_slots l m x in omega (arith, le, e)) g map old one.others one.world k (us ++ v ∷ []) one.stands as' vs (within_later n (node_count m.entries) as' (extends_nodes l m x) within.1)
    (have_more s locals (length l.slots) (length m.slots) (extends_slots l m x) as' map one.others one.world vs
    (values_stay s locals body (length l.slots) (length l.slots) (omega arith) map map (grown_refl map) old values one.others w one.world st.stands.frame one.alike one.left n one.kept as' vs within.1 has.1)) h in
    passed_joins chars shorts s locals body start turns map old k l m (all_passed as' m) x g h values w (us ++ v ∷ []) (us ++ v ∷ vs) one
    (subst (λ (ws : List Value). PassedTo s start turns m (all_passed as' m) h map old one.others one.world k ws) (append_assoc us (v ∷ []) vs) two)
