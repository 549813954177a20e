-- A root that passes a word: it waits behind those that were passed.
use Rattle.std.specs.Prelude.{◌≡◌, ◌≤◌, ℕ, suc, Bool, true, false, List, [], ◌∷◌, ◌++◌, length}
use Rattle.std.proofs.Common.{refl, sym, ap, subst, ◌∙◌, arith}
use Rattle.op_forest.specs.declared.frame.Slot.{Slot}
use Rattle.op_forest.specs.Nodes.{Head}
use Rattle.forests.specs.Actions as action
use Rattle.forests.specs.Actions.{Action, effect_of}
use Rattle.forests.specs.Bodies.{does}
use Rattle.forests.specs.Budgets.{with_left}
use Rattle.forests.proofs.lemmas.Kept.{calls_kept}
use Rattle.forests.specs.Rows.{acts}
use Rattle.forests.specs.Sound.{AreWords}
use Rattle.forests.specs.Words.{Word, IsWord}
use Rattle.forests.specs.Worlds.{World, Effect, Outcome, Next, Went, with_arguments}
use Rattle.dag_forest.specs.declared.act.Act.TheVariants.{Acts}
use Rattle.dag_forest.specs.declared.entry.Entry.{Entry}
use Rattle.dag_forest.specs.declared.entry.Entry.TheVariants as entry
use Rattle.dag_forest.specs.declared.kids.Kids.TheVariants as kids
use Rattle.dag_forest.specs.declared.parts.Parts.{Parts}
use Rattle.dag_forest.specs.Meaning.{Keeps, is_end, Leaves, Acted, Through, RunsBehind, Runs}
use Rattle.dag_forest.specs.Schedules.{head_of, operands}
use Rattle.dag_forest.specs.Tally.{node_count}
use Rattle.dag_seam.specs.Turns.{made_of}
use Rattle.dag_seam.proofs.lemmas.Opening.{root_acts}
use Rattle.dag_seam.proofs.lemmas.Turns.{root_goes_on}
use Rattle.c_runs.specs.Worlds as c
use Rattle.c_match.specs.Ranges.{Map}
use Rattle.c_match_worlds.specs.Matches.{Matches}
use Rattle.c_match_worlds.proofs.lemmas.Keeping.{private_keeps}
use Rattle.c_rows_agree.specs.Templates.{Template, Gives}
use Rattle.piece_runs.specs.Pieces.{Piece, Front}
use Rattle.piece_runs.specs.Reaches.{acting}
use Rattle.piece_runs.proofs.lemmas.Reached.{entries_are_reached}
use Rattle.piece_runs.proofs.lemmas.Tails.{keeps_are_same}
use Rattle.c_expr_agreement.specs.Scenes.{Scene}
use Rattle.lowered_forms.specs.Asked.{with_kids, asked, rooted_one}
use Rattle.lowered_forms.specs.Blocks.{IsBlock, IsWithin}
use Rattle.lowered_forms.proofs.lemmas.Blocks.{rooted_one_there}
use Rattle.lowered_forms.proofs.lemmas.Fronts.{front_before}
use Rattle.c_straight_agree.specs.Narrow.{CharsAreNarrow, ShortsAreNarrow}
use Rattle.c_straight_agree.specs.Settled.{seen, IsSettled, IsNear}
use Rattle.c_straight_agree.specs.Standing.{IsBody}
use Rattle.c_straight_agree.proofs.lemmas.AskedTemplates.{template_answers}
use Rattle.c_straight_agree.proofs.lemmas.At.{At, front_of, behind_same}
use Rattle.c_straight_agree.proofs.lemmas.Mild.{acts_on_one}
use Rattle.c_straight_agree.proofs.lemmas.Near.{gives_word}

pub words_with : (ws : List Word) (u : Word) → AreWords ws → IsWord u → AreWords (ws ++ u ∷ [])
words_with [] u h g = (g, tt)
words_with (w ∷ ws) u h g = (h.0, words_with ws u h.1 g)

-- other argument words change nothing else
pub arguments_match : (s : Scene) (map : Map) (old : c.World) (w : World) (ws : List Word) → AreWords ws → Matches s.lowered s.own map old w → Matches s.lowered s.own map old (with_arguments w ws)
arguments_match s map old w ws words m =
    private_keeps s.lowered s.own map old w (with_arguments w ws) m (record { objects = m.sound.objects; arguments = words; input = m.sound.input }) refl refl (λ place open_to. refl) (λ t o is. refl)

abbrev pub passing : Word → World → World
passing u w = with_arguments w (w.arguments ++ u ∷ [])

-- ---- one root

module _ (s : Scene) (start : ℕ → Outcome) (turns : ℕ) (done : List Piece) (slots : List Slot) (keeps : Keeps) (k : ℕ) (map : Map) (old : c.World) (es : List Entry) (f : Front s.body.pieces done es) (values : ℕ → Word) (w : World) (st : At s start turns done slots keeps k map old es f values w) (x : Parts) (u : Word) (word : IsWord u)
    (act : acts s.body.setting.environment (head_of x) (operands x.kids values) w.objects ≡ action.Passed u) where
  acts_so : (left : ℕ) → does (acting s.body) (head_of x) (operands x.kids values) (with_left left w) ≡ Went [] (with_left left (passing u w)) Next
  acts_so left = ap (λ (z : Action). effect_of (acting s.body).call z (with_left left w)) act

  still : (b : Bool) → Leaves b keeps (made_of es) w (passing u w)
  still true = λ m t made kept. refl
  still false = λ o. refl

  runs_so : (left : ℕ) → Runs (acting s.body) keeps (Acts x ∷ []) (made_of es) values (suc left) w (Through values (with_left left (passing u w)))
  runs_so left =
      subst (λ (e : Effect). Acted e (Through values (with_left left (passing u w))) (λ p. Leaves (is_end x) keeps (made_of es) w p.world × RunsBehind false (acting s.body) keeps [] (made_of es) values p.left p.world (Through values (with_left left (passing u w))))) (sym (acts_so left))
      (still (is_end x), refl)

  -- the run stands behind it
  pub root_passes : (h : Front s.body.pieces done (es ++ entry.Root x ∷ [])) → IsBlock (es ++ entry.Root x ∷ []) → At s start turns done slots keeps k map old (es ++ entry.Root x ∷ []) h values (passing u w)
  root_passes h block =
      let on = root_goes_on es st.none_waits x in
      record {
        block = block;
        none_waits = on.1;
        behind = behind_same s.body slots done es (es ++ entry.Root x ∷ []) f h st.behind;
        reaches = entries_are_reached s.body start turns done es (entry.Root x ∷ []) (Acts x ∷ []) f h values values w (passing u w) k k on st.reaches
            (λ left. (suc left, omega arith, subst (λ (ks : Keeps). Runs (acting s.body) ks (Acts x ∷ []) (made_of es) values (suc left) w (Through values (with_left left (passing u w)))) (sym st.keeps_is) (runs_so left)));
        matches = arguments_match s map old w (w.arguments ++ u ∷ []) (words_with w.arguments u st.matches.sound.arguments word) st.matches;
        frame = record { locals = st.frame.locals; others = st.frame.others };
        opened = root_acts (acting s.body) keeps (calls_kept s.body.program) es values w st.opened x 0 [] (with_left 0 (passing u w)) Next (acts_so 0) (still (is_end x));
        free = st.free;
        keeps_is = sym (keeps_are_same s.body done es (es ++ entry.Root x ∷ []) f h) ∙ st.keeps_is;
      }

-- ---- with its operand

-- The run stands behind the root, in a world with the word behind those that waited; before the root the world was near the first one.
pub record HasPassed (s : Scene) (start : ℕ → Outcome) (turns : ℕ) (done : List Piece) (slots : List Slot) (keeps : Keeps) (k : ℕ) (map : Map) (old : c.World) (n : ℕ) (values : ℕ → Word) (w : World) (u : Word) (es : List Entry) (h : Front s.body.pieces done es) : Type 0 where
  pub others : ℕ → Word
  pub world : World
  pub near : IsNear keeps n values others w world
  pub stands : At s start turns done slots keeps k map old es h others (passing u world)

module _ (chars : CharsAreNarrow) (shorts : ShortsAreNarrow) (s : Scene) (locals : ℕ) (body : IsBody s locals) (start : ℕ → Outcome) (turns : ℕ) (done : List Piece) (slots : List Slot) (le : locals ≤ length slots) (keeps : Keeps) (k : ℕ) (map : Map) (old : c.World) where
  pub template_is_passed : (y : Head) → ((u : Word) (w : World) → acts s.body.setting.environment y (u ∷ []) w.objects ≡ action.Passed u) → (t : Template) (es : List Entry) (f : Front s.body.pieces done es) (values : ℕ → Word) (w : World) → At s start turns done slots keeps k map old es f values w
      → IsWithin (node_count es) t → IsSettled keeps (seen s.body map values w) t → (u : Word) → Gives (seen s.body map values w) t u
      → (h : Front s.body.pieces done (rooted_one y t es)) → HasPassed s start turns done slots keeps k map old (node_count es) values w u (rooted_one y t es) h
  template_is_passed y act t es f values w st within settled u gives h =
      let first = asked t es in
      let gs = first.entries in
      let x = with_kids y (kids.One first.node) in
      let g = front_of s.body.pieces done gs (gs ++ entry.Root x ∷ []) (front_before gs (entry.Root x ∷ [])) h in
      let m = template_answers chars shorts s locals body start turns done slots le keeps k map old t es f values w st within settled u gives g in
      let word = gives_word (seen s.body map values w) keeps st.matches.sound.objects body.words t u settled gives in
      record {
        others = m.others;
        world = m.world;
        near = m.near;
        stands = root_passes s start turns done slots keeps k map old gs g m.others m.world m.stands x u word (acts_on_one s.body.setting.environment y m.world.objects (m.others first.node) u (action.Passed u) m.has (act u m.world)) h
            (rooted_one_there y t es st.block within).0;
      }
