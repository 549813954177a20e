-- Where a block is finished before a label: the run that falls through comes behind it.
use Rattle.std.specs.Prelude.{◌≡◌, ℕ, Bool, true, false, List, [], ◌∷◌, ◌++◌}
use Rattle.std.proofs.Common.{sym, subst, arith, append_assoc}
use Rattle.forests.specs.Words.{Word, unknown}
use Rattle.forests.specs.Worlds.{World, Outcome}
use Rattle.dag_seam.specs.SplitLaws.{TurnsMean}
use Rattle.c_runs.specs.Outcomes.{Undefined, OutOfTurns, Exit, Result, Gives, GivesNone, Ends}
use Rattle.c_runs.specs.Worlds as c
use Rattle.c_match.specs.Ranges.{Map}
use Rattle.piece_runs.specs.Pieces.{Piece, OfBlock, Mark, Front}
use Rattle.piece_runs.specs.Reaches.{Reaches}
use Rattle.piece_runs.proofs.lemmas.Ended.{label_is_reached}
use Rattle.c_expr_agreement.specs.Scenes.{Scene}
use Rattle.lowered_forms.specs.Later.{IsFront}
use Rattle.lowered_forms.specs.Lows.{Low, marked, with_label}
use Rattle.c_straight_agree.specs.Standing.{IsBody, Standing}
use Rattle.c_tests_agree.specs.Tested.{Label, jumps, Passed, PassedBy, WentTo}
use Rattle.c_tests_agree.proofs.lemmas.Branching.{block_begins}

-- ---- a label is used

-- it is nothing to the run
pub with_label_stands : (s : Scene) (start : ℕ → Outcome) (turns : ℕ) (l : Low) (f : Front s.body.pieces l.pieces l.entries) (map : Map) (old : c.World) (values : ℕ → Word) (w : World) (k : ℕ)
    → Standing s start turns l f map old values w k → Standing s start turns (with_label l) f map old values w k
with_label_stands s start turns l f map old values w k st = record { stands = st.stands; block = st.block; none_waits = st.none_waits; slots = st.slots; free = st.free; ready = st.ready }

-- ---- a label that is marked

-- it is in the final body where the block behind it is
abbrev pub label_here : (s : Scene) (n : ℕ) (l : Low) (h : Front s.body.pieces (marked n l).pieces []) → IsFront (marked n l).slots h.before → Label s n
label_here s n l h slots = record { before = l.pieces ++ OfBlock l.slots l.entries ∷ []; slots = (marked n l).slots; labels = l.labels; front = h; split = slots }

module _ (means : TurnsMean) (s : Scene) (locals : ℕ) (body : IsBody s locals) (start : ℕ → Outcome) (turns : ℕ) where
  reached_at : (ps qs : List Piece) (w : World) (k : ℕ) → ps ≡ qs → ((h : Front s.body.pieces qs []) → Reaches s.body start turns qs [] h (λ m. unknown) w k) → (h : Front s.body.pieces ps []) → Reaches s.body start turns ps [] h (λ m. unknown) w k
  reached_at ps qs w k e go = subst (λ (rs : List Piece). (h : Front s.body.pieces rs []) → Reaches s.body start turns rs [] h (λ m. unknown) w k) (sym e) go

  module _ (n : ℕ) (l : Low) (f : Front s.body.pieces l.pieces l.entries) (h : Front s.body.pieces (marked n l).pieces []) (slots : IsFront (marked n l).slots h.before) where
    pub mark_stands : (map : Map) (old : c.World) (values : ℕ → Word) (w : World) (k : ℕ) → Standing s start turns l f map old values w k → Standing s start turns (marked n l) h map old (λ m. unknown) w k
    mark_stands map old values w k st =
        block_begins s start turns (marked n l).pieces (marked n l).slots l.labels h slots map old w k
        (reached_at (marked n l).pieces (l.pieces ++ OfBlock l.slots l.entries ∷ Mark n ∷ []) w k (append_assoc l.pieces (OfBlock l.slots l.entries ∷ []) (Mark n ∷ []))
        (λ g. label_is_reached means s.body body.split start turns l.pieces l.entries l.slots n f g values w k k (omega arith) st.stands.reaches) h)
        st.stands.matches st.stands.frame st.free st.ready

    module _ (from : ℕ) (map : Map) (before : c.World) (first : World) where
      pub mark_passed : (old : c.World) (k : ℕ) → Passed s start turns from l f map before first old k → Passed s start turns from (marked n l) h map before first old k
      mark_passed old k one = record {
        later = one.later;
        grown = one.grown;
        others = λ m. unknown;
        world = one.world;
        stands = mark_stands one.later old one.others one.world k one.stands;
        alike = one.alike;
        left = one.left;
        private = one.private;
      }

      module _ (o : ℕ) (t : Label s o) where
        mark_passed_by : (b : Bool) (old : c.World) (k : ℕ) → PassedBy b s start turns from l f o t map before first old k → PassedBy b s start turns from (marked n l) h o t map before first old k
        mark_passed_by false old k one = mark_passed old k one
        mark_passed_by true old k one = one

        -- a test that ends there
        pub mark_went : (when : Bool) (r : Result) → WentTo s start turns from when l f o t map before first r → WentTo s start turns from when (marked n l) h o t map before first r
        mark_went when (Gives v k old) one = (one.0, (one.1.0, mark_passed_by (jumps when one.0) old k one.1.1))
        mark_went when (GivesNone line k old) one = one
        mark_went when (Ends (Undefined cause line) old) one = tt
        mark_went when (Ends OutOfTurns old) one = one
        mark_went when (Ends (Exit status) old) one = one
