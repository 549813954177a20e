-- A body of two empty blocks with a label between them; and one in which the label stands twice.
use Rattle.std.specs.Prelude.{◌≡◌, None, List, [], ◌∷◌, ◌++◌}
use Rattle.std.proofs.Common.{refl, subst}
use Rattle.lcc_base.specs.declared.order.Order.TheVariants.{Little}
use Rattle.op_forest.specs.declared.frame.Slot.{Slot}
use Rattle.op_forest.specs.Callees.{Missing}
use Rattle.forests.specs.Bodies.{Setting}
use Rattle.forests.specs.Functions.{Program}
use Rattle.forests.specs.Meaning.{call_of}
use Rattle.dag_forest.specs.declared.entry.Entry.{Entry}
use Rattle.dag_seam.specs.SplitLaws.{Lacks}
use Rattle.piece_runs.specs.Pieces.{Piece, OfBlock, Mark}
use Rattle.piece_runs.specs.Reaches.{BodyRun, roots_in}
use Rattle.c_expr_agreement.specs.Scenes.{Scene}
use Rattle.lowered_forms.proofs.lemmas.Fronts.{front_itself}
use Rattle.c_tests_agree.specs.Tested.{AreMarkedOnce, Label}

abbrev program : Program
program = record { callee = λ name. Missing; global = λ name. None; order = Little }

abbrev setting : Setting
setting = record { call = call_of program; environment = record { global = program.global; order = Little; home = record { function = 0; place = 0; made = 0; slots = []; words = 0 } } }

abbrev body_of : List Piece → BodyRun
body_of ps = record { program = program; setting = setting; pieces = ps }

abbrev empty : Piece
empty = OfBlock [] []

abbrev body : BodyRun
body = body_of (empty ∷ Mark 0 ∷ empty ∷ [])

abbrev scene : Scene
scene = record {
  unit = record { functions = []; objects = []; texts = []; tags = []; main = 0 };
  own = 0;
  lowered = record { functions = []; objects = []; names = []; order = Little };
  body = body;
  frame = record { types = []; addresses = []; others = [] };
}

-- ---- the label stands once

no_more : (done rest : List Piece) (x : Piece) → [] ≡ (done ++ x ∷ rest) → ⊥
no_more [] rest x e = let never : ⊥ = cc in never
no_more (y ∷ done) rest x e = let never : ⊥ = cc in never

same_entries : {a b : List Slot} {es fs : List Entry} {ps qs : List Piece} → (OfBlock a es ∷ ps) ≡ (OfBlock b fs ∷ qs) → es ≡ fs
same_entries e = cc

behind_three : {x y z a b d : Piece} {ps qs : List Piece} → (x ∷ y ∷ z ∷ ps) ≡ (a ∷ b ∷ d ∷ qs) → ps ≡ qs
behind_three e = cc

marked_once : AreMarkedOnce body
marked_once [] rest n e = tt
marked_once (OfBlock before es ∷ []) rest n e = subst (λ (fs : List Entry). Lacks n (roots_in body (OfBlock before fs ∷ []))) (same_entries e) tt
marked_once (Mark m ∷ []) rest n e = let never : ⊥ = cc in absurd never
marked_once (x ∷ y ∷ []) rest n e = let never : ⊥ = cc in absurd never
marked_once (x ∷ y ∷ z ∷ done) rest n e = absurd (no_more done rest (Mark n) (behind_three e))

-- behind the first block
label : Label scene 0
label = record { before = empty ∷ []; slots = []; labels = 1; front = record { more = []; before = []; rest = []; is = refl }; split = front_itself [] }

-- ---- it stands twice

marked_twice : AreMarkedOnce (body_of (empty ∷ Mark 0 ∷ empty ∷ Mark 0 ∷ empty ∷ [])) → ⊥
marked_twice h = (h (empty ∷ Mark 0 ∷ empty ∷ []) (empty ∷ []) 0 refl).0 refl
