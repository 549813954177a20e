-- What stands from an open block on.
use Rattle.std.specs.Prelude.{◌≡◌, List, [], ◌∷◌, ◌++◌}
use Rattle.std.proofs.Common.{refl, sym, ap, ◌∙◌, append_assoc}
use Rattle.lcc_base.specs.declared.order.Order.{Order}
use Rattle.op_forest.specs.Nodes.{Node}
use Rattle.forests.specs.Addresses.{Home}
use Rattle.dag_forest.specs.declared.entry.Entry.{Entry}
use Rattle.dag_forest.specs.Split.{split_trees}
use Rattle.dag_seam.proofs.lemmas.SplitFits.{split_appends}
use Rattle.piece_runs.specs.Pieces.{Piece, OfBlock, Mark, label_root, roots_of, Front}
use Rattle.piece_runs.specs.Reaches.{BodyRun, tail_at, keeps_in, keeps_at}
use Rattle.piece_runs.specs.Laws.{TailsAreSame}

same_tail : {A : Type 0} {x y : A} {xs ys : List A} → (x ∷ xs) ≡ (y ∷ ys) → xs ≡ ys
same_tail e = cc

-- behind the same front
pub behind_same : {A : Type 0} (xs ys zs : List A) → xs ++ ys ≡ xs ++ zs → ys ≡ zs
behind_same [] ys zs e = e
behind_same (x ∷ xs) ys zs e = behind_same xs ys zs (same_tail e)

pub tails_are_same : TailsAreSame
tails_are_same g done es fs f h = behind_same done (tail_at g done es f) (tail_at g done fs h) (sym f.is ∙ h.is)

-- so are the temporaries
pub keeps_are_same : (g : BodyRun) (done : List Piece) (es fs : List Entry) (f : Front g.pieces done es) (h : Front g.pieces done fs) → keeps_at g done es f ≡ keeps_at g done fs h
keeps_are_same g done es fs f h = ap (λ (ps : List Piece). keeps_in g ps) (tails_are_same g done es fs f h)

-- where pieces follow those that are done, and then an open block
pub tail_is : (g : BodyRun) (done ps : List Piece) (es fs : List Entry) (f : Front g.pieces done es) (h : Front g.pieces (done ++ ps) fs) → tail_at g done es f ≡ ps ++ tail_at g (done ++ ps) fs h
tail_is g done ps es fs f h = behind_same done (tail_at g done es f) (ps ++ tail_at g (done ++ ps) fs h) (sym f.is ∙ h.is ∙ append_assoc done ps (tail_at g (done ++ ps) fs h))

-- the roots of pieces one behind the other
pub roots_append : (order : Order) (home : Home) (ps qs : List Piece) → roots_of order home (ps ++ qs) ≡ roots_of order home ps ++ roots_of order home qs
roots_append order home [] qs = refl
roots_append order home (OfBlock before es ∷ ps) qs =
    let trees = split_trees order home before es [] in
    split_appends order home before es (roots_of order home (ps ++ qs))
    ∙ ap (λ (ts : List Node). trees ++ ts) (roots_append order home ps qs)
    ∙ sym (append_assoc trees (roots_of order home ps) (roots_of order home qs))
    ∙ ap (λ (ts : List Node). ts ++ roots_of order home qs) (sym (split_appends order home before es (roots_of order home ps)))
roots_append order home (Mark l ∷ ps) qs = ap (λ (ts : List Node). label_root l ∷ ts) (roots_append order home ps qs)
