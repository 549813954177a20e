-- What an earlier open block comes to be, where a later one comes to be something.
use Rattle.std.specs.Prelude.{◌≡◌, List, [], ◌∷◌, ◌++◌}
use Rattle.std.proofs.Common.{ap, ◌∙◌, append_assoc, append-nil}
use Rattle.dag_forest.specs.declared.entry.Entry.{Entry}
use Rattle.piece_runs.specs.Pieces.{Piece, OfBlock, Mark, Front}
use Rattle.lowered_forms.specs.Later.{HoldsOpen, IsLater}
use Rattle.lowered_forms.specs.Lows.{Low}

front_back : (all done later : List Piece) (es : List Entry) (ps : List Piece) (fs : List Entry) → later ≡ done ++ ps → HoldsOpen es ps fs → Front all later fs → Front all done es
front_back all done later es [] fs e h f =
    record {
      more = h.more ++ f.more;
      before = f.before;
      rest = f.rest;
      is = f.is ∙ ap (λ q. q ++ OfBlock f.before (fs ++ f.more) ∷ f.rest) (e ∙ append-nil done)
          ∙ ap (λ gs. done ++ OfBlock f.before gs ∷ f.rest) (ap (λ gs. gs ++ f.more) h.is ∙ append_assoc es h.more f.more);
    }
front_back all done later es (OfBlock before gs ∷ ps) fs e h f =
    let end = OfBlock f.before (fs ++ f.more) ∷ f.rest in
    record {
      more = h.more;
      before = before;
      rest = ps ++ end;
      is = f.is ∙ ap (λ q. q ++ end) e ∙ append_assoc done (OfBlock before gs ∷ ps) end ∙ ap (λ hs. done ++ OfBlock before hs ∷ (ps ++ end)) h.is;
    }
front_back all done later es (Mark n ∷ ps) fs e h f = absurd h

pub fronts_go_back : (all : List Piece) (a b : Low) → IsLater a b → Front all b.pieces b.entries → Front all a.pieces a.entries
fronts_go_back all a b h f = front_back all a.pieces b.pieces a.entries h.pieces.more b.entries h.pieces.is h.begins f
