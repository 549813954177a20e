-- The laws of blocks that are asked for templates.
use Rattle.piece_runs.specs.Reaches.{keeps_at}
use Rattle.lowered_forms.specs.Asked.{asked}
use Rattle.lowered_forms.specs.Lows.{with_entries}
use Rattle.c_straight_agree.specs.Laws.{TemplatesAnswer, ValuesArePlaced, RootsStore, OperandsWait, StepsJoin}
use Rattle.c_straight_agree.specs.Narrow.{CharsAreNarrow, ShortsAreNarrow}
use Rattle.c_straight_agree.proofs.lemmas.AskedTemplates.{template_answers}
use Rattle.c_straight_agree.proofs.lemmas.At.{at_of, standing_of, ready_still}
use Rattle.c_straight_agree.proofs.lemmas.Coming.{value_stays, joins}
use Rattle.c_straight_agree.proofs.lemmas.Placing.{placed_came, stored_came}

pub templates_answer : CharsAreNarrow → ShortsAreNarrow → TemplatesAnswer
templates_answer chars shorts s locals body start turns l le f map old values w k st t u within settled gives h =
    let keeps = keeps_at s.body l.pieces l.entries f in
    let a = template_answers chars shorts s locals body start turns l.pieces l.slots le keeps k map old t l.entries f values w (at_of s start turns l f map old values w k st) within settled u gives h in
    record { others = a.others; world = a.world; stands = standing_of s start turns (with_entries (asked t l.entries).entries l) h map old a.others a.world k keeps a.stands (ready_still s w a.world k a.near.arguments st.ready); near = a.near; has = a.has }

pub values_are_placed : CharsAreNarrow → ShortsAreNarrow → ValuesArePlaced
values_are_placed chars shorts s locals body start turns m le f map old values w k st u a within settled holds h =
    placed_came s locals body chars shorts start turns m le f map old values w k st u a within settled holds h

pub roots_store : CharsAreNarrow → ShortsAreNarrow → RootsStore
roots_store chars shorts s locals body start turns m le f map old values w k st u r store new left right settled_left settled_right storing a within has h =
    stored_came s locals body chars shorts start turns m le f map old values w k st u r store new left right settled_left settled_right storing a within has h

pub operands_wait : OperandsWait
operands_wait s map later grown values others w world alike n kept a v within h = value_stays s map later grown values others w world alike n kept a v within h

pub steps_join : StepsJoin
steps_join s start turns l m p h q a b map before values first v old k le grows one r two = joins s start turns l m p h q a b map before values first v old k le grows one r two
