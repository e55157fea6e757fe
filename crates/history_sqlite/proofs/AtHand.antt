-- Rows that were read are those that the select shows of the database as it is since then.
use Rattle.std.proofs.Common.{◌≡◌, Ok, List, [], IsTrue, refl, sym, subst}
use Rattle.sqlite.specs.Clock.{timed}
use Rattle.sqlite.specs.Effect.{Database}
use Rattle.sqlite.specs.Listing.{IsSourceOf, reads_listing, understood}
use Rattle.sqlite.specs.Order.{Row as Values}
use Rattle.sqlite.specs.State.{Shown, ShowsRows, State}
use Rattle.sqlite.proofs.StateLemmas.{unchanged}
use Rattle.history_keeper.specs.declared.row.Row.{Row}
use Rattle.history_sqlite.specs.Causes.{IsRead, select_text}
use Rattle.history_sqlite.specs.Tables.{Loads}
use Rattle.history_sqlite.proofs.InTurn.{loads_read, select_shows}

still_shown : (old new : State) (shown : List Values) → Shown select_text [] old new shown → Shown select_text [] new new shown
unfolding Shown
still_shown old new shown h =
    let none = select_shows old.now.schema h.0 h.1.is in
    let full = timed [] h.0.formats h.1.now in
    let it = subst (ShowsRows old new select_text h.0 full shown) none h.2 in
    let same = it.3.0.now_is in (
      h.0,
      record { is = subst (λ (d : Database). understood d.schema select_text ≡ Ok h.0) (sym same) h.1.is; whole = h.1.whole; given = h.1.given; now = h.1.now },
      subst (ShowsRows new new select_text h.0 full shown) (sym none) (
        it.0,
        subst (λ (d : Database). IsSourceOf (reads_listing d.schema select_text) d it.0) (sym same) it.1,
        it.2,
        unchanged new it.3.0.is_open,
      ),
    )

pub still_read : (old new : State) (rows : List Row) → IsRead old new rows → IsRead new new rows
still_read old new rows h = (h.0, still_shown old new h.0 h.1, h.2)

-- the rows at hand are those of the table
pub loads_at_hand : (s : State) (loaded : List Row) → IsRead s s loaded → Loads s s loaded
loads_at_hand s loaded h = loads_read s s loaded refl h
