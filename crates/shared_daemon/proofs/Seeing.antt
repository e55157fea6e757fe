-- What a house, a pass and a turn of one name know of each other.
use Rattle.std.proofs.Common.{◌≡◌, ℕ, ◌<◌, Bool, List, [], ◌++◌, map, ap, sym, ◌∙◌, subst, arith}
use Rattle.fw_facts.specs.declared.seen.Seen.{Seen}
use Rattle.history_keeper.specs.declared.row.Row.{Row}
use Rattle.history_keeper.specs.Histories.{IsHistory}
use Rattle.history_keeper.specs.Signs.{KeeperSigns}
use Rattle.update_log.specs.declared.event.Event.{Event}
use Rattle.update_log.specs.declared.facts.Facts.{Facts}
use Rattle.update_log.specs.Pasts.{boots, past_of}
use Rattle.update_log.specs.Known.{Basis, basis_of}
use Rattle.daemon_core.specs.HouseLog.{IsHouseLog, IsLegalSo}
use Rattle.daemon_core.specs.Housed.{basis_in, Housed, past, rows_before, rows_taken}
use Rattle.turn_lock.specs.Lists.{BeginsWith, beyond, made_by}
use Rattle.shared_daemon.specs.declared.entry.Entry.{Entry}
use Rattle.shared_daemon.specs.Calls.{Meets}
use Rattle.shared_daemon.specs.Entries.{AllMade, chronicle, events, maker_of, past_seen}
use Rattle.shared_daemon.specs.Names.{IsLogOf, KeepsName, Name}
use Rattle.shared_daemon.specs.Others.{Others}
use Rattle.shared_daemon.proofs.Others.{Stays, others-stay}
use Rattle.shared_daemon.proofs.Logs.{all-made, append-none, begins-all, beyond-longer, events-append, made-back, made_by-append, makers-made, none-others, past-entries}

module _ {K : Type 0} (signs : KeeperSigns K) (name : Name) (h : Housed K) where
  -- The rows before the log are those of the name.
  pub before-named : KeepsName signs name h → rows_before h.house_log ≡ name.basis.opening
  before-named n = ap (λ (b : Bool). rows_taken b h.house_log.opening) n.loaded ∙ n.opening_is

  pub booted-named : KeepsName signs name h → 0 < boots (past h)
  booted-named n = let e = n.boots_are in let b = n.booted in omega (arith, e, b)

  -- What it stands on is what the name's log stands on.
  basis-named : KeepsName signs name h → basis_in h.house_log ≡ name.basis
  basis-named n =
      ap (λ (f : Facts). basis_of f (rows_before h.house_log)) n.facts_are ∙ ap (λ (o : List Row). basis_of name.basis.facts o) (before-named n)

  -- What is said of a house's log may be said of its name's, and the other way round.
  pub to-name : KeepsName signs name h → IsHouseLog h.house_log → (P : Basis → List Seen → List Event → Type 0) → P (basis_in h.house_log) h.house_log.first (past h) → P name.basis name.first (past_seen (chronicle h))
  to-name n k P p =
      subst (λ (es : List Event). P name.basis name.first es) (sym (past-entries h.house_log k))
      (subst (λ (s : List Seen). P name.basis s (past h)) n.first_are
      (subst (λ (g : Basis). P g h.house_log.first (past h)) (basis-named n) p))

  pub from-name : KeepsName signs name h → IsHouseLog h.house_log → (P : Basis → List Seen → List Event → Type 0) → P name.basis name.first (past_seen (chronicle h)) → P (basis_in h.house_log) h.house_log.first (past h)
  from-name n k P p =
      subst (λ (g : Basis). P g h.house_log.first (past h)) (sym (basis-named n))
      (subst (λ (s : List Seen). P name.basis s (past h)) (sym n.first_are)
      (subst (λ (es : List Event). P name.basis name.first es) (past-entries h.house_log k) p))

  pub history-named : KeepsName signs name h → IsHouseLog h.house_log → IsHistory name.basis.opening
  history-named n k = subst IsHistory (before-named n) k.stands.history

  -- Its log is one of the name, if it begins with the name's.
  pub log-named : KeepsName signs name h → IsHouseLog h.house_log → BeginsWith (chronicle h) name.start → IsLogOf name (chronicle h)
  log-named n k b =
      record {
        history = history-named n k;
        begins = b;
        legal = to-name n k IsLegalSo k.legal;
        made = all-made h.house_log.core.log h.house_log.makers k.makers;
        boots_are = ap boots (past-entries h.house_log k) ∙ n.boots_are;
      }

-- What a pass saw begins what its turn meets, and others alone made the rest.
pub others-since : (name : Name) (client : ℕ) (seen met : List Entry) → IsLogOf name seen → BeginsWith met seen → made_by maker_of client (beyond name.start seen) ≡ made_by maker_of client (beyond name.start met) → made_by maker_of client (beyond seen met) ≡ []
others-since name client seen met l b e =
    let more : List Entry = beyond seen met in
    let whole : met ≡ seen ++ more = begins-all met seen b in
    let longer : beyond name.start met ≡ beyond name.start seen ++ more = beyond-longer met seen name.start l.begins whole in
    append-none (made_by maker_of client (beyond name.start seen)) (made_by maker_of client more)
    (sym (made_by-append client (beyond name.start seen) more) ∙ ap (λ (x : List Entry). made_by maker_of client x) (sym longer) ∙ sym e)

-- So what it saw stays.
pub stays : (name : Name) (client : ℕ) (seen met : List Entry) → IsLogOf name seen → Meets name client seen met → Stays name.basis name.first client (past_seen seen) (past_seen met)
stays name client seen met l m =
    let more : List Entry = beyond seen met in
    let whole : met ≡ seen ++ more = begins-all met seen m.begins in
    let es : events met ≡ events seen ++ events more = ap events whole ∙ events-append seen more in
    let o : Others name.basis name.first client (events seen) (events more) =
    record {
      history = l.history;
      after = subst (λ (x : List Event). IsLegalSo name.basis name.first (past_of x)) es m.log.legal;
      booted = ap (λ (x : List Event). boots (past_of x)) (sym es) ∙ m.log.boots_are ∙ sym l.boots_are;
      makers = map maker_of more;
      made = makers-made more (made-back seen more (subst AllMade whole m.log.made));
      others = none-others client more m.others;
    } in
    subst (λ (x : List Event). Stays name.basis name.first client (past_seen seen) (past_of x)) (sym es)
    (others-stay name.basis name.first client (events seen) (events more) o)
