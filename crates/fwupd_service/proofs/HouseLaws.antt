-- What is true of a house whose campaign was run.
use Rattle.std.proofs.Common.{◌≡◌, ◌⊎◌, ℕ, zero, suc, ◌≤◌, ◌+◌, Bool, true, false, List, [], ◌∷◌, map, Option, Some, refl, sym, ap, subst, ◌∙◌, inl, inr, arith}
use Rattle.std.specs.Prelude.{slice_get, ◌-◌, ◌^◌, MatchBool}
use Rattle.std.proofs.lemmas.List.{length-map}
use Rattle.emulated_boards.specs.Boards.{BoardState}
use Rattle.fw_facts.specs.declared.seen.Seen.{Seen}
use Rattle.history_keeper.specs.declared.change.Change.{Change}
use Rattle.history_keeper.specs.declared.row.Row.{Row}
use Rattle.history_keeper.specs.Histories.{IsHistory}
use Rattle.history_keeper.specs.Keepers.{StillTold}
use Rattle.history_keeper.specs.Signs.{KeeperSigns}
use Rattle.update_log.proofs.Lists.{by_test}
use Rattle.update_log.specs.declared.event.Event.{Event}
use Rattle.update_log.specs.declared.facts.BootPlan.{BootPlan}
use Rattle.update_log.specs.declared.facts.Facts.{Facts}
use Rattle.update_log.specs.Pasts.{AllFaults, boots, past_of}
use Rattle.update_log.specs.Known.{basis_of, doubt, rows}
use Rattle.update_log.specs.Laws.{AtMostOnce, HistoryStays, TakenOnce}
use Rattle.update_log.specs.Legal.{IsLegal}
use Rattle.update_log.specs.Once as once
use Rattle.update_log.specs.Once.{Fits}
use Rattle.update_log.specs.Shows.{campaign_on, Campaign}
use Rattle.daemon_core.specs.HouseLog.{IsHouseLog}
use Rattle.daemon_core.specs.Boards.{BoardIsHome, BoardStands, PlaceStands, journal_and_view}
use Rattle.daemon_core.specs.Boots.{NoBoot, ReadOthers}
use Rattle.daemon_core.specs.House.{IsHouse}
use Rattle.daemon_core.specs.Housed.{basis_in, HouseLogView, Housed, Place, past, rows_before, rows_taken}
use Rattle.daemon_core.specs.Keeping.{HasRows, KeepsSo, WasReopened, keeper_faults, last_faulted}
use Rattle.daemon_core.specs.Parts.{BoardsOf, IsBoardOf}
use Rattle.daemon_core.specs.Reading.{AreOthers, AreTold}
use Rattle.daemon_core.proofs.BootOpenings.{legal-over, place-over, said-over}
use Rattle.client_scripts.specs.declared.item.Item.{Item}
use Rattle.client_plays.specs.Scripts.{BootPlayed, EarlierPlayed, scripts_in}
use Rattle.client_plays.specs.Tools.{Means}
use Rattle.client_threads.specs.declared.ending.Ending.{Ending}
use Rattle.client_threads.specs.declared.ending.Ran.{Ran}
use Rattle.client_threads.specs.Promises.{PlayedBoots}
use Rattle.client_threads.specs.Runs.{CampaignRan, EndedSo, OpeningTold}
use Rattle.client_threads.proofs.FaultBoots.{faults-earlier, faults-played}
use Rattle.client_threads.proofs.LegalLaws.{legal-in}
use Rattle.fwupd_service.specs.Campaigns.{EndsAt, IsBadHistory, IsOpening, IsTrueLog, IsUnread, IsUntouched, KeeperStands, WasPlayed}

-- The rows that a boot took are the opening.
before-is : (a : HouseLogView) → a.loaded ≡ true → rows_before a ≡ a.opening
before-is a t = ap (λ (b : Bool). rows_taken b a.opening) t

-- What holds over the rows before the log holds over the opening, if it does so of boots that read nothing.
lift : (a : HouseLogView) (P : List Row → Type 0) → (a.loaded ≡ false → P a.opening) → P (rows_before a) → P a.opening
lift a P unread p = by_test a.loaded (P a.opening) (λ t. subst P (before-is a t) p) unread

-- The rows before the log, by what the keeper that came told.
opening-told : {K : Type 0} (told : K → List Row → Type 0) (came : List Row → Type 0) (h : Housed K) → (h.house_log.loaded ≡ false → AllFaults (past h)) → OpeningTold told came h → IsOpening came (told h.keeper) h.house_log.opening h.house_log.core.log
opening-told told came h none o =
    by_test h.house_log.loaded (IsOpening came (told h.keeper) opening h.house_log.core.log)
    (λ t. inl (subst O t o))
    (λ f. let s = subst O f o in untaken s.0 (none f) s.1)
  where
    opening : List Row
    opening = h.house_log.opening

    O : Bool → Type 0
    O b = MatchBool b (AreTold came (told h.keeper) opening) (StillTold came (told h.keeper) × ((opening ≡ []) ⊎ AreTold came (told h.keeper) opening))

    untaken : StillTold came (told h.keeper) → AllFaults (past h) → (opening ≡ []) ⊎ AreTold came (told h.keeper) opening → IsOpening came (told h.keeper) opening h.house_log.core.log
    untaken still all (inl e) = inr (e, still, all)
    untaken still all (inr a) = inl a

-- While no boot took them the keeper told before what it tells.
still-told : {K : Type 0} (told : K → List Row → Type 0) (came : List Row → Type 0) (h : Housed K) → h.house_log.loaded ≡ false → OpeningTold told came h → StillTold came (told h.keeper)
still-told told came h f o =
    let O = λ (b : Bool). MatchBool b (AreTold came (told h.keeper) h.house_log.opening) (StillTold came (told h.keeper) × ((h.house_log.opening ≡ []) ⊎ AreTold came (told h.keeper) h.house_log.opening)) in
    (subst O f o).0

-- The element of a list that was mapped.
record MapsTo {X Y : Type 0} (f : X → Y) (xs : List X) (n : ℕ) (y : Y) : Type 0 where
  x : X
  there : slice_get xs n ≡ Some x
  is : f x ≡ y

map-get : {X Y : Type 0} (f : X → Y) (xs : List X) (n : ℕ) (y : Y) → slice_get (map f xs) n ≡ Some y → MapsTo f xs n y
map-get f [] n y e = cc
map-get f (x ∷ xs) zero y e = record { x = x; there = refl; is = cc }
map-get f (x ∷ xs) (suc n) y e = let m = map-get f xs n y e in record { x = m.x; there = m.there; is = m.is }

module _ {K : Type 0} (signs : KeeperSigns K) (means : ℕ → Means) (ran : Ran) (plans : List BootPlan) (scripts : List (List (List Item))) (old h : Housed K)
    (r : CampaignRan signs ran.ending ran.wanting means plans scripts old h)
    (a : IsHouseLog h.house_log) (k : IsHouse signs h) where
  abbrev facts : Facts
  facts = h.house_log.facts

  abbrev first : List Seen
  first = h.house_log.first

  abbrev opening : List Row
  opening = h.house_log.opening

  abbrev c : Campaign
  c = campaign_on (basis_of facts opening) first plans

  all-faults : h.house_log.loaded ≡ false → AllFaults (past h)
  all-faults f = a.unloaded f

  legal-opening : IsLegal c (past h)
  legal-opening =
      lift h.house_log (λ (o : List Row). IsLegal (campaign_on (basis_of facts o) first plans) (past h))
      (λ f. legal-in (basis_of facts opening) first plans (past h) r.ran.planned (legal-over facts first (rows_before h.house_log) opening (past h) (all-faults f) a.legal))
      (legal-in (basis_of facts (rows_before h.house_log)) first plans (past h) r.ran.planned a.legal)

  history-opening : IsHistory opening ⊎ AllFaults (past h)
  history-opening =
      by_test h.house_log.loaded (IsHistory opening ⊎ AllFaults (past h))
      (λ t. inl (subst IsHistory (before-is h.house_log t) a.stands.history))
      (λ f. inr (all-faults f))

  -- ---- boards

  place-opening : (number : ℕ) (place : Place) → slice_get h.places number ≡ Some place → PlaceStands (basis_of facts opening) first (past h) number place
  place-opening number place e =
      lift h.house_log (λ (o : List Row). PlaceStands (basis_of facts o) first (past h) number place)
      (λ f. place-over facts first (rows_before h.house_log) opening (past h) number (said-over facts first (rows_before h.house_log) opening (past h) number (all-faults f)) place (k.places number place e))
      (k.places number place e)

  home-stands : (number : ℕ) (o : Option BoardState) (b : BoardState) → o ≡ Some b → BoardIsHome (basis_of facts opening) first (past h) number o → (tail : List _) × BoardStands (basis_of facts opening) first (past h) number b tail
  home-stands number o b e s = let t : BoardIsHome (basis_of facts opening) first (past h) number (Some b) = subst (BoardIsHome (basis_of facts opening) first (past h) number) e s in t.1

  board-stands : (boards : List BoardState) → BoardsOf h boards → (number : ℕ) (b : BoardState) → slice_get boards number ≡ Some b → (tail : List _) × BoardStands (basis_of facts opening) first (past h) number b tail
  board-stands boards of number b e =
      let i : IsBoardOf h number b = of.each number b e in
      home-stands number i.place.board b i.board_is (place-opening number i.place i.place_is).home

  fits-opening : (boards : List BoardState) → BoardsOf h boards → Fits c h.house_log.core.log (map journal_and_view boards)
  fits-opening boards of = record {
    count = rw length-map of.count;
    each = λ number s e.
        let m = map-get journal_and_view boards number s e in
        let stands = board-stands boards of number m.x m.there in
        (stands.0, subst (λ (v : once.JournalAndView). once.BoardFits (basis_of facts opening) first (past h) number v stands.0) m.is stands.1.fits);
  }

  true-log : AtMostOnce → TakenOnce → HistoryStays → (boards : List BoardState) → BoardsOf h boards → IsTrueLog c h.house_log.core.log boards
  true-log law_once law_taken law_stays boards of = record {
    legal = legal-opening;
    fits = fits-opening boards of;
    history = history-opening;
    once = λ valid. law_once c h.house_log.core.log (map journal_and_view boards) valid legal-opening (fits-opening boards of);
    taken = λ valid. law_taken c h.house_log.core.log valid legal-opening;
    stays = λ valid. law_stays c h.house_log.core.log valid legal-opening;
    board_faults = λ number b e. (board-stands boards of number b e).1.faults;
  }

  -- ---- the keeper

  -- where all boots were run and the last one read the history, it wasn't opened again since
  ended-unread : (ending : Ending) → EndedSo signs.tells ending plans r.count h → h.house_log.reopened ≡ true → IsUnread c h.house_log.core.log
  ended-unread Ending.Whole e o = by_test (last_faulted (past h)) _ (λ t. inl t) (λ f. let bad : true ≡ false = sym o ∙ e.1 f in cc)
  ended-unread (Ending.BadHistory entry) e o = inr (omega (arith, r.ran.count_is, e.0))
  ended-unread Ending.NoMemory e o = inr (omega (arith, r.ran.count_is, e))

  keeps-so : (b : Bool) (keeper : K) (all : List Row) (change : Option Change) → h.house_log.reopened ≡ b → KeepsSo b signs keeper all change → HasRows signs keeper all change ⊎ (IsUnread c h.house_log.core.log × WasReopened signs keeper all change)
  keeps-so true keeper all change o (inl k) = inl k
  keeps-so true keeper all change o (inr k) = inr (ended-unread ran.ending r.ended o, k)
  keeps-so false keeper all change o k = inl k

  keeps-opening : IsUntouched signs h.house_log.core.log old.keeper h.keeper ⊎ (HasRows signs h.keeper (rows (basis_of facts opening) (past h)) (doubt (basis_of facts opening) (past h))
      ⊎ (IsUnread c h.house_log.core.log × WasReopened signs h.keeper (rows (basis_of facts opening) (past h)) (doubt (basis_of facts opening) (past h))))
  keeps-opening =
      by_test h.house_log.loaded _
      (λ t.
      let o = before-is h.house_log t in
      let so = h.house_log.reopened in
      inr (keeps-so so h.keeper (rows (basis_of facts opening) (past h)) (doubt (basis_of facts opening) (past h)) refl
      (subst (λ (x : List Row). KeepsSo so signs h.keeper (rows (basis_of facts x) (past h)) (doubt (basis_of facts x) (past h))) o
      (subst (λ (x : List Row). KeepsSo so signs h.keeper x (doubt (basis_of facts (rows_before h.house_log)) (past h))) a.stands.rows
      (subst (λ (x : Option Change). KeepsSo so signs h.keeper h.house_log.core.rows x) a.stands.doubt (k.kept t))))))
      (λ f. inl (record { none = all-faults f; told_are = still-told signs.tells (signs.tells old.keeper) h f r.ran.opening; no_doubt = k.unloaded f }))

  -- the log was empty at first
  module _ (n : old.house_log.core.log ≡ []) where
    none-before : keeper_faults (past old) ≡ 0
    none-before = ap (λ (log : List Event). keeper_faults (past_of log)) n

    counted-from : (keeper_faults (past h) + signs.faults old.keeper ≤ keeper_faults (past old) + signs.faults h.keeper) ⊎ (2 ^ 64 - 1 ≤ signs.faults h.keeper) → (keeper_faults (past h) + signs.faults old.keeper ≤ signs.faults h.keeper) ⊎ (2 ^ 64 - 1 ≤ signs.faults h.keeper)
    counted-from (inl l) = let z = none-before in inl (omega (arith, z, l))
    counted-from (inr l) = inr l

    keeper-stands : KeeperStands signs c h.house_log.core.log old.keeper h.keeper
    keeper-stands = record {
      keeps = keeps-opening;
      opening_is = opening-told signs.tells (signs.tells old.keeper) h all-faults r.ran.opening;
      counted = counted-from r.ran.counted.counted;
      quiet = λ e. r.ran.counted.quiet (e ∙ sym none-before);
      counts = r.ran.counts;
    }

  -- ---- what was played

  played-opening : PlayedBoots ran.wanting c means scripts r.count h.house_log.core.log
  played-opening = record {
    boots_are = r.ran.count_is;
    played =
        let B = λ (o : List Row). BootPlayed ran.wanting (basis_of facts o) means (scripts_in scripts (boots (past h))) (past h) in (
          lift h.house_log B (λ f. faults-played ran.wanting (basis_of facts opening) means scripts (past h) (all-faults f))
              (subst (λ (n : ℕ). BootPlayed ran.wanting (basis_of facts (rows_before h.house_log)) means (scripts_in scripts n) (past h)) (sym r.ran.count_is) r.ran.played),
          lift h.house_log (λ (o : List Row). EarlierPlayed ran.wanting (basis_of facts o) means scripts (past h)) (λ f. faults-earlier ran.wanting (basis_of facts opening) means scripts (past h) (all-faults f)) r.ran.earlier,
        );
  }

  -- the rows and the change in doubt before the boot that read others
  others-opening : (entry : ℕ) (loaded : List Row) (mid : Housed K) → IsHouseLog mid.house_log → NoBoot signs.tells mid h → h.house_log.loaded ≡ true → h.house_log.opening ≡ mid.house_log.opening → AreOthers entry loaded mid.house_log.core.rows mid.house_log.core.doubt
      → AreOthers entry loaded (rows (basis_of facts opening) (past h)) (doubt (basis_of facts opening) (past h))
  others-opening entry loaded mid m n t o others =
      let before : rows_before mid.house_log ≡ opening = before-is mid.house_log (sym n.loaded ∙ t) ∙ sym o in
      let p : past mid ≡ past h = ap past_of (sym n.log) in
      let f : mid.house_log.facts ≡ facts = sym n.grounds.facts in
      let R = λ (x : Facts) (y : List Row) (z : List Event). AreOthers entry loaded (rows (basis_of x y) z) (doubt (basis_of x y) z) in
      subst (λ (x : Facts). R x opening (past h)) f
      (subst (λ (y : List Row). R mid.house_log.facts y (past h)) before
      (subst (λ (z : List Event). R mid.house_log.facts (rows_before mid.house_log) z) p
      (subst (λ (x : Option Change). AreOthers entry loaded (rows (basis_in mid.house_log) (past mid)) x) m.stands.doubt
      (subst (λ (x : List Row). AreOthers entry loaded x mid.house_log.core.doubt) m.stands.rows others))))

  bad-history : (entry : ℕ) (mid : Housed K) → IsHouseLog mid.house_log → ReadOthers signs.tells entry mid h → IsBadHistory signs.tells entry (basis_of facts opening) h.house_log.core.log h.keeper
  bad-history entry mid m o =
      by_test h.house_log.loaded _
      (λ t.
      let l = o.later (sym o.none.loaded ∙ t) in
      inr (subst IsHistory (before-is h.house_log t) a.stands.history, l.1, (l.2.0, others-opening entry l.2.0 mid m o.none t l.0 l.2.1)))
      (λ f. inl (all-faults f, (o.first (sym o.none.loaded ∙ f)).0))

  ends-so : (ending : Ending) → EndedSo signs.tells ending plans r.count h → EndsAt signs.tells ending c h.house_log.core.log h.keeper r.count
  ends-so Ending.Whole e = e.0
  ends-so (Ending.BadHistory entry) e = (e.0, bad-history entry e.1.0 e.1.1 e.1.2)
  ends-so Ending.NoMemory e = e

  played-here : AtMostOnce → TakenOnce → HistoryStays → old.house_log.core.log ≡ [] → (boards : List BoardState) → BoardsOf h boards
      → WasPlayed signs means ran c scripts h.house_log.core.log boards old.keeper h.keeper
  played-here law_once law_taken law_stays n boards of = record {
    true_log = true-log law_once law_taken law_stays boards of;
    keeper = keeper-stands n;
    count = r.count;
    played = played-opening;
    ends = ends-so ran.ending r.ended;
  }

  pub was-played : AtMostOnce → TakenOnce → HistoryStays → old.house_log.core.log ≡ [] → (boards : List BoardState) → BoardsOf h boards
      → WasPlayed signs means ran (campaign_on (basis_of old.house_log.facts opening) old.house_log.first plans) scripts h.house_log.core.log boards old.keeper h.keeper
  was-played law_once law_taken law_stays n boards of =
      let W = λ (x : Facts) (y : List Seen). WasPlayed signs means ran (campaign_on (basis_of x opening) y plans) scripts h.house_log.core.log boards old.keeper h.keeper in
      subst (λ (x : Facts). W x old.house_log.first) r.ran.facts
      (subst (λ (y : List Seen). W h.house_log.facts y) r.ran.first (played-here law_once law_taken law_stays n boards of))
