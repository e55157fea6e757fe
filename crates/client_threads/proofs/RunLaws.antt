-- One boot more.
use Rattle.std.proofs.Common.{◌≡◌, ℕ, ◌<◌, ◌≤◌, ◌+◌, Bool, true, false, ◌||◌, List, [], ◌∷◌, length, get_or, refl, ap, sym, ◌∙◌, subst, inl, inr, arith, add-one}
use Rattle.std.proofs.lemmas.List.Elements.{All-get_or}
use Rattle.std.proofs.lemmas.Option.{slice_get_cases, slice_get-get_or}
use Rattle.std.proofs.lemmas.Bool.{or_right, or_left}
use Rattle.std.specs.Prelude.{All, Some, slice_get, unwrap_or}
use Rattle.history_keeper.specs.declared.row.Row.{Row}
use Rattle.history_keeper.specs.Signs.{KeeperSigns}
use Rattle.update_log.proofs.Lists.{by_test}
use Rattle.update_log.specs.declared.event.Event.{Event}
use Rattle.update_log.specs.declared.facts.BootPlan.{BootPlan}
use Rattle.update_log.specs.declared.facts.Facts.{Facts}
use Rattle.update_log.specs.Pasts.{boots, is_boot, off}
use Rattle.update_log.specs.Known.{Basis, basis_of}
use Rattle.daemon_core.specs.Housed.{basis_in, Housed, past, rows_before}
use Rattle.daemon_core.specs.Keeping.{keeper_faults}
use Rattle.daemon_core.specs.Turns.{KeeperFared}
use Rattle.daemon_core.proofs.Fared.{fared-both, fared-here}
use Rattle.daemon_core.proofs.Planned.{keeps-both, keeps-here}
use Rattle.client_scripts.specs.declared.item.Item.{Item}
use Rattle.client_plays.specs.Moments.{began, mine}
use Rattle.client_plays.specs.Plays.{Plays, TaskPlays}
use Rattle.client_plays.specs.Scripts.{BootPlayed, EarlierPlayed, PlayedSo, items_of, scripts_in, tasks}
use Rattle.client_plays.specs.Endings.{HouseBootPlayed, IsCounted, IsIdle, ReadLast}
use Rattle.client_plays.specs.Tools.{Means}
use Rattle.client_plays.proofs.BootLaws.{so-told}
use Rattle.client_plays.proofs.MomentLaws.{grew-boots}
use Rattle.client_plays.proofs.RestLaws.{before-same, grew-faulted}
use Rattle.client_threads.specs.declared.ending.Ending.{Ending}
use Rattle.client_threads.specs.Planned.{BootsPlanned}
use Rattle.client_threads.specs.Runs.{CampaignRan, EndedSo, HasBegun, NoneBegan, RanSoFar, StoppedBy}
use Rattle.client_threads.proofs.OpeningLaws.{stays-same, told-new, told-stays}
use Rattle.client_threads.proofs.FaultBoots.{faults-earlier, faults-played}
use Rattle.client_threads.proofs.PlannedLaws.{earlier-grown, planned-grown}

-- A boot was played, after others; `before` says that memory was wanting before.
pub record BootMore {K : Type 0} (signs : KeeperSigns K) (wanting before : Bool) (means : ℕ → Means) (of_boot : List (List Item)) (old new : Housed K) : Type 0 where
  pub played : HouseBootPlayed signs wanting means of_boot old new
  pub told : before ≡ true → wanting ≡ true

-- What was played stays played where memory is told to be wanting.
played-told : (before now : Bool) (basis : Basis) (means : ℕ → Means) (of_boot : List (List Item)) (past : List Event) → (before ≡ true → now ≡ true) → BootPlayed before basis means of_boot past → BootPlayed now basis means of_boot past
played-told before now basis means of_boot past h p =
    record {
      daemon = so-told (off past) before now 0 (TaskPlays basis (means 0)) (tasks basis (began past)) (mine 0 past) h p.daemon;
      clients = λ client c. so-told (off past) before now client (Plays basis (means client) client) (items_of of_boot client) (mine client past) h (p.clients client c);
      order = p.order;
      idle = p.idle;
    }

earlier-told : (before now : Bool) (basis : Basis) (means : ℕ → Means) (scripts : List (List (List Item))) (past : List Event) → (before ≡ true → now ≡ true) → EarlierPlayed before basis means scripts past → EarlierPlayed now basis means scripts past
earlier-told before now basis means scripts [] h p = tt
earlier-told before now basis means scripts (event ∷ past) h p = (
  by_test (is_boot event) _
      (λ t. rw t (played-told before now basis means (scripts_in scripts (boots past)) past h (rw t at p.0)))
      (λ f. rw f tt),
  earlier-told before now basis means scripts past h p.1,
)

-- The boots before one that just began.
earlier-begun : {K : Type 0} (signs : KeeperSigns K) (wanting : Bool) (means : ℕ → Means) (plan : BootPlan) (scripts : List (List (List Item))) (count : ℕ) (mid begun : Housed K) → HasBegun signs plan mid begun → boots (past mid) ≡ count → BootPlayed wanting (basis_in mid.house_log) means (scripts_in scripts count) (past mid) → EarlierPlayed wanting (basis_in mid.house_log) means scripts (past mid) → EarlierPlayed wanting (basis_of mid.house_log.facts (rows_before begun.house_log)) means scripts (past begun)
earlier-begun signs wanting means plan scripts count mid begun b n p e =
    let facts = mid.house_log.facts in
    let P = λ (o : List Row). BootPlayed wanting (basis_of facts o) means (scripts_in scripts (boots (past mid))) (past mid) × EarlierPlayed wanting (basis_of facts o) means scripts (past mid) in
    let both : P (rows_before begun.house_log) =
    elim b.before [
      | inl same ↦ subst P (sym same) (subst (λ (k : ℕ). BootPlayed wanting (basis_of facts (rows_before mid.house_log)) means (scripts_in scripts k) (past mid)) (sym n) p, e)
      | inr a ↦ (faults-played wanting (basis_of facts (rows_before begun.house_log)) means scripts (past mid) a, faults-earlier wanting (basis_of facts (rows_before begun.house_log)) means scripts (past mid) a)
    ]
    in
    subst (EarlierPlayed wanting (basis_of facts (rows_before begun.house_log)) means scripts) (sym b.past_is) both

-- One boot more was started and played.
pub run-more : {K : Type 0} (signs : KeeperSigns K) (before now : Bool) (means : ℕ → Means) (plans : List BootPlan) (scripts : List (List (List Item))) (count : ℕ) (plan : BootPlan) (old mid begun new : Housed K) → slice_get plans count ≡ Some plan → RanSoFar signs before means plans scripts count old mid → HasBegun signs plan mid begun → BootMore signs now before means (scripts_in scripts (count + 1)) begun new → (begun.house_log.loaded ≡ false → new ≡ begun) → RanSoFar signs now means plans scripts (count + 1) old new
run-more {K = K} signs before now means plans scripts count plan old mid begun new at r b m unread =
    let g = m.played.grew in
    let facts : new.house_log.facts ≡ mid.house_log.facts = m.played.rest.same.facts ∙ b.facts in
    let rows : rows_before new.house_log ≡ rows_before begun.house_log = before-same begun.house_log new.house_log m.played.rest.same in
    let n : boots (past begun) ≡ count + 1 = ap boots b.past_is ∙ ap (λ (k : ℕ). k + 1) r.count_is in
    let planned : BootsPlanned plans (past begun) =
    subst (BootsPlanned plans) (sym b.past_is) ((plan, subst (λ (k : ℕ). slice_get plans k ≡ Some plan) (sym r.count_is) at, b.planned), r.planned) in
    let earlier = earlier-begun signs before means plan scripts count mid begun b r.count_is (midfacts r.played) r.earlier in
    let grown = earlier-grown before (basis_of mid.house_log.facts (rows_before begun.house_log)) means scripts (past begun) (past new) g earlier in
    let E = λ (f : Facts) (o : List Row). EarlierPlayed now (basis_of f o) means scripts (past new) in
    let B = λ (f : Facts) (o : List Row). BootPlayed now (basis_of f o) means (scripts_in scripts (count + 1)) (past new) in
    record {
      facts = facts ∙ r.facts;
      first = m.played.rest.same.first ∙ b.first ∙ r.first;
      count_is = grew-boots (past begun) (past new) g ∙ n;
      planned = planned-grown plans (past begun) (past new) g planned;
      played = subst (λ (f : Facts). B f (rows_before new.house_log)) (sym m.played.rest.same.facts) (subst (λ (o : List Row). B begun.house_log.facts o) (sym rows) m.played.played);
      earlier = subst (λ (f : Facts). E f (rows_before new.house_log)) (sym facts) (subst (λ (o : List Row). E mid.house_log.facts o) (sym rows)
          (earlier-told before now (basis_of mid.house_log.facts (rows_before begun.house_log)) means scripts (past new) m.told grown));
      idle = m.played.rest.idle;
      counted = fared-both signs old mid new r.counted (fared-both signs mid begun new b.counted m.played.rest.counted m.played.rest.counts) (le-both _ _ _ b.counts m.played.rest.counts);
      counts = le-both _ _ _ r.counts (le-both _ _ _ b.counts m.played.rest.counts);
      board_plans = keeps-both old.places mid.places new.places r.board_plans (keeps-both mid.places begun.places new.places b.board_plans m.played.rest.plans);
      opening = told-stays begun.house_log.loaded new.house_log.loaded (signs.tells begun.keeper) (signs.tells new.keeper) (signs.tells old.keeper) begun.house_log.opening new.house_log.opening m.played.rest.counted.told
          (stays-same begun.house_log.loaded new.house_log.loaded (signs.tells begun.keeper) (signs.tells new.keeper) begun.house_log.opening new.house_log.opening m.played.rest.same.loaded
          (λ u all t. subst (λ (h : Housed K). signs.tells h.keeper all) (unread u) t) m.played.rest.same.opening)
          (told-stays mid.house_log.loaded begun.house_log.loaded (signs.tells mid.keeper) (signs.tells begun.keeper) (signs.tells old.keeper) mid.house_log.opening begun.house_log.opening b.counted.told b.opening r.opening);
    }
  where
    midfacts : BootPlayed before (basis_in mid.house_log) means (scripts_in scripts count) (past mid) → BootPlayed before (basis_in mid.house_log) means (scripts_in scripts count) (past mid)
    midfacts p = p

    le-both : (a b c : ℕ) → a ≤ b → b ≤ c → a ≤ c
    le-both a b c x y = omega arith

-- No boot was begun.
pub run-stopped : {K : Type 0} (signs : KeeperSigns K) (wanting : Bool) (means : ℕ → Means) (plans : List BootPlan) (scripts : List (List (List Item))) (count : ℕ) (old mid new : Housed K) → RanSoFar signs wanting means plans scripts count old mid → NoneBegan signs mid new → RanSoFar signs wanting means plans scripts count old new
run-stopped signs wanting means plans scripts count old mid new r n =
    let B = λ (f : Facts) (o : List Row) (p : List Event). BootPlayed wanting (basis_of f o) means (scripts_in scripts count) p in
    let E = λ (f : Facts) (o : List Row) (p : List Event). EarlierPlayed wanting (basis_of f o) means scripts p in
    record {
      facts = n.facts ∙ r.facts;
      first = n.first ∙ r.first;
      count_is = ap boots n.past_is ∙ r.count_is;
      planned = subst (BootsPlanned plans) (sym n.past_is) r.planned;
      played = subst (λ (f : Facts). B f (rows_before new.house_log) (past new)) (sym n.facts)
          (subst (λ (o : List Row). B mid.house_log.facts o (past new)) (sym n.before) (subst (λ (p : List Event). B mid.house_log.facts (rows_before mid.house_log) p) (sym n.past_is) r.played));
      earlier = subst (λ (f : Facts). E f (rows_before new.house_log) (past new)) (sym n.facts)
          (subst (λ (o : List Row). E mid.house_log.facts o (past new)) (sym n.before) (subst (λ (p : List Event). E mid.house_log.facts (rows_before mid.house_log) p) (sym n.past_is) r.earlier));
      idle = subst IsIdle (sym n.past_is) r.idle;
      counted = fared-both signs old mid new r.counted n.counted n.counts;
      counts = omega arith;
      board_plans = keeps-both old.places mid.places new.places r.board_plans n.board_plans;
      opening = told-stays mid.house_log.loaded new.house_log.loaded (signs.tells mid.keeper) (signs.tells new.keeper) (signs.tells old.keeper) mid.house_log.opening new.house_log.opening n.counted.told n.opening r.opening;
    }

-- Nothing was run yet.
pub run-none : {K : Type 0} (signs : KeeperSigns K) (wanting : Bool) (means : ℕ → Means) (plans : List BootPlan) (scripts : List (List (List Item))) (h : Housed K) → past h ≡ [] → h.house_log.loaded ≡ false → h.house_log.opening ≡ [] → RanSoFar signs wanting means plans scripts 0 h h
run-none signs wanting means plans scripts h e unread blank =
    record {
      facts = refl;
      first = refl;
      count_is = ap boots e;
      planned = subst (BootsPlanned plans) (sym e) tt;
      played = subst (λ (p : List Event). BootPlayed wanting (basis_in h.house_log) means (scripts_in scripts 0) p) (sym e) (faults-played wanting (basis_in h.house_log) means scripts [] tt);
      earlier = subst (EarlierPlayed wanting (basis_in h.house_log) means scripts) (sym e) tt;
      idle = subst IsIdle (sym e) (record { no_hold = refl; no_live = refl });
      counted = fared-here signs h;
      counts = omega arith;
      board_plans = keeps-here h.places;
      opening = told-new h.house_log.loaded (signs.tells h.keeper) h.house_log.opening unread blank;
    }

pub run-read : {K : Type 0} (signs : KeeperSigns K) (now before : Bool) (means : ℕ → Means) (of_boot : List (List Item)) (plan : BootPlan) (mid begun new : Housed K) → HasBegun signs plan mid begun → BootMore signs now before means of_boot begun new → ReadLast new
run-read signs now before means of_boot plan mid begun new b m f =
    m.played.rest.same.reopened ∙ b.read (sym (grew-faulted (past begun) (past new) m.played.grew) ∙ f)

pub boot-either : {K : Type 0} (signs : KeeperSigns K) (told before now : Bool) (means : ℕ → Means) (of_boot : List (List Item)) (old new : Housed K) → told ≡ (before || now) → HouseBootPlayed signs now means of_boot old new → BootMore signs told before means of_boot old new
boot-either signs told before now means of_boot old new e h =
    record {
      played = record {
        played = played-told now told (basis_in old.house_log) means of_boot (past new) (λ n. e ∙ or_right before now n) h.played;
        grew = h.grew;
        rest = h.rest;
      };
      told = λ b. e ∙ or_left before now b;
    }

-- Each client has the same means in each boot.
boot-means : (wanting : Bool) (basis : Basis) (now means : ℕ → Means) (of_boot : List (List Item)) (past : List Event) → ((client : ℕ) → now client ≡ means client) → BootPlayed wanting basis now of_boot past → BootPlayed wanting basis means of_boot past
boot-means wanting basis now means of_boot past e p =
    record {
      daemon = subst (λ (f : Means). PlayedSo (off past) wanting 0 (TaskPlays basis f) (tasks basis (began past)) (mine 0 past)) (e 0) p.daemon;
      clients = λ client c. subst (λ (f : Means). PlayedSo (off past) wanting client (Plays basis f client) (items_of of_boot client) (mine client past)) (e client) (p.clients client c);
      order = p.order;
      idle = p.idle;
    }

pub same-means : {K : Type 0} (signs : KeeperSigns K) (wanting before : Bool) (now means : ℕ → Means) (of_boot : List (List Item)) (old new : Housed K) → ((client : ℕ) → now client ≡ means client) → BootMore signs wanting before now of_boot old new → BootMore signs wanting before means of_boot old new
same-means signs wanting before now means of_boot old new e m =
    record {
      played = record {
        played = boot-means wanting (basis_in old.house_log) now means of_boot (past new) e m.played.played;
        grew = m.played.grew;
        rest = m.played.rest;
      };
      told = m.told;
    }

-- The log was empty at first, so the keeper counted each fault that it tells.
pub begun-counted : {K : Type 0} (signs : KeeperSigns K) (old mid new : Housed K) → past old ≡ [] → KeeperFared signs old mid → KeeperFared signs mid new → signs.faults mid.keeper ≤ signs.faults new.keeper → IsCounted signs new
begun-counted signs old mid new e a b c =
    let none : keeper_faults (past old) ≡ 0 = ap keeper_faults e in
    elim (fared-both signs old mid new a b c).counted [ inl x ↦ inl (omega arith) | inr x ↦ inr x ]

-- What holds of every boot's scripts holds of those of one, and of none.
pub scripts-all : (P : List (List Item) → Type 0) (scripts : List (List (List Item))) (n : ℕ) → All P scripts → P [] → P (scripts_in scripts (n + 1))
scripts-all P scripts n a none = rw add-one (at-place P scripts n a none)
  where
    at-place : (P : List (List Item) → Type 0) (scripts : List (List (List Item))) (n : ℕ) → All P scripts → P [] → P (unwrap_or (slice_get scripts n) [])
    at-place P scripts n a none =
        elim (slice_get_cases scripts n).1 [
          | inl h ↦ rw h.2 (subst P h.3 (All-get_or P scripts n h.0 h.1 a))
          | inr h ↦ rw h.1 none
        ]

-- The campaign ended before all boots were run.
stopped-so : {K : Type 0} (told : K → List Row → Type 0) (ending : Ending) (plans : List BootPlan) (count : ℕ) (mid new : Housed K) → count < length plans → StoppedBy told ending mid new → EndedSo told ending plans count new
stopped-so told Ending.Whole plans count mid new lt s = absurd s
stopped-so told (Ending.BadHistory entry) plans count mid new lt s = (lt, (mid, s.0, s.1))
stopped-so told Ending.NoMemory plans count mid new lt s = lt

pub ran-stopped : {K : Type 0} (signs : KeeperSigns K) (ending : Ending) (wanting : Bool) (means : ℕ → Means) (plans : List BootPlan) (scripts : List (List (List Item))) (count : ℕ) (old mid new : Housed K) → count < length plans → RanSoFar signs wanting means plans scripts count old mid → NoneBegan signs mid new → StoppedBy signs.tells ending mid new → CampaignRan signs ending wanting means plans scripts old new
ran-stopped signs ending wanting means plans scripts count old mid new lt r n s =
    record { count = count; ran = run-stopped signs wanting means plans scripts count old mid new r n; ended = stopped-so signs.tells ending plans count mid new lt s }

-- The plan of a boot.
pub plan-at : (plans : List BootPlan) (n : ℕ) (plan : BootPlan) → plan ≡ get_or plans n plan → n < length plans → slice_get plans n ≡ Some plan
plan-at plans n plan e lt = slice_get-get_or plans n plan lt ∙ ap (λ (p : BootPlan). Some p) (sym e)
