-- A boot: the daemon's tasks, and then the clients.
use Rattle.std.proofs.Common.{◌≡◌, ◌≢◌, ℕ, ◌<◌, Bool, true, false, ◌||◌, List, [], ◌++◌, ap, sym, ◌∙◌, subst, arith}
use Rattle.std.proofs.lemmas.Bool.{or_right, or_left}
use Rattle.history_keeper.specs.declared.row.Row.{Row}
use Rattle.history_keeper.specs.Signs.{KeeperSigns}
use Rattle.update_log.specs.declared.event.Event.{Event}
use Rattle.update_log.specs.declared.facts.Facts.{Facts}
use Rattle.update_log.specs.Legal.{IsLegal}
use Rattle.update_log.specs.Pasts.{boots, off}
use Rattle.update_log.specs.Shows.{Campaign}
use Rattle.update_log.specs.Known.{basis_of}
use Rattle.daemon_core.specs.HouseLog.{SameFacts}
use Rattle.daemon_core.specs.Housed.{basis_in, Housed, past, rows_before}
use Rattle.client_scripts.specs.declared.item.Item.{Item}
use Rattle.client_plays.specs.Endings.{HouseBootPlayed, HouseWent, IsCounted, IsFresh, IsIdle, ReadLast}
use Rattle.client_plays.specs.Moments.{Moment, NoClients, began, mine}
use Rattle.client_plays.specs.Plays.{Plays, Task, TaskPlays}
use Rattle.client_plays.specs.Scripts.{PlayedSo, items_of, tasks}
use Rattle.client_plays.specs.Tools.{Means}
use Rattle.client_plays.specs.Idle.{EndsIdle}
use Rattle.client_plays.proofs.IdleLaws.{ends-idle, fresh-idle}
use Rattle.client_plays.proofs.MomentLaws.{grew-began, grew-boots, grew-both, grew-nothing, grew-off, mine-boot}
use Rattle.client_plays.proofs.OrderLaws.{daemon-first, first-nothing, first-stays}
use Rattle.client_plays.proofs.PlayLaws.{task-unplayed}
use Rattle.client_plays.proofs.RestLaws.{before-same, rest-both, rest-here, so-left}
use Rattle.client_plays.proofs.ScriptLaws.{until-nothing}
use Rattle.daemon_tasks.proofs.Closing.{rest-counted, rest-read}
use Rattle.client_threads.specs.Clients.{ClientsPlayed}
use Rattle.daemon_tasks.proofs.JudgeLoops.{still-played}
use Rattle.client_threads.proofs.Plays.{left-off}

-- Nobody did anything in a boot that has just begun.
fresh-mine : (past : List Event) (client : ℕ) → IsFresh past → mine client past ≡ []
fresh-mine past client f = ap (mine client) f.are ∙ mine-boot client f.before f.boot f.is

not-first : (client : ℕ) → 0 < client → client ≢ 0
not-first client h e = omega arith

-- Nothing was done in a boot that was off from the first.
pub boot-off : {K : Type 0} (signs : KeeperSigns K) (means : ℕ → Means) (of_boot : List (List Item)) (h : Housed K) → IsIdle (past h) → IsFresh (past h) → off (past h) ≡ true → HouseBootPlayed signs false means of_boot h h
boot-off signs means of_boot h i f o =
    let facts = h.house_log.facts in
    let opening = rows_before h.house_log in
    let all : List Task = tasks (basis_of facts opening) (began (past h)) in
    record {
      played = record {
        daemon = subst (λ (m : List Moment). PlayedSo (off (past h)) false 0 (TaskPlays (basis_of facts opening) (means 0)) all m) (sym (fresh-mine (past h) 0 f))
            (so-left (off (past h)) false 0 (TaskPlays (basis_of facts opening) (means 0)) all [] o (until-nothing false 0 (TaskPlays (basis_of facts opening) (means 0)) all (task-unplayed (basis_of facts opening) (means 0) 0)));
        clients = λ client c. left-off (basis_of facts opening) (means client) client (items_of of_boot client) (mine client (past h)) (off (past h)) false o (fresh-mine (past h) client f);
        order = first-nothing (past h) (fresh-mine (past h) 0 f);
        idle = subst EndsIdle (sym f.are) (fresh-idle f.boot f.before f.is);
      };
      grew = grew-nothing (past h);
      rest = rest-here signs h i;
    }

module _ {K : Type 0} (signs : KeeperSigns K) (now : Bool) (means : Means) (old mid : Housed K) (h : HouseWent signs now 0 (TaskPlays (basis_in old.house_log) means) (tasks (basis_in old.house_log) (began (past old))) old mid) where
  -- After the tasks.
  pub no-clients_yet : IsFresh (past old) → NoClients (past mid)
  no-clients_yet f client c = h.went.did.others client (not-first client c) ∙ fresh-mine (past old) client f

  pub still-counted : IsCounted signs old → IsCounted signs mid
  still-counted c = rest-counted signs old mid h.rest c

  pub still-booted : 0 < boots (past old) → 0 < boots (past mid)
  still-booted b = subst (λ (n : ℕ). 0 < n) (sym (grew-boots (past old) (past mid) h.went.did.grew)) b

  pub still-read : ReadLast old → ReadLast mid
  still-read r = rest-read signs old mid h.went.did.grew h.rest r

  -- After the clients.
  module _ (wanting : Bool) (told then : ℕ → Means) (of_boot : List (List Item)) (new : Housed K) (f : IsFresh (past old)) (first : told 0 ≡ means) (same : (client : ℕ) → then client ≡ told client) (p : ClientsPlayed signs wanting then of_boot mid new) where
    stays : off (past mid) ≡ true → off (past new) ≡ true
    stays = grew-off (past mid) (past new) p.grew

    tasks-played : PlayedSo (off (past new)) (now || wanting) 0 (TaskPlays (basis_in old.house_log) (told 0)) (tasks (basis_in old.house_log) (began (past new))) (mine 0 (past new))
    tasks-played =
        let boot : began (past new) ≡ began (past old) = grew-began (past mid) (past new) p.grew ∙ grew-began (past old) (past mid) h.went.did.grew in
        let own : mine 0 (past new) ≡ h.went.moments = p.daemon ∙ h.went.did.own ∙ ap (λ (m : List Moment). m ++ h.went.moments) (fresh-mine (past old) 0 f) in
        let T : Means → List Event → List Moment → Type 0 = λ fs b m. PlayedSo (off (past new)) (now || wanting) 0 (TaskPlays (basis_in old.house_log) fs) (tasks (basis_in old.house_log) b) m in
        subst (λ (fs : Means). T fs (began (past new)) (mine 0 (past new))) (sym first)
        (subst (λ (b : List Event). T means b (mine 0 (past new))) (sym boot)
        (subst (λ (m : List Moment). T means (began (past old)) m) (sym own)
        (still-played 0 (TaskPlays (basis_in old.house_log) means) (tasks (basis_in old.house_log) (began (past old))) h.went.moments (off (past mid)) (off (past new)) now (now || wanting) stays (or_left now wanting) h.went.plays)))

    scripts-played : (client : ℕ) → 0 < client → PlayedSo (off (past new)) (now || wanting) client (Plays (basis_in old.house_log) (told client) client) (items_of of_boot client) (mine client (past new))
    scripts-played client c =
        let s : SameFacts old.house_log mid.house_log = h.rest.same in
        let P : Facts → List Row → Means → Type 0 = λ fs o x. PlayedSo (off (past new)) wanting client (Plays (basis_of fs o) x client) (items_of of_boot client) (mine client (past new)) in
        still-played client (Plays (basis_in old.house_log) (told client) client) (items_of of_boot client) (mine client (past new)) (off (past new)) (off (past new)) wanting (now || wanting) (λ o. o) (or_right now wanting)
        (subst (λ (x : Means). P old.house_log.facts (rows_before old.house_log) x) (same client)
        (subst (λ (o : List Row). P old.house_log.facts o (then client)) (before-same old.house_log mid.house_log s)
        (subst (λ (fs : Facts). P fs (rows_before mid.house_log) (then client)) s.facts (p.clients client c))))

    pub boot-played : (c : Campaign) → IsLegal c (past new) → HouseBootPlayed signs (now || wanting) told of_boot old new
    boot-played c legal =
        record {
          played = record {
            daemon = tasks-played;
            clients = scripts-played;
            order = first-stays (past mid) (past new) p.daemon (daemon-first (past mid) (no-clients_yet f));
            idle = ends-idle c (past new) legal p.rest.idle;
          };
          grew = grew-both (past old) (past mid) (past new) h.went.did.grew p.grew;
          rest = rest-both signs old mid new h.rest p.rest;
        }
