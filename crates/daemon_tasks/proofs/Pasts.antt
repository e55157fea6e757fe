-- What a past says that grew, and one that a boot began.
use Rattle.std.proofs.Common.{◌≡◌, ℕ, ◌≤◌, ◌<◌, ◌+◌, Bool, true, false, ◌||◌, List, [], ◌∷◌, ◌++◌, reverse, refl, ap, sym, ◌∙◌, arith}
use Rattle.std.proofs.lemmas.List.{reverse-append}
use Rattle.std.specs.List.{list_any}
use Rattle.daemon_core.proofs.HouseLogKept.{boots-same}
use Rattle.daemon_core.proofs.LogLaws.{loaded-on}
use Rattle.script_runs.proofs.OwnMoments.{one-more}
use Rattle.shared_daemon.proofs.Others.{some-boots}
use Rattle.update_log.proofs.Lists.{by_test}
use Rattle.update_log.specs.declared.event.Event.{Event}
use Rattle.update_log.specs.Pasts.{AllFaults, boots, is_boot, meets_fault, off, past_of, puts_off}
use Rattle.daemon_core.specs.Keeping.{last_faulted}
use Rattle.client_plays.specs.Moments.{Grew}
use Rattle.shared_daemon.specs.declared.entry.Entry.{Entry}
use Rattle.shared_daemon.specs.Entries.{events, past_seen}
use Rattle.shared_daemon.specs.Names.{IsLogOf, Name}
use Rattle.shared_daemon.proofs.Logs.{events-append}

too-many : (a b c : ℕ) → b ≡ a + 1 → c ≤ a → b ≡ c → ⊥
too-many a b c e l s = omega arith

no-boots : (newer past : List Event) → boots (newer ++ past) ≡ boots past → list_any is_boot newer ≡ false
no-boots [] past h = refl
no-boots (event ∷ newer) past h =
    by_test (is_boot event) _
    (λ t. absurd (too-many (boots (newer ++ past)) (boots (event ∷ (newer ++ past))) (boots past) (one-more (newer ++ past) event t) (some-boots newer past) h))
    (λ f. rw f (no-boots newer past (sym (boots-same (newer ++ past) event f) ∙ h)))

-- A log of a name grew since the daemon began, in one boot.
pub log-grew : (name : Name) (log : List Entry) → IsLogOf name name.start → IsLogOf name log → Grew (past_seen name.start) (past_seen log)
log-grew name log s l =
    let more : List Event = reverse (events l.begins.0) in
    let turned : past_seen log ≡ more ++ past_seen name.start =
    ap (λ (x : List Entry). past_seen x) l.begins.1 ∙ ap past_of (events-append name.start l.begins.0) ∙ reverse-append (events name.start) (events l.begins.0) in
    record {
      more = more;
      are = turned;
      no_boot = no-boots more (past_seen name.start) (sym (ap boots turned) ∙ l.boots_are ∙ sym s.boots_are);
    }

-- And where none took them, the boot is off.
pub on-unread : (loaded : Bool) (past : List Event) → (loaded ≡ false → AllFaults past) → 0 < boots past → off past ≡ false → loaded ≡ false → ⊥
on-unread loaded past h b o u = let bad : true ≡ false = sym (loaded-on loaded past h b o) ∙ u in cc

-- A boot that isn't off read the history.
boot-met : (event : Event) → is_boot event ≡ true → puts_off event ≡ meets_fault event
boot-met (Event.Boot number time limit found boards) b = refl
boot-met _ b = cc

or-left : (a b : Bool) → (a || b) ≡ false → b ≡ false
or-left true b e = cc
or-left false b e = e

pub on-read : (past : List Event) → off past ≡ false → last_faulted past ≡ false
on-read [] o = refl
on-read (event ∷ past) o =
    by_test (is_boot event) _
    (λ t. rw t (sym (boot-met event t) ∙ rw t at o))
    (λ f. rw f (on-read past (or-left (puts_off event) (off past) (rw f at o))))
