-- An entry that was taken behind the lock runs.
use Rattle.std.proofs.Common.{◌≡◌, ℕ, ◌<◌, ◌≤◌, ◌^◌, ◌-◌, Bool, false, nat_lt, List, ◌∷◌, refl, sym, subst, arith, length}
use Rattle.std.specs.Prelude.{Option, Some, None, min, option_and_then, position, slice_get}
use Rattle.std.specs.List.{position_or_len}
use borrow.Author.Tests.{ltb-true}
use Rattle.std.proofs.Math.Nat.{min-le_left}
use Rattle.std.specs.Str.{bytes_eq}
use Rattle.update_log.specs.declared.answer.ClaimAnswer.{ClaimAnswer}
use Rattle.update_log.specs.declared.event.Event.{Event}
use Rattle.update_log.specs.declared.facts.Facts.{Facts}
use Rattle.update_log.specs.declared.request.Request.{Request}
use Rattle.update_log.proofs.Lists.{by_test}
use Rattle.fw_facts.specs.declared.sheet.Sheet.{Sheet}
use Rattle.update_log.specs.Pasts.{boots, off}
use Rattle.daemon_core.specs.HouseLog.{IsLegalSo}
use Rattle.daemon_core.specs.Claims.{IsServedBy, IsTaken}
use Rattle.daemon_core.specs.Fetches.{note_of, whole_note}
use Rattle.daemon_core.specs.declared.claimed.Taken.{Taken}
use Rattle.daemon_core.specs.declared.fetched.Fetched.{Fetched}
use Rattle.install_engine.specs.Runs.{ClaimRuns, parts_taken}
use Rattle.install_engine.proofs.RunTaken.{TakesWith, claim-takes, taken-runs}
use Rattle.turn_lock.specs.Shown.{PassView}
use Rattle.shared_daemon.specs.declared.entry.Entry.{Entry}
use Rattle.shared_daemon.specs.Calls.{Adds, AddsOn, Took}
use Rattle.shared_daemon.specs.Entries.{past_seen}
use Rattle.daemon_core.specs.Planned.{HasPlan}
use Rattle.shared_daemon.specs.Names.{IsLogOf, Name}
use Rattle.shared_daemon.specs.Taking.{TookEntry}
use Rattle.claim_runs.specs.Known.{RunsSeen}
use Rattle.claim_runs.proofs.Kept.{past-added}

-- A claim or a resumption put this event behind the log, and the entry that it took is the client's live one.
taken-so : (name : Name) (client number : ℕ) (event : Event) (taken : Taken) (met log : List Entry) → IsLogOf name log → Adds client event met log → off (event ∷ past_seen met) ≡ false → TakesWith taken.entry taken.payload event
    → 0 < boots (event ∷ past_seen met) → IsTaken name.basis name.first (past_seen log) client taken number → HasPlan name.plans number taken.board → RunsSeen name client (parts_taken taken) None log
taken-so name client number event taken met log l a on w booted t p =
    let g : past_seen log ≡ event ∷ past_seen met = past-added client event met log a in
    let t' : IsTaken name.basis name.first (event ∷ past_seen met) client taken number = subst (λ (x : List Event). IsTaken name.basis name.first x client taken number) g t in
    let legal : IsLegalSo name.basis name.first (event ∷ past_seen met) = subst (λ (x : List Event). IsLegalSo name.basis name.first x) g l.legal in
    record {
      number = number;
      l = t'.l;
      runs = subst (λ (x : List Event). ClaimRuns name.basis name.first x client (parts_taken taken) number t'.l None) (sym g)
          (taken-runs name.basis name.first (past_seen met) event client taken number l.history legal on booted w t');
      planned = p;
    }

-- What a claim that was taken gave, runs.
pub claim-runs : {did : List Entry → List Entry → Type 0} (name : Name) (request : Request) (fetched : Fetched) (taken : Taken) (old new : PassView Entry) → IsLogOf name new.seen → new.number ≡ old.number → (t : Took name did old new)
    → AddsOn old.number (Event.Claim old.number request (note_of fetched) (ClaimAnswer.Entry taken.entry)) t.met new.seen → fetched ≡ Fetched.Whole taken.payload
    → TookEntry name old.number taken new.seen → RunsSeen name new.number (parts_taken taken) None new.seen
claim-runs name request fetched taken old new l same t a whole e =
    let event : Event = Event.Claim old.number request (whole_note taken.payload) (ClaimAnswer.Entry taken.entry) in
    let added : Adds old.number event t.met new.seen = subst (λ (f : Fetched). Adds old.number (Event.Claim old.number request (note_of f) (ClaimAnswer.Entry taken.entry)) t.met new.seen) whole a.1 in
    let g : past_seen new.seen ≡ event ∷ past_seen t.met = past-added old.number event t.met new.seen added in
    let legal : IsLegalSo name.basis name.first (event ∷ past_seen t.met) = subst (λ (x : List Event). IsLegalSo name.basis name.first x) g l.legal in
    subst (λ (n : ℕ). RunsSeen name n (parts_taken taken) None new.seen) (sym same)
    (taken-so name old.number e.number event taken t.met new.seen l added a.0 (claim-takes old.number taken.entry request taken.payload) (legal.1.1.booted refl) e.is e.planned)

-- The place that was found is one of the list.
place-found : {X : Type 0} (p : X → Bool) (xs : List X) (n : ℕ) → position p xs ≡ Some n → n < length xs
place-found p xs n h =
    by_test (nat_lt (position_or_len p xs) (length xs)) _
    (λ t. let h' : Some (position_or_len p xs) ≡ Some n = rw t at h in
    let e : position_or_len p xs ≡ n = cc in
    let low : position_or_len p xs < length xs = ltb-true (position_or_len p xs) (length xs) t in omega arith)
    (λ f. let bad : None ≡ Some n = rw f at h in cc)

-- Where there are as many plugins as the facts name, the one of an entry is among them.
pub served-within : (facts : Facts) (number plugin count : ℕ) → IsServedBy facts number plugin → length facts.vetoes ≤ count → plugin < count
served-within facts number plugin count s many =
    let low : s.place < length facts.vetoes = at (slice_get facts.sheets number) s.place_is in
    let is : plugin ≡ min s.place (2 ^ 32 - 1) = s.plugin_is in
    let less : min s.place (2 ^ 32 - 1) ≤ s.place = min-le_left s.place (2 ^ 32 - 1) in
    omega arith
  where
    at : (o : Option Sheet) → option_and_then (λ sheet. position (λ vetoes. bytes_eq vetoes.plugin sheet.plugin) facts.vetoes) o ≡ Some s.place → s.place < length facts.vetoes
    at None h = cc
    at (Some sheet) h = place-found (λ vetoes. bytes_eq vetoes.plugin sheet.plugin) facts.vetoes s.place h
