-- A claim as its entry is taken.
use Rattle.std.proofs.Common.{◌≡◌, ℕ, ◌<◌, Bool, true, false, List, [], ◌∷◌, refl, ap, sym, ◌∙◌, subst}
use Rattle.std.proofs.lemmas.Bool.{eqb-true}
use Rattle.std.proofs.lemmas.Option.{same_Some}
use Rattle.std.specs.Prelude.{Option, Some, None, ◌&&◌, ◌==◌, option_map, unwrap_or}
use Rattle.std.specs.List.{AllByRecursion}
use Rattle.std.specs.Str.{bytes_eq}
use Rattle.fw_facts.specs.declared.seen.Seen.{Seen}
use Rattle.block_pool.specs.Views.{SealedBytes}
use Rattle.history_keeper.specs.Histories.{IsHistory}
use Rattle.history_keeper.specs.declared.row.Row.{Row}
use Rattle.update_log.proofs.LegalOnce.{row-found}
use Rattle.update_log.proofs.Lists.{All-find, All-map, by_test, eqb-self, find-passes}
use Rattle.update_log.proofs.Openings.{bytes-same}
use Rattle.update_log.proofs.TakenKept.{Taken as WasTaken, TakenKept}
use Rattle.update_log.specs.declared.answer.ClaimAnswer.{ClaimAnswer}
use Rattle.update_log.specs.declared.answer.ResumeAnswer.{ResumeAnswer}
use Rattle.update_log.specs.declared.event.Event.{Event}
use Rattle.update_log.specs.declared.event.Stored.{Stored}
use Rattle.update_log.specs.declared.live.LiveEntry.{LiveEntry}
use Rattle.update_log.specs.declared.live.OpenStep.{OpenStep}
use Rattle.update_log.specs.declared.refusal.FetchNote.{FetchNote}
use Rattle.update_log.specs.declared.request.Request.{Request}
use Rattle.release_catalogue.specs.Lookup.{Chosen}
use Rattle.update_log.specs.Holding.{is_live, live, live_entry, open_steps}
use Rattle.update_log.specs.Known.{Basis, is_board_of, row_of, rows}
use Rattle.update_log.specs.Legal.{IsLegal, is_whole}
use Rattle.update_log.specs.Once.{TakenBy, payload_taken, takes}
use Rattle.update_log.specs.Pasts.{boots, off}
use Rattle.update_log.specs.Shows.{campaign_on, Campaign, digest_of, raw_of}
use Rattle.daemon_core.proofs.BoardsQuiet.{kept-so}
use Rattle.daemon_core.proofs.ClaimAlone.{alone-on}
use Rattle.daemon_core.proofs.ClaimEnds.{own-board}
use Rattle.daemon_core.proofs.ClaimOpen.{open-live, live-found}
use Rattle.daemon_core.specs.HouseLog.{IsLegalSo}
use Rattle.daemon_core.specs.Claims.{IsTaken}
use Rattle.daemon_core.specs.Fetches.{raw_number, whole_note}
use Rattle.daemon_core.specs.declared.claimed.Taken.{Taken}
use Rattle.install_engine.specs.Runs.{ClaimRuns, IsOwnStep, parts_taken}
use Rattle.install_engine.proofs.RunBoards.{out-of_home}
use Rattle.install_engine.proofs.RunSteps.{open-own}

-- ---- no other entry has a step open on the board

alone-in : (c : Campaign) (past : List Event) (entry number : ℕ) (l : LiveEntry) → IsHistory c.basis.opening → IsLegal c past → off past ≡ false → live_entry past entry ≡ Some l → is_board_of c.basis.facts (rows c.basis past) entry number ≡ true
    → AllByRecursion (IsOwnStep c.basis.facts (rows c.basis past) entry number) (open_steps past)
alone-in c past entry number l valid legal on f own =
    All-map (λ s. is_live (live past) s.entry ≡ true) (IsOwnStep c.basis.facts (rows c.basis past) entry number) (open_steps past) (open-live c past legal on) each
  where
    each : (s : OpenStep) → is_live (live past) s.entry ≡ true → IsOwnStep c.basis.facts (rows c.basis past) entry number s
    each s h other =
        by_test (is_board_of c.basis.facts (rows c.basis past) s.entry number) _
        (λ t. absurd (alone-on c past number s.entry entry valid legal h (live-found (live past) entry l f) t own
        (λ e. let same : (s.entry == entry) ≡ true = ap (λ (x : ℕ). x == entry) e ∙ eqb-self entry in let bad : false ≡ true = sym other ∙ same in cc)))
        (λ t. t)

-- Where the boot isn't off, no other entry has a step open on the board of a live entry.
pub alone-so : (basis : Basis) (first : List Seen) (past : List Event) (entry number : ℕ) (l : LiveEntry) → IsHistory basis.opening → IsLegalSo basis first past → off past ≡ false → live_entry past entry ≡ Some l → is_board_of basis.facts (rows basis past) entry number ≡ true
    → AllByRecursion (IsOwnStep basis.facts (rows basis past) entry number) (open_steps past)
alone-so basis first past entry number l valid (plans, legal) on live own =
    alone-in (campaign_on basis first plans) past entry number l valid legal on live own

-- ---- the payload is the row's

-- The event takes that entry with that payload.
pub record TakesWith (entry : ℕ) (payload : SealedBytes) (event : Event) : Type 0 where
  pub takes_it : takes entry event ≡ true
  pub fetched : payload_taken event ≡ Some (whole_note payload)
  pub raw_is : (past : List Event) → raw_of entry (event ∷ past) ≡ Some (raw_number payload)

pub claim-takes : (client entry : ℕ) (request : Request) (payload : SealedBytes) → TakesWith entry payload (Event.Claim client request (whole_note payload) (ClaimAnswer.Entry entry))
claim-takes client entry request payload = record { takes_it = eqb-self entry; fetched = refl; raw_is = λ past. rw (eqb-self entry) refl }

pub resume-takes : (client entry : ℕ) (stored : Stored) (payload : SealedBytes) → TakesWith entry payload (Event.Resume client entry (Some (whole_note payload)) ResumeAnswer.Begun stored)
resume-takes client entry stored payload = record { takes_it = eqb-self entry; fetched = refl; raw_is = λ past. rw (eqb-self entry) refl }

both-true : (a b : Bool) → (a && b) ≡ true → a ≡ true
both-true true b h = refl
both-true false b h = cc

whole-digest : (payload : SealedBytes) (note : FetchNote) (c : Chosen) → Some note ≡ Some (whole_note payload) → is_whole note c ≡ true → payload.digest ≡ c.release.digest
whole-digest payload note c e h =
    let same : note ≡ whole_note payload = same_Some note (whole_note payload) e in
    let w : is_whole (whole_note payload) c ≡ true = ap (λ (n : FetchNote). is_whole n c) (sym same) ∙ h in
    bytes-same payload.digest c.release.digest (both-true (bytes_eq payload.digest c.release.digest) _ w)

taken-digest : (basis : Basis) (past : List Event) (event : Event) (entry : ℕ) (payload : SealedBytes) → TakesWith entry payload event → WasTaken basis (event ∷ past) entry → digest_of (rows basis (event ∷ past)) entry ≡ payload.digest
taken-digest basis past event entry payload w t =
    let r = row-found (row_of (rows basis (event ∷ past)) entry) t.row t.row_is in
    let taker : TakenBy basis t.row past event = rw w.takes_it at t.taking in
    let well = taker.3 in
    let d : payload.digest ≡ taker.1.chosen.release.digest = whole-digest payload taker.2 taker.1.chosen (sym well.payload ∙ w.fetched) well.whole in
    ap (λ (o : Option Row). unwrap_or (option_map (λ x. x.digest) o) []) r.1
    ∙ ap (λ (x : Row). x.digest) r.2
    ∙ sym well.digest
    ∙ sym d

-- ---- a claim that begins

-- What a past keeps of a live entry's taking.
live-taken : (basis : Basis) (past : List Event) (entry : ℕ) (l : LiveEntry) → TakenKept basis past → live_entry past entry ≡ Some l → WasTaken basis past entry
live-taken basis past entry l t e =
    let same : l.entry ≡ entry = eqb-true l.entry entry (find-passes (λ x. x.entry == entry) (live past) l e) in
    subst (λ (n : ℕ). WasTaken basis past n) same
    (All-find (λ x. WasTaken basis past x.entry) (λ x. x.entry == entry) (live past) l t.live_taken e)

-- An entry that was taken by that event, with that payload, runs.
pub taken-runs : (basis : Basis) (first : List Seen) (past : List Event) (event : Event) (client : ℕ) (taken : Taken) (number : ℕ) → IsHistory basis.opening → IsLegalSo basis first (event ∷ past) → off (event ∷ past) ≡ false → 0 < boots (event ∷ past)
    → TakesWith taken.entry taken.payload event → (t : IsTaken basis first (event ∷ past) client taken number) → ClaimRuns basis first (event ∷ past) client (parts_taken taken) number t.l None
taken-runs basis first past event client taken number valid legal on booted w t =
    let own = own-board basis.facts (rows basis (event ∷ past)) taken.entry number t.comes.board in
    let alone = alone-so basis first (event ∷ past) taken.entry number t.l valid legal on t.comes.live own in
    let closed = open-own basis (event ∷ past) taken.entry number t.comes.board alone ∙ t.closed in
    let kept = kept-so basis first (event ∷ past) valid legal in
    record {
      live = t.comes.live;
      client_is = t.comes.client_is;
      blocks_are = t.comes.blocks_are;
      open_is = t.closed;
      board_is = t.comes.board;
      opened = closed;
      alone = λ _. alone;
      stands = out-of_home basis first (event ∷ past) number taken.board t.comes.stands closed;
      shown = t.comes.stands.fits.view closed booted;
      traced = t.traced;
      digest = taken-digest basis past event taken.entry taken.payload w (live-taken basis (event ∷ past) taken.entry t.l kept.taken t.comes.live);
      raw = w.raw_is past;
    }
