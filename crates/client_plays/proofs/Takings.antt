-- What is fetched of a payload that lies on the shelf, and what is answered then.
use Rattle.std.proofs.Common.{◌≡◌, ℕ, true, List, length, refl, ap, sym, ◌∙◌, subst, ◌⊎◌, inl, inr, arith}
use Rattle.std.proofs.lemmas.Bool.{eq-eqb}
use Rattle.std.proofs.lemmas.Option.{same_Some}
use Rattle.std.specs.Prelude.{Option, Some, None, IfSome, ◌==◌, unwrap_or}
use Rattle.std.specs.Str.{bytes_eq}
use Rattle.sha2.specs.Sha256.{sha256}
use Rattle.emulated_boards.specs.Images.{raw_version}
use Rattle.fw_facts.specs.declared.release.Release.{Release}
use Rattle.outer_traits.specs.Shelves.{file_of}
use Rattle.release_catalogue.specs.declared.reference.ReleaseRef.{ReleaseRef}
use Rattle.history_keeper.specs.declared.row.Row.{Row}
use Rattle.update_log.proofs.Openings.{bytes-self}
use Rattle.update_log.specs.declared.answer.ClaimAnswer.{ClaimAnswer}
use Rattle.update_log.specs.declared.answer.ResumeAnswer.{ResumeAnswer}
use Rattle.update_log.specs.declared.decision.Decision.{Decision}
use Rattle.update_log.specs.declared.decision.Stage.{Stage}
use Rattle.update_log.specs.declared.event.Event.{Event}
use Rattle.update_log.specs.declared.event.Stored.{Stored}
use Rattle.update_log.specs.declared.facts.Facts.{Facts}
use Rattle.update_log.specs.declared.live.Held.{Held}
use Rattle.update_log.specs.declared.refusal.FetchNote.{FetchNote}
use Rattle.update_log.specs.declared.refusal.Refusal.{Refusal}
use Rattle.update_log.specs.declared.request.Request.{Request}
use Rattle.update_log.specs.Holding.{hold}
use Rattle.update_log.specs.Known.{Basis, Target, target, views}
use Rattle.update_log.specs.Legal.{ClaimAllowed, ClaimAnswered, ResumeAllowed, ResumeAnswered, is_fetched, next_entry}
use Rattle.update_log.specs.Verdicts.{verdict}
use Rattle.daemon_core.proofs.Asking.{release-same}
use Rattle.daemon_core.proofs.ClaimAccepted.{claimable, whole-fetched}
use Rattle.daemon_core.proofs.ResumeAccepted.{resumable, whole-resumed}
use Rattle.daemon_core.specs.Fetches.{IsPayloadOf, whole_note}
use Rattle.daemon_core.specs.PutOff.{IsAccept}
use Rattle.block_pool.specs.Views.{SealedBytes}
use Rattle.install_engine.specs.Findings.{found_of, whole}
use Rattle.client_plays.specs.Shelves.{IsFetched, IsTrueNote, IsWholePayload, note_found}
use Rattle.client_plays.specs.Tools.{Files}
use Rattle.client_plays.specs.Complete.{CanResume, CanTake, HasPayload, Resumes, Takes}

-- What lies on the shelf is found whole.
found-whole : (o : Option (List ℕ)) (bytes digest : List ℕ) (size : ℕ) → o ≡ Some bytes → length bytes ≡ size → sha256 bytes ≡ digest → found_of o digest size ≡ whole bytes
found-whole None bytes digest size e l d = cc
found-whole (Some other) bytes digest size e l d =
    let same : other ≡ bytes = same_Some other bytes e in
    let long : (length other == size) ≡ true = eq-eqb (length other) size (ap length same ∙ l) in
    let hash : bytes_eq (sha256 other) digest ≡ true = ap (λ (x : List ℕ). bytes_eq x digest) (ap sha256 same ∙ d) ∙ bytes-self digest in
    let done : found_of (Some other) digest size ≡ whole bytes = rw (long, hash) (ap whole same) in
    done

-- So the note is of the payload, which is the release's, or the shelf failed.
pub record CameWhole (facts : Facts) (at : ReleaseRef) (note : FetchNote) : Type 0 where
  pub payload : SealedBytes
  pub of_release : IsPayloadOf facts at payload
  pub note_is : note ≡ whole_note payload

pub came-whole : (facts : Facts) (files : Files) (at : ReleaseRef) (note : FetchNote) → IsFetched facts files at note → HasPayload facts files at → CameWhole facts at note ⊎ (note ≡ FetchNote.ShelfFault)
came-whole facts files at note f p = told (subst (λ (x : Files). IfSome x (λ all. (note ≡ FetchNote.ShelfFault) ⊎ (note ≡ note_found f.release.digest (found_of (file_of all f.release.digest) f.release.digest f.release.size)))) p.told f.note_is)
  where
    same : f.release ≡ p.release
    same = release-same facts.catalogue at f.release p.release f.there p.there

    lies : file_of p.all f.release.digest ≡ Some p.bytes
    lies = subst (λ (r : Release). file_of p.all r.digest ≡ Some p.bytes) (sym same) p.lies

    size : length p.bytes ≡ f.release.size
    size = p.size ∙ ap (λ (r : Release). r.size) (sym same)

    digest : sha256 p.bytes ≡ f.release.digest
    digest = p.digest ∙ ap (λ (r : Release). r.digest) (sym same)

    sealed : SealedBytes
    sealed =
        record {
          bytes = p.bytes;
          count = length p.bytes;
          digest = f.release.digest;
          within = omega arith;
          hashed = sym digest;
        }

    told : (note ≡ FetchNote.ShelfFault) ⊎ (note ≡ note_found f.release.digest (found_of (file_of p.all f.release.digest) f.release.digest f.release.size)) → CameWhole facts at note ⊎ (note ≡ FetchNote.ShelfFault)
    told (inl e) = inr e
    told (inr e) =
        let found = found-whole (file_of p.all f.release.digest) p.bytes f.release.digest f.release.size lies size digest in
        inl (record {
          payload = sealed;
          of_release = record { release = f.release; there = f.there; digest_is = refl; size_is = size };
          note_is = e ∙ ap (note_found f.release.digest) found;
        })

-- The answer to a claim or a resumption that was accepted and whose payload was fetched.
claim-takes : (note : FetchNote) (t : Option Target) (next : ℕ) (d : Decision) (answer : ClaimAnswer) → IsAccept d → is_fetched note t ≡ true → ClaimAnswered note t next d answer → (answer ≡ ClaimAnswer.Entry next) ⊎ (answer ≡ ClaimAnswer.Refused Refusal.KeeperFault)
claim-takes note t next (Decision.Accept device release blocks) answer a f h = rw f at h
claim-takes note t next (Decision.Kept entry state) answer a f h = cc
claim-takes note t next (Decision.Refused refusal) answer a f h = cc

resumption-begins : (note : FetchNote) (t : Option Target) (d : Decision) (answer : ResumeAnswer) → IsAccept d → is_fetched note t ≡ true → ResumeAnswered note t d answer → (answer ≡ ResumeAnswer.Begun) ⊎ (answer ≡ ResumeAnswer.Refused Refusal.KeeperFault)
resumption-begins note t (Decision.Accept device release blocks) answer a f h = rw f at h
resumption-begins note t (Decision.Kept entry state) answer a f h = cc
resumption-begins note t (Decision.Refused refusal) answer a f h = cc

-- So is the note of one that came whole, whatever the shelf tells.
note-same : (digest other : List ℕ) (size length raw number : ℕ) → digest ≡ other → size ≡ length → raw ≡ number → FetchNote.Whole digest size raw ≡ FetchNote.Whole other length number
note-same digest other size length raw number d s r =
    ap (λ (x : List ℕ). FetchNote.Whole x size raw) d ∙ ap (λ (n : ℕ). FetchNote.Whole other n raw) s ∙ ap (λ (n : ℕ). FetchNote.Whole other length n) r

pub came-noted : (facts : Facts) (files : Files) (at : ReleaseRef) (note : FetchNote) (digest : List ℕ) (size raw : ℕ) → IsFetched facts files at note → note ≡ FetchNote.Whole digest size raw → CameWhole facts at note
came-noted facts files at note digest size raw f e =
    let w : IsWholePayload f.release digest size raw = subst (λ (n : FetchNote). IsTrueNote f.release n) e f.note_true in
    let sealed : SealedBytes =
    record {
      bytes = w.bytes;
      count = length w.bytes;
      digest = f.release.digest;
      within = omega arith;
      hashed = sym w.digest_is ∙ w.hashed;
    } in
    record {
      payload = sealed;
      of_release = record { release = f.release; there = f.there; digest_is = refl; size_is = sym w.long ∙ w.size_is };
      note_is = e ∙ note-same digest f.release.digest size (length w.bytes) raw (unwrap_or (raw_version w.bytes) 0) w.digest_is w.long w.raw_is;
    }

-- A claim takes an entry, where its payload came whole or the shelf failed.
pub claim-came : (basis : Basis) (past : List Event) (client : ℕ) (request : Request) (note : FetchNote) (answer : ClaimAnswer) (held : Held)
    → ClaimAllowed basis past client request note answer held → IsAccept (verdict basis past client request (Stage.Claim held.release))
    → CameWhole basis.facts held.release note ⊎ (note ≡ FetchNote.ShelfFault) → Takes (next_entry basis past) note answer
claim-came basis past client request note answer held allowed accepted (inr e) = inr (inr e)
claim-came basis past client request note answer held allowed accepted (inl w) =
    let t = claimable basis past client request held.release accepted in
    let whole : is_fetched note (target basis.facts (views basis past) request) ≡ true = ap (λ (n : FetchNote). is_fetched n (target basis.facts (views basis past) request)) w.note_is ∙ whole-fetched basis past client request held.release t.0 w.payload t.1 w.of_release in
    by (claim-takes note (target basis.facts (views basis past) request) (next_entry basis past) (verdict basis past client request (Stage.Claim held.release)) answer accepted whole allowed.answer_is)
  where
    by : (answer ≡ ClaimAnswer.Entry (next_entry basis past)) ⊎ (answer ≡ ClaimAnswer.Refused Refusal.KeeperFault) → Takes (next_entry basis past) note answer
    by (inl e) = inl e
    by (inr e) = inr (inl e)

pub claim-complete : (basis : Basis) (past : List Event) (client : ℕ) (request : Request) (note : FetchNote) (answer : ClaimAnswer) (files : Files) (held : Held)
    → ClaimAllowed basis past client request note answer held → IsFetched basis.facts files held.release note
    → CanTake basis past files client request held → Takes (next_entry basis past) note answer
claim-complete basis past client request note answer files held allowed fetched can =
    claim-came basis past client request note answer held allowed can.accepted (came-whole basis.facts files held.release note fetched can.payload)

-- A resumption begins.
pub resumption-came : (basis : Basis) (past : List Event) (client entry : ℕ) (note : FetchNote) (answer : ResumeAnswer) (stored : Stored) (row : Row) (held : Held)
    → ResumeAllowed basis past client entry (Some note) answer stored row → hold past 0 ≡ Some held → IsAccept (verdict basis past 0 held.request (Stage.Resume entry held.release))
    → CameWhole basis.facts held.release note ⊎ (note ≡ FetchNote.ShelfFault) → Resumes note answer
resumption-came basis past client entry note answer stored row held allowed holds accepted came = at came
  where
    goal : Option Target
    goal = target basis.facts (views basis past) held.request

    same : allowed.fetched_is.0 ≡ held
    same = same_Some allowed.fetched_is.0 held (sym allowed.fetched_is.1 ∙ holds)

    answered : ResumeAnswered note goal (verdict basis past 0 held.request (Stage.Resume entry held.release)) answer
    answered = subst (λ (h : Held). ResumeAnswered note (target basis.facts (views basis past) h.request) (verdict basis past 0 h.request (Stage.Resume entry h.release)) answer) same allowed.fetched_is.3

    by : (answer ≡ ResumeAnswer.Begun) ⊎ (answer ≡ ResumeAnswer.Refused Refusal.KeeperFault) → Resumes note answer
    by (inl e) = inl e
    by (inr e) = inr (inl e)

    at : CameWhole basis.facts held.release note ⊎ (note ≡ FetchNote.ShelfFault) → Resumes note answer
    at (inr e) = inr (inr e)
    at (inl w) =
        let t = resumable basis past entry held.request held.release accepted in
        let whole : is_fetched note goal ≡ true = ap (λ (n : FetchNote). is_fetched n goal) w.note_is ∙ whole-resumed basis past held.request held.release t.0 w.payload t.1 w.of_release in
        by (resumption-begins note goal (verdict basis past 0 held.request (Stage.Resume entry held.release)) answer accepted whole answered)

pub resumption-complete : (basis : Basis) (past : List Event) (client entry : ℕ) (note : FetchNote) (answer : ResumeAnswer) (stored : Stored) (row : Row) (files : Files) (held : Held)
    → ResumeAllowed basis past client entry (Some note) answer stored row → IsFetched basis.facts files held.release note
    → CanResume basis past files entry held → Resumes note answer
resumption-complete basis past client entry note answer stored row files held allowed fetched can =
    resumption-came basis past client entry note answer stored row held allowed can.holds can.accepted (came-whole basis.facts files held.release note fetched can.payload)
