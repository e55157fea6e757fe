-- What is known of a fetch, and the files of shelves that stay.
use Rattle.std.proofs.Common.{◌≡◌, ◌≢◌, ◌⊎◌, ℕ, ◌≤◌, ◌*◌, zero, suc, List, [], ◌∷◌, length, take, refl, sym, ap, ◌∙◌, subst, inl, inr, arith}
use Rattle.std.proofs.lemmas.List.{length-take-le}
use Rattle.sha2.specs.Sha256.{sha256}
use Rattle.std.specs.Prelude.{Option, Some, None, IfSome, slice_get}
use Rattle.fw_facts.specs.declared.release.Release.{Release}
use Rattle.outer_traits.specs.Shelves.{file_of}
use Rattle.update_log.specs.declared.facts.Facts.{Facts}
use Rattle.update_log.specs.declared.refusal.FetchNote.{FetchNote}
use Rattle.update_log.specs.declared.request.Request.{Request}
use Rattle.daemon_core.specs.declared.fetched.Fetched.{Fetched}
use Rattle.daemon_core.specs.declared.hold.Hold.{Hold}
use Rattle.daemon_core.specs.Fetches.{block_count, note_of, raw_number}
use Rattle.daemon_core.specs.Holds.{IsHoldFor}
use Rattle.install_engine.specs.Answers.{IfLength, IfMismatch, IfWhole, told}
use Rattle.install_engine.specs.Findings.{Finding, found_of}
use Rattle.client_plays.specs.Shelves.{IsFetched, IsTrueNote, files_for, files_of, note_found}
use Rattle.client_plays.specs.Tools.{Files, ShelfTold, ShelvesStay, shelf_of}

-- What a fetch found is what its note says, unless the shelf failed.
note-found : (digest : List ℕ) (found : Finding) (fetched : Fetched) → IfSome (told fetched) (λ now. now ≡ found) → IfWhole fetched (λ payload. payload.digest ≡ digest) → (note_of fetched ≡ FetchNote.ShelfFault) ⊎ (note_of fetched ≡ note_found digest found)
note-found digest found (Fetched.Whole payload) f d =
    inr (ap (λ (x : List ℕ). FetchNote.Whole x (length payload.bytes) (raw_number payload)) d ∙ ap (note_found digest) f)
note-found digest found (Fetched.ShelfFault blocks) f d = inl refl
note-found digest found _ f d = inr (ap (note_found digest) f)

-- It was looked for under the digest of the hold's release.
found-same : (all : List (List ℕ × List ℕ)) (digest other : List ℕ) (size length : ℕ) → digest ≡ other → size ≡ length → found_of (file_of all digest) digest size ≡ found_of (file_of all other) other length
found-same all digest other size length d s =
    ap (λ (x : List ℕ). found_of (file_of all x) x size) d ∙ ap (λ (n : ℕ). found_of (file_of all other) other n) s

note-files : (files : Files) (hold : Hold) (release : Release) (fetched : Fetched) → hold.digest ≡ release.digest → hold.size ≡ release.size
    → IfSome files (λ all. IfSome (told fetched) (λ found. found ≡ found_of (file_of all hold.digest) hold.digest hold.size)) → IfWhole fetched (λ payload. payload.digest ≡ hold.digest)
    → IfSome files (λ all. (note_of fetched ≡ FetchNote.ShelfFault) ⊎ (note_of fetched ≡ note_found release.digest (found_of (file_of all release.digest) release.digest release.size)))
note-files None hold release fetched d s f w = tt
note-files (Some all) hold release fetched d s f w =
    note-found release.digest (found_of (file_of all release.digest) release.digest release.size) fetched
    (subst (λ (x : Finding). IfSome (told fetched) (λ found. found ≡ x)) (found-same all hold.digest release.digest hold.size release.size d s) f)
    (subst (λ (x : List ℕ). IfWhole fetched (λ payload. payload.digest ≡ x)) d w)

-- What is known of a fetch whatever the shelf tells: a whole payload has the digest and the size of the hold's
-- release, and another length or digest is another one.
pub record IsFetchFor (hold : Hold) (fetched : Fetched) : Type 0 where
  pub digest : IfWhole fetched (λ payload. payload.digest ≡ hold.digest)
  pub size : IfWhole fetched (λ payload. length payload.bytes ≡ hold.size)
  pub other_length : IfLength fetched (λ found. found ≢ hold.size)
  pub other_digest : IfMismatch fetched (λ found _. found ≢ hold.digest)
  pub hashed : IfMismatch fetched (λ found blocks. found ≡ sha256 (take hold.size blocks.bytes))
  pub blocks : hold.size ≤ 4096 * block_count fetched

note-true : (hold : Hold) (release : Release) (fetched : Fetched) → hold.digest ≡ release.digest → hold.size ≡ release.size → IsFetchFor hold fetched → IsTrueNote release (note_of fetched)
note-true hold release (Fetched.Whole payload) d s f = record {
  bytes = payload.bytes;
  hashed = payload.hashed;
  digest_is = f.digest ∙ d;
  long = refl;
  size_is = f.size ∙ s;
  raw_is = refl;
}
note-true hold release (Fetched.Missing blocks) d s f = tt
note-true hold release (Fetched.Length found blocks) d s f = λ e. f.other_length (e ∙ sym s)
note-true hold release (Fetched.Mismatch found blocks) d s f =
    let sized = blocks.sized in
    let within = f.blocks in
    record {
      bytes = take hold.size blocks.bytes;
      hashed = f.hashed;
      long = length-take-le hold.size blocks.bytes (omega (arith, sized, within)) ∙ s;
      other = λ e. f.other_digest (e ∙ sym d);
    }
note-true hold release (Fetched.ShelfFault blocks) d s f = tt

-- What is known of a fetch says what is known of its note.
pub note-fetched : (facts : Facts) (client : ℕ) (request : Request) (pending : Option ℕ) (files : Files) (hold : Hold) (fetched : Fetched) → IsHoldFor facts client request pending hold
    → IfSome files (λ all. IfSome (told fetched) (λ found. found ≡ found_of (file_of all hold.digest) hold.digest hold.size)) → IsFetchFor hold fetched
    → IsFetched facts files hold.ticket.release (note_of fetched)
note-fetched facts client request pending files hold fetched h f w =
    record {
      release = h.release;
      there = h.release_at;
      note_true = note-true hold h.release fetched h.digest_is h.size_is w;
      note_is = note-files files hold h.release fetched h.digest_is h.size_is f w.digest;
    }

-- The files of each client's shelf, where the shelves stay.
files-at : (old new : List ShelfTold) (n : ℕ) → ShelvesStay old new → files_of (slice_get new n) ≡ files_of (slice_get old n)
files-at [] [] n s = refl
files-at [] (y ∷ new) n s = absurd s
files-at (x ∷ old) [] n s = absurd s
files-at (x ∷ old) (y ∷ new) zero s = s.0.files
files-at (x ∷ old) (y ∷ new) (suc n) s = files-at old new n s.1

pub files-stay : (old new : List ShelfTold) → ShelvesStay old new → (client : ℕ) → files_for new client ≡ files_for old client
files-stay old new s client = files-at old new (shelf_of client) s
