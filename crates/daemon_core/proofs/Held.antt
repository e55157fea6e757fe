-- How the held blocks change.
use Rattle.std.proofs.Common.{◌≡◌, ℕ, List, ◌∷◌, ap, subst, ◌+◌, arith}
use Rattle.std.specs.Prelude.{Option, Some, None, ◌==◌, sum_by}
use Rattle.std.proofs.lemmas.List.Sums.{sum_by_push}
use Rattle.history_keeper.specs.declared.row.RowState.{RowState}
use Rattle.update_log.proofs.Lists.{All-find}
use Rattle.update_log.specs.Holding.{blocks_fetched, blocks_fetched_if, held, hold, holds, live, live_entry, without_client, without_entry}
use Rattle.update_log.specs.declared.answer.ClaimAnswer.{ClaimAnswer}
use Rattle.update_log.specs.declared.answer.ResumeAnswer.{ResumeAnswer}
use Rattle.update_log.specs.declared.event.Back.{Back}
use Rattle.update_log.specs.declared.event.Event.{Event}
use Rattle.update_log.specs.declared.event.Stored.{Stored}
use Rattle.update_log.specs.declared.live.Held.{Held}
use Rattle.update_log.specs.declared.live.LiveEntry.{LiveEntry}
use Rattle.update_log.specs.declared.refusal.FetchNote.{FetchNote}
use Rattle.update_log.specs.declared.refusal.Refusal.{Refusal}
use Rattle.update_log.specs.declared.request.Request.{Request}
use Rattle.daemon_core.proofs.HeldOnce.{OutOnce, sum-once}
use Rattle.daemon_core.proofs.OwedLists.{filter-all}

-- a client that holds nothing loses nothing
pub holds-same : (past : List Event) (client : ℕ) → hold past client ≡ None → without_client client (holds past) ≡ holds past
holds-same past client h = filter-all (λ (x : Held). x.client == client) (holds past) h

-- one that holds something loses it
pub holds-less : (past : List Event) (client : ℕ) (h : Held) → OutOnce past → hold past client ≡ Some h → sum_by (λ (x : Held). x.blocks) (without_client client (holds past)) + h.blocks ≡ sum_by (λ (x : Held). x.blocks) (holds past)
holds-less past client h k e = sum-once (λ (x : Held). x.blocks) (λ (x : Held). x.client == client) (holds past) h e (k.holds_once client)

pub live-less : (past : List Event) (entry : ℕ) (l : LiveEntry) → OutOnce past → live_entry past entry ≡ Some l → sum_by (λ (x : LiveEntry). x.blocks) (without_entry entry (live past)) + l.blocks ≡ sum_by (λ (x : LiveEntry). x.blocks) (live past)
live-less past entry l k e = sum-once (λ (x : LiveEntry). x.blocks) (λ (x : LiveEntry). x.entry == entry) (live past) l e (k.live_once entry)

pub held-given_tag : (past : List Event) (client : ℕ) (tag : List ℕ) (h : Held) → OutOnce past → hold past client ≡ Some h → held (Event.GiveBack client (Back.Tag tag) ∷ past) + h.blocks ≡ held past
held-given_tag past client tag h k e = omega (arith, holds-less past client h k e)

pub held-given_pending : (past : List Event) (client entry : ℕ) (h : Held) → OutOnce past → hold past client ≡ Some h → held (Event.GiveBack client (Back.Pending entry) ∷ past) + h.blocks ≡ held past
held-given_pending past client entry h k e = omega (arith, holds-less past client h k e)

-- the client of a live entry holds nothing
pub live-holds_none : (past : List Event) (entry : ℕ) (l : LiveEntry) → OutOnce past → live_entry past entry ≡ Some l → hold past l.client ≡ None
live-holds_none past entry l k e = All-find (λ (x : LiveEntry). hold past x.client ≡ None) (λ (x : LiveEntry). x.entry == entry) (live past) l k.apart e

pub held-given_entry : (past : List Event) (client entry : ℕ) (l : LiveEntry) → OutOnce past → live_entry past entry ≡ Some l → l.client ≡ client → held (Event.GiveBack client (Back.Entry entry) ∷ past) + l.blocks ≡ held past
held-given_entry past client entry l k e own =
    let none : hold past client ≡ None = subst (λ (c : ℕ). hold past c ≡ None) own (live-holds_none past entry l k e) in
    let same = ap (sum_by (λ (x : Held). x.blocks)) (holds-same past client none) in
    omega (arith, same, live-less past entry l k e)

pub held-finished : (past : List Event) (client entry : ℕ) (state : RowState) (stored : Stored) (l : LiveEntry) → OutOnce past → live_entry past entry ≡ Some l → held (Event.Finish client entry state stored ∷ past) + l.blocks ≡ held past
held-finished past client entry state stored l k e = omega (arith, live-less past entry l k e)

pub held-taken : (past : List Event) (client : ℕ) (request : Request) (fetched : FetchNote) (entry : ℕ) (h : Held) → OutOnce past → hold past client ≡ Some h → held (Event.Claim client request fetched (ClaimAnswer.Entry entry) ∷ past) + h.blocks ≡ held past + blocks_fetched fetched
held-taken past client request fetched entry h k e =
    let pushed = sum_by_push (λ (x : LiveEntry). x.blocks) (live past) (record { client = client; entry = entry; blocks = blocks_fetched fetched }) in
    omega (arith, holds-less past client h k e, pushed)

pub held-kept : (past : List Event) (client : ℕ) (request : Request) (fetched : FetchNote) (entry : ℕ) (state : RowState) (h : Held) → OutOnce past → hold past client ≡ Some h → held (Event.Claim client request fetched (ClaimAnswer.Kept entry state) ∷ past) + h.blocks ≡ held past
held-kept past client request fetched entry state h k e = omega (arith, holds-less past client h k e)

pub held-refused : (past : List Event) (client : ℕ) (request : Request) (fetched : FetchNote) (refusal : Refusal) (h : Held) → OutOnce past → hold past client ≡ Some h → held (Event.Claim client request fetched (ClaimAnswer.Refused refusal) ∷ past) + h.blocks ≡ held past
held-refused past client request fetched refusal h k e = omega (arith, holds-less past client h k e)

pub held-resumed : (past : List Event) (client entry : ℕ) (fetched : Option FetchNote) (stored : Stored) (h : Held) → OutOnce past → hold past client ≡ Some h → held (Event.Resume client entry fetched ResumeAnswer.Begun stored ∷ past) + h.blocks ≡ held past + blocks_fetched_if fetched
held-resumed past client entry fetched stored h k e =
    let pushed = sum_by_push (λ (x : LiveEntry). x.blocks) (live past) (record { client = client; entry = entry; blocks = blocks_fetched_if fetched }) in
    omega (arith, holds-less past client h k e, pushed)

pub held-not_resumed : (past : List Event) (client entry : ℕ) (fetched : Option FetchNote) (refusal : Refusal) (stored : Stored) (h : Held) → OutOnce past → hold past client ≡ Some h → held (Event.Resume client entry fetched (ResumeAnswer.Refused refusal) stored ∷ past) + h.blocks ≡ held past
held-not_resumed past client entry fetched refusal stored h k e = omega (arith, holds-less past client h k e)

pub held-repeated : (past : List Event) (client entry : ℕ) (fetched : Option FetchNote) (refusal : Refusal) (stored : Stored) → hold past client ≡ None → held (Event.Resume client entry fetched (ResumeAnswer.Refused refusal) stored ∷ past) ≡ held past
held-repeated past client entry fetched refusal stored n =
    let same = ap (sum_by (λ (x : Held). x.blocks)) (holds-same past client n) in omega (arith, same)
