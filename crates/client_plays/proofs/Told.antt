-- What stands before a claim, a resumption and a giving back, among a client's own events.
use Rattle.std.proofs.Common.{◌≡◌, ◌⊎◌, ℕ, Bool, true, false, List, [], ◌∷◌, ◌++◌, refl, sym, subst, inl, inr}
use Rattle.std.specs.Prelude.{Option, Some, None, MatchBool}
use Rattle.block_pool.specs.Views.{SealedBytes}
use Rattle.emulated_boards.specs.Boards.{BoardState}
use Rattle.plugin_trait.specs.Steps.{PluginSteps}
use Rattle.update_log.specs.declared.answer.AskAnswer.{AskAnswer}
use Rattle.update_log.specs.declared.answer.ClaimAnswer.{ClaimAnswer}
use Rattle.update_log.specs.declared.answer.ResumeAnswer.{ResumeAnswer}
use Rattle.update_log.specs.declared.event.Event.{Event}
use Rattle.update_log.specs.declared.event.Stored.{Stored}
use Rattle.update_log.specs.declared.facts.Facts.{Facts}
use Rattle.update_log.specs.declared.refusal.FetchNote.{FetchNote}
use Rattle.update_log.specs.declared.request.Request.{Request}
use Rattle.release_catalogue.specs.declared.reference.ReleaseRef.{ReleaseRef}
use Rattle.client_scripts.specs.declared.item.Item.{Item}
use Rattle.client_plays.specs.Moments.{Moment, behind}
use Rattle.client_plays.specs.Plays.{AfterAsk, AfterClaim, AfterResume, Alone, ClaimPlays, GivesBack, InstallPlays, Leaves, PendingPlays, Plays, ResumeFetches, ResumePlays, SchedulePlays, StepsPlay, Task, TaskPlays, ToJudge, ToResume}
use Rattle.client_plays.specs.Scripts.{PlayedSo, PlaysAll, PlaysOne, PlaysUntil}
use Rattle.client_plays.specs.Shelves.{IsFetched}
use Rattle.client_plays.specs.Tools.{Files, Means}
use Rattle.client_plays.proofs.Ways.{one-way}
use Rattle.update_log.specs.Known.{Basis}

-- ---- what is told of one event

-- The client's event before is the ask of that request, which was answered with a hold for the release that was
-- fetched.
pub record FetchedFor (facts : Facts) (files : Files) (client : ℕ) (pending : Option ℕ) (note : FetchNote) (before : Option Event) : Type 0 where
  pub request : Request
  pub blocks : ℕ
  pub release : ReleaseRef
  pub asked : before ≡ Some (Event.Ask client request pending (AskAnswer.Hold blocks release))
  pub fetched : IsFetched facts files release note

-- The client's event before is an ask.
pub record AskedFor (client : ℕ) (pending : Option ℕ) (before : Option Event) : Type 0 where
  pub request : Request
  pub answer : AskAnswer
  pub asked : before ≡ Some (Event.Ask client request pending answer)
  pub no_hold : (blocks : ℕ) (release : ReleaseRef) → answer ≡ AskAnswer.Hold blocks release → ⊥

-- What a client's event before says of its claim, of a resumption, or of what it gives back. `Cause` is why that
-- was given back.
abbrev pub Told : Facts → Files → Type 0 → Option Event → Event → Type 0
Told facts files Cause before (Event.Claim client request note answer) = FetchedFor facts files client None note before
Told facts files Cause before (Event.Resume client entry (Some note) answer stored) = FetchedFor facts files client (Some entry) note before
Told facts files Cause before (Event.Resume client entry None answer stored) = AskedFor client (Some entry) before
Told facts files Cause before (Event.GiveBack client what) = Cause
Told facts files Cause before _ = Unit {0}

-- So it is with each of these events, behind that one.
abbrev pub AllTold : Facts → Files → Type 0 → Option Event → List Moment → Type 0
AllTold facts files Cause before [] = Unit {0}
AllTold facts files Cause before (m ∷ moments) = Told facts files Cause before m.event × AllTold facts files Cause (Some m.event) moments

-- ---- lists

module _ (facts : Facts) (files : Files) where
  told-both : (Cause : Type 0) (before : Option Event) (a b : List Moment) → AllTold facts files Cause before a → ((o : Option Event) → AllTold facts files Cause o b) → AllTold facts files Cause before (a ++ b)
  told-both Cause before [] b p q = q before
  told-both Cause before (m ∷ a) b p q = (p.0, told-both Cause (Some m.event) a b p.1 q)

  told-front : (Cause : Type 0) (before : Option Event) (a b : List Moment) → AllTold facts files Cause before (a ++ b) → AllTold facts files Cause before a
  told-front Cause before [] b p = tt
  told-front Cause before (m ∷ a) b p = (p.0, told-front Cause (Some m.event) a b p.1)

  told-one : (Cause : Type 0) (before : Option Event) (m : Moment) (event : Event) → m.event ≡ event → Told facts files Cause before event → Told facts files Cause before m.event
  told-one Cause before m event e t = subst (λ (x : Event). Told facts files Cause before x) (sym e) t

  -- Events by whoever was played, whatever came before.
  abbrev pub IsTold : Type 0 → (List Moment → Type 0) → Type 0
  IsTold Cause Play = (moments : List Moment) → Play moments → (before : Option Event) → AllTold facts files Cause before moments

  told-alone : (Cause : Type 0) (Fact : Moment → Type 0) → ((m : Moment) → Fact m → (before : Option Event) → Told facts files Cause before m.event) → IsTold Cause (Alone Fact)
  told-alone Cause Fact f [] p before = absurd p
  told-alone Cause Fact f (m ∷ []) p before = (f m p before, tt)
  told-alone Cause Fact f (m ∷ n ∷ moments) p before = absurd p

  told-nothing : (Cause : Type 0) → IsTold Cause (λ moments. moments ≡ [])
  told-nothing Cause moments p before = subst (AllTold facts files Cause before) (sym p) tt

  -- ---- a list of things

  module _ {X : Type 0} (client : ℕ) (Play : X → List Moment → Type 0) (Cause : Type 0) (whole : (x : X) → IsTold Cause (Play x)) where
    told-back : Cause → IsTold Cause (GivesBack client)
    told-back cause [] g before = tt
    told-back cause (m ∷ []) g before = (told-one Cause before m (Event.GiveBack client g.0) g.1 cause, tt)
    told-back cause (m ∷ n ∷ moments) g before = absurd g

    told-left : Cause → (x : X) → IsTold Cause (Leaves client (Play x))
    told-left cause x moments l before =
        subst (AllTold facts files Cause before) (sym l.are)
        (told-both Cause before l.front l.back (told-front Cause before l.front l.rest (whole x (l.front ++ l.rest) l.play before)) (told-back cause l.back l.gave))

    module _ (wanting : Bool) (cause : wanting ≡ true → Cause) where
      told-some : (x : X) → IsTold Cause (PlaysOne wanting client Play x)
      told-some x moments p before =
          elim (one-way wanting client Play x moments p) [ inl w ↦ whole x moments w before | inr l ↦ told-left (cause l.cause) x moments l.left before ]

      told-then : (first rest moments : List Moment) → moments ≡ first ++ rest → ((o : Option Event) → AllTold facts files Cause o first) → ((o : Option Event) → AllTold facts files Cause o rest) → (before : Option Event) → AllTold facts files Cause before moments
      told-then first rest moments are f r before = subst (AllTold facts files Cause before) (sym are) (told-both Cause before first rest (f before) r)

      told-all : (xs : List X) → IsTold Cause (PlaysAll wanting client Play xs)
      told-all [] moments p before = told-nothing Cause moments p before
      told-all (x ∷ xs) moments p before = told-then p.first p.rest moments p.are (told-some x p.first p.first_is) (told-all xs p.rest p.rest_is) before

      told-until : Cause → (xs : List X) → IsTold Cause (PlaysUntil wanting client Play xs)
      told-until off [] moments p before = told-nothing Cause moments p before
      told-until off (x ∷ xs) moments p before =
          elim p [
            | inl left ↦ told-left off x moments left before
            | inr t ↦ told-then t.first t.rest moments t.are (told-some x t.first t.first_is) (told-until off xs t.rest t.rest_is) before
          ]

      told-so : (is_off : Bool) → (is_off ≡ true → Cause) → (xs : List X) → IsTold Cause (PlayedSo is_off wanting client Play xs)
      told-so true off xs moments p before = told-until (off refl) xs moments p before
      told-so false off xs moments p before = told-all xs moments p before

-- ---- plays

module _ (basis : Basis) (means : Means) (Cause : Type 0) where
  told-update : (steps : PluginSteps) (client entry : ℕ) (payload : SealedBytes) (board : BoardState) → IsTold basis.facts means.files Cause (StepsPlay steps client entry payload board)
  told-update steps client entry payload board [] p before = absurd p
  told-update steps client entry payload board (m ∷ []) p before = (told-one basis.facts means.files Cause before m (Event.Finish client entry p.0 p.1) p.2 tt, tt)
  told-update steps client entry payload board (m ∷ n ∷ moments) p before = (
    told-one basis.facts means.files Cause before m _ p.1.started_is tt,
    (told-one basis.facts means.files Cause (Some m.event) n _ p.1.ended_is tt, told-update steps client entry payload p.0 moments p.2 (Some n.event)),
  )

  told-after_claim : (client : ℕ) (past : List Event) (answer : ClaimAnswer) → IsTold basis.facts means.files Cause (AfterClaim basis means.plugins client past answer)
  told-after_claim client past (ClaimAnswer.Entry entry) moments p before = told-update (means.plugins p.place) client entry p.payload p.board moments p.plays before
  told-after_claim client past (ClaimAnswer.Kept entry state) moments p before = told-nothing basis.facts means.files Cause moments p before
  told-after_claim client past (ClaimAnswer.Refused refusal) moments p before = told-nothing basis.facts means.files Cause moments p before

  told-claim : (client : ℕ) (request : Request) (blocks : ℕ) (release : ReleaseRef) (moments : List Moment) → ClaimPlays basis means client request release moments
      → AllTold basis.facts means.files Cause (Some (Event.Ask client request None (AskAnswer.Hold blocks release))) moments
  told-claim client request blocks release [] p = absurd p
  told-claim client request blocks release (m ∷ moments) p =
      let before : Option Event = Some (Event.Ask client request None (AskAnswer.Hold blocks release)) in (
        told-one basis.facts means.files Cause before m (Event.Claim client request p.0 p.1) p.2 (record { request = request; blocks = blocks; release = release; asked = refl; fetched = p.3 }),
        told-after_claim client (behind m) p.1 moments p.4 (Some m.event),
      )

  told-after_ask : (client : ℕ) (request : Request) (answer : AskAnswer) (moments : List Moment) → AfterAsk basis means client request answer moments
      → AllTold basis.facts means.files Cause (Some (Event.Ask client request None answer)) moments
  told-after_ask client request (AskAnswer.Hold blocks release) moments p = told-claim client request blocks release moments p
  told-after_ask client request (AskAnswer.Kept entry state) moments p = told-nothing basis.facts means.files Cause moments p (Some (Event.Ask client request None (AskAnswer.Kept entry state)))
  told-after_ask client request (AskAnswer.Refused refusal) moments p = told-nothing basis.facts means.files Cause moments p (Some (Event.Ask client request None (AskAnswer.Refused refusal)))

  told-install : (client : ℕ) (request : Request) → IsTold basis.facts means.files Cause (InstallPlays basis means client request)
  told-install client request [] p before = absurd p
  told-install client request (m ∷ moments) p before = (
    told-one basis.facts means.files Cause before m (Event.Ask client request None p.0) p.1 tt,
    subst (λ (x : Event). AllTold basis.facts means.files Cause (Some x) moments) (sym p.1) (told-after_ask client request p.0 moments p.2),
  )

  told-install_so : (client : ℕ) (request : Request) (offline : Bool) → IsTold basis.facts means.files Cause (λ moments. MatchBool offline (Alone (SchedulePlays client request) moments) (InstallPlays basis means client request moments))
  told-install_so client request true moments p before =
      told-alone basis.facts means.files Cause (SchedulePlays client request) (λ m s o. told-one basis.facts means.files Cause o m (Event.Schedule client request s.0) s.1 tt) moments p before
  told-install_so client request false moments p before = told-install client request moments p before

  told-item : (client : ℕ) (item : Item) → IsTold basis.facts means.files Cause (Plays basis means client item)
  told-item client (Item.Ask query) moments p before =
      told-alone basis.facts means.files Cause (λ m. m.event ≡ Event.Query client query) (λ m s o. told-one basis.facts means.files Cause o m (Event.Query client query) s tt) moments p before
  told-item client (Item.Install request) moments p before = told-install_so client request request.flags.offline moments p before
  told-item client (Item.Settle selector) moments p before =
      told-alone basis.facts means.files Cause _ (λ m s o. elim s [ inl judged ↦ told-one basis.facts means.files Cause o m _ judged.event_is tt | inr asked ↦ told-one basis.facts means.files Cause o m _ asked tt ]) moments p before
  told-item client (Item.Unplug selector) moments p before = told-alone basis.facts means.files Cause _ (λ m s o. told-one basis.facts means.files Cause o m _ s.1 tt) moments p before
  told-item client (Item.Plug selector) moments p before = told-alone basis.facts means.files Cause _ (λ m s o. told-one basis.facts means.files Cause o m _ s.1 tt) moments p before

  -- ---- the daemon's

  told-after_resume : (entry : ℕ) (past : List Event) (answer : ResumeAnswer) → IsTold basis.facts means.files Cause (AfterResume basis means.plugins entry past answer)
  told-after_resume entry past ResumeAnswer.Begun moments p before = told-update (means.plugins p.place) 0 entry p.payload p.board moments p.plays before
  told-after_resume entry past (ResumeAnswer.Refused refusal) moments p before = told-nothing basis.facts means.files Cause moments p before

  told-resumed : (entry : ℕ) (request : Request) (asked : AskAnswer) (note : Option FetchNote) (answer : ResumeAnswer) (stored : Stored) → ResumeFetches basis.facts means.files asked note
      → Told basis.facts means.files Cause (Some (Event.Ask 0 request (Some entry) asked)) (Event.Resume 0 entry note answer stored)
  told-resumed entry request (AskAnswer.Hold blocks release) note answer stored f =
      subst (λ (n : Option FetchNote). Told basis.facts means.files Cause (Some (Event.Ask 0 request (Some entry) (AskAnswer.Hold blocks release))) (Event.Resume 0 entry n answer stored)) (sym f.1)
      (record { request = request; blocks = blocks; release = release; asked = refl; fetched = f.2 })
  told-resumed entry request (AskAnswer.Kept kept state) note answer stored f =
      subst (λ (n : Option FetchNote). Told basis.facts means.files Cause (Some (Event.Ask 0 request (Some entry) (AskAnswer.Kept kept state))) (Event.Resume 0 entry n answer stored)) (sym f)
      (record { request = request; answer = AskAnswer.Kept kept state; asked = refl; no_hold = λ blocks release e. cc })
  told-resumed entry request (AskAnswer.Refused refusal) note answer stored f =
      subst (λ (n : Option FetchNote). Told basis.facts means.files Cause (Some (Event.Ask 0 request (Some entry) (AskAnswer.Refused refusal))) (Event.Resume 0 entry n answer stored)) (sym f)
      (record { request = request; answer = AskAnswer.Refused refusal; asked = refl; no_hold = λ blocks release e. cc })

  told-resume : (entry : ℕ) (request : Request) (asked : AskAnswer) (moments : List Moment) → ResumePlays basis means entry asked moments
      → AllTold basis.facts means.files Cause (Some (Event.Ask 0 request (Some entry) asked)) moments
  told-resume entry request asked [] p = absurd p
  told-resume entry request asked (m ∷ moments) p =
      let before : Option Event = Some (Event.Ask 0 request (Some entry) asked) in (
        told-one basis.facts means.files Cause before m (Event.Resume 0 entry p.0 p.1 p.2) p.3 (told-resumed entry request asked p.0 p.1 p.2 p.4),
        told-after_resume entry (behind m) p.1 moments p.5 (Some m.event),
      )

  told-pending : (entry : ℕ) → IsTold basis.facts means.files Cause (PendingPlays basis means entry)
  told-pending entry [] p before = absurd p
  told-pending entry (m ∷ moments) p before = (
    told-one basis.facts means.files Cause before m (Event.Ask 0 p.0 (Some entry) p.1) p.2 tt,
    subst (λ (x : Event). AllTold basis.facts means.files Cause (Some x) moments) (sym p.2) (told-resume entry p.0 p.1 moments p.3),
  )

  told-task : (task : Task) → IsTold basis.facts means.files Cause (TaskPlays basis means task)
  told-task (ToJudge entry) moments p before = told-alone basis.facts means.files Cause _ (λ m s o. told-one basis.facts means.files Cause o m (Event.Judge 0 entry s.0 s.1 s.2) s.3 tt) moments p before
  told-task (ToResume entry) moments p before = told-pending entry moments p before

-- ---- what was played in a boot

-- Why something was given back.
abbrev pub WasStopped : Bool → Bool → Type 0
WasStopped is_off wanting = (is_off ≡ true) ⊎ (wanting ≡ true)

pub items-told : (basis : Basis) (means : Means) (client : ℕ) (is_off wanting : Bool) (items : List Item) (moments : List Moment) → PlayedSo is_off wanting client (Plays basis means client) items moments
    → AllTold basis.facts means.files (WasStopped is_off wanting) None moments
items-told basis means client is_off wanting items moments p =
    told-so basis.facts means.files client (Plays basis means client) (WasStopped is_off wanting) (told-item basis means (WasStopped is_off wanting) client) wanting (λ w. inr w) is_off (λ o. inl o) items moments p None

pub tasks-told : (basis : Basis) (means : Means) (is_off wanting : Bool) (all : List Task) (moments : List Moment) → PlayedSo is_off wanting 0 (TaskPlays basis means) all moments
    → AllTold basis.facts means.files (WasStopped is_off wanting) None moments
tasks-told basis means is_off wanting all moments p =
    told-so basis.facts means.files 0 (TaskPlays basis means) (WasStopped is_off wanting) (told-task basis means (WasStopped is_off wanting)) wanting (λ w. inr w) is_off (λ o. inl o) all moments p None
