-- Plays that are also plays of a wider kind, and those without a plugin.
use Rattle.std.proofs.Common.{ℕ, Bool, true, false, List, [], ◌∷◌, inl, inr}
use Rattle.std.specs.Prelude.{MatchBool, Result, ⊤}
use Rattle.block_pool.specs.Views.{SealedBytes}
use Rattle.emulated_boards.specs.Boards.{BoardState}
use Rattle.emulated_boards.specs.declared.fault.BoardFault.{BoardFault}
use Rattle.plugin_trait.specs.Steps.{PluginSteps, no_steps}
use Rattle.history_keeper.specs.Signs.{KeeperSigns}
use Rattle.update_log.specs.declared.answer.AskAnswer.{AskAnswer}
use Rattle.update_log.specs.declared.answer.ClaimAnswer.{ClaimAnswer}
use Rattle.update_log.specs.declared.answer.ResumeAnswer.{ResumeAnswer}
use Rattle.update_log.specs.declared.event.Event.{Event}
use Rattle.update_log.specs.declared.event.Op.{Op}
use Rattle.update_log.specs.declared.request.Request.{Request}
use Rattle.release_catalogue.specs.declared.reference.ReleaseRef.{ReleaseRef}
use Rattle.daemon_core.specs.Housed.{Housed}
use Rattle.device_claims.specs.Claims.{StepGives}
use Rattle.client_scripts.specs.declared.item.Item.{Item}
use Rattle.client_plays.specs.declared.played.Played.{Played}
use Rattle.client_plays.specs.Endings.{EndsSo, HouseWent, SoFar}
use Rattle.client_plays.specs.Left.{LeavesUntaken}
use Rattle.client_plays.specs.Moments.{Moment, behind}
use Rattle.client_plays.specs.Plays.{AfterAsk, AfterClaim, AfterResume, Alone, ClaimPlays, InstallPlays, Leaves, Plays, ResumePlays, SchedulePlays, StepsPlay, Task, TaskPlays, ToJudge, ToResume, UpdatePlays}
use Rattle.client_plays.specs.Scripts.{PlayedSo, PlaysAll, PlaysOne, PlaysUntil}
use Rattle.client_plays.specs.Tools.{Means, files_alone}
use Rattle.update_log.specs.Known.{Basis}

-- One kind of play is wider than another.
abbrev pub IsWider : (List Moment → Type 0) → (List Moment → Type 0) → Type 0
IsWider Wide Play = (moments : List Moment) → Play moments → Wide moments

pub leaves-wider : (client : ℕ) (Wide Play : List Moment → Type 0) → IsWider Wide Play → IsWider (Leaves client Wide) (Leaves client Play)
leaves-wider client Wide Play w moments l =
    record {
      front = l.front;
      rest = l.rest;
      back = l.back;
      play = w _ l.play;
      gave = l.gave;
      are = l.are;
    }

untaken-wider : (client : ℕ) (Wide Play : List Moment → Type 0) → IsWider Wide Play → IsWider (LeavesUntaken client Wide) (LeavesUntaken client Play)
untaken-wider client Wide Play w moments l = record { left = leaves-wider client Wide Play w moments l.left; untaken = l.untaken }

pub ends-wider : (played : Played) (client : ℕ) (Wide Play : List Moment → Type 0) (new : List Event) → IsWider Wide Play → IsWider (EndsSo played client Wide new) (EndsSo played client Play new)
ends-wider Played.Done client Wide Play new w moments e = w moments e
ends-wider Played.Off client Wide Play new w moments e = (leaves-wider client Wide Play w moments e.0, e.1)
ends-wider Played.NoMemory client Wide Play new w moments e = untaken-wider client Wide Play w moments e

-- ---- lists of things

module _ {X : Type 0} (wanting : Bool) (client : ℕ) (Wide Play : X → List Moment → Type 0) (w : (x : X) → IsWider (Wide x) (Play x)) where
  one-wider : (b : Bool) (x : X) → IsWider (PlaysOne b client Wide x) (PlaysOne b client Play x)
  one-wider true x moments p =
      elim p [ inl whole ↦ inl (w x moments whole) | inr left ↦ inr (untaken-wider client (Wide x) (Play x) (w x) moments left) ]
  one-wider false x moments p = w x moments p

  pub all-wider : (xs : List X) → IsWider (PlaysAll wanting client Wide xs) (PlaysAll wanting client Play xs)
  all-wider [] moments p = p
  all-wider (x ∷ xs) moments p =
      record {
        first = p.first;
        rest = p.rest;
        are = p.are;
        first_is = one-wider wanting x p.first p.first_is;
        rest_is = all-wider xs p.rest p.rest_is;
      }

  until-wider : (xs : List X) → IsWider (PlaysUntil wanting client Wide xs) (PlaysUntil wanting client Play xs)
  until-wider [] moments p = p
  until-wider (x ∷ xs) moments p =
      elim p [
        | inl left ↦ inl (leaves-wider client (Wide x) (Play x) (w x) moments left)
        | inr t ↦
            inr (record {
              first = t.first;
              rest = t.rest;
              are = t.are;
              first_is = one-wider wanting x t.first t.first_is;
              rest_is = until-wider xs t.rest t.rest_is;
            })
      ]

  so-wider : (is_off : Bool) (xs : List X) → IsWider (PlayedSo is_off wanting client Wide xs) (PlayedSo is_off wanting client Play xs)
  so-wider true xs moments p = until-wider xs moments p
  so-wider false xs moments p = all-wider xs moments p

  pub went-wider : {K : Type 0} (signs : KeeperSigns K) (xs : List X) (old new : Housed K) → HouseWent signs wanting client Play xs old new → HouseWent signs wanting client Wide xs old new
  went-wider signs xs old new h =
      record {
        went = record { moments = h.went.moments; did = h.went.did; plays = so-wider _ xs h.went.moments h.went.plays };
        rest = h.rest;
      }

  pub so_far-wider : {K : Type 0} (signs : KeeperSigns K) (xs : List X) (old new : Housed K) → SoFar signs wanting client Play xs old new → SoFar signs wanting client Wide xs old new
  so_far-wider signs xs old new s =
      record { moments = s.moments; did = s.did; plays = all-wider xs s.moments s.plays; rest = s.rest }

-- ---- plays without a plugin

-- No step was made, so it is one of any plugin.
none-made : (op : Op) (entry : ℕ) (payload : SealedBytes) (was is : BoardState) (answer : Result ⊤ BoardFault) → StepGives no_steps op entry payload was answer is → ⊥
none-made Op.Prepare entry payload was is answer s = s
none-made _ entry payload was is answer s = s

steps-wider : (steps : PluginSteps) (client entry : ℕ) (payload : SealedBytes) (board : BoardState) → IsWider (StepsPlay steps client entry payload board) (StepsPlay no_steps client entry payload board)
steps-wider steps client entry payload board [] p = p
steps-wider steps client entry payload board (m ∷ []) p = p
steps-wider steps client entry payload board (m ∷ n ∷ moments) p = absurd (none-made p.1.op entry payload board p.0 p.1.outcome p.1.made)

module _ (basis : Basis) (means : Means) where
  update-wider : (client entry : ℕ) (taken : List Event) → IsWider (UpdatePlays basis means.plugins client entry taken) (UpdatePlays basis (λ place. no_steps) client entry taken)
  update-wider client entry taken moments p =
      record {
        place = p.place;
        own = p.own;
        board = p.board;
        shown = p.shown;
        payload = p.payload;
        digest = p.digest;
        plays = steps-wider (means.plugins p.place) client entry p.payload p.board moments p.plays;
      }

  after_claim-wider : (client : ℕ) (past : List Event) (answer : ClaimAnswer) → IsWider (AfterClaim basis means.plugins client past answer) (AfterClaim basis (λ place. no_steps) client past answer)
  after_claim-wider client past (ClaimAnswer.Entry entry) moments p = update-wider client entry past moments p
  after_claim-wider client past (ClaimAnswer.Kept entry state) moments p = p
  after_claim-wider client past (ClaimAnswer.Refused refusal) moments p = p

  pub claim-wider : (client : ℕ) (request : Request) (release : ReleaseRef) → IsWider (ClaimPlays basis means client request release) (ClaimPlays basis (files_alone means.files) client request release)
  claim-wider client request release [] p = p
  claim-wider client request release (m ∷ moments) p = (p.0, p.1, p.2, p.3, after_claim-wider client (behind m) p.1 moments p.4)

  after_ask-wider : (client : ℕ) (request : Request) (answer : AskAnswer) → IsWider (AfterAsk basis means client request answer) (AfterAsk basis (files_alone means.files) client request answer)
  after_ask-wider client request (AskAnswer.Hold blocks release) moments p = claim-wider client request release moments p
  after_ask-wider client request (AskAnswer.Kept entry state) moments p = p
  after_ask-wider client request (AskAnswer.Refused refusal) moments p = p

  install-wider : (client : ℕ) (request : Request) → IsWider (InstallPlays basis means client request) (InstallPlays basis (files_alone means.files) client request)
  install-wider client request [] p = p
  install-wider client request (m ∷ moments) p = (p.0, p.1, after_ask-wider client request p.0 moments p.2)

  put_off-wider : (client : ℕ) (request : Request) (offline : Bool) (moments : List Moment)
      → MatchBool offline (Alone (SchedulePlays client request) moments) (InstallPlays basis (files_alone means.files) client request moments)
      → MatchBool offline (Alone (SchedulePlays client request) moments) (InstallPlays basis means client request moments)
  put_off-wider client request true moments p = p
  put_off-wider client request false moments p = install-wider client request moments p

  pub item-wider : (client : ℕ) (item : Item) → IsWider (Plays basis means client item) (Plays basis (files_alone means.files) client item)
  item-wider client (Item.Install request) moments p = put_off-wider client request request.flags.offline moments p
  item-wider client _ moments p = p

  after_resume-wider : (entry : ℕ) (past : List Event) (answer : ResumeAnswer) → IsWider (AfterResume basis means.plugins entry past answer) (AfterResume basis (λ place. no_steps) entry past answer)
  after_resume-wider entry past ResumeAnswer.Begun moments p = update-wider 0 entry past moments p
  after_resume-wider entry past (ResumeAnswer.Refused refusal) moments p = p

  resume-wider : (entry : ℕ) (asked : AskAnswer) → IsWider (ResumePlays basis means entry asked) (ResumePlays basis (files_alone means.files) entry asked)
  resume-wider entry asked [] p = p
  resume-wider entry asked (m ∷ moments) p = (p.0, p.1, p.2, p.3, p.4, after_resume-wider entry (behind m) p.1 moments p.5)

  pub task-wider : (task : Task) → IsWider (TaskPlays basis means task) (TaskPlays basis (files_alone means.files) task)
  task-wider (ToJudge entry) moments p = p
  task-wider (ToResume entry) [] p = p
  task-wider (ToResume entry) (m ∷ moments) p = (p.0, p.1, p.2, resume-wider entry p.1 moments p.3)
