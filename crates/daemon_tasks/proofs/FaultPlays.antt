-- Judgements tell no fault of the daemon's shelf.
use Rattle.std.proofs.Common.{◌≡◌, ℕ, Bool, List, [], ◌∷◌, ◌++◌, map, append-nil, sym, subst}
use Rattle.std.specs.List.{AllByRecursion}
use Rattle.history_keeper.specs.Signs.{KeeperSigns}
use Rattle.update_log.specs.Pasts.{off}
use Rattle.update_log.specs.Known.{Basis}
use Rattle.daemon_core.specs.Housed.{Housed, past}
use Rattle.client_plays.specs.Endings.{HouseWent, SoFar}
use Rattle.client_plays.specs.Faults.{faults_in}
use Rattle.client_plays.specs.Moments.{mine}
use Rattle.client_plays.specs.Plays.{Task, TaskPlays, ToJudge}
use Rattle.client_plays.specs.Tools.{Means}
use Rattle.client_plays.proofs.FaultLaws.{TellsNone, faults-same, quiet-all, quiet-judge, quiet-so}

judge-tells_none : (basis : Basis) (means : Means) (entries : List ℕ) → AllByRecursion (λ task. TellsNone (TaskPlays basis means task)) (map ToJudge entries)
judge-tells_none basis means [] = tt
judge-tells_none basis means (entry ∷ entries) = (quiet-judge basis means entry, judge-tells_none basis means entries)

pub judged-told : {K : Type 0} (signs : KeeperSigns K) (wanting : Bool) (basis : Basis) (means : Means) (entries : List ℕ) (old new : Housed K) → SoFar signs wanting 0 (TaskPlays basis means) (map ToJudge entries) old new → faults_in (mine 0 (past new)) ≡ faults_in (mine 0 (past old))
judged-told signs wanting basis means entries old new s =
    faults-same s.moments (mine 0 (past old)) (mine 0 (past new)) s.did.own
    (quiet-all wanting 0 (TaskPlays basis means) (map ToJudge entries) (judge-tells_none basis means entries) s.moments s.plays)

pub judged-off : {K : Type 0} (signs : KeeperSigns K) (wanting : Bool) (basis : Basis) (means : Means) (entries : List ℕ) (old new : Housed K) → HouseWent signs wanting 0 (TaskPlays basis means) (map ToJudge entries ++ []) old new → faults_in (mine 0 (past new)) ≡ faults_in (mine 0 (past old))
judged-off signs wanting basis means entries old new h =
    faults-same h.went.moments (mine 0 (past old)) (mine 0 (past new)) h.went.did.own
    (quiet-so wanting 0 (TaskPlays basis means) (off (past new)) (map ToJudge entries ++ [])
    (subst (λ (tasks : List Task). AllByRecursion (λ task. TellsNone (TaskPlays basis means task)) tasks) (sym (append-nil (map ToJudge entries))) (judge-tells_none basis means entries))
    h.went.moments h.went.plays)
