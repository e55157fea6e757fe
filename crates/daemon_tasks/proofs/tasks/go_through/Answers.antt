use Rattle.std.proofs.Common.{Bool, ◌≤◌, ◌||◌, List, map, length, subst, sym, [], ◌++◌}
use Rattle.std.specs.Prelude.{filter}
use Rattle.plugin_trait.specs.Steps.{steps_at}
use Rattle.history_keeper.specs.declared.row.Row.{Row}
use Rattle.history_keeper.specs.Signs.{signs_of}
use Rattle.update_log.specs.declared.facts.Facts.{Facts}
use Rattle.offline_updates.specs.Waiting.{is_pending, is_to_judge}
use Rattle.daemon_core.specs.Housed.{basis_in, past, past_in, rows_before}
use Rattle.client_plays.specs.Endings.{HouseWent}
use Rattle.client_plays.specs.Moments.{began, mine}
use Rattle.client_plays.specs.Plays.{Task, TaskPlays, ToResume}
use Rattle.client_plays.specs.Scripts.{tasks}
use Rattle.client_plays.specs.Tools.{files_alone, means_of}
use Rattle.client_plays.proofs.FaultLaws.{told-behind, told-same}
use Rattle.client_plays.proofs.RestLaws.{before-same, still-booted}
use Rattle.client_plays.proofs.WiderLaws.{so_far-wider, task-wider, went-wider}
use Rattle.daemon_tasks.specs.Judged.{to_judge_in, can_judge}
use Rattle.daemon_tasks.proofs.FaultPlays.{judged-off, judged-told}
use Rattle.daemon_tasks.proofs.TaskLists.{all-apart, all-known, all-wait, all-wait_still, none-both, tasks-are, went-both}
use Rattle.daemon_tasks.proofs.Closing.{rest-counted, rest-read}
use Rattle.daemon_tasks.proofs.tasks.go_through.Goals as goal
use Rattle.update_log.specs.Known.{basis_of}

pub judge_all-requires-clause-rows : goal.judge_all-requires-clause-rows
judge_all-requires-clause-rows g c = all-known c.args.house.house_log c.known.ensures.house_log is_to_judge c.args.judged.now c.requires.judged

pub judge_all-requires-clause-apart : goal.judge_all-requires-clause-apart
judge_all-requires-clause-apart g c = all-apart c.args.house.house_log c.known.ensures.house_log is_to_judge c.args.judged.now c.requires.judged

pub resume_waiting-house-requires : goal.resume_waiting-house-requires
resume_waiting-house-requires g c = record {
  -- What was judged, by the log as the boot began: it needs no plugin.
  booted =
      let a = c.args.house.house_log in
      let files = g.P.Shelf.files c.args.shelf.now in
      still-booted (signs_of g.K.Keeper.tells g.K.Keeper.doubt g.K.Keeper.faults) c.in-Through.wanting 0 (TaskPlays (basis_in a) (files_alone files)) (to_judge_in a c.args.judged.now) c.args.house c.judge_all.new.house (c.in-Through.ensures (basis_in a) files).0 c.requires.booted;
  idle = let a = c.args.house.house_log in (c.in-Through.ensures (basis_in a) (g.P.Shelf.files c.args.shelf.now)).0.rest.idle;
  counted =
      let a = c.args.house.house_log in
      rest-counted (signs_of g.K.Keeper.tells g.K.Keeper.doubt g.K.Keeper.faults) c.args.house c.judge_all.new.house (c.in-Through.ensures (basis_in a) (g.P.Shelf.files c.args.shelf.now)).0.rest c.requires.counted;
  read =
      let a = c.args.house.house_log in
      let judged = (c.in-Through.ensures (basis_in a) (g.P.Shelf.files c.args.shelf.now)).0 in
      rest-read (signs_of g.K.Keeper.tells g.K.Keeper.doubt g.K.Keeper.faults) c.args.house c.judge_all.new.house judged.did.grew judged.rest c.requires.read;
  waits =
      let a = c.args.house.house_log in
      let k = c.known.ensures.house_log in
      all-wait_still c.args.judged.now a c.judge_all.new.house.house_log c.args.waiting.now (c.in-Through.ensures (basis_in a) (g.P.Shelf.files c.args.shelf.now)).1
      (none-both a k c.args.judged.now c.args.waiting.now c.requires.judged c.requires.waiting) (all-wait a k c.args.waiting.now c.requires.waiting);
  apart = all-apart c.args.house.house_log c.known.ensures.house_log is_pending c.args.waiting.now c.requires.waiting;
  served =
      let a = c.args.house.house_log in
      subst (λ (f : Facts). length f.vetoes ≤ length c.args.plugins.now) (sym (c.in-Through.ensures (basis_in a) (g.P.Shelf.files c.args.shelf.now)).0.rest.same.facts) c.requires.served;
}

pub returns-in-Through-clause-went : goal.returns-in-Through-clause-went
returns-in-Through-clause-went g c =
    let a = c.args.house.house_log in
    let files = g.P.Shelf.files c.args.shelf.now in
    let means = means_of files (steps_at (λ b. (goal.Plugin-dyn g (b.vtable, b.value)).steps b.value) c.args.plugins.now) in
    let judged = c.in-Through.ensures (basis_in a) files in
    let same = judged.0.rest.same in
    let later = c.judge_all.new.house.house_log in
    let signs = signs_of g.K.Keeper.tells g.K.Keeper.doubt g.K.Keeper.faults in
    let last = c.resume_waiting-house.result.0 in
    let now = c.resume_waiting-house.result.1 in
    subst (λ (w : Bool). HouseWent signs w 0 (TaskPlays (basis_in a) means) (tasks (basis_in a) (began (past c.args.house))) c.args.house last) (sym c.either.ensures)
    (subst (λ (ts : List Task). HouseWent signs (c.in-Through.wanting || now) 0 (TaskPlays (basis_in a) means) ts c.args.house last)
    (sym (tasks-are a c.known.ensures.house_log c.args.judged.now c.args.waiting.now c.requires.fresh c.requires.judged c.requires.waiting))
    (went-both signs (TaskPlays (basis_in a) means) c.in-Through.wanting now (to_judge_in a c.args.judged.now) (map ToResume c.args.waiting.now) c.args.house c.judge_all.new.house last
    (so_far-wider c.in-Through.wanting 0 (TaskPlays (basis_in a) means) (TaskPlays (basis_in a) (files_alone files)) (task-wider (basis_in a) means) signs (to_judge_in a c.args.judged.now) c.args.house c.judge_all.new.house judged.0)
    (subst (λ (o : List Row). HouseWent signs now 0 (TaskPlays (basis_of a.facts o) means) (map ToResume c.args.waiting.now) c.judge_all.new.house last) (before-same a later same)
    (subst (λ (f : Facts). HouseWent signs now 0 (TaskPlays (basis_of f (rows_before later)) means) (map ToResume c.args.waiting.now) c.judge_all.new.house last) same.facts c.resume_waiting-house.ensures.went))))

pub returns-in-Off-clause-went : goal.returns-in-Off-clause-went
returns-in-Off-clause-went g c =
    let a = c.args.house.house_log in
    let files = g.P.Shelf.files c.args.shelf.now in
    let means = means_of files (steps_at (λ b. (goal.Plugin-dyn g (b.vtable, b.value)).steps b.value) c.args.plugins.now) in
    let all = to_judge_in a c.args.judged.now ++ map ToResume c.args.waiting.now in
    subst (λ (ts : List Task). HouseWent (signs_of g.K.Keeper.tells g.K.Keeper.doubt g.K.Keeper.faults) c.in-Off.wanting 0 (TaskPlays (basis_in a) means) ts c.args.house c.judge_all.new.house)
    (sym (tasks-are a c.known.ensures.house_log c.args.judged.now c.args.waiting.now c.requires.fresh c.requires.judged c.requires.waiting))
    (went-wider c.in-Off.wanting 0 (TaskPlays (basis_in a) means) (TaskPlays (basis_in a) (files_alone files)) (task-wider (basis_in a) means) (signs_of g.K.Keeper.tells g.K.Keeper.doubt g.K.Keeper.faults) all c.args.house c.judge_all.new.house
    (c.in-Off.ensures (basis_in a) files (map ToResume c.args.waiting.now)))

pub returns-in-Through-clause-told : goal.returns-in-Through-clause-told
returns-in-Through-clause-told g c =
    let a = c.args.house.house_log in
    let files = g.P.Shelf.files c.args.shelf.now in
    told-behind (mine 0 (past c.args.house)) (mine 0 (past c.judge_all.new.house)) (mine 0 (past c.resume_waiting-house.result.0)) (g.P.Shelf.faults c.args.shelf.now) (g.P.Shelf.faults c.resume_waiting-house.new.shelf)
    (judged-told (signs_of g.K.Keeper.tells g.K.Keeper.doubt g.K.Keeper.faults) c.in-Through.wanting (basis_in a) (files_alone files) (filter (can_judge (basis_in a) (past_in a)) c.args.judged.now) c.args.house c.judge_all.new.house (c.in-Through.ensures (basis_in a) files).0)
    c.resume_waiting-house.ensures.told c.resume_waiting-house.ensures.counts

pub returns-in-Off-clause-told : goal.returns-in-Off-clause-told
returns-in-Off-clause-told g c =
    let a = c.args.house.house_log in
    let files = g.P.Shelf.files c.args.shelf.now in
    told-same (mine 0 (past c.args.house)) (mine 0 (past c.judge_all.new.house)) (g.P.Shelf.faults c.args.shelf.now)
    (judged-off (signs_of g.K.Keeper.tells g.K.Keeper.doubt g.K.Keeper.faults) c.in-Off.wanting (basis_in a) (files_alone files) (filter (can_judge (basis_in a) (past_in a)) c.args.judged.now) c.args.house c.judge_all.new.house (c.in-Off.ensures (basis_in a) files []))
