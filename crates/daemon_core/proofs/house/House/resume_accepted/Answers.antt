use Rattle.std.proofs.Common.{sym, subst}
use Rattle.std.specs.Prelude.{Some}
use Rattle.daemon_core.specs.declared.fetched.Fetched.{Fetched}
use Rattle.daemon_core.specs.Fetches.{note_of}
use Rattle.daemon_core.specs.Resumes.{IsOpenHold, ResumeGave, ResumeTurned}
use Rattle.daemon_core.proofs.ResumeExits.{broken-fails}
use Rattle.daemon_core.proofs.house.House.resume_accepted.Goals as goal

pub resume_whole-requires-clause-held : goal.resume_whole-requires-clause-held
resume_whole-requires-clause-held g c =
    subst (λ (x : Fetched). IsOpenHold c.args.self.now.house_log c.args.entry c.args.ticket x) c.in-Ok.ensures.whole c.requires.held

pub returns-in-Ok-clause-turn : goal.returns-in-Ok-clause-turn
returns-in-Ok-clause-turn g c =
    subst (λ (x : Fetched). ResumeTurned c.args.entry (Some (note_of x)) c.resume_whole.result c.args.self.now.house_log c.resume_whole.new.self.house_log) (sym c.in-Ok.ensures.whole) c.resume_whole.ensures.turn

pub returns-in-Ok-clause-gave : goal.returns-in-Ok-clause-gave
returns-in-Ok-clause-gave g c =
    subst (λ (x : Fetched). ResumeGave c.args.entry (Some (c.args.ticket, x)) c.resume_whole.result c.args.self.now c.resume_whole.new.self) (sym c.in-Ok.ensures.whole) c.resume_whole.ensures.gave

pub fail-requires-clause-fails : goal.fail-requires-clause-fails
fail-requires-clause-fails g c =
    broken-fails c.args.self.now.house_log c.args.entry c.args.ticket c.in-Err.other c.note.result
    (subst (λ (x : Fetched). IsOpenHold c.args.self.now.house_log c.args.entry c.args.ticket x) (sym c.in-Err.ensures.other.0) c.requires.held)
    c.requires.accepted c.in-Err.ensures.other.1 c.note.ensures

pub returns-in-Err-clause-turn : goal.returns-in-Err-clause-turn
returns-in-Err-clause-turn g c =
    subst (λ (x : Fetched). ResumeTurned c.args.entry (Some (note_of x)) c.fail.result c.args.self.now.house_log c.fail.new.self.house_log) c.in-Err.ensures.other.0 c.fail.ensures.turn

pub returns-in-Err-clause-gave : goal.returns-in-Err-clause-gave
returns-in-Err-clause-gave g c =
    subst (λ (x : Fetched). ResumeGave c.args.entry (Some (c.args.ticket, x)) c.fail.result c.args.self.now c.fail.new.self) c.in-Err.ensures.other.0 c.fail.ensures.gave
