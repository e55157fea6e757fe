use Rattle.std.proofs.Common.{◌≡◌, true, false, refl, sym, ◌∙◌, arith}
use Rattle.update_log.specs.Pasts.{time_of}
use Rattle.daemon_core.specs.Housed.{basis_in, past_in}
use Rattle.daemon_core.proofs.HouseLogKept.{boots-same, legal-next}
use Rattle.daemon_core.proofs.LogLaws.{time-same}
use Rattle.daemon_core.proofs.house_log.HouseLog.note.Goals as goal

pub append-requires : goal.append-requires
append-requires c = (
  refl,
  (
    legal-next (basis_in c.args.self.now) c.args.self.now.first (past_in c.args.self.now) c.args.event c.known.ensures.legal c.requires.takes c.requires.allowed,
    (
      c.requires.made,
      (
        c.requires.room,
        (
          c.requires.row,
          (
            λ h. let e : true ≡ false = sym c.requires.loaded ∙ h in cc,
            (
              (let e = boots-same (past_in c.args.self.now) c.args.event c.requires.no_boot in let f = c.known.ensures.few_boots in omega (arith, e, f)),
              (let e = time-same c.args.event (time_of (past_in c.args.self.now)) c.requires.no_boot in let f = c.known.ensures.timely in omega (arith, e, f)),
            ),
          ),
        ),
      ),
    ),
  ),
)
