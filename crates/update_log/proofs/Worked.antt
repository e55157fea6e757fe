-- The answers, computed.
use Rattle.std.proofs.Common.{refl}
use Rattle.version_formats.specs.VersionOrder.{sections, version_cmp}
use Rattle.requirements.specs.Requirements.{first_unmet}
use Rattle.release_catalogue.specs.Lookup.{chosen}
use Rattle.update_log.specs.WorkedAnswers.{NeedsReboot, NeedsBootloader, InDoubt, SharedId, AreRefused, AreTriedAgain}
use Rattle.update_log.proofs.WorkedLogs.{old-text}

pub needs-reboot : NeedsReboot
unfolding chosen first_unmet version_cmp sections
needs-reboot = record { closes = refl; refused = refl; kept = refl }

pub needs-bootloader : NeedsBootloader
unfolding chosen first_unmet version_cmp sections
needs-bootloader =
    record { detach = refl; write = refl; unfit = refl; counterpart = refl; stranger = refl; stays_begun = refl }

pub in-doubt : InDoubt
unfolding chosen first_unmet version_cmp sections
in-doubt = record { is_off = refl; kept = refl; lost = rw old-text refl }

pub shared-id : SharedId
unfolding chosen first_unmet version_cmp sections
shared-id =
    record { higher = refl; first_place = refl; second_place = refl; no_more = refl; loser = refl; earlier = refl }

pub are-refused : AreRefused
unfolding chosen first_unmet version_cmp sections
are-refused =
    record { vetoed = rw old-text refl; hindered = refl; size = rw old-text refl; no_room = rw old-text refl; busy = refl }

pub are-tried-again : AreTriedAgain
unfolding chosen first_unmet version_cmp sections
are-tried-again =
    record {
      accepted = rw old-text refl;
      no_row = refl;
      other_device = refl;
      not_failed = refl;
      retried = refl;
      other_release = refl;
      unsettled_first = refl;
      its_own = rw old-text refl;
    }
