-- How an install goes where nothing fails, told of the device alone as it was when the entry was taken.
use Rattle.std.specs.Prelude.{ℕ, Bool, false, ◌||◌, ◌&&◌, List, [], Ok, if◌then◌else◌}
use Rattle.std.specs.List.{fold, list_any}
use Rattle.version_formats.specs.Formats.{render}
use Rattle.version_formats.specs.VersionOrder.{same_version}
use Rattle.version_formats.specs.declared.format.Format.{Format}
use Rattle.fw_facts.specs.declared.flags.DeviceFlag.{DeviceFlag}
use Rattle.fw_facts.specs.declared.release.Component.{Component}
use Rattle.fw_facts.specs.declared.seen.Seen.{Seen}
use Rattle.fw_facts.specs.declared.view.DeviceView.{DeviceView}
use Rattle.fw_facts.specs.Flags.{has_flag}
use Rattle.fw_facts.specs.Views.{flags_of, is_home}
use Rattle.release_catalogue.specs.Lookup.{provides}
use Rattle.std.specs.Str.{bytes_eq}
use Rattle.update_log.specs.declared.event.Op.{Op}
use Rattle.update_log.specs.declared.trace.Trace.{Trace}
use Rattle.update_log.specs.Steps.{all_ops, mode_of, next_step, waits_for_boot, with_step}
use Rattle.update_plans.specs.declared.course.Course.{Course}
use Rattle.update_plans.specs.Plans.{is_next, shown_after}

-- The trace with which an entry begins, for a release of the component.
abbrev pub fits_side : List (List ℕ) → Component → DeviceView → Bool
fits_side side component view = provides side component || list_any (λ guid. list_any (bytes_eq guid) side) view.sheet.counterparts

abbrev pub trace_begun : DeviceView → Component → Trace
trace_begun view component =
    record {
      flags = flags_of view;
      mode = mode_of view.seen;
      runtime_fits = fits_side view.sheet.runtime_guids component view;
      loader_fits = fits_side view.sheet.loader_guids component view;
      steps = [];
    }

-- With one step more, and with it where it is the next one.
abbrev pub shows_next : ℕ → Course → Op → Seen
shows_next raw course op = shown_after op (has_flag DeviceFlag.NeedsReboot course.trace.flags) raw course.seen

abbrev pub course_with : ℕ → Course → Op → Course
course_with raw course op =
    record {
      trace = with_step (record { op = op; outcome = Ok tt; seen = shows_next raw course op }) course.trace;
      seen = shows_next raw course op;
    }

abbrev pub course_step : ℕ → Course → Op → Course
course_step raw course op = if is_next (next_step course.trace) op then course_with raw course op else course

-- The whole course.
unfoldable pub course_of : Trace → Seen → ℕ → Course
course_of first seen raw = fold (course_step raw) (record { trace = first; seen = seen }) all_ops

-- The port shows the version.
abbrev pub shows_version : Format → List ℕ → Seen → Bool
shows_version format version (Seen.Home raw mode) = same_version (render format raw) version
shows_version format version Seen.Gone = false
shows_version format version Seen.Stranger = false

-- It ends as a success, or waits for a boot.
abbrev pub ends_so : Format → List ℕ → Course → Bool
ends_so format version course =
    is_home course.seen && (waits_for_boot course.trace || shows_version format version course.seen)

abbrev pub ends_well : DeviceView → Component → List ℕ → ℕ → Bool
ends_well view component version raw = ends_so view.sheet.format version (course_of (trace_begun view component) view.seen raw)
