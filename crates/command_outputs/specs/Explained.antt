-- What `explain` prints of an install at a port.
use Rattle.std.specs.Prelude.{ℕ, suc, false, List, [], ◌∷◌, ◌++◌, codes, Option, Some, None, option_map, option_and_then, slice_get, if◌then◌else◌}
use Rattle.std.specs.Fmt.{decimal}
use Rattle.fw_facts.specs.declared.release.Component.{Component}
use Rattle.fw_facts.specs.declared.requirement.Requirement.{Requirement}
use Rattle.fw_facts.specs.declared.view.DeviceView.{DeviceView}
use Rattle.fw_facts.specs.Views.{guids_of, is_home}
use Rattle.device_list.specs.declared.selector.Selector.TheVariants as selectors
use Rattle.device_list.specs.Lists.{place}
use Rattle.release_catalogue.specs.Lookup.{chosen}
use Rattle.requirements.specs.declared.unmet.UnmetCause.{UnmetCause}
use Rattle.requirements.specs.Requirements.{cause}
use Rattle.update_log.specs.declared.event.Event.{Event}
use Rattle.update_log.specs.declared.facts.Facts.{Facts}
use Rattle.update_log.specs.declared.decision.Decision.{Decision}
use Rattle.update_log.specs.declared.decision.Decision.TheVariants as decisions
use Rattle.update_log.specs.declared.decision.Stage.{Stage}
use Rattle.update_log.specs.declared.request.Request.{Request}
use Rattle.update_log.specs.Known.{basis_of, views}
use Rattle.update_log.specs.Verdicts.{features_for, verdict}
use Rattle.report_text.specs.Refusals.{cause_text, refused_text}
use Rattle.report_text.specs.Lines.{kept_text}

-- ---- the request

-- an install of a version at a port, without flags, that tries no row again; its tag counts for nothing, since there are no rows
abbrev pub asked : List ℕ → List ℕ → Request
asked port version = record {
  tag = port;
  device = selectors.Port port;
  version = version;
  flags = record { offline = false; allow_reinstall = false; allow_older = false };
  retry_of = None;
}

-- ---- its lines

unfoldable pub heading : List ℕ → List ℕ → List ℕ
heading port version = codes "explain " ++ port ++ codes " " ++ version ++ codes "\n"

-- whether a requirement holds, or why it doesn't
abbrev pub met_text : Option UnmetCause → List ℕ
met_text None = codes "holds"
met_text (Some cause) = codes "unmet " ++ cause_text cause

unfoldable pub requirement_line : ℕ → Option UnmetCause → List ℕ
requirement_line index unmet = codes "  " ++ decimal index ++ codes " " ++ met_text unmet ++ codes "\n"

-- a line for each requirement, numbered on from this number
abbrev pub requirement_lines : (Requirement → Option UnmetCause) → ℕ → List Requirement → List ℕ
requirement_lines why index [] = []
requirement_lines why index (requirement ∷ more) = requirement_line index (why requirement) ++ requirement_lines why (suc index) more

-- the component of the release of that version that is found for a device
abbrev pub component_for : Facts → List ℕ → DeviceView → Option Component
component_for facts version view = option_map (λ found. found.component) (chosen facts.catalogue (guids_of view) version)

-- the requirements of a component for a device, under the features of client 1
abbrev pub lines_on : Facts → List DeviceView → DeviceView → Option Component → List ℕ
lines_on facts views view None = []
lines_on facts views view (Some component) =
    requirement_lines (cause facts.machine (features_for facts 1) views view) 0 component.requirements

-- those of the component that is found, where the device is present
abbrev pub lines_at : Facts → List DeviceView → List ℕ → DeviceView → List ℕ
lines_at facts views version view =
    if is_home view.seen then lines_on facts views view (component_for facts version view) else []

-- those for the device of the request, where there is one
abbrev pub lines_if : Facts → List DeviceView → List ℕ → Option DeviceView → List ℕ
lines_if facts views version None = []
lines_if facts views version (Some view) = lines_at facts views version view

abbrev pub lines_for : Facts → List DeviceView → Request → List ℕ
lines_for facts views request =
    lines_if facts views request.version (option_and_then (slice_get views) (place request.device views))

abbrev pub verdict_text : Decision → List ℕ
verdict_text (decisions.Accept device release blocks) = codes "accept"
verdict_text (decisions.Kept entry state) = kept_text entry state
verdict_text (decisions.Refused refusal) = refused_text refusal

unfoldable pub verdict_line : Decision → List ℕ
verdict_line decision = codes "verdict " ++ verdict_text decision ++ codes "\n"

-- ---- the whole

-- the request is judged as an ask of client 1 after this past, before which there were no rows
abbrev pub explained : Facts → List Event → List ℕ → List ℕ → List ℕ
explained facts past port version =
    heading port version ++ lines_for facts (views (basis_of facts []) past) (asked port version)
    ++ verdict_line (verdict (basis_of facts []) past 1 (asked port version) Stage.Ask)
