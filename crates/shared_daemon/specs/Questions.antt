-- Questions that may be asked at any time.
use Rattle.update_log.specs.declared.event.Query.{Query}

-- It isn't to settle a device.
abbrev pub MayAsk : Query → Type 0
MayAsk (Query.Settle selector) = ⊥
MayAsk Query.Devices = Unit {0}
MayAsk (Query.Releases selector) = Unit {0}
MayAsk (Query.Upgrades selector) = Unit {0}
MayAsk Query.History = Unit {0}
MayAsk (Query.Results selector) = Unit {0}
