-- What a campaign promises of its log, in the words of the log alone.
use Rattle.std.specs.Prelude.{◌≡◌, ℕ, Bool, List, length}
use Rattle.update_log.specs.declared.event.Event.{Event}
use Rattle.update_log.specs.Pasts.{boots, past_of}
use Rattle.update_log.specs.Shows.{Campaign}
use Rattle.client_scripts.specs.declared.item.Item.{Item}
use Rattle.client_plays.specs.Scripts.{Script}
use Rattle.client_plays.specs.Tools.{Means}

-- So many boots were run, and in each the daemon did its tasks and each client played its script.
-- `wanting` says that memory was wanting, and so something was left; `means` has those of each client.
pub record PlayedBoots (wanting : Bool) (c : Campaign) (means : ℕ → Means) (scripts : List (List (List Item))) (count : ℕ) (log : List Event) : Type 0 where
  pub boots_are : boots (past_of log) ≡ count
  pub played : Script wanting c.basis means scripts log

-- All boots were.
abbrev pub PlayedWhole : Bool → Campaign → (ℕ → Means) → List (List (List Item)) → List Event → Type 0
PlayedWhole wanting c means scripts log = PlayedBoots wanting c means scripts (length c.plans) log
