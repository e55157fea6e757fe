-- The update of a claim that runs.
use Rattle.std.proofs.Common.{◌≡◌, ℕ, List, ap, sym, ◌∙◌}
use Rattle.std.specs.Prelude.{Option, Some, None}
use Rattle.fw_facts.specs.declared.seen.Seen.{Seen}
use Rattle.plugin_trait.specs.Steps.{PluginSteps}
use Rattle.update_log.specs.declared.event.Event.{Event}
use Rattle.update_log.specs.declared.live.LiveEntry.{LiveEntry}
use Rattle.update_log.specs.Known.{Basis, seen}
use Rattle.device_claims.specs.declared.claim.Parts.{Parts}
use Rattle.install_engine.specs.Runs.{ClaimRuns}
use Rattle.client_plays.specs.Plays.{IsOwnPlugin, StepsPlay, UpdatePlays}
use Rattle.client_plays.proofs.WiderLaws.{IsWider}

same-number : (o : Option ℕ) (a b : ℕ) → o ≡ Some a → o ≡ Some b → a ≡ b
same-number o a b x y = let e : Some a ≡ Some b = sym x ∙ y in cc

-- Steps that the plugin of the entry's board makes of the claim are its update.
pub runs-update : (basis : Basis) (first : List Seen) (past : List Event) (plugins : ℕ → PluginSteps) (client place : ℕ) (parts : Parts) (number : ℕ) (l : LiveEntry)
    → ClaimRuns basis first past client parts number l None → IsOwnPlugin basis past parts.entry place
    → IsWider (UpdatePlays basis plugins client parts.entry past) (StepsPlay (plugins place) client parts.entry parts.payload parts.board)
runs-update basis first past plugins client place parts number l r own moments p =
    record {
      place = place;
      own = own;
      board = parts.board;
      shown = r.shown ∙ ap (seen basis past) (same-number _ number own.number r.board_is own.board_is);
      payload = parts.payload;
      digest = r.digest;
      plays = p;
    }
