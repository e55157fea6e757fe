-- A claim over what other clients put behind the log.
use Rattle.std.proofs.Common.{◌≡◌, ℕ, List, [], ap, sym, ◌∙◌}
use Rattle.std.specs.Prelude.{Option, Some, option_and_then, option_map, unwrap_or}
use Rattle.fw_facts.specs.declared.seen.Seen.{Seen}
use Rattle.history_keeper.specs.Histories.{IsHistory}
use Rattle.history_keeper.specs.declared.row.Row.{Row}
use Rattle.update_log.specs.declared.event.Event.{Event}
use Rattle.update_log.specs.declared.event.Op.{Op}
use Rattle.update_log.specs.declared.live.LiveEntry.{LiveEntry}
use Rattle.update_log.specs.Boards.{board_with}
use Rattle.update_log.specs.Holding.{live_entry, step_open}
use Rattle.update_log.specs.Known.{Basis, board_of, row_of, rows}
use Rattle.update_log.specs.Steps.{trace}
use Rattle.daemon_core.proofs.ClaimEnds.{own-board}
use Rattle.daemon_core.proofs.PlacesKept.{SameOfBoard}
use Rattle.daemon_core.specs.HouseLog.{IsLegalSo}
use Rattle.daemon_core.specs.Fetches.{raw_number}
use Rattle.device_claims.specs.declared.claim.Parts.{Parts}
use Rattle.install_engine.specs.Runs.{ClaimRuns}
use Rattle.install_engine.proofs.RunBoards.{SameOut, out-same}
use Rattle.install_engine.proofs.RunTaken.{alone-so}

-- Two pasts say the same of a live entry, and of its board.
pub record SameRun (basis : Basis) (first : List Seen) (past other : List Event) (entry number : ℕ) (l : LiveEntry) : Type 0 where
  pub live : live_entry other entry ≡ Some l
  pub step : step_open other entry ≡ step_open past entry
  pub traced : trace basis entry other ≡ trace basis entry past
  pub row : row_of (rows basis other) entry ≡ row_of (rows basis past) entry
  pub board : SameOfBoard basis first past other number

out-of : (basis : Basis) (first : List Seen) (past other : List Event) (number : ℕ) → SameOfBoard basis first past other number → SameOut basis first past other number
out-of basis first past other number s = record { told_same = s.told; before = s.before; began = s.began; raws = s.raws; faults = s.faults }

-- So what is known of a claim stays.
pub claim-stays : (basis : Basis) (first : List Seen) (past other : List Event) (client : ℕ) (parts : Parts) (number : ℕ) (l : LiveEntry) (running : Option Op) → IsHistory basis.opening → IsLegalSo basis first other
    → SameRun basis first past other parts.entry number l → ClaimRuns basis first past client parts number l running → ClaimRuns basis first other client parts number l running
claim-stays basis first past other client parts number l running valid legal s k =
    let board : board_of basis.facts (rows basis other) parts.entry ≡ Some number = ap (λ (o : Option Row). option_and_then (λ r. board_with basis.facts r.device) o) s.row ∙ k.board_is in
    record {
      live = s.live;
      client_is = k.client_is;
      blocks_are = k.blocks_are;
      open_is = s.step ∙ k.open_is;
      board_is = board;
      opened = s.board.opened ∙ k.opened;
      alone = λ on. alone-so basis first other parts.entry number l valid legal on s.live (own-board basis.facts (rows basis other) parts.entry number board);
      stands = out-same basis first past other number parts.board [] (out-of basis first past other number s.board) k.stands;
      shown = k.shown ∙ sym s.board.seen;
      traced = s.traced ∙ k.traced;
      digest = ap (λ (o : Option Row). unwrap_or (option_map (λ r. r.digest) o) []) s.row ∙ k.digest;
      raw = s.board.raws parts.entry (raw_number parts.payload) k.raw;
    }
