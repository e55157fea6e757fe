-- What a fetch gives of a hold.
use Rattle.std.proofs.Common.{◌≡◌, ℕ, ◌≤◌, ◌*◌, length, sym, ◌∙◌, subst, arith}
use Rattle.std.specs.Prelude.{Option, Some}
use Rattle.update_log.specs.declared.facts.Facts.{Facts}
use Rattle.update_log.specs.declared.live.Held.{Held}
use Rattle.update_log.specs.declared.request.Request.{Request}
use Rattle.update_log.specs.Holding.{blocks_of}
use Rattle.daemon_core.specs.declared.fetched.Fetched.{Fetched}
use Rattle.daemon_core.specs.declared.hold.Hold.{Hold}
use Rattle.daemon_core.specs.declared.hold.Ticket.{Ticket}
use Rattle.daemon_core.specs.Fetches.{IsFetchOf, block_count}
use Rattle.daemon_core.specs.Holds.{IsHoldFor, held_by}
use Rattle.install_engine.specs.Answers.{IfWhole}

-- As many blocks as a size takes are enough for it.
pub sized-enough : (size count : ℕ) → count ≡ blocks_of size → size ≤ 4096 * count
sized-enough size count e = omega arith

-- A whole payload is that of the hold's release.
pub fetched-whole : (facts : Facts) (client : ℕ) (request : Request) (pending : Option ℕ) (given : Hold) (ticket : Ticket) (fetched : Fetched) → IsHoldFor facts client request pending given → ticket ≡ given.ticket
    → IfWhole fetched (λ payload. payload.digest ≡ given.digest) → IfWhole fetched (λ payload. length payload.bytes ≡ given.size) → IsFetchOf facts ticket.release fetched
fetched-whole facts client request pending given ticket fetched h t d s =
    subst (λ (x : Ticket). IsFetchOf facts x.release fetched) (sym t) (by fetched d s)
  where
    by : (fetched : Fetched) → IfWhole fetched (λ payload. payload.digest ≡ given.digest) → IfWhole fetched (λ payload. length payload.bytes ≡ given.size) → IsFetchOf facts given.ticket.release fetched
    by (Fetched.Whole payload) d s = record { release = h.release; there = h.release_at; digest_is = d ∙ h.digest_is; size_is = s ∙ h.size_is }
    by (Fetched.Missing blocks) d s = tt
    by (Fetched.Length found blocks) d s = tt
    by (Fetched.Mismatch found blocks) d s = tt
    by (Fetched.ShelfFault blocks) d s = tt

-- What is out stays out.
pub still-held : (given : Hold) (ticket : Ticket) (fetched : Fetched) (out : Option Held) → ticket ≡ given.ticket → block_count fetched ≡ given.blocks.count → out ≡ Some (held_by given.ticket given.blocks.count) → out ≡ Some (held_by ticket (block_count fetched))
still-held given ticket fetched out t b h =
    subst (λ (x : Ticket). out ≡ Some (held_by x (block_count fetched))) (sym t)
    (subst (λ (n : ℕ). out ≡ Some (held_by given.ticket n)) (sym b) h)
