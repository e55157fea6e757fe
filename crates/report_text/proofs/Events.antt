-- The lines of the events, written one event after the other.
use Rattle.std.proofs.Common.{◌≡◌, ℕ, suc, ◌+◌, ◌<◌, List, ◌∷◌, ◌++◌, length, take, drop, get_or, reverse, Option, sym, ap, subst, ◌∙◌, append_assoc, add-one}
use Rattle.std.proofs.Math.Seq.{drop-cons}
use Rattle.outer_traits.specs.Sinks.{Took, TookFront}
use Rattle.outer_traits.proofs.Fronts.{StillToWrite, took_more, front_first, front_later}
use Rattle.update_log.specs.declared.event.Event.{Event}
use Rattle.report_text.specs.Report.{in_turn}
use Rattle.client_scripts.proofs.Pieces.{newest_first}

-- the lines that are left from an event on are its own and those after it
from_here : (lines : List Event → Event → List ℕ) (log : List Event) (i : ℕ) (event : Event) → i < length log → event ≡ get_or log i event
    → in_turn lines (reverse (take i log)) (drop i log)
    ≡ lines (reverse (take i log)) event ++ in_turn lines (reverse (take (i + 1) log)) (drop (i + 1) log)
from_here lines log i event lt is =
    let here : drop i log ≡ event ∷ drop (i + 1) log =
    rw add-one (drop-cons log i event lt ∙ ap (λ (e : Event). e ∷ drop (suc i) log) (sym is)) in
    ap (in_turn lines (reverse (take i log))) here
    ∙ ap (λ (before : List Event). lines (reverse (take i log)) event ++ in_turn lines before (drop (i + 1) log)) (sym (newest_first log i event lt is))

-- the part of the bytes that is still to be written begins with one piece
still_past : (bytes one two : List ℕ) (a b c : Option (List ℕ)) → StillToWrite bytes (one ++ two) a b → Took one b c → StillToWrite bytes two a c
still_past bytes one two a b c s took = record {
  front = s.front ++ one;
  parts = s.parts ∙ sym (append_assoc s.front one two);
  took = took_more s.front one a b c s.took took;
}

-- an event's lines were written
pub event_written : (bytes : List ℕ) (lines : List Event → Event → List ℕ) (log : List Event) (i : ℕ) (event : Event) (a b c : Option (List ℕ))
    → i < length log → event ≡ get_or log i event
    → StillToWrite bytes (in_turn lines (reverse (take i log)) (drop i log)) a b
    → Took (lines (reverse (take i log)) event) b c
    → StillToWrite bytes (in_turn lines (reverse (take (i + 1) log)) (drop (i + 1) log)) a c
event_written bytes lines log i event a b c lt is s took =
    let P : List ℕ → Type 0 = λ rest. StillToWrite bytes rest a b in
    still_past bytes _ _ a b c (subst P (from_here lines log i event lt is) s) took

-- it stopped in an event's lines
pub event_stopped : (bytes : List ℕ) (lines : List Event → Event → List ℕ) (log : List Event) (i : ℕ) (event : Event) (a b c : Option (List ℕ))
    → i < length log → event ≡ get_or log i event
    → StillToWrite bytes (in_turn lines (reverse (take i log)) (drop i log)) a b
    → TookFront (lines (reverse (take i log)) event) b c
    → TookFront bytes a c
event_stopped bytes lines log i event a b c lt is s stopped =
    let mine : List ℕ = lines (reverse (take i log)) event in
    let later : List ℕ = in_turn lines (reverse (take (i + 1) log)) (drop (i + 1) log) in
    let whole : bytes ≡ s.front ++ (mine ++ later) = s.parts ∙ ap (λ (rest : List ℕ). s.front ++ rest) (from_here lines log i event lt is) in
    rw whole (front_later s.front (mine ++ later) a b c s.took (front_first mine later b c stopped))
